use Rattle.std.proofs.Common.{◌≡◌, ◌∙◌, nat_le, ℕ, true, false, List, ◌∷◌, refl, sym, ap, ap₂, inl, inr, arith}
use Rattle.std.proofs.lemmas.Grind.{common_steps}
use Rattle.geos_model.specs.ElementArray.{all_distinct}
use Rattle.geos_model.specs.declared.fault.Fault.{Fault}
use Rattle.geos_model.specs.declared.fault.Fault.TheVariants.{Memory}
use Rattle.vm_chains.specs.Walking.{Stops}
use Rattle.vm_chains.proofs.Loading.{carried}
use Rattle.geos_model.specs.Pieces.{piece_weight}
use Rattle.geos_model.specs.Spread.{middle}
use Rattle.large_bodies.specs.SizedElements.{SizedPieces}
use Rattle.geos_model.specs.LargeBlocks.{root_at, pieces_at}
use Rattle.large_arrays.specs.LookedBranches.{first_with, behind_with, links_between}
use Rattle.large_bodies.specs.Neighbours.{ends_of}
use Rattle.large_arrays.specs.Spots.{link_handles}
use Rattle.large_arrays.specs.declared.gathered.Gathered.{Gathered}
use Rattle.large_arrays.specs.declared.spot.BranchLink.{BranchLink}
use Rattle.large_arrays.specs.declared.staying.StayingBytes.{StayingBytes}
use Rattle.large_arrays.specs.WindowParts.{staying_pairs}
use Rattle.large_arrays.proofs.SpotPieces.{piece-spot}
use Rattle.large_arrays.proofs.JoinedWindow.{looked-twice, neighbour-missing, neighbours-are}
use Rattle.large_arrays.proofs.WindowGathered.{IsPut, put-gathered, put-listed}
use Rattle.large_arrays.proofs.joining.put_together.Goals as goal

stops_so : (lacks : Fault → Type 0) (X Y : Type 0) (fault : Fault) → (X → Y) → Stops lacks X fault → Stops lacks Y fault
stops_so lacks X Y fault so (inl lack) = inl lack
stops_so lacks X Y fault so (inr bad) = inr (bad.0, so bad.1)

pub returns-then-not-branch-clause-value : goal.returns-then-not-branch-clause-value
returns-then-not-branch-clause-value c = λ d i j new are.
    let s = c.args.spot.now in
    let b : ℕ = c.args.root.0 in
    let looked = c.args.looked in
    let links : c.links_between-links.result.now ≡ links_between s (first_with s looked) (behind_with s looked) =
    c.links_between-links.ensures ∙ ap₂ (λ (x y : ℕ). links_between s x y) c.first_with.ensures c.behind_with.ensures in
    let none : c.in_ok-are_distinct.field-0 ≡ false = first_of (cc, grind (arith, common_steps)) in
    let twice : all_distinct (b ∷ link_handles (links_between s (first_with s looked) (behind_with s looked))) ≡ false =
    ap (λ (ls : List BranchLink). all_distinct (b ∷ link_handles ls)) (sym links) ∙ sym c.in_ok-are_distinct.ensures ∙ none in
    inr (refl, looked-twice d b i j new s looked c.requires.run c.requires.there are.spot are.order are.left are.right twice)

pub returns-in_err-neighbours-clause-value : goal.returns-in_err-neighbours-clause-value
returns-in_err-neighbours-clause-value c = λ d i j new are.
    carried c.from_residual-in_err-neighbours.result c.in_err-neighbours.field-0.0 _ _ c.from_residual-in_err-neighbours.ensures.1
    (stops_so (λ fault. fault ≡ Memory) _ _ c.in_err-neighbours.field-0.0
    (neighbour-missing d c.args.root.0 i j new c.args.spot.now c.args.looked c.requires.run c.requires.there are.spot are.order are.left are.right c.args.bodies are.left_bodies are.right_bodies)
    c.in_err-neighbours.ensures)

abbrev gathered : goal.In_ok-window_bodies → Gathered
gathered c = record {
  first = c.first_with-first.result;
  olds = c.in_ok-olds.olds;
  bodies = c.in_ok-window_bodies.field-0;
  pieces = c.in_ok-pieces.pieces;
  head = nat_le c.args.middle.tail c.args.middle.head;
}

put : (c : goal.In_ok-window_bodies)
    → IsPut c.args.root.0 c.args.spot.now c.args.middle c.args.looked c.sides_joined-joined.result c.args.bodies c.in_ok-neighbours.neighbours (gathered c)
put c =
    let s = c.args.spot.now in
    let b : ℕ = c.args.root.0 in
    let looked = c.args.looked in
    let links : c.links_between-links.result.now ≡ links_between s (first_with s looked) (behind_with s looked) =
    c.links_between-links.ensures ∙ ap₂ (λ (x y : ℕ). links_between s x y) c.first_with.ensures c.behind_with.ensures in
    let kept : StayingBytes = record {
      left = piece_weight c.in_ok-neighbours.neighbours.left.size c.in_ok-neighbours.neighbours.left.elements;
      head = c.args.middle.head;
      tail = c.args.middle.tail;
      right = piece_weight c.in_ok-neighbours.neighbours.right.size c.in_ok-neighbours.neighbours.right.elements;
    } in
    let all : c.in_ok-are_distinct.field-0 ≡ true = first_of (cc, grind (arith, common_steps)) in
    record {
      run = c.requires.run;
      there = c.requires.there;
      among = c.sides_joined-joined.ensures.among;
      have = c.requires.bodies;
      once = ap (λ (ls : List BranchLink). all_distinct (b ∷ link_handles ls)) (sym links) ∙ sym c.in_ok-are_distinct.ensures ∙ all;
      reads = c.in_ok-neighbours.ensures;
      first = c.first_with-first.ensures;
      olds =
          c.in_ok-olds.ensures
          ∙ ap (λ (w : StayingBytes). staying_pairs (link_handles c.links_between-replaced.result.now) c.first_with-first.result s.start.0 s.end.0 w) c.staying_in-staying.ensures
          ∙ ap (λ (ls : List BranchLink). staying_pairs (link_handles ls) c.first_with-first.result s.start.0 s.end.0 kept) c.links_between-replaced.ensures
          ∙ ap₂ (λ (x y : ℕ). staying_pairs (link_handles (links_between s x y)) x s.start.0 s.end.0 kept) c.first_with-first.ensures c.behind_with-2.ensures;
      copied = c.in_ok-window_bodies.ensures;
      pieces = c.in_ok-pieces.ensures;
      head = refl;
    }

pub returns-clause-value : goal.returns-clause-value
returns-clause-value c = λ d i j new are.
    let s = c.args.spot.now in
    let b : ℕ = c.args.root.0 in
    let m = c.args.middle in
    let looked = c.args.looked in
    let joined = c.sides_joined-joined.result in
    let neighbours = c.in_ok-neighbours.neighbours in
    let ps = pieces_at d (root_at d b) in
    let ends : c.middle_ends.result ≡ ends_of s.size (middle s.size ps i j new) =
    c.middle_ends.ensures ∙ ap (λ (p : SizedPieces). ends_of p.size p.pieces) are.middle.pieces ∙ ap (λ (n : ℕ). ends_of n (middle n ps i j new)) (sym are.spot.size) in
    let beside =
    neighbours-are d b i j new s looked c.requires.run c.requires.there are.spot are.order are.left are.right c.args.bodies are.left_bodies are.right_bodies neighbours c.in_ok-neighbours.ensures in
    let joins = c.sides_joined-joined.ensures.value ps i j new (piece-spot d b i j s c.requires.run are.spot are.order) ends beside in
    put-gathered b s m looked joined c.args.bodies neighbours (gathered c) (put c) d i j new are joins.0 joins.1

pub returns-clause-listed : goal.returns-clause-listed
returns-clause-listed c = λ d raw.
    put-listed c.args.root.0 c.args.spot.now c.args.middle c.args.looked c.sides_joined-joined.result c.args.bodies c.in_ok-neighbours.neighbours (gathered c) (put c) d raw
