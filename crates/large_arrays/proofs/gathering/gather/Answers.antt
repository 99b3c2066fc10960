use Rattle.std.proofs.Common.{◌≡◌, ◌∙◌, ◌⊎◌, ◌+◌, ◌≤◌, ℕ, true, false, List, Vec, Global, Result, Ok, Err, IfErr, length, sym, ap, subst, inl, inr, arith}
use Rattle.std.specs.List.{All}
use Rattle.geos_model.specs.Document.{Document}
use Rattle.geos_model.specs.Heap.{capacity}
use Rattle.geos_model.specs.declared.fault.Fault.{Fault}
use Rattle.geos_model.specs.declared.fault.Fault.TheVariants.{BadChain, Memory}
use Rattle.vm_blocks.specs.Keeping.{IsEnvironmentFault}
use Rattle.vm_blocks.proofs.KeepingLaws.{keeps-trans, keeps-steady, lacks-memory}
use Rattle.vm_chains.proofs.Loading.{carried, carried_so, still_room}
use Rattle.vm_chains.specs.Walking.{Stops}
use Rattle.geos_model.specs.LargeBlocks.{root_at, pieces_at}
use Rattle.geos_model.specs.LargeWindow.{looked_at, are_branches}
use Rattle.large_arrays.specs.Bodies.{AreBodies, are_raw, bytes_of_bodies}
use Rattle.large_arrays.specs.Gathering.{IsGatheredWindow}
use Rattle.large_arrays.specs.LookedBranches.{HaveBodies, links_between, left_links, right_links}
use Rattle.large_arrays.specs.Middle.{are_there, run_branches, run_links}
use Rattle.large_arrays.specs.Spots.{link_handles}
use Rattle.large_arrays.specs.declared.spot.BranchLink.{BranchLink}
use Rattle.large_arrays.proofs.CopiedNeighbours.{raw-later, bodies-later, stops-later, refused-later}
use Rattle.large_arrays.proofs.GatherSteps.{stops-lacking, short-bodies, looked-raw, run-not_raw, run-not_there, neighbour-not_raw, all-looked}
use Rattle.large_arrays.proofs.RunSpots.{has-links, run-same}
use Rattle.large_arrays.proofs.gathering.gather.Goals as goal

stops_so : (lacks : Fault → Type 0) (X Y : Type 0) (fault : Fault) → (X → Y) → Stops lacks X fault → Stops lacks Y fault
stops_so lacks X Y fault so (inl lack) = inl lack
stops_so lacks X Y fault so (inr bad) = inr (bad.0, so bad.1)

stops_lacking : (lacks : Fault → Type 0) (X Y : Type 0) (fault : Fault) → lacks Memory → (X → Y) → Stops (λ fault. fault ≡ Memory) X fault → Stops lacks Y fault
stops_lacking lacks X Y fault memory so (inl is) = inl (subst lacks (sym is) memory)
stops_lacking lacks X Y fault memory so (inr bad) = inr (bad.0, so bad.1)

lacking_so : (lacks : Fault → Type 0) (fault : Fault) → lacks Memory → (fault ≡ Memory) ⊎ (fault ≡ BadChain) → lacks fault ⊎ (fault ≡ BadChain)
lacking_so lacks fault memory (inl is) = inl (subst lacks (sym is) memory)
lacking_so lacks fault memory (inr bad) = inr bad

lacking_any : {A : Type 0} (lacks : Fault → Type 0) (r : Result A Fault) → lacks Memory → IfErr r (λ fault. (fault ≡ Memory) ⊎ (fault ≡ BadChain)) → IfErr r (λ fault. lacks fault ⊎ (fault ≡ BadChain))
lacking_any lacks (Ok x) memory is = tt
lacking_any lacks (Err fault) memory is = lacking_so lacks fault memory is

pub overflow_add-next : goal.overflow_add-next
overflow_add-next g c = (let run = has-links c.args.spot.now c.requires.run in let last = run.last in omega arith)

pub links_between-links-requires : goal.links_between-links-requires
links_between-links-requires g c =
    let run = has-links c.args.spot.now c.requires.run in
    let first = run.first in
    let order = run.order in
    let last = run.last in
    let links = run.links in
    record { first = omega arith; order = omega arith; within = omega arith }

pub middle_of-requires : goal.middle_of-requires
middle_of-requires g c =
    let s = c.args.spot.now in
    let links : c.links_between-links.result.now ≡ run_links s = c.links_between-links.ensures ∙ run-same s in
    let items = c.as_slice.ensures.value in record {
      run = c.requires.run;
      many = c.as_slice.ensures.len ∙ c.in_ok-copied.ensures.many ∙ ap (λ (ls : List BranchLink). length ls) links;
      short = subst (λ (vs : List (Vec ℕ Global)). All (λ body. length body ≤ capacity) (bytes_of_bodies vs)) (sym items) c.in_ok-copied.ensures.short;
      size = c.requires.size;
    }

pub looked_sides-looked-requires : goal.looked_sides-looked-requires
looked_sides-looked-requires g c = has-links c.args.spot.now c.requires.run

pub with_neighbours-requires : goal.with_neighbours-requires
with_neighbours-requires g c = record {
  room = still_room g.S.Store.facts c.args.blocks.now c.copy_bodies.new.blocks c.copy_bodies.ensures.keeps c.requires.room;
  run = has-links c.args.spot.now c.requires.run;
  there = c.looked_sides-looked.ensures.there;
}

pub put_together-requires : goal.put_together-requires
put_together-requires g c =
    let s = c.args.spot.now in
    let same = c.in_ok-bodies.ensures.same in
    let links = ap (λ (ls : List BranchLink). length ls) c.links_between-links.ensures in
    let long = c.in_ok-copied.copied.ok.0 in
    let counted = c.in_ok-copied.ensures.many in
    let many : length c.in_ok-copied.copied.items ≡ length (links_between s s.start.0 (s.end.0 + 1)) = omega arith in record {
      run = has-links s c.requires.run;
      there = c.looked_sides-looked.ensures.there;
      bodies = record {
        left = c.in_ok-bodies.ensures.left;
        run =
            subst (λ (v : Vec (Vec ℕ Global) Global). HaveBodies (links_between s s.start.0 (s.end.0 + 1)) v.items) (sym same) (record {
              many = many;
              short = short-bodies c.in_ok-copied.copied.items c.in_ok-copied.ensures.short;
            });
        right = c.in_ok-bodies.ensures.right;
      };
      size = c.in_ok-middle.ensures.size;
      head = c.in_ok-middle.ensures.small.0;
      tail = c.in_ok-middle.ensures.small.1;
    }

pub returns-in_err-copied-clause-value : goal.returns-in_err-copied-clause-value
returns-in_err-copied-clause-value g c = λ honest i j is order.
    let s = c.args.spot.now in
    let b : ℕ = c.args.root.0 in
    let e = c.copy_bodies.new.blocks in
    let fault = c.in_err-copied.field-0.0 in
    carried c.from_residual.result fault _ _ c.from_residual.ensures.1
    (stops_so (IsEnvironmentFault g.S.Store.facts c.args.blocks.now.disk.store e.disk.store) (are_raw e.document (link_handles c.links_between-links.result.now) ≡ false)
    (are_branches e.document b (root_at e.document b) (looked_at (root_at e.document b).size (pieces_at e.document (root_at e.document b)) i j c.args.new.now.elements) ≡ false) fault
    (λ none. run-not_raw e.document b i j c.args.new.now.elements s (has-links s c.requires.run) is order
    (ap (λ (ls : List BranchLink). are_raw e.document (link_handles ls)) (sym c.links_between-links.ensures) ∙ none))
    (c.in_err-copied.ensures.value honest))

pub returns-in_err-middle-clause-value : goal.returns-in_err-middle-clause-value
returns-in_err-middle-clause-value g c = λ honest i j is order.
    let s = c.args.spot.now in
    let b : ℕ = c.args.root.0 in
    let e = c.copy_bodies.new.blocks in
    let d : Document = e.document in
    let fault = c.in_err-middle.field-0.0 in
    let links : c.links_between-links.result.now ≡ run_links s = c.links_between-links.ensures ∙ run-same s in
    let copied : AreBodies d (link_handles (run_links s)) (bytes_of_bodies c.as_slice.result.now) =
    subst (λ (vs : List (Vec ℕ Global)). AreBodies d (link_handles (run_links s)) (bytes_of_bodies vs)) (sym c.as_slice.ensures.value)
    (subst (λ (ls : List BranchLink). AreBodies d (link_handles ls) (bytes_of_bodies c.in_ok-copied.copied.items)) links (c.in_ok-copied.ensures.value honest)) in
    carried c.from_residual-in_err-middle.result fault _ _ c.from_residual-in_err-middle.ensures.1
    (stops_lacking (IsEnvironmentFault g.S.Store.facts c.args.blocks.now.disk.store e.disk.store) (are_there d (root_at d b) (run_branches s) ≡ false)
    (are_branches d b (root_at d b) (looked_at (root_at d b).size (pieces_at d (root_at d b)) i j c.args.new.now.elements) ≡ false) fault
    (lacks-memory g.S.Store.facts c.args.blocks.now.disk.store e.disk.store)
    (run-not_there d b i j c.args.new.now.elements s (has-links s c.requires.run) is order)
    (c.in_err-middle.ensures.value d b i j is copied))

pub returns-in_err-middle-clause-refusals : goal.returns-in_err-middle-clause-refusals
returns-in_err-middle-clause-refusals g c =
    carried_so c.from_residual-in_err-middle.result c.in_err-middle.field-0.0 _ c.from_residual-in_err-middle.ensures.1
    (lacking_so (IsEnvironmentFault g.S.Store.facts c.args.blocks.now.disk.store c.copy_bodies.new.blocks.disk.store) c.in_err-middle.field-0.0
    (lacks-memory g.S.Store.facts c.args.blocks.now.disk.store c.copy_bodies.new.blocks.disk.store) c.in_err-middle.ensures.refusals)

pub returns-in_err-bodies-clause-keeps : goal.returns-in_err-bodies-clause-keeps
returns-in_err-bodies-clause-keeps g c =
    keeps-trans g.S.Store.facts c.args.blocks.now c.copy_bodies.new.blocks c.with_neighbours.new.blocks c.copy_bodies.ensures.keeps c.with_neighbours.ensures.keeps

pub returns-in_err-bodies-clause-value : goal.returns-in_err-bodies-clause-value
returns-in_err-bodies-clause-value g c = λ honest i j is order.
    let s = c.args.spot.now in
    let b : ℕ = c.args.root.0 in
    let f = g.S.Store.facts in
    let a = c.args.blocks.now in
    let e = c.copy_bodies.new.blocks in
    let z = c.with_neighbours.new.blocks in
    let d : Document = z.document in
    let first = c.copy_bodies.ensures.keeps in
    let second = c.with_neighbours.ensures.keeps in
    let run = has-links s c.requires.run in
    let looked = c.looked_sides-looked.result in
    let fault = c.in_err-bodies.field-0.0 in
    let links : c.links_between-links.result.now ≡ run_links s = c.links_between-links.ensures ∙ run-same s in
    let copied : AreBodies d (link_handles (run_links s)) (bytes_of_bodies c.as_slice.result.now) =
    subst (λ (vs : List (Vec ℕ Global)). AreBodies d (link_handles (run_links s)) (bytes_of_bodies vs)) (sym c.as_slice.ensures.value)
    (subst (λ (ls : List BranchLink). AreBodies d (link_handles ls) (bytes_of_bodies c.in_ok-copied.copied.items)) links
    (bodies-later f a e z first second honest (link_handles c.links_between-links.result.now) (bytes_of_bodies c.in_ok-copied.copied.items) (c.in_ok-copied.ensures.value honest))) in
    let made = c.in_ok-middle.ensures.value d b i j is copied in
    carried c.from_residual-in_err-bodies.result fault _ _ c.from_residual-in_err-bodies.ensures.1
    (stops-later f a e z first second
    ((are_raw d (link_handles (left_links s looked)) ≡ false) ⊎ (are_raw d (link_handles (right_links s looked)) ≡ false))
    (are_branches d b (root_at d b) (looked_at (root_at d b).size (pieces_at d (root_at d b)) i j c.args.new.now.elements) ≡ false) fault
    (neighbour-not_raw d b i j c.args.new.now.elements s run is order looked c.looked_sides-looked.ensures.there c.in_ok-middle.middle c.middle_ends.result made.1 c.middle_ends.ensures
    c.looked_sides-looked.ensures.value)
    (c.in_err-bodies.ensures.value (keeps-steady f a e first honest)))

pub returns-in_err-bodies-clause-refusals : goal.returns-in_err-bodies-clause-refusals
returns-in_err-bodies-clause-refusals g c =
    carried_so c.from_residual-in_err-bodies.result c.in_err-bodies.field-0.0 _ c.from_residual-in_err-bodies.ensures.1
    (refused-later g.S.Store.facts c.args.blocks.now c.copy_bodies.new.blocks c.with_neighbours.new.blocks c.copy_bodies.ensures.keeps c.with_neighbours.ensures.keeps c.in_err-bodies.field-0.0
    c.in_err-bodies.ensures.refusals)

pub returns-clause-keeps : goal.returns-clause-keeps
returns-clause-keeps g c =
    keeps-trans g.S.Store.facts c.args.blocks.now c.copy_bodies.new.blocks c.with_neighbours.new.blocks c.copy_bodies.ensures.keeps c.with_neighbours.ensures.keeps

pub returns-clause-value : goal.returns-clause-value
returns-clause-value g c = λ honest i j is order.
    let s = c.args.spot.now in
    let b : ℕ = c.args.root.0 in
    let new = c.args.new.now.elements in
    let f = g.S.Store.facts in
    let a = c.args.blocks.now in
    let e = c.copy_bodies.new.blocks in
    let z = c.with_neighbours.new.blocks in
    let d : Document = z.document in
    let first = c.copy_bodies.ensures.keeps in
    let second = c.with_neighbours.ensures.keeps in
    let looked = c.looked_sides-looked.result in
    let links : c.links_between-links.result.now ≡ run_links s = c.links_between-links.ensures ∙ run-same s in
    let here : AreBodies d (link_handles c.links_between-links.result.now) (bytes_of_bodies c.in_ok-copied.copied.items) =
    bodies-later f a e z first second honest (link_handles c.links_between-links.result.now) (bytes_of_bodies c.in_ok-copied.copied.items) (c.in_ok-copied.ensures.value honest) in
    let copied : AreBodies d (link_handles (run_links s)) (bytes_of_bodies c.as_slice.result.now) =
    subst (λ (vs : List (Vec ℕ Global)). AreBodies d (link_handles (run_links s)) (bytes_of_bodies vs)) (sym c.as_slice.ensures.value)
    (subst (λ (ls : List BranchLink). AreBodies d (link_handles ls) (bytes_of_bodies c.in_ok-copied.copied.items)) links here) in
    let mid : AreBodies d (link_handles (links_between s s.start.0 (s.end.0 + 1))) (bytes_of_bodies c.in_ok-copied.copied.items) =
    subst (λ (ls : List BranchLink). AreBodies d (link_handles ls) (bytes_of_bodies c.in_ok-copied.copied.items)) c.links_between-links.ensures here in
    let made = c.in_ok-middle.ensures.value d b i j is copied in
    let beside = c.in_ok-bodies.ensures.value (keeps-steady f a e first honest) in
    let are =
    all-looked d b i j new s (has-links s c.requires.run) is order looked c.looked_sides-looked.ensures.there c.in_ok-middle.middle c.middle_ends.result made.1 c.middle_ends.ensures
    c.looked_sides-looked.ensures.value made.0 c.in_ok-bodies.bodies c.in_ok-copied.copied c.in_ok-bodies.ensures.same beside.0 mid beside.1 in
    stops-lacking (IsEnvironmentFault f a.disk.store z.disk.store) (IsGatheredWindow d b i j new)
    (are_branches d b (root_at d b) (looked_at (root_at d b).size (pieces_at d (root_at d b)) i j new) ≡ false) c.put_together.result
    (lacks-memory f a.disk.store z.disk.store) (c.put_together.ensures.value d i j new are)

pub returns-clause-listed : goal.returns-clause-listed
returns-clause-listed g c =
    let s = c.args.spot.now in
    let e = c.copy_bodies.new.blocks in
    let z = c.with_neighbours.new.blocks in
    let mid : are_raw z.document (link_handles (links_between s s.start.0 (s.end.0 + 1))) ≡ true =
    raw-later g.S.Store.facts c.args.blocks.now e z c.copy_bodies.ensures.keeps c.with_neighbours.ensures.keeps (link_handles (links_between s s.start.0 (s.end.0 + 1)))
    (ap (λ (ls : List BranchLink). are_raw e.document (link_handles ls)) (sym c.links_between-links.ensures) ∙ c.in_ok-copied.ensures.raw) in
    c.put_together.ensures.listed z.document
    (looked-raw z.document s c.looked_sides-looked.result (has-links s c.requires.run) c.looked_sides-looked.ensures.there c.in_ok-bodies.ensures.raw.0 mid c.in_ok-bodies.ensures.raw.1)

pub returns-clause-refusals : goal.returns-clause-refusals
returns-clause-refusals g c =
    lacking_any (IsEnvironmentFault g.S.Store.facts c.args.blocks.now.disk.store c.with_neighbours.new.blocks.disk.store) c.put_together.result
    (lacks-memory g.S.Store.facts c.args.blocks.now.disk.store c.with_neighbours.new.blocks.disk.store) c.put_together.ensures.refusals
