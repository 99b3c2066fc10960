use Rattle.std.proofs.Common.{◌≡◌, ℕ, ◌+◌, ◌<◌, ◌≤◌, List, [], ◌∷◌, ◌++◌, length, take, get_or, sym, subst, ◌∙◌, arith}
use Rattle.std.proofs.lemmas.List.{get_or-map, length-map, take_all}
use Rattle.std.proofs.lemmas.List.Elements.{Contains-get_or}
use Rattle.std.specs.List.{zip}
use Rattle.geos_model.specs.declared.handle.VmHandle.{VmHandle}
use Rattle.geos_model.specs.Pieces.{BranchPiece}
use Rattle.geos_model.specs.LargeLayout.{branch_bytes}
use Rattle.large_bodies.specs.SizedElements.{SizedElements}
use Rattle.vm_chains.specs.Numbers.{numbers}
use Rattle.large_arrays.specs.HandleLists.{old_handles}
use Rattle.large_arrays.specs.ChangePlans.{ArePlanned, ArePlannedByHandle, IsUntouched, piece_bodies}
use Rattle.large_arrays.specs.WindowPlans.{IsHome}
use Rattle.large_arrays.proofs.PieceHomes.{one_more, untouched, zip-many}
use Rattle.large_arrays.proofs.piece_plans.plan_pieces.Goals as goal

-- the bodies with one more, by what was read of its handle and its piece
next : (size : ℕ) (handles : List VmHandle) (ps : List BranchPiece) (k h : ℕ) (piece : SizedElements) (bodies : List (ℕ × List ℕ)) → length handles ≡ length ps → k < length handles
    → get_or (numbers handles) k 0 ≡ h → piece ≡ record { size = size; elements = get_or ps k [] }
    → (bodies ++ piece_bodies size (take k (zip (numbers handles) ps))) ++ (h, branch_bytes piece.size piece.elements) ∷ [] ≡ bodies ++ piece_bodies size (take (k + 1) (zip (numbers handles) ps))
next size handles ps k h piece bodies many low at is =
    let long = length-map handles (λ (x : VmHandle). x.0) in
    (λ j. (bodies ++ piece_bodies size (take k (zip (numbers handles) ps))) ++ (sym at j, branch_bytes (is j).size (is j).elements) ∷ [])
    ∙ one_more size (numbers handles) ps (omega (arith, long, many)) k (omega (arith, long, low)) bodies

pub loop-k-preserved : goal.loop-k-preserved
loop-k-preserved c =
    let handles = c.args.handles.now in let hs = numbers handles in let g = c.args.gathered.now in let ps = g.pieces.pieces in let size = g.pieces.size in let k = c.loop-k.k in
    let low : k < length handles = omega arith in
    let long = length-map handles (λ (x : VmHandle). x.0) in
    let many = c.requires.many in
    let within : k < length hs = omega (arith, long, low) in
    let same : length hs ≡ length ps = omega (arith, long, many) in
    let olds = old_handles g.olds.items in
    let at = get_or-map (λ (x : VmHandle). x.0) handles k _ 0 low in
    record {
      planned = λ d freed bodies before all homes apart others.
          subst (λ (bs : List (ℕ × List ℕ)). ArePlanned c.plan_piece.new.changes.items d freed bs)
          (next size handles ps k _ c.get.result.now bodies many low at c.get.ensures)
          (c.in_ok-plan_piece.ensures.planned d freed (bodies ++ piece_bodies size (take k (zip hs ps)))
          (c.loop-k.invariant.planned d freed bodies before all homes apart others) all
          (subst (IsHome d olds) at (homes.each (get_or hs k 0) (Contains-get_or hs k 0 within)))
          (subst (IsUntouched freed (bodies ++ piece_bodies size (take k (zip hs ps)))) at (untouched size hs ps same k within freed bodies homes.once apart others)));
      listed = λ d freed bodies before all homes apart others.
          subst (λ (bs : List (ℕ × List ℕ)). ArePlannedByHandle c.plan_piece.new.changes.items d freed bs)
          (next size handles ps k _ c.get.result.now bodies many low at c.get.ensures)
          (c.in_ok-plan_piece.ensures.listed d freed (bodies ++ piece_bodies size (take k (zip hs ps)))
          (c.loop-k.invariant.listed d freed bodies before all homes apart others) all
          (subst (IsHome d olds) at (homes.each (get_or hs k 0) (Contains-get_or hs k 0 within)))
          (subst (IsUntouched freed (bodies ++ piece_bodies size (take k (zip hs ps)))) at (untouched size hs ps same k within freed bodies homes.once apart others)));
      more = (let before = c.loop-k.invariant.more in let one = c.in_ok-plan_piece.ensures.more in omega arith);
    }

-- all of them
whole : (handles : List VmHandle) (ps : List BranchPiece) (k : ℕ) → length handles ≡ length ps → length handles ≤ k → take k (zip (numbers handles) ps) ≡ zip (numbers handles) ps
whole handles ps k many past =
    let long = length-map handles (λ (x : VmHandle). x.0) in
    let zipped = zip-many (numbers handles) ps (omega (arith, long, many)) in
    take_all k (zip (numbers handles) ps) (omega (arith, long, zipped, past))

pub returns-clause-planned : goal.returns-clause-planned
returns-clause-planned c = λ d freed bodies before all homes apart others.
    subst (λ (qs : List (ℕ × BranchPiece)). ArePlanned c.loop-k.changes.items d freed (bodies ++ piece_bodies c.args.gathered.now.pieces.size qs))
    (whole c.args.handles.now c.args.gathered.now.pieces.pieces c.loop-k.k c.requires.many (omega arith))
    (c.loop-k.invariant.planned d freed bodies before all homes apart others)

pub returns-clause-listed : goal.returns-clause-listed
returns-clause-listed c = λ d freed bodies before all homes apart others.
    subst (λ (qs : List (ℕ × BranchPiece)). ArePlannedByHandle c.loop-k.changes.items d freed (bodies ++ piece_bodies c.args.gathered.now.pieces.size qs))
    (whole c.args.handles.now c.args.gathered.now.pieces.pieces c.loop-k.k c.requires.many (omega arith))
    (c.loop-k.invariant.listed d freed bodies before all homes apart others)
