use Rattle.std.proofs.Common.{◌≡◌, ◌≤◌, ◌+◌, ◌-◌, ◌++◌, ℕ, true, List, length, take, drop, sym, ap, ap₂, ◌∙◌, arith, length-drop}
use Rattle.std.proofs.lemmas.List.{length-take-le}
use Rattle.geos_model.specs.Array.{Array, is_even}
use Rattle.geos_model.proofs.Arrays.{joined}
use Rattle.geos_model.specs.Pieces.{BranchPiece, piece_weight, branch_room}
use Rattle.large_bodies.specs.SizedElements.{SizedElements, have_size}
use Rattle.large_bodies.specs.ElementLengths.{kept_lengths}
use Rattle.large_bodies.specs.PieceKeeping.{held_elements, KeepsElements}
use Rattle.large_bodies.specs.declared.piece.Piece.TheInside.{Inside}
use Rattle.large_bodies.proofs.PieceLemmas.{Grown, grown, run-sized}
use Rattle.large_bodies.proofs.piece.Piece.push_run.Goals as goal

abbrev run_of : Array → ℕ → ℕ → BranchPiece
run_of a from to = take (to - from) (drop from a.elements)

larger : (p : Inside) (v : SizedElements) (a : Array) (from to : ℕ) (lengths bytes : List ℕ) → held_elements p ≡ v → KeepsElements p → is_even a ≡ true → a.size ≡ v.size
    → from ≤ to → to ≤ length a.elements → piece_weight v.size v.elements + piece_weight v.size (run_of a from to) ≤ branch_room
    → lengths ≡ p.lengths.items ++ kept_lengths a.size (run_of a from to) → bytes ≡ p.bytes.items ++ joined (run_of a from to)
    → Grown p.size (p.count + (to - from)) lengths bytes v (run_of a from to)
larger p v a from to lengths bytes is keeps even same order within room longer row =
    let left = length-drop from a.elements in
    let long : length (run_of a from to) ≡ to - from = length-take-le (to - from) (drop from a.elements) (omega arith) in
    grown p v (p.count + (to - from)) lengths bytes (run_of a from to) is keeps
    (ap (λ (n : ℕ). have_size n (run_of a from to)) (sym same) ∙ run-sized a from (to - from) even) room
    (ap (λ (n : ℕ). p.count + n) (sym long))
    (longer ∙ ap (λ (n : ℕ). p.lengths.items ++ kept_lengths n (run_of a from to)) same) row

pub overflow_add-self : goal.overflow_add-self
overflow_add-self c =
    let few = (larger c.self.inside c.args.self.now c.args.view.now.array c.args.from c.args.to c.push_lengths.new.lengths.items c.extend_from_slice.new.self.items
    c.self.view_is c.self.invariant c.args.view.now.even c.requires.size c.requires.order c.requires.within c.requires.room c.in_ok-push_lengths.ensures
    (c.in_ok-extend_from_slice.ensures.items ∙ ap₂ (λ (xs ys : List ℕ). xs ++ ys) c.in_ok-reserve.ensures.items c.run-run.ensures)).few in
    omega arith

pub invariant_of-self-2 : goal.invariant_of-self-2
invariant_of-self-2 c =
    (larger c.self.inside c.args.self.now c.args.view.now.array c.args.from c.args.to c.push_lengths.new.lengths.items c.extend_from_slice.new.self.items
    c.self.view_is c.self.invariant c.args.view.now.even c.requires.size c.requires.order c.requires.within c.requires.room c.in_ok-push_lengths.ensures
    (c.in_ok-extend_from_slice.ensures.items ∙ ap₂ (λ (xs ys : List ℕ). xs ++ ys) c.in_ok-reserve.ensures.items c.run-run.ensures)).keeps

pub returns : goal.returns
returns c =
    (larger c.self.inside c.args.self.now c.args.view.now.array c.args.from c.args.to c.push_lengths.new.lengths.items c.extend_from_slice.new.self.items
    c.self.view_is c.self.invariant c.args.view.now.even c.requires.size c.requires.order c.requires.within c.requires.room c.in_ok-push_lengths.ensures
    (c.in_ok-extend_from_slice.ensures.items ∙ ap₂ (λ (xs ys : List ℕ). xs ++ ys) c.in_ok-reserve.ensures.items c.run-run.ensures)).is
