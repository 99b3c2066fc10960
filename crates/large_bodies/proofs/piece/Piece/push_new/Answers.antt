use Rattle.std.proofs.Common.{◌≡◌, ◌≤◌, ◌+◌, ◌++◌, ℕ, true, List, length, sym, ap, ap₂, ◌∙◌, arith}
use Rattle.geos_model.proofs.Arrays.{joined}
use Rattle.geos_model.specs.Pieces.{piece_weight, branch_room}
use Rattle.large_bodies.specs.SizedElements.{SizedElements, have_size}
use Rattle.large_bodies.specs.ElementLengths.{kept_lengths}
use Rattle.large_bodies.specs.PieceKeeping.{held_elements, KeepsElements}
use Rattle.large_bodies.specs.declared.piece.Piece.TheInside.{Inside}
use Rattle.large_bodies.proofs.PieceLemmas.{Grown, grown}
use Rattle.large_bodies.proofs.piece.Piece.push_new.Goals as goal

larger : (p : Inside) (v w : SizedElements) (count : ℕ) (lengths bytes : List ℕ) → held_elements p ≡ v → KeepsElements p → w.size ≡ v.size
    → piece_weight v.size v.elements + piece_weight v.size w.elements ≤ branch_room → have_size w.size w.elements ≡ true → count ≡ length w.elements
    → lengths ≡ p.lengths.items ++ kept_lengths w.size w.elements → bytes ≡ p.bytes.items ++ joined w.elements
    → Grown p.size (p.count + count) lengths bytes v w.elements
larger p v w count lengths bytes is keeps same room sized counted longer row =
    grown p v (p.count + count) lengths bytes w.elements is keeps (ap (λ (n : ℕ). have_size n w.elements) (sym same) ∙ sized) room
    (ap (λ (n : ℕ). p.count + n) counted)
    (longer ∙ ap (λ (n : ℕ). p.lengths.items ++ kept_lengths n w.elements) same) row

pub overflow_add-self : goal.overflow_add-self
overflow_add-self c =
    let few = (larger c.self.inside c.args.self.now c.args.new.now c.count.result c.push_new_length.new.lengths.items c.extend_from_slice.new.self.items
    c.self.view_is c.self.invariant c.requires.size c.requires.room c.count.ensures.sized c.count.ensures.value c.in_ok-push_new_length.ensures
    (c.in_ok-extend_from_slice.ensures.items ∙ ap₂ (λ (xs ys : List ℕ). xs ++ ys) c.in_ok-reserve.ensures.items c.bytes-bytes.ensures.value)).few in
    omega arith

pub invariant_of-self-2 : goal.invariant_of-self-2
invariant_of-self-2 c =
    (larger c.self.inside c.args.self.now c.args.new.now c.count.result c.push_new_length.new.lengths.items c.extend_from_slice.new.self.items
    c.self.view_is c.self.invariant c.requires.size c.requires.room c.count.ensures.sized c.count.ensures.value c.in_ok-push_new_length.ensures
    (c.in_ok-extend_from_slice.ensures.items ∙ ap₂ (λ (xs ys : List ℕ). xs ++ ys) c.in_ok-reserve.ensures.items c.bytes-bytes.ensures.value)).keeps

pub returns : goal.returns
returns c =
    (larger c.self.inside c.args.self.now c.args.new.now c.count.result c.push_new_length.new.lengths.items c.extend_from_slice.new.self.items
    c.self.view_is c.self.invariant c.requires.size c.requires.room c.count.ensures.sized c.count.ensures.value c.in_ok-push_new_length.ensures
    (c.in_ok-extend_from_slice.ensures.items ∙ ap₂ (λ (xs ys : List ℕ). xs ++ ys) c.in_ok-reserve.ensures.items c.bytes-bytes.ensures.value)).is
