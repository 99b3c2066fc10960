use Rattle.std.proofs.Common.{◌≡◌, ◌≤◌, ◌+◌, ◌++◌, ℕ, List, sym, ap, ap₂, ◌∙◌, arith}
use Rattle.geos_model.specs.Pieces.{piece_weight, branch_room}
use Rattle.large_bodies.specs.SizedElements.{SizedElements, have_size}
use Rattle.large_bodies.specs.ElementLengths.{kept_lengths}
use Rattle.large_bodies.specs.PieceKeeping.{held_elements, KeepsElements}
use Rattle.large_bodies.specs.declared.piece.Piece.TheInside.{Inside}
use Rattle.large_bodies.proofs.PieceLemmas.{Grown, grown, held-are}
use Rattle.large_bodies.proofs.piece.Piece.append.Goals as goal

larger : (p q : Inside) (v w : SizedElements) (lengths bytes : List ℕ) → held_elements p ≡ v → KeepsElements p → held_elements q ≡ w → KeepsElements q → w.size ≡ v.size
    → piece_weight v.size v.elements + piece_weight v.size w.elements ≤ branch_room → lengths ≡ p.lengths.items ++ q.lengths.items → bytes ≡ p.bytes.items ++ q.bytes.items
    → Grown p.size (p.count + q.count) lengths bytes v w.elements
larger p q v w lengths bytes is keeps other_is other_keeps same room longer row =
    let other = held-are q w other_is other_keeps in
    grown p v (p.count + q.count) lengths bytes w.elements is keeps (ap (λ (n : ℕ). have_size n w.elements) (sym same) ∙ other.holds.sized) room
    (ap (λ (n : ℕ). p.count + n) other.counted)
    (longer ∙ ap (λ (ns : List ℕ). p.lengths.items ++ ns) (other.kept ∙ ap (λ (n : ℕ). kept_lengths n w.elements) same))
    (row ∙ ap (λ (all : List ℕ). p.bytes.items ++ all) other.joined)

pub overflow_add-self : goal.overflow_add-self
overflow_add-self c =
    let few = (larger c.self.inside c.other.inside c.args.self.now c.args.other.now c.extend_from_slice.new.self.items c.extend_from_slice-2.new.self.items
    c.self.view_is c.self.invariant c.other.view_is c.other.invariant c.requires.size c.requires.room
    (c.in_ok-extend_from_slice.ensures.items ∙ ap (λ (ns : List ℕ). c.self.inside.lengths.items ++ ns) c.as_slice.ensures.value)
    (c.in_ok-extend_from_slice-2.ensures.items ∙ ap₂ (λ (xs ys : List ℕ). xs ++ ys) c.in_ok-reserve.ensures.items c.as_slice-2.ensures.value)).few in
    omega arith

pub invariant_of-self-2 : goal.invariant_of-self-2
invariant_of-self-2 c =
    (larger c.self.inside c.other.inside c.args.self.now c.args.other.now c.extend_from_slice.new.self.items c.extend_from_slice-2.new.self.items
    c.self.view_is c.self.invariant c.other.view_is c.other.invariant c.requires.size c.requires.room
    (c.in_ok-extend_from_slice.ensures.items ∙ ap (λ (ns : List ℕ). c.self.inside.lengths.items ++ ns) c.as_slice.ensures.value)
    (c.in_ok-extend_from_slice-2.ensures.items ∙ ap₂ (λ (xs ys : List ℕ). xs ++ ys) c.in_ok-reserve.ensures.items c.as_slice-2.ensures.value)).keeps

pub returns : goal.returns
returns c =
    (larger c.self.inside c.other.inside c.args.self.now c.args.other.now c.extend_from_slice.new.self.items c.extend_from_slice-2.new.self.items
    c.self.view_is c.self.invariant c.other.view_is c.other.invariant c.requires.size c.requires.room
    (c.in_ok-extend_from_slice.ensures.items ∙ ap (λ (ns : List ℕ). c.self.inside.lengths.items ++ ns) c.as_slice.ensures.value)
    (c.in_ok-extend_from_slice-2.ensures.items ∙ ap₂ (λ (xs ys : List ℕ). xs ++ ys) c.in_ok-reserve.ensures.items c.as_slice-2.ensures.value)).is
