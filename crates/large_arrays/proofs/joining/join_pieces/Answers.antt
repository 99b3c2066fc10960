use Rattle.std.proofs.Common.{◌≡◌, ◌∙◌, ◌+◌, ◌&&◌, ◌==◌, ℕ, Bool, true, false, List, [], Result, Ok, Err, IfOk, if◌then◌else◌, is_some, refl, sym, ap, ap₂, arith}
use Rattle.geos_model.specs.Pieces.{BranchPiece}
use Rattle.large_bodies.specs.SizedElements.{SizedPieces, elements_of_size}
use Rattle.geos_model.specs.JoinedPieces.{window_of}
use Rattle.large_arrays.proofs.joining.join_pieces.Goals as goal

ok_so : {A E : Type 0} (P Q : A → Type 0) (r : Result A E) → ((x : A) → P x → Q x) → IfOk r P → IfOk r Q
ok_so P Q (Ok x) so is = so x is
ok_so P Q (Err e) so is = tt

-- the elements of a neighbour that isn't joined play no part
only_joined : (size : ℕ) (x y : Bool) (p q : BranchPiece) (mid : List BranchPiece) (alone : Bool)
    → window_of size x (if x then p else []) mid y (if y then q else []) alone ≡ window_of size x p mid y q alone
only_joined size true true p q mid alone = refl
only_joined size true false p q mid alone = refl
only_joined size false true p q mid alone = refl
only_joined size false false p q mid alone = refl

pub window-requires : goal.window-requires
window-requires c = record {
  left = c.joined_piece-left.ensures.size c.args.middle.size (c.requires.left ∙ sym c.requires.size);
  right = c.joined_piece-right.ensures.size c.args.middle.size (c.requires.right ∙ sym c.requires.size);
  small = (let small = c.requires.run.small in let same = c.requires.size in omega arith);
}

pub returns : goal.returns
returns c =
    let m = c.args.middle in
    let joined = c.args.joined in
    let both = c.args.neighbours in
    let alone : Bool = (c.args.spot.now.start.0 == 0) && (c.args.spot.now.end.0 + 1 == c.args.spot.now.branches) in
    let l = c.joined_piece-left in
    let r = c.joined_piece-right in
    let P : SizedPieces → Type 0 = λ all. all ≡ record {
      size = m.size;
      pieces = window_of m.size (is_some l.result) (elements_of_size l.result) m.pieces (is_some r.result) (elements_of_size r.result) c.is_alone.result;
    } in
    let Q : SizedPieces → Type 0 = λ all. all ≡ record {
      size = m.size;
      pieces = window_of m.size joined.left both.left.elements m.pieces joined.right both.right.elements alone;
    } in
    let same : window_of m.size (is_some l.result) (elements_of_size l.result) m.pieces (is_some r.result) (elements_of_size r.result) c.is_alone.result
    ≡ window_of m.size joined.left both.left.elements m.pieces joined.right both.right.elements alone =
    ap (λ (t : Bool). window_of m.size (is_some l.result) (elements_of_size l.result) m.pieces (is_some r.result) (elements_of_size r.result) t) c.is_alone.ensures
    ∙ ap₂ (λ (x : Bool) (p : BranchPiece). window_of m.size x p m.pieces (is_some r.result) (elements_of_size r.result) alone) l.ensures.is l.ensures.elements
    ∙ ap₂ (λ (y : Bool) (q : BranchPiece). window_of m.size joined.left (if joined.left then both.left.elements else []) m.pieces y q alone) r.ensures.is r.ensures.elements
    ∙ only_joined m.size joined.left joined.right both.left.elements both.right.elements m.pieces alone in
    ok_so P Q c.window.result (λ all is. is ∙ ap (λ (qs : List BranchPiece). record { size = m.size; pieces = qs }) same) c.window.ensures
