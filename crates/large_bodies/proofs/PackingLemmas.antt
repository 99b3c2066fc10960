-- Elements are packed by whole pieces.
use Rattle.std.proofs.Common.{◌≡◌, ℕ, ◌+◌, ◌<◌, ◌≤◌, Bool, true, false, not, nat_le, List, [], ◌∷◌, ◌++◌, length, take, drop, get_or, refl, sym, ap, ap₂, ◌∙◌, arith, append_assoc, length-append, length-drop, append-nil}
use Rattle.std.proofs.lemmas.Bool.{and_parts, cond-true, cond-false, le-leb, lt-leb}
use Rattle.std.proofs.lemmas.List.{get_or-drop, take-append-drop, take_more}
use Rattle.geos_model.specs.Pieces.{BranchPiece, piece_weight, branch_room, fits_branch, each_fits}
use Rattle.geos_model.specs.Spread.{packed_from, with_last}
use Rattle.large_bodies.specs.SizedElements.{SizedElements, SizedPieces, IsPiece, with_behind}
use Rattle.large_bodies.specs.Filling.{lacks_piece_room, FillsPiece}
use Rattle.large_bodies.specs.PiecesKeeping.{with_piece_behind}
use Rattle.geos_model.proofs.SpreadFits.{weight-append, part-fits}

-- pieces with their size
abbrev sized_pieces : ℕ → List BranchPiece → SizedPieces
sized_pieces size ps = record { size = size; pieces = ps }

no_elements : (xs : BranchPiece) → length xs ≡ 0 → xs ≡ []
no_elements [] none = refl
no_elements (x ∷ xs) none = absurd (omega arith)

-- What fits goes into the piece that is begun.
pub packed-run : (size : ℕ) (y a b : BranchPiece) → fits_branch size (y ++ a) ≡ true → packed_from size y (a ++ b) ≡ packed_from size (y ++ a) b
packed-run size y [] b fits = ap (λ (z : BranchPiece). packed_from size z b) (sym (append-nil y))
packed-run size [] (x ∷ a) b fits = packed-run size (x ∷ []) a b fits
packed-run size (y ∷ ys) (x ∷ a) b fits =
    let same : ((y ∷ ys) ++ x ∷ []) ++ a ≡ (y ∷ ys) ++ x ∷ a = append_assoc (y ∷ ys) (x ∷ []) a in
    let within : fits_branch size (((y ∷ ys) ++ x ∷ []) ++ a) ≡ true = ap (fits_branch size) same ∙ fits in
    cond-true (fits_branch size ((y ∷ ys) ++ x ∷ [])) _ _ (part-fits size ((y ∷ ys) ++ x ∷ []) a within).0
    ∙ packed-run size ((y ∷ ys) ++ x ∷ []) a b within
    ∙ ap (λ (z : BranchPiece). packed_from size z b) same

abbrev Begun : BranchPiece → Type 0
Begun y = y ≡ [] → ⊥

-- Where the next element has no room the piece is done.
pub packed-next : (size : ℕ) (y : BranchPiece) (x : List ℕ) (xs : BranchPiece) → Begun y → lacks_piece_room size y (x ∷ xs) ≡ true
    → packed_from size y (x ∷ xs) ≡ y ∷ packed_from size [] (x ∷ xs)
packed-next size [] x xs begun full = absurd (begun refl)
packed-next size (y ∷ ys) x xs begun full = cond-false (fits_branch size ((y ∷ ys) ++ x ∷ [])) _ _ (turned (fits_branch size ((y ∷ ys) ++ x ∷ [])) full)
  where
    turned : (b : Bool) → not b ≡ true → b ≡ false
    turned true is = sym is
    turned false is = refl

pub packed-last : (size : ℕ) (y : BranchPiece) → Begun y → packed_from size y [] ≡ y ∷ []
packed-last size [] begun = absurd (begun refl)
packed-last size (y ∷ ys) begun = refl

-- An empty piece has room for the first element, where each fits.
pub has_room : (size : ℕ) (y : BranchPiece) (x : List ℕ) (xs : BranchPiece) → each_fits size (x ∷ xs) ≡ true → lacks_piece_room size y (x ∷ xs) ≡ true → Begun y
has_room size [] x xs fit full none =
    let one : fits_branch size (x ∷ []) ≡ true = (and_parts (fits_branch size (x ∷ [])) (each_fits size xs) fit).0 in
    let never : false ≡ true = ap not (sym one) ∙ full in
    absurd (cc)
has_room size (y ∷ ys) x xs fit full none = absurd (cc)

-- Some pieces are done, one is full or the last, and these elements are left.
pub record IsPacking (size : ℕ) (done : SizedPieces) (piece left : SizedElements) (elements : BranchPiece) : Type 0 where
  pub small : size < 65536
  pub done_size : done.size ≡ size
  pub piece_size : piece.size ≡ size
  pub left_size : left.size ≡ size
  pub full : lacks_piece_room size piece.elements left.elements ≡ true
  pub packs : done.pieces ++ packed_from size piece.elements left.elements ≡ packed_from size [] elements

-- what is filled packs the same
filled-packs : (before after new left : SizedElements) → FillsPiece before after new left → packed_from new.size before.elements new.elements ≡ packed_from new.size after.elements left.elements
filled-packs before after new left fills =
    let piece : after.elements ≡ before.elements ++ fills.some = ap (λ (u : SizedElements). u.elements) fills.piece in
    ap (packed_from new.size before.elements) fills.all
    ∙ packed-run new.size before.elements fills.some left.elements (ap (fits_branch new.size) (sym piece) ∙ fills.fits)
    ∙ ap (λ (z : BranchPiece). packed_from new.size z left.elements) (sym piece)

-- at the beginning
pub packing-begun : (head new piece left : SizedElements) → new.size ≡ head.size → FillsPiece head piece new left
    → IsPacking head.size (record { size = head.size; pieces = [] }) piece left (head.elements ++ new.elements)
packing-begun head new piece left same fills =
    let after : piece.elements ≡ head.elements ++ fills.some = ap (λ (u : SizedElements). u.elements) fills.piece in
    let whole : fits_branch new.size (head.elements ++ fills.some) ≡ true = ap (fits_branch new.size) (sym after) ∙ fills.fits in
    let begun : packed_from new.size [] (head.elements ++ new.elements) ≡ packed_from new.size head.elements new.elements =
    packed-run new.size [] head.elements new.elements (part-fits new.size head.elements fills.some whole).0 in
    record {
      small = (let small = fills.small in omega arith);
      done_size = refl;
      piece_size = ap (λ (u : SizedElements). u.size) fills.piece;
      left_size = fills.same ∙ same;
      full = ap (λ (n : ℕ). lacks_piece_room n piece.elements left.elements) (sym same) ∙ fills.full;
      packs = ap (λ (n : ℕ). packed_from n piece.elements left.elements) (sym same) ∙ sym (begun ∙ filled-packs head piece new left fills) ∙ ap (λ (n : ℕ). packed_from n [] (head.elements ++ new.elements)) same;
    }

-- and at each further piece, which takes an element at least
pub packing-next : (size : ℕ) (done next_done : SizedPieces) (piece left next next_left : SizedElements) (elements : BranchPiece) → IsPacking size done piece left elements
    → (length left.elements ≡ 0 → ⊥) → each_fits left.size left.elements ≡ true → next_done ≡ with_piece_behind done piece.elements → FillsPiece (record { size = size; elements = [] }) next left next_left
    → IsPacking size next_done next next_left elements × (length next_left.elements < length left.elements)
packing-next size done next_done piece left next next_left elements is some fit is_done fills = by_elements left.elements refl
  where
    full : lacks_piece_room size piece.elements left.elements ≡ true
    full = is.full

    nothing : (xs : BranchPiece) → xs ≡ [] → length xs ≡ 0
    nothing xs none = ap length none

    by_elements : (xs : BranchPiece) → left.elements ≡ xs → IsPacking size next_done next next_left elements × (length next_left.elements < length left.elements)
    by_elements [] same = absurd (some (nothing left.elements same))
    by_elements (x ∷ xs) same = (
      record {
        small = is.small;
        done_size = ap (λ (u : SizedPieces). u.size) is_done ∙ is.done_size;
        piece_size = ap (λ (u : SizedElements). u.size) fills.piece;
        left_size = fills.same ∙ is.left_size;
        full = ap (λ (n : ℕ). lacks_piece_room n next.elements next_left.elements) (sym is.left_size) ∙ fills.full;
        packs =
            ap (λ (u : SizedPieces). u.pieces ++ packed_from size next.elements next_left.elements) is_done
            ∙ append_assoc done.pieces (piece.elements ∷ []) (packed_from size next.elements next_left.elements)
            ∙ ap (λ (ps : List BranchPiece). done.pieces ++ ps) (ap (λ (ps : List BranchPiece). piece.elements ∷ ps) (sym onwards) ∙ sym parted)
            ∙ is.packs;
      },
      fewer,
    )
      where
        sized : each_fits size (x ∷ xs) ≡ true
        sized = ap₂ each_fits (sym is.left_size) (sym same) ∙ fit

        begun : Begun piece.elements
        begun = has_room size piece.elements x xs sized (ap (lacks_piece_room size piece.elements) (sym same) ∙ full)

        parted : packed_from size piece.elements left.elements ≡ piece.elements ∷ packed_from size [] left.elements
        parted =
            ap (packed_from size piece.elements) same
            ∙ packed-next size piece.elements x xs begun (ap (lacks_piece_room size piece.elements) (sym same) ∙ full)
            ∙ ap (λ (zs : BranchPiece). piece.elements ∷ packed_from size [] zs) (sym same)

        onwards : packed_from size [] left.elements ≡ packed_from size next.elements next_left.elements
        onwards =
            ap (λ (n : ℕ). packed_from n [] left.elements) (sym is.left_size)
            ∙ filled-packs (record { size = size; elements = [] }) next left next_left fills
            ∙ ap (λ (n : ℕ). packed_from n next.elements next_left.elements) is.left_size

        fewer : length next_left.elements < length left.elements
        fewer = by_some fills.some refl
          where
            by_some : (zs : BranchPiece) → fills.some ≡ zs → length next_left.elements < length left.elements
            by_some (z ∷ zs) is_some =
                let whole = ap length (fills.all ∙ ap (λ (ys : BranchPiece). ys ++ next_left.elements) is_some) in
                let long = length-append (z ∷ zs) next_left.elements in
                omega arith
            by_some [] is_none =
                let all : next_left.elements ≡ x ∷ xs = sym (fills.all ∙ ap (λ (ys : BranchPiece). ys ++ next_left.elements) is_none) ∙ same in
                let piece_is : next.elements ≡ [] = ap (λ (u : SizedElements). u.elements) fills.piece ∙ is_none in
                let full_next : lacks_piece_room size [] (x ∷ xs) ≡ true =
                ap₂ (lacks_piece_room size) (sym piece_is) (sym all) ∙ ap (λ (n : ℕ). lacks_piece_room n next.elements next_left.elements) (sym is.left_size) ∙ fills.full in
                absurd (has_room size [] x xs sized full_next refl)

-- and at the end, with the last piece or without it
pub packing-done : (size : ℕ) (done : SizedPieces) (piece left : SizedElements) (elements : BranchPiece) → IsPacking size done piece left elements → length left.elements ≡ 0
    → ((length piece.elements ≡ 0 → ⊥) → with_piece_behind done piece.elements ≡ record { size = size; pieces = packed_from size [] elements })
    × (length piece.elements ≡ 0 → done ≡ record { size = size; pieces = packed_from size [] elements })
packing-done size done piece left elements is none =
    let left_is : left.elements ≡ [] = no_elements left.elements none in
    let packs : done.pieces ++ packed_from size piece.elements [] ≡ packed_from size [] elements =
    ap (λ (zs : BranchPiece). done.pieces ++ packed_from size piece.elements zs) (sym left_is) ∙ is.packs in (
      λ some. ap₂ sized_pieces is.done_size (ap (λ (ps : List BranchPiece). done.pieces ++ ps) (sym (packed-last size piece.elements (λ empty. some (ap length empty)))) ∙ packs),
      λ empty. ap₂ sized_pieces is.done_size (sym (append-nil done.pieces) ∙ ap (λ (z : BranchPiece). done.pieces ++ packed_from size z []) (sym (no_elements piece.elements empty)) ∙ packs),
    )

-- the first one that is left
first_of : (k : ℕ) (xs : BranchPiece) (y : List ℕ) (ys : BranchPiece) → drop k xs ≡ y ∷ ys → get_or xs k [] ≡ y
first_of k xs y ys is =
    let place : k + 0 ≡ k = omega arith in
    ap (λ (m : ℕ). get_or xs m []) (sym place) ∙ sym (get_or-drop k xs 0 []) ∙ ap (λ (zs : BranchPiece). get_or zs 0 []) is

-- As many as there is room for fill a piece.
pub filled : (before after new left : SizedElements) (k room : ℕ) → new.size ≡ before.size → after ≡ with_behind before (take k new.elements) → left ≡ record { size = new.size; elements = drop k new.elements }
    → IsPiece before → room + piece_weight before.size before.elements ≡ branch_room → k ≤ length new.elements → piece_weight new.size (take k new.elements) ≤ room
    → (k < length new.elements → room < piece_weight new.size (take (k + 1) new.elements)) → FillsPiece before after new left
filled before after new left k room same piece rest holds sum within fits most =
    let old : piece_weight new.size before.elements ≡ piece_weight before.size before.elements = ap (λ (n : ℕ). piece_weight n before.elements) same in
    let after_is : after.elements ≡ before.elements ++ take k new.elements = ap (λ (u : SizedElements). u.elements) piece in
    let left_is : left.elements ≡ drop k new.elements = ap (λ (u : SizedElements). u.elements) rest in
    let whole = weight-append new.size before.elements (take k new.elements) in
    let small = holds.small in
    record {
      some = take k new.elements;
      piece = piece;
      all = sym (take-append-drop k new.elements) ∙ ap (λ (ys : BranchPiece). take k new.elements ++ ys) (sym left_is);
      same = ap (λ (u : SizedElements). u.size) rest;
      small = omega arith;
      fits = ap (fits_branch new.size) after_is ∙ le-leb (piece_weight new.size (before.elements ++ take k new.elements)) branch_room (omega arith);
      full = ap₂ (lacks_piece_room new.size) after_is left_is ∙ by_left (drop k new.elements) refl;
    }
  where
    by_left : (ys : BranchPiece) → drop k new.elements ≡ ys → lacks_piece_room new.size (before.elements ++ take k new.elements) ys ≡ true
    by_left [] none = refl
    by_left (y ∷ ys) some =
        let long = length-drop k new.elements in
        let left_long = ap length some in
        let more = most (omega arith) in
        let next : take (k + 1) new.elements ≡ take k new.elements ++ y ∷ [] =
        take_more new.elements k [] (omega arith) ∙ ap (λ (x : List ℕ). take k new.elements ++ x ∷ []) (first_of k new.elements y ys some) in
        let sums = weight-append new.size before.elements (take k new.elements ++ y ∷ []) in
        let old : piece_weight new.size before.elements ≡ piece_weight before.size before.elements = ap (λ (n : ℕ). piece_weight n before.elements) same in
        let grown = ap (piece_weight new.size) next in
        let assoc = ap (piece_weight new.size) (append_assoc before.elements (take k new.elements) (y ∷ [])) in
        ap not (lt-leb (piece_weight new.size ((before.elements ++ take k new.elements) ++ y ∷ [])) branch_room (omega arith))

-- A piece behind the others, in the last one or not.

pub with_last-joined : (size room : ℕ) (ps : List BranchPiece) (x y : BranchPiece) → Begun y → piece_weight size x + piece_weight size y ≤ room
    → with_last size room (ps ++ x ∷ []) y ≡ ps ++ (x ++ y) ∷ []
with_last-joined size room ps x [] begun within = absurd (begun refl)
with_last-joined size room [] x (y ∷ ys) begun within =
    cond-true (nat_le (piece_weight size x + piece_weight size (y ∷ ys)) room) _ _ (le-leb (piece_weight size x + piece_weight size (y ∷ ys)) room within)
with_last-joined size room (p ∷ []) x (y ∷ ys) begun within = ap (λ (qs : List BranchPiece). p ∷ qs) (with_last-joined size room [] x (y ∷ ys) begun within)
with_last-joined size room (p ∷ q ∷ ps) x (y ∷ ys) begun within = ap (λ (qs : List BranchPiece). p ∷ qs) (with_last-joined size room (q ∷ ps) x (y ∷ ys) begun within)

pub with_last-apart : (size room : ℕ) (ps : List BranchPiece) (x y : BranchPiece) → Begun y → room < piece_weight size x + piece_weight size y
    → with_last size room (ps ++ x ∷ []) y ≡ (ps ++ x ∷ []) ++ y ∷ []
with_last-apart size room ps x [] begun past = absurd (begun refl)
with_last-apart size room [] x (y ∷ ys) begun past =
    cond-false (nat_le (piece_weight size x + piece_weight size (y ∷ ys)) room) _ _ (lt-leb (piece_weight size x + piece_weight size (y ∷ ys)) room past)
with_last-apart size room (p ∷ []) x (y ∷ ys) begun past = ap (λ (qs : List BranchPiece). p ∷ qs) (with_last-apart size room [] x (y ∷ ys) begun past)
with_last-apart size room (p ∷ q ∷ ps) x (y ∷ ys) begun past = ap (λ (qs : List BranchPiece). p ∷ qs) (with_last-apart size room (q ∷ ps) x (y ∷ ys) begun past)

-- as a piece takes the last one's place
pub tail-joined : (held rest new : SizedPieces) (last grown tail : SizedElements) (room : ℕ) → rest.size ≡ held.size → last.size ≡ held.size → held.pieces ≡ rest.pieces ++ last.elements ∷ []
    → tail.size ≡ held.size → (length tail.elements ≡ 0 → ⊥) → piece_weight last.size last.elements + piece_weight tail.size tail.elements ≤ room
    → grown ≡ with_behind last tail.elements → new ≡ with_piece_behind rest grown.elements → new ≡ record { size = held.size; pieces = with_last held.size room held.pieces tail.elements }
tail-joined held rest new last grown tail room rest_size last_size parts tail_size some within joined is =
    let left : piece_weight last.size last.elements ≡ piece_weight held.size last.elements = ap (λ (n : ℕ). piece_weight n last.elements) last_size in
    let right : piece_weight tail.size tail.elements ≡ piece_weight held.size tail.elements = ap (λ (n : ℕ). piece_weight n tail.elements) tail_size in
    let whole : with_last held.size room held.pieces tail.elements ≡ rest.pieces ++ (last.elements ++ tail.elements) ∷ [] =
    ap (λ (ps : List BranchPiece). with_last held.size room ps tail.elements) parts
    ∙ with_last-joined held.size room rest.pieces last.elements tail.elements (λ empty. some (ap length empty)) (omega arith) in
    is ∙ ap (λ (u : SizedElements). with_piece_behind rest u.elements) joined ∙ ap₂ sized_pieces rest_size (sym whole)

-- or comes behind it
pub tail-apart : (held rest back new : SizedPieces) (last tail : SizedElements) (room : ℕ) → rest.size ≡ held.size → last.size ≡ held.size → held.pieces ≡ rest.pieces ++ last.elements ∷ []
    → tail.size ≡ held.size → (length tail.elements ≡ 0 → ⊥) → room < piece_weight last.size last.elements + piece_weight tail.size tail.elements
    → back ≡ with_piece_behind rest last.elements → new ≡ with_piece_behind back tail.elements → new ≡ record { size = held.size; pieces = with_last held.size room held.pieces tail.elements }
tail-apart held rest back new last tail room rest_size last_size parts tail_size some past again is =
    let left : piece_weight last.size last.elements ≡ piece_weight held.size last.elements = ap (λ (n : ℕ). piece_weight n last.elements) last_size in
    let right : piece_weight tail.size tail.elements ≡ piece_weight held.size tail.elements = ap (λ (n : ℕ). piece_weight n tail.elements) tail_size in
    let whole : with_last held.size room held.pieces tail.elements ≡ (rest.pieces ++ last.elements ∷ []) ++ tail.elements ∷ [] =
    ap (λ (ps : List BranchPiece). with_last held.size room ps tail.elements) parts
    ∙ with_last-apart held.size room rest.pieces last.elements tail.elements (λ empty. some (ap length empty)) (omega arith) in
    is ∙ ap (λ (u : SizedPieces). with_piece_behind u tail.elements) again ∙ ap₂ sized_pieces rest_size (sym whole)
