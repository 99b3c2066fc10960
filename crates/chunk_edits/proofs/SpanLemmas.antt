-- The pieces of spans: how many bytes they are of, and which ones come next.
use Rattle.std.proofs.Common.{◌≡◌, ℕ, ◌+◌, ◌≤◌, ◌<◌, max, List, [], ◌∷◌, ◌++◌, length, take, drop, get_or, refl, sym, ap, ap₂, ◌∙◌, arith, add-one, append-nil, append_assoc, length-append, length-drop, length-take, length-take-le, drop-cons, subst}
use Rattle.std.proofs.lemmas.List.{take-append-le, drop-append-le, take_at, drop_at, take_all}
use Rattle.std.proofs.lemmas.List.Sums.{sum_by-cons}
use Rattle.std.specs.Prelude.{◌↔◌}
use Rattle.std.specs.List.{sum_by}
use Rattle.chunk_edits.specs.Patching.{ArePiecesOf, IsPieceOf, PatchPiece, Keep, Put, taken, given, held_by, total_taken, peak, total_held, directed_piece, directed_pieces}
use Rattle.chunk_edits.specs.Spans.{own, total_own, extent, piece_of, pieces_of}
use Rattle.chunk_edits.specs.declared.direction.Direction.{Direction}
use Rattle.chunk_edits.specs.declared.direction.Direction.TheVariants.{Forwards, Backwards}
use Rattle.chunk_edits.specs.declared.held.Span.{Span}
use Rattle.chunk_edits.specs.declared.held.Span.TheVariants as spans
use Rattle.chunk_edits.proofs.PatchingLemmas.{piece-length, taken-cons, peak-cons, held-cons, taken-reversed}

pub own-cons : (s : Span) (ss : List Span) → total_own (s ∷ ss) ≡ own s + total_own ss
own-cons s ss = sum_by-cons own s ss

-- what stands behind the bytes of a span doesn't matter to it
piece_of-append : (s : Span) (row more : List ℕ) → own s ≤ length row → piece_of s (row ++ more) ≡ piece_of s row
piece_of-append (spans.Keep n) row more l = refl
piece_of-append (spans.Put old new) row more l =
    ap₂ Put (take-append-le old row more (omega arith))
    (ap (take new) (drop-append-le old row more (omega arith)) ∙ take-append-le new (drop old row) more (omega (arith, length-drop old row)))
piece_of-append (spans.Rebase words from to) row more l = refl

-- one span more, with its bytes
pub pieces_of-pushed : (ss : List Span) (s : Span) (row more : List ℕ) → total_own ss ≡ length row
    → pieces_of (ss ++ s ∷ []) (row ++ more) ≡ pieces_of ss row ++ piece_of s more ∷ []
pieces_of-pushed [] s [] more whole = refl
pieces_of-pushed [] s (b ∷ row) more whole = absurd (omega arith)
pieces_of-pushed (t ∷ ss) s row more whole =
    let first : own t ≤ length row = omega (arith, whole, own-cons t ss) in
    let rest : total_own ss ≡ length (drop (own t) row) = omega (arith, whole, own-cons t ss, length-drop (own t) row) in
    ap₂ (λ (p : PatchPiece) (l : List ℕ). p ∷ pieces_of (ss ++ s ∷ []) l) (piece_of-append t row more first) (drop-append-le (own t) row more first)
    ∙ ap (λ (ps : List PatchPiece). piece_of t row ∷ ps) (pieces_of-pushed ss s (drop (own t) row) more rest)

pub piece_of-put : (old new : List ℕ) → piece_of (spans.Put (length old) (length new)) (old ++ new) ≡ Put old new
piece_of-put old new =
    ap₂ Put (take_at old new (length old) refl) (ap (take (length new)) (drop_at old new (length old) refl) ∙ take_all (length new) new (omega arith))

pub pieces_of-kept : (ss : List Span) (s : Span) (row : List ℕ) → total_own ss ≡ length row → pieces_of (ss ++ s ∷ []) row ≡ pieces_of ss row ++ piece_of s [] ∷ []
pieces_of-kept ss s row whole = ap (pieces_of (ss ++ s ∷ [])) (sym (append-nil row)) ∙ pieces_of-pushed ss s row [] whole

-- How many bytes.

piece-held : (s : Span) (row : List ℕ) → own s ≤ length row → held_by (piece_of s row) ≡ own s
piece-held (spans.Keep n) row l = refl
piece-held (spans.Put old new) row l =
    ap₂ (λ (a b : ℕ). a + b) (length-take-le old row (omega arith)) (length-take-le new (drop old row) (omega (arith, length-drop old row)))
piece-held (spans.Rebase words from to) row l = refl

pub piece-extent : (d : Direction) (s : Span) (row : List ℕ) → own s ≤ length row → taken (directed_piece d (piece_of s row)) ≡ extent d s
piece-extent Forwards (spans.Keep n) row l = refl
piece-extent Backwards (spans.Keep n) row l = refl
piece-extent Forwards (spans.Put old new) row l = length-take-le old row (omega arith)
piece-extent Backwards (spans.Put old new) row l = length-take-le new (drop old row) (omega (arith, length-drop old row))
piece-extent Forwards (spans.Rebase words from to) row l = refl
piece-extent Backwards (spans.Rebase words from to) row l = refl

pub pieces-held : (ss : List Span) (row : List ℕ) → total_own ss ≡ length row → total_held (pieces_of ss row)
    ≡ length row
pieces-held [] row whole = whole
pieces-held (s ∷ ss) row whole =
    let first = piece-held s row (omega (arith, whole, own-cons s ss)) in
    let rest = pieces-held ss (drop (own s) row) (omega (arith, whole, own-cons s ss, length-drop (own s) row)) in
    omega (arith, first, rest, whole, own-cons s ss, held-cons (piece_of s row) (pieces_of ss (drop (own s) row)), length-drop (own s) row)

directed-cons : (d : Direction) (p : PatchPiece) (ps : List PatchPiece) → directed_pieces d (p ∷ ps) ≡ directed_piece d p ∷ directed_pieces d ps
directed-cons Forwards p ps = refl
directed-cons Backwards p ps = refl

none-taken : (d : Direction) → total_taken (directed_pieces d []) ≡ 0
none-taken Forwards = refl
none-taken Backwards = refl

pub pieces-extent : (d : Direction) (ss : List Span) (row : List ℕ) → total_own ss ≡ length row → total_taken (directed_pieces d (pieces_of ss row)) ≡ sum_by (extent d) ss
pieces-extent d [] row whole = none-taken d
pieces-extent d (s ∷ ss) row whole =
    let first = piece-extent d s row (omega (arith, whole, own-cons s ss)) in
    let rest = pieces-extent d ss (drop (own s) row) (omega (arith, whole, own-cons s ss, length-drop (own s) row)) in
    let p = piece_of s row in let ps = pieces_of ss (drop (own s) row) in
    ap total_taken (directed-cons d p ps)
    ∙ (taken-cons (directed_piece d p) (directed_pieces d ps)
    ∙ (ap₂ (λ (a b : ℕ). a + b) first rest ∙ sym (sum_by-cons (extent d) s ss)))

pub pieces-peak : (ss : List Span) (row : List ℕ) → total_own ss ≡ length row → peak (pieces_of ss row) ≡ sum_by (λ s. max (extent Forwards s) (extent Backwards s)) ss
pieces-peak [] row whole = refl
pieces-peak (s ∷ ss) row whole =
    let p = piece_of s row in let ps = pieces_of ss (drop (own s) row) in
    let before = piece-extent Forwards s row (omega (arith, whole, own-cons s ss)) in
    let after : given p ≡ extent Backwards s = sym (taken-reversed p) ∙ piece-extent Backwards s row (omega (arith, whole, own-cons s ss)) in
    let rest = pieces-peak ss (drop (own s) row) (omega (arith, whole, own-cons s ss, length-drop (own s) row)) in
    peak-cons p ps
    ∙ (ap₂ (λ (a b : ℕ). a + b) (ap₂ max before after) rest ∙ sym (sum_by-cons (λ t. max (extent Forwards t) (extent Backwards t)) s ss))

-- The span that is next, and those behind it.
module _ (ss : List Span) (i : ℕ) (less : i < length ss) where
  abbrev here : Span
  here = get_or ss i (spans.Keep 0)

  next_span : drop i ss ≡ here ∷ drop (i + 1) ss
  next_span = drop-cons ss i (spans.Keep 0) less ∙ ap (λ (k : ℕ). here ∷ drop k ss) (sym (add-one i))

  pub next_own : total_own (drop i ss) ≡ own here + total_own (drop (i + 1) ss)
  next_own = ap total_own next_span ∙ own-cons here (drop (i + 1) ss)

  pub next_pieces : (d : Direction) (row : List ℕ)
      → directed_pieces d (pieces_of (drop i ss) row) ≡ directed_piece d (piece_of here row) ∷ directed_pieces d (pieces_of (drop (i + 1) ss) (drop (own here) row))
  next_pieces d row = ap (λ (l : List Span). directed_pieces d (pieces_of l row)) next_span ∙ directed-cons d (piece_of here row) (pieces_of (drop (i + 1) ss) (drop (own here) row))

  -- bytes are those of the pieces from here on where they begin with those of the first, and go on with those of the
  -- others
  module _ (d : Direction) (row rest : List ℕ) (room : own here ≤ length row) where
    abbrev next : PatchPiece
    next = directed_piece d (piece_of here row)

    abbrev behind : List PatchPiece
    behind = directed_pieces d (pieces_of (drop (i + 1) ss) (drop (own here) row))

    next_standing : ArePiecesOf (directed_pieces d (pieces_of (drop i ss) row)) rest ≡ (IsPieceOf next (take (taken next) rest) × ArePiecesOf behind (drop (taken next) rest))
    next_standing = ap (λ (ps : List PatchPiece). ArePiecesOf ps rest) (next_pieces d row)

    pub begun_reach : IsPieceOf next (take (taken next) rest) → extent d here ≤ length rest
    begun_reach is =
        let size = piece-length next (take (taken next) rest) is in
        omega (arith, size, length-take (taken next) rest, piece-extent d here row room)

    pub none_begun : (IsPieceOf next (take (taken next) rest) → ⊥) → ArePiecesOf (directed_pieces d (pieces_of (drop i ss) row)) rest → ⊥
    none_begun other are = other (subst (λ (X : Type 0). X) next_standing are).0

    pub goes_on_same : (F : Type 0) (row' rest' : List ℕ) → row' ≡ drop (own here) row → rest' ≡ drop (extent d here) rest → IsPieceOf next (take (taken next) rest)
        → (ArePiecesOf (directed_pieces d (pieces_of (drop i ss) row)) rest ↔ F) → (ArePiecesOf (directed_pieces d (pieces_of (drop (i + 1) ss) row')) rest' ↔ F)
    goes_on_same F row' rest' row_is rest_is begins same =
        let at : ArePiecesOf (directed_pieces d (pieces_of (drop (i + 1) ss) row')) rest' ≡ ArePiecesOf behind (drop (taken next) rest) =
        ap₂ (λ (r x : List ℕ). ArePiecesOf (directed_pieces d (pieces_of (drop (i + 1) ss) r)) x) row_is (rest_is ∙ ap (λ (n : ℕ). drop n rest) (sym (piece-extent d here row room))) in (
          λ are. same.0 (subst (λ (X : Type 0). X) (sym next_standing) (begins, subst (λ (X : Type 0). X) at are)),
          λ f. subst (λ (X : Type 0). X) (sym at) (subst (λ (X : Type 0). X) next_standing (same.1 f)).1,
        )

-- two pieces that hold bytes, each with bytes that stay behind it
pub two-exchanged : (a b c d : List ℕ) (m n : ℕ) → pieces_of (spans.Put (length a) (length b) ∷ spans.Keep m ∷ spans.Put (length c) (length d) ∷ spans.Keep n ∷ []) (((a ++ b) ++ c) ++ d)
    ≡ Put a b ∷ Keep m ∷ Put c d ∷ Keep n ∷ []
two-exchanged a b c d m n =
    ap (pieces_of (spans.Put (length a) (length b) ∷ spans.Keep m ∷ spans.Put (length c) (length d) ∷ spans.Keep n ∷ [])) (append_assoc (a ++ b) c d)
    ∙ (ap₂ (λ (p : PatchPiece) (l : List ℕ). p ∷ Keep m ∷ pieces_of (spans.Put (length c) (length d) ∷ spans.Keep n ∷ []) l)
    (piece_of-append (spans.Put (length a) (length b)) (a ++ b) (c ++ d) (omega (arith, length-append a b)) ∙ piece_of-put a b)
    (drop_at (a ++ b) (c ++ d) (length a + length b) (length-append a b))
    ∙ ap (λ (p : PatchPiece). Put a b ∷ Keep m ∷ p ∷ Keep n ∷ []) (piece_of-put c d))
