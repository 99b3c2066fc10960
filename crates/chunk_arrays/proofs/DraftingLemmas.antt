-- Patches that are drawn up a piece at a time.
use Rattle.std.proofs.Common.{◌≡◌, ℕ, ◌+◌, ◌-◌, ◌*◌, ◌/◌, ◌%◌, ◌^◌, ◌<◌, ◌≤◌, ◌==◌, max, List, [], ◌∷◌, ◌++◌, length, take, drop, get_or, inl, inr, refl, sym, ap, ap₂, subst, ◌∙◌, arith, length-append, append_assoc, append-nil}
use Rattle.std.proofs.lemmas.Bool.{cases_Bool, cond-true, cond-false, eqb-true, eq-eqb}
use Rattle.std.proofs.lemmas.List.{take_all, drop_all, take-append-drop, take-append-le, drop-append-le, get_or_default}
use Rattle.std.proofs.lemmas.List.Sums.{sum_by-append}
use Rattle.chunk_edits.specs.Patching.{PatchPiece, Keep, Put, Rebase, taken, given, peak, piece_after, patched, rebased, IsPieceOf, ArePiecesOf, PatchLeads}
use Rattle.geos_model.specs.Words.{word, word_at}
use Rattle.chunk_edits.proofs.PatchingLemmas.{taken-cons, peak-cons, pieces_length, piece_after-length, word-of_bytes, word-same}
use Rattle.chunk_arrays.specs.Drafting.{drawn, settled, Draws, Adds}
use Rattle.chunk_arrays.specs.declared.draft.Draft.{Draft}

-- Pieces of some bytes, and more pieces of the bytes behind them.
module _ (p : PatchPiece) (ps : List PatchPiece) (x u : List ℕ) (are : ArePiecesOf (p ∷ ps) x) where
  first-within : taken p ≤ length x
  first-within = omega (arith, pieces_length (p ∷ ps) x are, taken-cons p ps)

  first-same : take (taken p) (x ++ u) ≡ take (taken p) x
  first-same = take-append-le (taken p) x u first-within

  behind-same : drop (taken p) (x ++ u) ≡ drop (taken p) x ++ u
  behind-same = drop-append-le (taken p) x u first-within

pieces-append : (ps qs : List PatchPiece) (x u : List ℕ) → ArePiecesOf ps x → ArePiecesOf qs u → ArePiecesOf (ps ++ qs) (x ++ u)
pieces-append [] qs x u are more = subst (λ (l : List ℕ). ArePiecesOf qs (l ++ u)) (sym are) more
pieces-append (p ∷ ps) qs x u are more = (
  subst (IsPieceOf p) (sym (first-same p ps x u are)) are.0,
  subst (ArePiecesOf (ps ++ qs)) (sym (behind-same p ps x u are)) (pieces-append ps qs (drop (taken p) x) u are.1 more),
)

patched-append : (ps qs : List PatchPiece) (x u : List ℕ) → ArePiecesOf ps x → patched (ps ++ qs) (x ++ u) ≡ patched ps x ++ patched qs u
patched-append [] qs x u are = ap (λ (l : List ℕ). patched qs (l ++ u)) are ∙ ap (λ (l : List ℕ). l ++ patched qs u) (sym are)
patched-append (p ∷ ps) qs x u are =
    ap₂ (λ (l m : List ℕ). piece_after p l ++ patched (ps ++ qs) m) (first-same p ps x u are) (behind-same p ps x u are)
    ∙ ap (λ (l : List ℕ). piece_after p (take (taken p) x) ++ l) (patched-append ps qs (drop (taken p) x) u are.1)
    ∙ sym (append_assoc (piece_after p (take (taken p) x)) (patched ps (drop (taken p) x)) (patched qs u))

-- bytes that stay
keep_all : (n : ℕ) (bytes : List ℕ) → length bytes ≡ n → ArePiecesOf (Keep n ∷ []) bytes
keep_all n bytes is = (ap length (take_all n bytes (omega arith)) ∙ is, drop_all n bytes (omega arith))

-- more bytes that stay behind some that do
keep_more : (ps : List PatchPiece) (k : ℕ) (x u : List ℕ) → ArePiecesOf (ps ++ Keep k ∷ []) x
    → ArePiecesOf (ps ++ Keep (k + length u) ∷ []) (x ++ u) × (patched (ps ++ Keep (k + length u) ∷ []) (x ++ u) ≡ patched (ps ++ Keep k ∷ []) x ++ u)
keep_more [] k x u are = (
  keep_all (k + length u) (x ++ u) (omega (arith, length-append x u, pieces_length (Keep k ∷ []) x are)),
  take-append-drop (k + length u) (x ++ u) ∙ ap (λ (l : List ℕ). l ++ u) (sym (take-append-drop k x)),
)
keep_more (p ∷ ps) k x u are =
    let here = first-same p (ps ++ Keep k ∷ []) x u are in
    let there = behind-same p (ps ++ Keep k ∷ []) x u are in
    let rest = keep_more ps k (drop (taken p) x) u are.1 in (
      (subst (IsPieceOf p) (sym here) are.0, subst (ArePiecesOf (ps ++ Keep (k + length u) ∷ [])) (sym there) rest.0),
      ap₂ (λ (l m : List ℕ). piece_after p l ++ patched (ps ++ Keep (k + length u) ∷ []) m) here there
          ∙ ap (λ (l : List ℕ). piece_after p (take (taken p) x) ++ l) rest.1
          ∙ sym (append_assoc (piece_after p (take (taken p) x)) (patched (ps ++ Keep k ∷ []) (drop (taken p) x)) u),
    )

-- none that stay
keep_none : (ps : List PatchPiece) (x : List ℕ) → ArePiecesOf (ps ++ Keep 0 ∷ []) x → ArePiecesOf ps x × (patched (ps ++ Keep 0 ∷ []) x ≡ patched ps x)
keep_none [] x are = (are.1, refl)
keep_none (p ∷ ps) x are =
    let rest = keep_none ps (drop (taken p) x) are.1 in
    ((are.0, rest.0), ap (λ (l : List ℕ). piece_after p (take (taken p) x) ++ l) rest.1)

-- how many bytes there are at most in between
peak-drawn : (ps : List PatchPiece) (k : ℕ) → peak (ps ++ Keep k ∷ []) ≡ peak ps + k
peak-drawn ps k = sum_by-append (λ q. max (taken q) (given q)) ps (Keep k ∷ []) ∙ (let one = peak-cons (Keep k) [] in omega (arith, one))

peak-pushed : (ps : List PatchPiece) (p : PatchPiece) → peak (ps ++ p ∷ []) ≡ peak ps + max (taken p) (given p)
peak-pushed ps p = sum_by-append (λ q. max (taken q) (given q)) ps (p ∷ []) ∙ (let one = peak-cons p [] in omega (arith, one))

-- a draft without a piece of no bytes
module _ (d : Draft) where
  settled-none : d.kept ≡ 0 → settled d ≡ d.patch
  settled-none none = cond-true (d.kept == 0) _ _ (eq-eqb d.kept 0 none)

  pub settled_draws : (x y : List ℕ) → Draws d x y → ArePiecesOf (settled d) x × (patched (settled d) x ≡ y)
  settled_draws x y h = elim (cases_Bool (d.kept == 0)) [
    | inl none ↦ (
        let is : d.kept ≡ 0 = eqb-true d.kept 0 none in
        let without = keep_none d.patch x (subst (λ (k : ℕ). ArePiecesOf (d.patch ++ Keep k ∷ []) x) is h.stands) in
        let same : settled d ≡ d.patch = settled-none is in (
          subst (λ (ps : List PatchPiece). ArePiecesOf ps x) (sym same) without.0,
          ap (λ (ps : List PatchPiece). patched ps x) same ∙ sym without.1
              ∙ ap (λ (k : ℕ). patched (d.patch ++ Keep k ∷ []) x) (sym is) ∙ h.gives,
        ))
    | inr some ↦ (
        let same : settled d ≡ drawn d = cond-false (d.kept == 0) _ _ some in (
          subst (λ (ps : List PatchPiece). ArePiecesOf ps x) (sym same) h.stands,
          ap (λ (ps : List PatchPiece). patched ps x) same ∙ h.gives,
        ))
  ]

  pub peak-settled : peak (settled d) ≡ peak (drawn d)
  peak-settled = elim (cases_Bool (d.kept == 0)) [
    | inl none ↦ (
        let is : d.kept ≡ 0 = eqb-true d.kept 0 none in
        ap peak (settled-none is) ∙ (let all = peak-drawn d.patch d.kept in omega (arith, all, is)))
    | inr some ↦ ap peak (cond-false (d.kept == 0) _ _ some)
  ]

piece-long : (p : PatchPiece) (bytes : List ℕ) → IsPieceOf p bytes → length bytes ≡ taken p
piece-long (Keep n) bytes is = is
piece-long (Put old new) bytes is = ap length is
piece-long (Rebase words from to) bytes is = is.0

-- one piece of all these bytes, and none that stay behind it
module _ (p : PatchPiece) (u : List ℕ) (is : IsPieceOf p u) where
  one_whole : take (taken p) u ≡ u
  one_whole = take_all (taken p) u (omega (arith, piece-long p u is))

  none_behind : drop (taken p) u ≡ []
  none_behind = drop_all (taken p) u (omega (arith, piece-long p u is))

  one_piece : ArePiecesOf (p ∷ Keep 0 ∷ []) u
  one_piece = (subst (IsPieceOf p) (sym one_whole) is, subst (ArePiecesOf (Keep 0 ∷ [])) (sym none_behind) (refl, refl))

  one_patched : patched (p ∷ Keep 0 ∷ []) u ≡ piece_after p u
  one_patched =
      ap₂ (λ (l m : List ℕ). piece_after p l ++ patched (Keep 0 ∷ []) m) one_whole none_behind
      ∙ append-nil (piece_after p u)

-- a draft with one piece more
module _ (d e : Draft) (p : PatchPiece) (u : List ℕ) (pushed : e.patch ≡ settled d ++ p ∷ []) (none : e.kept ≡ 0) (is : IsPieceOf p u) where
  drawn_pushed : drawn e ≡ settled d ++ (p ∷ Keep 0 ∷ [])
  drawn_pushed =
      ap₂ (λ (ps : List PatchPiece) (k : ℕ). ps ++ Keep k ∷ []) pushed none
      ∙ append_assoc (settled d) (p ∷ []) (Keep 0 ∷ [])

  pub adds-piece : Adds d e u (piece_after p u)
  adds-piece = record {
    draws = λ x y h.
        let before = settled_draws d x y h in
        record {
          stands = subst (λ (ps : List PatchPiece). ArePiecesOf ps (x ++ u)) (sym drawn_pushed)
              (pieces-append (settled d) (p ∷ Keep 0 ∷ []) x u before.0 (one_piece p u is));
          gives = ap (λ (ps : List PatchPiece). patched ps (x ++ u)) drawn_pushed
              ∙ patched-append (settled d) (p ∷ Keep 0 ∷ []) x u before.0
              ∙ ap₂ (λ (l m : List ℕ). l ++ m) before.1 (one_patched p u is);
        };
    peak =
        let all : peak (drawn e) ≡ peak e.patch + e.kept = peak-drawn e.patch e.kept in
        let more : peak e.patch ≡ peak (settled d) + max (taken p) (given p) = ap peak pushed ∙ peak-pushed (settled d) p in
        let long = piece-long p u is in
        let after = piece_after-length p u long in
        omega (arith, all, more, long, after, peak-settled d, none);
    kept = omega (arith, none);
  }

-- a draft with more bytes that stay
pub adds-kept : (d e : Draft) (u : List ℕ) → e.patch ≡ d.patch → e.kept ≡ d.kept + length u → Adds d e u u
adds-kept d e u same more =
    let drawn_is : drawn e ≡ d.patch ++ Keep (d.kept + length u) ∷ [] = ap₂ (λ (ps : List PatchPiece) (k : ℕ). ps ++ Keep k ∷ []) same more in
    record {
      draws = λ x y h.
          let both = keep_more d.patch d.kept x u h.stands in
          record {
            stands = subst (λ (ps : List PatchPiece). ArePiecesOf ps (x ++ u)) (sym drawn_is) both.0;
            gives = ap (λ (ps : List PatchPiece). patched ps (x ++ u)) drawn_is ∙ both.1 ∙ ap (λ (l : List ℕ). l ++ u) h.gives;
          };
      peak =
          let before : peak (drawn d) ≡ peak d.patch + d.kept = peak-drawn d.patch d.kept in
          let after : peak (drawn e) ≡ peak d.patch + (d.kept + length u) = ap peak drawn_is ∙ peak-drawn d.patch (d.kept + length u) in
          omega (arith, before, after);
      kept = omega (arith, more);
    }

-- the same draft
pub adds-none : (d : Draft) → Adds d d [] []
adds-none d = adds-kept d d [] refl (omega arith)

-- some bytes, and then more
pub adds-then : (d e f : Draft) (x y u v : List ℕ) → Adds d e x y → Adds e f u v
    → max (length x) (length y) + max (length u) (length v) ≡ max (length x + length u) (length y + length v)
    → Adds d f (x ++ u) (y ++ v)
adds-then d e f x y u v one two level =
    let from = length-append x u in
    let to = length-append y v in
    record {
      draws = λ l m h.
          let both = two.draws (l ++ x) (m ++ y) (one.draws l m h) in
          record {
            stands = subst (ArePiecesOf (drawn f)) (append_assoc l x u) both.stands;
            gives = ap (patched (drawn f)) (sym (append_assoc l x u)) ∙ both.gives ∙ append_assoc m y v;
          };
      peak = let a = one.peak in let b = two.peak in omega (arith, from, to, level, a, b);
      kept = let a = one.kept in let b = two.kept in omega (arith, to, a, b);
    }

-- the same bytes
pub adds-as : (d e : Draft) (x y u v : List ℕ) → x ≡ u → y ≡ v → Adds d e x y → Adds d e u v
adds-as d e x y u v from_is to_is adds = subst (λ (l : List ℕ). Adds d e l v) from_is (subst (λ (l : List ℕ). Adds d e x l) to_is adds)

-- three parts, of which only the middle one changes its length
pub adds-around : (d e f g : Draft) (x x′ u v y y′ : List ℕ) → length x ≡ length x′ → length y ≡ length y′
    → Adds d e x x′ → Adds e f u v → Adds f g y y′ → Adds d g (x ++ (u ++ y)) (x′ ++ (v ++ y′))
adds-around d e f g x x′ u v y y′ front back one two three =
    let behind = length-append u y in
    let after = length-append v y′ in
    adds-then d e g x x′ (u ++ y) (v ++ y′) one (adds-then e f g u v y y′ two three (omega (arith, back))) (omega (arith, front, back, behind, after))

-- the patch that was drawn up from nothing
pub drawn_leads : (d e : Draft) (x y : List ℕ) → d.patch ≡ [] → d.kept ≡ 0 → Adds d e x y → PatchLeads (settled e) x y
drawn_leads d e x y empty none adds =
    let start : drawn d ≡ Keep 0 ∷ [] = ap₂ (λ (ps : List PatchPiece) (k : ℕ). ps ++ Keep k ∷ []) empty none in
    let nothing : Draws d [] [] = record {
      stands = subst (λ (ps : List PatchPiece). ArePiecesOf ps []) (sym start) (refl, refl);
      gives = ap (λ (ps : List PatchPiece). patched ps []) start;
    } in
    let all = settled_draws e x y (adds.draws [] [] nothing) in
    let low : peak (drawn d) ≡ 0 = ap peak start ∙ (let one = peak-cons (Keep 0) [] in omega (arith, one)) in
    record {
      stands = all.0;
      gives = all.1;
      peak = let high = adds.peak in omega (arith, low, high, peak-settled e);
    }

-- words that are rebased are a piece
pub words_piece : (bytes : List ℕ) (words from to : ℕ) → words ≡ length bytes / 2 → length bytes % 2 ≡ 0 → ((i : ℕ) → get_or bytes i 0 < 256) → IsPieceOf (Rebase words from to) bytes
words_piece bytes words from to is whole all = (omega arith, λ i d l. subst (λ (b : ℕ). b < 256) (get_or_default bytes i 0 d l) (all i))

-- bytes that are none
pub no_bytes : (bytes : List ℕ) → length bytes ≡ 0 → bytes ≡ []
no_bytes [] none = refl
no_bytes (b ∷ bytes) none = absurd (omega arith)

-- two bytes are the word that they spell
pub word_again : (bytes : List ℕ) → length bytes ≡ 2 → ((i : ℕ) → get_or bytes i 0 < 256) → word (word_at bytes 0) ≡ bytes
word_again [] two all = absurd (omega arith)
word_again (a ∷ []) two all = absurd (omega arith)
word_again (a ∷ b ∷ []) two all =
    let is : word_at (a ∷ b ∷ []) 0 ≡ a + 256 * b = omega arith in
    ap word is ∙ word-of_bytes a b (all 0) (all 1)
word_again (a ∷ b ∷ d ∷ bytes) two all = absurd (omega arith)

-- one word, rebased from what it is
pub rebased_one : (bytes : List ℕ) (from to : ℕ) → from ≡ word_at bytes 0 → rebased 1 from to bytes ≡ word to
rebased_one bytes from to is = word-same (word_at bytes 0 + to + (2 ^ 16 - from % 2 ^ 16)) to (omega (arith, is))
