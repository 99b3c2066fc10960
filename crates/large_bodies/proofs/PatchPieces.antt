-- Pieces of a patch behind others, and what they lead to together.
use Rattle.std.proofs.Common.{◌≡◌, ◌≤◌, ◌+◌, ◌++◌, ◌∷◌, ◌∙◌, ℕ, max, List, [], length, take, drop, sym, ap, ap₂, subst, append_assoc, length-append, arith}
use Rattle.std.proofs.lemmas.List.{take-append-le, drop-append-le}
use Rattle.std.proofs.lemmas.List.Sums.{sum_by-append}
use Rattle.chunk_edits.specs.Patching.{PatchPiece, taken, given, held_by, peak, total_held, piece_after, patched, IsPieceOf, ArePiecesOf}
use Rattle.chunk_edits.proofs.PatchingLemmas.{taken-cons, pieces_length}
use Rattle.large_bodies.specs.Patches.{AddsPieces}

-- pieces of some bytes, and more pieces of the bytes behind them
module _ (p : PatchPiece) (ps : List PatchPiece) (x u : List ℕ) (are : ArePiecesOf (p ∷ ps) x) where
  first_within : taken p ≤ length x
  first_within = omega (arith, pieces_length (p ∷ ps) x are, taken-cons p ps)

  first_same : take (taken p) (x ++ u) ≡ take (taken p) x
  first_same = take-append-le (taken p) x u first_within

  behind_same : drop (taken p) (x ++ u) ≡ drop (taken p) x ++ u
  behind_same = drop-append-le (taken p) x u first_within

pieces-append : (ps qs : List PatchPiece) (x u : List ℕ) → ArePiecesOf ps x → ArePiecesOf qs u → ArePiecesOf (ps ++ qs) (x ++ u)
pieces-append [] qs x u are more = subst (λ (l : List ℕ). ArePiecesOf qs (l ++ u)) (sym are) more
pieces-append (p ∷ ps) qs x u are more = (
  subst (IsPieceOf p) (sym (first_same p ps x u are)) are.0,
  subst (ArePiecesOf (ps ++ qs)) (sym (behind_same p ps x u are)) (pieces-append ps qs (drop (taken p) x) u are.1 more),
)

patched-append : (ps qs : List PatchPiece) (x u : List ℕ) → ArePiecesOf ps x → patched (ps ++ qs) (x ++ u) ≡ patched ps x ++ patched qs u
patched-append [] qs x u are = ap (λ (l : List ℕ). patched qs (l ++ u)) are ∙ ap (λ (l : List ℕ). l ++ patched qs u) (sym are)
patched-append (p ∷ ps) qs x u are =
    ap₂ (λ (l m : List ℕ). piece_after p l ++ patched (ps ++ qs) m) (first_same p ps x u are) (behind_same p ps x u are)
    ∙ ap (λ (l : List ℕ). piece_after p (take (taken p) x) ++ l) (patched-append ps qs (drop (taken p) x) u are.1)
    ∙ sym (append_assoc (piece_after p (take (taken p) x)) (patched ps (drop (taken p) x)) (patched qs u))

peak-append : (ps qs : List PatchPiece) → peak (ps ++ qs) ≡ peak ps + peak qs
peak-append ps qs = sum_by-append (λ q. max (taken q) (given q)) ps qs

held-append : (ps qs : List PatchPiece) → total_held (ps ++ qs) ≡ total_held ps + total_held qs
held-append ps qs = sum_by-append held_by ps qs

-- the same, of bytes that are equal
pub adds-as : (a b : List PatchPiece) (x y u v : List ℕ) (m n : ℕ) → x ≡ u → y ≡ v → m ≡ n → AddsPieces a b x y m → AddsPieces a b u v n
adds-as a b x y u v m n from to count adds =
    subst (λ (k : ℕ). AddsPieces a b u v k) count (subst (λ (l : List ℕ). AddsPieces a b l v m) from (subst (λ (l : List ℕ). AddsPieces a b x l m) to adds))

-- some, and then more
pub adds-then : (a b c : List PatchPiece) (x y u v : List ℕ) (m n : ℕ) → AddsPieces a b x y m → AddsPieces b c u v n
    → max (length x) (length y) + max (length u) (length v) ≡ max (length x + length u) (length y + length v)
    → AddsPieces a c (x ++ u) (y ++ v) (m + n)
adds-then a b c x y u v m n one two level = record {
  more = one.more ++ two.more;
  joined = two.joined ∙ ap (λ (ps : List PatchPiece). ps ++ two.more) one.joined ∙ append_assoc a one.more two.more;
  leads = record {
    stands = pieces-append one.more two.more x u one.leads.stands two.leads.stands;
    gives = patched-append one.more two.more x u one.leads.stands ∙ ap₂ (λ (k l : List ℕ). k ++ l) one.leads.gives two.leads.gives;
    peak = let p = one.leads.peak in let q = two.leads.peak in omega (arith, p, q, level, peak-append one.more two.more, length-append x u, length-append y v);
  };
  holds = let p = one.holds in let q = two.holds in omega (arith, p, q, held-append one.more two.more);
}

-- three parts, of which only the middle one changes its length
pub adds-around : (a b c d : List PatchPiece) (x x′ u v y y′ : List ℕ) (m : ℕ) → length x ≡ length x′ → length y ≡ length y′
    → AddsPieces a b x x′ 0 → AddsPieces b c u v m → AddsPieces c d y y′ 0 → AddsPieces a d (x ++ u ++ y) (x′ ++ v ++ y′) m
adds-around a b c d x x′ u v y y′ m front back one two three =
    let behind = length-append u y in
    let after = length-append v y′ in
    let alone : 0 + (m + 0) ≡ m = omega arith in
    adds-as a d (x ++ (u ++ y)) (x′ ++ (v ++ y′)) (x ++ u ++ y) (x′ ++ v ++ y′) (0 + (m + 0)) m (sym (append_assoc x u y)) (sym (append_assoc x′ v y′)) alone
    (adds-then a b d x x′ (u ++ y) (v ++ y′) 0 (m + 0) one (adds-then b c d u v y y′ m 0 two three (omega (arith, back))) (omega (arith, front, back, behind, after)))

-- Pieces of three regions are a patch of all bytes.
pub record LeadsByRegions (ps : List PatchPiece) (from to : List ℕ) (most held : ℕ) : Type 0 where
  pub stands : ArePiecesOf ps from
  pub gives : patched ps from ≡ to
  pub peak : peak ps ≡ most
  pub holds : total_held ps ≡ held

module _ (n a b c : List PatchPiece) (h h′ t t′ r r′ : List ℕ) (i j k : ℕ) (none : n ≡ []) (one : AddsPieces n a h h′ i) (two : AddsPieces a b t t′ j) (three : AddsPieces b c r r′ k) where
  all_pieces : c ≡ one.more ++ two.more ++ three.more
  all_pieces =
      three.joined ∙ ap (λ (ps : List PatchPiece). ps ++ three.more)
      (two.joined ∙ ap (λ (ps : List PatchPiece). ps ++ two.more) (one.joined ∙ ap (λ (ps : List PatchPiece). ps ++ one.more) none))

  first_two : ArePiecesOf (one.more ++ two.more) (h ++ t)
  first_two = pieces-append one.more two.more h t one.leads.stands two.leads.stands

  pub regions_led : LeadsByRegions c (h ++ t ++ r) (h′ ++ t′ ++ r′) (max (length h) (length h′) + max (length t) (length t′) + max (length r) (length r′)) (i + j + k)
  regions_led = record {
    stands = subst (λ (ps : List PatchPiece). ArePiecesOf ps (h ++ t ++ r)) (sym all_pieces) (pieces-append (one.more ++ two.more) three.more (h ++ t) r first_two three.leads.stands);
    gives =
        ap (λ (ps : List PatchPiece). patched ps (h ++ t ++ r)) all_pieces
        ∙ patched-append (one.more ++ two.more) three.more (h ++ t) r first_two
        ∙ ap₂ (λ (l m : List ℕ). l ++ m)
        (patched-append one.more two.more h t one.leads.stands ∙ ap₂ (λ (l m : List ℕ). l ++ m) one.leads.gives two.leads.gives) three.leads.gives;
    peak =
        let p = one.leads.peak in let q = two.leads.peak in let s = three.leads.peak in
        omega (arith, p, q, s, ap peak all_pieces, peak-append (one.more ++ two.more) three.more, peak-append one.more two.more);
    holds =
        let p = one.holds in let q = two.holds in let s = three.holds in
        omega (arith, p, q, s, ap total_held all_pieces, held-append (one.more ++ two.more) three.more, held-append one.more two.more);
  }
