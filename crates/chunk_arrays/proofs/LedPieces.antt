-- Pieces that lead from some bytes to others.
use Rattle.std.proofs.Common.{◌≡◌, ℕ, List, [], ◌∷◌, ◌++◌, length, take, drop, refl, ap, ap₂, sym, subst, ◌∙◌, arith, append-nil, length-append, take_at, drop_at}
use Rattle.std.proofs.lemmas.List.{take_all, drop_all}
use Rattle.chunk_edits.specs.Patching.{PatchPiece, Keep, Put, patched, ArePiecesOf, PatchLeads}
use Rattle.chunk_edits.proofs.PatchingLemmas.{peak-cons}

-- bytes in front that become as many others
pub put-first : (b x : List ℕ) (ps : List PatchPiece) (u v : List ℕ) → length b ≡ length x → PatchLeads ps u v → PatchLeads (Put b x ∷ ps) (b ++ u) (x ++ v)
put-first b x ps u v level leads =
    let first : take (length b) (b ++ u) ≡ b = take_at b u (length b) refl in
    let rest : drop (length b) (b ++ u) ≡ u = drop_at b u (length b) refl in
    let high = peak-cons (Put b x) ps in
    let low = leads.peak in
    let from = length-append b u in
    let to = length-append x v in
    record {
      stands = (first, subst (ArePiecesOf ps) (sym rest) leads.stands);
      gives = ap (λ (y : List ℕ). x ++ patched ps y) rest ∙ ap (λ (y : List ℕ). x ++ y) leads.gives;
      peak = omega arith;
    }

-- Some bytes in the middle are others then.
pub middle-leads : (a b c x : List ℕ) → PatchLeads (Keep (length a) ∷ Put b x ∷ Keep (length c) ∷ []) (a ++ (b ++ c)) (a ++ (x ++ c))
middle-leads a b c x =
    let p : List PatchPiece = Put b x ∷ Keep (length c) ∷ [] in
    let q : List PatchPiece = Keep (length c) ∷ [] in
    let first : take (length a) (a ++ (b ++ c)) ≡ a = take_at a (b ++ c) (length a) refl in
    let rest : drop (length a) (a ++ (b ++ c)) ≡ b ++ c = drop_at a (b ++ c) (length a) refl in
    let next : take (length b) (b ++ c) ≡ b = take_at b c (length b) refl in
    let last : drop (length b) (b ++ c) ≡ c = drop_at b c (length b) refl in
    let all : take (length c) c ≡ c = take_all (length c) c (omega arith) in
    let none : drop (length c) c ≡ [] = drop_all (length c) c (omega arith) in
    let end : ArePiecesOf q c = (ap length all, none) in
    let back : ArePiecesOf p (b ++ c) = (next, subst (ArePiecesOf q) (sym last) end) in
    let from = length-append a (b ++ c) in
    let from_behind = length-append b c in
    let to = length-append a (x ++ c) in
    let to_behind = length-append x c in
    let high = peak-cons (Keep (length a)) p in
    let low = peak-cons (Put b x) q in
    let least = peak-cons (Keep (length c)) [] in
    record {
      stands = (ap length first, subst (ArePiecesOf p) (sym rest) back);
      gives =
          ap₂ (λ (u v : List ℕ). u ++ patched p v) first rest
          ∙ ap (λ (v : List ℕ). a ++ (x ++ patched q v)) last
          ∙ ap₂ (λ (u v : List ℕ). a ++ (x ++ (u ++ v))) all none
          ∙ ap (λ (v : List ℕ). a ++ (x ++ v)) (append-nil c);
      peak = omega arith;
    }
