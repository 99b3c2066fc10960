-- A turn of the loop that puts one list over the start of another.
use Rattle.std.proofs.Common.{◌≡◌, ◌++◌, ◌+◌, ◌<◌, ◌∙◌, ◌∷◌, [], ℕ, List, length, take, drop, min, get_or, set, ap, sym, subst, suc, arith}
use Rattle.std.proofs.Math.Seq.{drop-cons, set-append_seam, take-suc}
use Rattle.std.proofs.lemmas.List.{append_assoc, length-take}

pub put_next : {X : Type 0} (xs old : List X) (i : ℕ) (d : X) → i < length xs → i < length old
    → set (take i xs ++ drop i old) i (get_or xs i d) ≡ take (i + 1) xs ++ drop (i + 1) old
put_next {X} xs old i d within fits =
    let x : X = get_or xs i d in
    let y : X = get_or old i d in
    let rest : List X = drop (suc i) old in
    let behind : drop i old ≡ y ∷ rest = drop-cons old i d fits in
    let next : suc i ≡ i + 1 = omega arith in
    let short : min i (length xs) ≡ i = omega arith in
    let long : length (take i xs) ≡ i = length-take i xs ∙ short in
    let put : set (take i xs ++ y ∷ rest) i x ≡ take i xs ++ x ∷ rest =
    subst (λ (n : ℕ). set (take i xs ++ y ∷ rest) n x ≡ take i xs ++ x ∷ rest) long (set-append_seam (take i xs) y rest x) in
    let is : set (take i xs ++ drop i old) i x ≡ take (suc i) xs ++ rest =
    ap (λ (l : List X). set (take i xs ++ l) i x) behind ∙ put ∙ sym (append_assoc (take i xs) (x ∷ []) rest)
    ∙ ap (λ (l : List X). l ++ rest) (sym (take-suc xs i d within)) in
    subst (λ (n : ℕ). set (take i xs ++ drop i old) i x ≡ take n xs ++ drop n old) next is
