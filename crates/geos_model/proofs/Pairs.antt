-- Two lists of which each element of one stands in a relation to that of the other in its place.
use Rattle.std.proofs.Common.{◌≡◌, ℕ, zero, suc, ◌<◌, List, [], ◌∷◌, ◌++◌, length, take, drop, get_or, refl, ap, arith}
use Rattle.std.specs.List.{AllZip}

module _ {A B : Type 0} (R : A → B → Type 0) where
  pub pairs-length : (xs : List A) (ys : List B) → AllZip R xs ys → length xs ≡ length ys
  pairs-length [] [] all = refl
  pairs-length [] (y ∷ ys) all = absurd all
  pairs-length (x ∷ xs) [] all = absurd all
  pairs-length (x ∷ xs) (y ∷ ys) all = ap suc (pairs-length xs ys all.1)

  pub pairs-at : (xs : List A) (ys : List B) (k : ℕ) (a : A) (b : B) → AllZip R xs ys → k < length ys → R (get_or xs k a) (get_or ys k b)
  pairs-at [] [] k a b all low = absurd (omega arith)
  pairs-at [] (y ∷ ys) k a b all low = absurd all
  pairs-at (x ∷ xs) [] k a b all low = absurd all
  pairs-at (x ∷ xs) (y ∷ ys) zero a b all low = all.0
  pairs-at (x ∷ xs) (y ∷ ys) (suc k) a b all low = pairs-at xs ys k a b all.1 (omega arith)

  pub pairs-from_at : (xs : List A) (ys : List B) (a : A) (b : B) → length xs ≡ length ys
      → ((k : ℕ) → k < length ys → R (get_or xs k a) (get_or ys k b)) → AllZip R xs ys
  pairs-from_at [] [] a b long each = tt
  pairs-from_at [] (y ∷ ys) a b long each = absurd (let none : 0 ≡ suc (length ys) = long in omega arith)
  pairs-from_at (x ∷ xs) [] a b long each = absurd (let none : suc (length xs) ≡ 0 = long in omega arith)
  pairs-from_at (x ∷ xs) (y ∷ ys) a b long each =
      let same : suc (length xs) ≡ suc (length ys) = long in
      (each zero (omega arith), pairs-from_at xs ys a b (omega arith) (λ k low. each (suc k) (omega arith)))

  pub pairs-append : (xs : List A) (ys : List B) (vs : List A) (ws : List B) → AllZip R xs ys → AllZip R vs ws → AllZip R (xs ++ vs) (ys ++ ws)
  pairs-append [] [] vs ws all more = more
  pairs-append [] (y ∷ ys) vs ws all more = absurd all
  pairs-append (x ∷ xs) [] vs ws all more = absurd all
  pairs-append (x ∷ xs) (y ∷ ys) vs ws all more = (all.0, pairs-append xs ys vs ws all.1 more)

  pub pairs-take : (n : ℕ) (xs : List A) (ys : List B) → AllZip R xs ys → AllZip R (take n xs) (take n ys)
  pairs-take zero xs ys all = tt
  pairs-take (suc n) [] [] all = tt
  pairs-take (suc n) [] (y ∷ ys) all = absurd all
  pairs-take (suc n) (x ∷ xs) [] all = absurd all
  pairs-take (suc n) (x ∷ xs) (y ∷ ys) all = (all.0, pairs-take n xs ys all.1)

  pub pairs-drop : (n : ℕ) (xs : List A) (ys : List B) → AllZip R xs ys → AllZip R (drop n xs) (drop n ys)
  pairs-drop zero xs ys all = all
  pairs-drop (suc n) [] [] all = tt
  pairs-drop (suc n) [] (y ∷ ys) all = absurd all
  pairs-drop (suc n) (x ∷ xs) [] all = absurd all
  pairs-drop (suc n) (x ∷ xs) (y ∷ ys) all = pairs-drop n xs ys all.1

-- a weaker relation, where it is known which elements there are
pub pairs-weaker : {A B : Type 0} (R S : A → B → Type 0) (xs : List A) (ys : List B) → ((x : A) (y : B) → R x y → S x y) → AllZip R xs ys → AllZip S xs ys
pairs-weaker R S [] [] weaker all = tt
pairs-weaker R S [] (y ∷ ys) weaker all = absurd all
pairs-weaker R S (x ∷ xs) [] weaker all = absurd all
pairs-weaker R S (x ∷ xs) (y ∷ ys) weaker all = (weaker x y all.0, pairs-weaker R S xs ys weaker all.1)
