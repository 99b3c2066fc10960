-- Texts, one behind the other.
use Rattle.std.proofs.Common.{◌≡◌, ℕ, ◌+◌, ◌<◌, List, [], ◌∷◌, ◌++◌, length, take, map, flat_map, get_or, Option, Result, Ok, Err, refl, sym, subst, ap, ◌∙◌, append_assoc, append-nil, add-one}
use Rattle.std.specs.Prelude.{if◌then◌else◌, is_ok, OnOk}
use Rattle.std.specs.List.{range_with_len}
use Rattle.std.specs.Io.KnownBytes.{Appends}
use Rattle.std.proofs.KnownBytes.{Appends-nil, Appends-trans}
use Rattle.std.proofs.lemmas.List.{take_more}
use Rattle.std.proofs.lemmas.List.Concat.{flat_map-append}
use Rattle.file_map.proofs.RowLemmas.{flat_more, map_more}

flat_take : {X : Type 0} (f : X → List ℕ) (xs : List X) (i : ℕ) (d : X) → i < length xs → flat_map f (take (i + 1) xs) ≡ flat_map f (take i xs) ++ f (get_or xs i d)
flat_take {X} f xs i d within =
    ap (flat_map f) (take_more xs i d within) ∙ flat_map-append f (take i xs) (get_or xs i d ∷ []) ∙ ap (λ (l : List ℕ). flat_map f (take i xs) ++ l) (append-nil (f (get_or xs i d)))

flat_range : (f : ℕ → List ℕ) (a n j : ℕ) → a + n ≡ j → flat_map f (range_with_len a (n + 1)) ≡ flat_map f (range_with_len a n) ++ f j
flat_range f a n j at = rw add-one (flat_more f a n ∙ ap (λ k. flat_map f (range_with_len a n) ++ f k) at)

-- one more text into a list, and to a writer

pub pushed_take : {X : Type 0} (f : X → List ℕ) (xs : List X) (i : ℕ) (d : X) (start now new : List ℕ) → i < length xs → now ≡ start ++ flat_map f (take i xs) → new ≡ now ++ f (get_or xs i d)
    → new ≡ start ++ flat_map f (take (i + 1) xs)
pushed_take {X} f xs i d start now new within so_far more =
    more ∙ ap (λ (l : List ℕ). l ++ f (get_or xs i d)) so_far ∙ append_assoc start (flat_map f (take i xs)) (f (get_or xs i d)) ∙ ap (λ (l : List ℕ). start ++ l) (sym (flat_take f xs i d within))

pub pushed_range : (f : ℕ → List ℕ) (a n j : ℕ) (start now new : List ℕ) → a + n ≡ j → now ≡ start ++ flat_map f (range_with_len a n) → new ≡ now ++ f j
    → new ≡ start ++ flat_map f (range_with_len a (n + 1))
pushed_range f a n j start now new at so_far more =
    more ∙ ap (λ (l : List ℕ). l ++ f j) so_far ∙ append_assoc start (flat_map f (range_with_len a n)) (f j) ∙ ap (λ (l : List ℕ). start ++ l) (sym (flat_range f a n j at))

pub pushed_map : (f : ℕ → ℕ) (a n j : ℕ) (start now new : List ℕ) → a + n ≡ j → now ≡ start ++ map f (range_with_len a n) → new ≡ now ++ f j ∷ []
    → new ≡ start ++ map f (range_with_len a (n + 1))
pushed_map f a n j start now new at so_far more =
    let next : map f (range_with_len a (n + 1)) ≡ map f (range_with_len a n) ++ f j ∷ [] = rw add-one (map_more f a n ∙ ap (λ k. map f (range_with_len a n) ++ f k ∷ []) at) in
    more ∙ ap (λ (l : List ℕ). l ++ f j ∷ []) so_far ∙ append_assoc start (map f (range_with_len a n)) (f j ∷ []) ∙ ap (λ (l : List ℕ). start ++ l) (sym next)

pub sent_take : {X : Type 0} (f : X → List ℕ) (xs : List X) (i : ℕ) (d : X) (from mid to : Option (List ℕ)) → i < length xs → Appends from mid (flat_map f (take i xs)) → Appends mid to (f (get_or xs i d))
    → Appends from to (flat_map f (take (i + 1) xs))
sent_take {X} f xs i d from mid to within so_far more =
    subst (Appends from to) (sym (flat_take f xs i d within)) (Appends-trans from mid to (flat_map f (take i xs)) (f (get_or xs i d)) so_far more)

pub sent_range : (f : ℕ → List ℕ) (a n j : ℕ) (from mid to : Option (List ℕ)) → a + n ≡ j → Appends from mid (flat_map f (range_with_len a n)) → Appends mid to (f j)
    → Appends from to (flat_map f (range_with_len a (n + 1)))
sent_range f a n j from mid to at so_far more =
    subst (Appends from to) (sym (flat_range f a n j at)) (Appends-trans from mid to (flat_map f (range_with_len a n)) (f j) so_far more)

-- a part of a whole text has gone out, and this is the rest
pub record Gone (from to : Option (List ℕ)) (rest whole : List ℕ) : Type 0 where
  pub so_far : List ℕ
  pub appends : Appends from to so_far
  pub is : so_far ++ rest ≡ whole

pub gone_none : (from : Option (List ℕ)) (whole : List ℕ) → Gone from from whole whole
gone_none from whole = record { so_far = []; appends = Appends-nil from; is = refl }

pub gone_more : (from mid to : Option (List ℕ)) (step rest whole : List ℕ) → Gone from mid (step ++ rest) whole → Appends mid to step → Gone from to rest whole
gone_more from mid to step rest whole g more = record {
  so_far = g.so_far ++ step;
  appends = Appends-trans from mid to g.so_far step g.appends more;
  is = append_assoc g.so_far step rest ∙ g.is;
}

pub gone_all : (from to : Option (List ℕ)) (whole : List ℕ) → Gone from to [] whole → Appends from to whole
gone_all from to whole g = subst (Appends from to) (sym (append-nil g.so_far) ∙ g.is) g.appends

-- Some texts into a list.

pub extended : {E : Type 0} (r : Result (Unit {0}) E) (new old more : List ℕ) → new ≡ (if is_ok r then old ++ more else old) → OnOk r (new ≡ old ++ more)
extended (Ok u) new old more is = is
extended (Err e) new old more is = tt

pub glued2 : (o0 o1 o2 a b : List ℕ) → o1 ≡ o0 ++ a → o2 ≡ o1 ++ b → o2 ≡ o0 ++ (a ++ b)
glued2 o0 o1 o2 a b p q = q ∙ ap (λ (l : List ℕ). l ++ b) p ∙ append_assoc o0 a b

pub glued3 : (o0 o1 o2 o3 a b c : List ℕ) → o1 ≡ o0 ++ a → o2 ≡ o1 ++ b → o3 ≡ o2 ++ c → o3 ≡ o0 ++ ((a ++ b) ++ c)
glued3 o0 o1 o2 o3 a b c p q r = glued2 o0 o2 o3 (a ++ b) c (glued2 o0 o1 o2 a b p q) r

pub glued4 : (o0 o1 o2 o3 o4 a b c d : List ℕ) → o1 ≡ o0 ++ a → o2 ≡ o1 ++ b → o3 ≡ o2 ++ c → o4 ≡ o3 ++ d → o4 ≡ o0 ++ (((a ++ b) ++ c) ++ d)
glued4 o0 o1 o2 o3 o4 a b c d p q r s = glued2 o0 o3 o4 ((a ++ b) ++ c) d (glued3 o0 o1 o2 o3 a b c p q r) s

pub glued6 : (o0 o1 o2 o3 o4 o5 o6 a b c d e f : List ℕ) → o1 ≡ o0 ++ a → o2 ≡ o1 ++ b → o3 ≡ o2 ++ c → o4 ≡ o3 ++ d → o5 ≡ o4 ++ e → o6 ≡ o5 ++ f
    → o6 ≡ o0 ++ (((((a ++ b) ++ c) ++ d) ++ e) ++ f)
glued6 o0 o1 o2 o3 o4 o5 o6 a b c d e f p q r s t u =
    glued3 o0 o4 o5 o6 (((a ++ b) ++ c) ++ d) e f (glued4 o0 o1 o2 o3 o4 a b c d p q r s) t u

-- Texts to a writer, one behind the other.

pub sent3 : (w0 w1 w2 w3 : Option (List ℕ)) (a b c : List ℕ) → Appends w0 w1 a → Appends w1 w2 b → Appends w2 w3 c → Appends w0 w3 ((a ++ b) ++ c)
sent3 w0 w1 w2 w3 a b c p q r = Appends-trans w0 w2 w3 (a ++ b) c (Appends-trans w0 w1 w2 a b p q) r

pub sent5 : (w0 w1 w2 w3 w4 w5 : Option (List ℕ)) (a b c d e : List ℕ) → Appends w0 w1 a → Appends w1 w2 b → Appends w2 w3 c → Appends w3 w4 d → Appends w4 w5 e
    → Appends w0 w5 ((((a ++ b) ++ c) ++ d) ++ e)
sent5 w0 w1 w2 w3 w4 w5 a b c d e p q r s t = sent3 w0 w3 w4 w5 ((a ++ b) ++ c) d e (sent3 w0 w1 w2 w3 a b c p q r) s t

-- what was put into an empty list
pub filled_out : (o0 o1 out a : List ℕ) → o0 ≡ [] → o1 ≡ o0 ++ a → out ≡ o1 → out ≡ a
filled_out o0 o1 out a none more is = is ∙ more ∙ ap (λ (l : List ℕ). l ++ a) none
