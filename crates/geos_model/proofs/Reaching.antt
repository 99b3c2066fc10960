-- Places one after another: they can be put together and taken back.
use Rattle.std.proofs.Common.{◌≡◌, ℕ, suc, zero, ◌+◌, ◌-◌, ◌≤◌, Bool, true, false, ◌==◌, ◌&&◌, if◌then◌else◌, List, [], ◌∷◌, ◌++◌, length, take, drop, map, replicate, Option, Some, None, IfSome, refl, sym, ap, ap₂, subst, ◌∙◌, arith, length-append, append_assoc, drop-drop, take_at, drop_at, length-take-le, length-drop}
use Rattle.std.proofs.lemmas.Bool.{and_parts, and_from, eqb-true, eq-eqb}
use Rattle.std.proofs.lemmas.List.{take-append-drop, reverse-append}
use Rattle.std.specs.List.{splice}
use Rattle.std.specs.Option.{option_map}
use Rattle.geos_model.specs.Document.{Document}
use Rattle.geos_model.specs.Places.{attributes_under, text_under, Holed, without_holes, with_hole, with_holes, AreBytes, IsText, Stands, ChangesAt, inverse, taken_back}
use Rattle.geos_model.specs.declared.place.Place.{Place}
use Rattle.geos_model.specs.declared.place.Place.TheVariants as place
use Rattle.geos_model.proofs.Places.{if_picked, text-is, text-same, bytes-replaced, bytes-spliced}

-- what holds of what a condition didn't pick
if_off : {X : Type 0} (P : X → Type 0) (c : Bool) (o q : Option X) → c ≡ false → IfSome (if c then o else q) P → IfSome q P
if_off P true o q e holds = absurd (cc e)
if_off P false o q e holds = holds

if_on : {X : Type 0} (P : X → Type 0) (c : Bool) (o q : Option X) → c ≡ true → IfSome (if c then o else q) P → IfSome o P
if_on P true o q e holds = holds
if_on P false o q e holds = absurd (cc e)

-- Bytes without holes are these.

bytes-eq : (xs ys : List ℕ) → AreBytes (map Some xs) ys → ys ≡ xs
bytes-eq [] [] a = refl
bytes-eq [] (y ∷ ys) a = absurd a
bytes-eq (x ∷ xs) [] a = absurd a
bytes-eq (x ∷ xs) (y ∷ ys) a = ap₂ (λ (l : ℕ) (ls : List ℕ). l ∷ ls) a.0 (bytes-eq xs ys a.1)

text-eq : (o q : Option (List ℕ)) → IsText (option_map (map Some) o) q → q ≡ o
text-eq None None a = refl
text-eq None (Some ys) a = absurd a
text-eq (Some xs) None a = absurd a
text-eq (Some xs) (Some ys) a = ap Some (bytes-eq xs ys a)

bytes-length : (m : ℕ) (ys : List ℕ) → AreBytes (replicate m None) ys → length ys ≡ m
bytes-length zero [] a = refl
bytes-length zero (y ∷ ys) a = absurd a
bytes-length (suc m) [] a = absurd a
bytes-length (suc m) (y ∷ ys) a = ap suc (bytes-length m ys a.1)

bytes-split : (ts us : List (Option ℕ)) (ys : List ℕ) → AreBytes (ts ++ us) ys → (l : List ℕ) × (r : List ℕ) × (ys ≡ l ++ r) × AreBytes ts l × AreBytes us r
bytes-split [] us ys a = ([], ys, refl, tt, a)
bytes-split (t ∷ ts) us [] a = absurd a
bytes-split (t ∷ ts) us (y ∷ ys) a =
    let rest = bytes-split ts us ys a.1 in
    (y ∷ rest.0, rest.1, ap (λ (l : List ℕ). y ∷ l) rest.2, (a.0, rest.3), rest.4)

take-some : (i : ℕ) (xs : List ℕ) → take i (map Some xs) ≡ map Some (take i xs)
take-some zero xs = refl
take-some (suc i) [] = refl
take-some (suc i) (x ∷ xs) = ap (λ (l : List (Option ℕ)). Some x ∷ l) (take-some i xs)

drop-some : (i : ℕ) (xs : List ℕ) → drop i (map Some xs) ≡ map Some (drop i xs)
drop-some zero xs = refl
drop-some (suc i) [] = refl
drop-some (suc i) (x ∷ xs) = drop-some i xs

-- bytes with a run of holes are those with a run replaced
bytes-decomposed : (xs ys : List ℕ) (i j m : ℕ) → AreBytes (splice (map Some xs) i j (replicate m None)) ys → (new : List ℕ) × (ys ≡ splice xs i j new) × (length new ≡ m)
bytes-decomposed xs ys i j m a =
    let outer = bytes-split (take i (map Some xs)) (replicate m None ++ drop j (map Some xs)) ys a in
    let inner = bytes-split (replicate m None) (drop j (map Some xs)) outer.1 outer.4 in
    let first : outer.0 ≡ take i xs = bytes-eq (take i xs) outer.0 (subst (λ (t : List (Option ℕ)). AreBytes t outer.0) (take-some i xs) outer.3) in
    let last : inner.1 ≡ drop j xs = bytes-eq (drop j xs) inner.1 (subst (λ (t : List (Option ℕ)). AreBytes t inner.1) (drop-some j xs) inner.4) in (
      inner.0,
      outer.2 ∙ ap₂ (λ (l r : List ℕ). l ++ r) first (inner.2 ∙ ap (λ (r : List ℕ). inner.0 ++ r) last),
      bytes-length m inner.0 inner.3,
    )

-- a run replaced in bytes of which some are known
bytes-through : (ts : List (Option ℕ)) (xs ys : List ℕ) (i j m : ℕ) → AreBytes ts xs → AreBytes (splice (map Some xs) i j (replicate m None)) ys → AreBytes (splice ts i j (replicate m None)) ys
bytes-through ts xs ys i j m a b =
    let found = bytes-decomposed xs ys i j m b in
    subst (AreBytes (splice ts i j (replicate m None))) (sym found.1) (bytes-replaced ts xs i j m found.0 a found.2)

-- a run that is within the bytes can be taken back
bytes-turned : (xs ys : List ℕ) (at n m : ℕ) → at + n ≤ length xs → AreBytes (splice (map Some xs) at (at + n) (replicate m None)) ys
    → AreBytes (splice (map Some ys) at (at + m) (replicate n None)) xs × (at + m ≤ length ys)
bytes-turned xs ys at n m within a =
    let found = bytes-decomposed xs ys at (at + n) m a in
    let new : List ℕ = found.0 in
    let rest : List ℕ = drop (at + n) xs in
    let was : List ℕ = take n (drop at xs) in
    let front : length (take at xs) ≡ at = length-take-le at xs (omega (arith, within)) in
    let left : length (drop at xs) ≡ length xs - at = length-drop at xs in
    let back : length was ≡ n = length-take-le n (drop at xs) (omega (arith, within, left)) in
    let begins : take at ys ≡ take at xs = ap (take at) found.1 ∙ take_at (take at xs) (new ++ rest) at front in
    let joined : length (take at xs ++ new) ≡ at + m = length-append (take at xs) new ∙ omega (arith, front, found.2) in
    let ends : drop (at + m) ys ≡ rest =
    ap (drop (at + m)) (found.1 ∙ sym (append_assoc (take at xs) new rest)) ∙ drop_at (take at xs ++ new) rest (at + m) joined in
    let middle : drop at xs ≡ was ++ rest = sym (take-append-drop n (drop at xs)) ∙ ap (λ (l : List ℕ). was ++ l) (drop-drop n at xs) in
    let again : xs ≡ splice ys at (at + m) was =
    sym (take-append-drop at xs) ∙ ap₂ (λ (l r : List ℕ). l ++ r) (sym begins) (middle ∙ ap (λ (l : List ℕ). was ++ l) (sym ends)) in
    let whole : length ys ≡ at + m + length rest =
    ap length (found.1 ∙ sym (append_assoc (take at xs) new rest)) ∙ length-append (take at xs ++ new) rest ∙ ap (λ (k : ℕ). k + length rest) joined in
    (subst (AreBytes (splice (map Some ys) at (at + m) (replicate n None))) (sym again) (bytes-spliced ys at (at + m) n was back), omega (arith, whole))

-- The run of a place is within the text.
abbrev pub IsWithin : Place → Document → Type 0
IsWithin (place.Run b c at before after) d = (bytes : List ℕ) × (text_under d b.0 c.0 ≡ Some bytes) × (at + before ≤ length bytes)
IsWithin p d = Unit {0}

-- One place after others.

-- the text where a run is
run-through : (o : Option (Option (List (Option ℕ)))) (q r : Option (List ℕ)) (i j m : ℕ) → IfSome o (λ t. IsText t q)
    → IsText (option_map (λ t. splice t i j (replicate m None)) (option_map (map Some) q)) r
    → IfSome (option_map (option_map (λ t. splice t i j (replicate m None))) o) (λ t. IsText t r)
run-through None q r i j m a b = tt
run-through (Some None) None r i j m a b = b
run-through (Some None) (Some xs) r i j m a b = absurd a
run-through (Some (Some ts)) None r i j m a b = absurd a
run-through (Some (Some ts)) (Some xs) None i j m a b = absurd b
run-through (Some (Some ts)) (Some xs) (Some ys) i j m a b = bytes-through ts xs ys i j m a b

same-text : (o : Option (Option (List (Option ℕ)))) (q r : Option (List ℕ)) → IfSome o (λ t. IsText t q) → r ≡ q → IfSome o (λ t. IsText t r)
same-text o q r a is = subst (λ (x : Option (List ℕ)). IfSome o (λ t. IsText t x)) (sym is) a

pub one_more : (p : Place) (h : Holed) (mid e : Document) → Stands h mid → ChangesAt (p ∷ []) mid e → Stands (with_hole p h) e
one_more place.MapBlock h mid e a b = record {
  map_block = tt;
  attributes = λ x. subst (λ o. IfSome (h.attributes x) (λ q. o ≡ q)) (sym (b.attributes x)) (a.attributes x);
  text = λ x y. same-text (h.text x y) (text_under mid x y) (text_under e x y) (a.text x y) (text-eq (text_under mid x y) (text_under e x y) (b.text x y));
}
one_more (place.Attributes k) h mid e a b = record {
  map_block = subst (λ n. IfSome h.map_block (λ q. n ≡ q)) (sym b.map_block) a.map_block;
  attributes = λ x. if_picked _ (x == k.0) None (h.attributes x) (λ held. tt) (λ off.
      subst (λ o. IfSome (h.attributes x) (λ q. o ≡ q)) (sym (if_off _ (x == k.0) None (Some (attributes_under mid x)) off (b.attributes x))) (a.attributes x));
  text = λ x y. same-text (h.text x y) (text_under mid x y) (text_under e x y) (a.text x y) (text-eq (text_under mid x y) (text_under e x y) (b.text x y));
}
one_more (place.Block k) h mid e a b = record {
  map_block = subst (λ n. IfSome h.map_block (λ q. n ≡ q)) (sym b.map_block) a.map_block;
  attributes = λ x. if_picked _ (x == k.0) None (h.attributes x) (λ held. tt) (λ off.
      subst (λ o. IfSome (h.attributes x) (λ q. o ≡ q)) (sym (if_off _ (x == k.0) None (Some (attributes_under mid x)) off (b.attributes x))) (a.attributes x));
  text = λ x y. if_picked _ (x == k.0) None (h.text x y) (λ held. tt) (λ off.
      same-text (h.text x y) (text_under mid x y) (text_under e x y) (a.text x y)
      (text-eq (text_under mid x y) (text_under e x y) (if_off _ (x == k.0) None (Some (option_map (map Some) (text_under mid x y))) off (b.text x y))));
}
one_more (place.Chunk k c) h mid e a b = record {
  map_block = subst (λ n. IfSome h.map_block (λ q. n ≡ q)) (sym b.map_block) a.map_block;
  attributes = λ x. subst (λ o. IfSome (h.attributes x) (λ q. o ≡ q)) (sym (b.attributes x)) (a.attributes x);
  text = λ x y. if_picked _ (x == k.0 && y == c.0) None (h.text x y) (λ held. tt) (λ off.
      same-text (h.text x y) (text_under mid x y) (text_under e x y) (a.text x y)
      (text-eq (text_under mid x y) (text_under e x y) (if_off _ (x == k.0 && y == c.0) None (Some (option_map (map Some) (text_under mid x y))) off (b.text x y))));
}
one_more (place.Run k c at n m) h mid e a b = record {
  map_block = subst (λ n. IfSome h.map_block (λ q. n ≡ q)) (sym b.map_block) a.map_block;
  attributes = λ x. subst (λ o. IfSome (h.attributes x) (λ q. o ≡ q)) (sym (b.attributes x)) (a.attributes x);
  text = λ x y.
      let whole : Option (Option (List (Option ℕ))) = Some (option_map (map Some) (text_under mid x y)) in
      let moved : Option (Option (List (Option ℕ))) = option_map (option_map (λ t. splice t at (at + n) (replicate m None))) whole in
      if_picked _ (x == k.0 && y == c.0) (option_map (option_map (λ t. splice t at (at + n) (replicate m None))) (h.text x y)) (h.text x y)
      (λ held. run-through (h.text x y) (text_under mid x y) (text_under e x y) at (at + n) m (a.text x y) (if_on _ (x == k.0 && y == c.0) moved whole held (b.text x y)))
      (λ off. same-text (h.text x y) (text_under mid x y) (text_under e x y) (a.text x y)
      (text-eq (text_under mid x y) (text_under e x y) (if_off _ (x == k.0 && y == c.0) moved whole off (b.text x y))));
}
one_more place.All h mid e a b = record { map_block = tt; attributes = λ x. tt; text = λ x y. tt }

-- Taking one place back.

run-back : (q r : Option (List ℕ)) (xs : List ℕ) (at n m : ℕ) → q ≡ Some xs → at + n ≤ length xs
    → IsText (option_map (λ t. splice t at (at + n) (replicate m None)) (option_map (map Some) q)) r
    → (ys : List ℕ) × (r ≡ Some ys) × (at + m ≤ length ys) × IsText (option_map (λ t. splice t at (at + m) (replicate n None)) (option_map (map Some) r)) q
run-back None r xs at n m is within a = absurd (cc is)
run-back (Some zs) None xs at n m is within a = absurd a
run-back (Some zs) (Some ys) xs at n m is within a =
    let same : zs ≡ xs = cc is in
    let low : at + n ≤ length zs = subst (λ (l : List ℕ). at + n ≤ length l) (sym same) within in
    let back = bytes-turned zs ys at n m low a in
    (ys, refl, back.1, back.0)

pub one_back : (p : Place) (d e : Document) → IsWithin p d → ChangesAt (p ∷ []) d e → ChangesAt (inverse p ∷ []) e d × IsWithin (inverse p) e
one_back place.MapBlock d e within b = (
  record {
    map_block = tt;
    attributes = λ x. sym (b.attributes x);
    text = λ x y. text-is (text_under e x y) (text_under d x y) (sym (text-eq (text_under d x y) (text_under e x y) (b.text x y)));
  },
  tt,
)
one_back (place.Attributes k) d e within b = (
  record {
    map_block = sym b.map_block;
    attributes = λ x. if_picked _ (x == k.0) None (Some (attributes_under e x)) (λ held. tt) (λ off.
        sym (if_off _ (x == k.0) None (Some (attributes_under d x)) off (b.attributes x)));
    text = λ x y. text-is (text_under e x y) (text_under d x y) (sym (text-eq (text_under d x y) (text_under e x y) (b.text x y)));
  },
  tt,
)
one_back (place.Block k) d e within b = (
  record {
    map_block = sym b.map_block;
    attributes = λ x. if_picked _ (x == k.0) None (Some (attributes_under e x)) (λ held. tt) (λ off.
        sym (if_off _ (x == k.0) None (Some (attributes_under d x)) off (b.attributes x)));
    text = λ x y. if_picked _ (x == k.0) None (Some (option_map (map Some) (text_under e x y))) (λ held. tt) (λ off.
        text-is (text_under e x y) (text_under d x y)
        (sym (text-eq (text_under d x y) (text_under e x y) (if_off _ (x == k.0) None (Some (option_map (map Some) (text_under d x y))) off (b.text x y)))));
  },
  tt,
)
one_back (place.Chunk k c) d e within b = (
  record {
    map_block = sym b.map_block;
    attributes = λ x. sym (b.attributes x);
    text = λ x y. if_picked _ (x == k.0 && y == c.0) None (Some (option_map (map Some) (text_under e x y))) (λ held. tt) (λ off.
        text-is (text_under e x y) (text_under d x y)
        (sym (text-eq (text_under d x y) (text_under e x y) (if_off _ (x == k.0 && y == c.0) None (Some (option_map (map Some) (text_under d x y))) off (b.text x y)))));
  },
  tt,
)
one_back (place.Run k c at n m) d e within b =
    let whole : ℕ → ℕ → Option (Option (List (Option ℕ))) = λ x y. Some (option_map (map Some) (text_under d x y)) in
    let moved : ℕ → ℕ → Option (Option (List (Option ℕ))) = λ x y. option_map (option_map (λ t. splice t at (at + n) (replicate m None))) (whole x y) in
    let again : ℕ → ℕ → Option (Option (List (Option ℕ))) = λ x y. Some (option_map (map Some) (text_under e x y)) in
    let here : (x y : ℕ) → (x == k.0 && y == c.0) ≡ true
    → (ys : List ℕ) × (text_under e x y ≡ Some ys) × (at + m ≤ length ys) × IsText (option_map (λ t. splice t at (at + m) (replicate n None)) (option_map (map Some) (text_under e x y))) (text_under d x y) =
    λ x y held.
    let parts = and_parts (x == k.0) (y == c.0) held in
    let at_it : text_under d x y ≡ Some within.0 =
    ap₂ (λ (u v : ℕ). text_under d u v) (eqb-true x k.0 parts.0) (eqb-true y c.0 parts.1) ∙ within.1 in
    run-back (text_under d x y) (text_under e x y) within.0 at n m at_it within.2 (if_on _ (x == k.0 && y == c.0) (moved x y) (whole x y) held (b.text x y)) in
    let self = here k.0 c.0 (and_from (k.0 == k.0) (c.0 == c.0) (eq-eqb k.0 k.0 refl) (eq-eqb c.0 c.0 refl)) in (
      record {
        map_block = sym b.map_block;
        attributes = λ x. sym (b.attributes x);
        text = λ x y. if_picked _ (x == k.0 && y == c.0) (option_map (option_map (λ t. splice t at (at + m) (replicate n None))) (again x y)) (again x y)
            (λ held. (here x y held).3)
            (λ off. text-is (text_under e x y) (text_under d x y) (sym (text-eq (text_under d x y) (text_under e x y) (if_off _ (x == k.0 && y == c.0) (moved x y) (whole x y) off (b.text x y)))));
      },
      (self.0, self.1, self.2),
    )
one_back place.All d e within b = (record { map_block = tt; attributes = λ x. tt; text = λ x y. tt }, tt)

-- Places one after another.

-- From one document the next differs at each place.
abbrev pub Reaches : List Place → Document → Document → Type 0
Reaches [] d e = e ≡ d
Reaches (p ∷ ps) d e = (mid : Document) × ChangesAt (p ∷ []) d mid × IsWithin p d × Reaches ps mid e

stands-on : (ps : List Place) (h : Holed) (d e : Document) → Stands h d → Reaches ps d e → Stands (with_holes ps h) e
stands-on [] h d e a r = subst (Stands h) (sym r) a
stands-on (p ∷ ps) h d e a r = stands-on ps (with_hole p h) r.0 e (one_more p h d r.0 a r.1) r.3

stands-first : (d : Document) → Stands (without_holes d) d
stands-first d = record { map_block = refl; attributes = λ x. refl; text = λ x y. text-same (text_under d x y) }

-- so nothing else changes
pub reached : (ps : List Place) (d e : Document) → Reaches ps d e → ChangesAt ps d e
reached ps d e r = stands-on ps (without_holes d) d e (stands-first d) r

-- of two steps together, and so of a group, of steps that are joined and of any run of calls
pub reaches-append : (ps qs : List Place) (d mid e : Document) → Reaches ps d mid → Reaches qs mid e → Reaches (ps ++ qs) d e
reaches-append [] qs d mid e a b = subst (λ (x : Document). Reaches qs x e) a b
reaches-append (p ∷ ps) qs d mid e a b = (a.0, a.1, a.2, reaches-append ps qs a.0 mid e a.3 b)

-- and of a step that is taken back
pub reaches-back : (ps : List Place) (d e : Document) → Reaches ps d e → Reaches (taken_back ps) e d
reaches-back [] d e r = sym r
reaches-back (p ∷ ps) d e r =
    let one = one_back p d r.0 r.2 r.1 in
    subst (λ (qs : List Place). Reaches qs e d) (sym (reverse-append (inverse p ∷ []) (map inverse ps)))
    (reaches-append (taken_back ps) (inverse p ∷ []) e r.0 d (reaches-back ps r.0 e r.3) (d, one.0, one.1, refl))
