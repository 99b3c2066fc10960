-- Single edits change nothing but at their places.
use Rattle.std.proofs.Common.{◌≡◌, ◌≢◌, ℕ, suc, zero, ◌+◌, Bool, true, false, ◌==◌, ◌&&◌, if◌then◌else◌, List, [], ◌∷◌, ◌++◌, length, take, drop, map, replicate, Option, Some, None, IfSome, refl, sym, ap, subst, ◌∙◌, inl, inr, arith}
use Rattle.std.proofs.lemmas.Bool.{cases_Bool, eqb-true, and_parts, eq-eqb, true≢false}
use Rattle.std.specs.List.{splice}
use Rattle.std.specs.Option.{option_map, option_map_or, option_and_then}
use Rattle.std.specs.FinMap.{get}
use Rattle.geos_model.specs.Document.{Block, Document, with_block, without_block, with_attributes, with_body, attributes_of, no_attributes}
use Rattle.geos_model.specs.Places.{part_of_body, attributes_under, text_under, AreBytes, IsText, ChangesAt, block_place}
use Rattle.geos_model.specs.declared.handle.VmHandle.{VmHandle}
use Rattle.geos_model.specs.declared.handle.ChunkHandle.{ChunkHandle}
use Rattle.geos_model.specs.declared.place.Place.TheVariants as place
use Rattle.geos_model.specs.declared.block.Attributes.{Attributes}
use Rattle.geos_model.specs.declared.command.Body.{Body}
use Rattle.geos_model.proofs.HeapEdits.{get-put_same, get-put_other, get-taken_other}

-- what holds of what a condition picks
pub if_picked : {X : Type 0} (P : X → Type 0) (c : Bool) (o q : Option X) → (c ≡ true → IfSome o P) → (c ≡ false → IfSome q P) → IfSome (if c then o else q) P
if_picked P true o q held off = held refl
if_picked P false o q held off = off refl

-- bytes are themselves
pub bytes-same : (xs : List ℕ) → AreBytes (map Some xs) xs
bytes-same [] = tt
bytes-same (x ∷ xs) = (refl, bytes-same xs)

pub text-same : (o : Option (List ℕ)) → IsText (option_map (map Some) o) o
text-same None = tt
text-same (Some xs) = bytes-same xs

-- an equal text
pub text-is : (o q : Option (List ℕ)) → q ≡ o → IsText (option_map (map Some) o) q
text-is o q is = subst (IsText (option_map (map Some) o)) (sym is) (text-same o)

-- Bytes with holes, cut and put together.

pub bytes-append : (ts : List (Option ℕ)) (xs : List ℕ) (us : List (Option ℕ)) (ys : List ℕ) → AreBytes ts xs → AreBytes us ys → AreBytes (ts ++ us) (xs ++ ys)
bytes-append [] [] us ys a b = b
bytes-append [] (x ∷ xs) us ys a b = absurd a
bytes-append (t ∷ ts) [] us ys a b = absurd a
bytes-append (t ∷ ts) (x ∷ xs) us ys a b = (a.0, bytes-append ts xs us ys a.1 b)

pub bytes-take : (n : ℕ) (ts : List (Option ℕ)) (xs : List ℕ) → AreBytes ts xs → AreBytes (take n ts) (take n xs)
bytes-take zero ts xs a = tt
bytes-take (suc n) [] [] a = tt
bytes-take (suc n) [] (x ∷ xs) a = absurd a
bytes-take (suc n) (t ∷ ts) [] a = absurd a
bytes-take (suc n) (t ∷ ts) (x ∷ xs) a = (a.0, bytes-take n ts xs a.1)

pub bytes-drop : (n : ℕ) (ts : List (Option ℕ)) (xs : List ℕ) → AreBytes ts xs → AreBytes (drop n ts) (drop n xs)
bytes-drop zero ts xs a = a
bytes-drop (suc n) [] [] a = tt
bytes-drop (suc n) [] (x ∷ xs) a = absurd a
bytes-drop (suc n) (t ∷ ts) [] a = absurd a
bytes-drop (suc n) (t ∷ ts) (x ∷ xs) a = bytes-drop n ts xs a.1

pub bytes-holes : (n : ℕ) (xs : List ℕ) → length xs ≡ n → AreBytes (replicate n None) xs
bytes-holes zero [] e = tt
bytes-holes zero (x ∷ xs) e = absurd (omega (arith, e))
bytes-holes (suc n) [] e = absurd (omega (arith, e))
bytes-holes (suc n) (x ∷ xs) e = (tt, bytes-holes n xs (omega (arith, e)))

-- others in the place of some of them, where the holes are
pub bytes-replaced : (ts : List (Option ℕ)) (xs : List ℕ) (i j m : ℕ) (new : List ℕ) → AreBytes ts xs → length new ≡ m → AreBytes (splice ts i j (replicate m None)) (splice xs i j new)
bytes-replaced ts xs i j m new a long =
    bytes-append (take i ts) (take i xs) (replicate m None ++ drop j ts) (new ++ drop j xs) (bytes-take i ts xs a)
    (bytes-append (replicate m None) new (drop j ts) (drop j xs) (bytes-holes m new long) (bytes-drop j ts xs a))

pub bytes-spliced : (xs : List ℕ) (i j m : ℕ) (new : List ℕ) → length new ≡ m → AreBytes (splice (map Some xs) i j (replicate m None)) (splice xs i j new)
bytes-spliced xs i j m new long = bytes-replaced (map Some xs) xs i j m new (bytes-same xs) long

-- What equal blocks under a handle say.
module _ (d e : Document) (x : ℕ) (same : get e.blocks x ≡ get d.blocks x) where
  pub attributes-same : attributes_under e x ≡ attributes_under d x
  attributes-same = ap (option_map (λ b. b.attributes)) same

  pub parts-same : (y : ℕ) → text_under e x y ≡ text_under d x y
  parts-same y = ap (option_and_then (λ b. part_of_body b.body y)) same

pub other : (x b : ℕ) → (x == b) ≡ false → x ≢ b
other x b off is = true≢false (sym (eq-eqb x b is) ∙ off)

-- another map block
pub at_map : (d : Document) (h : ℕ) → ChangesAt (place.MapBlock ∷ []) d (record d { map_block = h })
at_map d h = record {
  map_block = tt;
  attributes = λ b. refl;
  text = λ b c. text-same (text_under d b c);
}

-- a block that comes, changes or goes
pub at_block : (d e : Document) (h : ℕ) → e.map_block ≡ d.map_block → ((x : ℕ) → x ≢ h → get e.blocks x ≡ get d.blocks x) → ChangesAt (block_place h ∷ []) d e
at_block d e h same others = record {
  map_block = same;
  attributes = λ x. if_picked _ (x == h) None (Some (attributes_under d x)) (λ held. tt)
      (λ off. attributes-same d e x (others x (other x h off)));
  text = λ x y. if_picked _ (x == h) None (Some (option_map (map Some) (text_under d x y))) (λ held. tt)
      (λ off. text-is (text_under d x y) (text_under e x y) (parts-same d e x (others x (other x h off)) y));
}

pub at_put : (d : Document) (h : ℕ) (b : Block) → ChangesAt (block_place h ∷ []) d (with_block d h b)
at_put d h b = at_block d (with_block d h b) h refl (get-put_other d.blocks h b)

pub at_taken : (d : Document) (h : ℕ) → ChangesAt (block_place h ∷ []) d (without_block d h)
at_taken d h = at_block d (without_block d h) h refl (get-taken_other d.blocks h)

-- Attributes.

-- what a block is with other attributes: all but them
at_attributes-put : (d : Document) (h : VmHandle) (b : Block) (a : Attributes) → get d.blocks h.0 ≡ Some b
    → ChangesAt (place.Attributes h ∷ []) d (with_block d h.0 (record b { attributes = a }))
at_attributes-put d h b a is =
    let new : Block = record b { attributes = a } in
    let e : Document = with_block d h.0 new in record {
      map_block = refl;
      attributes = λ x. if_picked _ (x == h.0) None (Some (attributes_under d x)) (λ held. tt)
          (λ off. attributes-same d e x (get-put_other d.blocks h.0 new x (other x h.0 off)));
      text = λ x y. text-is (text_under d x y) (text_under e x y) (elim (cases_Bool (x == h.0)) [
        | inl on ↦
            let at : x ≡ h.0 = eqb-true x h.0 on in
            ap (option_and_then (λ b. part_of_body b.body y)) (get-put_same d.blocks h.0 new x at)
            ∙ sym (ap (option_and_then (λ b. part_of_body b.body y)) (ap (get d.blocks) at ∙ is))
        | inr off ↦ parts-same d e x (get-put_other d.blocks h.0 new x (other x h.0 off)) y
      ]);
    }

-- where nothing changes nothing changes anywhere
at_attributes-none : (d : Document) (h : VmHandle) → ChangesAt (place.Attributes h ∷ []) d d
at_attributes-none d h = record {
  map_block = refl;
  attributes = λ x. if_picked _ (x == h.0) None (Some (attributes_under d x)) (λ held. tt) (λ off. refl);
  text = λ x y. text-same (text_under d x y);
}

pub at_attributes : (d : Document) (h : VmHandle) (a : Attributes) → ChangesAt (place.Attributes h ∷ []) d (with_attributes d h.0 a)
at_attributes d h a = by_block (get d.blocks h.0) refl
  where
    by_block : (o : Option Block) → get d.blocks h.0 ≡ o → ChangesAt (place.Attributes h ∷ []) d (option_map_or (λ b. with_block d h.0 (record b { attributes = a })) o d)
    by_block None is = at_attributes-none d h
    by_block (Some b) is = at_attributes-put d h b a is

-- A body of a block that is there.

-- What stands elsewhere, and what stands there, once the body of a block has become another one.
module _ (d : Document) (h : VmHandle) (old : Block) (is : get d.blocks h.0 ≡ Some old) (body : Body) where
  now : Document
  now = with_body d h.0 body

  stood : attributes_of d h.0 ≡ old.attributes
  stood = ap (λ (o : Option Block). option_map_or (λ b. b.attributes) o no_attributes) is

  abbrev put : Block
  put = record { attributes = attributes_of d h.0; body = body }

  body-attributes : (x : ℕ) → attributes_under (with_body d h.0 body) x ≡ attributes_under d x
  body-attributes x = elim (cases_Bool (x == h.0)) [
    | inl on ↦
        let at : x ≡ h.0 = eqb-true x h.0 on in
        ap (option_map (λ b. b.attributes)) (get-put_same d.blocks h.0 put x at)
        ∙ ap Some stood
        ∙ sym (ap (option_map (λ b. b.attributes)) (ap (get d.blocks) at ∙ is))
    | inr off ↦ attributes-same d (with_body d h.0 body) x (get-put_other d.blocks h.0 put x (other x h.0 off))
  ]

  body-elsewhere : (x y : ℕ) → x ≢ h.0 → text_under (with_body d h.0 body) x y ≡ text_under d x y
  body-elsewhere x y off = parts-same d (with_body d h.0 body) x (get-put_other d.blocks h.0 put x off) y

  body-there : (x y : ℕ) → x ≡ h.0 → text_under (with_body d h.0 body) x y ≡ part_of_body body y
  body-there x y at = ap (option_and_then (λ b. part_of_body b.body y)) (get-put_same d.blocks h.0 put x at)

  body-before : (x y : ℕ) → x ≡ h.0 → text_under d x y ≡ part_of_body old.body y
  body-before x y at = ap (option_and_then (λ b. part_of_body b.body y)) (ap (get d.blocks) at ∙ is)

  -- a part comes or goes, and the others stay
  pub at_chunk : (c : ChunkHandle) → ((y : ℕ) → y ≢ c.0 → part_of_body body y ≡ part_of_body old.body y) → ChangesAt (place.Chunk h c ∷ []) d (with_body d h.0 body)
  at_chunk c others = record {
    map_block = refl;
    attributes = body-attributes;
    text = λ x y. if_picked _ (x == h.0 && y == c.0) None (Some (option_map (map Some) (text_under d x y))) (λ held. tt)
        (λ off. text-is (text_under d x y) (text_under (with_body d h.0 body) x y) (elim (cases_Bool (x == h.0)) [
          | inl on ↦
              let at : x ≡ h.0 = eqb-true x h.0 on in
              let apart : (y == c.0) ≡ false = subst (λ b. (b && y == c.0) ≡ false) on off in
              body-there x y at ∙ others y (other y c.0 apart) ∙ sym (body-before x y at)
          | inr no_block ↦ body-elsewhere x y (other x h.0 no_block)
        ]));
  }

  -- a run of bytes of a part changes, and the others stay
  pub at_run : (c : ChunkHandle) (at n m : ℕ) (was new : List ℕ) → part_of_body old.body c.0 ≡ Some was → part_of_body body c.0 ≡ Some (splice was at (at + n) new) → length new ≡ m
      → ((y : ℕ) → y ≢ c.0 → part_of_body body y ≡ part_of_body old.body y) → ChangesAt (place.Run h c at n m ∷ []) d (with_body d h.0 body)
  at_run c at n m was new before after long others = record {
    map_block = refl;
    attributes = body-attributes;
    text = λ x y. if_picked _ (x == h.0 && y == c.0)
        (option_map (option_map (λ t. splice t at (at + n) (replicate m None))) (Some (option_map (map Some) (text_under d x y))))
        (Some (option_map (map Some) (text_under d x y)))
        (λ held.
        let parts = and_parts (x == h.0) (y == c.0) held in
        let here : x ≡ h.0 = eqb-true x h.0 parts.0 in
        let there : y ≡ c.0 = eqb-true y c.0 parts.1 in
        let old_text : text_under d x y ≡ Some was = body-before x y here ∙ ap (part_of_body old.body) there ∙ before in
        let new_text : text_under (with_body d h.0 body) x y ≡ Some (splice was at (at + n) new) = body-there x y here ∙ ap (part_of_body body) there ∙ after in
        subst (λ o. IsText (option_map (λ t. splice t at (at + n) (replicate m None)) (option_map (map Some) o)) (text_under (with_body d h.0 body) x y)) (sym old_text)
        (subst (IsText (Some (splice (map Some was) at (at + n) (replicate m None)))) (sym new_text) (bytes-spliced was at (at + n) m new long)))
        (λ off. text-is (text_under d x y) (text_under (with_body d h.0 body) x y) (elim (cases_Bool (x == h.0)) [
          | inl on ↦
              let here : x ≡ h.0 = eqb-true x h.0 on in
              let apart : (y == c.0) ≡ false = subst (λ b. (b && y == c.0) ≡ false) on off in
              body-there x y here ∙ others y (other y c.0 apart) ∙ sym (body-before x y here)
          | inr no_block ↦ body-elsewhere x y (other x h.0 no_block)
        ]));
  }
