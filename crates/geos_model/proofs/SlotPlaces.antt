-- An edit of an element array, or of a name array, puts another element in the place of one, or one behind all.
use Rattle.std.proofs.Common.{◌≡◌, ◌≢◌, ℕ, suc, zero, ◌+◌, ◌-◌, ◌<◌, ◌≤◌, Bool, true, false, ◌==◌, nat_le, nat_lt, if◌then◌else◌, List, [], ◌∷◌, ◌++◌, length, take, drop, set, replicate, Option, Some, None, is_none, unwrap_or, refl, sym, ap, ap₂, subst, ◌∙◌, inl, inr, arith, ltb-true}
use Rattle.std.proofs.lemmas.Bool.{cases_Bool, and_parts, ne_eqb, cond-true, cond-false}
use Rattle.std.proofs.lemmas.List.{take-append-drop, take-set, drop-set, drop_all}
use Rattle.std.proofs.Math.Seq.{take-length}
use Rattle.std.specs.List.{splice}
use Rattle.std.specs.Option.{option_map_or, option_and_then}
use Rattle.std.specs.FinMap.{contains_key}
use Rattle.geos_model.specs.Bytes.{same_bytes}
use Rattle.geos_model.specs.Words.{word}
use Rattle.geos_model.specs.Array.{Array, array_bytes, array_of}
use Rattle.geos_model.specs.ArrayEdits.{new_array, array_in}
use Rattle.geos_model.specs.ElementArray.{Element, Slots, token_after, slot_bytes, slots_array, slots_of, element_at, is_sound, element_bytes, element_array_of}
use Rattle.geos_model.specs.ElementEdits.{no_slots, elements_in, count_at, bytes_at, with_element, without_element, with_new_at, with_new, unreferenced, token_of_bytes, added}
use Rattle.geos_model.specs.NameArray.{NameArray, name_bytes, name_array_of, names_of, text_of}
use Rattle.geos_model.specs.NameEdits.{no_names, names_in, token_of_text, text_at, part_at, name_with_reference, added_name}
use Rattle.geos_model.specs.Document.{Document, chunks_of, is_heap}
use Rattle.geos_model.specs.Meaning.{chunk_at, with_chunk}
use Rattle.geos_model.specs.Places.{array_places}
use Rattle.geos_model.specs.declared.handle.VmHandle.{VmHandle}
use Rattle.geos_model.specs.declared.handle.ChunkHandle.{ChunkHandle}
use Rattle.geos_model.proofs.ElementArrays.{elements_from, length-elements_from, slots_of-is}
use Rattle.geos_model.proofs.ElementEdits.{used_lt, found_is_used, first_free}
use Rattle.geos_model.proofs.NameArrays.{names_of-is, sound_names_parts}
use Rattle.geos_model.proofs.Reaching.{Reaches}
use Rattle.geos_model.proofs.ArrayPlaces.{array_reaches}

-- Another slot is in the place of one, or behind all, and the other free tokens lead on as they did.
pub record Replaces (s z : Slots) (t : ℕ) : Type 0 where
  pub size : z.size ≡ s.size
  pub links : (u : ℕ) → u ≢ t → token_after z.free u ≡ token_after s.free u
  pub low : t ≤ length s.slots
  pub slot : Option Element
  pub slots : z.slots ≡ splice s.slots t (t + 1) (slot ∷ [])

-- The elements of slots.

drop-elements : (s : Slots) (n : ℕ) (slots : List (Option Element)) → drop 1 (elements_from s n slots) ≡ elements_from s (n + 1) (drop 1 slots)
drop-elements s n [] = refl
drop-elements s n (x ∷ slots) = refl

same-slot : (s z : Slots) (n : ℕ) (x : Option Element) → z.size ≡ s.size → token_after z.free n ≡ token_after s.free n → slot_bytes z n x ≡ slot_bytes s n x
same-slot s z n None size link = ap₂ (λ (t k : ℕ). word t ++ 0xFF ∷ replicate k 0) link size
same-slot s z n (Some e) size link = refl

same-elements : (s z : Slots) (n : ℕ) (slots : List (Option Element)) → z.size ≡ s.size → ((u : ℕ) → n ≤ u → token_after z.free u ≡ token_after s.free u)
    → elements_from z n slots ≡ elements_from s n slots
same-elements s z n [] size links = refl
same-elements s z n (x ∷ slots) size links =
    ap₂ (λ (l : List ℕ) (ls : List (List ℕ)). l ∷ ls) (same-slot s z n x size (links n (omega arith)))
    (same-elements s z (n + 1) slots size (λ u low. links u (omega (arith, low))))

-- those of slots of which one is another
elements-spliced : (s z : Slots) (n t : ℕ) (slots : List (Option Element)) (x : Option Element) → z.size ≡ s.size
    → ((u : ℕ) → u ≢ n + t → token_after z.free u ≡ token_after s.free u) → t ≤ length slots
    → elements_from z n (take t slots ++ (x ∷ drop (suc t) slots)) ≡ take t (elements_from s n slots) ++ (slot_bytes z (n + t) x ∷ drop (suc t) (elements_from s n slots))
elements-spliced s z n zero slots x size links low =
    ap₂ (λ (l : List ℕ) (ls : List (List ℕ)). l ∷ ls) (ap (λ (k : ℕ). slot_bytes z k x) (omega arith))
    (same-elements s z (n + 1) (drop 1 slots) size (λ u above. links u (λ e. absurd (omega (arith, e, above)))) ∙ sym (drop-elements s n slots))
elements-spliced s z n (suc t) [] x size links low = absurd (omega (arith, low))
elements-spliced s z n (suc t) (y ∷ slots) x size links low =
    let es : List (List ℕ) = elements_from s (n + 1) slots in
    let at : n + 1 + t ≡ n + suc t = omega arith in
    ap₂ (λ (l : List ℕ) (ls : List (List ℕ)). l ∷ ls) (same-slot s z n y size (links n (λ e. absurd (omega (arith, e)))))
    (elements-spliced s z (n + 1) t slots x size (λ u apart. links u (λ e. apart (e ∙ sym at))) (omega (arith, low))
    ∙ ap (λ (k : ℕ). take t es ++ (slot_bytes z k x ∷ drop (suc t) es)) at)

-- so an element is in the place of one, or behind all
elements-replaced : (s z : Slots) (t : ℕ) → Replaces s z t → (x : List ℕ) × (elements_from z 0 z.slots ≡ splice (elements_from s 0 s.slots) t (t + 1) (x ∷ []))
elements-replaced s z t is =
    let es : List (List ℕ) = elements_from s 0 s.slots in
    let x : List ℕ = slot_bytes z (0 + t) is.slot in
    let next : suc t ≡ t + 1 = omega arith in
    let here : 0 + t ≡ t = omega arith in (
      x,
      ap (elements_from z 0) is.slots
          ∙ subst (λ (k : ℕ). elements_from z 0 (take t s.slots ++ (is.slot ∷ drop k s.slots)) ≡ take t es ++ (x ∷ drop k es)) next
          (elements-spliced s z 0 t s.slots is.slot is.size (λ u apart. is.links u (λ e. apart (e ∙ sym here))) is.low),
    )

-- What edits of slots replace.

set-spliced : (xs : List (Option Element)) (t : ℕ) (x : Option Element) → t < length xs → set xs t x ≡ splice xs t (t + 1) (x ∷ [])
set-spliced xs t x low = sym (take-append-drop t (set xs t x)) ∙ ap₂ (λ (l r : List (Option Element)). l ++ r) (take-set xs t x) (drop-set xs t x low)

pub replaces-element : (s : Slots) (t count : ℕ) (bytes : List ℕ) → t < length s.slots → Replaces s (with_element s t count bytes) t
replaces-element s t count bytes low =
    let slot : Option Element = Some (record { count = count; bytes = bytes }) in
    record { size = refl; links = λ u apart. refl; low = omega (arith, low); slot = slot; slots = set-spliced s.slots t slot low }

-- the free tokens but the first of a list are those of the rest
link-later : (t u : ℕ) (ts : List ℕ) → u ≢ t → token_after (t ∷ ts) u ≡ token_after ts u
link-later t u ts apart = cond-false (t == u) _ _ (ne_eqb t u (λ e. apart (sym e)))

pub replaces-none : (s : Slots) (t : ℕ) → t < length s.slots → Replaces s (without_element s t) t
replaces-none s t low =
    record { size = refl; links = λ u apart. link-later t u s.free apart; low = omega (arith, low); slot = None; slots = set-spliced s.slots t None low }

pub replaces-unreferenced : (s : Slots) (t : ℕ) → t < length s.slots → Replaces s (unreferenced s t) t
replaces-unreferenced s t low = elim (cases_Bool (nat_le (count_at s t) 1)) [
  | inl last ↦ subst (λ (z : Slots). Replaces s z t) (sym (cond-true (nat_le (count_at s t) 1) _ _ last)) (replaces-none s t low)
  | inr more ↦ subst (λ (z : Slots). Replaces s z t) (sym (cond-false (nat_le (count_at s t) 1) _ _ more)) (replaces-element s t (count_at s t - 1) (bytes_at s t) low)
]

replaces-new_at : (free : List ℕ) (s : Slots) (e : Option Element) → s.free ≡ free → is_sound s ≡ true → Replaces s (with_new_at free s e).0 (with_new_at free s e).1
replaces-new_at [] s e is sound = record {
  size = refl;
  links = λ u apart. refl;
  low = omega arith;
  slot = e;
  slots = ap₂ (λ (l r : List (Option Element)). l ++ (e ∷ r)) (sym (take-length s.slots)) (sym (drop_all (length s.slots + 1) s.slots (omega arith)));
}
replaces-new_at (t ∷ ts) s e is sound =
    let low : t < length s.slots = ltb-true t (length s.slots) (and_parts (nat_lt t (length s.slots)) (is_none (element_at s t)) (first_free s t ts is sound)).0 in
    record {
      size = refl;
      links = λ u apart. sym (ap (λ (l : List ℕ). token_after l u) is ∙ link-later t u ts apart);
      low = omega (arith, low);
      slot = e;
      slots = set-spliced s.slots t e low;
    }

replaces-new : (s : Slots) (bytes : List ℕ) → is_sound s ≡ true → Replaces s (with_new s bytes).0 (with_new s bytes).1
replaces-new s bytes = replaces-new_at s.free s (Some (record { count = 1; bytes = bytes })) refl

pub replaces-added : (s : Slots) (bytes : List ℕ) → is_sound s ≡ true → Replaces s (added s bytes).0 (added s bytes).1
replaces-added s bytes sound = by_token (token_of_bytes s bytes) refl
  where
    by_token : (o : Option ℕ) → token_of_bytes s bytes ≡ o → let z = option_map_or (λ t. (with_element s t (count_at s t + 1) (bytes_at s t), t)) o (with_new s bytes) in Replaces s z.0 z.1
    by_token None is = replaces-new s bytes sound
    by_token (Some t) is = replaces-element s t (count_at s t + 1) (bytes_at s t) (used_lt s.slots t (found_is_used (λ e. same_bytes e.bytes bytes) s t is))

pub replaces-added_name : (a : NameArray) (text part : List ℕ) (replace : Bool) → is_sound a.names ≡ true → Replaces a.names (added_name a text part replace).0 (added_name a text part replace).1
replaces-added_name a text part replace sound = by_token (token_of_text a text) refl
  where
    by_token : (o : Option ℕ) → token_of_text a text ≡ o → let z = option_map_or (λ t. (name_with_reference a part replace t, t)) o (with_new a.names (part ++ text)) in Replaces a.names z.0 z.1
    by_token None is = replaces-new a.names (part ++ text) sound
    by_token (Some t) is =
        replaces-element a.names t (count_at a.names t + 1) ((if replace then part else part_at a t) ++ text_at a t)
        (used_lt a.names.slots t (found_is_used (λ e. same_bytes (text_of a e) text) a.names t is))

-- The array of slots.

slots-elements : (more : List ℕ) (s : Slots) → (slots_array more s).elements ≡ elements_from s 0 s.slots
unfolding slots_array
slots-elements more s = refl

slots-size : (had more : List ℕ) (s z : Slots) → z.size ≡ s.size → (slots_array more z).size ≡ (slots_array had s).size
unfolding slots_array
slots-size had more s z same = ap (λ (n : ℕ). if n == 0 then 0 else n + 3) same

slots-extra : (had more : List ℕ) (s z : Slots) → length more ≡ length had → length (slots_array more z).extra ≡ length (slots_array had s).extra
unfolding slots_array
slots-extra had more s z same = omega (arith, same)

slots_reach : (d : Document) (b : VmHandle) (c : ChunkHandle) (t : ℕ) (s z : Slots) (had more : List ℕ) (a : Array) → is_heap d b.0 ≡ true → contains_key (chunks_of d b.0) c.0 ≡ true
    → array_of (chunk_at d b.0 c.0) ≡ Some a → slots_array had s ≡ a → length more ≡ length had → Replaces s z t
    → let new = array_bytes (slots_array more z) in
    Reaches (array_places b c (chunk_at d b.0 c.0) new t (t + 1) 1) d (with_chunk d b.0 c.0 new)
slots_reach d b c t s z had more a heap live is of_slots many replaces =
    let old : List ℕ = chunk_at d b.0 c.0 in
    let in_it : slots_array had s ≡ array_in old = of_slots ∙ sym (ap (λ (o : Option Array). unwrap_or o (new_array 0 0)) is) in
    let els : elements_from s 0 s.slots ≡ (array_in old).elements = sym (slots-elements had s) ∙ ap (λ (x : Array). x.elements) in_it in
    let one = elements-replaced s z t replaces in
    let count = sym (length-elements_from s 0 s.slots) ∙ ap length els in
    let low = replaces.low in
    array_reaches d b c (slots_array more z) t (t + 1) (one.0 ∷ []) heap live (ap is_none is)
    (slots-size had more s z replaces.size ∙ ap (λ (x : Array). x.size) in_it)
    (slots-extra had more s z many ∙ ap (λ (x : Array). length x.extra) in_it)
    (slots-elements more z ∙ one.1 ∙ ap (λ (l : List (List ℕ)). splice l t (t + 1) (one.0 ∷ [])) els)
    (omega (arith, low, count)) (omega arith)

-- what is read in two steps is read in the first
read_first : {X : Type 0} (f : Array → Option X) (o : Option Array) (x : X) → option_and_then f o ≡ Some x → (a : Array) × (o ≡ Some a) × (f a ≡ Some x)
read_first f None x e = absurd (cc e)
read_first f (Some a) x e = (a, refl, e)

elements_found : (bytes : List ℕ) (s : Slots) → element_array_of bytes ≡ Some s → (a : Array) × (array_of bytes ≡ Some a) × (slots_of 2 a ≡ Some s)
unfolding element_array_of
elements_found bytes s e = read_first (slots_of 2) (array_of bytes) s e

names_found : (bytes : List ℕ) (n : NameArray) → name_array_of bytes ≡ Some n → (a : Array) × (array_of bytes ≡ Some a) × (names_of a ≡ Some n)
unfolding name_array_of
names_found bytes n e = read_first names_of (array_of bytes) n e

element_bytes-array : (s : Slots) → element_bytes s ≡ array_bytes (slots_array [] s)
unfolding element_bytes
element_bytes-array s = refl

name_bytes-array : (n : NameArray) → name_bytes n ≡ array_bytes (slots_array (word n.part) n.names)
unfolding name_bytes
name_bytes-array n = refl

found : {X : Type 0} (o : Option X) (x : X) → is_none o ≡ false → o ≡ Some (unwrap_or o x)
found None x e = absurd (cc e)
found (Some y) x e = refl

pub element_reaches : (d : Document) (b : VmHandle) (c : ChunkHandle) (t : ℕ) (z : Slots) → is_heap d b.0 ≡ true → contains_key (chunks_of d b.0) c.0 ≡ true
    → is_none (element_array_of (chunk_at d b.0 c.0)) ≡ false → let s = elements_in (chunk_at d b.0 c.0) in (is_sound s ≡ true → Replaces s z t)
    → Reaches (array_places b c (chunk_at d b.0 c.0) (element_bytes z) t (t + 1) 1) d (with_chunk d b.0 c.0 (element_bytes z))
element_reaches d b c t z heap live is replaces =
    let old : List ℕ = chunk_at d b.0 c.0 in
    let s : Slots = elements_in old in
    let read = elements_found old s (found (element_array_of old) (no_slots 0) is) in
    let parts = slots_of-is 2 read.0 s read.2 in
    let long = parts.0 in
    let had : List ℕ = drop 2 (read.0).extra in
    let none : had ≡ [] = drop_all 2 (read.0).extra (omega (arith, long)) in
    subst (λ (l : List ℕ). Reaches (array_places b c old l t (t + 1) 1) d (with_chunk d b.0 c.0 l)) (sym (element_bytes-array z))
    (slots_reach d b c t s z had [] read.0 heap live read.1 parts.2 (sym (ap length none)) (replaces parts.1))

pub name_reaches : (d : Document) (b : VmHandle) (c : ChunkHandle) (t : ℕ) (z : Slots) → is_heap d b.0 ≡ true → contains_key (chunks_of d b.0) c.0 ≡ true
    → is_none (name_array_of (chunk_at d b.0 c.0)) ≡ false → let n = names_in (chunk_at d b.0 c.0) in (is_sound n.names ≡ true → Replaces n.names z t)
    → let new = name_bytes (record n { names = z }) in
    Reaches (array_places b c (chunk_at d b.0 c.0) new t (t + 1) 1) d (with_chunk d b.0 c.0 new)
name_reaches d b c t z heap live is replaces =
    let old : List ℕ = chunk_at d b.0 c.0 in
    let n : NameArray = names_in old in
    let read = names_found old n (found (name_array_of old) (no_names 0) is) in
    let parts = names_of-is read.0 n read.2 in
    subst (λ (l : List ℕ). Reaches (array_places b c old l t (t + 1) 1) d (with_chunk d b.0 c.0 l)) (sym (name_bytes-array (record n { names = z })))
    (slots_reach d b c t n.names z (word n.part) (word n.part) read.0 heap live read.1 parts.1 refl (replaces (sound_names_parts n parts.0).sound))
