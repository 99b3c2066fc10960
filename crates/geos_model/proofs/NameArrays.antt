-- A name array's bytes read back as it, and bytes that read as a name array are that one's.
use Rattle.std.proofs.Common.{◌≡◌, ℕ, ◌/◌, ◌%◌, ◌<◌, ◌≤◌, Bool, true, ◌&&◌, ◌==◌, nat_le, if◌then◌else◌, List, [], ◌∷◌, ◌++◌, length, drop, Option, Some, None, option_and_then, sym, ap, ap₂, subst, ◌∙◌, arith, inl, inr, eqb-true, leb-true}
use Rattle.std.proofs.lemmas.Bool.{cases_Bool, and_parts, cond-true, cond-false}
use Rattle.std.proofs.lemmas.List.{length-drop}
use Rattle.std.proofs.lemmas.Option.{option_and_then_some}
use Rattle.std.specs.List.{list_all}
use Rattle.byteorder.specs.Endian.{little_number}
use Rattle.geos_model.specs.Words.{word, word_at}
use Rattle.geos_model.specs.Array.{Array, array_bytes, array_of, is_even}
use Rattle.geos_model.specs.ElementArray.{Slots, first_token, slots_array, is_sound, slots_of}
use Rattle.geos_model.specs.NameArray.{NameArray, is_named, is_sound_names, name_bytes, names_read, names_of, name_array_of}
use Rattle.geos_model.proofs.Images.{word-reads_back}
use Rattle.geos_model.proofs.Arrays.{array_bytes-of, array_again}
use Rattle.geos_model.proofs.ElementArrays.{sound_parts, slots_of-is, slots_even, slots_again, slots_few}

-- what soundness says, part by part
pub record IsSoundNames (n : NameArray) : Type 0 where
  pub sound : is_sound n.names ≡ true
  pub varied : n.names.size ≡ 0
  pub part : n.part ≤ 64
  pub named : list_all (is_named n.part) n.names.slots ≡ true

pub sound_names_parts : (n : NameArray) → is_sound_names n ≡ true → IsSoundNames n
unfolding is_sound_names
sound_names_parts n sound =
    let names : Bool = list_all (is_named n.part) n.names.slots in
    let three = and_parts (is_sound n.names && n.names.size == 0 && nat_le n.part 64) names sound in
    let two = and_parts (is_sound n.names && n.names.size == 0) (nat_le n.part 64) three.0 in
    let one = and_parts (is_sound n.names) (n.names.size == 0) two.0 in
    record {
      sound = one.0;
      varied = eqb-true n.names.size 0 one.1;
      part = leb-true n.part 64 two.1;
      named = three.1;
    }

-- two bytes whose number is that small are its word
pub word-small : (bytes : List ℕ) → length bytes ≡ 2 → little_number 2 bytes ≤ 64 → word (little_number 2 bytes) ≡ bytes
word-small [] long small = absurd (omega arith)
word-small (low ∷ []) long small = absurd (omega arith)
word-small (low ∷ high ∷ []) long small =
    let first : little_number 2 (low ∷ high ∷ []) % 256 ≡ low = omega arith in
    let second : little_number 2 (low ∷ high ∷ []) / 256 % 256 ≡ high = omega arith in
    ap₂ (λ (a b : ℕ). a ∷ b ∷ []) first second
word-small (low ∷ high ∷ next ∷ rest) long small = absurd (omega arith)

-- the test that a name array passes
abbrev accepted : Array → Slots → Option NameArray
accepted a s = if is_sound_names (names_read a s) then Some (names_read a s) else None

-- what is accepted is what is read
accepted-is : (a : Array) (s : Slots) (n : NameArray) → accepted a s ≡ Some n → (names_read a s ≡ n) × (is_sound_names n ≡ true)
accepted-is a s n e = elim (cases_Bool (is_sound_names (names_read a s))) [
  | inl so ↦ (let some : Some (names_read a s) ≡ Some n = sym (cond-true _ _ _ so) ∙ e in
      let is : names_read a s ≡ n = cc in
      (is, subst (λ m. is_sound_names m ≡ true) is so))
  | inr other ↦ (let none : None ≡ Some n = sym (cond-false _ _ _ other) ∙ e in absurd (cc))
]

-- An array that reads as a name array is that one's.
pub names_of-is : (a : Array) (n : NameArray) → names_of a ≡ Some n → (is_sound_names n ≡ true) × (slots_array (word n.part) n.names ≡ a)
names_of-is a n e = option_and_then_some (accepted a) (slots_of 4 a) n e (λ s of accept.
    let is = slots_of-is 4 a s of in
    let read = accepted-is a s n accept in
    let part : word_at a.extra 2 ≡ n.part = ap (λ m. m.part) read.0 in
    let names : s ≡ n.names = ap (λ m. m.names) read.0 in
    let small : n.part ≤ 64 = (sound_names_parts n read.1).part in
    let long : length (drop 2 a.extra) ≡ 2 = length-drop 2 a.extra ∙ omega (arith, is.0) in
    let bytes : word (word_at a.extra 2) ≡ drop 2 a.extra = word-small (drop 2 a.extra) long (omega (arith, part, small)) in
    (read.1, ap₂ (λ (more : List ℕ) (t : Slots). slots_array more t) (ap word (sym part) ∙ bytes) (sym names) ∙ is.2))

part_again : (n : NameArray) → n.part ≤ 64 → names_read (slots_array (word n.part) n.names) n.names ≡ n
unfolding slots_array
part_again n small =
    let part : word_at (word (first_token n.names.free) ++ word n.part) 2 ≡ n.part = word-reads_back n.part [] (omega arith) in
    λ i. record { part = part i; names = n.names }

-- A name array's array reads back as it.
pub names_again : (n : NameArray) → is_sound_names n ≡ true → length n.names.slots < 65536 → names_of (slots_array (word n.part) n.names) ≡ Some n
names_again n sound few =
    let h = sound_names_parts n sound in
    let a : Array = slots_array (word n.part) n.names in
    let same : names_read a n.names ≡ n = part_again n h.part in
    ap (option_and_then (accepted a)) (slots_again (word n.part) n.names h.sound few)
    ∙ cond-true _ _ _ (subst (λ m. is_sound_names m ≡ true) (sym same) sound)
    ∙ ap Some same

-- bytes that are a name array are its bytes
pub name_bytes-of : (bytes : List ℕ) (n : NameArray) → name_array_of bytes ≡ Some n → (is_sound_names n ≡ true) × (name_bytes n ≡ bytes)
unfolding name_array_of name_bytes
name_bytes-of bytes n e = option_and_then_some names_of (array_of bytes) n e (λ a read of.
    let is = names_of-is a n of in
    (is.0, ap array_bytes is.1 ∙ (array_bytes-of bytes a read).1))

-- a name array's bytes read back as it
pub name_array_again : (n : NameArray) → is_sound_names n ≡ true → length (name_bytes n) < 65536 → name_array_of (name_bytes n) ≡ Some n
unfolding name_array_of name_bytes
name_array_again n sound short =
    let h = sound_names_parts n sound in
    let s = sound_parts n.names h.sound in
    let a : Array = slots_array (word n.part) n.names in
    let even : is_even a ≡ true = slots_even (word n.part) n.names s.sized s.good in
    ap (option_and_then names_of) (array_again a even short)
    ∙ names_again n sound (slots_few (word n.part) n.names h.sound short)
