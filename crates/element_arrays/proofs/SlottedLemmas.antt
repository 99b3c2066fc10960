-- What an edit of slots makes of the array that they are, and of all bytes of a chunk.
use Rattle.std.proofs.Common.{◌≡◌, ℕ, zero, suc, ◌+◌, ◌-◌, ◌<◌, ◌≤◌, Bool, true, false, not, ◌&&◌, ◌||◌, ◌==◌, nat_le, nat_lt, if◌then◌else◌, List, [], ◌∷◌, ◌++◌, map, length, take, drop, set, get_or, replicate, is_none, Option, Some, None, Result, MatchResult, refl, sym, ap, ap₂, subst, ◌∙◌, arith, inl, inr, append_assoc, append-nil, length-append, eqb-true, ltb-true, Ok, Err}
use Rattle.std.proofs.lemmas.Bool.{cases_Bool, and_parts, cond-true, cond-false, ne_eqb, eq-eqb}
use Rattle.std.proofs.lemmas.List.{take_all, drop_all, length-replicate}
use Rattle.std.proofs.lemmas.Result.{MatchResult-weaker}
use Rattle.std.specs.List.{list_all, count_by, enumerate_from, splice}
use Rattle.byteorder.specs.Endian.{little_bytes, little_number}
use Rattle.geos_model.specs.Words.{word}
use Rattle.geos_model.specs.Array.{Array, array_bytes, is_even}
use Rattle.geos_model.specs.ArrayEdits.{array_in, is_missized, too_long}
use Rattle.geos_model.specs.ElementArray.{Element, Slots, slots_array, slot_bytes, token_after, first_token, is_free, is_sound, is_good_slot, all_distinct, element_at, greatest_size}
use Rattle.geos_model.specs.ElementEdits.{with_new, with_new_at}
use Rattle.geos_model.specs.declared.fault.Fault.{Fault}
use Rattle.geos_model.proofs.ArrayEdits.{even_with}
use Rattle.geos_model.proofs.Images.{word-reads_back}
use Rattle.geos_model.specs.Bytes.{same_bytes}
use Rattle.geos_model.specs.Places.{total_length, head_length}
use Rattle.geos_model.specs.declared.handle.VmHandle.{VmHandle}
use Rattle.geos_model.specs.declared.handle.ChunkHandle.{ChunkHandle}
use Rattle.geos_model.specs.declared.place.Place.{Place}
use Rattle.geos_model.specs.declared.place.Place.TheVariants as place
use Rattle.geos_model.proofs.Arrays.{array_again}
use Rattle.chunk_edits.specs.Patching.{PatchLeads}
use Rattle.chunk_edits.specs.Runs.{AreRuns}
use Rattle.chunk_edits.specs.Splicing.{RefusesToBuild}
use Rattle.chunk_edits.specs.declared.runs.ArrayPatch.{ArrayPatch}
use Rattle.chunk_arrays.specs.Rewriting.{extra_after}
use Rattle.element_arrays.specs.Slotted.{Slotted, slotted_array, slotted_bytes, ReplacesOne, GivesSlots, RefusesSlots}
use Rattle.std.specs.Result.{IsErrAnd}
use Rattle.geos_model.specs.Refusal.{Conditions, first_refusal}
use Rattle.geos_model.specs.declared.handle.Token.{Token}
use Rattle.chunk_arrays.specs.Replacing.{ReplacesAt, RefusesToReplace}
use Rattle.geos_model.proofs.Order.{is_worn, accepted-room, refused-room}

-- ---- what an edit of slots makes of the array that they are

-- a function of tokens and slots
abbrev pub Spelling : Type 0
Spelling = ℕ → Option Element → List ℕ

-- slots spelled one by one, the first under this token
abbrev pub spelled : Spelling → ℕ → List (Option Element) → List (List ℕ)
spelled f k slots = map (λ x. f x.0 x.1) (enumerate_from k slots)

pub length-spelled : (f : Spelling) (k : ℕ) (slots : List (Option Element)) → length (spelled f k slots) ≡ length slots
length-spelled f k [] = refl
length-spelled f k (o ∷ slots) = ap suc (length-spelled f (k + 1) slots)

get_or-spelled : (f : Spelling) (k t : ℕ) (slots : List (Option Element)) → t < length slots → get_or (spelled f k slots) t [] ≡ f (k + t) (get_or slots t None)
get_or-spelled f k t [] l = absurd (omega arith)
get_or-spelled f k zero (o ∷ slots) l = let same : k ≡ k + 0 = omega arith in ap (λ (n : ℕ). f n o) same
get_or-spelled f k (suc t) (o ∷ slots) l =
    let same : k + 1 + t ≡ k + suc t = omega arith in
    get_or-spelled f (k + 1) t slots (omega arith) ∙ ap (λ (n : ℕ). f n (get_or slots t None)) same

-- two spellings that are one from a token on
spelled-same : (f g : Spelling) (k : ℕ) (slots : List (Option Element)) → ((j : ℕ) (o : Option Element) → k ≤ j → g j o ≡ f j o) → spelled g k slots ≡ spelled f k slots
spelled-same f g k [] same = refl
spelled-same f g k (o ∷ slots) same =
    ap₂ (λ (x : List ℕ) (xs : List (List ℕ)). x ∷ xs) (same k o (omega arith)) (spelled-same f g (k + 1) slots (λ j p l. same j p (omega arith)))

-- One slot is another, and the spelling is the same at all other tokens.
spelled-set : (f g : Spelling) (k t : ℕ) (slots : List (Option Element)) (new : Option Element) → t < length slots → ((j : ℕ) (o : Option Element) → (k + t ≡ j → ⊥) → g j o ≡ f j o) → spelled g k (set slots t new) ≡ take t (spelled f k slots) ++ (g (k + t) new ∷ drop (suc t) (spelled f k slots))
spelled-set f g k t [] new l same = absurd (omega arith)
spelled-set f g k zero (o ∷ slots) new l same =
    let here : k ≡ k + 0 = omega arith in
    ap₂ (λ (n : ℕ) (xs : List (List ℕ)). g n new ∷ xs) here (spelled-same f g (k + 1) slots (λ j p m. same j p (λ e. absurd (omega arith))))
spelled-set f g k (suc t) (o ∷ slots) new l same =
    let here : k + 1 + t ≡ k + suc t = omega arith in
    let tail = spelled-set f g (k + 1) t slots new (omega arith) (λ j p other. same j p (λ e. other (omega arith))) in
    ap₂ (λ (x : List ℕ) (xs : List (List ℕ)). x ∷ xs) (same k o (λ e. absurd (omega arith)))
    (tail ∙ ap (λ (n : ℕ). take t (spelled f (k + 1) slots) ++ (g n new ∷ drop (suc t) (spelled f (k + 1) slots))) here)

spelled-append : (f : Spelling) (k : ℕ) (slots : List (Option Element)) (new : Option Element) → spelled f k (slots ++ new ∷ []) ≡ spelled f k slots ++ f (k + length slots) new ∷ []
spelled-append f k [] new = let here : k ≡ k + 0 = omega arith in ap (λ (n : ℕ). f n new ∷ []) here
spelled-append f k (o ∷ slots) new =
    let here : k + 1 + length slots ≡ k + suc (length slots) = omega arith in
    ap (λ (xs : List (List ℕ)). f k o ∷ xs) (spelled-append f (k + 1) slots new ∙ ap (λ (n : ℕ). spelled f (k + 1) slots ++ f n new ∷ []) here)

-- slots with one that is another, and other free tokens
abbrev pub changed : Slots → ℕ → Option Element → List ℕ → Slots
changed s t slot free = record s { slots = set s.slots t slot; free = free }

-- an array with other extra bytes, and with one element in the place of those from one to another
abbrev pub put : Array → List ℕ → ℕ → ℕ → List ℕ → Array
put a extra from to element = record a { extra = extra; elements = splice a.elements from to (element ∷ []) }

slot_bytes-other : (s : Slots) (t : ℕ) (slot : Option Element) (free : List ℕ) (j : ℕ) (o : Option Element) → token_after free j ≡ token_after s.free j → slot_bytes (changed s t slot free) j o ≡ slot_bytes s j o
slot_bytes-other s t slot free j None same = ap (λ (n : ℕ). word n ++ 0xFF ∷ replicate s.size 0) same
slot_bytes-other s t slot free j (Some e) same = refl

-- What puts another slot and other free tokens into an array of slots, where the free token after each other one is the
-- same.
pub put-changed : (more : List ℕ) (s : Slots) (t : ℕ) (slot : Option Element) (free extra element : List ℕ) → t < length s.slots → ((j : ℕ) → (t ≡ j → ⊥) → token_after free j ≡ token_after s.free j) → extra ≡ word (first_token free) ++ more → element ≡ slot_bytes (changed s t slot free) t slot → put (slots_array more s) extra t (t + 1) element ≡ slots_array more (changed s t slot free)
unfolding slots_array
put-changed more s t slot free extra element l same first spells =
    let f : Spelling = slot_bytes s in
    let g : Spelling = slot_bytes (changed s t slot free) in
    let next : t + 1 ≡ suc t = omega arith in
    let here : 0 + t ≡ t = omega arith in
    let whole : spelled g 0 (set s.slots t slot) ≡ take t (spelled f 0 s.slots) ++ (g (0 + t) slot ∷ drop (suc t) (spelled f 0 s.slots)) = spelled-set f g 0 t s.slots slot l (λ j o other. slot_bytes-other s t slot free j o (same j (λ e. other (omega arith)))) in
    let new : element ≡ g (0 + t) slot = spells ∙ sym (ap (λ (n : ℕ). g n slot) here) in
    let elements : splice (spelled f 0 s.slots) t (t + 1) (element ∷ []) ≡ spelled g 0 (set s.slots t slot) =
    ap₂ (λ (x : List ℕ) (n : ℕ). take t (spelled f 0 s.slots) ++ (x ∷ drop n (spelled f 0 s.slots))) new next ∙ sym whole in
    ap₂ (λ (x : List ℕ) (xs : List (List ℕ)). record { extra = x; size = (slots_array more s).size; elements = xs }) first elements

-- What puts a slot behind the last one.
pub put-appended : (more : List ℕ) (s : Slots) (slot : Option Element) (n : ℕ) (extra element : List ℕ) → n ≡ length s.slots → extra ≡ word (first_token s.free) ++ more → element ≡ slot_bytes s n slot → put (slots_array more s) extra n n element ≡ slots_array more (record s { slots = s.slots ++ slot ∷ [] })
unfolding slots_array
put-appended more s slot n extra element all first spells =
    let f : Spelling = slot_bytes s in
    let xs : List (List ℕ) = spelled f 0 s.slots in
    let len : n ≡ length xs = all ∙ sym (length-spelled f 0 s.slots) in
    let here : n ≡ 0 + length s.slots = omega arith in
    let elements : splice xs n n (element ∷ []) ≡ spelled f 0 (s.slots ++ slot ∷ []) =
    ap₂ (λ (ys zs : List (List ℕ)). ys ++ (element ∷ zs)) (take_all n xs (omega arith)) (drop_all n xs (omega arith))
    ∙ ap (λ (x : List ℕ). xs ++ x ∷ []) (spells ∙ ap (λ (m : ℕ). f m slot) here) ∙ sym (spelled-append f 0 s.slots slot) in
    ap₂ (λ (x : List ℕ) (ys : List (List ℕ)). record { extra = x; size = (slots_array more s).size; elements = ys }) first elements

-- A token that comes to the free list or leaves it at its head changes what is after that token alone.
pub token_after-other : (t : ℕ) (free : List ℕ) (j : ℕ) → (t ≡ j → ⊥) → token_after (t ∷ free) j ≡ token_after free j
token_after-other t free j other = cond-false (t == j) (first_token free) (token_after free j) (ne_eqb t j other)

pub token_after-here : (t : ℕ) (free : List ℕ) → token_after (t ∷ free) t ≡ first_token free
token_after-here t free = cond-true (t == t) (first_token free) (token_after free t) (eq-eqb t t refl)

-- Evenness.

is_even-put : (a : Array) (extra : List ℕ) (from to : ℕ) (y : List ℕ) → is_even a ≡ true → ((a.size == 0) ≡ false → length y ≡ a.size) → is_even (put a extra from to y) ≡ true
is_even-put a extra from to y even sized = elim (cases_Bool (a.size == 0)) [
  | inl any ↦ even_with a extra from to (y ∷ []) even (ap (λ (b : Bool). b || (length y == a.size && true)) any)
  | inr one ↦ even_with a extra from to (y ∷ []) even
      (ap₂ (λ (b d : Bool). b || (d && true)) one (eq-eqb (length y) a.size (sized one)))
]

-- the size of elements that have a count before their bytes, or what a free one has
sized-slots : (n k : ℕ) → ((n == 0) ≡ false → k ≡ n + 3) → ((if n == 0 then 0 else n + 3) == 0) ≡ false → k ≡ (if n == 0 then 0 else n + 3)
sized-slots n k sized one = elim (cases_Bool (n == 0)) [
  | inl any ↦ (let size : (if n == 0 then 0 else n + 3) ≡ 0 = cond-true (n == 0) 0 (n + 3) any in
      let odd : true ≡ false = ap (λ (m : ℕ). m == 0) (sym size) ∙ one in absurd (cc))
  | inr some ↦ sized some ∙ sym (cond-false (n == 0) 0 (n + 3) some)
]

pub is_even-slots : (more : List ℕ) (s : Slots) (v : Array) (extra : List ℕ) (from to : ℕ) (y : List ℕ) → v ≡ slots_array more s → is_even v ≡ true → ((s.size == 0) ≡ false → length y ≡ s.size + 3) → is_even (put v extra from to y) ≡ true
unfolding slots_array
is_even-slots more s v extra from to y is even sized =
    subst (λ a. is_even (put a extra from to y) ≡ true) (sym is)
    (is_even-put (slots_array more s) extra from to y (ap is_even (sym is) ∙ even) (sized-slots s.size (length y) sized))

-- Of the slots of an array.

pub length-slots : (more : List ℕ) (s : Slots) (v : Array) → v ≡ slots_array more s → length v.elements ≡ length s.slots
unfolding slots_array
length-slots more s v is = ap (λ (a : Array). length a.elements) is ∙ length-spelled (slot_bytes s) 0 s.slots

pub extra-slots : (more : List ℕ) (s : Slots) (v : Array) → v ≡ slots_array more s → v.extra ≡ word (first_token s.free) ++ more
unfolding slots_array
extra-slots more s v is = ap (λ (a : Array). a.extra) is

pub element-slots : (more : List ℕ) (s : Slots) (v : Array) (t : ℕ) → v ≡ slots_array more s → t < length s.slots → get_or v.elements t [] ≡ slot_bytes s t (element_at s t)
unfolding slots_array
element-slots more s v t is l =
    let here : 0 + t ≡ t = omega arith in
    ap (λ (a : Array). get_or a.elements t []) is ∙ get_or-spelled (slot_bytes s) 0 t s.slots l
    ∙ ap (λ (n : ℕ). slot_bytes s n (element_at s t)) here

-- bytes that fit
pub length-sized : (size : ℕ) (bytes : List ℕ) → is_missized size bytes ≡ false → (size == 0) ≡ false → length bytes ≡ size
length-sized size bytes fits one = elim (cases_Bool (length bytes == size)) [
  | inl same ↦ eqb-true (length bytes) size same
  | inr other ↦ (
      let odd : true ≡ false = sym (ap₂ (λ (a b : Bool). not a && not b) one other) ∙ fits in
      absurd (cc))
]

-- The slots that a patch gives or refuses.

-- the places of an array that others take, by the elements behind them
abbrev places_before : VmHandle → ChunkHandle → Array → List ℕ → List ℕ → ℕ → List (List ℕ) → List Place
places_before b c a old new from back =
    let before = total_length (take from a.elements) in
    let behind = total_length back in
    let head = head_length a (length a.elements) in
    let new_head = head_length a (from + 1 + length back) in
    let at = new_head + before in
    (if same_bytes (take head old) (take new_head new) then [] else place.Run b c 0 head new_head ∷ [])
    ++ place.Run b c at (length old - head - before - behind) (length new - at - behind) ∷ []

-- An element that comes behind the last one takes the place of none, and none stands there.
pub behind_last : (v : Array) (new : List ℕ) (n : ℕ) (x : ArrayPatch) → is_even v ≡ true → length v.elements ≤ n → ReplacesAt [] (array_bytes v) new n n 1 x → ReplacesOne [] (array_bytes v) new n x
behind_last v new n x even end made = record {
  replaces = made.replaces;
  runs = λ low b c.
      let none : drop n v.elements ≡ drop (n + 1) v.elements = drop_all n v.elements (omega arith) ∙ sym (drop_all (n + 1) v.elements (omega arith)) in
      let back : drop n (array_in (array_bytes v)).elements ≡ drop (n + 1) (array_in (array_bytes v)).elements = rw (array_again v even low) none in
      made.runs low b c ∙ ap (places_before b c (array_in (array_bytes v)) (array_bytes v) new n) back;
}

pub gives : (s : Slotted) (new : Slots) (v w : Array) (t at : ℕ) (x : ArrayPatch) → v ≡ slotted_array s → w ≡ slots_array s.more new → at ≡ t → ReplacesOne [] (array_bytes v) (array_bytes w) at x → GivesSlots s new t x
unfolding slotted_bytes
gives s new v w t at x old to place made =
    subst (λ a. ReplacesOne [] (array_bytes a) (array_bytes (slots_array s.more new)) t x) old
    (subst (λ b. ReplacesOne [] (array_bytes v) (array_bytes b) t x) to
    (subst (λ n. ReplacesOne [] (array_bytes v) (array_bytes w) n x) place made))

pub refuses : (s : Slotted) (new : Slots) (w : Array) (fault : Fault) → w ≡ slots_array s.more new → RefusesToBuild (too_long (array_bytes w)) fault → RefusesSlots s new fault
unfolding slotted_bytes
refuses s new w fault to refused = subst (λ b. RefusesToBuild (too_long (array_bytes b)) fault) to refused

-- what `rewrite` answers
abbrev pub Rewrites : Array → Array → ℕ → Result ArrayPatch Fault → Type 0
Rewrites v w at r = MatchResult r (ReplacesOne [] (array_bytes v) (array_bytes w) at) (RefusesToBuild (too_long (array_bytes w)))

pub answers : (s : Slotted) (new : Slots) (v w : Array) (t at : ℕ) (r : Result ArrayPatch Fault) → v ≡ slotted_array s → w ≡ slots_array s.more new → at ≡ t → Rewrites v w at r → MatchResult r (GivesSlots s new t) (RefusesSlots s new)
answers s new v w t at r old to place h = MatchResult-weaker r h (λ x. gives s new v w t at x old to place) (λ fault. refuses s new w fault to)

-- a token that names the place of a slot
pub put-at : (more : List ℕ) (s : Slots) (v : Array) (t at : ℕ) (slot : Option Element) (free extra element : List ℕ) → v ≡ slots_array more s → at ≡ t → t < length s.slots → ((j : ℕ) → (t ≡ j → ⊥) → token_after free j ≡ token_after s.free j) → extra ≡ word (first_token free) ++ more → element ≡ slot_bytes (changed s t slot free) t slot → put v extra at (at + 1) element ≡ slots_array more (changed s t slot free)
put-at more s v t at slot free extra element is place l same first spells =
    ap₂ (λ (a : Array) (n : ℕ). put a extra n (n + 1) element) is place ∙ put-changed more s t slot free extra element l same first spells

-- a count and bytes in two parts, as an element comes in
pub spelled-parts : (count : ℕ) (number head tail : List ℕ) → number ≡ little_bytes 3 count → number ++ head ++ tail ++ replicate 0 0 ≡ little_bytes 3 count ++ (head ++ tail)
spelled-parts count number head tail e =
    ap (λ (n : List ℕ). n ++ head ++ tail ++ []) e ∙ append-nil (little_bytes 3 count ++ head ++ tail) ∙ append_assoc (little_bytes 3 count) head tail

pub length-parts : (size count : ℕ) (element bytes : List ℕ) → element ≡ little_bytes 3 count ++ bytes → is_missized size bytes ≡ false → (size == 0) ≡ false → length element ≡ size + 3
length-parts size count element bytes e fits one =
    let same = length-sized size bytes fits one in
    let sum = length-append (little_bytes 3 count) bytes in
    ap length e ∙ omega (arith, same, sum)

-- The free list.

-- each token of it is free
all_free : (s : Slots) → is_sound s ≡ true → list_all (is_free s) s.free ≡ true
unfolding is_sound
all_free s sound =
    let a : Bool = nat_le s.size greatest_size && list_all (is_good_slot s.size) s.slots in
    let b : Bool = list_all (is_free s) s.free in
    let c : Bool = all_distinct s.free in
    (and_parts a b (and_parts (a && b) c (and_parts (a && b && c) (length s.free == count_by is_none s.slots) sound).0).0).1

token_lt : (s : Slots) (t : ℕ) → is_free s t ≡ true → t < length s.slots
token_lt s t free = ltb-true t (length s.slots) (and_parts (nat_lt t (length s.slots)) (is_none (element_at s t)) free).0

head_free : (s : Slots) (t : ℕ) (ts : List ℕ) → list_all (is_free s) (t ∷ ts) ≡ true → is_free s t ≡ true
head_free s t ts all = (and_parts (is_free s t) (list_all (is_free s) ts) all).0

-- the newest free token, where there is one
newest_is_free : (s : Slots) (t : ℕ) → is_sound s ≡ true → s.free ≡ t ∷ drop 1 s.free → is_free s t ≡ true
newest_is_free s t sound free = head_free s t (drop 1 s.free) (subst (λ ts. list_all (is_free s) ts ≡ true) free (all_free s sound))

pub newest_lt : (s : Slots) (t : ℕ) → is_sound s ≡ true → s.free ≡ t ∷ drop 1 s.free → t < length s.slots
newest_lt s t sound free = token_lt s t (newest_is_free s t sound free)

first_token_lt-of : (s : Slots) (free : List ℕ) → list_all (is_free s) free ≡ true → length s.slots < 65536 → first_token free < 65536
first_token_lt-of s [] all short = omega arith
first_token_lt-of s (t ∷ ts) all short = let low = token_lt s t (head_free s t ts all) in omega (arith, low)

-- the word of the newest free token reads back
pub first_token-read : (more : List ℕ) (s : Slots) (extra : List ℕ) → extra ≡ word (first_token s.free) ++ more → is_sound s ≡ true → length s.slots < 65536 → little_number 2 extra ≡ first_token s.free
first_token-read more s extra is sound short =
    ap (little_number 2) is ∙ word-reads_back (first_token s.free) more (first_token_lt-of s s.free (all_free s sound) short)

some_free-of : (free : List ℕ) (n : ℕ) → n < 65536 → first_token free < n → free ≡ first_token free ∷ drop 1 free
some_free-of [] n short l = absurd (omega arith)
some_free-of (t ∷ ts) n short l = refl

-- A token is free where the first word is below the number of tokens, and none is free elsewhere.
pub some_free : (s : Slots) (first : ℕ) → first ≡ first_token s.free → length s.slots < 65536 → first < length s.slots → s.free ≡ first ∷ drop 1 s.free
some_free s first is short l =
    some_free-of s.free (length s.slots) short (omega (arith, is)) ∙ ap (λ (t : ℕ). t ∷ drop 1 s.free) (sym is)

none_free-of : (s : Slots) (free : List ℕ) → list_all (is_free s) free ≡ true → length s.slots ≤ first_token free → free ≡ []
none_free-of s [] all past = refl
none_free-of s (t ∷ ts) all past = let low = token_lt s t (head_free s t ts all) in absurd (omega (arith, low))

pub none_free : (s : Slots) (first : ℕ) → first ≡ first_token s.free → is_sound s ≡ true → length s.slots ≤ first → s.free ≡ []
none_free s first is sound past = none_free-of s s.free (all_free s sound) (omega (arith, is))

-- extra bytes with another word as the first
pub length_extra : (more : List ℕ) (n : ℕ) (extra : List ℕ) → extra ≡ word n ++ more → length extra ≡ 2 + length more
length_extra more n extra is = ap length is ∙ length-append (word n) more

pub extra_put : (more : List ℕ) (s : Slots) (v : Array) (n : ℕ) (first : List ℕ) → v ≡ slots_array more s → first ≡ word n → extra_after v first ≡ word n ++ more
extra_put more s v n first is e = ap₂ (λ (w x : List ℕ). w ++ drop (length w) x) e (extra-slots more s v is)

pub extra_room : (more : List ℕ) (s : Slots) (v : Array) (n : ℕ) (first : List ℕ) → v ≡ slots_array more s → first ≡ word n → length first ≤ length v.extra
extra_room more s v n first is e =
    let two = ap length e in
    let long = length_extra more (first_token s.free) v.extra (extra-slots more s v is) in
    omega (arith, two, long)

none_of-is_none : (o : Option Element) → is_none o ≡ true → o ≡ None
none_of-is_none None e = refl
none_of-is_none (Some x) e = absurd (cc)

-- what lies in the slot of the newest free token
newest_bytes : (more : List ℕ) (s : Slots) (v : Array) (t : ℕ) → v ≡ slots_array more s → is_sound s ≡ true → s.free ≡ t ∷ drop 1 s.free → get_or v.elements t [] ≡ word (first_token (drop 1 s.free)) ++ 0xFF ∷ replicate s.size 0
newest_bytes more s v t is sound free =
    let none : element_at s t ≡ None = none_of-is_none (element_at s t) (and_parts (nat_lt t (length s.slots)) (is_none (element_at s t)) (newest_is_free s t sound free)).1 in
    let next : token_after s.free t ≡ first_token (drop 1 s.free) = ap (λ (ts : List ℕ). token_after ts t) free ∙ token_after-here t (drop 1 s.free) in
    element-slots more s v t is (newest_lt s t sound free)
    ∙ ap (slot_bytes s t) none ∙ ap (λ (n : ℕ). word n ++ 0xFF ∷ replicate s.size 0) next

-- the link that stands there
pub newest_link : (more : List ℕ) (s : Slots) (v : Array) (t : ℕ) → v ≡ slots_array more s → is_sound s ≡ true → s.free ≡ t ∷ drop 1 s.free → (2 ≤ length (get_or v.elements t [])) × (take 2 (get_or v.elements t []) ≡ word (first_token (drop 1 s.free)))
newest_link more s v t is sound free =
    let bytes = newest_bytes more s v t is sound free in
    let len = ap length bytes in
    (omega (arith, len), ap (take 2) bytes)

-- what a freed slot holds, as it comes in
pub freed-parts : (more : List ℕ) (s : Slots) (t size : ℕ) (extra first : List ℕ) → extra ≡ word (first_token s.free) ++ more → first ≡ take 2 extra → size ≡ s.size → first ++ (255 ∷ []) ++ [] ++ replicate size 0 ≡ slot_bytes (changed s t None (t ∷ s.free)) t None
freed-parts more s t size extra first is head same =
    ap₂ (λ (w : List ℕ) (n : ℕ). w ++ (255 ∷ []) ++ [] ++ replicate n 0) (head ∙ ap (take 2) is) same
    ∙ ap (λ (n : ℕ). word n ++ 0xFF ∷ replicate s.size 0) (sym (token_after-here t s.free))

pub length-freed : (s : Slots) (t : ℕ) (free element : List ℕ) → element ≡ slot_bytes (changed s t None free) t None → length element ≡ s.size + 3
length-freed s t free element e = let zeros = length-replicate {A = ℕ} s.size 0 in ap length e ∙ omega (arith, zeros)

-- A new element.

-- of one reference
abbrev pub fresh : List ℕ → Option Element
fresh bytes = Some (record { count = 1; bytes = bytes })

with_new-none : (s : Slots) (bytes : List ℕ) → s.free ≡ [] → with_new s bytes ≡ with_new_at [] s (fresh bytes)
with_new-none s bytes free = ap (λ (ts : List ℕ). with_new_at ts s (fresh bytes)) free

with_new-some : (s : Slots) (bytes : List ℕ) (t : ℕ) → s.free ≡ t ∷ drop 1 s.free → with_new s bytes ≡ with_new_at (t ∷ drop 1 s.free) s (fresh bytes)
with_new-some s bytes t free = ap (λ (ts : List ℕ). with_new_at ts s (fresh bytes)) free

-- where no token is free
pub token-none : (s : Slots) (bytes : List ℕ) (n : ℕ) → s.free ≡ [] → n ≡ length s.slots → n ≡ (with_new s bytes).1
token-none s bytes n free all = all ∙ sym (ap (λ (p : Slots × ℕ). p.1) (with_new-none s bytes free))

pub put-none : (more : List ℕ) (s : Slots) (v : Array) (n : ℕ) (extra element bytes : List ℕ) → v ≡ slots_array more s → s.free ≡ [] → n ≡ length s.slots → extra ≡ word (first_token s.free) ++ more → element ≡ little_bytes 3 1 ++ bytes → put v extra n n element ≡ slots_array more (with_new s bytes).0
put-none more s v n extra element bytes is free all first spells =
    ap (λ (a : Array). put a extra n n element) is
    ∙ put-appended more s (fresh bytes) n extra element all first spells
    ∙ sym (ap (λ (p : Slots × ℕ). slots_array more p.0) (with_new-none s bytes free))

-- where one is
pub token-some : (s : Slots) (bytes : List ℕ) (t : ℕ) → s.free ≡ t ∷ drop 1 s.free → t ≡ (with_new s bytes).1
token-some s bytes t free = sym (ap (λ (p : Slots × ℕ). p.1) (with_new-some s bytes t free))

pub put-some : (more : List ℕ) (s : Slots) (v : Array) (t at : ℕ) (extra element bytes : List ℕ) → v ≡ slots_array more s → is_sound s ≡ true → s.free ≡ t ∷ drop 1 s.free → at ≡ t → extra ≡ word (first_token (drop 1 s.free)) ++ more → element ≡ little_bytes 3 1 ++ bytes → put v extra at (at + 1) element ≡ slots_array more (with_new s bytes).0
put-some more s v t at extra element bytes is sound free place first spells =
    put-at more s v t at (fresh bytes) (drop 1 s.free) extra element is place (newest_lt s t sound free)
    (λ j other. sym (ap (λ (ts : List ℕ). token_after ts j) free ∙ token_after-other t (drop 1 s.free) j other)) first spells
    ∙ sym (ap (λ (p : Slots × ℕ). slots_array more p.0) (with_new-some s bytes t free))

-- ---- what an edit of slots, and its refusals, come to as an edit of all bytes of a chunk

-- Conditions may be any: those of element arrays or of name arrays.

-- What is refused of its own is refused.
pub refuses_own : (own : Conditions) (to : List ℕ) (known fault : Fault) → fault ≡ known → is_worn known ≡ false → first_refusal own ≡ Some known → RefusesToReplace own to fault
refuses_own own to known fault is early first = subst (RefusesToReplace own to) (sym is) (inr (refused-room own _ known early first))

-- An edit of some bytes, and its refusals, are those of the same bytes under conditions that decide the same.
module _ (own few : Conditions) (from to from′ to′ : List ℕ) (decides : first_refusal (own ++ too_long to) ≡ first_refusal (few ++ too_long to)) (to_is : to′ ≡ to) where
  pub refuses_for : (fault : Fault) → RefusesToReplace few to′ fault → RefusesToReplace own to fault
  refuses_for fault refused = elim refused [
    | inl memory ↦ inl memory
    | inr first ↦ inr (decides ∙ ap (λ (l : List ℕ). first_refusal (few ++ too_long l)) (sym to_is) ∙ first)
  ]

  module _ (from_is : from′ ≡ from) (t : ℕ) where
    pub replaces_for : (p : ArrayPatch) → ReplacesOne few from′ to′ t p → ReplacesOne own from to t p
    replaces_for p made = record {
      replaces = record {
        accepted = decides ∙ ap (λ (l : List ℕ). first_refusal (few ++ too_long l)) (sym to_is) ∙ made.replaces.accepted;
        leads = subst (λ (l : List ℕ). PatchLeads p.patch l to) from_is (subst (λ (l : List ℕ). PatchLeads p.patch from′ l) to_is made.replaces.leads);
      };
      runs = subst (λ (l : List ℕ). length l < 65536 → AreRuns l to t (t + 1) 1 p.runs) from_is (subst (λ (l : List ℕ). length from′ < 65536 → AreRuns from′ l t (t + 1) 1 p.runs) to_is made.runs);
    }

    pub handed_on : (r : Result ArrayPatch Fault) → MatchResult r (ReplacesOne few from′ to′ t) (RefusesToReplace few to′) → MatchResult r (ReplacesOne own from to t) (RefusesToReplace own to)
    handed_on (Ok p) made = replaces_for p made
    handed_on (Err fault) refused = refuses_for fault refused

-- An edit of slots, and its refusals, are those of the bytes, where no other refusal applies.
module _ (own : Conditions) (s : Slotted) (slots : Slots) (from to : List ℕ) (none : first_refusal own ≡ None) (from_is : slotted_bytes s.more s.slots ≡ from) (to_is : slotted_bytes s.more slots ≡ to) where
  pub slots_refused : (fault : Fault) → RefusesSlots s slots fault → RefusesToReplace own to fault
  slots_refused fault refused = refuses_for own [] from to (slotted_bytes s.more s.slots) (slotted_bytes s.more slots) (accepted-room own _ none) to_is fault refused

  pub slots_given : (t : ℕ) (p : ArrayPatch) → GivesSlots s slots t p → ReplacesOne own from to t p
  slots_given t p made = replaces_for own [] from to (slotted_bytes s.more s.slots) (slotted_bytes s.more slots) (accepted-room own _ none) to_is from_is t p made

  pub slots_handed_on : (t : ℕ) (r : Result ArrayPatch Fault) → MatchResult r (GivesSlots s slots t) (RefusesSlots s slots) → MatchResult r (ReplacesOne own from to t) (RefusesToReplace own to)
  slots_handed_on t (Ok p) made = slots_given t p made
  slots_handed_on t (Err fault) refused = slots_refused fault refused

  -- with a token beside the patch
  pub token_handed_on : (r : Result (ArrayPatch × Token) Fault) (token token′ : ℕ) → token′ ≡ token
      → MatchResult r (λ made. GivesSlots s slots token′ made.0 × (made.1.0 ≡ token′)) (RefusesSlots s slots)
      → MatchResult r (λ made. ReplacesOne own from to token made.0 × (made.1.0 ≡ token)) (RefusesToReplace own to)
  token_handed_on (Ok made) token token′ is h = (slots_given token made.0 (subst (λ t. GivesSlots s slots t made.0) is h.0), h.1 ∙ is)
  token_handed_on (Err fault) token token′ is refused = slots_refused fault refused

-- the fault that `?` hands on
pub carried : {T : Type 0} (r : Result T Fault) (P : T → Type 0) (Q : Fault → Type 0) (fault : Fault) → IsErrAnd r (λ e. e ≡ fault) → Q fault → MatchResult r P Q
carried (Ok x) P Q fault is q = absurd is
carried (Err e) P Q fault is q = subst Q (sym is) q

-- and one that is refused of its own
pub carried_own : {T : Type 0} (r : Result T Fault) (P : T → Type 0) (own : Conditions) (to : List ℕ) (known fault : Fault) → IsErrAnd r (λ e. e ≡ fault) → fault ≡ known → is_worn known ≡ false → first_refusal own ≡ Some known
    → MatchResult r P (RefusesToReplace own to)
carried_own r P own to known fault handed is early first = carried r P (RefusesToReplace own to) fault handed (refuses_own own to known fault is early first)
