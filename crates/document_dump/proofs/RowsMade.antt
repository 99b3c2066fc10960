-- The edits that make a name array or an element array by adding one after another.
use Rattle.std.proofs.Common.{◌≡◌, ℕ, suc, ◌+◌, ◌-◌, ◌<◌, Bool, true, false, ◌==◌, ◌&&◌, List, [], ◌∷◌, ◌++◌, Option, Some, None, is_some, length, drop, if◌then◌else◌, refl, sym, ap, ◌∙◌, arith, append_assoc}
use Rattle.std.specs.List.{list_all, range_with_len, flat_map}
use Rattle.std.specs.Option.{option_and_then, option_map_or}
use Rattle.std.proofs.lemmas.Bool.{cond-true, true≢false}
use Rattle.geos_model.specs.Bytes.{same_bytes}
use Rattle.geos_model.specs.Words.{word_at}
use Rattle.geos_model.specs.Array.{Array, array_of}
use Rattle.geos_model.specs.ElementArray.{Element, Slots, element_at, slots_of}
use Rattle.geos_model.specs.ElementEdits.{token_of}
use Rattle.geos_model.specs.NameArray.{NameArray, is_sound_names, name_array_of, names_of, names_read}
use Rattle.geos_model.specs.declared.handle.VmHandle.{VmHandle}
use Rattle.geos_model.specs.declared.handle.ChunkHandle.{ChunkHandle}
use Rattle.geos_model.specs.declared.command.Edit.{Edit}
use Rattle.document_dump.specs.Lines.{line, text}
use Rattle.document_dump.specs.Rows.{are_own, array_edits, elements_to_make, if_own_elements, if_own_names, is_lowest_token, is_own, names_to_make, row_created, row_made, slot_made}
use Rattle.document_dump.specs.Arrays.{array_made}
use Rattle.document_dump.specs.declared.rows.Row.{Row}
use Rattle.document_dump.specs.declared.rows.Row.TheVariants as rows

pub own_is : (skip t : ℕ) (s : Slots) (e : Element) (x : List ℕ) (o : Option ℕ) → Some e ≡ element_at s t → x ≡ drop skip e.bytes
    → o ≡ token_of (λ y. same_bytes (drop skip y.bytes) x) s → option_map_or (λ u. u == t) o false ≡ is_own skip s t
own_is skip t s e x o e_is x_is o_is =
    ap (λ (p : Option ℕ). option_map_or (λ u. u == t) p false) o_is
    ∙ ap (λ (l : List ℕ). option_map_or (λ u. u == t) (token_of (λ y. same_bytes (drop skip y.bytes) l) s) false) x_is
    ∙ ap (λ (slot : Option Element). option_map_or (is_lowest_token skip s t) slot false) e_is

-- a test of each of the numbers from one on, of which the first passes or doesn't
pub all_next : (f : ℕ → Bool) (t n : ℕ) → t < n → list_all f (range_with_len t (n - t)) ≡ (f t && list_all f (range_with_len (t + 1) (n - (t + 1))))
all_next f t n below = let left : n - t ≡ suc (n - (t + 1)) = omega arith in ap (λ (k : ℕ). list_all f (range_with_len t k)) left

pub all_none : (f : ℕ → Bool) (t n : ℕ) → n - t ≡ 0 → list_all f (range_with_len t (n - t)) ≡ true
all_none f t n none = ap (λ (k : ℕ). list_all f (range_with_len t k)) none

pub own_all : (skip : ℕ) (s : Slots) → are_own skip s ≡ list_all (is_own skip s) (range_with_len 0 (length s.slots - 0))
unfolding are_own
own_all skip s = let whole : length s.slots ≡ length s.slots - 0 = omega arith in ap (λ (n : ℕ). list_all (is_own skip s) (range_with_len 0 n)) whole

pub names_is : (a : Array) (s : Slots) (part : ℕ) → slots_of 4 a ≡ Some s → part ≡ word_at a.extra 2 → is_sound_names (record { part = part; names = s }) ≡ true
    → names_to_make a ≡ if_own_names (record { part = part; names = s })
unfolding names_to_make
names_is a s part slots read sound =
    let n : NameArray = record { part = part; names = s } in
    let same : names_read a s ≡ n = ap (λ (p : ℕ). record { part = p; names = s }) (sym read) in
    ap (λ (o : Option Slots). option_and_then if_own_names (option_and_then (λ r. if is_sound_names (names_read a r) then Some (names_read a r) else None) o)) slots
    ∙ ap (λ (r : NameArray). option_and_then if_own_names (if is_sound_names r then Some r else None)) same
    ∙ ap (option_and_then if_own_names) (cond-true _ _ _ sound)

pub elements_is : (a : Array) (o : Option Slots) → slots_of 2 a ≡ o → elements_to_make a ≡ option_and_then if_own_elements o
unfolding elements_to_make
elements_is a o is = ap (option_and_then if_own_elements) is

pub row_pushed : (b : VmHandle) (c : ChunkHandle) (row : Row) (a : Array) (s : Slots) (n : ℕ) (o0 o1 o2 : List ℕ) → n ≡ length a.elements
    → o1 ≡ o0 ++ line (row_created b row s) → o2 ≡ o1 ++ text (flat_map (slot_made b c row a s) (range_with_len 0 n)) → o2 ≡ o0 ++ text (row_made b c row a s)
unfolding row_made
row_pushed b c row a s n o0 o1 o2 count first more =
    let rest : ℕ → List ℕ = λ k. text (flat_map (slot_made b c row a s) (range_with_len 0 k)) in
    more ∙ ap (λ (l : List ℕ). l ++ rest n) first ∙ append_assoc o0 (line (row_created b row s)) (rest n) ∙ ap (λ (k : ℕ). o0 ++ (line (row_created b row s) ++ rest k)) count

none_is : {X : Type 0} (o : Option X) → is_some o ≡ false → o ≡ None
none_is None other = refl
none_is (Some x) other = absurd (true≢false other)

pub unnamed : (bytes : List ℕ) (a : Array) → array_of bytes ≡ Some a → is_some (name_array_of bytes) ≡ false → names_to_make a ≡ None
unfolding name_array_of names_to_make
unnamed bytes a is other = ap (option_and_then if_own_names) (none_is (names_of a) (ap (λ (o : Option Array). is_some (option_and_then names_of o)) (sym is) ∙ other))

pub edits_named : (b : VmHandle) (c : ChunkHandle) (a : Array) (n : NameArray) → names_to_make a ≡ Some n → row_made b c (rows.Names n.part) a n.names ≡ array_edits b c a
unfolding array_edits
edits_named b c a n is =
    let other : List Edit = option_map_or (row_made b c rows.Elements a) (elements_to_make a) (array_made b c a) in
    ap (λ (o : Option NameArray). option_map_or (λ m. row_made b c (rows.Names m.part) a m.names) o other) (sym is)

pub edits_unnamed : (b : VmHandle) (c : ChunkHandle) (a : Array) → names_to_make a ≡ None → option_map_or (row_made b c rows.Elements a) (elements_to_make a) (array_made b c a) ≡ array_edits b c a
unfolding array_edits
edits_unnamed b c a none =
    let other : List Edit = option_map_or (row_made b c rows.Elements a) (elements_to_make a) (array_made b c a) in
    ap (λ (o : Option NameArray). option_map_or (λ m. row_made b c (rows.Names m.part) a m.names) o other) (sym none)
