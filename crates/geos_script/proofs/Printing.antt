-- What is printed is parsed as what it was.
use Rattle.std.proofs.Common.{◌≡◌, ◌∙◌, ap, refl, ℕ, zero, suc, ◌+◌, ◌-◌, ◌*◌, ◌/◌, ◌%◌, ◌^◌, ◌<◌, ◌≤◌, ◌==◌, Bool, true, false, not, ◌&&◌, nat_le, List, [], ◌∷◌, ◌++◌, length, fold, map, flat_map, codes, decimal, Some, if◌then◌else◌, inl, inr, arith}
use Rattle.std.specs.List.{AllByRecursion, list_all}
use Rattle.std.specs.Option.{option_map}
use Rattle.std.proofs.lemmas.Bool.{and_parts, cases_Bool, le-leb, ne_eqb}
use Rattle.std.proofs.lemmas.Bool.Decides.{nat_tests}
use Rattle.std.proofs.lemmas.Fmt.{decimal_by_steps, decimal_nonempty, length-decimal-le}
use Rattle.std.proofs.lemmas.List.Folds.{list_all-append}
use Rattle.std.proofs.lemmas.List.Sums.{fold_push, list_all-from_AllPass}
use Rattle.hex.specs.Hex.{IsBytes, encode_lower, is_hex_digit, lower_digits}
use Rattle.hex.proofs.HexLemmas.{decode_of-encode_lower, decode_of-ok, length-encode_with}
use Rattle.geos_model.specs.Bytes.{same_bytes}
use Rattle.geos_model.specs.Script.{block, bytes, chunk, command, command_of_words, element_number, four_digits, handle, hex_text, is_blank, is_digit, is_set, number, number_within, token, user_id, with_digit, words}
use Rattle.geos_model.specs.declared.command.Edit.{Edit}
use Rattle.geos_model.specs.declared.command.Edit.TheVariants as edits
use Rattle.geos_model.specs.declared.command.Command.{Command}
use Rattle.geos_model.specs.declared.command.Command.TheVariants as commands
use Rattle.geos_model.specs.declared.handle.VmHandle.{VmHandle}
use Rattle.geos_model.specs.declared.handle.ChunkHandle.{ChunkHandle}
use Rattle.geos_model.specs.declared.handle.Token.{Token}
use Rattle.geos_model.specs.declared.element_count.ElementCount.{ElementCount}
use Rattle.geos_model.proofs.Arrays.{same_bytes-is}
use Rattle.geos_script.specs.Printing.{Bytes, Flag, Handle, IsInRange, IsSpellable, LongNumber, Number, Operand, ShortNumber, Spelling, command_spelling, command_text, edit_spelling, flag_text, operand_text, spelling_text}
use Rattle.geos_script.proofs.Words.{command-short, words-word}

-- ---- each operand is read back

-- decimal digits, and their value
abbrev IsDecimal : ℕ → List ℕ → Type 0
IsDecimal n ds = (list_all is_digit ds ≡ true) × (fold with_digit 0 ds ≡ n)

is_digit-of : (n : ℕ) → n < 10 → is_digit (48 + n) ≡ true
is_digit-of n small = grind (arith, nat_tests)

IsDecimal-one : (n : ℕ) → n < 10 → IsDecimal n ((48 + n) ∷ [])
IsDecimal-one n small = (rw (is_digit-of n small) refl, omega arith)

IsDecimal-more : (n : ℕ) (ds : List ℕ) → 10 ≤ n → IsDecimal (n / 10) ds → IsDecimal n (ds ++ ((48 + n % 10) ∷ []))
IsDecimal-more n ds large is =
    let value : fold with_digit 0 (ds ++ ((48 + n % 10) ∷ [])) ≡ 10 * (n / 10) + (48 + n % 10 - 48) = fold_push with_digit 0 ds (48 + n % 10) ∙ ap (λ (v : ℕ). 10 * v + (48 + n % 10 - 48)) is.1 in
    (list_all-append is_digit ds ((48 + n % 10) ∷ []) ∙ rw (is.0, is_digit-of (n % 10) (omega arith)) refl, omega (arith, value))

IsDecimal-decimal : (n : ℕ) → n < 2 ^ 64 → IsDecimal n (decimal n)
IsDecimal-decimal n wide = decimal_by_steps IsDecimal IsDecimal-one IsDecimal-more n wide

if_all : {A : Type 0} (a b c : Bool) (x y : A) → a ≡ true → b ≡ true → c ≡ true → (if a && b && c then x else y) ≡ x
if_all a b c x y first second third = rw (first, second, third) refl

read_within : (most n : ℕ) → 1 ≤ most → n < 10 ^ most → n < 2 ^ 64 → number_within most (decimal n) ≡ Some n
read_within most n one small wide =
    let is = IsDecimal-decimal n wide in
    let some : 1 ≤ length (decimal n) = omega (arith, decimal_nonempty n wide) in
    let few : length (decimal n) ≤ most = length-decimal-le most n one small wide in
    if_all _ _ _ _ _ (le-leb 1 (length (decimal n)) some) (le-leb (length (decimal n)) most few) is.0 ∙ ap Some is.1

number_read : (n : ℕ) → n < 10 ^ 7 → number (decimal n) ≡ Some n
number_read n small = read_within 7 n (omega arith) small (omega arith)

element_number_read : (n : ElementCount) → n.0 < 10 ^ 9 → element_number (decimal n.0) ≡ Some n
element_number_read n small =
    let named : ℕ → ElementCount = λ k. record { 0 = k } in
    ap (option_map named) (read_within 9 n.0 (omega arith) small (omega arith))

short_read : (n : ℕ) → n < 2 ^ 16 → user_id (decimal n) ≡ Some n
short_read n small =
    let fits : nat_le n 65535 ≡ true = le-leb n 65535 (omega arith) in
    rw (number_read n (omega arith), fits) refl

two_bytes : (a b : ℕ) → a < 256 → b < 256 → IsBytes (a ∷ b ∷ [])
two_bytes a b first second zero = first
two_bytes a b first second (suc zero) = second
two_bytes a b first second (suc (suc i)) = omega arith

IsBytes-handle : (h : ℕ) → h < 2 ^ 16 → IsBytes (h / 256 ∷ h % 256 ∷ [])
IsBytes-handle h small = two_bytes (h / 256) (h % 256) (omega arith) (omega arith)

handle_read : (h : ℕ) → h < 2 ^ 16 → handle (four_digits h) ≡ Some h
handle_read h small =
    let whole : 256 * (h / 256) + h % 256 ≡ h = omega arith in
    rw (decode_of-encode_lower (h / 256 ∷ h % 256 ∷ []) (IsBytes-handle h small)) (ap Some whole)

block_read : (b : VmHandle) → b.0 < 2 ^ 16 → block (four_digits b.0) ≡ Some b
block_read b small = let named : ℕ → VmHandle = λ n. record { 0 = n } in ap (option_map named) (handle_read b.0 small)

chunk_read : (c : ChunkHandle) → c.0 < 2 ^ 16 → chunk (four_digits c.0) ≡ Some c
chunk_read c small = let named : ℕ → ChunkHandle = λ n. record { 0 = n } in ap (option_map named) (handle_read c.0 small)

token_read : (t : Token) → t.0 < 2 ^ 16 → token (four_digits t.0) ≡ Some t
token_read t small = let named : ℕ → Token = λ n. record { 0 = n } in ap (option_map named) (handle_read t.0 small)

no_dash : (ds : List ℕ) → 1 < length ds → same_bytes ds (codes "-") ≡ false
no_dash ds more = elim (cases_Bool (same_bytes ds (codes "-"))) [
  | inl is ↦ absurd (omega (arith, ap length (same_bytes-is ds (codes "-") is)))
  | inr other ↦ other
]

bytes_read : (bs : List ℕ) → IsBytes bs → bytes (hex_text bs) ≡ Some bs
bytes_read [] are = refl
bytes_read (x ∷ bs) are =
    let ds = encode_lower (x ∷ bs) in
    let two : length ds ≡ 2 * length (x ∷ bs) = length-encode_with lower_digits (x ∷ bs) in
    let dash : same_bytes ds (codes "-") ≡ false = no_dash ds (omega (arith, two)) in
    let some : length ds == 0 ≡ false = ne_eqb (length ds) 0 (λ e. omega (arith, two, e)) in
    rw (dash, some, decode_of-encode_lower (x ∷ bs) are) refl

flag_read : (b : Bool) → is_set (flag_text b) ≡ Some b
flag_read true = refl
flag_read false = refl

-- ---- each operand is a word

abbrev is_solid : List ℕ → Bool
is_solid w = list_all (λ x. not (is_blank x)) w

pub record IsWord (w : List ℕ) : Type 0 where
  pub some : 0 < length w
  pub solid : is_solid w ≡ true

solid_by : (p : ℕ → Bool) → ((x : ℕ) → p x ≡ true → not (is_blank x) ≡ true) → (xs : List ℕ) → list_all p xs ≡ true → is_solid xs ≡ true
solid_by p each [] all = refl
solid_by p each (x ∷ xs) all =
    let both = and_parts _ _ all in
    rw (each x both.0, solid_by p each xs both.1) refl

digit_solid : (x : ℕ) → is_digit x ≡ true → not (is_blank x) ≡ true
digit_solid x is = grind (arith, nat_tests, is)

hex_digit_solid : (x : ℕ) → is_hex_digit x ≡ true → not (is_blank x) ≡ true
hex_digit_solid x is = grind (arith, nat_tests, is)

IsWord-decimal : (n : ℕ) → n < 2 ^ 64 → IsWord (decimal n)
IsWord-decimal n wide = record {
  some = decimal_nonempty n wide;
  solid = solid_by is_digit digit_solid (decimal n) (IsDecimal-decimal n wide).0;
}

IsWord-encode : (bs : List ℕ) → 0 < length bs → IsBytes bs → IsWord (encode_lower bs)
IsWord-encode bs some are =
    let digits = decode_of-ok (encode_lower bs) bs (decode_of-encode_lower bs are) in
    record {
      some = omega (arith, length-encode_with lower_digits bs);
      solid = solid_by is_hex_digit hex_digit_solid (encode_lower bs) (list_all-from_AllPass is_hex_digit (encode_lower bs) digits.1);
    }

IsWord-hex : (bs : List ℕ) → IsBytes bs → IsWord (hex_text bs)
IsWord-hex [] are = record { some = omega arith; solid = refl }
IsWord-hex (x ∷ bs) are = IsWord-encode (x ∷ bs) (omega arith) are

IsWord-flag : (b : Bool) → IsWord (flag_text b)
IsWord-flag true = record { some = omega arith; solid = refl }
IsWord-flag false = record { some = omega arith; solid = refl }

IsWord-operand : (o : Operand) → IsInRange o → IsWord (operand_text o)
IsWord-operand (Handle h) fits = IsWord-encode (h / 256 ∷ h % 256 ∷ []) (omega arith) (IsBytes-handle h fits)
IsWord-operand (Number n) fits = IsWord-decimal n (omega arith)
IsWord-operand (ShortNumber n) fits = IsWord-decimal n (omega arith)
IsWord-operand (LongNumber n) fits = IsWord-decimal n (omega arith)
IsWord-operand (Bytes bs) fits = IsWord-hex bs fits
IsWord-operand (Flag b) fits = IsWord-flag b

-- ---- a name and its operands are the words of their text

words-spelled : (w : List ℕ) (os : List Operand) → IsWord w → AllByRecursion IsInRange os → words (w ++ flat_map (λ o. 32 ∷ operand_text o) os) ≡ w ∷ map operand_text os
words-spelled [] os is fits = absurd (omega (arith, is.some))
words-spelled (x ∷ w) [] is fits = words-word x w [] is.solid (λ lt. absurd (omega arith))
words-spelled (x ∷ w) (o ∷ os) is fits =
    words-word x w (32 ∷ operand_text o ++ flat_map (λ p. 32 ∷ operand_text p) os) is.solid (λ lt. refl)
    ∙ ap (λ (ws : List (List ℕ)). (x ∷ w) ∷ ws) (words-spelled (operand_text o) os (IsWord-operand o fits.0) fits.1)

-- ---- each row is read back

word : {x : ℕ} {w : List ℕ} → is_solid (x ∷ w) ≡ true → IsWord (x ∷ w)
word solid = record { some = omega arith; solid = solid }

-- a name is a word, and the row that it names makes the command of what its operands spell
abbrev IsRead : Spelling → Command → Type 0
IsRead s c = IsWord s.name × (AllByRecursion IsInRange s.operands → command_of_words (s.name ∷ map operand_text s.operands) ≡ Some c)

read_by : (s : Spelling) (c : Command) → IsRead s c → AllByRecursion IsInRange s.operands → command_of_words (words (spelling_text s)) ≡ Some c
read_by s c row fits = ap command_of_words (words-spelled s.name s.operands row.0 fits) ∙ row.1 fits

edit_read : (e : Edit) → IsRead (edit_spelling e) (commands.Edit e)
edit_read (edits.NewRaw uid n) = (word refl, λ h. rw (short_read uid h.0, number_read n h.1.0) refl)
edit_read (edits.NewHeap uid) = (word refl, λ h. rw (short_read uid h.0) refl)
edit_read (edits.FreeBlock b) = (word refl, λ h. rw (block_read b h.0) refl)
edit_read (edits.CopyBlock b) = (word refl, λ h. rw (block_read b h.0) refl)
edit_read (edits.WriteRaw b at bytes) = (word refl, λ h. rw (block_read b h.0, number_read at h.1.0, bytes_read bytes h.1.1.0) refl)
edit_read (edits.SpliceRaw b at n bytes) = (word refl, λ h. rw (block_read b h.0, number_read at h.1.0, number_read n h.1.1.0, bytes_read bytes h.1.1.1.0) refl)
edit_read (edits.Attach b bytes) = (word refl, λ h. rw (block_read b h.0, bytes_read bytes h.1.0) refl)
edit_read (edits.SetUserId b uid) = (word refl, λ h. rw (block_read b h.0, short_read uid h.1.0) refl)
edit_read (edits.SetType b t) = (word refl, λ h. rw (block_read b h.0, short_read t h.1.0) refl)
edit_read (edits.SetMap b) = (word refl, λ h. rw (block_read b h.0) refl)
edit_read (edits.Alloc b n) = (word refl, λ h. rw (block_read b h.0, number_read n h.1.0) refl)
edit_read (edits.Free b c) = (word refl, λ h. rw (block_read b h.0, chunk_read c h.1.0) refl)
edit_read (edits.Resize b c n) = (word refl, λ h. rw (block_read b h.0, chunk_read c h.1.0, number_read n h.1.1.0) refl)
edit_read (edits.Insert b c at n) = (word refl, λ h. rw (block_read b h.0, chunk_read c h.1.0, number_read at h.1.1.0, number_read n h.1.1.1.0) refl)
edit_read (edits.Delete b c at n) = (word refl, λ h. rw (block_read b h.0, chunk_read c h.1.0, number_read at h.1.1.0, number_read n h.1.1.1.0) refl)
edit_read (edits.Write b c at bytes) = (word refl, λ h. rw (block_read b h.0, chunk_read c h.1.0, number_read at h.1.1.0, bytes_read bytes h.1.1.1.0) refl)
edit_read (edits.Splice b c at n bytes) = (word refl, λ h. rw (block_read b h.0, chunk_read c h.1.0, number_read at h.1.1.0, number_read n h.1.1.1.0, bytes_read bytes h.1.1.1.1.0) refl)
edit_read (edits.CreateArray b e x) = (word refl, λ h. rw (block_read b h.0, number_read e h.1.0, number_read x h.1.1.0) refl)
edit_read (edits.InsertElement b c i bytes) = (word refl, λ h. rw (block_read b h.0, chunk_read c h.1.0, number_read i h.1.1.0, bytes_read bytes h.1.1.1.0) refl)
edit_read (edits.SetElement b c i bytes) = (word refl, λ h. rw (block_read b h.0, chunk_read c h.1.0, number_read i h.1.1.0, bytes_read bytes h.1.1.1.0) refl)
edit_read (edits.ResizeElement b c i n) = (word refl, λ h. rw (block_read b h.0, chunk_read c h.1.0, number_read i h.1.1.0, number_read n h.1.1.1.0) refl)
edit_read (edits.DeleteElements b c i k) = (word refl, λ h. rw (block_read b h.0, chunk_read c h.1.0, number_read i h.1.1.0, number_read k h.1.1.1.0) refl)
edit_read (edits.ZeroArray b c) = (word refl, λ h. rw (block_read b h.0, chunk_read c h.1.0) refl)
edit_read (edits.CreateElementArray b e) = (word refl, λ h. rw (block_read b h.0, number_read e h.1.0) refl)
edit_read (edits.AddElement b c bytes) = (word refl, λ h. rw (block_read b h.0, chunk_read c h.1.0, bytes_read bytes h.1.1.0) refl)
edit_read (edits.AddReference b c t) = (word refl, λ h. rw (block_read b h.0, chunk_read c h.1.0, token_read t h.1.1.0) refl)
edit_read (edits.RemoveReference b c t) = (word refl, λ h. rw (block_read b h.0, chunk_read c h.1.0, token_read t h.1.1.0) refl)
edit_read (edits.DeleteElement b c t) = (word refl, λ h. rw (block_read b h.0, chunk_read c h.1.0, token_read t h.1.1.0) refl)
edit_read (edits.ChangeElement b c t bytes) = (word refl, λ h. rw (block_read b h.0, chunk_read c h.1.0, token_read t h.1.1.0, bytes_read bytes h.1.1.1.0) refl)
edit_read (edits.CreateNameArray b d) = (word refl, λ h. rw (block_read b h.0, number_read d h.1.0) refl)
edit_read (edits.AddName b c name part replace) = (word refl, λ h. rw (block_read b h.0, chunk_read c h.1.0, bytes_read name h.1.1.0, bytes_read part h.1.1.1.0, flag_read replace) refl)
edit_read (edits.ChangeName b c t name) = (word refl, λ h. rw (block_read b h.0, chunk_read c h.1.0, token_read t h.1.1.0, bytes_read name h.1.1.1.0) refl)
edit_read (edits.SetNamePart b c t part) = (word refl, λ h. rw (block_read b h.0, chunk_read c h.1.0, token_read t h.1.1.0, bytes_read part h.1.1.1.0) refl)
edit_read (edits.RemoveName b c t) = (word refl, λ h. rw (block_read b h.0, chunk_read c h.1.0, token_read t h.1.1.0) refl)
edit_read (edits.CopyChain b) = (word refl, λ h. rw (block_read b h.0) refl)
edit_read (edits.FreeChain b) = (word refl, λ h. rw (block_read b h.0) refl)
edit_read (edits.CreateLarge uid e) = (word refl, λ h. rw (short_read uid h.0, number_read e h.1.0) refl)
edit_read (edits.InsertLarge b i bytes) = (word refl, λ h. rw (block_read b h.0, element_number_read i h.1.0, bytes_read bytes h.1.1.0) refl)
edit_read (edits.SetLarge b i bytes) = (word refl, λ h. rw (block_read b h.0, element_number_read i h.1.0, bytes_read bytes h.1.1.0) refl)
edit_read (edits.DeleteLarge b i n) = (word refl, λ h. rw (block_read b h.0, element_number_read i h.1.0, element_number_read n h.1.1.0) refl)

command_read : (c : Command) → AllByRecursion IsInRange (command_spelling c).operands → command_of_words (words (spelling_text (command_spelling c))) ≡ Some c
command_read commands.Blank h = refl
command_read (commands.Edit e) h = read_by (edit_spelling e) _ (edit_read e) h
command_read commands.Undo h =
    read_by (command_spelling commands.Undo) commands.Undo (word refl, λ h. refl) h
command_read commands.Redo h =
    read_by (command_spelling commands.Redo) commands.Redo (word refl, λ h. refl) h
command_read commands.Begin h =
    read_by (command_spelling commands.Begin) commands.Begin (word refl, λ h. refl) h
command_read commands.End h =
    read_by (command_spelling commands.End) commands.End (word refl, λ h. refl) h
command_read commands.Abandon h =
    read_by (command_spelling commands.Abandon) commands.Abandon (word refl, λ h. refl) h
command_read commands.Join h =
    read_by (command_spelling commands.Join) commands.Join (word refl, λ h. refl) h
command_read (commands.Forget most) h =
    read_by (command_spelling (commands.Forget most)) (commands.Forget most) (word refl, λ h. rw (number_read most h.0) refl) h
command_read (commands.Name name) h =
    read_by (command_spelling (commands.Name name)) (commands.Name name) (word refl, λ h. rw (bytes_read name h.0) refl) h
command_read commands.Update h =
    read_by (command_spelling commands.Update) commands.Update (word refl, λ h. refl) h
command_read commands.Save h =
    read_by (command_spelling commands.Save) commands.Save (word refl, λ h. refl) h
command_read commands.Revert h =
    read_by (command_spelling commands.Revert) commands.Revert (word refl, λ h. refl) h
command_read commands.SaveAs h =
    read_by (command_spelling commands.SaveAs) commands.SaveAs (word refl, λ h. refl) h
command_read (commands.Info b) h =
    read_by (command_spelling (commands.Info b)) (commands.Info b) (word refl, λ h. rw (block_read b h.0) refl) h
command_read (commands.HeapType b) h =
    read_by (command_spelling (commands.HeapType b)) (commands.HeapType b) (word refl, λ h. rw (block_read b h.0) refl) h
command_read commands.List h =
    read_by (command_spelling commands.List) commands.List (word refl, λ h. refl) h
command_read (commands.Find uid b) h =
    read_by (command_spelling (commands.Find uid b)) (commands.Find uid b) (word refl, λ h. rw (short_read uid h.0, block_read b h.1.0) refl) h
command_read commands.MapBlock h =
    read_by (command_spelling commands.MapBlock) commands.MapBlock (word refl, λ h. refl) h
command_read (commands.ReadRaw b) h =
    read_by (command_spelling (commands.ReadRaw b)) (commands.ReadRaw b) (word refl, λ h. rw (block_read b h.0) refl) h
command_read (commands.Chunks b) h =
    read_by (command_spelling (commands.Chunks b)) (commands.Chunks b) (word refl, λ h. rw (block_read b h.0) refl) h
command_read (commands.Read b c) h =
    read_by (command_spelling (commands.Read b c)) (commands.Read b c) (word refl, λ h. rw (block_read b h.0, chunk_read c h.1.0) refl) h
command_read (commands.ArrayCount b c) h =
    read_by (command_spelling (commands.ArrayCount b c)) (commands.ArrayCount b c) (word refl, λ h. rw (block_read b h.0, chunk_read c h.1.0) refl) h
command_read (commands.ArrayElement b c i) h =
    read_by (command_spelling (commands.ArrayElement b c i)) (commands.ArrayElement b c i) (word refl, λ h. rw (block_read b h.0, chunk_read c h.1.0, number_read i h.1.1.0) refl) h
command_read (commands.ElementReferences b c t) h =
    read_by (command_spelling (commands.ElementReferences b c t)) (commands.ElementReferences b c t) (word refl, λ h. rw (block_read b h.0, chunk_read c h.1.0, token_read t h.1.1.0) refl) h
command_read (commands.ElementBytes b c t) h =
    read_by (command_spelling (commands.ElementBytes b c t)) (commands.ElementBytes b c t) (word refl, λ h. rw (block_read b h.0, chunk_read c h.1.0, token_read t h.1.1.0) refl) h
command_read (commands.ElementsUsed b c) h =
    read_by (command_spelling (commands.ElementsUsed b c)) (commands.ElementsUsed b c) (word refl, λ h. rw (block_read b h.0, chunk_read c h.1.0) refl) h
command_read (commands.TokenOfUsed b c k) h =
    read_by (command_spelling (commands.TokenOfUsed b c k)) (commands.TokenOfUsed b c k) (word refl, λ h. rw (block_read b h.0, chunk_read c h.1.0, number_read k h.1.1.0) refl) h
command_read (commands.UsedOfToken b c t) h =
    read_by (command_spelling (commands.UsedOfToken b c t)) (commands.UsedOfToken b c t) (word refl, λ h. rw (block_read b h.0, chunk_read c h.1.0, token_read t h.1.1.0) refl) h
command_read (commands.NameFind b c name) h =
    read_by (command_spelling (commands.NameFind b c name)) (commands.NameFind b c name) (word refl, λ h. rw (block_read b h.0, chunk_read c h.1.0, bytes_read name h.1.1.0) refl) h
command_read (commands.NameReferences b c t) h =
    read_by (command_spelling (commands.NameReferences b c t)) (commands.NameReferences b c t) (word refl, λ h. rw (block_read b h.0, chunk_read c h.1.0, token_read t h.1.1.0) refl) h
command_read (commands.NameText b c t) h =
    read_by (command_spelling (commands.NameText b c t)) (commands.NameText b c t) (word refl, λ h. rw (block_read b h.0, chunk_read c h.1.0, token_read t h.1.1.0) refl) h
command_read (commands.NamePart b c t) h =
    read_by (command_spelling (commands.NamePart b c t)) (commands.NamePart b c t) (word refl, λ h. rw (block_read b h.0, chunk_read c h.1.0, token_read t h.1.1.0) refl) h
command_read (commands.Walk b) h =
    read_by (command_spelling (commands.Walk b)) (commands.Walk b) (word refl, λ h. rw (block_read b h.0) refl) h
command_read (commands.ChainSize b) h =
    read_by (command_spelling (commands.ChainSize b)) (commands.ChainSize b) (word refl, λ h. rw (block_read b h.0) refl) h
command_read (commands.ChainEqual b other) h =
    read_by (command_spelling (commands.ChainEqual b other)) (commands.ChainEqual b other) (word refl, λ h. rw (block_read b h.0, block_read other h.1.0) refl) h
command_read (commands.LargeCount b) h =
    read_by (command_spelling (commands.LargeCount b)) (commands.LargeCount b) (word refl, λ h. rw (block_read b h.0) refl) h
command_read (commands.LargeElement b i) h =
    read_by (command_spelling (commands.LargeElement b i)) (commands.LargeElement b i) (word refl, λ h. rw (block_read b h.0, element_number_read i h.1.0) refl) h
command_read (commands.LargeRun b i n) h =
    read_by (command_spelling (commands.LargeRun b i n)) (commands.LargeRun b i n) (word refl, λ h. rw (block_read b h.0, element_number_read i h.1.0, element_number_read n h.1.1.0) refl) h
command_read (commands.Lock b) h =
    read_by (command_spelling (commands.Lock b)) (commands.Lock b) (word refl, λ h. rw (block_read b h.0) refl) h
command_read (commands.Unlock b) h =
    read_by (command_spelling (commands.Unlock b)) (commands.Unlock b) (word refl, λ h. rw (block_read b h.0) refl) h
command_read (commands.Dirty b) h =
    read_by (command_spelling (commands.Dirty b)) (commands.Dirty b) (word refl, λ h. rw (block_read b h.0) refl) h
command_read (commands.Locks b) h =
    read_by (command_spelling (commands.Locks b)) (commands.Locks b) (word refl, λ h. rw (block_read b h.0) refl) h
command_read commands.Undos h =
    read_by (command_spelling commands.Undos) commands.Undos (word refl, λ h. refl) h
command_read commands.Redos h =
    read_by (command_spelling commands.Redos) commands.Redos (word refl, λ h. refl) h
command_read commands.Modified h =
    read_by (command_spelling commands.Modified) commands.Modified (word refl, λ h. refl) h
command_read commands.UndoName h =
    read_by (command_spelling commands.UndoName) commands.UndoName (word refl, λ h. refl) h
command_read commands.RedoName h =
    read_by (command_spelling commands.RedoName) commands.RedoName (word refl, λ h. refl) h
command_read commands.Touched h =
    read_by (command_spelling commands.Touched) commands.Touched (word refl, λ h. refl) h
command_read commands.UndoPlaces h =
    read_by (command_spelling commands.UndoPlaces) commands.UndoPlaces (word refl, λ h. refl) h
command_read commands.RedoPlaces h =
    read_by (command_spelling commands.RedoPlaces) commands.RedoPlaces (word refl, λ h. refl) h
command_read commands.AbandonPlaces h =
    read_by (command_spelling commands.AbandonPlaces) commands.AbandonPlaces (word refl, λ h. refl) h

-- what some line spells is what its text is parsed as
pub command_of_text : (c : Command) → IsSpellable c → command (command_text c) ≡ Some c
unfolding command_text
command_of_text c is = command-short (command_text c) is.fits ∙ command_read c is.in_range
