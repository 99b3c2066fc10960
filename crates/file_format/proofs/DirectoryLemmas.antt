-- The text of a directory, entry by entry.
use Rattle.std.proofs.Common.{◌≡◌, ℕ, suc, ◌+◌, ◌*◌, ◌-◌, ◌<◌, ◌≤◌, Bool, true, false, cond, ◌&&◌, ◌==◌, Option, Some, None, List, [], ◌∷◌, ◌++◌, map, length, take, drop, get_or, nat_lt, flat_map, refl, sym, ap, ap₂, subst, ◌∙◌, arith, inl, inr, take_at, take-add, take_all, take-append-drop, drop-drop, length-drop, lt-ltb, ltb-true}
use Rattle.std.proofs.Math.Seq.{drop-cons}
use native.Mathlib.Nat.{mul-zero}
use Rattle.std.proofs.lemmas.Bool.{cases_Bool, and_parts, and_from, cond-true, cond-false}
use Rattle.std.proofs.lemmas.List.{flat_map_more, take_more, take_rest, drop-take}
use Rattle.byteorder.specs.Endian.{little_number}
use Rattle.byteorder.specs.Numbers.{little_from-take}
use Rattle.std.proofs.lemmas.List.FromFn.{map-range_with_len_more, take-map-range_with_len, get_or-map-range_with_len, length-map-range_with_len}
use Rattle.std.proofs.lemmas.List.Folds.{list_all-append}
use Rattle.std.specs.List.{range_with_len, list_all}
use Rattle.geos_model.specs.Words.{word_at}
use Rattle.geos_model.specs.Bytes.{same_bytes}
use Rattle.file_format.specs.File.{Directory, header_text, entry_length, entry_text, directory_text, sum_at, entry_read, entry_start, directory_read, is_rising, is_entry, is_map_block, is_version_in, is_directory, directory_in}
use Rattle.file_format.specs.declared.file.Entry.{Entry}
use Rattle.geos_model.proofs.Arrays.{same_bytes-is, same_bytes-refl}
use Rattle.file_format.proofs.Files.{no_entry, length-entry, entries-more, drop-entries, is_directory-parts, is_directory-from, length-directory, some_if}
use Rattle.file_format.specs.Listed.{version_read, HasHeader, IsNextEntry, entries_read, are_entries}

-- one entry more
pub text-more : (version : ℕ) (before : List ℕ) (es : List Entry) (i : ℕ) (d : Entry) → i < length es → (before ++ flat_map (entry_text version) (take i es)) ++ entry_text version (get_or es i d) ≡ before ++ flat_map (entry_text version) (take (i + 1) es)
text-more version before es i d l = flat_map_more (entry_text version) before (take i es) (get_or es i d) ∙ ap (λ (l : List Entry). before ++ flat_map (entry_text version) l) (sym (take_more es i d l))

-- the entry that is read at a place
abbrev pub entry_at : List ℕ → ℕ → Entry
entry_at bytes i = entry_read (version_read bytes) (drop (entry_start (version_read bytes) i) bytes)

-- the handle that the last of these has
abbrev pub last_handle : ℕ → List Entry → ℕ
last_handle last [] = last
last_handle last (e ∷ es) = last_handle e.handle.0 es

-- The first i entries are read, and good.
pub record AreRead (file_version n : ℕ) (bytes : List ℕ) (i : ℕ) (es : List Entry) (last : ℕ) : Type 0 where
  pub items : es ≡ map (entry_at bytes) (range_with_len 0 i)
  pub last_is : last_handle 0 es ≡ last
  pub rising : is_rising 0 es ≡ true
  pub entries : list_all (is_entry file_version n (version_read bytes)) es ≡ true
  pub text : flat_map (entry_text (version_read bytes)) es ≡ take (entry_length (version_read bytes) * i) (drop 16 bytes)

last_handle-append : (last : ℕ) (es : List Entry) (x : Entry) → last_handle last (es ++ x ∷ []) ≡ x.handle.0
last_handle-append last [] x = refl
last_handle-append last (e ∷ es) x = last_handle-append e.handle.0 es x

-- Handles rise along two lists where they rise along each, and from the one to the other.
rising-parts : (last : ℕ) (es xs : List Entry) → is_rising last (es ++ xs) ≡ true → is_rising (last_handle last es) xs ≡ true
rising-parts last [] xs h = h
rising-parts last (e ∷ es) xs h = rising-parts e.handle.0 es xs (and_parts (nat_lt last e.handle.0) (is_rising e.handle.0 (es ++ xs)) h).1

rising-more : (last : ℕ) (es : List Entry) (x : Entry) → is_rising last es ≡ true → last_handle last es < x.handle.0 → is_rising last (es ++ x ∷ []) ≡ true
rising-more last [] x h l = and_from (nat_lt last x.handle.0) true (lt-ltb last x.handle.0 l) refl
rising-more last (e ∷ es) x h l =
    let parts = and_parts (nat_lt last e.handle.0) (is_rising e.handle.0 es) h in
    and_from (nat_lt last e.handle.0) (is_rising e.handle.0 (es ++ x ∷ [])) parts.0 (rising-more e.handle.0 es x parts.1 l)

pub read-start : (file_version n : ℕ) (bytes : List ℕ) → AreRead file_version n bytes 0 [] 0
read-start file_version n bytes = record { items = refl; last_is = refl; rising = refl; entries = refl; text = sym (ap (λ (k : ℕ). take k (drop 16 bytes)) (mul-zero (entry_length (version_read bytes)))) }

-- the bytes of the entry at a place
abbrev pub text_at : List ℕ → ℕ → List ℕ
text_at bytes i = take (entry_length (version_read bytes)) (drop (entry_start (version_read bytes) i) bytes)

-- a field within the first bytes
field : (a n m : ℕ) (xs : List ℕ) → n ≤ m → little_number n (drop a (take (a + m) xs)) ≡ little_number n (drop a xs)
field a n m xs l = ap (little_number n) (drop-take a m xs) ∙ little_from-take 0 n m (drop a xs) (omega (arith, l))

-- an entry is read from its bytes
entry_read-sixteen : (version : ℕ) (xs : List ℕ) → (version == 3) ≡ false → entry_read version (take 16 xs) ≡ entry_read version xs
entry_read-sixteen version xs older =
    let made : ℕ → ℕ → ℕ → ℕ → ℕ → Option ℕ → Entry = λ h u p n t s. record { handle = record { 0 = h }; attributes = record { user_id = u; heap_type = cond (version == 1) 0 t }; extent = record { page = p; length = n }; sum = s } in
    let ys : List ℕ = take 16 xs in
    let none : Option ℕ = sum_at version ys 16 in
    ap₂ (λ (h u : ℕ). made h u (little_number 4 (drop 4 ys)) (little_number 4 (drop 8 ys)) (little_number 2 (drop 12 ys)) none) (field 0 2 16 xs (omega arith)) (field 2 2 14 xs (omega arith))
    ∙ ap₂ (λ (p n : ℕ). made (little_number 2 (drop 0 xs)) (little_number 2 (drop 2 xs)) p n (little_number 2 (drop 12 ys)) none) (field 4 4 12 xs (omega arith)) (field 8 4 8 xs (omega arith))
    ∙ ap₂ (made (little_number 2 (drop 0 xs)) (little_number 2 (drop 2 xs)) (little_number 4 (drop 4 xs)) (little_number 4 (drop 8 xs))) (field 12 2 4 xs (omega arith)) (cond-false _ _ _ older ∙ sym (cond-false _ _ _ older))

entry_read-twenty : (version : ℕ) (xs : List ℕ) → entry_read version (take 20 xs) ≡ entry_read version xs
entry_read-twenty version xs =
    let made : ℕ → ℕ → ℕ → ℕ → ℕ → ℕ → Entry = λ h u p n t s. record { handle = record { 0 = h }; attributes = record { user_id = u; heap_type = cond (version == 1) 0 t }; extent = record { page = p; length = n }; sum = cond (version == 3) (Some s) None } in
    let ys : List ℕ = take 20 xs in
    ap₂ (λ (h u : ℕ). made h u (little_number 4 (drop 4 ys)) (little_number 4 (drop 8 ys)) (little_number 2 (drop 12 ys)) (little_number 4 (drop 16 ys))) (field 0 2 20 xs (omega arith)) (field 2 2 18 xs (omega arith))
    ∙ ap₂ (λ (p n : ℕ). made (little_number 2 (drop 0 xs)) (little_number 2 (drop 2 xs)) p n (little_number 2 (drop 12 ys)) (little_number 4 (drop 16 ys))) (field 4 4 16 xs (omega arith)) (field 8 4 12 xs (omega arith))
    ∙ ap₂ (made (little_number 2 (drop 0 xs)) (little_number 2 (drop 2 xs)) (little_number 4 (drop 4 xs)) (little_number 4 (drop 8 xs))) (field 12 2 8 xs (omega arith)) (field 16 4 4 xs (omega arith))

pub entry_read-take : (version : ℕ) (xs : List ℕ) → entry_read version (take (entry_length version) xs) ≡ entry_read version xs
entry_read-take version xs = elim (cases_Bool (version == 3)) [
  | inl three ↦ ap (λ (n : ℕ). entry_read version (take n xs)) (cond-true _ _ _ three) ∙ entry_read-twenty version xs
  | inr older ↦ ap (λ (n : ℕ). entry_read version (take n xs)) (cond-false _ _ _ older) ∙ entry_read-sixteen version xs older
]

-- the bytes from a place to so many further
pub between : (bytes : List ℕ) (at m : ℕ) → take (at + m - at) (drop at bytes) ≡ take m (drop at bytes)
between bytes at m =
    let n : at + m - at ≡ m = omega arith in
    ap (λ (k : ℕ). take k (drop at bytes)) n

-- those of an entry, wherever it is said to be
pub text_between : (version size at : ℕ) (bytes : List ℕ) (i : ℕ) → version ≡ version_read bytes → size ≡ entry_length version → at ≡ entry_start version i → take (at + size - at) (drop at bytes) ≡ text_at bytes i
text_between version size at bytes i is size_is at_is =
    between bytes at size
    ∙ ap₂ (λ (m k : ℕ). take m (drop k bytes)) (size_is ∙ ap entry_length is) (at_is ∙ ap (λ v. entry_start v i) is)

pub entry_between : (version : ℕ) (text bytes : List ℕ) (i : ℕ) → version ≡ version_read bytes → text ≡ text_at bytes i → entry_read version text ≡ entry_at bytes i
entry_between version text bytes i is text_is = ap₂ entry_read is text_is ∙ entry_read-take (version_read bytes) (drop (entry_start (version_read bytes) i) bytes)

-- the same said of equals
pub next_same : {file_version n last v w : ℕ} {t u : List ℕ} {e x : Entry} → v ≡ w → t ≡ u → e ≡ x → IsNextEntry file_version n v last t e → IsNextEntry file_version n w last u x
next_same {file_version} {n} {last} {v} {w} {t} {u} {e} {x} versions texts entries next =
    subst (λ (y : Entry). IsNextEntry file_version n w last u y) entries (subst (λ (s : List ℕ). IsNextEntry file_version n w last s e) texts (subst (λ k. IsNextEntry file_version n k last t e) versions next))

pub read-more : (file_version n : ℕ) (bytes : List ℕ) (i : ℕ) (es : List Entry) (last : ℕ) → AreRead file_version n bytes i es last → IsNextEntry file_version n (version_read bytes) last (text_at bytes i) (entry_at bytes i)
    → AreRead file_version n bytes (i + 1) (es ++ entry_at bytes i ∷ []) (entry_at bytes i).handle.0
read-more file_version n bytes i es last read next_is =
    let x : Entry = entry_at bytes i in
    let size : ℕ = entry_length (version_read bytes) in
    let behind : drop (size * i) (drop 16 bytes) ≡ drop (16 + size * i) bytes = drop-drop (size * i) 16 bytes in
    let next : size * i + size ≡ size * (i + 1) = (let more = entries-more (version_read bytes) i in omega (arith, more)) in
    record {
      items = ap (λ (l : List Entry). l ++ x ∷ []) read.items ∙ sym (map-range_with_len_more (entry_at bytes) 0 i i (omega arith));
      last_is = last_handle-append 0 es x;
      rising = rising-more 0 es x read.rising (subst (λ l. l < x.handle.0) (sym read.last_is) next_is.above);
      entries = list_all-append (is_entry file_version n (version_read bytes)) es (x ∷ []) ∙ and_from (list_all (is_entry file_version n (version_read bytes)) es) (is_entry file_version n (version_read bytes) x && true) read.entries (and_from (is_entry file_version n (version_read bytes) x) true next_is.stands refl);
      text = sym (flat_map_more (entry_text (version_read bytes)) [] es x)
          ∙ ap₂ (λ (a b : List ℕ). a ++ b) read.text (sym next_is.text_is ∙ ap (take size) (sym behind))
          ∙ sym (take-add (size * i) size (drop 16 bytes)) ∙ ap (λ (k : ℕ). take k (drop 16 bytes)) next;
    }

-- all entries are read, and good
pub read-all : (file_version n : ℕ) (bytes : List ℕ) (es : List Entry) (last : ℕ) → HasHeader file_version bytes → AreRead file_version n bytes (word_at bytes 6) es last → (es ≡ entries_read bytes) × (are_entries file_version n bytes ≡ true)
read-all file_version n bytes es last header read =
    let count : ℕ = word_at bytes 6 in
    let size : ℕ = entry_length (version_read bytes) in
    let whole : take (size * count) (drop 16 bytes) ≡ drop 16 bytes = take_all (size * count) (drop 16 bytes) (omega (arith, length-drop 16 bytes, header.size)) in
    let good : (is_rising 0 es && list_all (is_entry file_version n (version_read bytes)) es && same_bytes (flat_map (entry_text (version_read bytes)) es) (drop 16 bytes)) ≡ true =
    and_from (is_rising 0 es && list_all (is_entry file_version n (version_read bytes)) es) (same_bytes (flat_map (entry_text (version_read bytes)) es) (drop 16 bytes))
    (and_from (is_rising 0 es) (list_all (is_entry file_version n (version_read bytes)) es) read.rising read.entries)
    (subst (λ (l : List ℕ). same_bytes l (drop 16 bytes) ≡ true) (sym (read.text ∙ whole)) (same_bytes-refl (drop 16 bytes))) in
    (read.items, subst (λ (l : List Entry). (is_rising 0 l && list_all (is_entry file_version n (version_read bytes)) l && same_bytes (flat_map (entry_text (version_read bytes)) l) (drop 16 bytes)) ≡ true) read.items good)

-- all entries, where some are read
split : (file_version n : ℕ) (bytes : List ℕ) (i : ℕ) (es : List Entry) (last : ℕ) → AreRead file_version n bytes i es last → i < word_at bytes 6 → entries_read bytes ≡ es ++ entry_at bytes i ∷ drop (suc i) (entries_read bytes)
split file_version n bytes i es last read l =
    let all : List Entry = entries_read bytes in
    let long : length all ≡ word_at bytes 6 = length-map-range_with_len (entry_at bytes) 0 (word_at bytes 6) in
    let front : take i all ≡ es = take-map-range_with_len (entry_at bytes) 0 (word_at bytes 6) i (omega (arith, l)) ∙ sym read.items in
    let here : get_or all i no_entry ≡ entry_at bytes i = get_or-map-range_with_len (entry_at bytes) 0 (word_at bytes 6) i i no_entry l (omega arith) in
    sym (take-append-drop i all)
    ∙ ap₂ (λ (a b : List Entry). a ++ b) front (drop-cons all i no_entry (subst (λ m. i < m) (sym long) l) ∙ ap (λ (e : Entry). e ∷ drop (suc i) all) here)

-- where one isn't good, they aren't all
pub read-bad : (file_version n : ℕ) (bytes : List ℕ) (i : ℕ) (es : List Entry) (last : ℕ) → AreRead file_version n bytes i es last → i < word_at bytes 6
    → (IsNextEntry file_version n (version_read bytes) last (text_at bytes i) (entry_at bytes i) → ⊥) → are_entries file_version n bytes ≡ false
read-bad file_version n bytes i es last read l bad =
    let all : List Entry = entries_read bytes in
    let x : Entry = entry_at bytes i in
    let rest : List Entry = drop (suc i) all in
    elim (cases_Bool (are_entries file_version n bytes)) [
      | inl good ↦
          let parts = and_parts (is_rising 0 all && list_all (is_entry file_version n (version_read bytes)) all) (same_bytes (flat_map (entry_text (version_read bytes)) all) (drop 16 bytes)) good in
          let first = and_parts (is_rising 0 all) (list_all (is_entry file_version n (version_read bytes)) all) parts.0 in
          let is : all ≡ es ++ x ∷ rest = split file_version n bytes i es last read l in
          let long : length all ≡ word_at bytes 6 = length-map-range_with_len (entry_at bytes) 0 (word_at bytes 6) in
          let up = rising-parts 0 es (x ∷ rest) (subst (λ (l : List Entry). is_rising 0 l ≡ true) is first.0) in
          let above : last < x.handle.0 = subst (λ m. m < x.handle.0) read.last_is (ltb-true (last_handle 0 es) x.handle.0 (and_parts (nat_lt (last_handle 0 es) x.handle.0) (is_rising x.handle.0 rest) up).0) in
          let each = and_parts (list_all (is_entry file_version n (version_read bytes)) es) (list_all (is_entry file_version n (version_read bytes)) (x ∷ rest)) (sym (list_all-append (is_entry file_version n (version_read bytes)) es (x ∷ rest)) ∙ subst (λ (l : List Entry). list_all (is_entry file_version n (version_read bytes)) l ≡ true) is first.1) in
          let texts : flat_map (entry_text (version_read bytes)) all ≡ drop 16 bytes = same_bytes-is (flat_map (entry_text (version_read bytes)) all) (drop 16 bytes) parts.1 in
          let here : get_or all i no_entry ≡ x = get_or-map-range_with_len (entry_at bytes) 0 (word_at bytes 6) i i no_entry l (omega arith) in
          let size : ℕ = entry_length (version_read bytes) in
          let from_here : drop (size * i) (flat_map (entry_text (version_read bytes)) all) ≡ entry_text (version_read bytes) x ++ flat_map (entry_text (version_read bytes)) rest =
          drop-entries (version_read bytes) all i (omega (arith, l, long)) ∙ ap (flat_map (entry_text (version_read bytes))) (drop-cons all i no_entry (subst (λ m. i < m) (sym long) l) ∙ ap (λ (e : Entry). e ∷ rest) here) in
          let text : text_at bytes i ≡ entry_text (version_read bytes) x = ap (take size) (sym (drop-drop (size * i) 16 bytes) ∙ ap (drop (size * i)) (sym texts) ∙ from_here) ∙ take_at (entry_text (version_read bytes) x) (flat_map (entry_text (version_read bytes)) rest) size (length-entry (version_read bytes) x) in
          absurd (bad (record { above = above; stands = (and_parts (is_entry file_version n (version_read bytes) x) (list_all (is_entry file_version n (version_read bytes)) rest) each.1).0; text_is = text }))
      | inr other ↦ other
    ]

-- Whether a header stands.

pub header-read : (bytes : List ℕ) (at : ℕ) → take (length bytes - at) (drop at bytes) ≡ drop at bytes
header-read bytes at = take_rest bytes at

pub has_header : (file_version : ℕ) (bytes text : List ℕ) (r : Bool) (version count m : ℕ) → is_version_in file_version version ≡ true → r ≡ same_bytes (take 16 bytes) text → text ≡ header_text version count m
    → version ≡ version_read bytes → count ≡ word_at bytes 6 → m ≡ word_at bytes 8 → length bytes ≡ entry_start version count → (r ≡ true → HasHeader file_version bytes) × (HasHeader file_version bytes → r ≡ true)
has_header file_version bytes text r version count m known answer written version_is count_is m_is size =
    let read : List ℕ = header_text (version_read bytes) (word_at bytes 6) (word_at bytes 8) in
    let header : text ≡ read = written ∙ ap₂ (λ (v k : ℕ). header_text v k m) version_is count_is ∙ ap (header_text (version_read bytes) (word_at bytes 6)) m_is in (
      λ yes_it. record {
        version = subst (λ v. is_version_in file_version v ≡ true) version_is known;
        header = same_bytes-is (take 16 bytes) text (sym answer ∙ yes_it) ∙ header;
        size = size ∙ ap₂ entry_start version_is count_is;
      },
      λ has. answer ∙ ap₂ same_bytes has.header header ∙ same_bytes-refl read,
    )

-- What is read of a directory.

-- what holds of bytes that are the text of a directory
read_parts : (file_version n : ℕ) (bytes : List ℕ) (d : Directory) → directory_in file_version n bytes ≡ Some d → HasHeader file_version bytes × (are_entries file_version n bytes ≡ true) × (is_map_block (word_at bytes 8) (entries_read bytes) ≡ true)
read_parts file_version n bytes d e =
    let r : Directory = directory_read bytes in
    let all : List Entry = entries_read bytes in
    let tests = and_parts (is_directory file_version n r) (same_bytes (directory_text r) bytes) (some_if (is_directory file_version n r && same_bytes (directory_text r) bytes) r d e).0 in
    let is = is_directory-parts file_version n r tests.0 in
    let text : directory_text r ≡ bytes = same_bytes-is (directory_text r) bytes tests.1 in
    let long : length all ≡ word_at bytes 6 = length-map-range_with_len (entry_at bytes) 0 (word_at bytes 6) in
    let behind : flat_map (entry_text (version_read bytes)) all ≡ drop 16 bytes = ap (drop 16) text in (
      record {
        version = is.version;
        header = sym (ap (take 16) text) ∙ ap (λ (k : ℕ). header_text (version_read bytes) k (word_at bytes 8)) long;
        size = sym (ap length text) ∙ length-directory r ∙ ap (entry_start (version_read bytes)) long;
      },
      and_from (is_rising 0 all && list_all (is_entry file_version n (version_read bytes)) all) (same_bytes (flat_map (entry_text (version_read bytes)) all) (drop 16 bytes)) (and_from (is_rising 0 all) (list_all (is_entry file_version n (version_read bytes)) all) is.rising is.entries)
          (subst (λ (l : List ℕ). same_bytes (flat_map (entry_text (version_read bytes)) all) l ≡ true) behind (same_bytes-refl (flat_map (entry_text (version_read bytes)) all))),
      is.map_block,
    )

-- a value that isn't there
none : {A : Type 0} (o : Option A) → ((a : A) → o ≡ Some a → ⊥) → o ≡ None
none None not_some = refl
none (Some a) not_some = absurd (not_some a refl)

pub directory_in-no_header : (file_version n : ℕ) (bytes : List ℕ) → (HasHeader file_version bytes → ⊥) → directory_in file_version n bytes ≡ None
directory_in-no_header file_version n bytes lacks = none (directory_in file_version n bytes) (λ d e. lacks (read_parts file_version n bytes d e).0)

pub directory_in-bad : (file_version n : ℕ) (bytes : List ℕ) → are_entries file_version n bytes ≡ false → directory_in file_version n bytes ≡ None
directory_in-bad file_version n bytes bad = none (directory_in file_version n bytes) (λ d e. absurd (cc (sym bad ∙ (read_parts file_version n bytes d e).1)))

pub directory_in-unlisted : (file_version n : ℕ) (bytes : List ℕ) → is_map_block (word_at bytes 8) (entries_read bytes) ≡ false → directory_in file_version n bytes ≡ None
directory_in-unlisted file_version n bytes bad = none (directory_in file_version n bytes) (λ d e. absurd (cc (sym bad ∙ (read_parts file_version n bytes d e).2)))

pub directory_in-read : (file_version n : ℕ) (bytes : List ℕ) → HasHeader file_version bytes → are_entries file_version n bytes ≡ true → is_map_block (word_at bytes 8) (entries_read bytes) ≡ true → directory_in file_version n bytes ≡ Some (directory_read bytes)
directory_in-read file_version n bytes header good listed =
    let d : Directory = directory_read bytes in
    let all : List Entry = entries_read bytes in
    let parts = and_parts (is_rising 0 all && list_all (is_entry file_version n (version_read bytes)) all) (same_bytes (flat_map (entry_text (version_read bytes)) all) (drop 16 bytes)) good in
    let long : length all ≡ word_at bytes 6 = length-map-range_with_len (entry_at bytes) 0 (word_at bytes 6) in
    let texts : flat_map (entry_text (version_read bytes)) all ≡ drop 16 bytes = same_bytes-is (flat_map (entry_text (version_read bytes)) all) (drop 16 bytes) parts.1 in
    let text : directory_text d ≡ bytes = ap₂ (λ (a b : List ℕ). a ++ b) (ap (λ (k : ℕ). header_text (version_read bytes) k (word_at bytes 8)) long ∙ sym header.header) texts ∙ take-append-drop 16 bytes in
    let first = and_parts (is_rising 0 all) (list_all (is_entry file_version n (version_read bytes)) all) parts.0 in
    let stands : is_directory file_version n d ≡ true = is_directory-from file_version n d (record { version = header.version; rising = first.0; entries = first.1; map_block = listed }) in
    cond-true _ _ _ (and_from (is_directory file_version n d) (same_bytes (directory_text d) bytes) stands
    (subst (λ (l : List ℕ). same_bytes l bytes ≡ true) (sym text) (same_bytes-refl bytes)))
