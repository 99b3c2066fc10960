-- The directory in an extent of a file that was read.
use Rattle.std.proofs.Common.{◌≡◌, ℕ, true, List, length, Option, None, Some, sym, ap, ap₂, subst, ◌∙◌, arith, ◌⊎◌, zero, suc, ◌+◌, ◌-◌, ◌<◌, ◌≤◌, [], ◌∷◌, ◌++◌, set, get_or, take, Err, is_some, All, refl, inl, inr, ltb-true, length-set, eqb-true, eq-eqb, ne_eqb, Bool}
use Rattle.std.proofs.lemmas.Bool.{and_parts, cases_Bool, cases_lt}
use Rattle.file_format.specs.File.{Directory, bytes_in, is_directory, is_version_in, summed_directory, summed_document, document_of, both, is_rising, is_entry, is_map_block, blocks_of_entries, block_of, prepended, longest_image}
use Rattle.file_format.specs.declared.file.Extent.{Extent}
use Rattle.file_format.proofs.Files.{length-directory, directory_in-some}
use Rattle.file_format.proofs.FileDocuments.{directory_of-some, is_in_file-parts, summed_directory-some}
use Rattle.file_format.specs.Reading.{IsDirectoryPlace}
use Rattle.document_file.specs.Opened.{IsReadDocument}
use Rattle.std.specs.Prelude.{IfSome, ◌==◌, nat_lt}
use Rattle.std.specs.Option.{option_map, option_and_then}
use Rattle.std.specs.List.{list_any, list_all}
use Rattle.std.proofs.lemmas.List.{get_or-set_other, take_more}
use Rattle.std.specs.FinMap.{from_entries}
use Rattle.geos_model.specs.Document.{Block, Document, most_blocks}
use Rattle.geos_model.specs.declared.fault.Fault.TheVariants.{Damaged}
use Rattle.file_format.specs.declared.file.Entry.{Entry}
use Rattle.geos_model.proofs.Tables.{slot_at}
use Rattle.document_file.specs.Ranges.{IsPlaced, end_of}
use Rattle.document_file.specs.Slots.{block_extents}
use Rattle.document_file.specs.Documents.{entries_of, directory_of_table, IsImaged, AreImaged}
use Rattle.document_file.specs.Sound.{IsPlace, ArePlaces}
use Rattle.document_file.specs.Sums.{HasSum, HaveSums, AreSummed, has_sums, sum_for}
use Rattle.document_file.proofs.SumsLemmas.{sum_for-from}
use Rattle.file_format.specs.FileLaws.{FitsSum}
use Rattle.document_file.proofs.TableLemmas.{EachPlace, each_set}
use Rattle.document_file.specs.declared.table.DocumentRef.{DocumentRef}
use Rattle.document_file.specs.declared.table.Place.{Place}
use Rattle.file_format.proofs.Files as files

-- The entries of a directory as a table of places.

all_more : {X : Type 0} (P : X → Type 0) (x : X) (xs : List X) → P x → All P xs → All P (x ∷ xs)
all_more P x xs first all zero d within = first
all_more P x xs first all (suc k) d within = all k d (omega (arith, within))

made : ℕ → ℕ → List Entry → Directory
made v m es = record { version = v; map_block = m; entries = es }

-- no block is there
nones : (h : ℕ) (places : List (Option Place)) → ((j : ℕ) → slot_at places j ≡ None) → entries_of h places ≡ []
nones h [] none = refl
nones h (None ∷ places) none = nones (h + 1) places (λ j. none (suc j))
nones h (Some place ∷ places) none = absurd (cc (none 0))

-- the entry of a place
abbrev pub entry_at : ℕ → Place → Entry
entry_at h place = record { handle = record { 0 = h }; attributes = place.attributes; extent = place.extent; sum = place.sum }

-- a place above all others
pub entries_more : (h k : ℕ) (places : List (Option Place)) (place : Place) → k < length places → ((j : ℕ) → k ≤ j → slot_at places j ≡ None)
    → entries_of h (set places k (Some place)) ≡ entries_of h places ++ entry_at (h + k) place ∷ []
entries_more h k [] place low none = absurd (omega arith)
entries_more h zero (None ∷ places) place low none =
    let rest = nones (h + 1) places (λ j. none (suc j) (omega arith)) in
    let at : h ≡ h + 0 = omega arith in
    ap (λ es. entry_at h place ∷ es) rest ∙ ap (λ n. entry_at n place ∷ []) at ∙ sym (ap (λ es. es ++ entry_at (h + 0) place ∷ []) rest)
entries_more h zero (Some other ∷ places) place low none = absurd (cc (none 0 (omega arith)))
entries_more h (suc k) (None ∷ places) place low none =
    let at : h + 1 + k ≡ h + suc k = omega arith in
    entries_more (h + 1) k places place (omega arith) (λ j le. none (suc j) (omega arith))
    ∙ ap (λ n. entries_of (h + 1) places ++ entry_at n place ∷ []) at
entries_more h (suc k) (Some other ∷ places) place low none =
    let at : h + 1 + k ≡ h + suc k = omega arith in
    ap (λ es. entry_at h other ∷ es)
    (entries_more (h + 1) k places place (omega arith) (λ j le. none (suc j) (omega arith))
    ∙ ap (λ n. entries_of (h + 1) places ++ entry_at n place ∷ []) at)

-- handles that rise

pub rising_above : (last : ℕ) (es : List Entry) (k : ℕ) (d : Entry) → is_rising last es ≡ true → k < length es → last < (get_or es k d).handle.0
rising_above last [] k d rising inside = absurd (omega arith)
rising_above last (e ∷ es) zero d rising inside = ltb-true last e.handle.0 (and_parts (nat_lt last e.handle.0) (is_rising e.handle.0 es) rising).0
rising_above last (e ∷ es) (suc k) d rising inside =
    let parts = and_parts (nat_lt last e.handle.0) (is_rising e.handle.0 es) rising in
    let more = rising_above e.handle.0 es k d parts.1 (omega arith) in
    let first = ltb-true last e.handle.0 parts.0 in
    omega (arith, more, first)

pub rising_pair : (last : ℕ) (es : List Entry) (i k : ℕ) (d : Entry) → is_rising last es ≡ true → i < k → k < length es → (get_or es i d).handle.0 < (get_or es k d).handle.0
rising_pair last [] i k d rising less inside = absurd (omega arith)
rising_pair last (e ∷ es) i zero d rising less inside = absurd (omega arith)
rising_pair last (e ∷ es) zero (suc k) d rising less inside = rising_above e.handle.0 es k d (and_parts (nat_lt last e.handle.0) (is_rising e.handle.0 es) rising).1 (omega arith)
rising_pair last (e ∷ es) (suc i) (suc k) d rising less inside = rising_pair e.handle.0 es i k d (and_parts (nat_lt last e.handle.0) (is_rising e.handle.0 es) rising).1 (omega arith) (omega arith)

-- none is above the last one
pub rising_last : (es : List Entry) (e : Entry) → is_rising 0 es ≡ true → e ≡ get_or es (length es - 1) e → All (λ x. x.handle.0 ≤ e.handle.0) es
rising_last es e rising is k d inside =
    let i = length es - 1 in
    let same : (get_or es i d).handle.0 ≡ e.handle.0 = ap (λ x. x.handle.0) (files.get_or_same es i d e (omega (arith, inside)) ∙ sym is) in
    elim (cases_lt k i) as (λ _. (get_or es k d).handle.0 ≤ e.handle.0) [
      | inl less ↦ let below = rising_pair 0 es k i d rising less (omega (arith, inside)) in omega (arith, below, same)
      | inr more ↦ let here : k ≡ i = omega (arith, more, inside) in let at : (get_or es k d).handle.0 ≡ (get_or es i d).handle.0 = ap (λ n. (get_or es n d).handle.0) here in omega (arith, at, same)
    ]

-- No place is taken at the handles of the entries from the i-th on, nor above them.
abbrev pub IsFreeFrom : ℕ → List Entry → List (Option Place) → Type 0
IsFreeFrom i es places = (k j : ℕ) (d : Entry) → i ≤ k → k < length es → (get_or es k d).handle.0 ≤ j + 1 → slot_at places j ≡ None

-- the places after the i-th entry
pub free_more : (last i : ℕ) (es : List Entry) (places : List (Option Place)) (d : Entry) (place : Place) → is_rising last es ≡ true → i < length es → IsFreeFrom i es places
    → IsFreeFrom (i + 1) es (set places ((get_or es i d).handle.0 - 1) (Some place))
free_more last i es places d place rising inside free k j e le below above =
    let less = rising_pair last es i k d rising (omega arith) below in
    let same = ap (λ x. x.handle.0) (files.get_or_same es k e d below) in
    let low = rising_above last es i d rising inside in
    get_or-set_other places ((get_or es i d).handle.0 - 1) j (Some place) None (λ is. absurd (omega (arith, is, less, same, above, low))) ∙ free k j e (omega arith) below above

-- a place more that has an image
pub imaged_more : (file : List ℕ) (places : List (Option Place)) (k : ℕ) (place : Place) → IsImaged file place → AreImaged file places → AreImaged file (set places k (Some place))
imaged_more file [] k place one all i d within = all i d within
imaged_more file (o ∷ places) zero place one all zero d within = one
imaged_more file (o ∷ places) zero place one all (suc i) d within = all (suc i) d (omega (arith, within))
imaged_more file (o ∷ places) (suc k) place one all zero d within = all zero d (omega (arith, within))
imaged_more file (o ∷ places) (suc k) place one all (suc i) d within = imaged_more file places k place one (λ j e inside. all (suc j) e (omega arith)) i d (omega (arith, within))

-- and one that has its sum
pub summed_more : (file : List ℕ) (places : List (Option Place)) (k : ℕ) (place : Place) → HasSum file place → HaveSums file places → HaveSums file (set places k (Some place))
summed_more file places k place one all = each_set (HasSum file) places k (Some place) one all

-- The places of the first i entries, which can be, and no others.
pub record IsPartRead (i : ℕ) (es : List Entry) (places : List (Option Place)) : Type 0 where
  pub size : length places ≤ most_blocks
  pub room : All (λ e. e.handle.0 ≤ length places) es
  pub entries : entries_of 1 places ≡ take i es
  pub free : IsFreeFrom i es places
  pub can_be : ArePlaces places

-- of no places all holds
each_start : (P : Place → Type 0) (places : List (Option Place)) → ((j : ℕ) → slot_at places j ≡ None) → EachPlace P places
each_start P places none k d within = subst (λ o. IfSome o P) (sym (files.get_or_same places k d None within ∙ none k)) tt

pub part_start : (es : List Entry) (places : List (Option Place)) → length places ≤ most_blocks → All (λ e. e.handle.0 ≤ length places) es → ((j : ℕ) → slot_at places j ≡ None) → IsPartRead 0 es places
part_start es places size room none = record { size = size; room = room; entries = nones 1 places none; free = λ k j d le below above. none j; can_be = each_start IsPlace places none }

pub summed_start : (file : List ℕ) (places : List (Option Place)) → ((j : ℕ) → slot_at places j ≡ None) → HaveSums file places
summed_start file places none = each_start (HasSum file) places none

pub imaged_start : (file : List ℕ) (places : List (Option Place)) → ((j : ℕ) → slot_at places j ≡ None) → AreImaged file places
imaged_start file places none = each_start (IsImaged file) places none

-- the entry is that of its place
same_entry : (e : Entry) (h : ℕ) (place : Place) → e.handle.0 ≡ h → place.attributes ≡ e.attributes → place.extent ≡ e.extent → place.sum ≡ e.sum → entry_at h place ≡ e
same_entry e h place handle attributes extent sum = λ i. record { handle = record { 0 = sym handle i }; attributes = attributes i; extent = extent i; sum = sum i }

pub part_more : (last i : ℕ) (es : List Entry) (places : List (Option Place)) (e : Entry) (place : Place) → is_rising last es ≡ true → i < length es → get_or es i e ≡ e
    → place.attributes ≡ e.attributes → place.extent ≡ e.extent → place.sum ≡ e.sum → IsPlace place → IsPartRead i es places → IsPartRead (i + 1) es (set places (e.handle.0 - 1) (Some place))
part_more last i es places e place rising inside is attributes extent sum one part =
    let above : last < (get_or es i e).handle.0 = rising_above last es i e rising inside in
    let same = ap (λ x. x.handle.0) is in
    let short : (get_or es i e).handle.0 ≤ length places = part.room i e inside in
    let handle : e.handle.0 ≡ 1 + (e.handle.0 - 1) = omega (arith, above, same) in
    record {
      size = (let long = length-set places (e.handle.0 - 1) (Some place) in let few = part.size in omega (arith, long, few));
      room = λ k d within. let was = part.room k d within in let long = length-set places (e.handle.0 - 1) (Some place) in omega (arith, was, long);
      entries = entries_more 1 (e.handle.0 - 1) places place (omega (arith, short, same, above)) (λ j le. part.free i j e (omega arith) inside (omega (arith, le, same, above)))
          ∙ ap₂ (λ es x. es ++ x ∷ []) part.entries (same_entry e (1 + (e.handle.0 - 1)) place handle attributes extent sum ∙ sym is)
          ∙ sym (take_more es i e inside);
      free = subst (λ x. IsFreeFrom (i + 1) es (set places (x.handle.0 - 1) (Some place))) is (free_more last i es places e place rising inside part.free);
      can_be = each_set IsPlace places (e.handle.0 - 1) (Some place) one part.can_be;
    }

-- an entry that has no block

none_prepended : (b : Option (ℕ × Block)) → prepended b None ≡ None
none_prepended None = refl
none_prepended (Some b) = refl

pub no_blocks : (file : List ℕ) (es : List Entry) (i : ℕ) (d : Entry) → i < length es → block_of file (get_or es i d) ≡ None → blocks_of_entries file es ≡ None
no_blocks file [] i d inside none = absurd (omega arith)
no_blocks file (e ∷ es) zero d inside none = ap (λ b. prepended b (blocks_of_entries file es)) none
no_blocks file (e ∷ es) (suc i) d inside none = ap (prepended (block_of file e)) (no_blocks file es i d (omega arith) none) ∙ none_prepended (block_of file e)

-- The table of a directory.

-- what holds of the extents of the entries
pub entries_extents : (P : Extent → Type 0) (h : ℕ) (places : List (Option Place)) → All (λ e. P e.extent) (entries_of h places) → All P (block_extents places)
entries_extents P h [] all k d within = absurd (omega arith)
entries_extents P h (None ∷ places) all k d within = entries_extents P (h + 1) places all k d within
entries_extents P h (Some place ∷ places) all zero d within = all 0 files.no_entry (omega arith)
entries_extents P h (Some place ∷ places) all (suc k) d within = entries_extents P (h + 1) places (λ i x inside. all (suc i) x (omega arith)) k d (omega arith)

-- a handle that is listed has a place
listed_place : (m h : ℕ) (places : List (Option Place)) → list_any (λ e. e.handle.0 == m) (entries_of h places) ≡ true → (h ≤ m) × (is_some (slot_at places (m - h)) ≡ true)
listed_place m h [] any = absurd (cc any)
listed_place m h (None ∷ places) any =
    let more = listed_place m (h + 1) places any in
    let at : m - h ≡ suc (m - (h + 1)) = omega (arith, more.0) in
    (omega (arith, more.0), ap (λ k. is_some (slot_at (None ∷ places) k)) at ∙ more.1)
listed_place m h (Some place ∷ places) any = elim (cases_Bool (h == m)) as (λ _. (h ≤ m) × (is_some (slot_at (Some place ∷ places) (m - h)) ≡ true)) [
  | inl here ↦
      let same = eqb-true h m here in
      let at : m - h ≡ 0 = omega (arith, same) in
      (omega (arith, same), ap (λ k. is_some (slot_at (Some place ∷ places) k)) at)
  | inr other ↦
      let more = listed_place m (h + 1) places (files.or_later (h == m) (list_any (λ e. e.handle.0 == m) (entries_of (h + 1) places)) any other) in
      let at : m - h ≡ suc (m - (h + 1)) = omega (arith, more.0) in
      (omega (arith, more.0), ap (λ k. is_some (slot_at (Some place ∷ places) k)) at ∙ more.1)
]

map_place : (m : ℕ) (places : List (Option Place)) → is_map_block m (entries_of 1 places) ≡ true → (m ≡ 0) ⊎ ((1 ≤ m) × (is_some (slot_at places (m - 1)) ≡ true))
map_place m places is = elim (cases_Bool (m == 0)) as (λ _. (m ≡ 0) ⊎ ((1 ≤ m) × (is_some (slot_at places (m - 1)) ≡ true))) [
  | inl none ↦ inl (eqb-true m 0 none)
  | inr some ↦ inr (listed_place m 1 places (files.or_later (m == 0) (list_any (λ e. e.handle.0 == m) (entries_of 1 places)) is some))
]

-- what is behind the slots and in reach is placed
entry_placed : (file_version n version : ℕ) (e : Entry) → files.IsEntry file_version n version e → IsPlaced e.extent
entry_placed file_version n version e is = record { behind = is.behind_slots; within = files.entry-in_reach file_version n version e is; some = is.some; short = omega (arith, is.short) }

each_entry : (P : Entry → Type 0) (file_version n version : ℕ) (es : List Entry) → list_all (is_entry file_version n version) es ≡ true → ((e : Entry) → files.IsEntry file_version n version e → P e) → All P es
each_entry P file_version n version es all has k d inside =
    let e = get_or es k files.no_entry in
    subst P (files.get_or_same es k files.no_entry d inside) (has e (files.is_entry-parts file_version n version e (files.each_entry file_version n version es all k inside)))

-- the images of a directory's entries are short
pub images_short : (file_version n : ℕ) (d : Directory) → is_directory file_version n d ≡ true → All (λ e. e.extent.length ≤ longest_image) d.entries
images_short file_version n d good = each_entry (λ e. e.extent.length ≤ longest_image) file_version n d.version d.entries (files.is_directory-parts file_version n d good).entries (λ e is. is.short)

pub read_formed : (version n : ℕ) (d : Directory) (s : DocumentRef) → is_directory version n d ≡ true → IsDirectoryPlace version n s.directory → entries_of 1 s.table.value.places.items ≡ d.entries
    → ArePlaces s.table.value.places.items → length s.table.value.places.items ≤ most_blocks → s.table.value.map_block ≡ d.map_block → IsReadDocument n s
read_formed version n d s good place entries are long map =
    let ps = s.table.value.places.items in
    let parts = files.is_directory-parts version n d good in
    let there = is_in_file-parts version n s.directory place.in_file in
    let reach = files.page_limit_of-most version in
    let all : list_all (is_entry version n d.version) (entries_of 1 ps) ≡ true = ap (list_all (is_entry version n d.version)) entries ∙ parts.entries in
    let placed = entries_extents IsPlaced 1 ps (each_entry (λ e. IsPlaced e.extent) version n d.version (entries_of 1 ps) all (entry_placed version n d.version)) in
    let inside = entries_extents (λ e. end_of e ≤ n) 1 ps (each_entry (λ e. end_of e.extent ≤ n) version n d.version (entries_of 1 ps) all (λ e is. is.within)) in
    record {
      table = record {
        size = long;
        places = are;
        map_block = map_place s.table.value.map_block ps (ap₂ is_map_block map entries ∙ parts.map_block);
      };
      placed = all_more IsPlaced s.directory (block_extents ps) (record { behind = there.behind_slots; within = omega (arith, there.in_reach, reach); some = omega (arith, place.some); short = place.short }) placed;
      within = all_more (λ e. end_of e ≤ n) s.directory (block_extents ps) there.within inside;
    }

pub read_directory : (d : Directory) (s : DocumentRef) → entries_of 1 s.table.value.places.items ≡ d.entries → s.table.value.map_block ≡ d.map_block → d ≡ directory_of_table d.version s.table.value
unfolding made
read_directory d s entries map = ap₂ (made d.version) (sym map) (sym entries)

-- the sums of a directory's entries are there where they should be
sums_fit : (version : ℕ) (sum : Option ℕ) → FitsSum version sum → is_some sum ≡ has_sums version
sums_fit version None fits = sym (ne_eqb version 3 fits)
sums_fit version (Some n) fits = sym (eq-eqb version 3 fits.0)

-- in a file of a version
same_sums : (file_version version : ℕ) → is_version_in file_version version ≡ true → has_sums version ≡ has_sums file_version
same_sums file_version version is = elim (files.is_version_in-parts file_version version is) [
  | inl older ↦ ne_eqb version 3 (files.is_version_in-older file_version version older.0 is) ∙ sym (ne_eqb file_version 3 older.0)
  | inr three ↦ eq-eqb version 3 three.0 ∙ sym (eq-eqb file_version 3 three.1)
]

-- so each place has the sum of its image, where there are sums
pub places_summed : (summed : Bool) (file : List ℕ) (h : ℕ) (places : List (Option Place)) → All (λ e. is_some e.sum ≡ summed) (entries_of h places) → HaveSums file places → AreSummed summed file places
places_summed summed file h [] there have k d within = absurd (omega arith)
places_summed summed file h (None ∷ places) there have zero d within = tt
places_summed summed file h (None ∷ places) there have (suc k) d within = places_summed summed file (h + 1) places there (λ i x inside. have (suc i) x (omega (arith, inside))) k d (omega (arith, within))
places_summed summed file h (Some place ∷ places) there have zero d within = sum_for-from summed place.sum (bytes_in file place.extent) (there 0 (entry_at h place) (omega arith)) (have 0 d (omega arith))
places_summed summed file h (Some place ∷ places) there have (suc k) d within =
    places_summed summed file (h + 1) places (λ i x inside. there (suc i) x (omega (arith, inside))) (λ i x inside. have (suc i) x (omega (arith, inside))) k d (omega (arith, within))

pub read_summed : (file_version : ℕ) (file : List ℕ) (sum : Option ℕ) (e : Extent) (d : Directory) (places : List (Option Place)) → summed_directory file_version file sum e ≡ Some d → entries_of 1 places ≡ d.entries → HaveSums file places
    → AreSummed (has_sums file_version) file places
read_summed file_version file sum e d places is entries have =
    let n = length file in
    let stands = directory_in-some file_version n (bytes_in file e) d (directory_of-some file_version file e d (summed_directory-some file_version file sum e d is).1).1 in
    let same = same_sums file_version d.version (files.is_directory-parts file_version n d stands.0).version in
    places_summed (has_sums file_version) file 1 places (subst (All (λ e. is_some e.sum ≡ has_sums file_version)) (sym entries) (λ k x inside. sums_fit d.version (get_or d.entries k x).sum (stands.2.sums k x inside) ∙ same)) have

-- and the directory its own
pub read_sum : (file_version : ℕ) (file : List ℕ) (sum : Option ℕ) (e : Extent) (d : Directory) → summed_directory file_version file sum e ≡ Some d → is_some sum ≡ has_sums file_version → sum ≡ sum_for (has_sums file_version) (bytes_in file e)
read_sum file_version file sum e d is there = sum_for-from (has_sums file_version) sum (bytes_in file e) there (summed_directory-some file_version file sum e d is).0

-- a document of which an image is wrong
pub no_document : (version : ℕ) (file : List ℕ) (sum : Option ℕ) (e : Extent) (d : Directory) → summed_directory version file sum e ≡ Some d → blocks_of_entries file d.entries ≡ None → summed_document version file sum e ≡ None
no_document version file sum e d is none = ap (option_and_then (document_of file)) is ∙ ap (option_map (λ blocks. let made : Document = record { blocks = from_entries blocks; map_block = d.map_block } in made)) none

-- one of which the directory is wrong
pub no_directory : (version : ℕ) (file : List ℕ) (sum : Option ℕ) (e : Extent) → summed_directory version file sum e ≡ None → summed_document version file sum e ≡ None
no_directory version file sum e none = ap (option_and_then (document_of file)) none

-- a saved document that is wrong
pub no_saved : (first second : Option Document) → second ≡ None → both first second ≡ Err Damaged
no_saved None second none = refl
no_saved (Some d) second none = ap (both (Some d)) none
