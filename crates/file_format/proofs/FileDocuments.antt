-- The document in an extent is valid, and rests on the bytes of its extents.
use Rattle.std.proofs.Common.{◌≡◌, ◌≢◌, ℕ, zero, suc, ◌+◌, ◌*◌, ◌/◌, ◌<◌, ◌≤◌, true, ◌&&◌, List, [], ◌∷◌, length, drop, get_or, Option, Some, None, is_some, All, Bool, false, cond, ◌||◌, ◌==◌, nat_lt, nat_le, refl, sym, ap, ap₂, subst, ◌∙◌, arith, inl, inr, length-take, length-drop, ltb-true, leb-true, le-leb, eqb-true, eq-eqb, ne_eqb}
use Rattle.std.proofs.lemmas.Bool.{cases_Bool, cases_eq, and_parts, and_from, cond-true, cond-false}
use Rattle.std.proofs.lemmas.Grind.{same_number_lists}
use Rattle.std.proofs.lemmas.List.{get_or-take, get_or-drop}
use Rattle.std.proofs.lemmas.List.Sums.{list_all-from_AllPass, AllPass-from_list_all}
use Rattle.std.specs.List.{list_all, list_any}
use Rattle.std.specs.Option.{option_and_then, option_map}
use Rattle.std.specs.Ordering.{nat_cmp}
use Rattle.std.specs.FinMap.{FinMap, get, get-empty, insert, from_entries}
use Rattle.geos_model.specs.declared.block.Attributes.{Attributes}
use Rattle.geos_model.specs.Document.{Block, Document, is_vm_handle, is_heap_body, IsValidBlock, IsValid, most_blocks, FitAttributes}
use Rattle.geos_model.specs.Image.{body_of}
use Rattle.file_format.specs.File.{Directory, bytes_in, is_in_file, directory_text, is_rising, is_entry, is_directory, directory_in, directory_of, summed_directory, prepended, if_typed, has_sum, summed_body, block_of, blocks_of_entries, document_of, document_at, longest_image, greatest_handle, page_limit_of}
use Rattle.file_format.specs.FileLaws.{KeepsExtent}
use Rattle.geos_model.specs.declared.command.Body.{Body}
use Rattle.file_format.specs.declared.file.Extent.{Extent}
use Rattle.file_format.specs.declared.file.Entry.{Entry}
use Rattle.geos_model.proofs.HeapEdits.{get-put_same, get-put_other}
use Rattle.file_format.proofs.Files.{no_entry, some_if, or_later, listed, get_or_same, body_of-some, page_limit_of-most, is_version_in-newer, IsEntry, is_entry-parts, entry-low, entry-in_reach, is_directory-parts, is_directory-from, directory_in-some, directory_in-text}

abbrev pub HasSequence : Type 0
HasSequence = ℕ × Block

-- Blocks of entries.

-- what a list of blocks begins with
pub record Begins (first : Option HasSequence) (others : Option (List HasSequence)) (blocks : List HasSequence) : Type 0 where
  pub block : HasSequence
  pub rest : List HasSequence
  pub first_is : first ≡ Some block
  pub others_are : others ≡ Some rest
  pub all : block ∷ rest ≡ blocks

pub prepended-some : (first : Option HasSequence) (others : Option (List HasSequence)) (blocks : List HasSequence) → prepended first others ≡ Some blocks → Begins first others blocks
prepended-some None others blocks e = absurd (cc e)
prepended-some (Some b) None blocks e = absurd (cc e)
prepended-some (Some b) (Some bs) blocks e = record { block = b; rest = bs; first_is = refl; others_are = refl; all = cc e }

pub body_there : (h : ℕ) (a : Attributes) (o : Option Body) (b : HasSequence) → option_map (λ body. let made : HasSequence = (h, record { attributes = a; body = body }) in made) o ≡ Some b → (body : Body) × ((o ≡ Some body) × (b ≡ (let made : HasSequence = (h, record { attributes = a; body = body }) in made)))
body_there h a None b e = absurd (cc e)
body_there h a (Some body) b e = (body, (refl, cc e))

-- a body that can have a type is a heap, or the type is 0
pub if_typed-some : (t : ℕ) (o : Option Body) (b : Body) → option_and_then (if_typed t) o ≡ Some b → (o ≡ Some b) × (is_heap_body b ≡ false → t ≡ 0)
if_typed-some t None b e = absurd (cc e)
if_typed-some t (Some body) b e =
    let here = some_if (is_heap_body body || t == 0) body b e in
    let typed : (is_heap_body b || t == 0) ≡ true = subst (λ (x : Body). (is_heap_body x || t == 0) ≡ true) here.1 here.0 in
    (ap Some here.1, λ raw. eqb-true t 0 (or_later (is_heap_body b) (t == 0) typed raw))

pub if_typed-is : (t : ℕ) (b : Body) → (is_heap_body b ≡ false → t ≡ 0) → if_typed t b ≡ Some b
if_typed-is t b typed = elim (cases_Bool (is_heap_body b)) [
  | inl heap ↦ ap (λ (k : Bool). cond (k || t == 0) (Some b) None) heap
  | inr raw ↦ ap₂ (λ (k z : Bool). cond (k || z) (Some b) None) raw (eq-eqb t 0 (typed raw))
]

-- bytes that have the sum are those of a body
pub summed_body-some : (sum : Option ℕ) (bytes : List ℕ) (b : Body) → summed_body sum bytes ≡ Some b → (has_sum sum bytes ≡ true) × (body_of bytes ≡ Some b)
summed_body-some sum bytes b e = elim (cases_Bool (has_sum sum bytes)) [
  | inl summed ↦ (summed, sym (cond-true _ _ _ summed) ∙ e)
  | inr other ↦ (let none : None ≡ Some b = sym (cond-false _ _ _ other) ∙ e in absurd (cc none))
]

-- the block of an entry whose extent has the image of a body that can have its type, with its sum
pub block_of-is : (file : List ℕ) (e : Entry) (b : Body) → summed_body e.sum (bytes_in file e.extent) ≡ Some b → (is_heap_body b ≡ false → e.attributes.heap_type ≡ 0)
    → block_of file e ≡ Some (let made : HasSequence = (e.handle.0, record { attributes = e.attributes; body = b }) in made)
block_of-is file e b is typed =
    let made : Body → HasSequence = λ body. (e.handle.0, record { attributes = e.attributes; body = body }) in
    ap (λ (o : Option Body). option_map made (option_and_then (if_typed e.attributes.heap_type) o)) is ∙ ap (option_map made) (if_typed-is e.attributes.heap_type b typed)

-- the block that an entry has is valid
block_valid : (file : List ℕ) (e : Entry) (b : HasSequence) → block_of file e ≡ Some b → 1 ≤ e.handle.0 → e.handle.0 ≤ most_blocks → FitAttributes e.attributes → (b.0 ≡ e.handle.0) × IsValidBlock e.handle.0 b.1
block_valid file e b is some low fit =
    let body = body_there e.handle.0 e.attributes (option_and_then (if_typed e.attributes.heap_type) (summed_body e.sum (bytes_in file e.extent))) b is in
    let typed = if_typed-some e.attributes.heap_type (summed_body e.sum (bytes_in file e.extent)) body.0 body.1.0 in
    let good = (body_of-some (bytes_in file e.extent) body.0 (summed_body-some e.sum (bytes_in file e.extent) body.0 typed.0).1).0 in
    let handle : is_vm_handle e.handle.0 ≡ true = and_from (nat_le 1 e.handle.0) (nat_le e.handle.0 most_blocks) (le-leb 1 e.handle.0 some) (le-leb e.handle.0 most_blocks low) in
    subst (λ (x : HasSequence). (x.0 ≡ e.handle.0) × IsValidBlock e.handle.0 x.1) (sym body.1.1) (refl, record { handle = handle; attributes = fit; body = good; typed = typed.1 })

-- each of these blocks is valid, under its entry's handle, and each entry has one
pub record AreBlocks (entries : List Entry) (blocks : List HasSequence) : Type 0 where
  pub valid : (q : ℕ) (c : Block) → get (from_entries {R = nat_cmp} blocks) q ≡ Some c → IsValidBlock q c
  pub live : (k : ℕ) → k < length entries → is_some (get (from_entries {R = nat_cmp} blocks) (get_or entries k no_entry).handle.0) ≡ true

under : (m : FinMap nat_cmp Block) (h q : ℕ) (b : Block) → is_some (get m q) ≡ true → is_some (get (insert m h b) q) ≡ true
under m h q b there = elim (cases_eq q h) [
  | inl same ↦ ap is_some (get-put_same m h b q same)
  | inr other ↦ ap is_some (get-put_other m h b q other) ∙ there
]

live_at : (m : FinMap nat_cmp Block) (b : HasSequence) (e : Entry) (es : List Entry) → b.0 ≡ e.handle.0 → ((k : ℕ) → k < length es → is_some (get m (get_or es k no_entry).handle.0) ≡ true)
    → (k : ℕ) → k < length (e ∷ es) → is_some (get (insert m b.0 b.1) (get_or (e ∷ es) k no_entry).handle.0) ≡ true
live_at m b e es same rest zero l = ap is_some (get-put_same m b.0 b.1 e.handle.0 (sym same))
live_at m b e es same rest (suc k) l = under m b.0 (get_or es k no_entry).handle.0 b.1 (rest k (omega (arith, l)))

blocks_are : (file_version n version : ℕ) (file : List ℕ) (last : ℕ) (es : List Entry) (blocks : List HasSequence) → blocks_of_entries file es ≡ Some blocks → is_rising last es ≡ true → list_all (is_entry file_version n version) es ≡ true → All (λ e. FitAttributes e.attributes) es → AreBlocks es blocks
blocks_are file_version n version file last [] blocks is rising all users =
    let none : [] ≡ blocks = cc is in
    subst (λ (bs : List HasSequence). AreBlocks [] bs) none (record { valid = λ q c there. absurd (cc (sym (get-empty nat_cmp q) ∙ there)); live = λ k l. absurd (omega (arith, l)) })
blocks_are file_version n version file last (e ∷ es) blocks is rising all users =
    let begins = prepended-some (block_of file e) (blocks_of_entries file es) blocks is in
    let up = and_parts (nat_lt last e.handle.0) (is_rising e.handle.0 es) rising in
    let each = and_parts (is_entry file_version n version e) (list_all (is_entry file_version n version) es) all in
    let above : last < e.handle.0 = ltb-true last e.handle.0 up.0 in
    let here = block_valid file e begins.block begins.first_is (omega (arith, above)) (entry-low file_version n version e (is_entry-parts file_version n version e each.0)) (users 0 e (omega arith)) in
    let rest = blocks_are file_version n version file e.handle.0 es begins.rest begins.others_are up.1 each.1 (λ k d l. users (suc k) d (omega (arith, l))) in
    let m : FinMap nat_cmp Block = from_entries begins.rest in
    subst (λ (bs : List HasSequence). AreBlocks (e ∷ es) bs) begins.all (record {
      valid = λ q c there. elim (cases_eq q begins.block.0) [
        | inl same ↦
            let some : Some begins.block.1 ≡ Some c = sym (get-put_same m begins.block.0 begins.block.1 q same) ∙ there in
            let is : begins.block.1 ≡ c = cc some in
            subst (λ h. IsValidBlock h c) (sym (same ∙ here.0)) (subst (λ x. IsValidBlock e.handle.0 x) is here.1)
        | inr other ↦ rest.valid q c (sym (get-put_other m begins.block.0 begins.block.1 q other) ∙ there)
      ];
      live = λ k l. live_at m begins.block e es here.0 rest.live k l;
    })

pub document_there : (d : Directory) (o : Option (List HasSequence)) (result : Document) → option_map (λ blocks. let made : Document = record { blocks = from_entries blocks; map_block = d.map_block } in made) o ≡ Some result
    → (blocks : List HasSequence) × ((o ≡ Some blocks) × ((let made : Document = record { blocks = from_entries blocks; map_block = d.map_block } in made) ≡ result))
document_there d None result e = absurd (cc e)
document_there d (Some blocks) result e = (blocks, (refl, cc e))

pub directory_there : (file : List ℕ) (o : Option Directory) (result : Document) → option_and_then (document_of file) o ≡ Some result → (d : Directory) × ((o ≡ Some d) × (document_of file d ≡ Some result))
directory_there file None result e = absurd (cc e)
directory_there file (Some d) result e = (d, (refl, e))

pub directory_of-some : (version : ℕ) (file : List ℕ) (e : Extent) (d : Directory) → directory_of version file e ≡ Some d
    → (is_in_file version (length file) e ≡ true) × (directory_in version (length file) (bytes_in file e) ≡ Some d)
directory_of-some version file e d is = elim (cases_Bool (is_in_file version (length file) e)) [
  | inl inside ↦ (inside, sym (cond-true _ _ _ inside) ∙ is)
  | inr outside ↦ (let none : None ≡ Some d = sym (cond-false _ _ _ outside) ∙ is in absurd (cc none))
]

pub document_at-valid : (version : ℕ) (file : List ℕ) (e : Extent) (document : Document) → document_at version file e ≡ Some document → IsValid document
document_at-valid version file e document is =
    let found = directory_there file (directory_of version file e) document is in
    let d : Directory = found.0 in
    let stands = directory_in-some version (length file) (bytes_in file e) d (directory_of-some version file e d found.1.0).1 in
    let parts = is_directory-parts version (length file) d stands.0 in
    let made = document_there d (blocks_of_entries file d.entries) document found.1.1 in
    let are = blocks_are version (length file) d.version file 0 d.entries made.0 made.1.0 parts.rising parts.entries (λ k x l. (stands.2.entries k x l).attributes) in
    subst IsValid made.1.1 (record {
      blocks = are.valid;
      map_block = λ some.
          let there = or_later (d.map_block == 0) (list_any (λ x. x.handle.0 == d.map_block) d.entries) parts.map_block (ne_eqb d.map_block 0 some) in
          let at = listed d.map_block d.entries there in
          subst (λ h. is_some (get (from_entries {R = nat_cmp} made.0) h) ≡ true) at.1.1 (are.live at.0 at.1.0);
    })

-- What stays.

pub bytes_in-keeps : (old new : List ℕ) (e : Extent) → KeepsExtent old new e → 512 * e.page + e.length ≤ length old → bytes_in new e ≡ bytes_in old e
bytes_in-keeps old new e keeps inside =
    let at : ℕ = 512 * e.page in
    let long_new : length (bytes_in new e) ≡ e.length = omega (arith, length-take e.length (drop at new), length-drop at new, keeps.within) in
    let long_old : length (bytes_in old e) ≡ e.length = omega (arith, length-take e.length (drop at old), length-drop at old, inside) in
    same_number_lists (bytes_in new e) (bytes_in old e) (long_new ∙ sym long_old) (λ k l.
    let below : k < e.length = omega (arith, l, long_new) in
    get_or-take e.length (drop at new) k 0 below ∙ get_or-drop at new k 0 ∙ keeps.bytes (at + k) (omega arith) (omega (arith, below))
    ∙ sym (get_or-take e.length (drop at old) k 0 below ∙ get_or-drop at old k 0))

-- behind the slots and in reach, in a file that has its bytes
pub is_in_file-from : (version n : ℕ) (e : Extent) → 2 ≤ e.page → 512 * e.page + e.length ≤ n → e.page + (e.length + 511) / 512 ≤ page_limit_of version → is_in_file version n e ≡ true
is_in_file-from version n e behind within reach =
    and_from (nat_le 2 e.page && nat_le (512 * e.page + e.length) n) (nat_le (e.page + (e.length + 511) / 512) (page_limit_of version))
    (and_from (nat_le 2 e.page) (nat_le (512 * e.page + e.length) n) (le-leb 2 e.page behind) (le-leb (512 * e.page + e.length) n within)) (le-leb (e.page + (e.length + 511) / 512) (page_limit_of version) reach)

-- Of an extent in a file of a version and of n bytes.
pub record IsInFile (version n : ℕ) (e : Extent) : Type 0 where
  pub behind_slots : 2 ≤ e.page
  pub within : 512 * e.page + e.length ≤ n
  pub in_reach : e.page + (e.length + 511) / 512 ≤ page_limit_of version

pub is_in_file-parts : (version n : ℕ) (e : Extent) → is_in_file version n e ≡ true → IsInFile version n e
is_in_file-parts version n e h =
    let reach : ℕ = page_limit_of version in
    let parts = and_parts (nat_le 2 e.page && nat_le (512 * e.page + e.length) n) (nat_le (e.page + (e.length + 511) / 512) reach) h in
    let first = and_parts (nat_le 2 e.page) (nat_le (512 * e.page + e.length) n) parts.0 in
    record { behind_slots = leb-true 2 e.page first.0; within = leb-true (512 * e.page + e.length) n first.1; in_reach = leb-true (e.page + (e.length + 511) / 512) reach parts.1 }

pub is_entry-from : (file_version n version : ℕ) (e : Entry) → IsEntry file_version n version e → is_entry file_version n version e ≡ true
is_entry-from file_version n version e is =
    let top : ℕ = greatest_handle version in
    and_from (nat_le e.handle.0 top && nat_le 1 e.extent.length && nat_le e.extent.length longest_image) (is_in_file file_version n e.extent)
    (and_from (nat_le e.handle.0 top && nat_le 1 e.extent.length) (nat_le e.extent.length longest_image) (and_from (nat_le e.handle.0 top) (nat_le 1 e.extent.length) (le-leb e.handle.0 top is.handle) (le-leb 1 e.extent.length is.some)) (le-leb e.extent.length longest_image is.short))
    (is_in_file-from file_version n e.extent is.behind_slots is.within is.in_reach)

-- an entry stays one in a file that has its bytes
is_entry-kept : (file_version n m version : ℕ) (e : Entry) → is_entry file_version n version e ≡ true → 512 * e.extent.page + e.extent.length ≤ m → is_entry file_version m version e ≡ true
is_entry-kept file_version n m version e is within =
    let parts = is_entry-parts file_version n version e is in
    is_entry-from file_version m version e (record { handle = parts.handle; some = parts.some; short = parts.short; behind_slots = parts.behind_slots; within = within; in_reach = parts.in_reach })

-- what becomes of each entry becomes of all
entries_become : (old new : Entry → Bool) (es : List Entry) → list_all old es ≡ true → ((k : ℕ) → k < length es → old (get_or es k no_entry) ≡ true → new (get_or es k no_entry) ≡ true) → list_all new es ≡ true
entries_become old new es all each =
    list_all-from_AllPass new es (λ k x l. subst (λ e. new e ≡ true) (get_or_same es k no_entry x l) (each k l (AllPass-from_list_all old es all k no_entry l)))

directory-kept : (file_version n m : ℕ) (d : Directory) → is_directory file_version n d ≡ true → All (λ e. 512 * e.extent.page + e.extent.length ≤ m) d.entries → is_directory file_version m d ≡ true
directory-kept file_version n m d is within =
    let parts = is_directory-parts file_version n d is in
    is_directory-from file_version m d (record {
      version = parts.version;
      rising = parts.rising;
      entries = entries_become (is_entry file_version n d.version) (is_entry file_version m d.version) d.entries parts.entries
          (λ k l one. is_entry-kept file_version n m d.version (get_or d.entries k no_entry) one (within k no_entry l));
      map_block = parts.map_block;
    })

pub blocks_of-kept : (file_version n version : ℕ) (old new : List ℕ) (es : List Entry) → n ≤ length old → list_all (is_entry file_version n version) es ≡ true → All (λ e. KeepsExtent old new e.extent) es → blocks_of_entries new es ≡ blocks_of_entries old es
blocks_of-kept file_version n version old new [] l all keeps = refl
blocks_of-kept file_version n version old new (e ∷ es) l all keeps =
    let each = and_parts (is_entry file_version n version e) (list_all (is_entry file_version n version) es) all in
    let inside = (is_entry-parts file_version n version e each.0).within in
    let made : Body → HasSequence = λ body. (e.handle.0, record { attributes = e.attributes; body = body }) in
    let first : block_of new e ≡ block_of old e =
    ap (λ (bytes : List ℕ). option_map made (option_and_then (if_typed e.attributes.heap_type) (summed_body e.sum bytes))) (bytes_in-keeps old new e.extent (keeps 0 e (omega arith)) (omega (arith, inside, l))) in
    ap₂ prepended first (blocks_of-kept file_version n version old new es l each.1 (λ k d below. keeps (suc k) d (omega (arith, below))))

pub directory_of-kept : (version : ℕ) (old new : List ℕ) (e : Extent) (d : Directory) → directory_of version old e ≡ Some d → KeepsExtent old new e → All (λ entry. KeepsExtent old new entry.extent) d.entries → directory_of version new e ≡ Some d
directory_of-kept version old new e d is keeps all =
    let there = directory_of-some version old e d is in
    let place = is_in_file-parts version (length old) e there.0 in
    let stands = directory_in-some version (length old) (bytes_in old e) d there.1 in
    let inside : is_in_file version (length new) e ≡ true = is_in_file-from version (length new) e place.behind_slots keeps.within place.in_reach in
    let same : bytes_in new e ≡ directory_text d = bytes_in-keeps old new e keeps place.within ∙ sym stands.1 in
    let good : is_directory version (length new) d ≡ true = directory-kept version (length old) (length new) d stands.0 (λ k x l. (all k x l).within) in
    cond-true _ _ _ inside ∙ ap (directory_in version (length new)) same ∙ directory_in-text version (length new) d good (λ k x l. (stands.2.entries k x l).attributes) stands.2.types stands.2.sums

pub document_at-kept : (version : ℕ) (old new : List ℕ) (e : Extent) (d : Directory) → directory_of version old e ≡ Some d → KeepsExtent old new e → All (λ entry. KeepsExtent old new entry.extent) d.entries
    → document_at version new e ≡ document_at version old e
document_at-kept version old new e d is keeps all =
    let stands = directory_in-some version (length old) (bytes_in old e) d (directory_of-some version old e d is).1 in
    let parts = is_directory-parts version (length old) d stands.0 in
    ap (option_and_then (document_of new)) (directory_of-kept version old new e d is keeps all)
    ∙ ap (option_map (λ blocks. let made : Document = record { blocks = from_entries blocks; map_block = d.map_block } in made)) (blocks_of-kept version (length old) d.version old new d.entries (omega arith) parts.entries all)
    ∙ ap (option_and_then (document_of old)) (sym is)

-- What stands in a file of either version stands in one of version 2.

pub is_in_file-newer : (version n : ℕ) (e : Extent) → is_in_file version n e ≡ true → is_in_file 2 n e ≡ true
is_in_file-newer version n e is =
    let place = is_in_file-parts version n e is in
    is_in_file-from 2 n e place.behind_slots place.within (let most = page_limit_of-most version in omega (arith, most, place.in_reach))

pub is_entry-newer : (file_version n version : ℕ) (e : Entry) → is_entry file_version n version e ≡ true → is_entry 2 n version e ≡ true
is_entry-newer file_version n version e is =
    let parts = is_entry-parts file_version n version e is in
    is_entry-from 2 n version e
    (record { handle = parts.handle; some = parts.some; short = parts.short; behind_slots = parts.behind_slots; within = parts.within; in_reach = entry-in_reach file_version n version e parts })

pub is_directory-newer : (file_version n : ℕ) (d : Directory) → file_version ≢ 3 → is_directory file_version n d ≡ true → is_directory 2 n d ≡ true
is_directory-newer file_version n d older is =
    let parts = is_directory-parts file_version n d is in
    is_directory-from 2 n d (record {
      version = is_version_in-newer file_version d.version older parts.version;
      rising = parts.rising;
      entries = entries_become (is_entry file_version n d.version) (is_entry 2 n d.version) d.entries parts.entries (λ k l one. is_entry-newer file_version n d.version (get_or d.entries k no_entry) one);
      map_block = parts.map_block;
    })

pub directory_of-newer : (version : ℕ) (file : List ℕ) (e : Extent) (d : Directory) → version ≢ 3 → directory_of version file e ≡ Some d → directory_of 2 file e ≡ Some d
directory_of-newer version file e d older is =
    let there = directory_of-some version file e d is in
    let stands = directory_in-some version (length file) (bytes_in file e) d there.1 in
    let good = is_directory-newer version (length file) d older stands.0 in
    cond-true _ _ _ (is_in_file-newer version (length file) e there.0) ∙ ap (directory_in 2 (length file)) (sym stands.1)
    ∙ directory_in-text 2 (length file) d good (λ k x l. (stands.2.entries k x l).attributes) stands.2.types stands.2.sums

pub document_at-newer : (version : ℕ) (file : List ℕ) (e : Extent) (d : Directory) → version ≢ 3 → directory_of version file e ≡ Some d → document_at 2 file e ≡ document_at version file e
document_at-newer version file e d older is = ap (option_and_then (document_of file)) (directory_of-newer version file e d older is ∙ sym is)

pub document_at-newer_some : (version : ℕ) (file : List ℕ) (e : Extent) (document : Document) → version ≢ 3 → document_at version file e ≡ Some document → document_at 2 file e ≡ Some document
document_at-newer_some version file e document older is =
    let found = directory_there file (directory_of version file e) document is in
    document_at-newer version file e found.0 older found.1.0 ∙ is

-- Directories with sums.

pub summed_directory-some : (version : ℕ) (file : List ℕ) (sum : Option ℕ) (e : Extent) (d : Directory) → summed_directory version file sum e ≡ Some d → (has_sum sum (bytes_in file e) ≡ true) × (directory_of version file e ≡ Some d)
summed_directory-some version file sum e d is = elim (cases_Bool (has_sum sum (bytes_in file e))) [
  | inl summed ↦ (summed, sym (cond-true _ _ _ summed) ∙ is)
  | inr other ↦ (let none : None ≡ Some d = sym (cond-false _ _ _ other) ∙ is in absurd (cc none))
]

pub summed_directory-is : (version : ℕ) (file : List ℕ) (sum : Option ℕ) (e : Extent) → has_sum sum (bytes_in file e) ≡ true → summed_directory version file sum e ≡ directory_of version file e
summed_directory-is version file sum e summed = cond-true _ _ _ summed

pub summed_directory-kept : (version : ℕ) (old new : List ℕ) (sum : Option ℕ) (e : Extent) (d : Directory) → summed_directory version old sum e ≡ Some d → KeepsExtent old new e → All (λ entry. KeepsExtent old new entry.extent) d.entries → summed_directory version new sum e ≡ Some d
summed_directory-kept version old new sum e d is keeps all =
    let there = summed_directory-some version old sum e d is in
    let place = is_in_file-parts version (length old) e (directory_of-some version old e d there.1).0 in
    let same : bytes_in new e ≡ bytes_in old e = bytes_in-keeps old new e keeps place.within in
    cond-true _ _ _ (subst (λ (bytes : List ℕ). has_sum sum bytes ≡ true) (sym same) there.0) ∙ directory_of-kept version old new e d there.1 keeps all
