-- Documents that rest on sums are the ones that were written.
use Rattle.std.proofs.Common.{◌≡◌, ℕ, suc, ◌&&◌, true, List, [], ◌∷◌, length, Option, Some, None, Ok, All, refl, sym, ap, ap₂, subst, ◌∙◌, arith, inl, inr, eqb-true}
use Rattle.std.specs.Option.{option_and_then, option_map}
use Rattle.std.specs.FinMap.{from_entries}
use Rattle.checksum.specs.Crc32c.{crc32c}
use Rattle.geos_model.specs.Bytes.{same_bytes}
use Rattle.geos_model.specs.Document.{Document}
use Rattle.geos_model.specs.declared.command.Body.{Body}
use Rattle.file_format.specs.File.{Directory, bytes_in, directory_text, directory_read, is_directory, directory_in, directory_of, has_sum, summed_directory, if_typed, summed_body, block_of, blocks_of_entries, document_of, summed_document, working_sum, saved_sum, pair_of}
use Rattle.file_format.specs.FileLaws.{FitsSum}
use Rattle.file_format.specs.Damage.{MaybeDamaged, Pair}
use Rattle.file_format.specs.declared.file.Extent.{Extent}
use Rattle.file_format.specs.declared.file.Entry.{Entry}
use Rattle.file_format.specs.declared.file.Slot.{Slot}
use Rattle.file_format.specs.declared.file.SlotSums.{SlotSums}
use Rattle.file_format.proofs.Files.{some_if, VersionsAgree, is_version_in-parts, is_directory-parts, directory_in-some}
use Rattle.file_format.proofs.FileDocuments.{HasSequence, prepended-some, body_there, if_typed-some, summed_body-some, document_there, directory_there, directory_of-some, summed_directory-some}
use Rattle.file_format.proofs.FileStands.{pair_of-by}
use Rattle.file_format.proofs.DamagedParts.{extent_same}

-- the bytes of an extent that have a sum in both
summed_same : (file other : List ℕ) (e : Extent) (sum : ℕ) → MaybeDamaged file other → has_sum (Some sum) (bytes_in file e) ≡ true → has_sum (Some sum) (bytes_in other e) ≡ true → bytes_in file e ≡ bytes_in other e
summed_same file other e sum d here there =
    extent_same file other e d (sym (eqb-true sum (crc32c (bytes_in file e)) here) ∙ eqb-true sum (crc32c (bytes_in other e)) there)

-- Blocks.

-- an entry that has a block has its sum
block_summed : (file : List ℕ) (e : Entry) (b : HasSequence) → block_of file e ≡ Some b → has_sum e.sum (bytes_in file e.extent) ≡ true
block_summed file e b is =
    let body = body_there e.handle.0 e.attributes (option_and_then (if_typed e.attributes.heap_type) (summed_body e.sum (bytes_in file e.extent))) b is in
    (summed_body-some e.sum (bytes_in file e.extent) body.0 (if_typed-some e.attributes.heap_type (summed_body e.sum (bytes_in file e.extent)) body.0 body.1.0).0).0

sum_there : (sum : Option ℕ) → FitsSum 3 sum → (n : ℕ) × (sum ≡ Some n)
sum_there None fits = absurd (fits refl)
sum_there (Some n) fits = (n, refl)

block_same : (file other : List ℕ) (e : Entry) (b c : HasSequence) → MaybeDamaged file other → FitsSum 3 e.sum → block_of file e ≡ Some b → block_of other e ≡ Some c → c ≡ b
block_same file other e b c d fits here there =
    let sum = sum_there e.sum fits in
    let same : bytes_in file e.extent ≡ bytes_in other e.extent = summed_same file other e.extent sum.0 d
    (subst (λ s. has_sum s (bytes_in file e.extent) ≡ true) sum.1 (block_summed file e b here))
    (subst (λ s. has_sum s (bytes_in other e.extent) ≡ true) sum.1 (block_summed other e c there)) in
    let made : Body → HasSequence = λ body. (e.handle.0, record { attributes = e.attributes; body = body }) in
    let blocks : block_of file e ≡ block_of other e =
    ap (λ (bytes : List ℕ). option_map made (option_and_then (if_typed e.attributes.heap_type) (summed_body e.sum bytes))) same in
    let some : Some c ≡ Some b = sym there ∙ sym blocks ∙ here in
    cc some

blocks_same : (file other : List ℕ) (es : List Entry) (bs cs : List HasSequence) → MaybeDamaged file other → All (λ e. FitsSum 3 e.sum) es → blocks_of_entries file es ≡ Some bs → blocks_of_entries other es ≡ Some cs → cs ≡ bs
blocks_same file other [] bs cs d fits here there = (let some : Some cs ≡ Some bs = sym there ∙ here in cc some)
blocks_same file other (e ∷ es) bs cs d fits here there =
    let first = prepended-some (block_of file e) (blocks_of_entries file es) bs here in
    let second = prepended-some (block_of other e) (blocks_of_entries other es) cs there in
    let block = block_same file other e first.block second.block d (fits 0 e (omega arith)) first.first_is second.first_is in
    let rest = blocks_same file other es first.rest second.rest d (λ k x l. fits (suc k) x (omega (arith, l))) first.others_are second.others_are in
    sym second.all ∙ ap₂ (λ (b : HasSequence) (blocks : List HasSequence). b ∷ blocks) block rest ∙ first.all

-- Directories.

pub directory_in-read : (version n : ℕ) (bytes : List ℕ) (d : Directory) → directory_in version n bytes ≡ Some d → directory_read bytes ≡ d
directory_in-read version n bytes d e =
    let r : Directory = directory_read bytes in
    (some_if (is_directory version n r && same_bytes (directory_text r) bytes) r d e).1

-- a directory of a file of version 3
three_is : (version : ℕ) → VersionsAgree 3 version → version ≡ 3
three_is version (inl older) = absurd (older.0 refl)
three_is version (inr three) = three.0

pub directory_summed : (file : List ℕ) (e : Extent) (d : Directory) → directory_of 3 file e ≡ Some d → (d.version ≡ 3) × All (λ x. FitsSum 3 x.sum) d.entries
directory_summed file e d is =
    let found = directory_in-some 3 (length file) (bytes_in file e) d (directory_of-some 3 file e d is).1 in
    let three = three_is d.version (is_version_in-parts 3 d.version (is_directory-parts 3 (length file) d found.0).version) in
    (three, subst (λ v. All (λ x. FitsSum v x.sum) d.entries) three found.2.sums)

document_same : (file other : List ℕ) (e : Extent) (sum : ℕ) (one two : Document) → MaybeDamaged file other → summed_document 3 file (Some sum) e ≡ Some one → summed_document 3 other (Some sum) e ≡ Some two → two ≡ one
document_same file other e sum one two d here there =
    let first = directory_there file (summed_directory 3 file (Some sum) e) one here in
    let second = directory_there other (summed_directory 3 other (Some sum) e) two there in
    let mine = summed_directory-some 3 file (Some sum) e first.0 first.1.0 in
    let its = summed_directory-some 3 other (Some sum) e second.0 second.1.0 in
    let same : bytes_in file e ≡ bytes_in other e = summed_same file other e sum d mine.0 its.0 in
    let is : second.0 ≡ first.0 =
    sym (directory_in-read 3 (length other) (bytes_in other e) second.0 (directory_of-some 3 other e second.0 its.1).1)
    ∙ ap directory_read (sym same) ∙ directory_in-read 3 (length file) (bytes_in file e) first.0 (directory_of-some 3 file e first.0 mine.1).1 in
    let blocks = document_there first.0 (blocks_of_entries file first.0.entries) one first.1.1 in
    let others = document_there first.0 (blocks_of_entries other first.0.entries) two (ap (document_of other) (sym is) ∙ second.1.1) in
    let all = blocks_same file other first.0.entries blocks.0 others.0 d (directory_summed file e first.0 mine.1).1 blocks.1.0 others.1.0 in
    sym others.1.1 ∙ ap (λ (bs : List HasSequence). let made : Document = record { blocks = from_entries bs; map_block = first.0.map_block } in made) all ∙ blocks.1.1

-- what a slot of version 3 leads to
pub pair_same : (file other : List ℕ) (s : Slot) (sums : SlotSums) (pair found : Pair) → MaybeDamaged file other → s.version ≡ 3 → s.sums ≡ Some sums
    → pair_of file s ≡ Ok pair → pair_of other s ≡ Ok found → found ≡ pair
pair_same file other s sums pair found d three there here its =
    let first = pair_of-by file s pair here in
    let second = pair_of-by other s found its in
    let working : working_sum s ≡ Some sums.working = ap (option_map (λ (x : SlotSums). x.working)) there in
    let saved : saved_sum s ≡ Some sums.saved = ap (option_map (λ (x : SlotSums). x.saved)) there in
    let updated = document_same file other s.working sums.working pair.0 found.0 d
    (ap₂ (λ (v : ℕ) (o : Option ℕ). summed_document v file o s.working) (sym three) (sym working) ∙ first.working)
    (ap₂ (λ (v : ℕ) (o : Option ℕ). summed_document v other o s.working) (sym three) (sym working) ∙ second.working) in
    let kept = document_same file other s.saved sums.saved pair.1 found.1 d
    (ap₂ (λ (v : ℕ) (o : Option ℕ). summed_document v file o s.saved) (sym three) (sym saved) ∙ first.saved_is)
    (ap₂ (λ (v : ℕ) (o : Option ℕ). summed_document v other o s.saved) (sym three) (sym saved) ∙ second.saved_is) in
    ap₂ (λ (u v : Document). let made : Pair = (u, v) in made) updated kept
