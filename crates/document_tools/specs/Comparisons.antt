-- What comes of the comparison of two files.
use Rattle.std.specs.Prelude.{◌≡◌, ◌≢◌, ◌⊎◌, ℕ, List, Bool, true, false, IsTrue, Option, Result, Ok, Err, ⊤}
use Rattle.std.specs.Io.KnownBytes.{Appends}
use Rattle.geos_model.specs.Document.{Document}
use Rattle.file_format.specs.File.{stands}
use Rattle.geos_model.specs.declared.fault.Fault.{Fault}
use Rattle.geos_model.specs.declared.fault.Fault.TheVariants as faults
use Rattle.vm_store.specs.Facts.{StoreFacts, FailedSince}
use Rattle.document_file.specs.Opened.{OnlyReadsStore}
use Rattle.geos_shell.specs.Streams.{StopsWriting, WriteCalls}
use Rattle.document_file.specs.StoredDocuments.{StoredState}
use Rattle.document_diff.specs.Diffs.{diff_text, document_by}
use Rattle.document_diff.specs.declared.fault.DiffFault.{DiffFault}
use Rattle.document_diff.specs.declared.fault.DiffFault.TheVariants as diff_faults
use Rattle.document_diff.specs.declared.fault.Side.{Side}
use Rattle.document_diff.specs.declared.fault.Side.TheVariants as sides
use Rattle.document_diff.specs.declared.version.Version.{Version}
use Rattle.document_diff.specs.declared.version.Version.TheVariants as versions
use Rattle.document_tools.specs.Endings.{IsUncomparedFor}
use Rattle.document_tools.specs.Obstacles.{refusal_line}
use Rattle.document_tools.specs.Views.{LooksAt, Views}
use Rattle.document_tools.specs.declared.ending.Ending.{Ending}
use Rattle.document_tools.specs.declared.ending.Ending.TheVariants as endings
use Rattle.document_tools.specs.declared.ending.Trouble.TheVariants as troubles
use Rattle.document_tools.specs.declared.obstacle.Cause.{Cause}
use Rattle.document_tools.specs.declared.obstacle.Obstacle.TheVariants.{Changed, Unopened, Unread, Unviewed}

-- the one of both documents of a file
abbrev pub chosen_document : Version → Document → Document → Document
chosen_document versions.Updated updated saved = updated
chosen_document versions.Saved updated saved = saved

-- the file's bytes stand for this document
abbrev pub StandsForVersion : Version → List ℕ → Document → Type 0
StandsForVersion version file d =
    (updated : Document) × (saved : Document) × (stands file ≡ Ok (updated, saved))
    × (d ≡ chosen_document version updated saved)

-- Two honest stores were compared: what differs between their documents is written.
pub record Compares {W : Type 0} (contents : W → Option (List ℕ)) (version : Version) (first second : StoreFacts)
    (old new : W)
    (Is : Document → Document → Type 0) : Type 0 where
  pub before : Document
  pub after : Document
  pub first_stands : StandsForVersion version first.content before
  pub second_stands : StandsForVersion version second.content after
  pub appends : Appends (contents old) (contents new) (diff_text before after)
  pub is : Is before after

-- One file can't be compared: it can't be read, for the store failed in this very call; it doesn't open, for this; or a
-- block has other bytes than when it was opened, as of no honest store.
abbrev pub IsUnreadStored : List ℕ → StoreFacts → StoreFacts → List ℕ → Type 0
IsUnreadStored file from to line =
    ((line ≡ refusal_line file Unread) × FailedSince from to)
    ⊎ ((fault : Fault) × (line ≡ refusal_line file (Unopened fault))
    × (IsTrue from.honest → stands from.content ≡ Err fault))
    ⊎ ((line ≡ refusal_line file Changed) × (IsTrue from.honest → ⊥))

abbrev pub name_of_side : List ℕ → List ℕ → Side → List ℕ
name_of_side first second sides.Old = first
name_of_side first second sides.New = second

-- what comes of a comparison
abbrev pub EndsComparison : List ℕ → List ℕ → Result Bool DiffFault → Ending → Type 0
EndsComparison first second (Ok true) ending = ending ≡ endings.Done
EndsComparison first second (Ok false) ending = ending ≡ endings.Different
EndsComparison first second (Err diff_faults.Memory) ending = ending ≡ endings.Uncompared troubles.Memory
EndsComparison first second (Err (diff_faults.File side)) ending =
    IsUncomparedFor (name_of_side first second side) Unread ending
EndsComparison first second (Err (diff_faults.Damaged side)) ending =
    IsUncomparedFor (name_of_side first second side) Changed ending
EndsComparison first second (Err diff_faults.Write) ending = ending ≡ endings.Uncompared troubles.WriteFault

-- what comes of a file that doesn't open
abbrev pub EndsUncompared : List ℕ → Fault → Ending → Type 0
EndsUncompared file fault ending =
    ((fault ≡ faults.Memory) × (ending ≡ endings.Uncompared troubles.Memory))
    ⊎ (((fault ≡ faults.File) × IsUncomparedFor file Unread ending)
    ⊎ ((fault ≢ faults.Memory) × (fault ≢ faults.File) × IsUncomparedFor file (Unopened fault) ending))

-- One that was open can't be read: the store failed in this very call, or isn't honest.
abbrev pub IsUnreadOpen : List ℕ → StoreFacts → StoreFacts → List ℕ → Type 0
IsUnreadOpen file from to line =
    ((line ≡ refusal_line file Unread) × FailedSince from to)
    ⊎ ((line ≡ refusal_line file Changed) × (IsTrue from.honest → ⊥))

-- what differs between documents is written, and this is so of them
abbrev pub WritesDiff : {W : Type 0} → (W → Option (List ℕ)) → Document → Document → W → W → Type 0 → Type 0
WritesDiff contents d e old new Is = Appends (contents old) (contents new) (diff_text d e) × Is

-- What comes of the comparison of documents that are open.
abbrev pub ComparesOpen : {S W : Type 0} → (S → StoreFacts) → (W → Option (List ℕ)) → WriteCalls W → List ℕ → List ℕ
    → Version → StoredState S → StoredState S → StoredState S → StoredState S → W → W → Ending → Type 0
ComparesOpen facts contents writes first second version a a_left b b_left old new endings.Done =
    IsTrue (facts a.store).honest → IsTrue (facts b.store).honest
    → WritesDiff contents (document_by version a) (document_by version b) old new
    (document_by version a ≡ document_by version b)
ComparesOpen facts contents writes first second version a a_left b b_left old new endings.Different =
    IsTrue (facts a.store).honest → IsTrue (facts b.store).honest
    → WritesDiff contents (document_by version a) (document_by version b) old new
    (document_by version a ≡ document_by version b → ⊥)
ComparesOpen facts contents writes first second version a a_left b b_left old new
    (endings.Uncompared (troubles.Refused line)) =
    IsUnreadOpen first (facts a.store) (facts a_left.store) line
    ⊎ IsUnreadOpen second (facts b.store) (facts b_left.store) line
ComparesOpen facts contents writes first second version a a_left b b_left old new
    (endings.Uncompared troubles.Memory) = ⊤
ComparesOpen facts contents writes first second version a a_left b b_left old new
    (endings.Uncompared troubles.WriteFault) =
    ∥ StopsWriting writes new ∥₁
ComparesOpen facts contents writes first second version a a_left b b_left old new ending = ⊥

-- What comes of the comparison of a document that is open with what a store's bytes stand for.
abbrev pub ComparesStored : {W : Type 0} → (W → Option (List ℕ)) → WriteCalls W → List ℕ → List ℕ → Version
    → StoreFacts → StoreFacts → Document → StoreFacts → StoreFacts → W → W → Ending → Type 0
ComparesStored contents writes first second version a a_left d b b_left old new endings.Done =
    IsTrue a.honest → IsTrue b.honest
    → (e : Document) × StandsForVersion version b.content e × WritesDiff contents d e old new (d ≡ e)
ComparesStored contents writes first second version a a_left d b b_left old new endings.Different =
    IsTrue a.honest → IsTrue b.honest
    → (e : Document) × StandsForVersion version b.content e × WritesDiff contents d e old new (d ≡ e → ⊥)
ComparesStored contents writes first second version a a_left d b b_left old new
    (endings.Uncompared (troubles.Refused line)) =
    IsUnreadOpen first a a_left line ⊎ IsUnreadStored second b b_left line
ComparesStored contents writes first second version a a_left d b b_left old new
    (endings.Uncompared troubles.Memory) = ⊤
ComparesStored contents writes first second version a a_left d b b_left old new
    (endings.Uncompared troubles.WriteFault) =
    ∥ StopsWriting writes new ∥₁
ComparesStored contents writes first second version a a_left d b b_left old new ending = ⊥

-- What comes of the comparison of two stores. Done is told of the same documents alone.
abbrev pub ComparesStores : {W : Type 0} → (W → Option (List ℕ)) → WriteCalls W → List ℕ → List ℕ → Version
    → StoreFacts → StoreFacts → StoreFacts → StoreFacts → W → W → Ending → Type 0
ComparesStores contents writes first second version a a_left b b_left old new endings.Done =
    IsTrue a.honest → IsTrue b.honest → Compares contents version a b old new (λ d e. d ≡ e)
ComparesStores contents writes first second version a a_left b b_left old new endings.Different =
    IsTrue a.honest → IsTrue b.honest → Compares contents version a b old new (λ d e. d ≡ e → ⊥)
ComparesStores contents writes first second version a a_left b b_left old new
    (endings.Uncompared (troubles.Refused line)) =
    IsUnreadStored first a a_left line ⊎ IsUnreadStored second b b_left line
ComparesStores contents writes first second version a a_left b b_left old new (endings.Uncompared troubles.Memory) = ⊤
ComparesStores contents writes first second version a a_left b b_left old new
    (endings.Uncompared troubles.WriteFault) =
    ∥ StopsWriting writes new ∥₁
ComparesStores contents writes first second version a a_left b b_left old new ending = ⊥

-- the second file is opened to be read alone, and compared with the first
abbrev pub ComparesWith : {V S W : Type 0} → Views V S → (S → StoreFacts) → (W → Option (List ℕ)) → WriteCalls W
    → List ℕ → List ℕ → Version → S → V → V → W → W → Ending → Type 0
ComparesWith {V} {S} views facts contents writes first second version a old new from to ending =
    LooksAt views second old new (λ cause. IsUncomparedFor second (Unviewed cause) ending × (to ≡ from))
    (λ b. (a_left : S) × (b_left : S) × OnlyReadsStore (facts a) (facts a_left)
    × OnlyReadsStore (facts b) (facts b_left)
    × ComparesStores contents writes first second version (facts a) (facts a_left) (facts b) (facts b_left) from to
    ending)

-- What comes of it for the files of two names: both are opened to be read alone, and nothing is written to them.
abbrev pub ComparesFiles : {V S W : Type 0} → Views V S → (S → StoreFacts) → (W → Option (List ℕ)) → WriteCalls W
    → List ℕ → List ℕ → Version → V → V → W → W → Ending → Type 0
ComparesFiles {V} {S} views facts contents writes first second version old new from to ending =
    ((cause : Cause) × views old first (Err cause) new × IsUncomparedFor first (Unviewed cause) ending × (to ≡ from))
    ⊎ ((a : S) × (mid : V) × views old first (Ok a) mid
    × ComparesWith views facts contents writes first second version a mid new from to ending)
