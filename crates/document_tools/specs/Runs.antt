-- Which tool is called for what is asked.
use Rattle.std.specs.Prelude.{◌≡◌, ◌^◌, ℕ, Bool, false, true, List, Option}
use Rattle.vm_store.specs.Facts.{StoreFacts}
use Rattle.vm_store.specs.Files.{Opener}
use Rattle.geos_shell.specs.Streams.{ReadCalls, StopsReading, WriteCalls}
use Rattle.document_commands.specs.declared.requested.Asked.{Asked}
use Rattle.document_commands.specs.declared.requested.Asked.TheVariants as asked
use Rattle.document_commands.specs.declared.requested.Checksums.{Checksums}
use Rattle.document_commands.specs.declared.requested.Checksums.TheVariants as sums
use Rattle.document_commands.specs.declared.requested.DiffScope.{DiffScope}
use Rattle.document_commands.specs.declared.requested.DiffScope.TheVariants as scopes
use Rattle.document_commands.specs.declared.requested.DumpScope.{DumpScope}
use Rattle.document_commands.specs.declared.requested.DumpScope.TheVariants as documents
use Rattle.document_commands.specs.declared.requested.Request.{Request}
use Rattle.document_commands.specs.declared.requested.Request.TheVariants as requests
use Rattle.document_commands.specs.declared.requested.SalvageScope.{SalvageScope}
use Rattle.document_commands.specs.declared.requested.SalvageScope.TheVariants as takings
use Rattle.document_diff.specs.declared.version.Version.{Version}
use Rattle.document_diff.specs.declared.version.Version.TheVariants as versions
use Rattle.document_dump.specs.declared.dumping.Which.TheVariants as which
use Rattle.document_tools.specs.Checks.{ChecksFile}
use Rattle.document_tools.specs.Comparisons.{ComparesFiles}
use Rattle.document_tools.specs.DumpedFiles.{DumpsFile}
use Rattle.document_tools.specs.Maps.{MapsFile}
use Rattle.document_tools.specs.OtherSlots.{DumpsOtherFile}
use Rattle.document_tools.specs.Restores.{MakeCalls, Restores}
use Rattle.document_tools.specs.Salvages.{SalvagesFile}
use Rattle.document_tools.specs.Stats.{StatsFile}
use Rattle.document_tools.specs.Views.{Views}
use Rattle.document_tools.specs.declared.ending.Ending.{Ending}
use Rattle.document_tools.specs.declared.running.Machine.{Machine}

-- the dump that is asked for
abbrev pub DumpsRequested : {V S W : Type 0} → Views V S → (S → StoreFacts) → (W → Option (List ℕ)) → WriteCalls W
    → DumpScope
    → List ℕ → V → V → W → W → Ending → Type 0
DumpsRequested views facts contents writes documents.Both file old new from to ending =
    DumpsFile views facts contents writes file which.Both old new from to ending
DumpsRequested views facts contents writes documents.Saved file old new from to ending =
    DumpsFile views facts contents writes file which.Saved old new from to ending
DumpsRequested views facts contents writes documents.Other file old new from to ending =
    DumpsOtherFile views facts contents writes file old new from to ending

-- blocks are taken too whose sum is wrong
abbrev pub takes_all : SalvageScope → Bool
takes_all takings.Whole = false
takes_all takings.All = true

-- what is asked of a file but for a check
abbrev pub CarriesOutLook : {V S W : Type 0} → Views V S → (S → StoreFacts) → (W → Option (List ℕ)) → WriteCalls W
    → Asked
    → List ℕ → V → V → W → W → Ending → Type 0
CarriesOutLook views facts contents writes (asked.Dump dumped) file old new from to ending =
    DumpsRequested views facts contents writes dumped file old new from to ending
CarriesOutLook views facts contents writes (asked.Stat form) file old new from to ending =
    StatsFile views facts writes file form old new from to ending
CarriesOutLook views facts contents writes (asked.Map picture) file old new from to ending =
    MapsFile views facts contents writes file picture old new from to ending
CarriesOutLook views facts contents writes (asked.Salvage taken) file old new from to ending =
    SalvagesFile views facts contents writes file (takes_all taken) old new from to ending

abbrev pub version_of_scope : DiffScope → Version
version_of_scope scopes.Updated = versions.Updated
version_of_scope scopes.Saved = versions.Saved

-- a file that is made has checksums
abbrev pub gives_checksums : Checksums → Bool
gives_checksums sums.Without = false
gives_checksums sums.With = true

-- no file is opened but to be read alone, none is made, and no script is read
abbrev pub OnlyLooks : {V F M R : Type 0} → Machine V F M R → Machine V F M R → Type 0
OnlyLooks old new = (new.files ≡ old.files) × (new.maker ≡ old.maker) × (new.reader ≡ old.reader)

-- what a request comes to: what its tool does with its file, and nothing else
abbrev pub CarriesOut : {V S F T M R W : Type 0} → Views V S → (S → StoreFacts) → Opener F T → (T → StoreFacts)
    → MakeCalls M → (R → Option (List ℕ)) → ReadCalls R → (W → Option (List ℕ)) → WriteCalls W → Request
    → Machine V F M R → Machine V F M R → W → W → Ending → Type 0
CarriesOut views viewed calls facts makes remaining reads contents writes (requests.Check file) old new from to ending =
    ChecksFile views viewed writes file.now old.viewer new.viewer from to ending × OnlyLooks old new
CarriesOut views viewed calls facts makes remaining reads contents writes (requests.Look looked file) old new from to
    ending =
    CarriesOutLook views viewed contents writes looked file.now old.viewer new.viewer from to ending × OnlyLooks old new
CarriesOut views viewed calls facts makes remaining reads contents writes (requests.Diff scope first second) old new
    from to ending =
    ComparesFiles views viewed contents writes first.now second.now (version_of_scope scope) old.viewer new.viewer from to
    ending × OnlyLooks old new
CarriesOut views viewed calls facts makes remaining reads contents writes (requests.Restore checksums file) old new
    from to ending =
    Restores calls facts makes file.now (gives_checksums checksums) old.files old.maker new.files new.maker (remaining old.reader)
    (remaining new.reader) (StopsReading reads (2 ^ 24) old.reader new.reader) ending
    × (new.viewer ≡ old.viewer) × (to ≡ from)
