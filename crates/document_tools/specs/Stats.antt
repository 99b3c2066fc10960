-- What is told of what a file has, counted.
use Rattle.std.specs.Prelude.{◌≡◌, ℕ, List, IsTrue}
use Rattle.vm_store.specs.Facts.{StoreFacts}
use Rattle.document_file.specs.Opened.{OnlyReadsStore}
use Rattle.geos_shell.specs.Streams.{WriteCalls}
use Rattle.document_stat.specs.Files.{IsFileStat}
use Rattle.document_stat.specs.declared.file_stat.FileStat.{FileStat}
use Rattle.stat_texts.specs.Columns.{columns}
use Rattle.stat_texts.specs.Json.{json}
use Rattle.document_tools.specs.Endings.{IsRefusedFor}
use Rattle.document_tools.specs.Looks.{IsUnlookedAt, SendsText}
use Rattle.document_tools.specs.Views.{LooksAt, Views}
use Rattle.document_tools.specs.declared.ending.Ending.{Ending}
use Rattle.document_tools.specs.declared.ending.Ending.TheVariants as endings
use Rattle.document_tools.specs.declared.obstacle.Obstacle.TheVariants.{Unviewed}
use Rattle.document_commands.specs.declared.requested.Form.{Form}
use Rattle.document_commands.specs.declared.requested.Form.TheVariants.{Columns, Json}

abbrev pub stat_text : Form → FileStat → List ℕ
stat_text Columns s = columns s
stat_text Json s = json s

-- the numbers are written, or there is no memory for their text, or the write of it failed
abbrev pub PrintsStat : {W : Type 0} → WriteCalls W → Form → FileStat → W → W → Ending → Type 0
PrintsStat writes form s old new endings.Memory = new ≡ old
PrintsStat writes form s old new ending = SendsText writes (stat_text form s) old new ending

-- What comes of the counting of a store. Unless all is told, nothing is but that it can't be read or doesn't open.
abbrev pub StatsStore : {W : Type 0} → WriteCalls W → List ℕ → Form → StoreFacts → StoreFacts → W → W → Ending → Type 0
StatsStore writes file form from to old new endings.Memory = new ≡ old
StatsStore writes file form from to old new (endings.Refused line) = IsUnlookedAt file from to line × (new ≡ old)
StatsStore writes file form from to old new ending =
    (s : FileStat) × (IsTrue from.honest → IsFileStat from.content s) × PrintsStat writes form s old new ending

-- What comes of it for the file of a name: it is opened to be read alone, and counted, and nothing is written to it.
abbrev pub StatsFile : {V S W : Type 0} → Views V S → (S → StoreFacts) → WriteCalls W → List ℕ → Form → V → V → W → W
    → Ending → Type 0
StatsFile {V} {S} views facts writes file form old new from to ending =
    LooksAt views file old new (λ cause. IsRefusedFor file (Unviewed cause) ending × (to ≡ from))
    (λ store. (left : S) × OnlyReadsStore (facts store) (facts left)
    × StatsStore writes file form (facts store) (facts left) from to ending)
