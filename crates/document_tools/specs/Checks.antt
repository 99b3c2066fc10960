-- What a check tells, and how it ends.
use Rattle.std.specs.Prelude.{◌≡◌, ℕ, List, ◌++◌, Result, Ok, Err, IsOk, IsErr, IsTrue}
use Rattle.vm_store.specs.Facts.{StoreFacts, FailedSince}
use Rattle.document_file.specs.Opened.{OnlyReadsStore}
use Rattle.geos_shell.specs.Streams.{WriteCalls}
use Rattle.geos_shell.specs.declared.streams.WriteFault.{WriteFault}
use Rattle.file_report.specs.Checked.{IsReport, counting_between}
use Rattle.file_report.specs.declared.checking.Report.{Report}
use Rattle.document_tools.specs.Endings.{IsRefusedFor}
use Rattle.document_tools.specs.Obstacles.{refusal_line}
use Rattle.document_tools.specs.Pages.{ReportsCounting}
use Rattle.document_tools.specs.Reports.{next_lines, report_text}
use Rattle.document_tools.specs.Views.{LooksAt, Views}
use Rattle.document_tools.specs.declared.ending.Ending.{Ending}
use Rattle.document_tools.specs.declared.ending.Ending.TheVariants as endings
use Rattle.document_tools.specs.declared.obstacle.Obstacle.TheVariants.{Unread, Unviewed}

-- the lines of a report, behind them those of the pages, and what can be done of a file that doesn't open
pub record IsCheckText (r : Report) (text : List ℕ) : Type 0 where
  pub pages : List ℕ
  pub counting : ReportsCounting r.file_length (counting_between r.first r.second) pages
  pub is : text ≡ report_text r ++ pages ++ next_lines r

-- all of that was written in one write, which had this result
pub record SendsReport {W : Type 0} (writes : WriteCalls W) (r : Report) (old : W)
    (result : Result (Unit {0}) WriteFault)
    (new : W) : Type 0 where
  pub text : List ℕ
  pub is : IsCheckText r text
  pub sent : writes old text result new

-- How the telling of a report ends: the file opens, or it doesn't, and either is told; or there is no memory for the
-- text, or the write of it failed.
abbrev pub PrintsReport : {W : Type 0} → WriteCalls W → Report → W → W → Ending → Type 0
PrintsReport writes r old new endings.Done = IsOk r.verdict × SendsReport writes r old (Ok tt) new
PrintsReport writes r old new endings.Unsound = IsErr r.verdict × SendsReport writes r old (Ok tt) new
PrintsReport writes r old new endings.Memory = new ≡ old
PrintsReport writes r old new endings.WriteFault = (fault : WriteFault) × SendsReport writes r old (Err fault) new
PrintsReport writes r old new ending = ⊥

-- What a check of a store comes to. That it can't be read is told only where the store failed in this very call, and
-- then nothing else is told.
abbrev pub ChecksStore : {W : Type 0} → WriteCalls W → List ℕ → StoreFacts → StoreFacts → W → W → Ending → Type 0
ChecksStore writes file old new from to (endings.Refused line) =
    (line ≡ refusal_line file Unread) × FailedSince old new × (to ≡ from)
ChecksStore writes file old new from to endings.Memory = to ≡ from
ChecksStore writes file old new from to ending =
    (r : Report) × (IsTrue old.honest → IsReport old.content r) × PrintsReport writes r from to ending

-- What a check of the file of a name comes to: it is opened to be read alone, and checked, and nothing is written to
-- it.
abbrev pub ChecksFile : {V S W : Type 0} → Views V S → (S → StoreFacts) → WriteCalls W → List ℕ → V → V → W → W → Ending
    → Type 0
ChecksFile {V} {S} views facts writes file old new from to ending =
    LooksAt views file old new (λ cause. IsRefusedFor file (Unviewed cause) ending × (to ≡ from))
    (λ store. (left : S) × OnlyReadsStore (facts store) (facts left)
    × ChecksStore writes file (facts store) (facts left) from to ending)
