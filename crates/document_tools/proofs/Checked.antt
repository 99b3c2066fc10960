-- What a check comes to, by what its parts do.
use Rattle.std.proofs.Common.{◌≡◌, ℕ, List, ◌++◌, Option, Result, Ok, Err, IsTrue, MatchResult, refl, sym, ◌∙◌, subst, inl, inr}
use Rattle.geos_model.specs.declared.fault.Fault.{Fault}
use Rattle.geos_model.specs.declared.fault.Fault.TheVariants as faults
use Rattle.vm_store.specs.Facts.{StoreFacts, FailedSince}
use Rattle.document_file.specs.Calls.{IsResourceFault}
use Rattle.geos_shell.specs.Streams.{WriteCalls}
use Rattle.file_report.specs.Checked.{IsReport, counting_between}
use Rattle.file_report.specs.declared.checking.Report.{Report}
use Rattle.file_report.specs.declared.checking.SlotReport.{SlotReport}
use Rattle.document_tools.specs.Checks.{ChecksStore, IsCheckText, SendsReport, PrintsReport}
use Rattle.document_tools.specs.Endings.{EndsUnread, IsRefusedFor}
use Rattle.document_tools.specs.Pages.{ReportsCounting}
use Rattle.document_tools.specs.Reports.{next_lines, report_text}
use Rattle.document_tools.specs.declared.ending.Ending.{Ending}
use Rattle.document_tools.specs.declared.ending.Ending.TheVariants as endings
use Rattle.document_tools.specs.declared.obstacle.Obstacle.TheVariants.{Unread}

-- the lines of a report and those of the pages are its text
pub text_told : (r : Report) (counting : Option SlotReport) (pages told text : List ℕ) → counting ≡ counting_between r.first r.second
    → ReportsCounting r.file_length counting pages → told ≡ pages → text ≡ report_text r ++ told ++ next_lines r → IsCheckText r text
text_told r counting pages told text counts tells same is = record {
  pages = pages;
  counting = subst (λ (o : Option SlotReport). ReportsCounting r.file_length o pages) counts tells;
  is = subst (λ (l : List ℕ). text ≡ report_text r ++ l ++ next_lines r) same is;
}

-- the status of a report that was written is that of its verdict
pub told_by : {W : Type 0} (writes : WriteCalls W) (r : Report) (from to : W) (ending : Ending) (v : Result (Unit {0}) Fault) → r.verdict ≡ v
    → MatchResult v (λ _. ending ≡ endings.Done) (λ _. ending ≡ endings.Unsound) → SendsReport writes r from (Ok tt) to → PrintsReport writes r from to ending
told_by writes r from to ending (Ok u) is ends sends = rw ends (rw is refl, sends)
told_by writes r from to ending (Err fault) is ends sends = rw ends (rw is refl, sends)

pub checked : {W : Type 0} (writes : WriteCalls W) (file : List ℕ) (old new : StoreFacts) (r : Report) (from to : W) (ending : Ending)
    → (IsTrue old.honest → IsReport old.content r) → PrintsReport writes r from to ending → ChecksStore writes file old new from to ending
checked writes file old new r from to endings.Done so told = (r, so, told)
checked writes file old new r from to endings.Unsound so told = (r, so, told)
checked writes file old new r from to (endings.Refused line) so told = absurd told
checked writes file old new r from to endings.Memory so told = told
checked writes file old new r from to endings.ReadFault so told = absurd told
checked writes file old new r from to endings.WriteFault so told = (r, so, told)
checked writes file old new r from to endings.Different so told = absurd told
checked writes file old new r from to (endings.Uncompared trouble) so told = absurd told

refused_unread : {W : Type 0} (writes : WriteCalls W) (file : List ℕ) (old new : StoreFacts) (from to : W) (ending : Ending) → FailedSince old new → to ≡ from
    → IsRefusedFor file Unread ending → ChecksStore writes file old new from to ending
refused_unread writes file old new from to endings.Done failed same is = absurd is
refused_unread writes file old new from to endings.Unsound failed same is = absurd is
refused_unread writes file old new from to (endings.Refused line) failed same is = (is, failed, same)
refused_unread writes file old new from to endings.Memory failed same is = same
refused_unread writes file old new from to endings.ReadFault failed same is = absurd is
refused_unread writes file old new from to endings.WriteFault failed same is = absurd is
refused_unread writes file old new from to endings.Different failed same is = absurd is
refused_unread writes file old new from to (endings.Uncompared trouble) failed same is = absurd is

-- a reading failed for lack of memory, or since the store failed
pub unchecked : {W : Type 0} (writes : WriteCalls W) (file : List ℕ) (old new : StoreFacts) (fault : Fault) (from to : W) (ending : Ending)
    → IsResourceFault fault → (fault ≡ faults.File → FailedSince old new) → to ≡ from → EndsUnread file fault ending
    → ChecksStore writes file old new from to ending
unchecked writes file old new fault from to ending (inl e) failed same ends = rw (ends.memory e) same
unchecked writes file old new fault from to ending (inr e) failed same ends =
    refused_unread writes file old new from to ending (failed e) same
    (ends.others (λ m. let bad : faults.File ≡ faults.Memory = sym e ∙ m in cc))
