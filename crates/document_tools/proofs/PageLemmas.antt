-- What is told of pages, by what was found.
use Rattle.std.proofs.Common.{◌≡◌, ℕ, List, ◌++◌, All, IsPermutation, flat_map, subst, sym}
use Rattle.std.specs.List.Sorted.{IsNonDecreasingBy}
use Rattle.file_format.specs.File.{pages_of}
use Rattle.file_report.specs.Pages.{AreFreePages, AreReportedIn, DoOverlap, usages_of}
use Rattle.file_report.specs.declared.checking.SlotReport.{SlotReport}
use Rattle.file_report.specs.declared.free.FreePages.{FreePages}
use Rattle.file_report.specs.declared.pages.Usage.{Usage}
use Rattle.document_tools.specs.Pages.{ReportsPages, overlap_line, unused_line}

-- the slices are those of the lists that were found
pub pages_told : (n : ℕ) (s : SlotReport) (us extents : List Usage) (pairs told : List (Usage × Usage)) (free : FreePages) (pages : ℕ) (text : List ℕ)
    → IsPermutation (usages_of s) us → IsNonDecreasingBy (λ u. u.extent.page) us → extents ≡ us
    → All DoOverlap pairs → (IsNonDecreasingBy (λ u. u.extent.page) extents → AreReportedIn extents pairs) → told ≡ pairs → pages ≡ pages_of n
    → AreFreePages extents pages free → text ≡ flat_map overlap_line told ++ unused_line free.pages pages → ReportsPages n s text
pages_told n s us extents pairs told free pages text all sorted same overlap tells same_pairs count counted is = record {
  usages = us;
  all = all;
  sorted = sorted;
  pairs = pairs;
  overlap = overlap;
  told = subst (λ (l : List Usage). AreReportedIn l pairs) same (tells (subst (λ (l : List Usage). IsNonDecreasingBy (λ u. u.extent.page) l) (sym same) sorted));
  free = free;
  counted = subst (λ (p : ℕ). AreFreePages us p free) count (subst (λ (l : List Usage). AreFreePages l pages free) same counted);
  is = subst (λ (p : ℕ). text ≡ flat_map overlap_line pairs ++ unused_line free.pages p) count
      (subst (λ (l : List (Usage × Usage)). text ≡ flat_map overlap_line l ++ unused_line free.pages pages) same_pairs is);
}
