-- What is told of the pages of a file.
use Rattle.std.specs.Prelude.{◌≡◌, ℕ, List, [], ◌++◌, codes, All, IsPermutation, Option, Some, None}
use Rattle.std.specs.Fmt.{decimal}
use Rattle.std.specs.List.{flat_map}
use Rattle.std.specs.List.Sorted.{IsNonDecreasingBy}
use Rattle.file_format.specs.File.{pages_of}
use Rattle.file_report.specs.Pages.{AreFreePages, AreReportedIn, DoOverlap, usages_of}
use Rattle.file_report.specs.Texts.{extent_words, handle_text, name_text}
use Rattle.file_report.specs.declared.checking.SlotReport.{SlotReport}
use Rattle.file_report.specs.declared.free.FreePages.{FreePages}
use Rattle.file_report.specs.declared.pages.Content.{Content}
use Rattle.file_report.specs.declared.pages.Content.TheVariants.{Slots, Directory, Image}
use Rattle.file_report.specs.declared.pages.Usage.{Usage}

abbrev pub content_text : Content → List ℕ
content_text Slots = codes "the slots"
content_text (Directory name) = codes "the " ++ name_text name ++ codes " directory"
content_text (Image name block) = codes "the " ++ name_text name ++ codes " block " ++ handle_text block.0

-- what an extent holds, and where it lies
abbrev pub usage_text : Usage → List ℕ
usage_text u = content_text u.content ++ codes " (" ++ extent_words u.extent ++ codes ")"

abbrev pub overlap_line : Usage × Usage → List ℕ
overlap_line p = codes "overlap: " ++ usage_text p.0 ++ codes " and " ++ usage_text p.1 ++ codes "\n"

abbrev pub unused_line : ℕ → ℕ → List ℕ
unused_line free pages = codes "unused pages: " ++ decimal free ++ codes " of " ++ decimal pages ++ codes "\n"

-- Of what a slot leads to in a file of n bytes the text tells the extents that overlap, and how many pages nothing lies
-- on.
pub record ReportsPages (n : ℕ) (s : SlotReport) (text : List ℕ) : Type 0 where
  pub usages : List Usage
  pub all : IsPermutation (usages_of s) usages
  pub sorted : IsNonDecreasingBy (λ u. u.extent.page) usages
  pub pairs : List (Usage × Usage)
  pub overlap : All DoOverlap pairs
  pub told : AreReportedIn usages pairs
  pub free : FreePages
  pub counted : AreFreePages usages (pages_of n) free
  pub is : text ≡ flat_map overlap_line pairs ++ unused_line free.pages (pages_of n)

-- nothing is told where no slot counts
abbrev pub ReportsCounting : ℕ → Option SlotReport → List ℕ → Type 0
ReportsCounting n None text = text ≡ []
ReportsCounting n (Some s) text = ReportsPages n s text
