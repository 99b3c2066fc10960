-- The picture of a file.
use Rattle.std.specs.Prelude.{◌≡◌, ℕ, List, ◌+◌, ◌*◌, ◌++◌, map, length, count_by, codes, Option, Ok, IsOk, IsPermutation}
use Rattle.std.specs.List.Sorted.{IsNonDecreasingBy}
use Rattle.std.specs.Io.KnownBytes.{Appends}
use Rattle.file_format.specs.File.{counting_slot, open_slot, pages_of, stands}
use Rattle.file_format.specs.declared.file.Slot.{Slot}
use Rattle.file_report.specs.Pages.{file_usages}
use Rattle.file_report.specs.declared.pages.Usage.{Usage}
use Rattle.file_map.specs.Bars.{bars_drawn}
use Rattle.file_map.specs.Heaps.{heap_lines}
use Rattle.file_map.specs.Pages.{page_picture}
use Rattle.file_map.specs.Parts.{drawn_parts, handle_rank, is_heap_part, part_of_usage}
use Rattle.file_map.specs.Svg.{gaps, heaps_top, labels, parts_drawn, start_drawn}
use Rattle.file_map.specs.declared.heaps.TheConstants.{HEADING}
use Rattle.file_map.specs.declared.part.Part.{Part}
use Rattle.file_map.specs.declared.reading.FileMap.{FileMap}

-- The file opens, and this is a list of what the slot that counts leads to, by first pages.
pub record IsUsageList (file : List ℕ) (us : List Usage) : Type 0 where
  pub opens : IsOk (stands file)
  pub slot : Slot
  pub counts : counting_slot (open_slot file 0) (open_slot file 1) ≡ Ok slot
  pub lists : IsPermutation (file_usages file slot) us
  pub sorted : IsNonDecreasingBy (λ u. u.extent.page) us

-- as it was read
pub record IsFileMap (file : List ℕ) (m : FileMap) : Type 0 where
  pub usages : List Usage
  pub list : IsUsageList file usages
  pub parts : m.parts.items ≡ map (part_of_usage file) usages
  pub pages : m.pages ≡ pages_of (length file)

-- The same parts by their blocks' handles. Of two of one block that of the saved document alone stands behind the
-- other.
pub record AreByHandle (ps : List Part) (by_handle : List Part) : Type 0 where
  pub same : IsPermutation ps by_handle
  pub sorted : IsNonDecreasingBy handle_rank by_handle

-- The picture as text, of the parts of a file of so many pages, and of what is drawn of them by handle: the pages, and
-- behind a blank line the heaps.
abbrev pub map_text : List ℕ → List Part → List Part → ℕ → List ℕ
map_text file ps by_handle pages = page_picture ps pages ++ HEADING.now ++ heap_lines file by_handle

-- and as SVG: the pages with what lies on them, and below them the heaps
abbrev pub svg_of : List ℕ → List Part → List Part → ℕ → List ℕ
svg_of file ps by_handle pages =
    let once = drawn_parts ps in
    let top = heaps_top pages in
    start_drawn pages (top + 34 * count_by is_heap_part once) ++ labels pages ++ parts_drawn once ++ gaps pages
    ++ bars_drawn file top by_handle ++ codes "</svg>\n"

-- known bytes grow by a picture of such parts
pub record IsDrawnOf (picture : List ℕ → List Part → List Part → ℕ → List ℕ) (file : List ℕ) (ps : List Part) (pages : ℕ)
    (from to : Option (List ℕ)) : Type 0 where
  pub by_handle : List Part
  pub are : AreByHandle (drawn_parts ps) by_handle
  pub appends : Appends from to (picture file ps by_handle pages)

-- known bytes grow by a picture of the file
pub record IsDrawn (picture : List ℕ → List Part → List Part → ℕ → List ℕ) (file : List ℕ) (from to : Option (List ℕ))
    : Type 0 where
  pub usages : List Usage
  pub list : IsUsageList file usages
  pub drawn : IsDrawnOf picture file (map (part_of_usage file) usages) (pages_of (length file)) from to
