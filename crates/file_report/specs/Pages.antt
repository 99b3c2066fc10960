-- What lies on the pages of a file.
use Rattle.std.specs.Prelude.{◌≡◌, ◌⊎◌, ◌<◌, ◌≤◌, true, false, ℕ, zero, suc, ◌+◌, ◌-◌, min, max, Bool, not, ◌&&◌, cond, List, [], ◌∷◌, ◌++◌, map, Option, None, Some}
use Rattle.std.specs.List.{Contains, list_any}
use Rattle.std.specs.Option.{option_map}
use Rattle.file_format.specs.File.{Directory}
use Rattle.file_format.specs.declared.file.Extent.{Extent}
use Rattle.file_format.specs.declared.file.Entry.{Entry}
use Rattle.file_format.specs.declared.file.Slot.{Slot}
use Rattle.file_space.specs.Space.{is_on}
use Rattle.file_format.specs.Listed.{as_directory}
use Rattle.file_report.specs.Findings.{named_directory}
use Rattle.file_report.specs.declared.finding.Named.{Named}
use Rattle.file_report.specs.declared.finding.Named.TheVariants.{Updated, Saved}
use Rattle.file_report.specs.declared.checking.SlotReport.{SlotReport}
use Rattle.file_report.specs.declared.free.FreePages.{FreePages}
use Rattle.file_report.specs.declared.free.Walk.{Walk}
use Rattle.file_report.specs.declared.pages.Usage.{Usage}
use Rattle.file_report.specs.declared.pages.Content.{Content}
use Rattle.file_report.specs.declared.pages.Content.TheVariants as content
use Rattle.file_report.specs.declared.pages.Part.{Part}
use Rattle.file_report.specs.declared.pages.Part.TheVariants as part

-- the slots lie on the first two pages
abbrev pub slots_usage : Usage
slots_usage = record { extent = record { page = 0; length = 1024 }; content = content.Slots }

abbrev pub image_usage : Named → Entry → Usage
image_usage name e = record { extent = e.extent; content = content.Image name e.handle }

-- what one of a slot's documents has in a file: the directory in an extent, and an image for each entry of it
abbrev pub usages_in : Named → Extent → Option Directory → List Usage
usages_in name e None = []
usages_in name e (Some d) = record { extent = e; content = content.Directory name } ∷ map (image_usage name) d.entries

-- what a slot leads to, with these directories of its documents
abbrev pub slot_usages : Slot → Option Directory → Option Directory → List Usage
slot_usages s updated saved = slots_usage ∷ usages_in Updated s.working updated ++ usages_in Saved s.saved saved

-- with those that were found
abbrev pub usages_of : SlotReport → List Usage
usages_of r = slot_usages r.slot (option_map as_directory r.updated) (option_map as_directory r.saved)

-- with those that are in a file
abbrev pub file_usages : List ℕ → Slot → List Usage
file_usages file s = slot_usages s (named_directory file s Updated) (named_directory file s Saved)

-- something lies on a page
abbrev pub is_used : List Usage → ℕ → Bool
is_used us page = list_any (λ u. is_on page u.extent) us

-- how many of the first n pages pass a test
abbrev pub pages_with : (ℕ → Bool) → ℕ → ℕ
pages_with is zero = 0
pages_with is (suc n) = cond (is n) 1 0 + pages_with is n

-- nothing lies on a page
abbrev pub is_free_page : List Usage → ℕ → Bool
is_free_page us page = not (is_used us page)

-- a free page behind one that isn't, or the first page
abbrev pub begins_run : (ℕ → Bool) → ℕ → Bool
begins_run free zero = free zero
begins_run free (suc page) = free (suc page) && not (free page)

-- so many pages from one on are free
abbrev pub IsFreePageRun : (ℕ → Bool) → ℕ → ℕ → Type 0
IsFreePageRun free start count = (page : ℕ) → start ≤ page → page < start + count → free page ≡ true

-- among the first n pages is a run of so many, and none of more
pub record IsLongest (free : ℕ → Bool) (n count : ℕ) : Type 0 where
  pub start : ℕ
  pub within : start + count ≤ n
  pub run : IsFreePageRun free start count
  pub most : (start count' : ℕ) → start + count' ≤ n → IsFreePageRun free start count' → count' ≤ count

-- the first n pages, by a test which are free
pub record AreFreeRuns (free : ℕ → Bool) (n : ℕ) (f : FreePages) : Type 0 where
  pub pages : f.pages ≡ pages_with free n
  pub runs : f.runs ≡ pages_with (begins_run free) n
  pub longest : IsLongest free n f.longest

-- those of the first n pages on which nothing lies
abbrev pub AreFreePages : List Usage → ℕ → FreePages → Type 0
AreFreePages us n f = AreFreeRuns (is_free_page us) n f

-- what an extent holds, whichever of the two documents has it
abbrev pub part_of_content : Content → Part
part_of_content content.Slots = part.Slots
part_of_content (content.Directory name) = part.Directory
part_of_content (content.Image name block) = part.Image block

-- the same thing in the same place, as what both documents have
pub record IsShared (u v : Usage) : Type 0 where
  pub part : part_of_content u.content ≡ part_of_content v.content
  pub extent : u.extent ≡ v.extent

-- two different things, and a page on which both lie
pub record DoOverlap (p : Usage × Usage) : Type 0 where
  pub page : ℕ
  pub first : is_on page p.0.extent ≡ true
  pub second : is_on page p.1.extent ≡ true
  pub differ : IsShared p.0 p.1 → ⊥

-- one of the pairs has this, or the same in the same place
pub record IsReportedIn (pairs : List (Usage × Usage)) (u : Usage) : Type 0 where
  pub pair : Usage × Usage
  pub listed : Contains pairs pair
  pub has : IsShared pair.0 u ⊎ IsShared pair.1 u

-- each of them that overlaps another one is told
abbrev pub AreReportedIn : List Usage → List (Usage × Usage) → Type 0
AreReportedIn us pairs = (u v : Usage) → Contains us u → Contains us v → DoOverlap (u, v) → IsReportedIn pairs u

-- The walk over the pages.

-- Of n pages those before the walk's end are counted, and those from `start` on to it are taken. Where the end is none
-- of the file's, the page before it is taken.
pub record IsPageWalk (taken : ℕ → Bool) (n start : ℕ) (w : Walk) : Type 0 where
  pub counted : AreFreeRuns (λ page. not (taken page)) w.end w.free
  pub inside : w.end ≤ n
  pub edge : w.end < n → (page : ℕ) → page + 1 ≡ w.end → taken page ≡ true
  pub used : (page : ℕ) → start ≤ page → page < w.end → taken page ≡ true
  pub behind : (page : ℕ) → w.end ≤ page → page < n → taken page ≡ false

-- free pages are counted up to one, where that isn't before the end
pub record PassesFree (old : Walk) (start : ℕ) (new : Walk) : Type 0 where
  pub none : start ≤ old.end → new ≡ old
  pub end : old.end < start → new.end ≡ start
  pub pages : old.end < start → new.free.pages ≡ min (old.free.pages + (start - old.end)) 18446744073709551615
  pub runs : old.end < start → new.free.runs ≡ min (old.free.runs + 1) 18446744073709551615
  pub longest : old.end < start → new.free.longest ≡ max old.free.longest (start - old.end)
