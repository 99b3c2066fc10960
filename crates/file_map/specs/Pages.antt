-- What lies on a page of a file, and the rows of pages.
use Rattle.std.specs.Prelude.{ℕ, ◌+◌, ◌-◌, ◌*◌, ◌/◌, ◌==◌, ◌&&◌, Bool, true, false, min, List, [], ◌∷◌, ◌++◌, map, count_by, codes, if◌then◌else◌}
use Rattle.std.specs.List.{range_with_len, flat_map, list_any}
use Rattle.geos_model.specs.Script.{line_feed}
use Rattle.file_space.specs.Space.{is_on}
use Rattle.file_map.specs.Lines.{padded}
use Rattle.file_map.specs.Parts.{is_slots, is_directory_part, is_raw_part, is_heap_part, is_updated, is_saved}
use Rattle.file_map.specs.declared.part.Part.{Part}
use Rattle.file_map.specs.declared.part.Users.{Users}
use Rattle.file_map.specs.declared.part.Users.TheVariants.{Updated, Saved, Both}
use Rattle.file_map.specs.declared.pages.Content.{Content}
use Rattle.file_map.specs.declared.pages.TheConstants.{LEGEND}
use Rattle.file_map.specs.declared.pages.Content.TheVariants.{Nothing, Slots, Directory, Raw, Heap, Several}

-- one of the parts that pass a test lies on the page
abbrev pub lies : (Part → Bool) → List Part → ℕ → Bool
lies test ps page = list_any (λ p. test p && is_on page p.extent) ps

abbrev pub users : Bool → Bool → Users
users true true = Both
users true false = Updated
users false saved = Saved

-- what a page has, by which kinds of parts lie on it, and whose they are
abbrev pub page_content : Bool → Bool → Bool → Bool → Users → Content
page_content false false false false u = Nothing
page_content true false false false u = Slots
page_content false true false false u = Directory u
page_content false false true false u = Raw u
page_content false false false true u = Heap u
page_content slots directory raw heap u = Several

abbrev pub content_at : List Part → ℕ → Content
content_at ps page =
    page_content (lies is_slots ps page) (lies is_directory_part ps page) (lies is_raw_part ps page)
    (lies is_heap_part ps page)
    (users (lies is_updated ps page) (lies is_saved ps page))

-- how it is drawn: directories as `D`, `d` and `~`, raw blocks as `R`, `r` and `-`, heaps as `H`, `h` and `=`, in both
-- documents, the updated and the saved one
abbrev pub glyph : Content → ℕ
glyph Nothing = 46
glyph Slots = 83
glyph (Directory Both) = 68
glyph (Directory Updated) = 100
glyph (Directory Saved) = 126
glyph (Raw Both) = 82
glyph (Raw Updated) = 114
glyph (Raw Saved) = 45
glyph (Heap Both) = 72
glyph (Heap Updated) = 104
glyph (Heap Saved) = 61
glyph Several = 33

-- the contents, numbered in the order of the legend
abbrev pub content_number : Content → ℕ
content_number Slots = 0
content_number (Directory Both) = 1
content_number (Directory Updated) = 2
content_number (Directory Saved) = 3
content_number (Raw Both) = 4
content_number (Raw Updated) = 5
content_number (Raw Saved) = 6
content_number (Heap Both) = 7
content_number (Heap Updated) = 8
content_number (Heap Saved) = 9
content_number Several = 10
content_number Nothing = 11

-- so many pages from one on
abbrev pub glyphs : List Part → ℕ → ℕ → List ℕ
glyphs ps first n = map (λ page. glyph (content_at ps page)) (range_with_len first n)

-- a row has 64 pages, but for the last one
abbrev pub row_length : ℕ → ℕ → ℕ
row_length pages row = min 64 (pages - 64 * row)

-- a row begins with the number of its first page
abbrev pub row_text : List Part → ℕ → ℕ → List ℕ
row_text ps pages row = padded 8 (64 * row) ++ 32 ∷ 32 ∷ glyphs ps (64 * row) (row_length pages row) ++ line_feed ∷ []

abbrev pub rows : List Part → ℕ → List ℕ
rows ps pages = flat_map (row_text ps pages) (range_with_len 0 ((pages + 63) / 64))

-- how many of the first pages have a content of this number
abbrev pub count : List Part → ℕ → ℕ → ℕ
count ps pages n = count_by (λ page. content_number (content_at ps page) == n) (range_with_len 0 pages)

-- the page behind a row
abbrev pub row_end : ℕ → ℕ → ℕ
row_end pages row = min pages (64 * row + 64)

-- The legend.

abbrev pub name : Content → List ℕ
name Nothing = codes "nothing"
name Slots = codes "the slots"
name (Directory Both) = codes "directory of both documents"
name (Directory Updated) = codes "directory of the updated document"
name (Directory Saved) = codes "directory of the saved document"
name (Raw Both) = codes "raw blocks of both documents"
name (Raw Updated) = codes "raw blocks of the updated document"
name (Raw Saved) = codes "raw blocks of the saved document"
name (Heap Both) = codes "heaps of both documents"
name (Heap Updated) = codes "heaps of the updated document"
name (Heap Saved) = codes "heaps of the saved document"
name Several = codes "several of these"

-- a content with the count of its pages, where there are any
abbrev pub legend_line : Content → ℕ → List ℕ
legend_line c n = if n == 0 then [] else glyph c ∷ padded 9 n ++ codes "  " ++ name c ++ line_feed ∷ []

abbrev pub legend : List Part → ℕ → List ℕ
legend ps pages = flat_map (λ c. legend_line c (count ps pages (content_number c))) LEGEND

-- the rows of pages, and the legend behind a blank line
unfoldable pub page_picture : List Part → ℕ → List ℕ
page_picture ps pages = rows ps pages ++ line_feed ∷ legend ps pages
