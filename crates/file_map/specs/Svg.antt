-- The pages of a file as SVG.
use Rattle.std.specs.Prelude.{ℕ, ◌+◌, ◌-◌, ◌*◌, ◌/◌, ◌%◌, ◌==◌, ◌||◌, max, min, List, [], ◌++◌, codes, if◌then◌else◌}
use Rattle.std.specs.List.{range_with_len, flat_map}
use Rattle.file_format.specs.File.{end_page}
use Rattle.geos_model.specs.Script.{four_digits}
use Rattle.file_map.specs.Lines.{numbered}
use Rattle.file_map.specs.Pages.{name, content_number}
use Rattle.file_map.specs.Parts.{is_heap_part, is_raw_part}
use Rattle.file_map.specs.declared.colours.TheConstants.{PATTERNS}
use Rattle.file_map.specs.declared.pages.TheConstants.{LEGEND}
use Rattle.file_map.specs.declared.pages.Content.{Content}
use Rattle.file_map.specs.declared.pages.Content.TheVariants as contents
use Rattle.file_map.specs.declared.part.Kind.{Kind}
use Rattle.file_map.specs.declared.part.Kind.TheVariants.{Slots, Directory, Raw, Heap}
use Rattle.file_map.specs.declared.part.Part.{Part}
use Rattle.file_map.specs.declared.part.Users.{Users}
use Rattle.file_map.specs.declared.part.Users.TheVariants.{Updated, Saved, Both}

-- Colours and patterns.

abbrev pub fill : Kind → Users → List ℕ
fill Slots u = codes "#000"
fill Directory Both = codes "#4a1486"
fill Directory Updated = codes "url(#du)"
fill Directory Saved = codes "url(#ds)"
fill Raw Both = codes "#f0a848"
fill Raw Updated = codes "url(#ru)"
fill Raw Saved = codes "url(#rs)"
fill Heap Both = codes "#2c7fb8"
fill Heap Updated = codes "url(#hu)"
fill Heap Saved = codes "url(#hs)"

abbrev pub content_fill : Content → List ℕ
content_fill contents.Nothing = codes "#eee"
content_fill contents.Slots = fill Slots Both
content_fill (contents.Directory u) = fill Directory u
content_fill (contents.Raw u) = fill Raw u
content_fill (contents.Heap u) = fill Heap u
content_fill contents.Several = codes "none"

-- Pages: a cell is 14 wide and high, with a gap of 2; the first one stands 70 from the left and 98 from the top.

abbrev pub rect : ℕ → ℕ → ℕ → List ℕ
rect x y width =
    numbered (codes "<rect x='") x ++ numbered (codes "' y='") y ++ numbered (codes "' width='") width
    ++ codes "' height='12'/>"

-- those pages of a row that lie from one on and before another
abbrev pub row_rect : ℕ → ℕ → ℕ → List ℕ
row_rect start end row =
    let first = max start (64 * row) in
    rect (70 + 14 * (first - 64 * row)) (98 + 14 * row) (14 * (min end (64 * row + 64) - first) - 2)

-- a rectangle for each row on which a part lies
abbrev pub rects : Part → List ℕ
rects p =
    let start = p.extent.page in
    let end = end_page p.extent in
    flat_map (row_rect start end) (range_with_len (start / 64) ((end + 63) / 64 - start / 64))

abbrev pub kind_words : Kind → List ℕ
kind_words Slots = codes "slots"
kind_words Directory = codes "directory"
kind_words Raw = codes "raw block "
kind_words Heap = codes "heap "

abbrev pub users_words : Users → List ℕ
users_words Updated = codes " of the updated document"
users_words Saved = codes " of the saved document"
users_words Both = codes " of both documents"

-- what a part is, and whose
abbrev pub subject : Part → List ℕ
subject p =
    kind_words p.kind ++ (if is_raw_part p || is_heap_part p then four_digits p.block.0 else []) ++ users_words p.users

-- where it lies
abbrev pub place : Part → List ℕ
place p = numbered (codes ": page ") p.extent.page ++ numbered (codes ", bytes ") p.extent.length

abbrev pub title : Part → List ℕ
title p = codes "<title>" ++ subject p ++ place p ++ codes "</title>"

-- what follows has this fill
abbrev pub filled_group : List ℕ → List ℕ
filled_group colour = codes "<g fill='" ++ colour ++ codes "'>"

abbrev pub part_drawn : Part → List ℕ
part_drawn p = filled_group (fill p.kind p.users) ++ title p ++ rects p ++ codes "</g>\n"

abbrev pub parts_drawn : List Part → List ℕ
parts_drawn ps = flat_map part_drawn ps

-- What stands around the parts.

-- the cells of all pages, as if nothing lay on them: those of whole rows, and those of the last one
abbrev pub whole_rows : ℕ → List ℕ
whole_rows pages =
    codes "<g fill='url(#n)'><title>nothing</title><rect x='70' y='98' width='896'"
    ++ numbered (codes " height='") (14 * (pages / 64))

abbrev pub last_row : ℕ → List ℕ
last_row pages =
    numbered (codes "'/><rect x='70' height='14' y='") (98 + 14 * (pages / 64))
    ++ numbered (codes "' width='") (14 * (pages % 64)) ++ codes "'/></g>\n"

abbrev pub unused_drawn : ℕ → List ℕ
unused_drawn pages = whole_rows pages ++ last_row pages

-- the number of the first page of each fourth row
abbrev pub label : ℕ → List ℕ
label k =
    numbered (codes "<text x='62' text-anchor='end' y='") (108 + 56 * k) ++ numbered (codes "'>") (256 * k)
    ++ codes "</text>\n"

abbrev pub labels : ℕ → List ℕ
labels pages = flat_map label (range_with_len 0 ((pages + 255) / 256))

-- what a fill means, in three columns; no part is several
abbrev pub swatch_text : ℕ → ℕ → List ℕ → List ℕ
swatch_text x y word =
    numbered (codes "</g><text x='") (x + 20) ++ numbered (codes "' y='") (y + 10) ++ codes "'>" ++ word
    ++ codes "</text>\n"

abbrev pub swatch_at : ℕ → ℕ → Content → List ℕ
swatch_at x y c = filled_group (content_fill c) ++ rect x y 12 ++ swatch_text x y (name c)

abbrev pub swatch : Content → List ℕ
swatch c = if content_number c == 10 then [] else swatch_at (70 + 300 * (content_number c / 4))
    (10 + 20 * (content_number c % 4)) c

abbrev pub legend_drawn : List ℕ
legend_drawn = flat_map swatch LEGEND

abbrev pub opening : ℕ → List ℕ
opening height =
    codes "<svg xmlns='http://www.w3.org/2000/svg' width='980' font-family='monospace' font-size='12'"
    ++ numbered (codes " height='") height
    ++ codes "'>\n<rect width='980' height='100%' fill='#fff'/>\n"

abbrev pub start_drawn : ℕ → ℕ → List ℕ
start_drawn pages height = opening height ++ PATTERNS.now ++ legend_drawn ++ unused_drawn pages

-- how high the rows of pages are
abbrev pub rows_height : ℕ → ℕ
rows_height pages = 14 * ((pages + 63) / 64)

-- gaps between pages, over the parts
abbrev pub gaps : ℕ → List ℕ
gaps pages =
    codes "<rect x='70' y='98' width='896' fill='url(#g)' pointer-events='none'"
    ++ numbered (codes " height='") (rows_height pages) ++ codes "'/>\n"

-- where the heaps begin
abbrev pub heaps_top : ℕ → ℕ
heaps_top pages = 128 + rows_height pages
