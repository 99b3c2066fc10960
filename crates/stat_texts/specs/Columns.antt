-- What a file has, as text in columns.
use Rattle.std.specs.Prelude.{ℕ, ◌-◌, ◌==◌, List, ◌++◌, length, replicate, codes, if◌then◌else◌, Option, None, Some}
use Rattle.std.specs.Fmt.{decimal}
use Rattle.std.specs.List.{flat_map}
use Rattle.file_report.specs.Texts.{handle_text}
use Rattle.document_stat.specs.Counted.{free_bytes}
use Rattle.document_stat.specs.declared.blocks.BlockStat.{BlockStat}
use Rattle.document_stat.specs.declared.chunks.ArrayStat.{ArrayStat}
use Rattle.document_stat.specs.declared.file_stat.DocumentStat.{DocumentStat}
use Rattle.document_stat.specs.declared.file_stat.FileStat.{FileStat}
use Rattle.document_stat.specs.declared.tally.Item.{Item}
use Rattle.document_stat.specs.declared.tally.Subject.{Subject}
use Rattle.document_stat.specs.declared.tally.Subject.TheVariants.{Block, Chunk}
use Rattle.document_stat.specs.declared.tally.Tally.{Tally}

-- a number in decimal, with blanks before it where it has fewer digits, or behind it
abbrev pub right : ℕ → ℕ → List ℕ
right width n = replicate (width - length (decimal n)) 32 ++ decimal n

abbrev pub left : ℕ → ℕ → List ℕ
left width n = decimal n ++ replicate (width - length (decimal n)) 32

-- the handles of a thing
abbrev pub subject_text : Subject → List ℕ
subject_text (Block block) = handle_text block.0
subject_text (Chunk block chunk) = handle_text block.0 ++ codes " " ++ handle_text chunk.0

-- the largest size, and whose it is
abbrev pub largest_text : Option Item → List ℕ
largest_text None = codes "-"
largest_text (Some item) = decimal item.size ++ codes " in " ++ subject_text item.subject

-- how many things there are, the sum of their sizes, and the largest
abbrev pub tally_columns : Tally → List ℕ
tally_columns t =
    right 10 t.count ++ codes " " ++ right 12 t.sum ++ codes "   " ++ largest_text t.largest ++ codes "\n"

abbrev pub tally_line : List ℕ → Tally → List ℕ
tally_line name t = name ++ tally_columns t

-- of the heaps of a type
abbrev pub type_line : ℕ × Tally → List ℕ
type_line p = codes "    type " ++ left 9 p.0 ++ codes " " ++ tally_columns p.1

-- what the columns below are
abbrev pub heading : List ℕ → List ℕ
heading sizes = codes "                        count " ++ sizes ++ codes "   largest\n"

abbrev pub sized_lines : BlockStat → List ℕ
sized_lines b =
    heading (codes "       bytes") ++ tally_line (codes "  raw blocks       ") b.raw
    ++ tally_line (codes "  chunks           ") b.chunks.all

abbrev pub heap_stat_lines : BlockStat → List ℕ
heap_stat_lines b =
    heading (codes "needed bytes") ++ tally_line (codes "  heaps            ") b.heaps
    ++ flat_map type_line b.types.entries ++ codes "  free in heaps " ++ right 26 (free_bytes b) ++ codes "\n"

abbrev pub array_lines : ArrayStat → List ℕ
array_lines a =
    heading (codes "    elements") ++ tally_line (codes "  chunk arrays     ") a.chunk
    ++ tally_line (codes "  element arrays   ") a.element ++ tally_line (codes "  name arrays      ") a.name

-- the handle of the map block, if there is one
abbrev pub map_block_text : ℕ → List ℕ
map_block_text block = if block == 0 then codes "none" else handle_text block

abbrev pub document_start : List ℕ → DocumentStat → List ℕ
document_start name d =
    codes "\n" ++ name ++ codes " document\n  map block        " ++ map_block_text d.map_block.0 ++ codes "\n"

abbrev pub document_lines : List ℕ → DocumentStat → List ℕ
document_lines name d =
    document_start name d ++ sized_lines d.blocks ++ heap_stat_lines d.blocks ++ array_lines d.blocks.chunks.arrays

abbrev pub saved_lines : Option DocumentStat → List ℕ
saved_lines None = codes "\nthe saved document is the updated one\n"
saved_lines (Some d) = document_lines (codes "saved") d

abbrev pub length_lines : FileStat → List ℕ
length_lines s =
    codes "bytes        " ++ right 10 s.file_length ++ codes "\npages        " ++ right 10 s.pages ++ codes "\n"

abbrev pub free_line : FileStat → List ℕ
free_line s =
    codes "free pages   " ++ right 10 s.free.pages ++ (codes "   runs: " ++ decimal s.free.runs)
    ++ (codes ", longest: " ++ decimal s.free.longest) ++ codes "\n"

-- all that a file has
abbrev pub columns : FileStat → List ℕ
columns s = length_lines s ++ free_line s ++ document_lines (codes "updated") s.updated ++ saved_lines s.saved
