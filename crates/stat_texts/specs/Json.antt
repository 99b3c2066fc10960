-- What a file has, as one JSON object on a line: numbers as they are, and handles as four hexadecimal digits.
use Rattle.std.specs.Prelude.{ℕ, ◌==◌, List, [], ◌∷◌, ◌++◌, codes, if◌then◌else◌, Option, None, Some}
use Rattle.std.specs.Fmt.{decimal}
use Rattle.std.specs.List.{flat_map}
use Rattle.file_report.specs.Texts.{handle_text}
use Rattle.document_stat.specs.Counted.{free_bytes}
use Rattle.document_stat.specs.declared.blocks.BlockStat.{BlockStat}
use Rattle.document_stat.specs.declared.chunks.ArrayStat.{ArrayStat}
use Rattle.document_stat.specs.declared.file_stat.DocumentStat.{DocumentStat}
use Rattle.document_stat.specs.declared.file_stat.FileStat.{FileStat}
use Rattle.document_stat.specs.declared.tally.Item.{Item}
use Rattle.document_stat.specs.declared.tally.Subject.{Subject}
use Rattle.document_stat.specs.declared.tally.Subject.TheVariants.{Block, Chunk}
use Rattle.document_stat.specs.declared.tally.Tally.{Tally}

-- members of an object

abbrev pub number_member : List ℕ → ℕ → List ℕ
number_member name n = codes "\"" ++ name ++ codes "\":" ++ decimal n

abbrev pub handle_member : List ℕ → ℕ → List ℕ
handle_member name h = codes "\"" ++ name ++ codes "\":\"" ++ handle_text h ++ codes "\""

-- the handles of a thing
abbrev pub subject_members : Subject → List ℕ
subject_members (Block block) = handle_member (codes "block") block.0
subject_members (Chunk block chunk) =
    handle_member (codes "block") block.0 ++ codes "," ++ handle_member (codes "chunk") chunk.0

-- the largest size in a unit, and whose it is
abbrev pub largest : List ℕ → Option Item → List ℕ
largest unit None = codes "null"
largest unit (Some item) =
    codes "{" ++ subject_members item.subject ++ codes "," ++ number_member unit item.size ++ codes "}"

-- how many things there are, the sum of their sizes, and the largest
abbrev pub members : List ℕ → Tally → List ℕ
members unit t =
    number_member (codes "count") t.count ++ codes "," ++ number_member unit t.sum ++ codes ",\"largest\":"
    ++ largest unit t.largest

abbrev pub tally_member : List ℕ → List ℕ → Tally → List ℕ
tally_member name unit t = codes "\"" ++ name ++ codes "\":{" ++ members unit t ++ codes "}"

-- of the heaps of a type
abbrev pub heap_type_object : ℕ × Tally → List ℕ
heap_type_object p =
    codes "{" ++ number_member (codes "type") p.0 ++ codes "," ++ members (codes "needed_bytes") p.1 ++ codes "}"

-- with a comma before each but the first
abbrev pub further_types : List (ℕ × Tally) → List ℕ
further_types ps = flat_map (λ p. codes "," ++ heap_type_object p) ps

abbrev pub types : List (ℕ × Tally) → List ℕ
types [] = []
types (p ∷ ps) = heap_type_object p ++ further_types ps

abbrev pub heaps : BlockStat → List ℕ
heaps b =
    codes "\"heaps\":{" ++ members (codes "needed_bytes") b.heaps ++ codes "," ++ number_member (codes "free_bytes") (free_bytes b)
    ++ (codes ",\"types\":[" ++ types b.types.entries ++ codes "]}")

abbrev pub arrays : ArrayStat → List ℕ
arrays a =
    tally_member (codes "chunk_arrays") (codes "elements") a.chunk
    ++ codes "," ++ tally_member (codes "element_arrays") (codes "elements") a.element
    ++ codes "," ++ tally_member (codes "name_arrays") (codes "elements") a.name

-- the handle of the map block, if there is one
abbrev pub map_block : ℕ → List ℕ
map_block block = if block == 0 then codes "\"map_block\":null" else handle_member (codes "map_block") block

abbrev pub blocks : BlockStat → List ℕ
blocks b =
    tally_member (codes "raw_blocks") (codes "bytes") b.raw ++ codes "," ++ heaps b
    ++ codes "," ++ tally_member (codes "chunks") (codes "bytes") b.chunks.all

abbrev pub document : DocumentStat → List ℕ
document d =
    codes "{" ++ map_block d.map_block.0 ++ codes "," ++ blocks d.blocks ++ codes "," ++ arrays d.blocks.chunks.arrays
    ++ codes "}"

abbrev pub saved : Option DocumentStat → List ℕ
saved None = codes "null"
saved (Some d) = document d

abbrev pub free_pages : FileStat → List ℕ
free_pages s =
    codes "\"free_pages\":{" ++ number_member (codes "count") s.free.pages ++ codes ","
    ++ number_member (codes "runs") s.free.runs
    ++ codes "," ++ number_member (codes "longest") s.free.longest ++ codes "}"

abbrev pub pages : FileStat → List ℕ
pages s =
    number_member (codes "bytes") s.file_length ++ codes "," ++ number_member (codes "pages") s.pages ++ codes ","
    ++ free_pages s

-- all that a file has
abbrev pub json : FileStat → List ℕ
json s =
    codes "{" ++ pages s ++ codes ",\"updated\":" ++ document s.updated ++ codes ",\"saved\":" ++ saved s.saved
    ++ codes "}\n"
