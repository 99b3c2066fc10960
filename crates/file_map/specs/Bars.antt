-- Heaps as SVG.
use Rattle.std.specs.Prelude.{ℕ, ◌+◌, Bool, false, not, List, [], ◌∷◌, ◌++◌, codes, if◌then◌else◌}
use Rattle.file_format.specs.File.{bytes_in}
use Rattle.geos_model.specs.Heap.{handle_of}
use Rattle.geos_model.specs.Script.{four_digits}
use Rattle.file_map.specs.Heaps.{header, heap_numbers, is_chunk_size, sizes, chunk_space}
use Rattle.file_map.specs.Lines.{numbered}
use Rattle.file_map.specs.Parts.{is_heap_part}
use Rattle.file_map.specs.Svg.{subject}
use Rattle.file_map.specs.declared.bars.TheConstants.{BAR, FREE}
use Rattle.file_map.specs.declared.part.Part.{Part}

-- A bar is as wide as a heap has bytes, 65,520.

-- Chunks differ in shade from their neighbours.
abbrev pub chunk_start : Bool → List ℕ
chunk_start dark = if dark then codes "<g fill='#16466a'><title>chunk " else codes "<g fill='#2c7fb8'><title>chunk "

abbrev pub flipped : Bool → ℕ → Bool
flipped dark size = if is_chunk_size size then not dark else dark

abbrev pub chunk_title : Bool → ℕ → ℕ → List ℕ
chunk_title dark entry size = chunk_start dark ++ four_digits (handle_of entry) ++ numbered (codes ", bytes ") size

abbrev pub chunk_place : ℕ → ℕ → List ℕ
chunk_place at width =
    numbered (codes "</title><rect height='1' x='") at ++ numbered (codes "' width='") width ++ codes "'/></g>\n"

-- the chunk of a table entry, from a byte of the heap on
abbrev pub chunk_drawn : Bool → ℕ → ℕ → ℕ → List ℕ
chunk_drawn dark at entry size =
    if is_chunk_size size then chunk_title dark entry size ++ chunk_place at (chunk_space size) else []

-- those of a table from an entry on, one behind the other
abbrev pub chunks_drawn : Bool → ℕ → ℕ → List ℕ → List ℕ
chunks_drawn dark at entry [] = []
chunks_drawn dark at entry (size ∷ table) =
    chunk_drawn dark at entry size ++ chunks_drawn (flipped dark size) (at + chunk_space size) (entry + 1) table

-- what a heap is, and its numbers
abbrev pub caption : Part → ℕ → List ℕ → List ℕ
caption p y table =
    numbered (codes "<text x='70' y='") y ++ codes "'>" ++ subject p ++ codes ":" ++ heap_numbers table
    ++ codes "</text>\n"

-- its room, and its header and table in it
abbrev pub room : ℕ → ℕ → List ℕ
room y width =
    BAR.now ++ numbered (codes "' y='") (y + 4) ++ FREE.now ++ numbered (codes "' width='") width ++ codes "'/></g>\n"

abbrev pub bar_drawn : Part → ℕ → List ℕ → List ℕ
bar_drawn p y table =
    caption p y table ++ room y (header table) ++ chunks_drawn false (header table) 0 table ++ codes "</svg>\n"

-- the heap that a part is, if it is one, and where the next one stands
abbrev pub bar_of : List ℕ → ℕ → Part → List ℕ
bar_of file y p = if is_heap_part p then bar_drawn p y (sizes (bytes_in file p.extent)) else []

abbrev pub below : Part → ℕ → ℕ
below p y = if is_heap_part p then y + 34 else y

-- the heaps among these parts, one below the other
abbrev pub bars_drawn : List ℕ → ℕ → List Part → List ℕ
bars_drawn file y [] = []
bars_drawn file y (p ∷ ps) = bar_of file y p ++ bars_drawn file (below p y) ps
