-- How far a walk over parts by their first pages has come.
use Rattle.std.specs.Prelude.{◌≡◌, ℕ, ◌≤◌, ◌||◌, Bool, false, max, nat_le, nat_lt, List, length, drop, slice_get, Option, None, Some, if◌then◌else◌}
use Rattle.file_format.specs.File.{end_page}
use Rattle.file_map.specs.Pages.{lies}
use Rattle.file_map.specs.Parts.{is_slots, is_directory_part, is_raw_part, is_heap_part, is_updated, is_saved}
use Rattle.file_map.specs.declared.part.Part.{Part}
use Rattle.file_map.specs.declared.walk.Ends.{Ends}
use Rattle.file_map.specs.declared.walk.Walk.{Walk}

abbrev pub further : Bool → ℕ → ℕ → ℕ
further counts part_end end = if counts then max end part_end else end

abbrev pub ends_behind : Part → Ends → Ends
ends_behind p ends =
    let end = end_page p.extent in
    record {
      slots = further (is_slots p) end ends.slots;
      directory = further (is_directory_part p) end ends.directory;
      raw = further (is_raw_part p) end ends.raw;
      heap = further (is_heap_part p) end ends.heap;
      updated = further (is_updated p) end ends.updated;
      saved = further (is_saved p) end ends.saved;
    }

abbrev pub begins_by_of : Option Part → ℕ → Bool
begins_by_of None page = false
begins_by_of (Some p) page = nat_le p.extent.page page

abbrev pub begins_by : List Part → ℕ → ℕ → Bool
begins_by ps next page = begins_by_of (slice_get ps next) page

-- from a page on, those parts that pass a test and have begun lie before this end, and the rest lies where it lies
abbrev pub Covers : (Part → Bool) → List Part → List Part → ℕ → ℕ → Type 0
Covers test ps rest page end = (q : ℕ) → page ≤ q → lies test ps q ≡ (nat_lt q end || lies test rest q)

pub record AreEnds (ps rest : List Part) (page : ℕ) (ends : Ends) : Type 0 where
  pub slots : Covers is_slots ps rest page ends.slots
  pub directory : Covers is_directory_part ps rest page ends.directory
  pub raw : Covers is_raw_part ps rest page ends.raw
  pub heap : Covers is_heap_part ps rest page ends.heap
  pub updated : Covers is_updated ps rest page ends.updated
  pub saved : Covers is_saved ps rest page ends.saved

pub record IsPartWalk (ps : List Part) (page : ℕ) (w : Walk) : Type 0 where
  pub within : w.next ≤ length ps
  pub ends : AreEnds ps (drop w.next ps) page w.ends

-- no part is left that begins on the page or before it
abbrev pub IsPast : List Part → ℕ → Walk → Type 0
IsPast ps page w = begins_by ps w.next page ≡ false
