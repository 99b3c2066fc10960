-- What lies in the extents of a file, and whose it is.
use Rattle.std.specs.Prelude.{ℕ, ◌-◌, ◌+◌, ◌*◌, ◌==◌, ◌&&◌, Bool, true, false, not, List, [], ◌∷◌, ◌++◌, fold, take, slice_get, Option, None, Some, length, if◌then◌else◌}
use Rattle.file_format.specs.declared.file.Extent.{Extent}
use Rattle.vm_store.specs.Facts.{byte}
use Rattle.file_format.specs.Kinds.{is_heap_kind, body_kind_of}
use Rattle.file_report.specs.declared.finding.Named.{Named}
use Rattle.file_report.specs.declared.finding.Named.TheVariants as names
use Rattle.file_report.specs.declared.pages.Content.{Content}
use Rattle.file_report.specs.declared.pages.Content.TheVariants as contents
use Rattle.file_report.specs.declared.pages.Usage.{Usage}
use Rattle.file_map.specs.declared.part.Kind.{Kind}
use Rattle.file_map.specs.declared.part.Kind.TheVariants as kinds
use Rattle.file_map.specs.declared.part.Part.{Part}
use Rattle.file_map.specs.declared.part.Users.{Users}
use Rattle.file_map.specs.declared.part.Users.TheVariants.{Updated, Saved, Both}

-- What a part of a picture is.

abbrev pub kind_is_slots : Kind → Bool
kind_is_slots kinds.Slots = true
kind_is_slots k = false

abbrev pub kind_is_directory : Kind → Bool
kind_is_directory kinds.Directory = true
kind_is_directory k = false

abbrev pub kind_is_raw : Kind → Bool
kind_is_raw kinds.Raw = true
kind_is_raw k = false

abbrev pub kind_is_heap : Kind → Bool
kind_is_heap kinds.Heap = true
kind_is_heap k = false

abbrev pub users_have_updated : Users → Bool
users_have_updated Saved = false
users_have_updated u = true

abbrev pub users_have_saved : Users → Bool
users_have_saved Updated = false
users_have_saved u = true

abbrev pub same_truth : Bool → Bool → Bool
same_truth a b = if a then b else not b

-- the image in an extent is that of a heap
abbrev pub is_heap_at : List ℕ → Extent → Bool
is_heap_at file e = is_heap_kind (body_kind_of (byte file (512 * e.page)))

abbrev pub kind_at : List ℕ → Extent → Kind
kind_at file e = if is_heap_at file e then kinds.Heap else kinds.Raw

abbrev pub users_of : Named → Users
users_of names.Updated = Updated
users_of names.Saved = Saved

abbrev pub part_in : List ℕ → Extent → Content → Part
part_in file e contents.Slots = record { extent = e; kind = kinds.Slots; users = Both; block = record { 0 = 0 } }
part_in file e (contents.Directory name) =
    record { extent = e; kind = kinds.Directory; users = users_of name; block = record { 0 = 0 } }
part_in file e (contents.Image name h) =
    record { extent = e; kind = kind_at file e; users = users_of name; block = h }

abbrev pub part_of_usage : List ℕ → Usage → Part
part_of_usage file u = part_in file u.extent u.content

-- whose part it is, and of which kind

abbrev pub is_slots : Part → Bool
is_slots p = kind_is_slots p.kind

abbrev pub is_directory_part : Part → Bool
is_directory_part p = kind_is_directory p.kind

abbrev pub is_raw_part : Part → Bool
is_raw_part p = kind_is_raw p.kind

abbrev pub is_heap_part : Part → Bool
is_heap_part p = kind_is_heap p.kind

abbrev pub is_updated : Part → Bool
is_updated p = users_have_updated p.users

abbrev pub is_saved : Part → Bool
is_saved p = users_have_saved p.users

-- What both documents have.

-- they are of one kind, in one place and of one block
abbrev pub is_same : Part → Part → Bool
is_same p q =
    p.extent.page == q.extent.page && p.extent.length == q.extent.length && p.block.0 == q.block.0
    && same_truth (is_slots p) (is_slots q) && same_truth (is_directory_part p) (is_directory_part q)
    && same_truth (is_raw_part p) (is_raw_part q)

-- the updated document has the first and the saved one the other
abbrev pub is_shared : Part → Part → Bool
is_shared p q = not (is_saved p) && not (is_updated q) && is_same p q

abbrev pub joined_behind : Option Part → Part → List Part
joined_behind None p = p ∷ []
joined_behind (Some q) p = if is_shared q p then record q { users = Both } ∷ [] else q ∷ p ∷ []

-- one more part behind the others
abbrev pub drawn_more : List Part → Part → List Part
drawn_more ps p = take (length ps - 1) ps ++ joined_behind (slice_get ps (length ps - 1)) p

-- each part once: what both documents have, one behind the other, is one part
abbrev pub drawn_parts : List Part → List Part
drawn_parts ps = fold drawn_more [] ps

-- by this heaps are drawn one below the other
abbrev pub handle_rank : Part → ℕ
handle_rank p = 2 * p.block.0 + (if is_updated p then 0 else 1)
