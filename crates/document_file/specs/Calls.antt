-- What the calls of a document file are given, and what they answer.
use Rattle.std.specs.Prelude.{◌≡◌, ◌⊎◌, ◌≤◌, ℕ, true, List, [], ◌∷◌}
use Rattle.geos_model.specs.Document.{Document, is_vm_handle, with_blocks, without_block}
pub use Rattle.geos_model.specs.Machine.{last_sequence}
pub use Rattle.file_format.specs.Reading.{IsOpenRefusal, IsResourceFault}
use Rattle.geos_model.specs.declared.fault.Fault.{Fault}
use Rattle.geos_model.specs.declared.fault.Fault.TheVariants.{Worn}
use Rattle.geos_model.specs.declared.handle.VmHandle.{VmHandle}
use Rattle.file_format.specs.File.{longest_image}
use Rattle.document_file.specs.Members.{imaged_blocks}
use Rattle.document_file.specs.declared.member.Member.{Member}

-- a block that can be put: its handle can be
abbrev pub IsPut : Member → Type 0
IsPut m = is_vm_handle m.handle.0 ≡ true

-- the document with these blocks, and without those
abbrev pub put_all : List Member → Document → Document
put_all ms d = with_blocks d (imaged_blocks ms)

abbrev pub remove_all : List VmHandle → Document → Document
remove_all [] d = d
remove_all (h ∷ handles) d = remove_all handles (without_block d h.0)

-- so many bytes can be an image: one for its kind, and at most 65,520 behind it
abbrev pub IsImageLength : ℕ → Type 0
IsImageLength n = (1 ≤ n) × (n ≤ longest_image)

-- Refusals that no rule of the document decides.

abbrev pub IsCommitRefusal : Fault → Type 0
IsCommitRefusal fault = IsResourceFault fault ⊎ (fault ≡ Worn)
