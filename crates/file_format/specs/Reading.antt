-- What is read of a store, and why nothing is.
use Rattle.std.specs.Prelude.{◌≡◌, ◌⊎◌, ℕ, ◌≤◌, true, IsTrue, List, Option, None, Some}
use Rattle.vm_store.specs.Facts.{StoreFacts, IsUnchanged}
use Rattle.file_format.specs.File.{bytes_in, summed_directory, is_directory, is_in_file, longest_directory}
use Rattle.geos_model.specs.declared.fault.Fault.{Fault}
use Rattle.geos_model.specs.declared.fault.Fault.TheVariants.{Memory, File, Damaged, NotDocument}
use Rattle.file_format.specs.declared.file.Extent.{Extent}
use Rattle.file_format.specs.Listed.{as_directory}
use Rattle.file_format.specs.declared.stored_directory.ReadDirectory.{ReadDirectory}
use Rattle.file_format.specs.declared.stored_directory.ReadDirectory.TheVariants.{Misplaced, Wrong, Right}

-- calls that only read
pub record OnlyReadsStore (old new : StoreFacts) : Type 0 where
  pub honest : new.honest ≡ old.honest
  pub failures : old.failures ≤ new.failures
  pub unchanged : IsTrue old.honest → IsUnchanged old new

-- Refusals that no rule of the document decides.

-- lack of memory, or a store that failed
abbrev pub IsResourceFault : Fault → Type 0
IsResourceFault fault = (fault ≡ Memory) ⊎ (fault ≡ File)

-- or what is read is wrong
abbrev pub IsReadRefusal : Fault → Type 0
IsReadRefusal fault = IsResourceFault fault ⊎ (fault ≡ Damaged)

-- or the file is no document
abbrev pub IsOpenRefusal : Fault → Type 0
IsOpenRefusal fault = IsResourceFault fault ⊎ ((fault ≡ Damaged) ⊎ (fault ≡ NotDocument))

-- Directories.

-- a directory can lie there, in a file of a version and of n bytes
pub record IsDirectoryPlace (version n : ℕ) (e : Extent) : Type 0 where
  pub in_file : is_in_file version n e ≡ true
  pub some : 16 ≤ e.length
  pub short : e.length ≤ longest_directory

-- a directory of a file of a version, with a sum if one is given, was read from an extent
abbrev pub IsDirectoryRead : ℕ → Option ℕ → Extent → ReadDirectory → List ℕ → Type 0
IsDirectoryRead version sum e Misplaced file = summed_directory version file sum e ≡ None
IsDirectoryRead version sum e (Wrong bytes) file =
    (bytes.items ≡ bytes_in file e) × (summed_directory version file sum e ≡ None)
IsDirectoryRead version sum e (Right directory) file =
    summed_directory version file sum e ≡ Some (as_directory directory)

-- what was read from any store is a directory that can be in a file of a version and of n bytes, where one can lie
abbrev pub IsFormedRead : ℕ → ℕ → Extent → ReadDirectory → Type 0
IsFormedRead version n e Misplaced = Unit {0}
IsFormedRead version n e (Wrong bytes) = Unit {0}
IsFormedRead version n e (Right directory) =
    (is_directory version n (as_directory directory) ≡ true) × IsDirectoryPlace version n e
