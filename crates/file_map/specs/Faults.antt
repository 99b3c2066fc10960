-- How a fault of a store's reading is told, and when each comes.
use Rattle.std.specs.Prelude.{◌≡◌, ◌⊎◌, IsTrue, IsOk, None, Err}
use Rattle.file_format.specs.File.{stands}
use Rattle.geos_model.specs.declared.fault.Fault.{Fault}
use Rattle.geos_model.specs.declared.fault.Fault.TheVariants as faults
use Rattle.vm_store.specs.Facts.{StoreFacts}
use Rattle.file_report.specs.Checked.{counting_between}
use Rattle.file_report.specs.declared.checking.Report.{Report}
use Rattle.file_map.specs.declared.fault.MapFault.{MapFault}
use Rattle.file_map.specs.declared.fault.MapFault.TheVariants.{Memory, File, Unopened, Write}

abbrev pub read_fault : Fault → MapFault
read_fault faults.Memory = Memory
read_fault fault = File

abbrev pub map_out_of_memory : MapFault
map_out_of_memory = Memory

abbrev pub unread : MapFault
unread = File

-- A file that doesn't open is refused for what an opening of it answers; of the others it is only said that there is
-- lack of memory, or that the store or the writer failed.
abbrev pub IsMapRefusal : StoreFacts → MapFault → Type 0
IsMapRefusal store (Unopened fault) = IsTrue store.honest → stands store.content ≡ Err fault
IsMapRefusal store Memory = Unit {0}
IsMapRefusal store File = Unit {0}
IsMapRefusal store Write = Unit {0}

-- lack of memory, or a store that failed
abbrev pub IsReadLack : MapFault → Type 0
IsReadLack fault = (fault ≡ Memory) ⊎ (fault ≡ File)

-- lack of memory, or a writer that failed
abbrev pub IsWriteLack : MapFault → Type 0
IsWriteLack fault = (fault ≡ Memory) ⊎ (fault ≡ Write)

-- or the store failed
abbrev pub IsLack : MapFault → Type 0
IsLack fault = IsWriteLack fault ⊎ (fault ≡ File)

-- a file that was found not to open, or in which no slot counts
abbrev pub IsUncounted : Report → MapFault → Type 0
IsUncounted r (Unopened fault) = (r.verdict ≡ Err fault) ⊎ (IsOk r.verdict × (counting_between r.first r.second ≡ None))
IsUncounted r fault = ⊥
