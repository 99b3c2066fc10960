-- Lack of memory, and stores and writers that fail.
use Rattle.std.proofs.Common.{◌≡◌, Result, Ok, Err, inl, inr}
use Rattle.std.specs.Prelude.{IfErr}
use Rattle.file_format.specs.Reading.{IsResourceFault}
use Rattle.geos_model.specs.declared.fault.Fault.{Fault}
use Rattle.geos_model.specs.declared.fault.Fault.TheVariants as faults
use Rattle.file_report.specs.declared.checking.Report.{Report}
use Rattle.file_map.specs.Faults.{IsUncounted, IsWriteLack, read_fault}
use Rattle.file_map.specs.declared.fault.MapFault.{MapFault}
use Rattle.file_map.specs.declared.fault.MapFault.TheVariants.{File, Memory, Unopened, Write}

pub unwritten : {T : Type 0} (r : Result T MapFault) → IfErr r (λ fault. fault ≡ Write) → IfErr r IsWriteLack
unwritten (Ok t) is = tt
unwritten (Err fault) is = inr is

-- a fault that is told as that of a store is one
pub read_file : (fault : Fault) → IsResourceFault fault → read_fault fault ≡ File → fault ≡ faults.File
read_file fault is told = elim is [ inl memory ↦ absurd (cc (memory, told)) | inr file ↦ file ]

-- that no slot counts isn't told as a store that failed
pub uncounted_file : (r : Report) (fault : MapFault) → IsUncounted r fault → fault ≡ File → ⊥
uncounted_file r (Unopened f) is file = cc file
uncounted_file r Memory is file = is
uncounted_file r File is file = is
uncounted_file r Write is file = is
