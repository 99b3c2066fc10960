-- Why parts of a dump end early.
use Rattle.std.proofs.Common.{◌≡◌, ◌≢◌, ℕ, true, IsTrue, List, get_or, sym, ap}
use Rattle.vm_store.specs.Facts.{StoreFacts}
use Rattle.geos_model.specs.Document.{is_valid_body}
use Rattle.geos_model.specs.Image.{image}
use Rattle.geos_model.specs.declared.command.Body.{Body}
use Rattle.geos_model.specs.declared.command.Body.TheVariants as bodies
use Rattle.document_dump.specs.Faults.{IsDumpRefusal, IsHeapBodyImage, IsBodyImage, IsRefusalOf}
use Rattle.document_dump.specs.declared.fault.DumpFault.{DumpFault}
use Rattle.document_dump.specs.declared.fault.DumpFault.TheVariants as dump_faults

pub refused-part : (CanBe : Type 0) (old new : StoreFacts) (fault : DumpFault) → IsRefusalOf CanBe fault → (IsTrue old.honest → CanBe) → IsDumpRefusal old new fault
refused-part CanBe old new dump_faults.Memory is can = tt
refused-part CanBe old new dump_faults.File is can = absurd is
refused-part CanBe old new dump_faults.Damaged is can = λ so. is (can so)
refused-part CanBe old new dump_faults.Write is can = absurd is

pub part-narrower : (CanBe Other : Type 0) (fault : DumpFault) → (Other → CanBe) → IsRefusalOf CanBe fault → IsRefusalOf Other fault
part-narrower CanBe Other dump_faults.Memory then is = tt
part-narrower CanBe Other dump_faults.File then is = absurd is
part-narrower CanBe Other dump_faults.Damaged then is = λ other. is (then other)
part-narrower CanBe Other dump_faults.Write then is = absurd is

heap_of : (bytes : List ℕ) → get_or bytes 0 0 ≢ 0 → (body : Body) → is_valid_body body ≡ true → image body ≡ bytes → IsHeapBodyImage bytes
unfolding image
heap_of bytes kind (bodies.Raw xs) valid same = absurd (kind (sym (ap (λ (l : List ℕ). get_or l 0 0) same)))
heap_of bytes kind (bodies.Heap m) valid same = (m, valid, same)

-- an image that doesn't begin with 0 is that of a heap
pub image-of_heap : (bytes : List ℕ) → get_or bytes 0 0 ≢ 0 → IsBodyImage bytes → IsHeapBodyImage bytes
image-of_heap bytes kind i = heap_of bytes kind i.0 i.1 i.2
