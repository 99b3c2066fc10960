-- What the dump of the other slot comes to, by what its parts do.
use Rattle.std.specs.Option.{option_map}
use Rattle.std.specs.Result.{result_ok}
use Rattle.std.proofs.Common.{◌≡◌, ℕ, List, Option, None, Result, Ok, Err, refl, subst, inl, inr}
use Rattle.file_format.specs.File.{stands}
use Rattle.geos_model.specs.declared.fault.Fault.{Fault}
use Rattle.vm_store.specs.Facts.{StoreFacts}
use Rattle.document_file.specs.Opened.{OnlyReadsStore}
use Rattle.file_format.specs.Slots.{slot_stands}
use Rattle.file_format.proofs.LooksLemmas.{held_before, raised_later, same_bytes_then, still}
use Rattle.geos_shell.specs.Streams.{WriteCalls}
use Rattle.file_report.specs.Checked.{IsReport, counting_between, counting_number}
use Rattle.file_report.specs.declared.checking.SlotReport.{SlotReport}
use Rattle.file_report.specs.declared.checking.SlotState.{SlotState}
use Rattle.document_tools.specs.OtherSlots.{DumpsOther, DumpsSlot, FailsLook, other_slot}
use Rattle.document_tools.specs.declared.ending.Ending.{Ending}
use Rattle.document_tools.specs.declared.ending.Ending.TheVariants as endings

without_number : (choice : Result (ℕ × SlotReport) Fault) → option_map (λ p. p.0) (result_ok choice) ≡ None → option_map (λ p. p.1) (result_ok choice) ≡ None
without_number (Ok p) none = absurd (cc none)
without_number (Err fault) none = refl

-- What is said of a store that was only read before was so when it was.

failed_before : (file : List ℕ) (a b c : StoreFacts) (ending : Ending) → OnlyReadsStore a b → FailsLook file b c ending → FailsLook file a c ending
failed_before file a b c endings.Done reads fails = absurd fails
failed_before file a b c endings.Unsound reads fails = absurd fails
failed_before file a b c (endings.Refused line) reads (inl fails) = inl (fails.0, raised_later a b c reads fails.1)
failed_before file a b c (endings.Refused line) reads (inr fails) = inr (fails.0, fails.1, held_before (λ (bytes : List ℕ). stands bytes ≡ Err fails.0) a b reads fails.2)
failed_before file a b c endings.Memory reads fails = tt
failed_before file a b c endings.ReadFault reads fails = absurd fails
failed_before file a b c endings.WriteFault reads fails = absurd fails
failed_before file a b c endings.Different reads fails = absurd fails
failed_before file a b c (endings.Uncompared trouble) reads fails = absurd fails

slot_before : {W : Type 0} (contents : W → Option (List ℕ)) (writes : WriteCalls W) (file : List ℕ) (slot : ℕ) (a b c : StoreFacts) (old new : W) (ending : Ending) → OnlyReadsStore a b
    → DumpsSlot contents writes file slot b c old new ending → DumpsSlot contents writes file slot a c old new ending
slot_before contents writes file slot a b c old new endings.Done reads dumps = λ so.
    let d = dumps (still a b reads so) in
    (d.0, d.1, subst (λ bytes. slot_stands bytes slot ≡ Ok (d.0, d.1)) (same_bytes_then a b reads so) d.2, d.3)
slot_before contents writes file slot a b c old new endings.Unsound reads dumps = absurd dumps
slot_before contents writes file slot a b c old new (endings.Refused line) reads (inl dumps) = inl (dumps.0, raised_later a b c reads dumps.1)
slot_before contents writes file slot a b c old new (endings.Refused line) reads (inr (inl dumps)) = inr (inl (dumps.0, dumps.1, held_before (λ (bytes : List ℕ). slot_stands bytes slot ≡ Err dumps.0) a b reads dumps.2))
slot_before contents writes file slot a b c old new (endings.Refused line) reads (inr (inr dumps)) = inr (inr (dumps.0, λ so. dumps.1 (still a b reads so)))
slot_before contents writes file slot a b c old new endings.Memory reads dumps = tt
slot_before contents writes file slot a b c old new endings.ReadFault reads dumps = absurd dumps
slot_before contents writes file slot a b c old new endings.WriteFault reads dumps = dumps
slot_before contents writes file slot a b c old new endings.Different reads dumps = absurd dumps
slot_before contents writes file slot a b c old new (endings.Uncompared trouble) reads dumps = absurd dumps

pub other_before : {W : Type 0} (contents : W → Option (List ℕ)) (writes : WriteCalls W) (file : List ℕ) (a b c : StoreFacts) (old new : W) (ending : Ending) → OnlyReadsStore a b
    → DumpsOther contents writes file b c old new ending → DumpsOther contents writes file a c old new ending
other_before contents writes file a b c old new ending reads (inl fails) = inl (failed_before file a b c ending reads fails.0, fails.1)
other_before contents writes file a b c old new ending reads (inr dumps) =
    inr (
      dumps.0,
      dumps.1,
      held_before (λ (bytes : List ℕ). IsReport bytes dumps.0) a b reads dumps.2,
      dumps.3,
      slot_before contents writes file (other_slot dumps.1) a b c old new ending reads dumps.4,
    )

pub uncounted_number : (first second : SlotState) → counting_number first second ≡ None → counting_between first second ≡ None
uncounted_number first second none = without_number _ none
