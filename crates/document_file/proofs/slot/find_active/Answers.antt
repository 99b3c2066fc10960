use Rattle.document_file.proofs.CountingSlotLemmas.{active_slot_is}
use Rattle.document_file.proofs.slot.find_active.Goals as goal

pub returns-clause-active : goal.returns-clause-active
returns-clause-active g c so = active_slot_is _ c.in_ok-found.found c.spare_of.result (c.in_ok-found.ensures.found so) c.spare_of.ensures
