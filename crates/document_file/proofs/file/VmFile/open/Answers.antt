use Rattle.std.proofs.Common.{◌≡◌, ◌⊎◌, ℕ, IsTrue, List, [], Ok, sym, ap, subst, inl, inr}
use Rattle.file_format.specs.File.{stands}
use Rattle.document_file.specs.Documents.{attempted_in, documents_in}
use Rattle.document_file.specs.declared.slot.SpareSlot.{SpareSlot}
use Rattle.document_file.specs.declared.slot.SpareSlot.TheVariants.{Shut, Stale}
use Rattle.document_file.proofs.StandsLemmas.{sound_settled, sound_numbered}
use Rattle.document_file.proofs.TurningLemmas.{resummed_document}
use Rattle.document_file.proofs.file.VmFile.open.Goals as goal

none_attempted : (file : List ℕ) (spare : SpareSlot) → (spare ≡ Shut) ⊎ (spare ≡ Stale) → attempted_in file spare ≡ []
none_attempted file spare alone = elim alone as (λ _. attempted_in file spare ≡ []) [ inl shut ↦ ap (attempted_in file) shut | inr stale ↦ ap (attempted_in file) stale ]

pub returns-in-Ok-clause-stands : goal.returns-in-Ok-clause-stands
returns-in-Ok-clause-stands g c so =
    subst (λ f. stands (g.S.Store.facts c.args.store).content ≡ Ok (documents_in f c.in-Ok.slots.committed)) (sym (c.in-Ok.ensures.looks.unchanged so).content) (c.in-Ok.ensures.stands so)

pub returns-in-Ok-clause-document : goal.returns-in-Ok-clause-document
returns-in-Ok-clause-document g c =
    let file = (g.S.Store.facts c.opened_slots.new.store).content in
    (resummed_document c.in-Ok.live c.in-Ok.slots.committed.updated.table.value c.in-Ok.ensures.live file, none_attempted file c.in-Ok.slots.spare c.in-Ok.ensures.alone)

pub returns-in-Ok-clause-crash_consistent : goal.returns-in-Ok-clause-crash_consistent
returns-in-Ok-clause-crash_consistent g c = sound_settled g.S.Store.facts c.opened_slots.new.store c.in-Ok.live c.in-Ok.slots c.in-Ok.ensures.sound

pub returns-in-Ok-clause-numbered_now : goal.returns-in-Ok-clause-numbered_now
returns-in-Ok-clause-numbered_now g c so =
    let p = c.in-Ok.ensures in
    sound_numbered g.S.Store.facts c.opened_slots.new.store c.in-Ok.live c.in-Ok.slots p.sound (subst IsTrue (sym p.looks.honest) so) (none_attempted _ c.in-Ok.slots.spare p.alone)
