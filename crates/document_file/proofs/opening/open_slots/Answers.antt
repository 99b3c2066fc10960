use Rattle.std.proofs.Common.{subst}
use Rattle.document_file.specs.Copies.{IsCopy}
use Rattle.file_format.proofs.LooksLemmas.{OnlyReadsStore-trans}
use Rattle.document_file.proofs.OpenedLemmas.{opened_sound}
use Rattle.document_file.proofs.opening.open_slots.Goals as goal

pub returns-in_err-sync-clause-looks : goal.returns-in_err-sync-clause-looks
returns-in_err-sync-clause-looks g c = OnlyReadsStore-trans _ _ _ (λ so. g.met.S.Store.timely c.args.store.now so) c.read_slots.ensures.looks c.sync.ensures.looks

pub returns-clause-looks : goal.returns-clause-looks
returns-clause-looks g c = OnlyReadsStore-trans _ _ _ (λ so. g.met.S.Store.timely c.args.store.now so) c.read_slots.ensures.looks c.sync.ensures.looks

pub returns-clause-sound : goal.returns-clause-sound
returns-clause-sound g c =
    let looks = OnlyReadsStore-trans _ _ _ (λ so. g.met.S.Store.timely c.args.store.now so) c.read_slots.ensures.looks c.sync.ensures.looks in
    let copy = subst (IsCopy c.in_ok-live.live) c.deref.ensures c.in_ok-live.ensures in
    opened_sound _ _ c.in_ok-live.live c.in_ok-slots.slots looks c.in_ok-slots.ensures.formed c.in_ok-slots.ensures.whole c.in_ok-sync.ensures.durable copy.map_block copy.places
