use Rattle.std.proofs.Common.{◌≡◌, ◌∷◌, ap, subst, ◌∙◌}
use Rattle.std.specs.Prelude.{Err, OnOk}
use Rattle.std.proofs.lemmas.Result.{err_from_is_err_and}
use Rattle.document_file.specs.Effects.{Fails, NoFault, IsDamage}
use Rattle.document_file.proofs.EffectsLemmas.{Fails-after, Fails-as}
use Rattle.vm_blocks.proofs.CallAfterCall.{stays_both}
use Rattle.vm_blocks.proofs.OrderOfUse.{still_away}
use Rattle.vm_blocks.proofs.file_blocks.FileBlocks.bring.Goals as goal

pub fetch-requires-clause-live : goal.fetch-requires-clause-live
fetch-requires-clause-live g c = c.make_room.ensures.stays.file.document.live c.args.handle.0 ∙ c.requires.live

pub fetch-requires-clause-absent : goal.fetch-requires-clause-absent
fetch-requires-clause-absent g c = still_away c.args.handle.0 c.args.self.now.resident c.make_room.new.self.resident _ c.in_ok-region.ensures.ok c.requires.absent

pub returns-in_err-region-clause-fails : goal.returns-in_err-region-clause-fails
returns-in_err-region-clause-fails g c =
    let p = err_from_is_err_and c.from_residual.result c.from_residual.ensures.1 in
    Fails-as g.S.Store.facts NoFault (IsDamage (g.S.Store.facts c.args.self.now.disk.store).honest) _ _ c.in_err-region.field-0.0 c.from_residual.result (p.1 ∙ ap Err p.2) (λ f none. absurd none) c.in_err-region.ensures.fails

pub returns-clause-stays : goal.returns-clause-stays
returns-clause-stays g c = stays_both g.S.Store.facts c.args.self.now c.make_room.new.self c.fetch.new.self c.make_room.ensures.stays c.fetch.ensures.stays

pub returns-clause-ok : goal.returns-clause-ok
returns-clause-ok g c = subst (λ ss. OnOk c.fetch.result (c.fetch.new.self.resident ≡ (c.args.handle.0, 0) ∷ ss)) c.in_ok-region.ensures.ok c.fetch.ensures.ok

pub returns-clause-fails : goal.returns-clause-fails
returns-clause-fails g c =
    let facts = g.S.Store.facts in
    let passes = c.make_room.ensures.stays.file.passes in
    Fails-after facts (IsDamage (facts c.args.self.now.disk.store).honest) _ _ _ c.fetch.result passes.failures
    (subst (λ t. Fails facts (IsDamage t) c.make_room.new.self.disk.store c.fetch.new.self.disk.store c.fetch.result) passes.honest c.fetch.ensures.fails)
