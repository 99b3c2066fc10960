use Rattle.std.proofs.Common.{IsTrue, true, ap, subst, sym, ◌∙◌}
use Rattle.geos_model.specs.Document.{empty_document}
use Rattle.vm_blocks.specs.State.{CacheState, as_file}
use Rattle.vm_blocks.specs.Opening.{IsMadeIn}
use Rattle.undo_log.proofs.Beginnings.{begun}
use Rattle.undo_log.proofs.session.Session.create.Goals as goal

pub returns-in-Ok-clause-made : goal.returns-in-Ok-clause-made
returns-in-Ok-clause-made g c = subst (λ (b : CacheState g.row.S.Denot). IsMadeIn g.S.Store.facts c.args.store c.args.checksums (as_file b)) (sym c.start.ensures.blocks) c.in-Ok.ensures.made

pub returns-in-Ok-clause-new : goal.returns-in-Ok-clause-new
returns-in-Ok-clause-new g c = (c.start.ensures.log, ap (λ (b : CacheState g.row.S.Denot). b.frames) c.start.ensures.blocks ∙ c.in-Ok.ensures.frames)

pub returns-in-Ok-clause-exact : goal.returns-in-Ok-clause-exact
returns-in-Ok-clause-exact g c so = c.start.ensures.exact (subst IsTrue (sym c.in-Ok.ensures.made.follows.honest) so)

pub returns-in-Ok-clause-machine : goal.returns-in-Ok-clause-machine
returns-in-Ok-clause-machine g c target =
    let is = c.start.ensures.blocks in
    let made = c.in-Ok.ensures.made in
    begun c.start.result empty_document empty_document true 1 c.args.frames target
    (ap (λ (b : CacheState g.row.S.Denot). b.document) is ∙ made.document)
    (ap (λ (b : CacheState g.row.S.Denot). b.disk.updated) is ∙ made.new_file.updated)
    (ap (λ (b : CacheState g.row.S.Denot). b.disk.saved) is ∙ made.new_file.saved)
    (ap (λ (b : CacheState g.row.S.Denot). b.disk.sequence) is ∙ made.new_file.sequence)
    c.start.ensures.log (ap (λ (b : CacheState g.row.S.Denot). b.resident) is ∙ c.in-Ok.ensures.empty) (ap (λ (b : CacheState g.row.S.Denot). b.frames) is ∙ c.in-Ok.ensures.frames)
