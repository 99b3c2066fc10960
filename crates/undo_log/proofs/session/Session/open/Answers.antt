use Rattle.std.proofs.Common.{◌≡◌, IsTrue, ap, sym, subst, ◌∙◌}
use Rattle.document_file.specs.Documents.{has_one_directory}
use Rattle.vm_blocks.specs.State.{CacheState, as_file}
use Rattle.vm_blocks.specs.Opening.{IsOpenedFrom}
use Rattle.undo_log.specs.Logging.{fresh_log}
use Rattle.undo_log.proofs.Beginnings.{opened}
use Rattle.undo_log.proofs.session.Session.open.Goals as goal

pub returns-in-Ok-clause-opened : goal.returns-in-Ok-clause-opened
returns-in-Ok-clause-opened g c = subst (λ (b : CacheState g.row.S.Denot). IsOpenedFrom g.S.Store.facts c.args.store c.args.checksums (as_file b)) (sym c.start.ensures.blocks) c.in-Ok.ensures.opened

pub returns-in-Ok-clause-new : goal.returns-in-Ok-clause-new
returns-in-Ok-clause-new g c = ((c.has_one_directory-one.result, c.start.ensures.log), ap (λ (b : CacheState g.row.S.Denot). b.frames) c.start.ensures.blocks ∙ c.in-Ok.ensures.frames)

pub returns-in-Ok-clause-exact : goal.returns-in-Ok-clause-exact
returns-in-Ok-clause-exact g c so = c.start.ensures.exact (subst IsTrue (sym c.in-Ok.ensures.opened.follows.honest) so)

pub returns-in-Ok-clause-machine : goal.returns-in-Ok-clause-machine
returns-in-Ok-clause-machine g c so =
    let found = c.in-Ok.ensures.opened in let facts = g.S.Store.facts in
    let honest : IsTrue (facts c.in-Ok.blocks.disk.store).honest = subst IsTrue (sym found.follows.honest) so in
    let one : c.has_one_directory-one.result ≡ has_one_directory (facts c.args.store).content =
    c.has_one_directory-one.ensures.content honest (found.now so).1 ∙ ap has_one_directory (found.unchanged so).content in
    opened (as_file c.in-Ok.blocks) (facts c.args.store).content (has_one_directory (facts c.args.store).content) c.args.frames c.start.result (ap (λ (b : CacheState g.row.S.Denot). as_file b) c.start.ensures.blocks)
    (c.start.ensures.log ∙ ap fresh_log one) (ap (λ (b : CacheState g.row.S.Denot). b.resident) c.start.ensures.blocks ∙ c.in-Ok.ensures.empty) (ap (λ (b : CacheState g.row.S.Denot). b.frames) c.start.ensures.blocks ∙ c.in-Ok.ensures.frames)
    (found.documents so) (found.now so).0 (found.sequence so)
