use Rattle.std.proofs.Common.{sym, subst, ap, ◌∙◌}
use Rattle.geos_model.specs.Targets.{edit_seen}
use Rattle.geos_model.specs.declared.command.Edit.{Edit}
use Rattle.undo_log.specs.Editing.{EditsSession}
use Rattle.undo_log.proofs.session.Session.edit.Goals as goal

pub returns-in-One : goal.returns-in-One
returns-in-One g c = subst (λ (e : Edit). EditsSession g.S.Store.facts e c.args.self.now c.edit_once.new.self c.edit_once.result) (sym (ap edit_seen c.in-One.is) ∙ c.target.ensures) c.edit_once.ensures

pub returns-in-Large : goal.returns-in-Large
returns-in-Large g c = subst (λ (e : Edit). EditsSession g.S.Store.facts e c.args.self.now c.edit_large.new.self c.edit_large.result) (sym (ap edit_seen c.in-Large.is) ∙ c.target.ensures) c.edit_large.ensures
