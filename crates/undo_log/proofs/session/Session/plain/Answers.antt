use Rattle.std.proofs.Common.{refl, rules, subst, sym}
use Rattle.geos_model.specs.Forms as forms
use Rattle.geos_model.specs.Reply.{NumberIs}
use Rattle.geos_model.specs.declared.command.Command.TheVariants as commands
use Rattle.doc_edits.proofs.Forms.{by_form}
use Rattle.doc_edits.proofs.LookUps.{mapped}
use Rattle.undo_log.specs.Sessions.{machine_of}
use Rattle.undo_log.proofs.LookUps.{StepsSo, find_step, map_block_step, modified_step, redos_step, undos_step}
use Rattle.undo_log.proofs.session.Session.plain.Goals as goal

pub returns-in-HeapType : goal.returns-in-HeapType
returns-in-HeapType g c = rw c.in-HeapType.is (subst (StepsSo c.args.self.now (commands.HeapType c.in-HeapType.block)) (sym (mapped NumberIs _ c.heap_type.result c.map.result c.map.ensures.cases (λ x y h. search rules)))
    (c.heap_type.ensures, by_form forms.Number NumberIs (λ x. refl) c.heap_type.result))

pub returns-in-Find : goal.returns-in-Find
returns-in-Find g c = rw c.in-Find.is ((λ target. find_step (machine_of target c.args.self.now) _ _ _ _ c.find.ensures c.unwrap_or.ensures), refl)

pub returns-in-MapBlock : goal.returns-in-MapBlock
returns-in-MapBlock g c = rw c.in-MapBlock.is ((λ target. map_block_step (machine_of target c.args.self.now) _ c.map_block.ensures), refl)

pub returns-in-Locks : goal.returns-in-Locks
returns-in-Locks g c = rw c.in-Locks.is (subst (StepsSo c.args.self.now (commands.Locks c.in-Locks.block)) (sym (mapped NumberIs _ c.locks.result c.map-in-Locks.result c.map-in-Locks.ensures.cases (λ x y h. search rules)))
    (c.locks.ensures, by_form forms.Number NumberIs (λ x. refl) c.locks.result))

pub returns-in-Undos : goal.returns-in-Undos
returns-in-Undos g c = rw c.in-Undos.is ((λ target. undos_step (machine_of target c.args.self.now) _ (c.undo_count.ensures.past target)), refl)

pub returns-in-Redos : goal.returns-in-Redos
returns-in-Redos g c = rw c.in-Redos.is ((λ target. redos_step (machine_of target c.args.self.now) _ (c.redo_count.ensures.future target)), refl)

pub returns-in-Modified : goal.returns-in-Modified
returns-in-Modified g c = rw c.in-Modified.is ((λ target. modified_step (machine_of target c.args.self.now) _ (c.stands_as.ensures target)), refl)
