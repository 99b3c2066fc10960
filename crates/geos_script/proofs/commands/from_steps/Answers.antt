use Rattle.std.proofs.Common.{refl, ◌∙◌, codes}
use Rattle.geos_model.specs.Script.{bytes, number, words}
use Rattle.geos_model.specs.declared.command.Command.TheVariants as commands
use Rattle.geos_script.proofs.Rows.{at_row, passed, others, made_0, made_1}
use Rattle.geos_script.proofs.commands.from_steps.Goals as goal

pub returns-then-is : goal.returns-then-is
returns-then-is c = at_row 40 _ (codes "undo") _ _ _ c.if-is.ensures refl (made_0 _ commands.Undo (words c.args.text.now) _ c.none.ensures (λ x h. h) refl)

pub returns-then-is-2 : goal.returns-then-is-2
returns-then-is-2 c = at_row 40 _ (codes "redo") _ _ _ c.if-is-2.ensures refl (made_0 _ commands.Redo (words c.args.text.now) _ c.none-then-is-2.ensures (λ x h. h) refl)

pub returns-then-is-3 : goal.returns-then-is-3
returns-then-is-3 c = at_row 40 _ (codes "begin") _ _ _ c.if-is-3.ensures refl (made_0 _ commands.Begin (words c.args.text.now) _ c.none-then-is-3.ensures (λ x h. h) refl)

pub returns-then-is-4 : goal.returns-then-is-4
returns-then-is-4 c = at_row 40 _ (codes "end") _ _ _ c.if-is-4.ensures refl (made_0 _ commands.End (words c.args.text.now) _ c.none-then-is-4.ensures (λ x h. h) refl)

pub returns-then-is-5 : goal.returns-then-is-5
returns-then-is-5 c = at_row 40 _ (codes "abandon") _ _ _ c.if-is-5.ensures refl (made_0 _ commands.Abandon (words c.args.text.now) _ c.none-then-is-5.ensures (λ x h. h) refl)

pub returns-then-is-6 : goal.returns-then-is-6
returns-then-is-6 c = at_row 40 _ (codes "join") _ _ _ c.if-is-6.ensures refl (made_0 _ commands.Join (words c.args.text.now) _ c.none-then-is-6.ensures (λ x h. h) refl)

pub returns-then-is-7 : goal.returns-then-is-7
returns-then-is-7 c = at_row 40 _ (codes "forget") _ _ _ c.if-is-7.ensures refl (made_1 number _ _ (λ n. commands.Forget n) (words c.args.text.now) _ c.one.ensures (λ a x h. h.2 ∙ h.1) (λ a. refl))

pub returns-then-is-8 : goal.returns-then-is-8
returns-then-is-8 c = at_row 40 _ (codes "name") _ _ _ c.if-is-8.ensures refl (made_1 bytes _ _ (λ name. commands.Name name) (words c.args.text.now) _ c.one-then-is-8.ensures (λ a x h. h.2 ∙ h.1) (λ a. refl))

pub returns-then-is-9 : goal.returns-then-is-9
returns-then-is-9 c = at_row 40 _ (codes "update") _ _ _ c.if-is-9.ensures refl (made_0 _ commands.Update (words c.args.text.now) _ c.none-then-is-9.ensures (λ x h. h) refl)

pub returns-then-is-10 : goal.returns-then-is-10
returns-then-is-10 c = at_row 40 _ (codes "save") _ _ _ c.if-is-10.ensures refl (made_0 _ commands.Save (words c.args.text.now) _ c.none-then-is-10.ensures (λ x h. h) refl)

pub returns-then-is-11 : goal.returns-then-is-11
returns-then-is-11 c = at_row 40 _ (codes "revert") _ _ _ c.if-is-11.ensures refl (made_0 _ commands.Revert (words c.args.text.now) _ c.none-then-is-11.ensures (λ x h. h) refl)

pub returns-then-is-12 : goal.returns-then-is-12
returns-then-is-12 c = at_row 40 _ (codes "saveas") _ _ _ c.if-is-12.ensures refl (made_0 _ commands.SaveAs (words c.args.text.now) _ c.none-then-is-12.ensures (λ x h. h) refl)

pub returns : goal.returns
returns c =
    others _ _ _ _ _
    (passed 40 41 c.args.name.now (codes "undo") _ _ refl c.if-is.ensures
    ∙ passed 41 42 c.args.name.now (codes "redo") _ _ refl c.if-is-2.ensures
    ∙ passed 42 43 c.args.name.now (codes "begin") _ _ refl c.if-is-3.ensures
    ∙ passed 43 44 c.args.name.now (codes "end") _ _ refl c.if-is-4.ensures
    ∙ passed 44 45 c.args.name.now (codes "abandon") _ _ refl c.if-is-5.ensures
    ∙ passed 45 46 c.args.name.now (codes "join") _ _ refl c.if-is-6.ensures
    ∙ passed 46 47 c.args.name.now (codes "forget") _ _ refl c.if-is-7.ensures
    ∙ passed 47 48 c.args.name.now (codes "name") _ _ refl c.if-is-8.ensures
    ∙ passed 48 49 c.args.name.now (codes "update") _ _ refl c.if-is-9.ensures
    ∙ passed 49 50 c.args.name.now (codes "save") _ _ refl c.if-is-10.ensures
    ∙ passed 50 51 c.args.name.now (codes "revert") _ _ refl c.if-is-11.ensures
    ∙ passed 51 52 c.args.name.now (codes "saveas") _ _ refl c.if-is-12.ensures)
    c.from_block_look_ups.ensures
