use Rattle.std.proofs.Common.{ap, refl, ◌∙◌, codes}
use Rattle.geos_model.specs.declared.command.Edit.TheVariants as edits
use Rattle.geos_model.specs.Script.{block, bytes, element_number, number, user_id, words}
use Rattle.geos_model.specs.declared.command.Command.TheVariants as commands
use Rattle.geos_script.proofs.Rows.{at_row, passed, others, made_1, made_2, made_3}
use Rattle.geos_script.proofs.commands.from_chains.Goals as goal

pub returns-then-is : goal.returns-then-is
returns-then-is c = at_row 34 _ (codes "chcopy") _ _ _ c.if-is.ensures refl (made_1 block _ _ (λ b. commands.Edit (edits.CopyChain b)) (words c.args.text.now) _ c.one.ensures (λ a x h. h.2 ∙ ap commands.Edit h.1) (λ a. refl))

pub returns-then-is-2 : goal.returns-then-is-2
returns-then-is-2 c = at_row 34 _ (codes "chfree") _ _ _ c.if-is-2.ensures refl (made_1 block _ _ (λ b. commands.Edit (edits.FreeChain b)) (words c.args.text.now) _ c.one-then-is-2.ensures (λ a x h. h.2 ∙ ap commands.Edit h.1) (λ a. refl))

pub returns-then-is-3 : goal.returns-then-is-3
returns-then-is-3 c = at_row 34 _ (codes "hcreate") _ _ _ c.if-is-3.ensures refl (made_2 user_id number _ _ (λ u e. commands.Edit (edits.CreateLarge u e)) (words c.args.text.now) _ c.two.ensures (λ a b x h. h.2 ∙ ap commands.Edit h.1) (λ a b. refl))

pub returns-then-is-4 : goal.returns-then-is-4
returns-then-is-4 c = at_row 34 _ (codes "hinsert") _ _ _ c.if-is-4.ensures refl (made_3 block element_number bytes _ _ (λ b i bs. commands.Edit (edits.InsertLarge b i bs)) (words c.args.text.now) _ c.three.ensures (λ a b bs x h. h.2 ∙ ap commands.Edit h.1) (λ a b bs. refl))

pub returns-then-is-5 : goal.returns-then-is-5
returns-then-is-5 c = at_row 34 _ (codes "hset") _ _ _ c.if-is-5.ensures refl (made_3 block element_number bytes _ _ (λ b i bs. commands.Edit (edits.SetLarge b i bs)) (words c.args.text.now) _ c.three-then-is-5.ensures (λ a b bs x h. h.2 ∙ ap commands.Edit h.1) (λ a b bs. refl))

pub returns-then-is-6 : goal.returns-then-is-6
returns-then-is-6 c = at_row 34 _ (codes "hdelete") _ _ _ c.if-is-6.ensures refl (made_3 block element_number element_number _ _ (λ b i n. commands.Edit (edits.DeleteLarge b i n)) (words c.args.text.now) _ c.three-then-is-6.ensures (λ a b c x h. h.2 ∙ ap commands.Edit h.1) (λ a b c. refl))

pub returns : goal.returns
returns c =
    others _ _ _ _ _
    (passed 34 35 c.args.name.now (codes "chcopy") _ _ refl c.if-is.ensures
    ∙ passed 35 36 c.args.name.now (codes "chfree") _ _ refl c.if-is-2.ensures
    ∙ passed 36 37 c.args.name.now (codes "hcreate") _ _ refl c.if-is-3.ensures
    ∙ passed 37 38 c.args.name.now (codes "hinsert") _ _ refl c.if-is-4.ensures
    ∙ passed 38 39 c.args.name.now (codes "hset") _ _ refl c.if-is-5.ensures
    ∙ passed 39 40 c.args.name.now (codes "hdelete") _ _ refl c.if-is-6.ensures)
    c.from_steps.ensures
