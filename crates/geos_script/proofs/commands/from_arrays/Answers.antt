use Rattle.std.proofs.Common.{ap, refl, ◌∙◌, codes}
use Rattle.geos_model.specs.declared.command.Edit.TheVariants as edits
use Rattle.geos_model.specs.Script.{block, bytes, number, chunk, token, words}
use Rattle.geos_model.specs.declared.command.Command.TheVariants as commands
use Rattle.geos_script.proofs.Rows.{at_row, passed, others, made_2, made_3, made_4}
use Rattle.geos_script.proofs.commands.from_arrays.Goals as goal

pub returns-then-is : goal.returns-then-is
returns-then-is c = at_row 17 _ (codes "acreate") _ _ _ c.if-is.ensures refl (made_3 block number number _ _ (λ b e x. commands.Edit (edits.CreateArray b e x)) (words c.args.text.now) _ c.three.ensures (λ a b c x h. h.2 ∙ ap commands.Edit h.1) (λ a b c. refl))

pub returns-then-is-2 : goal.returns-then-is-2
returns-then-is-2 c = at_row 17 _ (codes "ainsert") _ _ _ c.if-is-2.ensures refl (made_4 block chunk number bytes _ _ (λ b c i bs. commands.Edit (edits.InsertElement b c i bs)) (words c.args.text.now) _ c.four.ensures (λ a b c bs x h. h.2 ∙ ap commands.Edit h.1) (λ a b c bs. refl))

pub returns-then-is-3 : goal.returns-then-is-3
returns-then-is-3 c = at_row 17 _ (codes "aset") _ _ _ c.if-is-3.ensures refl (made_4 block chunk number bytes _ _ (λ b c i bs. commands.Edit (edits.SetElement b c i bs)) (words c.args.text.now) _ c.four-then-is-3.ensures (λ a b c bs x h. h.2 ∙ ap commands.Edit h.1) (λ a b c bs. refl))

pub returns-then-is-4 : goal.returns-then-is-4
returns-then-is-4 c = at_row 17 _ (codes "aresize") _ _ _ c.if-is-4.ensures refl (made_4 block chunk number number _ _ (λ b c i n. commands.Edit (edits.ResizeElement b c i n)) (words c.args.text.now) _ c.four-then-is-4.ensures (λ a b c d x h. h.2 ∙ ap commands.Edit h.1) (λ a b c d. refl))

pub returns-then-is-5 : goal.returns-then-is-5
returns-then-is-5 c = at_row 17 _ (codes "adelete") _ _ _ c.if-is-5.ensures refl (made_4 block chunk number number _ _ (λ b c i k. commands.Edit (edits.DeleteElements b c i k)) (words c.args.text.now) _ c.four-then-is-5.ensures (λ a b c d x h. h.2 ∙ ap commands.Edit h.1) (λ a b c d. refl))

pub returns-then-is-6 : goal.returns-then-is-6
returns-then-is-6 c = at_row 17 _ (codes "azero") _ _ _ c.if-is-6.ensures refl (made_2 block chunk _ _ (λ b c. commands.Edit (edits.ZeroArray b c)) (words c.args.text.now) _ c.two.ensures (λ a b x h. h.2 ∙ ap commands.Edit h.1) (λ a b. refl))

pub returns-then-is-7 : goal.returns-then-is-7
returns-then-is-7 c = at_row 17 _ (codes "ecreate") _ _ _ c.if-is-7.ensures refl (made_2 block number _ _ (λ b e. commands.Edit (edits.CreateElementArray b e)) (words c.args.text.now) _ c.two-then-is-7.ensures (λ a b x h. h.2 ∙ ap commands.Edit h.1) (λ a b. refl))

pub returns-then-is-8 : goal.returns-then-is-8
returns-then-is-8 c = at_row 17 _ (codes "eadd") _ _ _ c.if-is-8.ensures refl (made_3 block chunk bytes _ _ (λ b c bs. commands.Edit (edits.AddElement b c bs)) (words c.args.text.now) _ c.three-then-is-8.ensures (λ a b bs x h. h.2 ∙ ap commands.Edit h.1) (λ a b bs. refl))

pub returns-then-is-9 : goal.returns-then-is-9
returns-then-is-9 c = at_row 17 _ (codes "eref") _ _ _ c.if-is-9.ensures refl (made_3 block chunk token _ _ (λ b c t. commands.Edit (edits.AddReference b c t)) (words c.args.text.now) _ c.three-then-is-9.ensures (λ a b c x h. h.2 ∙ ap commands.Edit h.1) (λ a b c. refl))

pub returns-then-is-10 : goal.returns-then-is-10
returns-then-is-10 c = at_row 17 _ (codes "eunref") _ _ _ c.if-is-10.ensures refl (made_3 block chunk token _ _ (λ b c t. commands.Edit (edits.RemoveReference b c t)) (words c.args.text.now) _ c.three-then-is-10.ensures (λ a b c x h. h.2 ∙ ap commands.Edit h.1) (λ a b c. refl))

pub returns-then-is-11 : goal.returns-then-is-11
returns-then-is-11 c = at_row 17 _ (codes "edelete") _ _ _ c.if-is-11.ensures refl (made_3 block chunk token _ _ (λ b c t. commands.Edit (edits.DeleteElement b c t)) (words c.args.text.now) _ c.three-then-is-11.ensures (λ a b c x h. h.2 ∙ ap commands.Edit h.1) (λ a b c. refl))

pub returns-then-is-12 : goal.returns-then-is-12
returns-then-is-12 c = at_row 17 _ (codes "echange") _ _ _ c.if-is-12.ensures refl (made_4 block chunk token bytes _ _ (λ b c t bs. commands.Edit (edits.ChangeElement b c t bs)) (words c.args.text.now) _ c.four-then-is-12.ensures (λ a b c bs x h. h.2 ∙ ap commands.Edit h.1) (λ a b c bs. refl))

pub returns : goal.returns
returns c =
    others _ _ _ _ _
    (passed 17 18 c.args.name.now (codes "acreate") _ _ refl c.if-is.ensures
    ∙ passed 18 19 c.args.name.now (codes "ainsert") _ _ refl c.if-is-2.ensures
    ∙ passed 19 20 c.args.name.now (codes "aset") _ _ refl c.if-is-3.ensures
    ∙ passed 20 21 c.args.name.now (codes "aresize") _ _ refl c.if-is-4.ensures
    ∙ passed 21 22 c.args.name.now (codes "adelete") _ _ refl c.if-is-5.ensures
    ∙ passed 22 23 c.args.name.now (codes "azero") _ _ refl c.if-is-6.ensures
    ∙ passed 23 24 c.args.name.now (codes "ecreate") _ _ refl c.if-is-7.ensures
    ∙ passed 24 25 c.args.name.now (codes "eadd") _ _ refl c.if-is-8.ensures
    ∙ passed 25 26 c.args.name.now (codes "eref") _ _ refl c.if-is-9.ensures
    ∙ passed 26 27 c.args.name.now (codes "eunref") _ _ refl c.if-is-10.ensures
    ∙ passed 27 28 c.args.name.now (codes "edelete") _ _ refl c.if-is-11.ensures
    ∙ passed 28 29 c.args.name.now (codes "echange") _ _ refl c.if-is-12.ensures)
    c.from_names.ensures
