use Rattle.std.proofs.Common.{ap, refl, ◌∙◌, codes}
use Rattle.geos_model.specs.declared.command.Edit.TheVariants as edits
use Rattle.geos_model.specs.Script.{block, bytes, number, chunk, token, words}
use Rattle.geos_model.specs.declared.command.Command.TheVariants as commands
use Rattle.geos_script.proofs.Rows.{at_row, passed, others, made_2, made_3, made_4}
use Rattle.geos_script.proofs.commands.from_names.Goals as goal

pub returns-then-is : goal.returns-then-is
returns-then-is c = at_row 29 _ (codes "ncreate") _ _ _ c.if-is.ensures refl (made_2 block number _ _ (λ b d. commands.Edit (edits.CreateNameArray b d)) (words c.args.text.now) _ c.two.ensures (λ a b x h. h.2 ∙ ap commands.Edit h.1) (λ a b. refl))

pub returns-then-is-2 : goal.returns-then-is-2
returns-then-is-2 c = at_row 29 _ (codes "nadd") _ _ _ c.if-is-2.ensures refl c.add_name.ensures

pub returns-then-is-3 : goal.returns-then-is-3
returns-then-is-3 c = at_row 29 _ (codes "nname") _ _ _ c.if-is-3.ensures refl (made_4 block chunk token bytes _ _ (λ b c t name. commands.Edit (edits.ChangeName b c t name)) (words c.args.text.now) _ c.four.ensures (λ a b c bs x h. h.2 ∙ ap commands.Edit h.1) (λ a b c bs. refl))

pub returns-then-is-4 : goal.returns-then-is-4
returns-then-is-4 c = at_row 29 _ (codes "nset") _ _ _ c.if-is-4.ensures refl (made_4 block chunk token bytes _ _ (λ b c t part. commands.Edit (edits.SetNamePart b c t part)) (words c.args.text.now) _ c.four-then-is-4.ensures (λ a b c bs x h. h.2 ∙ ap commands.Edit h.1) (λ a b c bs. refl))

pub returns-then-is-5 : goal.returns-then-is-5
returns-then-is-5 c = at_row 29 _ (codes "nunref") _ _ _ c.if-is-5.ensures refl (made_3 block chunk token _ _ (λ b c t. commands.Edit (edits.RemoveName b c t)) (words c.args.text.now) _ c.three.ensures (λ a b c x h. h.2 ∙ ap commands.Edit h.1) (λ a b c. refl))

pub returns : goal.returns
returns c =
    others _ _ _ _ _
    (passed 29 30 c.args.name.now (codes "ncreate") _ _ refl c.if-is.ensures
    ∙ passed 30 31 c.args.name.now (codes "nadd") _ _ refl c.if-is-2.ensures
    ∙ passed 31 32 c.args.name.now (codes "nname") _ _ refl c.if-is-3.ensures
    ∙ passed 32 33 c.args.name.now (codes "nset") _ _ refl c.if-is-4.ensures
    ∙ passed 33 34 c.args.name.now (codes "nunref") _ _ refl c.if-is-5.ensures)
    c.from_chains.ensures
