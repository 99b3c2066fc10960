use Rattle.std.proofs.Common.{ap, refl, ◌∙◌, codes}
use Rattle.geos_model.specs.declared.command.Edit.TheVariants as edits
use Rattle.geos_model.specs.Script.{block, bytes, number, chunk, words}
use Rattle.geos_model.specs.declared.command.Command.TheVariants as commands
use Rattle.geos_script.proofs.Rows.{at_row, passed, others, made_2, made_3, made_4, made_5}
use Rattle.geos_script.proofs.commands.from_chunks.Goals as goal

pub returns-then-is : goal.returns-then-is
returns-then-is c = at_row 10 _ (codes "alloc") _ _ _ c.if-is.ensures refl (made_2 block number _ _ (λ b n. commands.Edit (edits.Alloc b n)) (words c.args.text.now) _ c.two.ensures (λ a b x h. h.2 ∙ ap commands.Edit h.1) (λ a b. refl))

pub returns-then-is-2 : goal.returns-then-is-2
returns-then-is-2 c = at_row 10 _ (codes "free") _ _ _ c.if-is-2.ensures refl (made_2 block chunk _ _ (λ b c. commands.Edit (edits.Free b c)) (words c.args.text.now) _ c.two-then-is-2.ensures (λ a b x h. h.2 ∙ ap commands.Edit h.1) (λ a b. refl))

pub returns-then-is-3 : goal.returns-then-is-3
returns-then-is-3 c = at_row 10 _ (codes "resize") _ _ _ c.if-is-3.ensures refl (made_3 block chunk number _ _ (λ b c n. commands.Edit (edits.Resize b c n)) (words c.args.text.now) _ c.three.ensures (λ a b c x h. h.2 ∙ ap commands.Edit h.1) (λ a b c. refl))

pub returns-then-is-4 : goal.returns-then-is-4
returns-then-is-4 c = at_row 10 _ (codes "insert") _ _ _ c.if-is-4.ensures refl (made_4 block chunk number number _ _ (λ b c at n. commands.Edit (edits.Insert b c at n)) (words c.args.text.now) _ c.four.ensures (λ a b c d x h. h.2 ∙ ap commands.Edit h.1) (λ a b c d. refl))

pub returns-then-is-5 : goal.returns-then-is-5
returns-then-is-5 c = at_row 10 _ (codes "delete") _ _ _ c.if-is-5.ensures refl (made_4 block chunk number number _ _ (λ b c at n. commands.Edit (edits.Delete b c at n)) (words c.args.text.now) _ c.four-then-is-5.ensures (λ a b c d x h. h.2 ∙ ap commands.Edit h.1) (λ a b c d. refl))

pub returns-then-is-6 : goal.returns-then-is-6
returns-then-is-6 c = at_row 10 _ (codes "write") _ _ _ c.if-is-6.ensures refl (made_4 block chunk number bytes _ _ (λ b c at bs. commands.Edit (edits.Write b c at bs)) (words c.args.text.now) _ c.four-then-is-6.ensures (λ a b c bs x h. h.2 ∙ ap commands.Edit h.1) (λ a b c bs. refl))

pub returns-then-is-7 : goal.returns-then-is-7
returns-then-is-7 c = at_row 10 _ (codes "splice") _ _ _ c.if-is-7.ensures refl (made_5 block chunk number number bytes _ _ (λ b c at n bs. commands.Edit (edits.Splice b c at n bs)) (words c.args.text.now) _ c.five.ensures (λ a b c d bs x h. h.2 ∙ ap commands.Edit h.1) (λ a b c d bs. refl))

pub returns : goal.returns
returns c =
    others _ _ _ _ _
    (passed 10 11 c.args.name.now (codes "alloc") _ _ refl c.if-is.ensures
    ∙ passed 11 12 c.args.name.now (codes "free") _ _ refl c.if-is-2.ensures
    ∙ passed 12 13 c.args.name.now (codes "resize") _ _ refl c.if-is-3.ensures
    ∙ passed 13 14 c.args.name.now (codes "insert") _ _ refl c.if-is-4.ensures
    ∙ passed 14 15 c.args.name.now (codes "delete") _ _ refl c.if-is-5.ensures
    ∙ passed 15 16 c.args.name.now (codes "write") _ _ refl c.if-is-6.ensures
    ∙ passed 16 17 c.args.name.now (codes "splice") _ _ refl c.if-is-7.ensures)
    c.from_arrays.ensures
