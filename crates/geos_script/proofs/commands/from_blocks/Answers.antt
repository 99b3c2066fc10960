use Rattle.std.proofs.Common.{ap, refl, ◌∙◌, codes}
use Rattle.geos_model.specs.declared.command.Edit.TheVariants as edits
use Rattle.geos_model.specs.Script.{block, bytes, number, user_id, words}
use Rattle.geos_model.specs.declared.command.Command.TheVariants as commands
use Rattle.geos_script.proofs.Rows.{at_row, passed, others, made_1, made_2, made_3, made_4}
use Rattle.geos_script.proofs.commands.from_blocks.Goals as goal

pub returns-then-is : goal.returns-then-is
returns-then-is c = at_row 0 _ (codes "newraw") _ _ _ c.if-is.ensures refl (made_2 user_id number _ _ (λ u n. commands.Edit (edits.NewRaw u n)) (words c.args.text.now) _ c.two.ensures (λ a b x h. h.2 ∙ ap commands.Edit h.1) (λ a b. refl))

pub returns-then-is-2 : goal.returns-then-is-2
returns-then-is-2 c = at_row 0 _ (codes "newheap") _ _ _ c.if-is-2.ensures refl (made_1 user_id _ _ (λ u. commands.Edit (edits.NewHeap u)) (words c.args.text.now) _ c.one.ensures (λ a x h. h.2 ∙ ap commands.Edit h.1) (λ a. refl))

pub returns-then-is-3 : goal.returns-then-is-3
returns-then-is-3 c = at_row 0 _ (codes "vfree") _ _ _ c.if-is-3.ensures refl (made_1 block _ _ (λ b. commands.Edit (edits.FreeBlock b)) (words c.args.text.now) _ c.one-then-is-3.ensures (λ a x h. h.2 ∙ ap commands.Edit h.1) (λ a. refl))

pub returns-then-is-4 : goal.returns-then-is-4
returns-then-is-4 c = at_row 0 _ (codes "vcopy") _ _ _ c.if-is-4.ensures refl (made_1 block _ _ (λ b. commands.Edit (edits.CopyBlock b)) (words c.args.text.now) _ c.one-then-is-4.ensures (λ a x h. h.2 ∙ ap commands.Edit h.1) (λ a. refl))

pub returns-then-is-5 : goal.returns-then-is-5
returns-then-is-5 c = at_row 0 _ (codes "vwrite") _ _ _ c.if-is-5.ensures refl (made_3 block number bytes _ _ (λ b at bs. commands.Edit (edits.WriteRaw b at bs)) (words c.args.text.now) _ c.three.ensures (λ a b bs x h. h.2 ∙ ap commands.Edit h.1) (λ a b bs. refl))

pub returns-then-is-6 : goal.returns-then-is-6
returns-then-is-6 c = at_row 0 _ (codes "vsplice") _ _ _ c.if-is-6.ensures refl (made_4 block number number bytes _ _ (λ b at n bs. commands.Edit (edits.SpliceRaw b at n bs)) (words c.args.text.now) _ c.four.ensures (λ a b c bs x h. h.2 ∙ ap commands.Edit h.1) (λ a b c bs. refl))

pub returns-then-is-7 : goal.returns-then-is-7
returns-then-is-7 c = at_row 0 _ (codes "attach") _ _ _ c.if-is-7.ensures refl (made_2 block bytes _ _ (λ b bs. commands.Edit (edits.Attach b bs)) (words c.args.text.now) _ c.two-then-is-7.ensures (λ a bs x h. h.2 ∙ ap commands.Edit h.1) (λ a bs. refl))

pub returns-then-is-8 : goal.returns-then-is-8
returns-then-is-8 c = at_row 0 _ (codes "uid") _ _ _ c.if-is-8.ensures refl (made_2 block user_id _ _ (λ b u. commands.Edit (edits.SetUserId b u)) (words c.args.text.now) _ c.two-then-is-8.ensures (λ a b x h. h.2 ∙ ap commands.Edit h.1) (λ a b. refl))

pub returns-then-is-9 : goal.returns-then-is-9
returns-then-is-9 c = at_row 0 _ (codes "settype") _ _ _ c.if-is-9.ensures refl (made_2 block user_id _ _ (λ b t. commands.Edit (edits.SetType b t)) (words c.args.text.now) _ c.two-then-is-9.ensures (λ a b x h. h.2 ∙ ap commands.Edit h.1) (λ a b. refl))

pub returns-then-is-10 : goal.returns-then-is-10
returns-then-is-10 c = at_row 0 _ (codes "map") _ _ _ c.if-is-10.ensures refl (made_1 block _ _ (λ b. commands.Edit (edits.SetMap b)) (words c.args.text.now) _ c.one-then-is-10.ensures (λ a x h. h.2 ∙ ap commands.Edit h.1) (λ a. refl))

pub returns : goal.returns
returns c =
    others _ _ _ _ _
    (passed 0 1 c.args.name.now (codes "newraw") _ _ refl c.if-is.ensures
    ∙ passed 1 2 c.args.name.now (codes "newheap") _ _ refl c.if-is-2.ensures
    ∙ passed 2 3 c.args.name.now (codes "vfree") _ _ refl c.if-is-3.ensures
    ∙ passed 3 4 c.args.name.now (codes "vcopy") _ _ refl c.if-is-4.ensures
    ∙ passed 4 5 c.args.name.now (codes "vwrite") _ _ refl c.if-is-5.ensures
    ∙ passed 5 6 c.args.name.now (codes "vsplice") _ _ refl c.if-is-6.ensures
    ∙ passed 6 7 c.args.name.now (codes "attach") _ _ refl c.if-is-7.ensures
    ∙ passed 7 8 c.args.name.now (codes "uid") _ _ refl c.if-is-8.ensures
    ∙ passed 8 9 c.args.name.now (codes "settype") _ _ refl c.if-is-9.ensures
    ∙ passed 9 10 c.args.name.now (codes "map") _ _ refl c.if-is-10.ensures)
    c.from_chunks.ensures
