use Rattle.std.proofs.Common.{refl, ◌∙◌, codes}
use Rattle.geos_model.specs.Script.{block, user_id, chunk, words}
use Rattle.geos_model.specs.declared.command.Command.TheVariants as commands
use Rattle.geos_script.proofs.Rows.{at_row, passed, others, made_0, made_1, made_2}
use Rattle.geos_script.proofs.commands.from_block_look_ups.Goals as goal

pub returns-then-is : goal.returns-then-is
returns-then-is c = at_row 52 _ (codes "info") _ _ _ c.if-is.ensures refl (made_1 block _ _ (λ b. commands.Info b) (words c.args.text.now) _ c.one.ensures (λ a x h. h.2 ∙ h.1) (λ a. refl))

pub returns-then-is-2 : goal.returns-then-is-2
returns-then-is-2 c = at_row 52 _ (codes "gettype") _ _ _ c.if-is-2.ensures refl (made_1 block _ _ (λ b. commands.HeapType b) (words c.args.text.now) _ c.one-then-is-2.ensures (λ a x h. h.2 ∙ h.1) (λ a. refl))

pub returns-then-is-3 : goal.returns-then-is-3
returns-then-is-3 c = at_row 52 _ (codes "list") _ _ _ c.if-is-3.ensures refl (made_0 _ commands.List (words c.args.text.now) _ c.none.ensures (λ x h. h) refl)

pub returns-then-is-4 : goal.returns-then-is-4
returns-then-is-4 c = at_row 52 _ (codes "find") _ _ _ c.if-is-4.ensures refl (made_2 user_id block _ _ (λ u b. commands.Find u b) (words c.args.text.now) _ c.two.ensures (λ a b x h. h.2 ∙ h.1) (λ a b. refl))

pub returns-then-is-5 : goal.returns-then-is-5
returns-then-is-5 c = at_row 52 _ (codes "mapblock") _ _ _ c.if-is-5.ensures refl (made_0 _ commands.MapBlock (words c.args.text.now) _ c.none-then-is-5.ensures (λ x h. h) refl)

pub returns-then-is-6 : goal.returns-then-is-6
returns-then-is-6 c = at_row 52 _ (codes "vread") _ _ _ c.if-is-6.ensures refl (made_1 block _ _ (λ b. commands.ReadRaw b) (words c.args.text.now) _ c.one-then-is-6.ensures (λ a x h. h.2 ∙ h.1) (λ a. refl))

pub returns-then-is-7 : goal.returns-then-is-7
returns-then-is-7 c = at_row 52 _ (codes "chunks") _ _ _ c.if-is-7.ensures refl (made_1 block _ _ (λ b. commands.Chunks b) (words c.args.text.now) _ c.one-then-is-7.ensures (λ a x h. h.2 ∙ h.1) (λ a. refl))

pub returns-then-is-8 : goal.returns-then-is-8
returns-then-is-8 c = at_row 52 _ (codes "read") _ _ _ c.if-is-8.ensures refl (made_2 block chunk _ _ (λ b c. commands.Read b c) (words c.args.text.now) _ c.two-then-is-8.ensures (λ a b x h. h.2 ∙ h.1) (λ a b. refl))

pub returns : goal.returns
returns c =
    others _ _ _ _ _
    (passed 52 53 c.args.name.now (codes "info") _ _ refl c.if-is.ensures
    ∙ passed 53 54 c.args.name.now (codes "gettype") _ _ refl c.if-is-2.ensures
    ∙ passed 54 55 c.args.name.now (codes "list") _ _ refl c.if-is-3.ensures
    ∙ passed 55 56 c.args.name.now (codes "find") _ _ refl c.if-is-4.ensures
    ∙ passed 56 57 c.args.name.now (codes "mapblock") _ _ refl c.if-is-5.ensures
    ∙ passed 57 58 c.args.name.now (codes "vread") _ _ refl c.if-is-6.ensures
    ∙ passed 58 59 c.args.name.now (codes "chunks") _ _ refl c.if-is-7.ensures
    ∙ passed 59 60 c.args.name.now (codes "read") _ _ refl c.if-is-8.ensures)
    c.from_array_look_ups.ensures
