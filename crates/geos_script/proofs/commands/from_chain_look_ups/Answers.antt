use Rattle.std.proofs.Common.{refl, ◌∙◌, codes}
use Rattle.geos_model.specs.Script.{block, element_number, words}
use Rattle.geos_model.specs.declared.command.Command.TheVariants as commands
use Rattle.geos_script.proofs.Rows.{at_row, passed, others, made_1, made_2, made_3}
use Rattle.geos_script.proofs.commands.from_chain_look_ups.Goals as goal

pub returns-then-is : goal.returns-then-is
returns-then-is c = at_row 71 _ (codes "walk") _ _ _ c.if-is.ensures refl (made_1 block _ _ (λ b. commands.Walk b) (words c.args.text.now) _ c.one.ensures (λ a x h. h.2 ∙ h.1) (λ a. refl))

pub returns-then-is-2 : goal.returns-then-is-2
returns-then-is-2 c = at_row 71 _ (codes "chsize") _ _ _ c.if-is-2.ensures refl (made_1 block _ _ (λ b. commands.ChainSize b) (words c.args.text.now) _ c.one-then-is-2.ensures (λ a x h. h.2 ∙ h.1) (λ a. refl))

pub returns-then-is-3 : goal.returns-then-is-3
returns-then-is-3 c = at_row 71 _ (codes "chequal") _ _ _ c.if-is-3.ensures refl (made_2 block block _ _ (λ b other. commands.ChainEqual b other) (words c.args.text.now) _ c.two.ensures (λ a b x h. h.2 ∙ h.1) (λ a b. refl))

pub returns-then-is-4 : goal.returns-then-is-4
returns-then-is-4 c = at_row 71 _ (codes "hcount") _ _ _ c.if-is-4.ensures refl (made_1 block _ _ (λ b. commands.LargeCount b) (words c.args.text.now) _ c.one-then-is-4.ensures (λ a x h. h.2 ∙ h.1) (λ a. refl))

pub returns-then-is-5 : goal.returns-then-is-5
returns-then-is-5 c = at_row 71 _ (codes "hget") _ _ _ c.if-is-5.ensures refl (made_2 block element_number _ _ (λ b i. commands.LargeElement b i) (words c.args.text.now) _ c.two-then-is-5.ensures (λ a b x h. h.2 ∙ h.1) (λ a b. refl))

pub returns-then-is-6 : goal.returns-then-is-6
returns-then-is-6 c = at_row 71 _ (codes "hread") _ _ _ c.if-is-6.ensures refl (made_3 block element_number element_number _ _ (λ b i n. commands.LargeRun b i n) (words c.args.text.now) _ c.three.ensures (λ a b c x h. h.2 ∙ h.1) (λ a b c. refl))

pub returns : goal.returns
returns c =
    others _ _ _ _ _
    (passed 71 72 c.args.name.now (codes "walk") _ _ refl c.if-is.ensures
    ∙ passed 72 73 c.args.name.now (codes "chsize") _ _ refl c.if-is-2.ensures
    ∙ passed 73 74 c.args.name.now (codes "chequal") _ _ refl c.if-is-3.ensures
    ∙ passed 74 75 c.args.name.now (codes "hcount") _ _ refl c.if-is-4.ensures
    ∙ passed 75 76 c.args.name.now (codes "hget") _ _ refl c.if-is-5.ensures
    ∙ passed 76 77 c.args.name.now (codes "hread") _ _ refl c.if-is-6.ensures)
    c.from_counts.ensures
