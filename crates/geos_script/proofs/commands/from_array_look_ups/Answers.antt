use Rattle.std.proofs.Common.{refl, ◌∙◌, codes}
use Rattle.geos_model.specs.Script.{block, bytes, number, chunk, token, words}
use Rattle.geos_model.specs.declared.command.Command.TheVariants as commands
use Rattle.geos_script.proofs.Rows.{at_row, passed, others, made_2, made_3}
use Rattle.geos_script.proofs.commands.from_array_look_ups.Goals as goal

pub returns-then-is : goal.returns-then-is
returns-then-is c = at_row 60 _ (codes "acount") _ _ _ c.if-is.ensures refl (made_2 block chunk _ _ (λ b c. commands.ArrayCount b c) (words c.args.text.now) _ c.two.ensures (λ a b x h. h.2 ∙ h.1) (λ a b. refl))

pub returns-then-is-2 : goal.returns-then-is-2
returns-then-is-2 c = at_row 60 _ (codes "aget") _ _ _ c.if-is-2.ensures refl (made_3 block chunk number _ _ (λ b c i. commands.ArrayElement b c i) (words c.args.text.now) _ c.three.ensures (λ a b c x h. h.2 ∙ h.1) (λ a b c. refl))

pub returns-then-is-3 : goal.returns-then-is-3
returns-then-is-3 c = at_row 60 _ (codes "ecount") _ _ _ c.if-is-3.ensures refl (made_3 block chunk token _ _ (λ b c t. commands.ElementReferences b c t) (words c.args.text.now) _ c.three-then-is-3.ensures (λ a b c x h. h.2 ∙ h.1) (λ a b c. refl))

pub returns-then-is-4 : goal.returns-then-is-4
returns-then-is-4 c = at_row 60 _ (codes "edata") _ _ _ c.if-is-4.ensures refl (made_3 block chunk token _ _ (λ b c t. commands.ElementBytes b c t) (words c.args.text.now) _ c.three-then-is-4.ensures (λ a b c x h. h.2 ∙ h.1) (λ a b c. refl))

pub returns-then-is-5 : goal.returns-then-is-5
returns-then-is-5 c = at_row 60 _ (codes "eused") _ _ _ c.if-is-5.ensures refl (made_2 block chunk _ _ (λ b c. commands.ElementsUsed b c) (words c.args.text.now) _ c.two-then-is-5.ensures (λ a b x h. h.2 ∙ h.1) (λ a b. refl))

pub returns-then-is-6 : goal.returns-then-is-6
returns-then-is-6 c = at_row 60 _ (codes "etoken") _ _ _ c.if-is-6.ensures refl (made_3 block chunk number _ _ (λ b c k. commands.TokenOfUsed b c k) (words c.args.text.now) _ c.three-then-is-6.ensures (λ a b c x h. h.2 ∙ h.1) (λ a b c. refl))

pub returns-then-is-7 : goal.returns-then-is-7
returns-then-is-7 c = at_row 60 _ (codes "eindex") _ _ _ c.if-is-7.ensures refl (made_3 block chunk token _ _ (λ b c t. commands.UsedOfToken b c t) (words c.args.text.now) _ c.three-then-is-7.ensures (λ a b c x h. h.2 ∙ h.1) (λ a b c. refl))

pub returns-then-is-8 : goal.returns-then-is-8
returns-then-is-8 c = at_row 60 _ (codes "nfind") _ _ _ c.if-is-8.ensures refl (made_3 block chunk bytes _ _ (λ b c name. commands.NameFind b c name) (words c.args.text.now) _ c.three-then-is-8.ensures (λ a b bs x h. h.2 ∙ h.1) (λ a b bs. refl))

pub returns-then-is-9 : goal.returns-then-is-9
returns-then-is-9 c = at_row 60 _ (codes "ncount") _ _ _ c.if-is-9.ensures refl (made_3 block chunk token _ _ (λ b c t. commands.NameReferences b c t) (words c.args.text.now) _ c.three-then-is-9.ensures (λ a b c x h. h.2 ∙ h.1) (λ a b c. refl))

pub returns-then-is-10 : goal.returns-then-is-10
returns-then-is-10 c = at_row 60 _ (codes "ntext") _ _ _ c.if-is-10.ensures refl (made_3 block chunk token _ _ (λ b c t. commands.NameText b c t) (words c.args.text.now) _ c.three-then-is-10.ensures (λ a b c x h. h.2 ∙ h.1) (λ a b c. refl))

pub returns-then-is-11 : goal.returns-then-is-11
returns-then-is-11 c = at_row 60 _ (codes "ndata") _ _ _ c.if-is-11.ensures refl (made_3 block chunk token _ _ (λ b c t. commands.NamePart b c t) (words c.args.text.now) _ c.three-then-is-11.ensures (λ a b c x h. h.2 ∙ h.1) (λ a b c. refl))

pub returns : goal.returns
returns c =
    others _ _ _ _ _
    (passed 60 61 c.args.name.now (codes "acount") _ _ refl c.if-is.ensures
    ∙ passed 61 62 c.args.name.now (codes "aget") _ _ refl c.if-is-2.ensures
    ∙ passed 62 63 c.args.name.now (codes "ecount") _ _ refl c.if-is-3.ensures
    ∙ passed 63 64 c.args.name.now (codes "edata") _ _ refl c.if-is-4.ensures
    ∙ passed 64 65 c.args.name.now (codes "eused") _ _ refl c.if-is-5.ensures
    ∙ passed 65 66 c.args.name.now (codes "etoken") _ _ refl c.if-is-6.ensures
    ∙ passed 66 67 c.args.name.now (codes "eindex") _ _ refl c.if-is-7.ensures
    ∙ passed 67 68 c.args.name.now (codes "nfind") _ _ refl c.if-is-8.ensures
    ∙ passed 68 69 c.args.name.now (codes "ncount") _ _ refl c.if-is-9.ensures
    ∙ passed 69 70 c.args.name.now (codes "ntext") _ _ refl c.if-is-10.ensures
    ∙ passed 70 71 c.args.name.now (codes "ndata") _ _ refl c.if-is-11.ensures)
    c.from_chain_look_ups.ensures
