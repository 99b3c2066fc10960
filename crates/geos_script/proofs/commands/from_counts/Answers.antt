use Rattle.std.proofs.Common.{refl, ◌∙◌, codes}
use Rattle.geos_model.specs.Script.{block, words}
use Rattle.geos_model.specs.declared.command.Command.TheVariants as commands
use Rattle.geos_script.proofs.Rows.{at_row, passed, none_behind, made_0, made_1}
use Rattle.geos_script.proofs.commands.from_counts.Goals as goal

pub returns-then-is : goal.returns-then-is
returns-then-is c = at_row 77 _ (codes "lock") _ _ _ c.if-is.ensures refl (made_1 block _ _ (λ b. commands.Lock b) (words c.args.text.now) _ c.one.ensures (λ a x h. h.2 ∙ h.1) (λ a. refl))

pub returns-then-is-2 : goal.returns-then-is-2
returns-then-is-2 c = at_row 77 _ (codes "unlock") _ _ _ c.if-is-2.ensures refl (made_1 block _ _ (λ b. commands.Unlock b) (words c.args.text.now) _ c.one-then-is-2.ensures (λ a x h. h.2 ∙ h.1) (λ a. refl))

pub returns-then-is-3 : goal.returns-then-is-3
returns-then-is-3 c = at_row 77 _ (codes "dirty") _ _ _ c.if-is-3.ensures refl (made_1 block _ _ (λ b. commands.Dirty b) (words c.args.text.now) _ c.one-then-is-3.ensures (λ a x h. h.2 ∙ h.1) (λ a. refl))

pub returns-then-is-4 : goal.returns-then-is-4
returns-then-is-4 c = at_row 77 _ (codes "locks") _ _ _ c.if-is-4.ensures refl (made_1 block _ _ (λ b. commands.Locks b) (words c.args.text.now) _ c.one-then-is-4.ensures (λ a x h. h.2 ∙ h.1) (λ a. refl))

pub returns-then-is-5 : goal.returns-then-is-5
returns-then-is-5 c = at_row 77 _ (codes "undos") _ _ _ c.if-is-5.ensures refl (made_0 _ commands.Undos (words c.args.text.now) _ c.none.ensures (λ x h. h) refl)

pub returns-then-is-6 : goal.returns-then-is-6
returns-then-is-6 c = at_row 77 _ (codes "redos") _ _ _ c.if-is-6.ensures refl (made_0 _ commands.Redos (words c.args.text.now) _ c.none-then-is-6.ensures (λ x h. h) refl)

pub returns-then-is-7 : goal.returns-then-is-7
returns-then-is-7 c = at_row 77 _ (codes "modified") _ _ _ c.if-is-7.ensures refl (made_0 _ commands.Modified (words c.args.text.now) _ c.none-then-is-7.ensures (λ x h. h) refl)

pub returns-then-is-8 : goal.returns-then-is-8
returns-then-is-8 c = at_row 77 _ (codes "undoname") _ _ _ c.if-is-8.ensures refl (made_0 _ commands.UndoName (words c.args.text.now) _ c.none-then-is-8.ensures (λ x h. h) refl)

pub returns-then-is-9 : goal.returns-then-is-9
returns-then-is-9 c = at_row 77 _ (codes "redoname") _ _ _ c.if-is-9.ensures refl (made_0 _ commands.RedoName (words c.args.text.now) _ c.none-then-is-9.ensures (λ x h. h) refl)

pub returns-then-is-10 : goal.returns-then-is-10
returns-then-is-10 c = at_row 77 _ (codes "touched") _ _ _ c.if-is-10.ensures refl (made_0 _ commands.Touched (words c.args.text.now) _ c.none-then-is-10.ensures (λ x h. h) refl)

pub returns-then-is-11 : goal.returns-then-is-11
returns-then-is-11 c = at_row 77 _ (codes "undoplaces") _ _ _ c.if-is-11.ensures refl (made_0 _ commands.UndoPlaces (words c.args.text.now) _ c.none-then-is-11.ensures (λ x h. h) refl)

pub returns-then-is-12 : goal.returns-then-is-12
returns-then-is-12 c = at_row 77 _ (codes "redoplaces") _ _ _ c.if-is-12.ensures refl (made_0 _ commands.RedoPlaces (words c.args.text.now) _ c.none-then-is-12.ensures (λ x h. h) refl)

pub returns-then-is-13 : goal.returns-then-is-13
returns-then-is-13 c = at_row 77 _ (codes "abandonplaces") _ _ _ c.if-is-13.ensures refl (made_0 _ commands.AbandonPlaces (words c.args.text.now) _ c.none-then-is-13.ensures (λ x h. h) refl)

pub returns : goal.returns
returns c =
    none_behind 77 _ _
    (passed 77 78 c.args.name.now (codes "lock") _ _ refl c.if-is.ensures
    ∙ passed 78 79 c.args.name.now (codes "unlock") _ _ refl c.if-is-2.ensures
    ∙ passed 79 80 c.args.name.now (codes "dirty") _ _ refl c.if-is-3.ensures
    ∙ passed 80 81 c.args.name.now (codes "locks") _ _ refl c.if-is-4.ensures
    ∙ passed 81 82 c.args.name.now (codes "undos") _ _ refl c.if-is-5.ensures
    ∙ passed 82 83 c.args.name.now (codes "redos") _ _ refl c.if-is-6.ensures
    ∙ passed 83 84 c.args.name.now (codes "modified") _ _ refl c.if-is-7.ensures
    ∙ passed 84 85 c.args.name.now (codes "undoname") _ _ refl c.if-is-8.ensures
    ∙ passed 85 86 c.args.name.now (codes "redoname") _ _ refl c.if-is-9.ensures
    ∙ passed 86 87 c.args.name.now (codes "touched") _ _ refl c.if-is-10.ensures
    ∙ passed 87 88 c.args.name.now (codes "undoplaces") _ _ refl c.if-is-11.ensures
    ∙ passed 88 89 c.args.name.now (codes "redoplaces") _ _ refl c.if-is-12.ensures
    ∙ passed 89 90 c.args.name.now (codes "abandonplaces") _ _ refl c.if-is-13.ensures)
