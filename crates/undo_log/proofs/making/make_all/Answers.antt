use Rattle.std.proofs.Common.{◌≡◌, List, OnOk, map, reverse, ap, subst, sym, ◌∙◌}
use Rattle.std.specs.Prelude.{IfErr}
use Rattle.std.proofs.lemmas.List.{reverse-reverse}
use Rattle.chunk_edits.specs.declared.direction.Direction.TheVariants.{Forwards}
use Rattle.vm_blocks.specs.Changes.{directed}
use Rattle.vm_blocks.specs.Preparing.{AreApplied, CanApplyAllByHandle, CantPrepareAll}
use Rattle.vm_blocks.specs.declared.change.Change.{Change}
use Rattle.undo_log.proofs.Listing.{forwards}
use Rattle.undo_log.proofs.making.make_all.Goals as goal

-- what is on the stack is made in the order of the changes
made_from : (stack cs : List Change) → stack ≡ reverse cs → map (directed Forwards) (reverse stack) ≡ cs
made_from stack cs is = forwards (reverse stack) ∙ ap reverse is ∙ reverse-reverse cs

pub change_all-made-requires-clause-listed : goal.change_all-made-requires-clause-listed
change_all-made-requires-clause-listed g c =
    subst (λ (cs : List Change). CanApplyAllByHandle cs c.args.blocks.now.document) (sym (made_from _ c.args.changes.now c.reverse.ensures.after)) c.requires.listed

pub returns-clause-ok : goal.returns-clause-ok
returns-clause-ok g c =
    subst (λ (cs : List Change). OnOk c.change_all-made.result (AreApplied g.S.Store.facts cs c.args.blocks.now c.change_all-made.new.self)) (made_from _ c.args.changes.now c.reverse.ensures.after) c.change_all-made.ensures.ok

pub returns-clause-refusals : goal.returns-clause-refusals
returns-clause-refusals g c =
    subst (λ (cs : List Change). IfErr c.change_all-made.result (CantPrepareAll g.S.Store.facts cs c.args.blocks.now c.change_all-made.new.self)) (made_from _ c.args.changes.now c.reverse.ensures.after) c.change_all-made.ensures.refusals
