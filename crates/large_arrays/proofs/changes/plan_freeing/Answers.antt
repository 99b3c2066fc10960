use Rattle.std.proofs.Common.{◌∷◌, ◌++◌, ◌∙◌, List, [], sym, ap, subst}
use Rattle.geos_model.specs.Document.{handles_of}
use Rattle.document_file.specs.Members.{imaged_blocks}
use Rattle.vm_blocks.specs.declared.change.Change.{Change}
use Rattle.vm_blocks.specs.declared.change.Change.TheVariants as changes
use Rattle.large_arrays.specs.ChangePlans.{ArePlanned, ArePlannedByHandle}
use Rattle.large_arrays.proofs.PlannedChanges.{freeing_listed, freeing_planned}
use Rattle.large_arrays.proofs.changes.plan_freeing.Goals as goal

pub returns-clause-planned : goal.returns-clause-planned
returns-clause-planned c = λ d can.
    subst (λ (cs : List Change). ArePlanned cs d (handles_of (imaged_blocks c.args.freed.list.items)) []) (sym (c.in_ok-push.ensures.items ∙ ap (λ (cs : List Change). cs ++ changes.BlocksOut c.args.freed ∷ []) c.new-changes.ensures.items)) (freeing_planned c.args.freed d can)

pub returns-clause-listed : goal.returns-clause-listed
returns-clause-listed c = λ d can.
    subst (λ (cs : List Change). ArePlannedByHandle cs d (handles_of (imaged_blocks c.args.freed.list.items)) []) (sym (c.in_ok-push.ensures.items ∙ ap (λ (cs : List Change). cs ++ changes.BlocksOut c.args.freed ∷ []) c.new-changes.ensures.items)) (freeing_listed c.args.freed d can)
