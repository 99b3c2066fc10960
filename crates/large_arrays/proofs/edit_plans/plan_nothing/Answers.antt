use Rattle.std.proofs.Common.{◌≡◌, ◌∙◌, ◌∷◌, ℕ, List, [], sym, subst, arith}
use Rattle.geos_model.specs.Document.{Document, raw_bytes_of}
use Rattle.vm_blocks.specs.declared.change.Change.{Change}
use Rattle.large_arrays.specs.ChangePlans.{ArePlanned, ArePlannedByHandle, IsUntouched}
use Rattle.large_arrays.proofs.PlannedChanges.{none_planned, planned_listed}
use Rattle.large_arrays.proofs.PlannedEdits.{nothing-planned}
use Rattle.geos_model.proofs.Layouts.{raw-live}
use Rattle.large_arrays.proofs.edit_plans.plan_nothing.Goals as goal

-- nothing is touched before
untouched : (h : ℕ) → IsUntouched [] [] h
untouched h = record {
  stays = λ there. absurd (let none = there.1 in omega arith);
  other = λ there. absurd (let none = there.1 in omega arith);
}

pub returns-clause-planned : goal.returns-clause-planned
returns-clause-planned g c =
    let d : Document = c.args.blocks.now.document in let b : ℕ = c.args.root.0 in
    let changes : List Change = c.plan_body.new.changes.items in
    let reads : c.new-body.result.bytes.now ≡ raw_bytes_of d b = c.new-body.ensures.bytes ∙ c.raw_bytes-bytes.ensures.value in
    let first : ArePlanned c.new-changes.result.items d [] [] = subst (λ (cs : List Change). ArePlanned cs d [] []) (sym c.new-changes.ensures.items) (none_planned d) in
    nothing-planned changes d b c.requires.raw
    (subst (λ (bytes : List ℕ). ArePlanned changes d [] ((b, bytes) ∷ [])) reads (c.in_ok-plan_body.ensures.planned d [] [] first (untouched b) c.requires.raw (sym reads)))

pub returns-clause-listed : goal.returns-clause-listed
returns-clause-listed g c =
    let d : Document = c.args.blocks.now.document in let b : ℕ = c.args.root.0 in
    let first : ArePlannedByHandle c.new-changes.result.items d [] [] =
    subst (λ (cs : List Change). ArePlannedByHandle cs d [] []) (sym c.new-changes.ensures.items) (planned_listed [] d [] [] (none_planned d)) in
    (c.in_ok-plan_body.ensures.listed d [] [] first (untouched b) (raw-live d b c.requires.raw)).applies
