use Rattle.std.proofs.Common.{◌≡◌, ◌∙◌, ◌-◌, ◌⊎◌, ℕ, length, take, drop, get_or, refl, ap, inl, inr, arith}
use Rattle.geos_model.specs.declared.fault.Fault.{Fault}
use Rattle.geos_model.specs.declared.fault.Fault.TheVariants.{BadChain}
use Rattle.vm_blocks.specs.Keeping.{IsEnvironmentFault}
use Rattle.vm_blocks.proofs.KeepingLaws.{keeps-trans, lacks-later}
use Rattle.vm_chains.proofs.Loading.{carried, carried_so, still_room}
use Rattle.large_bodies.specs.SizedElements.{SizedElements}
use Rattle.large_arrays.specs.declared.spot.BranchLink.{BranchLink}
use Rattle.large_arrays.proofs.Marking.{no_link}
use Rattle.large_arrays.proofs.OverwritingSteps.{overwritten-none, overwritten-more, overwritten-stops, overwritten-all, overwritten-listed}
use Rattle.large_arrays.proofs.overwriting.plan_branches.Goals as goal

pub loop-link-init : goal.loop-link-init
loop-link-init g c =
    overwritten-none g.S.Store.facts c.args.links.now c.args.start c.args.new.now c.args.blocks.now c.count-count.result c.new-changes.result.items c.count-count.ensures.value c.new-changes.ensures.items c.requires.first

pub plan_branch-requires-clause-room : goal.plan_branch-requires-clause-room
plan_branch-requires-clause-room g c = still_room g.S.Store.facts c.args.blocks.now c.loop-link.blocks c.loop-link.invariant.keeps c.requires.room

pub returns-in_err-plan_branch-clause-keeps : goal.returns-in_err-plan_branch-clause-keeps
returns-in_err-plan_branch-clause-keeps g c = keeps-trans g.S.Store.facts c.args.blocks.now c.loop-link.blocks c.plan_branch.new.blocks c.loop-link.invariant.keeps c.plan_branch.ensures.keeps

pub returns-in_err-plan_branch-clause-value : goal.returns-in_err-plan_branch-clause-value
returns-in_err-plan_branch-clause-value g c = λ steady enough.
    let a = c.args.blocks.now in let b = c.loop-link.blocks in let e = c.plan_branch.new.blocks in let links = c.args.links.now in let k : ℕ = c.loop-link.link-index in let new = c.args.new.now in
    let from : ℕ = c.loop-link.from in let left : ℕ = c.loop-link.left in let part = c.part_of-part.result in let fault = c.in_err-plan_branch.field-0.0 in
    let link : BranchLink = get_or links k no_link in
    let part_is : part ≡ record { size = new.size; elements = take (link.count - from) (drop (length new.elements - left) new.elements) } =
    ◌∙◌ {A = SizedElements} c.part_of-part.ensures (λ t. record { size = new.size; elements = take (c.from.ensures t - from) (drop (c.count-count.ensures.value t - left) new.elements) }) in
    carried c.from_residual.result fault _ _ c.from_residual.ensures.1
    (overwritten-stops g.S.Store.facts links c.args.start new k from left link part c.loop-link.changes.items c.loop-link.changes.items c.loop-link-test.true refl c.requires.once c.requires.small part_is
    a b e fault c.loop-link.invariant c.in_err-plan_branch.ensures.value)

pub returns-in_err-plan_branch-clause-refusals : goal.returns-in_err-plan_branch-clause-refusals
returns-in_err-plan_branch-clause-refusals g c =
    let a = c.args.blocks.now in let b = c.loop-link.blocks in let e = c.plan_branch.new.blocks in let fault = c.in_err-plan_branch.field-0.0 in
    let lacks : Fault → Type 0 = IsEnvironmentFault g.S.Store.facts a.disk.store e.disk.store in
    let stops : lacks fault ⊎ (fault ≡ BadChain) = elim c.in_err-plan_branch.ensures.value [
      | inl lack ↦ inl (lacks-later g.S.Store.facts a b e.disk.store fault c.loop-link.invariant.keeps lack)
      | inr bad ↦ inr bad.0
    ] in
    carried_so c.from_residual.result fault _ c.from_residual.ensures.1 stops

pub loop-link-preserved : goal.loop-link-preserved
loop-link-preserved g c =
    let a = c.args.blocks.now in let b = c.loop-link.blocks in let e = c.plan_branch.new.blocks in let links = c.args.links.now in let k : ℕ = c.loop-link.link-index in let new = c.args.new.now in
    let from : ℕ = c.loop-link.from in let left : ℕ = c.loop-link.left in let part = c.part_of-part.result in
    let link : BranchLink = get_or links k no_link in
    let part_is : part ≡ record { size = new.size; elements = take (link.count - from) (drop (length new.elements - left) new.elements) } =
    ◌∙◌ {A = SizedElements} c.part_of-part.ensures (λ t. record { size = new.size; elements = take (c.from.ensures t - from) (drop (c.count-count.ensures.value t - left) new.elements) }) in
    overwritten-more g.S.Store.facts links c.args.start new k from left link part c.loop-link.changes.items c.plan_branch.new.changes.items c.loop-link-test.true refl c.requires.once c.requires.small part_is
    a b e (left - c.count-left.result) c.loop-link.invariant c.plan_branch.ensures.keeps c.in_ok-plan_branch.ensures.value c.in_ok-plan_branch.ensures.more
    (ap (λ (n : ℕ). left - n) c.count-left.ensures.value)

pub returns-clause-keeps : goal.returns-clause-keeps
returns-clause-keeps g c = c.loop-link.invariant.keeps

pub returns-clause-value : goal.returns-clause-value
returns-clause-value g c = λ steady enough.
    overwritten-all g.S.Store.facts c.args.links.now c.args.start c.args.new.now c.args.blocks.now c.loop-link.blocks c.loop-link.link-index c.loop-link.from c.loop-link.left c.loop-link.changes.items c.loop-link.invariant c.loop-link-test.false steady enough

pub returns-clause-listed : goal.returns-clause-listed
returns-clause-listed g c =
    overwritten-listed g.S.Store.facts c.args.links.now c.args.start c.args.new.now c.args.blocks.now c.loop-link.blocks c.loop-link.link-index c.loop-link.from c.loop-link.left c.loop-link.changes.items c.loop-link.invariant c.loop-link-test.false

pub returns-clause-many : goal.returns-clause-many
returns-clause-many g c = (let many = c.loop-link.invariant.many in omega arith)
