use Rattle.std.proofs.Common.{◌≡◌, sym, ap, subst, ◌∙◌}
use Rattle.geos_model.specs.Chain.{chain_blocks, chain_bytes}
use Rattle.vm_blocks.proofs.KeepingLaws.{keeps-steady}
use Rattle.vm_chains.specs.Numbers.{numbers}
use Rattle.vm_chains.specs.Walking.{AreBlocks}
use Rattle.vm_chains.proofs.ChainLemmas.{blocks_are}
use Rattle.vm_chains.proofs.Loading.{carried, carried_so}
use Rattle.vm_chains.proofs.measuring.size.Goals as goal

pub returns-in_err-handles-clause-value : goal.returns-in_err-handles-clause-value
returns-in_err-handles-clause-value g c = λ steady. carried c.from_residual.result c.in_err-handles.field-0.0 _ _ c.from_residual.ensures.1 (c.in_err-handles.ensures.value steady)

pub returns-in_err-handles-clause-refusals : goal.returns-in_err-handles-clause-refusals
returns-in_err-handles-clause-refusals g c = carried_so c.from_residual.result c.in_err-handles.field-0.0 _ c.from_residual.ensures.1 c.in_err-handles.ensures.refusals

pub total_len-requires : goal.total_len-requires
total_len-requires g c = subst (AreBlocks c.walk.new.blocks.document) (sym c.deref.ensures.value) c.in_ok-handles.ensures.live

pub returns-clause-value : goal.returns-clause-value
returns-clause-value g c = λ steady.
    let d = c.walk.new.blocks.document in let root = c.args.root.0 in let handles = c.in_ok-handles.handles.items in
    let walked = c.in_ok-handles.ensures.value steady in
    let all : numbers c.deref.result.now ≡ chain_blocks d root = ap numbers c.deref.ensures.value ∙ sym (blocks_are d root (numbers handles) walked.1) in
    (walked.0, c.total_len.ensures (keeps-steady g.S.Store.facts c.args.blocks.now c.walk.new.blocks c.walk.ensures.keeps steady) ∙ ap (chain_bytes d) all)
