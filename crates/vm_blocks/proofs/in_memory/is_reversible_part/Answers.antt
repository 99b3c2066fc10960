use Rattle.vm_blocks.specs.Bodies.{body_value}
use Rattle.std.proofs.Common.{sym, ◌∙◌}
use Rattle.vm_blocks.specs.Changes.{directed_part}
use Rattle.vm_blocks.proofs.Reversing.{reversible_part}
use Rattle.vm_blocks.proofs.in_memory.is_reversible_part.Goals as goal

pub returns-clause-yes : goal.returns-clause-yes
returns-clause-yes g c = λ exact.
    reversible_part (directed_part c.args.direction c.args.part.now) c.args.handle.0 c.args.blocks.now (body_value c.body-body.result.now) (sym c.is_resident.ensures ∙ c.if-not-is_resident.false) c.body-body.ensures c.reveal_invariant.ensures
    (c.is_exact.ensures.0 exact)
