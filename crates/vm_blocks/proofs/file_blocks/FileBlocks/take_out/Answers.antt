use Rattle.vm_blocks.specs.declared.change.Change.TheVariants as changes
use Rattle.vm_blocks.proofs.ChangeOutcomes.{turns_exact}
use Rattle.vm_blocks.proofs.file_blocks.FileBlocks.take_out.Goals as goal

pub returns : goal.returns
returns g c = turns_exact g.S.Store.facts (changes.BlocksOut c.args.members.now) c.args.self.now c.take_all.new.self c.take_all.ensures.disk c.take_all.ensures.document c.take_all.ensures.frames c.take_all.ensures.locks tt (λ far. far)
