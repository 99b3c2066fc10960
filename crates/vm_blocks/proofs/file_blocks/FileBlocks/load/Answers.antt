use Rattle.std.proofs.Common.{◌∙◌, sym}
use Rattle.std.proofs.lemmas.Bool.{true≢false}
use Rattle.vm_blocks.proofs.KeepingLaws.{keeps-refl, loaded-live}
use Rattle.vm_blocks.proofs.file_blocks.FileBlocks.load.Goals as goal

pub returns-else-is_live-clause-keeps : goal.returns-else-is_live-clause-keeps
returns-else-is_live-clause-keeps g c = keeps-refl g.S.Store.facts c.args.self.now

pub returns-else-is_live-clause-already : goal.returns-else-is_live-clause-already
returns-else-is_live-clause-already g c = λ loaded. absurd (true≢false (sym (loaded-live c.args.self.now c.args.handle.0 loaded) ∙ sym c.is_live.ensures ∙ c.if-is_live.false))
