use Rattle.std.proofs.Common.{subst}
use Rattle.document_file.specs.Effects.{IsFile}
use Rattle.document_file.proofs.EffectsLemmas.{sound_file}
use Rattle.document_file.proofs.file.VmFile.reveal_invariant.Goals as goal

pub returns : goal.returns
returns g c = subst (IsFile g.S.Store.facts) c.self.view_is (sound_file g.S.Store.facts c.self.inside.store c.self.inside.live c.self.inside.slots c.self.invariant.sound)
