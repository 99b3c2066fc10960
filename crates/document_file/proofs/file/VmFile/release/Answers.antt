use Rattle.document_file.proofs.SoundLemmas.{sound_unmarked}
use Rattle.document_file.proofs.file.VmFile.release.Goals as goal

pub invariant_of-self : goal.invariant_of-self
invariant_of-self g c =
    let i = c.self.inside in
    record { sound = sound_unmarked (g.S.Store.facts i.store) i.live i.slots c.self.invariant.sound; bounded = c.self.invariant.bounded; known = tt }
