use Rattle.document_file.proofs.CopiesLemmas.{sound_copied}
use Rattle.document_file.proofs.file.VmFile.mark.Goals as goal

pub invariant_of-self : goal.invariant_of-self
invariant_of-self g c =
    let i = c.self.inside in
    record { sound = sound_copied (g.S.Store.facts i.store) i.live c.in_ok-marked.marked i.slots c.in_ok-marked.ensures c.self.invariant.sound; bounded = c.self.invariant.bounded; known = tt }
