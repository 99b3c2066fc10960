use Rattle.std.proofs.Common.{Option, sym, subst, ◌∙◌}
use Rattle.document_file.specs.Listing.{AreBounds}
use Rattle.document_file.specs.Sound.{IsSound}
use Rattle.document_file.specs.declared.table.BlockTable.{BlockTable}
use Rattle.document_file.proofs.SoundLemmas.{sound_back}
use Rattle.document_file.proofs.file.VmFile.roll_back.Goals as goal

pub invariant_of-self : goal.invariant_of-self
invariant_of-self g c =
    let i = c.self.inside in
    let facts = g.S.Store.facts i.store in
    let marked = c.in-Some.marked in
    record {
      sound = subst (λ (m : Option BlockTable). IsSound facts marked (record i.slots { marked = m })) (sym c.take.ensures.after) (sound_back facts i.live marked i.slots (sym c.take.ensures.value ∙ c.in-Some.is) c.self.invariant.sound);
      bounded = subst (λ ps. AreBounds ps c.bounds_of-self-inside.result) c.deref.ensures.value c.bounds_of-self-inside.ensures;
      known = tt;
    }
