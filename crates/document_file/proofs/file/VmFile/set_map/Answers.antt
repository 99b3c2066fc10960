use Rattle.std.proofs.Common.{◌≡◌, ◌⊎◌, true, refl, sym, subst, inl, inr}
use Rattle.geos_model.specs.Document.{is_live}
use Rattle.document_file.proofs.SoundLemmas.{sound_map}
use Rattle.document_file.proofs.TableLemmas.{Lies, lies}
use Rattle.document_file.proofs.file.VmFile.set_map.Goals as goal

pub invariant_of-self : goal.invariant_of-self
invariant_of-self g c =
    let live = c.self.inside.live in
    let h = c.args.block.0 in
    let facts = g.S.Store.facts c.self.inside.store in
    record {
      sound = sound_map facts live _ c.self.inside.slots c.self.invariant.sound refl (elim c.requires as (λ _. (h ≡ 0) ⊎ (Lies live.places.items h)) [
        | inl none ↦ inl none
        | inr one ↦ inr (lies facts.content live.places.items live.map_block h (subst (λ s. is_live s.document h ≡ true) (sym c.self.view_is) one))
      ]);
      bounded = c.self.invariant.bounded;
      known = c.self.invariant.known;
    }
