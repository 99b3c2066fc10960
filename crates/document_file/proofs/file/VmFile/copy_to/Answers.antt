use Rattle.std.proofs.Common.{false, IsTrue, ◌≡◌, refl, sym, ap, subst, ◌∙◌}
use Rattle.document_file.specs.Documents.{document_in}
use Rattle.std.specs.Prelude.{Err, IfErr, IfOk}
use Rattle.geos_model.specs.declared.fault.Fault.TheVariants.{Damaged}
use Rattle.document_file.specs.Disk.{SameUnlessCorrupt}
use Rattle.document_file.specs.Effects.{IsNewFile}
use Rattle.document_file.proofs.EffectsLemmas.{view_reads, made_file}
use Rattle.document_file.proofs.LaidOutLemmas.{laid_drifts}
use Rattle.document_file.proofs.file.VmFile.copy_to.Goals.{in-Ok, in-Err}
use Rattle.document_file.specs.Sums.{AreSummed, has_sums}
use Rattle.document_file.proofs.SumsLemmas.{for_sums}
use Rattle.document_file.proofs.SoundLemmas.{file_rested}
use Rattle.document_file.proofs.file.VmFile.copy_to.Goals as goal

pub returns-clause-reads : goal.returns-clause-reads
returns-clause-reads g c =
    let i = c.self.inside in let source = c.copy_document.new.source in
    view_reads g.S.Store.facts i.store source i.live i.slots c.self.invariant.sound (λ so. (g.met.S.Store.timely source so).now) c.args.self.now c.self.view_is c.copy_document.ensures.looks

pub returns-clause-handles : goal.returns-clause-handles
returns-clause-handles g c =
    let old = c.args.self.now.document in
    elim c.match-copy_document.branch as (λ _. IfOk c.match-copy_document.result (λ file. SameUnlessCorrupt false old file.document)) [
      | in-Ok w ↦ subst (λ r. IfOk r (λ file. SameUnlessCorrupt false old file.document)) (sym w.result-is)
          (let i = c.self.inside in
          let new = w.in-Ok.made.live in
          let from = (g.S.Store.facts i.store).content in
          let to = (g.S.Store.facts c.copy_document.new.target).content in
          subst (λ s. SameUnlessCorrupt false s.document (document_in to new)) c.self.view_is
          (laid_drifts c.has_sums-checksums.result from to i.live.places.items i.live.map_block i.live new refl refl w.in-Ok.ensures.places w.in-Ok.ensures.map_block))
      | in-Err w ↦ subst (λ r. IfOk r (λ file. SameUnlessCorrupt false old file.document)) (sym w.result-is) tt
    ]

pub returns-clause-made : goal.returns-clause-made
returns-clause-made g c =
    elim c.match-copy_document.branch as (λ _. IfOk c.match-copy_document.result (λ file. IsNewFile g.S.Store.facts file.document file.disk)) [
      | in-Ok w ↦ subst (λ r. IfOk r (λ file. IsNewFile g.S.Store.facts file.document file.disk)) (sym w.result-is)
          (made_file g.S.Store.facts g.met.S.Store.timely c.has_sums-checksums.result c.copy_document.new.target w.in-Ok.made.live w.in-Ok.made.slots w.in-Ok.ensures.sound w.in-Ok.ensures.one)
      | in-Err w ↦ subst (λ r. IfOk r (λ file. IsNewFile g.S.Store.facts file.document file.disk)) (sym w.result-is) tt
    ]

pub returns-clause-checksums : goal.returns-clause-checksums
returns-clause-checksums g c =
    elim c.match-copy_document.branch as (λ _. IfOk c.match-copy_document.result (λ file. file.disk.checksums ≡ c.args.self.now.disk.checksums)) [
      | in-Ok w ↦ subst (λ r. IfOk r (λ file. file.disk.checksums ≡ c.args.self.now.disk.checksums)) (sym w.result-is)
          (ap has_sums w.in-Ok.ensures.one.next_version ∙ for_sums c.has_sums-checksums.result ∙ c.has_sums-checksums.ensures ∙ ap (λ f. f.disk.checksums) c.self.view_is)
      | in-Err w ↦ subst (λ r. IfOk r (λ file. file.disk.checksums ≡ c.args.self.now.disk.checksums)) (sym w.result-is) tt
    ]

pub returns-clause-damaged : goal.returns-clause-damaged
returns-clause-damaged g c =
    let facts = g.S.Store.facts in
    elim c.match-copy_document.branch as (λ _. IfErr c.match-copy_document.result (λ refused. refused.fault ≡ Damaged → IsTrue (facts c.args.self.now.disk.store).honest → ⊥)) [
      | in-Ok w ↦ subst (λ r. IfErr r (λ refused. refused.fault ≡ Damaged → IsTrue (facts c.args.self.now.disk.store).honest → ⊥)) (sym w.result-is) tt
      | in-Err w ↦ subst (λ r. IfErr r (λ refused. refused.fault ≡ Damaged → IsTrue (facts c.args.self.now.disk.store).honest → ⊥)) (sym w.result-is) (λ is so.
          let own : IsTrue (facts c.self.inside.store).honest = subst (λ s. IsTrue (facts s.disk.store).honest) (sym c.self.view_is) so in
          let whole = c.self.invariant.sound.whole own in
          w.in-Err.ensures.damaged (ap (λ f. Err f) is) own whole.images (subst (λ b. AreSummed b (facts c.self.inside.store).content c.self.inside.live.places.items) (sym c.has_sums-checksums.ensures) whole.sums))
    ]

pub invariant_of-self : goal.invariant_of-self
invariant_of-self g c = file_rested _ _ c.self.inside.live c.self.inside.slots c.self.inside.space c.self.inside.bounds c.self.invariant c.copy_document.ensures.looks
