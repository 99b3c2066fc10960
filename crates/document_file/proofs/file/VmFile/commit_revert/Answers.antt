use Rattle.std.proofs.Common.{◌≡◌, ◌≢◌, IsTrue, refl, sym, ap, subst, ◌∙◌}
use Rattle.std.specs.Prelude.{Ok, Err}
use Rattle.std.proofs.lemmas.Result.{err_from_is_err_and}
use Rattle.geos_model.specs.declared.fault.Fault.TheVariants.{Worn}
use Rattle.document_file.specs.Calls.{last_sequence}
use Rattle.document_file.specs.Copies.{IsCopy}
use Rattle.document_file.specs.Disk.{FileState, SameUnlessCorrupt}
use Rattle.document_file.specs.Documents.{Documents, document_in}
use Rattle.document_file.specs.Listing.{AreBounds}
use Rattle.document_file.specs.Effects.{IsCommit, IsTurned, KeepsSlot}
use Rattle.document_file.specs.Sound.{disk_of}
use Rattle.document_file.specs.declared.slot.Slots.{Slots}
use Rattle.document_file.specs.declared.table.Pair.{Pair}
use Rattle.document_file.proofs.CopiesLemmas.{sound_saved, copy_document, copy_itself, copy_drifts}
use Rattle.document_file.specs.PendingDirectories.{reverted}
use Rattle.document_file.proofs.SavedAnewLemmas.{reverted_document}
use Rattle.document_file.proofs.EffectsLemmas.{refused, refused_by, tried, view_settled}
use Rattle.document_file.proofs.TurnedLemmas.{turned_kept_slot, turned_shut, turned_version}
use Rattle.document_file.specs.Sums.{has_sums}
use Rattle.document_file.proofs.file.VmFile.commit_revert.Goals as goal

pub returns-then-self-clause-commit : goal.returns-then-self-clause-commit
returns-then-self-clause-commit g c =
    let i = c.self.inside in let f = c.args.self.now in
    refused g.S.Store.facts f _ _ Worn (view_settled g.S.Store.facts i.store i.live i.slots c.args.self.now c.self.view_is c.self.invariant.sound)
    (λ _. subst (λ s. s.disk.sequence ≡ last_sequence) c.self.view_is c.if-self.true, λ _. refl)

pub returns-in_err-anew-clause-commit : goal.returns-in_err-anew-clause-commit
returns-in_err-anew-clause-commit g c =
    let i = c.self.inside in let f = c.args.self.now in
    subst (λ (s : FileState g.row.S.Denot). IsCommit g.S.Store.facts (f.disk.saved, f.disk.saved) f.disk.saved f s c.from_residual.result) (sym c.self.view_is)
    (refused_by g.S.Store.facts f (f.disk.saved, f.disk.saved) f.disk.saved c.from_residual.result c.from_residual.ensures.1 (view_settled g.S.Store.facts i.store i.live i.slots f c.self.view_is c.self.invariant.sound)
    (subst (λ s. s.disk.sequence ≢ last_sequence) c.self.view_is c.if-self.false))

pub returns-in_err-pair-clause-commit : goal.returns-in_err-pair-clause-commit
returns-in_err-pair-clause-commit g c =
    let i = c.self.inside in let f = c.args.self.now in
    subst (λ (s : FileState g.row.S.Denot). IsCommit g.S.Store.facts (f.disk.saved, f.disk.saved) f.disk.saved f s c.from_residual-in_err-pair.result) (sym c.self.view_is)
    (refused_by g.S.Store.facts f (f.disk.saved, f.disk.saved) f.disk.saved c.from_residual-in_err-pair.result c.from_residual-in_err-pair.ensures.1 (view_settled g.S.Store.facts i.store i.live i.slots f c.self.view_is c.self.invariant.sound)
    (subst (λ s. s.disk.sequence ≢ last_sequence) c.self.view_is c.if-self.false))

pub returns-in_err-live-clause-commit : goal.returns-in_err-live-clause-commit
returns-in_err-live-clause-commit g c =
    let i = c.self.inside in let f = c.args.self.now in
    subst (λ (s : FileState g.row.S.Denot). IsCommit g.S.Store.facts (f.disk.saved, f.disk.saved) f.disk.saved f s c.from_residual-in_err-live.result) (sym c.self.view_is)
    (refused_by g.S.Store.facts f (f.disk.saved, f.disk.saved) f.disk.saved c.from_residual-in_err-live.result c.from_residual-in_err-live.ensures.1 (view_settled g.S.Store.facts i.store i.live i.slots f c.self.view_is c.self.invariant.sound)
    (subst (λ s. s.disk.sequence ≢ last_sequence) c.self.view_is c.if-self.false))

pub returns-in_err-commit_reverted-clause-commit : goal.returns-in_err-commit_reverted-clause-commit
returns-in_err-commit_reverted-clause-commit g c =
    let facts = g.S.Store.facts in let i = c.self.inside in
    let a = facts i.store in let b = facts c.commit_reverted.new.store in
    let p = err_from_is_err_and c.from_residual-in_err-commit_reverted.result c.from_residual-in_err-commit_reverted.ensures.1 in
    let fault = c.in_err-commit_reverted.field-0.0 in
    let old : FileState g.row.S.Denot = record { disk = disk_of facts i.store i.slots; document = document_in a.content i.live } in
    let new : FileState g.row.S.Denot = record { disk = disk_of facts c.commit_reverted.new.store c.commit_reverted.new.slots; document = document_in b.content i.live } in
    subst (λ (f : FileState g.row.S.Denot). IsCommit facts (f.disk.saved, f.disk.saved) f.disk.saved f new c.from_residual-in_err-commit_reverted.result) c.self.view_is
    (subst (λ r. IsCommit facts (old.disk.saved, old.disk.saved) old.disk.saved old new r) (sym (p.1 ∙ ap Err p.2))
    (tried facts g.met.S.Store.timely old new _ _ (Err fault) c.in_err-commit_reverted.ensures.commits tt
    (copy_drifts a.honest a.content b.content i.live i.live (copy_itself i.live) c.commit_reverted.ensures.same) c.in_err-commit_reverted.ensures.refusals c.if-self.false))

pub invariant_of-self-2 : goal.invariant_of-self-2
invariant_of-self-2 g c =
    let now = c.commit_reverted.new.slots in
    let pair = c.in_ok-pair.pair in
    let is : now.committed ≡ pair = ap (λ (s : Slots). s.committed) c.in_ok-commit_reverted.ensures.switched in
    let copy : IsCopy c.in_ok-live.live pair.saved.table.value = subst (IsCopy c.in_ok-live.live) c.deref.ensures c.in_ok-live.ensures in
    record {
      sound = sound_saved (g.S.Store.facts c.commit_reverted.new.store) c.self.inside.live c.in_ok-live.live now (subst (λ (s : Slots). has_sums s.version ≡ has_sums s.next_version) (sym c.in_ok-commit_reverted.ensures.switched) refl)
          (subst (λ (p : Pair). IsCopy c.in_ok-live.live p.saved.table.value) (sym is) copy) c.commit_reverted.ensures.sound;
      bounded = subst (λ ps. AreBounds ps c.bounds_of-self-inside.result) c.deref-2.ensures.value c.bounds_of-self-inside.ensures;
      known = tt;
    }

pub returns-clause-commit : goal.returns-clause-commit
returns-clause-commit g c =
    let facts = g.S.Store.facts in let i = c.self.inside in
    let saved = i.slots.committed.saved in
    let pair = c.in_ok-pair.pair in
    let live = c.in_ok-live.live in
    let copy : IsCopy live pair.saved.table.value = subst (IsCopy live) c.deref.ensures c.in_ok-live.ensures in
    let a = facts i.store in let b = facts c.commit_reverted.new.store in
    let s = reverted i.slots c.in_ok-anew.anew in
    let alike : pair.saved.table.value ≡ s.table.value = c.in_ok-pair.ensures.saved.table in
    let is : IsCopy live s.table.value = subst (IsCopy live) alike copy in
    let before : document_in a.content s.table.value ≡ document_in a.content saved.table.value = reverted_document i.live i.slots c.self.invariant.sound.formed a.content c.in_ok-anew.anew c.in_ok-anew.ensures.made in
    let same : IsTrue a.honest → document_in b.content live ≡ document_in a.content s.table.value = λ so.
    copy_document b.content live s.table.value is
    ∙ sym (ap (document_in b.content) alike)
    ∙ sym (ap (λ (x : Slots). document_in b.content x.committed.saved.table.value) c.in_ok-commit_reverted.ensures.switched)
    ∙ ap (λ (d : Documents). d.1) (c.in_ok-commit_reverted.ensures.commits.ok so).0
    ∙ sym before in
    let old : FileState g.row.S.Denot = record { disk = disk_of facts i.store i.slots; document = document_in a.content i.live } in
    let new : FileState g.row.S.Denot = record { disk = disk_of facts c.commit_reverted.new.store c.commit_reverted.new.slots; document = document_in b.content live } in
    subst (λ (f : FileState g.row.S.Denot). IsCommit facts (f.disk.saved, f.disk.saved) f.disk.saved f new (Ok tt)) c.self.view_is
    (tried facts g.met.S.Store.timely old new _ _ (Ok tt) c.in_ok-commit_reverted.ensures.commits
    (turned_version facts c.commit_reverted.new.store i.live i.slots c.in_ok-pair.pair c.commit_reverted.new.slots (g.met.S.Store.timely c.commit_reverted.new.store) c.commit_reverted.ensures.sound c.in_ok-commit_reverted.ensures.switched)
    (subst (λ d. SameUnlessCorrupt a.honest d (document_in b.content live)) before (copy_drifts a.honest a.content b.content live s.table.value is same)) tt c.if-self.false)

pub returns-clause-turned : goal.returns-clause-turned
returns-clause-turned g c =
    let facts = g.S.Store.facts in let i = c.self.inside in
    subst (λ (f : FileState g.row.S.Denot). IsTurned facts f.disk (disk_of facts c.commit_reverted.new.store c.commit_reverted.new.slots)) c.self.view_is
    (turned_shut facts i.store c.commit_reverted.new.store i.live i.slots c.commit_reverted.new.slots (g.met.S.Store.timely i.store) c.self.invariant.sound c.in_ok-commit_reverted.ensures.shut)

pub returns-clause-kept : goal.returns-clause-kept
returns-clause-kept g c =
    let facts = g.S.Store.facts in let i = c.self.inside in
    subst (λ (f : FileState g.row.S.Denot). KeepsSlot facts f.disk (disk_of facts c.commit_reverted.new.store c.commit_reverted.new.slots)) c.self.view_is
    (turned_kept_slot facts i.store c.commit_reverted.new.store i.live i.slots c.commit_reverted.new.slots (g.met.S.Store.timely i.store) c.self.invariant.sound c.in_ok-commit_reverted.ensures.kept)
