use Rattle.std.proofs.Common.{List, Option, [], ◌∷◌, false, ◌≡◌, ◌≢◌, ◌++◌, ◌∙◌, All, Bool, ap, length, refl, sym, subst, arith}
use Rattle.std.specs.Prelude.{if◌then◌else◌, IfSome, MatchResult, OnOk, Result, Some, Ok, Err}
use Rattle.std.proofs.lemmas.Result.{on_ok_weaker}
use Rattle.file_format.specs.declared.file.Extent.{Extent}
use Rattle.file_space.specs.Placing.{IsFirstFit}
use Rattle.document_file.specs.PendingDirectories.{IsSavedAnew, IsSpared}
use Rattle.document_file.specs.declared.directory.PendingDirectory.{PendingDirectory}
use Rattle.document_file.specs.declared.table.BlockTable.{BlockTable}
use Rattle.document_file.specs.declared.slot.Slots.{Slots}
use Rattle.document_file.proofs.PendingDirectoryLemmas.{anew_spared}
use Rattle.document_file.proofs.SavedAnewLemmas.{given_some}
use Rattle.geos_model.specs.Document.{Document}
use Rattle.geos_model.specs.declared.fault.Fault.TheVariants.{Worn}
use Rattle.file_space.specs.Space.{Space, AreTaken}
use Rattle.document_file.specs.Calls.{last_sequence}
use Rattle.document_file.specs.FreeSpace.{IsSpaceOf}
use Rattle.document_file.specs.Ranges.{IsPlaced, IsClear, start_of}
use Rattle.document_file.specs.Slots.{block_extents, referenced_extents}
use Rattle.document_file.proofs.PutBlocksLemmas.{few_extents, five_long}
use Rattle.document_file.specs.Documents.{Documents, document_in}
use Rattle.document_file.specs.Disk.{FileState, MayCommit, SameUnlessCorrupt}
use Rattle.document_file.specs.Effects.{IsCommit, IsTurned, KeepsSlot}
use Rattle.document_file.specs.Sound.{IsFormed, disk_of}
use Rattle.document_file.proofs.CopiesLemmas.{copy_itself, copy_drifts, beside_document, beside_alike}
use Rattle.document_file.proofs.FollowLemmas.{known_if, next_taken}
use Rattle.document_file.proofs.EffectsLemmas.{refused, refused_by, tried, view_settled}
use Rattle.document_file.proofs.TurnedLemmas.{turned_kept_slot, turned_shut, turned_version}
use Rattle.document_file.specs.Sums.{has_sums}
use Rattle.std.proofs.lemmas.Result.{err_from_is_err_and}
use Rattle.document_file.proofs.file.VmFile.commit_live.Goals as goal

-- the pair that is to be committed
abbrev meant : {S : Type 0} → Bool → FileState S → Documents
meant saves f = (f.document, if saves then f.document else f.disk.saved)

pub returns-then-self-clause-commit : goal.returns-then-self-clause-commit
returns-then-self-clause-commit g c =
    let i = c.self.inside in let f = c.args.self.now in
    refused g.S.Store.facts f _ _ Worn (view_settled g.S.Store.facts i.store i.live i.slots f c.self.view_is c.self.invariant.sound)
    (λ _. subst (λ s. s.disk.sequence ≡ last_sequence) c.self.view_is c.if-self.true, λ _. refl)

pub known_space-requires-clause-few : goal.known_space-requires-clause-few
known_space-requires-clause-few g c =
    let i = c.self.inside in
    let few = few_extents i.live i.slots c.self.invariant.sound.formed in
    let same = ap (λ ps. length (block_extents ps ++ referenced_extents i.slots)) c.deref.ensures.value in
    omega (arith, few, same)

pub known_space-requires-clause-live : goal.known_space-requires-clause-live
known_space-requires-clause-live g c = subst (λ ps. All IsPlaced (block_extents ps)) (sym c.deref.ensures.value) c.self.invariant.sound.formed.placed

pub known_space-requires-clause-known : goal.known_space-requires-clause-known
known_space-requires-clause-known g c =
    let i = c.self.inside in
    subst (λ ps. IsSpaceOf (block_extents ps ++ referenced_extents i.slots) c.take-known.result) (sym c.deref.ensures.value)
    (subst (λ s. IsSpaceOf (block_extents i.live.places.items ++ referenced_extents i.slots) s) (sym c.take-known.ensures.value) c.self.invariant.known)

pub pending_directory_of-requires-clause-known : goal.pending_directory_of-requires-clause-known
pending_directory_of-requires-clause-known g c =
    subst (λ ps. AreTaken (block_extents ps ++ referenced_extents c.self.inside.slots) c.in_ok-space.space) c.deref.ensures.value c.in_ok-space.ensures

pub returns-in_err-space-clause-commit : goal.returns-in_err-space-clause-commit
returns-in_err-space-clause-commit g c =
    let i = c.self.inside in let f = c.args.self.now in
    subst (λ (s : FileState g.row.S.Denot). IsCommit g.S.Store.facts (meant c.args.saves f) f.document f s c.from_residual.result) (sym c.self.view_is)
    (refused_by g.S.Store.facts f (meant c.args.saves f) f.document c.from_residual.result c.from_residual.ensures.1 (view_settled g.S.Store.facts i.store i.live i.slots f c.self.view_is c.self.invariant.sound)
    (subst (λ s. s.disk.sequence ≢ last_sequence) c.self.view_is c.if-self.false))

pub returns-in_err-pending-clause-commit : goal.returns-in_err-pending-clause-commit
returns-in_err-pending-clause-commit g c =
    let i = c.self.inside in let f = c.args.self.now in
    subst (λ (s : FileState g.row.S.Denot). IsCommit g.S.Store.facts (meant c.args.saves f) f.document f s c.from_residual-in_err-pending.result) (sym c.self.view_is)
    (refused_by g.S.Store.facts f (meant c.args.saves f) f.document c.from_residual-in_err-pending.result c.from_residual-in_err-pending.ensures.1 (view_settled g.S.Store.facts i.store i.live i.slots f c.self.view_is c.self.invariant.sound)
    (subst (λ s. s.disk.sequence ≢ last_sequence) c.self.view_is c.if-self.false))

pub returns-in_err-saved-clause-commit : goal.returns-in_err-saved-clause-commit
returns-in_err-saved-clause-commit g c =
    let i = c.self.inside in let f = c.args.self.now in
    subst (λ (s : FileState g.row.S.Denot). IsCommit g.S.Store.facts (meant c.args.saves f) f.document f s c.from_residual-in_err-saved.result) (sym c.self.view_is)
    (refused_by g.S.Store.facts f (meant c.args.saves f) f.document c.from_residual-in_err-saved.result c.from_residual-in_err-saved.ensures.1 (view_settled g.S.Store.facts i.store i.live i.slots f c.self.view_is c.self.invariant.sound)
    (subst (λ s. s.disk.sequence ≢ last_sequence) c.self.view_is c.if-self.false))

pub saved_anew-requires-clause-few : goal.saved_anew-requires-clause-few
saved_anew-requires-clause-few g c =
    let i = c.self.inside in
    let few = few_extents i.live i.slots c.self.invariant.sound.formed in
    let count = c.in_ok-pending.ensures.taken.count in
    omega (arith, few, count)

pub returns-in_err-anew-clause-commit : goal.returns-in_err-anew-clause-commit
returns-in_err-anew-clause-commit g c =
    let i = c.self.inside in let f = c.args.self.now in
    subst (λ (s : FileState g.row.S.Denot). IsCommit g.S.Store.facts (meant c.args.saves f) f.document f s c.from_residual-in_err-anew.result) (sym c.self.view_is)
    (refused_by g.S.Store.facts f (meant c.args.saves f) f.document c.from_residual-in_err-anew.result c.from_residual-in_err-anew.ensures.1 (view_settled g.S.Store.facts i.store i.live i.slots f c.self.view_is c.self.invariant.sound)
    (subst (λ s. s.disk.sequence ≢ last_sequence) c.self.view_is c.if-self.false))

-- the saved directory is written apart from that of the live table too
apart_too : (live : BlockTable) (slots : Slots) (space : Space) (pending anew : PendingDirectory) (o : Option PendingDirectory) → IsFormed live slots → AreTaken (pending.document.directory ∷ (block_extents live.places.items ++ referenced_extents slots)) space
    → o ≡ Some anew → IfSome o (IsSavedAnew slots) → IfSome o (λ p. (taken : List Extent) → AreTaken taken space → IsFirstFit taken (length p.text.items) p.document.directory)
    → IsSpared live slots anew × IsClear (start_of anew.document.directory) anew.document.directory.length (pending.document.directory ∷ [])
apart_too live slots space pending anew o formed are is made placed =
    anew_spared live slots formed (pending.document.directory ∷ []) anew (five_long live slots pending.document.directory formed) (given_some (IsSavedAnew slots) o anew is made)
    (given_some (λ p. (taken : List Extent) → AreTaken taken space → IsFirstFit taken (length p.text.items) p.document.directory) o anew is placed (pending.document.directory ∷ (block_extents live.places.items ++ referenced_extents slots)) are)

pub commit_summed-requires-clause-spared : goal.commit_summed-requires-clause-spared
commit_summed-requires-clause-spared g c =
    let i = c.self.inside in
    (apart_too i.live i.slots _ c.in_ok-pending.pending c.in-Some.anew c.in_ok-anew.anew c.self.invariant.sound.formed c.in_ok-pending.ensures.taken c.in-Some.is c.in_ok-anew.ensures.made c.in_ok-anew.ensures.placed).0

pub commit_summed-requires-clause-apart : goal.commit_summed-requires-clause-apart
commit_summed-requires-clause-apart g c =
    let i = c.self.inside in
    (apart_too i.live i.slots _ c.in_ok-pending.pending c.in-Some.anew c.in_ok-anew.anew c.self.invariant.sound.formed c.in_ok-pending.ensures.taken c.in-Some.is c.in_ok-anew.ensures.made c.in_ok-anew.ensures.placed).1

-- whether it is acknowledged or not
either_way : {A E : Type 0} (P : Type 0) (r : Result A E) → P → MatchResult r (λ _. P) (λ _. P)
either_way P (Ok x) is = is
either_way P (Err x) is = is

pub returns-in-Some-clause-commit : goal.returns-in-Some-clause-commit
returns-in-Some-clause-commit g c =
    let facts = g.S.Store.facts in let i = c.self.inside in
    let a = facts i.store in let b = facts c.commit_summed.new.store in
    let r = c.commit_summed.result in
    let keeps : c.args.saves ≡ false = given_some (λ _. c.args.saves ≡ false) c.in_ok-anew.anew c.in-Some.anew c.in-Some.is c.in_ok-anew.ensures.keeps in
    let old : FileState g.row.S.Denot = record { disk = disk_of facts i.store i.slots; document = document_in a.content i.live } in
    let new : FileState g.row.S.Denot = record { disk = disk_of facts c.commit_summed.new.store c.commit_summed.new.slots; document = document_in b.content i.live } in
    let drifts = copy_drifts a.honest a.content b.content i.live i.live (copy_itself i.live) c.commit_summed.ensures.same in
    subst (λ (f : FileState g.row.S.Denot). IsCommit facts (meant c.args.saves f) f.document f new r) c.self.view_is
    (subst (λ s. IsCommit facts (meant s old) old.document old new r) (sym keeps)
    (tried facts g.met.S.Store.timely old new (meant false old) old.document r c.commit_summed.ensures.commits
    (on_ok_weaker r (λ switched. turned_version facts c.commit_summed.new.store i.live i.slots _ c.commit_summed.new.slots (g.met.S.Store.timely c.commit_summed.new.store) c.commit_summed.ensures.sound switched) c.commit_summed.ensures.switched)
    (either_way (SameUnlessCorrupt a.honest old.document new.document) r drifts) c.commit_summed.ensures.refusals c.if-self.false))

pub returns-in-Some-clause-turned : goal.returns-in-Some-clause-turned
returns-in-Some-clause-turned g c =
    let facts = g.S.Store.facts in let i = c.self.inside in
    subst (λ (f : FileState g.row.S.Denot). OnOk c.commit_summed.result (IsTurned facts f.disk (disk_of facts c.commit_summed.new.store c.commit_summed.new.slots))) c.self.view_is
    (on_ok_weaker c.commit_summed.result
    (turned_shut facts i.store c.commit_summed.new.store i.live i.slots c.commit_summed.new.slots (g.met.S.Store.timely i.store) c.self.invariant.sound) c.commit_summed.ensures.shut)

pub commit_pending-requires-clause-saved : goal.commit_pending-requires-clause-saved
commit_pending-requires-clause-saved g c =
    beside_alike c.args.saves (has_sums c.self.inside.slots.next_version ≡ has_sums c.self.inside.slots.version) c.in_ok-saved.saved c.in_ok-pending.pending.document c.self.inside.slots.committed.saved (c.in_ok-anew.ensures.none c.in_default.is) c.in_ok-saved.ensures

pub returns-in_err-commit_pending-clause-commit : goal.returns-in_err-commit_pending-clause-commit
returns-in_err-commit_pending-clause-commit g c =
    let facts = g.S.Store.facts in let i = c.self.inside in
    let a = facts i.store in let b = facts c.commit_pending.new.store in
    let p = err_from_is_err_and c.from_residual-in_err-commit_pending.result c.from_residual-in_err-commit_pending.ensures.1 in
    let fault = c.in_err-commit_pending.field-0.0 in
    let same = beside_document a.content c.args.saves c.in_ok-saved.saved c.in_ok-pending.pending.document i.slots.committed.saved i.live c.in_ok-saved.ensures c.in_ok-pending.ensures.pending.table in
    let old : FileState g.row.S.Denot = record { disk = disk_of facts i.store i.slots; document = document_in a.content i.live } in
    let new : FileState g.row.S.Denot = record { disk = disk_of facts c.commit_pending.new.store c.commit_pending.new.slots; document = document_in b.content i.live } in
    subst (λ (f : FileState g.row.S.Denot). IsCommit facts (meant c.args.saves f) f.document f new c.from_residual-in_err-commit_pending.result) c.self.view_is
    (subst (λ r. IsCommit facts (meant c.args.saves old) old.document old new r) (sym (p.1 ∙ ap Err p.2))
    (tried facts g.met.S.Store.timely old new _ _ (Err fault)
    (subst (λ (d : Document). MayCommit facts (old.document, d) old.disk new.disk (Err fault)) same c.in_err-commit_pending.ensures.commits) tt
    (copy_drifts a.honest a.content b.content i.live i.live (copy_itself i.live) c.commit_pending.ensures.same) c.in_err-commit_pending.ensures.refusals c.if-self.false))

pub returns-clause-commit : goal.returns-clause-commit
returns-clause-commit g c =
    let facts = g.S.Store.facts in let i = c.self.inside in
    let a = facts i.store in let b = facts c.commit_pending.new.store in
    let same = beside_document a.content c.args.saves c.in_ok-saved.saved c.in_ok-pending.pending.document i.slots.committed.saved i.live c.in_ok-saved.ensures c.in_ok-pending.ensures.pending.table in
    let old : FileState g.row.S.Denot = record { disk = disk_of facts i.store i.slots; document = document_in a.content i.live } in
    let new : FileState g.row.S.Denot = record { disk = disk_of facts c.commit_pending.new.store c.commit_pending.new.slots; document = document_in b.content i.live } in
    subst (λ (f : FileState g.row.S.Denot). IsCommit facts (meant c.args.saves f) f.document f new (Ok tt)) c.self.view_is
    (tried facts g.met.S.Store.timely old new _ _ (Ok tt)
    (subst (λ (d : Document). MayCommit facts (old.document, d) old.disk new.disk (Ok tt)) same c.in_ok-commit_pending.ensures.commits)
    (turned_version facts c.commit_pending.new.store i.live i.slots _ c.commit_pending.new.slots (g.met.S.Store.timely c.commit_pending.new.store) c.commit_pending.ensures.sound c.in_ok-commit_pending.ensures.switched)
    (copy_drifts a.honest a.content b.content i.live i.live (copy_itself i.live) c.commit_pending.ensures.same) tt c.if-self.false)

pub returns-clause-turned : goal.returns-clause-turned
returns-clause-turned g c =
    let facts = g.S.Store.facts in let i = c.self.inside in
    subst (λ (f : FileState g.row.S.Denot). IsTurned facts f.disk (disk_of facts c.commit_pending.new.store c.commit_pending.new.slots)) c.self.view_is
    (turned_shut facts i.store c.commit_pending.new.store i.live i.slots c.commit_pending.new.slots (g.met.S.Store.timely i.store) c.self.invariant.sound c.in_ok-commit_pending.ensures.shut)

pub invariant_of-self-2 : goal.invariant_of-self-2
invariant_of-self-2 g c =
    let i = c.self.inside in
    let now = c.commit_pending.new.slots in
    record {
      sound = c.commit_pending.ensures.sound;
      bounded = c.self.invariant.bounded;
      known = known_if (λ s. AreTaken (block_extents i.live.places.items ++ referenced_extents now) s) c.follow_commit-is_known.result _ _
          (λ there. next_taken i.live i.slots now c.args.saves c.in_ok-pending.pending.document c.in_ok-saved.saved _ c.in_ok-pending.ensures.pending.table c.in_ok-saved.ensures c.in_ok-commit_pending.ensures.switched (c.follow_commit-is_known.ensures.followed there))
          c.then_some.ensures;
    }

pub returns-clause-kept : goal.returns-clause-kept
returns-clause-kept g c =
    let facts = g.S.Store.facts in let i = c.self.inside in
    subst (λ (f : FileState g.row.S.Denot). KeepsSlot facts f.disk (disk_of facts c.commit_pending.new.store c.commit_pending.new.slots)) c.self.view_is
    (turned_kept_slot facts i.store c.commit_pending.new.store i.live i.slots c.commit_pending.new.slots (g.met.S.Store.timely i.store) c.self.invariant.sound c.in_ok-commit_pending.ensures.kept)

pub returns-in-Some-clause-kept : goal.returns-in-Some-clause-kept
returns-in-Some-clause-kept g c =
    let facts = g.S.Store.facts in let i = c.self.inside in
    subst (λ (f : FileState g.row.S.Denot). OnOk c.commit_summed.result (KeepsSlot facts f.disk (disk_of facts c.commit_summed.new.store c.commit_summed.new.slots))) c.self.view_is
    (on_ok_weaker c.commit_summed.result
    (turned_kept_slot facts i.store c.commit_summed.new.store i.live i.slots c.commit_summed.new.slots (g.met.S.Store.timely i.store) c.self.invariant.sound) c.commit_summed.ensures.kept)
