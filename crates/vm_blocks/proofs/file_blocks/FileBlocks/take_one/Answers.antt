use Rattle.std.proofs.Common.{◌≡◌, ◌≢◌, ℕ, nat_eq, refl, sym, ap, subst, ◌∙◌, rules}
use Rattle.std.specs.Map.{remove_entry}
use Rattle.geos_model.specs.Document.{without_block}
use Rattle.geos_model.specs.declared.handle.VmHandle.{VmHandle}
use Rattle.lru.specs.LruCache.{LruCache}
use Rattle.document_file.specs.Disk.{FileState}
use Rattle.vm_blocks.specs.Frames.{shown, AreFramesOf, residents}
use Rattle.vm_blocks.specs.Sound.{IsValidState}
use Rattle.vm_blocks.specs.State.{CacheState, KeepsLocks, locked_count, locks_of}
use Rattle.vm_blocks.specs.declared.frame.Frame.{Frame}
use Rattle.vm_blocks.proofs.Blocks.{kept_gone, shown_gone}
use Rattle.vm_blocks.proofs.DocumentUnderFrames.{overlay_map}
use Rattle.vm_blocks.proofs.Locks.{keeps_removed, seats_apart}
use Rattle.vm_blocks.proofs.StateValidity.{sound_taken}
use Rattle.vm_blocks.proofs.file_blocks.FileBlocks.take_one.Goals as goal

pub put_blocks-removed-requires-clause-removals : goal.put_blocks-removed-requires-clause-removals
put_blocks-removed-requires-clause-removals g c =
    let s = c.self.inside in
    let map = sym (ap (λ (t : CacheState g.row.S.Denot). t.document.map_block) c.self.view_is) ∙ overlay_map s.frames.entries s.file.document in
    let other : (h : VmHandle) → h.0 ≡ c.args.handle.0 → h.0 ≢ s.file.document.map_block = λ h is same. c.requires.other (map ∙ sym same ∙ is) in
    search (rules, other)

pub invariant_of-self : goal.invariant_of-self
invariant_of-self g c =
    let facts = g.S.Store.facts in
    let s = c.self.inside in
    let es = s.frames.entries in
    let d = s.file.document in
    let h = c.args.handle.0 in
    let distinct = c.len-count.ensures.valid.0 in
    let file = (c.put_blocks-removed.ensures.removals_alone refl).1 in
    let is = shown_gone es d h distinct s.file c.put_blocks-removed.new.self s.frames.cap c.pop.new.self file c.pop.ensures.entries in (
      record {
        kept = subst (λ (x : FileState g.row.S.Denot). AreFramesOf (facts x.disk.store).honest x.document c.pop.new.self.entries) (sym file)
            (subst (λ (x : LruCache ℕ Frame). AreFramesOf (facts s.file.disk.store).honest (without_block d h) x.entries) (sym c.pop.ensures.entries) (kept_gone es d h distinct (facts s.file.disk.store).honest c.self.invariant.0.kept));
        state = subst (IsValidState facts) (sym is) (sound_taken facts (shown s.file es s.frames.cap) h (λ same. c.requires.other (sym (ap (λ (s : CacheState g.row.S.Denot). s.document.map_block) c.self.view_is) ∙ same)) c.self.invariant.0.state);
      },
      c.self.invariant.1 ∙ sym (subst (λ (t : CacheState g.row.S.Denot). locked_count t.resident ≡ locked_count (residents es)) (sym is) (keeps_removed h (residents es) (seats_apart es distinct) (ap (λ (t : CacheState g.row.S.Denot). locks_of t.resident h) c.self.view_is ∙ c.requires.unlocked)).count),
    )

pub returns : goal.returns
returns g c =
    let s = c.self.inside in
    let es = s.frames.entries in
    let h = c.args.handle.0 in
    let old = c.args.self.now in
    let distinct = c.len-count.ensures.valid.0 in
    let file = (c.put_blocks-removed.ensures.removals_alone refl).1 in
    let is = shown_gone es s.file.document h distinct s.file c.put_blocks-removed.new.self s.frames.cap c.pop.new.self file c.pop.ensures.entries
    ∙ ap (λ (t : CacheState g.row.S.Denot). record t { document = without_block t.document h; resident = remove_entry (nat_eq h) t.resident }) c.self.view_is in
    record {
      disk = ap (λ (t : CacheState g.row.S.Denot). t.disk) is;
      document = ap (λ (t : CacheState g.row.S.Denot). t.document) is;
      frames = ap (λ (t : CacheState g.row.S.Denot). t.frames) is;
      locks = subst (λ (t : CacheState g.row.S.Denot). KeepsLocks old.resident t.resident) (sym is) (keeps_removed h old.resident c.reveal_invariant.ensures.distinct c.requires.unlocked);
    }
