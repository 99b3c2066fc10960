use Rattle.std.proofs.Common.{subst}
use Rattle.vm_store.specs.Facts.{Holds}
use Rattle.document_file.specs.Ranges.{start_of}
use Rattle.document_file.specs.Slots.{block_extents, referenced_extents}
use Rattle.document_file.proofs.CommitLemmas.{counts_rise}
use Rattle.document_file.proofs.PendingDirectoryLemmas.{clear_parts, IsWriting, write_passes, write_sound, write_same, write_stored}
use Rattle.document_file.proofs.directory.write_pending.Given.{Over}
use Rattle.document_file.proofs.directory.write_pending.Goals.{After-write_extent}
use Rattle.document_file.proofs.directory.write_pending.Goals as goal

pub write_extent-requires-clause-clear : goal.write_extent-requires-clause-clear
write_extent-requires-clause-clear g c =
    let e = c.args.pending.now.document.directory in
    (clear_parts (start_of e) e.length (block_extents c.args.live.now.places.items) (referenced_extents c.args.slots.now) c.requires.pending.clear).1

called : (g : Over) (c : After-write_extent g) → IsWriting g.S.Store.facts c.args.store.now c.write_extent.new.store c.args.live.now c.args.slots.now c.args.pending.now
called g c = record {
  sound = c.requires.sound;
  clear = c.requires.pending.clear;
  honest = c.write_extent.ensures.honest;
  failures = counts_rise c.write_extent.result (g.S.Store.facts c.args.store.now) (g.S.Store.facts c.write_extent.new.store) c.write_extent.ensures.failures;
  now = λ so. (g.met.S.Store.timely c.write_extent.new.store so).now;
  elsewhere = c.write_extent.ensures.elsewhere;
  crash = λ so was. c.write_extent.ensures.crash (g.S.Store.facts c.args.store.now).content so was;
  leaves = λ so was. c.write_extent.ensures.leaves (g.S.Store.facts c.args.store.now).content so was;
}

pub returns-clause-passes : goal.returns-clause-passes
returns-clause-passes g c = write_passes g.S.Store.facts _ _ c.args.live.now c.args.slots.now c.args.pending.now (called g (goal.at.returns-clause-passes g c).After-write_extent)

pub returns-clause-sound : goal.returns-clause-sound
returns-clause-sound g c = write_sound g.S.Store.facts _ _ c.args.live.now c.args.slots.now c.args.pending.now (called g (goal.at.returns-clause-sound g c).After-write_extent)

pub returns-clause-same : goal.returns-clause-same
returns-clause-same g c = write_same g.S.Store.facts _ _ c.args.live.now c.args.slots.now c.args.pending.now (called g (goal.at.returns-clause-same g c).After-write_extent)

pub returns-in_err-write_extent-clause-passes : goal.returns-in_err-write_extent-clause-passes
returns-in_err-write_extent-clause-passes g c = write_passes g.S.Store.facts _ _ c.args.live.now c.args.slots.now c.args.pending.now (called g (goal.at.returns-in_err-write_extent-clause-passes g c).After-write_extent)

pub returns-in_err-write_extent-clause-sound : goal.returns-in_err-write_extent-clause-sound
returns-in_err-write_extent-clause-sound g c = write_sound g.S.Store.facts _ _ c.args.live.now c.args.slots.now c.args.pending.now (called g (goal.at.returns-in_err-write_extent-clause-sound g c).After-write_extent)

pub returns-in_err-write_extent-clause-same : goal.returns-in_err-write_extent-clause-same
returns-in_err-write_extent-clause-same g c = write_same g.S.Store.facts _ _ c.args.live.now c.args.slots.now c.args.pending.now (called g (goal.at.returns-in_err-write_extent-clause-same g c).After-write_extent)

pub returns-clause-written : goal.returns-clause-written
returns-clause-written g c so = write_stored g.S.Store.facts _ _ c.args.live.now c.args.slots.now c.args.pending.now (called g (goal.at.returns-clause-written g c).After-write_extent) c.requires.pending so
    (subst (λ bytes. Holds (g.S.Store.facts c.write_extent.new.store).content (start_of c.args.pending.now.document.directory) bytes) c.deref.ensures.value (c.in_ok-write_extent.ensures.written so))
