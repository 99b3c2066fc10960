use Rattle.std.proofs.Common.{ℕ, sym, subst, ap}
use Rattle.geos_model.specs.Document.{IsValid}
use Rattle.lru.specs.LruCache.{LruCache}
use Rattle.vm_blocks.specs.Frames.{with_frames, residents}
use Rattle.vm_blocks.specs.Sound.{AreBlocksOf}
use Rattle.vm_blocks.specs.Opening.{IsOpenedFrom}
use Rattle.vm_blocks.specs.declared.frame.Frame.{Frame}
use Rattle.vm_blocks.proofs.StateValidity.{blocks_bare}
use Rattle.vm_blocks.specs.State.{locked_count}
use Rattle.vm_blocks.proofs.file_blocks.FileBlocks.open.Goals as goal

pub returns-clause-opened : goal.returns-clause-opened
returns-clause-opened g c =
    let found = c.in_ok-file.ensures in
    subst (λ (x : LruCache ℕ Frame). IsOpenedFrom g.S.Store.facts c.args.store c.args.checksums (with_frames c.in_ok-file.file x.entries)) (sym c.in-Ok.ensures) (record {
      follows = found.store;
      unchanged = found.unchanged;
      documents = found.stands;
      unmarked = found.unmarked;
      now = λ _. found.document;
      sequence = found.numbered;
      numbered = found.numbered_now;
      checksums = found.checksums;
      crash_consistent = found.crash_consistent;
    })

pub invariant_of-result : goal.invariant_of-result
invariant_of-result g c =
    let now = c.in_ok-file.ensures.document.0 in (
      subst (λ (x : LruCache ℕ Frame). AreBlocksOf g.S.Store.facts c.in_ok-file.file x.entries x.cap) (sym c.in-Ok.ensures)
          (blocks_bare g.S.Store.facts c.in_ok-file.file c.args.frames c.requires (λ so. subst IsValid (sym now) (c.reveal_invariant.ensures.valid so).0)),
      sym (ap (λ (x : LruCache ℕ Frame). locked_count (residents x.entries)) (c.in-Ok.ensures)),
    )
