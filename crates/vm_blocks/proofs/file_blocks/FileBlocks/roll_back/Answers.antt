use Rattle.std.proofs.Common.{ℕ, IsTrue, ap, sym, subst}
use Rattle.std.specs.Prelude.{IfSome}
use Rattle.geos_model.specs.Document.{IsValid}
use Rattle.lru.specs.LruCache.{LruCache}
use Rattle.vm_blocks.specs.State.{CacheState, locked_count}
use Rattle.vm_blocks.specs.Sound.{AreBlocksOf}
use Rattle.vm_blocks.specs.declared.frame.Frame.{Frame}
use Rattle.vm_blocks.proofs.StateValidity.{blocks_bare}
use Rattle.vm_blocks.specs.Frames.{residents}
use Rattle.vm_blocks.proofs.file_blocks.FileBlocks.roll_back.Goals as goal

pub invariant_of-self : goal.invariant_of-self
invariant_of-self g c =
    let facts = g.S.Store.facts in
    let a = c.self.inside.file in
    let b = c.roll_back.new.self in
    let marked = subst (λ (s : CacheState g.row.S.Denot). IfSome s.disk.marked (λ d. IsTrue (facts s.disk.store).honest → IsValid d)) (sym c.self.view_is) c.requires.valid in
    let valid : IsTrue (facts a.disk.store).honest → IsValid b.document = subst (λ o. IfSome o (λ d. IsTrue (facts a.disk.store).honest → IsValid d)) (sym c.roll_back.ensures.document) marked in (
      subst (λ (x : LruCache ℕ Frame). AreBlocksOf facts b x.entries x.cap) (sym c.clear.ensures)
          (blocks_bare facts b c.self.inside.frames.cap c.self.invariant.0.state.room (λ so. valid (subst IsTrue (ap (λ d. (facts d.store).honest) c.roll_back.ensures.disk) so))),
      sym (ap (λ (x : LruCache ℕ Frame). locked_count (residents x.entries)) (c.clear.ensures)),
    )
