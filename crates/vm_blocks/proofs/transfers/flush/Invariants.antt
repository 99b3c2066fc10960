use Rattle.std.proofs.Common.{◌≡◌, ℕ, nat_eq, true, drop}
use Rattle.std.specs.List.{list_any}
use Rattle.vm_blocks.specs.Frames.{residents, is_changed_in, KeepsOverlay}
use Rattle.vm_blocks.proofs.transfers.flush.Given as goal

-- what is changed is among the blocks that are left
abbrev pub invariant-loop-block : goal.invariant-loop-block
invariant-loop-block g l = record {
  moves : KeepsOverlay g.S.Store.facts l.fn.file l.fn.frames.entries l.file l.frames.entries;
  seats_kept : residents l.frames.entries ≡ residents l.fn.frames.entries;
  cap : l.frames.cap ≡ l.fn.frames.cap;
  left : (h : ℕ) → is_changed_in l.frames.entries h ≡ true → list_any (nat_eq h) (drop l.block-index l.block-items) ≡ true;
}
