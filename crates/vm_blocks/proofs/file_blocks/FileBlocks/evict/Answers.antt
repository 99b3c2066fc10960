use Rattle.std.proofs.Common.{◌≡◌, ◌<◌, ℕ, true, cond, Some, None, nat_eq, is_some, length, ap, sym, subst, ◌∙◌, arith}
use Rattle.std.specs.Option.{option_map_or}
use Rattle.std.specs.Map.{lookup, remove_entry}
use Rattle.std.specs.Cmp.{nat_eq_equiv}
use Rattle.std.proofs.lemmas.Map.{lookup-remove_entry}
use Rattle.lru.specs.LruCache.{LruCache}
use Rattle.vm_blocks.specs.Frames.{frame_of, residents, shown}
use Rattle.vm_blocks.specs.State.{CacheState, KeepsDocument, evicted, victim, locked_count}
use Rattle.vm_blocks.specs.declared.frame.Frame.{Frame}
use Rattle.vm_blocks.proofs.OrderOfUse.{residents-remove, residents-length, resident_is, victim_there, length-removed}
use Rattle.vm_blocks.proofs.CallAfterCall.{moves_frames, moves_both, stays_by}
use Rattle.vm_blocks.proofs.DocumentUnderFrames.{dropped, dropped_kept}
use Rattle.vm_blocks.proofs.StateValidity.{blocks_drift}
use Rattle.vm_blocks.proofs.Locks.{evicted_count}
use Rattle.vm_blocks.proofs.file_blocks.FileBlocks.evict.Goals as goal

pub unwrap-block-requires : goal.unwrap-block-requires
unwrap-block-requires g c = ap is_some c.victim.ensures ∙ ap (λ (s : CacheState g.row.S.Denot). is_some (victim s.resident)) c.self.view_is ∙ c.requires

-- it couldn't be written

pub invariant_of-self : goal.invariant_of-self
invariant_of-self g c =
    let s = c.self.inside in
    let new = c.write_back.new in
    (blocks_drift g.S.Store.facts s.file s.frames.entries s.frames.cap new.file new.frames.entries new.frames.cap c.self.invariant.0 c.write_back.ensures.moves c.write_back.ensures.cap, c.self.invariant.1 ∙ sym (ap locked_count c.write_back.ensures.residents))

pub returns-in_err-write_back-clause-stays : goal.returns-in_err-write_back-clause-stays
returns-in_err-write_back-clause-stays g c =
    let facts = g.S.Store.facts in
    let s = c.self.inside in
    let new = c.write_back.new in
    subst (λ (t : CacheState g.row.S.Denot). KeepsDocument facts t (shown new.file new.frames.entries new.frames.cap)) c.self.view_is
    (stays_by facts s.file s.frames.entries s.frames.cap new.file new.frames.entries new.frames.cap c.write_back.ensures.moves c.write_back.ensures.cap)

-- it was

pub unwrap-frame-requires : goal.unwrap-frame-requires
unwrap-frame-requires g c =
    let es = c.self.inside.frames.entries in
    let fs = c.write_back.new.frames.entries in
    let h = c.unwrap-block.result in
    let at : victim (residents es) ≡ Some h = sym c.victim.ensures ∙ c.unwrap-block.ensures in
    let there : is_some (frame_of fs h) ≡ true = sym (resident_is h fs) ∙ ap (λ ss. is_some (lookup (nat_eq h) ss)) c.write_back.ensures.residents ∙ victim_there (residents es) h at in
    ap is_some c.pop.ensures.value ∙ there

pub invariant_of-self-2 : goal.invariant_of-self-2
invariant_of-self-2 g c =
    let facts = g.S.Store.facts in
    let s = c.self.inside in
    let b = c.write_back.new.file in
    let fs = c.write_back.new.frames.entries in
    let gs = c.pop.new.self.entries in
    let h = c.unwrap-block.result in
    let moves = c.write_back.ensures.moves in
    let now : (q : ℕ) → frame_of gs q ≡ cond (nat_eq h q) None (frame_of fs q) = λ q. ap (λ (x : LruCache ℕ Frame). frame_of x.entries q) c.pop.ensures.entries ∙ lookup-remove_entry nat_eq_equiv (nat_eq h) (nat_eq_equiv.congr h) q fs c.len-count.ensures.valid.0 in
    let clean = c.in_ok-write_back.ensures.clean in
    let honest = (facts b.disk.store).honest in
    let cap = ap (λ (x : LruCache ℕ Frame). x.cap) c.pop.ensures.entries ∙ c.write_back.ensures.cap in
    (blocks_drift facts s.file s.frames.entries s.frames.cap b gs c.pop.new.self.cap c.self.invariant.0 (moves_both facts s.file s.frames.entries b fs b gs moves (moves_frames facts b fs gs (dropped_kept honest fs b.document h gs moves.kept clean now) (dropped honest fs b.document h gs moves.kept clean now))) cap, c.self.invariant.1 ∙ sym (evicted_count h s.frames.entries fs gs c.len-count.ensures.valid.0 c.write_back.ensures.residents (sym c.victim.ensures ∙ c.unwrap-block.ensures) (ap (λ (x : LruCache ℕ Frame). x.entries) c.pop.ensures.entries)))

pub returns-clause-stays : goal.returns-clause-stays
returns-clause-stays g c =
    let facts = g.S.Store.facts in
    let s = c.self.inside in
    let b = c.write_back.new.file in
    let fs = c.write_back.new.frames.entries in
    let gs = c.pop.new.self.entries in
    let h = c.unwrap-block.result in
    let moves = c.write_back.ensures.moves in
    let now : (q : ℕ) → frame_of gs q ≡ cond (nat_eq h q) None (frame_of fs q) = λ q. ap (λ (x : LruCache ℕ Frame). frame_of x.entries q) c.pop.ensures.entries ∙ lookup-remove_entry nat_eq_equiv (nat_eq h) (nat_eq_equiv.congr h) q fs c.len-count.ensures.valid.0 in
    let clean = c.in_ok-write_back.ensures.clean in
    let honest = (facts b.disk.store).honest in
    let cap = ap (λ (x : LruCache ℕ Frame). x.cap) c.pop.ensures.entries ∙ c.write_back.ensures.cap in
    subst (λ (t : CacheState g.row.S.Denot). KeepsDocument facts t (shown b gs c.pop.new.self.cap)) c.self.view_is
    (stays_by facts s.file s.frames.entries s.frames.cap b gs c.pop.new.self.cap (moves_both facts s.file s.frames.entries b fs b gs moves (moves_frames facts b fs gs (dropped_kept honest fs b.document h gs moves.kept clean now) (dropped honest fs b.document h gs moves.kept clean now))) cap)

pub returns-clause-ok : goal.returns-clause-ok
returns-clause-ok g c =
    let es = c.self.inside.frames.entries in
    let fs = c.write_back.new.frames.entries in
    let h = c.unwrap-block.result in
    let at : victim (residents es) ≡ Some h = sym c.victim.ensures ∙ c.unwrap-block.ensures in
    ap (λ (x : LruCache ℕ Frame). residents x.entries) c.pop.ensures.entries ∙ residents-remove h fs ∙ ap (remove_entry (nat_eq h)) c.write_back.ensures.residents ∙ sym (ap (λ o. option_map_or (λ h. remove_entry (nat_eq h) (residents es)) o (residents es)) at)
    ∙ ap (λ (s : CacheState g.row.S.Denot). evicted s.resident) c.self.view_is

pub returns-clause-fewer : goal.returns-clause-fewer
returns-clause-fewer g c =
    let es = c.self.inside.frames.entries in
    let fs = c.write_back.new.frames.entries in
    let gs = c.pop.new.self.entries in
    let h = c.unwrap-block.result in
    let at : victim (residents es) ≡ Some h = sym c.victim.ensures ∙ c.unwrap-block.ensures in
    let there : is_some (frame_of fs h) ≡ true = sym (resident_is h fs) ∙ ap (λ ss. is_some (lookup (nat_eq h) ss)) c.write_back.ensures.residents ∙ victim_there (residents es) h at in
    let popped : length gs ≡ length (remove_entry (nat_eq h) fs) = ap (λ (x : LruCache ℕ Frame). length x.entries) c.pop.ensures.entries in
    let same : length (residents fs) ≡ length (residents es) = ap length c.write_back.ensures.residents in
    let fewer = length-removed (nat_eq h) fs there in
    subst (λ (s : CacheState g.row.S.Denot). length (residents gs) < length s.resident) c.self.view_is (omega (arith, popped, same, fewer, residents-length fs, residents-length gs))
