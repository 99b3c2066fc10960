use Rattle.std.proofs.Common.{inl, inr, refl, sym, ap, subst, ◌∙◌}
use Rattle.std.specs.Prelude.{Result, Err}
use Rattle.std.proofs.lemmas.Result.{err_from_is_err_and}
use Rattle.geos_model.specs.Document.{Document, block_at}
use Rattle.geos_model.specs.declared.fault.Fault.{Fault}
use Rattle.geos_model.specs.declared.fault.Fault.TheVariants.{Damaged}
use Rattle.vm_blocks.specs.ByteChanges.{byte_change, byte_part}
use Rattle.vm_blocks.specs.Parts.{AllowsPart}
use Rattle.vm_blocks.specs.Preparing.{AppliesChange, CantPrepare}
use Rattle.vm_blocks.specs.State.{CacheState}
use Rattle.vm_blocks.proofs.ChangeOutcomes.{turns_ready, turns_unready}
use Rattle.vm_blocks.proofs.KeepingLaws.{keeps-same}
use Rattle.vm_blocks.proofs.file_blocks.FileBlocks.bring_and_change.Goals as goal

-- its block isn't brought into memory
pub returns-in_err-load_live : goal.returns-in_err-load_live
returns-in_err-load_live g c =
    let facts = g.S.Store.facts in let old = c.args.self.now in let mid = c.load_live.new.self in let change = byte_change c.args.change in
    let load = c.in_err-load_live.ensures in let fault = c.in_err-load_live.field-0.0 in
    let p = err_from_is_err_and c.from_residual.result c.from_residual.ensures.1 in
    let why = elim load.err as (λ _. CantPrepare facts change old mid fault) [
      | inl lacks ↦ inl lacks
      | inr full ↦ inr (inr full)
    ] in
    subst (λ (r : Result (Unit {0}) Fault). AppliesChange facts change old mid r) (sym (p.1 ∙ ap Err p.2))
    (turns_unready facts change old mid load.keeps fault why (λ here takes. absurd (cc (load.already here).0)) (λ far. let shut = load.shut far in (cc shut.0, shut.1)))

pub returns-then-change_loaded : goal.returns-then-change_loaded
returns-then-change_loaded g c =
    let facts = g.S.Store.facts in let old = c.args.self.now in let mid = c.load_live.new.self in let change = byte_change c.args.change in
    let load = c.in_ok-load_live.ensures in
    turns_ready facts change old mid load.keeps c.change_loaded.new.self load.ok (λ far. cc (load.shut far).0) (λ here takes. let same = load.already here in (same.1, same.2)) c.if-change_loaded.ensures.1

-- its body doesn't take it
pub returns-else-change_loaded : goal.returns-else-change_loaded
returns-else-change_loaded g c =
    let facts = g.S.Store.facts in let old = c.args.self.now in let mid = c.load_live.new.self in let change = byte_change c.args.change in
    let load = c.in_ok-load_live.ensures in let h = c.args.change.block.0 in let part = byte_part c.args.change in let refused = c.if-change_loaded.ensures in
    subst (λ (s : CacheState g.row.S.Denot). AppliesChange facts change old s (Err Damaged)) (sym refused.1)
    (turns_unready facts change old mid load.keeps Damaged
    (inr (inl (refl, λ steady takes. refused.0 (subst (λ (d : Document). AllowsPart part (block_at d h).body) (sym (keeps-same facts old mid load.keeps steady)) takes))))
    (λ here takes. refused.0 (subst (λ (d : Document). AllowsPart part (block_at d h).body) (sym (load.already here).2) takes))
    (λ far. cc (load.shut far).0))
