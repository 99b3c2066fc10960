use Rattle.std.proofs.Common.{◌≡◌, None, ap, sym, subst, ◌∙◌}
use Rattle.document_file.specs.Disk.{FileState}
use Rattle.vm_blocks.specs.Frames.{shown}
use Rattle.vm_blocks.specs.State.{CacheState, Marks, KeepsDocument, locked_count}
use Rattle.vm_blocks.proofs.Marking.{marks_by, on_err_always}
use Rattle.vm_blocks.proofs.CallAfterCall.{stays_by}
use Rattle.vm_blocks.proofs.StateValidity.{blocks_drift}
use Rattle.vm_blocks.proofs.file_blocks.FileBlocks.mark.Goals as goal

pub returns-clause-ok : goal.returns-clause-ok
returns-clause-ok g c =
    let facts = g.S.Store.facts in
    let s = c.self.inside in
    let new = c.flush.new in
    let none : s.file.disk.marked ≡ None = ap (λ (t : CacheState g.row.S.Denot). t.disk.marked) c.self.view_is ∙ c.requires in
    subst (λ (t : CacheState g.row.S.Denot). Marks facts t (shown c.mark.new.self new.frames.entries new.frames.cap)) c.self.view_is
    (subst (λ (f : FileState g.row.S.Denot). Marks facts (shown s.file s.frames.entries s.frames.cap) (shown f new.frames.entries new.frames.cap)) (sym c.in_ok-mark.ensures.ok)
    (marks_by facts s.file s.frames.entries s.frames.cap new.file new.frames.entries new.frames.cap none c.flush.ensures.moves c.in_ok-flush.ensures.clean c.flush.ensures.cap))

pub returns-in_err-flush-clause-err : goal.returns-in_err-flush-clause-err
returns-in_err-flush-clause-err g c =
    let facts = g.S.Store.facts in
    let s = c.self.inside in
    let new = c.flush.new in
    on_err_always c.from_residual.result
    (subst (λ (t : CacheState g.row.S.Denot). KeepsDocument facts t (shown new.file new.frames.entries new.frames.cap)) c.self.view_is
    (stays_by facts s.file s.frames.entries s.frames.cap new.file new.frames.entries new.frames.cap c.flush.ensures.moves c.flush.ensures.cap))

pub returns-in_err-mark-clause-err : goal.returns-in_err-mark-clause-err
returns-in_err-mark-clause-err g c =
    let facts = g.S.Store.facts in
    let s = c.self.inside in
    let new = c.flush.new in
    on_err_always c.from_residual-in_err-mark.result
    (subst (λ (t : CacheState g.row.S.Denot). KeepsDocument facts t (shown c.mark.new.self new.frames.entries new.frames.cap)) c.self.view_is
    (subst (λ (f : FileState g.row.S.Denot). KeepsDocument facts (shown s.file s.frames.entries s.frames.cap) (shown f new.frames.entries new.frames.cap)) (sym c.in_err-mark.ensures.err)
    (stays_by facts s.file s.frames.entries s.frames.cap new.file new.frames.entries new.frames.cap c.flush.ensures.moves c.flush.ensures.cap)))

-- what is changed in memory was written, or some of it

pub invariant_of-self : goal.invariant_of-self
invariant_of-self g c =
    let s = c.self.inside in
    let new = c.flush.new in
    (blocks_drift g.S.Store.facts s.file s.frames.entries s.frames.cap new.file new.frames.entries new.frames.cap c.self.invariant.0 c.flush.ensures.moves c.flush.ensures.cap, c.self.invariant.1 ∙ sym (ap locked_count c.flush.ensures.residents))
