use Rattle.std.proofs.Common.{◌≢◌, refl, sym, ap, subst, ◌∙◌}
use Rattle.std.specs.Prelude.{Err, OnErr}
use Rattle.std.proofs.lemmas.Result.{err_from_is_err_and}
use Rattle.geos_model.specs.Document.{Document}
use Rattle.geos_model.specs.declared.fault.Fault.TheVariants.{Worn}
use Rattle.document_file.specs.Calls.{last_sequence}
use Rattle.document_file.specs.Documents.{Documents}
use Rattle.document_file.specs.Effects.{IsCommit, NoFault, IsWorn}
use Rattle.document_file.proofs.EffectsLemmas.{refused, unworn, Fails-as}
use Rattle.vm_blocks.specs.Frames.{with_frames}
use Rattle.vm_blocks.proofs.Commits.{not_committed}
use Rattle.vm_blocks.proofs.CallAfterCall.{moves_none}
use Rattle.vm_blocks.proofs.transfers.begin_commit.Goals as goal

pub returns-then-is_worn-clause-moves : goal.returns-then-is_worn-clause-moves
returns-then-is_worn-clause-moves g c = moves_none g.S.Store.facts c.args.file.now c.args.frames.now.entries c.requires.kept

pub returns-then-is_worn-clause-err : goal.returns-then-is_worn-clause-err
returns-then-is_worn-clause-err g c =
    λ pair behind. refused g.S.Store.facts (with_frames c.args.file.now c.args.frames.now.entries) pair behind Worn c.reveal_invariant.ensures.crash_consistent (λ _. c.is_worn.ensures.0 c.if-is_worn.true, λ _. refl)

pub returns-in_err-flush-clause-err : goal.returns-in_err-flush-clause-err
returns-in_err-flush-clause-err g c =
    let p = err_from_is_err_and c.from_residual.result c.from_residual.ensures.1 in
    let a = c.args.file.now in let b = c.flush.new.file in
    let es = c.args.frames.now.entries in let fs = c.flush.new.frames.entries in
    let fresh : a.disk.sequence ≢ last_sequence = λ last. absurd (cc (sym c.if-is_worn.false ∙ c.is_worn.ensures.1 last)) in
    subst (λ r. OnErr r ((pair : Documents) (behind : Document) → IsCommit g.S.Store.facts pair behind (with_frames a es) (with_frames b fs) r)) (sym (p.1 ∙ ap Err p.2))
    (λ pair behind. not_committed g.S.Store.facts g.met.S.Store.timely a b es fs pair behind c.in_err-flush.field-0.0 c.flush.ensures.moves c.reveal_invariant.ensures.crash_consistent fresh (unworn _ c.in_err-flush.ensures.fails.faults))

pub returns-clause-ok : goal.returns-clause-ok
returns-clause-ok g c = (λ last. absurd (cc (sym c.if-is_worn.false ∙ c.is_worn.ensures.1 last)), c.in_ok-flush.ensures.clean)

pub returns-in_err-flush-clause-fails : goal.returns-in_err-flush-clause-fails
returns-in_err-flush-clause-fails g c =
    let p = err_from_is_err_and c.from_residual.result c.from_residual.ensures.1 in
    Fails-as g.S.Store.facts NoFault IsWorn _ _ c.in_err-flush.field-0.0 c.from_residual.result (p.1 ∙ ap Err p.2) (λ f none. absurd none) c.in_err-flush.ensures.fails
