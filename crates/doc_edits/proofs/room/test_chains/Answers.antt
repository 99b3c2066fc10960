use Rattle.std.proofs.Common.{inl, inr}
use Rattle.std.proofs.lemmas.Result.{MatchResult-weaker}
use Rattle.vm_blocks.specs.Keeping.{is_full}
use Rattle.doc_edits.proofs.Refusals.{carried, carried_so, refused_then}
use Rattle.doc_edits.proofs.RoomLemmas.{chains_full, roots_refused}
use Rattle.doc_edits.proofs.room.test_chains.Goals as goal

pub returns-in_err-test_roots-clause-value : goal.returns-in_err-test_roots-clause-value
returns-in_err-test_roots-clause-value g c =
    let state = c.args.blocks.now in let fault = c.in_err-test_roots.field-0.0 in
    carried c.from_residual.result _ _ fault c.from_residual.ensures.1
    (roots_refused state.document c.args.first.0 c.args.second.0 (is_full state) fault c.in_err-test_roots.ensures.refusals c.in_err-test_roots.ensures.value)

pub returns-in_err-test_roots-clause-refusals : goal.returns-in_err-test_roots-clause-refusals
returns-in_err-test_roots-clause-refusals g c = carried_so c.from_residual.result _ c.in_err-test_roots.field-0.0 c.from_residual.ensures.1 (inl c.in_err-test_roots.ensures.refusals)

pub returns-clause-value : goal.returns-clause-value
returns-clause-value g c =
    let state = c.args.blocks.now in let raw = c.in_ok-test_roots.ensures.value in
    MatchResult-weaker c.test_frames.result c.test_frames.ensures (λ _ room. room)
    (λ fault full. chains_full state.document c.args.first.0 c.args.second.0 (is_full state) fault raw.0 raw.1 full)

pub returns-clause-refusals : goal.returns-clause-refusals
returns-clause-refusals g c = refused_then c.test_frames.result _ _ _ c.test_frames.ensures (λ fault full. inr full)
