use Rattle.std.proofs.Common.{inl, inr}
use Rattle.std.proofs.lemmas.Result.{MatchResult-weaker}
use Rattle.vm_blocks.specs.Keeping.{is_full}
use Rattle.doc_edits.proofs.Refusals.{carried, carried_so, refused_then}
use Rattle.doc_edits.proofs.RoomLemmas.{root_full, root_refused}
use Rattle.doc_edits.proofs.room.test_chain.Goals as goal

pub returns-in_err-test_root-clause-value : goal.returns-in_err-test_root-clause-value
returns-in_err-test_root-clause-value g c =
    let state = c.args.blocks.now in let h = c.args.root.0 in let fault = c.in_err-test_root.field-0.0 in
    carried c.from_residual.result _ _ fault c.from_residual.ensures.1 (root_refused state.document h (is_full state) fault c.in_err-test_root.ensures)

pub returns-in_err-test_root-clause-refusals : goal.returns-in_err-test_root-clause-refusals
returns-in_err-test_root-clause-refusals g c =
    carried_so c.from_residual.result _ c.in_err-test_root.field-0.0 c.from_residual.ensures.1 (inl c.in_err-test_root.ensures)

pub returns-clause-value : goal.returns-clause-value
returns-clause-value g c =
    let state = c.args.blocks.now in let h = c.args.root.0 in
    MatchResult-weaker c.test_frames.result c.test_frames.ensures (λ _ room. room) (λ fault full. root_full state.document h (is_full state) fault c.in_ok-test_root.ensures full)

pub returns-clause-refusals : goal.returns-clause-refusals
returns-clause-refusals g c = refused_then c.test_frames.result _ _ _ c.test_frames.ensures (λ fault full. inr full)
