use Rattle.std.proofs.Common.{◌≡◌, ◌∙◌, ap, ◌<◌, ℕ, List, [], Option, Result, Ok, length, take, arith, length-take, refl, subst}
use Rattle.std.proofs.lemmas.Bool.Decides.{nat_tests}
use Rattle.std.specs.Io.KnownBytes.{Consumes, IsAtEnd, ReadConsumes}
use Rattle.std.proofs.KnownBytes.{Keeps-refl}
use Rattle.std.proofs.lemmas.Result.{IfErr-weaker, MatchResult-from_both, err_from_is_err_and, on_ok_weaker}
use Rattle.geos_replies.specs.Holdings.{holding}
use Rattle.geos_shell.proofs.ReadsMade.{ReadsOften-none, ReadsOften-one}
use Rattle.geos_shell.proofs.Runs.{Ran-none, Ran-kept, Ran-piece, AnswersFinished-now, AnswersSome-piece, AnswersSome-rest, AnswersUnsent-behind, AnswersAll-end, EndsBy-or}
use Rattle.geos_shell.proofs.runner.run_in_manner.Goals as goal
use Rattle.geos_shell.proofs.runner.run_in_manner.Goals.{in-Err-Interrupted, in-Ok+in_ok-answer_piece-in-Ok}

pub loop-init : goal.loop-init
loop-init g c = (
  Ran-none g.S.Store.facts c.args.manner _ _ (holding c.args.session.now c.args.target.now c.args.former.now) (record { begun = c.new.result; replies = c.new-2.result; ended = 0 }) c.new.ensures.items c.new-2.ensures.items refl,
  ReadsOften-none g.R.Source.reads c.args.reader.now,
  c.new-2.ensures.items,
  omega arith,
)

-- a read that gave nothing
at_end : {E : Type 0} (old new : Option (List ℕ)) (buf : List ℕ) (r : Result ℕ E) (n : ℕ) → r ≡ Ok n → n ≡ 0 → ReadConsumes old new r buf → 0 < length buf → Consumes old new [] × IsAtEnd new
at_end old new buf r n is none reads some =
    let gives = subst (λ x. ReadConsumes old new x buf) (is ∙ ap Ok none) reads in
    (gives.0, gives.1 refl some)

-- The reader failed.
pub returns-in-Err-Failed-clause-runs : goal.returns-in-Err-Failed-clause-runs
returns-in-Err-Failed-clause-runs g c = AnswersFinished-now c.loop.invariant.0 _ c.in-Err-Failed.ensures.bytes

-- The script ended, and so did the run, or its last line or the writer stopped it.
pub returns-in-Ok-eq0-clause-runs : goal.returns-in-Ok-eq0-clause-runs
returns-in-Ok-eq0-clause-runs g c =
    let facts = g.S.Store.facts in
    let manner = c.args.manner in
    let to = g.R.Source.remaining c.read_piece.new.self in
    let after = g.W.Sink.contents c.answer_rest.new.writer in
    let gives = at_end (g.R.Source.remaining c.loop.reader) to c.read_piece.new.piece c.read_piece.result c.in-Ok-eq0.field-0 c.in-Ok-eq0.is (omega (arith, c.in-Ok-eq0.field-0-is)) c.read_piece.ensures.bytes (omega (arith, c.loop-test.true)) in
    let done = c.answer_rest in
    let new = holding done.new.session done.new.target done.new.former in
    MatchResult-from_both done.result _ _
    (on_ok_weaker done.result (λ rest. AnswersAll-end c.loop.invariant.0 to after new gives.0 gives.1 rest) done.ensures.ok)
    (IfErr-weaker done.result _ _ (λ fault stops.
    EndsBy-or fault facts manner _ _ to _ after new (AnswersUnsent-behind c.loop.invariant.0 to _ new gives.0) (AnswersSome-rest c.loop.invariant.0 fault to after new gives.0) stops) done.ensures.err)

-- A piece or the writer stopped the run.
pub returns-in_err-answer_piece-in-Ok-clause-runs : goal.returns-in_err-answer_piece-in-Ok-clause-runs
returns-in_err-answer_piece-in-Ok-clause-runs g c =
    let facts = g.S.Store.facts in
    let manner = c.args.manner in
    let to = g.R.Source.remaining c.read_piece.new.self in
    let done = c.answer_piece in
    let after = g.W.Sink.contents done.new.writer in
    let piece = c.read_piece.new.piece in
    let count = c.in-Ok.count in
    let gives = c.in-Ok.ensures in
    let some : 0 < length (take count piece) = grind (arith, nat_tests, length-take count piece, gives.bound, c.in-Ok.count-test) in
    let new = holding done.new.session done.new.target done.new.former in
    let r = c.from_residual in
    let p = err_from_is_err_and r.result r.ensures.1 in
    rw (p.1, p.2)
    (EndsBy-or _ facts manner _ _ to _ after new (AnswersUnsent-behind c.loop.invariant.0 to (take count piece) new gives.bytes.0) (AnswersSome-piece c.loop.invariant.0 _ to after (take count piece) new some gives.bytes.0) c.in_err-answer_piece-in-Ok.ensures.err)

-- One more read.
pub loop-preserved : goal.loop-preserved
loop-preserved g c =
    let (ran, often, none, counted) = c.loop.invariant in
    let more = ReadsOften-one g.R.Source.reads c.loop.counter _ c.args.reader.now c.loop.reader c.read_piece.new.self c.read_piece.result refl often c.read_piece.ensures.call in
    elim c.match-read_piece.branch [
      | in-Err-Interrupted w ↦
          let gives = w.in-Err-Interrupted.ensures.bytes in
          rw (w.writer-is, w.answering-is, w.session-is, w.target-is, w.former-is) (Ran-kept ran _ gives, more, none, omega (arith, counted))
      | in-Ok+in_ok-answer_piece-in-Ok w ↦
          let gives = w.in-Ok.ensures in
          let sent = w.in_ok-answer_piece-in-Ok.ensures.sent none in
          let bytes = take w.in-Ok.count c.read_piece.new.piece in
          rw (w.writer-is, w.answering-is, w.session-is, w.target-is, w.former-is) (
            Ran-piece ran _ _ bytes _ gives.bytes.0 w.in_ok-answer_piece-in-Ok.ensures.ok sent,
            more,
            sent,
            omega (arith, counted, gives.bound, w.in_ok-answer_piece-in-Ok.ensures.counted, length-take w.in-Ok.count c.read_piece.new.piece),
          )
    ]

-- The reader did not end.
pub returns-clause-runs : goal.returns-clause-runs
returns-clause-runs g c = AnswersFinished-now c.loop.invariant.0 _ (Keeps-refl _)
