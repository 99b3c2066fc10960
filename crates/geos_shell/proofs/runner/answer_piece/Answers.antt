use Rattle.std.proofs.Common.{◌≡◌, ◌∙◌, ◌++◌, [], List, ap, arith, drop, inl, inr, length-drop, refl, sym, take}
use Rattle.std.proofs.lemmas.List.{append_assoc, take-append-drop, take_rest}
use Rattle.std.proofs.lemmas.Result.{err_from_is_err_and}
use Rattle.geos_replies.specs.Holdings.{holding}
use Rattle.geos_shell.specs.Progress.{moment}
use Rattle.geos_shell.proofs.Runs.{AnswersPiece-none, AnswersPiece-trans, PieceFails-trans, Unsent-fed, piece_sent}
use Rattle.geos_shell.proofs.runner.answer_piece.Goals as goal

pub loop-rest-init : goal.loop-rest-init
loop-rest-init g c =
    let old = moment (holding c.args.session.now c.args.target.now c.args.former.now) c.args.answering.now in
    ([], refl, AnswersPiece-none g.S.Store.facts c.args.manner old (g.W.Sink.contents c.args.writer.now), λ none. none, omega arith)

-- The writer failed behind the front of what was left.
pub returns-in_err-send-clause-err : goal.returns-in_err-send-clause-err
returns-in_err-send-clause-err g c =
    let facts = g.S.Store.facts in
    let manner = c.args.manner in
    let (used, cut, goes, none, counted) = c.loop-rest.invariant in
    let rest = c.loop-rest.rest.now in
    let first = moment (holding c.args.session.now c.args.target.now c.args.former.now) c.args.answering.now in
    let before = moment (holding c.loop-rest.session c.loop-rest.target c.loop-rest.former) c.loop-rest.answering in
    let done = c.feed-fed in
    let after = moment (holding done.new.session done.new.target done.new.former) done.new.self in
    let out = g.W.Sink.contents c.loop-rest.writer in
    let ended = err_from_is_err_and c.from_residual.result c.from_residual.ensures.1 in
    rw (ended.1, ended.2) (rw cut (PieceFails-trans facts manner first before used rest (g.W.Sink.contents c.args.writer.now) out (g.W.Sink.contents c.send.new.writer) goes _ after.holding (inl (c.in_err-send.ensures.err.0, Unsent-fed facts manner before after rest done.result done.ensures.ok done.ensures.err))))

-- The run stopped in what was left.
pub returns-in_err-rest-clause-err : goal.returns-in_err-rest-clause-err
returns-in_err-rest-clause-err g c =
    let facts = g.S.Store.facts in
    let manner = c.args.manner in
    let (used, cut, goes, none, counted) = c.loop-rest.invariant in
    let rest = c.loop-rest.rest.now in
    let first = moment (holding c.args.session.now c.args.target.now c.args.former.now) c.args.answering.now in
    let before = moment (holding c.loop-rest.session c.loop-rest.target c.loop-rest.former) c.loop-rest.answering in
    let done = c.feed-fed in
    let after = moment (holding done.new.session done.new.target done.new.former) done.new.self in
    let out = g.W.Sink.contents c.loop-rest.writer in
    let ended = err_from_is_err_and c.from_residual-in_err-rest.result c.from_residual-in_err-rest.ensures.1 in
    rw (ended.1, ended.2) (rw cut (PieceFails-trans facts manner first before used rest (g.W.Sink.contents c.args.writer.now) out (g.W.Sink.contents c.send.new.writer) goes _ after.holding
    (inr (record { written = after.kept.replies.items; appended = c.in_ok-send.ensures.ok.1; stops = c.in_err-rest.ensures.err }))))

-- The front of what was left is answered, and sent.
pub loop-rest-preserved : goal.loop-rest-preserved
loop-rest-preserved g c =
    let facts = g.S.Store.facts in
    let manner = c.args.manner in
    let (used, cut, goes, none, counted) = c.loop-rest.invariant in
    let rest = c.loop-rest.rest.now in
    let first = moment (holding c.args.session.now c.args.target.now c.args.former.now) c.args.answering.now in
    let before = moment (holding c.loop-rest.session c.loop-rest.target c.loop-rest.former) c.loop-rest.answering in
    let done = c.feed-fed in
    let after = moment (holding done.new.session done.new.target done.new.former) done.new.self in
    let left = moment (holding done.new.session done.new.target done.new.former) (record done.new.self { replies = c.send.new.replies }) in
    let out = g.W.Sink.contents c.loop-rest.writer in
    let end = g.W.Sink.contents c.send.new.writer in
    let sent = c.in_ok-send.ensures.ok in
    let n = c.in_ok-rest.field-0 in
    let fed = take n rest in
    let all : c.args.piece.now ≡ (used ++ fed) ++ drop n rest = cut ∙ ap (λ l. used ++ l) (sym (take-append-drop n rest)) ∙ sym (append_assoc used fed (drop n rest)) in (
      used ++ fed,
      rw (take_rest rest n) all,
      AnswersPiece-trans facts manner first before used fed (g.W.Sink.contents c.args.writer.now) out end goes left (piece_sent facts manner before after fed left out end refl refl refl c.in_ok-rest.ensures.ok sent.0 sent.1),
      λ _. sent.0,
      omega (arith, counted, c.in_ok-rest.ensures.counted, c.in_ok-rest.ensures.used, length-drop n rest),
    )
