use Rattle.std.proofs.Common.{◌≡◌, ◌++◌, ◌∷◌, [], ◌+◌, ◌<◌, length, length-drop, take, drop, arith, sym, ap, ◌∙◌, refl}
use Rattle.std.proofs.lemmas.List.{append_assoc, take_all, take_rest}
use Rattle.std.proofs.lemmas.Result.{err_from_is_err_and}
use Rattle.geos_replies.specs.Holdings.{holding}
use Rattle.geos_shell.specs.Progress.{StopsIn, moment}
use Rattle.geos_shell.proofs.Lines.{HasNoFeed-before, HasNoFeed-from_reads, cut_at_feed, front_of, rest_at_feed}
use Rattle.geos_shell.proofs.Steps.{MovesTo-trans, StopsIn-trans, StopsIn-same, Progress-part}
use Rattle.geos_shell.specs.declared.runner.RunFault.TheVariants as faults
use Rattle.geos_shell.proofs.answering.Answering.feed.Goals as goal

-- The run stops in a line: the lines before it are answered.
pub returns-in_err-end_line-clause-err : goal.returns-in_err-end_line-clause-err
returns-in_err-end_line-clause-err g c =
    let facts = g.S.Store.facts in
    let (used, cut, goes, counted) = c.loop-end.invariant in
    let rest = c.loop-end.rest.now in
    let end = c.in-Some.end in
    let found = c.in-Some.ensures in
    let within : end < length rest = found.0.high in
    let free = HasNoFeed-before rest end (omega arith) (λ k low. found.0.before k (omega arith) low) in
    let first = moment (holding c.args.session.now c.args.target.now c.args.former.now) c.args.self.now in
    let before = moment (holding c.loop-end.session c.loop-end.target c.loop-end.former) c.loop-end.self in
    let after = moment (holding c.end_line.new.session c.end_line.new.target c.end_line.new.former) c.end_line.new.self in
    let fault = c.in_err-end_line.field-0.0 in
    let stops : StopsIn fault facts c.args.manner before rest after = rw (rest_at_feed rest end within found.1) (c.in_err-end_line.ensures.err free (drop (end + 1) rest)) in
    let ended = err_from_is_err_and c.from_residual.result c.from_residual.ensures.1 in
    rw (ended.1, ended.2) (rw cut (StopsIn-trans facts c.args.manner fault first before after used rest goes stops))

-- A line ends.
pub loop-end-preserved : goal.loop-end-preserved
loop-end-preserved g c =
    let (used, cut, goes, counted) = c.loop-end.invariant in
    let rest = c.loop-end.rest.now in
    let end = c.in-Some.end in
    let found = c.in-Some.ensures in
    let within : end < length rest = found.0.high in
    let free = HasNoFeed-before rest end (omega arith) (λ k low. found.0.before k (omega arith) low) in
    let line = take end rest ++ 10 ∷ [] in
    let all : c.args.piece.now ≡ (used ++ line) ++ drop (end + 1) rest =
    cut ∙ ap (λ l. used ++ l) (cut_at_feed rest end within found.1) ∙ sym (append_assoc used line (drop (end + 1) rest)) in
    let first = moment (holding c.args.session.now c.args.target.now c.args.former.now) c.args.self.now in
    let before = moment (holding c.loop-end.session c.loop-end.target c.loop-end.former) c.loop-end.self in
    let after = moment (holding c.end_line.new.session c.end_line.new.target c.end_line.new.former) c.end_line.new.self in
    (used ++ line, rw (take_rest rest (end + 1)) all, MovesTo-trans g.S.Store.facts c.args.manner first before after used line goes (c.in_ok-end_line.ensures.ok free), omega (arith, counted, c.in_ok-end_line.ensures.one, within, length-drop (end + 1) rest))

-- The replies are to be sent before the next line.
pub returns-then-len-gt-HELD-clause-ok : goal.returns-then-len-gt-HELD-clause-ok
returns-then-len-gt-HELD-clause-ok g c start read sent p =
    let (used, cut, goes, counted) = c.loop-end.invariant in
    let rest = c.loop-end.rest.now in
    let end = c.in-Some.end in
    let found = c.in-Some.ensures in
    let within : end < length rest = found.0.high in
    let free = HasNoFeed-before rest end (omega arith) (λ k low. found.0.before k (omega arith) low) in
    let line = take end rest ++ 10 ∷ [] in
    let all : c.args.piece.now ≡ (used ++ line) ++ drop (end + 1) rest =
    cut ∙ ap (λ l. used ++ l) (cut_at_feed rest end within found.1) ∙ sym (append_assoc used line (drop (end + 1) rest)) in
    let first = moment (holding c.args.session.now c.args.target.now c.args.former.now) c.args.self.now in
    let before = moment (holding c.loop-end.session c.loop-end.target c.loop-end.former) c.loop-end.self in
    let after = moment (holding c.end_line.new.session c.end_line.new.target c.end_line.new.former) c.end_line.new.self in
    rw (take_rest rest (end + 1), front_of (used ++ line) (drop (end + 1) rest) c.args.piece.now all) (MovesTo-trans g.S.Store.facts c.args.manner first before after used line goes (c.in_ok-end_line.ensures.ok free) start read sent p)

-- The rest of the piece is kept.
pub returns-clause-ok : goal.returns-clause-ok
returns-clause-ok g c start read sent p =
    let (used, cut, goes, counted) = c.loop-end.invariant in
    let rest = c.loop-end.rest.now in
    let held = holding c.loop-end.session c.loop-end.target c.loop-end.former in
    let first = moment (holding c.args.session.now c.args.target.now c.args.former.now) c.args.self.now in
    let before = moment held c.loop-end.self in
    let after = moment held (record c.loop-end.self { begun = c.keep.new.begun }) in
    let free = HasNoFeed-from_reads rest (λ k low. c.in_default.ensures k (omega arith) low) in
    let whole = take_all (length c.args.piece.now) c.args.piece.now (omega arith) in
    rw (whole, cut) (MovesTo-trans g.S.Store.facts c.args.manner first before after used rest goes (λ start read sent p. Progress-part p rest c.keep.new.begun.items free c.in_ok-keep.ensures.ok) start read sent p)

-- No memory to keep it.
pub returns-in_err-keep-clause-err : goal.returns-in_err-keep-clause-err
returns-in_err-keep-clause-err g c =
    let facts = g.S.Store.facts in
    let (used, cut, goes, counted) = c.loop-end.invariant in
    let rest = c.loop-end.rest.now in
    let held = holding c.loop-end.session c.loop-end.target c.loop-end.former in
    let first = moment (holding c.args.session.now c.args.target.now c.args.former.now) c.args.self.now in
    let before = moment held c.loop-end.self in
    let after = moment held (record c.loop-end.self { begun = c.keep.new.begun }) in
    let ended = err_from_is_err_and c.from_residual-in_err-keep.result c.from_residual-in_err-keep.ensures.1 in
    rw (ended.1, ended.2) (rw cut (StopsIn-trans facts c.args.manner faults.Memory first before after used rest goes (StopsIn-same facts c.args.manner before after rest refl refl)))
