use Rattle.std.proofs.Common.{◌≡◌, None, false, inl, is_err, is_ok, refl, rules, true}
use Rattle.geos_model.specs.Script.{command}
use Rattle.geos_model.specs.declared.command.Command.TheVariants as commands
use Rattle.geos_replies.proofs.Calls.{on_ok_if, was_ok}
use Rattle.geos_replies.proofs.Replying.{may_serve_by, responds_bad, responds_by}
use Rattle.geos_replies.proofs.replies.answer_line.Goals as goal
use Rattle.geos_replies.proofs.replies.answer_line.Goals.{in-Ok-2, in-Err-BadCommand, in-Err}

-- Memory ran out: for the line, or for its reply.
pub returns-then-is_err-clause-may : goal.returns-then-is_err-clause-may
returns-then-is_err-clause-may g c =
    elim c.match-read_command.branch [
      | in-Ok-2 w ↦ rw (w.session-is, w.target-is, w.former-is) (may_serve_by g.S.Store.facts _ _ w.push_response-answered.result _ _ _ _ w.in-Ok.ensures.ok w.push_response-answered.ensures.replied)
      | in-Err-BadCommand w ↦ rw (w.session-is, w.target-is, w.former-is) (inl refl)
      | in-Err w ↦ rw (w.session-is, w.target-is, w.former-is) (inl refl)
    ]

-- Its text is put, and a line feed behind that.
pub returns-clause-ok : goal.returns-clause-ok
returns-clause-ok g c =
    let well : is_err c.match-read_command.answered ≡ false = cc (c.is_err.ensures.value, c.if-is_err.false) in
    let put : is_ok c.push.result ≡ true = cc (c.is_err-else-is_err.ensures.negation, c.if-is_err-2.false) in
    let feed = was_ok c.push.result put (on_ok_if c.push.result _ _ _ c.push.ensures.items) in
    elim c.match-read_command.branch [
      | in-Ok-2 w ↦
          let some : c.read_command.new.place ≡ commands.Blank → ⊥ = search rules in
          rw (w.session-is, w.target-is, w.former-is) (responds_by g.S.Store.facts _ _ w.push_response-answered.result _ _ _ _ _ some w.in-Ok.ensures.ok (rw w.answered-is at well) (rw w.out-is at feed) w.push_response-answered.ensures.replied)
      | in-Err-BadCommand w ↦
          let none : command c.args.line.now ≡ None = c.read_command.ensures.bad.0 (cc (w.in-Err-BadCommand.is, w.in-Err-BadCommand.field-0-is)) in
          let text = was_ok w.push_reply-answered.result (cc (w.answered-is, well)) w.push_reply-answered.ensures.ok in
          rw (w.session-is, w.target-is, w.former-is, none) (responds_bad g.S.Store.facts _ _ _ _ text (rw w.out-is at feed))
      | in-Err w ↦ cc (rw w.answered-is at well)
    ]
