use Rattle.std.proofs.Common.{◌≡◌, ◌&&◌, ◌++◌, ◌-◌, ap, arith, drop, length-drop, take, take_all, append-nil, length, sym, ◌∙◌}
use Rattle.geos_shell.specs.Manners.{begins_with_no, lead}
use Rattle.geos_shell.proofs.Manners.{lead_pushed}
use Rattle.geos_shell.proofs.answering.push_lines.Goals as goal
use Rattle.geos_shell.proofs.answering.push_lines.Goals.{then-manner+in_ok-extend_from_slice+in_ok-push, else-manner}

-- The line stands before its reply where it is echoed.

pub returns-then-manner-2-clause-ok : goal.returns-then-manner-2-clause-ok
returns-then-manner-2-clause-ok g c =
    let led : c.if-manner.out.items ≡ c.args.out.now.items ++ lead c.args.manner.echoes c.args.line.now = elim c.if-manner.branch [
      | then-manner+in_ok-extend_from_slice+in_ok-push w ↦
          rw w.out-is (lead_pushed c.args.manner.echoes c.args.line.now c.args.out.now.items w.extend_from_slice.new.self.items w.push.new.self.items w.min.result w.if-manner.true w.min.ensures w.in_ok-extend_from_slice.ensures.items w.in_ok-push.ensures.items)
      | else-manner w ↦ rw (w.out-is, w.if-manner.false) (sym (append-nil c.args.out.now.items))
    ] in
    rw led at c.in_ok-answer_line.ensures.ok

pub returns-else-manner-2-clause-ok : goal.returns-else-manner-2-clause-ok
returns-else-manner-2-clause-ok g c =
    let led : c.if-manner.out.items ≡ c.args.out.now.items ++ lead c.args.manner.echoes c.args.line.now = elim c.if-manner.branch [
      | then-manner+in_ok-extend_from_slice+in_ok-push w ↦
          rw w.out-is (lead_pushed c.args.manner.echoes c.args.line.now c.args.out.now.items w.extend_from_slice.new.self.items w.push.new.self.items w.min.result w.if-manner.true w.min.ensures w.in_ok-extend_from_slice.ensures.items w.in_ok-push.ensures.items)
      | else-manner w ↦ rw (w.out-is, w.if-manner.false) (sym (append-nil c.args.out.now.items))
    ] in
    rw led at c.in_ok-answer_line.ensures.ok

pub returns-then-manner-2-clause-refused : goal.returns-then-manner-2-clause-refused
returns-then-manner-2-clause-refused g c =
    let led : c.if-manner.out.items ≡ c.args.out.now.items ++ lead c.args.manner.echoes c.args.line.now = elim c.if-manner.branch [
      | then-manner+in_ok-extend_from_slice+in_ok-push w ↦
          rw w.out-is (lead_pushed c.args.manner.echoes c.args.line.now c.args.out.now.items w.extend_from_slice.new.self.items w.push.new.self.items w.min.result w.if-manner.true w.min.ensures w.in_ok-extend_from_slice.ensures.items w.in_ok-push.ensures.items)
      | else-manner w ↦ rw (w.out-is, w.if-manner.false) (sym (append-nil c.args.out.now.items))
    ] in
    let start : c.len-reply.result ≡ length c.if-manner.out.items = omega (arith, c.len-reply.ensures, c.if-manner.out.ok.0) in
    let slice : take (length c.deref.result.now - c.len-reply.result) (drop c.len-reply.result c.deref.result.now) ≡ drop (length c.if-manner.out.items) c.answer_line.new.out.items =
    rw (start, c.deref.ensures.value) (take_all _ _ (omega (arith, length-drop (length c.if-manner.out.items) c.answer_line.new.out.items))) in
    rw (sym led, c.if-manner-2.true) (c.starts_with.ensures.value ∙ ap begins_with_no slice)
