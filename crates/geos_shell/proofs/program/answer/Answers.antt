use Rattle.geos_shell.proofs.program.answer.Goals as goal

-- Whatever the run comes to, all is closed.

pub returns-in-Ok-clause-answered : goal.returns-in-Ok-clause-answered
returns-in-Ok-clause-answered g c =
    let new = c.run_in_manner-ended.new in
    record {
      left = record { session = new.session; target = new.target; former = new.former };
      ends = c.in-Ok.ensures.runs;
      closes = record { first = c.close-2.new.self; second = c.close_any.new.files; file = rw c.close.ensures at c.close-2.ensures; target = c.close_any.ensures; former = c.close_any-2.ensures };
    }

pub returns-in-Err-clause-answered : goal.returns-in-Err-clause-answered
returns-in-Err-clause-answered g c =
    let new = c.run_in_manner-ended.new in
    record {
      left = record { session = new.session; target = new.target; former = new.former };
      ends = c.in-Err.ensures.runs;
      closes = record { first = c.close-2.new.self; second = c.close_any.new.files; file = rw c.close.ensures at c.close-2.ensures; target = c.close_any.ensures; former = c.close_any-2.ensures };
    }
