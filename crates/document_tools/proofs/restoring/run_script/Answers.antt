use Rattle.std.proofs.Common.{◌≡◌, Err, Ok}
use Rattle.document_tools.proofs.Restored.{caused}
use Rattle.document_tools.proofs.restoring.run_script.Goals as goal

-- Whatever the run comes to, the file is closed.
pub returns : goal.returns
returns g c =
    let new = c.run_in_manner-ended.new in
    record {
      result = c.run_in_manner-ended.result;
      left = record { session = new.session; target = new.target; former = new.former };
      runs = c.run_in_manner-ended.ensures.runs;
      cause = caused _ _ c.run_in_manner-ended.result (λ failed. let wrong : Err failed.2 ≡ Ok tt = failed.3 in absurd (cc wrong)) c.run_in_manner-ended.ensures.cause;
      closes = rw c.close.ensures at c.close-2.ensures;
      ends = c.end_of_run.ensures;
    }
