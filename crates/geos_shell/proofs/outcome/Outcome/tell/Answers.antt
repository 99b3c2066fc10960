use Rattle.std.proofs.Common.{inl, refl}
use Rattle.geos_shell.proofs.outcome.Outcome.tell.Goals as goal

-- What clap says is written as it is.
pub returns-in-Usage : goal.returns-in-Usage
returns-in-Usage g c = rw c.in-Usage.is (refl, record { text = c.as_slice.result.now; is = inl c.as_slice.ensures; result = c.write_out.result; written = c.write_out.ensures.call }, refl)
