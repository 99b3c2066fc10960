use Rattle.std.proofs.Common.{◌≡◌, ◌∙◌, inl, inr, refl}
use Rattle.geos_shell.specs.Outcome.{outcome_text, run_line}
use Rattle.geos_shell.specs.declared.runner.RunFault.TheVariants as faults
use Rattle.geos_shell.proofs.outcome.Outcome.tell_fault.Goals as goal
use Rattle.geos_shell.proofs.outcome.Outcome.tell_fault.Goals.{in-Ok, in-Err}

-- The line was made and written, or that there was no memory for it.
pub returns : goal.returns
returns g c =
    elim c.match-write_line.branch [
      | in-Ok w ↦
          let text : c.write_line.new.writer.items ≡ outcome_text c.args.self.now = rw c.new-line.ensures at w.in-Ok.ensures in
          (record { text = w.as_slice.result.now; is = inl (w.as_slice.ensures.value ∙ text); result = w.write_out.result; written = rw w.errors-is w.write_out.ensures.call }, c.status.ensures)
      | in-Err w ↦
          (record { text = run_line faults.Memory; is = inr refl; result = w.write_out-in-Err.result; written = rw w.errors-is w.write_out-in-Err.ensures.call }, c.status.ensures)
    ]
