use Rattle.std.proofs.Common.{IsTrue, Some, ◌∙◌, ap, inl, inr, refl, subst, sym}
use Rattle.document_file.specs.Sums.{version_for}
use Rattle.document_tools.proofs.restoring.restore_in.Goals as goal

-- The session is that of a new file, or none could be made in it.

pub returns-in-Ok : goal.returns-in-Ok
returns-in-Ok g c =
    let made = c.in-Ok.ensures in let file = made.made in
    inr (
      c.in-Ok.session,
      record {
        honest = file.follows.honest;
        failures = file.follows.failures;
        exact = made.exact;
        machine = made.machine;
        frames_are = made.new.1;
        in_doubt = file.new_file.in_doubt;
        numbered = λ so. file.new_file.numbered (subst IsTrue (sym file.follows.honest) so);
        checksums_are = file.checksums;
        version = λ so. file.new_file.version (subst IsTrue (sym file.follows.honest) so) ∙ ap (λ b. Some (version_for b)) file.checksums;
        crash_consistent = file.new_file.crash_consistent;
      },
      c.run_script.ensures,
    )

pub returns-in-Err : goal.returns-in-Err
returns-in-Err g c =
    let refused = c.in-Err.refused in let none = c.in-Err.ensures.made in
    inl (refused.fault, refused.store, record { supply = none.faults; early = none.early; file = none.file }, c.close.ensures, c.uncreated.ensures, refl)
