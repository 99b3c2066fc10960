use Rattle.std.proofs.Common.{IsTrue, Some, ◌∙◌, ap, subst, sym}
use Rattle.document_file.specs.Sums.{version_for}
use Rattle.geos_shell.proofs.Begun.{created_limited}
use Rattle.geos_shell.proofs.program.create.Goals as goal

-- The session is that of a new file.
pub returns-in-Ok-create-clause-ok : goal.returns-in-Ok-create-clause-ok
returns-in-Ok-create-clause-ok g c =
    let made = c.in-Ok-create.ensures in let file = made.made in
    let facts = g.F.Opened.Store.facts in
    record {
      target_is = c.in-Ok.ensures.ok;
      session_is = rw c.requires.new (created_limited facts c.args.options.cache c.args.options.checksums c.args.store c.in-Ok-create.session c.limit_undo.new.self c.args.options.undo_limit
          c.limit_undo.ensures.done c.limit_undo.ensures.machine (record {
            honest = file.follows.honest;
            failures = file.follows.failures;
            exact = made.exact;
            machine = λ target. rw c.from.ensures at (made.machine target);
            frames_are = cc (made.new.1, c.from.ensures);
            in_doubt = file.new_file.in_doubt;
            numbered = λ so. file.new_file.numbered (subst IsTrue (sym file.follows.honest) so);
            checksums_are = file.checksums;
            version = λ so. file.new_file.version (subst IsTrue (sym file.follows.honest) so) ∙ ap (λ b. Some (version_for b)) file.checksums;
            crash_consistent = file.new_file.crash_consistent;
          }));
    }
