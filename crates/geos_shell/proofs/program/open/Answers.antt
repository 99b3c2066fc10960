use Rattle.std.proofs.Common.{◌≡◌, ◌∙◌, sym, true, false}
use Rattle.geos_shell.proofs.Begun.{is_opened, opened_limited}
use Rattle.geos_shell.proofs.program.open.Goals as goal

-- The session is that of the document that was there.
pub returns-clause-ok : goal.returns-clause-ok
returns-clause-ok g c =
    let opened = c.in-Ok.ensures in let found = opened.opened in
    let frames : c.in-Ok.session.frames ≡ c.args.options.cache = cc (opened.new.1, c.from-frames.ensures) in
    let facts = g.F.Opened.Store.facts in
    let whole = is_opened facts c.args.options.cache c.args.options.checksums c.args.store c.in-Ok.session found.follows.honest found.follows.failures found.unchanged found.documents found.now opened.exact (rw c.from-frames.ensures at opened.machine) frames found.sequence found.numbered found.checksums found.crash_consistent in
    record {
      target_is = c.in-Ok-open_target.ensures.ok;
      session_is = rw c.requires.old (opened_limited facts c.args.options.cache c.args.options.checksums c.args.store c.in-Ok.session c.limit_undo.new.self c.args.options.undo_limit c.limit_undo.ensures.done c.limit_undo.ensures.machine whole);
    }

-- The target can't be opened, and the document's store is closed.
pub returns-in_default-clause-err : goal.returns-in_default-clause-err
returns-in_default-clause-err g c =
    let opened = c.in-Ok.ensures in let found = opened.opened in
    let frames : c.in-Ok.session.frames ≡ c.args.options.cache = cc (opened.new.1, c.from-frames.ensures) in
    let facts = g.F.Opened.Store.facts in
    let whole = is_opened facts c.args.options.cache c.args.options.checksums c.args.store c.in-Ok.session found.follows.honest found.follows.failures found.unchanged found.documents found.now opened.exact (rw c.from-frames.ensures at opened.machine) frames found.sequence found.numbered found.checksums found.crash_consistent in
    record {
      failed = c.open_target.new.files;
      target = c.in_default.ensures.err;
      left = c.close-in_default.result;
      untouched = λ is. let no : true ≡ false = sym is ∙ c.requires.old in absurd (cc no);
      was_opened = λ is. (
        c.limit_undo.new.self,
        opened_limited facts c.args.options.cache c.args.options.checksums c.args.store c.in-Ok.session c.limit_undo.new.self c.args.options.undo_limit c.limit_undo.ensures.done c.limit_undo.ensures.machine whole,
        c.close-in_default.ensures,
      );
      closes = c.close-in_default-2.ensures;
    }
