use Rattle.std.proofs.Common.{inl, refl}
use Rattle.std.proofs.lemmas.Result.{err_from_is_err_and}
use Rattle.c_sessions.specs.Keeping.{IsOpening}
use Rattle.c_sessions.proofs.Keepings.{begins}
use Rattle.c_sessions.proofs.kept.open.Goals as goal

pub returns : goal.returns
returns g c =
    begins g.F.ProgramFiles.calls (IsOpening g.F.Opened.Store.facts c.args.frames c.args.checksums) c.args.number (λ b. b.value) _ _ _ c.in_ok-store.store c.opened.result
    c.in_ok-store.ensures c.opened.ensures c.keep.result c.keep.ensures

pub returns-in_err-store : goal.returns-in_err-store
returns-in_err-store g c =
    let p = err_from_is_err_and c.from_residual.result c.from_residual.ensures.1 in
    rw (p.1, p.2) (inl (record { cause = c.in_err-store.field-0.0; opens = c.in_err-store.ensures; fault_is = refl }))
