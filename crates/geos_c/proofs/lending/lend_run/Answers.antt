use Rattle.std.proofs.Common.{◌≡◌, ◌≢◌, ◌∙◌, Ok, Err, refl, rules, sym, ap, length}
use Rattle.std.specs.Ptr.{as_ptr, null_ptr}
use Rattle.geos_c.proofs.lending.lend_run.Goals as goal

pub returns-in-Ok : goal.returns-in-Ok
returns-in-Ok g c =
    let there : c.address.result ≢ null_ptr = λ none. let wrong : null_ptr ≡ as_ptr c.run_bytes-lent.result = sym none ∙ c.address.ensures in absurd (cc wrong) in
    (Ok c.in-Ok.place, refl, (c.in-Ok.ensures, (refl, there, ap length c.run_bytes-lent.ensures)))

pub returns-in-Err : goal.returns-in-Err
returns-in-Err g c = (Err c.in-Err.fault, search rules, (c.in-Err.ensures, (refl, c.nowhere.ensures, refl)))
