use Rattle.std.proofs.Common.{nat_eq, sym, ap, ◌∙◌}
use Rattle.std.specs.Option.{option_and_then, option_copied}
use Rattle.std.specs.Map.{lookup}
use Rattle.slab.specs.Slab.{get}
use Rattle.buffer_pool.proofs.SeatLemmas.{lookup-seated}
use Rattle.buffer_pool.proofs.pool.BufferPool.peek.Goals as goal

pub returns-in_err-peek : goal.returns-in_err-peek
returns-in_err-peek g c =
    let p = c.self.inside in
    let test = nat_eq c.args.key in
    ap option_copied c.from_residual.ensures ∙ ap (option_and_then (get p.values)) c.in_err-peek.ensures
    ∙ sym (lookup-seated p.values test p.order.entries c.self.invariant.taken) ∙ ap (λ x. lookup test x.entries) c.self.view_is

pub returns : goal.returns
returns g c =
    let p = c.self.inside in
    let test = nat_eq c.args.key in
    c.get.ensures ∙ ap (option_and_then (get p.values)) c.in_ok-peek.ensures
    ∙ sym (lookup-seated p.values test p.order.entries c.self.invariant.taken) ∙ ap (λ x. lookup test x.entries) c.self.view_is
