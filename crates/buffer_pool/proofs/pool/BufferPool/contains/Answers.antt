use Rattle.std.proofs.Common.{nat_eq, is_some, sym, ap, ◌∙◌}
use Rattle.std.specs.Map.{lookup}
use Rattle.buffer_pool.proofs.SeatLemmas.{has-seated}
use Rattle.buffer_pool.proofs.pool.BufferPool.contains.Goals as goal

pub returns : goal.returns
returns g c =
    let p = c.self.inside in
    c.is_some.ensures ∙ ap is_some c.peek.ensures ∙ sym (has-seated p.values (nat_eq c.args.key) p.order.entries c.self.invariant.taken) ∙ ap (λ x. is_some (lookup (nat_eq c.args.key) x.entries)) c.self.view_is
