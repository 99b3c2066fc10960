use Rattle.std.proofs.Common.{sym, ap, ◌∙◌}
use Rattle.std.proofs.Common.{nat_eq}
use Rattle.std.specs.Map.{lookup}
use Rattle.buffer_pool.proofs.OrderSteps.{absent, present}
use Rattle.buffer_pool.proofs.order.Order.peek.Goals as goal

pub returns-in-Some : goal.returns-in-Some
returns-in-Some c =
    let o = c.self.inside in
    sym (present o.seats.entries o.taken o.places c.self.invariant c.args.key c.in-Some.place (sym c.in-Some.ensures))
    ∙ ap (λ x. lookup (nat_eq c.args.key) x.entries) c.self.view_is

pub returns-in-None : goal.returns-in-None
returns-in-None c =
    let o = c.self.inside in
    sym (absent o.seats.entries o.taken o.places c.self.invariant c.args.key (sym c.in-None.ensures))
    ∙ ap (λ x. lookup (nat_eq c.args.key) x.entries) c.self.view_is
