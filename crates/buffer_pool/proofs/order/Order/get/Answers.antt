use Rattle.std.proofs.Common.{nat_eq, sym, ap, subst, ◌∙◌}
use Rattle.std.specs.Map.{lookup}
use Rattle.lru.specs.LruCache.{lru_cache, promoted}
use Rattle.buffer_pool.specs.Orders.{IsOrdered, keyed}
use Rattle.buffer_pool.proofs.OrderLemmas.{none_used}
use Rattle.buffer_pool.proofs.OrderSteps.{absent, present, used_keyed, used_ordered}
use Rattle.buffer_pool.proofs.order.Order.get.Goals as goal

-- it isn't there

pub returns-in_err-place-clause-value : goal.returns-in_err-place-clause-value
returns-in_err-place-clause-value c =
    let o = c.self.inside in
    c.from_residual.ensures ∙ sym (absent o.seats.entries o.taken o.places c.self.invariant c.args.key (sym c.in_err-place.ensures))
    ∙ ap (λ x. lookup (nat_eq c.args.key) x.entries) c.self.view_is

pub returns-in_err-place-clause-entries : goal.returns-in_err-place-clause-entries
returns-in_err-place-clause-entries c =
    let o = c.self.inside in
    let none = sym (absent o.seats.entries o.taken o.places c.self.invariant c.args.key (sym c.in_err-place.ensures)) ∙ ap (λ x. lookup (nat_eq c.args.key) x.entries) c.self.view_is in
    ap (λ es. lru_cache es c.args.self.now.cap) (sym (none_used c.args.key c.args.self.now.entries (sym none)))

-- it is

pub invariant_of-self : goal.invariant_of-self
invariant_of-self c =
    let o = c.self.inside in
    subst (λ x. IsOrdered x.entries o.taken o.places) (sym c.move_first.ensures)
    (used_ordered o.seats.entries o.taken o.places c.self.invariant c.args.key c.in_ok-place.place (sym c.in_ok-place.ensures))

pub returns-clause-value : goal.returns-clause-value
returns-clause-value c =
    let o = c.self.inside in
    sym (present o.seats.entries o.taken o.places c.self.invariant c.args.key c.in_ok-place.place (sym c.in_ok-place.ensures))
    ∙ ap (λ x. lookup (nat_eq c.args.key) x.entries) c.self.view_is

pub returns-clause-entries : goal.returns-clause-entries
returns-clause-entries c =
    let o = c.self.inside in
    ap (λ x. lru_cache (keyed o.taken x.entries) x.cap) c.move_first.ensures
    ∙ ap (λ es. lru_cache es o.seats.cap) (used_keyed o.seats.entries o.taken o.places c.self.invariant c.args.key c.in_ok-place.place (sym c.in_ok-place.ensures))
    ∙ ap (λ x. lru_cache (promoted (nat_eq c.args.key) x.entries) x.cap) c.self.view_is
