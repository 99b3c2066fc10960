use Rattle.std.proofs.Common.{nat_eq, is_some, sym, ap, subst, ◌∙◌}
use Rattle.std.specs.Map.{lookup}
use Rattle.lru.specs.LruCache.{lru_cache, promoted}
use Rattle.buffer_pool.specs.Seats.{seated, AreSeats}
use Rattle.buffer_pool.proofs.SeatLemmas.{has-seated, promoted-seated, promoted_seats}
use Rattle.buffer_pool.proofs.pool.BufferPool.promote.Goals as goal

pub invariant_of-self : goal.invariant_of-self
invariant_of-self g c =
    let p = c.self.inside in
    subst (λ x. AreSeats x p.values) (sym c.get.ensures.entries) (promoted_seats p.order p.values c.self.invariant (nat_eq c.args.key))

pub returns-clause-value : goal.returns-clause-value
returns-clause-value g c =
    let p = c.self.inside in
    c.is_some.ensures ∙ ap is_some c.get.ensures.value ∙ sym (has-seated p.values (nat_eq c.args.key) p.order.entries c.self.invariant.taken) ∙ ap (λ x. is_some (lookup (nat_eq c.args.key) x.entries)) c.self.view_is

pub returns-clause-entries : goal.returns-clause-entries
returns-clause-entries g c =
    let p = c.self.inside in
    ap (λ x. lru_cache (seated p.values x.entries) x.cap) c.get.ensures.entries
    ∙ ap (λ es. lru_cache es p.order.cap) (promoted-seated p.values (nat_eq c.args.key) p.order.entries c.self.invariant.taken)
    ∙ ap (λ x. lru_cache (promoted (nat_eq c.args.key) x.entries) x.cap) c.self.view_is
