use Rattle.std.proofs.Common.{nat_eq, subst, ◌∙◌, arith}
use Rattle.lru.specs.LruCache.{IsValid}
use Rattle.std.proofs.lemmas.List.{length-map}
use Rattle.buffer_pool.specs.Orders.{Seat}
use Rattle.buffer_pool.proofs.OrderLemmas.{apart_first, keyed_distinct}
use Rattle.buffer_pool.proofs.OrderSteps.{length-first}
use Rattle.std.proofs.Common.{take}
use Rattle.buffer_pool.proofs.order.Order.len.Goals as goal

pub returns-clause-valid : goal.returns-clause-valid
returns-clause-valid c =
    let o = c.self.inside in
    let v = c.len-seats.ensures.valid in
    let first = take o.taken o.seats.entries in
    let long = length-map first (λ (e : Seat). e.1) ∙ length-first o.taken o.seats.entries c.self.invariant.few in
    subst (IsValid nat_eq) c.self.view_is (
      keyed_distinct o.places first c.self.invariant.known (apart_first o.taken o.seats.entries c.self.invariant.apart),
      omega (arith, long, c.self.invariant.few, v.1),
      v.2,
    )
