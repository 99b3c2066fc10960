use Rattle.std.proofs.Common.{nat_eq, length, sym, ap, subst, ◌∙◌, arith}
use Rattle.std.specs.List.{IsDistinct}
use Rattle.lru.specs.LruCache.{IsValid}
use Rattle.buffer_pool.proofs.SeatLemmas.{keys-seated, length-seated}
use Rattle.buffer_pool.proofs.pool.BufferPool.len.Goals as goal

pub returns-clause-len : goal.returns-clause-len
returns-clause-len g c =
    let p = c.self.inside in
    c.len.ensures.len ∙ sym (length-seated p.values p.order.entries c.self.invariant.taken) ∙ ap (λ x. length x.entries) c.self.view_is

pub returns-clause-valid : goal.returns-clause-valid
returns-clause-valid g c =
    let p = c.self.inside in
    let v = c.len.ensures.valid in
    let few = length-seated p.values p.order.entries c.self.invariant.taken in
    subst (IsValid nat_eq) c.self.view_is (subst (IsDistinct nat_eq) (sym (keys-seated p.values p.order.entries c.self.invariant.taken)) v.0, omega (arith, few, v.1), v.2)
