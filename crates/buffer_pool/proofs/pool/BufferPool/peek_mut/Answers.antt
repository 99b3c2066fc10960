use Rattle.std.proofs.Common.{nat_eq, inl, refl, sym, ap, ◌∙◌}
use Rattle.std.specs.Option.{option_and_then}
use Rattle.lru.specs.LruCache.{lru_cache}
use Rattle.slab.specs.Slab.{get}
use Rattle.buffer_pool.proofs.SeatLemmas.{lookup-seated, taken_at, written, written_seats}
use Rattle.buffer_pool.proofs.pool.BufferPool.peek_mut.Goals as goal

pub returns-in_err-slot : goal.returns-in_err-slot
returns-in_err-slot g c =
    let p = c.self.inside in
    let test = nat_eq c.args.key in
    let value = ap (option_and_then (get p.values)) c.in_err-slot.ensures ∙ sym (lookup-seated p.values test p.order.entries c.self.invariant.taken) in
    rw (c.from_residual.ensures, ← c.self.view_is) (refl, record { writes_back = tt; value = value })

pub index_mut-requires : goal.index_mut-requires
index_mut-requires g c =
    let p = c.self.inside in
    taken_at p.values (nat_eq c.args.key) p.order.entries c.in_ok-slot.slot c.self.invariant.taken (sym c.in_ok-slot.ensures)

pub invariant_of-self-lent : goal.invariant_of-self-lent
invariant_of-self-lent g c =
    let p = c.self.inside in
    λ w. written_seats p.order p.values c.self.invariant (nat_eq c.args.key) c.in_ok-slot.slot w (sym c.in_ok-slot.ensures)

pub returns : goal.returns
returns g c =
    let p = c.self.inside in
    let test = nat_eq c.args.key in
    let value = sym c.index_mut.ensures.value ∙ ap (option_and_then (get p.values)) c.in_ok-slot.ensures ∙ sym (lookup-seated p.values test p.order.entries c.self.invariant.taken) in
    let write = λ (w : g.row.V.Denot). written p.order p.values c.self.invariant test c.in_ok-slot.slot w (sym c.in_ok-slot.ensures) in
    rw (← c.self.view_is) (
      (λ i. inl (c.index_mut.result.ghost_name, λ w. ap (λ es. lru_cache es p.order.cap) (write w) i)),
      record { writes_back = tt; value = value },
    )
