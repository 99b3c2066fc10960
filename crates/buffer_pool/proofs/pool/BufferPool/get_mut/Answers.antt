use Rattle.std.proofs.Common.{ℕ, nat_eq, inl, inr, sym, ap, subst, ◌∙◌}
use Rattle.std.specs.Option.{option_and_then}
use Rattle.lru.specs.LruCache.{LruCache, lru_cache}
use Rattle.slab.specs.Slab.{get, with_value}
use Rattle.buffer_pool.specs.Seats.{seated, AreSeats}
use Rattle.buffer_pool.proofs.SeatLemmas.{absent_promoted, lookup-seated, promoted_seats, taken_at, used_seats, used_written}
use Rattle.buffer_pool.proofs.pool.BufferPool.get_mut.Goals as goal

-- it isn't there

pub invariant_of-self : goal.invariant_of-self
invariant_of-self g c =
    let p = c.self.inside in
    subst (λ (x : LruCache ℕ ℕ). AreSeats x p.values) (sym c.get.ensures.entries) (promoted_seats p.order p.values c.self.invariant (nat_eq c.args.key))

pub returns-in_err-slot : goal.returns-in_err-slot
returns-in_err-slot g c =
    let p = c.self.inside in
    let test = nat_eq c.args.key in
    let same = c.in_err-slot.ensures.entries ∙ ap (λ es. lru_cache es p.order.cap) (absent_promoted test p.order.entries (sym c.in_err-slot.ensures.value)) in
    let value = ap (option_and_then (get p.values)) c.in_err-slot.ensures.value ∙ sym (lookup-seated p.values test p.order.entries c.self.invariant.taken) in
    rw (c.from_residual.ensures, ← c.self.view_is) (
      (λ i. inr (lru_cache (seated p.values (same i).entries) (same i).cap)),
      record { writes_back = tt; value = value },
    )

-- it is

pub index_mut-requires : goal.index_mut-requires
index_mut-requires g c =
    let p = c.self.inside in
    taken_at p.values (nat_eq c.args.key) p.order.entries c.in_ok-slot.slot c.self.invariant.taken (sym c.in_ok-slot.ensures.value)

pub invariant_of-self-lent : goal.invariant_of-self-lent
invariant_of-self-lent g c =
    let p = c.self.inside in
    λ w. subst (λ (x : LruCache ℕ ℕ). AreSeats x (with_value p.values c.in_ok-slot.slot w)) (sym c.in_ok-slot.ensures.entries)
    (used_seats p.order p.values c.self.invariant (nat_eq c.args.key) c.in_ok-slot.slot w (sym c.in_ok-slot.ensures.value))

pub returns : goal.returns
returns g c =
    let p = c.self.inside in
    let test = nat_eq c.args.key in
    let slot = c.in_ok-slot.slot in
    let value = sym c.index_mut.ensures.value ∙ ap (option_and_then (get p.values)) c.in_ok-slot.ensures.value ∙ sym (lookup-seated p.values test p.order.entries c.self.invariant.taken) in
    let write = λ (w : g.row.V.Denot).
    ap (λ (x : LruCache ℕ ℕ). lru_cache (seated (with_value p.values slot w) x.entries) x.cap) c.in_ok-slot.ensures.entries
    ∙ ap (λ es. lru_cache es p.order.cap) (used_written p.order p.values c.self.invariant test slot w (sym c.in_ok-slot.ensures.value)) in
    rw (← c.self.view_is) (
      (λ i. inl (c.index_mut.result.ghost_name, λ w. write w i)),
      record { writes_back = tt; value = value },
    )
