use Rattle.std.proofs.Common.{ℕ, nat_eq, sym, ap, subst, ◌∙◌}
use Rattle.std.specs.Option.{option_and_then}
use Rattle.std.specs.Map.{lookup, remove_entry}
use Rattle.lru.specs.LruCache.{LruCache, lru_cache}
use Rattle.slab.specs.Slab.{get}
use Rattle.buffer_pool.specs.Seats.{seated, AreSeats}
use Rattle.buffer_pool.proofs.SeatLemmas.{absent_removed, lookup-seated, remove-seated, taken_at, popped, popped_seats}
use Rattle.buffer_pool.proofs.pool.BufferPool.pop.Goals as goal

-- it isn't there

pub invariant_of-self : goal.invariant_of-self
invariant_of-self g c =
    let p = c.self.inside in
    let same = c.in_err-slot.ensures.entries ∙ ap (λ es. lru_cache es p.order.cap) (absent_removed (nat_eq c.args.key) p.order.entries c.in_err-slot.ensures.value) in
    subst (λ (x : LruCache ℕ ℕ). AreSeats x p.values) (sym same) c.self.invariant

pub returns-in_err-slot-clause-value : goal.returns-in_err-slot-clause-value
returns-in_err-slot-clause-value g c =
    let p = c.self.inside in
    let test = nat_eq c.args.key in
    c.from_residual.ensures ∙ ap (option_and_then (get p.values)) c.in_err-slot.ensures.value
    ∙ sym (lookup-seated p.values test p.order.entries c.self.invariant.taken) ∙ ap (λ x. lookup test x.entries) c.self.view_is

pub returns-in_err-slot-clause-entries : goal.returns-in_err-slot-clause-entries
returns-in_err-slot-clause-entries g c =
    let p = c.self.inside in
    let test = nat_eq c.args.key in
    ap (λ (x : LruCache ℕ ℕ). lru_cache (seated p.values x.entries) x.cap) c.in_err-slot.ensures.entries
    ∙ ap (λ es. lru_cache es p.order.cap) (remove-seated p.values test p.order.entries c.self.invariant.taken)
    ∙ ap (λ x. lru_cache (remove_entry test x.entries) x.cap) c.self.view_is

-- it is

pub remove-requires : goal.remove-requires
remove-requires g c =
    let p = c.self.inside in
    taken_at p.values (nat_eq c.args.key) p.order.entries c.in_ok-slot.slot c.self.invariant.taken (sym c.in_ok-slot.ensures.value)

pub invariant_of-self-2 : goal.invariant_of-self-2
invariant_of-self-2 g c =
    let p = c.self.inside in
    let e = c.remove.ensures in
    subst (λ (x : LruCache ℕ ℕ). AreSeats x c.remove.new.self) (sym c.in_ok-slot.ensures.entries)
    (popped_seats p.order p.values c.self.invariant (nat_eq c.args.key) c.remove.new.self c.in_ok-slot.slot (sym c.in_ok-slot.ensures.value) e.updates e.len e.capacity)

pub returns-clause-value : goal.returns-clause-value
returns-clause-value g c =
    let p = c.self.inside in
    let test = nat_eq c.args.key in
    sym c.remove.ensures.value ∙ ap (option_and_then (get p.values)) c.in_ok-slot.ensures.value
    ∙ sym (lookup-seated p.values test p.order.entries c.self.invariant.taken) ∙ ap (λ x. lookup test x.entries) c.self.view_is

pub returns-clause-entries : goal.returns-clause-entries
returns-clause-entries g c =
    let p = c.self.inside in
    let test = nat_eq c.args.key in
    ap (λ (x : LruCache ℕ ℕ). lru_cache (seated c.remove.new.self x.entries) x.cap) c.in_ok-slot.ensures.entries
    ∙ ap (λ es. lru_cache es p.order.cap) (popped p.order p.values c.self.invariant test c.remove.new.self c.in_ok-slot.slot (sym c.in_ok-slot.ensures.value) c.remove.ensures.updates)
    ∙ ap (λ x. lru_cache (remove_entry test x.entries) x.cap) c.self.view_is
