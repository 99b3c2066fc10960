use Rattle.std.proofs.Common.{◌<◌, ◌+◌, ◌∷◌, nat_eq, length, sym, ap, subst, ◌∙◌, arith}
use Rattle.std.specs.Map.{lookup}
use Rattle.lru.specs.LruCache.{lru_cache}
use Rattle.buffer_pool.specs.Orders.{IsOrdered, keyed}
use Rattle.buffer_pool.proofs.OrderSteps.{moved, came_keyed, came_ordered}
use Rattle.buffer_pool.proofs.order.Order.insert.Goals as goal

pub overflow_add-self : goal.overflow_add-self
overflow_add-self c = omega (arith, c.vacant_seat-seat.ensures.fits)

pub invariant_of-self-2 : goal.invariant_of-self-2
invariant_of-self-2 c =
    let o = c.self.inside in
    let none = ap (λ x. lookup (nat_eq c.args.key) x.entries) c.self.view_is ∙ c.requires.absent in
    let room = subst (λ x. length x.entries < x.cap) (sym c.self.view_is) c.requires.room in
    let now = moved o.seats.entries o.taken o.places c.self.invariant c.make_room.new.self c.make_room.ensures.same in
    subst (λ x. IsOrdered x.entries (o.taken + 1) c.set.new.self) (sym c.in_ok-put.ensures.entries)
    (came_ordered o.seats.entries o.taken c.make_room.new.self now o.seats.cap c.args.key c.args.slot c.vacant_seat-seat.result none room c.vacant_seat-seat.ensures.vacant c.set.new.self c.set.ensures)

pub returns-clause-entries : goal.returns-clause-entries
returns-clause-entries c =
    let o = c.self.inside in
    let none = ap (λ x. lookup (nat_eq c.args.key) x.entries) c.self.view_is ∙ c.requires.absent in
    let room = subst (λ x. length x.entries < x.cap) (sym c.self.view_is) c.requires.room in
    let now = moved o.seats.entries o.taken o.places c.self.invariant c.make_room.new.self c.make_room.ensures.same in
    ap (λ x. lru_cache (keyed (o.taken + 1) x.entries) x.cap) c.in_ok-put.ensures.entries
    ∙ ap (λ es. lru_cache es o.seats.cap) (came_keyed o.seats.entries o.taken c.make_room.new.self now o.seats.cap c.args.key c.args.slot c.vacant_seat-seat.result none room c.vacant_seat-seat.ensures.vacant)
    ∙ ap (λ x. lru_cache ((c.args.key, c.args.slot) ∷ x.entries) x.cap) c.self.view_is
