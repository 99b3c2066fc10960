use Rattle.std.proofs.Common.{◌<◌, ℕ, nat_eq, ◌∷◌, length, sym, ap, subst, ◌∙◌}
use Rattle.std.specs.Map.{lookup}
use Rattle.lru.specs.LruCache.{LruCache, lru_cache}
use Rattle.buffer_pool.specs.Seats.{seated, AreSeats}
use Rattle.buffer_pool.proofs.SeatLemmas.{fits, absent_too, room_too, inserted, inserted_seats}
use Rattle.buffer_pool.proofs.pool.BufferPool.insert.Goals as goal

pub insert_reserved-requires : goal.insert_reserved-requires
insert_reserved-requires g c =
    let p = c.self.inside in
    let absent = ap (λ x. lookup (nat_eq c.args.key) x.entries) c.self.view_is ∙ c.requires.absent in
    let room = subst (λ x. length x.entries < x.cap) (sym c.self.view_is) c.requires.room in
    fits p.order p.values c.self.invariant c.args.key absent room

pub insert-requires-clause-absent : goal.insert-requires-clause-absent
insert-requires-clause-absent g c =
    let p = c.self.inside in
    let absent = ap (λ x. lookup (nat_eq c.args.key) x.entries) c.self.view_is ∙ c.requires.absent in
    let room = subst (λ x. length x.entries < x.cap) (sym c.self.view_is) c.requires.room in
    absent_too p.order p.values c.self.invariant c.args.key absent room

pub insert-requires-clause-room : goal.insert-requires-clause-room
insert-requires-clause-room g c =
    let p = c.self.inside in
    let absent = ap (λ x. lookup (nat_eq c.args.key) x.entries) c.self.view_is ∙ c.requires.absent in
    let room = subst (λ x. length x.entries < x.cap) (sym c.self.view_is) c.requires.room in
    room_too p.order p.values c.self.invariant c.args.key absent room

pub invariant_of-self-2 : goal.invariant_of-self-2
invariant_of-self-2 g c =
    let p = c.self.inside in
    let e = c.insert_reserved.ensures in
    let put = c.in_ok-insert.ensures.entries ∙ (λ i. lru_cache ((c.args.key, (c.vacant_key.ensures.value ∙ sym e.key) i) ∷ p.order.entries) p.order.cap) in
    subst (λ (x : LruCache ℕ ℕ). AreSeats x c.insert_reserved.new.self) (sym put)
    (inserted_seats p.order p.values c.self.invariant c.insert_reserved.new.self c.args.key c.insert_reserved.result c.args.value e.was_vacant e.updates e.len e.capacity)

pub returns-clause-entries : goal.returns-clause-entries
returns-clause-entries g c =
    let p = c.self.inside in
    let e = c.insert_reserved.ensures in
    let put = c.in_ok-insert.ensures.entries ∙ (λ i. lru_cache ((c.args.key, (c.vacant_key.ensures.value ∙ sym e.key) i) ∷ p.order.entries) p.order.cap) in
    ap (λ (x : LruCache ℕ ℕ). lru_cache (seated c.insert_reserved.new.self x.entries) x.cap) put
    ∙ ap (λ es. lru_cache es p.order.cap) (inserted p.order p.values c.self.invariant c.insert_reserved.new.self c.args.key c.insert_reserved.result c.args.value e.was_vacant e.updates)
    ∙ ap (λ x. lru_cache ((c.args.key, c.args.value) ∷ x.entries) x.cap) c.self.view_is
