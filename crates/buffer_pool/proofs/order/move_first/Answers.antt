use Rattle.std.proofs.Common.{ℕ, nat_eq, sym, ap, ◌∙◌}
use Rattle.std.specs.Option.{option_map}
use Rattle.std.specs.Map.Iter.{deref_pair}
use Rattle.lru.specs.LruCache.{lru_cache, promoted}
use Rattle.buffer_pool.proofs.OrderLemmas.{first_stays}
use Rattle.buffer_pool.proofs.order.move_first.Goals as goal

pub returns-in-Some : goal.returns-in-Some
returns-in-Some c =
    let es = c.args.seats.now.entries in
    ap (λ xs. lru_cache xs c.args.seats.now.cap) (sym (
    ap (λ s. promoted (nat_eq s) es) (sym c.if-first-seat.true)
    ∙ first_stays es (c.in-Some.first.now, c.in-Some.field-0-1.now) (sym (sym (ap (option_map (deref_pair {K = ℕ} {X = ℕ × ℕ})) c.in-Some.is) ∙ c.peek_mru.ensures))
    ))
