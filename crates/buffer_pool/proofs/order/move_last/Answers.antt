use Rattle.std.proofs.Common.{ℕ, nat_eq, sym, ap, ◌∙◌}
use Rattle.std.specs.Option.{option_map}
use Rattle.std.specs.Map.Iter.{deref_pair}
use Rattle.lru.specs.LruCache.{lru_cache, demoted}
use Rattle.buffer_pool.proofs.OrderLemmas.{last_stays}
use Rattle.buffer_pool.proofs.order.move_last.Goals as goal

pub returns-in-Some : goal.returns-in-Some
returns-in-Some c =
    let es = c.args.seats.now.entries in
    ap (λ xs. lru_cache xs c.args.seats.now.cap) (sym (
    ap (λ s. demoted (nat_eq s) es) (sym c.if-last-seat.true)
    ∙ last_stays es (c.in-Some.last.now, c.in-Some.field-0-1.now) c.requires (sym (sym (ap (option_map (deref_pair {K = ℕ} {X = ℕ × ℕ})) c.in-Some.is) ∙ c.peek_lru.ensures))
    ))
