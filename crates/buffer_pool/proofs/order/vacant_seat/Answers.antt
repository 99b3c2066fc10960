use Rattle.std.proofs.Common.{ℕ, sym, ap, ◌∙◌, arith}
use Rattle.std.specs.Option.{option_map}
use Rattle.std.specs.Map.Iter.{deref_pair}
use Rattle.buffer_pool.proofs.OrderLemmas.{vacant_last}
use Rattle.buffer_pool.proofs.order.vacant_seat.Goals as goal

pub returns-clause-vacant : goal.returns-clause-vacant
returns-clause-vacant c =
    vacant_last c.args.seats.now.entries c.args.taken (c.unwrap.result.0.now, c.unwrap.result.1.now) c.requires.apart c.requires.below
    (sym c.peek_lru.ensures ∙ ap (option_map (deref_pair {K = ℕ} {X = ℕ × ℕ})) c.unwrap.ensures)
    (omega (arith, c.if-taken-count.false, c.len-count.ensures.len, c.requires.few))
