-- What a pool ends as, once a `&mut` to a value of it has ended.
use Rattle.std.specs.Prelude.{ℕ, Bool, List, Option}
use Rattle.std.specs.Borrow.{Fml, RattleType, MutBor, LendsIf}
use Rattle.std.specs.Map.{set_value}
use Rattle.lru.specs.LruCache.{LruCache, lru_cache}
use Rattle.buffer_pool.specs.contracts.pool.BufferPool.{the_row}

-- It has the entries es, with the last value written through r at the key that passes the test, and at `None` it stays
-- as it is.
abbrev pub lends_value : (V : RattleType) → MutBor (LruCache ℕ V.Denot) → (ℕ → Bool) → List (ℕ × V.Denot)
    → Option (MutBor V.Denot) → Fml
lends_value V p test es r = LendsIf (the_row V) V p r (λ w. lru_cache (set_value test es w) p.now.cap) p.now
