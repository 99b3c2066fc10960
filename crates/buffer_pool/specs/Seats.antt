-- The keys of a pool in the order of their use, each with its slot, and the values in the slots.
use Rattle.std.specs.Prelude.{◌≡◌, ◌≢◌, ◌≤◌, ℕ, ⊤, List, [], ◌∷◌, length, Option}
use Rattle.std.specs.List.{AllByRecursion, filter_map}
use Rattle.std.specs.Option.{option_map}
use Rattle.lru.specs.LruCache.{LruCache}
use Rattle.slab.specs.Slab.{Slab, get, slab_len, ContainsKey}

-- no two keys have one slot
abbrev pub AreApart : List (ℕ × ℕ) → Type 0
AreApart [] = ⊤
AreApart (e ∷ es) = AllByRecursion (λ f. f.1 ≢ e.1) es × AreApart es

module _ {V : Type 0} where
  -- a key with the value in its slot, if there is one
  abbrev pub seat_of : Slab V → ℕ × ℕ → Option (ℕ × V)
  seat_of s e = option_map (λ v. (e.0, v)) (get s e.1)

  -- the keys with the values in their slots
  abbrev pub seated : Slab V → List (ℕ × ℕ) → List (ℕ × V)
  seated s es = filter_map (seat_of s) es

  -- each key's slot has a value
  abbrev pub AreTaken : Slab V → List (ℕ × ℕ) → Type 0
  AreTaken s es = AllByRecursion (λ e. ContainsKey s e.1) es

  -- each key has a slot of its own with a value, no other slot has one, and there are slots for all keys that may come
  pub record AreSeats (order : LruCache ℕ ℕ) (s : Slab V) : Type 0 where
    pub taken : AreTaken s order.entries
    pub apart : AreApart order.entries
    pub none_lost : slab_len s ≡ length order.entries
    pub enough : order.cap ≤ s.capacity
