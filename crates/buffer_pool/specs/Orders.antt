-- Seats in the order of their use, those without a key last, and where each key is.
use Rattle.std.specs.Prelude.{◌≡◌, ◌≢◌, ◌<◌, ◌≤◌, ◌⊎◌, ℕ, ⊤, List, [], ◌∷◌, length, take, map, nat_eq, Option, Some, is_some, true}
use Rattle.std.specs.List.{AllByRecursion}
use Rattle.std.specs.Map.{lookup, lookup_entry}
use Rattle.buffer_pool.specs.Places.{place_at}
use Rattle.buffer_pool.specs.declared.places.Place.{Place}

-- a seat with a key and the slot of its value
abbrev pub Seat : Type 0
Seat = ℕ × (ℕ × ℕ)

-- no seat comes twice
abbrev pub AreApart : List Seat → Type 0
AreApart [] = ⊤
AreApart (e ∷ es) = AllByRecursion (λ f. f.0 ≢ e.0) es × AreApart es

-- the keys of the first seats with their slots
abbrev pub keyed : ℕ → List Seat → List (ℕ × ℕ)
keyed taken es = map (λ e. e.1) (take taken es)

-- the place of the key of a seat is that seat
abbrev pub AreKnown : List (Option Place) → List Seat → Type 0
AreKnown places es = AllByRecursion (λ e. place_at places e.1.0 ≡ Some (record { seat = e.0; slot = e.1.1 })) es

-- the first seats have the keys that have a place, and no other
pub record IsOrdered (es : List Seat) (taken : ℕ) (places : List (Option Place)) : Type 0 where
  pub few : taken ≤ length es
  pub below : AllByRecursion (λ e. e.0 < length es) es
  pub apart : AreApart es
  pub known : AreKnown places (take taken es)
  pub kept : (k : ℕ) (p : Place) → place_at places k ≡ Some p → lookup (nat_eq p.seat) (take taken es) ≡ Some (k, p.slot)

-- none of the first seats, and the next new one where each has a key
pub record IsVacant (es : List Seat) (taken seat : ℕ) : Type 0 where
  pub clear : AllByRecursion (λ e. e.0 ≢ seat) (take taken es)
  pub is : ((seat < length es) × (taken < length es) × (is_some (lookup_entry (nat_eq seat) es) ≡ true))
      ⊎ ((seat ≡ length es) × (taken ≡ length es))
