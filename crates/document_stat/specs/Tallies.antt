-- What a tally says of the things that are counted.
use Rattle.std.specs.Prelude.{◌≡◌, ◌<◌, ◌≤◌, ◌+◌, ℕ, List, [], ◌∷◌, ◌++◌, All, Option, None, Some, length, sum_by}
use Rattle.document_stat.specs.declared.tally.Item.{Item}
use Rattle.document_stat.specs.declared.tally.Tally.{Tally}

-- the first of those that are at least as large as all others
abbrev pub IsLargest : List Item → Option Item → Type 0
IsLargest items None = items ≡ []
IsLargest items (Some x) =
    (before : List Item) × (after : List Item) × (items ≡ before ++ x ∷ after) × All (λ y. y.size < x.size) before
    × All (λ y. y.size ≤ x.size) after

pub record IsTally (items : List Item) (t : Tally) : Type 0 where
  pub count : t.count ≡ length items
  pub sum : t.sum ≡ sum_by (λ x. x.size) items
  pub largest : IsLargest items t.largest

-- the same, where nothing is told of nothing
abbrev pub IsTallyIfAny : List Item → Option Tally → Type 0
IsTallyIfAny items None = items ≡ []
IsTallyIfAny items (Some t) = IsTally items t × (0 < length items)

-- many more than a document can have
abbrev pub most_items : ℕ
most_items = 4294967296

-- these items are counted behind others
pub record AddsItems (items : List Item) (old new : Tally) : Type 0 where
  pub tally : (done : List Item) → length done + length items ≤ most_items → IsTally done old
      → IsTally (done ++ items) new

pub record AddsIfAny (items : List Item) (old new : Option Tally) : Type 0 where
  pub tally : (done : List Item) → length done + length items ≤ most_items → IsTallyIfAny done old
      → IsTallyIfAny (done ++ items) new
