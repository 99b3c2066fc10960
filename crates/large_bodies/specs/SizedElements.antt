-- Elements with their size, as they come and as they are put together.
use Rattle.std.specs.Prelude.{◌≡◌, ◌<◌, ◌++◌, ◌∷◌, ℕ, List, [], Bool, true, ◌==◌, ◌||◌, length, Option, Some, None}
use Rattle.std.specs.List.{list_all}
use Rattle.geos_model.specs.Refusal.{Conditions}
use Rattle.geos_model.specs.declared.fault.Fault.TheVariants.{Range, TooBig}
use Rattle.geos_model.specs.Pieces.{BranchPiece, fits_branch}
use Rattle.geos_model.specs.LargeEdits.{ends_within_element, is_too_long}

pub record SizedElements : Type 0 where
  pub size : ℕ  -- of each in bytes, 0 where they vary
  pub elements : BranchPiece

-- the same in pieces
pub record SizedPieces : Type 0 where
  pub size : ℕ
  pub pieces : List BranchPiece

-- each has the size, where it is one
abbrev pub have_size : ℕ → BranchPiece → Bool
have_size size elements = size == 0 || list_all (λ x. length x == size) elements

-- They can be those of a branch.
pub record IsPiece (p : SizedElements) : Type 0 where
  pub small : p.size < 65536
  pub room : fits_branch p.size p.elements ≡ true
  pub sized : have_size p.size p.elements ≡ true

-- with others behind them
abbrev pub with_behind : SizedElements → BranchPiece → SizedElements
with_behind p new = record p { elements = p.elements ++ new }

-- those there are
abbrev pub elements_of_size : Option SizedElements → BranchPiece
elements_of_size None = []
elements_of_size (Some p) = p.elements

-- refusals of bytes that are to be new elements
abbrev pub new_conditions : ℕ → List ℕ → Conditions
new_conditions size bytes = (Range, ends_within_element size bytes) ∷ (TooBig, is_too_long size bytes) ∷ []
