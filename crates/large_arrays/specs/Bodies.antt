-- Bodies of blocks that are copied.
use Rattle.std.specs.Prelude.{◌≡◌, ℕ, List, true, Bool, Vec, map}
use Rattle.std.specs.List.{list_all}
use Rattle.std.specs.Global.{Global}
use Rattle.geos_model.specs.Document.{Document, is_raw, raw_bytes_of}

abbrev pub bytes_of_bodies : List (Vec ℕ Global) → List (List ℕ)
bytes_of_bodies bodies = map (λ body. body.items) bodies

-- A block is raw, and has this body.
pub record HasBody (d : Document) (h : ℕ) (body : List ℕ) : Type 0 where
  pub raw : is_raw d h ≡ true
  pub bytes : body ≡ raw_bytes_of d h

-- The same of several.

abbrev pub are_raw : Document → List ℕ → Bool
are_raw d handles = list_all (λ h. is_raw d h) handles

pub record AreBodies (d : Document) (handles : List ℕ) (bodies : List (List ℕ)) : Type 0 where
  pub raw : are_raw d handles ≡ true
  pub bytes : bodies ≡ map (λ h. raw_bytes_of d h) handles
