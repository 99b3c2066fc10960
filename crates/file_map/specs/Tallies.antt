-- How many of the pages passed so far have each content.
use Rattle.std.specs.Prelude.{◌≡◌, ℕ, ◌<◌, List, length, slice_index}
use Rattle.file_map.specs.Pages.{count}
use Rattle.file_map.specs.declared.part.Part.{Part}

pub record IsPageTally (ps : List Part) (page : ℕ) (counts : List ℕ) : Type 0 where
  pub size : length counts ≡ 12
  pub each : (n : ℕ) → n < 12 → slice_index counts n ≡ count ps page n
