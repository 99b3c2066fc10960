-- A root with other branches, and the parts of its bytes.
use Rattle.std.specs.Prelude.{◌+◌, ◌*◌, ◌-◌, ◌++◌, ℕ, List, take, drop}
use Rattle.std.specs.List.{flat_map, splice}
use Rattle.geos_model.specs.Words.{word, double_word}
use Rattle.geos_model.specs.Chain.{tree_mark}
use Rattle.geos_model.specs.LargeLayout.{Root, large_mark}

-- with branches of so many elements in the place of those from one up to another
abbrev pub with_branches : Root → ℕ → ℕ → List ℕ → List ℕ → Root
with_branches r first behind counts branches = record {
  size = r.size;
  counts = splice r.counts first behind counts;
  branches = splice r.branches first behind branches;
}

-- what stands before the counts: for so many branches, a size of elements, and a number of them
abbrev pub head_bytes : ℕ → ℕ → ℕ → List ℕ
head_bytes branches size total =
    word tree_mark ++ word (16 + 2 * branches) ++ word branches ++ large_mark ++ word size ++ double_word total

abbrev pub count_bytes : List ℕ → List ℕ
count_bytes counts = flat_map word counts

abbrev pub link_bytes : List ℕ → List ℕ
link_bytes branches = flat_map (λ h. word 0 ++ word h) branches

-- of a list what stands from one place up to another
abbrev pub run_between : List ℕ → ℕ → ℕ → List ℕ
run_between xs from to = take (to - from) (drop from xs)
