-- Bytes: whether they are the same, and those of a chunk or a raw body after an edit of them.
use Rattle.std.specs.Prelude.{ℕ, List, [], ◌++◌, ◌+◌, ◌-◌, Bool, nat_eq, length, take, replicate}
use Rattle.std.specs.List.{splice}
use lib.Pointwise.{pointwise}

abbrev pub same_bytes : List ℕ → List ℕ → Bool
same_bytes xs ys = pointwise nat_eq xs ys

-- written over from a place on
abbrev pub written : List ℕ → ℕ → List ℕ → List ℕ
written bytes at new = splice bytes at (at + length new) new

-- with others in the place of so many from a place on
abbrev pub spliced : List ℕ → ℕ → ℕ → List ℕ → List ℕ
spliced bytes at n new = splice bytes at (at + n) new

-- cut at the end, or with zeros there
abbrev pub resized : List ℕ → ℕ → List ℕ
resized bytes n = take n bytes ++ replicate (n - length bytes) 0

-- with zeros put in before a place
abbrev pub inserted : List ℕ → ℕ → ℕ → List ℕ
inserted bytes at n = splice bytes at at (replicate n 0)

-- without those from a place on
abbrev pub deleted : List ℕ → ℕ → ℕ → List ℕ
deleted bytes at n = splice bytes at (at + n) []
