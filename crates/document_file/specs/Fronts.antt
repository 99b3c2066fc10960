-- What is read of a body without its rest.
use Rattle.std.specs.Prelude.{ℕ, List, Bool, ◌||◌, if◌then◌else◌, nat_lt, length, Option, None, Some}
use Rattle.geos_model.specs.Words.{word_at}

-- The first word of a raw body, if it has one. Where images have sums there is none: what is read alone has no sum.
abbrev pub first_word : Bool → List ℕ → Option ℕ
first_word summed bytes = if summed || nat_lt (length bytes) 2 then None else Some (word_at bytes 0)
