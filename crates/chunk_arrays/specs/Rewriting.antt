-- An array with other extra bytes, and with an element or none in the place of some.
use Rattle.std.specs.Prelude.{◌≡◌, ◌≤◌, ◌+◌, ℕ, List, [], ◌∷◌, ◌++◌, length, drop, get_or, replicate, Option, Some, None}
use Rattle.std.specs.List.{splice}
use Rattle.geos_model.specs.Array.{Array}
use Rattle.chunk_arrays.specs.declared.rewriting.NewElement.{NewElement}

-- the bytes of an element that comes in
abbrev pub bytes_of : NewElement → List ℕ
bytes_of e = e.head.now ++ e.middle.now ++ e.tail.now ++ replicate e.zeros 0

-- the element that comes in, or none
abbrev pub elements_of : Option NewElement → List (List ℕ)
elements_of None = []
elements_of (Some e) = bytes_of e ∷ []

-- the extra bytes, with these as the first
abbrev pub extra_after : Array → List ℕ → List ℕ
extra_after a first = first ++ drop (length first) a.extra

-- the elements with that one, or none, in the place of some
abbrev pub elements_after : Array → ℕ → ℕ → Option NewElement → List (List ℕ)
elements_after a from to new = splice a.elements from to (elements_of new)

abbrev pub rewritten : Array → List ℕ → ℕ → ℕ → Option NewElement → Array
rewritten a extra from to new = record a { extra = extra; elements = elements_after a from to new }

-- few bytes, of which none is a zero behind its parts
pub record HasFew (e : NewElement) : Type 0 where
  pub none : e.zeros ≡ 0
  pub few : length (bytes_of e) ≤ 64

-- A new element of few bytes takes the place of one of as many, and the extra bytes stay.
pub record IsAlike (a : Array) (first : List ℕ) (from to : ℕ) (new : Option NewElement) (e : NewElement) : Type 0 where
  pub comes : new ≡ Some e
  pub one : to ≡ from + 1
  pub long : length (bytes_of e) ≡ length (get_or a.elements from [])
  pub few : HasFew e
  pub extra : extra_after a first ≡ a.extra
