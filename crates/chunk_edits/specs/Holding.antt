-- How a splice keeps its parts: in a row, where the first one ends, and where it stands.
use Rattle.std.specs.Prelude.{◌≤◌, ◌<◌, ◌-◌, ◌^◌, ℕ, List, length, take, drop}
use Rattle.chunk_edits.specs.Splicing.{Splice}
use Rattle.chunk_edits.specs.declared.parts.Held.{Held}
use Rattle.chunk_edits.specs.declared.parts.Held.TheVariants as forms

-- the part, and behind it what takes its place
abbrev pub row_of : Held → List ℕ
row_of (forms.Few len cut at bytes) = take len bytes
row_of (forms.Many cut at bytes) = bytes.items

-- how many bytes the part has, and where it begins
abbrev pub cut_of : Held → ℕ
cut_of (forms.Few len cut at bytes) = cut
cut_of (forms.Many cut at bytes) = cut

abbrev pub at_of : Held → ℕ
at_of (forms.Few len cut at bytes) = at
at_of (forms.Many cut at bytes) = at

abbrev pub held_splice : Held → Splice
held_splice h = record { at = at_of h; old = take (cut_of h) (row_of h); new = drop (cut_of h) (row_of h) }

-- no more bytes are used than there are, and a word can count those that come
abbrev pub AreThere : Held → Type 0
AreThere (forms.Few len cut at bytes) = (cut ≤ length (take len bytes)) × (len ≤ 24)
AreThere (forms.Many cut at bytes) = (cut ≤ length bytes.items) × (length bytes.items - cut < 2 ^ 32)
