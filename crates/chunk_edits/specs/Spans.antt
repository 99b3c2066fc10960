-- How a patch keeps its pieces: a span for each, and the bytes that all of them hold in a row.
use Rattle.std.specs.Prelude.{◌≡◌, ◌≤◌, ℕ, ◌+◌, ◌*◌, Bool, true, false, List, [], ◌∷◌, length, take, drop, max}
use Rattle.std.specs.List.{sum_by}
use Rattle.chunk_edits.specs.Patching.{PatchPiece, Keep, Put, Rebase}
use Rattle.chunk_edits.specs.declared.direction.Direction.{Direction}
use Rattle.chunk_edits.specs.declared.direction.Direction.TheVariants.{Forwards, Backwards}
use Rattle.chunk_edits.specs.declared.held.Held.{Held}
use Rattle.chunk_edits.specs.declared.held.Held.TheVariants as forms
use Rattle.chunk_edits.specs.declared.held.Span.{Span}
use Rattle.chunk_edits.specs.declared.held.Span.TheVariants as spans

-- how many bytes of the row are a span's, and how many are those of all spans
abbrev pub own : Span → ℕ
own (spans.Keep n) = 0
own (spans.Put old new) = old + new
own (spans.Rebase words from to) = 0

abbrev pub total_own : List Span → ℕ
total_own ss = sum_by own ss

-- how many bytes a span is of in a direction
abbrev pub extent : Direction → Span → ℕ
extent d (spans.Keep n) = n
extent Forwards (spans.Put old new) = old
extent Backwards (spans.Put old new) = new
extent d (spans.Rebase words from to) = 2 * words

-- and how many in the one or the other, whichever are more
abbrev pub most : Span → ℕ
most s = max (extent Forwards s) (extent Backwards s)

-- the piece of a span, whose bytes are the first of the row
abbrev pub piece_of : Span → List ℕ → PatchPiece
piece_of (spans.Keep n) row = Keep n
piece_of (spans.Put old new) row = Put (take old row) (take new (drop old row))
piece_of (spans.Rebase words from to) row = Rebase words from to

abbrev pub pieces_of : List Span → List ℕ → List PatchPiece
pieces_of [] row = []
pieces_of (s ∷ ss) row = piece_of s row ∷ pieces_of ss (drop (own s) row)

-- The spans and the row of a patch as it is held: one exchange with bytes that stay before and behind it, or any.

abbrev pub spans_in : Held → List Span
spans_in (forms.Alone old new before behind bytes alloc) =
    spans.Keep before ∷ spans.Put old new ∷ spans.Keep behind ∷ []
spans_in (forms.Many pieces) = pieces.value.spans.items

abbrev pub row_in : Held → List ℕ
row_in (forms.Alone old new before behind bytes alloc) = take (old + new) bytes
row_in (forms.Many pieces) = pieces.value.content.items

-- whether they lie in an allocation
abbrev pub has_allocation : Held → Bool
has_allocation (forms.Alone old new before behind bytes alloc) = false
has_allocation (forms.Many pieces) = true

-- no more bytes lie without an allocation than there is room for
abbrev pub IsShort : Held → Type 0
IsShort (forms.Alone old new before behind bytes alloc) = old + new ≤ 16
IsShort (forms.Many pieces) = Unit

-- the row has the bytes of the spans
abbrev pub IsSound : Held → Type 0
IsSound held = (total_own (spans_in held) ≡ length (row_in held)) × IsShort held
