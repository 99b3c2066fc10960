-- The first byte of an image, and the kind that it tells.
use Rattle.std.specs.Prelude.{ℕ, ◌==◌, Bool, true, false, if◌then◌else◌}
use Rattle.file_format.specs.declared.kind.BodyKind.{BodyKind}
use Rattle.file_format.specs.declared.kind.BodyKind.TheVariants.{Raw, Heap}

abbrev pub byte_of : BodyKind → ℕ
byte_of Raw = 0
byte_of Heap = 1

abbrev pub body_kind_of : ℕ → BodyKind
body_kind_of byte = if byte == 0 then Raw else Heap

abbrev pub is_heap_kind : BodyKind → Bool
is_heap_kind Raw = false
is_heap_kind Heap = true
