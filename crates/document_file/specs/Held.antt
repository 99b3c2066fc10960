-- How the bytes of an image are held.
use Rattle.std.specs.Prelude.{ℕ, ◌+◌, List, [], ◌∷◌, replicate}
use Rattle.document_file.specs.declared.image.Held.{Held}
use Rattle.document_file.specs.declared.image.Held.TheVariants as held

abbrev pub held_bytes : Held → List ℕ
held_bytes (held.Bytes b) = b
held_bytes (held.Zeros n) = replicate (n + 1) 0
held_bytes held.EmptyHeap = 1 ∷ 0 ∷ 0 ∷ []
