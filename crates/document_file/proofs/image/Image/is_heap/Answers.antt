use Rattle.std.proofs.Common.{◌<◌, ℕ, List, length, slice_index, not, ◌==◌, sym, subst, ap, ◌∙◌}
use Rattle.file_format.proofs.KindsLemmas.{heap_told}
use Rattle.document_file.proofs.ImageLemmas.{image_some, first_byte}
use Rattle.document_file.proofs.image.Image.is_heap.Goals as goal

pub bounds-as_slice-0 : goal.bounds-as_slice-0
bounds-as_slice-0 c = subst (λ (x : List ℕ). 0 < length x) (sym c.as_slice.ensures) (image_some c.args.self.now)

pub returns : goal.returns
returns c =
    heap_told (slice_index c.as_slice.result.now 0) c.of_byte.result c.is_heap.result c.of_byte.ensures c.is_heap.ensures
    ∙ ap (λ (x : List ℕ). not (slice_index x 0 == 0)) c.as_slice.ensures ∙ first_byte c.args.self.now
