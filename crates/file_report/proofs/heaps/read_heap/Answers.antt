use Rattle.std.proofs.Common.{List, ℕ, length, ap, sym, ◌∙◌, arith}
use Rattle.geos_model.specs.Words.{word_at}
use Rattle.file_report.proofs.HeapLemmas.{image-table_len, length_image-heap, table_len_le}
use Rattle.file_report.proofs.heaps.read_heap.Goals as goal

pub table_length-slots-requires : goal.table_length-slots-requires
table_length-slots-requires c = let made = c.in_ok-heap.ensures.ok in omega (arith, length_image-heap c.in_ok-heap.heap.chunks, ap length made.0)

pub returns-clause-slots : goal.returns-clause-slots
returns-clause-slots c =
    let made = c.in_ok-heap.ensures.ok in
    c.table_length-slots.ensures ∙ ap (λ (l : List ℕ). word_at l 1) (sym made.0) ∙ image-table_len c.in_ok-heap.heap.chunks made.1

pub returns-clause-few : goal.returns-clause-few
returns-clause-few c =
    let made = c.in_ok-heap.ensures.ok in
    let same = c.table_length-slots.ensures ∙ ap (λ (l : List ℕ). word_at l 1) (sym made.0) ∙ image-table_len c.in_ok-heap.heap.chunks made.1 in
    omega (arith, same, table_len_le c.in_ok-heap.heap.chunks made.1)
