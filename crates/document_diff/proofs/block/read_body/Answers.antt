use Rattle.std.proofs.Common.{◌≡◌, ◌≢◌, ℕ, List, get_or, slice_index, subst, ap, ◌∙◌, arith}
use Rattle.std.proofs.lemmas.Bool.Decides.{nat_tests}
use Rattle.std.proofs.lemmas.Result.{err_from_is_err_and}
use Rattle.geos_model.specs.declared.command.Body.TheVariants.{Raw}
use Rattle.file_format.proofs.KindsLemmas.{told_raw, told_heap}
use Rattle.document_diff.proofs.Images.{some_image, raw_image, heap_refused, same_body}
use Rattle.document_diff.proofs.block.read_body.Goals as goal

pub returns-then-is_empty-clause-err : goal.returns-then-is_empty-clause-err
returns-then-is_empty-clause-err c = λ body valid same. some_image body c.args.bytes.items same (grind (arith, nat_tests))

pub returns-in_err-heap-clause-err : goal.returns-in_err-heap-clause-err
returns-in_err-heap-clause-err c =
    let first = told_heap (slice_index c.as_slice.result.now 0) c.of_byte.result c.is_heap.result c.of_byte.ensures c.is_heap.ensures c.if-is_heap.true in
    let heap : get_or c.args.bytes.items 0 0 ≢ 0 = subst (λ (l : List ℕ). get_or l 0 0 ≢ 0) c.as_slice.ensures.value first in
    let p = err_from_is_err_and c.from_residual.result c.from_residual.ensures.1 in
    rw (p.1, p.2) (heap_refused c.args.bytes.items _ _ c.as_slice-then-is_heap.ensures.value heap c.in_err-heap.ensures.err)

pub returns-then-is_heap-clause-ok : goal.returns-then-is_heap-clause-ok
returns-then-is_heap-clause-ok c = λ body valid same.
    let read = c.in_ok-heap.ensures.ok in
    same_body c.in_ok-heap.heap.chunks body c.args.bytes.items read.1 (read.0 ∙ c.as_slice-then-is_heap.ensures.value) valid same

pub returns-clause-ok : goal.returns-clause-ok
returns-clause-ok c = λ body valid same.
    let first = told_raw (slice_index c.as_slice.result.now 0) c.of_byte.result c.is_heap.result c.of_byte.ensures c.is_heap.ensures c.if-is_heap.false in
    let raw : get_or c.args.bytes.items 0 0 ≡ 0 = subst (λ (l : List ℕ). get_or l 0 0 ≡ 0) c.as_slice.ensures.value first in
    ap Raw c.remove.ensures.items ∙ raw_image body c.args.bytes.items raw same
