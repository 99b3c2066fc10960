use Rattle.std.proofs.Common.{◌≡◌, ◌+◌, ◌*◌, ◌==◌, if◌then◌else◌, ℕ, List, length, take, drop, ap, ◌∙◌, arith}
use Rattle.std.specs.List.{splice}
use Rattle.geos_model.specs.Array.{Array, array_bytes}
use Rattle.geos_model.proofs.Arrays.{joined}
use Rattle.chunk_arrays.specs.Rewriting.{elements_of, rewritten}
use Rattle.chunk_arrays.proofs.RewritingLemmas.{cut, cut_sum, cut_table, length-array, length_joined-splice, joined-front, run_back}
use Rattle.chunk_arrays.proofs.rewriting.length_after.Goals as goal

pub returns : goal.returns
returns c =
    let a : Array = c.args.view.now.array in
    let ys : List (List ℕ) = elements_of c.args.new in
    let all : List (List ℕ) = splice a.elements c.args.from c.args.to ys in
    let front : ℕ = length (joined (take c.args.from a.elements)) in
    let back : ℕ = length (joined (drop c.args.to a.elements)) in
    let table_size : ℕ = if a.size == 0 then 2 * length all else 0 in
    let start : c.saturating_add-start.result ≡ cut (length a.extra + 8) =
    c.saturating_add-start.ensures ∙ ap (λ (l : List ℕ). cut (length l + 8)) c.extra.ensures in
    let table : c.table_len-table.result ≡ cut table_size =
    cut_table (a.size == 0) (length all) c.count_after.result c.table_len-table.result c.count_after.ensures c.table_len-table.ensures in
    let before_is : length c.run-before.result.now ≡ front = ap length (c.run-before.ensures ∙ joined-front a.elements c.args.from) in
    let behind_is : length c.run-behind.result.now ≡ back =
    ap length c.run-behind.ensures ∙ ap (λ (l : List (List ℕ)). length (joined l)) (run_back a.elements c.args.to c.count.result c.count.ensures) in
    let before : length c.run-before.result.now ≡ cut front = let fits = c.run-before.type_inv in omega (arith, before_is, fits) in
    let behind : length c.run-behind.result.now ≡ cut back = let fits = c.run-behind.type_inv in omega (arith, behind_is, fits) in
    let one : c.saturating_add.result ≡ cut (front + length (joined ys)) = cut_sum _ _ front (length (joined ys)) _ before c.new_len.ensures c.saturating_add.ensures in
    let two : c.saturating_add-elements.result ≡ cut (front + length (joined ys) + back) = cut_sum _ _ (front + length (joined ys)) back _ one behind c.saturating_add-elements.ensures in
    let three : c.saturating_add-2.result ≡ cut (length a.extra + 8 + table_size) = cut_sum _ _ (length a.extra + 8) table_size _ start table c.saturating_add-2.ensures in
    let sum : length a.extra + 8 + table_size + (front + length (joined ys) + back) ≡ length (array_bytes (rewritten a a.extra c.args.from c.args.to c.args.new)) =
    (let size = length-array (rewritten a a.extra c.args.from c.args.to c.args.new) in
    let parts = length_joined-splice a.elements ys c.args.from c.args.to in
    omega (arith, size, parts)) in
    cut_sum _ _ (length a.extra + 8 + table_size) (front + length (joined ys) + back) _ three two c.saturating_add-3.ensures ∙ ap cut sum
