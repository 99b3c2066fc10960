use Rattle.std.proofs.Common.{◌*◌, [], ◌∷◌, ◌++◌, length, arith, ap, ◌∙◌, zero-add}
use Rattle.std.proofs.lemmas.List.FromFn.{length-map-range_with_len}
use Rattle.geos_model.specs.Words.{word_at}
use Rattle.file_map.proofs.TableLemmas.{table_most}
use Rattle.file_map.proofs.TextLemmas.{pushed_map}
use Rattle.file_map.proofs.heaps.read_sizes.Goals as goal

pub loop-i-preserved : goal.loop-i-preserved
loop-i-preserved c =
    pushed_map (λ i. word_at c.table_bytes-table.result.now (2 * i)) 0 c.loop-i.i c.loop-i.i [] c.loop-i.read.items c.push.new.self.items (zero-add c.loop-i.i) c.loop-i.invariant
    (c.in_ok-push.ensures.items ∙ ap (λ w. c.loop-i.read.items ++ w ∷ []) c.word_at.ensures)

pub returns-clause-few : goal.returns-clause-few
returns-clause-few c =
    let size = ap length c.loop-i.invariant ∙ length-map-range_with_len (λ i. word_at c.table_bytes-table.result.now (2 * i)) 0 c.loop-i.i in
    let most = table_most c.args.image.now in
    let same = ap length c.table_bytes-table.ensures in
    omega (arith, size, most, same, c.loop-i.auto.i-end)
