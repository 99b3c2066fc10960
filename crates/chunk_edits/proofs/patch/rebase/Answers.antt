use Rattle.std.proofs.Common.{◌++◌, ◌∙◌, ◌*◌, ◌-◌, ℕ, List, ap, length, take, drop}
use Rattle.chunk_edits.proofs.RebasingLemmas.{rebased_next, moved_by_steps}
use Rattle.chunk_edits.proofs.patch.rebase.Goals as goal

pub loop-i-preserved : goal.loop-i-preserved
loop-i-preserved c =
    let old = c.args.words.now in let now = c.loop-i.words in let i = c.loop-i.i in
    let part = take (length now - 2 * i) (drop (2 * i) now) in
    let low = c.ranges.from.fits in
    rebased_next old now i c.args.from c.args.to c.loop-i.invariant c.loop-i.auto.words c.read_u16.result c.write_u16.new.buf low
    (c.write_u16.ensures ∙ ap (λ (l : List ℕ). l ++ drop 2 part) (moved_by_steps c.read_u16.result c.args.from c.args.to low))
    c.read_u16.ensures
