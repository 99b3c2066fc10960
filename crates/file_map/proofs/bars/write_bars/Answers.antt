use Rattle.std.proofs.Common.{◌+◌, List, ℕ, drop, get_or, arith, subst, sym}
use Rattle.std.specs.Io.KnownBytes.{Appends}
use Rattle.file_format.proofs.LooksLemmas.{OnlyReadsStore-trans, held_before}
use Rattle.file_map.specs.Bars.{bar_of, bars_drawn, below}
use Rattle.file_map.proofs.PartLemmas.{bars_more, below_most, no_part}
use Rattle.file_map.proofs.TextLemmas.{Gone, gone_more}
use Rattle.file_map.proofs.bars.write_bars.Goals as goal

pub loop-part-preserved : goal.loop-part-preserved
loop-part-preserved g c =
    let i = c.loop-part.part-index in
    let ps = c.args.parts.now in
    let p = get_or ps i no_part in
    let y = c.loop-part.y in
    let was = c.loop-part.invariant in
    let next = c.in_ok-y.ensures.next in
    let most = below_most p y in
    let file = (g.S.Store.facts c.args.store.now).content in
    let from = g.W.Write.contents c.args.writer.now in
    let mid = g.W.Write.contents c.loop-part.writer in
    let to = g.W.Write.contents c.write_heap.new.writer in
    let whole = bars_drawn file c.args.top ps in
    record {
      looks = OnlyReadsStore-trans _ _ _ (λ so. g.met.S.Store.timely c.args.store.now so) was.looks c.write_heap.ensures.looks;
      most = omega (arith, was.most, next, most);
      text = λ so.
          let sent = held_before (λ f. Appends mid to (bar_of f y p)) _ _ was.looks c.in_ok-y.ensures.text so in
          subst (λ (n : ℕ). Gone from to (bars_drawn file n (drop (i + 1) ps)) whole) (sym next)
          (gone_more from mid to (bar_of file y p) (bars_drawn file (below p y) (drop (i + 1) ps)) whole
          (subst (λ (l : List ℕ). Gone from mid l whole) (bars_more file y i ps no_part c.loop-part-test.true) (was.text so)) sent);
    }

pub returns-in_err-y-clause-looks : goal.returns-in_err-y-clause-looks
returns-in_err-y-clause-looks g c = OnlyReadsStore-trans _ _ _ (λ so. g.met.S.Store.timely c.args.store.now so) c.loop-part.invariant.looks c.write_heap.ensures.looks
