use Rattle.std.proofs.Common.{◌+◌, false, List, ℕ, drop, get_or, arith, subst, sym, ap₂}
use Rattle.std.specs.Io.KnownBytes.{Appends}
use Rattle.file_map.specs.Bars.{chunk_drawn, chunks_drawn, flipped}
use Rattle.file_map.specs.Heaps.{header, chunk_space}
use Rattle.file_map.proofs.TableLemmas.{chunks_more}
use Rattle.file_map.proofs.TextLemmas.{Gone, filled_out, gone_more}
use Rattle.file_map.proofs.bars.write_chunks.Goals as goal

pub loop-entry-preserved : goal.loop-entry-preserved
loop-entry-preserved g c =
    let sizes = c.args.sizes.now in
    let entry = c.loop-entry.entry in
    let size = get_or sizes entry 0 in
    let at = c.loop-entry.at in
    let dark = c.loop-entry.dark in
    let from = g.W.Write.contents c.args.writer.now in
    let mid = g.W.Write.contents c.loop-entry.writer in
    let to = g.W.Write.contents c.send.new.writer in
    let whole = chunks_drawn false (header sizes) 0 sizes in
    let rest = chunks_drawn (flipped dark size) (at + chunk_space size) (entry + 1) (drop (entry + 1) sizes) in
    let here : List ℕ = chunk_drawn dark at entry size in
    let sent : Appends mid to here = subst (Appends mid to) (filled_out _ _ _ here c.new-out.ensures.items c.in_ok-push_chunk_drawn.ensures c.deref.ensures.value) c.in_ok-send.ensures.text in
    record {
      most = omega (arith, c.loop-entry.invariant.most, c.space-at.ensures.most);
      text = subst (λ (l : List ℕ). Gone from to l whole) (ap₂ (λ d n. chunks_drawn d (at + n) (entry + 1) (drop (entry + 1) sizes)) (sym c.flipped-dark.ensures) (sym c.space-at.ensures.value))
          (gone_more from mid to here rest whole (subst (λ (l : List ℕ). Gone from mid l whole) (chunks_more dark at entry sizes 0 c.loop-entry-test.true) c.loop-entry.invariant.text) sent);
    }
