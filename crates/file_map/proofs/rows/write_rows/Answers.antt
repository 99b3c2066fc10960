use Rattle.std.proofs.Common.{◌≡◌, ◌*◌, ◌+◌, ℕ, min, arith, subst, zero-add}
use Rattle.std.specs.Io.KnownBytes.{Appends}
use Rattle.file_map.specs.Pages.{row_end, row_text}
use Rattle.file_map.specs.Tallies.{IsPageTally}
use Rattle.file_map.specs.Walks.{IsPartWalk}
use Rattle.file_map.proofs.TextLemmas.{filled_out, sent_range}
use Rattle.file_map.proofs.rows.write_rows.Goals as goal

pub loop-row-preserved : goal.loop-row-preserved
loop-row-preserved g c =
    let ps = c.args.parts.now in
    let pages = c.args.pages in
    let row = c.loop-row.row in
    let mid = g.W.Write.contents c.loop-row.writer in
    let to = g.W.Write.contents c.send.new.writer in
    let end : row_end pages row ≡ min pages (64 * (row + 1)) = omega arith in
    record {
      walk = subst (λ (p : ℕ). IsPartWalk ps p c.in_ok-walk.walk) end c.in_ok-walk.ensures.walk;
      tally = subst (λ (p : ℕ). IsPageTally ps p c.push_row.new.counts) end c.in_ok-walk.ensures.tally;
      text = sent_range (row_text ps pages) 0 row row (g.W.Write.contents c.args.writer.now) mid to (zero-add row) c.loop-row.invariant.text
          (subst (Appends mid to) (filled_out _ _ _ (row_text ps pages row) c.new-out.ensures.items c.in_ok-walk.ensures.text c.deref.ensures.value) c.in_ok-send.ensures.text);
    }
