use Rattle.std.proofs.Common.{◌∷◌, [], subst}
use Rattle.std.specs.Io.KnownBytes.{Appends}
use Rattle.std.proofs.KnownBytes.{Appends-trans}
use Rattle.std.proofs.lemmas.Result.{on_ok_weaker}
use Rattle.file_map.specs.Pages.{legend, page_picture, rows}
use Rattle.file_map.proofs.FaultLemmas.{unwritten}
use Rattle.file_map.proofs.TextLemmas.{filled_out, glued2}
use Rattle.file_map.proofs.rows.write_pages.Goals as goal

pub returns-clause-text : goal.returns-clause-text
unfolding page_picture
returns-clause-text g c =
    let ps = c.args.parts.now in
    let pages = c.args.pages in
    let from = g.W.Write.contents c.args.writer.now in
    let mid = g.W.Write.contents c.write_rows.new.writer in
    let to = g.W.Write.contents c.send.new.writer in
    let told = 10 ∷ legend ps pages in
    let pushed = glued2 c.new-out.result.items c.push.new.self.items c.push_legend.new.out.items (10 ∷ []) (legend ps pages) c.in_ok-push.ensures.items c.in_ok-push_legend.ensures in
    on_ok_weaker c.send.result
    (λ sent. Appends-trans from mid to (rows ps pages) told c.in_ok-write_rows.ensures.text (subst (Appends mid to) (filled_out _ _ _ told c.new-out.ensures.items pushed c.deref.ensures.value) sent))
    c.send.ensures.text

pub returns-clause-refusals : goal.returns-clause-refusals
returns-clause-refusals g c = unwritten c.send.result c.send.ensures.refusals
