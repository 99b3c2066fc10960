use Rattle.std.proofs.Common.{◌+◌, ◌*◌, ◌++◌, codes, ℕ, List, ap, ap₂, subst, ◌∙◌}
use Rattle.std.specs.Prelude.{count_by}
use Rattle.std.proofs.lemmas.Result.{on_ok_weaker}
use Rattle.std.specs.Io.KnownBytes.{Appends}
use Rattle.file_map.specs.Bars.{bars_drawn}
use Rattle.file_map.specs.Drawn.{AreByHandle}
use Rattle.file_map.specs.Parts.{drawn_parts, is_heap_part}
use Rattle.file_map.specs.Svg.{gaps, heaps_top, labels, parts_drawn, start_drawn}
use Rattle.file_map.specs.declared.part.Part.{Part}
use Rattle.file_map.proofs.TextLemmas.{sent5}
use Rattle.file_map.proofs.drawing.write_svg.Goals as goal

pub returns-clause-text : goal.returns-clause-text
returns-clause-text g c =
    let file = (g.S.Store.facts c.args.store.now).content in
    let ps = c.args.map.now.parts.items in
    let pages = c.args.map.now.pages in
    let once = drawn_parts ps in
    let top = heaps_top pages in
    let height = top + 34 * count_by is_heap_part once in
    let once_is = c.in_ok-once.ensures.parts ∙ ap drawn_parts c.deref.ensures.value in
    let height_is = c.height.ensures ∙ ap₂ (λ (t : ℕ) (l : List Part). t + 34 * count_by is_heap_part l) c.heaps_top-top.ensures.value (c.deref-2.ensures.value ∙ once_is) in
    let w0 = g.W.Write.contents c.args.writer.now in
    let w1 = g.W.Write.contents c.write_start.new.writer in
    let w2 = g.W.Write.contents c.write_parts.new.writer in
    let w3 = g.W.Write.contents c.write_gaps.new.writer in
    let w4 = g.W.Write.contents c.write_bars.new.writer in
    let w5 = g.W.Write.contents c.send.new.writer in
    let heaps = c.in_ok-heaps.heaps.items in
    on_ok_weaker c.send.result
    (λ sent so. record {
      by_handle = heaps;
      are = subst (λ (l : List Part). AreByHandle l heaps) once_is c.in_ok-heaps.ensures.parts;
      appends = sent5 w0 w1 w2 w3 w4 w5 (start_drawn pages height ++ labels pages) (parts_drawn once) (gaps pages) (bars_drawn file top heaps) (codes "</svg>\n")
          (subst (λ (n : ℕ). Appends w0 w1 (start_drawn pages n ++ labels pages)) height_is c.in_ok-write_start.ensures.text)
          (subst (λ (l : List Part). Appends w1 w2 (parts_drawn l)) (c.deref-3.ensures.value ∙ once_is) c.in_ok-write_parts.ensures.text) c.in_ok-write_gaps.ensures.text
          (subst (Appends w3 w4) (ap₂ (bars_drawn file) c.heaps_top-top.ensures.value c.deref-4.ensures.value) (c.in_ok-write_bars.ensures.text so)) sent;
    })
    c.send.ensures.text
