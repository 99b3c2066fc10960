use Rattle.std.proofs.Common.{◌≡◌, List, ap, refl, subst, ◌∙◌}
use Rattle.std.proofs.lemmas.Result.{on_ok_weaker}
use Rattle.std.specs.Io.KnownBytes.{Appends}
use Rattle.file_map.specs.Drawn.{AreByHandle}
use Rattle.file_map.specs.Heaps.{heap_lines}
use Rattle.file_map.specs.Pages.{page_picture}
use Rattle.file_map.specs.Parts.{drawn_parts}
use Rattle.file_map.specs.declared.heaps.TheConstants.{HEADING}
use Rattle.file_map.specs.declared.part.Part.{Part}
use Rattle.file_map.proofs.TextLemmas.{sent3}
use Rattle.file_map.proofs.drawing.write_text.Goals as goal

pub returns-clause-text : goal.returns-clause-text
returns-clause-text g c =
    let file = (g.S.Store.facts c.args.store.now).content in
    let ps = c.args.map.now.parts.items in
    let pages = c.args.map.now.pages in
    let from = g.W.Write.contents c.args.writer.now in
    let first = g.W.Write.contents c.write_pages.new.writer in
    let second = g.W.Write.contents c.write_heading.new.writer in
    let to = g.W.Write.contents c.write_heaps.new.writer in
    let heaps = c.in_ok-heaps.heaps.items in
    on_ok_weaker c.write_heaps.result
    (λ sent so. record {
      by_handle = heaps;
      are = subst (λ (once : List Part). AreByHandle once heaps) (c.in_ok-once.ensures.parts ∙ ap drawn_parts c.deref-2.ensures.value) c.in_ok-heaps.ensures.parts;
      appends = sent3 from first second to (page_picture ps pages) HEADING.now (heap_lines file heaps)
          (subst (λ l. Appends from first (page_picture l pages)) c.deref.ensures.value c.in_ok-write_pages.ensures.text) c.in_ok-write_heading.ensures.text
          (subst (λ l. Appends second to (heap_lines file l)) c.deref-3.ensures.value (sent so));
    })
    c.write_heaps.ensures.text
