use Rattle.std.proofs.Common.{map, ap, ◌∙◌}
use Rattle.std.proofs.lemmas.List.Sorted.{IsPermutation-trans}
use Rattle.file_map.specs.Parts.{part_of_usage}
use Rattle.file_map.proofs.FaultLemmas.{uncounted_file}
use Rattle.file_map.proofs.MapLemmas.{file_map, sorted_parts, uncounted}
use Rattle.file_map.proofs.reading.read_report.Goals as goal

pub returns-in-Err-clause-refusals : goal.returns-in-Err-clause-refusals
returns-in-Err-clause-refusals g c = uncounted (g.S.Store.facts c.args.store.now) c.args.report.now c.in-Err.fault c.requires c.in-Err.ensures.refusals

pub returns-in-Err-clause-file : goal.returns-in-Err-clause-file
returns-in-Err-clause-file g c = λ is. absurd (uncounted_file c.args.report.now c.in-Err.fault c.in-Err.ensures.refusals (cc is))

pub returns-clause-sorted : goal.returns-clause-sorted
returns-clause-sorted g c =
    sorted_parts c.in_ok-parts.parts.items c.join_blocks.new.usages.items (c.in_ok-parts.ensures.extents ∙ ap (map (λ u. u.extent)) c.deref.ensures.value) c.in_ok-join_blocks.ensures.order

pub returns-clause-map : goal.returns-clause-map
returns-clause-map g c so =
    let file = (g.S.Store.facts c.args.store.now).content in
    file_map file c.args.report.now c.in-Ok.slot.now c.join_blocks.new.usages.items _ (c.requires so) c.in-Ok.ensures.ok.0 c.in-Ok.ensures.ok.1 (IsPermutation-trans _ _ _ c.in_ok-usages.ensures.all c.in_ok-join_blocks.ensures.all) c.in_ok-join_blocks.ensures.order
    (c.in_ok-parts.ensures.parts so ∙ ap (map (part_of_usage file)) c.deref.ensures.value) c.page_count.ensures
