use Rattle.std.proofs.Common.{◌∙◌}
use Rattle.document_diff.specs.Diffs.{document_by}
use Rattle.document_diff.proofs.Files.{can_be}
use Rattle.document_diff.proofs.Same.{tells_same}
use Rattle.document_diff.proofs.Went.{went_whole}
use Rattle.document_diff.proofs.diffing.diff.Goals as goal

pub returns-clause-text : goal.returns-clause-text
returns-clause-text g c = λ so too.
    let old = document_by c.args.version c.args.old.now in
    let new = document_by c.args.version c.args.new.now in
    (went_whole old new c.map_block.result.0 c.map_block-2.result.0 (g.W.Write.contents c.args.writer.now) (g.W.Write.contents c.write_map_blocks.new.writer) (g.W.Write.contents c.write_blocks.new.writer)
    c.in_ok-none.none c.in_ok-rest.rest c.map_block.ensures c.map_block-2.ensures c.in_ok-none.ensures.ok (c.in_ok-rest.ensures.ok so too)).1

pub returns-clause-answer : goal.returns-clause-answer
returns-clause-answer g c = λ so too.
    let old = document_by c.args.version c.args.old.now in
    let new = document_by c.args.version c.args.new.now in
    let written = went_whole old new c.map_block.result.0 c.map_block-2.result.0 (g.W.Write.contents c.args.writer.now) (g.W.Write.contents c.write_map_blocks.new.writer) (g.W.Write.contents c.write_blocks.new.writer)
    c.in_ok-none.none c.in_ok-rest.rest c.map_block.ensures c.map_block-2.ensures c.in_ok-none.ensures.ok (c.in_ok-rest.ensures.ok so too) in
    let told = c.both.ensures ∙ written.0 in
    (told, tells_same old new _ (can_be g.S.Store.facts c.args.old.now c.reveal_invariant.ensures c.args.version so) (can_be g.T.Store.facts c.args.new.now c.reveal_invariant-2.ensures c.args.version too) told)
