use Rattle.std.proofs.Common.{◌≡◌, ◌++◌, ℕ, List, Option, ap, subst, ◌∙◌}
use Rattle.std.proofs.lemmas.Result.{IfOk-weaker}
use Rattle.std.specs.Io.KnownBytes.{Appends}
use Rattle.std.specs.FinMap.{get}
use Rattle.geos_model.specs.Document.{Block}
use Rattle.document_diff.specs.Blocks.{found_block}
use Rattle.document_diff.specs.Differences.{block_compared, compared_at}
use Rattle.document_diff.specs.Diffs.{document_by, is_no_text}
use Rattle.document_diff.specs.Lines.{diff_lines}
use Rattle.document_diff.proofs.diffing.write_block.Goals as goal

pub returns-clause-ok : goal.returns-clause-ok
returns-clause-ok g c =
    IfOk-weaker c.send.result _ _ (λ none sent so too.
    let old = document_by c.args.version c.args.old.now in
    let new = document_by c.args.version c.args.new.now in
    let b = c.args.block in
    let before : found_block c.in-Ok.found ≡ get old.blocks b.0 = c.in-Ok.ensures.ok so in
    let after : found_block c.in-Ok-read_block.found ≡ get new.blocks b.0 = c.in-Ok-read_block.ensures.ok too in
    let is : c.as_slice.result.now ≡ diff_lines (compared_at old new b.0) =
    c.as_slice.ensures.value ∙ c.in_ok-push_blocks.ensures
    ∙ ap (λ (l : List ℕ). l ++ diff_lines (block_compared b (found_block c.in-Ok.found) (found_block c.in-Ok-read_block.found))) c.new-out.ensures.items
    ∙ ap (λ (x : Option Block). diff_lines (block_compared b x (found_block c.in-Ok-read_block.found))) before
    ∙ ap (λ (y : Option Block). diff_lines (block_compared b (get old.blocks b.0) y)) after in
    (sent.0 ∙ ap is_no_text is, subst (λ (l : List ℕ). Appends (g.W.Write.contents c.args.writer.now) (g.W.Write.contents c.send.new.writer) l) is sent.1))
    c.send.ensures.ok
