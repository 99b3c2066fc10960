use Rattle.std.proofs.Common.{◌++◌, codes, ap, ◌∙◌}
use Rattle.std.proofs.lemmas.Result.{on_ok_weaker}
use Rattle.file_map.specs.Lines.{numbered}
use Rattle.file_map.proofs.TextLemmas.{extended, glued3}
use Rattle.file_map.proofs.svg.push_gaps.Goals as goal

pub returns : goal.returns
returns c =
    on_ok_weaker c.extend_from_slice-2.result
    (λ pushed. glued3 _ _ _ _ _ _ _ c.in_ok-extend_from_slice.ensures.items
    (c.in_ok-push_numbered.ensures ∙ ap (λ n. c.extend_from_slice.new.self.items ++ numbered (codes " height='") n) c.rows_height.ensures.value) pushed)
    (extended c.extend_from_slice-2.result c.extend_from_slice-2.new.self.items c.push_numbered.new.out.items (codes "'/>\n") c.extend_from_slice-2.ensures.items)
