use Rattle.std.proofs.Common.{codes}
use Rattle.std.proofs.lemmas.Result.{on_ok_weaker}
use Rattle.file_map.proofs.TextLemmas.{extended, glued3}
use Rattle.file_map.proofs.svg.push_last_row.Goals as goal

pub returns : goal.returns
returns c =
    on_ok_weaker c.extend_from_slice.result (λ pushed. glued3 _ _ _ _ _ _ _ c.in_ok-push_numbered.ensures c.in_ok-push_numbered-2.ensures pushed)
    (extended c.extend_from_slice.result c.extend_from_slice.new.self.items c.push_numbered-2.new.out.items (codes "'/></g>\n") c.extend_from_slice.ensures.items)
