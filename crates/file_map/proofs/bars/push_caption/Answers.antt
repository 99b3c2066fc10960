use Rattle.std.proofs.Common.{codes}
use Rattle.std.proofs.lemmas.Result.{on_ok_weaker}
use Rattle.file_map.proofs.TextLemmas.{extended, glued6}
use Rattle.file_map.proofs.bars.push_caption.Goals as goal

pub returns : goal.returns
returns c =
    on_ok_weaker c.extend_from_slice-3.result
    (λ pushed. glued6 _ _ _ _ _ _ _ _ _ _ _ _ _ c.in_ok-push_numbered.ensures c.in_ok-extend_from_slice.ensures.items c.in_ok-push_subject.ensures c.in_ok-extend_from_slice-2.ensures.items
    c.in_ok-push_numbers.ensures pushed)
    (extended c.extend_from_slice-3.result c.extend_from_slice-3.new.self.items c.push_numbers.new.out.items (codes "</text>\n") c.extend_from_slice-3.ensures.items)
