use Rattle.std.proofs.lemmas.Result.{on_ok_weaker}
use Rattle.file_map.proofs.TextLemmas.{glued2}
use Rattle.file_map.proofs.svg.push_whole_rows.Goals as goal

pub returns : goal.returns
returns c = on_ok_weaker c.push_numbered.result (λ pushed. glued2 _ _ _ _ _ c.in_ok-extend_from_slice.ensures.items pushed) c.push_numbered.ensures
