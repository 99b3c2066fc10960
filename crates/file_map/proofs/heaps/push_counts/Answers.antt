use Rattle.std.proofs.Common.{◌++◌, codes, ap, ◌∙◌}
use Rattle.std.proofs.lemmas.Result.{on_ok_weaker}
use Rattle.file_map.specs.Lines.{numbered}
use Rattle.file_map.proofs.TextLemmas.{glued2}
use Rattle.file_map.proofs.heaps.push_counts.Goals as goal

pub returns : goal.returns
returns c =
    on_ok_weaker c.push_numbered-2.result
    (λ pushed. glued2 _ _ _ (numbered (codes " chunks ") c.args.live) _ c.in_ok-push_numbered.ensures (pushed ∙ ap (λ n. c.push_numbered.new.out.items ++ numbered (codes ", unused handles ") n) c.saturating_sub.ensures))
    c.push_numbered-2.ensures
