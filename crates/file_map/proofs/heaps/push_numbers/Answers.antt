use Rattle.std.proofs.Common.{◌++◌, length, ap, ◌∙◌}
use Rattle.std.proofs.lemmas.Result.{on_ok_weaker}
use Rattle.file_map.specs.Heaps.{bytes_text, counts_text}
use Rattle.file_map.proofs.TextLemmas.{glued2}
use Rattle.file_map.proofs.heaps.push_numbers.Goals as goal

pub returns : goal.returns
returns c =
    on_ok_weaker c.push_bytes.result
    (λ pushed. glued2 _ _ _ _ _ (c.in_ok-push_counts.ensures ∙ ap (λ n. c.args.out.now.items ++ counts_text n (length c.args.sizes.now)) c.live_count.ensures)
    (pushed ∙ ap (λ n. c.push_counts.new.out.items ++ bytes_text n) c.used.ensures))
    c.push_bytes.ensures
