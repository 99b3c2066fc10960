use Rattle.std.proofs.Common.{◌++◌, ℕ, List, ap, subst, ◌∙◌}
use Rattle.std.specs.Io.KnownBytes.{Appends}
use Rattle.document_dump.specs.Lines.{text}
use Rattle.document_dump.specs.Changes.{map_set}
use Rattle.document_dump.specs.Dumps.{is_some_text}
use Rattle.document_dump.specs.Versions.{new_in, old_in}
use Rattle.document_dump.proofs.Joined.{joined}
use Rattle.document_dump.proofs.Stages.{old_same, new_same}
use Rattle.document_dump.proofs.dumping.write_changes.Goals as goal

pub returns-clause-ok : goal.returns-clause-ok
returns-clause-ok g c = λ so.
    let facts = g.S.Store.facts in
    let stage = c.args.stage in
    let old = old_in stage c.args.file.now in
    let new = new_in stage c.args.file.now in
    let now = c.write_blocks.new.file in
    let reads = c.write_blocks.ensures.reads in
    let p = c.in_ok-made.made.progress in
    let set = c.in_ok-push_map_set.ensures ∙ ap (λ (l : List ℕ). l ++ text (map_set p.map_block c.new_map.result.0)) c.new-out.ensures.items ∙ ap (λ (m : ℕ). text (map_set p.map_block m)) c.new_map.ensures in
    let sent = c.in_ok-more.ensures.ok in
    let from = g.W.Write.contents c.args.writer.now in
    let mid = g.W.Write.contents c.write_blocks.new.writer in
    let to = g.W.Write.contents c.send.new.writer in
    let out_is = c.as_slice.ensures.value in
    let all = joined old new (old_in stage now) (new_in stage now) c.old_map.result.0 p c.in_ok-made.made.some c.in_ok-more.more c.push_map_set.new.out.items c.push_all_freed.new.out.items from mid to
    c.old_map.ensures (old_same facts _ _ reads so stage) (new_same facts _ _ reads so stage) (c.in_ok-made.ensures.ok so) set c.in_ok-push_all_freed.ensures (sent.0 ∙ ap is_some_text out_is)
    (subst (λ (l : List ℕ). Appends mid to l) out_is sent.1) in
    (c.either.ensures ∙ all.0, all.1)
