use Rattle.std.proofs.Common.{◌++◌, ℕ, List, ap, sym, subst, refl, codes, ◌∙◌}
use Rattle.std.proofs.KnownBytes.{Appends-trans}
use Rattle.std.specs.Io.KnownBytes.{Appends}
use Rattle.geos_model.specs.Document.{empty_document}
use Rattle.document_dump.specs.Lines.{text}
use Rattle.document_dump.specs.Changes.{changes, map_set}
use Rattle.document_dump.specs.Dumps.{is_some_text}
use Rattle.document_dump.proofs.Joined.{joined}
use Rattle.document_dump.proofs.Listed.{map_is}
use Rattle.document_dump.proofs.entries.dump_entries.Goals as goal

pub returns-clause-ok : goal.returns-clause-ok
returns-clause-ok g c = λ so d is.
    let file = (g.S.Store.facts c.args.store.now).content in
    let map_block = c.args.map_block.0 in
    let made = c.in_ok-made.ensures.ok so map_block d is in
    let p = c.in_ok-made.made.progress in
    let set = c.in_ok-push_map_set.ensures ∙ ap (λ (l : List ℕ). l ++ text (map_set p.map_block map_block)) c.new-out.ensures.items
    ∙ ap (λ (m : ℕ). text (map_set p.map_block m)) (sym (map_is file map_block c.args.entries.now d is)) in
    let sent = c.in_ok-send.ensures.ok in
    let from = g.W.Write.contents c.args.writer.now in
    let mid = g.W.Write.contents c.write_all_listed.new.writer in
    let to = g.W.Write.contents c.send.new.writer in
    let end = g.W.Write.contents c.send-2.new.writer in
    let out_is = c.as_slice.ensures.value in
    let all = joined empty_document d empty_document d 0 p c.in_ok-made.made.some _ c.push_map_set.new.out.items c.push_all_unlisted.new.out.items from mid to
    refl refl refl made set (c.in_ok-push_all_unlisted.ensures file map_block d is) (sent.0 ∙ ap is_some_text out_is)
    (subst (λ (l : List ℕ). Appends mid to l) out_is sent.1) in
    Appends-trans from to end (text (changes empty_document d)) (codes "save\n") all.1 c.in_ok-send-2.ensures.ok.1
