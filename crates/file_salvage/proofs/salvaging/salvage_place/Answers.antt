use Rattle.std.proofs.Common.{◌≡◌, ℕ, List, length, subst, sym, ◌∙◌}
use Rattle.std.proofs.lemmas.Result.{err_from_is_err_and}
use Rattle.std.specs.Io.KnownBytes.{Appends}
use Rattle.file_format.proofs.LooksLemmas.{OnlyReadsStore-trans, still, same_bytes_then, still_holds}
use Rattle.document_dump.specs.Entries.{HasBlocks, IsListedAs}
use Rattle.file_salvage.specs.Entries.{all_notes, damages, taken_entries}
use Rattle.file_salvage.proofs.EntryLemmas.{entries_have}
use Rattle.file_salvage.proofs.ScriptLemmas.{refused_by_note, refused_later, written}
use Rattle.file_salvage.proofs.salvaging.salvage_place.Goals as goal

pub returns-clause-ok : goal.returns-clause-ok
returns-clause-ok g c = λ so.
    let p = c.args.place in
    let a = g.S.Store.facts c.args.store.now in
    let b = g.S.Store.facts c.read_place.new.store in
    let d = g.S.Store.facts c.take_entries.new.store in
    let contents = g.W.Write.contents in
    let first = c.read_place.ensures.looks in
    let second = OnlyReadsStore-trans a b d (g.met.S.Store.timely c.args.store.now) first c.take_entries.ensures.reads in
    let bytes = c.as_slice-bytes.result.now in
    let es = c.as_slice-entries.result.now in
    let one = contents c.send_head_note.new.writer in
    let two = contents c.take_entries.new.writer in
    let three = contents c.send_map_note.new.writer in
    let to = contents c.dump_entries.new.writer in
    written c.args.all a.content p bytes es c.map_block_of-map_block.result c.map_kept-kept.result (contents c.args.writer.now) one two three to
    (c.as_slice-bytes.ensures.value ∙ c.in_ok-directory.ensures.bytes so)
    (c.as_slice-entries.ensures.value ∙ subst (λ (file : List ℕ). c.in_ok-found.found.items ≡ taken_entries c.args.all bytes (damages file p.version bytes)) (same_bytes_then a b first so) (c.in_ok-found.ensures.entries (still a b first so)))
    c.map_block_of-map_block.ensures c.map_kept-kept.ensures c.in_ok-send_head_note.ensures.ok
    (subst (λ (file : List ℕ). Appends one two (all_notes c.args.all bytes (damages file p.version bytes))) (same_bytes_then a b first so) (c.in_ok-found.ensures.told (still a b first so)))
    c.in_ok-send_map_note.ensures.ok
    (λ x listed. c.in_ok-dump_entries.ensures.ok (still a d second so) x (subst (λ (file : List ℕ). IsListedAs file c.map_kept-kept.result es x) (sym (same_bytes_then a d second so)) listed))

pub dump_entries-requires : goal.dump_entries-requires
dump_entries-requires g c = λ so.
    let b = g.S.Store.facts c.read_place.new.store in
    let d = g.S.Store.facts c.take_entries.new.store in
    let bytes = c.as_slice-bytes.result.now in
    still_holds (λ (file : List ℕ). HasBlocks file c.as_slice-entries.result.now) b d c.take_entries.ensures.reads
    (λ honest. subst (HasBlocks b.content) (sym (c.as_slice-entries.ensures.value ∙ c.in_ok-found.ensures.entries honest)) (entries_have b.content c.args.place.version bytes c.args.all)) so

pub returns-in_err-send_head_note-clause-fails : goal.returns-in_err-send_head_note-clause-fails
returns-in_err-send_head_note-clause-fails g c =
    let p = err_from_is_err_and c.from_residual-in_err-send_head_note.result c.from_residual-in_err-send_head_note.ensures.1 in
    rw (p.1, p.2) (refused_by_note (g.S.Store.facts c.args.store.now) (g.S.Store.facts c.read_place.new.store) _ c.in_err-send_head_note.ensures.err)

pub returns-in_err-found-clause-reads : goal.returns-in_err-found-clause-reads
returns-in_err-found-clause-reads g c = OnlyReadsStore-trans (g.S.Store.facts c.args.store.now) (g.S.Store.facts c.read_place.new.store) _ (g.met.S.Store.timely c.args.store.now) c.read_place.ensures.looks c.take_entries.ensures.reads

pub returns-in_err-found-clause-fails : goal.returns-in_err-found-clause-fails
returns-in_err-found-clause-fails g c =
    let p = err_from_is_err_and c.from_residual-in_err-found.result c.from_residual-in_err-found.ensures.1 in
    rw (p.1, p.2)
    (refused_later (g.S.Store.facts c.args.store.now) (g.S.Store.facts c.read_place.new.store) (g.S.Store.facts c.take_entries.new.store) _ c.read_place.ensures.looks c.in_err-found.ensures.fails)

pub returns-in_err-send_map_note-clause-reads : goal.returns-in_err-send_map_note-clause-reads
returns-in_err-send_map_note-clause-reads g c = OnlyReadsStore-trans (g.S.Store.facts c.args.store.now) (g.S.Store.facts c.read_place.new.store) _ (g.met.S.Store.timely c.args.store.now) c.read_place.ensures.looks c.take_entries.ensures.reads

pub returns-in_err-send_map_note-clause-fails : goal.returns-in_err-send_map_note-clause-fails
returns-in_err-send_map_note-clause-fails g c =
    let p = err_from_is_err_and c.from_residual-in_err-send_map_note.result c.from_residual-in_err-send_map_note.ensures.1 in
    rw (p.1, p.2) (refused_by_note (g.S.Store.facts c.args.store.now) (g.S.Store.facts c.take_entries.new.store) _ c.in_err-send_map_note.ensures.err)

pub returns-in_err-dump_entries-clause-reads : goal.returns-in_err-dump_entries-clause-reads
returns-in_err-dump_entries-clause-reads g c =
    let second = OnlyReadsStore-trans (g.S.Store.facts c.args.store.now) (g.S.Store.facts c.read_place.new.store) (g.S.Store.facts c.take_entries.new.store) (g.met.S.Store.timely c.args.store.now) c.read_place.ensures.looks c.take_entries.ensures.reads in
    OnlyReadsStore-trans (g.S.Store.facts c.args.store.now) (g.S.Store.facts c.take_entries.new.store) _ (g.met.S.Store.timely c.args.store.now) second c.dump_entries.ensures.reads

pub returns-in_err-dump_entries-clause-fails : goal.returns-in_err-dump_entries-clause-fails
returns-in_err-dump_entries-clause-fails g c =
    let second = OnlyReadsStore-trans (g.S.Store.facts c.args.store.now) (g.S.Store.facts c.read_place.new.store) (g.S.Store.facts c.take_entries.new.store) (g.met.S.Store.timely c.args.store.now) c.read_place.ensures.looks c.take_entries.ensures.reads in
    let p = err_from_is_err_and c.from_residual-in_err-dump_entries.result c.from_residual-in_err-dump_entries.ensures.1 in
    rw (p.1, p.2)
    (refused_later (g.S.Store.facts c.args.store.now) (g.S.Store.facts c.take_entries.new.store) (g.S.Store.facts c.dump_entries.new.store) _ second c.in_err-dump_entries.ensures.fails)

pub returns-clause-reads : goal.returns-clause-reads
returns-clause-reads g c =
    let second = OnlyReadsStore-trans (g.S.Store.facts c.args.store.now) (g.S.Store.facts c.read_place.new.store) (g.S.Store.facts c.take_entries.new.store) (g.met.S.Store.timely c.args.store.now) c.read_place.ensures.looks c.take_entries.ensures.reads in
    OnlyReadsStore-trans (g.S.Store.facts c.args.store.now) (g.S.Store.facts c.take_entries.new.store) _ (g.met.S.Store.timely c.args.store.now) second c.dump_entries.ensures.reads

pub take_entries-requires-clause-size : goal.take_entries-requires-clause-size
take_entries-requires-clause-size g c = still_holds (λ (file : List ℕ). c.args.file_length ≡ length file) (g.S.Store.facts c.args.store.now) (g.S.Store.facts c.read_place.new.store) c.read_place.ensures.looks c.requires.size
