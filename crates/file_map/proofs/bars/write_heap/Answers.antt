use Rattle.std.proofs.Common.{rules, ◌≡◌, ◌∙◌, [], true, false, ap, subst, sym}
use Rattle.std.specs.Io.KnownBytes.{Appends}
use Rattle.std.proofs.KnownBytes.{Appends-nil}
use Rattle.std.proofs.lemmas.Bool.{cond-true, cond-false}
use Rattle.file_format.specs.File.{bytes_in}
use Rattle.file_map.specs.Bars.{bar_drawn}
use Rattle.file_map.specs.Heaps.{sizes}
use Rattle.file_map.specs.Parts.{is_heap_part}
use Rattle.file_map.proofs.bars.write_heap.Goals as goal

pub returns-then-not-is_heap-clause-text : goal.returns-then-not-is_heap-clause-text
returns-then-not-is_heap-clause-text g c so =
    let w = g.W.Write.contents c.args.writer.now in
    let isnt : is_heap_part c.args.part ≡ false = search rules in
    let drawn = bar_drawn c.args.part c.args.y (sizes (bytes_in (g.S.Store.facts c.args.store.now).content c.args.part.extent)) in
    subst (Appends w w) (sym (cond-false (is_heap_part c.args.part) drawn [] isnt)) (Appends-nil w)

pub returns-clause-text : goal.returns-clause-text
returns-clause-text g c so =
    let from = g.W.Write.contents c.args.writer.now in
    let to = g.W.Write.contents c.write_bar.new.writer in
    let yes : is_heap_part c.args.part ≡ true = search rules in
    let table = sizes (bytes_in (g.S.Store.facts c.args.store.now).content c.args.part.extent) in
    let read = c.deref.ensures.value ∙ c.in_ok-table.ensures.table so in
    subst (Appends from to) (ap (bar_drawn c.args.part c.args.y) read ∙ sym (cond-true (is_heap_part c.args.part) (bar_drawn c.args.part c.args.y table) [] yes)) c.in_ok-write_bar.ensures.text
