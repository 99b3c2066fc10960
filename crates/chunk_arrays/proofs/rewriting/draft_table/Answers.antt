use Rattle.std.proofs.Common.{◌≡◌, ◌==◌, ◌+◌, ◌-◌, ◌*◌, ◌≤◌, ◌∙◌, ℕ, List, [], false, length, take, drop, sym, ap, arith}
use Rattle.std.proofs.lemmas.Bool.{ne_eqb}
use Rattle.geos_model.specs.Array.{Array, array_start}
use Rattle.chunk_arrays.specs.Reading.{words_from}
use Rattle.chunk_arrays.specs.Rewriting.{elements_of, rewritten}
use Rattle.chunk_arrays.proofs.DraftingLemmas.{adds-as, adds-none}
use Rattle.chunk_arrays.proofs.RewritingLemmas.{joined-front, length-spliced, length-words_from, place_table-even}
use Rattle.chunk_arrays.proofs.TableLemmas.{length-part, table_fits, table-added}
use Rattle.chunk_arrays.proofs.rewriting.draft_table.Goals as goal

pub overflow_add-place : goal.overflow_add-place
overflow_add-place c =
    let fits = table_fits c.args.view.now.array c.args.from c.args.to c.count_after.result (elements_of c.args.new) (sym c.element_size.ensures ∙ c.if-element_size-ne0.false) c.requires.short c.count_after.ensures in
    let end = fits.1 in
    let extra = ap length c.extra.ensures in
    let front = ap length (c.run.ensures ∙ joined-front c.args.view.now.array.elements c.args.from) in
    omega (arith, end, extra, front)

pub draft_places-requires-clause-near : goal.draft_places-requires-clause-near
draft_places-requires-clause-near c =
    let fits = table_fits c.args.view.now.array c.args.from c.args.to c.count_after.result (elements_of c.args.new) (sym c.element_size.ensures ∙ c.if-element_size-ne0.false) c.requires.short c.count_after.ensures in
    let end = fits.1 in
    let extra = ap length c.extra.ensures in
    omega (arith, end, extra)

pub draft_places-requires-clause-room : goal.draft_places-requires-clause-room
draft_places-requires-clause-room c =
    let xs : List (List ℕ) = c.args.view.now.array.elements in
    let fits = table_fits c.args.view.now.array c.args.from c.args.to c.count_after.result (elements_of c.args.new) (sym c.element_size.ensures ∙ c.if-element_size-ne0.false) c.requires.short c.count_after.ensures in
    let many = fits.0 ∙ length-spliced xs (elements_of c.args.new) c.args.from c.args.to c.requires.order c.requires.within in
    let end = fits.1 in
    let room = c.requires.room in
    omega (arith, many, end, room)

pub draft_place-requires-clause-near : goal.draft_place-requires-clause-near
draft_place-requires-clause-near c =
    let fits = table_fits c.args.view.now.array c.args.from c.args.to c.count_after.result (elements_of c.args.new) (sym c.element_size.ensures ∙ c.if-element_size-ne0.false) c.requires.short c.count_after.ensures in
    let end = fits.1 in
    let extra = ap length c.extra.ensures in
    let front = ap length (c.run.ensures ∙ joined-front c.args.view.now.array.elements c.args.from) in
    omega (arith, end, extra, front)

-- the words of the elements before those that go
front_bytes : (xs : List (List ℕ)) (at from : ℕ) → from ≤ length xs → length (words_from at (take (from - 0) (drop 0 xs))) ≡ 2 * from
front_bytes xs at from within = length-words_from at (take (from - 0) (drop 0 xs)) ∙ (let many = length-part xs 0 from (omega arith) within in omega (arith, many))

pub draft_place-requires-clause-room : goal.draft_place-requires-clause-room
draft_place-requires-clause-room c =
    let xs : List (List ℕ) = c.args.view.now.array.elements in
    let fits = table_fits c.args.view.now.array c.args.from c.args.to c.count_after.result (elements_of c.args.new) (sym c.element_size.ensures ∙ c.if-element_size-ne0.false) c.requires.short c.count_after.ensures in
    let many = fits.0 ∙ length-spliced xs (elements_of c.args.new) c.args.from c.args.to c.requires.order c.requires.within in
    let end = fits.1 in
    let room = c.requires.room in
    let kept = c.in_ok-draft_places.ensures.kept in
    let words = front_bytes xs (length c.extra.result.now + 8 + 2 * c.count_after.result) c.args.from (omega (arith, c.requires.order, c.requires.within)) in
    omega (arith, many, end, room, kept, words)

pub overflow_add-place-2 : goal.overflow_add-place-2
overflow_add-place-2 c =
    let fits = table_fits c.args.view.now.array c.args.from c.args.to c.count_after.result (elements_of c.args.new) (sym c.element_size.ensures ∙ c.if-element_size-ne0.false) c.requires.short c.count_after.ensures in
    let end = fits.1 in
    let extra = ap length c.extra.ensures in
    let front = ap length (c.run.ensures ∙ joined-front c.args.view.now.array.elements c.args.from) in
    let new = c.new_len.ensures in
    omega (arith, end, extra, front, new)

pub draft_places-requires-2-clause-near : goal.draft_places-requires-2-clause-near
draft_places-requires-2-clause-near c =
    let fits = table_fits c.args.view.now.array c.args.from c.args.to c.count_after.result (elements_of c.args.new) (sym c.element_size.ensures ∙ c.if-element_size-ne0.false) c.requires.short c.count_after.ensures in
    let end = fits.1 in
    let extra = ap length c.extra.ensures in
    let front = ap length (c.run.ensures ∙ joined-front c.args.view.now.array.elements c.args.from) in
    let new = c.new_len.ensures in
    omega (arith, end, extra, front, new)

pub draft_places-requires-2-clause-room : goal.draft_places-requires-2-clause-room
draft_places-requires-2-clause-room c =
    let xs : List (List ℕ) = c.args.view.now.array.elements in
    let ys : List (List ℕ) = elements_of c.args.new in
    let fits = table_fits c.args.view.now.array c.args.from c.args.to c.count_after.result ys (sym c.element_size.ensures ∙ c.if-element_size-ne0.false) c.requires.short c.count_after.ensures in
    let many = fits.0 ∙ length-spliced xs ys c.args.from c.args.to c.requires.order c.requires.within in
    let end = fits.1 in
    let room = c.requires.room in
    let first : ℕ = length c.extra.result.now + 8 + 2 * c.count_after.result in
    let one = c.in_ok-draft_places.ensures.kept in
    let front = front_bytes xs first c.args.from (omega (arith, c.requires.order, c.requires.within)) in
    let two = c.in_ok-draft_place.ensures.kept in
    let middle = length-words_from (first + length c.run.result.now) ys in
    let all = c.count.ensures in
    omega (arith, many, end, room, one, front, two, middle, all)

pub returns : goal.returns
returns c =
    let a : Array = c.args.view.now.array in
    let ys : List (List ℕ) = elements_of c.args.new in
    let any : a.size ≡ 0 = sym c.element_size.ensures ∙ c.if-element_size-ne0.false in
    let fits = table_fits a c.args.from c.args.to c.count_after.result ys any c.requires.short c.count_after.ensures in
    let end = fits.1 in
    let extra = ap length c.extra.ensures in
    let first : ℕ = length c.extra.result.now + 8 + 2 * c.count_after.result in
    let front = ap length (c.run.ensures ∙ joined-front a.elements c.args.from) in
    let new = c.new_len.ensures in
    table-added a c.args.from c.args.to c.count_after.result ys any c.requires.order fits.0
    c.args.draft.now c.draft_places.new.draft c.draft_place.new.draft c.draft_places-2.new.draft
    first (first + length c.run.result.now) (first + length c.run.result.now + c.new_len.result) c.count.result c.places.result.now
    (omega (arith, extra)) (omega (arith, front)) (omega (arith, end, new)) c.count.ensures
    c.places.ensures c.in_ok-draft_places.ensures c.in_ok-draft_place.ensures c.in_ok-draft_places-2.ensures

-- no table where each element has one size
pub returns-then-element_size-ne0 : goal.returns-then-element_size-ne0
returns-then-element_size-ne0 c =
    let a : Array = c.args.view.now.array in
    let one : (a.size == 0) ≡ false = ne_eqb a.size 0 (λ none. c.if-element_size-ne0.true (c.element_size.ensures ∙ none)) in
    adds-as c.args.draft.now c.args.draft.now [] [] _ _
    (sym (place_table-even (array_start a) a one))
    (sym (place_table-even (array_start a) (rewritten a a.extra c.args.from c.args.to c.args.new) one))
    (adds-none c.args.draft.now)
