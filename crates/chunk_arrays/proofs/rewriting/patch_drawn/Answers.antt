use Rattle.std.proofs.Common.{◌≡◌, ◌≤◌, ◌<◌, ◌+◌, ℕ, List, Option, true, length, inr, sym, subst, arith}
use Rattle.std.specs.List.{splice}
use Rattle.geos_model.specs.Array.{Array, array_bytes, array_start, is_even, place_table}
use Rattle.geos_model.proofs.Arrays.{joined, length-array_bytes}
use Rattle.chunk_edits.specs.Patching.{PatchPiece, PatchLeads}
use Rattle.chunk_arrays.specs.Rewriting.{elements_of, extra_after, rewritten}
use Rattle.chunk_arrays.specs.declared.rewriting.NewElement.{NewElement}
use Rattle.chunk_arrays.proofs.RewritingLemmas.{cut, head_room}
use Rattle.chunk_arrays.proofs.ReplacingLemmas.{refused-long, accepted-short}
use Rattle.chunk_arrays.proofs.RewrittenLemmas.{length-head_after, rewritten_leads, as_long, few_elements}
use Rattle.chunk_arrays.proofs.rewriting.patch_drawn.Goals as goal

pub returns-then-len-gt-LONGEST_CHUNK : goal.returns-then-len-gt-LONGEST_CHUNK
returns-then-len-gt-LONGEST_CHUNK c =
    let a : Array = c.args.view.now.array in
    let same = as_long a c.args.first.now c.args.from c.args.to c.args.new c.requires.extra in
    inr (refused-long (array_bytes (rewritten a (extra_after a c.args.first.now) c.args.from c.args.to c.args.new)) (omega (arith, same)))

-- how many elements there are then, and where the extra bytes end
room : (a : Array) (first : List ℕ) (from to count : ℕ) (new : Option NewElement) → length first ≤ length a.extra → is_even (rewritten a (extra_after a first) from to new) ≡ true
    → length (array_bytes (rewritten a a.extra from to new)) ≤ 65498 → count ≡ cut (length (splice a.elements from to (elements_of new)))
    → (count ≡ length (splice a.elements from to (elements_of new))) × (count < 65536) × (array_start a + length (place_table (array_start a) (rewritten a a.extra from to new)) + length (joined (splice a.elements from to (elements_of new))) ≤ 65498)
room a first from to count new short even fits count_is =
    let b : Array = rewritten a (extra_after a first) from to new in
    let same = as_long a first from to new short in
    let r = head_room b count even (omega (arith, same, fits)) count_is in
    let last = length-array_bytes (rewritten a a.extra from to new) in
    (r.0, r.1, omega (arith, last, fits))

pub draft_head-requires-clause-count : goal.draft_head-requires-clause-count
draft_head-requires-clause-count c =
    (room c.args.view.now.array c.args.first.now c.args.from c.args.to c.count_after.result c.args.new c.requires.extra c.requires.even (omega (arith, c.length_after-len.ensures, c.if-len-gt-LONGEST_CHUNK.false)) c.count_after.ensures).1

pub draft_head-requires-clause-room : goal.draft_head-requires-clause-room
draft_head-requires-clause-room c =
    let r = room c.args.view.now.array c.args.first.now c.args.from c.args.to c.count_after.result c.args.new c.requires.extra c.requires.even (omega (arith, c.length_after-len.ensures, c.if-len-gt-LONGEST_CHUNK.false)) c.count_after.ensures in
    let end = r.2 in
    let none = c.in_ok-draft.ensures.1 in
    omega (arith, end, none)

pub draft_table-requires-clause-short : goal.draft_table-requires-clause-short
draft_table-requires-clause-short c = omega (arith, c.length_after-len.ensures, c.if-len-gt-LONGEST_CHUNK.false)

pub draft_table-requires-clause-room : goal.draft_table-requires-clause-room
draft_table-requires-clause-room c =
    let a : Array = c.args.view.now.array in
    let r = room a c.args.first.now c.args.from c.args.to c.count_after.result c.args.new c.requires.extra c.requires.even (omega (arith, c.length_after-len.ensures, c.if-len-gt-LONGEST_CHUNK.false)) c.count_after.ensures in
    let end = r.2 in
    let none = c.in_ok-draft.ensures.1 in
    let kept = c.in_ok-draft_head.ensures.kept in
    let head = length-head_after a c.count_after.result c.args.first.now c.requires.extra in
    omega (arith, end, none, kept, head)

pub draft_elements-requires-clause-short : goal.draft_elements-requires-clause-short
draft_elements-requires-clause-short c =
    let r = room c.args.view.now.array c.args.first.now c.args.from c.args.to c.count_after.result c.args.new c.requires.extra c.requires.even (omega (arith, c.length_after-len.ensures, c.if-len-gt-LONGEST_CHUNK.false)) c.count_after.ensures in
    let end = r.2 in
    omega (arith, end)

pub draft_elements-requires-clause-room : goal.draft_elements-requires-clause-room
draft_elements-requires-clause-room c =
    let a : Array = c.args.view.now.array in
    let r = room a c.args.first.now c.args.from c.args.to c.count_after.result c.args.new c.requires.extra c.requires.even (omega (arith, c.length_after-len.ensures, c.if-len-gt-LONGEST_CHUNK.false)) c.count_after.ensures in
    let end = r.2 in
    let none = c.in_ok-draft.ensures.1 in
    let one = c.in_ok-draft_head.ensures.kept in
    let head = length-head_after a c.count_after.result c.args.first.now c.requires.extra in
    let two = c.in_ok-draft_table.ensures.kept in
    omega (arith, end, none, one, head, two)

pub returns : goal.returns
returns c =
    let a : Array = c.args.view.now.array in
    let to : List ℕ = array_bytes (rewritten a (extra_after a c.args.first.now) c.args.from c.args.to c.args.new) in
    let same = as_long a c.args.first.now c.args.from c.args.to c.args.new c.requires.extra in
    let r = room a c.args.first.now c.args.from c.args.to c.count_after.result c.args.new c.requires.extra c.requires.even (omega (arith, c.length_after-len.ensures, c.if-len-gt-LONGEST_CHUNK.false)) c.count_after.ensures in
    let leads = rewritten_leads a c.args.first.now c.args.from c.args.to c.count_after.result (elements_of c.args.new) c.requires.extra c.requires.order c.requires.within
    (few_elements c.args.new c.args.from c.args.to c.requires.one) r.0
    c.in_ok-draft.draft c.draft_head.new.draft c.draft_table.new.draft c.draft_elements.new.draft c.in_ok-draft.ensures.0 c.in_ok-draft.ensures.1
    c.in_ok-draft_head.ensures c.in_ok-draft_table.ensures c.in_ok-draft_elements.ensures in
    record {
      accepted = accepted-short to (omega (arith, same));
      leads = subst (λ (ps : List PatchPiece). PatchLeads ps (array_bytes a) to) (sym c.in_ok-patch.ensures) leads;
    }
