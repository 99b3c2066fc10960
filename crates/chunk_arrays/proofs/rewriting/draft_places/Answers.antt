use Rattle.std.proofs.Common.{◌≡◌, ◌≤◌, ◌-◌, ◌*◌, ◌/◌, ◌∙◌, ℕ, List, length, take, drop, sym, ap, arith}
use Rattle.std.proofs.lemmas.Bool.{eqb-true}
use Rattle.geos_model.specs.Array.{Array}
use Rattle.chunk_edits.specs.Patching.{rebased}
use Rattle.chunk_arrays.specs.Reading.{element_place, words_from}
use Rattle.chunk_arrays.proofs.RewritingLemmas.{length-words_from}
use Rattle.chunk_arrays.proofs.DraftingLemmas.{adds-as}
use Rattle.chunk_arrays.proofs.TableLemmas.{length-part, no_words, rebased-places}
use Rattle.chunk_arrays.proofs.rewriting.draft_places.Goals as goal
use Rattle.chunk_arrays.proofs.rewriting.draft_places.Goals.{then-is_empty-via-then-is_empty, then-is_empty-via-else-is_empty+then-before-place}

-- the words of a run of places are twice as many bytes as it has elements
run_bytes : (a : Array) (from to : ℕ) (words : List ℕ) → from ≤ to → to ≤ length a.elements
    → words ≡ words_from (element_place a from) (take (to - from) (drop from a.elements)) → length words ≡ 2 * (to - from)
run_bytes a from to words order within is =
    ap length is
    ∙ length-words_from (element_place a from) (take (to - from) (drop from a.elements))
    ∙ ap (λ (n : ℕ). 2 * n) (length-part a.elements from to order within)

pub keep-requires : goal.keep-requires
keep-requires c =
    let long = run_bytes c.args.view.now.array c.args.from c.args.to c.places-words.result.now c.requires.order c.requires.within c.places-words.ensures in
    let room = c.requires.room in
    omega (arith, long, room)

pub returns-then-is_empty : goal.returns-then-is_empty
returns-then-is_empty c =
    let a : Array = c.args.view.now.array in
    let run : List (List ℕ) = take (c.args.to - c.args.from) (drop c.args.from a.elements) in
    let words : List ℕ = c.places-words.result.now in
    let after : words ≡ words_from c.args.place run = elim c.then-is_empty.branch [
      | then-is_empty-via-then-is_empty w ↦ no_words run (element_place a c.args.from) c.args.place words c.places-words.ensures (eqb-true (length words) 0 (sym w.if-is_empty.ensures))
      | then-is_empty-via-else-is_empty+then-before-place w ↦ c.places-words.ensures ∙ ap (λ (n : ℕ). words_from n run) (sym c.place-before.ensures.place ∙ w.if-before-place.true)
    ] in
    adds-as c.args.draft.now c.keep.new.self words words _ _ c.places-words.ensures after c.keep.ensures

pub rebase-requires-clause-whole : goal.rebase-requires-clause-whole
rebase-requires-clause-whole c =
    let long = run_bytes c.args.view.now.array c.args.from c.args.to c.places-words.result.now c.requires.order c.requires.within c.places-words.ensures in
    omega (arith, long)

pub rebase-requires-clause-few : goal.rebase-requires-clause-few
rebase-requires-clause-few c =
    let long = run_bytes c.args.view.now.array c.args.from c.args.to c.places-words.result.now c.requires.order c.requires.within c.places-words.ensures in
    let room = c.requires.room in
    omega (arith, long, room)

pub returns : goal.returns
returns c =
    let a : Array = c.args.view.now.array in
    let run : List (List ℕ) = take (c.args.to - c.args.from) (drop c.args.from a.elements) in
    let words : List ℕ = c.places-words.result.now in
    let many = length-part a.elements c.args.from c.args.to c.requires.order c.requires.within in
    let long = run_bytes a c.args.from c.args.to words c.requires.order c.requires.within c.places-words.ensures in
    let after : rebased (length words / 2) c.place-before.result c.args.place words ≡ words_from c.args.place run =
    ap (λ (l : List ℕ). rebased (length words / 2) c.place-before.result c.args.place l) c.places-words.ensures
    ∙ ap (λ (n : ℕ). rebased (length words / 2) n c.args.place (words_from (element_place a c.args.from) run)) c.place-before.ensures.place
    ∙ rebased-places run (length words / 2) (element_place a c.args.from) c.args.place (omega (arith, many, long)) in
    adds-as c.args.draft.now c.rebase.new.self words _ _ _ c.places-words.ensures after c.in_ok-rebase.ensures
