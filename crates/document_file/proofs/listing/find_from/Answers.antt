use Rattle.std.proofs.Common.{◌≡◌, ◌+◌, ◌≤◌, ◌≢◌, ℕ, Some, drop, sym, ap, ◌∙◌, arith}
use Rattle.document_file.proofs.ListingLemmas.{found_from, found_front, found_at, found_next, found_end}
use Rattle.document_file.proofs.listing.find_from.Goals as goal
use Rattle.document_file.proofs.listing.find_from.Goals.{in-Some+else-place-user_id, in_default}

pub loop-i-init : goal.loop-i-init
loop-i-init c =
    let places = c.args.places.now in
    found_front c.args.user_id c.args.start places 0 c.args.start (omega arith)
    ∙ ap (λ (j : ℕ). found_from c.args.user_id c.args.start j (drop c.args.start places)) (let e : 0 + c.args.start ≡ c.args.start = omega arith in e)
    ∙ ap (λ (j : ℕ). found_from c.args.user_id c.args.start j (drop j places)) (sym c.from-i.ensures)

pub returns-then-place-user_id : goal.returns-then-place-user_id
returns-then-place-user_id c =
    let from : c.args.start ≤ c.loop-i.i = let a = c.loop-i.auto.i in let b = c.from-i.ensures in omega (arith, a, b) in
    sym (c.loop-i.invariant ∙ found_at c.args.user_id c.args.start c.loop-i.i c.in-Some.place c.args.places.now c.loop-i-test.true (sym c.in-Some.is) from c.if-place-user_id.true)

pub loop-i-preserved : goal.loop-i-preserved
loop-i-preserved c =
    c.loop-i.invariant ∙ found_next c.args.user_id c.args.start c.loop-i.i c.args.places.now c.loop-i-test.true (λ b at.
    elim c.match-places-i.branch as (λ _. b.attributes.user_id ≢ c.args.user_id) [
      | in-Some+else-place-user_id w ↦ λ same. let one : Some b ≡ Some w.in-Some.place = sym at ∙ w.in-Some.is in w.if-place-user_id.false (cc (one, same))
      | in_default w ↦ absurd (w.in_default.not-Some b at)
    ])

pub returns : goal.returns
returns c =
    let places = c.args.places.now in
    sym (c.loop-i.invariant ∙ found_end c.args.user_id c.args.start c.loop-i.i places c.loop-i-test.false)
