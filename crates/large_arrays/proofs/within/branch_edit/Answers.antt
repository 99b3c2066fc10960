use Rattle.std.proofs.Common.{◌≡◌, ◌∙◌, ◌+◌, ◌-◌, ℕ, get_or, length, refl, ap, arith}
use Rattle.std.proofs.lemmas.List.{get_or_read}
use Rattle.large_arrays.specs.declared.spot.BranchLink.{BranchLink}
use Rattle.large_arrays.proofs.Marking.{no_link}
use Rattle.large_arrays.proofs.WithinSpots.{count-few, edit-at, has-place}
use Rattle.large_arrays.proofs.within.branch_edit.Goals as goal

pub index-link-requires : goal.index-link-requires
index-link-requires c = (let has = has-place c.args.spot.now c.requires in let low = has.low in omega arith)

pub count_after-count-requires : goal.count_after-count-requires
count_after-count-requires c =
    let s = c.args.spot.now in let has = has-place s c.requires in let one = c.if-spot.false in
    let same : c.index-link.result.now.count ≡ (get_or s.links.items (s.start.0 - s.first) no_link).count =
    ap (λ (l : BranchLink). l.count) (get_or_read s.links.items (s.start.0 - s.first) c.index-link.result.now has.low c.index-link.ensures no_link) in
    let order = has.order one in let tail = has.tail one in let few = c.if-count-gt-BRANCH_ROOM.false in let once = c.count.ensures.value in let again = c.count-2.ensures.value in
    record { order = order; within = omega arith; few = omega arith }

pub stands_alone-requires : goal.stands_alone-requires
stands_alone-requires c =
    let has = has-place c.args.spot.now c.requires in record { place = has.low; small = has.small; few = c.count_after-count.ensures.few }

pub overflow_sub-others : goal.overflow_sub-others
overflow_sub-others c =
    let s = c.args.spot.now in let has = has-place s c.requires in
    let same : c.index-link.result.now.count ≡ (get_or s.links.items (s.start.0 - s.first) no_link).count =
    ap (λ (l : BranchLink). l.count) (get_or_read s.links.items (s.start.0 - s.first) c.index-link.result.now has.low c.index-link.ensures no_link) in
    let total = has.total in let count = c.from.ensures in
    omega arith

pub overflow_cast-count : goal.overflow_cast-count
overflow_cast-count c = (let few = c.count_after-count.ensures.few in omega arith)

pub overflow_cast-result-3 : goal.overflow_cast-result-3
overflow_cast-result-3 c =
    let alone = c.stands_alone.ensures c.if-not-stands_alone.false in
    let few = count-few c.count_after-count.result c.args.spot.now.size c.if-spot-eq0.false alone.fits in
    omega arith

pub returns-clause-edit : goal.returns-clause-edit
returns-clause-edit c =
    let s = c.args.spot.now in let has = has-place s c.requires in
    edit-at s (length c.args.new.now.elements) (s.start.0 - s.first) _ c.if-spot-eq0.false c.if-spot.false c.if-spot-gt-MOST_BRANCHES.false refl has.low
    (get_or_read s.links.items (s.start.0 - s.first) c.index-link.result.now has.low c.index-link.ensures no_link) refl refl
    (c.count_after-count.ensures.value ∙ ap (λ (n : ℕ). s.start.1 + n + (c.index-link.result.now.count - s.end.1)) c.count-2.ensures.value)
    (ap (λ (n : ℕ). s.total - n + c.count_after-count.result) c.from.ensures)
    (c.stands_alone.ensures c.if-not-stands_alone.false)
