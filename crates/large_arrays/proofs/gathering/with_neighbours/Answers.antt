use Rattle.std.proofs.Common.{◌≡◌, ◌∙◌, ◌⊎◌, ◌+◌, ℕ, false, List, length, sym, ap, subst, inr, arith}
use Rattle.vm_blocks.proofs.KeepingLaws.{keeps-trans, keeps-steady}
use Rattle.vm_chains.proofs.Loading.{carried, carried_so, still_room}
use Rattle.large_arrays.specs.Bodies.{AreBodies, are_raw, bytes_of_bodies}
use Rattle.large_arrays.specs.LookedBranches.{links_between, left_links, right_links}
use Rattle.large_arrays.specs.Spots.{link_handles}
use Rattle.large_arrays.specs.declared.spot.BranchLink.{BranchLink}
use Rattle.large_arrays.proofs.CopiedNeighbours.{raw-later, bodies-later, stops-later, refused-later}
use Rattle.large_arrays.proofs.GatherSteps.{short-bodies}
use Rattle.large_arrays.proofs.gathering.with_neighbours.Goals as goal

pub copy_bodies-requires-2 : goal.copy_bodies-requires-2
copy_bodies-requires-2 g c = record { room = still_room g.S.Store.facts c.args.blocks.now c.copy_bodies.new.blocks c.copy_bodies.ensures.keeps c.requires.room }

pub returns-in_err-right-clause-keeps : goal.returns-in_err-right-clause-keeps
returns-in_err-right-clause-keeps g c =
    keeps-trans g.S.Store.facts c.args.blocks.now c.copy_bodies.new.blocks c.copy_bodies-2.new.blocks c.copy_bodies.ensures.keeps c.copy_bodies-2.ensures.keeps

pub returns-in_err-right-clause-value : goal.returns-in_err-right-clause-value
returns-in_err-right-clause-value g c = λ honest.
    let s = c.args.spot.now in
    let looked = c.args.looked in
    let f = g.S.Store.facts in
    let a = c.args.blocks.now in
    let b = c.copy_bodies.new.blocks in
    let e = c.copy_bodies-2.new.blocks in
    let first = c.copy_bodies.ensures.keeps in
    let fault = c.in_err-right.field-0.0 in
    let links : c.links_between-behind.result.now ≡ right_links s looked =
    c.links_between-behind.ensures ∙ ap (λ (x : ℕ). links_between s (s.end.0 + 1) x) c.behind_with.ensures in
    carried c.from_residual-in_err-right.result fault _ _ c.from_residual-in_err-right.ensures.1
    (stops-later f a b e first c.copy_bodies-2.ensures.keeps (are_raw e.document (link_handles c.links_between-behind.result.now) ≡ false)
    ((are_raw e.document (link_handles (left_links s looked)) ≡ false) ⊎ (are_raw e.document (link_handles (right_links s looked)) ≡ false)) fault
    (λ none. inr (ap (λ (ls : List BranchLink). are_raw e.document (link_handles ls)) (sym links) ∙ none))
    (c.in_err-right.ensures.value (keeps-steady f a b first honest)))

pub returns-in_err-right-clause-refusals : goal.returns-in_err-right-clause-refusals
returns-in_err-right-clause-refusals g c =
    carried_so c.from_residual-in_err-right.result c.in_err-right.field-0.0 _ c.from_residual-in_err-right.ensures.1
    (refused-later g.S.Store.facts c.args.blocks.now c.copy_bodies.new.blocks c.copy_bodies-2.new.blocks c.copy_bodies.ensures.keeps c.copy_bodies-2.ensures.keeps c.in_err-right.field-0.0
    c.in_err-right.ensures.refusals)

pub returns-clause-keeps : goal.returns-clause-keeps
returns-clause-keeps g c =
    keeps-trans g.S.Store.facts c.args.blocks.now c.copy_bodies.new.blocks c.copy_bodies-2.new.blocks c.copy_bodies.ensures.keeps c.copy_bodies-2.ensures.keeps

pub returns-clause-value : goal.returns-clause-value
returns-clause-value g c = λ honest.
    let s = c.args.spot.now in
    let looked = c.args.looked in
    let f = g.S.Store.facts in
    let a = c.args.blocks.now in
    let b = c.copy_bodies.new.blocks in
    let e = c.copy_bodies-2.new.blocks in
    let first = c.copy_bodies.ensures.keeps in
    let left : c.links_between-before.result.now ≡ left_links s looked =
    c.links_between-before.ensures ∙ ap (λ (x : ℕ). links_between s x s.start.0) c.first_with.ensures in
    let right : c.links_between-behind.result.now ≡ right_links s looked =
    c.links_between-behind.ensures ∙ ap (λ (x : ℕ). links_between s (s.end.0 + 1) x) c.behind_with.ensures in (
      subst (λ (ls : List BranchLink). AreBodies e.document (link_handles ls) (bytes_of_bodies c.in_ok-left.left.items)) left
          (bodies-later f a b e first c.copy_bodies-2.ensures.keeps honest (link_handles c.links_between-before.result.now) (bytes_of_bodies c.in_ok-left.left.items) (c.in_ok-left.ensures.value honest)),
      subst (λ (ls : List BranchLink). AreBodies e.document (link_handles ls) (bytes_of_bodies c.in_ok-right.right.items)) right (c.in_ok-right.ensures.value (keeps-steady f a b first honest)),
    )

pub returns-clause-left : goal.returns-clause-left
returns-clause-left g c =
    let s = c.args.spot.now in
    let left : c.links_between-before.result.now ≡ left_links s c.args.looked =
    c.links_between-before.ensures ∙ ap (λ (x : ℕ). links_between s x s.start.0) c.first_with.ensures in
    let same = ap (λ (ls : List BranchLink). length ls) left in
    let long = c.in_ok-left.left.ok.0 in
    let many = c.in_ok-left.ensures.many in
    record {
      many = omega arith;
      short = short-bodies c.in_ok-left.left.items c.in_ok-left.ensures.short;
    }

pub returns-clause-right : goal.returns-clause-right
returns-clause-right g c =
    let s = c.args.spot.now in
    let right : c.links_between-behind.result.now ≡ right_links s c.args.looked =
    c.links_between-behind.ensures ∙ ap (λ (x : ℕ). links_between s (s.end.0 + 1) x) c.behind_with.ensures in
    let same = ap (λ (ls : List BranchLink). length ls) right in
    let long = c.in_ok-right.right.ok.0 in
    let many = c.in_ok-right.ensures.many in
    record {
      many = omega arith;
      short = short-bodies c.in_ok-right.right.items c.in_ok-right.ensures.short;
    }

pub returns-clause-raw : goal.returns-clause-raw
returns-clause-raw g c =
    let s = c.args.spot.now in
    let looked = c.args.looked in
    let e = c.copy_bodies-2.new.blocks in
    let left : c.links_between-before.result.now ≡ left_links s looked =
    c.links_between-before.ensures ∙ ap (λ (x : ℕ). links_between s x s.start.0) c.first_with.ensures in
    let right : c.links_between-behind.result.now ≡ right_links s looked =
    c.links_between-behind.ensures ∙ ap (λ (x : ℕ). links_between s (s.end.0 + 1) x) c.behind_with.ensures in (
      ap (λ (ls : List BranchLink). are_raw e.document (link_handles ls)) (sym left)
          ∙ raw-later g.S.Store.facts c.args.blocks.now c.copy_bodies.new.blocks e c.copy_bodies.ensures.keeps c.copy_bodies-2.ensures.keeps (link_handles c.links_between-before.result.now) c.in_ok-left.ensures.raw,
      ap (λ (ls : List BranchLink). are_raw e.document (link_handles ls)) (sym right) ∙ c.in_ok-right.ensures.raw,
    )
