use Rattle.std.proofs.Common.{◌≡◌, ◌<◌, ◌≤◌, ℕ, min, max, arith, refl, subst}
use Rattle.file_format.specs.File.{end_page}
use Rattle.file_report.specs.Pages.{PassesFree}
use Rattle.file_report.proofs.FreeLemmas.{walk_more, walk_none}
use Rattle.file_report.proofs.free.Walk.past.Goals as goal

pub returns-then-extent-eq0 : goal.returns-then-extent-eq0
returns-then-extent-eq0 c taken start is from =
    let none : end_page c.args.extent ≤ c.args.extent.page = omega (arith, c.if-extent-eq0.true) in
    walk_none taken c.args.pages start c.args.self is c.args.extent from none

pub returns : goal.returns
returns c taken start is from =
    let e = c.args.extent in
    let n = c.args.pages in
    let some : e.page < end_page e = omega (arith, c.if-extent-eq0.false) in
    let first : c.min.result ≡ min n e.page = omega (arith, c.min.ensures, c.from.ensures) in
    let last : c.min-2.result ≡ min n (max c.past_free-walk.result.end (end_page e)) = omega (arith, c.min-2.ensures, c.max.ensures, c.page_behind.ensures) in
    walk_more taken n start c.args.self is e from c.past_free-walk.result _ (omega arith) some (subst (λ (k : ℕ). PassesFree c.args.self k c.past_free-walk.result) first c.past_free-walk.ensures) refl last
