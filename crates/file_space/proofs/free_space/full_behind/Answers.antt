use Rattle.std.proofs.Common.{ℕ, ◌-◌, ◌≤◌, subst, slice_index}
use Rattle.file_space.proofs.StretchLemmas.{full-back, full-before}
use Rattle.file_space.proofs.free_space.full_behind.Goals as goal

pub returns-then-end-hint : goal.returns-then-end-hint
returns-then-end-hint c = λ old new full hint raised.
    let start : ℕ = c.args.start in
    let end : ℕ = c.args.end in
    full-before start end (end - start) (slice_index c.args.hints.now (end - start)) old new c.requires.behind_slots raised hint

pub returns-else-end-hint : goal.returns-else-end-hint
returns-else-end-hint c = λ old new full hint raised q from before.
    let start : ℕ = c.args.start in
    let end : ℕ = c.args.end in
    full-back start end old new c.args.full raised full q (subst (λ (n : ℕ). n ≤ q) c.max.ensures from) before
