use Rattle.std.proofs.Common.{◌≡◌, ◌≤◌, ◌+◌, ◌*◌, ◌-◌, List, ℕ, length, arith}
use Rattle.std.proofs.lemmas.Result.{on_ok_weaker}
use Rattle.large_bodies.specs.Patches.{IsShiftedBack}
use Rattle.large_bodies.proofs.PatchedRegions.{table_added}
use Rattle.large_bodies.proofs.ShiftedWords.{front_shifted, back_shifted}
use Rattle.large_bodies.proofs.patches.add_table.Goals as goal

pub add_shifted-requires-clause-shifted : goal.add_shifted-requires-clause-shifted
add_shifted-requires-clause-shifted c =
    front_shifted c.args.old.now c.args.new.now c.split_at.result.0.now c.split_at-2.result.0.now c.first_shift-front_by.result c.shifted_front-front.result c.shifted_front-front.ensures.shifted c.split_at.ensures.front c.split_at-2.ensures.front

pub add_shifted-requires-2-clause-shifted : goal.add_shifted-requires-2-clause-shifted
add_shifted-requires-2-clause-shifted c =
    back_shifted c.split_at.result.1.now c.split_at-2.result.1.now c.split_at-3.result.1.now c.split_at-4.result.1.now c.last_shift-back_by.result c.shifted_back-back.result c.shifted_back-back.ensures.shifted c.split_at-3.ensures.back c.split_at-4.ensures.back

-- how many bytes lie behind a place
behind : (b n k : ℕ) → 2 * b ≤ n → k + (n - 2 * b) ≡ n → k ≡ 2 * b
behind b n k within all = omega (arith, within, all)

pub returns : goal.returns
returns c =
    let old : List ℕ = c.args.old.now in let new : List ℕ = c.args.new.now in
    let x : List ℕ = c.split_at.result.0.now in let u : List ℕ = c.split_at.result.1.now in
    let x′ : List ℕ = c.split_at-2.result.0.now in let v : List ℕ = c.split_at-2.result.1.now in
    let m : List ℕ = c.split_at-3.result.0.now in let y : List ℕ = c.split_at-3.result.1.now in
    let m′ : List ℕ = c.split_at-4.result.0.now in let y′ : List ℕ = c.split_at-4.result.1.now in
    let f : ℕ = c.shifted_front-front.result in let b : ℕ = c.shifted_back-back.result in
    let moves : IsShiftedBack u v c.last_shift-back_by.result b = c.shifted_back-back.ensures.shifted in
    on_ok_weaker c.add_shifted-2.result
    (λ last. table_added old new u v x x′ m m′ y y′ f b c.first_shift-front_by.result c.last_shift-back_by.result
    c.split_at.ensures.by_index.0 c.split_at-2.ensures.by_index.0 c.split_at-3.ensures.by_index.0 c.split_at-4.ensures.by_index.0
    c.split_at.ensures.front_len c.split_at-2.ensures.front_len
    (behind b (length u) (length y) moves.in_old c.split_at-3.ensures.back_len) (behind b (length v) (length y′) moves.in_new c.split_at-4.ensures.back_len)
    c.first_shift-front_by.ensures c.shifted_front-front.ensures.most c.last_shift-back_by.ensures c.shifted_back-back.ensures.most c.split_at.ensures.back c.split_at-2.ensures.back
    c.args.patch.now c.add_shifted.new.patch c.add_region.new.patch c.add_shifted-2.new.patch c.in_ok-add_shifted.ensures c.in_ok-add_region.ensures last)
    c.add_shifted-2.ensures
