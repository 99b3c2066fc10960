-- A run of bytes that is moved a block at a time.
use Rattle.std.proofs.Common.{◌≡◌, ℕ, ◌+◌, ◌-◌, ◌≤◌, List, [], ◌++◌, length, take, drop, take-add, arith, sym, refl, ap, ap₂, ◌∙◌, append_assoc, length-append, slice_range}
use Rattle.std.proofs.lemmas.List.{take-append-drop, take-append-le, drop-append-le, take_at, drop_at, drop-drop}
use Rattle.std.proofs.lemmas.List.Edits.{length-between}
use borrow.Rule.Slice.PartMut.{put_mid}
use Rattle.raw_region.specs.Bytes.{put}
use Rattle.raw_region.proofs.Puts.{length-put, put_is, take-put, take-put_to, drop-put, drop-put_past, slice-put_before, slice-put_past}

-- two slices side by side are one
pub slice_join : (xs : List ℕ) (i j k : ℕ) → i ≤ j → j ≤ k → slice_range xs i j ++ slice_range xs j k ≡ slice_range xs i k
slice_join xs i j k low high =
    let l = drop i xs in let a = j - i in let b = k - j in let on : i + a ≡ j = omega arith in let whole : a + b ≡ k - i = omega arith in
    ap (λ (t : List ℕ). take a l ++ take b t) (ap (λ (m : ℕ). drop m xs) (sym on) ∙ sym (drop-drop a i xs)) ∙ (sym (take-add a b l) ∙ ap (λ (m : ℕ). take m l) whole)

-- what is left of a list that a slice was written over
pub put_part : (xs ws : List ℕ) (at k : ℕ) → at + length ws ≤ length xs → k ≡ length ws → put_mid at k xs ws ≡ put xs at ws
put_part xs ws at k le e = ap (λ (l : List ℕ). take at xs ++ (ws ++ l)) (drop-drop k at xs ∙ ap (λ (m : ℕ). drop (at + m) xs) e) ∙ sym (put_is xs ws at le)

-- a slice is written over a run of the first of two parts, or over the beginning of the second
pub put_in_front : (f b ws : List ℕ) (at : ℕ) → at + length ws ≤ length f → put (f ++ b) at ws ≡ put f at ws ++ b
put_in_front f b ws at le =
    let both = length-append f b in
    let parts : take at f ++ (ws ++ (drop (at + length ws) f ++ b)) ≡ (take at f ++ (ws ++ drop (at + length ws) f)) ++ b = simp append_assoc in
    put_is (f ++ b) ws at (omega (arith, le, both)) ∙ (ap₂ (λ (x y : List ℕ). x ++ (ws ++ y)) (take-append-le at f b (omega (arith, le))) (drop-append-le (at + length ws) f b le) ∙ (parts ∙ ap (λ (l : List ℕ). l ++ b) (sym (put_is f ws at le))))

pub put_in_back : (f b ws : List ℕ) → length ws ≤ length b → put (f ++ b) (length f) ws ≡ f ++ (ws ++ drop (length ws) b)
put_in_back f b ws le =
    let both = length-append f b in
    put_is (f ++ b) ws (length f) (omega (arith, le, both))
    ∙ ap₂ (λ (x y : List ℕ). x ++ (ws ++ y)) (take_at f b (length f) refl) (sym (drop-drop (length ws) (length f) (f ++ b)) ∙ ap (drop (length ws)) (drop_at f b (length f) refl))

-- nothing is written
put_none : (xs : List ℕ) (at : ℕ) → at ≤ length xs → put xs at [] ≡ xs
put_none xs at le = let e : at + 0 ≡ at = omega arith in put_is xs [] at (omega arith) ∙ (ap (λ (m : ℕ). take at xs ++ drop m xs) e ∙ take-append-drop at xs)

-- a run, and then one right behind it or right before it
put_behind : (xs ws vs : List ℕ) (at j : ℕ) → j ≡ at + length ws → j + length vs ≤ length xs → put (put xs at ws) j vs ≡ put xs at (ws ++ vs)
put_behind xs ws vs at j e le =
    let both = length-append ws vs in let end : j + length vs ≡ at + length (ws ++ vs) = omega (arith, both, e) in let D = drop (at + length (ws ++ vs)) xs in
    let joined : (take at xs ++ ws) ++ (vs ++ D) ≡ take at xs ++ ((ws ++ vs) ++ D) = simp append_assoc in
    put_is (put xs at ws) vs j (omega (arith, length-put xs ws at)) ∙ (ap (λ (l : List ℕ). l ++ (vs ++ drop (j + length vs) (put xs at ws))) (take-put_to xs ws at (omega arith) j e)
    ∙ (ap (λ (l : List ℕ). (take at xs ++ ws) ++ (vs ++ l)) (drop-put_past xs ws at (omega arith) (j + length vs) (omega arith) ∙ ap (λ (m : ℕ). drop m xs) end)
    ∙ (joined ∙ sym (put_is xs (ws ++ vs) at (omega arith)))))

put_before : (xs ws vs : List ℕ) (at j : ℕ) → j ≡ at + length ws → j + length vs ≤ length xs → put (put xs j vs) at ws ≡ put xs at (ws ++ vs)
put_before xs ws vs at j e le =
    let both = length-append ws vs in let end : j + length vs ≡ at + length (ws ++ vs) = omega (arith, both, e) in let D = drop (at + length (ws ++ vs)) xs in
    let joined : take at xs ++ (ws ++ (vs ++ D)) ≡ take at xs ++ ((ws ++ vs) ++ D) = simp append_assoc in
    put_is (put xs j vs) ws at (omega (arith, length-put xs vs j)) ∙ (ap (λ (l : List ℕ). l ++ (ws ++ drop (at + length ws) (put xs j vs))) (take-put xs vs j le at (omega arith))
    ∙ (ap (λ (l : List ℕ). take at xs ++ (ws ++ l)) (ap (λ (m : ℕ). drop m (put xs j vs)) (sym e) ∙ (drop-put xs vs j le ∙ ap (λ (m : ℕ). vs ++ drop m xs) end))
    ∙ (joined ∙ sym (put_is xs (ws ++ vs) at (omega arith)))))

-- no block was moved yet
pub no_block : (xs : List ℕ) (at i j : ℕ) → j ≤ i → at ≤ length xs → xs ≡ put xs at (slice_range xs i j)
no_block xs at i j none le = let e : j - i ≡ 0 = omega arith in sym (put_none xs at le) ∙ ap (λ (m : ℕ). put xs at (take m (drop i xs))) (sym e)

-- the next block behind those that were moved down: they lie before its bytes
pub block_down : (xs ys zs : List ℕ) (from to done k : ℕ) → to ≤ from → from + (done + k) ≤ length xs → ys ≡ put xs to (slice_range xs from (from + done))
    → zs ≡ put ys (to + done) (slice_range ys (from + done) (from + done + k)) → zs ≡ put xs to (slice_range xs from (from + (done + k)))
block_down xs ys zs from to done k down room was is =
    let ws = slice_range xs from (from + done) in let vs = slice_range xs (from + done) (from + done + k) in
    let w = length-between xs from (from + done) (omega arith) in let v = length-between xs (from + done) (from + done + k) (omega arith) in
    let end : from + done + k ≡ from + (done + k) = omega arith in
    let same : slice_range ys (from + done) (from + done + k) ≡ vs = ap (λ (l : List ℕ). slice_range l (from + done) (from + done + k)) was ∙ slice-put_past xs ws to (omega arith) (from + done) (from + done + k) (omega arith) in
    is ∙ (ap (λ (l : List ℕ). put ys (to + done) l) same ∙ (ap (λ (l : List ℕ). put l (to + done) vs) was ∙ (put_behind xs ws vs to (to + done) (omega arith) (omega arith)
    ∙ (ap (λ (l : List ℕ). put xs to l) (slice_join xs from (from + done) (from + done + k) (omega arith) (omega arith)) ∙ ap (λ (m : ℕ). put xs to (slice_range xs from m)) end))))

-- the next block before those that were moved up: they lie behind its bytes
pub block_up : (xs ys zs : List ℕ) (from to n left at k : ℕ) → from ≤ to → to + n ≤ length xs → at + k ≡ left → left ≤ n → ys ≡ put xs (to + left) (slice_range xs (from + left) (from + n))
    → zs ≡ put ys (to + at) (slice_range ys (from + at) (from + at + k)) → zs ≡ put xs (to + at) (slice_range xs (from + at) (from + n))
block_up xs ys zs from to n left at k up room step within was is =
    let ws = slice_range xs (from + at) (from + left) in let vs = slice_range xs (from + left) (from + n) in
    let w = length-between xs (from + at) (from + left) (omega arith) in let v = length-between xs (from + left) (from + n) (omega arith) in
    let end : from + at + k ≡ from + left = omega arith in
    let same : slice_range ys (from + at) (from + at + k) ≡ ws = ap (λ (m : ℕ). slice_range ys (from + at) m) end
    ∙ (ap (λ (l : List ℕ). slice_range l (from + at) (from + left)) was ∙ slice-put_before xs vs (to + left) (omega arith) (from + at) (from + left) (omega arith)) in
    is ∙ (ap (λ (l : List ℕ). put ys (to + at) l) same ∙ (ap (λ (l : List ℕ). put l (to + at) ws) was ∙ (put_before xs ws vs (to + at) (to + left) (omega arith) (omega arith)
    ∙ ap (λ (l : List ℕ). put xs (to + at) l) (slice_join xs (from + at) (from + left) (from + n) (omega arith) (omega arith)))))
