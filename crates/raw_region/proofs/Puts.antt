-- What callers of a region need of `put`, `slice_range`, `splice` and `word_at`.
use Rattle.std.proofs.Common.{◌≡◌, ℕ, zero, suc, ◌+◌, ◌*◌, ◌-◌, ◌≤◌, List, [], ◌∷◌, ◌++◌, length, take, drop, get_or, arith, refl, sym, ap, ◌∙◌, inl, inr, append_assoc, length-append, length-take, length-drop, slice_range, replicate}
use Rattle.std.specs.List.{splice}
use Rattle.std.proofs.lemmas.Bool.{cases_lt}
use Rattle.std.proofs.lemmas.List.{length-replicate, drop_all, take_all, append-nil, length-take-le, take_at, take-append-le, take-take, drop_at, drop-drop, drop-take, get_or-take, get_or-drop}
use Rattle.std.proofs.lemmas.List.Edits.{length-between}
use Rattle.std.proofs.lemmas.Slice.{between_to_end, between_is}
use Rattle.byteorder.specs.Endian.{little_number}
use Rattle.byteorder.specs.Numbers.{little_from-take}
use Rattle.geos_model.specs.Words.{word_at}
use Rattle.raw_region.specs.Bytes.{put}

take-append-add : (xs ys : List ℕ) (k : ℕ) → take (length xs + k) (xs ++ ys) ≡ xs ++ take k ys
take-append-add [] ys k = let e : 0 + k ≡ k = omega arith in ap (λ (n : ℕ). take n ys) e
take-append-add (x ∷ xs) ys k = let e : suc (length xs) + k ≡ suc (length xs + k) = omega arith in ap (λ (n : ℕ). take n ((x ∷ xs) ++ ys)) e ∙ ap (λ (l : List ℕ). x ∷ l) (take-append-add xs ys k)

three_drops : (l : List ℕ) (a b c n : ℕ) → a + b + c ≡ n → drop c (drop b (drop a l)) ≡ drop n l
three_drops l a b c n e = ap (λ (t : List ℕ). drop c t) (drop-drop b a l) ∙ (drop-drop c (a + b) l ∙ ap (λ (j : ℕ). drop j l) e)

module _ (xs ws : List ℕ) (at : ℕ) where
  pub length-put : length (put xs at ws) ≡ length xs
  unfolding put
  length-put = omega (arith, length-take (length xs) (take at xs ++ (ws ++ drop (at + length ws) xs)), length-append (take at xs) (ws ++ drop (at + length ws) xs), length-append ws (drop (at + length ws) xs), length-take at xs, length-drop (at + length ws) xs)

  module _ (le : at + length ws ≤ length xs) where
    pub put_is : put xs at ws ≡ take at xs ++ (ws ++ drop (at + length ws) xs)
    unfolding put
    put_is = take_all (length xs) (take at xs ++ (ws ++ drop (at + length ws) xs)) (omega (arith, length-append (take at xs) (ws ++ drop (at + length ws) xs), length-append ws (drop (at + length ws) xs), length-take at xs, length-drop (at + length ws) xs))

    -- the bytes before the run, from its start on, up to its end, and past it
    pub take-put : (n : ℕ) → n ≤ at → take n (put xs at ws) ≡ take n xs
    take-put n below = ap (λ (l : List ℕ). take n l) put_is ∙ (take-append-le n (take at xs) (ws ++ drop (at + length ws) xs) (omega (arith, length-take at xs)) ∙ take-take n at xs below)

    pub drop-put : drop at (put xs at ws) ≡ ws ++ drop (at + length ws) xs
    drop-put = ap (λ (l : List ℕ). drop at l) put_is ∙ drop_at (take at xs) (ws ++ drop (at + length ws) xs) at (length-take-le at xs (omega arith))

    pub take-put_to : (n : ℕ) → n ≡ at + length ws → take n (put xs at ws) ≡ take at xs ++ ws
    take-put_to n e = ap (λ (l : List ℕ). take n l) (put_is ∙ sym (append_assoc (take at xs) ws (drop (at + length ws) xs))) ∙ take_at (take at xs ++ ws) (drop (at + length ws) xs) n (omega (arith, length-append (take at xs) ws, length-take at xs))

    pub drop-put_past : (n : ℕ) → at + length ws ≤ n → drop n (put xs at ws) ≡ drop n xs
    drop-put_past n past =
        let k = n - (at + length ws) in let is : at + length ws + k ≡ n = omega arith in
        sym (three_drops (put xs at ws) at (length ws) k n is) ∙ (ap (λ (l : List ℕ). drop k (drop (length ws) l)) drop-put
        ∙ (ap (λ (l : List ℕ). drop k l) (drop_at ws (drop (at + length ws) xs) (length ws) refl) ∙ (drop-drop k (at + length ws) xs ∙ ap (λ (j : ℕ). drop j xs) is)))

    -- a slice of the run itself, before it and past it
    pub slice-put : (j : ℕ) → j ≡ at + length ws → slice_range (put xs at ws) at j ≡ ws
    slice-put j e = ap (λ (l : List ℕ). take (j - at) l) drop-put ∙ take_at ws (drop (at + length ws) xs) (j - at) (omega arith)

    pub slice-put_before : (i j : ℕ) → j ≤ at → slice_range (put xs at ws) i j ≡ slice_range xs i j
    slice-put_before i j before = between_is (put xs at ws) i j ∙ (ap (λ (l : List ℕ). drop i l) (take-put j before) ∙ sym (between_is xs i j))

    pub slice-put_past : (i j : ℕ) → at + length ws ≤ i → slice_range (put xs at ws) i j ≡ slice_range xs i j
    slice-put_past i j past = ap (λ (l : List ℕ). take (j - i) l) (drop-put_past i past)

-- two runs, one after the other
pub length-put_twice : (xs ys zs vs ws : List ℕ) (i j : ℕ) → ys ≡ put xs i vs → zs ≡ put ys j ws → length zs ≡ length xs
length-put_twice xs ys zs vs ws i j first second = ap length second ∙ (length-put ys ws j ∙ (ap length first ∙ length-put xs vs i))

-- bytes over all others are cut to their length
pub put-cut : (xs ws : List ℕ) → put xs 0 (take (length xs) ws) ≡ put xs 0 ws
unfolding put
put-cut xs ws = let n = length xs in let cut = take n ws in elim (cases_lt n (length ws)) [
  | inl long ↦
      let whole : length cut ≡ n = length-take-le n ws (omega arith) in
      take-append-le n cut (drop (0 + length cut) xs) (omega arith) ∙ (take-take n n ws (omega arith) ∙ sym (take-append-le n ws (drop (0 + length ws) xs) (omega arith)))
  | inr short ↦ ap (λ (l : List ℕ). take n (l ++ drop (0 + length l) xs)) (take_all n ws short)
]

-- `splice`, done by a slide of the tail and a copy
pub spliced : (xs ys zs ws b : List ℕ) (len at k n : ℕ) → len ≤ length xs → b ≡ take len xs → at + k ≤ len → len + length ws ≤ length xs + k
    → ys ≡ put xs (at + length ws) (slice_range xs (at + k) (at + k + (len - (at + k)))) → zs ≡ put ys at ws → n ≡ at + length ws + (len - (at + k))
    → take n zs ≡ splice b at (at + k) ws
spliced xs ys zs ws b len at k n short is within room slid copied count =
    let m = length ws in let s = at + k in let A = take at xs in let T = slice_range xs s (s + (len - s)) in let D = drop (at + m + length T) xs in
    let end : s + (len - s) ≡ len = omega arith in let long = length-between xs s (s + (len - s)) (omega arith) in let le : at + m + length T ≤ length xs = omega arith in
    let front : take at ys ≡ A = ap (λ (l : List ℕ). take at l) slid ∙ take-put xs T (at + m) le at (omega arith) in
    let back : drop (at + m) ys ≡ T ++ D = ap (λ (l : List ℕ). drop (at + m) l) slid ∙ drop-put xs T (at + m) le in
    let whole : length ys ≡ length xs = ap length slid ∙ length-put xs T (at + m) in
    let zs_is : zs ≡ (A ++ (ws ++ T)) ++ D = copied ∙ (put_is ys ws at (omega arith) ∙ (ap (λ (l : List ℕ). l ++ (ws ++ drop (at + m) ys)) front ∙ (ap (λ (l : List ℕ). A ++ (ws ++ l)) back ∙ simp append_assoc))) in
    let A_is : A ≡ take at b = sym (take-take at len xs (omega arith)) ∙ ap (λ (l : List ℕ). take at l) (sym is) in
    let T_is : T ≡ drop s b = between_is xs s (s + (len - s)) ∙ (ap (λ (j : ℕ). drop s (take j xs)) end ∙ ap (λ (l : List ℕ). drop s l) (sym is)) in
    ap (λ (l : List ℕ). take n l) zs_is ∙ (take_at (A ++ (ws ++ T)) D n (omega (arith, length-append A (ws ++ T), length-append ws T, length-take at xs)) ∙ (ap (λ (l : List ℕ). l ++ (ws ++ T)) A_is ∙ ap (λ (l : List ℕ). take at b ++ (ws ++ l)) T_is))

-- a write into the bytes in use
pub take-put_in : (xs ws : List ℕ) (at len : ℕ) → at + length ws ≤ len → len ≤ length xs → take len (put xs at ws) ≡ put (take len xs) at ws
take-put_in xs ws at len le short =
    let A = take at xs in let D = drop (at + length ws) xs in let k = len - (at + length ws) in let whole : at + length ws + k ≡ len = omega arith in
    let used : length (take len xs) ≡ len = length-take-le len xs short in
    let back : take k D ≡ drop (at + length ws) (take len xs) = sym (drop-take (at + length ws) k xs) ∙ ap (λ (n : ℕ). drop (at + length ws) (take n xs)) whole in
    ap (λ (l : List ℕ). take len l) (put_is xs ws at (omega arith) ∙ sym (append_assoc A ws D))
    ∙ (ap (λ (n : ℕ). take n ((A ++ ws) ++ D)) (sym whole ∙ ap (λ (n : ℕ). n + k) (omega (arith, length-append A ws, length-take-le at xs (omega arith))))
    ∙ (take-append-add (A ++ ws) D k
    ∙ (append_assoc A ws (take k D) ∙ (ap (λ (l : List ℕ). A ++ (ws ++ l)) back ∙ (ap (λ (l : List ℕ). l ++ (ws ++ drop (at + length ws) (take len xs))) (sym (take-take at len xs (omega arith))) ∙ sym (put_is (take len xs) ws at (omega arith)))))))

pub put_in : (xs ys ws b : List ℕ) (at len : ℕ) → len ≤ length xs → b ≡ take len xs → at + length ws ≤ length b → ys ≡ put xs at ws → take len ys ≡ put b at ws
put_in xs ys ws b at len short is within done =
    let used : length b ≡ len = ap length is ∙ length-take-le len xs short in
    ap (λ (l : List ℕ). take len l) done ∙ (take-put_in xs ws at len (omega arith) short ∙ ap (λ (l : List ℕ). put l at ws) (sym is))

-- a slice of the bytes in use
pub slice-take : (xs b : List ℕ) (i j len : ℕ) → len ≤ length xs → b ≡ take len xs → j ≤ length b → slice_range xs i j ≡ slice_range b i j
slice-take xs b i j len short is within =
    let used : length b ≡ len = ap length is ∙ length-take-le len xs short in
    between_is xs i j ∙ (ap (λ (l : List ℕ). drop i l) (sym (take-take j len xs (omega arith)) ∙ ap (λ (l : List ℕ). take j l) (sym is)) ∙ sym (between_is b i j))

-- a word is the sum of two bytes
pub word_sum : (xs : List ℕ) (at : ℕ) → word_at xs at ≡ get_or xs at 0 + 256 * get_or xs (at + 1) 0
word_sum xs at =
    let is : at + 0 ≡ at = omega arith in
    let low : get_or (drop at xs) 0 0 ≡ get_or xs at 0 = get_or-drop at xs 0 0 ∙ ap (λ (j : ℕ). get_or xs j 0) is in
    omega (arith, low, get_or-drop at xs 1 0)

-- a word of the bytes in use, and of the two bytes alone
pub word-take : (xs : List ℕ) (at len : ℕ) → at + 2 ≤ len → word_at (take len xs) at ≡ word_at xs at
word-take xs at len within = omega (arith, word_sum (take len xs) at, word_sum xs at, get_or-take len xs at 0 (omega arith), get_or-take len xs (at + 1) 0 (omega arith))

pub word-slice : (xs : List ℕ) (at : ℕ) → little_number 2 (slice_range xs at (at + 2)) ≡ word_at xs at
word-slice xs at = little_from-take 0 2 (at + 2 - at) (drop at xs) (omega arith)

-- `splice` of zeros, done by a slide of the tail and a fill
pub opened : (xs ys zs b : List ℕ) (len at n : ℕ) → len ≤ length xs → b ≡ take len xs → at ≤ length b → length b + n ≤ length xs
    → ys ≡ put xs (at + n) (slice_range xs at (at + (len - at))) → zs ≡ put ys at (replicate n 0)
    → take (at + n + (len - at)) zs ≡ splice b at at (replicate n 0)
opened xs ys zs b len at n short is within room slid filled =
    let used : length b ≡ len = ap length is ∙ length-take-le len xs short in
    let Z = replicate n 0 in let count : length Z ≡ n = length-replicate {A = ℕ} n 0 in let at_is : at ≡ at + 0 = omega arith in
    let moved : ys ≡ put xs (at + length Z) (slice_range xs (at + 0) (at + 0 + (len - (at + 0)))) = slid
    ∙ (ap (λ (m : ℕ). put xs (at + m) (slice_range xs at (at + (len - at)))) (sym count)
    ∙ ap (λ (m : ℕ). put xs (at + length Z) (slice_range xs m (m + (len - m)))) at_is) in
    spliced xs ys zs Z b len at 0 (at + n + (len - at)) short is (omega arith) (omega arith) moved filled (omega arith) ∙ ap (λ (j : ℕ). splice b at j Z) (sym at_is)

-- what a move in the whole region leaves
pub slid : (xs ys zs : List ℕ) (size from to n : ℕ) → length xs ≡ size → ys ≡ slice_range xs 0 (0 + size) → zs ≡ put ys to (slice_range ys from (from + n))
    → put xs 0 (take size zs) ≡ put xs to (slice_range xs from (from + n))
slid xs ys zs size from to n long whole after =
    let r = slice_range xs from (from + n) in
    let all : ys ≡ xs = whole ∙ between_to_end xs 0 (0 + size) (omega arith) in
    let is : zs ≡ put xs to r = after ∙ ap (λ (l : List ℕ). put l to (slice_range l from (from + n))) all in
    let same : length zs ≡ length xs = ap length is ∙ length-put xs r to in
    ap (λ (l : List ℕ). put xs 0 l) (take_all size zs (omega arith))
    ∙ (put_is xs zs 0 (omega arith) ∙ (ap (λ (l : List ℕ). zs ++ l) (drop_all (0 + length zs) xs (omega arith)) ∙ (append-nil zs ∙ is)))

-- a run that is read behind the first k of a list
pub slice_behind : (xs : List ℕ) (k at n : ℕ) → slice_range xs (k + at) (k + at + n) ≡ slice_range (drop k xs) at (at + n)
slice_behind xs k at n = let e : k + at + n - (k + at) ≡ at + n - at = omega arith in ap (λ (m : ℕ). take m (drop (k + at) xs)) e ∙ ap (λ (l : List ℕ). take (at + n - at) l) (sym (drop-drop at k xs))

put_suc : (x : ℕ) (xs ws : List ℕ) (at : ℕ) → put (x ∷ xs) (suc at) ws ≡ x ∷ put xs at ws
unfolding put
put_suc x xs ws at = let e : suc at + length ws ≡ suc (at + length ws) = omega arith in ap (λ (n : ℕ). take (suc (length xs)) ((x ∷ take at xs) ++ (ws ++ drop n (x ∷ xs)))) e

put_nil : (ws : List ℕ) (at : ℕ) → put [] at ws ≡ []
unfolding put
put_nil ws at = refl

-- a run that is written behind them
pub put_behind_first : (xs ws : List ℕ) (k at : ℕ) → drop k (put xs (k + at) ws) ≡ put (drop k xs) at ws
put_behind_first xs ws zero at = let e : 0 + at ≡ at = omega arith in ap (λ (n : ℕ). put xs n ws) e
put_behind_first [] ws (suc k) at = ap (λ (l : List ℕ). drop (suc k) l) (put_nil ws (suc k + at)) ∙ sym (put_nil ws at)
put_behind_first (x ∷ xs) ws (suc k) at =
    let e : suc k + at ≡ suc (k + at) = omega arith in
    ap (λ (l : List ℕ). drop (suc k) l) (ap (λ (n : ℕ). put (x ∷ xs) n ws) e ∙ put_suc x xs ws (k + at)) ∙ put_behind_first xs ws k at

-- and that the last of them stays
pub byte_stays : (bytes ws : List ℕ) (x k n at : ℕ) → n ≡ suc k → drop k bytes ≡ x ∷ drop n bytes → drop k (put bytes (n + at) ws) ≡ x ∷ drop n (put bytes (n + at) ws)
byte_stays bytes ws x k n at e was =
    let on : n + at ≡ k + suc at = omega (arith, e) in
    ap (λ (m : ℕ). drop k (put bytes m ws)) on ∙ (put_behind_first bytes ws k (suc at) ∙ (ap (λ (l : List ℕ). put l (suc at) ws) was ∙ (put_suc x (drop n bytes) ws at
    ∙ ap (λ (l : List ℕ). x ∷ l) (sym (put_behind_first bytes ws n at)))))

-- what is left behind the first of equal bytes
drop-replicate : (k n x : ℕ) → drop k (replicate (k + n) x) ≡ replicate n x
drop-replicate zero n x = let e : 0 + n ≡ n = omega arith in ap (λ (m : ℕ). replicate m x) e
drop-replicate (suc k) n x = let e : suc k + n ≡ suc (k + n) = omega arith in ap (λ (m : ℕ). drop (suc k) (replicate m x)) e ∙ drop-replicate k n x

pub behind_first : (bytes : List ℕ) (k n m x : ℕ) → m ≡ k + n → bytes ≡ replicate m x → drop k bytes ≡ replicate n x
behind_first bytes k n m x e is = ap (λ (l : List ℕ). drop k l) (is ∙ ap (λ (j : ℕ). replicate j x) e) ∙ drop-replicate k n x

-- for `#[tactic(auto, using(raw_region::proofs::Puts::lengths))]` and the like
pub ruleset lengths = (length-put)
