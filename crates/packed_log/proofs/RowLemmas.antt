-- Parts of a list from one place to another, as a row with a cursor is made of.
use Rattle.std.proofs.Common.{◌≡◌, ◌≢◌, ◌<◌, ◌≤◌, ◌+◌, ◌-◌, ℕ, zero, suc, List, [], ◌∷◌, ◌++◌, length, set, take, drop, refl, sym, ap, ◌∙◌, arith}
use Rattle.std.proofs.Math.Seq.{drop-append_seam, drop-append-add, take-add, take-append-add, take-append_seam}
use Rattle.std.proofs.lemmas.List.{append_assoc, drop-append-le, drop-set, drop-set-lt, drop-take, drop_all, length-drop, length-take-le, take-append-drop, take-append-le, take_all}

module _ {X : Type 0} where
  pub drop_drop : (m n k : ℕ) (xs : List X) → m + n ≡ k → drop k xs ≡ drop n (drop m xs)
  drop_drop zero n k xs is = let same : k ≡ n = omega arith in ap (λ j. drop j xs) same
  drop_drop (suc m) n zero xs is = absurd (omega arith)
  drop_drop (suc m) n (suc k) [] is = sym (drop_all n [] (omega arith))
  drop_drop (suc m) n (suc k) (x ∷ xs) is = drop_drop m n k xs (omega arith)

  pub take_take : (m n : ℕ) (xs : List X) → m ≤ n → take m (take n xs) ≡ take m xs
  take_take zero n xs few = refl
  take_take (suc m) zero xs few = absurd (omega arith)
  take_take (suc m) (suc n) [] few = refl
  take_take (suc m) (suc n) (x ∷ xs) few = ap (λ ys. x ∷ ys) (take_take m n xs (omega arith))

  -- none are behind a place
  pub at_end : (n : ℕ) (xs : List X) → n ≤ length xs → drop n xs ≡ [] → n ≡ length xs
  at_end n xs inside none = let long = length-drop n xs in let nothing = ap length none in omega (arith, long, nothing)

  module _ (dead cursor : ℕ) (xs : List X) (before : dead ≤ cursor) where
    pub between : drop dead (take cursor xs) ≡ take (cursor - dead) (drop dead xs)
    between = let rest : dead + (cursor - dead) ≡ cursor = omega (arith, before) in ap (λ j. drop dead (take j xs)) (sym rest) ∙ drop-take dead (cursor - dead) xs

    module _ (inside : cursor ≤ length xs) where
      pub length_between : length (drop dead (take cursor xs)) ≡ cursor - dead
      length_between = let long = length-take-le cursor xs inside in length-drop dead (take cursor xs) ∙ ap (λ n. n - dead) long

      pub all_from : drop dead xs ≡ drop dead (take cursor xs) ++ drop cursor xs
      all_from =
          let long = length-take-le cursor xs inside in
          ap (drop dead) (sym (take-append-drop cursor xs)) ∙ drop-append-le dead (take cursor xs) (drop cursor xs) (omega (arith, long, before))

      module _ (count : ℕ) (few : count ≤ length (drop dead (take cursor xs))) where
        pub fewer : (count ≤ cursor) × (dead ≤ cursor - count) × (dead + (length (drop dead (take cursor xs)) - count) ≡ cursor - count)
        fewer = let long = length_between in (omega (arith, long, few), omega (arith, long, few, before), omega (arith, long, few, before))

        -- the last ones
        pub last_ones : take count (drop (cursor - count) xs) ≡ drop (length (drop dead (take cursor xs)) - count) (drop dead (take cursor xs))
        last_ones =
            let f = fewer in let at = cursor - count in
            let rest : at + count ≡ cursor = omega (arith, f.0) in
            sym (drop-take at count xs) ∙ ap (λ j. drop at (take j xs)) rest
            ∙ drop_drop dead (length (drop dead (take cursor xs)) - count) at (take cursor xs) f.2

        -- those in front of them
        pub front_ones : drop dead (take (cursor - count) xs) ≡ take (length (drop dead (take cursor xs)) - count) (drop dead (take cursor xs))
        front_ones =
            let f = fewer in let kept = length (drop dead (take cursor xs)) - count in
            ap (λ j. drop dead (take j xs)) (sym f.2) ∙ drop-take dead kept xs
            ∙ sym (take_take kept (cursor - dead) (drop dead xs) (omega (arith, f.2, before)))
            ∙ ap (take kept) (sym between)

        pub behind_front : drop (cursor - count) xs ≡ drop (length (drop dead (take cursor xs)) - count) (drop dead (take cursor xs)) ++ drop cursor xs
        behind_front =
            let f = fewer in
            let rest : cursor - count + count ≡ cursor = omega (arith, f.0) in
            sym (take-append-drop count (drop (cursor - count) xs))
            ∙ (λ i. last_ones i ++ sym (drop_drop (cursor - count) count cursor xs rest) i)

      -- more are before the cursor
      pub longer : (count : ℕ) → drop dead (take (cursor + count) xs) ≡ drop dead (take cursor xs) ++ take count (drop cursor xs)
      longer count =
          let long = length-take-le cursor xs inside in
          ap (drop dead) (take-add cursor count xs) ∙ drop-append-le dead (take cursor xs) (take count (drop cursor xs)) (omega (arith, long, before))

      -- where none is behind the cursor, some are appended
      pub appended : (ys : List X) (end : ℕ) → drop cursor xs ≡ [] → end ≡ length (xs ++ ys) → drop dead (take end (xs ++ ys)) ≡ drop dead (take cursor xs) ++ ys
      appended ys end none is =
          let last = at_end cursor xs inside none in
          ap (drop dead) (take_all end (xs ++ ys) (omega (arith, is))) ∙ drop-append-le dead xs ys (omega (arith, before, last))
          ∙ ap (λ zs. drop dead zs ++ ys) (sym (take_all cursor xs (omega (arith, last))))

      -- one is put in at the cursor
      pub put_in : (y : X) → drop dead (take (cursor + 1) (take cursor xs ++ y ∷ drop cursor xs)) ≡ drop dead (take cursor xs) ++ y ∷ []
      put_in y =
          let long = length-take-le cursor xs inside in
          ap (λ n. drop dead (take (n + 1) (take cursor xs ++ y ∷ drop cursor xs))) (sym long)
          ∙ ap (drop dead) (take-append-add (take cursor xs) (y ∷ drop cursor xs) 1)
          ∙ drop-append-le dead (take cursor xs) (y ∷ []) (omega (arith, long, before))

      pub put_in-behind : (y : X) → drop (cursor + 1) (take cursor xs ++ y ∷ drop cursor xs) ≡ drop cursor xs
      put_in-behind y =
          let long = length-take-le cursor xs inside in
          ap (λ n. drop (n + 1) (take cursor xs ++ y ∷ drop cursor xs)) (sym long) ∙ drop-append-add (take cursor xs) (y ∷ drop cursor xs) 1

      -- those in front are taken away
      pub lowered : (live : ℕ) (turned left : List X) → live ≡ length xs - dead → turned ≡ drop dead xs ++ take dead xs → left ≡ take live turned → left ≡ drop dead xs
      lowered live turned left is turned_is left_is =
          let long = length-drop dead xs in
          left_is ∙ ap (take live) turned_is ∙ take-append-le live (drop dead xs) (take dead xs) (omega (arith, is, long))
          ∙ take_all live (drop dead xs) (omega (arith, is, long))

  pub not_empty : (xs : List X) → xs ≢ [] → 0 < length xs
  not_empty [] some = absurd (some refl)
  not_empty (x ∷ xs) some = omega arith

  module _ (dead cursor : ℕ) (xs : List X) (before : dead ≤ cursor) (inside : cursor ≤ length xs) where
    -- the first of some is another one
    pub first_set : (y : X) → drop dead (take cursor xs) ≢ [] → drop dead (take cursor (set xs dead y)) ≡ y ∷ drop 1 (drop dead (take cursor xs))
    first_set y some =
        let long = length_between dead cursor xs before inside in
        let least = not_empty (drop dead (take cursor xs)) some in
        let n = cursor - dead - 1 in
        let more : cursor - dead ≡ suc n = omega (arith, least, long) in
        between dead cursor (set xs dead y) before
        ∙ (λ i. take (more i) (drop-set xs dead y (omega (arith, least, long, inside)) i))
        ∙ ap (λ ys. y ∷ take n ys) (drop_drop dead 1 (dead + 1) xs refl)
        ∙ ap (λ ys. y ∷ ys) (sym (drop-take 1 n (drop dead xs)))
        ∙ ap (λ j. y ∷ drop 1 (take j (drop dead xs))) (let one : 1 + n ≡ cursor - dead = omega (arith, more) in one)
        ∙ ap (λ ys. y ∷ drop 1 ys) (sym (between dead cursor xs before))

    pub first_set-behind : (y : X) → drop dead (take cursor xs) ≢ [] → drop cursor (set xs dead y) ≡ drop cursor xs
    first_set-behind y some =
        let long = length_between dead cursor xs before inside in
        let least = not_empty (drop dead (take cursor xs)) some in
        drop-set-lt cursor xs dead y (omega (arith, least, long))

  -- the first ones behind the cursor are turned to the end, and cut off there
  module _ (cursor count end left : ℕ) (xs tail turned final : List X) (tail_is : tail ≡ take (end - cursor) (drop cursor xs)) (end_is : end ≡ length xs) (inside : cursor ≤ length xs) (few : count ≤ length (drop cursor xs)) where
    cut_off : left ≡ end - count → turned ≡ drop count (drop cursor xs) ++ take count (drop cursor xs)
        → drop cursor (take left (take end (take cursor xs ++ (turned ++ drop (length turned) (drop cursor xs)) ++ drop (length (take cursor xs ++ (turned ++ drop (length turned) (drop cursor xs)))) xs))) ≡ drop count (drop cursor xs)
    cut_off left_is turned_is =
        let front = take cursor xs in let kept = drop count (drop cursor xs) in let gone = take count (drop cursor xs) in
        let others = drop (length turned) (drop cursor xs) in
        let rest = drop (length (front ++ (turned ++ others))) xs in
        let long = length-take-le cursor xs inside in
        let behind = length-drop cursor xs in
        let many : length kept ≡ length (drop cursor xs) - count = length-drop count (drop cursor xs) in
        let whole : front ++ (turned ++ others) ++ rest ≡ front ++ (kept ++ (gone ++ others ++ rest)) =
        ap (λ ys. front ++ (ys ++ others) ++ rest) turned_is
        ∙ append_assoc front (kept ++ gone ++ others) rest
        ∙ ap (λ ys. front ++ (ys ++ rest)) (append_assoc kept gone others)
        ∙ ap (λ ys. front ++ ys) (append_assoc kept (gone ++ others) rest) in
        let at : left ≡ cursor + length kept = omega (arith, left_is, end_is, many, behind, few, inside) in
        ap (drop cursor) (take_take left end (front ++ (turned ++ others) ++ rest) (omega (arith, left_is)))
        ∙ (λ i. drop cursor (take (at i) (whole i)))
        ∙ drop-take cursor (length kept) (front ++ (kept ++ (gone ++ others ++ rest)))
        ∙ ap (λ j. take (length kept) (drop j (front ++ (kept ++ (gone ++ others ++ rest))))) (sym long)
        ∙ ap (take (length kept)) (drop-append_seam front (kept ++ (gone ++ others ++ rest)))
        ∙ take-append_seam kept (gone ++ others ++ rest)

    pub taken_out : left ≡ end - count → turned ≡ drop count tail ++ take count tail
        → drop cursor (take left (take end (take cursor xs ++ (turned ++ drop (length turned) (drop cursor xs)) ++ drop (length (take cursor xs ++ (turned ++ drop (length turned) (drop cursor xs)))) xs))) ≡ drop count (drop cursor xs)
    taken_out left_is turned_is =
        let behind = length-drop cursor xs in
        let all : tail ≡ drop cursor xs = tail_is ∙ take_all (end - cursor) (drop cursor xs) (omega (arith, behind, end_is)) in
        cut_off left_is (turned_is ∙ ap (λ ys. drop count ys ++ take count ys) all)
