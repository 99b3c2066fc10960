-- Words rebased one after another where they lie, in a slice that is lent of a chunk.
use Rattle.std.proofs.Common.{◌≡◌, ℕ, zero, suc, ◌+◌, ◌-◌, ◌*◌, ◌%◌, ◌^◌, ◌≤◌, ◌<◌, List, [], ◌++◌, length, take, drop, sym, ap, ap₂, ◌∙◌, arith, append_assoc, append-nil, add-one, length-append, length-drop, length-take-le, take_all, take_at, drop_at, drop-drop}
use Rattle.std.proofs.lemmas.List.{drop_all}
use Rattle.std.specs.List.{splice}
use Rattle.raw_region.specs.Bytes.{put}
use Rattle.raw_region.proofs.Puts.{put_is}
use Rattle.geos_model.specs.Words.{word, word_at}
use Rattle.chunk_edits.specs.Patching.{rebased}
use Rattle.chunk_edits.proofs.PatchingLemmas.{word-same, length-rebased}

abbrev moved : ℕ → ℕ → ℕ → List ℕ
moved w from to = word (w + to + (2 ^ 16 - from % 2 ^ 16))

-- one word more
rebased_more : (i from to : ℕ) (bytes : List ℕ) → rebased (suc i) from to bytes ≡ rebased i from to bytes ++ moved (word_at (drop (2 * i) bytes) 0) from to
rebased_more zero from to bytes = append-nil (moved (word_at bytes 0) from to)
rebased_more (suc i) from to bytes =
    let first = moved (word_at bytes 0) from to in
    let there : drop (2 * i) (drop 2 bytes) ≡ drop (2 * suc i) bytes = drop-drop (2 * i) 2 bytes ∙ ap (λ (k : ℕ). drop k bytes) (omega arith) in
    ap (λ (l : List ℕ). first ++ l) (rebased_more i from to (drop 2 bytes) ∙ ap (λ (l : List ℕ). rebased i from to (drop 2 bytes) ++ moved (word_at l 0) from to) there)
    ∙ sym (append_assoc first (rebased i from to (drop 2 bytes)) (moved (word_at (drop (2 * suc i) bytes) 0) from to))

-- The word at a place of a run of which the ones before it are rebased.
module _ (old now : List ℕ) (i from to : ℕ) (is : now ≡ rebased i from to old ++ drop (2 * i) old) (size : length now ≡ length old) where
  done : List ℕ
  done = rebased i from to old

  behind : drop (2 * i) now ≡ drop (2 * i) old
  unfolding done
  behind = ap (drop (2 * i)) is ∙ drop_at done (drop (2 * i) old) (2 * i) (length-rebased i from to old)

  rest : ℕ
  rest = length now - 2 * i

  lent : take rest (drop (2 * i) now) ≡ drop (2 * i) old
  unfolding rest
  lent = take_all rest (drop (2 * i) now) (omega (arith, length-drop (2 * i) now)) ∙ behind

  pub rebased_next : (word : ℕ) (bytes : List ℕ) → from < 65536
      → bytes ≡ moved word from to ++ drop 2 (take (length now - 2 * i) (drop (2 * i) now))
      → word ≡ word_at (take (length now - 2 * i) (drop (2 * i) now)) 0
      → take (2 * i) now ++ (bytes ++ drop (length now - 2 * i) (drop (2 * i) now)) ≡ rebased (i + 1) from to old ++ drop (2 * (i + 1)) old
  unfolding done rest
  rebased_next word bytes low wrote read =
      let front : take (2 * i) now ≡ done = ap (take (2 * i)) is ∙ take_at done (drop (2 * i) old) (2 * i) (length-rebased i from to old) in
      let none : drop rest (drop (2 * i) now) ≡ [] = drop_all rest (drop (2 * i) now) (omega (arith, length-drop (2 * i) now)) in
      let left : drop 2 (drop (2 * i) old) ≡ drop (2 * (i + 1)) old = drop-drop 2 (2 * i) old ∙ ap (λ (k : ℕ). drop k old) (omega arith) in
      let here : word ≡ word_at (drop (2 * i) old) 0 = read ∙ ap (λ (l : List ℕ). word_at l 0) lent in
      let next : done ++ moved word from to ≡ rebased (i + 1) from to old =
      ap (λ (w : ℕ). done ++ moved w from to) here ∙ (sym (rebased_more i from to old) ∙ ap (λ (k : ℕ). rebased k from to old) (sym (add-one i))) in
      ap₂ (λ (a b : List ℕ). a ++ (bytes ++ b)) front none
      ∙ (ap (λ (l : List ℕ). done ++ l) (append-nil bytes ∙ (wrote ∙ ap (λ (l : List ℕ). moved word from to ++ l) (ap (drop 2) lent ∙ left)))
      ∙ (sym (append_assoc done (moved word from to) (drop (2 * (i + 1)) old)) ∙ ap (λ (l : List ℕ). l ++ drop (2 * (i + 1)) old) next))

-- what two wrapping steps make of a word
pub moved_by_steps : (w from to : ℕ) → from < 65536 → word (((w + (65536 - from)) % 65536 + to) % 65536) ≡ moved w from to
moved_by_steps w from to low =
    word-same (((w + (65536 - from)) % 65536 + to) % 65536) (w + to + (2 ^ 16 - from % 2 ^ 16)) (omega arith)

-- A chunk of which a part was lent and written over.
module _ (bytes part : List ℕ) (at end : ℕ) (order : at ≤ end) (within : end ≤ length bytes) (size : length part ≡ end - at) where
  pub put_back_part : put bytes 0 (take at bytes ++ (part ++ drop (end - at) (drop at bytes))) ≡ splice bytes at end part
  put_back_part =
      let whole = take at bytes ++ (part ++ drop (end - at) (drop at bytes)) in
      let past : drop (end - at) (drop at bytes) ≡ drop end bytes = drop-drop (end - at) at bytes ∙ ap (λ (k : ℕ). drop k bytes) (omega arith) in
      let count : length whole ≡ length bytes =
      omega (arith, length-append (take at bytes) (part ++ drop (end - at) (drop at bytes)), length-append part (drop (end - at) (drop at bytes)), length-take-le at bytes (omega arith), ap length past, length-drop end bytes) in
      put_is bytes whole 0 (omega arith)
      ∙ (ap (λ (l : List ℕ). whole ++ l) (drop_all (0 + length whole) bytes (omega arith)) ∙ (append-nil whole
      ∙ ap (λ (l : List ℕ). take at bytes ++ (part ++ l)) past))

  -- so of a raw body
  pub put_lent : put bytes at (take (end - at) part) ≡ splice bytes at end part
  put_lent =
      ap (put bytes at) (take_all (end - at) part (omega (arith, size)))
      ∙ (put_is bytes part at (omega (arith, size)) ∙ ap (λ (k : ℕ). take at bytes ++ (part ++ drop k bytes)) (omega (arith, size, order)))
