use Rattle.std.proofs.Common.{◌≡◌, ◌<◌, ◌+◌, ◌++◌, drop, take, ℕ, List, ap, ◌∙◌, arith}
use Rattle.std.specs.Int.{w16, from_le_bytes}
use Rattle.lmem_heap.specs.Pieces.{word_in}
use Rattle.lmem_heap.proofs.RaisingLemmas.{pair_read, pair_written, word_moved}
use Rattle.lmem_heap.proofs.compaction.raising.raise_word.Goals as goal
use Rattle.lmem_heap.proofs.compaction.raising.raise_word.Goals.{then-e-from, else-e-from}

pub returns-after-e-from-clause-raised : goal.returns-after-e-from-clause-raised
returns-after-e-from-clause-raised c =
    let e = c.from_le_bytes-e.result in let v = word_in c.args.word.now 0 in let to = c.args.from + c.args.span + 1 in
    let first : c.in-Some.pair.now ≡ take 2 c.args.word.now = c.in-Some.ensures.cases.same in
    let read : e ≡ v = pair_read c.args.word.now e c.requires.pair (c.from_le_bytes-e.ensures ∙ ap (from_le_bytes w16) first) in
    let low : e < 65536 = c.from_le_bytes-e.type_inv in let fits = c.requires.fits in
    let small : c.if-e-from.moved < 65536 = elim c.if-e-from.branch [
      | then-e-from w ↦ omega (arith, w.moved-is, w.if-e-from.true, fits, low)
      | else-e-from w ↦ omega (arith, w.moved-is, low)
    ] in
    let rest = drop 2 c.args.word.now in
    let written : word_in (c.to_le_bytes.result ++ rest) 0 ≡ c.if-e-from.moved = ap (λ (b : List ℕ). word_in (b ++ rest) 0) c.to_le_bytes.ensures ∙ pair_written c.if-e-from.moved rest small in
    elim c.if-e-from.branch [
      | then-e-from w ↦ word_moved v _ c.args.from to c.args.by c.if-e-from.moved written
          (λ l. absurd (omega (arith, read, low, fits, l, w.if-e-from.true))) (λ l m. omega (arith, read, w.moved-is)) (λ l. absurd (omega (arith, read, low, fits, l, w.if-e-from.true)))
      | else-e-from w ↦ word_moved v _ c.args.from to c.args.by c.if-e-from.moved written
          (λ l. omega (arith, read, w.moved-is))
          (λ l m. absurd (omega (arith, read, low, fits, l, m, w.if-e-from.false)))
          (λ l. omega (arith, read, w.moved-is))
    ]
