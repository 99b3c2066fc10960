use Rattle.std.proofs.Common.{◌+◌, ◌-◌, ℕ, List, sym, subst, arith}
use Rattle.lmem_heap.specs.Edits.{IsZeroed}
use Rattle.lmem_heap.proofs.EditLemmas.{sized_is}
use Rattle.lmem_heap.proofs.words.set_size.Goals.{then-n-size, else-n-size}
use Rattle.lmem_heap.proofs.words.set_size.Goals as goal

pub returns : goal.returns
returns c =
    let xs = c.args.region.now in let us = c.if-n-size.region in let ys = c.set_word.new.region in let p = c.args.p in let size = c.args.size in let n = c.args.n in
    elim c.if-n-size.branch [
      | then-n-size w ↦
          sized_is xs us ys p size n (λ l. subst (λ (u : List ℕ). IsZeroed xs u (p + 2 + size) (n - size)) (sym w.region-is) w.zero.ensures) (λ le. absurd (omega (arith, w.if-n-size.true))) c.set_word.ensures
      | else-n-size w ↦ sized_is xs us ys p size n (λ l. absurd (omega (arith, w.if-n-size.false))) (λ le. w.region-is) c.set_word.ensures
    ]
