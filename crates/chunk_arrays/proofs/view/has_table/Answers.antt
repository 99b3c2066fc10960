-- The last place is the greatest.
use Rattle.std.proofs.Common.{◌≡◌, ◌≤◌, ◌<◌, ◌+◌, ◌-◌, ◌*◌, ◌∙◌, ℕ, List, sym, ap, subst, length, arith, leb-true, le-leb}
use Rattle.geos_model.specs.Words.{word_at}
use Rattle.chunk_arrays.specs.Parts.{place_at}
use Rattle.chunk_arrays.proofs.PartsLemmas.{rising_le}
use Rattle.chunk_arrays.proofs.view.has_table.Goals as goal

pub returns : goal.returns
returns c =
    let bytes : List ℕ = c.args.bytes.now in
    let g : ℕ → ℕ = place_at bytes c.args.start in
    let n : ℕ = c.args.count in
    let some = c.if-count-eq0.false in
    let least : 1 ≤ n = omega (arith, some) in
    let end : c.loop-i.i ≡ n = (let low = c.loop-i-test.false in let high = c.loop-i.auto.i-end least in omega (arith, low, high)) in
    let last : c.loop-i.last ≡ g (n - 1) = c.loop-i.invariant.last ∙ ap (λ (k : ℕ). g (k - 1)) end in
    let rising : (k : ℕ) → k + 1 < n → g k ≤ g (k + 1) = λ k l. c.loop-i.invariant.rising k (omega (arith, end, l)) in
    let here : c.args.start + 2 * 0 ≡ c.args.start = omega arith in (
      λ fits. record {
        room = c.if-len-end.false;
        none = λ none. absurd (omega (arith, none, least));
        first = λ _. ap (word_at bytes) here ∙ sym c.word-last.ensures.value ∙ c.if-last-end.false;
        rising = rising;
        within = λ i l.
            let there : i + (n - 1 - i) ≡ n - 1 = omega (arith, l) in
            let up = subst (λ (k : ℕ). g i ≤ g k) there (rising_le g n i (n - 1 - i) rising (omega (arith, there, least))) in
            let most = leb-true c.loop-i.last (length bytes) fits in
            omega (arith, up, most, last);
      },
      λ table.
          let most = table.within (n - 1) (omega (arith, least)) in
          le-leb c.loop-i.last (length bytes) (omega (arith, most, last)),
    )
