use Rattle.std.proofs.Common.{◌≡◌, ◌+◌, ◌*◌, ◌<◌, ◌-◌, ◌==◌, ◌&&◌, true, false, ℕ, Bool, sym, ap, ◌∙◌, arith, eq-eqb}
use Rattle.std.proofs.lemmas.Bool.{ne_eqb}
use Rattle.std.specs.List.{list_all, range_with_len}
use Rattle.geos_model.specs.Words.{word_at}
use Rattle.vm_chains.proofs.Ranges.{range_next, range_done}
use Rattle.vm_chains.proofs.links.begin_with_zeros.Goals as goal

-- what is left begins with this branch
next : (p : ℕ → Bool) (i n : ℕ) → i < n → list_all p (range_with_len i (n - i)) ≡ (p i && list_all p (range_with_len (i + 1) (n - (i + 1))))
next p i n within = ap (list_all p) (range_next i n within)

pub loop-i-init : goal.loop-i-init
loop-i-init c = ap (λ (n : ℕ). list_all (λ i. word_at c.args.body.now (c.args.start + 4 * i) == 0) (range_with_len 0 n)) (omega arith)

pub returns-then-word-ne0 : goal.returns-then-word-ne0
returns-then-word-ne0 c =
    let body = c.args.body.now in
    let read : c.word.result ≡ word_at body (c.args.start + 4 * c.loop-i.i) = c.word.ensures ∙ (λ j. word_at body (c.from.ensures j + 4 * c.from-in-loop-i.ensures j)) in
    let other : (word_at body (c.args.start + 4 * c.loop-i.i) == 0) ≡ false = ne_eqb _ 0 (λ e. c.if-word-ne0.true (read ∙ e)) in
    sym (c.loop-i.invariant ∙ next (λ i. word_at body (c.args.start + 4 * i) == 0) c.loop-i.i c.args.count (omega arith) ∙ ap (λ (b : Bool). b && list_all (λ i. word_at body (c.args.start + 4 * i) == 0) (range_with_len (c.loop-i.i + 1) (c.args.count - (c.loop-i.i + 1)))) other)

pub loop-i-preserved : goal.loop-i-preserved
loop-i-preserved c =
    let body = c.args.body.now in
    let read : c.word.result ≡ word_at body (c.args.start + 4 * c.loop-i.i) = c.word.ensures ∙ (λ j. word_at body (c.from.ensures j + 4 * c.from-in-loop-i.ensures j)) in
    let zero_word : (word_at body (c.args.start + 4 * c.loop-i.i) == 0) ≡ true = eq-eqb _ 0 (sym read ∙ c.if-word-ne0.false) in
    c.loop-i.invariant ∙ next (λ i. word_at body (c.args.start + 4 * i) == 0) c.loop-i.i c.args.count (omega arith) ∙ ap (λ (b : Bool). b && list_all (λ i. word_at body (c.args.start + 4 * i) == 0) (range_with_len (c.loop-i.i + 1) (c.args.count - (c.loop-i.i + 1)))) zero_word

pub returns : goal.returns
returns c = sym (c.loop-i.invariant ∙ ap (list_all (λ i. word_at c.args.body.now (c.args.start + 4 * i) == 0)) (range_done c.loop-i.i c.args.count (omega arith)))
