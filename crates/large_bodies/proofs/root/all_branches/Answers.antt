use Rattle.std.proofs.Common.{◌≡◌, ◌∙◌, ◌+◌, ◌*◌, ◌%◌, ℕ, List, sym, ap, ap₂, zero-add, arith}
use Rattle.std.proofs.lemmas.Bool.{eqb-true, eq-eqb}
use Rattle.std.proofs.lemmas.List.FromFn.{sum_by-map-range_with_len_more}
use Rattle.geos_model.specs.Words.{word_at, double_word_at}
use Rattle.large_bodies.specs.RootParts.{branches_in, count_in, branch_link_place}
use Rattle.large_bodies.proofs.RootScans.{zeros_more, least_more}
use Rattle.large_bodies.proofs.root.all_branches.Goals as goal

pub loop-i-preserved : goal.loop-i-preserved
loop-i-preserved c =
    let bytes : List ℕ = c.args.bytes.now in
    let i : ℕ = c.loop-i.i in
    let read : c.from-count.result ≡ count_in bytes i = c.from-count.ensures ∙ c.word.ensures in
    let link : c.double_word.result ≡ double_word_at bytes (branch_link_place bytes i) =
    c.double_word.ensures ∙ ap (λ (n : ℕ). double_word_at bytes (16 + 2 * n + 4 * i)) c.requires.branches in
    let bound = c.loop-i.invariant.bound in
    let same = c.from-count.ensures in
    record {
      total =
          ap₂ (λ (x y : ℕ). x + y) c.loop-i.invariant.total read
          ∙ sym (sum_by-map-range_with_len_more (λ (n : ℕ). n) (λ (j : ℕ). word_at bytes (16 + 2 * j)) 0 i i (zero-add i));
      bound = omega (arith, bound, same);
      counts = least_more (count_in bytes) i c.loop-i.least c.from-count.result c.min-least.result read c.min-least.ensures c.loop-i.invariant.counts;
      zeros = zeros_more bytes (λ k. (c.type_inv.bytes k).fits) (branch_link_place bytes) i c.loop-i.links c.double_word.result link c.loop-i.invariant.zeros;
    }

pub returns-clause-zeros : goal.returns-clause-zeros
returns-clause-zeros c =
    let past = c.loop-i-test.false in
    let upto = c.loop-i.auto.i-end in
    let end : c.loop-i.i ≡ branches_in c.args.bytes.now = (let is : c.loop-i.i ≡ c.args.branches = omega (arith, past, upto) in is ∙ c.requires.branches) in (
      λ none k low. c.loop-i.invariant.zeros.0 (eqb-true (c.loop-i.links % 65536) 0 none) k (omega (arith, low, end)),
      λ zeros. eq-eqb (c.loop-i.links % 65536) 0 (c.loop-i.invariant.zeros.1 (λ k low. zeros k (omega (arith, low, end)))),
    )
