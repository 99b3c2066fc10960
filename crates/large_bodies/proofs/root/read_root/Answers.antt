use Rattle.std.proofs.Common.{◌≡◌, ◌∙◌, ◌+◌, ◌*◌, ℕ, List, refl, sym, ap, map, sum_by}
use Rattle.std.specs.List.{range_with_len}
use Rattle.geos_model.specs.Words.{word_at}
use Rattle.chunk_arrays.specs.Parts.{AreByteValues}
use Rattle.geos_model.specs.LargeLayout.{root_read, total_count}
use Rattle.large_bodies.specs.RootParts.{HasRoot}
use Rattle.large_bodies.proofs.RootLemmas.{root_of-parts, no_root}
use Rattle.large_bodies.proofs.root.read_root.Goals as goal
use Rattle.large_bodies.proofs.root.read_root.Goals.{then-not-has_counts-via-then-not-has_counts, then-not-has_counts-via-else-not-has_counts+then-not-has_zeros}

-- the sum of all counts is the total of the root
total_is : (bytes : List ℕ) (n sum : ℕ) → n ≡ word_at bytes 4 → sum ≡ sum_by (λ c. c) (map (λ i. word_at bytes (16 + 2 * i)) (range_with_len 0 n))
    → sum ≡ total_count (root_read bytes)
total_is bytes n sum all is = is ∙ ap (λ (m : ℕ). sum_by (λ c. c) (map (λ i. word_at bytes (16 + 2 * i)) (range_with_len 0 m))) all

pub returns-then-not-has_head : goal.returns-then-not-has_head
returns-then-not-has_head c =
    let are : AreByteValues c.args.bytes.now = (λ i. (c.type_inv.bytes i).fits) in
    (refl, no_root c.args.bytes.now are c.requires (λ p. let yes = c.has_head.ensures.1 p.head in let no = c.if-not-has_head.true in absurd (cc)))

pub returns-then-stored_total-total : goal.returns-then-stored_total-total
returns-then-stored_total-total c =
    let bytes : List ℕ = c.args.bytes.now in
    let are : AreByteValues bytes = (λ i. (c.type_inv.bytes i).fits) in
    let sum = total_is bytes c.from-branches.result c.all_branches-total.result.total (c.from-branches.ensures ∙ c.word.ensures) c.all_branches-total.ensures.total in
    (refl, no_root bytes are c.requires (λ p. c.if-stored_total-total.true (c.stored_total.ensures ∙ p.total ∙ sym sum)))

pub returns-then-not-has_counts : goal.returns-then-not-has_counts
returns-then-not-has_counts c =
    let bytes : List ℕ = c.args.bytes.now in
    let are : AreByteValues bytes = (λ i. (c.type_inv.bytes i).fits) in (
      refl,
      no_root bytes are c.requires (λ p. elim c.then-not-has_counts.branch [
        | then-not-has_counts-via-then-not-has_counts w ↦ (let yes = c.all_branches-total.ensures.counts.1 p.counts in let no = w.if-not-has_counts.true in absurd (cc))
        | then-not-has_counts-via-else-not-has_counts+then-not-has_zeros w ↦ (let yes = c.all_branches-total.ensures.zeros.1 p.zeros in let no = w.if-not-has_zeros.true in absurd (cc))
      ]),
    )

pub invariant_of-result : goal.invariant_of-result
invariant_of-result c =
    let bytes : List ℕ = c.args.bytes.now in
    let are : AreByteValues bytes = (λ i. (c.type_inv.bytes i).fits) in
    let sum = total_is bytes c.from-branches.result c.all_branches-total.result.total (c.from-branches.ensures ∙ c.word.ensures) c.all_branches-total.ensures.total in
    record {
      parts = record {
        head = c.has_head.ensures.0 c.if-not-has_head.false;
        total = sym c.stored_total.ensures ∙ c.if-stored_total-total.false ∙ sum;
        counts = c.all_branches-total.ensures.counts.0 c.if-not-has_counts.false;
        zeros = c.all_branches-total.ensures.zeros.0 c.if-not-has_zeros.false;
      };
      are_bytes = are;
      short = c.requires;
      branches = c.from-branches.ensures ∙ c.word.ensures;
      size = c.from-size.ensures ∙ c.word-2.ensures;
      total = sum;
    }

pub returns : goal.returns
returns c =
    let bytes : List ℕ = c.args.bytes.now in
    let are : AreByteValues bytes = (λ i. (c.type_inv.bytes i).fits) in
    let sum = total_is bytes c.from-branches.result c.all_branches-total.result.total (c.from-branches.ensures ∙ c.word.ensures) c.all_branches-total.ensures.total in
    let parts : HasRoot bytes = record {
      head = c.has_head.ensures.0 c.if-not-has_head.false;
      total = sym c.stored_total.ensures ∙ c.if-stored_total-total.false ∙ sum;
      counts = c.all_branches-total.ensures.counts.0 c.if-not-has_counts.false;
      zeros = c.all_branches-total.ensures.zeros.0 c.if-not-has_zeros.false;
    } in
    root_of-parts bytes are parts
