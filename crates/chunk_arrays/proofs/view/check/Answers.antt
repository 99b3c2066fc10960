use Rattle.std.proofs.Common.{◌≡◌, ◌∙◌, sym, refl, ap, subst, arith, rules, ℕ, List, None}
use Rattle.geos_model.specs.Array.{array_of}
use Rattle.chunk_arrays.specs.Parts.{AreByteValues, HasElements, HasParts}
use Rattle.chunk_arrays.proofs.PartsLemmas.{not_array, no_elements, parts_found, array_of-parts, even-read, few-read, are_bytes-read}
use Rattle.chunk_arrays.proofs.view.check.Goals as goal
use Rattle.chunk_arrays.proofs.view.check.Goals.{then-third-ne0-via-then-third-ne0, then-third-ne0-via-else-third-ne0+then-start-lt8, then-third-ne0-via-else-third-ne0+else-start-lt8+then-plain-start}

-- what holds of the bytes holds of those that are lent
none_of : (plain bytes : List ℕ) → plain ≡ bytes → array_of plain ≡ None → array_of bytes ≡ None
none_of plain bytes same = subst (λ (l : List ℕ). array_of l ≡ None) same

filled_of : (plain bytes : List ℕ) (count size start : ℕ) → plain ≡ bytes → HasElements bytes count size start → HasElements plain count size start
filled_of plain bytes count size start same = subst (λ (l : List ℕ). HasElements l count size start) (sym same)

filled_back : (plain bytes : List ℕ) (count size start : ℕ) → plain ≡ bytes → HasElements plain count size start → HasElements bytes count size start
filled_back plain bytes count size start same = subst (λ (l : List ℕ). HasElements l count size start) same

pub returns-then-plain-lt8 : goal.returns-then-plain-lt8
returns-then-plain-lt8 c =
    let plain : List ℕ = c.bytes-plain.result.now in
    let are : AreByteValues plain = search rules in
    (refl, none_of plain c.args.bytes.now c.bytes-plain.ensures (not_array plain are (λ p. let header = p.header in absurd (omega arith))))

pub returns-then-third-ne0 : goal.returns-then-third-ne0
returns-then-third-ne0 c =
    let plain : List ℕ = c.bytes-plain.result.now in
    let are : AreByteValues plain = search rules in (
      refl,
      none_of plain c.args.bytes.now c.bytes-plain.ensures (not_array plain are (λ p. elim c.then-third-ne0.branch [
        | then-third-ne0-via-then-third-ne0 w ↦ (let third = p.third in absurd (omega arith))
        | then-third-ne0-via-else-third-ne0+then-start-lt8 w ↦ (let low = p.low in absurd (omega arith))
        | then-third-ne0-via-else-third-ne0+else-start-lt8+then-plain-start w ↦ (let high = p.high in absurd (omega arith))
      ])),
    )

pub returns-then-not-are_filled : goal.returns-then-not-are_filled
returns-then-not-are_filled c =
    let plain : List ℕ = c.bytes-plain.result.now in
    let same = c.bytes-plain.ensures in
    let are : AreByteValues plain = search rules in (
      refl,
      none_of plain c.args.bytes.now same (no_elements plain are _ _ _ c.word-count.ensures.value c.word-size.ensures.value c.word-start.ensures.value
          (λ has. let yes = c.are_filled.ensures.1 (filled_back plain c.args.bytes.now _ _ _ same has) in let no = c.if-not-are_filled.true in cc)),
    )

pub invariant_of-result : goal.invariant_of-result
invariant_of-result c =
    let plain : List ℕ = c.bytes-plain.result.now in
    let are : AreByteValues plain = search rules in
    let parts : HasParts plain = parts_found plain are _ _ _ c.word-count.ensures.value c.word-size.ensures.value c.word-start.ensures.value
    c.if-plain-lt8.false (sym c.word-third.ensures.value ∙ c.if-third-ne0.false) c.if-start-lt8.false c.if-plain-start.false
    (filled_of plain c.args.bytes.now _ _ _ c.bytes-plain.ensures (c.are_filled.ensures.0 c.if-not-are_filled.false)) in
    (even-read plain parts, (few-read plain parts, (are_bytes-read plain parts, tt)))

pub returns : goal.returns
returns c =
    let plain : List ℕ = c.bytes-plain.result.now in
    let are : AreByteValues plain = search rules in
    let parts : HasParts plain = parts_found plain are _ _ _ c.word-count.ensures.value c.word-size.ensures.value c.word-start.ensures.value
    c.if-plain-lt8.false (sym c.word-third.ensures.value ∙ c.if-third-ne0.false) c.if-start-lt8.false c.if-plain-start.false
    (filled_of plain c.args.bytes.now _ _ _ c.bytes-plain.ensures (c.are_filled.ensures.0 c.if-not-are_filled.false)) in
    ap array_of (sym c.bytes-plain.ensures) ∙ array_of-parts plain parts
