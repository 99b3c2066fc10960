use Rattle.std.proofs.Common.{ℕ, List, subst, rules}
use Rattle.chunk_arrays.specs.Parts.{AreByteValues, HasParts}
use Rattle.chunk_arrays.proofs.PartsLemmas.{known_parts}
use Rattle.chunk_arrays.proofs.CutLemmas.{word_at-lt}
use Rattle.chunk_arrays.proofs.view.are_filled.Goals as goal

pub has_elements-requires-clause-words : goal.has_elements-requires-clause-words
has_elements-requires-clause-words c =
    let are : AreByteValues c.bytes-plain.result.now = (λ i. (c.type_inv.plain i).fits) in
    let bytes : List ℕ = c.bytes-plain.result.now in
    rw (c.requires.count, c.requires.size, c.requires.start, ← c.bytes-plain.ensures) (word_at-lt bytes are 0, word_at-lt bytes are 2, word_at-lt bytes are 6)

pub returns-then-is_known : goal.returns-then-is_known
returns-then-is_known c =
    let are : AreByteValues c.bytes-plain.result.now = search rules in
    let are_own : AreByteValues c.args.bytes.now = subst AreByteValues c.bytes-plain.ensures are in
    let parts : HasParts c.args.bytes.now = known_parts c.args.bytes.now are_own (c.is_known.ensures c.if-is_known.true) in
    (λ yes. rw (c.requires.count, c.requires.size, c.requires.start) parts.elements, λ has. c.if-is_known.true)
