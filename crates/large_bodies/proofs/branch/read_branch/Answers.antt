use Rattle.std.proofs.Common.{◌≡◌, ◌∙◌, ◌-◌, ℕ, List, length, take, drop, refl, sym, ap, arith, length-drop}
use Rattle.std.proofs.lemmas.List.{take_all}
use Rattle.geos_model.specs.Array.{array_of}
use Rattle.chunk_arrays.specs.Parts.{AreByteValues}
use Rattle.large_bodies.proofs.BranchLemmas.{no_zero, no_array, not_plain, branch-found}
use Rattle.large_bodies.proofs.branch.read_branch.Goals as goal

-- all bytes from the third on
rest : (bytes : List ℕ) → take (length bytes - 2) (drop 2 bytes) ≡ drop 2 bytes
rest bytes = (let long = length-drop 2 bytes in take_all (length bytes - 2) (drop 2 bytes) (omega (arith, long)))

pub returns-then-not-begins_with_zero-clause-value : goal.returns-then-not-begins_with_zero-clause-value
returns-then-not-begins_with_zero-clause-value c =
    (refl, no_zero c.args.size c.args.count c.args.bytes.now c.requires (λ zero. let yes = c.begins_with_zero.ensures.1 zero in let no = c.if-not-begins_with_zero.true in absurd (cc)))

pub returns-in-Err-clause-value : goal.returns-in-Err-clause-value
returns-in-Err-clause-value c = (refl, no_array c.args.size c.args.count c.args.bytes.now (ap array_of (sym (c.new.ensures ∙ rest c.args.bytes.now)) ∙ c.in-Err.ensures.1))

pub returns-then-is_plain-clause-value : goal.returns-then-is_plain-clause-value
returns-then-is_plain-clause-value c =
    let bytes : List ℕ = c.args.bytes.now in
    let are : AreByteValues bytes = (λ i. (c.type_inv.bytes i).fits) in
    branch-found c.args.size c.args.count bytes c.in-Ok.view.array are (c.begins_with_zero.ensures.0 c.if-not-begins_with_zero.false)
    (ap array_of (sym (c.new.ensures ∙ rest c.args.bytes.now)) ∙ c.in-Ok.ensures) (c.is_plain.ensures.0 c.if-is_plain.true)

pub returns-else-is_plain-clause-value : goal.returns-else-is_plain-clause-value
returns-else-is_plain-clause-value c = (
  refl,
  not_plain c.args.size c.args.count c.args.bytes.now c.in-Ok.view.array c.requires (ap array_of (sym (c.new.ensures ∙ rest c.args.bytes.now)) ∙ c.in-Ok.ensures)
      (λ plain. let yes = c.is_plain.ensures.1 plain in let no = c.if-is_plain.false in absurd (cc)),
)

pub returns-then-is_plain-clause-plain : goal.returns-then-is_plain-clause-plain
returns-then-is_plain-clause-plain c = c.is_plain.ensures.0 c.if-is_plain.true
