use Rattle.std.proofs.Common.{◌≡◌, ◌∙◌, ◌≤◌, ℕ, List, true, Option, Some, None, is_some, refl, arith, length}
use Rattle.geos_model.specs.Heap.{capacity}
use Rattle.chunk_arrays.specs.Parts.{AreByteValues}
use Rattle.geos_model.specs.LargeLayout.{Root, root_of}
use Rattle.large_bodies.specs.RootParts.{HasRoot}
use Rattle.large_bodies.proofs.RootLemmas.{has-parts, root_of-parts}
use Rattle.large_bodies.proofs.root.known_root.Goals as goal

-- what is known to be a root has its parts
parts_there : (bytes : List ℕ) → AreByteValues bytes → length bytes ≤ capacity → is_some (root_of bytes) ≡ true → HasRoot bytes
parts_there bytes are short known = by_root (root_of bytes) refl known
  where
    by_root : (o : Option Root) → root_of bytes ≡ o → is_some o ≡ true → HasRoot bytes
    by_root None found some = absurd (cc some)
    by_root (Some q) found some = has-parts bytes are short q found

pub word-requires : goal.word-requires
word-requires c = let has = parts_there c.args.bytes.now (λ i. (c.type_inv.bytes i).fits) c.requires.short c.requires.root in let long = has.head.header in omega (arith, long)

pub word-requires-2 : goal.word-requires-2
word-requires-2 c = let has = parts_there c.args.bytes.now (λ i. (c.type_inv.bytes i).fits) c.requires.short c.requires.root in let long = has.head.header in omega (arith, long)

pub stored_total-requires : goal.stored_total-requires
stored_total-requires c = (parts_there c.args.bytes.now (λ i. (c.type_inv.bytes i).fits) c.requires.short c.requires.root).head.header

pub invariant_of-result : goal.invariant_of-result
invariant_of-result c =
    let are : AreByteValues c.args.bytes.now = (λ i. (c.type_inv.bytes i).fits) in
    let has = parts_there c.args.bytes.now are c.requires.short c.requires.root in
    record {
      parts = has;
      are_bytes = are;
      short = c.requires.short;
      branches = c.from.ensures ∙ c.word.ensures;
      size = c.from-2.ensures ∙ c.word-2.ensures;
      total = c.stored_total.ensures ∙ has.total;
    }

pub returns : goal.returns
returns c =
    let are : AreByteValues c.args.bytes.now = (λ i. (c.type_inv.bytes i).fits) in
    root_of-parts c.args.bytes.now are (parts_there c.args.bytes.now are c.requires.short c.requires.root)
