use Rattle.std.proofs.Common.{◌≡◌, ◌∙◌, Some, inr, refl, ap, subst, arith, List, ℕ, length, take, ◌+◌, ◌∷◌, []}
use Rattle.geos_model.specs.Array.{Array, array_bytes}
use Rattle.geos_model.specs.ArrayEdits.{with_elements}
use Rattle.chunk_edits.specs.Patching.{PatchLeads}
use Rattle.chunk_arrays.specs.Rewriting.{bytes_of}
use Rattle.chunk_arrays.proofs.AlikeLemmas.{alike-level, length_new}
use Rattle.chunk_arrays.proofs.ReplacingLemmas.{accepted-short, refused-long}
use Rattle.chunk_arrays.proofs.rewriting.patch_alike.Goals as goal

pub returns-then-bytes-gt-LONGEST_CHUNK : goal.returns-then-bytes-gt-LONGEST_CHUNK
returns-then-bytes-gt-LONGEST_CHUNK c =
    let level = alike-level c.args.view.now.array c.args.at (bytes_of c.args.element) c.requires.within c.requires.alike in
    let long = ap length c.bytes.ensures in
    inr (refused-long _ (omega (arith, level, long, c.if-bytes-gt-LONGEST_CHUNK.true)))

pub returns : goal.returns
returns c =
    let a : Array = c.args.view.now.array in
    let e : List ℕ = bytes_of c.args.element in
    let level = alike-level a c.args.at e c.requires.within c.requires.alike in
    let long = ap length c.bytes.ensures in
    let len : c.new_len-len.result ≡ length e = length_new (Some c.args.element) c.args.element c.new_len-len.result refl c.requires.few c.new_len-len.ensures in
    let is = ap (λ (n : ℕ). take n c.joined_few-bytes.result) len ∙ c.joined_few-bytes.ensures in
    record {
      accepted = accepted-short _ (omega (arith, level, long, c.if-bytes-gt-LONGEST_CHUNK.false));
      leads = subst (λ (l : List ℕ). PatchLeads c.in_ok-patch.patch (array_bytes a) (array_bytes (with_elements a c.args.at (c.args.at + 1) (l ∷ [])))) is c.in_ok-patch.ensures;
    }
