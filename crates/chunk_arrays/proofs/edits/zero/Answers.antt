use Rattle.std.proofs.Common.{◌≡◌, ◌∙◌, List, ℕ, length, MatchResult, sym, ap, subst}
use Rattle.geos_model.specs.Array.{Array, array_bytes}
use Rattle.geos_model.specs.ArrayEdits.{array_in, array_zeroed, on_array}
use Rattle.geos_model.proofs.Arrays.{array_bytes-of}
use Rattle.geos_model.proofs.ArrayEdits.{even_with_none}
use Rattle.chunk_arrays.specs.Replacing.{ReplacesAt, RefusesToReplace}
use Rattle.chunk_arrays.proofs.ReplacingLemmas.{array_in-is, zero_decides, handed_on, made-zeroed}
use Rattle.chunk_arrays.proofs.edits.zero.Goals as goal

pub rewrite-requires-clause-even : goal.rewrite-requires-clause-even
rewrite-requires-clause-even c =
    even_with_none c.in_ok-view.view.array c.in_ok-view.view.array.extra 0 c.count.result (array_bytes-of c.args.bytes.now c.in_ok-view.view.array c.in_ok-view.ensures).0

pub returns : goal.returns
returns c =
    let a : Array = c.in_ok-view.view.array in
    let bytes : List ℕ = c.args.bytes.now in
    let new : List ℕ = array_zeroed bytes in
    let all : c.count.result ≡ length (array_in bytes).elements = c.count.ensures ∙ sym (ap (λ (b : Array). length b.elements) (array_in-is bytes a c.in_ok-view.ensures)) in
    subst (λ (n : ℕ). MatchResult c.rewrite.result (ReplacesAt (on_array bytes) bytes new 0 n 0) (RefusesToReplace (on_array bytes) new)) all
    (handed_on (on_array bytes) bytes (array_bytes a) new _ 0 c.count.result 0
    (zero_decides bytes a new c.in_ok-view.ensures)
    (array_bytes-of bytes a c.in_ok-view.ensures).1
    (made-zeroed bytes a c.count.result c.in_ok-view.ensures c.count.ensures)
    c.rewrite.result c.rewrite.ensures)
