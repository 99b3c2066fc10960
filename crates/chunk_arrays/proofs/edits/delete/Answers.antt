use Rattle.std.proofs.Common.{◌+◌, [], List, ℕ, inl, refl, arith}
use Rattle.geos_model.specs.Array.{Array}
use Rattle.geos_model.specs.ArrayEdits.{elements_deleted, delete_conditions}
use Rattle.geos_model.proofs.Arrays.{array_bytes-of}
use Rattle.geos_model.proofs.ArrayEdits.{even_with_none}
use Rattle.chunk_arrays.specs.Even.{AreElements}
use Rattle.chunk_arrays.proofs.ReplacingLemmas.{delete_decides, elements_handed_on}
use Rattle.chunk_arrays.proofs.edits.delete.Goals as goal

pub rewrite-requires-clause-even : goal.rewrite-requires-clause-even
rewrite-requires-clause-even c =
    even_with_none c.in_ok-view.view.array c.in_ok-view.view.array.extra c.args.i (c.args.i + c.args.k) (array_bytes-of c.args.bytes.now c.in_ok-view.view.array c.in_ok-view.ensures).0

pub returns : goal.returns
returns c =
    let a : Array = c.in_ok-view.view.array in
    let bytes : List ℕ = c.args.bytes.now in
    let i : ℕ = c.args.i in
    let k : ℕ = c.args.k in
    elements_handed_on bytes a i (i + k) [] [] (delete_conditions bytes i k) c.in_ok-view.ensures refl
    c.rewrite.result 0 (delete_decides bytes a i k (elements_deleted bytes i k) c.in_ok-view.ensures (omega arith)) c.rewrite.ensures

pub returns-then-is_even : goal.returns-then-is_even
returns-then-is_even c =
    let a : Array = c.in_ok-view.view.array in
    let bytes : List ℕ = c.args.bytes.now in
    let i : ℕ = c.args.i in
    let k : ℕ = c.args.k in
    let are : AreElements a i (i + k) [] 0 [] = record {
      joined = refl;
      many = refl;
      even = even_with_none a a.extra i (i + k) (array_bytes-of bytes a c.in_ok-view.ensures).0;
      few = inl refl;
    } in
    elements_handed_on bytes a i (i + k) [] [] (delete_conditions bytes i k) c.in_ok-view.ensures refl
    c.splice_even.result 0 (delete_decides bytes a i k (elements_deleted bytes i k) c.in_ok-view.ensures (omega arith)) (c.splice_even.ensures [] are)
