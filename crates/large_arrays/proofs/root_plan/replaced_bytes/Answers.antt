use Rattle.std.proofs.Common.{◌≡◌, ◌∙◌, ◌≤◌, ℕ, List, length, sym, ap, subst, arith}
use Rattle.std.proofs.lemmas.List.{length-map}
use Rattle.geos_model.specs.Heap.{capacity}
use Rattle.geos_model.specs.declared.handle.VmHandle.{VmHandle}
use Rattle.vm_chains.specs.Numbers.{numbers}
use Rattle.geos_model.specs.LargeLayout.{Root}
use Rattle.geos_model.specs.Pieces.{BranchPiece}
use Rattle.large_arrays.proofs.PlannedRoots.{replaced-short}
use Rattle.large_arrays.proofs.root_plan.replaced_bytes.Goals as goal

pub returns-clause-short : goal.returns-clause-short
returns-clause-short c =
    let r : Root = c.args.root.now in
    let counts : List ℕ = c.deref.result.now in
    let hs : List ℕ = numbers c.args.handles.now in
    let named = length-map c.args.handles.now (λ (h : VmHandle). h.0) in
    let counted = length-map c.args.gathered.now.pieces.pieces (λ (p : BranchPiece). length p) in
    let same : length counts ≡ length hs = ap length (c.deref.ensures.value ∙ c.in_ok-counts.ensures) ∙ counted ∙ sym (c.requires.many) ∙ sym named in
    let many = c.branches.ensures in
    let first = c.args.gathered.now.first in
    let behind = c.saturating_add-behind.result in
    let end = c.saturating_add-behind.ensures in
    let few = c.requires.few in
    let is = c.if-branches.false in
    let within = c.if-branches-behind.false in
    subst (λ (n : ℕ). n ≤ capacity) (sym (ap length c.in_ok-new_root.ensures))
    (replaced-short r first behind counts hs (omega arith) (omega arith) (omega arith) same (omega arith))
