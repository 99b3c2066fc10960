use Rattle.std.proofs.Common.{◌≡◌, ◌≤◌, ◌++◌, ◌∷◌, ◌∙◌, ℕ, List, [], sym, ap, subst}
use Rattle.std.proofs.lemmas.Result.{on_ok_weaker}
use Rattle.geos_model.specs.Heap.{capacity}
use Rattle.chunk_edits.specs.Patching.{PatchPiece, ArePiecesOf, patched, peak, total_held}
use Rattle.large_arrays.specs.ChangePlans.{ArePlanned}
use Rattle.large_bodies.specs.Patches.{HoldsLeast}
use Rattle.large_arrays.proofs.changes.plan_body.Goals as goal

pub returns : goal.returns
returns c =
    let h : ℕ = c.args.handle.0 in
    let patch : List PatchPiece = c.new.result in
    let reads_old : ArePiecesOf patch c.args.old.now.bytes.now = rw c.new.ensures c.in_ok-patch.ensures.leads.0 in
    let gives_new : patched patch c.args.old.now.bytes.now ≡ c.args.new.now.bytes.now = rw c.new.ensures c.in_ok-patch.ensures.leads.1 in
    let room : peak patch ≤ capacity = rw c.new.ensures c.in_ok-patch.ensures.room in
    let held : HoldsLeast c.args.old.now c.args.new.now (total_held patch) = rw c.new.ensures c.in_ok-patch.ensures.held in
    record {
      planned = on_ok_weaker c.plan_patch.result
          (λ plans d freed bodies planned untouched raw reads.
          subst (λ (bytes : List ℕ). ArePlanned c.plan_patch.new.changes.items d freed (bodies ++ (h, bytes) ∷ []))
          (ap (patched patch) reads ∙ gives_new)
          (plans d freed bodies planned untouched raw (subst (ArePiecesOf patch) (sym reads) reads_old) room))
          c.plan_patch.ensures.planned;
      listed = on_ok_weaker c.plan_patch.result (λ plans d freed bodies planned untouched live. plans d freed bodies c.args.new.now.bytes.now planned untouched live) c.plan_patch.ensures.listed;
      least = on_ok_weaker c.plan_patch.result
          (λ added. record { more = added.more; joined = added.joined; least = subst (HoldsLeast c.args.old.now c.args.new.now) (sym added.holds) held })
          c.plan_patch.ensures.holds;
      more = c.plan_patch.ensures.more;
    }
