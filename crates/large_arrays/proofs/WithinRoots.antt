-- The patch of a root of which one branch gets other elements.
use Rattle.std.proofs.Common.{◌≡◌, ℕ, ◌<◌, length, sym, ap, ◌∙◌, arith}
use Rattle.geos_model.specs.LargeLayout.{Root, root_bytes}
use Rattle.chunk_edits.specs.Patching.{PatchLeads}
use Rattle.large_bodies.specs.RootCounts.{counts_pieces}
use Rattle.large_bodies.specs.declared.counts.Counts.{Counts}
use Rattle.large_bodies.proofs.CountedRoots.{counts-lead}
use Rattle.large_arrays.specs.Spots.{IsSpot}
use Rattle.large_arrays.specs.Within.{count_within, place_within, root_within}
use Rattle.large_arrays.specs.WithinPlans.{IsBranchEdit}
use Rattle.large_arrays.specs.declared.spot.Spot.{Spot}
use Rattle.large_arrays.specs.declared.within.BranchEdit.{BranchEdit}

-- by a spot and the edit
pub root-within : (s : Spot) (e : BranchEdit) (old new : Counts) → s.start.0 < s.branches → old ≡ record { total = s.total; count = e.link.count } → new ≡ record { total = e.total; count = e.count }
    → (r : Root) (i j many : ℕ) → IsSpot r i j s → length r.counts ≡ length r.branches → IsBranchEdit r i j many e
    → PatchLeads (counts_pieces s.branches s.start.0 old new) (root_bytes r) (root_bytes (root_within r i j many))
root-within s e old new low old_is new_is r i j many spot same edit =
    let at : s.start.0 ≡ place_within r i j = ap (λ (p : ℕ × ℕ). p.0) spot.start in
    let branches = spot.branches in
    counts-lead r (place_within r i j) (omega arith) (count_within r i j many) s.branches s.start.0 old new (branches ∙ sym same) branches at
    (ap (λ (c : Counts). c.total) old_is ∙ spot.total) (ap (λ (c : Counts). c.count) old_is ∙ edit.old)
    (ap (λ (c : Counts). c.total) new_is ∙ edit.total) (ap (λ (c : Counts). c.count) new_is ∙ edit.count)
