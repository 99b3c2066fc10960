-- A root that is loaded again, and what refuses its plan.
use Rattle.std.proofs.Common.{◌≡◌, ◌≢◌, ◌⊎◌, ℕ, ◌+◌, ◌-◌, ◌<◌, ◌≤◌, true, is_some, List, length, Option, Some, None, sym, ap, subst, ◌∙◌, inl, inr, arith}
use Rattle.vm_store.specs.Facts.{StoreFacts}
use Rattle.geos_model.specs.Document.{Document, is_raw, raw_bytes_of}
use Rattle.geos_model.specs.Heap.{capacity}
use Rattle.geos_model.specs.declared.fault.Fault.{Fault}
use Rattle.geos_model.specs.declared.fault.Fault.TheVariants.{Damaged, File, Memory}
use Rattle.vm_blocks.specs.State.{CacheState}
use Rattle.vm_blocks.specs.Keeping.{KeepsBlocks, IsHonest, IsEnvironmentFault}
use Rattle.vm_blocks.proofs.KeepingLaws.{lacks-cases, lacks-damaged, lacks-memory, steady-honest}
use Rattle.vm_chains.specs.Answers.{RefusesChain}
use Rattle.vm_chains.proofs.Loading.{still}
use Rattle.geos_model.specs.LargeLayout.{Root, most_branches, root_bytes, root_of}
use Rattle.geos_model.specs.LargeBlocks.{root_at}
use Rattle.geos_model.specs.LargeEdits.{on_root}
use Rattle.large_bodies.specs.RootEdits.{with_branches}
use Rattle.large_arrays.specs.WindowPlans.{HasGatheredRoot}
use Rattle.large_arrays.specs.declared.gathered.Gathered.{Gathered}
use Rattle.large_bodies.specs.SizedElements.{SizedElements, IsPiece}
use Rattle.geos_model.proofs.BranchBytes.{branch-few}
use Rattle.large_arrays.proofs.RefusalOrder.{root-accepted}
use Rattle.geos_model.proofs.RootBytes.{length-root_bytes}
use Rattle.large_bodies.proofs.RootRuns.{length_spliced}

-- how many elements a piece has is a word
pub piece-word : (p : SizedElements) → IsPiece p → length p.elements < 65536
piece-word p is = let few = branch-few p.size p.elements (record { small = is.small; room = is.room; sized = is.sized }) in omega arith

-- how long a root's bytes are after an edit
pub replaced-short : (r : Root) (first behind : ℕ) (counts hs : List ℕ) → length r.counts ≡ length r.branches → first ≤ behind → behind ≤ length r.branches
    → length counts ≡ length hs → length r.branches - (behind - first) + length hs ≤ most_branches → length (root_bytes (with_branches r first behind counts hs)) ≤ capacity
replaced-short r first behind counts hs same order within many few =
    let left = length_spliced r.branches hs first behind order within in
    let right = length_spliced r.counts counts first behind order (omega arith) in
    let long = length-root_bytes (with_branches r first behind counts hs) (omega arith) in
    omega arith

module _ {S : Type 0} (facts : S → StoreFacts) (a m : CacheState S) (keeps : KeepsBlocks facts a m) (b : ℕ) where
  -- What else refuses a root that was there comes of a store that isn't honest.
  pub damaged-again : (fault : Fault)
      → (IsHonest facts a.disk.store → (is_raw a.document b ≡ true) × (is_some (root_of (raw_bytes_of a.document b)) ≡ true))
      → RefusesChain (IsEnvironmentFault facts a.disk.store m.disk.store) (on_root m.document b) fault → fault ≢ Memory → fault ≢ File
      → IsEnvironmentFault facts a.disk.store m.disk.store Damaged
  damaged-again fault was refused other another = lacks-damaged facts a.disk.store m.disk.store (λ honest. unless honest refused)
    where
      unless : IsHonest facts a.disk.store → RefusesChain (IsEnvironmentFault facts a.disk.store m.disk.store) (on_root m.document b) fault → ⊥
      unless honest (inl lacks) = elim (lacks-cases facts a.disk.store m.disk.store fault lacks) [
        | inl memory ↦ other memory
        | inr more ↦ elim more [
          | inl failed ↦ another failed.0
          | inr damage ↦ damage.1 (steady-honest facts a.disk.store honest)
        ]
      ]
      unless honest (inr first) =
          let there = still facts a m keeps (λ (d : Document). (is_raw d b ≡ true) × (is_some (root_of (raw_bytes_of d b)) ≡ true)) was honest in
          let none = root-accepted m.document b there.0 there.1 in
          let never : ◌≡◌ {A = Option Fault} None (Some fault) = sym none ∙ first in
          cc never

  module _ (branches : ℕ) (g : Gathered) (was : IsHonest facts a.disk.store → HasGatheredRoot a.document b branches g) where
    -- So does one that hasn't the branches that were gathered.
    pub root-lacks : (r : Root) → r ≡ root_at m.document b → (fault : Fault)
        → (fault ≡ Memory) ⊎ ((fault ≡ Damaged) × (length r.branches ≡ branches → g.first + length g.olds.items ≤ branches → ⊥))
        → IsEnvironmentFault facts a.disk.store m.disk.store fault
    root-lacks r view fault (inl memory) =
        subst (IsEnvironmentFault facts a.disk.store m.disk.store) (sym memory) (lacks-memory facts a.disk.store m.disk.store)
    root-lacks r view fault (inr bad) =
        subst (IsEnvironmentFault facts a.disk.store m.disk.store) (sym bad.0) (lacks-damaged facts a.disk.store m.disk.store (λ honest.
        let has : HasGatheredRoot m.document b branches g = still facts a m keeps (λ (d : Document). HasGatheredRoot d b branches g) was honest in
        bad.1 (ap (λ (q : Root). length q.branches) view ∙ has.many) has.within))

pub was-root : {S : Type 0} (facts : S → StoreFacts) (a : CacheState S) (b branches : ℕ) (g : Gathered) → (IsHonest facts a.disk.store → HasGatheredRoot a.document b branches g)
    → IsHonest facts a.disk.store → (is_raw a.document b ≡ true) × (is_some (root_of (raw_bytes_of a.document b)) ≡ true)
was-root facts a b branches g was honest = let has = was honest in (has.raw, has.found)
