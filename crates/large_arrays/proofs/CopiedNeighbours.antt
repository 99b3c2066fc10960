-- Bodies that are copied in two calls.
use Rattle.std.proofs.Common.{◌≡◌, ◌⊎◌, ℕ, true, List, sym, subst, ◌∙◌, inl, inr}
use Rattle.std.specs.List.{list_all}
use Rattle.vm_store.specs.Facts.{StoreFacts}
use Rattle.geos_model.specs.Document.{Document}
use Rattle.geos_model.specs.declared.fault.Fault.{Fault}
use Rattle.geos_model.specs.declared.fault.Fault.TheVariants.{BadChain}
use Rattle.vm_blocks.specs.State.{CacheState}
use Rattle.vm_blocks.specs.Keeping.{KeepsBlocks, IsHonest, IsEnvironmentFault}
use Rattle.vm_blocks.proofs.KeepingLaws.{keeps-same, keeps-steady, lacks-later}
use Rattle.vm_chains.specs.Walking.{Stops}
use Rattle.large_arrays.specs.Bodies.{AreBodies, are_raw}
use Rattle.large_arrays.proofs.LoadedBlocks.{raw-still}

module _ {S : Type 0} (facts : S → StoreFacts) (a b c : CacheState S) (first : KeepsBlocks facts a b) (second : KeepsBlocks facts b c) where
  -- what was copied before stays
  pub raw-later : (hs : List ℕ) → are_raw b.document hs ≡ true → are_raw c.document hs ≡ true
  raw-later hs raw = (λ i. list_all (λ h. raw-still facts b c second h i) hs) ∙ raw

  pub document-later : IsHonest facts a.disk.store → c.document ≡ b.document
  document-later honest = keeps-same facts b c second (keeps-steady facts a b first honest)

  pub bodies-later : IsHonest facts a.disk.store → (hs : List ℕ) (bodies : List (List ℕ)) → AreBodies b.document hs bodies → AreBodies c.document hs bodies
  bodies-later honest hs bodies are = subst (λ (d : Document). AreBodies d hs bodies) (sym (document-later honest)) are

  -- and refusals of the second call are refusals of both

  pub stops-later : (X Y : Type 0) (fault : Fault) → (X → Y) → Stops (IsEnvironmentFault facts b.disk.store c.disk.store) X fault → Stops (IsEnvironmentFault facts a.disk.store c.disk.store) Y fault
  stops-later X Y fault so (inl lacks) = inl (lacks-later facts a b c.disk.store fault first lacks)
  stops-later X Y fault so (inr bad) = inr (bad.0, so bad.1)

  pub refused-later : (fault : Fault) → IsEnvironmentFault facts b.disk.store c.disk.store fault ⊎ (fault ≡ BadChain) → IsEnvironmentFault facts a.disk.store c.disk.store fault ⊎ (fault ≡ BadChain)
  refused-later fault (inl lacks) = inl (lacks-later facts a b c.disk.store fault first lacks)
  refused-later fault (inr bad) = inr bad
