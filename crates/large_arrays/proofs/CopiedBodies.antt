-- Bodies of blocks that are copied one after another.
use Rattle.std.proofs.Common.{◌≡◌, ◌⊎◌, ◌≤◌, ◌<◌, ◌+◌, ◌&&◌, ℕ, Bool, true, false, List, [], ◌∷◌, ◌++◌, Vec, Global, length, get_or, map, refl, sym, ap, ap₂, subst, ◌∙◌, inl, inr, arith, length-append}
use Rattle.std.proofs.lemmas.Bool.{and_from}
use Rattle.std.proofs.lemmas.List.{map-append}
use Rattle.std.proofs.lemmas.List.Elements.{All-append}
use Rattle.std.proofs.lemmas.List.Folds.{list_all-append, list_all_at}
use Rattle.std.specs.List.{All, list_all}
use Rattle.vm_store.specs.Facts.{StoreFacts}
use Rattle.geos_model.specs.Document.{Document, is_raw, raw_bytes_of}
use Rattle.geos_model.specs.Heap.{capacity}
use Rattle.geos_model.specs.declared.fault.Fault.{Fault}
use Rattle.geos_model.specs.declared.fault.Fault.TheVariants.{BadChain}
use Rattle.vm_blocks.specs.State.{CacheState}
use Rattle.vm_blocks.specs.Keeping.{KeepsBlocks, IsHonest, IsEnvironmentFault}
use Rattle.vm_blocks.proofs.KeepingLaws.{keeps-refl, keeps-same, keeps-steady, keeps-trans, lacks-later}
use Rattle.vm_chains.specs.Walking.{Stops}
use Rattle.large_arrays.specs.Bodies.{AreBodies, HasBody, are_raw, bytes_of_bodies}
use Rattle.large_arrays.proofs.LoadedBlocks.{raw-still}

only_one : (P : List ℕ → Type 0) (x : List ℕ) → P x → All P (x ∷ [])
only_one P x has = λ k d low. let first : 0 ≡ k = omega arith in subst (λ (n : ℕ). P (get_or (x ∷ []) n d)) first has

module _ {S : Type 0} (facts : S → StoreFacts) where
  -- The blocks are raw, and the bodies are theirs.
  pub record Copied (a b : CacheState S) (hs : List ℕ) (bodies : List (Vec ℕ Global)) : Type 0 where
    pub keeps : KeepsBlocks facts a b
    pub raw : are_raw b.document hs ≡ true
    pub bytes : IsHonest facts a.disk.store → bytes_of_bodies bodies ≡ map (λ h. raw_bytes_of b.document h) hs
    pub many : length bodies ≡ length hs
    pub short : All (λ body. length body ≤ capacity) (bytes_of_bodies bodies)

  pub copied-none : (a : CacheState S) → Copied a a [] []
  copied-none a = record { keeps = keeps-refl facts a; raw = refl; bytes = λ steady. refl; many = refl; short = λ k d low. absurd (omega arith) }

  pub copied-are : (a b : CacheState S) (hs : List ℕ) (bodies : List (Vec ℕ Global)) → Copied a b hs bodies → IsHonest facts a.disk.store → AreBodies b.document hs (bytes_of_bodies bodies)
  copied-are a b hs bodies was steady = record { raw = was.raw; bytes = was.bytes steady }

  module _ (a b c : CacheState S) (hs : List ℕ) (bodies : List (Vec ℕ Global)) (was : Copied a b hs bodies) (keeps : KeepsBlocks facts b c) where
    all_raw : are_raw c.document hs ≡ true
    all_raw = (λ i. list_all (λ h. raw-still facts b c keeps h i) hs) ∙ was.raw

    pub copied-more : (h : ℕ) (body : Vec ℕ Global) → HasBody c.document h body.items → length body.items ≤ capacity → Copied a c (hs ++ h ∷ []) (bodies ++ body ∷ [])
    copied-more h body has low = record {
      keeps = keeps-trans facts a b c was.keeps keeps;
      raw = list_all-append (λ k. is_raw c.document k) hs (h ∷ []) ∙ and_from (are_raw c.document hs) (is_raw c.document h && true) all_raw (ap (λ (t : Bool). t && true) has.raw);
      bytes = λ steady.
          map-append (λ (v : Vec ℕ Global). v.items) bodies (body ∷ [])
          ∙ ap₂ (λ (xs ys : List (List ℕ)). xs ++ ys) (was.bytes steady ∙ ap (λ (d : Document). map (λ k. raw_bytes_of d k) hs) (sym (keeps-same facts b c keeps (keeps-steady facts a b was.keeps steady)))) (ap (λ (x : List ℕ). x ∷ []) has.bytes)
          ∙ sym (map-append (λ (k : ℕ). raw_bytes_of c.document k) hs (h ∷ []));
      many = length-append bodies (body ∷ []) ∙ ap (λ (n : ℕ). n + 1) was.many ∙ sym (length-append hs (h ∷ []));
      short = subst (All (λ x. length x ≤ capacity)) (sym (map-append (λ (v : Vec ℕ Global). v.items) bodies (body ∷ [])))
          (All-append (λ (x : List ℕ). length x ≤ capacity) (bytes_of_bodies bodies) (body.items ∷ []) was.short (only_one (λ x. length x ≤ capacity) body.items low));
    }

    -- or one isn't copied

    pub uncopied : (all : List ℕ) (fault : Fault) → Stops (IsEnvironmentFault facts b.disk.store c.disk.store) (are_raw c.document all ≡ false) fault
        → Stops (IsEnvironmentFault facts a.disk.store c.disk.store) (are_raw c.document all ≡ false) fault
    uncopied all fault (inl lacks) = inl (lacks-later facts a b c.disk.store fault was.keeps lacks)
    uncopied all fault (inr bad) = inr bad

-- of one of several that isn't raw
pub raw-missing : (lacks : Fault → Type 0) (d : Document) (all : List ℕ) (i : ℕ) (fault : Fault) → i < length all → Stops lacks (is_raw d (get_or all i 0) ≡ false) fault → Stops lacks (are_raw d all ≡ false) fault
raw-missing lacks d all i fault low (inl lack) = inl lack
raw-missing lacks d all i fault low (inr bad) = inr (bad.0, list_all_at (λ h. is_raw d h) all i 0 low bad.1)

-- over any store
pub stops_any : (lacks : Fault → Type 0) (cause : Type 0) (fault : Fault) → Stops lacks cause fault → lacks fault ⊎ (fault ≡ BadChain)
stops_any lacks cause fault (inl lack) = inl lack
stops_any lacks cause fault (inr bad) = inr bad.0
