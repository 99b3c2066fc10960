-- What comes of bringing blocks of a large array into memory.
use Rattle.std.proofs.Common.{◌≡◌, ◌⊎◌, ℕ, Bool, true, false, not, ◌&&◌, [], Option, Some, None, is_some, unwrap_or, Result, Ok, Err, OnOk, IfErr, MatchResult, refl, sym, ap, subst, ◌∙◌, inl, inr}
use Rattle.std.proofs.lemmas.Bool.{true≢false}
use Rattle.std.specs.Option.{option_map_or}
use Rattle.std.specs.FinMap.{get}
use Rattle.std.specs.Result.{is_err}
use Rattle.vm_store.specs.Facts.{StoreFacts}
use Rattle.geos_model.specs.Document.{Block, Document, is_heap, is_heap_body, is_live, is_raw, raw_bytes_of}
use Rattle.geos_model.specs.Refusal.{first_refusal}
use Rattle.geos_model.specs.declared.fault.Fault.{Fault}
use Rattle.geos_model.specs.declared.fault.Fault.TheVariants.{NotArray}
use Rattle.raw_region.specs.Roots.{is_large_root}
use Rattle.vm_blocks.specs.State.{CacheState}
use Rattle.vm_blocks.specs.Keeping.{KeepsBlocks, IsEnvironmentFault, IsCacheFull, is_full, is_loaded}
use Rattle.vm_blocks.specs.Kinds.{IsWrongBlock}
use Rattle.vm_blocks.proofs.KeepingLaws.{keeps-unless_corrupt, open-shut}
use Rattle.vm_chains.specs.Answers.{AnswersChain, RefusesChain}
use Rattle.vm_chains.specs.Walking.{Stops}
use Rattle.geos_model.specs.LargeEdits.{on_root}
use Rattle.geos_model.specs.LargeLayout.{Root, root_of}
use Rattle.large_arrays.specs.Loading.{IsRawLoaded, IsRootLoaded, IsRootRefusal}
use Rattle.large_arrays.proofs.RefusalOrder.{root-accepted, root-none, root_wrong}

-- a block is raw where it is live and no heap
raw_there : (o : Option Block) → option_map_or (λ b. not (is_heap_body b.body)) o false ≡ (is_some o && not (option_map_or (λ b. is_heap_body b.body) o false))
raw_there None = refl
raw_there (Some b) = refl

-- so that what is wrong isn't
pub wrong-not_raw : (d : Document) (h : ℕ) (fault : Fault) → IsWrongBlock is_raw d h fault → is_raw d h ≡ false
wrong-not_raw d h fault (inl dead) = raw_there (get d.blocks h) ∙ ap (λ (live : Bool). live && not (is_heap d h)) dead.1
wrong-not_raw d h fault (inr heap) = heap.2

module _ {S : Type 0} (facts : S → StoreFacts) (a b : CacheState S) (keeps : KeepsBlocks facts a b) (h : ℕ) where
  -- Of which kind a block is stays over any store.

  pub live-still : is_live b.document h ≡ is_live a.document h
  live-still = (keeps-unless_corrupt facts a b keeps).live h

  pub raw-still : is_raw b.document h ≡ is_raw a.document h
  raw-still =
      let kind = (keeps-unless_corrupt facts a b keeps).kinds h in
      raw_there (get b.document.blocks h) ∙ (λ i. live-still i && not (kind i)) ∙ sym (raw_there (get a.document.blocks h))

  pub wrong-before : (fault : Fault) → IsWrongBlock is_raw b.document h fault → IsWrongBlock is_raw a.document h fault
  wrong-before fault (inl dead) = inl (dead.0, sym live-still ∙ dead.1)
  wrong-before fault (inr heap) = inr (heap.0, sym live-still ∙ heap.1, sym raw-still ∙ heap.2)

  -- A raw block isn't brought in, for which there is room.
  module _ (room : is_full a ≡ false) (fault : Fault)
      (err : IsEnvironmentFault facts a.disk.store b.disk.store fault ⊎ (IsWrongBlock is_raw b.document h fault ⊎ IsCacheFull a h fault)) where
    abbrev lacks : Fault → Type 0
    lacks = IsEnvironmentFault facts a.disk.store b.disk.store

    no_room : IsCacheFull a h fault → ⊥
    no_room full = true≢false (sym full.1 ∙ open-shut a h room)

    pub root-missed : RefusesChain lacks (on_root b.document h) fault
    root-missed = elim err as (λ _. RefusesChain lacks (on_root b.document h) fault) [
      | inl lack ↦ inl lack
      | inr other ↦ elim other as (λ _. RefusesChain lacks (on_root b.document h) fault) [
        | inl wrong ↦ inr (root_wrong b.document h fault wrong)
        | inr full ↦ absurd (no_room full)
      ]
    ]

    pub root-refused : IsRootRefusal lacks a.document h fault
    root-refused = elim err as (λ _. IsRootRefusal lacks a.document h fault) [
      | inl lack ↦ inl lack
      | inr other ↦ elim other as (λ _. IsRootRefusal lacks a.document h fault) [
        | inl wrong ↦ inr (inl (wrong-before fault wrong))
        | inr full ↦ absurd (no_room full)
      ]
    ]

    -- one that is raw before
    pub raw-missed : is_raw a.document h ≡ true → lacks fault
    raw-missed raw = elim err as (λ _. lacks fault) [
      | inl lack ↦ lack
      | inr other ↦ elim other as (λ _. lacks fault) [
        | inl wrong ↦ absurd (true≢false (sym raw ∙ sym raw-still ∙ wrong-not_raw b.document h fault wrong))
        | inr full ↦ absurd (no_room full)
      ]
    ]

  pub raw-brought : is_full a ≡ false → (r : Result (Unit {0}) Fault) → OnOk r ((is_loaded b h ≡ true) × (is_raw b.document h ≡ true))
      → IfErr r (λ fault. IsEnvironmentFault facts a.disk.store b.disk.store fault ⊎ (IsWrongBlock is_raw b.document h fault ⊎ IsCacheFull a h fault))
      → is_raw a.document h ≡ true
      → MatchResult r (λ _. IsRawLoaded b h) (Stops (IsEnvironmentFault facts a.disk.store b.disk.store) (is_raw b.document h ≡ false))
  raw-brought room (Ok done) ok err raw = record { loaded = ok.0; raw = ok.1 }
  raw-brought room (Err fault) ok err raw = inl (raw-missed room fault err raw)

-- A root in memory, whose bytes are known to be one.
pub root-loaded : {S : Type 0} (s : CacheState S) (b : ℕ) → IsRawLoaded s b → is_large_root (raw_bytes_of s.document b) ≡ true
    → (first_refusal (on_root s.document b) ≡ None) × IsRootLoaded s b
root-loaded s b there known =
    (root-accepted s.document b there.raw known, record { loaded = there.loaded; raw = there.raw; root = found (root_of (raw_bytes_of s.document b)) known })
  where
    found : (o : Option Root) → is_some o ≡ true → o ≡ Some (unwrap_or o (record { size = 0; counts = []; branches = [] }))
    found None some = absurd (cc some)
    found (Some r) some = refl

-- one that was tested there
pub root-tested : {S : Type 0} (lacks : Fault → Type 0) (s after : CacheState S) (b : ℕ) (r : Result (Unit {0}) Fault) → IsRawLoaded s b → after ≡ s
    → MatchResult r (λ _. is_large_root (raw_bytes_of s.document b) ≡ true) (λ fault. (fault ≡ NotArray) × (root_of (raw_bytes_of s.document b) ≡ None))
    → AnswersChain lacks (on_root after.document b) (λ _. IsRootLoaded after b) r
root-tested {S} lacks s after b r there same tested = subst (λ (x : CacheState S). AnswersChain lacks (on_root x.document b) (λ _. IsRootLoaded x b) r) (sym same) (by_result r tested)
  where
    by_result : (o : Result (Unit {0}) Fault)
        → MatchResult o (λ _. is_large_root (raw_bytes_of s.document b) ≡ true) (λ fault. (fault ≡ NotArray) × (root_of (raw_bytes_of s.document b) ≡ None))
        → AnswersChain lacks (on_root s.document b) (λ _. IsRootLoaded s b) o
    by_result (Ok done) known = root-loaded s b there known
    by_result (Err fault) none = inr (root-none s.document b fault there.raw none)

-- what is known of a call that was tested to be refused, or not to be

pub was_refused : {A : Type 0} (r : Result A Fault) (P : A → Type 0) (Q : Fault → Type 0) (X : Type 0) → MatchResult r P Q → is_err r ≡ true → ((fault : Fault) → Q fault → X) → X
was_refused (Ok x) P Q X is refused turn = absurd (cc refused)
was_refused (Err fault) P Q X is refused turn = turn fault is

pub was_accepted : {A : Type 0} (r : Result A Fault) (P : A → Type 0) (Q : Fault → Type 0) (X : Type 0) → MatchResult r P Q → is_err r ≡ false → ((x : A) → P x → X) → X
was_accepted (Ok x) P Q X is accepted turn = turn x is
was_accepted (Err fault) P Q X is accepted turn = absurd (cc accepted)
