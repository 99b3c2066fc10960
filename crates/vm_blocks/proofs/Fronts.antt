-- What is known of a block without its bytes.
use Rattle.std.proofs.Common.{◌≡◌, ◌⊎◌, Result, Ok, Err, IfErr, IsErrAnd, subst, ℕ, ◌+◌, Bool, true, false, not, ◌&&◌, List, [], length, Option, None, Some, is_some, unwrap_or, refl, sym, ap, ◌∙◌, inl, inr, arith}
use Rattle.std.proofs.lemmas.Bool.{cases_Bool, true≢false, not-true}
use Rattle.std.specs.Option.{option_map, option_map_or}
use Rattle.std.specs.FinMap.{get}
use Rattle.geos_model.specs.Document.{Block, Document, block_at, bytes_of_body, is_heap, is_heap_body, is_live, is_raw, no_block, raw_bytes_of}
use Rattle.vm_store.specs.Facts.{StoreFacts, FailedSince}
use Rattle.geos_model.specs.Image.{image}
use Rattle.geos_model.specs.declared.fault.Fault.{Fault}
use Rattle.geos_model.specs.declared.fault.Fault.TheVariants.{Memory, File}
use Rattle.document_file.specs.Effects.{Fails, IsDamage}
use Rattle.geos_model.specs.declared.command.Body.{Body}
use Rattle.geos_model.specs.declared.command.Body.TheVariants.{Raw, Heap}
use Rattle.vm_blocks.specs.Frames.{frame_of, overlay, residents}
use Rattle.vm_blocks.specs.Keeping.{IsEnvironmentFault, is_loaded}
use Rattle.vm_blocks.specs.State.{CacheState, is_resident}
use Rattle.vm_blocks.specs.declared.frame.Frame.{Frame}
use Rattle.vm_blocks.proofs.DocumentUnderFrames.{cover, get-overlay}
use Rattle.vm_blocks.proofs.KeepingLaws.{lacks-memory, loaded-by}
use Rattle.vm_blocks.proofs.OrderOfUse.{none_held, resident_is}

pub and-false : (b : Bool) → (b && false) ≡ false
and-false true = refl
and-false false = refl

pub and-true : (b : Bool) → (b && true) ≡ b
and-true true = refl
and-true false = refl

-- Of a block by its kind.

live_by : (o : Option Block) → option_map_or (λ b. not (is_heap_body b.body)) o false ≡ true → is_some o ≡ true
live_by None raw = absurd (cc raw)
live_by (Some b) raw = refl

kind_by : (o : Option Block) → option_map_or (λ b. not (is_heap_body b.body)) o false ≡ true → option_map_or (λ b. is_heap_body b.body) o false ≡ false
kind_by None raw = absurd (cc raw)
kind_by (Some b) raw = not-true (is_heap_body b.body) raw

pub raw-live : (d : Document) (h : ℕ) → is_raw d h ≡ true → is_live d h ≡ true
raw-live d h raw = live_by (get d.blocks h) raw

pub raw-kind : (d : Document) (h : ℕ) → is_raw d h ≡ true → is_heap d h ≡ false
raw-kind d h raw = kind_by (get d.blocks h) raw

-- the bytes of a block by its body
pub bytes-read : (d : Document) (h : ℕ) (body : Body) → option_map (λ b. b.body) (get d.blocks h) ≡ Some body → raw_bytes_of d h ≡ bytes_of_body body
bytes-read d h body there = by (get d.blocks h) there
  where
    by : (o : Option Block) → option_map (λ (b : Block). b.body) o ≡ Some body → option_map_or (λ (b : Block). bytes_of_body b.body) o [] ≡ bytes_of_body body
    by None is = absurd (cc is)
    by (Some b) is = let same : b.body ≡ body = cc is in ap bytes_of_body same

-- a heap has none
pub heap-bytes : (d : Document) (h : ℕ) → is_heap d h ≡ true → raw_bytes_of d h ≡ []
heap-bytes d h heap = by (get d.blocks h) heap
  where
    body_by : (body : Body) → is_heap_body body ≡ true → bytes_of_body body ≡ []
    body_by (Raw bytes) is = absurd (cc is)
    body_by (Heap m) is = refl

    by : (o : Option Block) → option_map_or (λ (b : Block). is_heap_body b.body) o false ≡ true → option_map_or (λ (b : Block). bytes_of_body b.body) o [] ≡ []
    by None is = absurd (cc is)
    by (Some b) is = body_by b.body is

-- the image of a raw block has one byte more
raw_size : (body : Body) → is_heap_body body ≡ false → length (bytes_of_body body) + 1 ≡ length (image body)
unfolding image
raw_size (Raw bytes) is = omega arith
raw_size (Heap m) is = absurd (cc is)

pub image-bytes : (d : Document) (h : ℕ) (n : ℕ) → is_heap d h ≡ false → length (image (block_at d h).body) ≡ n → length (raw_bytes_of d h) + 1 ≡ n
image-bytes d h n raw size = by (get d.blocks h) raw ∙ size
  where
    by : (o : Option Block) → option_map_or (λ (b : Block). is_heap_body b.body) o false ≡ false → length (option_map_or (λ (b : Block). bytes_of_body b.body) o []) + 1 ≡ length (image (unwrap_or o no_block).body)
    by None is = raw_size (Raw []) refl
    by (Some b) is = raw_size b.body is

-- the bytes of a raw block that is live, by its body
pub raw-read : (d : Document) (h : ℕ) (bytes : List ℕ) → is_live d h ≡ true → (block_at d h).body ≡ Raw bytes → bytes ≡ raw_bytes_of d h
raw-read d h bytes live is = by (get d.blocks h) live is
  where
    by : (o : Option Block) → is_some o ≡ true → (unwrap_or o no_block).body ≡ Raw bytes → bytes ≡ option_map_or (λ (b : Block). bytes_of_body b.body) o []
    by None there has = absurd (cc there)
    by (Some b) there has = sym (ap bytes_of_body has)

-- what is lacking where a body can't be read
pub lacks-read : {S A : Type 0} (facts : S → StoreFacts) (r : Result A Fault) (a b : S) → Fails facts (IsDamage (facts a).honest) a b r → IfErr r (IsEnvironmentFault facts a b)
unfolding IsEnvironmentFault
lacks-read facts (Ok done) a b fails = tt
lacks-read facts (Err fault) a b fails = elim fails.faults as (λ _. (fault ≡ Memory) ⊎ (((fault ≡ File) × FailedSince (facts a) (facts b)) ⊎ IsDamage (facts a).honest fault)) [
  | inl supply ↦ elim supply as (λ _. (fault ≡ Memory) ⊎ (((fault ≡ File) × FailedSince (facts a) (facts b)) ⊎ IsDamage (facts a).honest fault)) [
    | inl memory ↦ inl memory
    | inr file ↦ inr (inl (file, fails.file (ap Err file)))
  ]
  | inr damage ↦ inr (inr damage)
]

-- or where there is no memory to read it into
pub lacks-room : {S A : Type 0} (facts : S → StoreFacts) (r : Result A Fault) (a b : S) → IsErrAnd r (λ e. e ≡ Memory) → IfErr r (IsEnvironmentFault facts a b)
lacks-room facts (Ok done) a b is = absurd is
lacks-room facts (Err fault) a b is = subst (IsEnvironmentFault facts a b) (sym is) (lacks-memory facts a b)

-- A block that isn't in memory.

pub away : {S : Type 0} (state : CacheState S) (es : List (ℕ × Frame)) (h : ℕ) → state.resident ≡ residents es → is_live state.document h ≡ true → is_loaded state h ≡ false → frame_of es h ≡ None
away state es h same live none = elim (cases_Bool (is_resident state.resident h)) as (λ _. frame_of es h ≡ None) [
  | inl there ↦ absurd (true≢false (sym (loaded-by state h there live) ∙ none))
  | inr not_there ↦ none_held (frame_of es h) (sym (resident_is h es) ∙ ap (λ ss. is_resident ss h) (sym same) ∙ not_there)
]

-- has the file's bytes
pub away-bytes : (es : List (ℕ × Frame)) (d : Document) (h : ℕ) → frame_of es h ≡ None → raw_bytes_of (overlay es d) h ≡ raw_bytes_of d h
away-bytes es d h none = ap (λ o. option_map_or (λ (b : Block). bytes_of_body b.body) o []) (get-overlay es d h ∙ ap (λ o. cover o d h) none)
