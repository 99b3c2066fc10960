-- Which refusal of a look-up comes first.
use Rattle.std.proofs.Common.{◌≡◌, ℕ, Bool, true, false, not, cond, [], ◌∷◌, Option, Some, None, is_none, is_some, refl, sym, ap, ◌∙◌, inl, inr}
use Rattle.geos_model.specs.Document.{Document, is_live, is_raw, raw_bytes_of}
use Rattle.geos_model.specs.Refusal.{first_refusal}
use Rattle.geos_model.specs.declared.fault.Fault.{Fault}
use Rattle.geos_model.specs.declared.fault.Fault.TheVariants.{NoBlock, WrongKind, NotArray, NoElement, Range, BadChain}
use Rattle.vm_blocks.specs.Kinds.{IsWrongBlock}
use Rattle.geos_model.specs.LargeLayout.{Root, root_of}
use Rattle.geos_model.specs.LargeEdits.{on_root}
use Rattle.geos_model.proofs.Layouts.{raw-live}

-- Of a root: it is live, it is raw, its bytes are one.
pub of_root : (live raw none : Bool) → first_refusal ((NoBlock, not live) ∷ (WrongKind, not raw) ∷ (NotArray, none) ∷ [])
    ≡ cond live (cond raw (cond none (Some NotArray) None) (Some WrongKind)) (Some NoBlock)
of_root false raw none = refl
of_root true false none = refl
of_root true true false = refl
of_root true true true = refl

-- a root that is wrong by its handle
pub root_wrong : (d : Document) (b : ℕ) (fault : Fault) → IsWrongBlock is_raw d b fault → first_refusal (on_root d b) ≡ Some fault
root_wrong d b fault (inl dead) =
    of_root (is_live d b) (is_raw d b) (is_none (root_of (raw_bytes_of d b)))
    ∙ ap (λ (live : Bool). cond live (cond (is_raw d b) (cond (is_none (root_of (raw_bytes_of d b))) (Some NotArray) None) (Some WrongKind)) (Some NoBlock)) dead.1
    ∙ ap (λ (f : Fault). Some f) (sym dead.0)
root_wrong d b fault (inr heap) =
    of_root (is_live d b) (is_raw d b) (is_none (root_of (raw_bytes_of d b)))
    ∙ (λ i. cond (heap.1 i) (cond (heap.2 i) (cond (is_none (root_of (raw_bytes_of d b))) (Some NotArray) None) (Some WrongKind)) (Some NoBlock))
    ∙ ap (λ (f : Fault). Some f) (sym heap.0)

-- nothing refuses a root that is there
pub root-accepted : (d : Document) (b : ℕ) → is_raw d b ≡ true → is_some (root_of (raw_bytes_of d b)) ≡ true → first_refusal (on_root d b) ≡ None
root-accepted d b raw found =
    of_root (is_live d b) (is_raw d b) (is_none (root_of (raw_bytes_of d b)))
    ∙ (λ i. cond (raw-live d b raw i) (cond (raw i) (cond (some (root_of (raw_bytes_of d b)) found i) (Some NotArray) None) (Some WrongKind)) (Some NoBlock))
  where
    some : (o : Option Root) → is_some o ≡ true → is_none o ≡ false
    some None found = absurd (cc found)
    some (Some r) found = refl

-- a raw block whose bytes are none
pub root-none : (d : Document) (b : ℕ) (fault : Fault) → is_raw d b ≡ true → (fault ≡ NotArray) × (root_of (raw_bytes_of d b) ≡ None) → first_refusal (on_root d b) ≡ Some fault
root-none d b fault raw none =
    of_root (is_live d b) (is_raw d b) (is_none (root_of (raw_bytes_of d b)))
    ∙ (λ i. cond (raw-live d b raw i) (cond (raw i) (cond (is_none (none.1 i)) (Some NotArray) None) (Some WrongKind)) (Some NoBlock))
    ∙ ap (λ (f : Fault). Some f) (sym none.0)

-- Of an element, and of a run of them: the root, whether it is past the last one, whether its branches are none; and
-- whether the run is too long.

pub of_get : (live raw none past bad : Bool)
    → first_refusal ((NoBlock, not live) ∷ (WrongKind, not raw) ∷ (NotArray, none) ∷ (NoElement, past) ∷ (BadChain, bad) ∷ [])
    ≡ cond live (cond raw (cond none (Some NotArray) (cond past (Some NoElement) (cond bad (Some BadChain) None))) (Some WrongKind)) (Some NoBlock)
of_get false raw none past bad = refl
of_get true false none past bad = refl
of_get true true true past bad = refl
of_get true true false true bad = refl
of_get true true false false true = refl
of_get true true false false false = refl

pub of_read : (live raw none past long bad : Bool)
    → first_refusal ((NoBlock, not live) ∷ (WrongKind, not raw) ∷ (NotArray, none) ∷ (NoElement, past) ∷ (Range, long) ∷ (BadChain, bad) ∷ [])
    ≡ cond live (cond raw (cond none (Some NotArray) (cond past (Some NoElement) (cond bad (Some BadChain) (cond long (Some Range) None)))) (Some WrongKind)) (Some NoBlock)
of_read false raw none past long bad = refl
of_read true false none past long bad = refl
of_read true true true past long bad = refl
of_read true true false true long bad = refl
of_read true true false false long true = refl
of_read true true false false true false = refl
of_read true true false false false false = refl

-- what refuses a root refuses first

pub root_first : (live raw none past bad : Bool) (fault : Fault) → first_refusal ((NoBlock, not live) ∷ (WrongKind, not raw) ∷ (NotArray, none) ∷ []) ≡ Some fault
    → first_refusal ((NoBlock, not live) ∷ (WrongKind, not raw) ∷ (NotArray, none) ∷ (NoElement, past) ∷ (BadChain, bad) ∷ []) ≡ Some fault
root_first false raw none past bad fault is = is
root_first true false none past bad fault is = is
root_first true true true past bad fault is = is
root_first true true false past bad fault is = absurd (cc is)

pub root_first-read : (live raw none past long bad : Bool) (fault : Fault) → first_refusal ((NoBlock, not live) ∷ (WrongKind, not raw) ∷ (NotArray, none) ∷ []) ≡ Some fault
    → first_refusal ((NoBlock, not live) ∷ (WrongKind, not raw) ∷ (NotArray, none) ∷ (NoElement, past) ∷ (Range, long) ∷ (BadChain, bad) ∷ []) ≡ Some fault
root_first-read false raw none past long bad fault is = is
root_first-read true false none past long bad fault is = is
root_first-read true true true past long bad fault is = is
root_first-read true true false past long bad fault is = absurd (cc is)
