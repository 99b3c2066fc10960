-- What the image of a body says of the body.
use Rattle.std.proofs.Common.{◌≡◌, ◌≢◌, ◌⊎◌, ℕ, true, List, length, drop, get_or, sym, ap, ◌∙◌, arith, inl, inr, subst}
use Rattle.geos_model.specs.Document.{is_valid_body}
use Rattle.geos_model.specs.Heap.{ChunkMap, is_heap_map}
use Rattle.geos_model.specs.Image.{image}
use Rattle.geos_model.specs.declared.command.Body.{Body}
use Rattle.geos_model.specs.declared.command.Body.TheVariants.{Raw, Heap}
use Rattle.geos_model.specs.declared.fault.Fault.{Fault}
use Rattle.geos_model.specs.declared.fault.Fault.TheVariants.{Damaged, Memory}
use Rattle.geos_model.proofs.Images.{image-injective_body}
use Rattle.document_diff.specs.Faults.{IsImageRefusal}

-- no image is empty
pub some_image : (body : Body) (bytes : List ℕ) → image body ≡ bytes → length bytes ≡ 0 → ⊥
unfolding image
some_image (Raw xs) bytes same none = let size = ap length same in grind (arith, size, none)
some_image (Heap m) bytes same none = let size = ap length same in grind (arith, size, none)

-- one that begins with 0 is that of a raw body, and of these bytes behind it
pub raw_image : (body : Body) (bytes : List ℕ) → get_or bytes 0 0 ≡ 0 → image body ≡ bytes → Raw (drop 1 bytes) ≡ body
unfolding image
raw_image (Raw xs) bytes kind same = ap (λ (l : List ℕ). Raw (drop 1 l)) (sym same)
raw_image (Heap m) bytes kind same = let one : 1 ≡ 0 = ap (λ (l : List ℕ). get_or l 0 0) same ∙ kind in absurd (omega (arith, one))

-- one that doesn't is that of a heap
heap_body : (bytes : List ℕ) → get_or bytes 0 0 ≢ 0 → ((m : ChunkMap) → is_heap_map m ≡ true → image (Heap m) ≡ bytes → ⊥) → (body : Body) → is_valid_body body ≡ true → image body ≡ bytes → ⊥
unfolding image
heap_body bytes kind none (Raw xs) valid same = kind (sym (ap (λ (l : List ℕ). get_or l 0 0) same))
heap_body bytes kind none (Heap m) valid same = none m valid same

pub heap_refused : (bytes slice : List ℕ) (fault : Fault) → slice ≡ bytes → get_or bytes 0 0 ≢ 0
    → (fault ≡ Memory) ⊎ ((fault ≡ Damaged) × ((m : ChunkMap) → is_heap_map m ≡ true → image (Heap m) ≡ slice → ⊥)) → IsImageRefusal bytes fault
heap_refused bytes slice fault same kind (inl is) = subst (IsImageRefusal bytes) (sym is) tt
heap_refused bytes slice fault same kind (inr is) = subst (IsImageRefusal bytes) (sym is.0) (heap_body bytes kind (λ m heap of. is.1 m heap (of ∙ sym same)))

pub same_body : (m : ChunkMap) (body : Body) (bytes : List ℕ) → is_heap_map m ≡ true → image (Heap m) ≡ bytes → is_valid_body body ≡ true → image body ≡ bytes → Heap m ≡ body
same_body m body bytes heap is valid same = image-injective_body (Heap m) body heap valid (is ∙ sym same)
