-- What is read of a block by its kind: its body is of the kind, and its attributes fit that.
use Rattle.std.proofs.Common.{◌≡◌, ℕ, Bool, true, false, Option, Some, None, refl, sym, ap, ◌∙◌}
use Rattle.std.specs.Option.{option_map, option_map_or}
use Rattle.std.specs.FinMap.{get}
use Rattle.geos_model.specs.Document.{Block, Document, is_heap, is_heap_body, IsTyped}
use Rattle.geos_model.specs.declared.block.Attributes.{Attributes}
use Rattle.geos_model.specs.declared.command.Body.{Body}
use Rattle.vm_blocks.specs.Changes.{attributes_for_kind}

-- a block that has this body is of its kind
pub kind_there : (d : Document) (h : ℕ) (body : Body) → option_map (λ b. b.body) (get d.blocks h) ≡ Some body → is_heap d h ≡ is_heap_body body
kind_there d h body there = of (get d.blocks h) there
  where
    of : (o : Option Block) → option_map (λ (b : Block). b.body) o ≡ Some body → option_map_or (λ (b : Block). is_heap_body b.body) o false ≡ is_heap_body body
    of None there = absurd (cc there)
    of (Some b) there = let same : b.body ≡ body = cc there in ap is_heap_body same

-- attributes that the block can have can stand beside this body
pub typed_there : (d : Document) (h : ℕ) (body : Body) (attributes : Attributes) → option_map (λ b. b.body) (get d.blocks h) ≡ Some body → IsTyped (is_heap d h) attributes → IsTyped (is_heap_body body) attributes
typed_there d h body attributes there typed = λ raw. typed (kind_there d h body there ∙ raw)

-- Attributes as a block of a kind has them.

pub attributes_for_kind-same : (is_heap : Bool) (a : Attributes) → IsTyped is_heap a → attributes_for_kind is_heap a ≡ a
attributes_for_kind-same true a typed = refl
attributes_for_kind-same false a typed = ap (λ (t : ℕ). record a { heap_type = t }) (sym (typed refl))

pub attributes_for_kind-typed : (is_heap : Bool) (a : Attributes) → IsTyped is_heap (attributes_for_kind is_heap a)
attributes_for_kind-typed true a = λ raw. absurd (cc raw)
attributes_for_kind-typed false a = λ _. refl
