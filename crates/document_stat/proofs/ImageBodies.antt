-- What the image of a body says of the body.
use Rattle.std.proofs.Common.{◌≡◌, ◌-◌, ℕ, false, List, length, ap, arith, refl}
use Rattle.geos_model.specs.Document.{is_heap_body}
use Rattle.geos_model.specs.Image.{image}
use Rattle.geos_model.specs.declared.command.Body.{Body}
use Rattle.geos_model.specs.declared.command.Body.TheVariants.{Raw, Heap}

-- a body that is no heap is raw, and has the bytes behind the first one
pub raw_body : (body : Body) (bytes : List ℕ) → is_heap_body body ≡ false → bytes ≡ image body → (xs : List ℕ) × (body ≡ Raw xs) × (length bytes - 1 ≡ length xs)
unfolding image
raw_body (Raw xs) bytes raw same = (xs, refl, omega (arith, ap length same))
raw_body (Heap m) bytes raw same = absurd (cc raw)
