-- What the image of a body says of the body.
use Rattle.std.proofs.Common.{◌≡◌, ℕ, List, drop, get_or, ap, ◌∙◌, arith}
use Rattle.geos_model.specs.Image.{image}
use Rattle.geos_model.specs.declared.command.Body.{Body}
use Rattle.geos_model.specs.declared.command.Body.TheVariants.{Raw, Heap}

-- an image that begins with 0 is that of a raw body, and of these bytes behind it
pub raw_image : (body : Body) (bytes : List ℕ) → image body ≡ bytes → get_or bytes 0 0 ≡ 0 → body ≡ Raw (drop 1 bytes)
unfolding image
raw_image (Raw xs) bytes same kind = ap (λ (l : List ℕ). Raw (drop 1 l)) same
raw_image (Heap m) bytes same kind = let one : 1 ≡ 0 = ap (λ (l : List ℕ). get_or l 0 0) same ∙ kind in absurd (omega (arith, one))
