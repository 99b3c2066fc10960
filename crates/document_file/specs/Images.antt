-- Bytes that are the image of a body that a document can have.
use Rattle.std.specs.Prelude.{◌≡◌, ◌≤◌, ℕ, List, true, length, drop}
use Rattle.geos_model.specs.Document.{is_valid_body}
use Rattle.geos_model.specs.Heap.{capacity}
use Rattle.geos_model.specs.Image.{image, body_read}
use Rattle.geos_model.specs.declared.command.Body.TheVariants.{Raw}

pub record IsImage (bytes : List ℕ) : Type 0 where
  pub image_is : image (body_read bytes) ≡ bytes
  pub valid : is_valid_body (body_read bytes) ≡ true

-- that of the raw body behind its first byte
pub record IsRawImage (bytes : List ℕ) : Type 0 where
  pub image_is : image (Raw (drop 1 bytes)) ≡ bytes
  pub small : length (drop 1 bytes) ≤ capacity
