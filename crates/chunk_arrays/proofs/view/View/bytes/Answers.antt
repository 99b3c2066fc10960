use Rattle.std.proofs.Common.{◌∙◌, sym, ap}
use Rattle.geos_model.specs.Array.{array_bytes}
use Rattle.chunk_arrays.specs.Viewed.{Viewed}
use Rattle.chunk_arrays.proofs.PartsLemmas.{bytes-read}
use Rattle.chunk_arrays.proofs.view.View.bytes.Goals as goal

pub returns : goal.returns
returns c = sym (bytes-read _ c.self.invariant.parts) ∙ ap (λ (v : Viewed). array_bytes v.array) c.self.view_is
