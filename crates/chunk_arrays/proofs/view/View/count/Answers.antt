use Rattle.std.proofs.Common.{◌∙◌, sym, ap, length}
use Rattle.chunk_arrays.specs.Viewed.{Viewed}
use Rattle.chunk_arrays.proofs.PartsLemmas.{length-elements_read}
use Rattle.chunk_arrays.proofs.view.View.count.Goals as goal

pub returns : goal.returns
returns c =
    c.self.invariant.count
    ∙ sym (length-elements_read c.self.inside.bytes.now)
    ∙ ap (λ (v : Viewed). length v.array.elements) c.self.view_is
