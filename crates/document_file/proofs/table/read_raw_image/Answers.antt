use Rattle.std.proofs.Common.{List, ℕ, sym, ap, ◌∙◌}
use Rattle.geos_model.specs.Image.{image}
use Rattle.geos_model.specs.declared.command.Body.TheVariants.{Raw}
use Rattle.file_format.specs.File.{has_sum}
use Rattle.document_file.proofs.RawReadLemmas.{raw_image}
use Rattle.document_file.proofs.table.read_raw_image.Goals as goal

pub returns-then-not-raw_has_sum-clause-damaged : goal.returns-then-not-raw_has_sum-clause-damaged
returns-then-not-raw_has_sum-clause-damaged g c = λ _ so first.
    let e = c.args.extent in let body = c.in_ok-body.body in
    let lies = raw_image (g.S.Store.facts c.args.store.now).content body e c.in_ok-body.ensures.size (c.in_ok-body.ensures.held so) first in
    ap (has_sum c.args.sum) (sym lies) ∙ ap (λ (bytes : List ℕ). has_sum c.args.sum (image (Raw bytes))) (sym c.bytes.ensures.value) ∙ sym c.raw_has_sum.ensures ∙ c.if-not-raw_has_sum.true

pub returns-clause-image : goal.returns-clause-image
returns-clause-image g c = λ so first. raw_image (g.S.Store.facts c.args.store.now).content c.in_ok-body.body c.args.extent c.in_ok-body.ensures.size (c.in_ok-body.ensures.held so) first
