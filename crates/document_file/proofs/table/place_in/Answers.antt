use Rattle.std.proofs.Common.{◌-◌, None, get_or, ap, ◌∙◌}
use Rattle.document_file.proofs.table.place_in.Goals as goal

pub returns : goal.returns
returns c = record { nothing = c.place_of.ensures.zero; place = λ low. c.place_of.ensures.place low ∙ ap (λ ps. get_or ps (c.args.block.0 - 1) None) c.deref.ensures.value }
