use Rattle.std.proofs.Common.{◌∙◌}
use Rattle.element_arrays.specs.Used.{used_element}
use Rattle.document_dump.proofs.RowsMade.{own_is}
use Rattle.document_dump.proofs.rows.is_own.Goals as goal

pub returns-in-Some : goal.returns-in-Some
returns-in-Some c =
    c.is_token.ensures ∙ own_is c.args.skip c.args.token.0 c.args.slots.now.slots (used_element c.in-Some.used) c.behind-name.result.now _ c.in-Some.ensures c.behind-name.ensures c.find.ensures
