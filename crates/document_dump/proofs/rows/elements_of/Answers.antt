use Rattle.document_dump.proofs.RowsMade.{elements_is}
use Rattle.document_dump.proofs.rows.elements_of.Goals as goal

pub returns-in-Ok : goal.returns-in-Ok
returns-in-Ok c = rw (elements_is c.args.view.array _ c.in-Ok.ensures.0) c.if_own_elements.ensures

pub returns-in-Err : goal.returns-in-Err
returns-in-Err c = elements_is c.args.view.array _ c.in-Err.ensures.1
