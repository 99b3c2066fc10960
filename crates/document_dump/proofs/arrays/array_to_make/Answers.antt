use Rattle.std.proofs.Common.{sym, ap, ◌∙◌}
use Rattle.geos_model.specs.Array.{array_of}
use Rattle.document_dump.proofs.ArraysMade.{to_make-is, to_make-none}
use Rattle.document_dump.proofs.arrays.array_to_make.Goals as goal

pub returns-in-Ok : goal.returns-in-Ok
returns-in-Ok c = rw (to_make-is c.args.bytes.now c.in-Ok.view.array (ap array_of (sym c.new-known.ensures) ∙ c.in-Ok.ensures)) c.if_creatable.ensures

pub returns-in-Err : goal.returns-in-Err
returns-in-Err c = to_make-none c.args.bytes.now (ap array_of (sym c.new-known.ensures) ∙ c.in-Err.ensures.1)
