use Rattle.std.proofs.Common.{All, subst}
use Rattle.document_file.specs.Ranges.{IsPlaced}
use Rattle.document_file.specs.Slots.{prepared_extents}
use Rattle.document_file.proofs.placing.hold_spare.Goals as goal

pub hold_pair-requires-clause-placed : goal.hold_pair-requires-clause-placed
hold_pair-requires-clause-placed c = subst (λ o. All IsPlaced (prepared_extents o)) c.in-Prepared.is c.requires.placed
