use Rattle.document_file.proofs.CopiesLemmas.{same_stored}
use Rattle.document_file.proofs.opening.read_saved.Goals as goal

pub returns-then-eq-2-clause-stored : goal.returns-then-eq-2-clause-stored
returns-then-eq-2-clause-stored g c so =
    same_stored c.args.version _ _ c.args.updated.now c.in_ok-shared.ensures (c.requires.stored so)
