use Rattle.std.proofs.Common.{◌≤◌, All, sym, subst}
use Rattle.document_file.proofs.OpenedDirectoryLemmas.{rising_last}
use Rattle.document_file.proofs.opening.places_needed.Goals as goal

pub returns-in-Some-clause-enough : goal.returns-in-Some-clause-enough
returns-in-Some-clause-enough c =
    let es = c.args.entries.now in
    subst (λ n. All (λ e. e.handle.0 ≤ n) es) (sym c.from.ensures) (rising_last es c.in-Some.entry.now c.requires.rising c.in-Some.ensures.item.1)
