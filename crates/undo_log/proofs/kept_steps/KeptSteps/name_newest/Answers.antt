use Rattle.std.proofs.Common.{◌≡◌, ℕ, [], List, vec_len, eqb-true, sym, ap, ◌∙◌, arith}
use Rattle.undo_log.specs.Logging.{named}
use Rattle.undo_log.specs.Steps.{Steps, with_first}
use Rattle.undo_log.proofs.Entries.{short_unnamed, without_items}
use Rattle.undo_log.proofs.kept_steps.KeptSteps.name_newest.Goals as goal

pub returns-then-not-is_newest_whole-clause-done : goal.returns-then-not-is_newest_whole-clause-done
returns-then-not-is_newest_whole-clause-done c =
    let count = eqb-true (vec_len c.args.name) 0 (sym c.if-is_empty.ensures) in
    let none : c.args.name.items ≡ [] = without_items c.args.name.items (omega (arith, count)) in
    sym (ap (λ (name : List ℕ). with_first (named name) c.args.self.now.undo) none
    ∙ ap (λ (s : Steps). with_first (named []) s.undo) (sym c.self.view_is)
    ∙ short_unnamed c.self.inside.log.before (sym c.if-not-is_newest_whole.ensures)
    ∙ ap (λ (s : Steps). s.undo) c.self.view_is)
