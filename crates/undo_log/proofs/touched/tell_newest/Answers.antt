use Rattle.std.proofs.Common.{◌≡◌, ◌≢◌, ◌-◌, ◌++◌, ℕ, [], List, IfErr, IfOk, drop, length, reverse, take, ap, subst, ◌∙◌}
use Rattle.std.proofs.lemmas.List.{take_rest}
use Rattle.vm_blocks.specs.declared.change.Change.{Change}
use Rattle.chunk_edits.specs.declared.direction.Direction.TheVariants.{Forwards}
use Rattle.undo_log.specs.Telling.{all_places}
use Rattle.undo_log.proofs.Telling.{newest_are}
use Rattle.undo_log.proofs.touched.tell_newest.Goals as goal

newest : (cs : List Change) (first count : ℕ) → first ≡ length cs - count → take (length cs - first) (drop first cs) ≡ reverse (take count (reverse cs))
newest cs first count is = take_rest cs first ∙ ap (λ (k : ℕ). drop k cs) is ∙ newest_are cs count

pub returns-clause-ok : goal.returns-clause-ok
returns-clause-ok c =
    subst (λ (cs : List Change). IfOk c.tell_made.result (λ _. c.tell_made.new.places.items ≡ c.args.places.now.items ++ all_places Forwards cs))
    (newest c.args.changes.now c.saturating_sub-first.result c.args.count c.saturating_sub-first.ensures) c.tell_made.ensures.ok

pub returns-clause-err : goal.returns-clause-err
returns-clause-err c =
    subst (λ (cs : List Change). IfErr c.tell_made.result (λ _. all_places Forwards cs ≢ []))
    (newest c.args.changes.now c.saturating_sub-first.result c.args.count c.saturating_sub-first.ensures) c.tell_made.ensures.err
