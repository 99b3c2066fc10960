use Rattle.std.proofs.Common.{[], List, Some, sym, ap, ◌∙◌}
use Rattle.std.specs.Option.{option_map}
use Rattle.packed_log.specs.Lent.{record_of}
use Rattle.vm_blocks.specs.ByteChanges.{byte_change}
use Rattle.vm_blocks.specs.declared.change.Change.{Change}
use Rattle.undo_log.specs.Entries.{log_entries}
use Rattle.undo_log.specs.Steps.{Steps}
use Rattle.undo_log.specs.Telling.{next_changes, told}
use Rattle.undo_log.specs.declared.touched.Touched.{Touched}
use Rattle.undo_log.specs.declared.touched.Touched.TheVariants.{Newest}
use Rattle.undo_log.proofs.Entries.{first_change, never_whole, nothing_told}
use Rattle.undo_log.proofs.kept_steps.KeptSteps.take_told.Goals as goal
use Rattle.undo_log.proofs.kept_steps.KeptSteps.take_told.Goals.{in-Some-Short, in-Some-Whole, in-None}

pub returns-clause-told : goal.returns-clause-told
returns-clause-told c = λ next.
    let rs = c.self.inside.log.before in
    elim c.match-newest.branch [
      | in-Some-Short w ↦
          let first = sym (ap (λ l. Some (record_of l)) w.in-Some-Short.field-0-is) ∙ sym (ap (option_map record_of) w.in-Some-Short.is) ∙ c.newest.ensures.first in
          ap (λ (r : Touched). told r [] next) w.result-is ∙ w.told_of_bytes.ensures next
          ∙ ap (λ (cs : List Change). told (Newest c.args.count) cs next)
          (first_change rs w.in-Some-Short.head w.in-Some-Short.bytes.now (byte_change w.change.result) first w.change.ensures.change ∙ ap (λ (s : Steps). next_changes (log_entries s.undo)) c.self.view_is)
      | in-Some-Whole w ↦
          let first = sym (ap (λ l. Some (record_of l)) w.in-Some-Whole.field-0-is) ∙ sym (ap (option_map record_of) w.in-Some-Whole.is) ∙ c.newest.ensures.first in
          absurd (never_whole rs _ first (sym c.if-is_newest_whole.ensures))
      | in-None w ↦
          let first = sym (ap (option_map record_of) w.in-None.is) ∙ c.newest.ensures.first in
          ap (λ (r : Touched). told r [] next) w.result-is ∙ nothing_told rs c.args.count first ∙ ap (λ (s : Steps). told (Newest c.args.count) (next_changes (log_entries s.undo)) next) c.self.view_is
    ]
