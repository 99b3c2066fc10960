use Rattle.std.proofs.Common.{◌≡◌, ◌++◌, List, length, reverse, refl, ap, ◌∙◌, arith}
use Rattle.std.proofs.lemmas.List.{reverse-reverse}
use Rattle.vm_blocks.specs.declared.change.Change.{Change}
use Rattle.undo_log.specs.Entries.{NamedEntry}
use Rattle.undo_log.specs.Kept.{seen}
use Rattle.undo_log.specs.Telling.{changes_in}
use Rattle.undo_log.specs.declared.entry.Kept.{Kept}
use Rattle.undo_log.specs.declared.entry.Kept.TheVariants as kept
use Rattle.undo_log.proofs.entry.NamedEntry.into_stack.Goals as goal

pub returns-in-Ok-stack_for : goal.returns-in-Ok-stack_for
returns-in-Ok-stack_for c =
    let made = c.move_onto-name.ensures in
    let one : length (changes_in (seen c.self.inside.kept).entry) ≡ 1 = of_one c.self.inside.kept (λ cs name is. c.in_default.not-Group cs name is) in
    record {
      ok = (
        ap reverse (made.stack ∙ ap (λ (xs : List Change). xs ++ reverse (changes_in (seen c.self.inside.kept).entry)) c.in-Ok-stack_for.ensures.0)
            ∙ reverse-reverse (changes_in (seen c.self.inside.kept).entry)
            ∙ ap (λ (e : NamedEntry). changes_in e.entry) c.self.view_is,
        made.name ∙ ap (λ (e : NamedEntry). e.name) c.self.view_is,
        omega (arith, made.len, made.capacity, c.in-Ok-stack_for.ensures.1, one),
      );
      err = tt;
    }
  where
    of_one : (k : Kept) → ((cs : _) (name : _) → k ≡ kept.Group cs name → ⊥) → length (changes_in (seen k).entry) ≡ 1
    of_one (kept.One c) other = refl
    of_one (kept.NamedOne c name) other = refl
    of_one (kept.Group cs name) other = absurd (other cs name refl)
