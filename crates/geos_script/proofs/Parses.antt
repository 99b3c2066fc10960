-- What the answer of a part of a parse shows of the whole.
use Rattle.std.proofs.Common.{◌≡◌, ◌⊎◌, inl, inr, Option, Some, None, Result, Ok, Err, OnOk, IfErr, refl, sym, ap, ◌∙◌}
use Rattle.std.specs.Prelude.{ok_or, ◌↔◌, IsSomeAnd, IsTrue}
use Rattle.geos_model.specs.declared.command.Command.{Command}
use Rattle.geos_model.specs.declared.fault.Fault.{Fault}
use Rattle.geos_model.specs.declared.fault.Fault.TheVariants as faults
use Rattle.geos_script.specs.Reading.{ReadsAs, FailsToRead, command_has_bytes, putting}

-- the value that a word spells, where its operand was read
pub spelled : {A : Type 0} (o : Option A) (a : A) → Ok a ≡ ok_or o faults.BadCommand → o ≡ Some a
spelled None a h = cc
spelled (Some x) a h = cc

-- and that it spells none, where it wasn't
pub unspelled : {A : Type 0} (o : Option A) (fault : Fault) → Err fault ≡ ok_or o faults.BadCommand → (fault ≡ faults.BadCommand) × (o ≡ None)
unspelled None fault h = (cc, refl)
unspelled (Some x) fault h = (cc, cc)

module _ (o : Option Command) where
  pub reads_ok : {T : Type 0} (r : Result T Fault) (c : Command) → ReadsAs command_has_bytes o (putting r c) → OnOk r (o ≡ Some c)
  reads_ok (Ok x) c h = h
  reads_ok (Err fault) c h = tt

  none_is_bad : (fault : Fault) → FailsToRead command_has_bytes o fault → o ≡ None → fault ≡ faults.BadCommand
  none_is_bad fault (inl bad) none = bad.0
  none_is_bad fault (inr memory) none = absurd (rw none at (memory.1))

  bad_is_none : (fault : Fault) → FailsToRead command_has_bytes o fault → fault ≡ faults.BadCommand → o ≡ None
  bad_is_none fault (inl bad) e = bad.1
  bad_is_none fault (inr memory) e = cc (sym e ∙ memory.0)

  pub reads_bad : {T : Type 0} (r : Result T Fault) (c : Command) → ReadsAs command_has_bytes o (putting r c) → (r ≡ Err faults.BadCommand) ↔ (o ≡ None)
  reads_bad (Ok x) c h = (λ e. cc, λ none. cc (sym h ∙ none))
  reads_bad (Err fault) c h = (λ e. bad_is_none fault h (cc), λ none. ap Err (none_is_bad fault h none))

  pub reads_memory : {T : Type 0} (r : Result T Fault) (c : Command) → ReadsAs command_has_bytes o (putting r c)
      → IfErr r (λ fault. (fault ≡ faults.BadCommand) ⊎ ((fault ≡ faults.Memory) × IsSomeAnd o (λ c. IsTrue (command_has_bytes c))))
  reads_memory (Ok x) c h = tt
  reads_memory (Err fault) c (inl bad) = inl (bad.0)
  reads_memory (Err fault) c (inr memory) = inr memory
