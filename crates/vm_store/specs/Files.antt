-- Who opens files.
use Rattle.std.specs.Prelude.{Bool, List, ℕ, Result}
use Rattle.vm_store.specs.declared.fault.StoreFault.{StoreFault}

-- what the calls of one who opens files do, from one state to another
pub record Opener (F S : Type 0) : Type 1 where
  -- the standard streams are guarded, or can't be
  pub guards : F → Result (Unit {0}) StoreFault → F → Type 0
  -- the file of a name is opened, and made where it is missing if that is asked for
  pub opens : F → List ℕ → Bool → Result S StoreFault → F → Type 0
  pub closes : F → S → F → Type 0
