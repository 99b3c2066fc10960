-- Why a block of a kind isn't looked into, which is known without its body.
use Rattle.std.specs.Prelude.{◌≡◌, ◌⊎◌, ℕ, Bool, true, false}
use Rattle.geos_model.specs.Document.{Document, is_live}
use Rattle.geos_model.specs.declared.fault.Fault.{Fault}
use Rattle.geos_model.specs.declared.fault.Fault.TheVariants.{NoBlock, WrongKind}

-- it isn't live, or it is of another kind than this one
abbrev pub IsWrongBlock : (Document → ℕ → Bool) → Document → ℕ → Fault → Type 0
IsWrongBlock is_kind d h fault = ((fault ≡ NoBlock) × (is_live d h ≡ false))
    ⊎ ((fault ≡ WrongKind) × (is_live d h ≡ true) × (is_kind d h ≡ false))
