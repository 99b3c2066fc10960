-- Who opens files to be read alone.
use Rattle.std.specs.Prelude.{◌⊎◌, ℕ, List, Result, Ok, Err}
use Rattle.document_tools.specs.declared.obstacle.Cause.{Cause}

-- the file of a name is opened, or can't be looked at
abbrev pub Views : Type 0 → Type 0 → Type 1
Views V S = V → List ℕ → Result S Cause → V → Type 0

-- The file of a name was opened, and this was done with it, or it couldn't be, and that for this cause. No other call
-- was made.
abbrev pub LooksAt : {V S : Type 0} → Views V S → List ℕ → V → V → (Cause → Type 0) → (S → Type 0) → Type 0
LooksAt {V} {S} views name old new Fails Tells =
    ((cause : Cause) × views old name (Err cause) new × Fails cause)
    ⊎ ((store : S) × views old name (Ok store) new × Tells store)
