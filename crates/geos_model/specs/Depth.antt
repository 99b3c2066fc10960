-- How deep calls are, edits, undos, redos, joins and forgetting together: at depth 0 undo is exact.
use Rattle.std.specs.Prelude.{◌≡◌, ℕ, ◌+◌, ◌-◌, ◌==◌, nat_le, List, [], ◌∷◌, Bool, true, false, take, if◌then◌else◌, Option, Some, None}
use Rattle.std.specs.Option.{option_map, option_and_then}
use Rattle.geos_model.specs.Machine.{Machine, Request, Call, Run}
use Rattle.geos_model.specs.Undoing.{Tally, SamePast, is_refused, accepted}
use Rattle.geos_model.specs.declared.command.Command.TheVariants as commands

-- The depth is how many steps are to be undone to come to the start; None where that can't be told any more.

-- no more than so many steps are left to be undone
abbrev pub depth_within : ℕ → Tally → Option Tally
depth_within most t = if nat_le t.steps most then Some t else None

-- a step is made, of which a limit may take the oldest
abbrev pub one_deeper : Option ℕ → Tally → Option Tally
one_deeper None t = Some (record t { steps = t.steps + 1 })
one_deeper (Some most) t = depth_within most (record t { steps = t.steps + 1 })

-- one step fewer; none where an undo goes past the start
abbrev pub one_higher : Tally → Option Tally
one_higher t = if t.steps == 0 then None else Some (record t { steps = t.steps - 1 })

-- the newest two are one; none where one of them was made before the start
abbrev pub depth_joined : Tally → Option Tally
depth_joined t = if nat_le 2 t.steps then Some (record t { steps = t.steps - 1 }) else None

-- an edit, in a group, which then has edits, or in none
abbrev pub depth_edited : Option ℕ → Option Bool → Tally → Option Tally
depth_edited limit None t = one_deeper limit t
depth_edited limit (Some edited) t = Some (record t { group = Some true })

-- the group ends: it is a step if it has edits
abbrev pub depth_ended : Option ℕ → Option Bool → Tally → Option Tally
depth_ended limit None t = Some t
depth_ended limit (Some edited) t =
    if edited then one_deeper limit (record t { group = None }) else Some (record t { group = None })

-- after a request that was accepted, where so many steps are kept at most
abbrev pub depth_after : Option ℕ → Request → Tally → Option Tally
depth_after limit (Some (commands.Edit e)) t = depth_edited limit t.group t
depth_after limit (Some commands.Undo) t = one_higher t
depth_after limit (Some commands.Redo) t = Some (record t { steps = t.steps + 1 })
depth_after limit (Some commands.Begin) t = Some (record t { group = Some false })
depth_after limit (Some commands.End) t = depth_ended limit t.group t
depth_after limit (Some commands.Abandon) t = Some (record t { group = None })
depth_after limit (Some commands.Join) t = depth_joined t
depth_after limit (Some (commands.Forget most)) t = depth_within most t
depth_after limit (Some commands.Revert) t = None
depth_after limit request t = Some t

-- after calls; a refused one counts for nothing
abbrev pub depth_on : Option ℕ → List Call → Tally → Option Tally
depth_on limit [] t = Some t
depth_on limit (c ∷ cs) t =
    if is_refused c.reply then depth_on limit cs t
    else option_and_then (depth_on limit cs) (depth_after limit c.request t)

abbrev pub depth : Option ℕ → List Call → Option ℕ
depth limit cs = option_map (λ t. t.steps) (depth_on limit cs (record { steps = 0; group = None }))

abbrev pub is_forget : Request → Bool
is_forget (Some (commands.Forget most)) = true
is_forget request = false

-- the same document, and of the past the newest steps
pub record SameNewest (old new : Machine) : Type 0 where
  pub document : new.document ≡ old.document
  pub kept : ℕ
  pub past : new.past ≡ take kept old.past

-- Where no group is open at the start and at the end, and the calls are at depth 0, the document is that of the start,
-- and of the past the newest steps are left: all of them where nothing was forgotten.
pub record DepthLaw : Type 0 where
  pub same : (old new : Machine) (calls : List Call) → old.group ≡ None → new.group ≡ None
      → depth old.undo_limit calls ≡ Some 0 → Run old calls new → SameNewest old new
  pub whole : (old new : Machine) (calls : List Call) → old.group ≡ None → new.group ≡ None → old.undo_limit ≡ None
      → accepted is_forget calls ≡ 0 → depth None calls ≡ Some 0 → Run old calls new → SamePast old new
