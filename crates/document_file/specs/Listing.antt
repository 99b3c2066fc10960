-- Where a table has blocks.
use Rattle.std.specs.Prelude.{◌≡◌, ◌≤◌, ◌-◌, ◌<◌, ◌++◌, ℕ, ◌==◌, ◌&&◌, nat_lt, List, [], All, Option, None, Result, IsOk, OnOk, OnErr, Vec, true, false, is_some, length, map, get_or, find, vec_capacity}
use Rattle.std.specs.Global.{Global}
use Rattle.std.specs.Option.{option_map}
use Rattle.geos_model.specs.Document.{most_blocks}
use Rattle.geos_model.specs.declared.handle.VmHandle.{VmHandle}
use Rattle.geos_model.proofs.Table.{table_entries}
use Rattle.document_file.specs.declared.table.Place.{Place}
use Rattle.document_file.specs.declared.member.Member.{Member}
use Rattle.document_file.specs.declared.listing.Bounds.{Bounds}

-- each place below the gap has a block, and none from the end on
pub record AreBounds (places : List (Option Place)) (bounds : Bounds) : Type 0 where
  pub full : (k : ℕ) → k < bounds.gap → is_some (get_or places k None) ≡ true
  pub past : (k : ℕ) → bounds.end ≤ k → is_some (get_or places k None) ≡ false
  pub within : bounds.end ≤ length places

-- bounds that serve once these blocks are put in and those taken out
pub record IsWidened (puts : List Member) (removals : List VmHandle) (old new : Bounds) : Type 0 where
  pub lower : new.gap ≤ old.gap
  pub freed : All (λ h. new.gap ≤ h.0 - 1) removals
  pub higher : old.end ≤ new.end
  pub reached : All (λ p. p.handle.0 ≤ new.end) puts
  pub alone : puts ≡ [] → new.end ≡ old.end
  pub within : new.end ≤ most_blocks

-- These are the handles that stand in a lent vector in place of those before; where memory lacked, the first of them. It
-- lacks only where the vector hadn't room for all.
pub record IsListed {T E : Type 0} (live : List ℕ) (old new : Vec VmHandle Global) (result : Result T E) : Type 0 where
  pub all : OnOk result (map (λ h. h.0) new.items ≡ live)
  pub first : OnErr result ((rest : List ℕ) × (map (λ h. h.0) new.items ++ rest ≡ live))
  pub room : length live ≤ vec_capacity old → IsOk result

-- the least handle above the start whose block has the user ID
abbrev pub found_in : List (Option Place) → ℕ → ℕ → Option ℕ
found_in places user_id start =
    option_map (λ e. e.0)
    (find (λ e. nat_lt start e.0 && (e.1.attributes.user_id == user_id)) (table_entries 1 1 places))

-- what is found for a handle: its place, where a block is live under it
pub record IsPlaceOf (places : List (Option Place)) (h : ℕ) (result : Option Place) : Type 0 where
  pub nothing : h ≡ 0 → result ≡ None
  pub place : 1 ≤ h → result ≡ get_or places (h - 1) None
