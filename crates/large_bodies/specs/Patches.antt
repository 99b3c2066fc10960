-- The patch from one body to another: what it holds.
use Rattle.std.specs.Prelude.{◌≡◌, ◌≢◌, ◌⊎◌, ◌<◌, ◌≤◌, ◌+◌, ◌-◌, ◌*◌, ◌%◌, ◌^◌, ◌++◌, ℕ, List, length, get_or, max}
use Rattle.geos_model.specs.Heap.{capacity}
use Rattle.geos_model.specs.Words.{word_at}
use Rattle.chunk_edits.specs.Patching.{PatchPiece, PatchLeads, total_held}
use Rattle.chunk_edits.specs.Splicing.{Splice, Leads}
use Rattle.large_bodies.specs.declared.cut_body.CutBody.{CutBody}
use Rattle.large_bodies.specs.Differences.{header_of, table_of, rest_of}

-- Pieces behind others lead from some bytes to those in their stead, and hold so many.
pub record AddsPieces (before after : List PatchPiece) (old new : List ℕ) (held : ℕ) : Type 0 where
  pub more : List PatchPiece
  pub joined : after ≡ before ++ more
  pub leads : PatchLeads more old new
  pub holds : total_held more ≡ held

-- a word is by so much further on than another, modulo 2^16
abbrev pub IsFurther : ℕ → ℕ → ℕ → Type 0
IsFurther by old new = new ≡ (old + by) % 2 ^ 16

-- Each of so many words that bytes begin with is by so much further on then.
pub record IsShiftedFront (old new : List ℕ) (by words : ℕ) : Type 0 where
  pub in_old : 2 * words ≤ length old
  pub in_new : 2 * words ≤ length new
  pub each : (k : ℕ) → k < words → IsFurther by (word_at old (2 * k)) (word_at new (2 * k))

-- the last word but so many
abbrev pub word_from_end : List ℕ → ℕ → ℕ
word_from_end bytes k = word_at bytes (length bytes - (2 * k + 2))

-- Each of so many words that bytes end with is by so much further on then.
pub record IsShiftedBack (old new : List ℕ) (by words : ℕ) : Type 0 where
  pub in_old : 2 * words ≤ length old
  pub in_new : 2 * words ≤ length new
  pub each : (k : ℕ) → k < words → IsFurther by (word_from_end old k) (word_from_end new k)

-- all words of bytes
pub record AreShifted (old new : List ℕ) (by : ℕ) : Type 0 where
  pub whole : length old % 2 ≡ 0
  pub level : length old ≡ length new
  pub each : (k : ℕ) → 2 * k < length old → IsFurther by (word_at old (2 * k)) (word_at new (2 * k))

-- One splice, which holds so many bytes, leads from some bytes to others.
pub record IsSpliced (old new : List ℕ) (held : ℕ) : Type 0 where
  pub splice : Splice
  pub leads : Leads splice old new held

-- Words in front are each by the same number further on then, also words at the end, and what lies between are so many
-- bytes.
pub record IsShiftedAround (old new : List ℕ) (held : ℕ) : Type 0 where
  pub front_by : ℕ
  pub front : ℕ
  pub front_moves : IsShiftedFront old new front_by front
  pub back_by : ℕ
  pub back : ℕ
  pub back_moves : IsShiftedBack old new back_by back
  pub in_old : 2 * front + 2 * back ≤ length old
  pub in_new : 2 * front + 2 * back ≤ length new
  pub between : (length old - (2 * front + 2 * back)) + (length new - (2 * front + 2 * back)) ≡ held

-- so many bytes that have to be held, or more of them

abbrev pub IsLeastOfRegion : List ℕ → List ℕ → ℕ → Type 0
IsLeastOfRegion old new held = (n : ℕ) → IsSpliced old new n → held ≤ n

abbrev pub IsLeastOfTable : List ℕ → List ℕ → ℕ → Type 0
IsLeastOfTable old new held = (n : ℕ) → IsSpliced old new n ⊎ IsShiftedAround old new n → held ≤ n

abbrev pub IsLeastOfRegions : CutBody → CutBody → ℕ → Type 0
IsLeastOfRegions old new held =
    (header table rest : ℕ) → IsSpliced (header_of old) (header_of new) header
    → IsSpliced (table_of old) (table_of new) table ⊎ IsShiftedAround (table_of old) (table_of new) table
    → IsSpliced (rest_of old) (rest_of new) rest → held ≤ header + table + rest

-- What differs between bytes and those in their stead: parts that begin and end with other bytes.
pub record Differs (old new : List ℕ) : Type 0 where
  pub front : List ℕ
  pub gone : List ℕ
  pub come : List ℕ
  pub back : List ℕ
  pub was : old ≡ front ++ gone ++ back
  pub becomes : new ≡ front ++ come ++ back
  pub begins : 0 < length gone → 0 < length come → get_or gone 0 0 ≢ get_or come 0 0
  pub ends : 0 < length gone → 0 < length come → get_or gone (length gone - 1) 0 ≢ get_or come (length come - 1) 0

-- pieces of a region behind others, which hold what differs
pub record AddsRegion (before after : List PatchPiece) (old new : List ℕ) : Type 0 where
  pub differs : Differs old new
  pub adds : AddsPieces before after old new (length differs.gone + length differs.come)

-- pieces of a table behind others, which hold no more than they have to
pub record AddsTable (before after : List PatchPiece) (old new : List ℕ) : Type 0 where
  pub held : ℕ
  pub adds : AddsPieces before after old new held
  pub least : IsLeastOfTable old new held

-- for how many bytes there must be room on the way from region to region
abbrev pub regions_peak : CutBody → CutBody → ℕ
regions_peak old new =
    max (length (header_of old)) (length (header_of new)) + max (length (table_of old)) (length (table_of new))
    + max (length (rest_of old)) (length (rest_of new))

-- A patch from one body to another holds so many bytes: no more than it has to by the bodies' regions, or by whole
-- bodies where there is no room on the way from region to region; and in no case more than both bodies have.
pub record HoldsLeast (old new : CutBody) (held : ℕ) : Type 0 where
  pub by_regions : regions_peak old new ≤ capacity → IsLeastOfRegions old new held
  pub by_bodies : capacity < regions_peak old new → IsLeastOfRegion old.bytes.now new.bytes.now held
  pub at_most : held ≤ length old.bytes.now + length new.bytes.now
