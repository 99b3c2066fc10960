-- What a contract sees of a log: its records, before the cursor and behind it.
use Rattle.std.specs.Prelude.{◌≡◌, ◌⊎◌, ℕ, Bool, true, false, List, [], ◌++◌, length, reverse, Option, Some, None, sum_by, refl}
use Rattle.std.proofs.Common.{inl, inr}
use Rattle.std.specs.List.{filter_map}
use Rattle.std.specs.Coded.{Coded, code_by, coded×, coded⊎, coded_bool, coded_list, coded_ℕ}

-- a head with bytes, or a value
pub data Record (H W : Type 0) : Type 0 where
  Short : (head : H) → (bytes : List ℕ) → Record H W
  Whole : (whole : W) → Record H W

-- the records before the cursor, the newest first, those behind it, the next first, and whether there is room for one
-- more, to which those behind give way
pub record PackedLog (H W : Type 0) : Type 0 where
  pub before : List (Record H W)
  pub behind : List (Record H W)
  pub place : Bool

module _ {H W : Type 0} where
  -- whether there is a record, and it is whole, or short
  abbrev pub is_whole : Option (Record H W) → Bool
  is_whole None = false
  is_whole (Some (Short head bytes)) = false
  is_whole (Some (Whole whole)) = true

  abbrev pub is_short : Option (Record H W) → Bool
  is_short None = false
  is_short (Some (Short head bytes)) = true
  is_short (Some (Whole whole)) = false

  -- the value of a record that is whole
  abbrev pub whole_of : Record H W → Option W
  whole_of (Short head bytes) = None
  whole_of (Whole whole) = Some whole

  -- the bytes of a record that is short
  abbrev pub bytes_of : Record H W → List ℕ
  bytes_of (Short head bytes) = bytes
  bytes_of (Whole whole) = []

  -- the values of those that are whole, and how many bytes the short ones have
  abbrev pub all_wholes : List (Record H W) → List W
  all_wholes rs = filter_map whole_of rs

  abbrev pub count_bytes : List (Record H W) → ℕ
  count_bytes rs = sum_by (λ r. length (bytes_of r)) rs

  -- the values of a log, the oldest first
  abbrev pub log_wholes : PackedLog H W → List W
  log_wholes l = all_wholes (reverse l.before) ++ all_wholes l.behind

-- a record is stored as its head and its bytes, or as its value
abbrev parts_of : {H W : Type 0} → Record H W → (H × List ℕ) ⊎ W
parts_of (Short head bytes) = inl (head, bytes)
parts_of (Whole whole) = inr whole

abbrev record_by : {H W : Type 0} → (H × List ℕ) ⊎ W → Record H W
record_by (inl p) = Short p.0 p.1
record_by (inr whole) = Whole whole

abbrev record_by-parts_of : {H W : Type 0} (r : Record H W) → record_by (parts_of r) ≡ r
record_by-parts_of (Short head bytes) = refl
record_by-parts_of (Whole whole) = refl

abbrev pub record_code : {H W : Type 0} → Coded H → Coded W → Coded (Record H W)
record_code {H} {W} h w = code_by ((H × List ℕ) ⊎ W) (coded⊎ (coded× h (coded_list coded_ℕ)) w) parts_of record_by record_by-parts_of

-- a log as the tuple of its fields
abbrev pub packed_log_code : {H W : Type 0} → Coded H → Coded W → Coded (PackedLog H W)
packed_log_code {H} {W} h w =
    code_by
    (List (Record H W) × (List (Record H W) × Bool))
    (coded× (coded_list (record_code h w)) (coded× (coded_list (record_code h w)) coded_bool))
    (λ l. (l.before, (l.behind, l.place)))
    (λ p. record { before = p.0; behind = p.1.0; place = p.1.1 })
    (λ _. refl)
