-- How records lie in three rows: their marks, the bytes of those that are short, and the values of those that are
-- whole.
use Rattle.std.specs.Prelude.{◌≡◌, ◌&&◌, ℕ, List, [], ◌∷◌, ◌++◌, length, reverse, map, take, drop, nat_lt}
use Rattle.packed_log.specs.declared.mark.Mark.{Mark}
use Rattle.packed_log.specs.declared.mark.Mark.TheVariants as mark
use Rattle.packed_log.specs.Records.{PackedLog, Record, Short, Whole, all_wholes, bytes_of}
use Rattle.packed_log.specs.Rows.{Row}

module _ {H W : Type 0} where
  -- a record as it is marked
  abbrev pub mark_of : Record H W → Mark H
  mark_of (Short head bytes) = mark.Short (length bytes) head
  mark_of (Whole whole) = mark.Whole

  -- the bytes of the short ones, behind each other
  abbrev pub all_bytes : List (Record H W) → List ℕ
  all_bytes [] = []
  all_bytes (r ∷ rs) = bytes_of r ++ all_bytes rs

  -- the records of these marks, bytes and values; what is left over is ignored, and what is wanting left out
  abbrev pub records_of : List (Mark H) → List ℕ → List W → List (Record H W)
  records_of [] bytes wholes = []
  records_of (mark.Short len head ∷ marks) bytes wholes = Short head (take len bytes) ∷ records_of marks (drop len bytes) wholes
  records_of (mark.Whole ∷ marks) bytes [] = []
  records_of (mark.Whole ∷ marks) bytes (whole ∷ wholes) = Whole whole ∷ records_of marks bytes wholes

  -- these marks, bytes and values are just those of the records
  pub record Holds (rs : List (Record H W)) (marks : List (Mark H)) (bytes : List ℕ) (wholes : List W) : Type 0 where
    pub marked : marks ≡ map mark_of rs
    pub in_bytes : bytes ≡ all_bytes rs
    pub in_wholes : wholes ≡ all_wholes rs

  -- just those of some records
  abbrev pub AreRecords : List (Mark H) → List ℕ → List W → Type 0
  AreRecords marks bytes wholes = Holds (records_of marks bytes wholes) marks bytes wholes

  -- so it is before the cursor and behind it
  pub record AreSettled (marks : Row (Mark H)) (bytes : Row ℕ) (wholes : Row W) : Type 0 where
    pub before : AreRecords marks.before bytes.before wholes.before
    pub behind : AreRecords marks.behind bytes.behind wholes.behind

  -- the log of three rows
  abbrev pub log_of : Row (Mark H) → Row ℕ → Row W → PackedLog H W
  log_of marks bytes wholes = record {
    before = reverse (records_of marks.before bytes.before wholes.before);
    behind = records_of marks.behind bytes.behind wholes.behind;
    place = nat_lt 0 marks.room && nat_lt 0 wholes.room;
  }
