-- What look-ups hand out that is no list, and the numbers of handles.
use Rattle.std.specs.Prelude.{◌≡◌, ℕ, ℤ, List, map, pos, if◌then◌else◌}
use Rattle.geos_model.specs.Refusal.{number_of_fault}
use Rattle.geos_model.specs.Reply.{Reply, AreEqual, BlockIs, HeapIs, NumberIs, RawIs, Refused, TokenIs}
use Rattle.geos_c.specs.declared.telling.Handles.{Handles}
use Rattle.geos_c.specs.declared.telling.Handles.TheVariants as lists

-- What a reply tells is handed out; where it is a refusal, 0, and the code is the fault's number.

abbrev pub HandsOutNumber : ℕ → Reply → ℤ → Type 0
HandsOutNumber number (NumberIs n) code = (number ≡ n) × (code ≡ pos 0)
HandsOutNumber number (BlockIs b) code = (number ≡ b) × (code ≡ pos 0)
HandsOutNumber number (TokenIs t) code = (number ≡ t) × (code ≡ pos 0)
HandsOutNumber number (Refused fault) code = (number ≡ 0) × (code ≡ pos (number_of_fault fault))
HandsOutNumber number reply code = ⊥

-- 1 where it is so
abbrev pub HandsOutEqual : ℕ → Reply → ℤ → Type 0
HandsOutEqual equal (AreEqual are_equal) code = (equal ≡ (if are_equal then 1 else 0)) × (code ≡ pos 0)
HandsOutEqual equal (Refused fault) code = (equal ≡ 0) × (code ≡ pos (number_of_fault fault))
HandsOutEqual equal reply code = ⊥

-- 1 for a heap and 0 for a raw block, its user ID and its size
abbrev pub HandsOutInfo : ℕ → ℕ → ℕ → Reply → ℤ → Type 0
HandsOutInfo is_heap user_id size (RawIs uid n) code = (is_heap ≡ 0) × (user_id ≡ uid) × (size ≡ n) × (code ≡ pos 0)
HandsOutInfo is_heap user_id size (HeapIs uid n) code = (is_heap ≡ 1) × (user_id ≡ uid) × (size ≡ n) × (code ≡ pos 0)
HandsOutInfo is_heap user_id size (Refused fault) code =
    (is_heap ≡ 0) × (user_id ≡ 0) × (size ≡ 0) × (code ≡ pos (number_of_fault fault))
HandsOutInfo is_heap user_id size reply code = ⊥

-- the handles of a list, as numbers
abbrev pub numbers_of : Handles → List ℕ
numbers_of (lists.Blocks handles) = map (λ h. h.0) handles.now
numbers_of (lists.Chunks handles) = map (λ h. h.0) handles.now
