-- The bytes of some blocks, as the definitions read them.
use Rattle.std.specs.Prelude.{◌≡◌, ℕ, List, [], ◌∷◌, Some, None, refl}
use Rattle.geos_model.specs.Array.{array_bytes, array_of}
use Rattle.geos_model.specs.LargeLayout.{root_bytes, root_of, branch_bytes, branch_of}

-- the text `hello` in the block 2
hello_root : List ℕ
hello_root = 0xff ∷ 0xff ∷ 0x12 ∷ 0 ∷ 1 ∷ 0 ∷ 0x47 ∷ 0x41 ∷ 0x52 ∷ 0x52 ∷ 1 ∷ 0 ∷ 5 ∷ 0 ∷ 0 ∷ 0 ∷ 5 ∷ 0 ∷ 0 ∷ 0 ∷ 2 ∷ 0 ∷ []

hello-root : root_of hello_root ≡ Some (record { size = 1; counts = 5 ∷ []; branches = 2 ∷ [] })
unfolding hello_root root_of root_bytes
hello-root = refl

hello-branch : branch_of 1 5 (0 ∷ 0 ∷ 5 ∷ 0 ∷ 1 ∷ 0 ∷ 0 ∷ 0 ∷ 8 ∷ 0 ∷ 0x68 ∷ 0x65 ∷ 0x6c ∷ 0x6c ∷ 0x6f ∷ [])
    ≡ Some ((0x68 ∷ []) ∷ (0x65 ∷ []) ∷ (0x6c ∷ []) ∷ (0x6c ∷ []) ∷ (0x6f ∷ []) ∷ [])
unfolding branch_of branch_bytes array_of array_bytes
hello-branch = refl

-- elements of sizes that vary: `ab` and none, and one that the root has another number of
varying-branch : branch_of 0 2 (0 ∷ 0 ∷ 2 ∷ 0 ∷ 0 ∷ 0 ∷ 0 ∷ 0 ∷ 8 ∷ 0 ∷ 12 ∷ 0 ∷ 14 ∷ 0 ∷ 0x61 ∷ 0x62 ∷ []) ≡ Some ((0x61 ∷ 0x62 ∷ []) ∷ [] ∷ [])
unfolding branch_of branch_bytes array_of array_bytes
varying-branch = refl

other_count : branch_of 0 1 (0 ∷ 0 ∷ 2 ∷ 0 ∷ 0 ∷ 0 ∷ 0 ∷ 0 ∷ 8 ∷ 0 ∷ 12 ∷ 0 ∷ 14 ∷ 0 ∷ 0x61 ∷ 0x62 ∷ []) ≡ None
unfolding branch_of branch_bytes array_of array_bytes
other_count = refl

-- `hello` with a total of 6
wrong_total : root_of (0xff ∷ 0xff ∷ 0x12 ∷ 0 ∷ 1 ∷ 0 ∷ 0x47 ∷ 0x41 ∷ 0x52 ∷ 0x52 ∷ 1 ∷ 0 ∷ 6 ∷ 0 ∷ 0 ∷ 0 ∷ 5 ∷ 0 ∷ 0 ∷ 0 ∷ 2 ∷ 0 ∷ []) ≡ None
unfolding root_of root_bytes
wrong_total = refl
