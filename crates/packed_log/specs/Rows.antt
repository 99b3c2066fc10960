-- What a contract sees of a row: its items before a cursor, the oldest first, and behind it, the next first, and how
-- many have room at the cursor, if those behind it give way.
use Rattle.std.specs.Prelude.{ℕ, ◌-◌, List, length, take, drop, refl}
use Rattle.std.specs.Coded.{Coded, code_by, coded×, coded_list, coded_ℕ}

pub record Row (T : Type 0) : Type 0 where
  pub before : List T
  pub behind : List T
  pub room : ℕ

abbrev pub row_code : {T : Type 0} → Coded T → Coded (Row T)
row_code {T} t =
    code_by
    (List T × (List T × ℕ))
    (coded× (coded_list t) (coded× (coded_list t) coded_ℕ))
    (λ r. (r.before, (r.behind, r.room)))
    (λ p. record { before = p.0; behind = p.1.0; room = p.1.1 })
    (λ _. refl)

module _ {T : Type 0} where
  -- the last so many, and those in front of them
  abbrev pub last_of : ℕ → List T → List T
  last_of count xs = drop (length xs - count) xs

  abbrev pub without_last : ℕ → List T → List T
  without_last count xs = take (length xs - count) xs
