-- What a body ends as, once a `&mut` to a run of its bytes has ended.
use Rattle.std.specs.Prelude.{ℕ, List, take}
use Rattle.std.specs.Borrow.{Lends, MutBor, Fml, Array, u8}
use Rattle.raw_region.specs.Bytes.{put}
use Rattle.raw_region.specs.contracts.body.RawBody.{the_row}

abbrev pub lends_body_run : MutBor (List ℕ) → ℕ → ℕ → MutBor (List ℕ) → Fml
lends_body_run r at n s = Lends the_row (Array u8 0) r s (λ bytes. put r.now at (take n bytes))
