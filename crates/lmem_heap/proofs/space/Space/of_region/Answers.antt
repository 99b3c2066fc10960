use Rattle.std.proofs.Common.{[], refl, sym, ◌∙◌, arith}
use Rattle.lmem_heap.proofs.space.Space.of_region.Goals as goal

pub returns-clause-well_formed : goal.returns-clause-well_formed
returns-clause-well_formed c = record {
  pieces = [];
  free = [];
  held = record {
    tiled = record { long = sym c.len-low.ensures.all ∙ c.len-low.ensures.size; table = omega arith; lies = c.len-low.ensures.size; points = tt; shaped = tt; distinct = tt; covered = λ i l. absurd (omega arith) };
    chain = refl;
    spare = tt;
    apart = tt;
    all = refl;
    count = refl;
  };
}
