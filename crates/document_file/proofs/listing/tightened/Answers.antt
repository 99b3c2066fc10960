use Rattle.std.proofs.Common.{subst, ◌<◌, ℕ}
use Rattle.geos_model.proofs.Tables.{first_gap_below}
use Rattle.document_file.proofs.listing.tightened.Goals as goal

pub returns : goal.returns
returns c = record {
  full = λ k low. first_gap_below c.args.places.now k (subst (λ (n : ℕ). k < n) c.first_free.ensures low);
  past = c.live_end.ensures.past;
  within = c.live_end.ensures.within;
}
