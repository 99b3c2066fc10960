use Rattle.std.proofs.Common.{rules, ◌+◌, ◌<◌, ℕ, min, ap, ◌∙◌}
use Rattle.document_stat.proofs.Tallies.{tally_with}
use Rattle.document_stat.proofs.tally.Tally.with.Goals as goal

pub returns : goal.returns
returns c =
    let small : c.args.item.size < 4294967296 = search rules in
    record {
      tally = λ done few is.
          tally_with done c.args.item c.args.self _ few is small c.args.self.bounded c.saturating_add.ensures
          (c.saturating_add-2.ensures ∙ ap (λ (n : ℕ). min (c.args.self.sum + n) 18446744073709551615) c.from.ensures) (c.larger.ensures done is.largest);
    }
