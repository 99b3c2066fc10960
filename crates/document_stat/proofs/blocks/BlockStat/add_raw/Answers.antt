use Rattle.std.proofs.Common.{ℕ, ◌∷◌, [], refl, subst}
use Rattle.document_stat.specs.Tallies.{AddsItems}
use Rattle.document_stat.specs.declared.tally.Subject.TheVariants as subjects
use Rattle.document_stat.specs.declared.tally.Item.{Item}
use Rattle.document_stat.proofs.Adding.{raw_adds}
use Rattle.document_stat.proofs.blocks.BlockStat.add_raw.Goals as goal

pub returns : goal.returns
returns c attributes bytes same =
    let item : ℕ → Item = λ n. record { subject = subjects.Block c.args.block; size = n } in
    raw_adds c.args.block.0 attributes bytes c.args.self.now _ (subst (λ (n : ℕ). AddsItems (item n ∷ []) c.args.self.now.raw c.with-self.result) same c.with-self.ensures) refl refl refl
