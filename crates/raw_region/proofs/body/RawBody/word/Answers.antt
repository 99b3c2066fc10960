use Rattle.std.proofs.Common.{ℕ, List, length, arith, sym, ap, ◌∙◌}
use Rattle.std.proofs.lemmas.List.{length-take}
use Rattle.geos_model.specs.Words.{word_at}
use Rattle.raw_region.proofs.Puts.{word-take}
use Rattle.raw_region.proofs.body.RawBody.word.Goals as goal

pub returns : goal.returns
returns c =
    let s = c.self.inside in
    let used = ap length (sym c.self.view_is) ∙ length-take s.len s.region in
    c.word.ensures ∙ (sym (word-take s.region c.args.at s.len (omega (arith, used, c.requires))) ∙ ap (λ (l : List ℕ). word_at l c.args.at) c.self.view_is)
