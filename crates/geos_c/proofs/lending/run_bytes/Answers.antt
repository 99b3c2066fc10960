use Rattle.std.proofs.Common.{true, length, ap, arith, length-drop, ◌∙◌, ◌-◌, drop}
use Rattle.std.proofs.lemmas.List.{take_all}
use Rattle.geos_c.proofs.LendingLemmas.{is_lent, lent_is}
use Rattle.geos_c.proofs.lending.run_bytes.Goals as goal

pub unwrap-requires : goal.unwrap-requires
unwrap-requires g c = is_lent c.locked_raw.result _ (c.locked_raw.ensures true ∙ c.requires.lent true)

pub slice_bounds-result-count : goal.slice_bounds-result-count
slice_bounds-result-count g c =
    let is = ap length (lent_is c.locked_raw.result c.unwrap.result _ c.unwrap.ensures (c.locked_raw.ensures true ∙ c.requires.lent true)) in
    let within = c.requires.within in
    omega (arith, is, within)

pub slice_bounds-result-start : goal.slice_bounds-result-start
slice_bounds-result-start g c = slice_bounds-result-count g c

pub returns : goal.returns
returns g c =
    let at = c.args.place.start in
    let cut = length-drop at c.unwrap.result.now in
    take_all (length c.unwrap.result.now - at) (drop at c.unwrap.result.now) (omega (arith, cut))
    ∙ ap (drop at) (lent_is c.locked_raw.result c.unwrap.result _ c.unwrap.ensures (c.locked_raw.ensures true ∙ c.requires.lent true))
