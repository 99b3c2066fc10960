use Rattle.std.specs.Str.Parse.{ParsesUnsigned, ExplainsUnsignedError, HasUnsignedDigitsIfOk}
use Rattle.std.proofs.Common.{◌∙◌, ◌≤◌, ap, codes, subst, sym}
use Rattle.std.specs.Option.{option_map}
use Rattle.clap.specs.Words.{found_of}
use Rattle.command_lines.proofs.Telling.{flag_told, frames_told, limit_told, told_is}
use Rattle.command_lines.proofs.geosvm.told.Goals as goal

pub returns-clause-said : goal.returns-clause-said
returns-clause-said c =
    let found = found_of c.args.matches.now in
    let number = frames_told (λ bs r. ParsesUnsigned 8 10 bs r × ExplainsUnsignedError 10 bs r × HasUnsignedDigitsIfOk bs r) (λ u x h. h.0) found c.get_one.result c.requires
    c.get_one.ensures.none c.get_one.ensures.value in
    let limit = limit_told (λ bs r. ParsesUnsigned 32 10 bs r × ExplainsUnsignedError 10 bs r × HasUnsignedDigitsIfOk bs r) (λ u x h. h.0) found c.get_one-2.result c.requires
    c.get_one-2.ensures.none c.get_one-2.ensures.value in
    told_is found c.get_flag.result c.get_flag-2.result c.get_flag-3.result c.get_flag-4.result c.unwrap_or.result c.get_one-2.result (option_map (λ t. t.now) c.get_str.result) c.unwrap.result.now
    (flag_told found (codes "new") c.get_flag.result c.requires.new c.get_flag.ensures.none c.get_flag.ensures.value c.get_flag.ensures.other)
    (flag_told found (codes "checksums") c.get_flag-2.result c.requires.checksums c.get_flag-2.ensures.none c.get_flag-2.ensures.value c.get_flag-2.ensures.other)
    (flag_told found (codes "bail") c.get_flag-3.result c.requires.bail c.get_flag-3.ensures.none c.get_flag-3.ensures.value c.get_flag-3.ensures.other)
    (flag_told found (codes "echo") c.get_flag-4.result c.requires.echo c.get_flag-4.ensures.none c.get_flag-4.ensures.value c.get_flag-4.ensures.other)
    (c.unwrap_or.ensures ∙ number.is)
    limit.is
    c.get_str.ensures (ap (option_map (λ t. t.now)) (sym c.unwrap.ensures) ∙ c.get_str-2.ensures)

pub returns-clause-cache : goal.returns-clause-cache
returns-clause-cache c =
    let found = found_of c.args.matches.now in
    let number = frames_told (λ bs r. ParsesUnsigned 8 10 bs r × ExplainsUnsignedError 10 bs r × HasUnsignedDigitsIfOk bs r) (λ u x h. h.0) found c.get_one.result c.requires
    c.get_one.ensures.none c.get_one.ensures.value in (
      subst (λ n. 1 ≤ n) (sym c.unwrap_or.ensures) number.low,
      subst (λ n. n ≤ 64) (sym c.unwrap_or.ensures) number.high,
    )

pub returns-clause-undo : goal.returns-clause-undo
returns-clause-undo c =
    let found = found_of c.args.matches.now in
    let told = limit_told (λ bs r. ParsesUnsigned 32 10 bs r × ExplainsUnsignedError 10 bs r × HasUnsignedDigitsIfOk bs r) (λ u x h. h.0) found c.get_one-2.result c.requires
    c.get_one-2.ensures.none c.get_one-2.ensures.value in
    told.limit
