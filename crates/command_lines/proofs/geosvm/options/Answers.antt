use Rattle.std.proofs.Common.{map, sym}
use Rattle.clap.specs.Words.{found_of, kind_of, rows_of}
use Rattle.command_lines.specs.Options.{line_of_options}
use Rattle.command_lines.proofs.FlagWords.{asked_checksums, asked_new}
use Rattle.command_lines.proofs.Telling.{line_is, refused, same_target}
use Rattle.command_lines.proofs.geosvm.options.Goals as goal

pub returns-in-Err-clause-err : goal.returns-in-Err-clause-err
returns-in-Err-clause-err g c =
    refused (map g.S.AsStr.text c.args.words.now) (kind_of c.in-Err.error) c.no_options.result c.in-Err.ensures.kinds c.no_options.ensures

pub returns-then-eq-clause-err : goal.returns-then-eq-clause-err
returns-then-eq-clause-err g c =
    let line = line_of_options c.told-options.result in (
      line,
      line_is (map g.S.AsStr.text c.args.words.now) (rows_of (found_of c.in-Ok.matches)) line c.in-Ok.ensures.kinds c.in-Ok.ensures.rows c.told-options.ensures.said,
      same_target c.told-options.result.target c.told-options.result.file (sym c.if-eq.ensures),
    )

pub returns-clause-new : goal.returns-clause-new
returns-clause-new g c is_new =
    asked_new (map g.S.AsStr.text c.args.words.now) (rows_of (found_of c.in-Ok.matches)) (line_of_options c.told-options.result) c.in-Ok.ensures.rows
    c.told-options.ensures.said is_new

pub returns-clause-checksums : goal.returns-clause-checksums
returns-clause-checksums g c asks =
    asked_checksums (map g.S.AsStr.text c.args.words.now) (rows_of (found_of c.in-Ok.matches)) (line_of_options c.told-options.result) c.in-Ok.ensures.rows
    c.told-options.ensures.said asks
