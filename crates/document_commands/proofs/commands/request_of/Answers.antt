use Rattle.clap.specs.Words.{found_of, rows_of}
use Rattle.document_commands.proofs.Entered.{asked_by, file_named, second_named}
use Rattle.document_commands.proofs.commands.request_of.Goals as goal

pub returns-in-check : goal.returns-in-check
returns-in-check c =
    let f = found_of c.in_ok-name.matches.now in
    asked_by c.args.matches.now c.in_ok-name.name.now (rows_of f) _ c.in_ok-name.ensures.name c.in_ok-name.ensures.rows (c.in-check.is, file_named f c.in_ok-file.file.now c.in_ok-file.ensures)

pub returns-in-dump : goal.returns-in-dump
returns-in-dump c =
    let f = found_of c.in_ok-name.matches.now in
    asked_by c.args.matches.now c.in_ok-name.name.now (rows_of f) _ c.in_ok-name.ensures.name c.in_ok-name.ensures.rows (c.in-dump.is, c.dumped.ensures, file_named f c.in_ok-file.file.now c.in_ok-file.ensures)

pub returns-in-stat : goal.returns-in-stat
returns-in-stat c =
    let f = found_of c.in_ok-name.matches.now in
    asked_by c.args.matches.now c.in_ok-name.name.now (rows_of f) _ c.in_ok-name.ensures.name c.in_ok-name.ensures.rows (c.in-stat.is, c.form.ensures, file_named f c.in_ok-file.file.now c.in_ok-file.ensures)

pub returns-in-map : goal.returns-in-map
returns-in-map c =
    let f = found_of c.in_ok-name.matches.now in
    asked_by c.args.matches.now c.in_ok-name.name.now (rows_of f) _ c.in_ok-name.ensures.name c.in_ok-name.ensures.rows (c.in-map.is, c.picture.ensures, file_named f c.in_ok-file.file.now c.in_ok-file.ensures)

pub returns-in-salvage : goal.returns-in-salvage
returns-in-salvage c =
    let f = found_of c.in_ok-name.matches.now in
    asked_by c.args.matches.now c.in_ok-name.name.now (rows_of f) _ c.in_ok-name.ensures.name c.in_ok-name.ensures.rows (c.in-salvage.is, c.taken.ensures, file_named f c.in_ok-file.file.now c.in_ok-file.ensures)

pub returns-in-restore : goal.returns-in-restore
returns-in-restore c =
    let f = found_of c.in_ok-name.matches.now in
    asked_by c.args.matches.now c.in_ok-name.name.now (rows_of f) _ c.in_ok-name.ensures.name c.in_ok-name.ensures.rows (c.in-restore.is, c.checksums.ensures, file_named f c.in_ok-file.file.now c.in_ok-file.ensures)

pub returns-in_ok-second-in-diff : goal.returns-in_ok-second-in-diff
returns-in_ok-second-in-diff c =
    let f = found_of c.in_ok-name.matches.now in
    asked_by c.args.matches.now c.in_ok-name.name.now (rows_of f) _ c.in_ok-name.ensures.name c.in_ok-name.ensures.rows
    (c.in-diff.is, c.compared.ensures, file_named f c.in_ok-file.file.now c.in_ok-file.ensures, second_named f c.in_ok-second-in-diff.second.now c.in_ok-second-in-diff.ensures)
