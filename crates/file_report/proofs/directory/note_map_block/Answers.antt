use Rattle.file_report.proofs.FindingsLemmas.{noted, map_block_seen}
use Rattle.file_report.proofs.directory.note_map_block.Goals as goal

pub returns : goal.returns
returns c =
    noted _ _ _ _ _ (λ no. let wrong = c.is_map_block-listed.ensures no in map_block_seen c.args.file_version c.args.file_length c.args.bytes.now c.args.name (record { 0 = c.map_block_of-map_block.result }) (record { is = c.map_block_of-map_block.ensures; some = wrong.0; unlisted = wrong.1 })) c.in_ok-note_unless.ensures.found
