use Rattle.std.proofs.Common.{◌++◌, List, ℕ, ap₂, refl, ◌∙◌, length}
use Rattle.file_format.specs.File.{header_text}
use Rattle.file_format.proofs.DirectoryLemmas.{text-more}
use Rattle.file_format.proofs.directory.write_dir.Goals as goal

pub loop-entry-preserved : goal.loop-entry-preserved
loop-entry-preserved c =
    c.in_ok-push_entry.ensures.pushed
    ∙ ap₂ (λ (xs ys : List ℕ). xs ++ ys) c.loop-entry.invariant refl
    ∙ text-more c.args.version (header_text c.args.version (length c.args.entries.now) c.args.map_block.0) c.args.entries.now c.loop-entry.entry-index _ c.loop-entry-test.true
