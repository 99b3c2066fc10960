use Rattle.std.proofs.Common.{◌≤◌, length, refl, ap, subst, sym, ◌∙◌, arith}
use Rattle.file_format.specs.File.{blocks_of_entries}
use Rattle.file_format.proofs.Files.{is_directory-parts}
use Rattle.file_format.specs.Listed.{as_directory}
use Rattle.document_stat.specs.Counted.{Blocks, IsBlockStat}
use Rattle.document_stat.proofs.Files.{document_made, made_of}
use Rattle.document_stat.proofs.ValidBlocks.{are_blocks, entries_made, few_rising, stat_of}
use Rattle.document_stat.proofs.file_stat.count_document.Goals as goal

pub returns-clause-ok : goal.returns-clause-ok
returns-clause-ok g c = λ so version n formed.
    let d = as_directory c.args.directory.now in
    let file = (g.S.Store.facts c.args.store.now).content in
    let stat = c.in_ok-blocks.blocks in
    let counted = c.in_ok-blocks.ensures.ok so in
    let bs = counted.0 in
    let there = ap (blocks_of_entries file) (sym c.deref.ensures.value) ∙ counted.1 in
    let parts = is_directory-parts version n d formed in
    let are = are_blocks file 0 d.entries bs there parts.rising in
    let few = few_rising version n d.version 0 d.entries (omega arith) parts.rising parts.entries in
    let count = are.count in
    let small : length bs ≤ 8192 = omega (arith, few, count) in (
      made_of d.map_block bs,
      document_made file d bs there,
      record { map_block = refl; blocks = subst (λ (l : Blocks). IsBlockStat l stat) (sym (entries_made bs are.sorted)) (stat_of bs stat small are.valid counted.2) },
    )
