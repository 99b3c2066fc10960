use Rattle.std.proofs.Common.{◌≡◌, ◌++◌, ℕ, List, flat_map}
use Rattle.geos_model.specs.Document.{Document, empty_document}
use Rattle.document_dump.specs.Lines.{text}
use Rattle.document_dump.specs.Changes.{block_freed, blocks_freed}
use Rattle.document_dump.specs.Entries.{IsListedAs}
use Rattle.document_dump.proofs.Handles.{handles_above}
use Rattle.document_dump.proofs.entries.push_all_unlisted.Given as goal

abbrev pub invariant-loop-i : goal.invariant-loop-i
invariant-loop-i l = (file : List ℕ) (map_block : ℕ) (d : Document) → IsListedAs file map_block l.entries d
    → l.out.items ++ text (flat_map (block_freed empty_document d l.last) (handles_above l.i)) ≡ l.fn.out.items ++ text (blocks_freed empty_document d l.last)
