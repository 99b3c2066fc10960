-- Blocks that come in or go, each under its handle.
use Rattle.std.specs.Prelude.{ℕ, List, map}
use Rattle.geos_model.specs.Document.{Block}
use Rattle.document_file.specs.declared.member.BlockImage.{BlockImage}
use Rattle.document_file.specs.declared.member.Member.{Member}

-- a saved block, as the document had it
abbrev pub imaged_block : BlockImage → Block
imaged_block s = record { attributes = s.attributes; body = s.image }

-- these blocks as the document had them, or has them then
abbrev pub imaged_blocks : List Member → List (ℕ × Block)
imaged_blocks ms = map (λ m. (m.handle.0, imaged_block m.block)) ms
