use Rattle.std.proofs.Common.{ℕ, ◌-◌, ◌<◌, ◌++◌, ◌∷◌, [], List, Some, None, get_or, set, length, refl, arith}
use Rattle.file_format.specs.declared.file.Extent.{Extent}
use Rattle.document_file.specs.Slots.{block_extents, referenced_extents}
use Rattle.document_file.proofs.FreeSpaceLemmas.{known-put, known_rest}
use Rattle.document_file.proofs.table.move_block.Goals as goal

pub give_back-requires : goal.give_back-requires
give_back-requires c =
    let at : ℕ = c.from-at.result - 1 in
    let places = c.args.places.now in
    let kept : List Extent = referenced_extents c.args.slots.now in
    let inside : at < length places = omega (arith, c.requires.some, c.requires.room, c.from-at.ensures) in
    known_rest (block_extents (get_or places at None ∷ [])) (block_extents (set places at (Some c.args.place)) ++ kept) c.args.space.now
    (known-put places at c.args.place.extent c.args.place [] kept c.args.space.now inside refl c.requires.known)

pub returns-clause-known : goal.returns-clause-known
returns-clause-known c =
    let at : ℕ = c.from-at.result - 1 in
    let places = c.args.places.now in
    let kept : List Extent = referenced_extents c.args.slots.now in
    let inside : at < length places = omega (arith, c.requires.some, c.requires.room, c.from-at.ensures) in
    c.give_back.ensures (block_extents (set places at (Some c.args.place)) ++ kept)
    (known-put places at c.args.place.extent c.args.place [] kept c.args.space.now inside refl c.requires.known)
