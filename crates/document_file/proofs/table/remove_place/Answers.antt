use Rattle.std.proofs.Common.{ℕ, ◌-◌, ◌<◌, ◌++◌, ◌∷◌, [], List, None, get_or, set, length, arith}
use Rattle.file_format.specs.declared.file.Extent.{Extent}
use Rattle.document_file.specs.Slots.{block_extents, referenced_extents}
use Rattle.document_file.proofs.FreeSpaceLemmas.{known-removed, known_rest}
use Rattle.document_file.proofs.table.remove_place.Goals as goal

pub give_back-requires : goal.give_back-requires
give_back-requires c =
    let at : ℕ = c.from-at.result - 1 in
    let places = c.args.places.now in
    let kept : List Extent = referenced_extents c.args.slots.now in
    let inside : at < length places = omega (arith, c.if-block-ne0.true, c.from.ensures, c.from-at.ensures, c.if-from-places.true) in
    known_rest (block_extents (get_or places at None ∷ [])) (block_extents (set places at None) ++ kept) c.args.space.now (known-removed places at kept c.args.space.now inside c.requires)

pub returns-then-from-places-clause-known : goal.returns-then-from-places-clause-known
returns-then-from-places-clause-known c =
    let at : ℕ = c.from-at.result - 1 in
    let places = c.args.places.now in
    let kept : List Extent = referenced_extents c.args.slots.now in
    let inside : at < length places = omega (arith, c.if-block-ne0.true, c.from.ensures, c.from-at.ensures, c.if-from-places.true) in
    c.give_back.ensures (block_extents (set places at None) ++ kept) (known-removed places at kept c.args.space.now inside c.requires)
