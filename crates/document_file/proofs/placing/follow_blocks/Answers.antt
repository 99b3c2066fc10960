use Rattle.std.proofs.Common.{◌∷◌, [], ◌++◌, Option, sym, subst}
use Rattle.document_file.specs.FreeSpace.{TakesPlaceOf, AreAmongTaken}
use Rattle.document_file.specs.Slots.{block_extents}
use Rattle.document_file.specs.declared.table.Place.{Place}
use Rattle.document_file.proofs.FollowLemmas.{among_first, block_of, walk_among, walk_few, walk_more}
use Rattle.document_file.proofs.placing.follow_blocks.Goals as goal

pub follow_place-requires-clause-few : goal.follow_place-requires-clause-few
follow_place-requires-clause-few c =
    walk_few c.args.old.now c.args.new.now c.loop-at.at c.args.space.now c.loop-at.space c.loop-at.invariant _
    (among_first (block_extents c.args.old.now) (block_extents c.args.new.now) c.args.space.now c.requires.taken) c.requires.few

pub follow_place-requires-clause-taken : goal.follow_place-requires-clause-taken
follow_place-requires-clause-taken c =
    subst (λ (o : Option Place). AreAmongTaken (block_extents (o ∷ []) ++ block_extents (c.place_at-in-loop-at.result ∷ [])) c.loop-at.space) (sym c.place_at.ensures)
    (subst (λ (o : Option Place). AreAmongTaken (block_of c.args.old.now c.loop-at.at ++ block_extents (o ∷ [])) c.loop-at.space) (sym c.place_at-in-loop-at.ensures)
    (walk_among c.args.old.now c.args.new.now c.loop-at.at c.args.space.now c.loop-at.space c.loop-at.invariant c.requires.taken))

pub loop-at-preserved : goal.loop-at-preserved
loop-at-preserved c =
    walk_more c.args.old.now c.args.new.now c.loop-at.at c.args.space.now c.loop-at.space c.loop-at.invariant c.follow_place.new.space
    (subst (λ (o : Option Place). TakesPlaceOf (block_of c.args.old.now c.loop-at.at) (block_extents (o ∷ [])) c.loop-at.space c.follow_place.new.space) c.place_at-in-loop-at.ensures
    (subst (λ (o : Option Place). TakesPlaceOf (block_extents (o ∷ [])) (block_extents (c.place_at-in-loop-at.result ∷ [])) c.loop-at.space c.follow_place.new.space) c.place_at.ensures c.follow_place.ensures.followed))
