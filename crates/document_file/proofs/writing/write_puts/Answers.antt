use Rattle.std.proofs.Common.{◌++◌, length, sym, subst, arith}
use Rattle.document_file.specs.Slots.{block_extents, referenced_extents}
use Rattle.document_file.specs.Writing.{AreFor, Fills}
use Rattle.document_file.proofs.RangesLemmas.{all_right}
use Rattle.document_file.proofs.WritingLemmas.{for_fewer, spared_images}
use Rattle.document_file.proofs.writing.write_puts.Goals as goal

pub place_images-requires : goal.place_images-requires
place_images-requires g c = let count = c.in_ok-space.ensures.count in let few = c.requires.few in omega (arith, count, few)

pub write_images-requires-clause-extents : goal.write_images-requires-clause-extents
write_images-requires-clause-extents g c =
    let live = block_extents c.args.live.now in
    let kept = referenced_extents c.args.slots.now in
    let puts = c.args.puts.now in
    subst (AreFor kept puts (length puts)) (sym c.deref.ensures.value)
    (for_fewer (live ++ kept) kept puts (length puts) c.in_ok-extents.extents.items (λ P all. all_right P live kept all) (c.in_ok-extents.ensures.found (live ++ kept) c.in_ok-space.ensures c.requires.few_long))

pub returns-clause-spared : goal.returns-clause-spared
returns-clause-spared g c = λ so.
    spared_images c.args.slots.now (block_extents c.args.live.now) c.args.puts.now c.in_ok-extents.extents.items _ _ (c.in_ok-extents.ensures.found (block_extents c.args.live.now ++ referenced_extents c.args.slots.now) c.in_ok-space.ensures c.requires.few_long)
    (subst (λ es. Fills c.args.slots.now es (g.S.Store.facts c.args.store.now) (g.S.Store.facts c.write_images.new.store)) c.deref.ensures.value (c.write_images.ensures.fills so))

pub returns-clause-found : goal.returns-clause-found
returns-clause-found g c = c.in_ok-extents.ensures.found (block_extents c.args.live.now ++ referenced_extents c.args.slots.now) c.in_ok-space.ensures c.requires.few_long

pub returns-clause-known : goal.returns-clause-known
returns-clause-known g c = c.in_ok-extents.ensures.taken (block_extents c.args.live.now ++ referenced_extents c.args.slots.now) c.in_ok-space.ensures

pub returns-in_err-write_images-clause-spared : goal.returns-in_err-write_images-clause-spared
returns-in_err-write_images-clause-spared g c = λ so.
    spared_images c.args.slots.now (block_extents c.args.live.now) c.args.puts.now c.in_ok-extents.extents.items _ _ (c.in_ok-extents.ensures.found (block_extents c.args.live.now ++ referenced_extents c.args.slots.now) c.in_ok-space.ensures c.requires.few_long)
    (subst (λ es. Fills c.args.slots.now es (g.S.Store.facts c.args.store.now) (g.S.Store.facts c.write_images.new.store)) c.deref.ensures.value (c.write_images.ensures.fills so))
