use Rattle.std.proofs.Common.{◌≡◌, ◌-◌, ◌++◌, ◌∙◌, ap, List, Option, ℕ, None, replicate, length, arith}
use Rattle.lmem_heap.specs.Tiled.{chunks_in}
use Rattle.lmem_heap.proofs.StoredLemmas.{shown, space_shown}
use Rattle.lmem_heap.proofs.table.ChunkTable.grow.Goals as goal

pub open_below-requires-clause-fits : goal.open_below-requires-clause-fits
open_below-requires-clause-fits c = omega (arith, c.requires.room, space_shown c.self.inside.space c.args.self.now c.self.invariant c.self.view_is)

pub lengthen-requires-clause-more : goal.lengthen-requires-clause-more
lengthen-requires-clause-more c = omega (arith, c.requires.more, c.open_below.ensures.same.slots, (shown c.self.inside.space c.args.self.now c.self.view_is).count)

pub returns : goal.returns
returns c =
    let s = c.self.inside.space in let v = shown s c.args.self.now c.self.view_is in let u = c.lengthen.new.self in
    let count : c.args.n - c.open_below.new.self.slots ≡ c.args.n - length c.args.self.now.chunks = omega (arith, c.open_below.ensures.same.slots, v.count) in
    ap (λ (t : ℕ). chunks_in u.region t) c.lengthen.ensures.slots ∙ (c.lengthen.ensures.chunks
    ∙ (ap (λ (cs : List (Option (List ℕ))). cs ++ replicate (c.args.n - c.open_below.new.self.slots) None) (c.open_below.ensures.same.chunks ∙ v.chunks)
    ∙ ap (λ (k : ℕ). c.args.self.now.chunks ++ replicate k None) count))
