use Rattle.std.proofs.Common.{◌≡◌, ◌<◌, ℕ, List, Bool, true, false, length, replicate, refl, arith, sym, ◌∙◌}
use Rattle.std.proofs.lemmas.Bool.{lt-leb}
use Rattle.std.proofs.lemmas.List.{length-replicate}
use Rattle.geos_model.specs.Heap.{ChunkMap, fits_with, capacity}
use Rattle.vm_blocks.proofs.RoomLemmas.{fits_as, fits_few}
use Rattle.vm_blocks.proofs.part.has_room_for_new.Goals as goal

-- no heap has room for very many
fits_not : (m : ChunkMap) (h : ℕ) (bytes : List ℕ) → capacity < length bytes → fits_with m h bytes ≡ false
fits_not m h bytes many = of (fits_with m h bytes) refl
  where
    of : (b : Bool) → fits_with m h bytes ≡ b → b ≡ false
    of true is = let few = fits_few h bytes m is in absurd (omega (arith, few, many))
    of false is = refl

pub returns-then-n-le-SIZE : goal.returns-then-n-le-SIZE
returns-then-n-le-SIZE c = λ bytes long.
    c.fits_at.ensures ∙ fits_as c.args.chunk.0 (replicate c.args.n 0) bytes c.args.heap.now.chunks (length-replicate {A = ℕ} c.args.n 0 ∙ sym long)

pub returns-else-n-le-SIZE : goal.returns-else-n-le-SIZE
returns-else-n-le-SIZE c = λ bytes long.
    lt-leb c.args.n capacity c.if-n-le-SIZE.false ∙ sym (fits_not c.args.heap.now.chunks c.args.chunk.0 bytes (omega (arith, long, c.if-n-le-SIZE.false)))
