use Rattle.std.proofs.Common.{◌≡◌, ◌≤◌, length, ap, arith}
use Rattle.std.proofs.lemmas.Bool.{leb-true, le-leb}
use Rattle.geos_model.specs.Heap.{capacity}
use Rattle.chunk_edits.specs.Patching.{directed_pieces, peak, total_taken}
use Rattle.vm_blocks.proofs.PartLemmas.{directed_peak}
use Rattle.vm_blocks.proofs.part.raw_patch_allows.Goals as goal

pub returns-then-size_before-bytes : goal.returns-then-size_before-bytes
returns-then-size_before-bytes c =
    let ps = directed_pieces c.args.direction c.args.patch.now in
    let same : peak ps ≡ peak c.args.patch.now = directed_peak c.args.direction c.args.patch.now in
    let size : total_taken ps ≡ length c.args.body.now =
    omega (arith, c.size_before.ensures, c.if-size_before-bytes.true, c.bytes.ensures.len, ap length c.bytes.ensures.value) in (
      λ few.
          let cut : c.peak.result ≤ capacity = leb-true c.peak.result capacity few in
          record { size = size; room = omega (arith, cut, same, c.peak.ensures) },
      λ allows. le-leb c.peak.result capacity (omega (arith, allows.room, same, c.peak.ensures)),
    )
