use Rattle.std.proofs.Common.{◌∙◌, ap, length, length-take-le, arith}
use Rattle.geos_model.proofs.Arrays.{length-array_bytes}
use Rattle.std.proofs.lemmas.List.{take_rest}
use Rattle.chunk_arrays.proofs.DraftingLemmas.{adds-as}
use Rattle.chunk_arrays.proofs.RewrittenLemmas.{head-added}
use Rattle.chunk_arrays.proofs.rewriting.draft_head.Goals as goal

pub slice_bounds-put_word-end : goal.slice_bounds-put_word-end
slice_bounds-put_word-end c =
    let long = ap length c.bytes-header.ensures ∙ length-array_bytes c.args.view.now.array in
    omega (arith, long, length-take-le 2 c.bytes-header.result.now (omega (arith, long)))

pub slice_bounds-keep-end : goal.slice_bounds-keep-end
slice_bounds-keep-end c =
    let long = ap length c.bytes-header.ensures ∙ length-array_bytes c.args.view.now.array in
    omega (arith, long)

pub put_word-requires-clause-two : goal.put_word-requires-clause-two
put_word-requires-clause-two c =
    let long = ap length c.bytes-header.ensures ∙ length-array_bytes c.args.view.now.array in
    length-take-le 2 c.bytes-header.result.now (omega (arith, long))

pub draft_first-requires-clause-alike : goal.draft_first-requires-clause-alike
draft_first-requires-clause-alike c =
    let all = ap length c.extra-extra.ensures in
    let short = c.requires.extra in
    length-take-le (length c.args.first.now) c.extra-extra.result.now (omega (arith, all, short))

pub returns : goal.returns
returns c =
    let rest = take_rest c.extra-extra.result.now (length c.args.first.now) in
    head-added c.args.view.now.array c.args.count c.args.first.now c.bytes-header.result.now c.extra-extra.result.now c.bytes-header.ensures c.extra-extra.ensures c.requires.extra
    c.args.draft.now c.put_word.new.self c.keep.new.self c.draft_first.new.draft c.keep-2.new.self
    c.in_ok-put_word.ensures c.keep.ensures c.in_ok-draft_first.ensures (adds-as c.draft_first.new.draft c.keep-2.new.self _ _ _ _ rest rest c.keep-2.ensures)
