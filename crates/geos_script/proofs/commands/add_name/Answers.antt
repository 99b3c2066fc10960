use Rattle.std.proofs.Common.{refl, inl}
use Rattle.std.proofs.lemmas.Result.{err_from_is_err_and}
use Rattle.geos_model.specs.Script.{words}
use Rattle.geos_script.proofs.AddingNames.{all_five, no_block, no_chunk, no_flag, no_name, no_name_word, no_part, no_part_bytes, no_part_word, none_of, some_of, unkept}
use Rattle.geos_script.proofs.commands.add_name.Goals as goal

pub returns-in_err-block : goal.returns-in_err-block
returns-in_err-block c =
    let r = c.from_residual.ensures.1 in
    let p = err_from_is_err_and c.from_residual.result r in
    rw (p.1, p.2) (inl (c.in_err-block.ensures.0, no_block (words c.args.text.now) c.in_err-block.ensures.1))

pub returns-in_err-chunk : goal.returns-in_err-chunk
returns-in_err-chunk c =
    let r = c.from_residual-in_err-chunk in
    let p = err_from_is_err_and r.result r.ensures.1 in
    rw (p.1, p.2) (inl (c.in_err-chunk.ensures.0, no_chunk (words c.args.text.now) _ _ c.in_ok-block.ensures c.in_err-chunk.ensures.1))

pub returns-in_default : goal.returns-in_default
returns-in_default c = inl (refl, no_name_word (words c.args.text.now) _ _ c.in_ok-block.ensures _ _ c.in_ok-chunk.ensures c.in_default.ensures)

pub returns-in_default-next_word : goal.returns-in_default-next_word
returns-in_default-next_word c =
    inl (refl, no_part_word (words c.args.text.now) _ _ c.in_ok-block.ensures _ _ c.in_ok-chunk.ensures _ _ c.in-Some.ensures c.in_default-next_word.ensures)

pub returns-in_err-replace : goal.returns-in_err-replace
returns-in_err-replace c =
    let r = c.from_residual-in_err-replace in
    let p = err_from_is_err_and r.result r.ensures.1 in
    let none = unkept _ _ c.in_err-replace.ensures in
    rw (p.1, p.2) (inl (none.0, no_flag (words c.args.text.now) _ _ c.in_ok-block.ensures _ _ c.in_ok-chunk.ensures _ _ c.in-Some.ensures _ _ c.in-Some-next_word.ensures none.1))

pub returns-then-not-spells_bytes : goal.returns-then-not-spells_bytes
returns-then-not-spells_bytes c =
    inl (
      refl,
      no_part_bytes (words c.args.text.now) _ _ c.in_ok-block.ensures _ _ c.in_ok-chunk.ensures _ _ c.in-Some.ensures _ _ c.in-Some-next_word.ensures
          (none_of _ c.if-not-spells_bytes.ensures),
    )

-- The name failed: it has bytes, or the line is no command.
pub returns-in_err-name : goal.returns-in_err-name
returns-in_err-name c =
    let r = c.from_residual-in_err-name in
    let p = err_from_is_err_and r.result r.ensures.1 in
    let part = some_of _ c.if-not-spells_bytes.ensures in
    rw (p.1, p.2)
    (no_name (words c.args.text.now) _ _ c.in_ok-block.ensures _ _ c.in_ok-chunk.ensures _ _ c.in-Some.ensures _ _ c.in-Some-next_word.ensures _ c.in_ok-replace.ensures
    part.0 _ part.1 c.in_err-name.ensures)

pub returns-in_err-part : goal.returns-in_err-part
returns-in_err-part c =
    let r = c.from_residual-in_err-part in
    let p = err_from_is_err_and r.result r.ensures.1 in
    rw (p.1, p.2)
    (no_part (words c.args.text.now) _ _ c.in_ok-block.ensures _ _ c.in_ok-chunk.ensures _ _ c.in-Some.ensures _ _ c.in-Some-next_word.ensures _ c.in_ok-replace.ensures
    _ _ c.in_ok-name.ensures c.in_err-part.ensures)

pub returns : goal.returns
returns c =
    rw c.put.ensures
    (all_five (words c.args.text.now) _ _ c.in_ok-block.ensures _ _ c.in_ok-chunk.ensures _ _ c.in-Some.ensures _ _ c.in-Some-next_word.ensures _ c.in_ok-replace.ensures
    _ _ c.in_ok-name.ensures c.in_ok-part.ensures)
