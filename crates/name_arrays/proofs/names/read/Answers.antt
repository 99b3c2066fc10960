use Rattle.std.proofs.Common.{◌+◌, ap, refl, sym, ◌∙◌}
use Rattle.geos_model.specs.Array.{Array}
use Rattle.element_arrays.specs.Tested.{are_slots_within}
use Rattle.element_arrays.proofs.SlottedLemmas.{carried}
use Rattle.name_arrays.proofs.ReadingLemmas.{no_array, by_array, not_within, one_size, is_sound_read, more_is, is_read, known_names, sound_read}
use Rattle.name_arrays.proofs.names.read.Goals as goal

pub returns-in_err-view : goal.returns-in_err-view
returns-in_err-view c =
    carried c.from_residual.result _ _ c.in_err-view.field-0.0 c.from_residual.ensures.1 (c.in_err-view.ensures.0, no_array c.args.bytes.now c.in_err-view.ensures.1)

pub known_names-requires : goal.known_names-requires
known_names-requires c = known_names c.args.bytes.now c.in_ok-view.view.array c.in_ok-view.ensures (c.is_known.ensures c.if-is_known.true)

pub returns-then-is_known : goal.returns-then-is_known
returns-then-is_known c =
    let n = c.known_names.result in
    let h = c.known_names.ensures in
    sound_read c.args.bytes.now c.in_ok-view.view.array n.slots n.part c.in_ok-view.ensures h.slots h.array h.part h.sound

pub returns-in_default : goal.returns-in_default
returns-in_default c = (refl, by_array c.args.bytes.now c.in_ok-view.view.array c.in_ok-view.ensures c.in_default.ensures)

pub returns-in_err-slots : goal.returns-in_err-slots
returns-in_err-slots c =
    let a : Array = c.in_ok-view.view.array in
    let refused = ap (λ part. are_slots_within 4 (part + 1) (part + 256) a) (sym c.in-Some.ensures.0) ∙ c.in_err-slots.ensures.1 in
    carried c.from_residual-in_err-slots.result _ _ c.in_err-slots.field-0.0 c.from_residual-in_err-slots.ensures.1
    (c.in_err-slots.ensures.0, by_array c.args.bytes.now a c.in_ok-view.ensures (not_within a refused))

pub returns-then-element_size-ne0 : goal.returns-then-element_size-ne0
returns-then-element_size-ne0 c = (
  refl,
  one_size c.args.bytes.now c.in_ok-view.view.array c.in_ok-slots.slots c.in-Some.part c.in_ok-view.ensures c.in_ok-slots.ensures.0 c.in_ok-slots.ensures.1 c.in-Some.ensures.0 (λ any. c.if-element_size-ne0.true (c.element_size.ensures ∙ any)),
)

pub invariant_of-result : goal.invariant_of-result
invariant_of-result c =
    let any = sym c.element_size.ensures ∙ c.if-element_size-ne0.false in
    record {
      sound = is_sound_read c.args.bytes.now c.in_ok-view.view.array c.in_ok-slots.slots c.in-Some.part c.in_ok-view.ensures c.in_ok-slots.ensures.0 c.in_ok-slots.ensures.1 c.in-Some.ensures.0 c.in-Some.ensures.1 any c.in_ok-slots.ensures.3;
      more = more_is c.args.bytes.now c.in_ok-view.view.array c.in_ok-slots.slots c.in-Some.part c.in_ok-view.ensures c.in_ok-slots.ensures.0 c.in_ok-slots.ensures.1 c.in-Some.ensures.0 c.in-Some.ensures.1 any c.in_ok-slots.ensures.3 c.in_ok-slots.ensures.2;
    }

pub returns : goal.returns
returns c =
    let any = sym c.element_size.ensures ∙ c.if-element_size-ne0.false in
    is_read c.args.bytes.now c.in_ok-view.view.array c.in_ok-slots.slots c.in-Some.part c.in_ok-view.ensures c.in_ok-slots.ensures.0 c.in_ok-slots.ensures.1 c.in-Some.ensures.0 c.in-Some.ensures.1 any c.in_ok-slots.ensures.3
