use Rattle.std.proofs.Common.{[], ap, get_or, length, refl, rules}
use Rattle.geos_model.specs.ArrayEdits.{array_in, on_array, on_element}
use Rattle.geos_model.specs.Reply.{BytesAre, NumberIs, reply_of}
use Rattle.geos_model.specs.declared.command.Command.TheVariants as commands
use Rattle.doc_edits.proofs.LookUps.{mapped, own_reply}
use Rattle.doc_edits.proofs.look_ups.chunk_array_reply.Goals as goal

pub returns-in-Count : goal.returns-in-Count
returns-in-Count c = rw c.in-Count.is (own_reply c.args.bytes.now (λ b k. commands.ArrayCount b k) on_array (λ y. length (array_in y).elements) NumberIs (λ n. n) c.count_in.result _ (λ d b k. refl) (λ d b k. refl) c.count_in.ensures
    (mapped NumberIs _ c.count_in.result c.map.result c.map.ensures.cases (λ x y h. search rules)))

pub returns-in-Element : goal.returns-in-Element
returns-in-Element c = rw c.in-Element.is (own_reply c.args.bytes.now (λ b k. commands.ArrayElement b k c.in-Element.i) (λ y. on_element y c.in-Element.i) (λ y. get_or (array_in y).elements c.in-Element.i []) BytesAre (λ x. x.now) c.element_in.result _ (λ d b k. refl) (λ d b k. refl) c.element_in.ensures
    (mapped (λ x. BytesAre x.now) _ c.element_in.result c.map-in-Element.result c.map-in-Element.ensures.cases (λ x y h. ap reply_of h)))
