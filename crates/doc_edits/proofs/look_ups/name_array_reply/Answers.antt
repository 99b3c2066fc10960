use Rattle.std.proofs.Common.{ap, refl, rules}
use Rattle.geos_model.specs.ElementEdits.{count_at}
use Rattle.geos_model.specs.NameEdits.{names_in, on_name_token, part_at, text_at}
use Rattle.geos_model.specs.Reply.{BytesAre, NumberIs, TokenIs, reply_of}
use Rattle.geos_model.specs.declared.command.Command.TheVariants as commands
use Rattle.doc_edits.proofs.LookUps.{find_reply, mapped, own_reply}
use Rattle.doc_edits.proofs.look_ups.name_array_reply.Goals as goal

pub returns-in-Find : goal.returns-in-Find
returns-in-Find c = rw c.in-Find.is (find_reply c.args.bytes.now c.in-Find.name.now c.find.result _ c.find.ensures
    (mapped (λ x. TokenIs x.0) _ c.find.result c.map.result c.map.ensures.cases (λ x y h. search rules)))

pub returns-in-References : goal.returns-in-References
returns-in-References c = rw c.in-References.is (own_reply c.args.bytes.now (λ b k. commands.NameReferences b k c.in-References.token) (λ y. on_name_token y c.in-References.token.0) (λ y. count_at (names_in y).names c.in-References.token.0) NumberIs (λ n. n) c.count_of.result _ (λ d b k. refl) (λ d b k. refl) c.count_of.ensures
    (mapped NumberIs _ c.count_of.result c.map-in-References.result c.map-in-References.ensures.cases (λ x y h. search rules)))

pub returns-in-Text : goal.returns-in-Text
returns-in-Text c = rw c.in-Text.is (own_reply c.args.bytes.now (λ b k. commands.NameText b k c.in-Text.token) (λ y. on_name_token y c.in-Text.token.0) (λ y. text_at (names_in y) c.in-Text.token.0) BytesAre (λ x. x.now) c.name_of.result _ (λ d b k. refl) (λ d b k. refl) c.name_of.ensures
    (mapped (λ x. BytesAre x.now) _ c.name_of.result c.map-in-Text.result c.map-in-Text.ensures.cases (λ x y h. ap reply_of h)))

pub returns-in-Part : goal.returns-in-Part
returns-in-Part c = rw c.in-Part.is (own_reply c.args.bytes.now (λ b k. commands.NamePart b k c.in-Part.token) (λ y. on_name_token y c.in-Part.token.0) (λ y. part_at (names_in y) c.in-Part.token.0) BytesAre (λ x. x.now) c.data_of.result _ (λ d b k. refl) (λ d b k. refl) c.data_of.ensures
    (mapped (λ x. BytesAre x.now) _ c.data_of.result c.map-in-Part.result c.map-in-Part.ensures.cases (λ x y h. ap reply_of h)))
