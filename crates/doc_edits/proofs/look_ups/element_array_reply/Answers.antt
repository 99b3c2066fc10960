use Rattle.std.proofs.Common.{ap, get_or, refl, rules}
use Rattle.geos_model.specs.ElementEdits.{bytes_at, count_at, elements_in, on_elements, on_token, on_used, used_below, used_from, used_in}
use Rattle.geos_model.specs.Reply.{BytesAre, NumberIs, TokenIs, reply_of}
use Rattle.geos_model.specs.declared.command.Command.TheVariants as commands
use Rattle.doc_edits.proofs.LookUps.{mapped, own_reply}
use Rattle.doc_edits.proofs.look_ups.element_array_reply.Goals as goal

pub returns-in-References : goal.returns-in-References
returns-in-References c = rw c.in-References.is (own_reply c.args.bytes.now (λ b k. commands.ElementReferences b k c.in-References.token) (λ y. on_token y c.in-References.token.0) (λ y. count_at (elements_in y) c.in-References.token.0) NumberIs (λ n. n) c.count_of.result _ (λ d b k. refl) (λ d b k. refl) c.count_of.ensures
    (mapped NumberIs _ c.count_of.result c.map.result c.map.ensures.cases (λ x y h. search rules)))

pub returns-in-Bytes : goal.returns-in-Bytes
returns-in-Bytes c = rw c.in-Bytes.is (own_reply c.args.bytes.now (λ b k. commands.ElementBytes b k c.in-Bytes.token) (λ y. on_token y c.in-Bytes.token.0) (λ y. bytes_at (elements_in y) c.in-Bytes.token.0) BytesAre (λ x. x.now) c.data_of.result _ (λ d b k. refl) (λ d b k. refl) c.data_of.ensures
    (mapped (λ x. BytesAre x.now) _ c.data_of.result c.map-in-Bytes.result c.map-in-Bytes.ensures.cases (λ x y h. ap reply_of h)))

pub returns-in-Used : goal.returns-in-Used
returns-in-Used c = rw c.in-Used.is (own_reply c.args.bytes.now (λ b k. commands.ElementsUsed b k) on_elements (λ y. used_in (elements_in y)) NumberIs (λ n. n) c.used_count.result _ (λ d b k. refl) (λ d b k. refl) c.used_count.ensures
    (mapped NumberIs _ c.used_count.result c.map-in-Used.result c.map-in-Used.ensures.cases (λ x y h. search rules)))

pub returns-in-TokenOfUsed : goal.returns-in-TokenOfUsed
returns-in-TokenOfUsed c = rw c.in-TokenOfUsed.is (own_reply c.args.bytes.now (λ b k. commands.TokenOfUsed b k c.in-TokenOfUsed.k) (λ y. on_used y c.in-TokenOfUsed.k) (λ y. get_or (used_from 0 (elements_in y).slots) c.in-TokenOfUsed.k 0) TokenIs (λ x. x.0) c.token_of_used.result _ (λ d b k. refl) (λ d b k. refl) c.token_of_used.ensures
    (mapped (λ x. TokenIs x.0) _ c.token_of_used.result c.map-in-TokenOfUsed.result c.map-in-TokenOfUsed.ensures.cases (λ x y h. search rules)))

pub returns-in-UsedOfToken : goal.returns-in-UsedOfToken
returns-in-UsedOfToken c = rw c.in-UsedOfToken.is (own_reply c.args.bytes.now (λ b k. commands.UsedOfToken b k c.in-UsedOfToken.token) (λ y. on_token y c.in-UsedOfToken.token.0) (λ y. used_below (elements_in y) c.in-UsedOfToken.token.0) NumberIs (λ n. n) c.used_of_token.result _ (λ d b k. refl) (λ d b k. refl) c.used_of_token.ensures
    (mapped NumberIs _ c.used_of_token.result c.map-in-UsedOfToken.result c.map-in-UsedOfToken.ensures.cases (λ x y h. search rules)))
