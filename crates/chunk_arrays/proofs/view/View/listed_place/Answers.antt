use Rattle.std.proofs.Common.{◌≡◌, ◌<◌, ◌+◌, ◌*◌, ◌∙◌, sym, ap, arith, ℕ, length}
use Rattle.geos_model.specs.Words.{word_at}
use Rattle.chunk_arrays.specs.Reading.{element_place}
use Rattle.chunk_arrays.proofs.PartsLemmas.{length-elements_read}
use Rattle.chunk_arrays.proofs.PlaceLemmas.{place-any}
use Rattle.chunk_arrays.specs.Viewed.{Viewed}
use Rattle.chunk_arrays.proofs.view.View.listed_place.Goals as goal

pub word-requires : goal.word-requires
word-requires c =
    let any : word_at c.self.inside.bytes.now 2 ≡ 0 = ap (λ (v : Viewed). v.array.size) c.self.view_is ∙ c.requires.any in
    let room = (c.self.invariant.parts.elements.table any).room in
    let start = c.self.invariant.start in
    let count : length c.args.self.now.array.elements ≡ word_at c.self.inside.bytes.now 0 = ap (λ (v : Viewed). length v.array.elements) (sym c.self.view_is) ∙ length-elements_read c.self.inside.bytes.now in
    let within = c.requires.within in
    omega (arith, room, start, count, within)

pub returns-clause-place : goal.returns-clause-place
returns-clause-place c =
    let any : word_at c.self.inside.bytes.now 2 ≡ 0 = ap (λ (v : Viewed). v.array.size) c.self.view_is ∙ c.requires.any in
    let count : length c.args.self.now.array.elements ≡ word_at c.self.inside.bytes.now 0 = ap (λ (v : Viewed). length v.array.elements) (sym c.self.view_is) ∙ length-elements_read c.self.inside.bytes.now in
    let within = c.requires.within in
    let below : c.args.i < word_at c.self.inside.bytes.now 0 = omega (arith, count, within) in
    c.word.ensures.value
    ∙ ap (λ (s : ℕ). word_at c.self.inside.bytes.now (s + 2 * c.args.i)) c.self.invariant.start
    ∙ sym (place-any c.self.inside.bytes.now c.self.invariant.parts any c.args.i below)
    ∙ ap (λ (v : Viewed). element_place v.array c.args.i) c.self.view_is
