use Rattle.std.proofs.Common.{◌-◌, is_some, sym, ap, subst, ◌∙◌}
use Rattle.std.proofs.lemmas.Result.{IfOk-weaker}
use Rattle.file_format.specs.File.{bytes_in}
use Rattle.document_file.specs.Fronts.{first_word}
use Rattle.document_file.specs.Listing.{IsPlaceOf}
use Rattle.document_file.specs.Sums.{IsSummed}
use Rattle.document_file.proofs.FrontLemmas.{raw_lies}
use Rattle.document_file.proofs.SumsLemmas.{sum_for-there}
use Rattle.document_file.proofs.TableLemmas.{entry_live, entry_lies, each_at}
use Rattle.document_file.proofs.front.read_first_word.Goals as goal

pub unreachable-requires : goal.unreachable-requires
unreachable-requires g c =
    let t = c.args.table.now in
    cc (sym (ap is_some c.in-None.is) ∙ entry_live (g.S.Store.facts c.args.store.now).content t.places.items t.map_block c.args.block.0 c.place_in.result c.place_in.ensures ∙ c.requires.live)

pub returns-clause-word : goal.returns-clause-word
returns-clause-word g c =
    let t = c.args.table.now in let h = c.args.block.0 in let place = c.in-Some.place in
    let file = (g.S.Store.facts c.args.store.now).content in
    let at = entry_lies t.places.items h place (subst (λ o. IsPlaceOf t.places.items h o) c.in-Some.is c.place_in.ensures) in
    IfOk-weaker c.read_word_behind_kind.result _ _ (λ word is summed so are.
    let bytes = raw_lies file t.places.items t.map_block h place at.0 at.1 (c.requires.images so) c.requires.raw in
    let sum = ap is_some (each_at (IsSummed summed file) t.places.items (h - 1) place at.1 are) ∙ sum_for-there summed (bytes_in file place.extent) in
    is so ∙ (λ i. first_word (sum i) (sym bytes i))) c.read_word_behind_kind.ensures.word
