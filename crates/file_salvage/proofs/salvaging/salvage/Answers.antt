use Rattle.std.proofs.Common.{◌≡◌, ℕ, true, List, subst, sym, ◌∙◌}
use Rattle.file_format.proofs.LooksLemmas.{OnlyReadsStore-trans, still, same_bytes_then}
use Rattle.file_salvage.specs.Places.{salvaged_place}
use Rattle.file_salvage.specs.Salvaged.{IsSalvage, script_of}
use Rattle.file_salvage.proofs.ScriptLemmas.{found_script}
use Rattle.file_salvage.proofs.salvaging.salvage.Goals as goal

pub returns-in_ok-salvage_place-in-Some-clause-ok : goal.returns-in_ok-salvage_place-in-Some-clause-ok
returns-in_ok-salvage_place-in-Some-clause-ok g c = λ so.
    let a = g.S.Store.facts c.args.store.now in
    let b = g.S.Store.facts c.read_length.new.store in
    let d = g.S.Store.facts c.find_place.new.store in
    let from = g.W.Write.contents c.args.writer.now in
    let to = g.W.Write.contents c.salvage_place.new.writer in
    let first = c.read_length.ensures.looks in
    let second = OnlyReadsStore-trans a b d (g.met.S.Store.timely c.args.store.now) first c.find_place.ensures.looks in
    let p = c.in-Some.place in
    let place = c.in_ok-find_place.field-0 in
    let there : place ≡ salvaged_place a.content = subst (λ (file : List ℕ). place ≡ salvaged_place file) (same_bytes_then a b first so) (c.in_ok-find_place.ensures.readable (still a b first so)) in
    let script : IsSalvage (script_of c.args.all a.content p) true from to = subst (λ (file : List ℕ). IsSalvage (script_of c.args.all file p) true from to) (same_bytes_then a d second so) (c.in_ok-salvage_place-in-Some.ensures.ok (still a d second so)) in
    found_script c.args.all a.content p from to (sym there ∙ c.in-Some.is) script
