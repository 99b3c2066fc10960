use Rattle.std.proofs.Common.{◌≡◌, ℕ, List, Option, subst, sym, ap, ◌∙◌}
use Rattle.std.proofs.lemmas.Result.{IfOk-weaker}
use Rattle.file_format.proofs.LooksLemmas.{still, same_bytes_then}
use Rattle.file_format.specs.declared.file.Slot.{Slot}
use Rattle.file_report.specs.declared.finding.Named.TheVariants.{Updated, Saved}
use Rattle.file_salvage.specs.Places.{if_readable, place_in_slot, readable_in}
use Rattle.file_salvage.specs.declared.place.Place.{Place}
use Rattle.file_salvage.proofs.PlaceLemmas.{or_else}
use Rattle.file_salvage.proofs.places.readable_in.Goals as goal

pub returns-clause-readable : goal.returns-clause-readable
returns-clause-readable g c =
    let a = g.S.Store.facts c.args.store.now in
    let b = g.S.Store.facts c.if_readable.new.store in
    let looks = c.if_readable.ensures.looks in
    let second = c.args.second in
    let slot = c.in-Some.slot in
    let updated = c.in_ok-first.first in
    IfOk-weaker c.if_readable-2.result _ _
    (λ found then so.
    let now : found ≡ if_readable a.content c.place_in_slot-saved.result = subst (λ (file : List ℕ). found ≡ if_readable file c.place_in_slot-saved.result) (same_bytes_then a b looks so) (then (still a b looks so)) in
    subst (λ (s : Option Slot). found ≡ readable_in a.content second s) (sym c.in-Some.is)
    (or_else updated (if_readable a.content (place_in_slot second slot Updated)) (if_readable a.content (place_in_slot second slot Saved)) found
    (c.in_ok-first.ensures.readable so ∙ ap (λ (p : Place). if_readable a.content p) c.place_in_slot-updated.ensures)
    (sym c.is_some.ensures ∙ c.if-is_some.false)
    (now ∙ ap (λ (p : Place). if_readable a.content p) c.place_in_slot-saved.ensures)))
    c.if_readable-2.ensures.readable
