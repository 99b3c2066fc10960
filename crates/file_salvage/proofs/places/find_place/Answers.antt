use Rattle.std.proofs.Common.{◌≡◌, ◌≤◌, ◌<◌, List, ℕ, length, subst, arith}
use Rattle.std.proofs.lemmas.Result.{IfOk-weaker}
use Rattle.file_format.specs.Slots.{IsRawSlot}
use Rattle.file_format.proofs.LooksLemmas.{OnlyReadsStore-trans, held_before, still, same_bytes_then}
use Rattle.file_salvage.specs.Places.{readable_of}
use Rattle.file_salvage.proofs.PlaceLemmas.{found_of, too_short}
use Rattle.file_salvage.proofs.places.find_place.Goals as goal

pub returns-then-file_length-from-clause-readable : goal.returns-then-file_length-from-clause-readable
returns-then-file_length-from-clause-readable g c = λ so.
    let file = (g.S.Store.facts c.args.store.now).content in
    let same = c.requires so in
    let page = c.from.ensures in
    let short : length file < 1024 = omega (arith, same, page, c.if-file_length-from.true) in
    too_short file short

pub returns-in_err-second-clause-looks : goal.returns-in_err-second-clause-looks
returns-in_err-second-clause-looks g c = OnlyReadsStore-trans _ _ _ (λ so. g.met.S.Store.timely c.args.store.now so) c.read_raw_slot.ensures.looks c.read_raw_slot-2.ensures.looks

pub returns-clause-looks : goal.returns-clause-looks
returns-clause-looks g c =
    let a = g.S.Store.facts c.args.store.now in
    let d = g.S.Store.facts c.read_raw_slot-2.new.store in
    OnlyReadsStore-trans a d _ (g.met.S.Store.timely c.args.store.now)
    (OnlyReadsStore-trans a (g.S.Store.facts c.read_raw_slot.new.store) d (g.met.S.Store.timely c.args.store.now) c.read_raw_slot.ensures.looks c.read_raw_slot-2.ensures.looks)
    c.readable_of.ensures.looks

pub returns-clause-readable : goal.returns-clause-readable
returns-clause-readable g c =
    let a = g.S.Store.facts c.args.store.now in
    let b = g.S.Store.facts c.read_raw_slot.new.store in
    let d = g.S.Store.facts c.read_raw_slot-2.new.store in
    let looks = OnlyReadsStore-trans a b d (g.met.S.Store.timely c.args.store.now) c.read_raw_slot.ensures.looks c.read_raw_slot-2.ensures.looks in
    let first = c.in_ok-first.first in
    let second = c.in_ok-second.second in
    IfOk-weaker c.readable_of.result _ _
    (λ found then so.
    let zeroth = c.in_ok-first.ensures.raw so in
    let one = held_before (λ f. IsRawSlot f 1 second) a b c.read_raw_slot.ensures.looks c.in_ok-second.ensures.raw so in
    let now : found ≡ readable_of a.content first.slot second.slot = subst (λ (file : List ℕ). found ≡ readable_of file first.slot second.slot) (same_bytes_then a d looks so) (then (still a d looks so)) in
    let same = c.requires so in
    let page = c.from.ensures in
    let long : 1024 ≤ length a.content = omega (arith, same, page, c.if-file_length-from.false) in
    found_of a.content first.slot second.slot found long zeroth.slot one.slot now)
    c.readable_of.ensures.readable
