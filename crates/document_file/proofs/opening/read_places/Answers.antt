use Rattle.std.proofs.Common.{◌≡◌, ◌+◌, ◌-◌, ◌<◌, length, get_or, set, Some, None, Err, arith, sym, ap, subst}
use Rattle.std.proofs.lemmas.Result.{err_from_is_err_and}
use Rattle.file_format.specs.File.{block_of}
use Rattle.geos_model.specs.declared.fault.Fault.TheVariants.{Damaged}
use Rattle.file_format.proofs.Files.{no_entry, get_or_same}
use Rattle.document_file.specs.Documents.{IsImaged}
use Rattle.document_file.specs.Sound.{IsPlace}
use Rattle.document_file.specs.Sums.{HasSum}
use Rattle.file_format.proofs.LooksLemmas.{OnlyReadsStore-refl, OnlyReadsStore-trans, held_before}
use Rattle.document_file.proofs.OpenedDirectoryLemmas.{IsPartRead, part_start, imaged_start, summed_start, part_more, imaged_more, summed_more, rising_above, no_blocks}
use Rattle.document_file.proofs.opening.read_places.Goals as goal

pub loop-entry-init : goal.loop-entry-init
loop-entry-init g c =
    let places = c.in_ok-places.places.items in
    (OnlyReadsStore-refl _, part_start c.args.entries.now places (let few = c.places_needed.ensures.few in let size = c.in_ok-places.ensures.size in omega (arith, few, size)) (λ k d within. let low = c.places_needed.ensures.enough k d within in let size = c.in_ok-places.ensures.size in omega (arith, low, size)) c.in_ok-places.ensures.none, λ so. imaged_start _ places c.in_ok-places.ensures.none, λ so. summed_start _ places c.in_ok-places.ensures.none)

pub loop-entry-preserved : goal.loop-entry-preserved
loop-entry-preserved g c =
    let es = c.args.entries.now in
    let i = c.loop-entry.entry-index in
    let e = get_or es i no_entry in
    let inside : i < length es = omega arith in
    let places = c.loop-entry.places.items in
    let place = c.in_ok-place.place in
    let like = c.in_ok-place.ensures.place in
    let short = c.requires.short i no_entry inside in
    let can : IsPlace place = record { short = omega (arith, short, ap (λ x. x.length) like.1); typed = c.in_ok-place.ensures.typed } in
    let more = part_more 0 i es places e place c.requires.rising inside (get_or_same es i e no_entry inside) like.0 like.1 like.2 can c.loop-entry.invariant.1 in (
      OnlyReadsStore-trans _ _ _ (λ so. g.met.S.Store.timely c.args.store.now so) c.loop-entry.invariant.0 c.in_ok-place.ensures.looks,
      subst (λ n. IsPartRead (i + 1) es (set places (n - 1) (Some place))) (sym c.from.ensures) more,
      λ so. imaged_more _ places (c.from.result - 1) place (held_before (λ file. IsImaged file place) _ _ c.loop-entry.invariant.0 c.in_ok-place.ensures.imaged so) (c.loop-entry.invariant.2 so),
      λ so. summed_more _ places (c.from.result - 1) place (held_before (λ file. HasSum file place) _ _ c.loop-entry.invariant.0 c.in_ok-place.ensures.summed so) (c.loop-entry.invariant.3 so),
    )

pub overflow_sub-from : goal.overflow_sub-from
overflow_sub-from g c =
    let es = c.args.entries.now in
    let i = c.loop-entry.entry-index in
    let inside : i < length es = omega arith in
    let above = rising_above 0 es i no_entry c.requires.rising inside in
    let is = c.from.ensures in
    omega (arith, above, is)

pub index_mut-requires : goal.index_mut-requires
index_mut-requires g c =
    let es = c.args.entries.now in
    let i = c.loop-entry.entry-index in
    let inside : i < length es = omega arith in
    let above = rising_above 0 es i no_entry c.requires.rising inside in
    let low = c.loop-entry.invariant.1.room i no_entry inside in
    let is = c.from.ensures in
    let len = c.loop-entry.places.ok.0 in
    omega (arith, above, low, is, len)

pub returns-in_err-place-clause-damaged : goal.returns-in_err-place-clause-damaged
returns-in_err-place-clause-damaged g c =
    let p = err_from_is_err_and c.from_residual-in_err-place.result c.from_residual-in_err-place.ensures.1 in
    let es = c.args.entries.now in
    let i = c.loop-entry.entry-index in
    let inside : i < length es = omega arith in
    rw (p.1, p.2) (λ err so.
    let was : c.in_err-place.field-0.0 ≡ Damaged = (cc) in
    no_blocks _ es i no_entry inside (held_before (λ file. block_of file (get_or es i no_entry) ≡ None) _ _ c.loop-entry.invariant.0 (c.in_err-place.ensures.damaged (ap (λ f. Err f) was)) so))

pub returns-clause-size : goal.returns-clause-size
returns-clause-size g c = c.loop-entry.invariant.1.size
