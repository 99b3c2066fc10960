use Rattle.std.proofs.Common.{◌≡◌, ◌+◌, ◌<◌, ◌++◌, ◌∷◌, [], ◌∙◌, ℕ, List, map, take, drop, length, get_or, set, ap, ap₂, sym, arith}
use Rattle.std.proofs.lemmas.List.{take_more, take_more_set, drop_more, drop-set-lt, map-append}
use Rattle.geos_model.specs.Places.{inverse}
use Rattle.geos_model.specs.declared.place.Place.{Place}
use Rattle.geos_model.specs.declared.place.Place.TheVariants as place
use Rattle.vm_blocks.proofs.places.exchange_lengths.Goals as goal

-- the next place too
module _ (xs ys : List Place) (i : ℕ) (y : Place) (within : i < length xs) (long : length ys ≡ length xs)
    (done : take i ys ≡ map inverse (take i xs)) (left : drop i ys ≡ drop i xs)
    (is : y ≡ inverse (get_or ys i place.All)) where
  heads : get_or ys i place.All ∷ drop (i + 1) ys ≡ get_or xs i place.All ∷ drop (i + 1) xs
  heads = sym (drop_more ys i place.All (omega (arith, long))) ∙ left ∙ drop_more xs i place.All within

  done_next : take (i + 1) (set ys i y) ≡ map inverse (take (i + 1) xs)
  done_next =
      let same : get_or ys i place.All ≡ get_or xs i place.All = let h = heads in cc in
      take_more_set ys i y (omega (arith, long))
      ∙ ap₂ (λ (l : List Place) (p : Place). l ++ p ∷ []) done (is ∙ ap inverse same)
      ∙ sym (map-append inverse (take i xs) (get_or xs i place.All ∷ []))
      ∙ ap (map inverse) (sym (take_more xs i place.All within))

  left_next : drop (i + 1) (set ys i y) ≡ drop (i + 1) xs
  left_next = drop-set-lt (i + 1) ys i y (omega arith) ∙ (let h = heads in cc)

pub loop-place-preserved : goal.loop-place-preserved
loop-place-preserved c =
    let xs = c.args.places.now in let ys = c.loop-place.places in let i = c.loop-place.place-index in
    let y = c.exchanged.result in let within = c.loop-place-test.true in let long = c.loop-place.auto.places in
    let done = c.loop-place.invariant.done in let left = c.loop-place.invariant.left in let is = c.exchanged.ensures in
    record {
      done = done_next xs ys i y within long done left is;
      left = left_next xs ys i y within long done left is;
    }
