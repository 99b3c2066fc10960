-- Images that are copied one behind the other.
use Rattle.std.proofs.Common.{◌≡◌, ◌⊎◌, ℕ, zero, suc, ◌+◌, ◌-◌, ◌*◌, ◌<◌, ◌≤◌, List, [], ◌∷◌, ◌++◌, All, length, take, get_or, is_some, Bool, true, false, Option, None, Some, refl, sym, ap, subst, ◌∙◌, arith, inl, inr}
use Rattle.std.specs.Prelude.{IfSome}
use Rattle.std.specs.Option.{option_map, option_map_or}
use Rattle.std.proofs.lemmas.List.Elements.{All-nil, All-cons, All-head, All-tail, All-append}
use Rattle.std.proofs.lemmas.List.{map-append, take_more}
use Rattle.vm_store.specs.Facts.{byte, WritesBytes}
use Rattle.vm_store.specs.Laws.{Holds-WritesBytes}
use Rattle.geos_model.specs.Document.{Block, most_blocks, is_heap, is_heap_body, is_live, attributes_of, no_attributes, FitAttributes}
use Rattle.geos_model.proofs.Table.{table_map}
use Rattle.geos_model.specs.Image.{body_of, body_read}
use Rattle.file_format.specs.File.{bytes_in, has_sum, pages_of, directory_text, page_limit}
use Rattle.file_format.specs.declared.file.Extent.{Extent}
use Rattle.document_file.specs.Ranges.{IsPlaced, end_of, KeepsAll}
use Rattle.document_file.specs.Slots.{block_extents}
use Rattle.document_file.specs.Documents.{block_in, blocks_in, of_kind, document_in, entries_of, directory_of_table, IsImaged, AreImaged}
use Rattle.document_file.specs.Disk.{SameUnlessCorrupt}
use Rattle.document_file.specs.Sound.{IsPlace, ArePlaces, IsBlockTable}
use Rattle.document_file.specs.Making.{moved_to, pages_taken, laid_out, page_behind, IsImageCopied, IsBlockCopied, AreCopied, IsFounding}
use Rattle.document_file.specs.Sums.{AreSummed, IsSummed, kept_sum, version_for}
use Rattle.document_file.specs.declared.table.BlockTable.{BlockTable}
use Rattle.document_file.proofs.MakingLemmas.{AreLying}
use Rattle.document_file.specs.declared.table.Place.{Place}
use Rattle.document_file.proofs.TableLemmas.{EachPlace, shown, not_live, live_is, get_none, heap_is, attributes_is, extents_of, places_of, blocks_same, images_same, sums_same}
use Rattle.document_file.proofs.SumsLemmas.{kept_sum-there, sum_for-from}
use Rattle.document_file.proofs.RangesLemmas.{bytes_held}
use Rattle.document_file.proofs.TableDirectoryLemmas.{text_fits}

-- Places in turn, and the pages that they take.

pub page_behind-more : (page : ℕ) (ps : List (Option Place)) (o : Option Place) → page_behind page (ps ++ o ∷ []) ≡ page_behind page ps + pages_taken o
page_behind-more page [] o = refl
page_behind-more page (p ∷ ps) o = page_behind-more (page + pages_taken p) ps o

pub behind_low : (page : ℕ) (ps : List (Option Place)) → page ≤ page_behind page ps
behind_low page [] = omega arith
behind_low page (p ∷ ps) = omega (arith, behind_low (page + pages_taken p) ps)

-- an extent ends before the page behind it
end_before : (n page : ℕ) → 512 * page + n ≤ 512 * (page + pages_of n)
end_before n page = omega arith

-- Places in turn, and the page behind those so far.
pub record IsBehind (places : List (Option Place)) (i page : ℕ) : Type 0 where
  pub is : page ≡ page_behind 2 (take i places)
  pub low : page ≤ 2 + 321 * i

pub pages_few : (o : Option Place) → IfSome o (λ p. IsPlaced p.extent) → pages_taken o ≤ 321
pages_few None placed = omega arith
pages_few (Some place) placed = let short = placed.short in omega (arith, short)

pub behind_start : (places : List (Option Place)) → IsBehind places 0 2
behind_start places = record { is = refl; low = omega arith }

pub one_placed : (places : List (Option Place)) (i : ℕ) → i < length places → All IsPlaced (block_extents places) → IfSome (get_or places i None) (λ p. IsPlaced p.extent)
one_placed places i inside placed = places_of IsPlaced places placed i None inside

pub behind_more : (places : List (Option Place)) (i page taken : ℕ) → i < length places → All IsPlaced (block_extents places) → taken ≡ pages_taken (get_or places i None) → IsBehind places i page → IsBehind places (i + 1) (page + taken)
behind_more places i page taken inside placed same was =
    let few = pages_few (get_or places i None) (one_placed places i inside placed) in
    record {
      is = omega (arith, was.is, same, sym (page_behind-more 2 (take i places) (get_or places i None)), ap (page_behind 2) (take_more places i None inside));
      low = omega (arith, was.low, few, same);
    }

behind_high : (page : ℕ) (ps : List (Option Place)) → EachPlace (λ p. IsPlaced p.extent) ps → page_behind page ps ≤ page + 321 * length ps
behind_high page [] placed = omega arith
behind_high page (o ∷ ps) placed =
    let P : Option Place → Type 0 = λ o. IfSome o (λ p. IsPlaced p.extent) in
    let few = pages_few o (All-head P o ps placed) in
    omega (arith, few, behind_high (page + pages_taken o) ps (All-tail P o ps placed))

module _ (checksums : Bool) where
  -- One place more.

  pub laid_out-more : (page : ℕ) (ps : List (Option Place)) (o : Option Place) → laid_out checksums page (ps ++ o ∷ []) ≡ laid_out checksums page ps ++ moved_to checksums (page_behind page ps) o ∷ []
  laid_out-more page [] o = refl
  laid_out-more page (p ∷ ps) o = ap (λ t. moved_to checksums page p ∷ t) (laid_out-more (page + pages_taken p) ps o)

  -- those that are laid out end before the page behind all
  pub ends_before : (page : ℕ) (ps : List (Option Place)) → EachPlace (λ p. end_of p.extent ≤ 512 * page_behind page ps) (laid_out checksums page ps)
  ends_before page [] = All-nil (λ o. IfSome o (λ p. end_of p.extent ≤ 512 * page))
  ends_before page (o ∷ ps) =
      let last = page_behind (page + pages_taken o) ps in
      let P : Option Place → Type 0 = λ o. IfSome o (λ p. end_of p.extent ≤ 512 * last) in
      let low = behind_low (page + pages_taken o) ps in
      let one : P (moved_to checksums page o) = elim o as (λ o. page + pages_taken o ≤ last → IfSome (moved_to checksums page o) (λ p. end_of p.extent ≤ 512 * last)) [
        | None ↦ λ l. tt
        | Some place ↦ λ l. let own = end_before place.extent.length page in omega (arith, l, own)
      ] low in
      All-cons P (moved_to checksums page o) (laid_out checksums (page + pages_taken o) ps) one (ends_before (page + pages_taken o) ps)

  -- where an image is put behind all others
  module _ (source old c d : List ℕ) (honest : Type 0) (ps : List (Option Place)) (was : AreCopied checksums honest source ps old c) where
    abbrev ls : List (Option Place)
    ls = laid_out checksums 2 ps

    abbrev behind : ℕ
    behind = page_behind 2 ps

    module _ (place : Place) (written : IsImageCopied checksums behind place honest source c d) where
      within : All (λ e. end_of e ≤ length c) (block_extents ls)
      within = extents_of (λ e. end_of e ≤ length c) ls was.within

      ends : All (λ e. end_of e ≤ 512 * behind) (block_extents ls)
      ends = extents_of (λ e. end_of e ≤ 512 * behind) ls (ends_before 2 ps)

      keeps : KeepsAll (block_extents ls) c d
      keeps k x inside =
          let e = get_or (block_extents ls) k x in
          let low = ends k x inside in
          record { within = omega (arith, within k x inside, written.put.size); bytes = λ i from to. written.put.below i (omega (arith, low, to)) }

      abbrev moved : Place
      moved = record place { extent = record { page = behind; length = place.extent.length }; sum = kept_sum checksums place.sum }

      image_there : bytes_in d moved.extent ≡ written.image
      image_there = bytes_held d written.image moved.extent written.size (Holds-WritesBytes (512 * behind) written.image c d written.put)

      new_imaged : IsImaged d moved
      new_imaged = record {
        image = subst (λ b. body_of b ≡ Some (body_read b)) (sym image_there) written.is_image.image;
        kind = written.is_image.kind ∙ ap (λ b. is_heap_body (body_read b)) (sym image_there);
      }

      new_summed : IsSummed checksums d moved
      new_summed = sum_for-from checksums moved.sum (bytes_in d moved.extent) (kept_sum-there checksums place.sum) (subst (λ b. has_sum moved.sum b ≡ true) (sym image_there) written.summed)

      new_block : honest → block_in d moved ≡ block_in source place
      new_block so = ap (λ b. record { attributes = place.attributes; body = of_kind place.is_heap (body_read b) }) (image_there ∙ written.same so)

      longer : EachPlace (λ p. end_of p.extent ≤ length d) ls
      longer k x inside = elim (get_or ls k x) as (λ o. IfSome o (λ p. end_of p.extent ≤ length c) → IfSome o (λ p. end_of p.extent ≤ length d)) [
        | None ↦ λ l. tt
        | Some p ↦ λ l. omega (arith, l, written.put.size)
      ] (was.within k x inside)

      copied_some : AreCopied checksums honest source (ps ++ Some place ∷ []) old d
      copied_some =
          let more = laid_out-more 2 ps (Some place) in
          let P : Option Place → Type 0 = λ o. IfSome o (IsImaged d) in
          let Q : Option Place → Type 0 = λ o. IfSome o (λ p. end_of p.extent ≤ length d) in
          let R : Option Place → Type 0 = λ o. IfSome o (IsSummed checksums d) in
          record {
            images = subst (AreImaged d) (sym more) (All-append P ls (Some moved ∷ []) (images_same c d ls within keeps was.images) (All-cons P (Some moved) [] new_imaged (All-nil P)));
            sums = subst (AreSummed checksums d) (sym more) (All-append R ls (Some moved ∷ []) (sums_same checksums c d ls within keeps was.sums) (All-cons R (Some moved) [] new_summed (All-nil R)));
            within = subst (All Q) (sym more) (All-append Q ls (Some moved ∷ []) longer (All-cons Q (Some moved) [] (omega (arith, written.put.size, written.size)) (All-nil Q)));
            beside = written.put.below 516 (omega (arith, behind_low 2 ps)) ∙ was.beside;
            blocks = λ so.
                ap (blocks_in d) more ∙ map-append (option_map (block_in d)) ls (Some moved ∷ [])
                ∙ ap (λ t. t ++ Some (block_in d moved) ∷ []) (blocks_same c d ls within keeps ∙ was.blocks so)
                ∙ ap (λ b. blocks_in source ps ++ Some b ∷ []) (new_block so)
                ∙ sym (map-append (option_map (block_in source)) ps (Some place ∷ []));
          }

    copied_none : d ≡ c → AreCopied checksums honest source (ps ++ None ∷ []) old d
    copied_none same =
        let more = laid_out-more 2 ps None in
        let P : Option Place → Type 0 = λ o. IfSome o (IsImaged c) in
        let Q : Option Place → Type 0 = λ o. IfSome o (λ p. end_of p.extent ≤ length c) in
        let R : Option Place → Type 0 = λ o. IfSome o (IsSummed checksums c) in
        let made : AreCopied checksums honest source (ps ++ None ∷ []) old c = record {
          images = subst (AreImaged c) (sym more) (All-append P ls (None ∷ []) was.images (All-cons P None [] tt (All-nil P)));
          sums = subst (AreSummed checksums c) (sym more) (All-append R ls (None ∷ []) was.sums (All-cons R None [] tt (All-nil R)));
          within = subst (All Q) (sym more) (All-append Q ls (None ∷ []) was.within (All-cons Q None [] tt (All-nil Q)));
          beside = was.beside;
          blocks = λ so. ap (blocks_in c) more ∙ map-append (option_map (block_in c)) ls (None ∷ []) ∙ ap (λ t. t ++ None ∷ []) (was.blocks so) ∙ sym (map-append (option_map (block_in source)) ps (None ∷ []));
        } in
        subst (AreCopied checksums honest source (ps ++ None ∷ []) old) (sym same) made

    pub copied_more : (o : Option Place) → IsBlockCopied checksums behind o honest source c d → AreCopied checksums honest source (ps ++ o ∷ []) old d
    copied_more None same = copied_none same
    copied_more (Some place) written = copied_some place written

  pub copied_start : (honest : Type 0) (source old : List ℕ) → AreCopied checksums honest source [] old old
  copied_start honest source old = record {
    images = All-nil (λ o. IfSome o (IsImaged old));
    sums = All-nil (λ o. IfSome o (IsSummed checksums old));
    within = All-nil (λ o. IfSome o (λ p. end_of p.extent ≤ length old));
    beside = refl;
    blocks = λ so. refl;
  }

  -- of a source that rested since
  pub copied_as : (p q : ℕ) (o : Option Place) (H K : Type 0) (a b c d : List ℕ) → p ≡ q → (K → H) → (K → a ≡ b) → IsBlockCopied checksums p o H a c d → IsBlockCopied checksums q o K b c d
  copied_as p q None H K a b c d is from same copied = copied
  copied_as p q (Some place) H K a b c d is from same copied = record {
    image = copied.image;
    is_image = copied.is_image;
    summed = copied.summed;
    size = copied.size;
    put = subst (λ n. WritesBytes (512 * n) copied.image c d) is copied.put;
    same = λ so. copied.same (from so) ∙ ap (λ f. bytes_in f place.extent) (same so);
  }

  -- A table that is laid out.

  pub length-laid_out : (page : ℕ) (ps : List (Option Place)) → length (laid_out checksums page ps) ≡ length ps
  length-laid_out page [] = refl
  length-laid_out page (o ∷ ps) = ap suc (length-laid_out (page + pages_taken o) ps)

  laid_some : (page k : ℕ) (ps : List (Option Place)) → is_some (get_or (laid_out checksums page ps) k None) ≡ is_some (get_or ps k None)
  laid_some page k [] = refl
  laid_some page zero (None ∷ ps) = refl
  laid_some page zero (Some place ∷ ps) = refl
  laid_some page (suc k) (o ∷ ps) = laid_some (page + pages_taken o) k ps

  one_laid : (page last : ℕ) (o : Option Place) → 2 ≤ page → page + pages_taken o ≤ last → last ≤ page_limit → IfSome o (λ p. IsPlaced p.extent) → IfSome (moved_to checksums page o) (λ p. IsPlaced p.extent)
  one_laid page last None low l high placed = tt
  one_laid page last (Some place) low l high placed = record { behind = low; within = omega (arith, l, high); some = placed.some; short = placed.short }

  laid_placed : (page last : ℕ) (ps : List (Option Place)) → 2 ≤ page → page_behind page ps ≤ last → last ≤ page_limit → EachPlace (λ p. IsPlaced p.extent) ps → EachPlace (λ p. IsPlaced p.extent) (laid_out checksums page ps)
  laid_placed page last [] low l high placed = All-nil (λ o. IfSome o (λ p. IsPlaced p.extent))
  laid_placed page last (o ∷ ps) low l high placed =
      let P : Option Place → Type 0 = λ o. IfSome o (λ p. IsPlaced p.extent) in
      let more = behind_low (page + pages_taken o) ps in
      All-cons P (moved_to checksums page o) (laid_out checksums (page + pages_taken o) ps) (one_laid page last o low (omega (arith, more, l)) high (All-head P o ps placed))
      (laid_placed (page + pages_taken o) last ps (omega (arith, low)) l high (All-tail P o ps placed))

  one_can : (page : ℕ) (o : Option Place) → IfSome o IsPlace → IfSome (moved_to checksums page o) IsPlace
  one_can page None is = tt
  one_can page (Some place) is = record { short = is.short; typed = is.typed }

  laid_can : (page : ℕ) (ps : List (Option Place)) → ArePlaces ps → ArePlaces (laid_out checksums page ps)
  laid_can page [] are = are
  laid_can page (o ∷ ps) are =
      let P : Option Place → Type 0 = λ o. IfSome o IsPlace in
      All-cons P (moved_to checksums page o) (laid_out checksums (page + pages_taken o) ps) (one_can page o (All-head P o ps are)) (laid_can (page + pages_taken o) ps (All-tail P o ps are))

  laid_table : (live new : BlockTable) → IsBlockTable live → new.map_block ≡ live.map_block → new.places.items ≡ laid_out checksums 2 live.places.items → IsBlockTable new
  laid_table live new is map_block places =
      let m = live.map_block in
      let P : List (Option Place) → Type 0 = λ ps. (m ≡ 0) ⊎ ((1 ≤ m) × (is_some (get_or ps (m - 1) None) ≡ true)) in
      let Q : ℕ → Type 0 = λ n. (n ≡ 0) ⊎ ((1 ≤ n) × (is_some (get_or new.places.items (n - 1) None) ≡ true)) in
      let there : P (laid_out checksums 2 live.places.items) = elim is.map_block as (λ _. P (laid_out checksums 2 live.places.items)) [
        | inl none ↦ inl none
        | inr some ↦ inr (some.0, laid_some 2 (m - 1) live.places.items ∙ some.1)
      ] in
      record {
        size = (let long = ap length places ∙ length-laid_out 2 live.places.items in let was = is.size in omega (arith, long, was));
        places = subst ArePlaces (sym places) (laid_can 2 live.places.items is.places);
        map_block = subst Q (sym map_block) (subst P (sym places) there);
      }

  pub plan_founding : (live new : BlockTable) (directory : Extent) (text : List ℕ) → IsBlockTable live → All IsPlaced (block_extents live.places.items) → new.map_block ≡ live.map_block → new.places.items ≡ laid_out checksums 2 live.places.items
      → directory.page ≡ page_behind 2 live.places.items → directory.length ≡ length text → text ≡ directory_text (directory_of_table (version_for checksums) new) → All (λ e. FitAttributes e.attributes) (entries_of 1 new.places.items) → IsFounding checksums directory text new
  plan_founding live new directory text is placed map_block places page size text_is attributes =
      let ps = live.places.items in
      let each = places_of IsPlaced ps placed in
      let low = behind_low 2 ps in
      let high = behind_high 2 ps each in
      let all : length new.places.items ≤ most_blocks = (let long = ap length places ∙ length-laid_out 2 ps in let was = is.size in omega (arith, long, was)) in
      let laid = extents_of IsPlaced (laid_out checksums 2 ps) (laid_placed 2 (page_behind 2 ps) ps (omega arith) (omega arith) (omega (arith, high, is.size)) each) in
      let ends = extents_of (λ e. end_of e ≤ 512 * page_behind 2 ps) (laid_out checksums 2 ps) (ends_before 2 ps) in
      let fits = text_fits (version_for checksums) new text all text_is in
      let behind : All (λ e. end_of e ≤ 512 * page_behind 2 ps) (block_extents new.places.items) = subst (λ qs. All (λ e. end_of e ≤ 512 * page_behind 2 ps) (block_extents qs)) (sym places) ends in
      record {
        table = laid_table live new is map_block places;
        placed = subst (λ qs. All IsPlaced (block_extents qs)) (sym places) laid;
        directory_placed = record { behind = omega (arith, low, page); within = omega (arith, page, high, is.size, size, fits.1); some = omega (arith, size, fits.0); short = omega (arith, size, fits.1) };
        clear = λ k x inside. inl (omega (arith, behind k x inside, page));
        attributes = attributes;
        text_is = text_is;
        size = sym size;
      }

  -- the images of a table that were copied lie there
  pub copied_lying : (honest : Type 0) (source old file : List ℕ) (ps : List (Option Place)) (new : BlockTable) → old ≡ [] → new.places.items ≡ laid_out checksums 2 ps → AreCopied checksums honest source ps old file → AreLying checksums new file
  copied_lying honest source old file ps new none places copied = record {
    images = subst (AreImaged file) (sym places) copied.images;
    sums = subst (AreSummed checksums file) (sym places) copied.sums;
    within = subst (λ qs. All (λ e. end_of e ≤ length file) (block_extents qs)) (sym places) (extents_of (λ e. end_of e ≤ length file) (laid_out checksums 2 ps) copied.within);
    beside = λ is. let b : byte old 516 ≡ 1 = sym copied.beside ∙ is in let z : byte old 516 ≡ 0 = ap (λ f. byte f 516) none in omega (arith, b, z);
  }

  -- The document that is laid out.

  laid_attributes : (page k : ℕ) (ps : List (Option Place)) → option_map_or (λ (p : Place). p.attributes) (get_or (laid_out checksums page ps) k None) no_attributes ≡ option_map_or (λ (p : Place). p.attributes) (get_or ps k None) no_attributes
  laid_attributes page k [] = refl
  laid_attributes page zero (None ∷ ps) = refl
  laid_attributes page zero (Some place ∷ ps) = refl
  laid_attributes page (suc k) (o ∷ ps) = laid_attributes (page + pages_taken o) k ps

  laid_kind : (page k : ℕ) (ps : List (Option Place)) → option_map_or (λ (p : Place). p.is_heap) (get_or (laid_out checksums page ps) k None) false ≡ option_map_or (λ (p : Place). p.is_heap) (get_or ps k None) false
  laid_kind page k [] = refl
  laid_kind page zero (None ∷ ps) = refl
  laid_kind page zero (Some place ∷ ps) = refl
  laid_kind page (suc k) (o ∷ ps) = laid_kind (page + pages_taken o) k ps

  module _ (file c : List ℕ) (ps : List (Option Place)) (m : ℕ) where
    live_laid : (h : ℕ) → is_live (shown c (laid_out checksums 2 ps) m) h ≡ is_live (shown file ps m) h
    live_laid zero = not_live c (laid_out checksums 2 ps) m ∙ sym (not_live file ps m)
    live_laid (suc n) = live_is c (laid_out checksums 2 ps) m (suc n) (omega arith) ∙ laid_some 2 (suc n - 1) ps ∙ sym (live_is file ps m (suc n) (omega arith))

    attributes_laid : (h : ℕ) → attributes_of (shown c (laid_out checksums 2 ps) m) h ≡ attributes_of (shown file ps m) h
    attributes_laid zero = ap (λ o. option_map_or (λ (b : Block). b.attributes) o no_attributes) (get_none c (laid_out checksums 2 ps) m ∙ sym (get_none file ps m))
    attributes_laid (suc n) = attributes_is c (laid_out checksums 2 ps) m (suc n) (omega arith) ∙ laid_attributes 2 (suc n - 1) ps ∙ sym (attributes_is file ps m (suc n) (omega arith))

    kinds_laid : (h : ℕ) → is_heap (shown c (laid_out checksums 2 ps) m) h ≡ is_heap (shown file ps m) h
    kinds_laid zero = ap (λ o. option_map_or (λ (b : Block). is_heap_body b.body) o false) (get_none c (laid_out checksums 2 ps) m ∙ sym (get_none file ps m))
    kinds_laid (suc n) = heap_is c (laid_out checksums 2 ps) m (suc n) (omega arith) ∙ laid_kind 2 (suc n - 1) ps ∙ sym (heap_is file ps m (suc n) (omega arith))

    pub laid_drifts : (live new : BlockTable) → live.places.items ≡ ps → live.map_block ≡ m → new.places.items ≡ laid_out checksums 2 ps → new.map_block ≡ m → SameUnlessCorrupt false (document_in file live) (document_in c new)
    laid_drifts live new from from_map places map_block =
        let old_is : shown file ps m ≡ document_in file live = λ i. record { blocks = table_map 1 1 (blocks_in file ((sym from) i)); map_block = (sym from_map) i } in
        let new_is : shown c (laid_out checksums 2 ps) m ≡ document_in c new = λ i. record { blocks = table_map 1 1 (blocks_in c ((sym places) i)); map_block = (sym map_block) i } in
        subst (λ d. SameUnlessCorrupt false d (document_in c new)) old_is (subst (λ d. SameUnlessCorrupt false (shown file ps m) d) new_is
        (record { live = live_laid; attributes = attributes_laid; kinds = kinds_laid; map_block = refl; same = λ so. absurd (cc so) }))

  pub laid_same : (file c : List ℕ) (live new : BlockTable) → new.map_block ≡ live.map_block → blocks_in c new.places.items ≡ blocks_in file live.places.items → document_in c new ≡ document_in file live
  laid_same file c live new map_block blocks = λ i. record { blocks = table_map 1 1 (blocks i); map_block = map_block i }
