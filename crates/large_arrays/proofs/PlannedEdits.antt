-- What is planned costs what an edit costs that changes these blocks.
use Rattle.std.proofs.Common.{◌≡◌, ◌<◌, ◌+◌, ◌++◌, ◌∷◌, ◌∙◌, ◌&&◌, ℕ, Bool, true, false, List, [], length, map, sum_by, if◌then◌else◌, Option, Some, None, is_some, nat_cmp, refl, sym, ap, ap₂, subst, inl, inr, arith}
use Rattle.std.proofs.lemmas.Bool.{cases_eq}
use Rattle.std.proofs.lemmas.List.Sums.{sum_by-append}
use Rattle.std.proofs.lemmas.List.Elements.{All-head, All-tail}
use Rattle.std.specs.Cmp.{nat_cmp_total}
use Rattle.std.specs.List.{All, Contains, flat_map}
use Rattle.std.specs.Option.{option_map_or}
use Rattle.std.specs.FinMap.{FinMap, get, insert, same_map, nat_cmp-IsAntisymmetric}
use Rattle.geos_model.specs.Cost.{image_length}
use Rattle.geos_model.specs.ElementArray.{all_distinct}
use Rattle.geos_model.specs.Document.{Block, Document, is_live, is_raw, raw_bytes_of, handles_of, with_block, without_blocks}
use Rattle.geos_model.specs.Image.{image}
use Rattle.geos_model.specs.declared.command.Body.TheVariants.{Raw}
use Rattle.geos_model.proofs.BlockLists.{put_elsewhere, put_stands, taken_gone}
use Rattle.geos_model.proofs.HeapEdits.{get-put_same, get-put_other}
use Rattle.geos_model.proofs.Chains.{contains_first, contains_later}
use Rattle.vm_blocks.specs.ChangePlaces.{change_places}
use Rattle.vm_blocks.specs.declared.change.Change.{Change}
use Rattle.large_arrays.specs.ChangePlans.{with_bodies, body_cost, planned_cost, ArePlanned}
use Rattle.large_arrays.specs.EditPlans.{PlansLargeEdit}
use Rattle.geos_model.specs.Cost.{block_cost, large_cost}
use Rattle.geos_model.specs.Places.{large_places}
use Rattle.geos_model.specs.LargeWindow.{raw_block}
use Rattle.geos_model.proofs.DistinctHandles.{distinct-parts}
use Rattle.large_arrays.proofs.PlannedChanges.{raw_there}

and-false : (b : Bool) → (b && false) ≡ false
and-false true = refl
and-false false = refl

-- what a block costs, by what is known of it

if_gone : (d after : Document) (h : ℕ) → get after.blocks h ≡ None → block_cost d after h ≡ image_length d h
if_gone d after h gone =
    ap (λ (b : Bool). if b then length (raw_bytes_of d h) + length (raw_bytes_of after h) else image_length d h + image_length after h)
    (ap (λ (o : Option Block). is_live d h && is_some o) gone ∙ and-false (is_live d h))
    ∙ ap (λ (o : Option Block). image_length d h + option_map_or (λ (b : Block). length (image b.body)) o 0) gone ∙ omega arith

if_put : (d after : Document) (h : ℕ) (new : List ℕ) → get after.blocks h ≡ Some (raw_block d h new).1 → block_cost d after h ≡ body_cost d (h, new)
if_put d after h new is = by_live (is_live d h) (get d.blocks h) refl refl
  where
    by_live : (live : Bool) (o : Option Block) → is_live d h ≡ live → get d.blocks h ≡ o → block_cost d after h ≡ body_cost d (h, new)
    by_live true o live there =
        ap₂ (λ (x y : Bool). if x && y then length (raw_bytes_of d h) + length (raw_bytes_of after h) else image_length d h + image_length after h) live (ap is_some is)
        ∙ ap (λ (x : List ℕ). length (raw_bytes_of d h) + length x) (rw is refl)
        ∙ sym (ap (λ (b : Bool). if b then length (raw_bytes_of d h) + length new else length (image (Raw new))) live)
    by_live false None live there =
        ap (λ (x : Bool). if x && is_live after h then length (raw_bytes_of d h) + length (raw_bytes_of after h) else image_length d h + image_length after h) live
        ∙ ap₂ (λ (x y : ℕ). x + y) (ap (λ (o : Option Block). option_map_or (λ (b : Block). length (image b.body)) o 0) there)
        (ap (λ (o : Option Block). option_map_or (λ (b : Block). length (image b.body)) o 0) is)
        ∙ (let none : 0 + length (image (Raw new)) ≡ length (image (Raw new)) = omega arith in none)
        ∙ sym (ap (λ (b : Bool). if b then length (raw_bytes_of d h) + length new else length (image (Raw new))) live)
    by_live false (Some b) live there = absurd (cc (live, there))

module _ (d : Document) (freed : List ℕ) (bodies : List (ℕ × List ℕ)) (once : all_distinct (freed ++ map (λ (p : ℕ × List ℕ). p.0) bodies) ≡ true) where
  abbrev after : Document
  after = with_bodies d freed bodies

  abbrev blocks : List (ℕ × List ℕ) → List (ℕ × Block)
  blocks ps = map (λ p. raw_block d p.0 p.1) ps

  handles-are : (ps : List (ℕ × List ℕ)) → handles_of (blocks ps) ≡ map (λ (p : ℕ × List ℕ). p.0) ps
  handles-are [] = refl
  handles-are (p ∷ ps) = ap (λ (hs : List ℕ). p.0 ∷ hs) (handles-are ps)

  -- a block that goes isn't there any more
  gone : (h : ℕ) → Contains freed h → get after.blocks h ≡ None
  gone h there =
      put_elsewhere (without_blocks d freed) (blocks bodies) h (λ put. (distinct-parts freed (map (λ (p : ℕ × List ℕ). p.0) bodies) once).2 h there (subst (λ (hs : List ℕ). Contains hs h) (handles-are bodies) put))
      ∙ taken_gone d freed h there

  freed_cost : (hs : List ℕ) → ((h : ℕ) → Contains hs h → Contains freed h) → sum_by (block_cost d after) hs ≡ sum_by (image_length d) hs
  freed_cost [] among = refl
  freed_cost (h ∷ hs) among =
      let here : block_cost d after h ≡ image_length d h = if_gone d after h (gone h (among h (contains_first h hs))) in
      let rest = freed_cost hs (λ x there. among x (contains_later h hs x there)) in
      let first = sum_by-append (block_cost d after) (h ∷ []) hs in
      let next = sum_by-append (image_length d) (h ∷ []) hs in
      let one : sum_by (block_cost d after) (h ∷ []) ≡ block_cost d after h = omega arith in
      let other : sum_by (image_length d) (h ∷ []) ≡ image_length d h = omega arith in
      omega arith

  bodies_cost : (ps : List (ℕ × List ℕ)) → All (λ p. get after.blocks p.0 ≡ Some p.1) (blocks ps)
      → sum_by (block_cost d after) (map (λ (p : ℕ × List ℕ). p.0) ps) ≡ sum_by (body_cost d) ps
  bodies_cost [] stand = refl
  bodies_cost (p ∷ ps) stand =
      let here : block_cost d after p.0 ≡ body_cost d p = if_put d after p.0 p.1 (All-head (λ q. get after.blocks q.0 ≡ Some q.1) (raw_block d p.0 p.1) (blocks ps) stand) in
      let rest = bodies_cost ps (All-tail (λ q. get after.blocks q.0 ≡ Some q.1) (raw_block d p.0 p.1) (blocks ps) stand) in
      let first = sum_by-append (block_cost d after) (p.0 ∷ []) (map (λ (q : ℕ × List ℕ). q.0) ps) in
      let next = sum_by-append (body_cost d) (p ∷ []) ps in
      let one : sum_by (block_cost d after) (p.0 ∷ []) ≡ block_cost d after p.0 = omega arith in
      let other : sum_by (body_cost d) (p ∷ []) ≡ body_cost d p = omega arith in
      omega arith

  pub planned-cost : planned_cost d freed bodies ≡ large_cost d after (freed ++ map (λ (p : ℕ × List ℕ). p.0) bodies)
  planned-cost =
      let go = freed_cost freed (λ h there. there) in
      let come = bodies_cost bodies (put_stands (without_blocks d freed) (blocks bodies) (ap all_distinct (handles-are bodies) ∙ (distinct-parts freed (map (λ (p : ℕ × List ℕ). p.0) bodies) once).1)) in
      let all = sum_by-append (block_cost d after) freed (map (λ (p : ℕ × List ℕ). p.0) bodies) in
      omega arith

  -- Where blocks change there are changes.
  some-changes : (cs : List Change) (changed : List ℕ) → flat_map change_places cs ≡ large_places changed → 0 < length changed → 0 < length cs
  some-changes [] [] none more = absurd (omega arith)
  some-changes [] (h ∷ hs) none more = absurd (cc none)
  some-changes (c ∷ cs) changed same more = omega arith

  -- What is planned so is the plan of an edit.
  pub planned-edit : 0 < length (freed ++ map (λ (p : ℕ × List ℕ). p.0) bodies) → (cs : List Change) (e : Document) → with_bodies d freed bodies ≡ e → ArePlanned cs d freed bodies
      → PlansLargeEdit d e (freed ++ map (λ (p : ℕ × List ℕ). p.0) bodies) cs
  planned-edit more cs e is planned = record {
    applies = planned.applies;
    makes = planned.makes ∙ is;
    some = some-changes cs (freed ++ map (λ (p : ℕ × List ℕ). p.0) bodies) planned.places more;
    places = planned.places;
    cost = planned.cost ∙ planned-cost ∙ ap (λ (x : Document). large_cost d x (freed ++ map (λ (p : ℕ × List ℕ). p.0) bodies)) is;
  }

-- A block that becomes what it is.

put_own : (d : Document) (h : ℕ) (x : Block) → get d.blocks h ≡ Some x → with_block d h x ≡ d
put_own d h x is =
    ap (λ (m : FinMap nat_cmp Block). record d { blocks = m })
    (same_map nat_cmp_total nat_cmp-IsAntisymmetric (insert d.blocks h x) d.blocks (λ q. elim (cases_eq q h) [
      | inl e ↦ get-put_same d.blocks h x q e ∙ (sym is ∙ ap (get d.blocks) (sym e))
      | inr other ↦ get-put_other d.blocks h x q other
    ]))

pub nothing-planned : (cs : List Change) (d : Document) (b : ℕ) → is_raw d b ≡ true → ArePlanned cs d [] ((b, raw_bytes_of d b) ∷ []) → PlansLargeEdit d d (b ∷ []) cs
nothing-planned cs d b raw planned =
    planned-edit d [] ((b, raw_bytes_of d b) ∷ []) refl (omega arith) cs d (put_own d b (raw_block d b (raw_bytes_of d b)).1 (raw_there d b raw)) planned
