use Rattle.std.proofs.Common.{◌≡◌, ℕ, ◌+◌, ◌-◌, ◌<◌, ◌≤◌, ◌++◌, ◌∷◌, [], List, Some, None, false, get_or, set, drop, length, length-set, sym, ap, ap₂, subst, refl, ◌∙◌, arith}
use Rattle.std.proofs.lemmas.List.{drop_more}
use Rattle.file_format.specs.declared.file.Extent.{Extent}
use Rattle.geos_model.specs.Document.{no_attributes}
use Rattle.document_file.specs.Calls.{IsPut}
use Rattle.document_file.specs.FreeSpace.{IsSpaceOf}
use Rattle.document_file.specs.Slots.{block_extents, referenced_extents}
use Rattle.document_file.specs.declared.table.Place.{Place}
use Rattle.document_file.specs.Writing.{with_places}
use Rattle.document_file.specs.declared.member.Member.{Member}
use Rattle.document_file.proofs.TableLemmas.{handle_within}
use Rattle.document_file.proofs.FreeSpaceLemmas.{known-put, known_rest}
use Rattle.document_file.proofs.table.put_places.Goals as goal

pub give_back-requires : goal.give_back-requires
give_back-requires c =
    let i : ℕ = c.loop-i.i in
    let extents : List Extent = c.args.extents.now in
    let d : Extent = record { page = 0; length = 0 } in
    let e : Extent = get_or extents i d in
    let at : ℕ = c.from-at.result - 1 in
    let p : Place = record { attributes = no_attributes; is_heap = false; extent = e; sum = None } in
    let kept : List Extent = referenced_extents c.args.slots.now in
    let places = c.loop-i.places in
    let put : IsPut c.index-puts-i.result = subst IsPut (sym c.index-puts-i.is) (c.requires.puts i _ c.loop-i-test.true) in
    let handle = handle_within c.index-puts-i.result.handle.0 put in
    let room : c.index-puts-i.result.handle.0 ≤ length c.args.places.now = subst (λ (x : Member). x.handle.0 ≤ length c.args.places.now) (sym c.index-puts-i.is) (c.requires.room i _ c.loop-i-test.true) in
    let within : at < length places = omega (arith, handle.0, room, c.from-at.ensures, c.loop-i.invariant.long) in
    let inside : i < length extents = omega (arith, c.requires.extents, c.loop-i-test.true) in
    let before : IsSpaceOf ((e ∷ drop (i + 1) extents) ++ (block_extents places ++ kept)) c.loop-i.space = subst (λ es. IsSpaceOf (es ++ (block_extents places ++ kept)) c.loop-i.space) (drop_more extents i d inside) c.loop-i.invariant.known in
    known_rest (block_extents (get_or places at None ∷ [])) (drop (i + 1) extents ++ (block_extents (set places at (Some p)) ++ kept)) c.loop-i.space
    (known-put places at e p (drop (i + 1) extents) kept c.loop-i.space within refl before)

pub loop-i-preserved : goal.loop-i-preserved
loop-i-preserved c =
    let i : ℕ = c.loop-i.i in
    let extents : List Extent = c.args.extents.now in
    let d : Extent = record { page = 0; length = 0 } in
    let e : Extent = get_or extents i d in
    let at : ℕ = c.from-at.result - 1 in
    let p : Place = c.placed_at.result in
    let kept : List Extent = referenced_extents c.args.slots.now in
    let places = c.loop-i.places in
    let put : IsPut c.index-puts-i.result = subst IsPut (sym c.index-puts-i.is) (c.requires.puts i _ c.loop-i-test.true) in
    let handle = handle_within c.index-puts-i.result.handle.0 put in
    let room : c.index-puts-i.result.handle.0 ≤ length c.args.places.now = subst (λ (x : Member). x.handle.0 ≤ length c.args.places.now) (sym c.index-puts-i.is) (c.requires.room i _ c.loop-i-test.true) in
    let within : at < length places = omega (arith, handle.0, room, c.from-at.ensures, c.loop-i.invariant.long) in
    let inside : i < length extents = omega (arith, c.requires.extents, c.loop-i-test.true) in
    let before : IsSpaceOf ((e ∷ drop (i + 1) extents) ++ (block_extents places ++ kept)) c.loop-i.space = subst (λ es. IsSpaceOf (es ++ (block_extents places ++ kept)) c.loop-i.space) (drop_more extents i d inside) c.loop-i.invariant.known in
    let puts : List Member = c.args.puts.now in
    let first : drop i puts ≡ c.index-puts-i.result ∷ drop (i + 1) puts = drop_more puts i c.index-puts-i.result c.loop-i-test.true ∙ ap (λ (x : Member). x ∷ drop (i + 1) puts) (sym c.index-puts-i.is) in
    record {
      long = length-set places at (Some p) ∙ c.loop-i.invariant.long;
      filled = ap₂ (λ (n : ℕ) (x : Place). with_places c.args.slots.now.next_version (drop (i + 1) puts) (drop (i + 1) extents) (set places (n - 1) (Some x))) c.from-at.ensures c.placed_at.ensures
          ∙ ap₂ (λ xs es. with_places c.args.slots.now.next_version xs es places) (sym first) (sym (drop_more extents i d inside)) ∙ c.loop-i.invariant.filled;
      known = c.give_back.ensures (drop (i + 1) extents ++ (block_extents (set places at (Some p)) ++ kept)) (known-put places at e p (drop (i + 1) extents) kept c.loop-i.space within (ap (λ (x : Place). x.extent) c.placed_at.ensures) before);
    }
