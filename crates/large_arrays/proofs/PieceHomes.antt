-- Pieces that get their blocks one after another.
use Rattle.std.proofs.Common.{◌≡◌, ℕ, suc, ◌+◌, ◌<◌, true, List, [], ◌∷◌, ◌++◌, length, take, drop, map, get_or, refl, sym, ap, subst, ◌∙◌, inl, inr, arith}
use Rattle.std.proofs.lemmas.List.{append_assoc, get_or-drop, length-drop, length-map, map-append, take-append-drop, take-map}
use Rattle.std.proofs.lemmas.Simd.{map-map}
use Rattle.std.proofs.lemmas.List.Elements.{Contains-append_cases, Contains-get_or}
use Rattle.std.proofs.lemmas.Slice.Zip.{get_or-zip}
use Rattle.std.proofs.Math.Seq.{take-suc}
use Rattle.std.specs.List.{Contains, zip}
use Rattle.geos_model.specs.ElementArray.{all_distinct}
use Rattle.geos_model.specs.Pieces.{BranchPiece}
use Rattle.geos_model.specs.LargeLayout.{branch_bytes}
use Rattle.large_arrays.specs.HandleLists.{ShareNoHandle}
use Rattle.large_arrays.specs.ChangePlans.{IsUntouched, piece_bodies}
use Rattle.geos_model.proofs.DistinctHandles.{distinct-parts}

pub zip-firsts : (hs : List ℕ) (ps : List BranchPiece) → length hs ≡ length ps → map (λ (p : ℕ × BranchPiece). p.0) (zip hs ps) ≡ hs
zip-firsts [] ps many = refl
zip-firsts (h ∷ hs) [] many = absurd (let none : suc (length hs) ≡ 0 = many in omega arith)
zip-firsts (h ∷ hs) (p ∷ ps) many =
    let rest : suc (length hs) ≡ suc (length ps) = many in ap (λ (xs : List ℕ). h ∷ xs) (zip-firsts hs ps (omega arith))

-- as many as there are of either
pub zip-many : (hs : List ℕ) (ps : List BranchPiece) → length hs ≡ length ps → length (zip hs ps) ≡ length hs
zip-many hs ps many = sym (length-map (zip hs ps) (λ (p : ℕ × BranchPiece). p.0)) ∙ ap length (zip-firsts hs ps many)

module _ (size : ℕ) (hs : List ℕ) (ps : List BranchPiece) (many : length hs ≡ length ps) (k : ℕ) (low : k < length hs) where
  abbrev done : List (ℕ × List ℕ)
  done = piece_bodies size (take k (zip hs ps))

  -- the blocks that the first pieces have
  done-handles : map (λ (p : ℕ × List ℕ). p.0) done ≡ take k hs
  done-handles =
      map-map (λ (p : ℕ × List ℕ). p.0) (λ (p : ℕ × BranchPiece). (p.0, branch_bytes size p.1)) (take k (zip hs ps))
      ∙ sym (take-map (λ (p : ℕ × BranchPiece). p.0) k (zip hs ps)) ∙ ap (take k) (zip-firsts hs ps many)

  -- one piece more
  pub one_more : (bodies : List (ℕ × List ℕ)) → (bodies ++ done) ++ (get_or hs k 0, branch_bytes size (get_or ps k [])) ∷ [] ≡ bodies ++ piece_bodies size (take (k + 1) (zip hs ps))
  one_more bodies =
      let long = zip-many hs ps many in
      let plus : suc k ≡ k + 1 = omega arith in
      let shown : take (k + 1) (zip hs ps) ≡ take k (zip hs ps) ++ (get_or hs k 0, get_or ps k []) ∷ [] =
      ap (λ (n : ℕ). take n (zip hs ps)) (sym plus) ∙ take-suc (zip hs ps) k (0, []) (omega arith)
      ∙ ap (λ (p : ℕ × BranchPiece). take k (zip hs ps) ++ p ∷ []) (get_or-zip hs ps k (0, []) low (omega arith)) in
      append_assoc bodies done ((get_or hs k 0, branch_bytes size (get_or ps k [])) ∷ [])
      ∙ ap (λ (xs : List (ℕ × List ℕ)). bodies ++ xs)
      (sym (map-append (λ (p : ℕ × BranchPiece). (p.0, branch_bytes size p.1)) (take k (zip hs ps)) ((get_or hs k 0, get_or ps k []) ∷ []))
      ∙ sym (ap (piece_bodies size) shown))

  -- its block isn't one of those that go, nor has it got another body
  pub untouched : (freed : List ℕ) (bodies : List (ℕ × List ℕ)) → all_distinct hs ≡ true → ShareNoHandle freed hs → ShareNoHandle (map (λ p. p.0) bodies) hs
      → IsUntouched freed (bodies ++ done) (get_or hs k 0)
  untouched freed bodies once stay others =
      let here : Contains hs (get_or hs k 0) = Contains-get_or hs k 0 low in
      let later : Contains (drop k hs) (get_or hs k 0) =
      subst (Contains (drop k hs)) (get_or-drop k hs 0 0 ∙ ap (λ (n : ℕ). get_or hs n 0) (omega arith)) (Contains-get_or (drop k hs) 0 0 (let long = length-drop k hs in omega (arith, long, low))) in
      let halves = distinct-parts (take k hs) (drop k hs) (ap all_distinct (take-append-drop k hs) ∙ once) in
      record {
        stays = λ there. stay (get_or hs k 0) there here;
        other = λ there. elim (Contains-append_cases (map (λ (p : ℕ × List ℕ). p.0) bodies) (map (λ (p : ℕ × List ℕ). p.0) done) (get_or hs k 0)
            (subst (λ xs. Contains xs (get_or hs k 0)) (map-append (λ (p : ℕ × List ℕ). p.0) bodies done) there)) [
              | inl before ↦ others (get_or hs k 0) before here
              | inr piece ↦ halves.2 (get_or hs k 0) (subst (λ xs. Contains xs (get_or hs k 0)) done-handles piece) later
            ];
      }
