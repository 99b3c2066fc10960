-- A copy that is looked at again at the places that are told is the document.
use Rattle.std.proofs.Common.{◌≡◌, ℕ, List, [], ◌∷◌, Option, Some, None, IfSome, unwrap_or, refl, sym, ap, ap₂}
use Rattle.std.specs.Option.{option_map, option_map_or}
use Rattle.geos_model.specs.Document.{Document}
use Rattle.geos_model.specs.Places.{attributes_under, text_under, Holed, AreBytes, IsText, Stands}
use Rattle.geos_model.specs.Touching.{view, filled_bytes, filled}

bytes-filled : (ts : List (Option ℕ)) (xs : List ℕ) → AreBytes ts xs → filled_bytes ts xs ≡ xs
bytes-filled [] [] a = refl
bytes-filled [] (x ∷ xs) a = absurd a
bytes-filled (t ∷ ts) [] a = absurd a
bytes-filled (None ∷ ts) (x ∷ xs) a = ap (λ (l : List ℕ). x ∷ l) (bytes-filled ts xs a.1)
bytes-filled (Some y ∷ ts) (x ∷ xs) a = ap₂ (λ (l : ℕ) (ls : List ℕ). l ∷ ls) (sym a.0) (bytes-filled ts xs a.1)

text-filled : (o : Option (Option (List (Option ℕ)))) (q : Option (List ℕ)) → IfSome o (λ t. IsText t q)
    → option_map_or (option_map (λ t. filled_bytes t (unwrap_or q []))) o q ≡ q
text-filled None q a = refl
text-filled (Some None) None a = refl
text-filled (Some None) (Some xs) a = absurd a
text-filled (Some (Some ts)) None a = absurd a
text-filled (Some (Some ts)) (Some xs) a = ap Some (bytes-filled ts xs a)

known : {X : Type 0} (o : Option X) (x : X) → IfSome o (λ y. x ≡ y) → unwrap_or o x ≡ x
known None x a = refl
known (Some y) x a = sym a

-- a document with holes that stands in another one, filled with what stands there, is that one
pub stands-filled : (h : Holed) (d : Document) → Stands h d → filled h d ≡ view d
stands-filled h d a = λ i. record {
  map_block = known h.map_block d.map_block a.map_block i;
  attributes = λ b. known (h.attributes b) (attributes_under d b) (a.attributes b) i;
  text = λ b c. text-filled (h.text b c) (text_under d b c) (a.text b c) i;
}
