-- What is found out of a block.
use Rattle.std.proofs.Common.{◌≡◌, ℕ, Bool, true, false, not, ◌&&◌, List, is_some, sym, ap, ◌∙◌}
use Rattle.std.specs.FinMap.{get-empty}
use Rattle.std.specs.Ordering.{nat_cmp}
use Rattle.geos_model.specs.Bytes.{same_bytes}
use Rattle.geos_model.specs.Document.{Document, empty_document, is_live, block_at}
use Rattle.geos_model.specs.Image.{image}
use Rattle.document_dump.specs.Changes.{is_made, has_same_body}

-- it isn't live in the new document
pub made-gone : (old new : Document) (h : ℕ) → is_live new h ≡ false → is_made old new h ≡ false
unfolding is_made
made-gone old new h gone = ap (λ (b : Bool). b && not (is_live old h && has_same_body old new h)) gone

-- it is, and wasn't in the old one
pub made-new : (old new : Document) (h : ℕ) → is_live old h ≡ false → is_live new h ≡ true → is_made old new h ≡ true
unfolding is_made
made-new old new h absent live =
    ap (λ (b : Bool). b && not (is_live old h && has_same_body old new h)) live ∙ ap (λ (b : Bool). not (b && has_same_body old new h)) absent

-- it is live in both
pub made-both : (old new : Document) (h : ℕ) (a b : List ℕ) (same : Bool) → is_live old h ≡ true → is_live new h ≡ true → a ≡ image (block_at old h).body → b ≡ image (block_at new h).body
    → same ≡ same_bytes a b → is_made old new h ≡ not same
unfolding is_made
made-both old new h a b same was live a_is b_is same_is =
    ap (λ (x : Bool). x && not (is_live old h && has_same_body old new h)) live
    ∙ ap (λ (x : Bool). not (x && has_same_body old new h)) was
    ∙ ap not (sym (same_is ∙ ap (λ (l : List ℕ). same_bytes l b) a_is ∙ ap (λ (l : List ℕ). same_bytes (image (block_at old h).body) l) b_is))

pub live-empty : (h : ℕ) → is_live empty_document h ≡ false
live-empty h = ap is_some (get-empty nat_cmp h)
