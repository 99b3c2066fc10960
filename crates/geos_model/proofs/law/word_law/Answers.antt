use Rattle.std.proofs.Common.{◌≡◌, ℕ, ◌+◌, ◌*◌, ◌/◌, ◌%◌, ◌<◌, List, [], ◌∷◌, ◌++◌, sym, ap, ◌∙◌, arith}
use Rattle.byteorder.specs.Endian.{little_number}
use Rattle.geos_model.specs.Words.{word}
use Rattle.geos_model.proofs.Images.{word-reads_back}
use Rattle.geos_model.proofs.law.word_law.Goals as goal

spelled : (low high : ℕ) → low < 256 → high < 256 → word (low + 256 * high) ≡ low ∷ high ∷ []
spelled low high l h =
    let low_is : (low + 256 * high) % 256 ≡ low = omega arith in
    let high_is : (low + 256 * high) / 256 ≡ high = omega arith in
    let small : high % 256 ≡ high = omega arith in
    ap (λ (b : ℕ). b ∷ ((low + 256 * high) / 256 % 256) ∷ []) low_is ∙ ap (λ (b : ℕ). low ∷ (b % 256) ∷ []) high_is ∙ ap (λ (b : ℕ). low ∷ b ∷ []) small

only : (low high : ℕ) → low < 256 → high < 256 → (n : ℕ) → n < 65536 → word n ≡ low ∷ high ∷ [] → n ≡ low + 256 * high
only low high l h n small e = sym (word-reads_back n [] small) ∙ ap (λ (bytes : List ℕ). little_number 2 (bytes ++ [])) e ∙ (let same : low + 256 * (high + 0) ≡ low + 256 * high = omega arith in same)

pub returns : goal.returns
returns c = λ low high l h. (spelled low high l h, only low high l h)
