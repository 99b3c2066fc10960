-- Parts of a file that a burst leaves as they are: all of those on one side of it, and each whose sum is as it was.
use Rattle.std.proofs.Common.{◌≡◌, ◌⊎◌, ◌<◌, ◌≤◌, ℕ, ◌+◌, ◌-◌, ◌*◌, List, All, take, drop, take-take, drop-drop, sym, ap, ◌∙◌, arith, inl, inr}
use Rattle.std.proofs.lemmas.List.{drop-take}
use Rattle.std.proofs.lemmas.List.Elements.{All-take, All-drop}
use Rattle.checksum.specs.Crc32c.{crc32c}
use Rattle.checksum.proofs.Bytes.{same_bytes}
use Rattle.checksum.proofs.Parts.{part_told, one_side_agrees}
use Rattle.file_format.specs.File.{bytes_in}
use Rattle.file_format.specs.Damage.{MaybeDamaged}
use Rattle.file_format.specs.declared.file.Extent.{Extent}

abbrev pub IsByte : ℕ → Type 0
IsByte b = b < 256

abbrev pub AreBytes : List ℕ → Type 0
AreBytes bytes = All IsByte bytes

part_bytes : (at n : ℕ) (bytes : List ℕ) → AreBytes bytes → AreBytes (take n (drop at bytes))
part_bytes at n bytes all = All-take IsByte n (drop at bytes) (All-drop IsByte at bytes all)

-- the bytes of an extent, where they have the sum that they had
pub extent_same : (file other : List ℕ) (e : Extent) → MaybeDamaged file other → crc32c (bytes_in file e) ≡ crc32c (bytes_in other e) → bytes_in file e ≡ bytes_in other e
extent_same file other e d sums =
    same_bytes (bytes_in file e) (bytes_in other e) (part_bytes (512 * e.page) e.length file d.file_bytes) (part_bytes (512 * e.page) e.length other d.other_bytes)
    (part_told (512 * e.page) e.length file other d.burst sums)

-- the burst doesn't reach both into the first i bytes and behind four more
pub one_side_same : (file other : List ℕ) (i : ℕ) → MaybeDamaged file other → (take i file ≡ take i other) ⊎ (drop (i + 4) file ≡ drop (i + 4) other)
one_side_same file other i d = elim (one_side_agrees i file other d.burst) [
  | inl first ↦ inl (same_bytes (take i file) (take i other) (All-take IsByte i file d.file_bytes) (All-take IsByte i other d.other_bytes) first)
  | inr rest ↦ inr (same_bytes (drop (i + 4) file) (drop (i + 4) other) (All-drop IsByte (i + 4) file d.file_bytes) (All-drop IsByte (i + 4) other d.other_bytes) rest)
]

-- what is the same from a place on is so from a later one
pub later_same : (n k : ℕ) (xs ys : List ℕ) → n ≤ k → drop n xs ≡ drop n ys → drop k xs ≡ drop k ys
later_same n k xs ys l same =
    let on : n + (k - n) ≡ k = omega (arith, l) in
    ap (λ (m : ℕ). drop m xs) (sym on) ∙ sym (drop-drop (k - n) n xs) ∙ ap (drop (k - n)) same ∙ drop-drop (k - n) n ys ∙ ap (λ (m : ℕ). drop m ys) on

-- and a part of what is the same
pub part_of_first : (at n k : ℕ) (xs ys : List ℕ) → at + n ≤ k → take k xs ≡ take k ys → take n (drop at xs) ≡ take n (drop at ys)
part_of_first at n k xs ys l same =
    sym (drop-take at n xs) ∙ ap (drop at) (sym (take-take (at + n) k xs l) ∙ ap (take (at + n)) same ∙ take-take (at + n) k ys l) ∙ drop-take at n ys

pub part_of_rest : (n at k : ℕ) (xs ys : List ℕ) → k ≤ at → drop k xs ≡ drop k ys → take n (drop at xs) ≡ take n (drop at ys)
part_of_rest n at k xs ys l same = ap (take n) (later_same k at xs ys l same)
