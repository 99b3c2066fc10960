-- The directory in an extent of a file that was read.
use Rattle.std.proofs.Common.{◌≡◌, ℕ, ◌*◌, true, false, List, length, drop, Option, None, Some, sym, ap, ap₂, subst, ◌∙◌, arith, length-take, length-drop, refl}
use Rattle.std.proofs.lemmas.Bool.{cond-true, cond-false}
use Rattle.file_format.specs.File.{Directory, bytes_in, is_in_file, is_directory, directory_in, directory_of, has_sum, summed_directory}
use Rattle.file_format.specs.declared.file.Extent.{Extent}
use Rattle.file_format.proofs.Files.{length-directory, entry_start-most, directory_in-some}
use Rattle.file_format.proofs.FileDocuments.{directory_of-some, summed_directory-some, is_in_file-parts}
use Rattle.file_format.specs.Reading.{IsDirectoryPlace}

pub none_if : {A : Type 0} (o : Option A) → ((a : A) → o ≡ Some a → ⊥) → o ≡ None
none_if None refuted = refl
none_if (Some a) refuted = absurd (refuted a refl)

-- a directory in a file lies where one can
directory_place : (version : ℕ) (file : List ℕ) (e : Extent) (d : Directory) → directory_of version file e ≡ Some d → IsDirectoryPlace version (length file) e
directory_place version file e d is =
    let there = directory_of-some version file e d is in
    let place = is_in_file-parts version (length file) e there.0 in
    let text = directory_in-some version (length file) (bytes_in file e) d there.1 in
    let at : ℕ = 512 * e.page in
    let long : length (bytes_in file e) ≡ e.length = omega (arith, length-take e.length (drop at file), length-drop at file, place.within) in
    let size = ap length text.1 in
    let count = length-directory d in
    let most = entry_start-most d.version (length d.entries) in
    record {
      in_file = there.0;
      some = omega (arith, long, size, count);
      short = omega (arith, long, size, count, most, text.3);
    }

pub place_none : (version : ℕ) (file : List ℕ) (n : ℕ) (sum : Option ℕ) (e : Extent) → n ≡ length file → (IsDirectoryPlace version n e → ⊥) → summed_directory version file sum e ≡ None
place_none version file n sum e same refuted =
    none_if (summed_directory version file sum e) (λ d is. refuted (subst (λ k. IsDirectoryPlace version k e) (sym same) (directory_place version file e d (summed_directory-some version file sum e d is).1)))

-- bytes without the sum are none
pub unsummed_none : (version : ℕ) (file bytes : List ℕ) (sum : Option ℕ) (e : Extent) → bytes_in file e ≡ bytes → has_sum sum bytes ≡ false → summed_directory version file sum e ≡ None
unsummed_none version file bytes sum e is other = cond-false _ _ _ (subst (λ (l : List ℕ). has_sum sum l ≡ false) (sym is) other)

-- a directory that is read is that in the file
pub directory_read : (version : ℕ) (file : List ℕ) (n : ℕ) (sum : Option ℕ) (e : Extent) (bytes : List ℕ) (d : Option Directory) → n ≡ length file → IsDirectoryPlace version n e → bytes_in file e ≡ bytes → has_sum sum bytes ≡ true → directory_in version n bytes ≡ d
    → summed_directory version file sum e ≡ d
directory_read version file n sum e bytes d same place is summed read =
    let inside : is_in_file version (length file) e ≡ true = subst (λ k. is_in_file version k e ≡ true) same place.in_file in
    cond-true _ _ _ (subst (λ (l : List ℕ). has_sum sum l ≡ true) (sym is) summed) ∙ cond-true _ _ _ inside ∙ ap₂ (directory_in version) (sym same) is ∙ read

pub directory_formed : (version n : ℕ) (bytes : List ℕ) (d : Directory) → directory_in version n bytes ≡ Some d → is_directory version n d ≡ true
directory_formed version n bytes d is = (directory_in-some version n bytes d is).0
