-- Where directories are looked for, and their bytes.
use Rattle.std.proofs.Common.{◌≡◌, ℕ, ◌≤◌, ◌<◌, Bool, true, false, not, ◌&&◌, List, length, take, min, Option, None, Some, is_some, cond, refl, sym, ap, ap₂, ◌∙◌, arith, inl, inr}
use Rattle.std.specs.Option.{option_or}
use Rattle.std.proofs.lemmas.List.{take_all}
use Rattle.std.proofs.lemmas.Bool.{cases_lt, le-ltb, lt-ltb}
use Rattle.file_format.specs.File.{bytes_in}
use Rattle.file_format.specs.declared.file.Slot.{Slot}
use Rattle.file_salvage.specs.Places.{head_of, if_readable, is_header, is_place, is_second_first, readable_in, readable_of, salvaged_place, slot_on_page}
use Rattle.file_salvage.specs.declared.place.Place.{Place}

module _ (file : List ℕ) (p : Place) where
  head_is : Bool
  head_is = is_header p.version p.extent.length (bytes_in file (head_of p.extent))

  pub no_place : is_place (length file) p ≡ false → if_readable file p ≡ None
  no_place isnt = ap (λ (b : Bool). cond (b && is_header p.version p.extent.length (bytes_in file (head_of p.extent))) (Some p) None) isnt

  pub judged : (b : Bool) → is_place (length file) p ≡ true → is_header p.version p.extent.length (bytes_in file (head_of p.extent)) ≡ b → if_readable file p ≡ cond b (Some p) None
  judged b is head =
      ap (λ (x : Bool). cond (x && is_header p.version p.extent.length (bytes_in file (head_of p.extent))) (Some p) None) is
      ∙ ap (λ (x : Bool). cond x (Some p) None) head

-- no more bytes are taken than there are
pub clipped : (xs : List ℕ) (n l : ℕ) → n ≡ min (length xs) l → take n xs ≡ take l xs
clipped xs n l is = elim (cases_lt l (length xs)) as (λ _. take n xs ≡ take l xs) [
  | inl short ↦ (let same : n ≡ l = omega (arith, is, short) in ap (λ (k : ℕ). take k xs) same)
  | inr long ↦ (take_all n xs (omega (arith, is, long)) ∙ sym (take_all l xs long))
]

-- Of two that are tried the second counts where the first is none.

none_found : (o : Option Place) → is_some o ≡ false → o ≡ None
none_found None e = refl
none_found (Some p) e = absurd (cc e)

pub or_else : (first one two found : Option Place) → first ≡ one → is_some first ≡ false → found ≡ two → found ≡ option_or one two
or_else first one two found is isnt then =
    then ∙ sym (ap (λ (o : Option Place). option_or o two) (sym is ∙ none_found first isnt))

-- the slots in the order in which they are tried
by_turn : (file : List ℕ) (first second : Option Slot) (turned : Bool)
    → cond turned (option_or (readable_in file true second) (readable_in file false first)) (option_or (readable_in file false first) (readable_in file true second))
    ≡ option_or (readable_in file turned (cond turned second first)) (readable_in file (not turned) (cond turned first second))
by_turn file first second true = refl
by_turn file first second false = refl

pub in_turn : (file : List ℕ) (first second one other : Option Slot) (turned : Bool) → turned ≡ is_second_first first second → one ≡ cond turned second first → other ≡ cond turned first second
    → readable_of file first second ≡ option_or (readable_in file turned one) (readable_in file (not turned) other)
in_turn file first second one other turned is one_is other_is =
    ap (λ (t : Bool). cond t (option_or (readable_in file true second) (readable_in file false first)) (option_or (readable_in file false first) (readable_in file true second))) (sym is)
    ∙ by_turn file first second turned
    ∙ ap₂ (λ (x y : Option Slot). option_or (readable_in file turned x) (readable_in file (not turned) y)) (sym one_is) (sym other_is)

-- what is found in a file
module _ (file : List ℕ) where
  pub too_short : length file < 1024 → None ≡ salvaged_place file
  unfolding salvaged_place
  too_short short = sym (ap (λ (b : Bool). cond b None (readable_of file (slot_on_page file 0) (slot_on_page file 1))) (lt-ltb (length file) 1024 short))

  pub found_of : (first second : Option Slot) (found : Option Place) → 1024 ≤ length file → first ≡ slot_on_page file 0 → second ≡ slot_on_page file 1
      → found ≡ readable_of file first second → found ≡ salvaged_place file
  unfolding salvaged_place
  found_of first second found long zeroth one is =
      is ∙ ap₂ (λ (x y : Option Slot). readable_of file x y) zeroth one
      ∙ sym (ap (λ (b : Bool). cond b None (readable_of file (slot_on_page file 0) (slot_on_page file 1))) (le-ltb (length file) 1024 long))
