-- Bytes that stay while more are put behind them.
use Rattle.std.proofs.Common.{◌≡◌, ℕ, List, ◌++◌, ◌≤◌, length, take, drop, refl, arith, sym, ap, ◌∙◌, append_assoc, length-append, length-take}
use Rattle.std.proofs.lemmas.List.{take_at, take-append-le, take-append-drop}
use Rattle.geos_script.specs.Texts.{Extends}

-- a front of a front
front_of_front : (old mid new : List ℕ) → length old ≤ length mid → Extends old mid → Extends mid new → Extends old new
front_of_front old mid new le front further =
    let rest = drop (length mid) new in
    let whole : mid ++ rest ≡ new = ap (λ (l : List ℕ). l ++ rest) (sym further) ∙ take-append-drop (length mid) new in
    ap (take (length old)) (sym whole) ∙ take-append-le (length old) mid rest le ∙ front

-- what was there is no longer
pub Extends-length : (old new : List ℕ) → Extends old new → length old ≤ length new
Extends-length old new e = omega (arith, ap length e, length-take (length old) new)

-- more behind it, and then a call that failed
pub extends_further : (old mid new more : List ℕ) → mid ≡ old ++ more → Extends mid new → Extends old new
extends_further old mid new more e further =
    let le : length old ≤ length mid = omega (arith, ap length e, length-append old more) in
    let front : Extends old mid = rw e (take_at old more (length old) refl) in
    front_of_front old mid new le front further

-- twice more behind it
pub extends_further_twice : (old mid new a b : List ℕ) → mid ≡ (old ++ a) ++ b → Extends mid new → Extends old new
extends_further_twice old mid new a b e further = extends_further old mid new (a ++ b) (e ∙ append_assoc old a b) further

-- three times
pub extends_further_thrice : (old mid new a b d : List ℕ) → mid ≡ ((old ++ a) ++ b) ++ d → Extends mid new → Extends old new
extends_further_thrice old mid new a b d e further =
    extends_further_twice old mid new a (b ++ d) (e ∙ append_assoc (old ++ a) b d) further

pub ruleset extending = (extends_further, extends_further_twice, extends_further_thrice)
