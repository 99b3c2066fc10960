-- Texts put behind one another.
use Rattle.std.proofs.Common.{◌≡◌, ℕ, List, ◌++◌, ap, ◌∙◌, append_assoc}

regroup : (o a b : List ℕ) → (o ++ a) ++ b ≡ o ++ (a ++ b)
regroup o a b = simp append_assoc

-- a text, and then another one
pub two : (o0 o1 o2 a b : List ℕ) → o1 ≡ o0 ++ a → o2 ≡ o1 ++ b → o2 ≡ o0 ++ (a ++ b)
two o0 o1 o2 a b p q = q ∙ ap (λ (l : List ℕ). l ++ b) p ∙ regroup o0 a b

pub four : (o0 o1 o2 o3 o4 a b c d : List ℕ) → o1 ≡ o0 ++ a → o2 ≡ o1 ++ b → o3 ≡ o2 ++ c → o4 ≡ o3 ++ d → o4 ≡ o0 ++ (((a ++ b) ++ c) ++ d)
four o0 o1 o2 o3 o4 a b c d p q r s = two o0 o3 o4 ((a ++ b) ++ c) d (two o0 o2 o3 (a ++ b) c (two o0 o1 o2 a b p q) r) s

pub five : (o0 o1 o2 o3 o4 o5 a b c d e : List ℕ) → o1 ≡ o0 ++ a → o2 ≡ o1 ++ b → o3 ≡ o2 ++ c → o4 ≡ o3 ++ d → o5 ≡ o4 ++ e
    → o5 ≡ o0 ++ ((((a ++ b) ++ c) ++ d) ++ e)
five o0 o1 o2 o3 o4 o5 a b c d e p q r s t = two o0 o4 o5 (((a ++ b) ++ c) ++ d) e (four o0 o1 o2 o3 o4 a b c d p q r s) t

pub six : (o0 o1 o2 o3 o4 o5 o6 a b c d e f : List ℕ) → o1 ≡ o0 ++ a → o2 ≡ o1 ++ b → o3 ≡ o2 ++ c → o4 ≡ o3 ++ d → o5 ≡ o4 ++ e → o6 ≡ o5 ++ f
    → o6 ≡ o0 ++ (((((a ++ b) ++ c) ++ d) ++ e) ++ f)
six o0 o1 o2 o3 o4 o5 o6 a b c d e f p q r s t u = two o0 o5 o6 ((((a ++ b) ++ c) ++ d) ++ e) f (five o0 o1 o2 o3 o4 o5 a b c d e p q r s t) u

pub seven : (o0 o1 o2 o3 o4 o5 o6 o7 a b c d e f g : List ℕ) → o1 ≡ o0 ++ a → o2 ≡ o1 ++ b → o3 ≡ o2 ++ c → o4 ≡ o3 ++ d → o5 ≡ o4 ++ e → o6 ≡ o5 ++ f
    → o7 ≡ o6 ++ g → o7 ≡ o0 ++ ((((((a ++ b) ++ c) ++ d) ++ e) ++ f) ++ g)
seven o0 o1 o2 o3 o4 o5 o6 o7 a b c d e f g p q r s t u v =
    two o0 o6 o7 (((((a ++ b) ++ c) ++ d) ++ e) ++ f) g (six o0 o1 o2 o3 o4 o5 o6 a b c d e f p q r s t u) v
