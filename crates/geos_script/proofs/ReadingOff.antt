-- Operands that are read off a text.
use Rattle.std.proofs.Common.{◌≡◌, ◌+◌, ◌<◌, ◌≤◌, ◌%◌, ◌∙◌, ℕ, true, List, [], ◌∷◌, length, drop, drop-drop, fold, take, slice_index, Option, Some, None, refl, sym, ap, arith}
use Rattle.std.specs.List.{list_all}
use Rattle.std.specs.Option.{IfSome, option_and_then, option_map}
use Rattle.hex.specs.Hex.{decode_of, is_hex_digit}
use Rattle.geos_model.specs.Script.{bytes, handle, if_spelled, is_digit, number_within, operand, with_digit, words}
use Rattle.geos_model.specs.declared.command.Command.{Command}
use Rattle.geos_script.specs.Making.{is_behind_word, last, read_off}
use Rattle.geos_script.proofs.Spelling.{bytes-even, decoded-digits, handle-digits, number-spelled}
use Rattle.geos_script.proofs.Words.{words-handle, words-number, words-only_digits, words-space}

-- an operand that was read leaves what the others mean
pub operand-read : {A : Type 0} (p : List ℕ → Option A) (f : A → List (List ℕ) → Option Command) (ws rest : List (List ℕ)) (a : A) → read_off p ws ≡ Some (a, rest) → operand p f ws ≡ f a rest
operand-read p f [] rest a read = cc read
operand-read {A} p f (w ∷ ws) rest a read = found (p w) read
  where
    found : (o : Option A) → option_map {U = A × List (List ℕ)} (λ x. (x, ws)) o ≡ Some (a, rest) → option_and_then (λ x. f x ws) o ≡ f a rest
    found None e = cc e
    found (Some x) e = let same : (x, ws) ≡ (a, rest) = cc e in ap (λ (r : A × List (List ℕ)). f r.0 r.1) same

-- and one that wasn't leaves no command
pub operand-unread : {A : Type 0} (p : List ℕ → Option A) (f : A → List (List ℕ) → Option Command) (ws : List (List ℕ)) → read_off p ws ≡ None → operand p f ws ≡ None
operand-unread p f [] none = refl
operand-unread {A} p f (w ∷ ws) none = found (p w) none
  where
    found : (o : Option A) → option_map {U = A × List (List ℕ)} (λ x. (x, ws)) o ≡ None → option_and_then (λ x. f x ws) o ≡ None
    found None e = refl
    found (Some x) e = cc e

-- The usual texts: an operand stands behind one space, and before a blank or the end.

read-one : {A : Type 0} (p : List ℕ → Option A) (ws rest : List (List ℕ)) (w : List ℕ) (a : A) → ws ≡ w ∷ rest → p w ≡ Some a → read_off p ws ≡ Some (a, rest)
read-one {A} p ws rest w a is spells = ap (read_off p) is ∙ ap (option_map {U = A × List (List ℕ)} (λ x. (x, rest))) spells

handle-read : (text rest : List ℕ) (h : ℕ) → 5 ≤ length text → slice_index text 0 ≡ 32
    → Some h ≡ handle (slice_index text 1 ∷ slice_index text 2 ∷ slice_index text 3 ∷ slice_index text 4 ∷ [])
    → rest ≡ drop 5 text → true ≡ is_behind_word rest → read_off handle (words text) ≡ Some (h, words rest)
handle-read text rest h long space spells is ends =
    let word : List ℕ = slice_index text 1 ∷ slice_index text 2 ∷ slice_index text 3 ∷ slice_index text 4 ∷ [] in
    let digits : list_all is_hex_digit word ≡ true = handle-digits word h (sym spells) in
    read-one handle (words text) (words rest) word h (words-handle text rest long space digits is ends) (sym spells)

pub handle-usual : (text rest : List ℕ) (o : Option ℕ) → 5 ≤ length text → slice_index text 0 ≡ 32
    → o ≡ handle (slice_index text 1 ∷ slice_index text 2 ∷ slice_index text 3 ∷ slice_index text 4 ∷ [])
    → rest ≡ drop 5 text → true ≡ is_behind_word rest → IfSome o (λ h. (5 ≤ length text) × (read_off handle (words text) ≡ Some (h, words (drop 5 text))))
handle-usual text rest None long space spells is ends = tt
handle-usual text rest (Some h) long space spells is ends = (long, rw is at (handle-read text rest h long space spells is ends))

number-read : (most : ℕ) (text digits rest : List ℕ) (n : ℕ) → 1 ≤ length text → slice_index text 0 ≡ 32 → digits ≡ drop 1 text
    → 0 < n → n ≤ length digits → n ≤ most → list_all is_digit (take n digits) ≡ true → rest ≡ drop n digits → true ≡ is_behind_word rest
    → read_off (number_within most) (words text) ≡ Some (fold with_digit 0 (take n digits), words rest)
number-read most text digits rest n long space is some within few all is_rest ends =
    let there : true ≡ is_behind_word (drop n digits) = rw is_rest at ends in
    let found = words-space text digits long space is ∙ words-number digits n some within all there in
    rw is_rest (read-one (number_within most) (words text) (words (drop n digits)) (take n digits) _ found (number-spelled most digits n some within few all))

pub number-usual : (most : ℕ) (text digits rest : List ℕ) (n : ℕ) → 1 ≤ length text → slice_index text 0 ≡ 32 → digits ≡ drop 1 text
    → 0 < n → n ≤ length digits → n ≤ most → list_all is_digit (take n digits) ≡ true → rest ≡ drop n digits → true ≡ is_behind_word rest
    → read_off (number_within most) (words text) ≡ Some (fold with_digit 0 (take n digits), words (drop (n + 1) text))
number-usual most text digits rest n long space is some within few all is_rest ends =
    let one_more : 1 + n ≡ n + 1 = omega arith in
    let behind : rest ≡ drop (n + 1) text = is_rest ∙ ap (drop n) is ∙ drop-drop n 1 text ∙ ap (λ (k : ℕ). drop k text) one_more in
    rw behind at (number-read most text digits rest n long space is some within few all is_rest ends)

pub bytes-read : (text digits bs : List ℕ) → 1 ≤ length text → slice_index text 0 ≡ 32 → digits ≡ drop 1 text
    → 0 < length digits → length digits % 2 ≡ 0 → if_spelled (decode_of digits) ≡ Some bs → last bytes (words text) ≡ Some bs
bytes-read text digits bs long space is some even spelled =
    let found = words-space text digits long space is ∙ words-only_digits digits some (decoded-digits digits bs spelled) in
    ap (last bytes) found ∙ bytes-even digits some even ∙ spelled
