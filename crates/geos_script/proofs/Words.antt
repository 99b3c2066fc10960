-- How a line falls into words.
use Rattle.std.proofs.Common.{not, ◌==◌, get_or-take, length-drop, add-zero, ◌-◌, ◌≡◌, ℕ, zero, suc, ◌+◌, ◌<◌, ◌≤◌, true, false, List, [], ◌∷◌, ◌++◌, length, take, drop, slice_index, get_or, length-take, inl, inr, None, refl, sym, subst, ap, ◌∙◌, arith}
use Rattle.std.proofs.lemmas.Bool.Decides.{nat_tests}
use Rattle.std.proofs.lemmas.Bool.{and_parts, cases_Bool, cases_eq, not-true}
use Rattle.std.specs.List.{list_all}
use Rattle.std.proofs.lemmas.List.{append-nil, take_all, get_or-drop}
use Rattle.std.specs.List.{AllPass}
use Rattle.std.proofs.lemmas.List.Sums.{AllPass-from_list_all, list_all-from_AllPass}
use Rattle.hex.specs.Hex.{is_hex_digit}
use Rattle.geos_script.specs.Making.{is_behind_word, is_no_word}
use Rattle.geos_model.specs.Script.{command, command_of_words, words, begin_word, is_blank, is_digit}

-- blanks in front of a line change no word
pub words-skip : (xs : List ℕ) (n : ℕ) → n ≤ length xs → ((k : ℕ) → k < n → is_blank (slice_index xs k) ≡ true) → words xs ≡ words (drop n xs)
words-skip xs zero le h = refl
words-skip [] (suc n) le h = absurd (omega arith)
words-skip (x ∷ xs) (suc n) le h =
    let blank : is_blank x ≡ true = h 0 (omega arith) in
    rw blank (words-skip xs n (omega arith) (λ k lt. h (suc k) (omega arith)))

-- a byte before a blank or the end is a word
begin_word-last : (x : ℕ) (ys : List ℕ) (ws : List (List ℕ)) → (ys ≡ [] → ws ≡ []) → (0 < length ys → is_blank (slice_index ys 0) ≡ true) → begin_word x ys ws ≡ (x ∷ []) ∷ ws
begin_word-last x [] ws none h = refl
begin_word-last x (y ∷ ys) [] none h = refl
begin_word-last x (y ∷ ys) (w ∷ ws) none h =
    let blank : is_blank y ≡ true = h (omega arith) in
    rw blank

-- a byte before a word's first byte belongs to the word
begin_word-more : (x : ℕ) (ys : List ℕ) (w : List ℕ) (ws : List (List ℕ)) → 0 < length ys → is_blank (slice_index ys 0) ≡ false → begin_word x ys (w ∷ ws) ≡ (x ∷ w) ∷ ws
begin_word-more x [] w ws some h = absurd (omega arith)
begin_word-more x (y ∷ ys) w ws some h = rw h

-- the bytes up to the first blank are a word
pub words-cut : (xs : List ℕ) (n : ℕ) → 0 < n → n ≤ length xs → ((k : ℕ) → k < n → is_blank (slice_index xs k) ≡ false)
    → (n < length xs → is_blank (slice_index xs n) ≡ true) → words xs ≡ take n xs ∷ words (drop n xs)
words-cut xs zero some le h stop = absurd (omega arith)
words-cut [] (suc n) some le h stop = absurd (omega arith)
words-cut (x ∷ xs) (suc zero) some le h stop =
    let solid : is_blank x ≡ false = h 0 (omega arith) in
    rw solid (begin_word-last x xs (words xs) (λ e. rw e) (λ lt. stop (omega arith)))
words-cut (x ∷ xs) (suc (suc n)) some le h stop =
    let solid : is_blank x ≡ false = h 0 (omega arith) in
    let rest = words-cut xs (suc n) (omega arith) (omega arith) (λ k lt. h (suc k) (omega arith)) (λ lt. stop (omega arith)) in
    rw (solid, rest) (begin_word-more x xs (take (suc n) xs) (words (drop (suc n) xs)) (omega arith) (h 1 (omega arith)))

-- the tail of a list, as a slice up to its end gives it
pub take_rest : (xs : List ℕ) (n : ℕ) → take (length xs - n) (drop n xs) ≡ drop n xs
take_rest xs n = take_all (length xs - n) (drop n xs) (omega (arith, length-drop n xs))

pub length-rest : (xs : List ℕ) (n : ℕ) → length (take (length xs - n) (drop n xs)) ≡ length xs - n
length-rest xs n = ap length (take_rest xs n) ∙ length-drop n xs

-- a byte of the front is no blank where it is none there
pub solid_head : (xs : List ℕ) (n k : ℕ) → k < n → is_blank (slice_index (take n xs) k) ≡ false → is_blank (slice_index xs k) ≡ false
solid_head xs n k lt solid = rw (get_or-take n xs k 0 lt) at solid

-- a byte of the tail is no blank where it is none there
pub solid_tail : (xs : List ℕ) (n k : ℕ) → n ≤ k → is_blank (slice_index (take (length xs - n) (drop n xs)) (k - n)) ≡ false
    → is_blank (slice_index xs k) ≡ false
solid_tail xs n k le solid =
    let at_k : n + (k - n) ≡ k = omega arith in
    subst (λ (i : ℕ). is_blank (slice_index xs i) ≡ false) at_k (rw (take_rest xs n, get_or-drop n xs (k - n) 0) at solid)

-- and it is one where it is one there
pub blank_tail : (xs : List ℕ) (n k : ℕ) → is_blank (slice_index (take (length xs - n) (drop n xs)) k) ≡ true
    → is_blank (slice_index xs (n + k)) ≡ true
blank_tail xs n k blank = rw (take_rest xs n, get_or-drop n xs k 0) at blank

-- what stands behind the blanks in front begins with no blank
pub solid_front : (xs rest : List ℕ) (n : ℕ) → (n < length xs → is_blank (slice_index xs n) ≡ false) → rest ≡ drop n xs → 0 < length rest
    → is_blank (slice_index rest 0) ≡ false
solid_front xs rest n ends is some =
    let first : slice_index rest 0 ≡ slice_index xs n = rw is (rw get_or-drop (rw add-zero)) in
    rw first (ends (omega (arith, ap length is, length-drop n xs)))

-- a word has bytes where a text begins with no blank
pub word_some : (xs : List ℕ) (end : ℕ) → 0 < length xs → is_blank (slice_index xs 0) ≡ false
    → (end < length xs → is_blank (slice_index xs end) ≡ true) → 0 < end
word_some xs end some solid stops =
    elim (cases_eq end 0) [ inl none ↦ cc (sym (rw none at (stops (omega arith))) ∙ solid) | inr more ↦ omega arith ]

-- no byte, no word
pub words-none : (xs : List ℕ) → length xs ≡ 0 → words xs ≡ []
words-none [] none = refl
words-none (x ∷ xs) none = absurd (omega arith)

-- a text that begins with no blank has a word, or is empty
pub words-some : (xs : List ℕ) → (0 < length xs → is_blank (slice_index xs 0) ≡ false) → (length xs == 0) ≡ is_no_word (words xs)
words-some [] solid = refl
words-some (x ∷ xs) solid = rw (solid (omega arith)) (more ∙ begun xs (words xs))
  where
    more : (length (x ∷ xs) == 0) ≡ false
    more = grind (arith, nat_tests)

    begun : (ys : List ℕ) (ws : List (List ℕ)) → false ≡ is_no_word (begin_word x ys ws)
    begun [] ws = refl
    begun (y ∷ ys) [] = refl
    begun (y ∷ ys) (w ∷ ws) = elim (cases_Bool (is_blank y)) [ inl blank ↦ rw blank refl | inr not ↦ rw not refl ]

-- a line that is too long is no command
pub command-long : (line : List ℕ) → 140000 < length line → command line ≡ None
unfolding command
command-long line long = grind (arith, nat_tests)

-- another line is what its words are
pub command-short : (line : List ℕ) → length line ≤ 140000 → command line ≡ command_of_words (words line)
unfolding command
command-short line short = grind (arith, nat_tests)

-- a byte that is no blank begins a word
words-solid : (x : ℕ) (xs : List ℕ) → is_blank x ≡ false → words (x ∷ xs) ≡ begin_word x xs (words xs)
words-solid x xs solid = rw solid refl

-- bytes that are no blanks, and then a blank or the end, are a word
pub words-word : (x : ℕ) (w rest : List ℕ) → list_all (λ y. not (is_blank y)) (x ∷ w) ≡ true → (0 < length rest → is_blank (slice_index rest 0) ≡ true)
    → words ((x ∷ w) ++ rest) ≡ (x ∷ w) ∷ words rest
words-word x [] rest solid ends =
    let first : is_blank x ≡ false = not-true (is_blank x) (and_parts (not (is_blank x)) true solid).0 in
    words-solid x rest first ∙ begin_word-last x rest (words rest) (λ e. rw e) ends
words-word x (y ∷ w) rest solid ends =
    let both = and_parts (not (is_blank x)) (list_all (λ z. not (is_blank z)) (y ∷ w)) solid in
    let first : is_blank x ≡ false = not-true (is_blank x) both.0 in
    let next : is_blank y ≡ false = not-true (is_blank y) (and_parts (not (is_blank y)) (list_all (λ z. not (is_blank z)) w) both.1).0 in
    words-solid x ((y ∷ w) ++ rest) first
    ∙ ap (begin_word x ((y ∷ w) ++ rest)) (words-word y w rest both.1 ends)
    ∙ begin_word-more x ((y ∷ w) ++ rest) (y ∷ w) (words rest) (omega arith) next

-- no digit is a blank
hex_solid : (x : ℕ) → is_hex_digit x ≡ true → is_blank x ≡ false
hex_solid x is = grind (arith, nat_tests, is)

digit_solid : (x : ℕ) → is_digit x ≡ true → is_blank x ≡ false
digit_solid x is = grind (arith, nat_tests, is)

-- where a word ends, there is a blank or the end
behind_word : (rest : List ℕ) → true ≡ is_behind_word rest → 0 < length rest → is_blank (slice_index rest 0) ≡ true
behind_word [] ends some = absurd (omega arith)
behind_word (x ∷ rest) ends some = sym ends

solid_digits : (w : List ℕ) → AllPass is_hex_digit w → AllPass (λ y. not (is_blank y)) w
solid_digits w digits = λ i d lt. let solid = hex_solid (get_or w i d) (digits i d lt) in rw solid refl

-- hexadecimal digits behind a space are a word
pub words-digits : (x : ℕ) (w rest : List ℕ) → list_all is_hex_digit (x ∷ w) ≡ true → true ≡ is_behind_word rest
    → words (32 ∷ ((x ∷ w) ++ rest)) ≡ (x ∷ w) ∷ words rest
words-digits x w rest digits ends =
    let solid = list_all-from_AllPass (λ y. not (is_blank y)) (x ∷ w) (solid_digits (x ∷ w) (AllPass-from_list_all is_hex_digit (x ∷ w) digits)) in
    words-word x w rest solid (behind_word rest ends)

-- and the only one where the text ends behind them
pub words-only_digits : (w : List ℕ) → 0 < length w → list_all is_hex_digit w ≡ true → words (32 ∷ w) ≡ w ∷ []
words-only_digits [] some digits = absurd (omega arith)
words-only_digits (x ∷ w) some digits = ap (λ (l : List ℕ). words (32 ∷ l)) (sym (append-nil (x ∷ w))) ∙ words-digits x w [] digits refl

-- decimal digits behind a space are a word
pub words-number : (xs : List ℕ) (n : ℕ) → 0 < n → n ≤ length xs → list_all is_digit (take n xs) ≡ true → true ≡ is_behind_word (drop n xs)
    → words (32 ∷ xs) ≡ take n xs ∷ words (drop n xs)
words-number xs n some le digits ends =
    let all = AllPass-from_list_all is_digit (take n xs) digits in
    words-cut xs n some le
    (λ k lt. solid_head xs n k lt (digit_solid (slice_index (take n xs) k) (all k 0 (omega (arith, length-take n xs)))))
    (λ lt. let blank = behind_word (drop n xs) ends (omega (arith, length-drop n xs)) in rw (get_or-drop n xs 0 0, add-zero) at blank)

-- four digits behind a space are a word, as the places of a text show them
pub words-handle : (text rest : List ℕ) → 5 ≤ length text → slice_index text 0 ≡ 32
    → list_all is_hex_digit (slice_index text 1 ∷ slice_index text 2 ∷ slice_index text 3 ∷ slice_index text 4 ∷ []) ≡ true
    → rest ≡ drop 5 text → true ≡ is_behind_word rest
    → words text ≡ (slice_index text 1 ∷ slice_index text 2 ∷ slice_index text 3 ∷ slice_index text 4 ∷ []) ∷ words rest
words-handle (x ∷ a ∷ b ∷ c ∷ d ∷ tail) rest long blank digits is ends =
    rw (is, blank) (words-digits a (b ∷ c ∷ d ∷ []) tail digits (rw is at ends))
words-handle [] rest long blank digits is ends = absurd (omega arith)
words-handle (x ∷ []) rest long blank digits is ends = absurd (omega arith)
words-handle (x ∷ a ∷ []) rest long blank digits is ends = absurd (omega arith)
words-handle (x ∷ a ∷ b ∷ []) rest long blank digits is ends = absurd (omega arith)
words-handle (x ∷ a ∷ b ∷ c ∷ []) rest long blank digits is ends = absurd (omega arith)

-- a text that begins with a space
pub words-space : (text rest : List ℕ) → 1 ≤ length text → slice_index text 0 ≡ 32 → rest ≡ drop 1 text → words text ≡ words (32 ∷ rest)
words-space [] rest long blank is = absurd (omega arith)
words-space (x ∷ tail) rest long blank is = rw (is, blank) refl
