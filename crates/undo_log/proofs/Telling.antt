-- What is told of changes that are made, taken back, kept and joined.
use Rattle.std.proofs.Common.{◌≡◌, ◌≢◌, ◌<◌, ◌==◌, ℕ, true, false, zero, suc, ◌+◌, ◌-◌, List, [], ◌∷◌, ◌++◌, drop, drop-drop, get_or, inl, inr, length, length-drop, map, min, reverse, take, take_at, Option, Some, None, refl, sym, ap, ap₂, ◌∙◌, arith, append-nil}
use Rattle.std.proofs.lemmas.Bool.{cases_lt, eqb-true}
use Rattle.std.proofs.lemmas.Grind.{flat_map-append}
use Rattle.std.proofs.lemmas.List.{length-reverse, reverse-append, reverse-reverse, take-append-drop, take_all}
use Rattle.std.specs.Prelude.{Result, Ok, Err, IfErr}
use Rattle.geos_model.specs.Places.{inverse, taken_back}
use Rattle.geos_model.specs.declared.place.Place.{Place}
use Rattle.vm_blocks.specs.ChangePlaces.{change_places, directed_places}
use Rattle.vm_blocks.specs.declared.change.Change.{Change}
use Rattle.chunk_edits.specs.declared.direction.Direction.{Direction}
use Rattle.chunk_edits.specs.declared.direction.Direction.TheVariants.{Backwards, Forwards}
use Rattle.undo_log.specs.Logging.{open_changes, places_of_step, reversed_entry}
use Rattle.undo_log.specs.Sessions.{opposite}
use Rattle.undo_log.specs.Telling.{all_places, changes_in, clipped, made_places, newest_changes, next_places, told}
use Rattle.undo_log.specs.Entries.{LogEntry, NamedEntry}
use Rattle.undo_log.specs.Entries as entries
use Rattle.undo_log.specs.declared.touched.Touched.{Touched}
use Rattle.undo_log.specs.declared.touched.Touched.TheVariants as touched

pub places-append : (direction : Direction) (cs ds : List Change) → all_places direction (cs ++ ds) ≡ all_places direction cs ++ all_places direction ds
places-append direction cs ds = flat_map-append (directed_places direction) cs ds

pub next-all : (direction : Direction) (e : LogEntry) → all_places direction (changes_in e) ≡ next_places direction e
next-all direction (entries.One c) = append-nil (directed_places direction c)
next-all direction (entries.Group cs) = refl

-- one change more, made last
pub places-one_more : (c : Change) (cs : List Change) → all_places Forwards (reverse (c ∷ cs)) ≡ all_places Forwards (reverse cs) ++ change_places c
places-one_more c cs =
    ap (all_places Forwards) (reverse-append (c ∷ []) cs)
    ∙ places-append Forwards (reverse cs) (c ∷ [])
    ∙ ap (λ (ps : List Place). all_places Forwards (reverse cs) ++ ps) (append-nil (change_places c))

pub made-all : (e : LogEntry) → all_places Forwards (reverse (changes_in e)) ≡ made_places e
made-all (entries.One c) = append-nil (change_places c)
made-all (entries.Group cs) = refl

turned-changes : (e : LogEntry) → changes_in (reversed_entry e) ≡ reverse (changes_in e)
turned-changes (entries.One c) = refl
turned-changes (entries.Group cs) = refl

-- An entry that was turned over is told as it was made.
turned-tells : (direction : Direction) (e : LogEntry) → all_places direction (reverse (changes_in (reversed_entry e))) ≡ next_places direction e
turned-tells direction e =
    ap (λ (cs : List Change). all_places direction (reverse cs)) (turned-changes e)
    ∙ ap (all_places direction) (reverse-reverse (changes_in e))
    ∙ next-all direction e

pub undone-tells : (e : LogEntry) → all_places Backwards (reverse (changes_in (reversed_entry e))) ≡ next_places Backwards e
undone-tells e = turned-tells Backwards e

pub redone-tells : (e : LogEntry) (n : ℕ) → n ≡ length (changes_in (reversed_entry e)) → all_places Forwards (reverse (take n (changes_in (reversed_entry e)))) ≡ next_places Forwards e
redone-tells e n is =
    ap (λ (cs : List Change). all_places Forwards (reverse cs)) (take_all n (changes_in (reversed_entry e)) (omega (arith, is))) ∙ turned-tells Forwards e

-- Taking back what was made.
back-append : (ps qs : List Place) → taken_back (ps ++ qs) ≡ taken_back qs ++ taken_back ps
back-append ps qs = ap reverse (map-append inverse ps qs) ∙ reverse-append (map inverse ps) (map inverse qs)
  where
    map-append : (f : Place → Place) (xs ys : List Place) → map f (xs ++ ys) ≡ map f xs ++ map f ys
    map-append f [] ys = refl
    map-append f (x ∷ xs) ys = ap (λ (l : List Place). f x ∷ l) (map-append f xs ys)

pub back-all : (cs : List Change) → taken_back (all_places Forwards (reverse cs)) ≡ all_places Backwards cs
back-all [] = refl
back-all (c ∷ cs) =
    ap taken_back (places-one_more c cs)
    ∙ back-append (all_places Forwards (reverse cs)) (change_places c)
    ∙ ap (λ (ps : List Place). taken_back (change_places c) ++ ps) (back-all cs)

pub back-made : (e : LogEntry) → taken_back (made_places e) ≡ next_places Backwards e
back-made (entries.One c) = refl
back-made (entries.Group cs) = back-all cs

-- A step of either list is made at the same places in the other.
pub turned-made : (direction : Direction) (e : LogEntry) → places_of_step (opposite direction) (reversed_entry e) ≡ places_of_step direction e
turned-made Backwards (entries.One c) = refl
turned-made Backwards (entries.Group cs) = refl
turned-made Forwards (entries.One c) = refl
turned-made Forwards (entries.Group cs) = ap (all_places Forwards) (reverse-reverse cs)

-- what a turn tells of a step
abbrev pub told_of_step : Direction → List Place → List Place
told_of_step Backwards ps = taken_back ps
told_of_step Forwards ps = ps

pub turn-tells : (direction : Direction) (e : LogEntry) → told_of_step direction (places_of_step direction e) ≡ next_places direction e
turn-tells Backwards e = back-made e
turn-tells Forwards e = refl

-- a step that two were joined to
pub joined-made : (e f : LogEntry) → made_places (entries.Group (changes_in e ++ changes_in f)) ≡ made_places f ++ made_places e
joined-made e f =
    ap (all_places Forwards) (reverse-append (changes_in e) (changes_in f))
    ∙ places-append Forwards (reverse (changes_in f)) (reverse (changes_in e))
    ∙ ap₂ (λ (l r : List Place). l ++ r) (made-all f) (made-all e)

-- The newest changes.

pub newest-kept : (k : ℕ) (undo : List LogEntry) (group : Option (List Change)) → newest_changes (take (suc k) undo) group ≡ newest_changes undo group
newest-kept k [] group = refl
newest-kept k (e ∷ es) None = refl
newest-kept k (e ∷ es) (Some []) = refl
newest-kept k (e ∷ es) (Some (c ∷ cs)) = refl

pub newest-closed : (e : LogEntry) (es : List LogEntry) (group : Option (List Change)) → group ≡ None → newest_changes (e ∷ es) group ≡ changes_in e
newest-closed e es group none = ap (newest_changes (e ∷ es)) none

clipped-take : (n : ℕ) (cs ds : List Change) → take (min n (length cs)) (cs ++ ds) ≡ take n cs
clipped-take zero cs ds = let none : min 0 (length cs) ≡ 0 = omega arith in ap (λ (k : ℕ). take k (cs ++ ds)) none
clipped-take (suc n) [] ds = let none : min (suc n) 0 ≡ 0 = omega arith in ap (λ (k : ℕ). take k ds) none
clipped-take (suc n) (c ∷ cs) ds =
    let one : min (suc n) (suc (length cs)) ≡ suc (min n (length cs)) = omega arith in
    ap (λ (k : ℕ). take k (c ∷ (cs ++ ds))) one ∙ ap (λ (l : List Change). c ∷ l) (clipped-take n cs ds)

pub told-joined : (last : Touched) (cs ds next : List Change) → told (clipped (length cs) last) (cs ++ ds) next ≡ told last cs next
told-joined touched.Nothing cs ds next = refl
told-joined touched.All cs ds next = refl
told-joined (touched.Newest n) cs ds next = ap (λ (l : List Change). all_places Forwards (reverse l)) (clipped-take n cs ds)
told-joined touched.Undone cs ds next = refl
told-joined (touched.At place) cs ds next = refl
told-joined (touched.Forgotten e) cs ds next = refl
told-joined (touched.Abandoned xs) cs ds next = refl

-- The entry at a place.

pub first_at : (n : ℕ) (es : List NamedEntry) (e : NamedEntry) (others : List NamedEntry) (d : NamedEntry) → drop n es ≡ e ∷ others → get_or es n d ≡ e
first_at zero [] e others d is = absurd (cc is)
first_at zero (x ∷ xs) e others d is = cc is
first_at (suc n) [] e others d is = absurd (cc is)
first_at (suc n) (x ∷ xs) e others d is = first_at n xs e others d is

pub next_at : (n : ℕ) (es : List NamedEntry) (e f : NamedEntry) (others : List NamedEntry) → drop n es ≡ e ∷ f ∷ others → drop (n + 1) es ≡ f ∷ others
next_at n es e f others is = sym (drop-drop 1 n es) ∙ ap (drop 1) is

pub there : (n : ℕ) (es : List NamedEntry) → n < length es → (e : NamedEntry) × (others : List NamedEntry) × (drop n es ≡ e ∷ others)
there zero [] low = absurd (omega (arith, low))
there zero (x ∷ xs) low = (x, xs, refl)
there (suc n) [] low = absurd (omega (arith, low))
there (suc n) (x ∷ xs) low = there n xs (omega (arith, low))

-- The newest changes, by whether the open group has some.

pub newest-some : (undo undo' : List LogEntry) (group : Option (List Change)) → (length (open_changes group) == 0) ≡ false → newest_changes undo group ≡ newest_changes undo' group
newest-some undo undo' None some = absurd (cc some)
newest-some undo undo' (Some []) some = absurd (cc some)
newest-some undo undo' (Some (c ∷ cs)) some = refl

no_more : (c : Change) (cs : List Change) → (length (c ∷ cs) == 0) ≡ true → ⊥
no_more c cs none = let same : length (c ∷ cs) ≡ 0 = eqb-true (length (c ∷ cs)) 0 none in absurd (cc same)

pub newest-none : (e : LogEntry) (es : List LogEntry) (group : Option (List Change)) → (length (open_changes group) == 0) ≡ true → newest_changes (e ∷ es) group ≡ changes_in e
newest-none e es None none = refl
newest-none e es (Some []) none = refl
newest-none e es (Some (c ∷ cs)) none = absurd (no_more c cs none)

pub newest-nothing : (group : Option (List Change)) → (length (open_changes group) == 0) ≡ true → newest_changes [] group ≡ []
newest-nothing None none = refl
newest-nothing (Some []) none = refl
newest-nothing (Some (c ∷ cs)) none = absurd (no_more c cs none)

-- Places of changes, one after another.

nil_append : (ps qs : List Place) → ps ++ qs ≡ [] → (ps ≡ []) × (qs ≡ [])
nil_append [] qs none = (refl, none)
nil_append (p ∷ ps) qs none = absurd (cc none)

take_more : (cs : List Change) (n : ℕ) (c : Change) → n < length cs → c ≡ get_or cs n c → take (n + 1) cs ≡ take n cs ++ c ∷ []
take_more [] n c low is = absurd (omega (arith, low))
take_more (x ∷ xs) zero c low is = ap (λ (y : Change). y ∷ []) (sym is)
take_more (x ∷ xs) (suc n) c low is =
    let next : suc n + 1 ≡ suc (n + 1) = omega arith in
    ap (λ (k : ℕ). take k (x ∷ xs)) next ∙ ap (λ (l : List Change). x ∷ l) (take_more xs n c (omega (arith, low)) is)

pub places_more : (direction : Direction) (cs : List Change) (n : ℕ) (c : Change) → n < length cs → c ≡ get_or cs n c
    → all_places direction (take (n + 1) cs) ≡ all_places direction (take n cs) ++ directed_places direction c
places_more direction cs n c low is =
    ap (all_places direction) (take_more cs n c low is)
    ∙ places-append direction (take n cs) (c ∷ [])
    ∙ ap (λ (ps : List Place). all_places direction (take n cs) ++ ps) (append-nil (directed_places direction c))

-- where one has places, all have
pub places_there : (direction : Direction) (cs : List Change) (n : ℕ) (c : Change) → n < length cs → c ≡ get_or cs n c → directed_places direction c ≢ [] → all_places direction cs ≢ []
places_there direction [] n c low is some = absurd (omega (arith, low))
places_there direction (x ∷ xs) zero c low is some = λ none.
    let same : directed_places direction x ≡ [] = (nil_append (directed_places direction x) (all_places direction xs) none).0 in
    some (ap (directed_places direction) is ∙ same)
places_there direction (x ∷ xs) (suc n) c low is some = λ none.
    places_there direction xs n c (omega (arith, low)) is some (nil_append (directed_places direction x) (all_places direction xs) none).1

-- what holds anyhow holds where a call failed
pub if_err : {A E : Type 0} (r : Result A E) (P : Type 0) → P → IfErr r (λ _. P)
if_err (Ok x) P p = tt
if_err (Err e) P p = p

-- the last of a row that many are
pub newest_are : (cs : List Change) (n : ℕ) → drop (length cs - n) cs ≡ reverse (take n (reverse cs))
newest_are cs n =
    let k : ℕ = length cs - n in
    let long = length-reverse cs in
    elim (cases_lt (length cs) n) [
      | inr few ↦
          let split : reverse cs ≡ reverse (drop k cs) ++ reverse (take k cs) = ap reverse (sym (take-append-drop k cs)) ∙ reverse-append (take k cs) (drop k cs) in
          let behind : length (reverse (drop k cs)) ≡ n = length-reverse (drop k cs) ∙ length-drop k cs ∙ omega (arith, few) in
          sym (ap (λ (ds : List Change). reverse (take n ds)) split ∙ ap reverse (take_at (reverse (drop k cs)) (reverse (take k cs)) n behind) ∙ reverse-reverse (drop k cs))
      | inl many ↦
          let none : k ≡ 0 = omega (arith, many) in
          ap (λ (j : ℕ). drop j cs) none ∙ sym (ap reverse (take_all n (reverse cs) (omega (arith, many, long))) ∙ reverse-reverse cs)
    ]
