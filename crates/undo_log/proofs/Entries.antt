-- The entries that records of the log are.
use Rattle.std.proofs.Common.{◌≡◌, ◌≢◌, ◌∷◌, ◌+◌, ◌-◌, ◌^◌, ◌++◌, ◌==◌, [], ℕ, zero, suc, Bool, List, Some, None, true, false, drop, length, min, reverse, take, refl, sym, ap, ◌∙◌, arith}
use Rattle.std.specs.Prelude.{if◌then◌else◌, slice_get}
use Rattle.std.specs.List.{sum_by}
use Rattle.std.proofs.lemmas.List.{length-drop, length-take, take-map}
use Rattle.std.proofs.lemmas.List.Sums.{sum_by-append, sum_by-cons}
use Rattle.std.proofs.lemmas.List.Sorted.{sum_by-IsPermutation, IsPermutation-reverse}
use Rattle.chunk_edits.specs.declared.direction.Direction.TheVariants.{Forwards}
use Rattle.vm_blocks.specs.declared.change.Change.{Change}
use Rattle.vm_blocks.specs.declared.change.Change.TheVariants as changes
use Rattle.vm_blocks.specs.declared.change.PartChange.TheVariants as parts
use Rattle.packed_log.specs.Records.{Record, Short, Whole, all_wholes, bytes_of, count_bytes, is_whole}
use Rattle.undo_log.specs.Entries.{NamedEntry, log_entries}
use Rattle.undo_log.specs.Logging.{entry_weight, named, total_weight, turned_over}
use Rattle.undo_log.specs.Steps.{IsCounted, IsFirst, entries_of, entry_of, short_change, short_splice, step_entry, with_first}
use Rattle.undo_log.specs.Telling.{all_places, changes_in, next_changes}
use Rattle.undo_log.specs.declared.head.Head.{Head}
use Rattle.undo_log.specs.declared.step.Step.{Step}

-- where there is no entry there is no record
pub none_of : (rs : List (Record Head NamedEntry)) → entries_of rs ≡ [] → rs ≡ []
none_of [] none = refl
none_of (r ∷ rs) none = absurd (cc none)

pub some_of : (rs : List (Record Head NamedEntry)) → entries_of rs ≢ [] → rs ≢ []
some_of rs some = λ none. some (ap entries_of none)

-- the first entry is that of the first record
pub none_first : (rs : List (Record Head NamedEntry)) → None ≡ slice_get rs 0 → entries_of rs ≡ []
none_first [] none = refl
none_first (r ∷ rs) none = absurd (cc none)

pub is_first : (rs : List (Record Head NamedEntry)) (r : Record Head NamedEntry) (s : Step) → Some r ≡ slice_get rs 0 → step_entry s ≡ entry_of r → IsCounted s → IsFirst s (entries_of rs)
is_first [] r s first same counted = absurd (cc first)
is_first (x ∷ rs) r s first same counted =
    let is : r ≡ x = cc first in
    record { others = entries_of rs; are = ap (λ (e : NamedEntry). e ∷ entries_of rs) (sym (same ∙ ap entry_of is)); counted = counted }

-- a step that isn't whole stays as it is where it is turned over, and has no name
pub short_turns : (rs : List (Record Head NamedEntry)) → is_whole (slice_get rs 0) ≡ false → with_first turned_over (entries_of rs) ≡ entries_of rs
short_turns [] short = refl
short_turns (Short head bytes ∷ rs) short = refl
short_turns (Whole entry ∷ rs) short = absurd (cc short)

pub short_unnamed : (rs : List (Record Head NamedEntry)) → is_whole (slice_get rs 0) ≡ false → with_first (named []) (entries_of rs) ≡ entries_of rs
short_unnamed [] short = refl
short_unnamed (Short head bytes ∷ rs) short = refl
short_unnamed (Whole entry ∷ rs) short = absurd (cc short)

-- another value of a record that is whole, and the same one again
pub put_back : (rs : List (Record Head NamedEntry)) (e : NamedEntry) → Some (Whole e) ≡ slice_get rs 0 → Whole e ∷ drop 1 rs ≡ rs
put_back [] e first = absurd (cc first)
put_back (r ∷ rs) e first = let is : Whole e ≡ r = cc first in ap (λ (x : Record Head NamedEntry). x ∷ rs) is

-- and where there is one, it isn't none
pub some_there : (rs : List (Record Head NamedEntry)) → rs ≢ [] → slice_get rs 0 ≡ None → ⊥
some_there [] some none = some refl
some_there (r ∷ rs) some none = absurd (cc none)

pub first_entries : (rs : List (Record Head NamedEntry)) (e : NamedEntry) → Some (Whole e) ≡ slice_get rs 0 → entries_of rs ≡ e ∷ entries_of (drop 1 rs)
first_entries rs e first = ap entries_of (sym (put_back rs e first))

pub taken : (n : ℕ) (rs : List (Record Head NamedEntry)) → entries_of (take n rs) ≡ take n (entries_of rs)
taken n rs = sym (take-map entry_of n rs)

-- what is told of the first one, if it isn't whole
pub never_whole : (rs : List (Record Head NamedEntry)) (e : NamedEntry) → Some (Whole e) ≡ slice_get rs 0 → is_whole (slice_get rs 0) ≡ false → ⊥
never_whole [] e first short = absurd (cc first)
never_whole (r ∷ rs) e first short =
    let is : Whole e ≡ r = cc first in
    let same : true ≡ false = ap (λ (x : Record Head NamedEntry). is_whole (Some x)) is ∙ short in
    absurd (cc same)

pub first_change : (rs : List (Record Head NamedEntry)) (head : Head) (bytes : List ℕ) (change : Change) → Some (Short head bytes) ≡ slice_get rs 0 → change ≡ short_change head bytes
    → change ∷ [] ≡ next_changes (log_entries (entries_of rs))
first_change [] head bytes change first same = absurd (cc first)
first_change (r ∷ rs) head bytes change first same =
    let is : Short head bytes ≡ r = cc first in
    ap (λ (c : Change). c ∷ []) same ∙ ap (λ (x : Record Head NamedEntry). changes_in (entry_of x).entry) is

pub nothing_told : (rs : List (Record Head NamedEntry)) (count : ℕ) → None ≡ slice_get rs 0 → [] ≡ all_places Forwards (reverse (take count (next_changes (log_entries (entries_of rs)))))
nothing_told [] zero none = refl
nothing_told [] (suc n) none = refl
nothing_told (r ∷ rs) count none = absurd (cc none)

pub without_items : {A : Type 0} (xs : List A) → length xs ≡ 0 → xs ≡ []
without_items [] none = refl
without_items (x ∷ xs) none = absurd (omega (arith, none))

-- What records hold, short ones and whole ones.

abbrev weigh : NamedEntry → ℕ
weigh e = entry_weight e.entry

short_weighs : (head : Head) (bytes : List ℕ) → weigh (entry_of (Short head bytes)) ≡ length bytes
short_weighs head bytes = of_part (head.chunk.0 == 0)
  where
    both : length (take head.cut bytes) + length (drop head.cut bytes) ≡ length bytes
    both = let first = length-take head.cut bytes in let rest = length-drop head.cut bytes in omega (arith, first, rest)

    of_part : (raw : Bool) → total_weight (changes.Part head.block (if raw then parts.Raw (short_splice head bytes) else parts.Chunk head.chunk (short_splice head bytes)) ∷ []) ≡ length bytes
    of_part true = omega (arith, both)
    of_part false = omega (arith, both)

-- what they hold together is what the bytes of the short ones and the values of the whole ones do
records_weigh : (rs : List (Record Head NamedEntry)) → sum_by weigh (entries_of rs) ≡ count_bytes rs + sum_by weigh (all_wholes rs)
records_weigh [] = refl
records_weigh (Short head bytes ∷ rs) =
    let first = sum_by-cons weigh (entry_of (Short head bytes)) (entries_of rs) in
    let short = short_weighs head bytes in
    let rest = records_weigh rs in
    let counted = sum_by-cons (λ (r : Record Head NamedEntry). length (bytes_of r)) (Short head bytes) rs in
    omega (arith, first, short, rest, counted)
records_weigh (Whole entry ∷ rs) =
    let first = sum_by-cons weigh entry (entries_of rs) in
    let rest = records_weigh rs in
    let counted = sum_by-cons (λ (r : Record Head NamedEntry). length (bytes_of r)) (Whole entry) rs in
    let values = sum_by-cons weigh entry (all_wholes rs) in
    omega (arith, first, rest, counted, values)

each_weighs : (rs : List (Record Head NamedEntry)) → sum_by weigh (entries_of rs) ≡ sum_by (λ r. weigh (entry_of r)) rs
each_weighs [] = refl
each_weighs (r ∷ rs) =
    sum_by-cons weigh (entry_of r) (entries_of rs) ∙ ap (λ (n : ℕ). weigh (entry_of r) + n) (each_weighs rs) ∙ sym (sum_by-cons (λ (x : Record Head NamedEntry). weigh (entry_of x)) r rs)

-- so it is the other way round
reversed_weigh : (rs : List (Record Head NamedEntry)) → sum_by weigh (entries_of rs) ≡ count_bytes rs + sum_by weigh (all_wholes (reverse rs))
reversed_weigh rs =
    let same = each_weighs rs ∙ sym (sum_by-IsPermutation (λ (r : Record Head NamedEntry). weigh (entry_of r)) rs (reverse rs) (IsPermutation-reverse rs)) ∙ sym (each_weighs (reverse rs)) in
    let whole = records_weigh (reverse rs) in
    let bytes = sum_by-IsPermutation (λ (r : Record Head NamedEntry). length (bytes_of r)) rs (reverse rs) (IsPermutation-reverse rs) in
    omega (arith, same, whole, bytes)

pub log_weighs : (before behind : List (Record Head NamedEntry)) (n v r : ℕ) → v ≡ min (sum_by weigh (all_wholes (reverse before) ++ all_wholes behind)) (2 ^ 64 - 1)
    → n ≡ count_bytes before + count_bytes behind → r ≡ min (v + n) (2 ^ 64 - 1)
    → r ≡ min (sum_by weigh (entries_of before) + sum_by weigh (entries_of behind)) (2 ^ 64 - 1)
log_weighs before behind n v r values bytes total =
    let both = sum_by-append weigh (all_wholes (reverse before)) (all_wholes behind) in
    let first = reversed_weigh before in let second = records_weigh behind in
    grind (arith, both, first, second, values, bytes, total)
