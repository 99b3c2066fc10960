-- What a log is seen as, as the cursor steps, and records are pushed, changed and taken out.
use Rattle.std.proofs.Common.{◌≡◌, ◌≢◌, ◌≤◌, ◌+◌, ◌-◌, ℕ, suc, List, [], ◌∷◌, ◌++◌, ◌&&◌, length, map, nat_lt, reverse, take, drop, Some, true, true≢false, refl, sym, ap, subst, ◌∙◌, arith}
use Rattle.std.proofs.lemmas.List.{append-nil, length-append, reverse-append}
use Rattle.std.specs.List.{slice_get}
use Rattle.packed_log.specs.declared.mark.Mark.{Mark}
use Rattle.packed_log.specs.declared.mark.Mark.TheVariants as mark
use Rattle.packed_log.specs.Marks.{mark_bytes, mark_wholes}
use Rattle.packed_log.specs.Records.{PackedLog, Record, Short, Whole, all_wholes, bytes_of, count_bytes, is_short, is_whole}
use Rattle.packed_log.specs.Rows.{Row, last_of, without_last}
use Rattle.packed_log.specs.Settled.{AreSettled, Holds, all_bytes, log_of, mark_of, records_of}
use Rattle.packed_log.proofs.RecordLemmas.{Ends, are_records, begin_off, count_bytes-reverse, ends, first_item, front_part, held_as, held_with, last_item, last_part, length-all_bytes, length-bytes_of, length-wholes_of, put_first, put_last, rest_part, taken_off, told, wholes_of}

module _ {X : Type 0} where
  pub reversed_last : (front : List X) (x : X) → reverse (front ++ x ∷ []) ≡ x ∷ reverse front
  reversed_last front x = reverse-append front (x ∷ [])

  pub some_pushed : (front : List X) (x : X) → front ++ x ∷ [] ≢ []
  some_pushed [] x none = absurd (cc none)
  some_pushed (y ∷ ys) x none = absurd (cc none)

  pub get_last : (front : List X) (x : X) → slice_get (front ++ x ∷ []) (length (front ++ x ∷ []) - 1) ≡ Some x
  get_last [] x = refl
  get_last (y ∷ ys) x =
      let long = length-append ys (x ∷ []) in
      let n = length (ys ++ x ∷ []) - 1 in
      let more : length (ys ++ x ∷ []) ≡ suc n = omega (arith, long) in
      ap (λ k. slice_get (y ∷ (ys ++ x ∷ [])) (suc k - 1)) more
      ∙ ap (λ k. slice_get (y ∷ (ys ++ x ∷ [])) k) (let same : suc (suc n) - 1 ≡ suc n = omega arith in same)
      ∙ get_last ys x

-- the rows of these records
pub record IsLog {H W : Type 0} (m : Row (Mark H)) (b : Row ℕ) (w : Row W) (before behind : List (Record H W)) : Type 0 where
  pub before_held : Holds before m.before b.before w.before
  pub behind_held : Holds behind m.behind b.behind w.behind

-- a row whose cursor stepped back or forward over so many items
pub record StepsBack {X : Type 0} (count : ℕ) (old new : Row X) : Type 0 where
  pub before : new.before ≡ without_last count old.before
  pub behind : new.behind ≡ last_of count old.before ++ old.behind

pub record StepsForward {X : Type 0} (count : ℕ) (old new : Row X) : Type 0 where
  pub before : new.before ≡ old.before ++ take count old.behind
  pub behind : new.behind ≡ drop count old.behind

module _ {H W : Type 0} where
  module _ (m : Row (Mark H)) (b : Row ℕ) (w : Row W) (before behind : List (Record H W)) (is : IsLog m b w before behind) where
    pub is_settled : AreSettled m b w
    is_settled = record {
      before = are_records before m.before b.before w.before is.before_held;
      behind = are_records behind m.behind b.behind w.behind is.behind_held;
    }

    pub told_before : reverse (records_of m.before b.before w.before) ≡ reverse before
    told_before = ap reverse (told before m.before b.before w.before is.before_held)

    pub told_behind : records_of m.behind b.behind w.behind ≡ behind
    told_behind = told behind m.behind b.behind w.behind is.behind_held

  module _ (m : Row (Mark H)) (b : Row ℕ) (w : Row W) (are : AreSettled m b w) where
    -- the last record before the cursor
    pub record Newest : Type 0 where
      pub front : List (Record H W)
      pub newest : Record H W
      pub is : records_of m.before b.before w.before ≡ front ++ newest ∷ []
      pub at_end : Ends front newest m.before b.before w.before

    newest_of : records_of m.before b.before w.before ≢ [] → Newest
    newest_of some =
        let l = last_item (records_of m.before b.before w.before) some in
        record {
          front = l.front;
          newest = l.last;
          is = l.is;
          at_end = ends l.front l.last m.before b.before w.before (held_as (records_of m.before b.before w.before) m.before b.before w.before (l.front ++ l.last ∷ []) l.is are.before);
        }

    pub newest_in : (l : PackedLog H W) → log_of m b w ≡ l → l.before ≢ [] → Newest
    newest_in l view some = newest_of (λ none. some (sym (ap (λ (k : PackedLog H W). k.before) view) ∙ ap reverse none))

    pub newest_by : (k : Mark H) → Some k ≡ slice_get m.before (length m.before - 1) → Newest
    newest_by k is = newest_of (λ none.
        let nothing = are.before.marked ∙ ap (map mark_of) none in
        absurd (cc (is ∙ ap (λ ms. slice_get ms (length ms - 1)) nothing)))

    module _ (n : Newest) where
      pub marked_last : last_of 1 m.before ≡ mark_of n.newest ∷ []
      marked_last = last_part 1 m.before (map mark_of n.front) (mark_of n.newest ∷ []) n.at_end.marked refl

      pub same_mark : (k : Mark H) → k ∷ [] ≡ last_of 1 m.before → k ≡ mark_of n.newest
      same_mark k is = cc (is ∙ marked_last)

      pub same_last : (k : Mark H) → Some k ≡ slice_get m.before (length m.before - 1) → k ≡ mark_of n.newest
      same_last k is = cc (is ∙ ap (λ ms. slice_get ms (length ms - 1)) n.at_end.marked ∙ get_last (map mark_of n.front) (mark_of n.newest))

      pub first_is : slice_get (reverse (records_of m.before b.before w.before)) 0 ≡ Some n.newest
      first_is = ap (λ rs. slice_get (reverse rs) 0) n.is ∙ ap (λ rs. slice_get rs 0) (reversed_last n.front n.newest)

      pub rest_is : drop 1 (reverse (records_of m.before b.before w.before)) ≡ reverse n.front
      rest_is = ap (λ rs. drop 1 (reverse rs)) n.is ∙ ap (drop 1) (reversed_last n.front n.newest)

      pub head_is : take 1 (reverse (records_of m.before b.before w.before)) ≡ n.newest ∷ []
      head_is = ap (λ rs. take 1 (reverse rs)) n.is ∙ ap (take 1) (reversed_last n.front n.newest)

      bytes_fit : length (bytes_of n.newest) ≤ length b.before
      bytes_fit = let long = ap length n.at_end.in_bytes ∙ length-append (all_bytes n.front) (bytes_of n.newest) in omega (arith, long)

      wholes_fit : length (wholes_of n.newest) ≤ length w.before
      wholes_fit = let long = ap length n.at_end.in_wholes ∙ length-append (all_wholes n.front) (wholes_of n.newest) in omega (arith, long)

      module _ (k : Mark H) (same : k ≡ mark_of n.newest) where
        pub bytes_are : mark_bytes k ≡ length (bytes_of n.newest)
        bytes_are = ap mark_bytes same ∙ length-bytes_of n.newest

        pub wholes_are : mark_wholes k ≡ length (wholes_of n.newest)
        wholes_are = ap mark_wholes same ∙ length-wholes_of n.newest

        pub fit_bytes : mark_bytes k ≤ length b.before
        fit_bytes = subst (λ j. j ≤ length b.before) (sym bytes_are) bytes_fit

        pub fit_wholes : mark_wholes k ≤ length w.before
        fit_wholes = subst (λ j. j ≤ length w.before) (sym wholes_are) wholes_fit

        -- the cursor steps back over it
        pub stepped_back : (m' : Row (Mark H)) (b' : Row ℕ) (w' : Row W) (bytes wholes : ℕ) → bytes ≡ mark_bytes k → wholes ≡ mark_wholes k
            → StepsBack 1 m m' → StepsBack bytes b b' → StepsBack wholes w w'
            → IsLog m' b' w' n.front (n.newest ∷ records_of m.behind b.behind w.behind)
        stepped_back m' b' w' bytes wholes bytes_is wholes_is ms bs ws =
            let off = taken_off n.front n.newest m.before b.before w.before n.at_end in
            let on = put_first n.front n.newest m.before b.before w.before (records_of m.behind b.behind w.behind) m.behind b.behind w.behind n.at_end are.behind in
            let many = bytes_is ∙ bytes_are in let some = wholes_is ∙ wholes_are in
            record {
              before_held = record {
                marked = ms.before ∙ off.marked;
                in_bytes = bs.before ∙ ap (λ j. without_last j b.before) many ∙ off.in_bytes;
                in_wholes = ws.before ∙ ap (λ j. without_last j w.before) some ∙ off.in_wholes;
              };
              behind_held = record {
                marked = ms.behind ∙ on.marked;
                in_bytes = bs.behind ∙ ap (λ j. last_of j b.before ++ b.behind) many ∙ on.in_bytes;
                in_wholes = ws.behind ∙ ap (λ j. last_of j w.before ++ w.behind) some ∙ on.in_wholes;
              };
            }

    -- the first record behind the cursor
    pub record Next : Type 0 where
      pub next : Record H W
      pub rest : List (Record H W)
      pub is : records_of m.behind b.behind w.behind ≡ next ∷ rest
      pub held : Holds (next ∷ rest) m.behind b.behind w.behind

    pub next_in : (l : PackedLog H W) → log_of m b w ≡ l → l.behind ≢ [] → Next
    next_in l view some =
        let f = first_item (records_of m.behind b.behind w.behind) (λ none. some (sym (ap (λ (k : PackedLog H W). k.behind) view) ∙ none)) in
        record { next = f.first; rest = f.rest; is = f.is; held = held_as (records_of m.behind b.behind w.behind) m.behind b.behind w.behind (f.first ∷ f.rest) f.is are.behind }

    module _ (n : Next) where
      pub same_next : (k : Mark H) → Some k ≡ slice_get m.behind 0 → k ≡ mark_of n.next
      same_next k is = cc (is ∙ ap (λ ms. slice_get ms 0) n.held.marked)

      -- the cursor steps forward over it
      pub stepped_forward : (k : Mark H) (same : k ≡ mark_of n.next) (m' : Row (Mark H)) (b' : Row ℕ) (w' : Row W) (bytes wholes : ℕ) → bytes ≡ mark_bytes k → wholes ≡ mark_wholes k
          → StepsForward 1 m m' → StepsForward bytes b b' → StepsForward wholes w w'
          → IsLog m' b' w' (records_of m.before b.before w.before ++ n.next ∷ []) n.rest
      stepped_forward k same m' b' w' bytes wholes bytes_is wholes_is ms bs ws =
          let off = begin_off n.next n.rest m.behind b.behind w.behind n.held in
          let on = put_last n.next n.rest m.behind b.behind w.behind n.held (records_of m.before b.before w.before) m.before b.before w.before are.before in
          let many : bytes ≡ length (bytes_of n.next) = bytes_is ∙ ap mark_bytes same ∙ length-bytes_of n.next in
          let some : wholes ≡ length (wholes_of n.next) = wholes_is ∙ ap mark_wholes same ∙ length-wholes_of n.next in
          record {
            before_held = record {
              marked = ms.before ∙ on.marked;
              in_bytes = bs.before ∙ ap (λ j. b.before ++ take j b.behind) many ∙ on.in_bytes;
              in_wholes = ws.before ∙ ap (λ j. w.before ++ take j w.behind) some ∙ on.in_wholes;
            };
            behind_held = record {
              marked = ms.behind ∙ off.marked;
              in_bytes = bs.behind ∙ ap (λ j. drop j b.behind) many ∙ off.in_bytes;
              in_wholes = ws.behind ∙ ap (λ j. drop j w.behind) some ∙ off.in_wholes;
            };
          }

    -- a record is pushed where none is behind the cursor
    pub none_behind : (l : PackedLog H W) → log_of m b w ≡ l → l.behind ≡ [] → Holds {H = H} {W = W} [] m.behind b.behind w.behind
    none_behind l view none =
        held_as (records_of m.behind b.behind w.behind) m.behind b.behind w.behind [] (ap (λ (k : PackedLog H W). k.behind) view ∙ none) are.behind

    pub pushed : (r : Record H W) (m' : Row (Mark H)) (b' : Row ℕ) (w' : Row W)
        → m'.before ≡ m.before ++ mark_of r ∷ [] → b'.before ≡ b.before ++ bytes_of r → w'.before ≡ w.before ++ wholes_of r
        → Holds {H = H} {W = W} [] m'.behind b'.behind w'.behind → IsLog m' b' w' (records_of m.before b.before w.before ++ r ∷ []) []
    pushed r m' b' w' ms bs ws none = record {
      before_held = held_with (records_of m.before b.before w.before) r m'.before b'.before w'.before (record {
        marked = ms ∙ ap (λ xs. xs ++ mark_of r ∷ []) are.before.marked;
        in_bytes = bs ∙ ap (λ xs. xs ++ bytes_of r) are.before.in_bytes;
        in_wholes = ws ∙ ap (λ xs. xs ++ wholes_of r) are.before.in_wholes;
      });
      behind_held = none;
    }

    -- how many bytes there are
    pub bytes_counted : (l : PackedLog H W) → log_of m b w ≡ l → length (b.before ++ b.behind) ≡ count_bytes l.before + count_bytes l.behind
    bytes_counted l view =
        let before = records_of m.before b.before w.before in let behind = records_of m.behind b.behind w.behind in
        length-append b.before b.behind
        ∙ (λ i. (ap length are.before.in_bytes ∙ length-all_bytes before ∙ sym (count_bytes-reverse before)) i + (ap length are.behind.in_bytes ∙ length-all_bytes behind) i)
        ∙ ap (λ (k : PackedLog H W). count_bytes k.before + count_bytes k.behind) view

-- records that are whole, and short
module _ {H W : Type 0} where
  pub whole_some : (rs : List (Record H W)) → is_whole (slice_get rs 0) ≡ true → rs ≢ []
  whole_some rs is none = true≢false (sym is ∙ ap (λ ss. is_whole (slice_get ss 0)) none)

  pub short_some : (rs : List (Record H W)) → is_short (slice_get rs 0) ≡ true → rs ≢ []
  short_some rs is none = true≢false (sym is ∙ ap (λ ss. is_short (slice_get ss 0)) none)

  pub whole_is : (r : Record H W) → is_whole (Some r) ≡ true → (v : W) × (r ≡ Whole v)
  whole_is (Short head bytes) is = absurd (true≢false (sym is))
  whole_is (Whole whole) is = (whole, refl)

  pub short_is : (r : Record H W) → is_short (Some r) ≡ true → wholes_of r ≡ []
  short_is (Short head bytes) is = refl
  short_is (Whole whole) is = absurd (true≢false (sym is))

  -- a record by its mark and the end of its row
  pub short_read : (len : ℕ) (head : H) (r : Record H W) (front bs : List ℕ) → mark.Short len head ≡ mark_of r → bs ≡ front ++ bytes_of r → Short head (last_of len bs) ≡ r
  short_read len head (Short other bytes) front bs same is =
      let many : len ≡ length bytes = cc same in
      let one : head ≡ other = cc same in
      λ i. Short (one i) (last_part len bs front bytes is many i)
  short_read len head (Whole whole) front bs same is = absurd (cc same)

  pub whole_marked : (r : Record H W) → ◌≡◌ {A = Mark H} mark.Whole (mark_of r) → (v : W) × (r ≡ Whole v)
  whole_marked (Short head bytes) same = absurd (cc same)
  whole_marked (Whole whole) same = (whole, refl)

  pub whole_read : (r : Record H W) (v x : W) (front ws : List W) → r ≡ Whole v → ws ≡ front ++ wholes_of r → x ∷ [] ≡ last_of 1 ws → x ≡ v
  whole_read r v x front ws is are last = cc (last ∙ last_part 1 ws front (v ∷ []) (are ∙ ap (λ (s : Record H W). front ++ wholes_of s) is) refl)

  pub whole_there : (r : Record H W) (v : W) (front ws : List W) → r ≡ Whole v → ws ≡ front ++ wholes_of r → ws ≢ []
  whole_there r v front ws is are none = some_pushed front v (sym (are ∙ ap (λ (s : Record H W). front ++ wholes_of s) is) ∙ none)

-- the value of a record, and a record, are exchanged
module _ {H W : Type 0} (m : Row (Mark H)) (b : Row ℕ) (w : Row W) (are : AreSettled m b w) where
  pub newest_whole : (n : Newest m b w are) → (l : PackedLog H W) → log_of m b w ≡ l → is_whole (slice_get l.before 0) ≡ true → (v : W) × (n.newest ≡ Whole v)
  newest_whole n l view is = whole_is n.newest (ap is_whole (sym (first_is m b w are n)) ∙ ap (λ (k : PackedLog H W). is_whole (slice_get k.before 0)) view ∙ is)

  pub newest_short : (n : Newest m b w are) → (l : PackedLog H W) → log_of m b w ≡ l → is_short (slice_get l.before 0) ≡ true → wholes_of n.newest ≡ []
  newest_short n l view is = short_is n.newest (ap is_short (sym (first_is m b w are n)) ∙ ap (λ (k : PackedLog H W). is_short (slice_get k.before 0)) view ∙ is)

  pub next_whole : (n : Next m b w are) → (l : PackedLog H W) → log_of m b w ≡ l → is_whole (slice_get l.behind 0) ≡ true → (v : W) × (n.next ≡ Whole v)
  next_whole n l view is =
      whole_is n.next (ap (λ rs. is_whole (slice_get rs 0)) (sym n.is) ∙ ap (λ (k : PackedLog H W). is_whole (slice_get k.behind 0)) view ∙ is)

  module _ (n : Newest m b w are) (v : W) (is : n.newest ≡ Whole v) where
    old_marks : m.before ≡ map mark_of n.front ++ mark.Whole ∷ []
    old_marks = n.at_end.marked ∙ ap (λ (r : Record H W). map mark_of n.front ++ mark_of r ∷ []) is

    old_bytes : b.before ≡ all_bytes n.front ++ []
    old_bytes = n.at_end.in_bytes ∙ ap (λ (r : Record H W). all_bytes n.front ++ bytes_of r) is

    old_wholes : w.before ≡ all_wholes n.front ++ v ∷ []
    old_wholes = n.at_end.in_wholes ∙ ap (λ (r : Record H W). all_wholes n.front ++ wholes_of r) is

    -- the newest value is another one
    pub exchanged : (x : W) (w' : Row W) → w' ≡ record w { before = without_last 1 w.before ++ x ∷ [] }
        → IsLog m b w' (n.front ++ Whole x ∷ []) (records_of m.behind b.behind w.behind)
    exchanged x w' row = record {
      before_held = held_with n.front (Whole x) m.before b.before w'.before (record {
        marked = old_marks;
        in_bytes = old_bytes;
        in_wholes = ap (λ (u : Row W). u.before) row ∙ ap (λ ws. ws ++ x ∷ []) (front_part 1 w.before (all_wholes n.front) (v ∷ []) old_wholes refl);
      });
      behind_held = subst (λ ws. Holds (records_of m.behind b.behind w.behind) m.behind b.behind ws) (sym (ap (λ (u : Row W). u.behind) row)) are.behind;
    }

    pub exchanged_log : (x : W) (w' : Row W) (row : w' ≡ record w { before = without_last 1 w.before ++ x ∷ [] })
        → log_of m b w' ≡ record (log_of m b w) { before = Whole x ∷ drop 1 (log_of m b w).before }
    exchanged_log x w' row =
        let log = exchanged x w' row in
        let before = told_before m b w' (n.front ++ Whole x ∷ []) (records_of m.behind b.behind w.behind) log ∙ reversed_last n.front (Whole x) ∙ ap (λ rs. Whole x ∷ rs) (sym (rest_is m b w are n)) in
        let behind = told_behind m b w' (n.front ++ Whole x ∷ []) (records_of m.behind b.behind w.behind) log in
        λ i. record { before = before i; behind = behind i; place = nat_lt 0 m.room && nat_lt 0 (row i).room }

  module _ (n : Next m b w are) (v : W) (is : n.next ≡ Whole v) where
    next_wholes : w.behind ≡ v ∷ all_wholes n.rest
    next_wholes = n.held.in_wholes ∙ ap (λ (r : Record H W). all_wholes (r ∷ n.rest)) is

    pub next_some : w.behind ≢ []
    next_some none = absurd (cc (sym next_wholes ∙ none))

    pub next_read : (x : W) → Some x ≡ slice_get w.behind 0 → x ≡ v
    next_read x got = cc (got ∙ ap (λ ws. slice_get ws 0) next_wholes)

    pub next_exchanged : (x : W) (w' : Row W) → w' ≡ record w { behind = x ∷ drop 1 w.behind } → IsLog m b w' (records_of m.before b.before w.before) (Whole x ∷ n.rest)
    next_exchanged x w' row = record {
      before_held = subst (λ ws. Holds (records_of m.before b.before w.before) m.before b.before ws) (sym (ap (λ (u : Row W). u.before) row)) are.before;
      behind_held = record {
        marked = n.held.marked ∙ ap (λ (r : Record H W). map mark_of (r ∷ n.rest)) is;
        in_bytes = n.held.in_bytes ∙ ap (λ (r : Record H W). all_bytes (r ∷ n.rest)) is;
        in_wholes = ap (λ (u : Row W). u.behind) row ∙ ap (λ ws. x ∷ drop 1 ws) next_wholes;
      };
    }

  -- the newest record, a short one, is a whole one
  module _ (n : Newest m b w are) (short : wholes_of n.newest ≡ []) (k : Mark H) (same : k ≡ mark_of n.newest) (count : ℕ) (count_is : count ≡ mark_bytes k) (b₁ : Row ℕ) (stepped : StepsBack count b b₁) where
    many : count ≡ length (bytes_of n.newest)
    many = count_is ∙ bytes_are m b w are n k same

    lifted : b₁.behind ≡ bytes_of n.newest ++ b.behind
    lifted = stepped.behind ∙ ap (λ bs. bs ++ b.behind) (last_part count b.before (all_bytes n.front) (bytes_of n.newest) n.at_end.in_bytes many)

    pub fit_lifted : count ≤ length b₁.behind
    fit_lifted = let long = ap length lifted ∙ length-append (bytes_of n.newest) b.behind in omega (arith, long, many)

    pub made_whole : (x : W) (m' : Row (Mark H)) (b' : Row ℕ) (w' : Row W) → m' ≡ record m { before = without_last 1 m.before ++ mark.Whole ∷ [] }
        → b'.before ≡ b₁.before → b'.behind ≡ drop count b₁.behind → w'.before ≡ w.before ++ x ∷ [] → w'.behind ≡ w.behind
        → IsLog m' b' w' (n.front ++ Whole x ∷ []) (records_of m.behind b.behind w.behind)
    made_whole x m' b' w' row before behind inserted others = record {
      before_held = held_with n.front (Whole x) m'.before b'.before w'.before (record {
        marked = ap (λ (u : Row (Mark H)). u.before) row ∙ ap (λ ms. ms ++ mark.Whole ∷ []) (front_part 1 m.before (map mark_of n.front) (mark_of n.newest ∷ []) n.at_end.marked refl);
        in_bytes = before ∙ stepped.before ∙ front_part count b.before (all_bytes n.front) (bytes_of n.newest) n.at_end.in_bytes many ∙ sym (append-nil (all_bytes n.front));
        in_wholes = inserted ∙ ap (λ ws. ws ++ x ∷ []) (n.at_end.in_wholes ∙ ap (λ ws. all_wholes n.front ++ ws) short ∙ append-nil (all_wholes n.front));
      });
      behind_held = record {
        marked = ap (λ (u : Row (Mark H)). u.behind) row ∙ are.behind.marked;
        in_bytes = behind ∙ rest_part count b₁.behind (bytes_of n.newest) b.behind lifted many ∙ are.behind.in_bytes;
        in_wholes = others ∙ are.behind.in_wholes;
      };
    }
