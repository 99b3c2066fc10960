-- Records as they lie in three lists, and what changes at either end of them.
use Rattle.std.proofs.Common.{◌≡◌, ◌≢◌, ◌+◌, ◌-◌, ℕ, List, [], ◌∷◌, ◌++◌, length, map, reverse, take, drop, option_to_list, refl, sym, ap, subst, ◌∙◌, arith}
use Rattle.std.proofs.Math.Seq.{drop-append_seam, take-append_seam}
use Rattle.std.proofs.lemmas.List.{append-nil, append_assoc, length-append, map-append, reverse-append}
use Rattle.std.proofs.lemmas.List.Sums.{sum_by-cons, sum_by_push}
use Rattle.std.proofs.lemmas.List.Elements.{filter_map-append}
use Rattle.packed_log.specs.declared.mark.Mark.{Mark}
use Rattle.packed_log.specs.Marks.{mark_bytes, mark_wholes}
use Rattle.packed_log.specs.Records.{Record, Short, Whole, all_wholes, bytes_of, count_bytes, whole_of}
use Rattle.packed_log.specs.Rows.{last_of, without_last}
use Rattle.packed_log.specs.Settled.{AreRecords, Holds, all_bytes, mark_of, records_of}

module _ {X : Type 0} where
  -- a list that isn't empty, by its last item
  pub record Last (xs : List X) : Type 0 where
    pub front : List X
    pub last : X
    pub is : xs ≡ front ++ last ∷ []

  pub last_item : (xs : List X) → xs ≢ [] → Last xs
  last_item [] some = absurd (some refl)
  last_item (x ∷ []) some = record { front = []; last = x; is = refl }
  last_item (x ∷ y ∷ xs) some =
      let more = last_item (y ∷ xs) (λ none. absurd (cc none)) in
      record { front = x ∷ more.front; last = more.last; is = ap (λ zs. x ∷ zs) more.is }

  -- by its first item
  pub record First (xs : List X) : Type 0 where
    pub first : X
    pub rest : List X
    pub is : xs ≡ first ∷ rest

  pub first_item : (xs : List X) → xs ≢ [] → First xs
  first_item [] some = absurd (some refl)
  first_item (x ∷ xs) some = record { first = x; rest = xs; is = refl }

  -- the last of two parts, and the first
  kept_length : (count : ℕ) (xs ys : List X) → count ≡ length ys → length (xs ++ ys) - count ≡ length xs
  kept_length count xs ys is = let long = length-append xs ys in omega (arith, long, is)

  pub last_part : (count : ℕ) (zs xs ys : List X) → zs ≡ xs ++ ys → count ≡ length ys → last_of count zs ≡ ys
  last_part count zs xs ys are is =
      ap (λ us. drop (length us - count) us) are ∙ ap (λ n. drop n (xs ++ ys)) (kept_length count xs ys is) ∙ drop-append_seam xs ys

  pub front_part : (count : ℕ) (zs xs ys : List X) → zs ≡ xs ++ ys → count ≡ length ys → without_last count zs ≡ xs
  front_part count zs xs ys are is =
      ap (λ us. take (length us - count) us) are ∙ ap (λ n. take n (xs ++ ys)) (kept_length count xs ys is) ∙ take-append_seam xs ys

  pub first_part : (count : ℕ) (zs xs ys : List X) → zs ≡ xs ++ ys → count ≡ length xs → take count zs ≡ xs
  first_part count zs xs ys are is = (λ i. take (is i) (are i)) ∙ take-append_seam xs ys

  pub rest_part : (count : ℕ) (zs xs ys : List X) → zs ≡ xs ++ ys → count ≡ length xs → drop count zs ≡ ys
  rest_part count zs xs ys are is = (λ i. drop (is i) (are i)) ∙ drop-append_seam xs ys

module _ {H W : Type 0} where
  -- the value of a record, if it is whole
  abbrev pub wholes_of : Record H W → List W
  wholes_of r = option_to_list (whole_of r)

  pub all_wholes-cons : (r : Record H W) (rs : List (Record H W)) → all_wholes (r ∷ rs) ≡ wholes_of r ++ all_wholes rs
  all_wholes-cons (Short head bytes) rs = refl
  all_wholes-cons (Whole whole) rs = refl

  pub all_wholes-append : (rs ss : List (Record H W)) → all_wholes (rs ++ ss) ≡ all_wholes rs ++ all_wholes ss
  all_wholes-append rs ss = filter_map-append whole_of rs ss

  pub all_bytes-append : (rs ss : List (Record H W)) → all_bytes (rs ++ ss) ≡ all_bytes rs ++ all_bytes ss
  all_bytes-append [] ss = refl
  all_bytes-append (r ∷ rs) ss = ap (λ bs. bytes_of r ++ bs) (all_bytes-append rs ss) ∙ sym (append_assoc (bytes_of r) (all_bytes rs) (all_bytes ss))

  pub length-bytes_of : (r : Record H W) → mark_bytes (mark_of r) ≡ length (bytes_of r)
  length-bytes_of (Short head bytes) = refl
  length-bytes_of (Whole whole) = refl

  pub length-wholes_of : (r : Record H W) → mark_wholes (mark_of r) ≡ length (wholes_of r)
  length-wholes_of (Short head bytes) = refl
  length-wholes_of (Whole whole) = refl

  pub length-all_bytes : (rs : List (Record H W)) → length (all_bytes rs) ≡ count_bytes rs
  length-all_bytes [] = refl
  length-all_bytes (r ∷ rs) =
      length-append (bytes_of r) (all_bytes rs) ∙ ap (λ n. length (bytes_of r) + n) (length-all_bytes rs) ∙ sym (sum_by-cons (λ (s : Record H W). length (bytes_of s)) r rs)

  pub count_bytes-reverse : (rs : List (Record H W)) → count_bytes (reverse rs) ≡ count_bytes rs
  count_bytes-reverse [] = refl
  count_bytes-reverse (r ∷ rs) =
      let long = λ (s : Record H W). length (bytes_of s) in
      let pushed = sum_by_push long (reverse rs) r in
      let cons = sum_by-cons long r rs in
      let same = count_bytes-reverse rs in
      ap count_bytes (reverse-append (r ∷ []) rs) ∙ omega (arith, pushed, cons, same)

  -- the records are told by their marks, bytes and values
  settled : (rs : List (Record H W)) → records_of (map mark_of rs) (all_bytes rs) (all_wholes rs) ≡ rs
  settled [] = refl
  settled (Short head bytes ∷ rs) =
      λ i. Short head (take-append_seam bytes (all_bytes rs) i)
      ∷ (ap (λ bs. records_of (map mark_of rs) bs (all_wholes rs)) (drop-append_seam bytes (all_bytes rs)) ∙ settled rs) i
  settled (Whole whole ∷ rs) = ap (λ ss. Whole whole ∷ ss) (settled rs)

  module _ (rs : List (Record H W)) (ms : List (Mark H)) (bs : List ℕ) (ws : List W) where
    pub told : Holds rs ms bs ws → records_of ms bs ws ≡ rs
    told h = (λ i. records_of (h.marked i) (h.in_bytes i) (h.in_wholes i)) ∙ settled rs

    pub are_records : Holds rs ms bs ws → AreRecords ms bs ws
    are_records h = subst (λ ss. Holds ss ms bs ws) (sym (told h)) h

    pub held_as : (ss : List (Record H W)) → records_of ms bs ws ≡ ss → AreRecords ms bs ws → Holds ss ms bs ws
    held_as ss is h = subst (λ us. Holds us ms bs ws) is h

  -- A record at the end.
  pub record Ends (front : List (Record H W)) (r : Record H W) (ms : List (Mark H)) (bs : List ℕ) (ws : List W) : Type 0 where
    pub marked : ms ≡ map mark_of front ++ mark_of r ∷ []
    pub in_bytes : bs ≡ all_bytes front ++ bytes_of r
    pub in_wholes : ws ≡ all_wholes front ++ wholes_of r

  module _ (front : List (Record H W)) (r : Record H W) (ms : List (Mark H)) (bs : List ℕ) (ws : List W) where
    bytes_at_end : all_bytes (front ++ r ∷ []) ≡ all_bytes front ++ bytes_of r
    bytes_at_end = all_bytes-append front (r ∷ []) ∙ ap (λ xs. all_bytes front ++ xs) (append-nil (bytes_of r))

    wholes_at_end : all_wholes (front ++ r ∷ []) ≡ all_wholes front ++ wholes_of r
    wholes_at_end = all_wholes-append front (r ∷ []) ∙ ap (λ xs. all_wholes front ++ xs) (all_wholes-cons r [] ∙ append-nil (wholes_of r))

    pub ends : Holds (front ++ r ∷ []) ms bs ws → Ends front r ms bs ws
    ends h = record { marked = h.marked ∙ map-append mark_of front (r ∷ []); in_bytes = h.in_bytes ∙ bytes_at_end; in_wholes = h.in_wholes ∙ wholes_at_end }

    pub held_with : Ends front r ms bs ws → Holds (front ++ r ∷ []) ms bs ws
    held_with e = record { marked = e.marked ∙ sym (map-append mark_of front (r ∷ [])); in_bytes = e.in_bytes ∙ sym bytes_at_end; in_wholes = e.in_wholes ∙ sym wholes_at_end }

    -- a record is taken off the end
    pub taken_off : Ends front r ms bs ws → Holds front (without_last 1 ms) (without_last (length (bytes_of r)) bs) (without_last (length (wholes_of r)) ws)
    taken_off e = record {
      marked = front_part 1 ms (map mark_of front) (mark_of r ∷ []) e.marked refl;
      in_bytes = front_part (length (bytes_of r)) bs (all_bytes front) (bytes_of r) e.in_bytes refl;
      in_wholes = front_part (length (wholes_of r)) ws (all_wholes front) (wholes_of r) e.in_wholes refl;
    }

    -- and is the first of others
    pub put_first : (rest : List (Record H W)) (ns : List (Mark H)) (cs : List ℕ) (vs : List W) → Ends front r ms bs ws → Holds rest ns cs vs
        → Holds (r ∷ rest) (last_of 1 ms ++ ns) (last_of (length (bytes_of r)) bs ++ cs) (last_of (length (wholes_of r)) ws ++ vs)
    put_first rest ns cs vs e h = record {
      marked = λ i. last_part 1 ms (map mark_of front) (mark_of r ∷ []) e.marked refl i ++ h.marked i;
      in_bytes = λ i. last_part (length (bytes_of r)) bs (all_bytes front) (bytes_of r) e.in_bytes refl i ++ h.in_bytes i;
      in_wholes = (λ i. last_part (length (wholes_of r)) ws (all_wholes front) (wholes_of r) e.in_wholes refl i ++ h.in_wholes i) ∙ sym (all_wholes-cons r rest);
    }

  -- A record at the beginning is taken off, and is the last of others.
  module _ (r : Record H W) (rest : List (Record H W)) (ms : List (Mark H)) (bs : List ℕ) (ws : List W) (h : Holds (r ∷ rest) ms bs ws) where
    pub begin_off : Holds rest (drop 1 ms) (drop (length (bytes_of r)) bs) (drop (length (wholes_of r)) ws)
    begin_off = record {
      marked = rest_part 1 ms (mark_of r ∷ []) (map mark_of rest) h.marked refl;
      in_bytes = rest_part (length (bytes_of r)) bs (bytes_of r) (all_bytes rest) h.in_bytes refl;
      in_wholes = rest_part (length (wholes_of r)) ws (wholes_of r) (all_wholes rest) (h.in_wholes ∙ all_wholes-cons r rest) refl;
    }

    pub put_last : (front : List (Record H W)) (ns : List (Mark H)) (cs : List ℕ) (vs : List W) → Holds front ns cs vs
        → Holds (front ++ r ∷ []) (ns ++ take 1 ms) (cs ++ take (length (bytes_of r)) bs) (vs ++ take (length (wholes_of r)) ws)
    put_last front ns cs vs g = held_with front r (ns ++ take 1 ms) (cs ++ take (length (bytes_of r)) bs) (vs ++ take (length (wholes_of r)) ws) (record {
      marked = λ i. g.marked i ++ first_part 1 ms (mark_of r ∷ []) (map mark_of rest) h.marked refl i;
      in_bytes = λ i. g.in_bytes i ++ first_part (length (bytes_of r)) bs (bytes_of r) (all_bytes rest) h.in_bytes refl i;
      in_wholes = λ i. g.in_wholes i ++ first_part (length (wholes_of r)) ws (wholes_of r) (all_wholes rest) (h.in_wholes ∙ all_wholes-cons r rest) refl i;
    })
