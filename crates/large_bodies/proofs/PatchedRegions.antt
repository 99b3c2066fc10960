-- The pieces of a region, of a table and of a body, and what they hold.
use Rattle.std.proofs.Common.{◌≡◌, ◌≢◌, ◌≤◌, ◌<◌, ◌+◌, ◌-◌, ◌*◌, ◌%◌, ◌++◌, ◌∙◌, ℕ, List, [], length, take, drop, get_or, refl, sym, ap, ap₂, subst, inl, inr, append_assoc, length-append, arith}
use Rattle.std.proofs.lemmas.Bool.{cases_lt}
use Rattle.std.proofs.lemmas.List.{take-append-drop, drop-drop, length-drop, length-take-le, get_or-take, get_or-drop}
use Rattle.geos_model.specs.Heap.{capacity}
use Rattle.geos_model.specs.Words.{word_at}
use Rattle.chunk_edits.specs.Patching.{PatchPiece, ArePiecesOf, patched, peak, total_held}
use Rattle.large_bodies.specs.declared.cut_body.CutBody.{CutBody}
use Rattle.large_bodies.specs.Differences.{header_of, table_of, rest_of, IsCommonFront, IsCommonBack}
use Rattle.large_bodies.specs.Patches.{AddsPieces, AddsRegion, AddsTable, Differs, HoldsLeast, IsFurther, IsLeastOfRegion, IsLeastOfRegions, IsShiftedAround, regions_peak, word_from_end}
use Rattle.large_bodies.proofs.LeastSplices.{least_between}
use Rattle.large_bodies.proofs.PatchPieces.{LeadsByRegions, adds-as, adds-around, regions_led}
use Rattle.large_bodies.proofs.ShiftedWords.{front_most, back_most, end_behind}

-- ---- a region

-- bytes that begin with so many of the same, and of which so many at the end are the same, and no more
module _ (old new u v : List ℕ) (f b : ℕ) (front : IsCommonFront old new f) (first : f < length old → f < length new → get_or old f 0 ≢ get_or new f 0)
    (old_end : u ≡ drop f old) (new_end : v ≡ drop f new)
    (common : IsCommonBack u v b) (last : b < length u → b < length v → get_or u (length u - b - 1) 0 ≢ get_or v (length v - b - 1) 0) where
  abbrev begin : List ℕ
  begin = take f old

  abbrev gone : List ℕ
  gone = take (length u - b) u

  abbrev come : List ℕ
  come = take (length v - b) v

  abbrev end : List ℕ
  end = drop (length u - b) u

  old_is : old ≡ begin ++ gone ++ end
  old_is = sym (append_assoc begin gone end ∙ ap (λ (l : List ℕ). begin ++ l) (take-append-drop (length u - b) u ∙ old_end) ∙ take-append-drop f old)

  new_is : new ≡ begin ++ come ++ end
  new_is =
      sym (append_assoc begin come end ∙ ap (λ (l : List ℕ). begin ++ (come ++ l)) common.same
      ∙ ap₂ (λ (k l : List ℕ). k ++ l) front.same (take-append-drop (length v - b) v ∙ new_end) ∙ take-append-drop f new)

  old_long : length u ≡ length old - f
  old_long = ap length old_end ∙ length-drop f old

  new_long : length v ≡ length new - f
  new_long = ap length new_end ∙ length-drop f new

  gone_long : length gone ≡ length u - b
  gone_long = length-take-le (length u - b) u (omega arith)

  come_long : length come ≡ length v - b
  come_long = length-take-le (length v - b) v (omega arith)

  -- what the ends begin with
  at_begin : (xs w : List ℕ) (n : ℕ) → w ≡ drop f xs → 0 < n → get_or (take n w) 0 0 ≡ get_or xs f 0
  at_begin xs w n is some =
      get_or-take n w 0 0 some ∙ ap (λ (l : List ℕ). get_or l 0 0) is ∙ get_or-drop f xs 0 0
      ∙ ap (λ (i : ℕ). get_or xs i 0) (let same : f + 0 ≡ f = omega arith in same)

  at_end : (w : List ℕ) (n i : ℕ) → length (take n w) ≡ n → 0 < n → i ≡ n - 1 → get_or (take n w) (length (take n w) - 1) 0 ≡ get_or w i 0
  at_end w n i long some is =
      let place : length (take n w) - 1 ≡ i = omega (arith, long, is) in
      ap (λ (j : ℕ). get_or (take n w) j 0) place ∙ get_or-take n w i 0 (omega (arith, some, is))

  abbrev differs : Differs old new
  differs = record {
    front = begin;
    gone = gone;
    come = come;
    back = end;
    was = old_is;
    becomes = new_is;
    begins = λ some some_new same.
        first (omega (arith, some, gone_long, old_long)) (omega (arith, some_new, come_long, new_long))
        (sym (at_begin old u (length u - b) old_end (omega (arith, some, gone_long))) ∙ same ∙ at_begin new v (length v - b) new_end (omega (arith, some_new, come_long)));
    ends = λ some some_new same.
        last (omega (arith, some, gone_long)) (omega (arith, some_new, come_long))
        (sym (at_end u (length u - b) (length u - b - 1) gone_long (omega (arith, some, gone_long)) refl) ∙ same ∙ at_end v (length v - b) (length v - b - 1) come_long (omega (arith, some_new, come_long)) refl);
  }

  pub region_added : (k l m n : List PatchPiece) (x w y : List ℕ) → x ≡ begin → w ≡ gone → y ≡ end → AddsPieces k l x x 0 → AddsPieces l m w come (length w + length come) → AddsPieces m n y y 0
      → AddsRegion k n old new
  region_added k l m n x w y x_is w_is y_is one two three =
      let held : ℕ = length gone + length come in
      record {
        differs = differs;
        adds = adds-as k n (begin ++ gone ++ end) (begin ++ come ++ end) old new held held (sym old_is) (sym new_is) refl
            (adds-around k l m n begin begin gone come end end held refl refl (adds-as k l x x begin begin 0 0 x_is x_is refl one)
            (adds-as l m w come gone come (length w + length come) held w_is refl (ap (λ (z : List ℕ). length z + length come) w_is) two) (adds-as m n y y end end 0 0 y_is y_is refl three));
      }

-- the same, of bytes that are equal
pub region-as : (a b : List PatchPiece) (x x′ y y′ : List ℕ) → x ≡ x′ → y ≡ y′ → AddsRegion a b x y → AddsRegion a b x′ y′
region-as a b x x′ y y′ from to added = subst (λ (l : List ℕ). AddsRegion a b l y′) from (subst (λ (l : List ℕ). AddsRegion a b x l) to added)

pub table-as : (a b : List PatchPiece) (x x′ y y′ : List ℕ) → x ≡ x′ → y ≡ y′ → AddsTable a b x y → AddsTable a b x′ y′
table-as a b x x′ y y′ from to added = subst (λ (l : List ℕ). AddsTable a b l y′) from (subst (λ (l : List ℕ). AddsTable a b x l) to added)

-- it holds no more than any splice
pub least_of_region : (old new : List ℕ) (d : Differs old new) → IsLeastOfRegion old new (length d.gone + length d.come)
least_of_region old new d n spliced =
    least_between old new spliced.splice n spliced.leads d.front d.front d.gone d.come d.back d.back d.was d.becomes refl refl d.begins d.ends

-- no more than there is
differs_short : (old new : List ℕ) (d : Differs old new) → length d.gone + length d.come ≤ length old + length new
differs_short old new d =
    omega (arith, ap length d.was, ap length d.becomes, length-append (d.front ++ d.gone) d.back, length-append d.front d.gone, length-append (d.front ++ d.come) d.back, length-append d.front d.come)

-- ---- a table

-- a table of which words in front and at the end move
module _ (old new u v x x′ m m′ y y′ : List ℕ) (f b front_by back_by : ℕ) (old_is : old ≡ x ++ u) (new_is : new ≡ x′ ++ v) (u_is : u ≡ m ++ y) (v_is : v ≡ m′ ++ y′)
    (x_long : length x ≡ 2 * f) (x′-long : length x′ ≡ 2 * f) (y_long : length y ≡ 2 * b) (y′-long : length y′ ≡ 2 * b) where
  joined : old ≡ x ++ m ++ y
  joined = old_is ∙ ap (λ (l : List ℕ). x ++ l) u_is ∙ sym (append_assoc x m y)

  joined_new : new ≡ x′ ++ m′ ++ y′
  joined_new = new_is ∙ ap (λ (l : List ℕ). x′ ++ l) v_is ∙ sym (append_assoc x′ m′ y′)

  table_long : length old ≡ 2 * f + length m + 2 * b
  table_long = omega (arith, ap length joined, length-append (x ++ m) y, length-append x m, x_long, y_long)

  table_new-long : length new ≡ 2 * f + length m′ + 2 * b
  table_new-long = omega (arith, ap length joined_new, length-append (x′ ++ m′) y′, length-append x′ m′, x′-long, y′-long)

  -- what differs in the middle, with the words around it
  module _ (d : Differs m m′) where
    spread : (a g h e z : List ℕ) → a ++ (g ++ h ++ e) ++ z ≡ (a ++ g) ++ h ++ (e ++ z)
    spread a g h e z = simp append_assoc

    least_spliced : IsLeastOfRegion old new (length d.gone + length d.come)
    least_spliced n spliced =
        least_between old new spliced.splice n spliced.leads (x ++ d.front) (x′ ++ d.front) d.gone d.come (d.back ++ y) (d.back ++ y′)
        (joined ∙ ap (λ (l : List ℕ). x ++ l ++ y) d.was ∙ spread x d.front d.gone d.back y)
        (joined_new ∙ ap (λ (l : List ℕ). x′ ++ l ++ y′) d.becomes ∙ spread x′ d.front d.come d.back y′)
        (omega (arith, length-append x d.front, length-append x′ d.front, x_long, x′-long))
        (omega (arith, length-append d.back y, length-append d.back y′, y_long, y′-long))
        d.begins d.ends

  module _ (first : 2 ≤ length old → 2 ≤ length new → IsFurther front_by (word_at old 0) (word_at new 0))
      (front_end : 2 * f + 2 ≤ length old → 2 * f + 2 ≤ length new → IsFurther front_by (word_at old (2 * f)) (word_at new (2 * f)) → ⊥)
      (last : 2 ≤ length u → 2 ≤ length v → IsFurther back_by (word_from_end u 0) (word_from_end v 0))
      (back_end : 2 * b + 2 ≤ length u → 2 * b + 2 ≤ length v → IsFurther back_by (word_from_end u b) (word_from_end v b) → ⊥)
      (u_drop : u ≡ drop (2 * f) old) (v_drop : v ≡ drop (2 * f) new) where
    front_first : (n : ℕ) (s : IsShiftedAround old new n) → s.front ≤ f
    front_first n s = elim (cases_lt f s.front) as (λ _. s.front ≤ f) [
      | inl less ↦ absurd (front_most old new front_by f s.front_by s.front first front_end s.front_moves less)
      | inr not_less ↦ not_less
    ]

    u_long : length u ≡ length old - 2 * f
    u_long = ap length u_drop ∙ length-drop (2 * f) old

    v_long : length v ≡ length new - 2 * f
    v_long = ap length v_drop ∙ length-drop (2 * f) new

    -- a word at the end that moves as others do
    end_moves : (n : ℕ) (s : IsShiftedAround old new n) (k : ℕ) → k < s.back → 2 * f + 2 * k + 2 ≤ length old → 2 * f + 2 * k + 2 ≤ length new → IsFurther s.back_by (word_from_end u k) (word_from_end v k)
    end_moves n s k less in_old in_new =
        end_behind new v (2 * f) k v_drop in_new ∙ s.back_moves.each k less ∙ ap (λ (w : ℕ). (w + s.back_by) % 65536) (sym (end_behind old u (2 * f) k u_drop in_old))

    enough : (n : ℕ) (s : IsShiftedAround old new n) → s.front + s.back ≤ f + b
    enough n s =
        let front = front_first n s in
        let in_old = s.in_old in let in_new = s.in_new in
        elim (cases_lt b s.back) as (λ _. s.front + s.back ≤ f + b) [
          | inl less ↦ elim (cases_lt (length old) (2 * f + 2 * b + 2)) as (λ _. s.front + s.back ≤ f + b) [
            | inl short ↦ omega (arith, in_old, short)
            | inr room ↦ elim (cases_lt (length new) (2 * f + 2 * b + 2)) as (λ _. s.front + s.back ≤ f + b) [
              | inl short ↦ omega (arith, in_new, short)
              | inr room_new ↦ absurd (back_most u v back_by b s.back_by last back_end
                  (end_moves n s 0 (omega (arith, less)) (omega (arith, room)) (omega (arith, room_new)))
                  (end_moves n s b less room room_new)
                  (omega (arith, u_long, room)) (omega (arith, v_long, room_new)))
            ]
          ]
          | inr not_less ↦ omega (arith, front, not_less)
        ]

    least_shifted : (d : Differs m m′) (n : ℕ) → IsShiftedAround old new n → length d.gone + length d.come ≤ n
    least_shifted d n s =
        let in_old = s.in_old in let in_new = s.in_new in let between = s.between in
        omega (arith, enough n s, differs_short m m′ d, table_long, table_new-long, in_old, in_new, between)

    pub table_added : (j k l n : List PatchPiece) → AddsPieces j k x x′ 0 → AddsRegion k l m m′ → AddsPieces l n y y′ 0 → AddsTable j n old new
    table_added j k l n one two three =
        let d : Differs m m′ = two.differs in
        let held : ℕ = length d.gone + length d.come in
        record {
          held = held;
          adds = adds-as j n (x ++ m ++ y) (x′ ++ m′ ++ y′) old new held held (sym joined) (sym joined_new) refl
              (adds-around j k l n x x′ m m′ y y′ held (x_long ∙ sym x′-long) (y_long ∙ sym y′-long) one two.adds three);
          least = λ i way. elim way as (λ _. held ≤ i) [
            | inl spliced ↦ least_spliced d i spliced
            | inr shifted ↦ least_shifted d i shifted
          ];
        }

-- ---- bodies

module _ (b : CutBody) where
  pub body_joined : header_of b ++ table_of b ++ rest_of b ≡ b.bytes.now
  body_joined =
      let ordered : b.table ≤ b.rest = b.ordered in
      append_assoc (header_of b) (table_of b) (rest_of b)
      ∙ ap (λ (xs : List ℕ). header_of b ++ xs)
      (ap (λ (n : ℕ). table_of b ++ drop n b.bytes.now) (let same : b.rest ≡ b.table + (b.rest - b.table) = omega arith in same)
      ∙ ap (λ (xs : List ℕ). table_of b ++ xs) (sym (drop-drop (b.rest - b.table) b.table b.bytes.now)) ∙ take-append-drop (b.rest - b.table) (drop b.table b.bytes.now))
      ∙ take-append-drop b.table b.bytes.now

  body_long : length b.bytes.now ≡ length (header_of b) + length (table_of b) + length (rest_of b)
  body_long = omega (arith, ap length body_joined, length-append (header_of b ++ table_of b) (rest_of b), length-append (header_of b) (table_of b))

-- what is promised of a patch from one body to another
pub record IsBodyPatch (old new : CutBody) (ps : List PatchPiece) : Type 0 where
  pub leads : ArePiecesOf ps old.bytes.now × (patched ps old.bytes.now ≡ new.bytes.now)
  pub room : peak ps ≤ capacity
  pub held : HoldsLeast old new (total_held ps)

-- a patch of whole bodies
pub by_bodies : (old new : CutBody) (n ps : List PatchPiece) → n ≡ [] → AddsRegion n ps old.bytes.now new.bytes.now → capacity < regions_peak old new → IsBodyPatch old new ps
by_bodies old new n ps none added over =
    let d : Differs old.bytes.now new.bytes.now = added.differs in
    let pieces = added.adds in
    let is : ps ≡ pieces.more = pieces.joined ∙ ap (λ (qs : List PatchPiece). qs ++ pieces.more) none in
    let held : total_held ps ≡ length d.gone + length d.come = ap total_held is ∙ pieces.holds in
    let fits = old.fits in let fits_new = new.fits in let most = pieces.leads.peak in
    record {
      leads = subst (λ (qs : List PatchPiece). ArePiecesOf qs old.bytes.now × (patched qs old.bytes.now ≡ new.bytes.now)) (sym is) (pieces.leads.stands, pieces.leads.gives);
      room = omega (arith, ap peak is, most, fits, fits_new);
      held = record {
        by_regions = λ room. absurd (omega (arith, room, over));
        by_bodies = λ _ i spliced. let least = least_of_region old.bytes.now new.bytes.now d i spliced in omega (arith, held, least);
        at_most = omega (arith, held, differs_short old.bytes.now new.bytes.now d);
      };
    }

-- all bytes of a table, of which no word moves
no_words : (old new : List ℕ) → IsShiftedAround old new (length old + length new)
no_words old new = record {
  front_by = 0;
  front = 0;
  front_moves = record { in_old = omega arith; in_new = omega arith; each = λ k less. absurd (omega (arith, less)) };
  back_by = 0;
  back = 0;
  back_moves = record { in_old = omega arith; in_new = omega arith; each = λ k less. absurd (omega (arith, less)) };
  in_old = omega arith;
  in_new = omega arith;
  between = omega arith;
}

-- a patch from region to region
module _ (old new : CutBody) (n a b c : List PatchPiece) (none : n ≡ []) (one : AddsRegion n a (header_of old) (header_of new)) (two : AddsTable a b (table_of old) (table_of new)) (three : AddsRegion b c (rest_of old) (rest_of new)) where
  abbrev header : ℕ
  header = length one.differs.gone + length one.differs.come

  abbrev rest : ℕ
  rest = length three.differs.gone + length three.differs.come

  led : LeadsByRegions c (header_of old ++ table_of old ++ rest_of old) (header_of new ++ table_of new ++ rest_of new) (regions_peak old new) (header + two.held + rest)
  led = regions_led n a b c (header_of old) (header_of new) (table_of old) (table_of new) (rest_of old) (rest_of new) header two.held rest none one.adds two.adds three.adds

  table_short : two.held ≤ length (table_of old) + length (table_of new)
  table_short = two.least (length (table_of old) + length (table_of new)) (inr (no_words (table_of old) (table_of new)))

  least : IsLeastOfRegions old new (total_held c)
  least h t r spliced way spliced_rest =
      let first = least_of_region (header_of old) (header_of new) one.differs h spliced in
      let next = two.least t way in
      let last = least_of_region (rest_of old) (rest_of new) three.differs r spliced_rest in
      let holds = led.holds in
      omega (arith, holds, first, next, last)

  pub by_regions : regions_peak old new ≤ capacity → IsBodyPatch old new c
  by_regions fits = record {
    leads = (
      subst (ArePiecesOf c) (body_joined old) led.stands,
      ap (patched c) (sym (body_joined old)) ∙ led.gives ∙ body_joined new,
    );
    room = let most = led.peak in omega (arith, most, fits);
    held = record {
      by_regions = λ _. least;
      by_bodies = λ over. absurd (omega (arith, over, fits));
      at_most =
          let holds = led.holds in
          omega (
            arith,
            holds,
            table_short,
            differs_short (header_of old) (header_of new) one.differs,
            differs_short (rest_of old) (rest_of new) three.differs,
            body_long old,
            body_long new,
          );
    };
  }
