-- Without its word, as `--new`, a flag reads as false.
use Rattle.std.proofs.Common.{zero, suc, ◌||◌, ◌&&◌, not, ◌++◌, ◌≡◌, ◌∙◌, ◌+◌, ◌==◌, ap, ap₂, cond, ℕ, Bool, true, false, List, [], ◌∷◌, length, Option, Some, None, refl, sym, subst, inl, inr, arith, codes, drop}
use Rattle.std.specs.Prelude.{⊤, ◌⊎◌, find, fold, slice_get, encode_utf8, is_some, min, option_and_then, unwrap_or}
use Rattle.std.specs.List.{Contains, after_first, before_first, list_any, prefix_len}
use Rattle.std.proofs.lemmas.Bool.{eqb-true}
use Rattle.std.specs.Option.{option_map_or}
use Rattle.std.specs.Str.{bytes_eq, chars}
use Rattle.std.proofs.lemmas.Slice.Eq.{bytes_eq-Decides}
use Rattle.std.proofs.lemmas.List.Folds.{list_any-append}
use Rattle.clap.specs.Lexer.{has_byte, long_of, long_of_rest, name_and_value, short_of, strip_byte}
use Rattle.clap.specs.Walk.{Held, Outcome, Row, Rule, Step, Text, Waiting, Walk, action_of, after_flag, after_step, arg_by_id, arg_by_index, arg_by_long, arg_by_short, at_row, attached_value, bundle, bundle_met, bundle_step, default_rows, done, count_of, flag_met, has_long, has_row, has_short, idle, is_multiple, is_pending, long_met, long_or_other, more_values, new_count, next, nothing_held, one_of, option, option_met, option_word, plain, plain_word, positional, positional_held, pushed, reacted, reading_by, refused, settled, settled_rows, short_met, short_or_plain, subcommand, subcommand_met, subcommand_or_other, takes_several, takes_values, to_positional, trailing, used, used_as, used_by_id, value, values_or_missing, waits, walk, walk_from, walked, walked_from, with_count, with_default, with_values, without, word_met}
use Rattle.clap.specs.Simple.{built, filled, matches_of, with_index}
use Rattle.clap.specs.declared.builder.action.ArgAction.{ArgAction}
use Rattle.clap.specs.declared.builder.action.ArgAction.TheVariants as actions
use Rattle.clap.specs.declared.builder.value_parser.Reading.{Reading}
use Rattle.clap.specs.declared.parser.matches.ValueSource.{ValueSource}
use Rattle.clap.specs.declared.parser.matches.ValueSource.TheVariants as sources
use Rattle.clap.specs.declared.builder.value_parser.Reading.TheVariants as reading
use Rattle.command_lines.specs.Options.{CommandLine, flag, geosvm, has_flag, said}
use Rattle.command_lines.proofs.Telling.{is_set}

-- the word of a flag
abbrev word_of : Text → Text
word_of name = 45 ∷ 45 ∷ name

or_false : (a b : Bool) → (a || b) ≡ false → (a ≡ false) × (b ≡ false)
or_false false b e = (refl, e)
or_false true b e = cc

found_by : {X : Type 0} (p : X → Bool) (xs : List X) (a : X) → find p xs ≡ Some a → p a ≡ true
found_by p [] a e = cc
found_by p (x ∷ xs) a e = go (p x) refl (λ h. found_by p xs a h)
  where
    go : (t : Bool) → p x ≡ t → (find p xs ≡ Some a → p a ≡ true) → p a ≡ true
    go true t rest =
        let same : Some x ≡ Some a = rw t at e in
        let is : x ≡ a = cc in
        subst (λ y. p y ≡ true) is t
    go false t rest = rest (rw t at e)

whole : (xs : Text) → has_byte 61 xs ≡ false → before_first (λ x. x == 61) xs ≡ xs
whole [] e = refl
whole (x ∷ xs) e =
    let parts = or_false (x == 61) (has_byte 61 xs) e in
    let step : 1 + prefix_len (λ (y : ℕ). not (y == 61)) xs ≡ suc (prefix_len (λ (y : ℕ). not (y == 61)) xs) = omega arith in
    rw (parts.0, step) (ap (λ (l : Text). x ∷ l) (whole xs parts.1))

name_of_rest : (rest : Text) (p : Text × Option Text) → long_of_rest rest ≡ Some p → p.1 ≡ None → rest ≡ p.0
name_of_rest [] p e none = cc
name_of_rest (x ∷ xs) p e none = go (has_byte 61 (x ∷ xs)) refl
  where
    is : name_and_value (x ∷ xs) ≡ p
    is = ap (λ (o : Option (Text × Option Text)). unwrap_or o p) e

    go : (t : Bool) → has_byte 61 (x ∷ xs) ≡ t → x ∷ xs ≡ p.0
    go false t = sym (whole (x ∷ xs) t) ∙ ap (λ (q : Text × Option Text). q.0) is
    go true t =
        let value : cond (has_byte 61 (x ∷ xs)) (Some (after_first (λ (y : ℕ). y == 61) (x ∷ xs))) None ≡ None = ap (λ (q : Text × Option Text). q.1) is ∙ none in
        let bad : Some (after_first (λ (y : ℕ). y == 61) (x ∷ xs)) ≡ None = rw t at value in
        cc

name_after_hyphen : (rest : Text) (p : Text × Option Text) → option_and_then long_of_rest (strip_byte 45 rest) ≡ Some p → p.1 ≡ None → rest ≡ 45 ∷ p.0
name_after_hyphen [] p e none = cc
name_after_hyphen (x ∷ xs) p e none = go (x == 45) refl
  where
    go : (t : Bool) → (x == 45) ≡ t → x ∷ xs ≡ 45 ∷ p.0
    go true t =
        let rest : long_of_rest xs ≡ Some p = rw t at e in
        ap₂ (λ (n : ℕ) (l : Text). n ∷ l) (eqb-true x 45 t) (name_of_rest xs p rest none)
    go false t =
        let bad : None ≡ Some p = rw t at e in
        cc

name_of_long : (word : Text) (p : Text × Option Text) → long_of word ≡ Some p → p.1 ≡ None → word ≡ 45 ∷ 45 ∷ p.0
name_of_long [] p e none = cc
name_of_long (x ∷ xs) p e none = go (x == 45) refl
  where
    go : (t : Bool) → (x == 45) ≡ t → x ∷ xs ≡ 45 ∷ 45 ∷ p.0
    go true t =
        let rest : option_and_then long_of_rest (strip_byte 45 xs) ≡ Some p = rw t at e in
        ap₂ (λ (n : ℕ) (l : Text). n ∷ l) (eqb-true x 45 t) (name_after_hyphen xs p rest none)
    go false t =
        let bad : None ≡ Some p = rw t at e in
        cc

none_met : (w : Waiting) (word : Text) → subcommand_met [] w word ≡ None
none_met idle word = refl
none_met (option id) word = refl
none_met positional word = refl

abbrev rules : List Rule
rules = (built geosvm).top.rules

abbrev by_short : ℕ → Rule → Bool
by_short x b = not (is_some b.index) && has_short b x

abbrev by_index : ℕ → Rule → Bool
by_index i b = option_map_or (λ k. k == i) b.index false

abbrev by_long : Text → Rule → Bool
by_long name b = not (is_some b.index) && has_long b name

there_is : (xs : List Text) (x : Text) → list_any (λ w. bytes_eq w x) xs ≡ true → Contains xs x
there_is [] x e = cc
there_is (y ∷ ys) x e = go (bytes_eq y x) refl (λ h. there_is ys x h)
  where
    go : (t : Bool) → bytes_eq y x ≡ t → (list_any (λ w. bytes_eq w x) ys ≡ true → Contains ys x) → Contains (y ∷ ys) x
    go true t rest = (0, omega arith, (bytes_eq-Decides y x).0 t)
    go false t rest =
        let at = rest (rw t at e) in
        (suc at.0, omega (arith, at.1), at.2)

module _ (own : Text) where
  abbrev is_own : Text → Bool
  is_own id = bytes_eq id own

  same_id : (a b : Text) → bytes_eq a b ≡ true → is_own b ≡ false → is_own a ≡ false
  same_id a b e h = rw ((bytes_eq-Decides a b).0 e) h

  -- ---- rows

  abbrev Without : List Row → Type 0
  Without rows = has_row own rows ≡ false

  at_clean : (id : Text) (change : Row → List Row) (missing : List Row) → ((r : Row) → is_own r.id ≡ false → Without (change r)) → Without missing
      → (rows : List Row) → Without rows → Without (at_row id change missing rows)
  at_clean id change missing changes lacks [] h = lacks
  at_clean id change missing changes lacks (r ∷ rs) h =
      let parts = or_false (is_own r.id) (has_row own rs) h in
      go (bytes_eq r.id id) parts.0 parts.1 (at_clean id change missing changes lacks rs parts.1)
    where
      go : (t : Bool) → is_own r.id ≡ false → Without rs → Without (at_row id change missing rs) → Without (cond t (change r ++ rs) (r ∷ at_row id change missing rs))
      go true head tail rest = rw (list_any-append (λ (x : Row). is_own x.id) (change r) rs, changes r head, tail) refl
      go false head tail rest = rw (head, rest) refl

  values_clean : (id : Text) (how : Reading) (s : ValueSource) (vs : List Text) (rows : List Row) → is_own id ≡ false → Without rows → Without (with_values id how s vs rows)
  values_clean id how s vs rows other h = at_clean id (more_values s vs) _ (λ r e. rw e refl) (rw other refl) rows h

  count_clean : (id : Text) (how : Reading) (s : ValueSource) (n : ℕ) (rows : List Row) → is_own id ≡ false → Without rows → Without (with_count id how s n rows)
  count_clean id how s n rows other h = at_clean id (new_count s n) _ (λ r e. rw e refl) (rw other refl) rows h

  without_clean : (id : Text) (rows : List Row) → Without rows → Without (without id rows)
  without_clean id rows h = at_clean id (λ _. []) [] (λ r e. refl) refl rows h

  as_clean : (action : ArgAction) (id : Text) (how : Reading) (vs : List Text) (rows : List Row) → is_own id ≡ false → Without rows → Without (used_as action id how vs rows)
  as_clean actions.Set id how vs rows other h = values_clean id how _ vs _ other (without_clean id rows h)
  as_clean actions.SetTrue id how vs rows other h = values_clean id how _ vs _ other (without_clean id rows h)
  as_clean actions.SetFalse id how vs rows other h = values_clean id how _ vs _ other (without_clean id rows h)
  as_clean actions.Append id how vs rows other h = values_clean id how _ vs rows other h
  as_clean actions.Count id how [] rows other h =
      count_clean id how sources.CommandLine (min (count_of id rows + 1) 255) (without id rows) other (without_clean id rows h)
  as_clean actions.Count id how (v ∷ vs) rows other h = values_clean id how _ (v ∷ vs) _ other (without_clean id rows h)
  as_clean actions.Help id how vs rows other h = h
  as_clean actions.HelpShort id how vs rows other h = h
  as_clean actions.HelpLong id how vs rows other h = h
  as_clean actions.Version id how vs rows other h = h

  used_clean : (a : Rule) (vs : List Text) (rows : List Row) → is_own a.id ≡ false → Without rows → Without (used a vs rows)
  used_clean a vs rows other h = as_clean (action_of a) a.id (reading_by a) (values_or_missing a vs) rows other h

  -- ---- what is held

  abbrev Apart : Option (Text × List Text) → Type 0
  Apart None = ⊤
  Apart (Some p) = is_own p.0 ≡ false

  record Clean (h : Held) : Type 0 where
    there : Without h.rows
    pending : Apart h.pending

  module _ (c : List Rule) where
    id_other : (id : Text) (a : Rule) → arg_by_id c id ≡ Some a → is_own id ≡ false → is_own a.id ≡ false
    id_other id a e other = same_id a.id id (found_by (λ (r : Rule). bytes_eq r.id id) c a e) other

    rows_settled : (p : Option (Text × List Text)) (rows : List Row) → Apart p → Without rows → Without (settled_rows c p rows)
    rows_settled None rows apart h = h
    rows_settled (Some p) rows apart h = go (arg_by_id c p.0) refl
      where
        go : (o : Option Rule) → arg_by_id c p.0 ≡ o → Without (used_by_id o p.1 rows)
        go None e = h
        go (Some a) e = used_clean a p.1 rows (id_other p.0 a e apart) h

    settled_clean : (h : Held) → Clean h → Clean (settled c h)
    settled_clean h k = record { there = rows_settled h.pending h.rows k.pending k.there; pending = tt }

    reacted_clean : (a : Rule) (vs : List Text) (h : Held) → is_own a.id ≡ false → Clean h → Clean (reacted c a vs h)
    reacted_clean a vs h other k = record { there = used_clean a vs _ other (rows_settled h.pending h.rows k.pending k.there); pending = tt }

  started_apart : (id : Text) (p : Option (Text × List Text)) (word : Text) (h : Held) → h.pending ≡ p → is_own id ≡ false → Apart p → Apart (pushed id word h).pending
  started_apart id None word h e other apart = rw e other
  started_apart id (Some p) word h e other apart = rw e apart

  pushed_clean : (id word : Text) (h : Held) → is_own id ≡ false → Clean h → Clean (pushed id word h)
  pushed_clean id word h other k = record { there = k.there; pending = started_apart id h.pending word h refl other k.pending }

  -- ---- flags and words

  abbrev AfterOutcome : Outcome → Type 0
  AfterOutcome (waits id) = is_own id ≡ false
  AfterOutcome _ = ⊤

  abbrev AfterWaiting : Waiting → Type 0
  AfterWaiting (option id) = is_own id ≡ false
  AfterWaiting _ = ⊤

  abbrev AfterStep : Step → Type 0
  AfterStep (next w) = AfterWaiting w
  AfterStep (subcommand name) = ⊥
  AfterStep _ = ⊤

  record Met (p : Held × Outcome) : Type 0 where
    held : Clean p.0
    outcome : AfterOutcome p.1

  record Stepped (p : Held × Step) : Type 0 where
    held : Clean p.0
    step : AfterStep p.1

  -- each rule that passes has another name
  abbrev Others : (Rule → Bool) → List Rule → Type 0
  Others p [] = ⊤
  Others p (a ∷ rest) = ((is_own a.id ≡ false) ⊎ (p a ≡ false)) × Others p rest

  found_other : (p : Rule → Bool) (xs : List Rule) (a : Rule) → Others p xs → find p xs ≡ Some a → is_own a.id ≡ false
  found_other p [] a h e = cc
  found_other p (x ∷ xs) a h e = go (p x) refl (λ r. found_other p xs a h.1 r)
    where
      go : (t : Bool) → p x ≡ t → (find p xs ≡ Some a → is_own a.id ≡ false) → is_own a.id ≡ false
      go true t rest =
          let same : Some x ≡ Some a = rw t at e in
          let is : x ≡ a = cc in
          elim h.0 as (λ _. is_own a.id ≡ false) [
            | inl other ↦ subst (λ (y : Rule). is_own y.id ≡ false) is other
            | inr fails ↦ (let bad : true ≡ false = sym t ∙ fails in cc)
          ]
      go false t rest = rest (rw t at e)

  module _ (c : List Rule) where
    option_clean : (a : Rule) (v : Option Text) (h : Held) → is_own a.id ≡ false → Clean h → Met (option_met c a v h)
    option_clean a (Some v) h other k = record { held = reacted_clean c a (v ∷ []) h other k; outcome = tt }
    option_clean a None h other k =
        record { held = record { there = (settled_clean c h k).there; pending = other }; outcome = other }

    flag_clean : (a : Rule) (v : Option Text) (h : Held) → is_own a.id ≡ false → Clean h → Met (flag_met c a v h)
    flag_clean a (Some v) h other k = record { held = k; outcome = tt }
    flag_clean a None h other k = record { held = reacted_clean c a [] h other k; outcome = tt }

    long_clean : (found : Option Rule) (v : Option Text) (h : Held) → ((a : Rule) → found ≡ Some a → is_own a.id ≡ false) → Clean h → Met (long_met c found v h)
    long_clean None v h other k = record { held = k; outcome = tt }
    long_clean (Some a) v h other k = go (takes_values a)
      where
        go : (t : Bool) → Met (cond t (option_met c a v h) (flag_met c a v h))
        go true = option_clean a v h (other a refl) k
        go false = flag_clean a v h (other a refl) k

    plain_clean : (w : Waiting) (word : Text) (h : Held) → AfterWaiting w → Clean h → Stepped (plain_word c w word h)
    plain_clean idle word h after k = record { held = k; step = tt }
    plain_clean positional word h after k = record { held = k; step = tt }
    plain_clean (option id) word h after k = go (arg_by_id c id)
      where
        waiting : (a : Rule) (t : Bool) → AfterWaiting (cond t (option id) idle)
        waiting a true = after
        waiting a false = tt

        go : (o : Option Rule) → Stepped ((option_word o id word h).0, next (option_word o id word h).1)
        go None = record { held = k; step = after }
        go (Some a) = record {
          held = pushed_clean id word h after k;
          step = waiting a _;
        }

    flag_stepped : (w : Waiting) (word : Text) (p : Held × Outcome) → AfterWaiting w → Met p → Stepped (after_flag c w word p.0 p.1)
    flag_stepped w word p after m = go p.1 m.outcome
      where
        go : (o : Outcome) → AfterOutcome o → Stepped (after_flag c w word p.0 o)
        go done a = record { held = m.held; step = tt }
        go (waits id) a = record { held = m.held; step = a }
        go plain a = plain_clean w word p.0 after m.held
        go refused a = plain_clean w word p.0 after m.held

    positional_clean : (a : Rule) (word : Text) (h : Held) → is_own a.id ≡ false → Clean h → Clean (positional_held c a word h)
    positional_clean a word h other k = pushed_clean a.id word _ other (go (is_pending a h.pending && takes_several a))
      where
        go : (t : Bool) → Clean (cond t h (settled c h))
        go true = k
        go false = settled_clean c h k

  -- ---- defaults

  -- each rule has another name
  abbrev AreOthers : List Rule → Type 0
  AreOthers [] = ⊤
  AreOthers (a ∷ rest) = (is_own a.id ≡ false) × AreOthers rest

  default_found : (rows : List Row) → Without rows → one_of own (with_values own reading.AsWritten sources.DefaultValue (codes "false" ∷ []) rows) ≡ Some (codes "false")
  default_found [] h = rw ((bytes_eq-Decides own own).1 refl) refl
  default_found (r ∷ rs) h =
      let parts = or_false (is_own r.id) (has_row own rs) h in
      rw parts.0 (rw parts.0 (default_found rs parts.1))

  -- a default of another argument
  others_values : (id : Text) (how : Reading) (vs : List Text) (rows : List Row) → is_own id ≡ false
      → one_of own (with_values id how sources.DefaultValue vs rows) ≡ one_of own rows
  others_values id how vs [] other = rw other refl
  others_values id how vs (r ∷ rs) other = go (bytes_eq r.id id) refl (is_own r.id) refl (others_values id how vs rs other)
    where
      rest : List Row
      rest = with_values id how sources.DefaultValue vs rs

      go : (here : Bool) → bytes_eq r.id id ≡ here → (new : Bool) → is_own r.id ≡ new → one_of own rest ≡ one_of own rs
          → one_of own (cond here (more_values sources.DefaultValue vs r ++ rs) (r ∷ rest)) ≡ one_of own (r ∷ rs)
      go true e new n more =
          let apart : is_own r.id ≡ false = same_id r.id id e other in
          rw apart refl
      go false e true n more = rw n refl
      go false e false n more = rw n more

  others_default : (rows : List Row) (a : Rule) → is_own a.id ≡ false → one_of own (with_default rows a) ≡ one_of own rows
  others_default rows a other = go (has_row a.id rows) a.defaults
    where
      go : (has : Bool) (vs : List Text) → one_of own (cond has rows (default_rows a.id (reading_by a) vs rows)) ≡ one_of own rows
      go true vs = refl
      go false [] = refl
      go false (v ∷ vs) = others_values a.id (reading_by a) (v ∷ vs) rows other

  others_defaults : (rs : List Rule) (rows : List Row) → AreOthers rs → one_of own (fold with_default rows rs) ≡ one_of own rows
  others_defaults [] rows apart = refl
  others_defaults (r ∷ rs) rows apart = others_defaults rs (with_default rows r) apart.1 ∙ others_default rows r apart.0

  default_clean : (rows : List Row) (a : Rule) → is_own a.id ≡ false → Without rows → Without (with_default rows a)
  default_clean rows a other h = go (has_row a.id rows) a.defaults
    where
      go : (has : Bool) (vs : List Text) → Without (cond has rows (default_rows a.id (reading_by a) vs rows))
      go true vs = h
      go false [] = h
      go false (v ∷ vs) = values_clean a.id (reading_by a) sources.DefaultValue (v ∷ vs) rows other h

  -- ---- the command line's own rules

  -- The name is a flag's: it is found by its long word alone, which takes no value, and is false where it isn't given.
  pub record IsApart : Type 0 where
    short : (x : ℕ) → Others (by_short x) rules
    index : (i : ℕ) → Others (by_index i) rules
    long : (name : Text) → bytes_eq own name ≡ false → Others (by_long name) rules
    valued : (v : Text) (h : Held) → long_met rules (arg_by_long rules own) (Some v) h ≡ (h, refused)
    unset : (rows : List Row) → Without rows → one_of own (fold with_default rows rules) ≡ Some (codes "false")

  module _ (is_apart : IsApart) where
    short_other : (x : ℕ) (a : Rule) → arg_by_short rules x ≡ Some a → is_own a.id ≡ false
    short_other x a e = found_other (by_short x) rules a (is_apart.short x) e

    index_other : (i : ℕ) (a : Rule) → arg_by_index rules i ≡ Some a → is_own a.id ≡ false
    index_other i a e = found_other (by_index i) rules a (is_apart.index i) e

    long_other : (name : Text) → bytes_eq own name ≡ false → (a : Rule) → arg_by_long rules name ≡ Some a → is_own a.id ≡ false
    long_other name other a e = found_other (by_long name) rules a (is_apart.long name other) e

    bundle_clean : (k : ℕ) (flags : Text) (skip : ℕ) (so_far : Outcome) (h : Held) → Clean h → AfterOutcome so_far → Met (bundle_met rules k flags skip so_far h)
    unfolding bundle_met
    bundle_clean zero flags skip so_far h clean after = record { held = clean; outcome = after }
    bundle_clean (suc k) flags skip so_far h clean after = go (slice_get (chars flags) 0) skip (λ r s o g c a. bundle_clean k r s o g c a)
      where
        step : (o : Option Rule) (rest : Text) → ((a : Rule) → o ≡ Some a → is_own a.id ≡ false)
            → ((g : Held) → Clean g → Met (bundle_met rules k rest 0 done g))
            → Met (short_met rules o rest h (bundle_met rules k rest 0 done))
        step None rest other more = record { held = clean; outcome = tt }
        step (Some a) rest other more = pick (takes_values a)
          where
            pick : (t : Bool) → Met (cond t (option_met rules a (attached_value rest) h) (bundle_met rules k rest 0 done (reacted rules a [] h)))
            pick true = option_clean rules a (attached_value rest) h (other a refl) clean
            pick false = more (reacted rules a [] h) (reacted_clean rules a [] h (other a refl) clean)

        go : (o : Option ℕ) (n : ℕ) → ((r : Text) (s : ℕ) (o : Outcome) (g : Held) → Clean g → AfterOutcome o → Met (bundle_met rules k r s o g))
            → Met (bundle_step rules o flags n so_far h (bundle_met rules k))
        go None n more = record { held = clean; outcome = after }
        go (Some x) zero more =
            let rest = drop (length (encode_utf8 x)) flags in
            step (arg_by_short rules x) rest (short_other x) (λ g c. more rest 0 done g c tt)
        go (Some x) (suc n) more = more (drop (length (encode_utf8 x)) flags) n so_far h clean after

    not_word : (word : Text) → bytes_eq word (word_of own) ≡ false → (p : Text × Option Text) → long_of word ≡ Some p → p.1 ≡ None → bytes_eq own p.0 ≡ false
    not_word word apart p e none = go (bytes_eq own p.0) refl
      where
        go : (t : Bool) → bytes_eq own p.0 ≡ t → bytes_eq own p.0 ≡ false
        go false t = t
        go true t =
            let name : own ≡ p.0 = (bytes_eq-Decides own p.0).0 t in
            let is : word ≡ word_of own = name_of_long word p e none ∙ ap (λ (l : Text). 45 ∷ 45 ∷ l) (sym name) in
            let bad : true ≡ false = sym ((bytes_eq-Decides (word_of own) (word_of own)).1 refl) ∙ subst (λ (w : Text). bytes_eq w (word_of own) ≡ false) is apart in
            cc

    long_stepped : (name : Text) (v : Option Text) (h : Held) → (v ≡ None → bytes_eq own name ≡ false) → Clean h → Met (long_met rules (arg_by_long rules name) v h)
    long_stepped name v h apart k = go (bytes_eq own name) refl v apart
      where
        go : (t : Bool) → bytes_eq own name ≡ t → (v : Option Text) → (v ≡ None → bytes_eq own name ≡ false) → Met (long_met rules (arg_by_long rules name) v h)
        go false t v none = long_clean rules (arg_by_long rules name) v h (long_other name t) k
        go true t None none =
            let bad : true ≡ false = sym t ∙ none refl in
            cc
        go true t (Some x) none =
            let is : own ≡ name = (bytes_eq-Decides own name).0 t in
            subst (λ (n : Text). Met (long_met rules (arg_by_long rules n) (Some x) h)) is (subst Met (sym (is_apart.valued x h)) (record { held = k; outcome = tt }))

    -- ---- the walk over the words

    module _ (w : Waiting) (word : Text) (apart : bytes_eq word (word_of own) ≡ false) (after : AfterWaiting w) (h : Held) (k : Clean h) where
      short_stepped : (o : Option Text) → Stepped (short_or_plain rules w word o h)
      short_stepped (Some flags) =
          flag_stepped rules w word (bundle rules flags h) after
          (bundle_clean (length flags) flags h.skip plain (record h { skip = 0 }) (record { there = k.there; pending = k.pending }) tt)
      short_stepped None = plain_clean rules w word h after k

      other_stepped : (o : Option (Text × Option Text)) → long_of word ≡ o → Stepped (long_or_other rules w word o h)
      other_stepped (Some p) e = flag_stepped rules w word (long_met rules (arg_by_long rules p.0) p.1 h) after (long_stepped p.0 p.1 h (not_word word apart p e) k)
      other_stepped None e = short_stepped (short_of word)

      word_stepped : (is_trailing : Bool) (position : ℕ) → Stepped (word_met rules [] is_trailing w position word h)
      word_stepped true position = record { held = k; step = tt }
      word_stepped false position =
          subst (λ (o : Option Text). Stepped (subcommand_or_other rules o w position word h)) (sym (none_met w word)) (go (bytes_eq word (45 ∷ 45 ∷ [])))
        where
          go : (t : Bool) → Stepped (cond t (h, trailing position) (long_or_other rules w word (long_of word) h))
          go true = record { held = k; step = tt }
          go false = other_stepped (long_of word) refl

    record Going (w : Walk) : Type 0 where
      held : Clean w.held
      waiting : AfterWaiting w.waiting
      stopped : w.stopped ≡ None

    positional_going : (o : Option Rule) (word : Text) (w : Walk) (h : Held) → ((a : Rule) → o ≡ Some a → is_own a.id ≡ false) → Going w → Clean h → Going (to_positional rules o word w h)
    positional_going None word w h other g k = record { held = k; waiting = g.waiting; stopped = g.stopped }
    positional_going (Some a) word w h other g k = record { held = positional_clean rules a word h (other a refl) k; waiting = go (is_multiple a); stopped = refl }
      where
        go : (t : Bool) → AfterWaiting (cond t positional idle)
        go true = tt
        go false = tt

    step_going : (word : Text) (w : Walk) (h : Held) (s : Step) → AfterStep s → Going w → Clean h → Going (after_step rules word w h s)
    step_going word w h (next waiting) after g k = record { held = k; waiting = after; stopped = g.stopped }
    step_going word w h (trailing position) after g k = record { held = k; waiting = g.waiting; stopped = g.stopped }
    step_going word w h (subcommand name) after g k = absurd after
    step_going word w h value after g k = positional_going (arg_by_index rules w.position) word w h (index_other w.position) g k

    walked_going : (w : Walk) (word : Text) → bytes_eq word (word_of own) ≡ false → Going w → Going (walked rules [] w word)
    unfolding walked
    walked_going w word apart g =
        let met = word_stepped w.waiting word apart g.waiting w.held g.held w.is_trailing w.position in
        subst (λ (o : Option (Text × List Text)). Going (walked_from rules [] o w word)) (sym g.stopped)
        (step_going word w _ _ met.step g met.held)

    walk_going : (words : List Text) (w : Walk) → list_any (λ x. bytes_eq x (word_of own)) words ≡ false → Going w → Going (fold (walked rules []) w words)
    walk_going [] w apart g = g
    walk_going (x ∷ xs) w apart g =
        let parts = or_false (bytes_eq x (word_of own)) (list_any (λ (y : Text). bytes_eq y (word_of own)) xs) apart in
        walk_going xs (walked rules [] w x) parts.1 (walked_going w x parts.0 g)

    flag_unset : (words : List Text) → list_any (λ w. bytes_eq w (word_of own)) (drop 1 words) ≡ false → one_of own (matches_of geosvm words) ≡ Some (codes "false")
    flag_unset words none =
        let end = walk_going (drop 1 words) (walk_from nothing_held) none (record { held = record { there = refl; pending = tt }; waiting = tt; stopped = refl }) in
        let held = (walk rules [] nothing_held (drop 1 words)).held in
        is_apart.unset (settled rules held).rows (settled_clean rules held end.held).there

    -- where it reads as true its word is there
    asked : (words : List Text) (rows : List Row) → rows ≡ matches_of geosvm words → has_flag own rows ≡ true → Contains (drop 1 words) (word_of own)
    asked words rows is set = go (list_any (λ w. bytes_eq w (word_of own)) (drop 1 words)) refl
      where
        go : (t : Bool) → list_any (λ w. bytes_eq w (word_of own)) (drop 1 words) ≡ t → Contains (drop 1 words) (word_of own)
        go true t = there_is (drop 1 words) (word_of own) t
        go false t =
            let unset : one_of own rows ≡ Some (codes "false") = ap (one_of own) is ∙ flag_unset words t in
            let bad : true ≡ false = sym set ∙ ap is_set unset in
            cc

-- ---- the flags

new_set : (rows : List Row) → has_row (codes "new") rows ≡ false → one_of (codes "new") (with_default rows (with_index 1 (filled (flag (codes "new"))))) ≡ Some (codes "false")
new_set rows h = rw h (default_found (codes "new") rows h)

new_apart : IsApart (codes "new")
new_apart = record {
  short = λ x. (inr refl, (inl refl, (inl refl, (inl refl, (inl refl, (inl refl, (inl refl, (inl refl, (inl refl, (inl refl, tt))))))))));
  index = λ i. (inr refl, (inl refl, (inl refl, (inl refl, (inl refl, (inl refl, (inl refl, (inl refl, (inl refl, (inl refl, tt))))))))));
  long = λ name other. (inr (rw other refl), (inl refl, (inl refl, (inl refl, (inl refl, (inl refl, (inl refl, (inl refl, (inl refl, (inl refl, tt))))))))));
  valued = λ v h. refl;
  unset = λ rows h. others_defaults (codes "new") (drop 1 rules) (with_default rows (with_index 1 (filled (flag (codes "new"))))) (refl, (refl, (refl, (refl, (refl, (refl, (refl, (refl, (refl, tt))))))))) ∙ new_set rows h;
}

pub asked_new : (words : List Text) (rows : List Row) (line : CommandLine) → rows ≡ matches_of geosvm words → line ≡ said rows → line.is_new ≡ true
    → Contains (drop 1 words) (codes "--new")
asked_new words rows line is l new = asked (codes "new") new_apart words rows is (sym (ap (λ (x : CommandLine). x.is_new) l) ∙ new)

checksums_set : (rows : List Row) → has_row (codes "checksums") rows ≡ false → one_of (codes "checksums") (with_default rows (with_index 1 (filled (flag (codes "checksums"))))) ≡ Some (codes "false")
checksums_set rows h = rw h (default_found (codes "checksums") rows h)

checksums_apart : IsApart (codes "checksums")
checksums_apart = record {
  short = λ x. (inl refl, (inr refl, (inl refl, (inl refl, (inl refl, (inl refl, (inl refl, (inl refl, (inl refl, (inl refl, tt))))))))));
  index = λ i. (inl refl, (inr refl, (inl refl, (inl refl, (inl refl, (inl refl, (inl refl, (inl refl, (inl refl, (inl refl, tt))))))))));
  long = λ name other. (inl refl, (inr (rw other refl), (inl refl, (inl refl, (inl refl, (inl refl, (inl refl, (inl refl, (inl refl, (inl refl, tt))))))))));
  valued = λ v h. refl;
  unset = λ rows h.
      let new = with_index 1 (filled (flag (codes "new"))) in
      let first = with_default rows new in
      others_defaults (codes "checksums") (drop 2 rules) (with_default first (with_index 1 (filled (flag (codes "checksums"))))) (refl, (refl, (refl, (refl, (refl, (refl, (refl, (refl, tt))))))))
      ∙ checksums_set first (default_clean (codes "checksums") rows new refl h);
}

pub asked_checksums : (words : List Text) (rows : List Row) (line : CommandLine) → rows ≡ matches_of geosvm words → line ≡ said rows → line.checksums ≡ true
    → Contains (drop 1 words) (codes "--checksums")
asked_checksums words rows line is l sums = asked (codes "checksums") checksums_apart words rows is (sym (ap (λ (x : CommandLine). x.checksums) l) ∙ sums)
