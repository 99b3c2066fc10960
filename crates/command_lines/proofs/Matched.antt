-- What a match of the program's command line gives.
use Rattle.std.proofs.Common.{zero, suc, ◌&&◌, not, ◌≡◌, ◌∙◌, ◌<◌, ◌≤◌, ap, map, ℕ, Bool, true, false, List, [], ◌∷◌, length, is_some, Option, Some, None, refl, sym, subst, inl, inr, arith, codes, pos}
use Rattle.std.specs.List.{All, slice_index_or}
use Rattle.std.specs.Str.{bytes_eq}
use Rattle.std.specs.Prelude.{option_map, slice_get, unwrap_or}
use Rattle.std.specs.Borrow.{Bor}
use Rattle.std.proofs.lemmas.Bool.{eqb-true}
use Rattle.std.proofs.lemmas.List.{get_or-map, length-map}
use Rattle.std.proofs.lemmas.List.Sums.{AllPass-from_list_all}
use Rattle.std.proofs.lemmas.Slice.Eq.{bytes_eq-Decides}
use Rattle.std.proofs.lemmas.List.Elements.{All-get_or}
use Rattle.clap.specs.Facts.{args_of, groups_of, Entry, EntryPasses, ValuesPass, PassesArg, HasReading, least_values, parser_of, parser_of_value, unwrap_or_range}
use Rattle.clap.specs.Built.{IsPlain, IsPlainArg, IsParsedFrom, IsAuto, SameRules}
use Rattle.clap.specs.Matches.{matched_of, first_value, one_text, found_of}
use Rattle.clap.specs.Simple.{App, app_of, has_plain_fields}
use Rattle.clap.specs.Walk.{Rule, is_empty, is_free_arg, is_simple_arg, rule_of}
use Rattle.clap.specs.declared.parser.matches.Found.{Found}
use Rattle.clap.specs.Values.{Accepts, read_as, reading_of}
use Rattle.clap.specs.declared.builder.action.ArgAction.TheVariants.{Set}
use Rattle.clap.specs.declared.builder.value_parser.Reading.{Reading}
use Rattle.clap.proofs.CallerLemmas.{entry_by_id, required_has_value, same_rules_by_id}
use Rattle.clap.proofs.WalkLemmas.{both}
use Rattle.clap.specs.declared.builder.arg.Arg.{Arg}
use Rattle.clap.specs.declared.builder.command.Command.{Command}
use Rattle.clap.specs.declared.builder.command.Command.TheViews.{out-Command}
use Rattle.clap.specs.declared.builder.range.ValueRange.{ValueRange}
use Rattle.clap.specs.declared.builder.value_parser.ValueParser.{ValueParser}
use Rattle.clap.specs.declared.builder.value_parser.ValueParser.TheVariants as parsers
use Rattle.clap.specs.declared.parser.matches.ArgMatches.{ArgMatches}
use Rattle.clap.specs.declared.parser.matches.MatchedArg.{MatchedArg}
use Rattle.command_lines.specs.Options.{IsFlag, IsMatched, as_option, cache_option, file_operand, flag, geosvm, undo_option}

-- ---- the arguments of a command with these rules

nothing : {X : Type 0} (xs : List X) → is_empty xs ≡ true → xs ≡ []
nothing [] e = refl
nothing (x ∷ xs) e =
    let none : length (x ∷ xs) ≡ 0 = eqb-true (length (x ∷ xs)) 0 e in
    absurd (omega arith)

not_so : (b : Bool) → not b ≡ true → b ≡ false
not_so false e = refl
not_so true e = cc

no_value : {X : Type 0} (o : Option X) → not (is_some o) ≡ true → o ≡ None
no_value None e = refl
no_value (Some x) e = cc

plain : (a : Arg) → is_simple_arg a ≡ true → is_free_arg a ≡ true → IsPlainArg a
plain a s f =
    let overrides = both _ _ s in
    let ifs = both _ _ overrides.1 in
    let groups = both _ _ ifs.1 in
    let exclusive = both _ _ f in
    let conflicts = both _ _ exclusive.1 in
    (not_so _ exclusive.0, nothing _ conflicts.0, nothing _ overrides.0, nothing _ groups.0)

rule_plain : (a : Arg) (r : Rule) → rule_of a ≡ r → (r.is_simple && r.is_free) ≡ true → IsPlainArg a
rule_plain a r e tests =
    let parts = both r.is_simple r.is_free tests in
    plain a (ap (λ (x : Rule). x.is_simple) e ∙ parts.0) (ap (λ (x : Rule). x.is_free) e ∙ parts.1)

-- ---- what is read of an argument of the caller's that has a value

head_passes : (P : Bor (List ℕ) → Type 0) (how : Reading) (vs : List (Bor (List ℕ))) → All P vs
    → is_some (option_map (λ s. s.now) (slice_get vs 0)) ≡ true
    → (v : Bor (List ℕ)) × (option_map (λ s. read_as how s.now) (slice_get vs 0) ≡ Some (read_as how v.now)) × P v
head_passes P how [] h some = cc
head_passes P how (v ∷ vs) h some = (v, refl, All-get_or P (v ∷ vs) 0 v (omega arith) h)

one_text_at_entry : (f : Found) (id : List ℕ) (x : MatchedArg) (how : Reading) (t : List ℕ) → matched_of f id ≡ Some x → x.reading ≡ how
    → option_map (λ s. read_as how s.now) (slice_get x.vals.items 0) ≡ Some t → one_text f id ≡ Some t
one_text_at_entry f id x how t found is v = rw (found, is) v

-- an argument with the id of the caller's argument is read as the caller's parser says
only_reading : (old : Command) (m : ArgMatches) (p : IsParsedFrom old m) (k : ℕ) (d : Arg) → k < length (args_of old)
    → ((j : ℕ) (e : Arg) → j < length (args_of old)
    → bytes_eq (slice_index_or (args_of old) j e).id.now (slice_index_or (args_of old) k d).id.now ≡ true → j ≡ k)
    → (IsAuto (slice_index_or (args_of old) k d) → ⊥)
    → (q : ValueParser) → (slice_index_or (args_of old) k d).value_parser ≡ Some q
    → (r : Reading) → HasReading p.built (slice_index_or (args_of old) k d).id.now r → r ≡ reading_of q
only_reading old m p k d lt unique own q parser r any =
    let s = same_rules_by_id old m p k d lt unique own any.0 any.1 any.2 any.3 any.4.0 in
    let is_q : parser_of any.1 ≡ q = ap parser_of_value (s.parser q parser) in
    sym any.4.1 ∙ ap reading_of is_q

accepts_of : (a y : Arg) (q : ValueParser) (t : List ℕ) → SameRules a y → a.value_parser ≡ Some q
    → Accepts y.ignore_case (parser_of y) t → Accepts a.ignore_case q t
accepts_of a y q t s parser read =
    let is_q : parser_of y ≡ q = ap parser_of_value (s.parser q parser) in
    let as_q : Accepts y.ignore_case q t = subst (λ (w : ValueParser). Accepts y.ignore_case w t) is_q read in
    subst (λ (b : Bool). Accepts b q t) s.ignore_case as_q

passes_read : (old : Command) (m : ArgMatches) (p : IsParsedFrom old m) (k : ℕ) (d : Arg) → k < length (args_of old)
    → ((j : ℕ) (e : Arg) → j < length (args_of old)
    → bytes_eq (slice_index_or (args_of old) j e).id.now (slice_index_or (args_of old) k d).id.now ≡ true → j ≡ k)
    → (IsAuto (slice_index_or (args_of old) k d) → ⊥)
    → (q : ValueParser) → (slice_index_or (args_of old) k d).value_parser ≡ Some q
    → (w : List ℕ) (v : Bor (List ℕ)) → w ≡ (slice_index_or (args_of old) k d).id.now → PassesArg p.built w v.now
    → Accepts (slice_index_or (args_of old) k d).ignore_case q v.now
passes_read old m p k d lt unique own q parser w v key pass =
    let same : bytes_eq pass.1.id.now (slice_index_or (args_of old) k d).id.now ≡ true =
    subst (λ (u : List ℕ). bytes_eq pass.1.id.now u ≡ true) key pass.4.0 in
    accepts_of _ pass.1 q v.now (same_rules_by_id old m p k d lt unique own pass.0 pass.1 pass.2 pass.3 same) parser pass.4.1

-- what one entry gives
read_of : (c : Command) (f : Found) (id : List ℕ) (Q : List ℕ → Type 0) (how : Reading) (x : MatchedArg) (e : Entry)
    → groups_of c ≡ [] → (id ≡ [] → ⊥) → ((r : Reading) → HasReading c id r → r ≡ how)
    → ((v : Bor (List ℕ)) → PassesArg c id v.now → Q v.now)
    → matched_of f id ≡ Some x → is_some (option_map (λ s. s.now) (slice_get x.vals.items 0)) ≡ true
    → e.1 ≡ x → e.0.now ≡ id → EntryPasses c e
    → (t : List ℕ) × (one_text f id ≡ Some (read_as how t)) × Q t
read_of c f id Q how x e no_groups named reads read found first same_x key_id pass =
    let no_group : e.1.is_group ≡ true → ⊥ = λ g. elim (pass.3 g) [
      | inl empty ↦ named (sym key_id ∙ empty)
      | inr lots ↦
          let bad : 0 < 0 = rw no_groups at lots in
          absurd (omega arith)
    ] in
    let all : All (λ v. PassesArg c id v.now) x.vals.items = elim pass.0 [
      | inl g ↦ absurd (no_group g)
      | inr vals ↦ subst (λ (w : List ℕ). All (λ v. PassesArg c w v.now) x.vals.items) key_id (rw same_x at vals)
    ] in
    let is : e.1.reading ≡ how = elim pass.4 [
      | inl g ↦ absurd (no_group g)
      | inr h ↦ reads e.1.reading (subst (λ (w : List ℕ). HasReading c w e.1.reading) key_id h)
    ] in
    finish (head_passes (λ v. PassesArg c id v.now) how x.vals.items all first) (ap (λ (y : MatchedArg). y.reading) (sym same_x) ∙ is)
  where
    finish : ((v : Bor (List ℕ)) × (option_map (λ s. read_as how s.now) (slice_get x.vals.items 0) ≡ Some (read_as how v.now)) × PassesArg c id v.now)
        → x.reading ≡ how → (t : List ℕ) × (one_text f id ≡ Some (read_as how t)) × Q t
    finish hd is = (hd.0.now, one_text_at_entry f id x how (read_as how hd.0.now) found is hd.1, read hd.0 hd.2)

-- what the entry of an id gives, where it is an argument's with a first value
entry_read : (c : Command) (f : Found) (id : List ℕ) (Q : List ℕ → Type 0) (how : Reading) → ValuesPass c f → groups_of c ≡ [] → (id ≡ [] → ⊥)
    → is_some (first_value f id) ≡ true → ((r : Reading) → HasReading c id r → r ≡ how)
    → ((v : Bor (List ℕ)) → PassesArg c id v.now → Q v.now)
    → (t : List ℕ) × (one_text f id ≡ Some (read_as how t)) × Q t
entry_read c f id Q how values no_groups named has reads read = go (matched_of f id) refl has
  where
    step : (x : MatchedArg) → matched_of f id ≡ Some x → is_some (option_map (λ s. s.now) (slice_get x.vals.items 0)) ≡ true
        → ((e : Entry) × (e.1 ≡ x) × (bytes_eq e.0.now id ≡ true) × EntryPasses c e)
        → (t : List ℕ) × (one_text f id ≡ Some (read_as how t)) × Q t
    step x found first got =
        read_of c f id Q how x got.0 no_groups named reads read found first got.1 ((bytes_eq-Decides got.0.0.now id).0 got.2) got.3

    go : (o : Option MatchedArg) → matched_of f id ≡ o → is_some (first_value f id) ≡ true → (t : List ℕ) × (one_text f id ≡ Some (read_as how t)) × Q t
    go None e h =
        let bad : false ≡ true = rw e at h in
        cc
    go (Some x) e h = step x e (rw e at h) (entry_by_id (EntryPasses c) f.entries.items id x values e)

has_first : (f : Found) (id t : List ℕ) → one_text f id ≡ Some t → is_some (first_value f id) ≡ true
has_first f id t e = go (matched_of f id) refl
  where
    vals : (x : MatchedArg) (vs : List (Bor (List ℕ))) → option_map (λ s. read_as x.reading s.now) (slice_get vs 0) ≡ Some t
        → is_some (option_map (λ s. s.now) (slice_get vs 0)) ≡ true
    vals x [] h = cc
    vals x (v ∷ vs) h = refl

    go : (o : Option MatchedArg) → matched_of f id ≡ o → is_some (first_value f id) ≡ true
    go None is =
        let bad : None ≡ Some t = rw is at e in
        cc
    go (Some x) is = rw is (vals x x.vals.items (rw is at e))

same_some : (a b : List ℕ) → Some a ≡ Some b → a ≡ b
same_some a b e = ap (λ (o : Option (List ℕ)). unwrap_or o a) e

-- its text is read as its parser says, and passed that parser
reads : (old : Command) (m : ArgMatches) (p : IsParsedFrom old m) → IsPlain old → (out-Command old).has_globals ≡ false
    → (k : ℕ) (d : Arg) → k < length (args_of old)
    → ((j : ℕ) (e : Arg) → j < length (args_of old)
    → bytes_eq (slice_index_or (args_of old) j e).id.now (slice_index_or (args_of old) k d).id.now ≡ true → j ≡ k)
    → ((slice_index_or (args_of old) k d).id.now ≡ [] → ⊥)
    → (IsAuto (slice_index_or (args_of old) k d) → ⊥)
    → (q : ValueParser) → (slice_index_or (args_of old) k d).value_parser ≡ Some q
    → (t : List ℕ) → one_text (found_of m) (slice_index_or (args_of old) k d).id.now ≡ Some t
    → (raw : List ℕ) × (t ≡ read_as (reading_of q) raw) × Accepts (slice_index_or (args_of old) k d).ignore_case q raw
reads old m p plain globals k d lt unique named own q parser t is =
    let parsed = p.parsed (p.from.globals ∙ globals) in
    let got = entry_read p.built (found_of m) (slice_index_or (args_of old) k d).id.now
    (λ (t : List ℕ). Accepts (slice_index_or (args_of old) k d).ignore_case q t) (reading_of q)
    parsed.values (p.from.plain plain).1 named (has_first (found_of m) (slice_index_or (args_of old) k d).id.now t is)
    (only_reading old m p k d lt unique own q parser)
    (λ v pass. passes_read old m p k d lt unique own q parser _ v refl pass) in
    (got.0, same_some _ _ (sym is ∙ got.1), got.2)

-- ---- the command line's own

abbrev rules : List Rule
rules = flag (codes "new") ∷ flag (codes "checksums") ∷ flag (codes "bail") ∷ flag (codes "echo") ∷ cache_option ∷ undo_option ∷ as_option ∷ file_operand ∷ []

-- the k-th of them
abbrev rule_at : ℕ → Rule
rule_at k = slice_index_or rules k file_operand

abbrev lacks : List Rule → List ℕ → Bool
lacks [] id = true
lacks (r ∷ rs) id = not (bytes_eq r.id id) && lacks rs id

-- only the k-th of these has this id
abbrev is_only : List Rule → ℕ → List ℕ → Bool
is_only [] k id = true
is_only (r ∷ rs) zero id = lacks rs id
is_only (r ∷ rs) (suc k) id = not (bytes_eq r.id id) && is_only rs k id

-- and it is no empty one, nor that of a flag that building adds
abbrev is_own : ℕ → List ℕ → Bool
is_own k id = is_only rules k id && (not (bytes_eq id []) && (not (bytes_eq id (codes "help")) && not (bytes_eq id (codes "version"))))

differs : (a b : List ℕ) → not (bytes_eq a b) ≡ true → bytes_eq a b ≡ true → ⊥
differs a b other same =
    let bad : not true ≡ true = rw same at other in
    cc

lacks_it : (rs : List Rule) (id : List ℕ) → lacks rs id ≡ true → (j : ℕ) (d : Rule) → j < length rs → bytes_eq (slice_index_or rs j d).id id ≡ true → ⊥
lacks_it [] id none j d lt same = absurd (omega arith)
lacks_it (r ∷ rs) id none zero d lt same = differs r.id id (both _ _ none).0 same
lacks_it (r ∷ rs) id none (suc j) d lt same = lacks_it rs id (both (not (bytes_eq r.id id)) _ none).1 j d (omega arith) same

only : (rs : List Rule) (k : ℕ) (id : List ℕ) → is_only rs k id ≡ true → (j : ℕ) (d : Rule) → j < length rs → bytes_eq (slice_index_or rs j d).id id ≡ true → j ≡ k
only [] k id one j d lt same = absurd (omega arith)
only (r ∷ rs) zero id one zero d lt same = refl
only (r ∷ rs) zero id one (suc j) d lt same = absurd (lacks_it rs id one j d (omega arith) same)
only (r ∷ rs) (suc k) id one zero d lt same = absurd (differs r.id id (both _ _ one).0 same)
only (r ∷ rs) (suc k) id one (suc j) d lt same = ap suc (only rs k id (both (not (bytes_eq r.id id)) _ one).1 j d (omega arith) same)

other_id : (a id b : List ℕ) → a ≡ id → not (bytes_eq id b) ≡ true → a ≡ b → ⊥
other_id a id b key apart same = differs id b apart ((bytes_eq-Decides id b).1 (sym key ∙ same))

first_of_some : (xs : List Arg) → 0 < length xs → Arg
first_of_some [] some = absurd (omega arith)
first_of_some (a ∷ xs) some = a

module _ (c : Command) (m : ArgMatches) (same : app_of c ≡ geosvm) (p : IsParsedFrom c m) where
  are : map rule_of (args_of c) ≡ rules
  are = ap (λ (a : App). a.top.rules) same

  count : length (args_of c) ≡ 8
  count = sym (length-map (args_of c) rule_of) ∙ ap length are

  is_at : (k : ℕ) (d : Arg) → k < length (args_of c) → rule_of (slice_index_or (args_of c) k d) ≡ rule_at k
  is_at k d lt = sym (get_or-map rule_of (args_of c) k d file_operand lt) ∙ ap (λ (l : List Rule). slice_index_or l k file_operand) are

  fields : has_plain_fields (out-Command c) ≡ true
  fields = ap (λ (a : App). a.top.is_plain) same

  no_globals : (out-Command c).has_globals ≡ false
  no_globals = not_so _ (both _ _ (both _ _ (both _ _ fields).1).1).0

  is_plain : IsPlain c
  is_plain = (
    λ k e lt. rule_plain (slice_index_or (args_of c) k e) (rule_at k) (is_at k e lt) (AllPass-from_list_all (λ (r : Rule). r.is_simple && r.is_free) rules refl k file_operand (omega (arith, count))),
    nothing _ (both _ _ fields).0,
  )

  -- the k-th argument has this id, which no other has
  module _ (k : ℕ) (id : List ℕ) (low : k < 8) (own : is_own k id ≡ true) (named : (rule_at k).id ≡ id) where
    lt : k < length (args_of c)
    lt = omega (arith, count, low)

    arg : Arg
    arg = first_of_some (args_of c) (omega (arith, count))

    abbrev it : Arg
    it = slice_index_or (args_of c) k arg

    rule : rule_of it ≡ rule_at k
    rule = is_at k arg lt

    key : it.id.now ≡ id
    key = ap (λ (r : Rule). r.id) rule ∙ named

    tests : (is_only rules k id ≡ true) × (not (bytes_eq id []) && (not (bytes_eq id (codes "help")) && not (bytes_eq id (codes "version"))) ≡ true)
    tests = both _ _ own

    unique : (j : ℕ) (e : Arg) → j < length (args_of c) → bytes_eq (slice_index_or (args_of c) j e).id.now it.id.now ≡ true → j ≡ k
    unique j e lt s =
        let at_id : bytes_eq (slice_index_or (args_of c) j e).id.now id ≡ true = subst (λ (w : List ℕ). bytes_eq (slice_index_or (args_of c) j e).id.now w ≡ true) key s in
        only rules k id tests.0 j file_operand (omega (arith, count)) (subst (λ (r : Rule). bytes_eq r.id id ≡ true) (is_at j e lt) at_id)

    not_empty : it.id.now ≡ [] → ⊥
    not_empty = other_id it.id.now id [] key (both _ _ tests.1).0

    not_auto : IsAuto it → ⊥
    not_auto (inl help) = other_id it.id.now id (codes "help") key (both _ _ (both (not (bytes_eq id [])) _ tests.1).1).0 help
    not_auto (inr version) = other_id it.id.now id (codes "version") key (both (not (bytes_eq id (codes "help"))) _ (both (not (bytes_eq id [])) _ tests.1).1).1 version

    -- its text is read as its parser says
    read_of_own : (q : ValueParser) → (rule_at k).parser ≡ Some q → (t : List ℕ) → one_text (found_of m) id ≡ Some t
        → (raw : List ℕ) × (t ≡ read_as (reading_of q) raw) × Accepts it.ignore_case q raw
    read_of_own q parser t is =
        reads c m p is_plain no_globals k arg lt unique not_empty not_auto q (ap (λ (r : Rule). r.parser) rule ∙ parser) t
        (subst (λ (w : List ℕ). one_text (found_of m) w ≡ Some t) (sym key) is)

    -- an operand that is required has a value, where no delimiter splits it
    has_value : (rule_at k).required ≡ true → (rule_at k).action ≡ Some Set → (rule_at k).is_simple ≡ true → (rule_at k).range ≡ None → is_some (first_value (found_of m) id) ≡ true
    has_value required action simple range =
        let negates : (out-Command c).subcommand_negates_reqs ≡ false = ap (λ (a : App). a.top.subcommand_negates_reqs) same in
        let overrides = both (is_empty it.overrides.items) _ (ap (λ (r : Rule). r.is_simple) rule ∙ simple) in
        let ifs = both (is_empty it.default_vals_ifs.items) _ overrides.1 in
        let groups = both (is_empty it.groups.items) _ ifs.1 in
        let delimiter : it.val_delim ≡ None = no_value it.val_delim (both (not (is_some it.val_delim)) _ groups.1).0 in
        let any : it.num_vals ≡ None = ap (λ (r : Rule). r.range) rule ∙ range in
        let least : 1 ≤ least_values it = subst (λ (o : Option ValueRange). 1 ≤ (unwrap_or_range o).start_inclusive) (sym any) (omega arith) in
        let has = required_has_value c m p is_plain no_globals negates k arg lt (ap (λ (r : Rule). r.required) rule ∙ required) (ap (λ (r : Rule). r.action) rule ∙ action) delimiter least unique not_empty not_auto in
        subst (λ (w : List ℕ). is_some (first_value (found_of m) w) ≡ true) key has

  flag_read : (k : ℕ) (id : List ℕ) → k < 8 → is_own k id ≡ true → (rule_at k).id ≡ id → (rule_at k).parser ≡ Some parsers.Bool → IsFlag (found_of m) id
  flag_read k id low own named parser t is =
      let got = read_of_own k id low own named parsers.Bool parser t is in
      rw got.1 got.2

  pub matched : IsMatched (found_of m)
  matched = record {
    new = flag_read 0 (codes "new") (omega arith) refl refl refl;
    checksums = flag_read 1 (codes "checksums") (omega arith) refl refl refl;
    bail = flag_read 2 (codes "bail") (omega arith) refl refl refl;
    echo = flag_read 3 (codes "echo") (omega arith) refl refl refl;
    number = read_of_own 4 (codes "cache") (omega arith) refl refl (parsers.Signed (pos 1) (pos 64)) refl;
    limit = read_of_own 5 (codes "undo") (omega arith) refl refl (parsers.Signed (pos 1) (pos 4294967295)) refl;
    file = has_value 7 (codes "file") (omega arith) refl refl refl refl refl refl;
  }
