-- What a match says of the command that it entered, and of its flags.
use Rattle.std.proofs.Common.{◌≡◌, ◌∙◌, ◌&&◌, ◌++◌, ap, Bool, true, false, not, List, [], ◌∷◌, length, Option, Some, None, refl, sym, subst, codes, arith}
use Rattle.std.specs.Option.{option_map, option_map_or, unwrap_or}
use Rattle.std.specs.Prelude.{Box}
use Rattle.std.specs.Borrow.{Bor}
use Rattle.std.specs.Box.{box_value}
use Rattle.std.specs.Str.{bytes_eq}
use Rattle.std.specs.Str.Parse.{ParsesBool}
use Rattle.std.proofs.lemmas.Bool.{eqb-true}
use Rattle.std.proofs.lemmas.Slice.Eq.{bytes_eq-Decides}
use Rattle.clap.specs.Adds.{AddsConflicts}
use Rattle.clap.specs.Matches.{ReadsOne, first_value, one_text, subcommand_name_of}
use Rattle.clap.specs.Simple.{App, app_of, has_plain_fields, subcommand_rows, subcommand_rows_of}
use Rattle.clap.specs.Walk.{Row, Rule, first_of, is_empty, is_free_arg, rows_of, rule_of}
use Rattle.clap.specs.Words.{Text}
use Rattle.clap.specs.declared.builder.arg.Arg.{Arg}
use Rattle.clap.specs.declared.builder.command.Command.{Command}
use Rattle.clap.specs.declared.builder.command.Command.TheViews.{out-Command}
use Rattle.clap.specs.declared.parser.matches.ArgMatches.{ArgMatches}
use Rattle.clap.specs.declared.parser.matches.ArgMatches.TheViews.{out-ArgMatches, out-SubCommand}
use Rattle.clap.specs.declared.parser.matches.Found.{Found}
use Rattle.clap.specs.declared.parser.matches.SubCommand.{SubCommand}
use Rattle.clap.proofs.WalkLemmas.{both, first_value-rows, one_text-rows}
use Rattle.document_commands.specs.Arguments.{flag_rule, has_flag_word}
use Rattle.document_commands.specs.Requests.{IsAsked, IsAskedBy, exclusive_flag}
use Rattle.document_commands.specs.declared.requested.Request.{Request}

-- the command by its name and its rows
entered : {Z : Type 0} (name : Text) (rows : List Row) (s : Option (Box SubCommand Z)) → option_map (λ b. (out-SubCommand (box_value b)).name.now) s ≡ Some name
    → option_map (λ p. p.1) (subcommand_rows s) ≡ Some rows → subcommand_rows s ≡ Some (name, rows)
entered name rows None named has = cc named
entered name rows (Some b) named has = cc (named, has)

pub entered_is : (m : ArgMatches) (name : Text) (rows : List Row) → subcommand_name_of m ≡ Some name → option_map (λ p. p.1) (subcommand_rows_of m) ≡ Some rows
    → subcommand_rows_of m ≡ Some (name, rows)
entered_is m name rows named has = entered name rows (out-ArgMatches m).subcommand named has

-- what is asked of it
pub asked_by : (m : ArgMatches) (name : Text) (rows : List Row) (request : Request) → Some name ≡ subcommand_name_of m → Some rows ≡ option_map (λ p. p.1) (subcommand_rows_of m)
    → IsAsked name rows request → IsAskedBy (subcommand_rows_of m) request
asked_by m name rows request named has is = subst (λ o. IsAskedBy o request) (sym (entered_is m name rows (sym named) (sym has))) is

-- the file that it names
pub file_named : (f : Found) (file : Text) → Some file ≡ first_value f (codes "file") → first_of (codes "file") (rows_of f) ≡ Some file
file_named f file is = sym (is ∙ first_value-rows f (codes "file"))

-- the second file that it names
pub second_named : (f : Found) (file : Text) → Some file ≡ first_value f (codes "file2") → first_of (codes "file2") (rows_of f) ≡ Some file
second_named f file is = sym (is ∙ first_value-rows f (codes "file2"))

-- a command of which nothing is global
pub no_globals : (c : Command) (a : App) → app_of c ≡ a → a.top.is_plain ≡ true → (out-Command c).has_globals ≡ false
no_globals c a is plain =
    let fields : has_plain_fields (out-Command c) ≡ true = ap (λ (x : App). x.top.is_plain) is ∙ plain in
    not_so _ (both _ _ (both _ _ (both _ _ fields).1).1).0
  where
    not_so : (b : Bool) → not b ≡ true → b ≡ false
    not_so false e = refl
    not_so true e = cc e

-- a flag that stands in no command line with another one
pub exclusive : (old new : Arg) (x : Bor Text) (name : Text) → rule_of old ≡ flag_rule name → AddsConflicts old new (x ∷ []) → rule_of new ≡ exclusive_flag name
exclusive old new x name is adds =
    let some : is_empty new.conflicts.items ≡ false = rw adds.1 (not_empty old.conflicts.items) in
    let bound : is_free_arg (record old { conflicts = new.conflicts }) ≡ false = tied (not old.exclusive) _ _ some in
    ap rule_of adds.0 ∙ ap (λ (r : Rule). record r { is_free = is_free_arg (record old { conflicts = new.conflicts }) }) is ∙ ap (λ (b : Bool). record (flag_rule name) { is_free = b }) bound
  where
    full : (y : Bor Text) (ys : List (Bor Text)) → is_empty (y ∷ ys) ≡ false
    full y ys = by (is_empty (y ∷ ys)) refl
      where
        by : (b : Bool) → is_empty (y ∷ ys) ≡ b → b ≡ false
        by false e = refl
        by true e =
            let none : length (y ∷ ys) ≡ 0 = eqb-true (length (y ∷ ys)) 0 e in
            absurd (omega arith)

    not_empty : (xs : List (Bor Text)) → is_empty (xs ++ x ∷ []) ≡ false
    not_empty [] = full x []
    not_empty (y ∷ ys) = full y (ys ++ x ∷ [])

    tied : (a b c : Bool) → b ≡ false → (a && (b && c)) ≡ false
    tied false b c e = refl
    tied true false c e = refl
    tied true true c e = cc e

-- a flag, as it is read
pub set_told : (E : Type 0) (f : Found) (name : Text) (o : Option Bool) → (one_text f name ≡ None → o ≡ None) → ((t : Text) → one_text f name ≡ Some t → ReadsOne {T = Bool} {E = E} ParsesBool t o)
    → unwrap_or o false ≡ has_flag_word name (rows_of f)
set_told E f name o none some = by (one_text f name) refl ∙ ap (λ (t : Option Text). option_map_or (λ t. bytes_eq t (codes "true")) t false) (one_text-rows f name)
  where
    read : (t : Text) (o : Option Bool) → ReadsOne {T = Bool} {E = E} ParsesBool t o → unwrap_or o false ≡ bytes_eq t (codes "true")
    read t (Some true) is = sym ((bytes_eq-Decides t (codes "true")).1 is)
    read t (Some false) is = rw is refl
    read t None is = other (bytes_eq t (codes "true")) refl
      where
        other : (same : Bool) → bytes_eq t (codes "true") ≡ same → false ≡ bytes_eq t (codes "true")
        other true e = absurd (is.1.0 ((bytes_eq-Decides t (codes "true")).0 e))
        other false e = sym e

    by : (t : Option Text) → one_text f name ≡ t → unwrap_or o false ≡ option_map_or (λ t. bytes_eq t (codes "true")) (one_text f name) false
    by None e = rw (e, none e) refl
    by (Some t) e = rw e (read t o (some t e))
