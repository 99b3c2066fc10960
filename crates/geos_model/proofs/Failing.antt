-- No rule of the document answers lack of memory or a file fault.
use Rattle.std.proofs.Common.{◌≡◌, ◌≢◌, ◌⊎◌, List, [], ◌∷◌, Bool, true, false, not, ◌==◌, length, Option, Some, None, is_some, find, refl, sym, ap, subst, ◌∙◌, inl, inr, arith, ℕ, ◌&&◌}
use Rattle.std.proofs.lemmas.Bool.{cases_Bool}
use Rattle.std.proofs.lemmas.Bool.Decides.{nat_tests}
use Rattle.std.specs.List.{list_all}
use Rattle.std.specs.Option.{option_map, option_map_or}
use Rattle.geos_model.specs.Refusal.{one_order, applies, first_refusal}
use Rattle.geos_model.specs.Reply.{Reply, Accepted, Refused}
use Rattle.geos_model.specs.Machine.{Machine, Request, UndoStep, OpenGroup, Step, Answers, GivesUp, command_conditions, done_by, undone, redone, abandoned, takes_memory, calls_store, may_give_up, has_locks, in_group, after_join, has_no_two}
use Rattle.geos_model.specs.Undoing.{is_refused}
use Rattle.geos_model.specs.Failing.{FailingLaw, IsTakenOrGivenUp}
use Rattle.geos_model.specs.declared.fault.Fault.{Fault}
use Rattle.geos_model.specs.declared.fault.Fault.TheVariants.{Memory, File, Locked, NothingToUndo, NothingToRedo, GroupOpen, NoGroup}
use Rattle.geos_model.specs.declared.command.Command.{Command}
use Rattle.geos_model.specs.declared.command.Command.TheVariants as commands
use Rattle.geos_model.proofs.Undoing.{OnDone, IsAnswer, on_done, done_by-answers, same_reply, refused, both_true}

-- neither lack of memory nor a file fault
abbrev is_rule : Fault → Bool
is_rule Memory = false
is_rule File = false
is_rule fault = true

abbrev answers_rule : Reply → Bool
answers_rule (Refused fault) = is_rule fault
answers_rule reply = true

-- what is found in a list has what all of it has
found-all : (p q : Fault → Bool) (faults : List Fault) (fault : Fault) → list_all q faults ≡ true → find p faults ≡ Some fault → q fault ≡ true
found-all p q [] fault all is = absurd (cc is)
found-all p q (f ∷ faults) fault all is = elim (cases_Bool (p f)) [
  | inl e ↦ let some : Some f ≡ Some fault = rw e at is in let same : f ≡ fault = cc some in subst (λ x. q x ≡ true) same (both_true (q f) (list_all q faults) all).0
  | inr e ↦ found-all p q faults fault (both_true (q f) (list_all q faults) all).1 (rw e at is)
]

-- what is no refusal is neither
answer-rule : (reply : Reply) → is_refused reply ≡ false → answers_rule reply ≡ true
answer-rule (Refused fault) h = absurd (cc h)
answer-rule _ h = refl

-- a refusal of the one order, or what is answered where there is none
own-rule : (refusal : Option Fault) (m new : Machine) (after : Option (Reply × Machine)) (reply : Reply) → ((f : Fault) → refusal ≡ Some f → is_rule f ≡ true) → OnDone IsAnswer after
    → option_map_or (λ fault. Some (Refused fault, m)) refusal after ≡ Some (reply, new) → answers_rule reply ≡ true
own-rule (Some fault) m new after reply rule answers is = sym (ap answers_rule (same_reply is)) ∙ rule fault refl
own-rule None m new after reply rule answers is = answer-rule reply (on_done IsAnswer after reply new answers is)

-- the machine's own answer is neither
answers-rule : (old new : Machine) (request : Request) (reply : Reply) → Answers old request reply new → answers_rule reply ≡ true
answers-rule old new None reply is = sym (ap answers_rule (same_reply is))
answers-rule old new (Some c) reply is =
    own-rule (first_refusal (command_conditions c old)) old new (done_by c old) reply
    (λ f first. found-all (applies (command_conditions c old)) is_rule one_order f refl first) (done_by-answers c old) is

-- what may give up by a fault is a command that may
by_command : (failed : Bool) (old : Machine) (request : Request) (fault : Fault) → option_map_or (λ c. may_give_up failed c old fault) request false ≡ true
    → (c : Command) × (request ≡ Some c) × (may_give_up failed c old fault ≡ true)
by_command failed old None fault may = absurd (cc may)
by_command failed old (Some c) fault may = (c, refl, may)

-- a fault that no rule answers came in place of the answer
gave_up : (failed : Bool) (old new : Machine) (request : Request) (fault : Fault) → is_rule fault ≡ false → Step failed old request (Refused fault) new
    → (c : Command) × (request ≡ Some c) × (may_give_up failed c old fault ≡ true)
gave_up failed old new request fault none (inl is) = let no : true ≡ false = sym (answers-rule old new request (Refused fault) is) ∙ none in absurd (cc no)
gave_up failed old new request fault none (inr out) =
    let says : Refused fault ≡ Refused out.fault = out.says in
    let same : out.fault ≡ fault = cc says in
    by_command failed old request fault (subst (λ f. option_map_or (λ c. may_give_up failed c old f) request false ≡ true) same out.may)

memory-taken : (failed : Bool) (old new : Machine) (request : Request) → Step failed old request (Refused Memory) new
    → (c : Command) × (request ≡ Some c) × (takes_memory c old ≡ true)
memory-taken failed old new request step = gave_up failed old new request Memory refl step

store-failed : (failed : Bool) (old new : Machine) (request : Request) → Step failed old request (Refused File) new
    → (failed ≡ true) × (c : Command) × (request ≡ Some c) × (calls_store c old ≡ true)
store-failed failed old new request step =
    let gave = gave_up failed old new request File refl step in
    let both = both_true failed (calls_store gave.0 old) gave.2 in
    (both.0, gave.0, gave.1, both.1)

-- no list with a first one is empty
some-there : {A : Type 0} (x : A) (xs : List A) → (length (x ∷ xs) == 0) ≡ false
some-there x xs = grind (arith, nat_tests)

undone-accepted : (m new : Machine) (inside locked : Bool) (past : List UndoStep) (reply : Reply) → inside ≡ false → locked ≡ false → past ≢ []
    → option_map_or {U = Option (Reply × Machine)} (λ fault. Some (Refused fault, m))
    (first_refusal ((NothingToUndo, length past == 0) ∷ (GroupOpen, inside) ∷ (Locked, locked) ∷ []))
    (option_map (λ next. (Accepted, next)) (undone m past)) ≡ Some (reply, new)
    → reply ≡ Accepted
undone-accepted m new inside locked [] reply rest free some is = absurd (some refl)
undone-accepted m new true locked (s ∷ past) reply rest free some is = absurd (cc rest)
undone-accepted m new false true (s ∷ past) reply rest free some is = absurd (cc free)
undone-accepted m new false false (s ∷ past) reply rest free some is = sym (same_reply (rw (some-there s past) at is))

redone-accepted : (m new : Machine) (inside locked : Bool) (future : List UndoStep) (reply : Reply) → inside ≡ false → locked ≡ false → future ≢ []
    → option_map_or {U = Option (Reply × Machine)} (λ fault. Some (Refused fault, m))
    (first_refusal ((NothingToRedo, length future == 0) ∷ (GroupOpen, inside) ∷ (Locked, locked) ∷ []))
    (option_map (λ next. (Accepted, next)) (redone m future)) ≡ Some (reply, new)
    → reply ≡ Accepted
redone-accepted m new inside locked [] reply rest free some is = absurd (some refl)
redone-accepted m new true locked (s ∷ future) reply rest free some is = absurd (cc rest)
redone-accepted m new false true (s ∷ future) reply rest free some is = absurd (cc free)
redone-accepted m new false false (s ∷ future) reply rest free some is = sym (same_reply (rw (some-there s future) at is))

abandoned-accepted : (m new : Machine) (locked : Bool) (group : Option OpenGroup) (reply : Reply) → locked ≡ false → group ≢ None
    → option_map_or {U = Option (Reply × Machine)} (λ fault. Some (Refused fault, m))
    (first_refusal ((NoGroup, not (is_some group)) ∷ (Locked, locked) ∷ []))
    (option_map (λ g. (Accepted, abandoned g m)) group) ≡ Some (reply, new)
    → reply ≡ Accepted
abandoned-accepted m new locked None reply free some is = absurd (some refl)
abandoned-accepted m new true (Some g) reply free some is = absurd (cc free)
abandoned-accepted m new false (Some g) reply free some is = sym (same_reply is)

-- a fault that no rule decides is one of two, and File only where the store failed
gives_up : (failed : Bool) (old : Machine) (c : Command) (fault : Fault) → may_give_up failed c old fault ≡ true → (fault ≡ Memory) ⊎ ((fault ≡ File) × (failed ≡ true))
gives_up failed old c Memory may = inl refl
gives_up failed old c File may = inr (refl, (both_true failed (calls_store c old) may).0)
gives_up failed old c _ may = absurd (cc may)

given_up : (failed : Bool) (old new : Machine) (c : Command) (reply : Reply) → GivesUp failed old (Some c) reply new → IsTakenOrGivenUp failed old reply new
given_up failed old new c reply out = inr (
  out.stays,
  elim (gives_up failed old c out.fault out.may) [
    | inl memory ↦ inl (out.says ∙ ap Refused memory)
    | inr file ↦ inr (out.says ∙ ap Refused file.0, file.1)
  ],
)

-- no group is open
none_open : (m : Machine) → m.group ≡ None → in_group m ≡ false
none_open m none = ap (λ (group : Option OpenGroup). is_some group) none

undo-taken : (failed : Bool) (old new : Machine) (reply : Reply) → old.group ≡ None → has_locks old ≡ false → old.past ≢ []
    → Step failed old (Some commands.Undo) reply new → IsTakenOrGivenUp failed old reply new
undo-taken failed old new reply none free some (inl is) = inl (undone-accepted old new (in_group old) (has_locks old) old.past reply (none_open old none) free some is)
undo-taken failed old new reply none free some (inr out) = given_up failed old new commands.Undo reply out

redo-taken : (failed : Bool) (old new : Machine) (reply : Reply) → old.group ≡ None → has_locks old ≡ false → old.future ≢ []
    → Step failed old (Some commands.Redo) reply new → IsTakenOrGivenUp failed old reply new
redo-taken failed old new reply none free some (inl is) = inl (redone-accepted old new (in_group old) (has_locks old) old.future reply (none_open old none) free some is)
redo-taken failed old new reply none free some (inr out) = given_up failed old new commands.Redo reply out

abandon-taken : (failed : Bool) (old new : Machine) (reply : Reply) → old.group ≢ None → has_locks old ≡ false
    → Step failed old (Some commands.Abandon) reply new → IsTakenOrGivenUp failed old reply new
abandon-taken failed old new reply some free (inl is) = inl (abandoned-accepted old new (has_locks old) old.group reply free some is)
abandon-taken failed old new reply some free (inr out) = given_up failed old new commands.Abandon reply out

joined-accepted : (m new : Machine) (inside few : Bool) (reply : Reply) → inside ≡ false → few ≡ false
    → option_map_or {U = Option (Reply × Machine)} (λ fault. Some (Refused fault, m))
    (first_refusal ((NothingToUndo, few) ∷ (GroupOpen, inside) ∷ []))
    (Some (Accepted, after_join m)) ≡ Some (reply, new)
    → reply ≡ Accepted
joined-accepted m new true few reply rest two is = absurd (cc rest)
joined-accepted m new false true reply rest two is = absurd (cc two)
joined-accepted m new false false reply rest two is = sym (same_reply is)

-- it gives up for lack of memory alone
join-gives_up : (failed : Bool) (old : Machine) (fault : Fault) → may_give_up failed commands.Join old fault ≡ true → fault ≡ Memory
join-gives_up failed old Memory may = refl
join-gives_up failed old File may = let none : false ≡ true = sym (and_false failed) ∙ may in absurd (cc none)
  where
    and_false : (b : Bool) → (b && false) ≡ false
    and_false true = refl
    and_false false = refl
join-gives_up failed old _ may = absurd (cc may)

join-taken : (failed : Bool) (old new : Machine) (reply : Reply) → old.group ≡ None → has_no_two old ≡ false
    → Step failed old (Some commands.Join) reply new → (reply ≡ Accepted) ⊎ ((new ≡ old) × (reply ≡ Refused Memory))
join-taken failed old new reply none two (inl is) = inl (joined-accepted old new (in_group old) (has_no_two old) reply (none_open old none) two is)
join-taken failed old new reply none two (inr out) = inr (out.stays, out.says ∙ ap Refused (join-gives_up failed old out.fault out.may))

-- nothing refuses forgetting
forget-gives_up : (failed : Bool) (old : Machine) (most : ℕ) (fault : Fault) → may_give_up failed (commands.Forget most) old fault ≡ true → false ≡ true
forget-gives_up failed old most Memory may = may
forget-gives_up failed old most File may = (both_true failed false may).1
forget-gives_up failed old most _ may = absurd (cc may)

forget-taken : (failed : Bool) (old new : Machine) (most : ℕ) (reply : Reply) → Step failed old (Some (commands.Forget most)) reply new → reply ≡ Accepted
forget-taken failed old new most reply (inl is) = sym (same_reply is)
forget-taken failed old new most reply (inr out) = absurd (cc (forget-gives_up failed old most out.fault out.may))

pub failing_law : FailingLaw
failing_law = record {
  stays = λ failed old new request reply step h. refused request reply step h;
  memory = memory-taken;
  file = store-failed;
  undo = undo-taken;
  redo = redo-taken;
  abandon = abandon-taken;
  join = join-taken;
  forget = forget-taken;
}
