-- At depth 0 the document is that of the start, and the past the newest part of its past.
use Rattle.std.proofs.Common.{◌≡◌, ◌≤◌, ℕ, zero, suc, ◌+◌, ◌-◌, ◌==◌, List, [], ◌∷◌, length, take, Bool, true, false, not, ◌&&◌, nat_le, Option, Some, None, IfSome, unwrap_or, refl, sym, ap, subst, ◌∙◌, inl, inr, arith, leb-true, if◌then◌else◌, le-leb, nat_lt, ltb-false, ◌||◌}
use Rattle.std.proofs.lemmas.Bool.{cases_Bool}
use Rattle.std.proofs.lemmas.List.{take_all}
use Rattle.std.specs.Option.{option_map, option_and_then}
use Rattle.std.specs.Fn.{iterate}
use Rattle.geos_model.specs.Document.{Document}
use Rattle.geos_model.specs.Meaning.{effect}
use Rattle.geos_model.specs.Cost.{cost}
use Rattle.geos_model.specs.Reply.{Reply, Accepted}
use Rattle.geos_model.specs.Machine.{Machine, Request, UndoStep, OpenGroup, Call, Step, Run, command_conditions, done_by, recorded, redone, ended, after_join, joined_steps, after_forget, limited, kind_of}
use Rattle.geos_model.specs.Standing.{outside_group}
use Rattle.geos_model.specs.Undoing.{Tally, SamePast, is_refused, accepted, after_request}
use Rattle.geos_model.specs.Depth.{SameNewest, DepthLaw, depth_within, one_deeper, one_higher, depth_joined, depth_edited, depth_ended, depth_after, depth_on, depth, is_forget}
use Rattle.geos_model.specs.declared.fault.Fault.TheVariants.{GroupOpen, NothingToUndo}
use Rattle.geos_model.specs.declared.command.Kind.{Kind}
use Rattle.geos_model.specs.declared.command.Kind.TheVariants.{Group}
use Rattle.geos_model.specs.declared.command.Command.TheVariants as commands
use Rattle.geos_model.specs.Places.{places_of}
use Rattle.geos_model.specs.declared.place.Place.{Place}
use Rattle.geos_model.proofs.Refusals.{none_applies, or_none}
use Rattle.geos_model.proofs.Undoing.{OnDone, on_done, refused, bad_line-refused, answered, none_refuses, not_in_group}
use Rattle.geos_model.proofs.UndoLaw.{Past, outside, back, edited_in, Counted, counted-first, counted-same, counted-in, counted-empty, even-on, IsBack, undo-back}

-- What is left of a past: the document, and the newest steps; all of them without a limit where nothing is forgotten.
record Keeps (limit : Option ℕ) (forgets : Bool) (start now : Past) : Type 0 where
  document : now.0 ≡ start.0
  kept : ℕ
  past : now.1 ≡ take kept start.1
  whole : limit ≡ None → forgets ≡ false → now ≡ start

keeps-all : (limit : Option ℕ) (forgets : Bool) (start : Past) → Keeps limit forgets start start
keeps-all limit forgets start = record {
  document = refl;
  kept = length start.1;
  past = sym (take_all (length start.1) start.1 (omega arith));
  whole = λ unlimited none. refl;
}

-- where some are forgotten, so many are left
keeps-some : (limit : Option ℕ) (forgets : Bool) (start : Past) (k : ℕ) → (limit ≡ None → forgets ≡ false → ⊥) → Keeps limit forgets start (start.0, take k start.1)
keeps-some limit forgets start k forgets_some = record {
  document = refl;
  kept = k;
  past = refl;
  whole = λ unlimited none. absurd (forgets_some unlimited none);
}

take-taken : (j k : ℕ) (steps : List UndoStep) → (n : ℕ) × (take j (take k steps) ≡ take n steps)
take-taken zero k steps = (0, refl)
take-taken (suc j) zero steps = (0, refl)
take-taken (suc j) (suc k) [] = (0, refl)
take-taken (suc j) (suc k) (s ∷ steps) = let rest = take-taken j k steps in (suc rest.0, ap (λ (l : List UndoStep). s ∷ l) rest.1)

-- one after the other
keeps-on : (limit : Option ℕ) (first second : Bool) (start mid now : Past) (both : Bool) → (both ≡ false → (first ≡ false) × (second ≡ false))
    → Keeps limit first start mid → Keeps limit second mid now → Keeps limit both start now
keeps-on limit first second start mid now both parts one two =
    let taken = take-taken two.kept one.kept start.1 in
    record {
      document = two.document ∙ one.document;
      kept = taken.0;
      past = two.past ∙ ap (take two.kept) one.past ∙ taken.1;
      whole = λ unlimited none. let apart = parts none in two.whole unlimited apart.1 ∙ one.whole unlimited apart.0;
    }

-- what is left of a past, from which so many calls were counted
record Deep (limit : Option ℕ) (forgets : Bool) (start : Past) (t : Tally) (m : Machine) : Type 0 where
  now : Past
  keeps : Keeps limit forgets start now
  counted : Counted limit now t m

deep-counted : (limit : Option ℕ) (forgets : Bool) (start : Past) (t : Tally) (m : Machine) → Counted limit start t m → Deep limit forgets start t m
deep-counted limit forgets start t m counted = record { now = start; keeps = keeps-all limit forgets start; counted = counted }

-- Steps below those that are kept.

back-nothing : (n : ℕ) (d : Document) → iterate back n (d, []) ≡ (d, [])
back-nothing zero d = refl
back-nothing (suc n) d = back-nothing n d

-- No more steps than are kept go to the same document, and leave what is kept of its past.
back-taken : (n most : ℕ) (d : Document) (past : List UndoStep) → n ≤ most
    → iterate back n (d, take most past) ≡ ((iterate back n (d, past)).0, take (most - n) (iterate back n (d, past)).1)
back-taken zero most d past low = ap (λ (k : ℕ). (d, take k past)) (omega arith)
back-taken (suc n) zero d past low = absurd (omega (arith, low))
back-taken (suc n) (suc most) d [] low =
    let k : ℕ = suc most - suc n in
    subst (λ (x : Past). x ≡ (x.0, take k x.1)) (sym (back-nothing n d)) (ap (λ (l : List UndoStep). (d, l)) (sym (take_all k [] (omega arith))))
back-taken (suc n) (suc most) d (s ∷ past) low =
    back-taken n most s.document past (omega (arith, low))
    ∙ ap (λ (k : ℕ). ((iterate back n (s.document, past)).0, take k (iterate back n (s.document, past)).1)) (omega arith)

-- so of a past from which the start is so many steps away
taken-start : (n most : ℕ) (d : Document) (past : List UndoStep) (start : Past) → n ≤ most → iterate back n (d, past) ≡ start
    → iterate back n (d, take most past) ≡ (start.0, take (most - n) start.1)
taken-start n most d past start low goes = back-taken n most d past low ∙ ap (λ (x : Past). (x.0, take (most - n) x.1)) goes

-- A step that is made, of which a limit may take the oldest.

deeper : (limit : Option ℕ) (start : Past) (t : Tally) (m : Machine) (s : UndoStep) (past : List UndoStep) (forgets : Bool)
    → m.group ≡ None → m.undo_limit ≡ limit → t.group ≡ None → iterate back t.steps (s.document, past) ≡ start
    → m.past ≡ limited limit (s ∷ past) → IfSome (one_deeper limit t) (λ u. Deep limit forgets start u m)
deeper None start t m s past forgets none is free goes made = deep-counted None forgets start (record t { steps = t.steps + 1 }) m (record {
  group = free ∙ ap edited_in (sym none);
  whole = subst (λ group. IfSome group (λ g. g.edited ≡ false → m.document ≡ g.before)) (sym none) tt;
  bound = is;
  goes = rw (none, made, add_one t.steps) goes;
})
  where
    add_one : (n : ℕ) → n + 1 ≡ suc n
    add_one n = omega arith
deeper (Some most) start t m s past forgets none is free goes made = elim (cases_Bool (nat_le (t.steps + 1) most)) [
  | inr many ↦ rw many tt
  | inl few ↦
      let one : t.steps + 1 ≡ suc t.steps = omega arith in
      let low : suc t.steps ≤ most = subst (λ n. n ≤ most) one (leb-true (t.steps + 1) most few) in
      let there : iterate back (suc t.steps) (m.document, take most (s ∷ past)) ≡ (start.0, take (most - suc t.steps) start.1) =
      taken-start (suc t.steps) most m.document (s ∷ past) start low goes in
      rw few (record {
        now = (start.0, take (most - suc t.steps) start.1);
        keeps = keeps-some (Some most) forgets start (most - suc t.steps) (λ unlimited none. cc unlimited);
        counted = record {
          group = free ∙ ap edited_in (sym none);
          whole = subst (λ group. IfSome group (λ g. g.edited ≡ false → m.document ≡ g.before)) (sym none) tt;
          bound = is;
          goes = rw (none, made, one) there;
        };
      })
]

-- Each request.

-- an edit, in a group and in none
edit-deep : (limit : Option ℕ) (start : Past) (t : Tally) (m : Machine) (group : Option OpenGroup) (kind : Kind) (n : ℕ) (ps : List Place) (d : Document) (forgets : Bool)
    → group ≡ m.group → t.group ≡ edited_in group → Counted limit start t m → IfSome (depth_edited limit t.group t) (λ u. Deep limit forgets start u (recorded group kind n ps d m))
edit-deep limit start t m None kind n ps d forgets is same counted =
    subst (λ o. IfSome (depth_edited limit o t) (λ u. Deep limit forgets start u (recorded None kind n ps d m))) (sym same)
    (deeper limit start t (recorded None kind n ps d m) (record { kind = kind; cost = n; document = m.document; places = ps }) m.past forgets (sym is) counted.bound same
    (rw (← is) at counted.goes) (ap (λ (x : Option ℕ). limited x (record { kind = kind; cost = n; document = m.document; places = ps } ∷ m.past)) counted.bound))
edit-deep limit start t m (Some g) kind n ps d forgets is same counted =
    subst (λ o. IfSome (depth_edited limit o t) (λ u. Deep limit forgets start u (recorded (Some g) kind n ps d m))) (sym same)
    (deep-counted limit forgets start (record t { group = Some true }) (recorded (Some g) kind n ps d m) (counted-in start t m g kind n ps d is limit counted))

-- a group that ends
end-deep : (limit : Option ℕ) (start : Past) (t : Tally) (m : Machine) (group : Option OpenGroup) (forgets : Bool) → group ≡ m.group → t.group ≡ edited_in group → Counted limit start t m
    → OnDone (λ reply new. IfSome (depth_ended limit t.group t) (λ u. Deep limit forgets start u new)) (option_map (λ g. (Accepted, ended g m)) group)
end-deep limit start t m None forgets is same counted = tt
end-deep limit start t m (Some g) forgets is same counted = subst (λ o. IfSome (depth_ended limit o t) (λ u. Deep limit forgets start u (ended g m))) (sym same) (elim (cases_Bool g.edited) [
  | inl some ↦
      let s : UndoStep = record { kind = Group; cost = g.cost; document = g.before; places = g.places } in
      subst (λ b. IfSome (if b then one_deeper limit (record t { group = None }) else Some (record t { group = None })) (λ u. Deep limit forgets start u (ended g m))) (sym some)
      (deeper limit start (record t { group = None }) (ended g m) s m.past forgets refl counted.bound refl
      (rw (← is) at counted.goes) (rw some (ap (λ (x : Option ℕ). limited x (s ∷ m.past)) counted.bound)))
  | inr none ↦ subst (λ b. IfSome (if b then one_deeper limit (record t { group = None }) else Some (record t { group = None })) (λ u. Deep limit forgets start u (ended g m))) (sym none)
      (deep-counted limit forgets start (record t { group = None }) (ended g m) (counted-empty limit start t m g is none counted))
])

-- an undo
undo-deep : (limit : Option ℕ) (forgets : Bool) (start : Past) (t : Tally) (old new : Machine) → IsBack old new → Counted limit start t old
    → IfSome (one_higher t) (λ u. Deep limit forgets start u new)
undo-deep limit forgets start t old new undo counted = elim (cases_Bool (t.steps == 0)) [
  | inl none ↦ rw none tt
  | inr some ↦
      let k : ℕ = t.steps - 1 in
      let is : t.steps ≡ suc k = by_steps t.steps some in
      let goes : iterate back k (outside new) ≡ start = ap (iterate back k) undo.goes ∙ sym (ap (λ (n : ℕ). iterate back n (outside old)) is) ∙ counted.goes in
      rw some (deep-counted limit forgets start (record t { steps = k }) new (record {
        group = counted.group ∙ ap edited_in (undo.was ∙ sym undo.stays);
        whole = subst (λ group. IfSome group (λ g. g.edited ≡ false → new.document ≡ g.before)) (sym undo.stays) tt;
        bound = undo.limit ∙ counted.bound;
        goes = goes;
      }))
]
  where
    by_steps : (n : ℕ) → (n == 0) ≡ false → n ≡ suc (n - 1)
    by_steps zero some = absurd (cc some)
    by_steps (suc n) some = omega arith

-- a redo
redo-deep : (limit : Option ℕ) (forgets : Bool) (start : Past) (t : Tally) (m : Machine) (future : List UndoStep) → m.group ≡ None → Counted limit start t m
    → OnDone (λ reply new. Deep limit forgets start (record t { steps = t.steps + 1 }) new) (option_map (λ new. (Accepted, new)) (redone m future))
redo-deep limit forgets start t m [] none counted = tt
redo-deep limit forgets start t m (s ∷ future) none counted =
    let new : Machine = unwrap_or (redone m (s ∷ future)) m in
    let one : t.steps + 1 ≡ suc t.steps = omega arith in
    deep-counted limit forgets start (record t { steps = t.steps + 1 }) new (record {
      group = counted.group;
      whole = counted-whole;
      bound = counted.bound;
      goes = rw one (rw none at counted.goes);
    })
  where
    counted-whole : IfSome m.group (λ g. g.edited ≡ false → s.document ≡ g.before)
    counted-whole = subst (λ group. IfSome group (λ g. g.edited ≡ false → s.document ≡ g.before)) (sym none) tt

-- a join
join-deep : (limit : Option ℕ) (forgets : Bool) (start : Past) (t : Tally) (m : Machine) (n : ℕ) (past : List UndoStep) → t.steps ≡ n → m.past ≡ past → m.group ≡ None
    → nat_le 2 (length past) ≡ true → Counted limit start t m → IfSome (depth_joined t) (λ u. Deep limit forgets start u (after_join m))
join-deep limit forgets start t m zero past steps is none two counted = rw steps tt
join-deep limit forgets start t m (suc zero) past steps is none two counted = rw steps tt
join-deep limit forgets start t m (suc (suc n)) [] steps is none two counted = absurd (cc two)
join-deep limit forgets start t m (suc (suc n)) (s ∷ []) steps is none two counted = absurd (cc two)
join-deep limit forgets start t m (suc (suc n)) (s ∷ r ∷ past) steps is none two counted =
    let fewer : t.steps - 1 ≡ suc n = rw steps (omega arith) in
    let goes : iterate back (suc (suc n)) (outside_group m.group m.document, m.past) ≡ start = ap (λ (k : ℕ). iterate back k (outside m)) (sym steps) ∙ counted.goes in
    let two_back : iterate back n (r.document, past) ≡ start = subst (λ (l : List UndoStep). iterate back (suc (suc n)) (outside_group m.group m.document, l) ≡ start) is goes in
    let joined_goes : iterate back (suc n) (outside_group m.group m.document, joined_steps m.past) ≡ start =
    subst (λ (l : List UndoStep). iterate back (suc n) (outside_group m.group m.document, joined_steps l) ≡ start) (sym is) two_back in
    let some : nat_le 2 t.steps ≡ true = le-leb 2 t.steps (omega (arith, steps)) in
    rw some (deep-counted limit forgets start (record t { steps = t.steps - 1 }) (after_join m) (record {
      group = counted.group;
      whole = counted.whole;
      bound = counted.bound;
      goes = ap (λ (k : ℕ). iterate back k (outside_group m.group m.document, joined_steps m.past)) fewer ∙ joined_goes;
    }))

-- forgetting
forget-deep : (limit : Option ℕ) (start : Past) (t : Tally) (m : Machine) (most : ℕ) → Counted limit start t m
    → IfSome (depth_within most t) (λ u. Deep limit true start u (after_forget most m))
forget-deep limit start t m most counted = elim (cases_Bool (nat_le t.steps most)) [
  | inr many ↦ rw many tt
  | inl few ↦ rw few (record {
    now = (start.0, take (most - t.steps) start.1);
    keeps = keeps-some limit true start (most - t.steps) (λ unlimited none. cc none);
    counted = record {
      group = counted.group;
      whole = counted.whole;
      bound = counted.bound;
      goes = taken-start t.steps most (outside m).0 m.past start (leb-true t.steps most few) counted.goes;
    };
  })
]

-- so each request that was accepted
request-deep : (limit : Option ℕ) (start : Past) (t : Tally) (failed : Bool) (old new : Machine) (request : Request) (reply : Reply) → Step failed old request reply new
    → is_refused reply ≡ false → Counted limit start t old → IfSome (depth_after limit request t) (λ u. Deep limit (is_forget request) start u new)
request-deep limit start t failed old new None reply step h counted = absurd (bad_line-refused reply step h)
request-deep limit start t failed old new (Some (commands.Edit e)) reply step h counted =
    on_done (λ reply new. IfSome (depth_edited limit t.group t) (λ u. Deep limit false start u new)) (done_by (commands.Edit e) old) reply new
    (edit-deep limit start t old old.group (kind_of e) (cost e old.document (effect e old.document).0) (places_of e old.document) (effect e old.document).0 false refl counted.group counted)
    (answered (commands.Edit e) reply step h)
request-deep limit start t failed old new (Some commands.Undo) reply step h counted =
    undo-deep limit false start t old new (undo-back failed old new (Some commands.Undo) reply step h refl) counted
request-deep limit start t failed old new (Some commands.Redo) reply step h counted =
    on_done (λ reply new. Deep limit false start (record t { steps = t.steps + 1 }) new) (done_by commands.Redo old) reply new
    (redo-deep limit false start t old old.future
    (not_in_group old (or_none (none_applies (command_conditions commands.Redo old) (none_refuses commands.Redo reply step h) GroupOpen refl)).0) counted)
    (answered commands.Redo reply step h)
request-deep limit start t failed old new (Some commands.End) reply step h counted =
    on_done (λ reply new. IfSome (depth_ended limit t.group t) (λ u. Deep limit false start u new)) (done_by commands.End old) reply new
    (end-deep limit start t old old.group false refl counted.group counted) (answered commands.End reply step h)
request-deep limit start t failed old new (Some commands.Join) reply step h counted =
    let none = none_applies (command_conditions commands.Join old) (none_refuses commands.Join reply step h) in
    on_done (λ reply new. IfSome (depth_joined t) (λ u. Deep limit false start u new)) (done_by commands.Join old) reply new
    (join-deep limit false start t old t.steps old.past refl refl (not_in_group old (or_none (none GroupOpen refl)).0)
    (two_there (length old.past) (or_none (none NothingToUndo refl)).0) counted)
    (answered commands.Join reply step h)
  where
    two_there : (n : ℕ) → nat_lt n 2 ≡ false → nat_le 2 n ≡ true
    two_there n many = le-leb 2 n (omega (arith, ltb-false n 2 many))
request-deep limit start t failed old new (Some (commands.Forget most)) reply step h counted =
    on_done (λ reply new. IfSome (depth_within most t) (λ u. Deep limit true start u new)) (done_by (commands.Forget most) old) reply new
    (forget-deep limit start t old most counted) (answered (commands.Forget most) reply step h)
request-deep limit start t failed old new (Some commands.Revert) reply step h counted = tt
request-deep limit start t failed old new (Some c) reply step h counted =
    deep-counted limit false start (after_request (Some c) t) new (even-on limit start t failed old new c reply step h refl counted)

-- Calls.

both_false : (a b : Bool) → (a || b) ≡ false → (a ≡ false) × (b ≡ false)
both_false true b h = absurd (cc h)
both_false false b h = (refl, h)

-- whether some call forgets
abbrev forgets_in : List Call → Bool
forgets_in [] = false
forgets_in (c ∷ cs) = (not (is_refused c.reply) && is_forget c.request) || forgets_in cs

calls-deep : (limit : Option ℕ) (start : Past) (calls : List Call) (t u : Tally) (old new : Machine) → Run old calls new → depth_on limit calls t ≡ Some u → Counted limit start t old
    → Deep limit (forgets_in calls) start u new
calls-deep limit start [] t u old new run is counted =
    let same : t ≡ u = ap (λ (o : Option Tally). unwrap_or o t) is in
    deep-counted limit false start u new (subst (λ (x : Tally). Counted limit start x new) same (counted-same limit start t old new counted run))
calls-deep limit start (c ∷ cs) t u old new run is counted = elim (cases_Bool (is_refused c.reply)) [
  | inl out ↦
      let rest : depth_on limit cs t ≡ Some u = rw (out, depth_on) at is in
      rw out (calls-deep limit start cs t u run.0 new run.2 rest (counted-same limit start t old run.0 counted (refused c.request c.reply run.1 out)))
  | inr taken ↦
      let rest : option_and_then (depth_on limit cs) (depth_after limit c.request t) ≡ Some u = rw (taken, depth_on) at is in
      rw taken (by_depth (λ s x at counted. calls-deep limit s cs x u run.0 new run.2 at counted) (depth_after limit c.request t) rest (request-deep limit start t c.failed old run.0 c.request c.reply run.1 taken counted))
]
  where
    by_depth : ((s : Past) (x : Tally) → depth_on limit cs x ≡ Some u → Counted limit s x run.0 → Deep limit (forgets_in cs) s u new)
        → (o : Option Tally) → option_and_then (depth_on limit cs) o ≡ Some u → IfSome o (λ x. Deep limit (is_forget c.request) start x run.0)
        → Deep limit (is_forget c.request || forgets_in cs) start u new
    by_depth calls None rest deep = absurd (cc rest)
    by_depth calls (Some x) rest deep =
        let later = calls deep.now x rest deep.counted in
        record {
          now = later.now;
          keeps = keeps-on limit (is_forget c.request) (forgets_in cs) start deep.now later.now (is_forget c.request || forgets_in cs) (both_false (is_forget c.request) (forgets_in cs)) deep.keeps later.keeps;
          counted = later.counted;
        }

none-forgets : (calls : List Call) → accepted is_forget calls ≡ 0 → forgets_in calls ≡ false
none-forgets [] none = refl
none-forgets (c ∷ cs) none = elim (cases_Bool (not (is_refused c.reply) && is_forget c.request)) [
  | inl some ↦ absurd (cc (rw some at none))
  | inr other ↦ rw other (none-forgets cs (rw other at none))
]

-- what calls at depth 0 come to where no group is open
depth-deep : (old new : Machine) (calls : List Call) → old.group ≡ None → depth old.undo_limit calls ≡ Some 0 → Run old calls new
    → (u : Tally) × (u.steps ≡ 0) × Deep old.undo_limit (forgets_in calls) (outside old) u new
depth-deep old new calls free is run = by_depth (depth_on old.undo_limit calls (record { steps = 0; group = None })) refl is
  where
    by_depth : (o : Option Tally) → depth_on old.undo_limit calls (record { steps = 0; group = None }) ≡ o → option_map (λ t. t.steps) o ≡ Some 0
        → (u : Tally) × (u.steps ≡ 0) × Deep old.undo_limit (forgets_in calls) (outside old) u new
    by_depth None at is = absurd (cc is)
    by_depth (Some u) at is = (u, cc is, calls-deep old.undo_limit (outside old) calls (record { steps = 0; group = None }) u old new run at (counted-first old free))

-- the machine stands where its past says, outside of groups
stands-outside : (m : Machine) (now : Past) (n : ℕ) → m.group ≡ None → n ≡ 0 → iterate back n (outside m) ≡ now → (m.document, m.past) ≡ now
stands-outside m now zero none zero_steps goes = rw none at goes
stands-outside m now (suc n) none zero_steps goes = absurd (omega (arith, zero_steps))

depth-same : (old new : Machine) (calls : List Call) → old.group ≡ None → new.group ≡ None → depth old.undo_limit calls ≡ Some 0 → Run old calls new → SameNewest old new
depth-same old new calls free after is run =
    let deep = depth-deep old new calls free is run in
    let stands = stands-outside new deep.2.now deep.0.steps after deep.1 deep.2.counted.goes in
    record {
      document = ap (λ s. s.0) stands ∙ deep.2.keeps.document ∙ ap (λ group. outside_group group old.document) free;
      kept = deep.2.keeps.kept;
      past = ap (λ s. s.1) stands ∙ deep.2.keeps.past;
    }

depth-whole : (old new : Machine) (calls : List Call) → old.group ≡ None → new.group ≡ None → old.undo_limit ≡ None → accepted is_forget calls ≡ 0
    → depth None calls ≡ Some 0 → Run old calls new → SamePast old new
depth-whole old new calls free after unlimited none is run =
    let deep = depth-deep old new calls free (ap (λ limit. depth limit calls) unlimited ∙ is) run in
    let stands = stands-outside new deep.2.now deep.0.steps after deep.1 deep.2.counted.goes in
    let whole = deep.2.keeps.whole unlimited (none-forgets calls none) in
    record {
      document = ap (λ s. s.0) stands ∙ ap (λ s. s.0) whole ∙ ap (λ group. outside_group group old.document) free;
      past = ap (λ s. s.1) stands ∙ ap (λ s. s.1) whole;
    }

pub depth_law : DepthLaw
depth_law = record { same = depth-same; whole = depth-whole }
