-- Calls of a system that are made again, or carried on.
use Rattle.std.proofs.Common.{◌≡◌, ℕ, ◌+◌, ◌-◌, ◌<◌, ◌≤◌, List, ◌∷◌, length, take, drop, length-take, length-drop, IsTrue, Result, Err, arith, refl, sym, ap, ◌∙◌, subst, inl, inr}
use Rattle.std.proofs.lemmas.Bool.{cases_lt}
use Rattle.std.proofs.lemmas.List.{get_or-take, get_or-drop, get_or_past}
use Rattle.vm_store.specs.Facts.{StoreFacts, byte, IsTimely, Elapses, IsUnchanged, Writes, Torn}
use Rattle.vm_store.specs.Laws.{Torn-refl, Torn-trans, Torn-within}
use Rattle.host_store.specs.System.{FileFacts, CountsFailure, Idles, WritesFirst, WritesTo, WritesPart, IsInterruptedOften}
use Rattle.host_store.specs.declared.system.SystemFault.{SystemFault}
use Rattle.host_store.specs.declared.system.SystemFault.TheVariants.{Interrupted}

-- Two calls.

-- a call after one that changes nothing
pub Elapses-IsUnchanged : (a b c : StoreFacts) → IsTimely a → IsUnchanged a b → Elapses b c → Elapses a c
Elapses-IsUnchanged a b c timely r e = record {
  later = omega (arith, r.time.later, e.later);
  nothing_else = λ t f le left. elim (e.nothing_else t f (omega (arith, r.time.later)) left) [
    | inl before ↦ elim (r.time.nothing_else t f le before) [ inl first ↦ inl first | inr now ↦ inl (timely.counts_now t f le (r.crash f now)) ]
    | inr now ↦ inr now
  ];
  keeps = λ t f le left. e.keeps t f (omega (arith, r.time.later)) (r.time.keeps t f le left);
}

pub IsUnchanged-trans : (a b c : StoreFacts) → IsTimely a → IsUnchanged a b → IsUnchanged b c → IsUnchanged a c
IsUnchanged-trans a b c timely r s = record {
  content = s.content ∙ r.content;
  crash = λ f left. r.crash f (s.crash f left);
  time = Elapses-IsUnchanged a b c timely r s.time;
}

pub Writes-IsUnchanged : (at n : ℕ) (a b c : StoreFacts) → IsTimely a → IsUnchanged a b → Writes at n b c → Writes at n a c
Writes-IsUnchanged at n a b c timely r w = record {
  torn = let T : List ℕ → Type 0 = λ l. Torn at n l c.content in subst T r.content w.torn;
  no_longer = let e : length b.content ≡ length a.content = ap (λ (l : List ℕ). length l) r.content in omega (arith, e, w.no_longer);
  crash = λ f left. let d = w.crash f left in (d.0, r.crash d.0 d.1, d.2);
  time = Elapses-IsUnchanged a b c timely r w.time;
}

-- Tries.

-- after so many tries, each of which was interrupted and changed nothing
pub record IsTrying (tried : ℕ) (old new : FileFacts) : Type 0 where
  pub honest : new.store.honest ≡ old.store.honest
  pub idles : IsTrue old.store.honest → Idles old new
  pub failures : IsTrue old.store.honest → new.store.failures ≡ old.store.failures
  pub interruptions : IsTrue old.store.honest → old.interruptions + tried ≤ new.interruptions

-- a file is honest after a call as before it
pub still : (a b : FileFacts) → b.store.honest ≡ a.store.honest → IsTrue a.store.honest → IsTrue b.store.honest
still a b same honest = cc

IsUnchanged-refl : (a : StoreFacts) → IsUnchanged a a
IsUnchanged-refl a = record {
  content = refl;
  crash = λ c left. left;
  time = record { later = omega arith; nothing_else = λ t c le left. inl left; keeps = λ t c le left. left };
}

pub starts : (a : FileFacts) → IsTrying 0 a a
starts a = record {
  honest = refl;
  idles = λ honest. record { unchanged = IsUnchanged-refl a.store; syncs = refl };
  failures = λ honest. refl;
  interruptions = λ honest. omega arith;
}

pub Idles-trans : (a b c : FileFacts) → IsTimely a.store → Idles a b → Idles b c → Idles a c
Idles-trans a b c timely p q = record { unchanged = IsUnchanged-trans a.store b.store c.store timely p.unchanged q.unchanged; syncs = q.syncs ∙ p.syncs }

-- Reading on.

-- after so many tries, of which some were interrupted and the others read the first `done` bytes of the buffer
pub record IsReading (at tried done : ℕ) (buffer : List ℕ) (old new : FileFacts) : Type 0 where
  pub room : done ≤ length buffer
  pub honest : new.store.honest ≡ old.store.honest
  pub idles : IsTrue old.store.honest → Idles old new
  pub failures : IsTrue old.store.honest → new.store.failures ≡ old.store.failures
  pub interruptions : IsTrue old.store.honest → old.interruptions + tried ≤ new.interruptions + done
  pub within : IsTrue old.store.honest → 0 < done → at + done ≤ length old.store.content
  pub each : IsTrue old.store.honest → (i : ℕ) → i < done → byte old.store.content (at + i) ≡ byte buffer i

-- Writing on.

-- after so many tries, of which some were interrupted and the others wrote the first `done` bytes
pub record IsWriting (at tried done : ℕ) (bytes : List ℕ) (old new : FileFacts) : Type 0 where
  pub room : done ≤ length bytes
  pub honest : new.store.honest ≡ old.store.honest
  pub writes : IsTrue old.store.honest → WritesTo at (length bytes) old new
  pub begins : IsTrue old.store.honest → WritesFirst at done bytes old.store.content new.store.content
  pub failures : IsTrue old.store.honest → new.store.failures ≡ old.store.failures
  pub interruptions : IsTrue old.store.honest → old.interruptions + tried ≤ new.interruptions + done

pub WritesTo-refl : (at n : ℕ) (a : FileFacts) → WritesTo at n a a
WritesTo-refl at n a = record {
  writes = record { torn = Torn-refl at n a.store.content; no_longer = omega arith; crash = λ c left. (c, left, Torn-refl at n c); time = (IsUnchanged-refl a.store).time };
  widens = λ c left. left;
  syncs = refl;
}

pub WritesTo-trans : (at n from m : ℕ) (a b c : FileFacts) → at ≤ from → from + m ≤ at + n → WritesTo at n a b → WritesTo from m b c → WritesTo at n a c
WritesTo-trans at n from m a b c low high p q = record {
  writes = record {
    torn = Torn-trans at n a.store.content b.store.content c.store.content p.writes.torn (Torn-within from m at n b.store.content c.store.content low high q.writes.torn);
    no_longer = omega (arith, p.writes.no_longer, q.writes.no_longer);
    crash = λ f left.
        let mid = q.writes.crash f left in
        let first = p.writes.crash mid.0 mid.1 in
        (first.0, first.1, Torn-trans at n first.0 mid.0 f first.2 (Torn-within from m at n mid.0 f low high mid.2));
    time = record {
      later = omega (arith, p.writes.time.later, q.writes.time.later);
      nothing_else = λ t f le left. elim (q.writes.time.nothing_else t f (omega (arith, p.writes.time.later)) left) [
        | inl before ↦ elim (p.writes.time.nothing_else t f le before) [ inl first ↦ inl first | inr now ↦ inr (q.widens f now) ]
        | inr now ↦ inr now
      ];
      keeps = λ t f le left. q.writes.time.keeps t f (omega (arith, p.writes.time.later)) (p.writes.time.keeps t f le left);
    };
  };
  widens = λ f left. q.widens f (p.widens f left);
  syncs = q.syncs ∙ p.syncs;
}

-- the bytes but the first `done`
pub record IsRest (done : ℕ) (bytes rest : List ℕ) : Type 0 where
  pub size : done + length rest ≡ length bytes
  pub each : (j : ℕ) → byte rest j ≡ byte bytes (done + j)

pub IsRest-slice : (done : ℕ) (bytes : List ℕ) → done ≤ length bytes → IsRest done bytes (take (length bytes - done) (drop done bytes))
IsRest-slice done bytes le = record {
  size = omega (arith, length-take (length bytes - done) (drop done bytes), length-drop done bytes);
  each = λ j. elim (cases_lt j (length bytes - done)) [
    | inl inside ↦ get_or-take (length bytes - done) (drop done bytes) j 0 inside ∙ get_or-drop done bytes j 0
    | inr past ↦ get_or_past (take (length bytes - done) (drop done bytes)) j 0 (omega (arith, length-take (length bytes - done) (drop done bytes))) ∙ sym (get_or_past bytes (done + j) 0 (omega arith))
  ];
}

pub WritesFirst-refl : (at : ℕ) (bytes c : List ℕ) → WritesFirst at 0 bytes c c
WritesFirst-refl at bytes c = record { below = λ i low. refl; each = λ i low. let no : ⊥ = omega arith in absurd no; above = λ i high. refl; reaches = λ some. let no : ⊥ = omega arith in absurd no; no_shorter = omega arith; no_longer = omega arith }

pub WritesFirst-more : (at done k : ℕ) (bytes rest a b c : List ℕ) → IsRest done bytes rest → k ≤ length rest → WritesFirst at done bytes a b → WritesFirst (at + done) k rest b c → WritesFirst at (done + k) bytes a c
WritesFirst-more at done k bytes rest a b c is fits p q = record {
  below = λ i low. q.below i (omega arith) ∙ p.below i low;
  each = λ i low. elim (cases_lt i done) [
    | inl first ↦ q.below (at + i) (omega arith) ∙ p.each i first
    | inr from ↦
        let j = i - done in
        let there : at + done + j ≡ at + i = omega arith in
        let here : done + j ≡ i = omega arith in
        let B : ℕ → Type 0 = λ x. byte c x ≡ byte bytes i in
        subst B there (q.each j (omega arith) ∙ (is.each j ∙ ap (λ (x : ℕ). byte bytes x) here))
  ];
  above = λ i high. q.above i (omega (arith, is.size)) ∙ p.above i high;
  reaches = λ some. elim (cases_lt 0 k) [
    | inl more ↦ omega (arith, q.reaches more)
    | inr none ↦ omega (arith, p.reaches (omega arith), q.no_shorter)
  ];
  no_shorter = omega (arith, p.no_shorter, q.no_shorter);
  no_longer = omega (arith, p.no_longer, q.no_longer, is.size);
}

-- a write of all that is left
pub writes_on : (at tried done : ℕ) (bytes rest : List ℕ) (a b c : FileFacts) → IsRest done bytes rest → IsWriting at tried done bytes a b → (IsTrue b.store.honest → WritesTo (at + done) (length rest) b c) → IsTrue a.store.honest → WritesTo at (length bytes) a c
writes_on at tried done bytes rest a b c is w call honest =
    WritesTo-trans at (length bytes) (at + done) (length rest) a b c (omega arith) (omega (arith, is.size)) (w.writes honest) (call (still a b w.honest honest))

-- a write of the rest wrote k bytes, or none and was interrupted
pub record Carries (at k : ℕ) (rest : List ℕ) (old new : FileFacts) : Type 0 where
  pub writes : WritesTo at (length rest) old new
  pub begins : WritesFirst at k rest old.store.content new.store.content
  pub failures : new.store.failures ≡ old.store.failures
  pub interruptions : old.interruptions + 1 ≤ new.interruptions + k

pub carried : (at tried done k : ℕ) (bytes rest : List ℕ) (a b c : FileFacts) → IsRest done bytes rest → k ≤ length rest → IsWriting at tried done bytes a b → c.store.honest ≡ b.store.honest → (IsTrue b.store.honest → Carries (at + done) k rest b c) → IsWriting at (tried + 1) (done + k) bytes a c
carried at tried done k bytes rest a b c is fits w same call = record {
  room = omega (arith, is.size);
  honest = same ∙ w.honest;
  writes = λ honest. writes_on at tried done bytes rest a b c is w (λ h. (call h).writes) honest;
  begins = λ honest. WritesFirst-more at done k bytes rest a.store.content b.store.content c.store.content is fits (w.begins honest) ((call (still a b w.honest honest)).begins);
  failures = λ honest. (call (still a b w.honest honest)).failures ∙ w.failures honest;
  interruptions = λ honest. omega (arith, (call (still a b w.honest honest)).interruptions, w.interruptions honest);
}

-- of a write that was interrupted

pub told_interrupted : (fault : SystemFault) (old new : FileFacts) → fault ≡ Interrupted → CountsFailure {T = ℕ} (Err fault) old new → CountsFailure {T = ℕ} (Err Interrupted) old new
told_interrupted fault old new is told = let P : SystemFault → Type 0 = λ f. CountsFailure {T = ℕ} (Err f) old new in subst P is told

pub part_interrupted : (fault : SystemFault) (at : ℕ) (bytes old new : List ℕ) → fault ≡ Interrupted → WritesPart at bytes (Err fault) old new → WritesFirst at 0 bytes old new
part_interrupted fault at bytes old new is part = let P : SystemFault → Type 0 = λ f. WritesPart at bytes (Err f) old new in subst P is part

-- Calls of a system.

-- one more that was interrupted
pub IsInterruptedOften-more : {S T : Type 0} (call : S → Result T SystemFault → S → Type 0) (old mid new : S) (n : ℕ) (result : Result T SystemFault) (fault : SystemFault)
    → IsInterruptedOften call old n mid → call mid result new → result ≡ Err fault → fault ≡ Interrupted → IsInterruptedOften call old (n + 1) new
IsInterruptedOften-more {S} {T} call old mid new n result fault before made is was =
    let P : Result T SystemFault → Type 0 = λ r. call mid r new in
    record {
      states = mid ∷ before.states;
      interrupted = (before.interrupted, subst P (is ∙ ap Err was) made);
      count = let c : length before.states ≡ n = before.count in omega arith;
    }
