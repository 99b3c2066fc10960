-- `closed` moves what is owned from one form to the other.
use Rattle.std.proofs.Common.{◌≡◌, List, [], ◌∷◌, ◌++◌, refl, sym, subst}
use mathlib.Core.Bool.{true, false}
use mir.Val.{Val}
use base.Logic.{SProp, ent, emp, id⊢}
use base.Fml.{ftrue}
use prog.Wp.{WpFn}
use types.Kit.{‵, raw, ◌⊛◌, ◌$◌, ◌∵◌, !, qed, by, move, keep, drop, split, fjoin, suffices, use0}
use types.Run.{false_lit, no_more, and_then, returns, enter}
use types.ByLocal.{alloc_all, pass_all, free_all, look_at, get, sets}
use types.Part.{agg}
use contract.Monad.{fact, fact_i}
use contract.Running.{tables}
use denote.Exit.{yes}
use denote.RattleType.{owns}
use denote.Signature.{types_at, plain}
use denote.Builtin.{RawPtr}
use denote.RawPtr.{Ptr, ptr_val}
use denote.Steps.{nothing}
use denote.Triple.Entry.{alive}
use denote.Triple.Walked.{Stays, stay_dropped, walk_of}
use Rattle.core.proofs.alloc.Calls.{Goes-blank}
use Rattle.core.proofs.atomic.Steps.{Ptr-Good}
use Rattle.std.proofs.raw_atomic.Walks.{proved_at, leaves}
use Rattle.std.specs.Prelude.{None, pos}
use Rattle.geos_model.specs.Document.{empty_document}
use Rattle.undo_log.specs.Logging.{fresh_log}
use Rattle.geos_c.specs.Stores.{file_number, store_on}
use Rattle.geos_c.proofs.Handles.{R, two, two_good, handle_in}
use Rattle.geos_c.specs.contracts.handle.Handle.closed.{ended, clauses}
use Rattle.geos_c.specs.contracts.handle.Handle.closed.Key.{name as #self}
use Rattle.geos_c.proofs.handle.Handle.closed.Statement.{statement}
use Rattle.geos_c.proofs.handle.Handle.closed.Code as code

-- what a closed handle says of a value, which is nothing
abbrev closed_kept : R.Denot
closed_kept = record {
  number = file_number (pos 0);
  session = record {
    disk = record { store = store_on (file_number (pos 0)); updated = empty_document; saved = empty_document; in_doubt = []; sequence = 0; marked = None; checksums = false };
    document = empty_document;
    resident = [];
    frames = 0;
    log = fresh_log true;
  };
}

pub closed_spec : {M : Type 1} → statement M
closed_spec 𝓤 𝓛 𝓜 𝓡 wired =
    let H = 𝓛.H in let 𝓣 = tables 𝓤 H 𝓜 𝓡 𝓡.env in let fn = code.function in let c = clauses 𝓛 𝓜.mem 𝓡.returns in
    let hs : Stays ended.signature.params ended.kept = (stay_dropped (plain (λ _. RawPtr)) yes, tt) in
    proved_at 𝓛 ended hs c 𝓜 𝓡 (Goes-blank 𝓛 0 (plain (λ _. RawPtr)) yes (λ κs x f. tt), tt) #self fn (code.unfolded 𝓤 H 𝓜 𝓡 wired) (λ z are.
    let p : Ptr = z.0.3.0 in let Post : Val → SProp 𝓤 = (walk_of 𝓛 ended hs c).post z in let Run : List Val → SProp 𝓤 = λ ws. WpFn 𝓤 H 𝓣.C 𝓣.Λ fn ws Post in
    let ep : z.0.4.0 ≡ ptr_val p ∷ [] = are.0 in
    qed 𝓛 ((raw (alive 𝓛 ended.signature z.0.0 z.0.1) ⊛ ‵ (owns (types_at ended.signature.params z.0.0) z.0.3 z.0.4)) ∷ ‵ ftrue ∷ []) ∵ move ! (1 ∷ []) $ drop ! $ split ! $ move ! (1 ∷ []) $ drop ! $
    -- [the tokens]
    let us : List Val = ptr_val p ∷ [] in let good = two_good p false in
    suffices ! (Run us) (subst (λ (ws : List Val). ent 𝓤 (Run us) (Run ws)) (sym (λ i. ep i ++ [])) (id⊢ 𝓤 (Run us))) $
    enter ! 𝓣.C 𝓣.Λ fn us Post $ alloc_all ! (λ l. pass_all ! refl (Ptr-Good p, tt) $
    sets ! (agg ! (and_then ! (get ! refl) (and_then ! (false_lit !) (no_more !)))) refl good $
    returns ! (look_at ! 0 refl) $ free_all ! refl $
    nothing ! $ handle_in ! p false closed_kept $ use0 𝓛 (raw (fact 𝓤 (false ≡ false))) (fact_i 𝓤 (false ≡ false) (emp 𝓤) refl) $ nothing ! $ nothing ! $ fjoin ! $
    -- [nothing left; the fact; the handle; the tokens]
    keep ! (3 ∷ 0 ∷ 2 ∷ 1 ∷ []) $ by ! (leaves 𝓛 ended hs c z (two (ptr_val p) false) (record { at = p; is_open = false; kept = closed_kept }) (tt, tt) (tt, tt))))
