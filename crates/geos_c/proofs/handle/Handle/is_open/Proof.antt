-- `is_open` reads a field through the reference.
use Rattle.std.proofs.Common.{List, [], ◌∷◌, refl, sym}
use base.Fraction.{full_share}
use base.Fml.{ftrue, flft}
use mir.Syntax.{named}
use mir.Val.{Val, vbool}
use contract.Running.{tables}
use types.Kit.{‵, ◌⊛◌, ◌$◌, ◌∵◌, !, qed, done, move, keep, split, join, fsplit3, rewrite, suffices, frame, group}
use types.Run.{enter, of_opd, load, stop, fld, returns}
use types.ByLocal.{alloc_all, pass_all, free_all, look_at, through, sets}
use types.Part.{whole, sub, look_in}
use denote.Builtin.{bool}
use denote.Laws.{shows}
use denote.Memory.{cell_at}
use denote.Plain.{bool_Makes}
use denote.Ref.{MutRef, mut_vals, mut_Tells}
use denote.Signature.{plain}
use denote.Steps.{nothing, owned, opens, closes, peeks}
use denote.Triple.Walked.{Stays, walk_of, says, stay_ref, Goes-ref, ends_at}
use Rattle.std.proofs.raw_atomic.Walks.{proved}
use Rattle.geos_c.specs.contracts.handle.Handle.{the_row as Row}
use Rattle.geos_c.proofs.handle.Handle.TheLaws.{lowers}
use Rattle.geos_c.specs.contracts.handle.Handle.is_open.{ended, clauses}
use Rattle.geos_c.specs.contracts.handle.Handle.is_open.Key.{name as #self}
use Rattle.geos_c.proofs.handle.Handle.is_open.Statement.{statement}
use Rattle.geos_c.proofs.handle.Handle.is_open.Code as code

abbrev stayed : Stays ended.signature.params ended.kept
stayed = (stay_ref (0 ∷ []) tt (plain (λ _. Row)), tt)

pub is_open_spec : {M : Type 1} → statement M
is_open_spec 𝓤 𝓛 𝓜 𝓡 wired =
    let c = clauses 𝓛 𝓜.mem 𝓡.returns in let W = walk_of 𝓛 ended stayed c in let 𝓣 = tables 𝓤 𝓛.H 𝓜 𝓡 𝓡.env in
    proved 𝓛 ended stayed c 𝓜 𝓡 (Goes-ref 𝓛 1 0 tt (plain (λ _. Row)), tt)
    #self code.function (code.unfolded 𝓤 𝓛.H 𝓜 𝓡 wired)
    (λ κs. (mut_vals, tt)) (λ κs. (mut_Tells (named 0) κs.0 Row, tt)) (λ κs qs bounds a _ are.
    let b = a.0.ref_ptr.0 in let o = a.0.ref_ptr.1 in let h = a.0.now in let vs = mut_vals a.0 in
    let y : W.Ghost = ((κs, qs, bounds, a, (vs, tt)), tt) in
    qed 𝓛 (((‵ (flft κs.0 qs.0) ⊛ ‵ ftrue) ⊛ ‵ ((MutRef (named 0) κs.0 Row).own_val a.0 vs) ⊛ ‵ ftrue) ∷ ‵ ftrue ∷ []) ∵
    split ! $ split ! $ move ! (2 ∷ []) $ split ! $ keep ! (0 ∷ 2 ∷ []) $
    enter ! _ _ _ _ _ $ alloc_all ! (λ l. pass_all ! refl ((tt, tt), tt) $
    fsplit3 ! $ move ! (1 ∷ 2 ∷ 3 ∷ []) $ opens ! tt Row b o (λ us.
    move ! (1 ∷ []) $ peeks ! Row _ (shows 𝓛 Row) h us (λ is.
    let word = lowers.val_is h us is in let Cell = λ (ws : List Val). ‵ (cell_at full_share Row.mir ws b o) in
    rewrite ! 1 Cell word refl $
    -- [what the handle owns; its cell; the open borrow, in three entries]
    sets ! (of_opd ! (load ! (through ! refl (fld ! refl (stop !))) (look_in ! 1 (sub ! 1 refl (whole !))))) refl (tt, tt) $
    rewrite ! 1 Cell (sym word) refl $ move ! (1 ∷ []) $ closes ! tt Row h us b o $
    -- [two parts of self; the token; self's first part]
    returns ! (look_at ! 0 refl) $ free_all ! refl $ move ! (3 ∷ []) $
    suffices ! _ (ends_at 𝓛 ended stayed c y (vbool h.is_open) h.is_open (h, tt) (tt, tt)) $ says ! (refl, refl) $
    group ! 3 $ nothing ! $ move ! (1 ∷ 0 ∷ []) $ join ! $ nothing ! $ move ! (2 ∷ 0 ∷ []) $ join ! $ frame ! $ frame ! $
    owned ! bool _ (bool_Makes 𝓛) h.is_open _ refl $ done !))))
