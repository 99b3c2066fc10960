-- Changes that are being carried out in memory, the last one first.
use Rattle.std.proofs.Common.{◌≡◌, ◌-◌, ◌+◌, ◌≤◌, ◌<◌, ◌∷◌, [], ℕ, List, length, take, drop, get_or, drop_of_length-le, arith, refl, sym, ap, subst, ◌∙◌}
use Rattle.std.proofs.lemmas.List.{take_all}
use Rattle.geos_model.specs.Document.{Document}
use Rattle.chunk_edits.specs.Directions.{opposite}
use Rattle.chunk_edits.specs.declared.direction.Direction.{Direction}
use Rattle.vm_blocks.specs.State.{CacheState}
use Rattle.vm_blocks.specs.Changes.{directed, directed_all}
use Rattle.vm_blocks.specs.InMemory.{AllFit, AreListed, CanTakeBack, FitsInPlace, IsListed, IsReversible, all_in_place, all_taken_back, carried, in_place}
use Rattle.vm_blocks.specs.Preparing.{AreInMemory, IsInMemory}
use Rattle.vm_blocks.specs.declared.change.Change.{Change}
use Rattle.vm_blocks.proofs.Reversing.{all_in_memory_on, next_done, next_left}

-- The first ones of the changes, so many, are left: they are to be carried out in what the others made, and these can
-- be taken back.
pub record UnderWay {S : Type 0} (direction : Direction) (cs : List Change) (rest : ℕ) (old now : CacheState S) : Type 0 where
  pub within : rest ≤ length cs
  pub state : now ≡ record old { document = now.document }
  pub listed : AreListed (directed_all direction (take rest cs)) now.document
  pub made : all_in_place (directed_all direction (take rest cs)) now.document ≡ all_in_place (directed_all direction cs) old.document
  pub fit : AllFit (directed_all direction cs) old.document → AllFit (directed_all direction (take rest cs)) now.document
  pub here : AreInMemory (directed_all direction cs) old → AreInMemory (directed_all direction (take rest cs)) now
  pub can : CanTakeBack direction (drop rest cs) now
  pub back : all_taken_back direction (drop rest cs) now ≡ old

module _ {S : Type 0} (direction : Direction) (cs : List Change) (old : CacheState S) where
  none_done : drop (length cs) cs ≡ []
  none_done = drop_of_length-le cs (omega arith)

  pub begins : AreListed (directed_all direction cs) old.document → UnderWay direction cs (length cs) old old
  begins listed =
      let all : take (length cs) cs ≡ cs = take_all (length cs) cs (omega arith) in
      record {
        within = omega arith;
        state = refl;
        listed = subst (λ (xs : List Change). AreListed (directed_all direction xs) old.document) (sym all) listed;
        made = ap (λ (xs : List Change). all_in_place (directed_all direction xs) old.document) all;
        fit = λ fit. subst (λ (xs : List Change). AllFit (directed_all direction xs) old.document) (sym all) fit;
        here = λ here. subst (λ (xs : List Change). AreInMemory (directed_all direction xs) old) (sym all) here;
        can = subst (λ (xs : List Change). CanTakeBack direction xs old) (sym none_done) tt;
        back = ap (λ (xs : List Change). all_taken_back direction xs old) none_done;
      }

  pub ends : (rest : ℕ) (now : CacheState S) → rest ≡ 0 → UnderWay direction cs rest old now → now ≡ record old { document = all_in_place (directed_all direction cs) old.document }
  ends rest now none w =
      w.state ∙ ap (λ (d : Document). record old { document = d }) (ap (λ (n : ℕ). all_in_place (directed_all direction (take n cs)) now.document) (sym none) ∙ w.made)

  module _ (rest : ℕ) (now : CacheState S) (w : UnderWay direction cs rest old now) (some : 0 < rest) (change : Change) (is : change ≡ get_or cs (rest - 1) change) where
    abbrev k : ℕ
    k = rest - 1

    abbrev one : Change
    one = directed direction change

    abbrev others : List Change
    others = directed_all direction (take k cs)

    less : k < length cs
    less = let within = w.within in omega (arith, some, within)

    up : k + 1 ≡ rest
    up = omega (arith, some)

    left : directed_all direction (take rest cs) ≡ one ∷ others
    left = ap (λ (n : ℕ). directed_all direction (take n cs)) (sym up) ∙ next_left direction cs k less change ∙ ap (λ (x : Change). directed direction x ∷ others) (sym is)

    done : drop k cs ≡ change ∷ drop rest cs
    done = next_done direction cs k less change ∙ ap (λ (x : Change). x ∷ drop (k + 1) cs) (sym is) ∙ ap (λ (n : ℕ). change ∷ drop n cs) up

    both_listed : AreListed (one ∷ others) now.document
    both_listed = subst (λ (xs : List Change). AreListed xs now.document) left w.listed

    pub next_listed : IsListed one now.document
    next_listed = both_listed.0

    pub next_fits : AllFit (directed_all direction cs) old.document → FitsInPlace one now.document
    next_fits fit = (subst (λ (xs : List Change). AllFit xs now.document) left (w.fit fit)).0

    pub next_here : AreInMemory (directed_all direction cs) old → IsInMemory one now
    next_here here = (subst (λ (xs : List Change). AreInMemory xs now) left (w.here here)).0

    pub goes_on : (new : CacheState S) → IsReversible direction change now → new ≡ carried one now → UnderWay direction cs k old new
    goes_on new reversible is_new = subst (UnderWay direction cs k old) (sym is_new) (
        let again : carried (directed (opposite direction) change) (carried one now) ≡ now = ap (λ (d : Document). record now { document = d }) reversible.gives in
        record {
          within = (let within = w.within in omega (arith, within));
          state = ap (λ (s : CacheState S). record s { document = in_place one now.document }) w.state;
          listed = both_listed.1;
          made = ap (λ (xs : List Change). all_in_place xs now.document) (sym left) ∙ w.made;
          fit = λ fit. (subst (λ (xs : List Change). AllFit xs now.document) left (w.fit fit)).1;
          here = λ here. all_in_memory_on others one now both_listed.0 (subst (λ (xs : List Change). AreInMemory xs now) left (w.here here)).1;
          can = subst (λ (xs : List Change). CanTakeBack direction xs (carried one now)) (sym done) (reversible.back, subst (CanTakeBack direction (drop rest cs)) (sym again) w.can);
          back = ap (λ (xs : List Change). all_taken_back direction xs (carried one now)) done ∙ ap (all_taken_back direction (drop rest cs)) again ∙ w.back;
        })
