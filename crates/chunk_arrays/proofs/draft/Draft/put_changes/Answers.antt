use Rattle.std.proofs.Common.{List, ℕ, ◌-◌, ◌∙◌, length, refl, sym}
use Rattle.std.proofs.lemmas.List.{take_rest}
use Rattle.chunk_arrays.proofs.AlikeLemmas.{first-is, last-is}
use Rattle.chunk_arrays.proofs.DraftingLemmas.{adds-as, adds-around}
use Rattle.chunk_arrays.proofs.draft.Draft.put_changes.Goals as goal

pub returns : goal.returns
returns c =
    let old : List ℕ = c.args.old.now in
    let new : List ℕ = c.args.new.now in
    let d = c.compare-changed.result in
    let differs = c.compare-changed.ensures in
    let front = first-is old new d differs in
    let back = take_rest old (length old - d.back) ∙ last-is old new d differs in
    adds-as c.args.self.now c.keep-2.new.self _ _ old new (sym differs.old_is) (sym differs.new_is)
    (adds-around c.args.self.now c.keep.new.self c.put-2.new.self c.keep-2.new.self differs.first differs.first d.old.now d.new.now differs.last differs.last refl refl
    (adds-as c.args.self.now c.keep.new.self _ _ differs.first differs.first front front c.keep.ensures)
    c.in_ok-put.ensures
    (adds-as c.put-2.new.self c.keep-2.new.self _ _ differs.last differs.last back back c.keep-2.ensures))
