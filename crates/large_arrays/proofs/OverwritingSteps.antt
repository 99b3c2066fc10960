-- Branches of a run that are written over one after another.
use Rattle.std.proofs.Common.{◌≡◌, ℕ, ◌+◌, ◌-◌, ◌<◌, ◌≤◌, min, true, false, List, [], ◌∷◌, ◌++◌, length, take, drop, map, get_or, replicate, Option, None, Some, unwrap_or, refl, sym, ap, ap₂, subst, ◌∙◌, inl, inr, arith, length-drop}
use Rattle.std.proofs.lemmas.List.{length-map, length-take, take_more, take-map, take_all, drop_more, get_or-map, take-append-drop}
use Rattle.std.proofs.lemmas.List.Sums.{sum_by-append, sum_by-cons}
use Rattle.std.proofs.lemmas.Slice.Zip.{firsts-zip, get_or-zip}
use borrow.Author.Count.{below_more}
use Rattle.std.specs.List.{Contains, splice, zip}
use Rattle.geos_model.specs.ElementArray.{all_distinct}
use Rattle.geos_model.specs.Document.{Document, is_live, is_raw, raw_bytes_of}
use Rattle.geos_model.specs.Heap.{capacity}
use Rattle.chunk_edits.specs.Patching.{PatchPiece, ArePiecesOf, PatchLeads, patched, peak}
use Rattle.geos_model.proofs.Chains.{contains_first}
use Rattle.geos_model.specs.declared.fault.Fault.{Fault}
use Rattle.vm_store.specs.Facts.{StoreFacts}
use Rattle.vm_blocks.specs.State.{CacheState}
use Rattle.vm_blocks.specs.Keeping.{KeepsBlocks, IsHonest, IsEnvironmentFault}
use Rattle.vm_blocks.specs.Preparing.{CanApplyAllByHandle}
use Rattle.vm_blocks.proofs.KeepingLaws.{keeps-refl, keeps-same, keeps-trans, lacks-later}
use Rattle.vm_chains.specs.Walking.{Stops}
use Rattle.vm_chains.proofs.Loading.{still_live}
use Rattle.vm_blocks.specs.declared.change.Change.{Change}
use Rattle.vm_chains.proofs.WalkLemmas.{raw_live}
use Rattle.geos_model.specs.Pieces.{BranchPiece, elements_in_pieces}
use Rattle.geos_model.specs.LargeLayout.{branch_bytes}
use Rattle.geos_model.specs.Spread.{overwritten}
use Rattle.large_arrays.specs.ChangePlans.{piece_bodies, ArePlanned, ArePlannedByHandle, IsUntouched}
use Rattle.large_arrays.specs.LargeRuns.{are_branches_under, pieces_under}
use Rattle.large_arrays.specs.Loading.{branch_under}
use Rattle.large_arrays.specs.OverwritingPlans.{AddsByHandle, AreBranchesWritten, WritesBranch}
use Rattle.large_bodies.specs.SizedElements.{SizedElements}
use Rattle.large_arrays.specs.Spots.{counts_of, link_handles}
use Rattle.large_arrays.specs.WrittenPieces.{written_piece}
use Rattle.large_arrays.specs.declared.spot.BranchLink.{BranchLink}
use Rattle.geos_model.proofs.BranchBytes.{branch_of-is}
use Rattle.large_arrays.proofs.CopiedRuns.{tested-step, tested-none, tested-done}
use Rattle.geos_model.proofs.DistinctHandles.{distinct-parts}
use Rattle.large_arrays.proofs.LoadedBranches.{under-raw}
use Rattle.large_arrays.proofs.Marking.{no_link, handle_at}
use Rattle.geos_model.proofs.OverwrittenPieces.{sum, sum-lengths}
use Rattle.large_arrays.proofs.PlannedChanges.{none_planned}
use Rattle.large_arrays.proofs.RootFacts.{piece_under, length-piece}
use Rattle.large_arrays.proofs.WrittenBranches.{written-part}
use Rattle.large_arrays.proofs.WrittenLemmas.{written-piece, length-overwritten}

-- the branches as if none had a body, by which alone their handles are known
abbrev pub bare_bodies : List BranchLink → List (ℕ × List ℕ)
bare_bodies links = map (λ l. (l.handle.0, [])) links

-- what a run comes to
abbrev pub run_bodies : Document → List BranchLink → ℕ → SizedElements → List (ℕ × List ℕ)
run_bodies d links start new = piece_bodies new.size (zip (link_handles links) (overwritten (pieces_under d new.size links) start new.elements))

-- what a patch makes of a branch, planned behind other changes
pub branch-written : (d : Document) (link : BranchLink) (from : ℕ) (part : SizedElements) (old new : List Change) (xs : BranchPiece) (patch : List PatchPiece)
    → part.size < 65536 → branch_under d link.handle.0 part.size link.count ≡ Some xs
    → PatchLeads patch (branch_bytes part.size xs) (branch_bytes part.size (splice xs from (from + length part.elements) part.elements)) → peak patch ≤ capacity
    → ((e : Document) (freed : List ℕ) (bodies : List (ℕ × List ℕ)) → ArePlanned old e freed bodies → IsUntouched freed bodies link.handle.0 → is_raw e link.handle.0 ≡ true
    → ArePiecesOf patch (raw_bytes_of e link.handle.0) → peak patch ≤ capacity → ArePlanned new e freed (bodies ++ (link.handle.0, patched patch (raw_bytes_of e link.handle.0)) ∷ []))
    → AddsByHandle old new link.handle.0 → WritesBranch d link from part old new
branch-written d link from part old new xs patch small found leads low plans listed =
    let h : ℕ = link.handle.0 in
    let raw = under-raw d h part.size link.count xs found in
    let bytes : branch_bytes part.size xs ≡ raw_bytes_of d h = (branch_of-is part.size link.count (raw_bytes_of d h) xs small raw.1).1 in
    record {
      elements = xs;
      branch = found;
      adds = λ freed bodies planned untouched.
          subst (λ (body : List ℕ). ArePlanned new d freed (bodies ++ (h, body) ∷ [])) (ap (patched patch) (sym bytes) ∙ leads.gives)
          (plans d freed bodies planned untouched raw.0 (subst (ArePiecesOf patch) bytes leads.stands) low);
      listed = listed;
    }

-- as many elements in each as its link says
pub lengths-under : (d : Document) (size : ℕ) (links : List BranchLink) → size < 65536 → map length (pieces_under d size links) ≡ counts_of links
lengths-under d size [] small = refl
lengths-under d size (l ∷ links) small = ap₂ (λ (n : ℕ) (ns : List ℕ). n ∷ ns) (length-piece d l.handle.0 size l.count small) (lengths-under d size links small)

-- a handle isn't among those before it
untouched-before : (hs : List ℕ) (k : ℕ) → k < length hs → all_distinct hs ≡ true → Contains (take k hs) (get_or hs k 0) → ⊥
untouched-before hs k low once there =
    let parts = distinct-parts (take k hs) (drop k hs) (ap all_distinct (take-append-drop k hs) ∙ once) in
    parts.2 (get_or hs k 0) there (subst (λ (xs : List ℕ). Contains xs (get_or hs k 0)) (sym (drop_more hs k 0 low)) (contains_first (get_or hs k 0) (drop (k + 1) hs)))

untouched : (bodies : List (ℕ × List ℕ)) (hs : List ℕ) (k h : ℕ) → map (λ p. p.0) bodies ≡ hs → k < length hs → all_distinct hs ≡ true → h ≡ get_or hs k 0
    → IsUntouched [] (take k bodies) h
untouched bodies hs k h firsts low once is = record {
  stays = λ there. absurd (let none = there.1 in omega arith);
  other = λ there. untouched-before hs k low once
      (subst (Contains (take k hs)) is (subst (λ (xs : List ℕ). Contains xs h) (sym (take-map (λ (p : ℕ × List ℕ). p.0) k bodies) ∙ ap (take k) firsts) there));
}

handles-many : (links : List BranchLink) → length (link_handles links) ≡ length links
handles-many links = length-map links (λ (l : BranchLink). l.handle.0)

-- As many bodies as branches, under their handles.
module _ (d : Document) (links : List BranchLink) (start : ℕ) (new : SizedElements) where
  abbrev ps : List BranchPiece
  ps = pieces_under d new.size links

  abbrev over : List BranchPiece
  over = overwritten ps start new.elements

  pieces-many : length ps ≡ length links
  pieces-many = length-map links (λ (l : BranchLink). piece_under d l.handle.0 new.size l.count)

  over-many : length over ≡ length links
  over-many = length-overwritten ps start new.elements ∙ length-map ps length ∙ pieces-many

  zip-first : map (λ p. p.0) (zip (link_handles links) over) ≡ link_handles links
  zip-first = firsts-zip (link_handles links) over (over-many ∙ sym (handles-many links))

  zip-many : length (zip (link_handles links) over) ≡ length links
  zip-many = sym (length-map (zip (link_handles links) over) (λ (p : ℕ × BranchPiece). p.0)) ∙ ap length zip-first ∙ handles-many links

  pub bodies-many : length (run_bodies d links start new) ≡ length links
  bodies-many = length-map (zip (link_handles links) over) (λ (p : ℕ × BranchPiece). (p.0, branch_bytes new.size p.1)) ∙ zip-many

  pub bodies-first : map (λ p. p.0) (run_bodies d links start new) ≡ link_handles links
  bodies-first = mapped (zip (link_handles links) over) ∙ zip-first
    where
      mapped : (qs : List (ℕ × BranchPiece)) → map (λ p. p.0) (piece_bodies new.size qs) ≡ map (λ p. p.0) qs
      mapped [] = refl
      mapped (q ∷ qs) = ap (λ (xs : List ℕ). q.0 ∷ xs) (mapped qs)

  pub planned-done : (k : ℕ) (changes : List Change) → length links ≤ k → ArePlanned changes d [] (take k (run_bodies d links start new))
      → ArePlanned changes d [] (run_bodies d links start new)
  planned-done k changes past before =
      let all = bodies-many in subst (ArePlanned changes d []) (take_all k (run_bodies d links start new) (omega arith)) before

module _ (links : List BranchLink) (k : ℕ) (link : BranchLink) (low : k < length links) (is : link ≡ get_or links k no_link) where
  abbrev hs : List ℕ
  hs = link_handles links

  handle-is : link.handle.0 ≡ get_or hs k 0
  handle-is = ap (λ (l : BranchLink). l.handle.0) is ∙ sym (handle_at links k no_link low)

  within : k < length hs
  within = let all = handles-many links in omega arith

  -- it is live
  pub live-here : (d : Document) (from : ℕ) (part : SizedElements) (old changes : List Change) → WritesBranch d link from part old changes → is_live d (get_or hs k 0) ≡ true
  live-here d from part old changes writes =
      ap (is_live d) (sym handle-is) ∙ raw_live d link.handle.0 (under-raw d link.handle.0 part.size link.count writes.elements writes.branch).0

  module _ (once : all_distinct (link_handles links) ≡ true) where
    -- by handles alone
    pub listed-step : (d : Document) (old new : List Change) → AddsByHandle old new link.handle.0 → is_live d (get_or hs k 0) ≡ true
        → ArePlannedByHandle old d [] (take k (bare_bodies links)) → ArePlannedByHandle new d [] (take (k + 1) (bare_bodies links))
    listed-step d old new adds live before =
        let here : get_or (bare_bodies links) k (0, []) ≡ (link.handle.0, []) =
        get_or-map (λ (l : BranchLink). (l.handle.0, [])) links k no_link (0, []) low ∙ ap (λ (l : BranchLink). (l.handle.0, [])) (sym is) in
        let long : length (bare_bodies links) ≡ length links = length-map links (λ (l : BranchLink). (l.handle.0, [])) in
        subst (ArePlannedByHandle new d []) (sym (take_more (bare_bodies links) k (0, []) (omega arith) ∙ ap (λ (p : ℕ × List ℕ). take k (bare_bodies links) ++ p ∷ []) here))
        (adds d [] (take k (bare_bodies links)) [] before (untouched (bare_bodies links) hs k link.handle.0 (firsts links) within once handle-is) (ap (is_live d) handle-is ∙ live))
      where
        firsts : (ls : List BranchLink) → map (λ p. p.0) (bare_bodies ls) ≡ link_handles ls
        firsts [] = refl
        firsts (l ∷ ls) = ap (λ (xs : List ℕ). l.handle.0 ∷ xs) (firsts ls)

    module _ (d : Document) (start : ℕ) (new : SizedElements) (small : new.size < 65536) (enough : start + length new.elements ≤ sum (counts_of links)) where
      abbrev cs : List ℕ
      cs = counts_of links

      abbrev qs : List BranchPiece
      qs = pieces_under d new.size links

      abbrev all_over : List BranchPiece
      all_over = overwritten qs start new.elements

      abbrev bodies : List (ℕ × List ℕ)
      bodies = run_bodies d links start new

      -- the body at a place
      body-at : (piece : BranchPiece) → get_or all_over k [] ≡ piece → get_or bodies k (0, []) ≡ (link.handle.0, branch_bytes new.size piece)
      body-at piece at =
          let all = over-many d links start new in
          let zipped = zip-many d links start new in
          let here = within in
          get_or-map (λ (p : ℕ × BranchPiece). (p.0, branch_bytes new.size p.1)) (zip hs all_over) k (0, []) (0, []) (omega arith)
          ∙ ap (λ (p : ℕ × BranchPiece). (p.0, branch_bytes new.size p.1)) (get_or-zip hs all_over k (0, []) here (omega arith))
          ∙ (λ j. (sym handle-is j, branch_bytes new.size (at j)))

      module _ (from done : ℕ) (part : SizedElements) (old changes : List Change) (first : from ≤ link.count) (from_is : from ≡ start - sum (take k cs))
          (done_is : done ≡ min (length new.elements) (sum (take k cs) - start)) (part_is : part ≡ record { size = new.size; elements = take (link.count - from) (drop done new.elements) })
          (writes : WritesBranch d link from part old changes) where
        abbrev xs : BranchPiece
        xs = writes.elements

        found : branch_under d link.handle.0 new.size link.count ≡ Some xs
        found = ap (λ (p : SizedElements). branch_under d link.handle.0 p.size link.count) (sym part_is) ∙ writes.branch

        counted : length xs ≡ link.count
        counted = (branch_of-is new.size link.count (raw_bytes_of d link.handle.0) xs small (under-raw d link.handle.0 new.size link.count xs found).1).0

        piece-here : get_or qs k [] ≡ xs
        piece-here =
            get_or-map (λ (l : BranchLink). piece_under d l.handle.0 new.size l.count) links k no_link [] low
            ∙ ap (λ (l : BranchLink). piece_under d l.handle.0 new.size l.count) (sym is)
            ∙ ap (λ (o : Option BranchPiece). unwrap_or o (replicate link.count (replicate new.size 0))) found

        written-here : get_or all_over k [] ≡ splice xs from (from + length part.elements) part.elements
        written-here =
            let all = pieces-many d links start new in
            let lengths = lengths-under d new.size links small in
            let whole : sum cs ≡ length (elements_in_pieces qs) = ap sum (sym lengths) ∙ sum-lengths qs in
            let long = counted in
            let elements : part.elements ≡ take (length xs - from) (drop done new.elements) =
            ap (λ (p : SizedElements). p.elements) part_is ∙ ap (λ (n : ℕ). take (n - from) (drop done new.elements)) (sym counted) in
            written-piece qs start new.elements k (omega arith) (omega arith)
            ∙ (λ j. written_piece (sum (take k (lengths j))) (piece-here j) start new.elements)
            ∙ sym (written-part xs new.elements part.elements (sum (take k cs)) start from done from_is done_is (omega arith) elements)

        pub planned-step : ArePlanned old d [] (take k bodies) → ArePlanned changes d [] (take (k + 1) bodies)
        planned-step before =
            let all = bodies-many d links start new in
            let size : part.size ≡ new.size = ap (λ (p : SizedElements). p.size) part_is in
            let spliced : BranchPiece = splice xs from (from + length part.elements) part.elements in
            let here : get_or bodies k (0, []) ≡ (link.handle.0, branch_bytes part.size spliced) =
            body-at spliced written-here ∙ ap (λ (n : ℕ). (link.handle.0, branch_bytes n spliced)) (sym size) in
            subst (ArePlanned changes d []) (sym (take_more bodies k (0, []) (omega arith) ∙ ap (λ (p : ℕ × List ℕ). take k bodies ++ p ∷ []) here))
            (writes.adds [] (take k bodies) before (untouched bodies hs k link.handle.0 (bodies-first d links start new) within once handle-is))

  pub there-step : (d : Document) (size from : ℕ) (part : SizedElements) (old changes : List Change) → part.size ≡ size → WritesBranch d link from part old changes
      → are_branches_under d size (take k links) ≡ true → are_branches_under d size (take (k + 1) links) ≡ true
  there-step d size from part old changes same writes before =
      tested-step d size links k writes.elements low before
      (ap (λ (l : BranchLink). branch_under d l.handle.0 size l.count) (sym is) ∙ ap (λ (n : ℕ). branch_under d link.handle.0 n link.count) (sym same) ∙ writes.branch)

-- ---- so many branches of a run are written over, over a store

-- up to a branch of which so many elements stand before what is written, with so many left to write
pub record AreOverwritten {S : Type 0} (facts : S → StoreFacts) (a b : CacheState S) (links : List BranchLink) (start : ℕ) (new : SizedElements) (k from left : ℕ) (changes : List Change)
    : Type 0 where
  pub keeps : KeepsBlocks facts a b
  pub first : k < length links → from ≤ get_or (counts_of links) k 0
  pub from_is : from ≡ start - sum (take k (counts_of links))
  pub left_is : left ≡ length new.elements - (sum (take k (counts_of links)) - start)
  pub many : length changes ≡ k
  pub live : (j : ℕ) → j < k → is_live b.document (get_or (link_handles links) j 0) ≡ true
  pub listed : (d : Document) → ((j : ℕ) → j < k → is_live d (get_or (link_handles links) j 0) ≡ true) → ArePlannedByHandle changes d [] (take k (bare_bodies links))
  pub there : IsHonest facts a.disk.store → are_branches_under a.document new.size (take k links) ≡ true
  pub planned : IsHonest facts a.disk.store → start + length new.elements ≤ sum (counts_of links) → ArePlanned changes a.document [] (take k (run_bodies a.document links start new))

sum-more : (cs : List ℕ) (k : ℕ) → k < length cs → sum (take (k + 1) cs) ≡ sum (take k cs) + get_or cs k 0
sum-more cs k low =
    let one : sum (get_or cs k 0 ∷ []) ≡ get_or cs k 0 + 0 = sum_by-cons (λ (c : ℕ). c) (get_or cs k 0) [] in
    let all : sum (take (k + 1) cs) ≡ sum (take k cs) + sum (get_or cs k 0 ∷ []) = ap sum (take_more cs k 0 low) ∙ sum_by-append (λ (c : ℕ). c) (take k cs) (get_or cs k 0 ∷ []) in
    omega arith

module _ {S : Type 0} (facts : S → StoreFacts) (links : List BranchLink) (start : ℕ) (new : SizedElements) where
  pub overwritten-none : (a : CacheState S) (left : ℕ) (changes : List Change) → left ≡ length new.elements → changes ≡ [] → (0 < length links → start ≤ get_or (counts_of links) 0 0)
      → AreOverwritten facts a a links start new 0 start left changes
  overwritten-none a left changes all_left none first = record {
    keeps = keeps-refl facts a;
    first = first;
    from_is = omega arith;
    left_is = omega arith;
    many = ap length none;
    live = λ j low. absurd (omega arith);
    listed = λ d all. subst (λ (cs : List Change). ArePlannedByHandle cs d [] []) (sym none) (record { applies = tt; live = λ h. refl; map_block = refl });
    there = λ steady. refl;
    planned = λ steady enough. subst (λ (cs : List Change). ArePlanned cs a.document [] []) (sym none) (none_planned a.document);
  }

  -- one branch more
  module _ (k from left : ℕ) (link : BranchLink) (part : SizedElements) (old changes : List Change) (low : k < length links) (is : link ≡ get_or links k no_link)
      (once : all_distinct (link_handles links) ≡ true) (small : new.size < 65536) (part_is : part ≡ record { size = new.size; elements = take (link.count - from) (drop (length new.elements - left) new.elements) }) where
    pub overwritten-more : (a b e : CacheState S) (after : ℕ) → AreOverwritten facts a b links start new k from left old → KeepsBlocks facts b e → WritesBranch e.document link from part old changes
        → length changes ≡ length old + 1 → after ≡ left - length part.elements → AreOverwritten facts a e links start new (k + 1) 0 after changes
    overwritten-more a b e after so keeps writes one after_is =
        let cs = counts_of links in
        let long = length-map links (λ (l : BranchLink). l.count) in
        let more = sum-more cs k (omega arith) in
        let count : link.count ≡ get_or cs k 0 = ap (λ (l : BranchLink). l.count) is ∙ sym (get_or-map (λ (l : BranchLink). l.count) links k no_link 0 low) in
        let first = so.first low in
        let from_was = so.from_is in
        let left_was = so.left_is in
        let done : ℕ = length new.elements - left in
        let done_was : done ≡ min (length new.elements) (sum (take k cs) - start) = omega arith in
        let within : from ≤ link.count = omega arith in
        let elements : length part.elements ≡ min (link.count - from) (length new.elements - done) =
        ap (λ (p : SizedElements). length p.elements) part_is ∙ length-take (link.count - from) (drop done new.elements) ∙ ap (min (link.count - from)) (length-drop done new.elements) in
        let all = keeps-trans facts a b e so.keeps keeps in
        let here : IsHonest facts a.disk.store → WritesBranch a.document link from part old changes =
        λ steady. subst (λ (d : Document). WritesBranch d link from part old changes) (keeps-same facts a e all steady) writes in
        record {
          keeps = all;
          first = λ _. omega arith;
          from_is = omega arith;
          left_is = omega arith;
          many = one ∙ ap (λ (n : ℕ). n + 1) so.many;
          live = λ j below. below_more (λ (m : ℕ). is_live e.document (get_or (link_handles links) m 0) ≡ true) k (λ m less. still_live facts b e keeps (get_or (link_handles links) m 0) (so.live m less))
              (live-here links k link low is e.document from part old changes writes) j below;
          listed = λ d live. listed-step links k link low is once d old changes writes.listed (live k (omega arith)) (so.listed d (λ j below. live j (omega arith)));
          there = λ steady. there-step links k link low is a.document new.size from part old changes (ap (λ (p : SizedElements). p.size) part_is) (here steady) (so.there steady);
          planned = λ steady enough. planned-step links k link low is once a.document start new small enough from done part old changes within from_was done_was part_is (here steady) (so.planned steady enough);
        }

    -- or it isn't one
    pub overwritten-stops : (a b e : CacheState S) (fault : Fault) → AreOverwritten facts a b links start new k from left old
        → Stops (IsEnvironmentFault facts b.disk.store e.disk.store) (branch_under e.document link.handle.0 part.size link.count ≡ None) fault
        → Stops (IsEnvironmentFault facts a.disk.store e.disk.store) (are_branches_under e.document new.size links ≡ false) fault
    overwritten-stops a b e fault so (inl lack) = inl (lacks-later facts a b e.disk.store fault so.keeps lack)
    overwritten-stops a b e fault so (inr bad) =
        inr (bad.0, tested-none e.document new.size links k link low is (ap (λ (p : SizedElements). branch_under e.document link.handle.0 p.size link.count) (sym part_is) ∙ bad.1))

  -- all
  module _ (a b : CacheState S) (k from left : ℕ) (changes : List Change) (so : AreOverwritten facts a b links start new k from left changes) (past : length links ≤ k) where
    pub overwritten-all : IsHonest facts a.disk.store → start + length new.elements ≤ sum (counts_of links) → AreBranchesWritten b.document links start new changes
    overwritten-all steady enough =
        subst (λ (d : Document). AreBranchesWritten d links start new changes) (sym (keeps-same facts a b so.keeps steady)) (record {
          there = tested-done a.document new.size links k past (so.there steady);
          planned = planned-done a.document links start new k changes past (so.planned steady enough);
        })

    pub overwritten-listed : CanApplyAllByHandle changes b.document
    overwritten-listed = (so.listed b.document so.live).applies
