-- A document in which some branches of a large array are replaced by others is that of the array with others in the
-- place of those pieces.
use Rattle.std.proofs.Common.{◌≡◌, ℕ, ◌+◌, ◌-◌, ◌≤◌, true, false, not, ◌==◌, List, [], ◌∷◌, ◌++◌, length, take, drop, map, Option, Some, None, is_some, unwrap_or, refl, sym, ap, ap₂, subst, ◌∙◌, ◌⊎◌, inl, inr, arith}
use Rattle.std.proofs.lemmas.Bool.{cases_Bool, eqb-true, eq-eqb, true≢false}
use Rattle.std.proofs.lemmas.List.{take-append-drop, drop-drop, map-append}
use Rattle.std.proofs.lemmas.List.{take-map, drop-map}
use Rattle.std.proofs.lemmas.List.Elements.{Contains-append_left, Contains-append_right, Contains-append_cases}
use Rattle.std.specs.List.{AllZip, Contains, splice}
use Rattle.std.specs.Option.{option_map_or}
use Rattle.std.specs.FinMap.{get}
use Rattle.geos_model.specs.ElementArray.{all_distinct}
use Rattle.geos_model.specs.Document.{Block, Document, IsValid, is_vm_handle, is_heap_body, bytes_of_body, no_attributes, is_live, is_raw, raw_bytes_of, attributes_of}
use Rattle.geos_model.specs.Chain.{chain_blocks}
use Rattle.geos_model.specs.declared.command.Body.TheVariants.{Raw}
use Rattle.geos_model.proofs.Chains.{contains_cases, contains_first, contains_later, chain-members}
use Rattle.geos_model.proofs.BlockLists.{distinct-first, distinct-rest}
use Rattle.geos_model.specs.Pieces.{BranchPiece, all_fit, elements_in_pieces, are_spread}
use Rattle.geos_model.specs.LargeLayout.{Root, root_bytes, is_root}
use Rattle.geos_model.specs.LargeBlocks.{pieces_at}
use Rattle.geos_model.specs.LargeEditLaws.{IsEdited}
use Rattle.geos_model.specs.LargeChangeLaws.{HasOtherBytes}
use Rattle.geos_model.proofs.Layouts.{HasBranch, HasLayout, all_sized, layout-root, layout-pieces, layout-chain, layout-array}
use Rattle.geos_model.proofs.Pairs.{pairs-length, pairs-append, pairs-take, pairs-drop}
use Rattle.geos_model.proofs.DistinctHandles.{contained-few, distinct-cons, distinct-append, distinct-parts, there_before, there_behind}

-- a raw block under a handle
pub raw-there : (d : Document) (h : ℕ) (block : Block) (bytes : List ℕ) → get d.blocks h ≡ Some block → block.body ≡ Raw bytes
    → (is_raw d h ≡ true) × (raw_bytes_of d h ≡ bytes)
raw-there d h block bytes there raw = (
  ap (λ (o : Option Block). option_map_or (λ x. not (is_heap_body x.body)) o false) there ∙ ap (λ body. not (is_heap_body body)) raw,
  ap (λ (o : Option Block). option_map_or (λ x. bytes_of_body x.body) o []) there ∙ ap bytes_of_body raw,
)

-- a handle is in a list or not
pub known : (hs : List ℕ) (h : ℕ) → Contains hs h ⊎ (Contains hs h → ⊥)
known [] h = inr (λ there. let low = there.1 in omega arith)
known (x ∷ hs) h = elim (cases_Bool (x == h)) [
  | inl is ↦ inl (subst (Contains (x ∷ hs)) (eqb-true x h is) (contains_first x hs))
  | inr other ↦ elim (known hs h) [
    | inl later ↦ inl (contains_later x hs h later)
    | inr absent ↦ inr (λ there. elim (contains_cases x hs h there) [
      | inl is ↦ true≢false (sym (eq-eqb x h is) ∙ other)
      | inr later ↦ absent later
    ])
  ]
]

-- branches stay where their blocks do
kept : (d new : Document) (size : ℕ) (hs : List ℕ) (ps : List BranchPiece) → AllZip (HasBranch d size) hs ps
    → ((h : ℕ) → Contains hs h → get new.blocks h ≡ get d.blocks h) → AllZip (HasBranch new size) hs ps
kept d new size [] [] all same = tt
kept d new size [] (p ∷ ps) all same = absurd all
kept d new size (h ∷ hs) [] all same = absurd all
kept d new size (h ∷ hs) (p ∷ ps) all same =
    let here = same h (contains_first h hs) in (
      (
        ap (λ (o : Option Block). option_map_or (λ x. not (is_heap_body x.body)) o false) here ∙ (all.0).0,
        ap (λ (o : Option Block). option_map_or (λ x. bytes_of_body x.body) o []) here ∙ (all.0).1,
      ),
      kept d new size hs ps all.1 (λ x there. same x (contains_later h hs x there)),
    )

-- how many elements each piece has, with others in the place of some
pub counts-spliced : (counts : List ℕ) (first behind : ℕ) (pieces placed : List BranchPiece) → counts ≡ map length pieces
    → splice counts first behind (map length placed) ≡ map length (splice pieces first behind placed)
counts-spliced counts first behind pieces placed is =
    let size : BranchPiece → ℕ = λ p. length p in
    ap (λ (cs : List ℕ). splice cs first behind (map size placed)) is
    ∙ ap₂ (λ (xs ys : List ℕ). xs ++ (map size placed ++ ys)) (take-map size first pieces) (drop-map size behind pieces)
    ∙ ap (λ (xs : List ℕ). map size (take first pieces) ++ xs) (sym (map-append size placed (drop behind pieces)))
    ∙ sym (map-append size (take first pieces) (placed ++ drop behind pieces))

-- What comes in the place of some branches.
module _ (d : Document) (b : ℕ) (r : Root) (pieces : List BranchPiece) (first behind : ℕ) (news freed : List ℕ) (placed : List BranchPiece) where
  abbrev pub front : List ℕ
  front = take first r.branches

  abbrev pub olds : List ℕ
  olds = take (behind - first) (drop first r.branches)

  abbrev pub back : List ℕ
  back = drop behind r.branches

  abbrev pub new_branches : List ℕ
  new_branches = splice r.branches first behind news

  abbrev pub new_pieces : List BranchPiece
  new_pieces = splice pieces first behind placed

  abbrev pub new_root : Root
  new_root = record { size = r.size; counts = splice r.counts first behind (map length placed); branches = new_branches }

  -- The handles of those that come are handles of those that go, or free ones.
  pub record AreNamed : Type 0 where
    pub order : first ≤ behind
    pub within : behind ≤ length pieces
    pub as_many : length news ≡ length placed
    pub once : all_distinct news ≡ true
    pub from : (h : ℕ) → Contains news h → Contains olds h ⊎ ((is_vm_handle h ≡ true) × (is_live d h ≡ false))
    pub freed_old : (h : ℕ) → Contains freed h → Contains olds h
    pub freed_not : (h : ℕ) → Contains freed h → Contains news h → ⊥
    pub freed_all : (h : ℕ) → Contains olds h → (Contains news h → ⊥) → Contains freed h

  -- The blocks of a document after it.
  pub record AreReplaced (new : Document) : Type 0 where
    pub valid : IsValid new
    pub map_block : new.map_block ≡ d.map_block
    pub root : get new.blocks b ≡ Some (record { attributes = attributes_of d b; body = Raw (root_bytes new_root) })
    pub put : AllZip (HasBranch new r.size) news placed
    pub elsewhere : (h : ℕ) → (Contains (b ∷ news) h → ⊥) → (Contains freed h → ⊥) → get new.blocks h ≡ get d.blocks h
    pub gone : (h : ℕ) → Contains freed h → get new.blocks h ≡ None

  -- Its pieces can be those of branches.
  pub record AreGood : Type 0 where
    pub is : is_root new_root ≡ true
    pub fit : all_fit r.size new_pieces ≡ true
    pub sized : all_sized r.size new_pieces ≡ true

  module _ (valid : IsValid d) (has : HasLayout d b r pieces) (named : AreNamed) where
    as_many : length r.branches ≡ length pieces
    as_many = pairs-length (HasBranch d r.size) r.branches pieces has.branches

    -- the branches in three parts
    parts : r.branches ≡ front ++ (olds ++ back)
    parts =
        let order = named.order in
        let sum : first + (behind - first) ≡ behind = omega arith in
        sym (take-append-drop first r.branches)
        ∙ ap (λ (xs : List ℕ). front ++ xs) (sym (take-append-drop (behind - first) (drop first r.branches))
        ∙ ap (λ (xs : List ℕ). olds ++ xs) (drop-drop (behind - first) first r.branches ∙ ap (λ (n : ℕ). drop n r.branches) sum))

    branches_once : all_distinct (front ++ (olds ++ back)) ≡ true
    branches_once = ap all_distinct (sym parts) ∙ distinct-rest b r.branches has.once

    halves : (all_distinct front ≡ true) × (all_distinct (olds ++ back) ≡ true) × ((h : ℕ) → Contains front h → Contains (olds ++ back) h → ⊥)
    halves = distinct-parts front (olds ++ back) branches_once

    thirds : (all_distinct olds ≡ true) × (all_distinct back ≡ true) × ((h : ℕ) → Contains olds h → Contains back h → ⊥)
    thirds = distinct-parts olds back halves.1

    in_front : (h : ℕ) → Contains front h → Contains r.branches h
    in_front h there = there_before first r.branches h there

    in_olds : (h : ℕ) → Contains olds h → Contains r.branches h
    in_olds h there = there_behind first r.branches h (there_before (behind - first) (drop first r.branches) h there)

    in_back : (h : ℕ) → Contains back h → Contains r.branches h
    in_back h there = there_behind behind r.branches h there

    no_root : Contains r.branches b → ⊥
    no_root = distinct-first b r.branches has.once

    live : (h : ℕ) → Contains (b ∷ r.branches) h → is_live d h ≡ true
    live h there = (chain-members d b (b ∷ r.branches) (layout-chain d b r pieces valid has)).live h there

    -- what comes is none of what stays
    news_apart : (h : ℕ) → Contains news h → Contains (b ∷ r.branches) h → (Contains olds h → ⊥) → ⊥
    news_apart h fresh there other = elim (named.from h fresh) [
      | inl old ↦ other old
      | inr free ↦ true≢false (sym (live h there) ∙ free.1)
    ]

    front_apart : (h : ℕ) → Contains front h → Contains news h → ⊥
    front_apart h there fresh =
        news_apart h fresh (contains_later b r.branches h (in_front h there)) (λ old. halves.2 h there (Contains-append_left olds back h old))

    back_apart : (h : ℕ) → Contains news h → Contains back h → ⊥
    back_apart h fresh there = news_apart h fresh (contains_later b r.branches h (in_back h there)) (λ old. thirds.2 h old there)

    pub root_apart : Contains news b → ⊥
    root_apart fresh = news_apart b fresh (contains_first b r.branches) (λ old. no_root (in_olds b old))

    pub once_new : all_distinct (b ∷ new_branches) ≡ true
    once_new =
        let rest : all_distinct (news ++ back) ≡ true = distinct-append news back named.once thirds.1 back_apart in
        distinct-cons b new_branches (λ there. elim (Contains-append_cases front (news ++ back) b there) [
          | inl early ↦ no_root (in_front b early)
          | inr later ↦ elim (Contains-append_cases news back b later) [
            | inl fresh ↦ root_apart fresh
            | inr end ↦ no_root (in_back b end)
          ]
        ])
        (distinct-append front (news ++ back) halves.0 rest (λ h there later. elim (Contains-append_cases news back h later) [
          | inl fresh ↦ front_apart h there fresh
          | inr end ↦ halves.2 h there (Contains-append_right olds back h end)
        ]))

    module _ (new : Document) (replaced : AreReplaced new) (good : AreGood) where
      -- what stays is as it was
      front_kept : (h : ℕ) → Contains front h → get new.blocks h ≡ get d.blocks h
      front_kept h there =
          replaced.elsewhere h (λ at. elim (contains_cases b news h at) [
            | inl is ↦ no_root (subst (Contains r.branches) (sym is) (in_front h there))
            | inr fresh ↦ front_apart h there fresh
          ]) (λ free. halves.2 h there (Contains-append_left olds back h (named.freed_old h free)))

      back_kept : (h : ℕ) → Contains back h → get new.blocks h ≡ get d.blocks h
      back_kept h there =
          replaced.elsewhere h (λ at. elim (contains_cases b news h at) [
            | inl is ↦ no_root (subst (Contains r.branches) (sym is) (in_back h there))
            | inr fresh ↦ back_apart h fresh there
          ]) (λ free. thirds.2 h (named.freed_old h free) there)

      pub new-layout : HasLayout new b new_root new_pieces
      new-layout =
          let root = raw-there new b (record { attributes = attributes_of d b; body = Raw (root_bytes new_root) }) (root_bytes new_root) replaced.root refl in
          let has_old : ℕ → BranchPiece → Type 0 = HasBranch d r.size in
          let has_new : ℕ → BranchPiece → Type 0 = HasBranch new r.size in
          record {
            raw = root.0;
            bytes = root.1;
            is = good.is;
            counts = counts-spliced r.counts first behind pieces placed has.counts;
            once = once_new;
            branches =
                pairs-append has_new front (take first pieces) (news ++ back) (placed ++ drop behind pieces)
                (kept d new r.size front (take first pieces) (pairs-take has_old first r.branches pieces has.branches) front_kept)
                (pairs-append has_new news placed back (drop behind pieces) replaced.put
                (kept d new r.size back (drop behind pieces) (pairs-drop has_old behind r.branches pieces has.branches) back_kept));
            fit = good.fit;
            sized = good.sized;
          }

      old_chain : chain_blocks d b ≡ b ∷ r.branches
      old_chain = ap (λ (o : Option (List ℕ)). unwrap_or o []) (layout-chain d b r pieces valid has)

      new_chain : chain_blocks new b ≡ b ∷ new_branches
      new_chain = ap (λ (o : Option (List ℕ)). unwrap_or o []) (layout-chain new b new_root new_pieces replaced.valid new-layout)

      still_there : (h : ℕ) → Contains (b ∷ r.branches) h → (Contains olds h → ⊥) → Contains (b ∷ new_branches) h
      still_there h there other = elim (contains_cases b r.branches h there) [
        | inl is ↦ subst (Contains (b ∷ new_branches)) is (contains_first b new_branches)
        | inr within ↦ elim (Contains-append_cases front (olds ++ back) h (subst (λ xs. Contains xs h) parts within)) [
          | inl early ↦ contains_later b new_branches h (Contains-append_left front (news ++ back) h early)
          | inr later ↦ elim (Contains-append_cases olds back h later) [
            | inl old ↦ absurd (other old)
            | inr end ↦ contains_later b new_branches h (Contains-append_right front (news ++ back) h (Contains-append_right news back h end))
          ]
        ]
      ]

      come_there : (h : ℕ) → Contains (b ∷ news) h → Contains (b ∷ new_branches) h
      come_there h there = elim (contains_cases b news h there) [
        | inl is ↦ subst (Contains (b ∷ new_branches)) is (contains_first b new_branches)
        | inr fresh ↦ contains_later b new_branches h (Contains-append_right front (news ++ back) h (Contains-append_left news back h fresh))
      ]

      goes : (h : ℕ) → Contains (b ∷ r.branches) h → (Contains (b ∷ new_branches) h → ⊥) → is_live new h ≡ false
      goes h there absent = elim (known olds h) [
        | inl old ↦ ap is_some (replaced.gone h (named.freed_all h old (λ fresh. absent (come_there h (contains_later b news h fresh)))))
        | inr other ↦ absurd (absent (still_there h there other))
      ]

      comes : (h : ℕ) → is_live d h ≡ false → is_live new h ≡ true → Contains (b ∷ new_branches) h
      comes h free is = elim (known (b ∷ news) h) [
        | inl there ↦ come_there h there
        | inr other ↦
            (let still : is_live new h ≡ is_live d h = ap is_some (replaced.elsewhere h other (λ gone. true≢false (sym (live h (contains_later b r.branches h (in_olds h (named.freed_old h gone)))) ∙ free))) in
            absurd (true≢false (sym is ∙ still ∙ free)))
      ]

      stays : (h : ℕ) → is_live d h ≡ true → (Contains (b ∷ r.branches) h → ⊥) → get new.blocks h ≡ get d.blocks h
      stays h is other =
          replaced.elsewhere h (λ there. elim (contains_cases b news h there) [
            | inl at ↦ other (subst (Contains (b ∷ r.branches)) at (contains_first b r.branches))
            | inr fresh ↦ elim (named.from h fresh) [
              | inl old ↦ other (contains_later b r.branches h (in_olds h old))
              | inr free ↦ true≢false (sym is ∙ free.1)
            ]
          ]) (λ gone. other (contains_later b r.branches h (in_olds h (named.freed_old h gone))))

      -- So the array is the one with these pieces, and all else stays.
      pub replaced-edited : (are_spread r.size pieces ≡ true → are_spread r.size new_pieces ≡ true) → IsEdited d new b r.size (elements_in_pieces new_pieces)
      replaced-edited spread = record {
        valid = replaced.valid;
        array = layout-array new b new_root new_pieces replaced.valid new-layout;
        stays = λ h is other. stays h is (λ there. other (subst (λ xs. Contains xs h) (sym old_chain) there));
        comes = λ h free is. subst (λ xs. Contains xs h) (sym new_chain) (comes h free is);
        goes = λ h there absent. goes h (subst (λ xs. Contains xs h) old_chain there) (λ at. absent (subst (λ xs. Contains xs h) (sym new_chain) at));
        map_block = replaced.map_block;
        attributes = ap (λ (o : Option Block). option_map_or (λ x. x.attributes) o no_attributes) replaced.root;
        spread = λ old.
            ap (are_spread r.size) (ap (pieces_at new) (layout-root new b new_root new_pieces replaced.valid new-layout) ∙ layout-pieces new b new_root new_pieces replaced.valid new-layout)
            ∙ spread (ap (are_spread r.size) (sym (ap (pieces_at d) (layout-root d b r pieces valid has) ∙ layout-pieces d b r pieces valid has)) ∙ old);
      }

      -- A branch that stays with other bytes is one that was replaced, and came again.
      same_bytes : (h : ℕ) → get new.blocks h ≡ get d.blocks h → raw_bytes_of new h ≡ raw_bytes_of d h
      same_bytes h same = ap (λ (o : Option Block). option_map_or (λ x. bytes_of_body x.body) o []) same

      changed_old : (h : ℕ) → HasOtherBytes d new b h → Contains olds h
      changed_old h changed =
          let was : Contains r.branches h = subst (λ (q : Root). Contains q.branches h) (layout-root d b r pieces valid has) changed.was in
          elim (Contains-append_cases front (olds ++ back) h (subst (λ xs. Contains xs h) parts was)) [
            | inl early ↦ absurd (changed.other (same_bytes h (front_kept h early)))
            | inr later ↦ elim (Contains-append_cases olds back h later) [
              | inl old ↦ old
              | inr end ↦ absurd (changed.other (same_bytes h (back_kept h end)))
            ]
          ]

      changed_new : (h : ℕ) → HasOtherBytes d new b h → Contains news h
      changed_new h changed =
          let is : Contains new_branches h = subst (λ (q : Root). Contains q.branches h) (layout-root new b new_root new_pieces replaced.valid new-layout) changed.stays in
          elim (Contains-append_cases front (news ++ back) h is) [
            | inl early ↦ absurd (changed.other (same_bytes h (front_kept h early)))
            | inr later ↦ elim (Contains-append_cases news back h later) [
              | inl fresh ↦ fresh
              | inr end ↦ absurd (changed.other (same_bytes h (back_kept h end)))
            ]
          ]

      pub changed-few : (hs : List ℕ) → all_distinct hs ≡ true → ((h : ℕ) → Contains hs h → HasOtherBytes d new b h)
          → (length hs ≤ length olds) × (length hs ≤ length news)
      changed-few hs once changed =
          (contained-few hs olds once (λ h there. changed_old h (changed h there)), contained-few hs news once (λ h there. changed_new h (changed h there)))
