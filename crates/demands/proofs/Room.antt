-- Whether there is room for one record more, on a file that is filled by XTEND alone.
use Prim.Native.Nat.{ℕ, suc, ◌+◌, ◌*◌, ◌≤◌, ◌<◌}
use mathlib.Core.Bool.{Bool, true, false}
use mathlib.Core.Logic.{◌⊎◌, inl, inr}
use mathlib.Core.Path.{◌≡◌, refl, sym, ap, ◌∙◌, subst}
use mathlib.Core.List.{List, [], ◌∷◌, ◌++◌, append_assoc, append-nil}
use native.Mathlib.Omega.{arith}
use native.Mathlib.Decide.{dec_le}
use lib.ListN.{length, length-append}
use borrow.Author.Tests.{le-ltb}
use Rattle.drum.specs.declared.Description.{Description}
use Rattle.drum.specs.Params.{FD, FI}
use Rattle.drum.proofs.Good.{good-facts}
use Rattle.numbers.specs.Numbers.{accepted, no_room}
use Rattle.words.specs.Words.{part}
use Rattle.words.specs.Keys.{ones, is_ones, val}
use Rattle.words.proofs.All.{is_ones-true}
use Rattle.layout.specs.Create.{end_record}
use Rattle.layout.specs.Tree.{Leaf, Section, Tree, last_in}
use Rattle.layout.specs.Tree as lay
use Rattle.layout.specs.Holds as laid
use Rattle.layout.proofs.Lists.{last-right}
use Rattle.layout.proofs.Unique.{one-tree}
use Rattle.rules.specs.State.{State, desc, texts, key_in}
use Rattle.rules.specs.XtendDone.{xtend}
use Rattle.rules.specs.Requests.{lending, answer}
use Rattle.demands.specs.Promises.{put_back}
use Rattle.demands.specs.Answers.{ordinary, records_from}
use Rattle.demands.specs.Filled.{ButLast, Full, Most, FullIndex, MostIndex, Tight, Any, Filled}
use Rattle.demands.specs.Room.{has_room, StoredIf, RoomIn, RoomEnough}
use Rattle.demands.proofs.Scene.{scene}
use Rattle.demands.proofs.Lists.{All, all_left, all_right, from_end}
use Rattle.demands.proofs.Order.{Asc, asc-right, asc-le}
use Rattle.demands.proofs.Trees.{leaves_in, leaves_in-append, records_in, records-append, key, bd, reach, reach-append}
use Rattle.demands.proofs.Holds.{Free, RowOk, LeafFits}
use Rattle.demands.proofs.Steps.{sec}
use Rattle.demands.proofs.Places.{lo}
use Rattle.demands.proofs.Records.{key-long}
use Rattle.demands.proofs.Sound.{Key, Sound}
use Rattle.demands.proofs.Answers.{Ready, key_of}
use Rattle.demands.proofs.Stores.{asc-rows}
use Rattle.demands.proofs.Frees.{free_count, taken}
use Rattle.demands.proofs.Last.{ending, Last}
use Rattle.demands.proofs.XtendRight.{Xtended, too-low, too-low-alone, before, room, started, both, no_room_lem, xtend-right}
use Rattle.demands.proofs.Records.{rows_of, rows_ok}
use Rattle.demands.proofs.Records.{row_under}
use Rattle.demands.proofs.Ordinary.{some-from}
use Rattle.demands.proofs.Opens.{flushed-stands}
use Rattle.demands.proofs.Answered.{readied}
use Rattle.demands.proofs.Growing.{stored-yes}
use Rattle.demands.proofs.Moves.{tree_in}
use Rattle.demands.proofs.Fills.{fronts, ending-one}
use Rattle.demands.proofs.Filled.{full-records, full-leaves, total-is}
use Rattle.demands.proofs.RoomCounts.{same-room, next-room, both-room, stored-if}
use Rattle.demands.proofs.Promised.{after_open}

-- tight leaves end where their last record does
abbrev Ends : Description → ℕ → List Leaf → Type 0
Ends p n ls = (rs : List (List ℕ)) × (r : List ℕ) × (records_in ls ≡ rs ++ r ∷ []) × (reach p.k n ls ≡ suc (key p.k r))

tight-end : (p : Description) (n : ℕ) (ls : List Leaf) → All (Tight p) ls → All (LeafFits p) ls → (reach p.k n ls ≡ n) ⊎ Ends p n ls
unfolding key part bd last_in
tight-end p n ls t ok = go (from_end ls)
  where
    go : (ls ≡ []) ⊎ ((xs : List Leaf) × (y : Leaf) × (ls ≡ xs ++ y ∷ [])) → (reach p.k n ls ≡ n) ⊎ Ends p n ls
    go (inl e) = inl (ap (reach p.k n) e)
    go (inr (xs, y, e)) = inr (by (from_end y.records))
      where
        some : 1 ≤ length y.records
        some = (all_right (LeafFits p) xs (y ∷ []) (subst (All (LeafFits p)) e ok)).0.some

        by : (y.records ≡ []) ⊎ ((rs : List (List ℕ)) × (r : List ℕ) × (y.records ≡ rs ++ r ∷ [])) → Ends p n ls
        by (inl z) = absurd (omega (arith, some, ap length z))
        by (inr (rs, r, z)) =
            let last : last_in y.records ≡ r = ap last_in z ∙ last-right rs (r ∷ []) (omega arith) in
            let tight : y.bound ≡ key_in p r = (all_right (Tight p) xs (y ∷ []) (subst (All (Tight p)) e t)).0 ∙ ap (key_in p) last in (
              records_in xs ++ rs,
              r,
              ap records_in e ∙ records-append xs (y ∷ []) ∙ ap (λ (u : List (List ℕ)). records_in xs ++ u) (append-nil y.records ∙ z) ∙ sym
                  (append_assoc (records_in xs) rs (r ∷ [])),
              ap (reach p.k n) e ∙ reach-append p.k n xs (y ∷ []) ∙ ap (λ (u : List ℕ). suc (val u)) tight,
            )

module _ (st : State) (ss : List Section) (f : Free) (r : Ready (desc st).wpr st ss f) (F : Filled (desc st) (tree_in ss f))
    (above : ordinary (desc st) (records_from (desc st) (key_in (desc st) st.work) (records_in (leaves_in ss))) ≡ [])
    (L : Last (texts st) st.session.flag ss f) where
  open scene st ss use {p, w, K}

  abbrev pre : List Leaf
  pre = leaves_in L.before ++ L.low

  kr : p.k ≤ p.wpr
  kr = (good-facts p r.sound.kept.good).key

  kw : Key p w
  kw = key_of p.wpr st ss f r kr (omega arith)

  flat : leaves_in ss ≡ pre ++ (L.leaf ∷ [])
  flat = ap leaves_in L.at.is ∙ simp (leaves_in-append, append_assoc, append-nil)

  rows_are : records_in (leaves_in ss) ≡ records_in pre ++ (L.front ++ end_record p ∷ [])
  rows_are =
      ap records_in flat ∙ records-append pre (L.leaf ∷ []) ∙ ap (λ (z : List (List ℕ)). records_in pre ++ z) (append-nil L.leaf.records ∙ L.rows_are)

  ok : All (RowOk p) (records_in (leaves_in ss))
  ok = rows_of p (leaves_in ss) (rows_ok p ss r.sound.kept.holds.sized)

  -- no ordinary record is at or above the key
  not_there : (xs : List (List ℕ)) (y u : List ℕ) (ys : List (List ℕ)) → records_in (leaves_in ss) ≡ xs ++ y ∷ (u ∷ ys) → val w ≤ K y → ⊥
  not_there xs y u ys e l =
      some-from p kr w kw xs y (u ∷ ys) (row_under p kr w kw y yok ∙ le-ltb (K y) (val w) l) (less (is_ones (key_in p y)) refl)
      (ap (λ (z : List (List ℕ)). ordinary p (records_from p w z)) (sym e) ∙ above)
    where
      yok : RowOk p y
      yok = (all_right (RowOk p) xs (y ∷ (u ∷ ys)) (subst (All (RowOk p)) e ok)).0

      asc : Asc K 0 (xs ++ y ∷ (u ∷ ys)) (reach p.k 0 (leaves_in ss))
      asc = subst (λ (z : List (List ℕ)). Asc K 0 z (reach p.k 0 (leaves_in ss))) e (asc-rows p _ _ ss f r.sound.kept.holds)

      less : (t : Bool) → is_ones (key_in p y) ≡ t → t ≡ false
      less false o = refl
      less true o =
          let top : K y ≡ val (ones p.k) = unfold key part in ap val (is_ones-true p.k _ (key-long p kr y yok).0 o) in
          let s = asc-right K 0 xs (y ∷ (u ∷ ys)) _ asc in
          absurd (omega (arith, top, s.1.0, asc-le K (suc (K u)) ys _ s.1.1, r.sound.kept.holds.top))

  -- XTEND is in sequence
  in_row : (fr : List (List ℕ)) (y : List ℕ) → L.front ≡ fr ++ y ∷ [] → val w ≤ K y → ⊥
  in_row fr y e =
      not_there (records_in pre ++ fr) y (end_record p) [] (rows_are ∙ ap (λ (z : List (List ℕ)). records_in pre ++ (z ++ end_record p ∷ [])) e ∙ simp append_assoc)

  alone : L.front ≡ [] → val w < lo p (ending L.before L.index L.low L.leaf) → ⊥
  alone e l = go (tight-end p 0 pre tights oks)
    where
      tights : All (Tight p) pre
      tights = fronts (Tight p) Any pre L.leaf (subst (ButLast (Tight p) Any) flat F.bounds)

      oks : All (LeafFits p) pre
      oks = all_left (LeafFits p) pre _ (subst (All (LeafFits p)) flat (rows_ok p ss r.sound.kept.holds.sized))

      start : reach p.k 0 pre ≡ lo p (ending L.before L.index L.low L.leaf)
      start = reach-append p.k 0 (leaves_in L.before) L.low

      go : (reach p.k 0 pre ≡ 0) ⊎ Ends p 0 pre → ⊥
      go (inl z) = omega (arith, start, z, l)
      go (inr (rs, y, c, z)) =
          not_there rs y (end_record p) []
          (rows_are ∙ ap (λ (u : List (List ℕ)). records_in pre ++ (u ++ end_record p ∷ [])) e ∙ ap (λ (u : List (List ℕ)). u ++ end_record p ∷ []) c
          ∙ append_assoc rs (y ∷ []) (end_record p ∷ [])) (omega (arith, start, z, l))

  -- ---- the counts

  abbrev size : ℕ
  size = length L.leaf.records

  abbrev under : ℕ
  under = length (L.low ++ (L.leaf ∷ []))

  abbrev total : ℕ
  total = length (ordinary (desc st) (lay.contents (tree_in ss f))) + 1

  fulls : ButLast (Full p) (Most p) (pre ++ (L.leaf ∷ []))
  fulls = subst (ButLast (Full p) (Most p)) flat F.details

  full-indexes : ButLast (FullIndex p) (MostIndex p) (L.before ++ (sec L.index (L.low ++ (L.leaf ∷ [])) ∷ []))
  full-indexes = subst (ButLast (FullIndex p) (MostIndex p)) L.at.is F.indexes

  size-most : size ≤ FD p
  size-most = ending-one (Full p) (Most p) pre L.leaf fulls

  under-most : under ≤ FI p
  under-most = ending-one (FullIndex p) (MostIndex p) L.before (sec L.index (L.low ++ (L.leaf ∷ []))) full-indexes

  records-are : total ≡ length pre * FD p + size
  records-are =
      omega (
        arith,
        total-is st ss f r.sound F,
        ap length rows_are,
        length-append (records_in pre) (L.front ++ end_record p ∷ []),
        length-append L.front (end_record p ∷ []),
        ap length L.rows_are,
        full-records p pre (fronts (Full p) (Most p) pre L.leaf fulls),
      )

  leaves-are : length pre + 1 ≡ length L.before * FI p + under
  leaves-are =
      omega (
        arith,
        length-append (leaves_in L.before) L.low,
        length-append L.low (L.leaf ∷ []),
        full-leaves p L.before (fronts (FullIndex p) (MostIndex p) L.before (sec L.index (L.low ++ (L.leaf ∷ []))) full-indexes),
      )

  sections-are : length ss ≡ length L.before + 1
  sections-are = ap length L.at.is ∙ length-append L.before (sec L.index (L.low ++ (L.leaf ∷ [])) ∷ [])

  -- the blocks in use and the free ones are N
  blocks-are : 2 + length pre + length L.before + free_count f ≡ p.n
  blocks-are =
      omega (
        arith,
        F.lowest,
        ap length flat,
        length-append pre (L.leaf ∷ []),
        sections-are,
        ap length F.chain,
        r.sound.kept.holds.numbers,
      )

  few-sections : length ss ≤ p.control
  few-sections = r.sound.kept.holds.sections

  fd : 1 ≤ FD p
  unfolding FD
  fd = omega (arith, (good-facts p r.sound.kept.good).space-records, (good-facts p r.sound.kept.good).two_records)

  fi : 1 ≤ FI p
  unfolding FI
  fi = omega (arith, (good-facts p r.sound.kept.good).space-entries, (good-facts p r.sound.kept.good).two-entries)

  -- ---- the number

  module _ (x : ℕ) where
    -- the last block has room
    when-room : size < FD p → (accepted x ≡ true) → StoredIf (has_room p total) x
    when-room less yes-is =
        stored-if (has_room p total) x (1 + length pre + (1 + length L.before)) p.n (1 + length L.before) p.control
        (same-room p (length pre) size total (length L.before) under records-are leaves-are less
        (omega (arith, length-append L.low (L.leaf ∷ []))) under-most)
        (λ a b. yes-is) (λ bad. absurd (never bad))
      where
        never : (p.n < 1 + length pre + (1 + length L.before)) ⊎ (p.control < 1 + length L.before) → ⊥
        never (inl a) = omega (arith, blocks-are)
        never (inr a) = omega (arith, few-sections, sections-are)

    -- it is full: one block more
    when-block : FD p ≤ size → under < FI p → (1 ≤ free_count f → accepted x ≡ true) → (free_count f ≡ 0 → x ≡ no_room) → StoredIf (has_room p total) x
    when-block full less yes-is no-is =
        stored-if (has_room p total) x (1 + (length pre + 1) + (1 + length L.before)) p.n (1 + length L.before) p.control
        (next-room p (length pre) size total (length L.before) under records-are leaves-are (omega (arith, size-most)) fd less)
        (λ a b. yes-is (omega (arith, blocks-are))) bad
      where
        bad : (p.n < 1 + (length pre + 1) + (1 + length L.before)) ⊎ (p.control < 1 + length L.before) → x ≡ no_room
        bad (inl a) = no-is (omega (arith, blocks-are))
        bad (inr a) = absurd (omega (arith, few-sections, sections-are))

    -- so is the section: one section more
    when-section : FD p ≤ size → FI p ≤ under → (2 ≤ free_count f → length ss < p.control → accepted x ≡ true)
        → ((free_count f ≤ 1) ⊎ (p.control ≤ length ss) → x ≡ no_room) → StoredIf (has_room p total) x
    when-section full most yes-is no-is =
        stored-if (has_room p total) x (1 + (length pre + 1) + (1 + (length L.before + 1))) p.n (1 + (length L.before + 1)) p.control
        (both-room p (length pre) size total (length L.before) under records-are leaves-are (omega (arith, size-most)) fd (omega (arith, under-most)) fi)
        (λ a b. yes-is (omega (arith, blocks-are)) (omega (arith, sections-are))) bad
      where
        bad : (p.n < 1 + (length pre + 1) + (1 + (length L.before + 1))) ⊎ (p.control < 1 + (length L.before + 1)) → x ≡ no_room
        bad (inl a) = no-is (inl (omega (arith, blocks-are)))
        bad (inr a) = no-is (inr (omega (arith, sections-are)))

  room_by : Xtended st ss f L → StoredIf (has_room p total) (xtend st).number
  room_by (too-low fr y e l g) = absurd (in_row fr y e l)
  room_by (too-low-alone e l hs g) = absurd (alone e l)
  room_by (before e l s n a y) = absurd (alone e l)
  room_by (room iq l g) = when-room _ l (ap accepted g.number-is ∙ stored-yes p _ f)
  room_by (started iq l m s g) = when-block _ l m (λ a. ap accepted g.number-is ∙ stored-yes p _ (taken f)) (λ z. absurd (omega arith))
  room_by (both iq l m s c g) = when-section _ l m (λ a b. ap accepted g.number-is ∙ stored-yes p _ (taken (taken f))) (λ z. absurd (enough z))
    where
      enough : (free_count f ≤ 1) ⊎ (p.control ≤ length ss) → ⊥
      enough (inl a) = omega arith
      enough (inr a) = omega arith
  room_by (no_room_lem iq l (inl z) g) = go (dec_le (FI p) under)
    where
      go : Dec (FI p ≤ under) → StoredIf (has_room p total) (xtend st).number
      go (yes m) = when-section _ l m (λ a b. absurd (omega arith)) (λ z. g.number-is)
      go (no m) = when-block _ l (omega arith) (λ a. absurd (omega arith)) (λ z. g.number-is)
  room_by (no_room_lem iq l (inr (m, inl z)) g) = when-section _ l m (λ a b. absurd (omega arith)) (λ z. g.number-is)
  room_by (no_room_lem iq l (inr (m, inr z)) g) = when-section _ l m (λ a b. absurd (omega arith)) (λ z. g.number-is)

room_of : (st : State) (ss : List Section) (f : Free) → Sound st ss f → Filled (desc st) (tree_in ss f) → RoomIn st (tree_in ss f)
unfolding answer lending
room_of st ss f h F w ask above =
    let r = readied st ss f h (desc st).wpr w ask in
    let z = xtend-right (lending w st) ss f r in
    room_by (lending w st) ss f r F above z.0 z.1

pub room-enough : RoomEnough
room-enough =
    after_open (λ (st : State). (t : Tree) → laid.Holds (desc st) (put_back st) t → Filled (desc st) t → RoomIn st t) λ st ss f h t ht.
    let is : tree_in ss f ≡ t = one-tree (desc st) (put_back st) (tree_in ss f) t h.kept.good (flushed-stands st ss f h) ht in
    subst (λ (z : Tree). Filled (desc st) z → RoomIn st z) is (room_of st ss f h)
