-- What XTEND answers, of the tree alone.
use Prim.Native.Nat.{ℕ, suc, ◌≤◌, ◌<◌}
use mathlib.Core.Bool.{Bool, true, false, cond}
use mathlib.Core.Logic.{◌⊎◌, inl, inr}
use mathlib.Core.Path.{◌≡◌, refl, sym, ap, ap₂, ◌∙◌, subst}
use mathlib.Core.List.{List, [], ◌∷◌, ◌++◌, append-nil, append_assoc}
use native.Mathlib.Omega.{arith}
use lib.Dec.{leb, ltb}
use lib.ListN.{length}
use borrow.Author.Tests.{lt-ltb, le-leb, lt-leb}
use Rattle.numbers.specs.Numbers.{out_of_sequence}
use Rattle.words.specs.Words.{part}
use Rattle.words.specs.Keys.{ones, key_lt, is_ones, val}
use Rattle.words.proofs.All.{is_ones-true}
use Rattle.drum.specs.declared.Description.{Description}
use Rattle.drum.specs.Params.{FD, FI}
use Rattle.drum.proofs.Good.{good-facts}
use Rattle.layout.specs.Create.{end_record}
use Rattle.layout.specs.Tree.{Leaf, Section, last_in}
use Rattle.layout.specs.Tree as lay
use Rattle.rules.specs.State.{State, desc, texts, key_in}
use Rattle.rules.specs.NsertDone.{nsert}
use Rattle.rules.specs.XtendDone.{xtend}
use Rattle.demands.specs.Answers.{ordinary, last_block}
use Rattle.demands.specs.Storing.{free_blocks, placing, if_none, nsert_number, last_section, bound_before, limits, is_above, at_last, xtend_number}
use Rattle.demands.proofs.Lists.{All, all_left, all_right, from_end}
use Rattle.demands.proofs.Order.{Asc, asc-right}
use Rattle.demands.proofs.Trees.{leaves_in, leaves_in-append, key, bd, reach, reach-append}
use Rattle.demands.proofs.Holds.{Free, LeafFits, RowOk}
use Rattle.demands.proofs.Steps.{sec}
use Rattle.demands.proofs.Places.{lo, hi}
use Rattle.demands.proofs.Sound.{Key}
use Rattle.demands.proofs.Answers.{Ready, key_of}
use Rattle.demands.proofs.Frees.{free_count, taken, taken-count}
use Rattle.demands.proofs.Last.{ending, Last, end-ones}
use Rattle.demands.proofs.Xtend.{oks, asc, top-is}
use Rattle.demands.proofs.XtendBefore.{not_below}
use Rattle.demands.proofs.XtendRight.{InSequence, Xtended, too-low, too-low-alone, started, xtend-right}
use Rattle.demands.proofs.Extends.{Sequence, sequence, not-below}
use Rattle.demands.proofs.XtendRight as x
use Rattle.demands.proofs.Ordinary.{last_leaf}
use Rattle.demands.proofs.Records.{key-long}
use Rattle.demands.proofs.Records.{rows_ok}
use Rattle.demands.proofs.Records.{row_under}
use Rattle.demands.proofs.Moves.{tree_in}
use Rattle.demands.proofs.Placing.{place-room, place-one, place-two, place_none, stored-as, over, bound-under}

last-section : (bs : List Section) (s : Section) → last_section (bs ++ s ∷ []) ≡ s.leaves
unfolding last_section
last-section [] s = refl
last-section (b ∷ []) s = refl
last-section (b ∷ c ∷ bs) s = last-section (c ∷ bs) s

bound-before : (ls : List Leaf) (m l : Leaf) → bound_before ((ls ++ m ∷ []) ++ l ∷ []) ≡ m.bound ∷ []
unfolding bound_before
bound-before [] m l = refl
bound-before (a ∷ []) m l = refl
bound-before (a ∷ b ∷ ls) m l = go ls (bound-before (b ∷ ls) m l)
  where
    go : (ls : List Leaf) → bound_before (((b ∷ ls) ++ m ∷ []) ++ l ∷ []) ≡ m.bound ∷ [] → bound_before (((a ∷ b ∷ ls) ++ m ∷ []) ++ l ∷ []) ≡ m.bound ∷ []
    go [] e = e
    go (c ∷ ls) e = e

last-of : (fr : List (List ℕ)) (y : List ℕ) → last_in (fr ++ y ∷ []) ≡ y
unfolding last_in
last-of [] y = refl
last-of (x ∷ []) y = refl
last-of (x ∷ z ∷ fr) y = last-of (z ∷ fr) y

-- the records before the end record are ordinary
pub ordinary-front : (p : Description) → p.k ≤ p.wpr → (e : List ℕ) → is_ones (key_in p e) ≡ true → (lo : ℕ) (xs : List (List ℕ)) (hi : ℕ)
    → Asc (key p.k) lo (xs ++ e ∷ []) hi → hi ≡ suc (val (ones p.k)) → All (RowOk p) (xs ++ e ∷ []) → ordinary p (xs ++ e ∷ []) ≡ xs
unfolding ordinary
ordinary-front p kr e o lo [] hi h t ok = rw o
ordinary-front p kr e o lo (x ∷ xs) hi h t ok = go (is_ones (key_in p x)) refl (ordinary-front p kr e o (suc (key p.k x)) xs hi h.1 t ok.1)
  where
    K : List ℕ → ℕ
    K = key p.k

    more : (xs : List (List ℕ)) (lo : ℕ) → Asc K lo (xs ++ e ∷ []) hi → lo < hi
    more [] lo h = omega (arith, h.0, h.1)
    more (y ∷ xs) lo h = omega (arith, h.0, more xs (suc (K y)) h.1)

    go : (b : Bool) → is_ones (key_in p x) ≡ b → ordinary p (xs ++ e ∷ []) ≡ xs → cond b (ordinary p (xs ++ e ∷ [])) (x ∷ ordinary p (xs ++ e ∷ [])) ≡ x ∷ xs
    go false q r = ap (λ (z : List (List ℕ)). x ∷ z) r
    go true q r =
        let top : K x ≡ val (ones p.k) = unfold key part in ap val (is_ones-true p.k _ (key-long p kr x ok.0).0 q) in
        absurd (omega (arith, top, more xs (suc (K x)) h.1, t))

module _ (st : State) (ss : List Section) (f : Free) (r : Ready (desc st).wpr st ss f) where
  abbrev q : Description
  q = desc st

  abbrev w : List ℕ
  w = key_in (desc st) st.work

  qr : q.k ≤ q.wpr
  qr = (good-facts q r.sound.kept.good).key

  qw : Key q w
  qw = key_of q.wpr st ss f r qr (omega arith)

  module _ (L : Last (texts st) st.session.flag ss f) where
    abbrev pre : List Leaf
    pre = leaves_in L.before ++ L.low

    abbrev start : ℕ
    start = lo (desc st) (ending L.before L.index L.low L.leaf)

    flat : lay.leaves_of (tree_in ss f) ≡ pre ++ L.leaf ∷ []
    flat = ap leaves_in L.at.is ∙ simp (leaves_in-append, append_assoc, append-nil)

    pub rows_are : last_block (lay.leaves_of (tree_in ss f)) ≡ L.leaf.records
    rows_are = ap last_block flat ∙ last_leaf pre L.leaf

    pub section-are : last_section ss ≡ L.low ++ (L.leaf ∷ [])
    section-are = ap last_section L.at.is ∙ last-section L.before (sec L.index (L.low ++ (L.leaf ∷ [])))

    front-is : ordinary q (last_block (lay.leaves_of (tree_in ss f))) ≡ L.front
    front-is =
        ap (ordinary q) (rows_are ∙ L.rows_are)
        ∙ ordinary-front q qr (end_record q) (unfold part in end-ones (texts st) st.session.flag ss f r.sound.kept) start L.front _
        (asc st ss f r qw L) (top-is st ss f r qw L) (oks st ss f r qw L)

    abbrev asks : List (List ℕ) → Bool
    asks fr = is_above (limits (desc st) fr (lay.leaves_of (tree_in ss f))) (key_in (desc st) st.work)

    -- some ordinary record is there
    asks-key : (fr : List (List ℕ)) (y : List ℕ) → L.front ≡ fr ++ y ∷ [] → asks L.front ≡ ltb (key q.k y) (val w)
    unfolding limits is_above
    asks-key fr y e = ap asks e ∙ go fr ∙ row_under q qr w qw y yok
      where
        yok : RowOk q y
        yok = (all_right (RowOk q) fr (y ∷ []) (subst (All (RowOk q)) e (all_left (RowOk q) L.front (end_record q ∷ []) (oks st ss f r qw L)))).0

        go : (fr : List (List ℕ)) → is_above (limits q (fr ++ y ∷ []) (lay.leaves_of (tree_in ss f))) w ≡ key_lt (key_in q y) w
        go [] = ap (λ (z : List ℕ). key_lt (key_in q z) w) (last-of [] y)
        go (x ∷ fr) = ap (λ (z : List ℕ). key_lt (key_in q z) w) (last-of (x ∷ fr) y)

    -- none is there
    asks-bound : L.front ≡ [] → asks L.front ≡ leb start (val w)
    unfolding limits is_above
    asks-bound e = ap asks e ∙ ap (λ (z : List Leaf). is_above (bound_before z) w) flat ∙ go (from_end pre)
      where
        reach-is : reach q.k 0 pre ≡ start
        reach-is = reach-append q.k 0 (leaves_in L.before) L.low

        oks-in : All (LeafFits q) (pre ++ L.leaf ∷ [])
        oks-in = subst (All (LeafFits q)) flat (rows_ok q ss r.sound.kept.holds.sized)

        go : (pre ≡ []) ⊎ ((ls : List Leaf) × (m : Leaf) × (pre ≡ ls ++ m ∷ [])) → is_above (bound_before (pre ++ L.leaf ∷ [])) w ≡ leb start (val w)
        go (inl n) =
            ap (λ (z : List Leaf). is_above (bound_before (z ++ L.leaf ∷ [])) w) n ∙ none
            ∙ sym (le-leb start (val w) (omega (arith, reach-is, ap (reach q.k 0) n)))
          where
            none : is_above (bound_before (L.leaf ∷ [])) w ≡ true
            none = unfold bound_before in refl
        go (inr (ls, m, n)) =
            let mok : LeafFits q m = (all_right (LeafFits q) ls (m ∷ []) (subst (All (LeafFits q)) n (all_left (LeafFits q) pre (L.leaf ∷ []) oks-in))).0 in
            let is : start ≡ suc (bd q.k m) = sym reach-is ∙ ap (reach q.k 0) n ∙ reach-append q.k 0 ls (m ∷ []) in
            ap (λ (z : List Leaf). is_above (bound_before (z ++ L.leaf ∷ [])) w) n ∙ ap (λ (z : List (List ℕ)). is_above z w) (bound-before ls m L.leaf)
            ∙ bound-under q w qw m mok
            ∙ sym (over (bd q.k m) (val w)) ∙ ap (λ (z : ℕ). leb z (val w)) (sym is)

    abbrev size : ℕ
    size = length L.leaf.records

    abbrev under-it : ℕ
    under-it = length (L.low ++ (L.leaf ∷ []))

    free-x : free_blocks q (tree_in ss f) ≡ free_count f
    free-x = omega (arith, r.sound.kept.holds.numbers)

    -- whether the key belongs in the last block
    at-is : at_last q w (tree_in ss f) ≡ asks L.front
    unfolding at_last
    at-is = ap asks front-is

    pub at-yes : InSequence st ss f L → at_last q w (tree_in ss f) ≡ true
    at-yes iq = at-is ∙ go (from_end L.front)
      where
        go : (L.front ≡ []) ⊎ ((fr : List (List ℕ)) × (y : List ℕ) × (L.front ≡ fr ++ y ∷ [])) → asks L.front ≡ true
        go (inl e) = asks-bound e ∙ le-leb start (val w) (subst (λ (z : List (List ℕ)). Asc (key q.k) start z (val w)) e iq)
        go (inr (fr, y, e)) =
            asks-key fr y e ∙ lt-ltb (key q.k y) (val w)
            (asc-right (key q.k) start fr (y ∷ []) (val w) (subst (λ (z : List (List ℕ)). Asc (key q.k) start z (val w)) e iq)).1

    pub at-no : L.front ≡ [] → val w < start → at_last q w (tree_in ss f) ≡ false
    at-no e l = at-is ∙ asks-bound e ∙ lt-leb start (val w) l

    -- the number, where no ordinary record is not below the key, and where one is
    abbrev number : Bool → ℕ
    number t = cond t (placing (desc st) (FD (desc st)) (FI (desc st)) size size under-it (tree_in ss f)) (nsert_number (desc st) (key_in (desc st) st.work)
        (tree_in ss f))

    number_is : xtend_number q w (tree_in ss f) ≡ if_none (not_below st ss) (number (at_last q w (tree_in ss f))) out_of_sequence
    unfolding xtend_number
    number_is =
        ap₂ (λ (n m : ℕ). if_none (not_below st ss) (cond (at_last q w (tree_in ss f)) (placing q (FD q) (FI q) n n m (tree_in ss f)) (nsert_number q w
        (tree_in ss f)))
        out_of_sequence) (ap length rows_are) (ap length section-are)

    low-number : (not_below st ss ≡ [] → ⊥) → (xtend st).number ≡ out_of_sequence → (xtend st).number ≡ xtend_number q w (tree_in ss f)
    unfolding if_none
    low-number some g = g ∙ sym (number_is ∙ go (not_below st ss) refl)
      where
        go : (xs : List (List ℕ)) → not_below st ss ≡ xs → if_none xs (number (at_last q w (tree_in ss f))) out_of_sequence ≡ out_of_sequence
        go [] e = absurd (some e)
        go (y ∷ ys) e = refl

    stored-number : not_below st ss ≡ [] → (t : Bool) → at_last q w (tree_in ss f) ≡ t → (n : ℕ) → (xtend st).number ≡ n → number t ≡ n
        → (xtend st).number ≡ xtend_number q w (tree_in ss f)
    unfolding if_none
    stored-number none t e n g z =
        g ∙ sym (number_is ∙ ap₂ (λ (xs : List (List ℕ)) (b : Bool). if_none xs (number b) out_of_sequence) none e ∙ z)

    module _ (nserts : (nsert st).number ≡ nsert_number (desc st) (key_in (desc st) st.work) (tree_in ss f)) where
      in-last : not_below st ss ≡ [] → Xtended st ss f L → (xtend st).number ≡ xtend_number q w (tree_in ss f)
      in-last h (too-low fr y g l z) = absurd (not-below st ss f r L fr y g l h)
      in-last h (too-low-alone g l hs z) = absurd (hs h)
      in-last h (x.before e l s n a y) = stored-number h false (at-no e l) _ (a.number-is ∙ nserts) refl
      in-last h (x.room iq l g) = stored-number h true (at-yes iq) _ g.number-is (place-room q (FD q) (FI q) _ _ _ (tree_in ss f) l
          ∙ stored-as q _ _ f free-x)
      in-last h (started iq l m s g) =
          stored-number h true (at-yes iq) _ g.number-is
          (place-one q (FD q) (FI q) _ _ _ (tree_in ss f) l m (omega (arith, free-x)) ∙ stored-as q _ _ (taken f) (omega (arith, free-x, taken-count f s)))
      in-last h (x.both iq l m s c g) =
          let one : 1 ≤ free_count f = omega arith in
          let two : 1 ≤ free_count (taken f) = omega (arith, taken-count f one) in
          stored-number h true (at-yes iq) _ g.number-is
          (place-two q (FD q) (FI q) _ _ _ (tree_in ss f) l m (omega (arith, free-x)) c ∙ stored-as q _ _ (taken (taken f))
          (omega (arith, free-x, taken-count f one, taken-count (taken f) two)))
      in-last h (x.no_room_lem iq l m g) = stored-number h true (at-yes iq) _ g.number-is (place_none q (FD q) (FI q) _ _ _ (tree_in ss f) l (why m))
        where
          why : (free_count f ≡ 0) ⊎ ((FI q ≤ under-it) × ((free_count f ≡ 1) ⊎ (q.control ≤ length ss)))
              → (free_blocks q (tree_in ss f) ≡ 0) ⊎ ((FI q ≤ under-it) × ((free_blocks q (tree_in ss f) ≡ 1) ⊎ (q.control ≤ length ss)))
          why (inl z) = inl (free-x ∙ z)
          why (inr (i, inl o)) = inr (i, inl (free-x ∙ o))
          why (inr (i, inr c)) = inr (i, inr c)

      xtend-as : Xtended st ss f L → (xtend st).number ≡ xtend_number q w (tree_in ss f)
      xtend-as y = go (sequence st ss f r L y)
        where
          go : Sequence st ss f r L → (xtend st).number ≡ xtend_number q w (tree_in ss f)
          go (inl (e, some)) = low-number some e
          go (inr none) = in-last none y

  pub xtend-number : (nsert st).number ≡ nsert_number q w (tree_in ss f) → (xtend st).number ≡ xtend_number q w (tree_in ss f)
  xtend-number nserts = let z = xtend-right st ss f r in xtend-as z.0 nserts z.1
