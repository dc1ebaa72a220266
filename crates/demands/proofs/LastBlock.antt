-- The file's last detail block, and which calls make it another one: an XTEND that starts a block, and none that stores as NSERT does.
use Prim.Native.Nat.{ℕ, suc, ◌-◌, ◌≤◌, ◌<◌}
use mathlib.Core.Logic.{◌⊎◌, inl, inr, ◌≢◌}
use mathlib.Core.Path.{◌≡◌, refl, sym, ap, ◌∙◌, subst}
use mathlib.Core.List.{List, [], ◌∷◌, ◌++◌, append_assoc, append-nil}
use native.Mathlib.Omega.{arith}
use lib.ListN.{length, length-append, take, drop, get_or}
use lib.Seq.{split_at}
use Rattle.words.specs.Keys.{val}
use Rattle.table.specs.Splits.{low_count}
use Rattle.table.specs.Tables.{count, block_in}
use Rattle.drum.specs.declared.Description.{Description}
use Rattle.drum.specs.Params.{I, master_shape, index_shape}
use Rattle.drum.specs.Blocks.{block_at, sections, text_of}
use Rattle.layout.specs.Create.{end_record}
use Rattle.layout.specs.Tree.{Leaf, Section}
use Rattle.rules.specs.State.{State, desc, texts, key_in}
use Rattle.rules.specs.Requests.{Request, opening, closing, seeking, advancing, inserting, deleting, updating, extending}
use Rattle.demands.specs.Formula.{last_detail}
use Rattle.demands.proofs.Lists.{All, all_right, from_end}
use Rattle.demands.proofs.Cells.{is, is-self, cell_times}
use Rattle.demands.proofs.Trees.{leaves_in, leaves_in-append, reach, index_text, cells_of}
use Rattle.demands.proofs.Holds.{Free, HoldsCells, SectionOk}
use Rattle.demands.proofs.Steps.{with_rows, lower, upper}
use Rattle.demands.proofs.Places.{Place, tree_of, tree_with, olds, lo, cells_in}
use Rattle.demands.proofs.Texts.{half}
use Rattle.demands.proofs.Blocks.{master_of}
use Rattle.demands.proofs.Entries.{sections-is, master-at, count_index, index_at}
use Rattle.demands.proofs.Sound.{Sound}
use Rattle.demands.proofs.Frees.{next, free_count, next-outside}
use Rattle.demands.proofs.InUse.{file-index}
use Rattle.demands.proofs.Last.{ending, Last}
use Rattle.demands.proofs.Between.{leaves_before, leaves_behind, leaves_of_lem, behind-some}
use Rattle.demands.proofs.NsertRight.{Belongs, halves, two_sections}
use Rattle.demands.proofs.XtendRight.{with_record, with_block, with_section}
use Rattle.demands.proofs.Growth.{Growth}

-- the block of the last leaf
unfoldable pub last_number : List Leaf → ℕ
last_number [] = 0
last_number (l ∷ []) = l.block
last_number (l ∷ m ∷ ls) = last_number (m ∷ ls)

last-number : (ls : List Leaf) (l : Leaf) → last_number (ls ++ l ∷ []) ≡ l.block
unfolding last_number
last-number [] l = refl
last-number (x ∷ []) l = refl
last-number (x ∷ y ∷ ls) l = last-number (y ∷ ls) l

last-behind : (xs ys : List Leaf) → 1 ≤ length ys → last_number (xs ++ ys) ≡ last_number ys
unfolding last_number
last-behind [] ys h = refl
last-behind (x ∷ []) [] h = absurd (omega arith)
last-behind (x ∷ []) (y ∷ ys) h = refl
last-behind (x ∷ z ∷ xs) ys h = last-behind (z ∷ xs) ys h

-- it is the file's
pub last-is : (st : State) (ss : List Section) (f : Free) → Sound st ss f → last_detail st ≡ last_number (leaves_in ss)
unfolding last_detail
last-is st ss f h = go (from_end ss)
  where
    p : Description
    p = desc st

    at : (bs : List Section) (s : Section) → ss ≡ bs ++ s ∷ [] → (s.leaves ≡ []) ⊎ ((ls : List Leaf) × (l : Leaf) × (s.leaves ≡ ls ++ l ∷ []))
        → last_detail st ≡ last_number (leaves_in ss)
    at bs s e (inl n) = absurd (omega (arith, (all_right (SectionOk p) bs _ (subst (All (SectionOk p)) e h.kept.holds.sized)).0.some, ap length n))
    at bs s e (inr (ls, l, g)) =
        let ok : SectionOk p s = (all_right (SectionOk p) bs _ (subst (All (SectionOk p)) e h.kept.holds.sized)).0 in
        let n : sections st.file - 1 ≡ length bs
        = omega (arith, sections-is p st.file ss f h.kept.holds.master-is h.kept.holds.sized, ap length e, length-append bs (s ∷ [])) in
        let b : block_in (master_shape p) st.file (length bs) ≡ s.block = master-at p st.file bs s [] f (rw e at h.kept.holds.master-is) (rw e at
        h.kept.holds.sized) in
        let t : block_at p st.file s.block ≡ index_text p s.leaves = file-index (texts st) st.session.flag f bs s [] (rw e at h.kept) in
        let m : count (index_shape p) (index_text p s.leaves) - 1 ≡ length ls = omega (
          arith,
          count_index p s.leaves,
          ap length g,
          length-append ls
              (l ∷ []),
        ) in
        let i : block_in (index_shape p) (index_text p s.leaves) (length ls) ≡ l.block
        = ap (λ (x : List Leaf). block_in (index_shape p) (index_text p x) (length ls)) g ∙ index_at p ls l [] (rw g at ok.leaves) in
        let words : block_at p st.file (block_in (master_shape p) st.file (sections st.file - 1)) ≡ index_text p s.leaves
        = ap (λ (x : ℕ). block_at p st.file (block_in (master_shape p) st.file x)) n ∙ ap (block_at p st.file) b ∙ t in
        ap (λ (x : List ℕ). block_in (index_shape p) x (count (index_shape p) x - 1)) words ∙ ap (block_in (index_shape p) (index_text p s.leaves)) m ∙ i
        ∙ sym (ap last_number (ap leaves_in e ∙ leaves_in-append bs (s ∷ []) ∙ ap (λ (x : List Leaf). leaves_in bs ++ x) (append-nil s.leaves ∙ g)
        ∙ sym (append_assoc (leaves_in bs) ls (l ∷ [])))
        ∙ last-number (leaves_in bs ++ ls) l)

    go : (ss ≡ []) ⊎ ((bs : List Section) × (s : Section) × (ss ≡ bs ++ s ∷ [])) → last_detail st ≡ last_number (leaves_in ss)
    go (inl e) = absurd (omega (arith, h.kept.holds.top, ap (λ (s : List Section). reach p.k 0 (leaves_in s)) e))
    go (inr (bs, s, e)) = at bs s e (from_end s.leaves)

-- what an XTEND that brings g makes of it: it stays and nothing is started, or it is another one and nothing is split
abbrev pub LastTells : Request → Growth → List Section → List Section → Type 0
LastTells (opening marks) g ss ss' = Unit {0}
LastTells closing g ss ss' = Unit {0}
LastTells (seeking w) g ss ss' = Unit {0}
LastTells (advancing w) g ss ss' = Unit {0}
LastTells (inserting w) g ss ss' = Unit {0}
LastTells (deleting w) g ss ss' = Unit {0}
LastTells (updating w) g ss ss' = Unit {0}
LastTells (extending w) g ss ss' =
    ((g.starts ≡ 0) × (g.index-starts ≡ 0) × (last_number (leaves_in ss') ≡ last_number (leaves_in ss)))
    ⊎ ((g.splits ≡ 0) × (g.index-splits ≡ 0) × (last_number (leaves_in ss') ≢ last_number (leaves_in ss)))

-- ---- other leaves at a place with leaves behind it

last-kept : (a : Place) (ls : List Leaf) (ss ss' : List Section) → ss ≡ tree_of a → 1 ≤ length (leaves_behind a)
    → leaves_in ss' ≡ leaves_before a ++ (ls ++ leaves_behind a) → last_number (leaves_in ss') ≡ last_number (leaves_in ss)
last-kept a ls ss ss' e some q =
    ap last_number (q ∙ sym (append_assoc (leaves_before a) ls (leaves_behind a))) ∙ last-behind (leaves_before a ++ ls) (leaves_behind a) some
    ∙ sym (ap last_number (ap leaves_in e ∙ leaves_of_lem a ∙ sym (append_assoc (leaves_before a) (a.leaf ∷ []) (leaves_behind a)))
    ∙ last-behind (leaves_before a ++ (a.leaf ∷ [])) (leaves_behind a) some)

module _ (st : State) (ss : List Section) (f : Free) (L : Last (texts st) st.session.flag ss f) where
  abbrev p : Description
  p = desc st

  abbrev end : Place
  end = ending L.before L.index L.low L.leaf

  old-last : last_number (leaves_in ss) ≡ L.leaf.block
  old-last = ap last_number (ap leaves_in L.at.is ∙ leaves_of_lem end) ∙ last-number (leaves_before end) L.leaf

  -- as NSERT
  module _ (under : val (key_in (desc st) st.work) < lo (desc st) (ending L.before L.index L.low L.leaf)) (a : Place) (B : Belongs st ss a) where
    some : 1 ≤ length (leaves_behind a)
    some = behind-some p a L.before L.index L.low L.leaf (sym B.is ∙ L.at.is) (omega (arith, B.covers.above))

    pub with-last : (ls : List Leaf) → last_number (leaves_in (tree_with a ls)) ≡ last_number (leaves_in ss)
    with-last ls = last-kept a ls ss (tree_with a ls) B.is some (simp (leaves_in-append, append_assoc))

    pub both-last : length (olds a) ≡ I p → 2 ≤ I p → last_number (leaves_in (two_sections st f a)) ≡ last_number (leaves_in ss)
    both-last most two =
        let hs : List Leaf = halves st f a in
        let ns : List Leaf = a.low ++ (hs ++ a.high) in
        let i : ℕ = low_count (I p) - 1 in
        let long : i < length ns = omega (arith, length-append a.low (hs ++ a.high), length-append a.low (a.leaf ∷ a.high), half (I p) two, most) in
        let cut : (take i ns ++ (get_or ns i a.leaf ∷ [])) ++ drop (suc i) ns ≡ ns
        = append_assoc (take i ns) (get_or ns i a.leaf ∷ []) (drop (suc i) ns) ∙ sym (split_at ns i a.leaf long) in
        last-kept a hs ss (two_sections st f a) B.is some
        (leaves_in-append a.before _ ∙ ap (λ (x : List Leaf). leaves_in a.before ++ x)
        (sym (append_assoc (take i ns ++ (get_or ns i a.leaf ∷ [])) (drop (suc i) ns) (leaves_in a.behind))
        ∙ ap (λ (x : List Leaf). x ++ leaves_in a.behind) cut) ∙ simp append_assoc)

  -- in the last block
  pub record-last : last_number (leaves_in (with_record st ss f L)) ≡ last_number (leaves_in ss)
  record-last =
      let new : Leaf = with_rows p L.leaf (L.front ++ st.work ∷ (end_record p ∷ [])) in
      ap last_number (leaves_of_lem (ending L.before L.index L.low new)) ∙ last-number (leaves_before end) new ∙ sym old-last

  -- a new block for the end record
  module _ (held : HoldsCells (desc st) (master_of (desc st) st.file) (text_of (texts st)) ss f) (free : 1 ≤ free_count f) where
    other : next f ≢ L.leaf.block
    other e =
        let none : cell_times (next f) (cells_of p (tree_of end)) ≡ 0 = rw L.at.is at (next-outside p _ _ ss f held free) in
        omega (arith, cells_in p end (next f), none, subst (λ (b : ℕ). is b (next f) ≡ 1) e (is-self (next f)))

    another : (ls : List Leaf) (l : Leaf) (ss' : List Section) → leaves_in ss' ≡ ls ++ l ∷ [] → l.block ≡ next f
        → last_number (leaves_in ss') ≢ last_number (leaves_in ss)
    another ls l ss' e g q = other (sym g ∙ sym (ap last_number e ∙ last-number ls l) ∙ q ∙ old-last)

    abbrev low : Leaf
    low = lower (desc st) L.leaf L.front st.work

    abbrev new : Leaf
    new = upper (desc st) L.leaf (next f) (end_record (desc st) ∷ [])

    pub start-last : last_number (leaves_in (with_block st ss f L)) ≢ last_number (leaves_in ss)
    start-last = another (leaves_before end ++ (low ∷ [])) new (with_block st ss f L) (simp (leaves_in-append, append_assoc, append-nil)) refl

    pub section-last : last_number (leaves_in (with_section st ss f L)) ≢ last_number (leaves_in ss)
    section-last = another (leaves_before end ++ (low ∷ [])) new (with_section st ss f L) (simp (leaves_in-append, append_assoc, append-nil)) refl
