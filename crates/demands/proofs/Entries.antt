-- Entries: rows that are a bound and a block. The master's words and an index block's, as rows of entries.
use Prim.Native.Nat.{ℕ, ◌+◌, ◌-◌, ◌*◌, ◌≤◌}
use mathlib.Core.Bool.{true}
use mathlib.Core.Path.{◌≡◌, refl, sym, ap, ◌∙◌}
use mathlib.Core.List.{List, [], ◌∷◌, ◌++◌, map, append_assoc, append-nil}
use native.Mathlib.Omega.{arith}
use native.Mathlib.Nat.{mul-le-mul_right}
use lib.Dec.{leb}
use lib.ListN.{length, take, drop, get_or, length-append, length-map, length-replicate, take-append-drop}
use lib.Seq.{take_at}
use Rattle.words.specs.Words.{all_words, zeros}
use Rattle.words.specs.Keys.{val}
use Rattle.table.specs.Tables.{count, row_from, block_in, key_at}
use Rattle.drum.specs.declared.Description.{Description}
use Rattle.drum.specs.Params.{I, master_size, master_shape, index_shape, good_params}
use Rattle.drum.specs.Blocks.{sections, chain_head, lowest_unused}
use Rattle.drum.proofs.Good.{caps}
use Rattle.demands.proofs.Lists.{All, all_left, all_right, map-append}
use Rattle.demands.proofs.Rows.{cat, length-cat, Each, tab, first_in}
use Rattle.demands.proofs.Flat.{block-tab, key-tab}
use Rattle.demands.proofs.Find.{KeyRow, from_is, table-from-is}
use Rattle.table.proofs.RowSearch.{first_in-map, first_in-same}
use Rattle.layout.specs.Tree.{Leaf, Section}
use Rattle.demands.proofs.Trees.{bd, entry, index_text}
use Rattle.demands.proofs.Holds.{Free, LeafFits, SectionOk, last_bound, master_entry, master_words, master_for, head_or}
use Rattle.demands.proofs.Locate.{sec_bd}
use Rattle.demands.proofs.Texts.{count-table, length-table, table-names, table-key}
use Rattle.demands.proofs.Blocks.{master_of, behind}

module _ {A : Type 0} (k : ℕ) (bound : A → List ℕ) (blk : A → ℕ) where
  abbrev pub entry_row : A → List ℕ
  entry_row x = bound x ++ (blk x ∷ [])

  abbrev pub Bounded : A → Type 0
  Bounded x = (length (bound x) ≡ k) × (all_words (bound x) ≡ true)

  rows-each : (xs : List A) → All Bounded xs → Each (k + 1) (map entry_row xs)
  rows-each [] h = tt
  rows-each (x ∷ xs) h = (rw (length-append (bound x), h.0.0), rows-each xs h.1)

  rows-key : (w : List ℕ) (q : all_words w ≡ true) → length w ≡ k → (xs : List A) → All Bounded xs → All (KeyRow w q k) (map entry_row xs)
  rows-key w q e [] h = tt
  rows-key w q e (x ∷ xs) h =
      let t : take k (entry_row x) ≡ bound x = take_at (bound x) (blk x ∷ []) k h.0.0 in
      ((ap length t ∙ h.0.0 ∙ sym e, ap all_words t ∙ h.0.1), rows-key w q e xs h.1)

  rows_bound : (w : List ℕ) (xs : List A) → All Bounded xs
      → first_in (λ r. leb (val w) (val (take k r))) (map entry_row xs) ≡ first_in (λ x. leb (val w) (val (bound x))) xs
  rows_bound w xs h = first_in-map entry_row (λ r. leb (val w) (val (take k r))) xs ∙ first_in-same _ _ xs (go xs h)
    where
      go : (xs : List A) → All Bounded xs → All (λ x. leb (val w) (val (take k (entry_row x))) ≡ leb (val w) (val (bound x))) xs
      go [] h = tt
      go (x ∷ xs) h = (ap (λ (t : List ℕ). leb (val w) (val t)) (take_at (bound x) (blk x ∷ []) k h.0.0), go xs h.1)

leaves-bounded : (p : Description) (ls : List Leaf) → All (LeafFits p) ls → All (Bounded p.k (λ l. l.bound) (λ l. l.block)) ls
leaves-bounded p [] h = tt
leaves-bounded p (l ∷ ls) h = ((h.0.bound, h.0.wide), leaves-bounded p ls h.1)

pub last-bounded : (p : Description) (d : List ℕ) (ls : List Leaf) → 1 ≤ length ls → All (LeafFits p) ls
    → (length (last_bound d ls) ≡ p.k) × (all_words (last_bound d ls) ≡ true)
last-bounded p d [] e h = absurd (omega arith)
last-bounded p d (l ∷ []) e h = (h.0.bound, h.0.wide)
last-bounded p d (l ∷ (m ∷ ls)) e h = last-bounded p l.bound (m ∷ ls) (omega arith) h.1

sections-bounded : (p : Description) (ss : List Section) → All (SectionOk p) ss → All (Bounded p.k (λ s. last_bound [] s.leaves) (λ s. s.block)) ss
sections-bounded p [] h = tt
sections-bounded p (s ∷ ss) h = (last-bounded p [] s.leaves h.0.some h.0.leaves, sections-bounded p ss h.1)

-- ---- an index block

module _ (p : Description) where
  pub index-rows : (ls : List Leaf) → All (LeafFits p) ls → Each (p.k + 1) (map entry ls)
  unfolding entry
  index-rows ls h = rows-each p.k (λ (l : Leaf). l.bound) (λ (l : Leaf). l.block) ls (leaves-bounded p ls h)

  pub count_index : (ls : List Leaf) → count (index_shape p) (index_text p ls) ≡ length ls
  unfolding index_text
  count_index ls = count-table (index_shape p) p.wpb (map entry ls) ∙ length-map ls entry

  pub index-long : good_params p ≡ true → (ls : List Leaf) → All (LeafFits p) ls → length ls ≤ I p → length (index_text p ls) ≡ p.wpb
  unfolding index_text
  index-long g ls ok l =
      length-table (index_shape p) p.wpb (p.k + 1) (map entry ls) (index-rows ls ok)
      (rw (length-map ls entry) (omega (arith, (caps p g).entries_fit, mul-le-mul_right (p.k + 1) l)))

  pub index-from : (w : List ℕ) → all_words w ≡ true → length w ≡ p.k → (ls : List Leaf) → All (LeafFits p) ls
      → row_from (index_shape p) w (index_text p ls) ≡ first_in (λ l. leb (val w) (bd p.k l)) ls
  unfolding index_shape index_text entry bd
  index-from w wide long ls ok =
      let bo : All (Bounded p.k (λ (l : Leaf). l.bound) (λ (l : Leaf). l.block)) ls = leaves-bounded p ls ok in
      let each : Each (p.k + 1) (map entry ls) = rows-each p.k (λ (l : Leaf). l.bound) (λ (l : Leaf). l.block) ls bo in
      table-from-is (index_shape p) (omega arith) (map entry ls) each w wide
      (rows-key p.k (λ (l : Leaf). l.bound) (λ (l : Leaf). l.block) w wide long ls bo) refl p.wpb
      ∙ rows_bound p.k (λ (l : Leaf). l.bound) (λ (l : Leaf). l.block) w ls bo

  module _ (low : List Leaf) (l : Leaf) (high : List Leaf) (ok : All (LeafFits p) (low ++ (l ∷ high))) where
    pub index_at : block_in (index_shape p) (index_text p (low ++ (l ∷ high))) (length low) ≡ l.block
    unfolding index_shape index_text entry
    index_at =
        rw (map-append entry low (l ∷ high), ← length-map low entry)
        (table-names (index_shape p) refl p.wpb (map entry low) (map entry high) (index-rows low (all_left (LeafFits p) low _ ok))
        (index-rows high (all_right (LeafFits p) low _ ok).1)
        refl l.bound (all_right (LeafFits p) low _ ok).0.bound l.block)

    pub index_key : key_at (index_shape p) (index_text p (low ++ (l ∷ high))) (length low) ≡ l.bound
    unfolding index_shape index_text entry
    index_key =
        rw (map-append entry low (l ∷ high), ← length-map low entry)
        (table-key p.wpb (index_shape p) refl (map entry low) (map entry high) (index-rows low (all_left (LeafFits p) low _ ok))
        (index-rows high (all_right (LeafFits p) low _ ok).1)
        (l.bound ++ (l.block ∷ [])) (rw (length-append l.bound (l.block ∷ []), (all_right (LeafFits p) low _ ok).0.bound)) (omega arith)
        ∙ take_at l.bound (l.block ∷ []) p.k (all_right (LeafFits p) low _ ok).0.bound)

  -- ---- the master

  pub master-rows : (ss : List Section) → All (SectionOk p) ss → Each (p.k + 1) (map (master_entry p) ss)
  unfolding master_entry
  master-rows ss h = rows-each p.k (λ (s : Section). last_bound [] s.leaves) (λ (s : Section). s.block) ss (sections-bounded p ss h)

  -- the words 0 behind n entries
  abbrev pub slack : ℕ → ℕ
  slack n = master_size p - (3 + n * (p.k + 1))

  abbrev pub front : Free → List ℕ
  front f = head_or f.chain 0 ∷ (f.lowest ∷ [])

  pub master-tab : (ss : List Section) (f : Free) (rest : List ℕ)
      → master_for p ss f ++ rest ≡ tab (front f) (map (master_entry p) ss) (slack (length (map (master_entry p) ss))) rest
  unfolding master_for master_words tab
  master-tab ss f rest =
      let rows : List (List ℕ) = map (master_entry p) ss in
      rw (append-nil (zeros (slack (length rows))))
      (ap (λ (z : List ℕ). length rows ∷ (head_or f.chain 0 ∷ (f.lowest ∷ z))) (append_assoc (cat rows) (zeros (slack (length rows))) rest))

  pub master-long : good_params p ≡ true → (ss : List Section) (f : Free) → All (SectionOk p) ss → length ss ≤ p.control
      → length (master_for p ss f) ≡ master_size p
  unfolding master_for master_words tab
  master-long g ss f ok l =
      simp (length-append, length-replicate) (rw (length-cat (p.k + 1) (map (master_entry p) ss) (master-rows ss ok), length-map ss (master_entry p))
      (omega (arith, (caps p g).sections-fit, mul-le-mul_right (p.k + 1) l)))

  module _ (file : List ℕ) (ss : List Section) (f : Free) (h : master_of p file ≡ master_for p ss f) (ok : All (SectionOk p) ss) where
    pub file-is : file ≡ master_for p ss f ++ behind p file
    unfolding master_of behind
    file-is = sym (take-append-drop (master_size p) file) ∙ ap (λ (m : List ℕ). m ++ drop (master_size p) file) h

    pub file-tab : file ≡ tab (front f) (map (master_entry p) ss) (slack (length (map (master_entry p) ss))) (behind p file)
    file-tab = file-is ∙ master-tab ss f (behind p file)

    pub sections-is : sections file ≡ length ss
    unfolding tab
    sections-is = ap (λ (t : List ℕ). get_or t 0 0) file-tab ∙ length-map ss (master_entry p)

    pub head-is : chain_head file ≡ head_or f.chain 0
    unfolding tab
    head-is = ap (λ (t : List ℕ). get_or t 1 0) file-tab

    pub lowest-is : lowest_unused file ≡ f.lowest
    unfolding tab
    lowest-is = ap (λ (t : List ℕ). get_or t 2 0) file-tab

    pub master-from : (w : List ℕ) → all_words w ≡ true → length w ≡ p.k → row_from (master_shape p) w file ≡ first_in (λ s. leb (val w) (sec_bd p.k s)) ss
    unfolding master_shape master_entry sec_bd
    master-from w wide long =
        let bo : All (Bounded p.k (λ (s : Section). last_bound [] s.leaves) (λ (s : Section). s.block)) ss = sections-bounded p ss ok in
        ap (row_from (master_shape p) w) file-tab
        ∙ from_is (master_shape p) (omega arith) (map (master_entry p) ss)
        (rows-each p.k (λ (s : Section). last_bound [] s.leaves) (λ (s : Section). s.block) ss bo) w wide
        (rows-key p.k (λ (s : Section). last_bound [] s.leaves) (λ (s : Section). s.block) w wide long ss bo) (front f) refl refl
        (slack (length (map (master_entry p) ss))) (behind p file)
        ∙ rows_bound p.k (λ (s : Section). last_bound [] s.leaves) (λ (s : Section). s.block) w ss bo

  module _ (file : List ℕ) (bs : List Section) (s : Section) (cs : List Section) (f : Free) (h : master_of p file ≡ master_for p (bs ++ s ∷ cs) f)
      (ok : All (SectionOk p) (bs ++ s ∷ cs)) where
    seam : map (master_entry p) (bs ++ s ∷ cs) ≡ map (master_entry p) bs ++ (last_bound [] s.leaves ++ (s.block ∷ [])) ∷ map (master_entry p) cs
    unfolding master_entry
    seam = map-append (master_entry p) bs (s ∷ cs)

    sized : length (last_bound [] s.leaves) ≡ p.k
    sized = let o : SectionOk p s = (all_right (SectionOk p) bs _ ok).0 in (last-bounded p [] s.leaves o.some o.leaves).0

    pub master-at : block_in (master_shape p) file (length bs) ≡ s.block
    unfolding master_shape
    master-at =
        rw (file-tab file (bs ++ s ∷ cs) f h ok, seam, ← length-map bs (master_entry p))
        (block-tab (master_shape p) (front f) refl refl (map (master_entry p) bs) (master-rows bs (all_left (SectionOk p) bs _ ok)) (last_bound [] s.leaves)
        s.block sized (map (master_entry p) cs) _ _ refl)

    pub master-key : key_at (master_shape p) file (length bs) ≡ last_bound [] s.leaves
    unfolding master_shape
    master-key =
        rw (file-tab file (bs ++ s ∷ cs) f h ok, seam, ← length-map bs (master_entry p))
        (key-tab (master_shape p) (front f) refl refl (map (master_entry p) bs) (master-rows bs (all_left (SectionOk p) bs _ ok))
        (last_bound [] s.leaves ++ (s.block ∷ []))
        (rw (length-append (last_bound [] s.leaves) (s.block ∷ []), sized)) (map (master_entry p) cs) _ _ (omega arith)
        ∙ take_at (last_bound [] s.leaves) (s.block ∷ []) p.k sized)
