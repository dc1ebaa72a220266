-- The blocks in use, as the file's words tell them, are those of the tree: an index block is never the buffered one.
use Prim.Native.Nat.{ℕ, suc, ◌+◌, ◌≤◌}
use mathlib.Core.Bool.{Bool}
use mathlib.Core.Logic.{◌≢◌}
use mathlib.Core.Path.{◌≡◌, refl, sym, ap, ◌∙◌, subst}
use mathlib.Core.List.{List, [], ◌∷◌, ◌++◌, map, append_assoc, append-nil}
use native.Mathlib.Omega.{arith}
use native.Mathlib.Numerals.{add-one}
use lib.ListN.{length, length-append}
use Rattle.table.specs.Tables.{count, block_in}
use Rattle.drum.specs.declared.Description.{Description}
use Rattle.drum.specs.Params.{master_shape, index_shape}
use Rattle.drum.specs.Blocks.{Texts, block_at}
use Rattle.rules.specs.State.{State, desc, texts}
use Rattle.demands.specs.Formula.{details_under, detail_blocks, index_blocks}
use Rattle.demands.proofs.Lists.{all_left, all_right, map-append}
use Rattle.demands.proofs.Cells.{Cell, is, is-self, weigh, weigh-append, weigh-cons, weigh-nil, cell_times, Agree}
use Rattle.layout.specs.Tree.{Section}
use Rattle.demands.proofs.Trees.{leaves_in, leaves_in-append, leaf_cell, index_text, cells_of, cells-append}
use Rattle.demands.proofs.Holds.{Free, HoldsCells, inside, inside-le, free_cells}
use Rattle.demands.proofs.Places.{Spot, inside-low}
use Rattle.demands.proofs.Entries.{sections-is, master-at, count_index}
use Rattle.demands.proofs.Sound.{KeptTree, Sound, text-other}

-- the cells of the index blocks, and those of the leaves
index-cell : Description → Section → Cell
index-cell p s = (s.block, index_text p s.leaves)

kinds : (p : Description) (w : Cell → ℕ) (ss : List Section) → weigh w (cells_of p ss) ≡ weigh w (map (index-cell p) ss) + weigh w (map (leaf_cell p) (leaves_in ss))
unfolding cells_of index-cell
kinds p w [] = rw (weigh-nil w)
kinds p w (s ∷ ss) = simp (weigh-append, weigh-cons, map-append) (omega (arith, kinds p w ss))

module _ (p : Description) (master : List ℕ) (text : ℕ → List ℕ) (f : Free) (bs : List Section) (s : Section) (cs : List Section)
    (h : HoldsCells p master text (bs ++ s ∷ cs) f) where
  index-times : (b : ℕ) → is s.block b ≤ weigh (λ c. is c.0 b) (map (index-cell p) (bs ++ s ∷ cs))
  unfolding index-cell
  index-times b = simp (map-append, weigh-append, weigh-cons) (omega arith)

  once : (b : ℕ) → weigh (λ c. is c.0 b) (map (index-cell p) (bs ++ s ∷ cs)) + weigh (λ c. is c.0 b)
      (map (leaf_cell p) (leaves_in (bs ++ s ∷ cs))) ≤ inside p.n b
  unfolding cell_times
  once b =
      omega
      (arith, h.once b, weigh-append (λ c. is c.0 b) (cells_of p (bs ++ s ∷ cs)) (free_cells p f), kinds p (λ c. is c.0 b) (bs ++ s ∷ cs))

  index-block-in : 1 ≤ s.block
  index-block-in = (inside-low p.n s.block (omega (arith, once s.block, index-times s.block, is-self s.block))).0

  -- a leaf of the tree has another number
  index-no-leaf : (b : ℕ) → Spot (bs ++ s ∷ cs) b → s.block ≢ b
  index-no-leaf b t e =
      omega (arith, once b, inside-le p.n b, index-times b, subst (λ (c : ℕ). is c b ≡ 1) (sym e) (is-self b), leaf-times)
    where
      cell : is (leaf_cell p t.place.leaf).0 b ≡ 1
      cell = unfold leaf_cell in subst (λ (c : ℕ). is c b ≡ 1) (sym t.block) (is-self b)

      leaf-times : 1 ≤ weigh (λ c. is c.0 b) (map (leaf_cell p) (leaves_in (bs ++ s ∷ cs)))
      leaf-times = rw t.is (simp (leaves_in-append, map-append, weigh-append, weigh-cons) (omega (arith, cell)))

  index-words : text s.block ≡ index_text p s.leaves
  unfolding cells_of
  index-words =
      let a : Agree text (cells_of p (bs ++ s ∷ cs)) = all_left (λ c. text c.0 ≡ c.1) (cells_of p (bs ++ s ∷ cs)) _ h.agree in
      (all_right (λ c. text c.0 ≡ c.1) (cells_of p bs) _ (rw (cells-append p bs (s ∷ cs)) at a)).0

-- the words of a section's index block in the file
pub file-index : (v : Texts) (flag : Bool) (f : Free) (bs : List Section) (s : Section) (cs : List Section) → KeptTree v flag (bs ++ s ∷ cs) f
    → block_at v.desc v.file s.block ≡ index_text v.desc s.leaves
file-index v flag f bs s cs h = sym (text-other v s.block other) ∙ index-words v.desc _ _ f bs s cs h.holds
  where
    other : s.block ≢ v.current
    other e = index-no-leaf v.desc _ _ f bs s cs h.holds v.current (h.current (omega (arith, e, index-block-in v.desc _ _ f bs s cs h.holds))) e

section-count : (v : Texts) (flag : Bool) (f : Free) (bs : List Section) (s : Section) (cs : List Section) → KeptTree v flag (bs ++ s ∷ cs) f
    → count (index_shape v.desc) (block_at v.desc v.file (block_in (master_shape v.desc) v.file (length bs))) ≡ length s.leaves
section-count v flag f bs s cs h =
    ap (λ (b : ℕ). count (index_shape v.desc) (block_at v.desc v.file b)) (master-at v.desc v.file bs s cs f h.holds.master-is h.holds.sized)
    ∙ ap (count (index_shape v.desc)) (file-index v flag f bs s cs h) ∙ count_index v.desc s.leaves

-- the sections bs are counted, and the others follow
under : (v : Texts) (flag : Bool) (ss : List Section) (f : Free) → KeptTree v flag ss f → (bs cs : List Section) → ss ≡ bs ++ cs
    → details_under v.desc v.file (length bs) ≡ length (leaves_in bs) → details_under v.desc v.file (length ss) ≡ length (leaves_in ss)
unfolding details_under
under v flag ss f h bs [] e n = rw (e, append-nil bs) n
under v flag ss f h bs (s ∷ cs) e n =
    let long : length (bs ++ s ∷ []) ≡ suc (length bs) = length-append bs (s ∷ []) ∙ add-one (length bs) in
    let more : length (leaves_in (bs ++ s ∷ [])) ≡ length (leaves_in bs) + length s.leaves
    = rw (leaves_in-append bs (s ∷ []), append-nil s.leaves) (length-append (leaves_in bs) s.leaves) in
    under v flag ss f h (bs ++ s ∷ []) cs (e ∙ sym (append_assoc bs (s ∷ []) cs))
    (rw (long, more, section-count v flag f bs s cs (rw e at h), n))

pub details-are : (st : State) (ss : List Section) (f : Free) → Sound st ss f → detail_blocks st ≡ length (leaves_in ss)
unfolding detail_blocks details_under
details-are st ss f h =
    ap (details_under (desc st) st.file) (sections-is (desc st) st.file ss f h.kept.holds.master-is h.kept.holds.sized)
    ∙ under (texts st) st.session.flag ss f h.kept [] ss refl refl

pub indexes-are : (st : State) (ss : List Section) (f : Free) → Sound st ss f → index_blocks st ≡ length ss
unfolding index_blocks
indexes-are st ss f h = sections-is (desc st) st.file ss f h.kept.holds.master-is h.kept.holds.sized
