-- How a leaf of the tree comes to the buffer: it is there, or it is brought after a flagged buffer was written.
use Prim.Native.Nat.{ℕ, ◌≤◌}
use mathlib.Core.Bool.{Bool, true, false, not, ◌||◌}
use mathlib.Core.Logic.{◌⊎◌, inl, inr}
use mathlib.Core.Path.{◌≡◌, refl, sym, ap, ◌∙◌, subst}
use mathlib.Core.List.{List, [], ◌∷◌, ◌++◌, append-nil}
use native.Mathlib.Omega.{arith}
use lib.ListN.{length}
use borrow.Author.Tests.{le-leb, ne_eqb, eq-eqb}
use Rattle.numbers.specs.Checked.{passed, between}
use Rattle.drum.specs.declared.Description.{Description}
use Rattle.drum.specs.Params.{D, detail_shape}
use Rattle.drum.specs.Blocks.{Transfer, Read, written, block_at, Texts, text_of}
use Rattle.rules.specs.declared.Way.{Way}
use Rattle.rules.specs.declared.Way.TheVariants.{Here, By}
use Rattle.rules.specs.Lookup.{on_buffer, flush_ok, flush_moves, bringing, reached, text_at}
use Rattle.demands.proofs.Lists.{All}
use Rattle.demands.proofs.Cells.{wrotes}
use Rattle.layout.specs.Tree.{Section}
use Rattle.demands.proofs.Trees.{table}
use Rattle.demands.proofs.Holds.{Free, HoldsCells, LeafFits, SectionOk, master_for}
use Rattle.demands.proofs.Places.{Place, tree_of, Spot, spot_in, leaf-text, leaf-ok}
use Rattle.demands.proofs.Texts.{count-table}
use Rattle.demands.proofs.Blocks.{master_of, behind, cells_written, written-master, written-text}
use Rattle.demands.proofs.Entries.{file-is, master-long}
use Rattle.demands.proofs.Paths.{path_of}
use Rattle.demands.proofs.Sound.{KeptTree, texts_left, is_here, current-in, buffer-leaf, brought-fits, brought-covers, acted, no-true-false}

pub some-leaves : (p : Description) (ss : List Section) → All (SectionOk p) ss → All (λ s. 1 ≤ length s.leaves) ss
some-leaves p [] h = tt
some-leaves p (s ∷ ss) h = (h.0.some, some-leaves p ss h.1)

-- a leaf of the tree, and how it comes to the buffer
pub record At (v : Texts) (flag : Bool) (ss : List Section) (f : Free) (a : Place) (way : Way) : Type 0 where
  pub is : ss ≡ tree_of a
  pub here-is : is_here way ≡ true → v.current ≡ a.leaf.block
  pub by-is : is_here way ≡ false → way ≡ By (path_of a)
  pub current-is : (reached v flag way).current ≡ a.leaf.block
  pub buffer-is : (reached v flag way).buffer ≡ table (detail_shape v.desc) v.desc.wpb a.leaf.records
  pub text-is : text_at v way ≡ table (detail_shape v.desc) v.desc.wpb a.leaf.records
  pub kept : KeptTree (texts_left v (reached v flag way)) (reached v flag way).flag (tree_of a) f
  pub held : HoldsCells v.desc (master_of v.desc v.file) (text_of v) (tree_of a) f

module _ (v : Texts) (flag : Bool) (ss : List Section) (f : Free) (h : KeptTree v flag ss f) where
  abbrev p : Description
  p = v.desc

  -- ---- what the checks ask of the buffer

  pub buffer-none : v.current ≡ 0 → (test : Bool) → on_buffer v test ≡ passed false
  unfolding on_buffer
  buffer-none e test = simp (eq-eqb v.current 0 e)

  pub buffer-some : (s : Spot ss v.current) (test : Bool) → on_buffer v test ≡ passed test
  unfolding on_buffer
  buffer-some s test =
      let i : (1 ≤ v.current) × (v.current ≤ p.n) = spot_in p _ (text_of v) ss f v.current h.holds s in
      let ok : LeafFits p s.place.leaf
      = leaf-ok p s.place f _ (text_of v) (subst (λ (z : List Section). HoldsCells p (master_of p v.file) (text_of v) z f) s.is h.holds) in
      simp (
        ne_eqb v.current 0 (λ e. omega (arith, i.0)),
        buffer-leaf v flag ss f h s,
        count-table (detail_shape p) p.wpb s.place.leaf.records,
        le-leb 1 v.current i.0,
        le-leb v.current p.n i.1,
        le-leb 1 (length s.place.leaf.records) ok.some,
        le-leb (length s.place.leaf.records) (D p) ok.room,
      )

  pub flush-pass : flush_ok v flag ≡ true
  flush-pass = go flag refl
    where
      go : (t : Bool) → flag ≡ t → (not t || between 1 p.n v.current) ≡ true
      go false e = refl
      go true e = simp (le-leb 1 v.current (h.flagged e), le-leb v.current p.n (current-in v flag ss f h (h.flagged e)))

  -- ---- the buffer is written if flagged, some blocks are read, and one is brought

  module _ (reads : List Transfer) (quiet : cells_written reads ≡ []) where
    abbrev moves : List Transfer
    moves = flush_moves v flag ++ reads

    fits : All (λ c. (1 ≤ c.0) × (c.0 ≤ p.n) × (length c.1 ≡ p.wpb)) (cells_written moves)
    fits = subst (λ (m : List Transfer). All (λ c. (1 ≤ c.0) × (c.0 ≤ p.n) × (length c.1 ≡ p.wpb)) (cells_written m)) (append-nil moves)
        (brought-fits v flag ss f h reads [] quiet (unfold cells_written in tt))

    covers : (c : ℕ) → 1 ≤ c → wrotes (block_at p v.file) (cells_written moves) c ≡ text_of v c
    covers c l =
        ap (λ (m : List Transfer). wrotes (block_at p v.file) (cells_written m) c) (sym (append-nil moves))
        ∙ unfold cells_written in brought-covers v flag ss f h reads [] quiet c l

    brought-file : written p moves v.file ≡ master_for p ss f ++ behind p (written p moves v.file)
    brought-file = file-is p (written p moves v.file) ss f (written-master p moves v.file h.file-length fits ∙ h.holds.master-is) h.holds.sized

    -- the buffer then is b, of block d or of none
    pub bring : (d : ℕ) (b : List ℕ) → ((d ≡ 0) × (length b ≡ p.wpb)) ⊎ (Spot ss d × (b ≡ text_of v d))
        → KeptTree (record { desc = p; current = d; file = written p moves v.file; buffer = b }) false ss f
    bring d b s =
        let lm : length (master_for p ss f) ≡ _ = master-long p h.good ss f h.holds.sized h.holds.sections in
        acted v flag ss f h moves [] v.file (master_for p ss f) (file-is p v.file ss f h.holds.master-is h.holds.sized) lm fits covers
        ss f (written p moves v.file) brought-file lm (subst (λ (m : List ℕ). HoldsCells p m (text_of v) ss f) h.holds.master-is h.holds)
        h.ended d b (go s)
      where
        go : ((d ≡ 0) × (length b ≡ p.wpb)) ⊎ (Spot ss d × (b ≡ text_of v d))
            → ((d ≡ 0) × (length b ≡ p.wpb)) ⊎ (Spot ss d × (b ≡ block_at p (written p moves v.file) d))
        go (inl e) = inl e
        go (inr e) =
            let i : (1 ≤ d) × (d ≤ p.n) = spot_in p _ (text_of v) ss f d h.holds e.0 in
            inr (e.0, e.1 ∙ sym (written-text p moves v.file h.file-length fits d i.0 i.1 ∙ covers d i.0))

  -- the buffered block, and a block on its path
  pub at_here : (s : Spot ss v.current) → At v flag ss f s.place Here
  unfolding reached
  at_here s =
      let t : v.buffer ≡ table (detail_shape p) p.wpb s.place.leaf.records = buffer-leaf v flag ss f h s in
      record {
        is = s.is;
        here-is = λ e. sym s.block;
        by-is = λ e. no-true-false refl e;
        current-is = sym s.block;
        buffer-is = t;
        text-is = t;
        kept = subst (λ (z : List Section). KeptTree v flag z f) s.is h;
        held = subst (λ (z : List Section). HoldsCells p (master_of p v.file) (text_of v) z f) s.is h.holds;
      }

  pub at-by : (a : Place) → ss ≡ tree_of a → At v flag ss f a (By (path_of a))
  unfolding reached bringing cells_written
  at-by a e =
      let hz : HoldsCells p (master_of p v.file) (text_of v) (tree_of a) f
      = subst (λ (z : List Section). HoldsCells p (master_of p v.file) (text_of v) z f) e h.holds in
      let t : text_of v a.leaf.block ≡ table (detail_shape p) p.wpb a.leaf.records = leaf-text p a f _ (text_of v) hz in
      record {
        is = e;
        here-is = λ g. no-true-false g refl;
        by-is = λ g. refl;
        current-is = refl;
        buffer-is = t;
        text-is = t;
        kept = subst (λ (z : List Section). KeptTree (texts_left v (reached v flag (By (path_of a)))) false z f) e
            (bring (Read a.index ∷ Read a.leaf.block ∷ []) refl a.leaf.block (text_of v a.leaf.block)
            (inr (record { place = a; is = e; block = refl }, refl)));
        held = hz;
      }
