-- The way to a detail block through the master and an index block: on a held tree the chain of checks passes, and comes to the leaf.
use Prim.Native.Nat.{ℕ, ◌≤◌, ◌<◌}
use mathlib.Core.Bool.{true}
use mathlib.Core.Path.{◌≡◌, sym, ◌∙◌}
use mathlib.Core.List.{List}
use native.Mathlib.Omega.{arith}
use lib.Dec.{leb}
use lib.ListN.{length, length-append}
use borrow.Author.Tests.{lt-ltb, le-leb, ne_eqb}
use Rattle.numbers.specs.Checked.{passed, within, up_to}
use Rattle.words.specs.Words.{all_words}
use Rattle.words.specs.Keys.{val}
use Rattle.table.specs.declared.Shape.{Shape}
use Rattle.table.specs.Tables.{count, block_in}
use Rattle.drum.proofs.Forms.{count-master}
use Rattle.drum.specs.declared.Description.{Description}
use Rattle.drum.specs.Params.{D, I, master_shape, index_shape, detail_shape}
use Rattle.drum.specs.Blocks.{Texts, text_of}
use Rattle.rules.specs.declared.Which.{Which}
use Rattle.rules.specs.declared.Which.TheVariants as which
use Rattle.rules.specs.declared.Path.{Path}
use Rattle.rules.specs.Paths.{chosen, entry_of, path_at, path_under, path_by, path_to}
use Rattle.demands.proofs.Rows.{first_in}
use Rattle.demands.proofs.Trees.{bd, index_text}
use Rattle.demands.proofs.Holds.{Free, HoldsCells, LeafFits, SectionOk}
use Rattle.demands.proofs.Steps.{sec}
use Rattle.demands.proofs.Locate.{sec_bd}
use Rattle.demands.proofs.Places.{Place, tree_of, olds, lo, hi, index-text, leaf-text, index_in, leaf-in, index-not-leaf, sec-ok, leaf-ok}
use Rattle.demands.proofs.Texts.{count-table}
use Rattle.demands.proofs.Blocks.{master_of}
use Rattle.demands.proofs.Entries.{sections-is, master-at, master-from, index_at, index-from, count_index}

abbrev pub path_of : Place → Path
path_of a = record { section = length a.before; index = a.index; entry = length a.low; detail = a.leaf.block }

pub within-pass : (lo hi x : ℕ) → lo ≤ x → x ≤ hi → within lo hi x ≡ passed x
within-pass lo hi x l h = simp (le-leb lo x l, le-leb x hi h)

pub upto-pass : (hi x : ℕ) → x ≤ hi → up_to hi x ≡ passed x
upto-pass hi x h = simp (le-leb x hi h)

pub entry-pass : (p : Description) (h : Shape) (most : ℕ) (which : Which) (key t : List ℕ) (m i b : ℕ) → count h t ≡ m → 1 ≤ m → m ≤ most
    → chosen which h key t ≡ i → i < m → block_in h t i ≡ b → 1 ≤ b → b ≤ p.n → entry_of p h most which key t ≡ passed (record { place = i; block = b })
unfolding entry_of
entry-pass p h most which key t m i b em l u ei li eb lb ub = simp (em, le-leb 1 m l, le-leb m most u, ei, lt-ltb i m li, eb, le-leb 1 b lb, le-leb b p.n ub)

module _ (v : Texts) (a : Place) (f : Free) (h : HoldsCells v.desc (master_of v.desc v.file) (text_of v) (tree_of a) f) where
  abbrev p : Description
  p = v.desc

  pub path-by : (top which : Which) (key : List ℕ) → chosen top (master_shape p) key v.file ≡ length a.before
      → chosen which (index_shape p) key (index_text p (olds a)) ≡ length a.low
      → path_by v top which key ≡ passed (path_of a)
  unfolding path_by path_under path_at
  path-by top which key et ew =
      let ok : SectionOk p (sec a.index (olds a)) = sec-ok p a f _ (text_of v) h in
      let lk : LeafFits p a.leaf = leaf-ok p a f _ (text_of v) h in
      let i : (1 ≤ a.index) × (a.index ≤ p.n) = index_in p a f _ (text_of v) h in
      let l : (1 ≤ a.leaf.block) × (a.leaf.block ≤ p.n) = leaf-in p a f _ (text_of v) h in
      simp (
        entry-pass p (master_shape p) p.control top key v.file (length (tree_of a)) (length a.before) a.index
            (count-master p v.file ∙ sections-is p v.file (tree_of a) f h.master-is h.sized) (rw (length-append a.before) (omega arith)) h.sections et
            (rw (length-append a.before) (omega arith))
            (master-at p v.file a.before (sec a.index (olds a)) a.behind f h.master-is h.sized) i.0 i.1,
        index-text p a f _ (text_of v) h,
        entry-pass p (index_shape p) (I p) which key (index_text p (olds a)) (length (olds a)) (length a.low) a.leaf.block
            (count_index p (olds a)) ok.some ok.room ew (rw (length-append a.low) (omega arith))
            (index_at p a.low a.leaf a.high ok.leaves) l.0 l.1,
        ne_eqb a.index a.leaf.block (λ e. index-not-leaf p a f _ (text_of v) h (sym e)),
        leaf-text p a f _ (text_of v) h,
        count-table (detail_shape p) p.wpb a.leaf.records,
        le-leb 1 (length a.leaf.records) lk.some,
        le-leb (length a.leaf.records) (D p) lk.room,
      )

  module _ (w : List ℕ) (wide : all_words w ≡ true) (long : length w ≡ p.k) where
    pub path-to : first_in (λ s. leb (val w) (sec_bd p.k s)) (tree_of a) ≡ length a.before
        → first_in (λ m. leb (val w) (bd p.k m)) (olds a) ≡ length a.low
        → path_to v w ≡ passed (path_of a)
    path-to e g =
        path-by which.Covering which.Covering w (master-from p v.file (tree_of a) f h.master-is h.sized w wide long ∙ e)
        (index-from p w wide long (olds a) (sec-ok p a f _ (text_of v) h).leaves ∙ g)
