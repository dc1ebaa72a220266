-- One law for each thing that an act asks and leaves: the buffer written if it is flagged, a block's text stored, brought and reached.
use mathlib.Core.Path.{◌≡◌, refl, sym, ap, ◌∙◌, subst}
use mathlib.Core.Bool.{Bool, true, false, not}
use mathlib.Core.List.{List, [], ◌∷◌}
use Prim.Native.Nat.{ℕ, ◌+◌, ◌*◌, ◌≤◌}
use native.Mathlib.Omega.{arith}
use mir.Syntax.{w64}
use mir.Val.{Fits}
use borrow.Author.Tests.{not-true, not-false}
use lib.ListN.{length}
use Rattle.numbers.specs.Checked.{passed}
use Rattle.words.specs.Words.{part, put}
use Rattle.words.proofs.Parts.{length_part, put_all}
use Rattle.table.specs.Tables.{place, row}
use Rattle.drum.specs.declared.Description.{Description}
use Rattle.drum.specs.Params.{detail_shape}
use Rattle.drum.specs.Blocks.{Fitting, Block, Read, written, put_block, block_at, Texts, seen, text_of}
use Rattle.drum.proofs.Blocks.{text-current, text-other, block-still}
use Rattle.rules.specs.declared.Path.{Path}
use Rattle.rules.specs.declared.Way.{Way}
use Rattle.rules.specs.declared.Way.TheVariants.{Here, By}
use Rattle.rules.specs.declared.Done.{Done}
use Rattle.rules.specs.Lookup.{flush_moves, reached, stopping}
use Rattle.rules.specs.Fits.{FlushFits, WayFits}
use Rattle.rules.specs.Told.{gave, told}
use Rattle.acts.specs.declared.Arrived.{Arrived}
use Rattle.acts.specs.Reach.{come, came}
use Rattle.acts.proofs.Moves.{flush-most, length-flushed, text-flushed, come-by}
use Rattle.acts.proofs.Ways.{by_count, by-file}

module _ (p : Description) (cur : ℕ) (f b : List ℕ) where
  abbrev w : Texts
  w = seen p cur f b

  -- the current text of block x, stored in the file
  module _ (x : ℕ) where
    pub stored-already : (x ≡ cur → ⊥) → Fitting p f b → Block p x → f ≡ put_block p f x (text_of w x)
    stored-already ne fit h = sym (ap (put_block p f x) (text-other w x ne) ∙ block-still p f fit.file-is x h)

    pub stored-now : (g : List ℕ) → g ≡ put_block p f x b → x ≡ cur → g ≡ put_block p f x (text_of w x)
    stored-now g eg e = eg ∙ ap (put_block p f x) (sym (text-current w x e))

    -- and in the buffer
    pub loaded-already : x ≡ cur → b ≡ text_of w x
    loaded-already e = sym (text-current w x e)

    pub loaded-now : (t : List ℕ) → t ≡ block_at p f x → (x ≡ cur → ⊥) → t ≡ text_of w x
    loaded-now t et ne = et ∙ sym (text-other w x ne)

module _ (p : Description) (cur : ℕ) (flag : Bool) (f b : List ℕ) where
  abbrev v : Texts
  v = seen p cur f b

  -- an unflagged buffer is no transfer
  module _ (off : not flag ≡ true) where
    pub unflagged-count : 0 ≡ length (flush_moves v flag)
    unfolding flush_moves
    unflagged-count = simp (not-true flag off)

    pub unflagged-file : f ≡ written p (flush_moves v flag) f
    unfolding flush_moves written
    unflagged-file = simp (not-true flag off)

  -- a flagged one is one, to its block
  module _ (on : not flag ≡ false) where
    pub flagged-count : 1 ≡ length (flush_moves v flag)
    unfolding flush_moves
    flagged-count = simp (not-false flag on)

    pub flagged-file : (g : List ℕ) → g ≡ put_block p f cur b → g ≡ written p (flush_moves v flag) f
    unfolding flush_moves written
    flagged-file g e = simp (not-false flag on) e

  -- the buffer written, the file fits, and block x has its current text
  module _ (g : List ℕ) (e : g ≡ written p (flush_moves v flag) f) (due : FlushFits v flag) (fit : Fitting p f b) where
    pub flushed-fits : Fitting p g b
    flushed-fits = record { good = fit.good; file-is = ap length e ∙ length-flushed v fit flag due; buffer-is = fit.buffer-is }

    pub brought : (x : ℕ) (t : List ℕ) → t ≡ text_of (seen p cur g b) x → Block p x → t ≡ text_of v x
    brought x t et h = et ∙ ap (λ (z : List ℕ). text_of (seen p cur z b) x) e ∙ text-flushed v fit flag due x h

  -- two blocks are read then
  pub two-more : (wrote : ℕ) → wrote ≡ length (flush_moves v flag) → Fits w64 (wrote + 2)
  two-more wrote e =
      let m = flush-most v flag in
      omega arith

  module _ (way : Way) where
    -- the block is here: nothing moves
    module _ (e : way ≡ Here) where
      pub came-here : record { file = f; current = cur; flag = flag; buffer = b; transfers = 0 } ≡ come (reached v flag way)
      unfolding reached
      came-here = rw e

      pub here-count : 0 ≡ length (reached v flag way).moves
      unfolding reached
      here-count = rw e

      pub here-file : f ≡ written p (reached v flag way).moves f
      unfolding reached written
      here-file = rw e

    -- it is brought along a path, which fits
    module _ (w : Path) (e : way ≡ By w) where
      module _ (fits : WayFits v flag way) where
        pub way-due : FlushFits v flag
        way-due = (subst (WayFits v flag) e fits).1

        pub way-least : 1 ≤ w.detail
        way-least = (subst (WayFits v flag) e fits).0.detail-least

        pub way-most : w.detail ≤ p.n
        way-most = (subst (WayFits v flag) e fits).0.detail-most

      module _ (wrote : ℕ) (ew : wrote ≡ length (flush_moves v flag)) where
        pub way-count : wrote + 2 ≡ length (reached v flag way).moves
        way-count = rw e (by_count v flag w wrote ew)

        pub came-by : (g t : List ℕ) → g ≡ written p (flush_moves v flag) f → t ≡ text_of v w.detail
            → record { file = g; current = w.detail; flag = false; buffer = t; transfers = wrote + 2 } ≡ come (reached v flag way)
        unfolding reached
        came-by g t eg et = rw e (come-by v flag w.detail (Read w.index ∷ Read w.detail ∷ []) wrote 2 g t ew refl eg et tt)

      pub way-file : (g : List ℕ) → g ≡ written p (flush_moves v flag) f → g ≡ written p (reached v flag way).moves f
      way-file g eg = rw e (eg ∙ by-file v flag w f)

    -- the call stops at the block reached
    pub stop-told : (here : Arrived) (g t : List ℕ) (number : ℕ) (r : Done) → came here g t ≡ come (reached v flag way)
        → r ≡ record { number = number; transfers = here.transfers; current = here.current; flag = here.flag; keyed = false }
        → gave r g t [] ≡ told v flag [] (passed (stopping number [] (reached v flag way)))
    unfolding stopping
    stop-told here g t number r e er =
        ap (λ (z : Done). gave z g t []) er
        ∙ (λ j. record {
          number = number;
          transfers = (e j).transfers;
          current = (e j).current;
          flag = (e j).flag;
          keyed = false;
          file = (e j).file;
          buffer = (e j).buffer;
          work = [];
        })

-- the workspace, written over in full, is the row
pub row-given : (p : Description) (b w t : List ℕ) (i : ℕ) → t ≡ put w 0 (part (1 + i * p.wpr) p.wpr b)
    → place (detail_shape p) i + p.wpr ≤ length b → length w ≡ p.wpr → t ≡ row (detail_shape p) b i
unfolding detail_shape row
row-given p b w t i e h n = e ∙ put_all w (part (1 + i * p.wpr) p.wpr b) (length_part (1 + i * p.wpr) p.wpr b h ∙ sym n)
