-- A split's file, as the calls leave it step by step, is the one that the definition writes.
use mathlib.Core.Path.{◌≡◌, refl, sym, ap, ◌∙◌}
use mathlib.Core.Bool.{Bool}
use mathlib.Core.List.{List, [], ◌∷◌, ◌++◌}
use Prim.Native.Nat.{ℕ, ◌+◌, ◌<◌}
use lib.ListN.{length}
use Rattle.words.specs.Words.{part}
use Rattle.table.specs.Tables.{count}
use Rattle.table.specs.Splits.{renamed, entered}
use Rattle.drum.specs.declared.Description.{Description}
use Rattle.drum.specs.Params.{I, file_size, master_shape, index_shape}
use Rattle.drum.specs.Blocks.{Fitting, Block, Transfer, Write, written, block_at, put_block, Texts, text_of, sections}
use Rattle.drum.proofs.Forms.{count-master}
use Rattle.drum.proofs.Blocks.{length-put_block, block_same, block-other, block-over, block-swap, length-text_of}
use Rattle.drum.proofs.Written.{Moves, written-append, moves-append}
use Rattle.rules.specs.declared.Path.{Path}
use Rattle.rules.specs.declared.Way.TheVariants.{By}
use Rattle.rules.specs.Lookup.{reached}
use Rattle.rules.specs.Free.{with_free}
use Rattle.rules.specs.NsertDone.{detail_low, detail_high, detail_entry, index_entered, index_low, index_high, index_entry}
use Rattle.rules.specs.NsertDone.{split_moves, both_split_moves, split_file, both_split_file}
use Rattle.rules.proofs.Kept.{index-block, detail-block, reached-moves, freed-count}
use Rattle.rules.proofs.NsertKept.{low-length, high-length, entered-length, index-low-length}
use Rattle.free.specs.Readied.{ReadyFits, reached_file, ready_file}
use Rattle.free.proofs.Readying.{length-reached, length-ready}
use Rattle.split.specs.Halves.{halved, low_entry}
use Rattle.nsert.specs.declared.splits.Overflow.{Overflow}
use Rattle.nsert.specs.Fits.{CutFits, second_of}
use Rattle.nsert.specs.Steps.{cut_file, above_file}

-- block i written, then d and n, then i again
module _ (p : Description) (f : List ℕ) (hf : length f ≡ file_size p) (i d n : ℕ) (t x y : List ℕ) (ht : length t ≡ p.wpb)
    (hx : length x ≡ p.wpb) (hy : length y ≡ p.wpb) (hi : Block p i) (hd : Block p d) (hn : Block p n) (nd : i ≡ d → ⊥) (nn : i ≡ n → ⊥) where
  h₁ : length (put_block p f i t) ≡ file_size p
  h₁ = length-put_block p f hf i hi t ht

  h₂ : length (put_block p (put_block p f i t) d x) ≡ file_size p
  h₂ = length-put_block p (put_block p f i t) h₁ d hd x hx

  block-kept : block_at p (put_block p (put_block p (put_block p f i t) d x) n y) i ≡ t
  block-kept =
      block-other p (put_block p (put_block p f i t) d x) h₂ n hn y hy i hi nn
      ∙ block-other p (put_block p f i t) h₁ d hd x hx i hi nd
      ∙ block_same p f hf i hi t ht

  absorbed : (e : List ℕ) → length e ≡ p.wpb
      → put_block p (put_block p (put_block p (put_block p f i t) d x) n y) i e ≡ put_block p (put_block p (put_block p f d x) n y) i e
  absorbed e he =
      let g₁ : length (put_block p f d x) ≡ file_size p = length-put_block p f hf d hd x hx in
      let g₂ : length (put_block p (put_block p f d x) n y) ≡ file_size p = length-put_block p (put_block p f d x) g₁ n hn y hy in
      rw (block-swap p f hf i hi t ht d hd x hx nd, block-swap p (put_block p f d x) g₁ i hi t ht n hn y hy nn)
      (block-over p (put_block p (put_block p f d x) n y) g₂ i hi t ht e he)

-- what the file is made ready with
pub cut-ready : (v : Texts) (flag : Bool) (c : Overflow) → CutFits v flag c → ReadyFits v flag (By c.path) c.path c.new
cut-ready v flag c x = record { reached = (x.path, x.flush); path = x.path; text = refl; head-most = x.new.head-most }

module _ (v : Texts) (flag : Bool) (c : Overflow) (r : List ℕ) (x : CutFits v flag c) (fit : Fitting v.desc v.file v.buffer)
    (hr : length r ≡ v.desc.wpr) where
  abbrev p : Description
  p = v.desc

  abbrev w : Path
  w = c.path

  abbrev b : ℕ
  b = c.new.block

  before : List ℕ
  before = reached_file v flag (By w) c.new

  length_before : length before ≡ file_size p
  unfolding before
  length_before = length-reached v flag (By w) w c.new (cut-ready v flag c x) fit

  length-index : length (text_of v w.index) ≡ p.wpb
  length-index = length-text_of v w.index fit (index-block v w x.path)

  low-is : length (detail_low v w c.place r) ≡ p.wpb
  low-is = low-length v fit w x.path c.place r hr

  high_is : length (detail_high v w c.place r) ≡ p.wpb
  high_is = high-length v fit w x.path c.place r hr

  -- the file once the detail block is split: its length, its index block, its sections
  pub length_cut : length (cut_file v flag c r) ≡ file_size p
  unfolding cut_file
  length_cut =
      length-put_block p _
      (length-put_block p _ (length-ready v flag (By w) w c.new (cut-ready v flag c x) fit) w.detail (detail-block v w x.path) _ low-is)
      b x.new.new.block _ high_is

  pub index_at : block_at p (cut_file v flag c r) w.index ≡ text_of v w.index
  unfolding cut_file ready_file before
  index_at =
      block-kept p before length_before w.index w.detail b (text_of v w.index) (detail_low v w c.place r) (detail_high v w c.place r) length-index
      low-is high_is (index-block v w x.path) (detail-block v w x.path) x.new.new.block x.path.apart x.new.new.not-index

  pub sections-cut : sections (cut_file v flag c r) ≡ sections v.file
  unfolding cut_file ready_file reached_file written
  sections-cut =
      let ws : List Transfer =
      Write w.index (text_of v w.index) ∷ Write w.detail (detail_low v w c.place r) ∷ Write b (detail_high v w c.place r) ∷ [] in
      let ms : List Transfer = (reached v flag (By w)).moves in
      let m : Moves p (ms ++ ws) =
      moves-append p ms ws (reached-moves v fit flag (By w) (x.path, x.flush))
      (index-block v w x.path, length-index, (detail-block v w x.path, low-is, (x.new.new.block, high_is, tt))) in
      ap sections (sym (written-append p ms ws (with_free c.new.head c.new.lowest v.file)))
      ∙ sym (count-master p (written p (ms ++ ws) (with_free c.new.head c.new.lowest v.file)))
      ∙ freed-count v fit (ms ++ ws) m c.new.head c.new.lowest

  -- the index block written over it
  over : (e : List ℕ) → length e ≡ p.wpb → put_block p (cut_file v flag c r) w.index e
      ≡ put_block p (put_block p (put_block p before w.detail (detail_low v w c.place r)) b (detail_high v w c.place r)) w.index e
  unfolding cut_file ready_file before
  over e he =
      absorbed p before length_before w.index w.detail b (text_of v w.index) (detail_low v w c.place r) (detail_high v w c.place r) length-index
      low-is high_is (index-block v w x.path) (detail-block v w x.path) x.new.new.block x.path.apart x.new.new.not-index e he

  -- the entry made, and the index block's text with it: the file of a split
  module _ (f₁ e : List ℕ) (e₁ : f₁ ≡ cut_file v flag c r) (ee : part 0 (p.k + 1) e ≡ detail_entry v w c.place r) where
    pub entered-is : count (index_shape p) (text_of v w.index) < I p → (f₂ : List ℕ)
        → f₂ ≡ put_block p f₁ w.index (entered (index_shape p) w.entry (part 0 (p.k + 1) e) b (block_at p f₁ w.index))
        → f₂ ≡ split_file v flag w c.place r c.new
    unfolding split_file split_moves written index_entered reached_file before
    entered-is room f₂ e₂ =
        e₂
        ∙ (λ j. put_block p (e₁ j) w.index (entered (index_shape p) w.entry (ee j) b (block_at p (e₁ j) w.index)))
        ∙ (λ j. put_block p (cut_file v flag c r) w.index (entered (index_shape p) w.entry (detail_entry v w c.place r) b (index_at j)))
        ∙ over (index_entered v w c.place r b) (entered-length v fit w x.path c.place r hr b room)
        ∙ sym (written-append p (reached v flag (By w)).moves (split_moves v w c.place r b) (with_free c.new.head c.new.lowest v.file))

    pub above-is : (y : ℕ) (f₂ : List ℕ) → f₂ ≡ above_file p w (part 0 (p.k + 1) e) b y f₁
        → f₂ ≡ both_split_file v flag w c.place r b (second_of c y)
    unfolding both_split_file both_split_moves written above_file index_entry index_low index_high reached_file before
    above-is y f₂ e₂ =
        e₂
        ∙ (λ j. above_file p w (ee j) b y (e₁ j))
        ∙ (λ j. entered (master_shape p) w.section
        (low_entry p (index_shape p) (I p) w.entry (detail_entry v w c.place r) (renamed (index_shape p) w.entry b (index_at j)) w.index) y
        (halved p (index_shape p) (I p) w.entry (detail_entry v w c.place r) (renamed (index_shape p) w.entry b (index_at j)) w.index y
        (cut_file v flag c r)))
        ∙ (λ j. entered (master_shape p) w.section (index_entry v w c.place r b) y
        (put_block p (over (index_low v w c.place r b) (index-low-length v fit w x.path c.place r hr b) j) y (index_high v w c.place r b)))
        ∙ (λ j. entered (master_shape p) w.section (index_entry v w c.place r b) y
        (sym (written-append p (reached v flag (By w)).moves (both_split_moves v w c.place r b y) (with_free c.new.head c.new.lowest v.file)) j))
