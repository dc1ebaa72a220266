-- The file when a new block was started: the writes in the order of the code are those of the list of transfers.
use mathlib.Core.Path.{◌≡◌, sym, ap, ◌∙◌}
use mathlib.Core.Bool.{Bool}
use mathlib.Core.List.{List}
use Prim.Native.Nat.{ℕ, ◌+◌, ◌-◌, ◌*◌}
use native.Mathlib.Omega.{arith}
use lib.ListN.{length, take, drop}
use Rattle.words.specs.Words.{part}
use Rattle.table.specs.declared.Shape.{Shape}
use Rattle.table.specs.Tables.{count, row, replaced, laid}
use Rattle.drum.specs.declared.Description.{Description}
use Rattle.drum.specs.Params.{file_size, detail_shape}
use Rattle.drum.specs.Blocks.{Fitting, Block, block_at, put_block, Texts, seen, text_of, sections}
use Rattle.drum.proofs.Good.{caps}
use Rattle.drum.proofs.Blocks.{length-put_block, length-text_of, block_same, block-other, block-over, block-swap, master-word}
use Rattle.rules.specs.Lookup.{text_at}
use Rattle.rules.specs.XtendDone.{old_text, end_text}
use Rattle.rules.proofs.Kept.{index-block, detail-block}
use Rattle.rules.proofs.XtendKept.{old-length as length-old, end-length as length-end}
use Rattle.acts.proofs.Moves.{way-counts}
use Rattle.free.specs.Readied.{reached_file, ready_file}
use Rattle.free.proofs.Readying.{length-reached, sections-reached, length-ready}
use Rattle.xtend.specs.declared.deeds.Start.{Start}
use Rattle.xtend.specs.Fits.{EndIn, StartFits}
use Rattle.xtend.specs.Steps.{swapped, started_file}
use Rattle.xtend.proofs.Rows.{span}

-- words of the same lengths fit as well
still-fits : (p : Description) (f b g t : List ℕ) → length g ≡ length f → length t ≡ length b → Fitting p f b → Fitting p g t
still-fits p f b g t eg et fit = record { good = fit.good; file-is = eg ∙ fit.file-is; buffer-is = et ∙ fit.buffer-is }

-- `swap_end`, by what its calls left
pub swapped-by : (p : Description) (h : Shape) (b old n : ℕ) (f f₁ f₂ t t₁ work : List ℕ) → h ≡ detail_shape p → n ≡ count (detail_shape p) t
    → f₁ ≡ put_block p f b (laid p.wpb (h.tag + 1) (take (1 + (n - 1) * p.wpr + p.wpr - (1 + (n - 1) * p.wpr)) (drop (1 + (n - 1) * p.wpr) t)))
    → t₁ ≡ replaced h (n - 1) (part 0 p.wpr work) t → f₂ ≡ put_block p f₁ old t₁ → f₂ ≡ swapped p b old work t f
unfolding swapped row detail_shape
swapped-by p h b old n f f₁ f₂ t t₁ work eh en e₁ et e₂ = rw (e₂, e₁, span (1 + (n - 1) * p.wpr) p.wpr t, et, eh, en)

-- the buffer when the file is made ready
module _ (p : Description) (cur : ℕ) (f b : List ℕ) (flag : Bool) (s : Start) (work : List ℕ) where
  abbrev v : Texts
  v = seen p cur f b

  pub end-ready : (f₁ b₁ : List ℕ) → b₁ ≡ text_at v s.way → length f₁ ≡ length f → length b₁ ≡ length b → StartFits v flag s
      → Fitting p f b → length work ≡ p.wpr → EndIn p f₁ b₁ work
  end-ready f₁ b₁ e l m fits fit hw =
      let c = way-counts v flag s.way fits.ready.reached in
      record {
        fit = still-fits p f b f₁ b₁ l m fit;
        records = record { good = fit.good; text-is = m ∙ fit.buffer-is; least = rw e c.0; most = rw e c.1 };
        record_is = hw;
      }

  pub started-told : (f₁ f₂ b₁ : List ℕ) → f₂ ≡ swapped p s.new.block s.path.detail work b₁ f₁ → f₁ ≡ ready_file v flag s.way s.path s.new
      → b₁ ≡ text_at v s.way → f₂ ≡ started_file v flag s work
  unfolding started_file
  started-told f₁ f₂ b₁ e₂ e₁ eb = rw (e₂, e₁, eb)

-- the old block and the new one
module _ (v : Texts) (flag : Bool) (s : Start) (work : List ℕ) (fits : StartFits v flag s) (fit : Fitting v.desc v.file v.buffer)
    (hw : length work ≡ v.desc.wpr) where
  end-length : length (end_text v s.way) ≡ v.desc.wpb
  end-length = length-end v fit flag work hw s.way fits.ready.reached

  old-length : length (old_text v s.way work) ≡ v.desc.wpb
  old-length = length-old v fit flag work hw s.way fits.ready.reached

  index_is : Block v.desc s.path.index
  index_is = index-block v s.path fits.ready.path

  detail-is : Block v.desc s.path.detail
  detail-is = detail-block v s.path fits.ready.path

  index-length : length (text_of v s.path.index) ≡ v.desc.wpb
  index-length = length-text_of v s.path.index fit index_is

  reached-length : length (reached_file v flag s.way s.new) ≡ file_size v.desc
  reached-length = length-reached v flag s.way s.path s.new fits.ready fit

  ready-length : length (ready_file v flag s.way s.path s.new) ≡ file_size v.desc
  ready-length = length-ready v flag s.way s.path s.new fits.ready fit

  new-length : length (put_block v.desc (ready_file v flag s.way s.path s.new) s.new.block (end_text v s.way)) ≡ file_size v.desc
  new-length = length-put_block v.desc _ ready-length s.new.block fits.new.block (end_text v s.way) end-length

  pub length-started : length (started_file v flag s work) ≡ file_size v.desc
  unfolding started_file swapped end_text old_text
  length-started = length-put_block v.desc _ new-length s.path.detail detail-is (old_text v s.way work) old-length

  -- the index block then has its current text, and the master its sections
  pub index-started : block_at v.desc (started_file v flag s work) s.path.index ≡ text_of v s.path.index
  unfolding started_file swapped ready_file end_text old_text
  index-started =
      let i = s.path.index in
      block-other v.desc _ new-length s.path.detail detail-is (old_text v s.way work) old-length i index_is fits.ready.path.apart
      ∙ block-other v.desc _ ready-length s.new.block fits.new.block (end_text v s.way) end-length i index_is fits.new.not-index
      ∙ block_same v.desc (reached_file v flag s.way s.new) reached-length i index_is (text_of v i) index-length

  pub sections-started : sections (started_file v flag s work) ≡ sections v.file
  unfolding started_file swapped ready_file end_text old_text
  sections-started =
      let g = caps v.desc fit.good in
      master-word v.desc _ new-length s.path.detail detail-is (old_text v s.way work) old-length 0 (omega arith)
      ∙ master-word v.desc _ ready-length s.new.block fits.new.block (end_text v s.way) end-length 0 (omega arith)
      ∙ master-word v.desc (reached_file v flag s.way s.new) reached-length s.path.index index_is _ index-length 0 (omega arith)
      ∙ sections-reached v flag s.way s.path s.new fits.ready fit

  -- the index block written anew
  pub absorbed : (y : List ℕ) → length y ≡ v.desc.wpb → put_block v.desc (started_file v flag s work) s.path.index y
      ≡ put_block v.desc (put_block v.desc (put_block v.desc (reached_file v flag s.way s.new) s.path.detail (old_text v s.way work))
      s.path.index y) s.new.block (end_text v s.way)
  unfolding started_file swapped ready_file end_text old_text
  absorbed y hy =
      let p = v.desc in
      let r : List ℕ = reached_file v flag s.way s.new in
      let i = s.path.index in
      let d = s.path.detail in
      let b = s.new.block in
      let t : List ℕ = text_of v i in
      let e : List ℕ = end_text v s.way in
      let o : List ℕ = old_text v s.way work in
      let q : List ℕ = put_block p r i t in
      let lr : length (put_block p r d o) ≡ file_size p = length-put_block p r reached-length d detail-is o old-length in
      let lq : length (put_block p q d o) ≡ file_size p = length-put_block p q ready-length d detail-is o old-length in
      let swap : put_block p (put_block p q b e) d o ≡ put_block p (put_block p q d o) b e =
      block-swap p q ready-length b fits.new.block e end-length d detail-is o old-length (λ z. fits.new.not-detail (sym z)) in
      let after : put_block p (put_block p (put_block p q d o) b e) i y ≡ put_block p (put_block p (put_block p q d o) i y) b e =
      block-swap p (put_block p q d o) lq b fits.new.block e end-length i index_is y hy (λ z. fits.new.not-index (sym z)) in
      let under : put_block p q d o ≡ put_block p (put_block p r d o) i t =
      block-swap p r reached-length i index_is t index-length d detail-is o old-length fits.ready.path.apart in
      let over : put_block p (put_block p (put_block p r d o) i t) i y ≡ put_block p (put_block p r d o) i y =
      block-over p (put_block p r d o) lr i index_is t index-length y hy in
      ap (λ (z : List ℕ). put_block p z i y) swap ∙ after
      ∙ ap (λ (z : List ℕ). put_block p (put_block p z i y) b e) under ∙ ap (λ (z : List ℕ). put_block p z b e) over
