-- What the code of a split asks of the code below it, and what it leaves, by the calls that it makes.
use mathlib.Core.Path.{◌≡◌, refl, sym, ap, ◌∙◌}
use mathlib.Core.Bool.{Bool, true}
use mathlib.Core.List.{List}
use Prim.Native.Nat.{ℕ, ◌+◌, ◌≤◌, ◌<◌}
use native.Mathlib.Omega.{arith}
use lib.ListN.{length}
use Rattle.words.specs.Words.{part}
use Rattle.words.proofs.Parts.{length_part}
use Rattle.table.specs.declared.Shape.{Shape}
use Rattle.table.specs.Tables.{count}
use Rattle.table.specs.Splits.{low_text, high_text, renamed, entered}
use Rattle.table.proofs.Lengths.{length-low, length_high}
use Rattle.drum.specs.declared.Description.{Description}
use Rattle.drum.specs.Params.{D, I, good_params, master_size, file_size, master_shape, index_shape, detail_shape}
use Rattle.drum.specs.Blocks.{Fitting, Block, block_at, put_block, Texts, seen, text_of, sections}
use Rattle.drum.proofs.Good.{caps}
use Rattle.drum.proofs.Forms.{index-tag, detail-tag, count-master}
use Rattle.drum.proofs.Blocks.{length-put_block, length-text_of, master-word}
use Rattle.rules.specs.declared.Way.TheVariants.{By}
use Rattle.rules.specs.State.{record_in}
use Rattle.rules.specs.NsertDone.{detail_low, detail_high, detail_entry, split_file, both_split_file}
use Rattle.rules.proofs.Kept.{index-block, detail-block}
use Rattle.rules.proofs.Rooms.{master-row}
use Rattle.free.specs.Readied.{ready_file}
use Rattle.free.proofs.Readying.{length-ready}
use Rattle.split.specs.Halves.{FullTable, halved, low_entry}
use Rattle.split.specs.Enters.{Enters, EntersIn}
use Rattle.split.specs.Cuts.{Divides, DividesIn}
use Rattle.nsert.specs.declared.splits.Overflow.{Overflow}
use Rattle.nsert.specs.Fits.{CutFits, SplitFits, BothFits, AboveFits, second_of}
use Rattle.nsert.specs.Steps.{cut_file, above_file}
use Rattle.nsert.proofs.Cutting.{cut-ready, length_cut, index_at, sections-cut, entered-is, above-is}

-- keys are short, block numbers small
pub key-short : (p : Description) (f b : List ℕ) → Fitting p f b → p.k ≤ 63
key-short p f b fit = let g = caps p fit.good in let h = g.facts in omega arith

pub number_small : (p : Description) (f b : List ℕ) → Fitting p f b → p.n ≤ 262143
number_small p f b fit = let g = caps p fit.good in let h = g.facts in omega arith

-- a full detail block, a full index block
full-detail : (p : Description) (i : ℕ) → good_params p ≡ true → i ≤ D p → FullTable p (detail_shape p) (D p) i
unfolding detail_shape
full-detail p i g h =
    let q = caps p g in
    let f = q.facts in
    record {
      base-one = refl;
      stride-least = omega arith;
      rows-least = f.two_records;
      rows_fit = q.records-fit;
      tag-most = detail-tag p g;
      place-most = h;
    }

full-index : (p : Description) (i : ℕ) → good_params p ≡ true → i ≤ I p → FullTable p (index_shape p) (I p) i
unfolding index_shape
full-index p i g h =
    let q = caps p g in
    record {
      base-one = refl;
      stride-least = omega arith;
      rows-least = q.facts.two-entries;
      rows_fit = q.entries_fit;
      tag-most = omega (arith, index-tag p g);
      place-most = h;
    }

-- the words lent for a record and for an entry are as long as those of the tables
module _ (p : Description) (h : Shape) where
  pub record-long : (work : List ℕ) → h ≡ detail_shape p → length work ≡ p.wpr → h.stride ≤ length work
  unfolding detail_shape
  record-long work e n = rw e (omega arith)

  pub entry-long : (entry : List ℕ) → h ≡ detail_shape p → p.k + 1 ≤ length entry → h.width + 1 ≤ length entry
  unfolding detail_shape
  entry-long entry e l = rw e l

  pub index-long : (entry : List ℕ) → h ≡ index_shape p → p.k + 1 ≤ length entry → h.stride ≤ length entry
  unfolding index_shape
  index-long entry e l = rw e l

  pub index_short : (f b : List ℕ) → h ≡ index_shape p → Fitting p f b → h.width + 1 ≤ 64
  unfolding index_shape
  index_short f b e fit = let k = key-short p f b fit in rw e (omega arith)

  pub master-short : (f b t : List ℕ) → h ≡ master_shape p → length t ≡ 64 → Fitting p f b → h.stride ≤ length t
  unfolding master_shape
  master-short f b t e l fit = let k = key-short p f b fit in rw e (omega arith)

-- a record in the workspace is whole
whole-record : (p : Description) (work : List ℕ) → length work ≡ p.wpr → length (record_in p work) ≡ p.wpr
whole-record p work e = length_part 0 p.wpr work (omega arith)

-- `cut`: the detail block stands in the buffer, full
module _ (p : Description) (cur : ℕ) (f b : List ℕ) (flag : Bool) (c : Overflow) (f₁ b₁ : List ℕ) (h : Shape) (n : ℕ) where
  pub cut-full : CutFits (seen p cur f b) flag c → Fitting p f b → h ≡ detail_shape p → n ≡ D p → FullTable p h n c.place
  cut-full x fit eh en = rw (eh, en) (full-detail p c.place fit.good x.place)

  pub cut-divides : (full : FullTable p h n c.place) → CutFits (seen p cur f b) flag c → Fitting p f b → h ≡ detail_shape p → n ≡ D p
      → f₁ ≡ ready_file (seen p cur f b) flag (By c.path) c.path c.new → b₁ ≡ text_of (seen p cur f b) c.path.detail
      → (work entry : List ℕ) → h.stride ≤ length work → h.width + 1 ≤ length entry
      → Divides (record { desc = p; shape = h; rows = n; place = c.place; old = c.path.detail; new = c.new.block; full = full }) f₁ b₁ work entry
  unfolding detail_shape
  cut-divides full x fit eh en e₁ eb work entry row-long roomy =
      let v = seen p cur f b in
      let q = caps p fit.good in
      record {
        fitting = record {
          good = fit.good;
          file-is = ap length e₁ ∙ length-ready v flag (By c.path) c.path c.new (cut-ready v flag c x) fit;
          buffer-is = ap length eb ∙ length-text_of v c.path.detail fit (detail-block v c.path x.path);
        };
        old-least = x.path.detail-least;
        old-most = x.path.detail-most;
        new-least = x.new.new.block.0;
        new-most = x.new.new.block.1;
        apart = x.new.new.not-detail;
        key-within = rw eh q.facts.key;
        row-long = row-long;
        entry-long = roomy;
      }

  module _ (e₁ : f₁ ≡ ready_file (seen p cur f b) flag (By c.path) c.path c.new) (eb : b₁ ≡ text_of (seen p cur f b) c.path.detail)
      (eh : h ≡ detail_shape p) (en : n ≡ D p) (work : List ℕ) where
    pub cut-file : (f₂ : List ℕ) → f₂ ≡ halved p h n c.place (part 0 h.stride work) b₁ c.path.detail c.new.block f₁
        → f₂ ≡ cut_file (seen p cur f b) flag c (record_in p work)
    unfolding cut_file detail_low detail_high detail_shape
    cut-file f₂ e₂ =
        e₂ ∙ (λ j. halved p (eh j) (en j) c.place (part 0 (eh j).stride work) (eb j) c.path.detail c.new.block (e₁ j))

    pub cut-entry : (e : List ℕ) → part 0 (h.width + 1) e ≡ low_entry p h n c.place (part 0 h.stride work) b₁ c.path.detail
        → part 0 (p.k + 1) e ≡ detail_entry (seen p cur f b) c.path c.place (record_in p work)
    unfolding detail_entry detail_low detail_shape
    cut-entry e q =
        (λ j. part 0 ((sym eh j).width + 1) e) ∙ q
        ∙ (λ j. low_entry p (eh j) (en j) c.place (part 0 (eh j).stride work) (eb j) c.path.detail)

-- `write_split` and `write_both`, once the detail block is split
module _ (p : Description) (cur : ℕ) (f b : List ℕ) (flag : Bool) (c : Overflow) (work f₁ : List ℕ)
    (e₁ : f₁ ≡ cut_file (seen p cur f b) flag c (record_in p work)) where
  abbrev v : Texts
  v = seen p cur f b

  -- the index block has room for its entry that becomes two
  pub split-enters : SplitFits v flag c → Fitting p f b → length work ≡ p.wpr → EntersIn p f₁ c.path.index c.path.entry
  split-enters x fit hw =
      let y = x.cut in
      let hr = whole-record p work hw in
      let i : block_at p f₁ c.path.index ≡ text_of v c.path.index =
      ap (λ (z : List ℕ). block_at p z c.path.index) e₁ ∙ index_at v flag c (record_in p work) y fit hr in
      record {
        held = record {
          good = fit.good;
          file-is = ap length e₁ ∙ length_cut v flag c (record_in p work) y fit hr;
          least = y.path.index-least;
          most = y.path.index-most;
        };
        below = rw i y.path.entry-below;
        room = rw i x.room;
      }

  pub split-file : (e f₂ : List ℕ)
      → f₂ ≡ put_block p f₁ c.path.index (entered (index_shape p) c.path.entry (part 0 (p.k + 1) e) c.new.block (block_at p f₁ c.path.index))
      → part 0 (p.k + 1) e ≡ detail_entry v c.path c.place (record_in p work)
      → SplitFits v flag c → Fitting p f b → length work ≡ p.wpr
      → f₂ ≡ split_file v flag c.path c.place (record_in p work) c.new
  split-file e f₂ e₂ ee x fit hw = entered-is v flag c (record_in p work) x.cut fit (whole-record p work hw) f₁ e e₁ ee x.room f₂ e₂

  -- the index block is full, and a section is left
  module _ (y : ℕ) where
    above-fits : BothFits v flag c y → Fitting p f b → length work ≡ p.wpr → AboveFits p f₁ c y
    above-fits x fit hw =
        let z = x.cut in
        let s : sections f₁ ≡ sections f = ap sections e₁ ∙ sections-cut v flag c (record_in p work) z fit (whole-record p work hw) in
        let l = z.path.entry-below in
        let m = z.path.entries-most in
        record {
          index = index-block v c.path z.path;
          new = x.index.block;
          apart = x.index.not-index;
          entry-below = omega arith;
          named = z.new.new.block.1;
          section-below = rw s z.path.section-below;
          section-left = rw s x.section;
        }

    pub cut_fits : (b₁ : List ℕ) → length b₁ ≡ length b → BothFits v flag c y → Fitting p f b → length work ≡ p.wpr → Fitting p f₁ b₁
    cut_fits b₁ l x fit hw = record {
      good = fit.good;
      file-is = ap length e₁ ∙ length_cut v flag c (record_in p work) x.cut fit (whole-record p work hw);
      buffer-is = l ∙ fit.buffer-is;
    }

    pub both-file : (e f₂ : List ℕ) → f₂ ≡ above_file p c.path (part 0 (p.k + 1) e) c.new.block y f₁
        → part 0 (p.k + 1) e ≡ detail_entry v c.path c.place (record_in p work)
        → BothFits v flag c y → Fitting p f b → length work ≡ p.wpr
        → f₂ ≡ both_split_file v flag c.path c.place (record_in p work) c.new.block (second_of c y)
    both-file e f₂ e₂ ee x fit hw = above-is v flag c (record_in p work) x.cut fit (whole-record p work hw) f₁ e e₁ ee y f₂ e₂

-- the same, by the plan first
pub both-above : (p : Description) (cur : ℕ) (f b : List ℕ) (flag : Bool) (c : Overflow) (y : ℕ) (work f₁ : List ℕ) → BothFits (seen p cur f b) flag c y
    → Fitting p f b → f₁ ≡ cut_file (seen p cur f b) flag c (record_in p work) → length work ≡ p.wpr → AboveFits p f₁ c y
both-above p cur f b flag c y work f₁ x fit e₁ hw = above-fits p cur f b flag c work f₁ e₁ y x fit hw

-- two blocks written leave the master's count of sections
sections-halved : (p : Description) (h : Shape) (n i : ℕ) (r t : List ℕ) (old new : ℕ) (f : List ℕ) → good_params p ≡ true → length f ≡ file_size p
    → Block p old → Block p new → FullTable p h n i → length r ≡ h.stride → sections (halved p h n i r t old new f) ≡ sections f
sections-halved p h n i r t old new f g hf ho hn x hr =
    let q = caps p g in
    let m : 0 < master_size p = omega arith in
    let two = x.rows-least in
    let ll = length-low p.wpb h n i r t (omega arith) hr x.rows_fit in
    let lh = length_high p.wpb h n i r t (omega arith) hr x.rows_fit in
    master-word p _ (length-put_block p f hf old ho (low_text p.wpb h n i r t) ll) new hn (high_text p.wpb h n i r t) lh 0 m
    ∙ master-word p f hf old ho (low_text p.wpb h n i r t) ll 0 m

-- `write_above`: the index block is split, and the split entered in the master
module _ (p : Description) (c : Overflow) (x : ℕ) (f b : List ℕ) (h : Shape) (n : ℕ) (eh : h ≡ index_shape p) (en : n ≡ I p) where
  pub above-full : AboveFits p f c x → Fitting p f b → FullTable p h n c.path.entry
  above-full a fit = let l = a.entry-below in rw (eh, en) (full-index p c.path.entry fit.good (omega arith))

  pub above-divides : (full : FullTable p h n c.path.entry) → AboveFits p f c x → Fitting p f b
      → (entry above : List ℕ) → h.stride ≤ length entry → h.width + 1 ≤ length above
      → DividesIn (record { desc = p; shape = h; rows = n; place = c.path.entry; old = c.path.index; new = x; full = full }) c.new.block f b entry above
  unfolding index_shape
  above-divides full a fit entry above row-long roomy =
      let l = a.entry-below in
      let m = a.named in
      let s = number_small p f b fit in
      record {
        divides = record {
          fitting = fit;
          old-least = a.index.0;
          old-most = a.index.1;
          new-least = a.new.0;
          new-most = a.new.1;
          apart = a.apart;
          key-within = rw eh (omega arith);
          row-long = row-long;
          entry-long = roomy;
        };
        below = rw en l;
        named = rw eh (omega arith);
        number = omega arith;
      }

  module _ (e f₁ : List ℕ)
      (e₁ : f₁ ≡ halved p h n c.path.entry (part 0 h.stride e) (renamed h c.path.entry c.new.block (block_at p f c.path.index))
      c.path.index x f) where
    abbrev named : Shape → List ℕ
    named g = renamed g c.path.entry c.new.block (block_at p f c.path.index)

    halved_is : f₁ ≡ halved p (index_shape p) (I p) c.path.entry (part 0 (p.k + 1) e) (named (index_shape p)) c.path.index x f
    unfolding index_shape
    halved_is = e₁ ∙ (λ j. halved p (eh j) (en j) c.path.entry (part 0 (eh j).stride e) (named (eh j)) c.path.index x f)

    pub above-enters : (g : Shape) → g ≡ master_shape p → AboveFits p f c x → Fitting p f b → p.k + 1 ≤ length e → length f₁ ≡ length f
        → Enters g c.path.section f₁
    unfolding index_shape master_shape
    above-enters g eg a fit le lf =
        let q = caps p fit.good in
        let k = a.entry-below in
        let s : count (master_shape p) f₁ ≡ sections f =
        count-master p f₁
        ∙ ap sections halved_is
        ∙ sections-halved p (index_shape p) (I p) c.path.entry (part 0 (p.k + 1) e) (named (index_shape p)) c.path.index x f fit.good
        fit.file-is a.index a.new (full-index p c.path.entry fit.good (omega arith)) (length_part 0 (p.k + 1) e (omega arith)) in
        let r = master-row p fit.good (sections f) a.section-left in
        let l = fit.file-is in
        let t = a.section-left in
        let u = q.facts in
        record {
          counted = rw eg (omega arith);
          key-within = rw eg (omega arith);
          room = rw (eg, s) (omega arith);
          below = rw (eg, s) a.section-below;
          count_most = rw (eg, s) (omega arith);
        }

    pub above-file : (g : Shape) (u f₂ : List ℕ) → f₂ ≡ entered g c.path.section (part 0 g.stride u) x f₁ → g ≡ master_shape p
        → part 0 (h.width + 1) u ≡ low_entry p h n c.path.entry (part 0 h.stride e) (named h) c.path.index
        → f₂ ≡ above_file p c.path (part 0 (p.k + 1) e) c.new.block x f
    unfolding above_file index_shape master_shape
    above-file g u f₂ e₂ eg eu =
        let a : part 0 (p.k + 1) u ≡ low_entry p (index_shape p) (I p) c.path.entry (part 0 (p.k + 1) e) (named (index_shape p)) c.path.index =
        (λ j. part 0 ((sym eh j).width + 1) u) ∙ eu
        ∙ (λ j. low_entry p (eh j) (en j) c.path.entry (part 0 (eh j).stride e) (named (eh j)) c.path.index) in
        e₂ ∙ (λ j. entered (eg j) c.path.section (part 0 (eg j).stride u) x (halved_is j))
        ∙ (λ j. entered (master_shape p) c.path.section (a j) x
        (halved p (index_shape p) (I p) c.path.entry (part 0 (p.k + 1) e) (named (index_shape p)) c.path.index x f))
