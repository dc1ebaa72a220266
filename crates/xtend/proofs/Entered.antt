-- A new block with its entry: in its index block, or in a new index block with a section; the transfers are those of the list, and the file
-- is as it says.
use mathlib.Core.Path.{◌≡◌, sym, ap, ◌∙◌}
use mathlib.Core.Bool.{Bool}
use mathlib.Core.List.{List}
use Prim.Native.Nat.{ℕ, ◌+◌, ◌≤◌, ◌<◌}
use native.Mathlib.Omega.{arith}
use lib.ListN.{length, length-append}
use Rattle.words.specs.Words.{part}
use Rattle.table.specs.Tables.{count, laid}
use Rattle.drum.specs.declared.Description.{Description}
use Rattle.drum.specs.Params.{I, master_shape, index_shape}
use Rattle.drum.specs.Blocks.{Fitting, written, block_at, put_block, Texts, seen, text_of, sections}
use Rattle.drum.proofs.Good.{caps}
use Rattle.drum.proofs.Written.{written-append}
use Rattle.rules.specs.State.{key_in}
use Rattle.rules.specs.Lookup.{reached}
use Rattle.rules.specs.Free.{with_free}
use Rattle.rules.specs.XtendDone.{ones_entry, bounded, extended, new_moves, section_moves, new_file, section_file}
use Rattle.rules.proofs.Kept.{index-block}
use Rattle.rules.proofs.XtendKept.{index-bounded, index-extended}
use Rattle.acts.proofs.Ways.{moves-most}
use Rattle.free.specs.Readied.{reached_file}
use Rattle.xtend.specs.declared.deeds.Start.{Start}
use Rattle.xtend.specs.Fits.{IndexTakes, SectionIn, StartFits, NewFits, SectionFits}
use Rattle.xtend.specs.Steps.{started_file, indexed, sectioned, new_all, new_left, section_all, section_left}
use Rattle.xtend.proofs.Started.{length-started, index-started, sections-started, absorbed}

-- the list: the way's transfers, which are few, and four, or five
pub way-few : (v : Texts) (flag : Bool) (s : Start) → StartFits v flag s → length (reached v flag s.way).moves ≤ 3
way-few v flag s fits = moves-most v flag s.way

pub new-four : (v : Texts) (flag : Bool) (s : Start) (work : List ℕ) (n : ℕ) → n ≡ length (reached v flag s.way).moves
    → n + 4 ≡ length (new_all v flag s work)
unfolding new_all new_moves
new-four v flag s work n e = ap (λ (m : ℕ). m + 4) e ∙ sym (length-append (reached v flag s.way).moves _)

pub both-five : (v : Texts) (flag : Bool) (s : Start) (x : ℕ) (work : List ℕ) (n : ℕ) → n ≡ length (reached v flag s.way).moves
    → n + 5 ≡ length (section_all v flag s x work)
unfolding section_all section_moves
both-five v flag s x work n e = ap (λ (m : ℕ). m + 5) e ∙ sym (length-append (reached v flag s.way).moves _)

module _ (p : Description) (cur : ℕ) (f b : List ℕ) (flag : Bool) (s : Start) (work f₁ : List ℕ) where
  abbrev v : Texts
  v = seen p cur f b

  -- the index block, once the new block is started
  module _ (e₁ : f₁ ≡ started_file v flag s work) (fits : StartFits v flag s) (fit : Fitting p f b) (hw : length work ≡ p.wpr) where
    index-text : block_at p f₁ s.path.index ≡ text_of v s.path.index
    index-text = ap (λ (z : List ℕ). block_at p z s.path.index) e₁ ∙ index-started v flag s work fits fit hw

    pub started-index : IndexTakes p f₁ s.path.index work
    started-index =
        let g = caps p fit.good in
        let q = g.facts in
        let e = fits.ready.path.entry-below in
        let i = index-block v s.path fits.ready.path in
        record {
          held = record {
            good = fit.good;
            file-is = ap length e₁ ∙ length-started v flag s work fits fit hw;
            least = i.0;
            most = i.1;
          };
          least = rw index-text (omega arith);
          most = rw index-text fits.ready.path.entries-most;
          key-is = omega arith;
        }

  -- it has room
  module _ (e₁ : f₁ ≡ started_file v flag s work) (new : NewFits v flag s) (fit : Fitting p f b) (hw : length work ≡ p.wpr) where
    pub started-room : count (index_shape p) (block_at p f₁ s.path.index) < I p
    started-room = rw (index-text e₁ new.start fit hw) new.room

    pub new_told : (f₂ : List ℕ)
        → f₂ ≡ put_block p f₁ s.path.index (extended p (index_shape p) (part 0 p.k work) s.new.block (block_at p f₁ s.path.index))
        → f₂ ≡ new_left v flag s work
    unfolding new_left new_file new_moves written reached_file
    new_told f₂ e₂ =
        let y : List ℕ = extended p (index_shape p) (key_in p work) s.new.block (text_of v s.path.index) in
        let ready = new.start.ready in
        let hy : length y ≡ p.wpb = index-extended v fit flag work hw s.way ready.reached s.path ready.path s.new.block new.room in
        let e : f₂ ≡ put_block p (started_file v flag s work) s.path.index y = rw (e₂, index-text e₁ new.start fit hw, e₁) in
        e ∙ absorbed v flag s work new.start fit hw y hy
        ∙ sym (written-append p (reached v flag s.way).moves (new_moves v s.way s.path work s.new.block)
        (with_free s.new.head s.new.lowest f))

  -- or it is full, and x is a new index block
  module _ (x : ℕ) (e₁ : f₁ ≡ started_file v flag s work) (both : SectionFits v flag s x) (fit : Fitting p f b) (hw : length work ≡ p.wpr) where
    pub section-ready : SectionIn p f₁ s.path.index work s.new.block x
    section-ready =
        let c : sections f₁ ≡ sections f = ap (λ (z : List ℕ). sections z) e₁ ∙ sections-started v flag s work both.start fit hw in
        let m = both.start.ready.path.section-below in
        let old = started-index e₁ both.start fit hw in
        record {
          old = old;
          new = record { good = fit.good; file-is = old.held.file-is; least = both.index.0; most = both.index.1 };
          entry = both.start.new.block.1;
          least = omega arith;
          room = rw c both.section;
        }

    pub both_told : (f₂ : List ℕ) → f₂ ≡ sectioned p (part 0 p.k work) s.path.index s.new.block x f₁ → f₂ ≡ section_left v flag s x work
    unfolding section_left section_file section_moves written reached_file sectioned indexed
    both_told f₂ e₂ =
        let i = s.path.index in
        let y : List ℕ = bounded (index_shape p) (key_in p work) (text_of v i) in
        let ready = both.start.ready in
        let hy : length y ≡ p.wpb = index-bounded v fit flag work hw s.way ready.reached s.path ready.path in
        let u : List ℕ = laid p.wpb ((index_shape p).tag + 1) (ones_entry p s.new.block) in
        let top : List ℕ → List ℕ = λ z. extended p (master_shape p) (key_in p work) x (put_block p z x u) in
        let e : f₂ ≡ top (put_block p (started_file v flag s work) i y) = rw (e₂, index-text e₁ both.start fit hw, e₁) in
        e ∙ ap top (absorbed v flag s work both.start fit hw y hy)
        ∙ ap (extended p (master_shape p) (key_in p work) x) (sym (written-append p (reached v flag s.way).moves
        (section_moves v s.way s.path work s.new.block x) (with_free s.new.head s.new.lowest f)))
