-- The file when a block was emptied: the index block's text, stored on the way, is written over, and what the calls left is what the
-- list of transfers writes.
use mathlib.Core.Path.{◌≡◌, sym, ap, ◌∙◌}
use mathlib.Core.Bool.{Bool}
use mathlib.Core.List.{List, [], ◌∷◌, ◌++◌}
use Prim.Native.Nat.{ℕ, ◌+◌, ◌≤◌, ◌<◌}
use native.Mathlib.Omega.{arith}
use lib.ListN.{length, set, length-append, length-set}
use lib.Seq.{get_or-set_other}
use Rattle.table.specs.declared.Shape.{Shape}
use Rattle.table.specs.Tables.{count, place, removed}
use Rattle.table.proofs.Places.{row-le}
use Rattle.drum.specs.declared.Description.{Description}
use Rattle.drum.specs.Params.{file_size, master_shape}
use Rattle.drum.specs.Blocks.{Fitting, Block, Read, Write, written, free_text, block_at, put_block, Texts, seen, text_of, sections}
use Rattle.drum.specs.Inside.{HasBlock}
use Rattle.drum.proofs.Good.{caps}
use Rattle.drum.proofs.Forms.{count-master}
use Rattle.drum.proofs.Lent.{held, held-still}
use Rattle.drum.proofs.Blocks.{length-put_block, block_same, block-other, block-over, block-swap, block-set, master-set, length-text_of, length-free_text}
use Rattle.drum.proofs.Written.{Moves, moves-append, written-append, master-word-written, master-set-written}
use Rattle.rules.specs.declared.Path.{Path}
use Rattle.rules.specs.declared.Way.{Way}
use Rattle.rules.specs.Lookup.{reached}
use Rattle.rules.specs.Dlete.{entry_gone, empty_moves, empty_all, both_all, empty_file, both_file}
use Rattle.dlete.specs.Fits.{HasEntry, EntryIn, EmptyFits, OneFits}
use Rattle.dlete.specs.Freed.{freed}
use Rattle.acts.proofs.Ways.{moves-most, way-moves, length-followed, text-followed}
use Rattle.dlete.proofs.Gone.{Removable, removed-from, length-gone}

-- the list of an emptied block: the way's transfers, which are few, and three
module _ (v : Texts) (flag : Bool) (way : Way) (w : Path) (link : ℕ) (fits : EmptyFits v flag way w link) where
  pub way-few : length (reached v flag way).moves ≤ 3
  way-few = moves-most v flag way

  pub one-three : length (empty_all v flag way w link) ≡ length (reached v flag way).moves + 3
  unfolding empty_all empty_moves
  one-three = length-append (reached v flag way).moves _

  pub both-three : length (both_all v flag way w link) ≡ length (reached v flag way).moves + 3
  unfolding both_all empty_moves
  both-three = length-append (reached v flag way).moves _

module _ (v : Texts) (fit : Fitting v.desc v.file v.buffer) (flag : Bool) (way : Way) (w : Path) (link : ℕ) (fits : EmptyFits v flag way w link) where
  index-block : Block v.desc w.index
  index-block = (fits.path.index-least, fits.path.index-most)

  detail-block : Block v.desc w.detail
  detail-block = (fits.path.detail-least, fits.path.detail-most)

  index-length : length (text_of v w.index) ≡ v.desc.wpb
  index-length = length-text_of v w.index fit index-block

  free-length : length (free_text v.desc link) ≡ v.desc.wpb
  free-length = length-free_text v.desc link fit.good

  ready-length : length (written v.desc (reached v flag way).moves v.file) ≡ file_size v.desc
  ready-length = length-followed v flag fit way fits.reached

  -- with the index block's text stored
  staged-length : length (put_block v.desc (written v.desc (reached v flag way).moves v.file) w.index (text_of v w.index)) ≡ file_size v.desc
  staged-length = length-put_block v.desc _ ready-length w.index index-block (text_of v w.index) index-length

  length-freed : length (freed v flag way w link) ≡ file_size v.desc
  unfolding freed
  length-freed = length-put_block v.desc _ staged-length w.detail detail-block (free_text v.desc link) free-length

  -- `free_detail`, by what its calls left
  freed-by : (f₁ f₂ f₃ : List ℕ)
      → f₁ ≡ written v.desc (reached v flag way).moves v.file
      → f₂ ≡ put_block v.desc f₁ w.index (text_of (seen v.desc v.current f₁ v.buffer) w.index)
      → f₃ ≡ put_block v.desc f₂ w.detail (free_text v.desc link) → f₃ ≡ freed v flag way w link
  unfolding freed
  freed-by f₁ f₂ f₃ e₁ e₂ e₃ =
      let t = text-followed v flag fit way fits.reached w.index index-block in
      rw (e₃, e₂, e₁, t)

  -- the index block then has its current text
  index-freed : (head : ℕ) (f : List ℕ) → f ≡ set (freed v flag way w link) 1 head → block_at v.desc f w.index ≡ text_of v w.index
  unfolding freed
  index-freed head f e =
      let g = caps v.desc fit.good in
      ap (λ (z : List ℕ). block_at v.desc z w.index) e
      ∙ block-set v.desc (freed v flag way w link) 1 head w.index (omega arith)
      ∙ block-other v.desc _ staged-length w.detail detail-block (free_text v.desc link) free-length w.index index-block fits.path.apart
      ∙ block_same v.desc (written v.desc (reached v flag way).moves v.file) ready-length w.index index-block (text_of v w.index) index-length

  freed-fits : (head : ℕ) (f : List ℕ) → f ≡ set (freed v flag way w link) 1 head → length f ≡ file_size v.desc
  freed-fits head f e = ap length e ∙ length-set (freed v flag way w link) 1 head ∙ length-freed

  -- the index block written anew, and the list of transfers
  module _ (head : ℕ) (t : List ℕ) (ht : length t ≡ v.desc.wpb) where
    all-moves : Moves v.desc ((reached v flag way).moves ++ empty_moves v.desc w link t)
    unfolding empty_moves
    all-moves =
        let first = way-moves v flag fit way fits.reached in
        moves-append v.desc (reached v flag way).moves (empty_moves v.desc w link t) first (detail-block, free-length, (index-block, ht, tt))

    absorbed : put_block v.desc (freed v flag way w link) w.index t
        ≡ written v.desc ((reached v flag way).moves ++ empty_moves v.desc w link t) v.file
    unfolding freed empty_moves written
    absorbed =
        let p = v.desc in
        let f : List ℕ = written p (reached v flag way).moves v.file in
        let x : List ℕ = free_text p link in
        let n : length (put_block p f w.detail x) ≡ file_size p = length-put_block p f ready-length w.detail detail-block x free-length in
        let old : List ℕ = text_of v w.index in
        let swapped = block-swap p f ready-length w.index index-block old index-length w.detail detail-block x free-length fits.path.apart in
        ap (λ (z : List ℕ). put_block p z w.index t) swapped
        ∙ block-over p (put_block p f w.detail x) n w.index index-block old index-length t ht
        ∙ sym (written-append p (reached v flag way).moves (Write w.detail x ∷ Read w.index ∷ Write w.index t ∷ []) v.file)

    emptied-by : (f₁ f₂ : List ℕ) → f₁ ≡ set (freed v flag way w link) 1 head → f₂ ≡ put_block v.desc f₁ w.index t
        → f₂ ≡ written v.desc ((reached v flag way).moves ++ empty_moves v.desc w link t) (set v.file 1 head)
    emptied-by f₁ f₂ e₁ e₂ =
        let g = caps v.desc fit.good in
        let moves = (reached v flag way).moves ++ empty_moves v.desc w link t in
        e₂ ∙ ap (λ (z : List ℕ). put_block v.desc z w.index t) e₁
        ∙ master-set v.desc (freed v flag way w link) length-freed w.index index-block t ht 1 head (omega arith)
        ∙ ap (λ (z : List ℕ). set z 1 head) absorbed
        ∙ sym (master-set-written v.desc v.file fit.file-is moves all-moves 1 head (omega arith))

    -- its master: as many sections as before
    sections-kept : (f : List ℕ)
        → f ≡ written v.desc ((reached v flag way).moves ++ empty_moves v.desc w link t) (set v.file 1 head)
        → sections f ≡ sections v.file
    sections-kept f e =
        let g = caps v.desc fit.good in
        let n : length (set v.file 1 head) ≡ file_size v.desc = length-set v.file 1 head ∙ fit.file-is in
        ap sections e
        ∙ master-word-written v.desc (set v.file 1 head) n ((reached v flag way).moves ++ empty_moves v.desc w link t) all-moves 0 (omega arith)
        ∙ get_or-set_other v.file 1 0 head 0 (λ q. omega arith)

  both-on : (f₁ f₂ : List ℕ) → f₁ ≡ set (freed v flag way w link) 1 w.index
      → f₂ ≡ put_block v.desc f₁ w.index (free_text v.desc w.detail)
      → f₂ ≡ written v.desc (both_all v flag way w link) (set v.file 1 w.index)
  unfolding both_all
  both-on f₁ f₂ e₁ e₂ =
      emptied-by w.index (free_text v.desc w.detail) (length-free_text v.desc w.detail fit.good) f₁ f₂ e₁ e₂

  master-row : (f : List ℕ) → f ≡ written v.desc (both_all v flag way w link) (set v.file 1 w.index) → length f ≡ file_size v.desc
      → Removable (master_shape v.desc) f w.section
  unfolding both_all master_shape
  master-row f e n =
      let s : count (master_shape v.desc) f ≡ sections v.file =
      count-master v.desc f ∙ sections-kept w.index (free_text v.desc w.detail) (length-free_text v.desc w.detail fit.good) f e in
      let g = caps v.desc fit.good in
      let q = g.facts in
      let a = fits.path.sections-most in
      let b = fits.path.section-below in
      let r = row-le (count (master_shape v.desc) f) v.desc.control (v.desc.k + 1) (omega arith) in
      record { within = omega arith; below = omega arith; most = omega arith }

-- the index block's entry, where the index block has others
one_entry : (v : Texts) (flag : Bool) (way : Way) (w : Path) (link : ℕ) → Fitting v.desc v.file v.buffer → OneFits v flag way w link
    → HasEntry v.desc (text_of v w.index) w.entry
one_entry v flag way w link fit one =
    let path = one.emptied.path in
    record {
      good = fit.good;
      text-is = length-text_of v w.index fit (path.index-least, path.index-most);
      others = one.others;
      most = path.entries-most;
      below = path.entry-below;
    }

-- The three functions, by what their calls left.
module _ (p : Description) (cur : ℕ) (f b : List ℕ) (flag : Bool) (way : Way) (w : Path) (link : ℕ) where
  abbrev v : Texts
  v = seen p cur f b

  pub staged-fits : (f₁ : List ℕ) → EmptyFits v flag way w link → f₁ ≡ written p (reached v flag way).moves f
      → Fitting p f b → Fitting p f₁ b
  staged-fits f₁ fits e fit =
      record {
        good = fit.good;
        file-is = ap length e ∙ length-followed v flag fit way fits.reached;
        buffer-is = fit.buffer-is;
      }

  -- the index block's text stored, the file has its blocks still
  module _ (f₁ f₂ : List ℕ) (fits : EmptyFits v flag way w link) (fit : Fitting p f b)
      (e₁ : f₁ ≡ written p (reached v flag way).moves f)
      (e₂ : f₂ ≡ put_block p f₁ w.index (text_of (seen p cur f₁ b) w.index)) where
    pub staged-held : HasBlock p f₂ w.detail
    staged-held =
        let h = index-block v fit flag way w link fits in
        let g = staged-fits f₁ fits e₁ fit in
        let l = length-text_of (seen p cur f₁ b) w.index g h in
        let k = held p f₁ b w.detail g fits.path.detail-least fits.path.detail-most in
        held-still p f₁ f₂ w.index w.detail _ e₂ l (held p f₁ b w.index g h.0 h.1) k

    pub freed-told : (f₃ : List ℕ) → f₃ ≡ put_block p f₂ w.detail (free_text p link) → f₃ ≡ freed v flag way w link
    freed-told f₃ e₃ = freed-by v fit flag way w link fits f₁ f₂ f₃ e₁ e₂ e₃

  -- the chain's head can be set
  pub head-place : (f₃ : List ℕ) → f₃ ≡ freed v flag way w link → EmptyFits v flag way w link → Fitting p f b → 1 < length f₃
  head-place f₃ e₃ fits fit =
      let g = caps p fit.good in
      let n = ap length e₃ ∙ length-freed v fit flag way w link fits in
      omega arith

  headed : (f₀ f₁ : List ℕ) (head : ℕ) → f₁ ≡ set f₀ 1 head → f₀ ≡ freed v flag way w link → f₁ ≡ set (freed v flag way w link) 1 head
  headed f₀ f₁ head e₁ e₀ = e₁ ∙ ap (λ (z : List ℕ). set z 1 head) e₀

  -- the index block loses the entry
  pub entry_ready : (f₀ f₁ : List ℕ) → OneFits v flag way w link → Fitting p f b → f₀ ≡ freed v flag way w link
      → f₁ ≡ set f₀ 1 w.detail → EntryIn p f₁ w.index w.entry
  entry_ready f₀ f₁ one fit e₀ e₁ =
      let e = headed f₀ f₁ w.detail e₁ e₀ in
      record {
        file-is = freed-fits v fit flag way w link one.emptied w.detail f₁ e;
        block = index-block v fit flag way w link one.emptied;
        entry = rw (index-freed v fit flag way w link one.emptied w.detail f₁ e) (one_entry v flag way w link fit one);
      }

  pub one-file : (f₀ f₁ f₂ : List ℕ) → OneFits v flag way w link → Fitting p f b → f₀ ≡ freed v flag way w link
      → f₁ ≡ set f₀ 1 w.detail → f₂ ≡ put_block p f₁ w.index (entry_gone p w.entry (block_at p f₁ w.index))
      → f₂ ≡ empty_file v flag way w link
  unfolding empty_all empty_file
  one-file f₀ f₁ f₂ one fit e₀ h₁ e₂ =
      let e₁ = headed f₀ f₁ w.detail h₁ e₀ in
      let t : List ℕ = entry_gone p w.entry (text_of v w.index) in
      let ht : length t ≡ p.wpb = length-gone p (text_of v w.index) w.entry (one_entry v flag way w link fit one) in
      let e = index-freed v fit flag way w link one.emptied w.detail f₁ e₁ in
      let g : f₂ ≡ put_block p f₁ w.index t = e₂ ∙ ap (λ (z : List ℕ). put_block p f₁ w.index (entry_gone p w.entry z)) e in
      emptied-by v fit flag way w link one.emptied w.detail t ht f₁ f₂ e₁ g

  -- or the index block is emptied too, and its master entry goes
  module _ (f₀ f₁ : List ℕ) (fits : EmptyFits v flag way w link) (fit : Fitting p f b) (e₀ : f₀ ≡ freed v flag way w link)
      (e₁ : f₁ ≡ set f₀ 1 w.index) where
    freed-is : length f₁ ≡ file_size p
    freed-is = freed-fits v fit flag way w link fits w.index f₁ (headed f₀ f₁ w.index e₁ e₀)

    pub headed-held : HasBlock p f₁ w.index
    headed-held = record { good = fit.good; file-is = freed-is; least = fits.path.index-least; most = fits.path.index-most }

    module _ (h : Shape) (f₂ : List ℕ) (e₂ : f₂ ≡ put_block p f₁ w.index (free_text p w.detail)) (eh : h ≡ master_shape p) where
      both_is : f₂ ≡ written p (both_all v flag way w link) (set f 1 w.index)
      both_is = both-on v fit flag way w link fits f₁ f₂ (headed f₀ f₁ w.index e₁ e₀) e₂

      section-row : Removable (master_shape p) f₂ w.section
      section-row =
          let k = index-block v fit flag way w link fits in
          let n : length f₂ ≡ file_size p = ap length e₂ ∙ length-put_block p f₁ freed-is w.index k _ (length-free_text p w.detail fit.good) in
          master-row v fit flag way w link fits f₂ both_is n

      pub section-within : place h (count h f₂) ≤ length f₂
      section-within = rw eh section-row.within

      pub section-below : w.section < count h f₂
      section-below = rw eh section-row.below

      pub section-most : h.tag + count h f₂ ≤ 262143
      section-most = rw eh section-row.most

      pub both-file : (f₃ : List ℕ) → f₃ ≡ removed h w.section f₂ → f₃ ≡ both_file v flag way w link
      unfolding both_file
      both-file f₃ e₃ = removed-from h (master_shape p) w.section f₂ _ f₃ eh both_is e₃
