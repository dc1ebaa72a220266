-- The file and the buffer made ready for new blocks: words 1 and 2 of the master may be set after the way was followed, and the index block's
-- text, which is put in the file, leaves the detail block's as it is.
use mathlib.Core.Path.{◌≡◌, sym, ap, ◌∙◌}
use mathlib.Core.Bool.{Bool, true}
use mathlib.Core.List.{List, [], ◌∷◌}
use Prim.Native.Nat.{ℕ, ◌≤◌}
use native.Mathlib.Decide.{ℕ_discrete}
use native.Mathlib.Omega.{arith}
use lib.ListN.{length, set, length-set}
use lib.Seq.{get_or-set_other}
use Rattle.drum.specs.declared.Description.{Description}
use Rattle.drum.specs.Params.{file_size, good_params}
use Rattle.drum.specs.Blocks.{Fitting, Block, Transfer, Write, written, put_block, Texts, seen, text_of, sections}
use Rattle.drum.proofs.Good.{caps}
use Rattle.drum.proofs.Blocks.{block-other, text-current, text-other, length-text_of, length-put_block}
use Rattle.drum.proofs.Written.{Moves, length-written, master-set-written, master-word-written}
use Rattle.rules.specs.declared.Path.{Path}
use Rattle.rules.specs.declared.Way.{Way}
use Rattle.rules.specs.declared.Taken.{Taken}
use Rattle.rules.specs.Lookup.{reached, text_at}
use Rattle.rules.specs.Free.{with_free}
use Rattle.acts.proofs.Ways.{way-moves, length-followed, text-followed}
use Rattle.free.specs.Readied.{ReadyFits, reached_file, ready_file}

-- words 1 and 2 of the master, set before or after some transfers
module _ (p : Description) (good : good_params p ≡ true) (f : List ℕ) (hf : length f ≡ file_size p) (head lowest : ℕ) where
  pub length-free : length (with_free head lowest f) ≡ file_size p
  unfolding with_free
  length-free = length-set (set f 1 head) 2 lowest ∙ length-set f 1 head ∙ hf

  pub sections-free : sections (with_free head lowest f) ≡ sections f
  unfolding with_free
  sections-free = get_or-set_other (set f 1 head) 2 0 lowest 0 (λ e. omega arith) ∙ get_or-set_other f 1 0 head 0 (λ e. omega arith)

  pub free-written : (moves : List Transfer) → Moves p moves → with_free head lowest (written p moves f) ≡ written p moves (with_free head lowest f)
  unfolding with_free
  free-written moves h =
      let g = caps p good in
      let l : length (set f 1 head) ≡ file_size p = length-set f 1 head ∙ hf in
      sym (master-set-written p (set f 1 head) l moves h 2 lowest (omega arith)
      ∙ ap (λ (x : List ℕ). set x 2 lowest) (master-set-written p f hf moves h 1 head (omega arith)))

-- another block's text, once a block is written
pub text-beside : (v : Texts) → length v.file ≡ file_size v.desc → (i : ℕ) → Block v.desc i → (t : List ℕ) → length t ≡ v.desc.wpb
    → (x : ℕ) → Block v.desc x → (x ≡ i → ⊥) → text_of (seen v.desc v.current (put_block v.desc v.file i t) v.buffer) x ≡ text_of v x
text-beside v hf i hi t ht x hx ne = by (ℕ_discrete x v.current)
  where
    u : Texts
    u = seen v.desc v.current (put_block v.desc v.file i t) v.buffer

    by : Dec (x ≡ v.current) → text_of u x ≡ text_of v x
    by (yes e) = text-current u x e ∙ sym (text-current v x e)
    by (no n) = text-other u x n ∙ block-other v.desc v.file hf i hi t ht x hx ne ∙ sym (text-other v x n)

module _ (v : Texts) (flag : Bool) (way : Way) (w : Path) (d : Taken) (fits : ReadyFits v flag way w d) (fit : Fitting v.desc v.file v.buffer) where
  index-block : Block v.desc w.index
  index-block = (fits.path.index-least, fits.path.index-most)

  detail-block : Block v.desc w.detail
  detail-block = (fits.path.detail-least, fits.path.detail-most)

  index-length : length (text_of v w.index) ≡ v.desc.wpb
  index-length = length-text_of v w.index fit index-block

  -- the file so far has its length, and its sections
  pub length-reached : length (reached_file v flag way d) ≡ file_size v.desc
  unfolding reached_file
  length-reached =
      length-written v.desc (with_free d.head d.lowest v.file) (length-free v.desc fit.good v.file fit.file-is d.head d.lowest)
      (reached v flag way).moves (way-moves v flag fit way fits.reached)

  pub sections-reached : sections (reached_file v flag way d) ≡ sections v.file
  unfolding reached_file
  sections-reached =
      let g = caps v.desc fit.good in
      master-word-written v.desc (with_free d.head d.lowest v.file)
      (length-free v.desc fit.good v.file fit.file-is d.head d.lowest)
      (reached v flag way).moves (way-moves v flag fit way fits.reached) 0 (omega arith)
      ∙ sections-free v.desc fit.good v.file fit.file-is d.head d.lowest

  pub length-ready : length (ready_file v flag way w d) ≡ file_size v.desc
  unfolding ready_file
  length-ready = length-put_block v.desc (reached_file v flag way d) length-reached w.index index-block (text_of v w.index) index-length

module _ (p : Description) (cur : ℕ) (f b : List ℕ) (flag : Bool) (way : Way) (w : Path) (d : Taken) where
  abbrev v : Texts
  v = seen p cur f b

  -- the head of the chain is a small number
  pub head_small : ReadyFits v flag way w d → Fitting p f b → d.head ≤ 262143
  head_small fits fit =
      let g = caps p fit.good in
      let h = g.facts in
      let m = fits.head-most in
      omega arith

  module _ (f₁ : List ℕ) (e₁ : f₁ ≡ written p (reached v flag way).moves f) (fits : ReadyFits v flag way w d) (fit : Fitting p f b) where
    -- the way followed: file and buffer fit; and so with the index block's text in its place
    pub followed-fits : Fitting p f₁ b
    followed-fits =
        record { good = fit.good; file-is = ap length e₁ ∙ length-followed v flag fit way fits.reached; buffer-is = fit.buffer-is }

    followed : List ℕ
    followed = written p (reached v flag way).moves f

    module _ (f₂ : List ℕ) (e₂ : f₂ ≡ put_block p f₁ w.index (text_of (seen p cur f₁ b) w.index)) where
      staged : f₂ ≡ put_block p followed w.index (text_of v w.index)
      unfolding followed
      staged = let t = text-followed v flag fit way fits.reached w.index (index-block v flag way w d fits fit) in rw (e₂, e₁, t)

      staged-fits : Fitting p f₂ b
      unfolding followed
      staged-fits =
          let l = length-followed v flag fit way fits.reached in
          let t = index-length v flag way w d fits fit in
          record {
            good = fit.good;
            file-is = ap length staged ∙ length-put_block p followed l w.index (index-block v flag way w d fits fit) (text_of v w.index) t;
            buffer-is = fit.buffer-is;
          }

      -- the master has words 1 and 2
      pub staged-some : 3 ≤ length f₂
      staged-some =
          let g = caps p fit.good in
          let l = staged-fits.file-is in
          omega arith

      pub readied : (f₃ : List ℕ) → f₃ ≡ with_free d.head d.lowest f₂ → f₃ ≡ ready_file v flag way w d
      unfolding ready_file reached_file written followed
      readied f₃ e₃ =
          let n = index-length v flag way w d fits fit in
          e₃ ∙ ap (with_free d.head d.lowest) staged
          ∙ free-written p fit.good followed (length-followed v flag fit way fits.reached) d.head d.lowest
          (Write w.index (text_of v w.index) ∷ []) (index-block v flag way w d fits fit, n, tt)
          ∙ ap (λ (z : List ℕ). put_block p z w.index (text_of v w.index))
          (free-written p fit.good f fit.file-is d.head d.lowest (reached v flag way).moves (way-moves v flag fit way fits.reached))

      pub loaded : (t : List ℕ) → t ≡ text_of (seen p cur f₂ b) w.detail → t ≡ text_at v way
      unfolding followed
      loaded t et =
          let k = detail-block v flag way w d fits fit in
          et ∙ ap (λ (z : List ℕ). text_of (seen p cur z b) w.detail) staged
          ∙ text-beside (seen p cur followed b) (length-followed v flag fit way fits.reached) w.index (index-block v flag way w d fits fit)
          (text_of v w.index) (index-length v flag way w d fits fit) w.detail k (λ q. fits.path.apart (sym q))
          ∙ text-followed v flag fit way fits.reached w.detail k
          ∙ sym fits.text
