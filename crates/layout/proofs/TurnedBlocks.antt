-- The turned file, block by block: its master is the file's, and each block has the file's text by its mark.
use Prim.Native.Nat.{ℕ, zero, suc, ◌*◌, ◌-◌, ◌<◌}
use mathlib.Core.Path.{◌≡◌, refl, ap, ◌∙◌}
use mathlib.Core.Bool.{true}
use mathlib.Core.List.{List, [], ◌∷◌}
use native.Mathlib.Omega.{arith}
use native.Mathlib.Nat.{not-suc-le-zero}
use lib.ListN.{length, get_or, take, drop, length-append, length-drop, length-set}
use lib.Seq.{length-take-le, drop-drop}
use Rattle.words.specs.Words.{part}
use Rattle.table.specs.Tables.{block_in}
use Rattle.drum.specs.declared.Description.{Description}
use Rattle.drum.specs.Params.{master_size, file_size, start, good_params, master_shape}
use Rattle.drum.specs.Blocks.{sections, block_at, Block}
use Rattle.layout.specs.Turned.{other_form, index_marked, turned_text, turned_blocks, turned}
use Rattle.layout.proofs.Good.{row_more}
use Rattle.layout.proofs.Lists.{part-behind, part-first}
use Rattle.layout.proofs.TurnedForm.{length-turned, other_block}

pub length_marked : (p : Description) (f : List ℕ) (n : ℕ) (marks : List ℕ) → length (index_marked p f n marks) ≡ length marks
unfolding index_marked
length_marked p f zero marks = refl
length_marked p f (suc n) marks = length-set (index_marked p f n marks) (block_in (master_shape p) f n - 1) 3 ∙ length_marked p f n marks

-- the words behind the master: ws, a block for each mark
module _ (p : Description) (good : good_params p ≡ true) where
  first-length : (m : ℕ) (ms ws : List ℕ) → length ws ≡ length (m ∷ ms) * p.wpb → length (turned_text p m (take p.wpb ws)) ≡ p.wpb
  first-length m ms ws e =
      let n = row_more (length ms) p.wpb in
      length-turned p m (take p.wpb ws) good (length-take-le p.wpb ws (omega arith))

  rest-length : (m : ℕ) (ms ws : List ℕ) → length ws ≡ length (m ∷ ms) * p.wpb → length (drop p.wpb ws) ≡ length ms * p.wpb
  rest-length m ms ws e =
      let n = row_more (length ms) p.wpb in
      length-drop p.wpb ws ∙ omega arith

  length-blocks : (ms ws : List ℕ) → length ws ≡ length ms * p.wpb → length (turned_blocks p ms ws) ≡ length ms * p.wpb
  unfolding turned_blocks
  length-blocks [] ws e = e
  length-blocks (m ∷ ms) ws e =
      let n = row_more (length ms) p.wpb in
      length-append (turned_text p m (take p.wpb ws)) (turned_blocks p ms (drop p.wpb ws))
      ∙ omega (arith, first-length m ms ws e, length-blocks ms (drop p.wpb ws) (rest-length m ms ws e))

  block-turned : (ms ws : List ℕ) (i : ℕ) → length ws ≡ length ms * p.wpb → i < length ms
      → part (i * p.wpb) p.wpb (turned_blocks p ms ws) ≡ turned_text p (get_or ms i 0) (part (i * p.wpb) p.wpb ws)
  unfolding turned_blocks part
  block-turned [] ws i e h = absurd (not-suc-le-zero h)
  block-turned (m ∷ ms) ws zero e h =
      let z : 0 * p.wpb ≡ 0 = omega arith in
      rw z (part-first (turned_text p m (take p.wpb ws)) (turned_blocks p ms (drop p.wpb ws)) p.wpb (first-length m ms ws e))
  block-turned (m ∷ ms) ws (suc i) e h =
      let w = p.wpb in
      let n = row_more i w in
      let y = turned_blocks p ms (drop w ws) in
      rw n
      (part-behind (turned_text p m (take w ws)) y w (i * w) w (first-length m ms ws e)
      ∙ block-turned ms (drop w ws) i (rest-length m ms ws e) (omega arith)
      ∙ ap (λ (l : List ℕ). turned_text p (get_or ms i 0) (take w l)) (drop-drop (i * w) w ws))

-- the file
module _ (p : Description) (f marks : List ℕ) (good : good_params p ≡ true) (size : length f ≡ file_size p) (many : length marks ≡ p.n) where
  abbrev all : List ℕ
  all = index_marked p f (sections f) marks

  master-length : length (take (master_size p) f) ≡ master_size p
  unfolding file_size
  master-length = length-take-le (master_size p) f (omega (arith, size))

  behind-length : length (drop (master_size p) f) ≡ length all * p.wpb
  unfolding file_size
  behind-length =
      let e : length all ≡ p.n = length_marked p f (sections f) marks ∙ many in
      rw e (length-drop (master_size p) f ∙ omega (arith, size))

  pub turned-master : part 0 (master_size p) (turned p marks f) ≡ part 0 (master_size p) f
  unfolding turned part
  turned-master = part-first (take (master_size p) f) (turned_blocks p all (drop (master_size p) f)) (master_size p) master-length

  pub turned-length : length (turned p marks f) ≡ file_size p
  unfolding turned file_size
  turned-length =
      let e : length all ≡ p.n = length_marked p f (sections f) marks ∙ many in
      let ws = turned_blocks p all (drop (master_size p) f) in
      let l : length ws ≡ p.n * p.wpb = length-blocks p good all (drop (master_size p) f) behind-length ∙ ap (λ (n : ℕ). n * p.wpb) e in
      length-append (take (master_size p) f) ws ∙ omega (arith, master-length)

  pub turned-block : (b : ℕ) → Block p b → block_at (other_form p) (turned p marks f) b ≡ turned_text p (get_or all (b - 1) 0) (block_at p f b)
  unfolding turned block_at start part
  turned-block b (l, h) =
      let e = length_marked p f (sections f) marks in
      let x = (b - 1) * p.wpb in
      let i : b - 1 < length all = omega arith in
      other_block p (turned p marks f) b
      ∙ part-behind (take (master_size p) f) (turned_blocks p all (drop (master_size p) f)) (master_size p) x p.wpb master-length
      ∙ block-turned p good all (drop (master_size p) f) (b - 1) behind-length i
      ∙ ap (λ (l : List ℕ). turned_text p (get_or all (b - 1) 0) (take p.wpb l)) (drop-drop x (master_size p) f)
