-- The current text of a block as a part of the buffer or of the file: one law for each need of the code that lends it.
use Prim.Native.Nat.{ℕ, ◌+◌, ◌-◌, ◌*◌, ◌≤◌}
use mathlib.Core.Path.{◌≡◌, sym, ap, ◌∙◌}
use mathlib.Core.Bool.{Bool, true, false, cond}
use mathlib.Core.List.{List}
use native.Mathlib.Omega.{arith}
use borrow.Author.Tests.{eq-eqb, ne_eqb}
use mir.Val.{Fits}
use mir.Syntax.{w64}
use lib.Dec.{eqb}
use lib.ListN.{length, take, drop}
use Rattle.words.specs.Words.{part}
use Rattle.drum.specs.declared.Description.{Description}
use Rattle.drum.specs.Params.{start}
use Rattle.drum.specs.Blocks.{Fitting, Block, block_at, seen, text_of}
use Rattle.drum.specs.Parts.{Borrowed, Part, part_of, word_of, part_text, text_part}
use Rattle.drum.proofs.Good.{caps}
use Rattle.drum.proofs.Blocks.{block_within}

-- the part lies in the file
module _ (p : Description) (f d : List ℕ) (b at : ℕ) (is : at ≡ start p b) (fit : Fitting p f d) (h : Block p b) where
  pub text-end : Fits w64 (at + p.wpb)
  text-end = let g = caps p fit.good in let w = block_within p b h in let l = fit.file-is in omega arith

  pub text-bytes : Fits w64 (at * 4)
  text-bytes = let g = caps p fit.good in let w = block_within p b h in omega arith

  pub text-within : at + p.wpb ≤ length f
  text-within = let w = block_within p b h in let l = fit.file-is in omega arith

module _ (p : Description) (current : ℕ) (file buffer : Borrowed) (b : ℕ) where
  -- the text by the test whether the block is the current one
  tested : Bool → Part
  tested t = record { address = cond t buffer.ref_ptr (word_of file (start p b)); words = cond t buffer.now (block_at p file.now b) }

  by-test : (t : Bool) → eqb b current ≡ t → tested t ≡ text_part p current file buffer b
  unfolding tested part_text text_of
  by-test t e = ap tested (sym e)

  pub text-here : b ≡ current → part_of buffer ≡ text_part p current file buffer b
  unfolding tested
  text-here e = by-test true (eq-eqb b current e)

  pub text-elsewhere : (at : ℕ) → at ≡ start p b → (b ≡ current → ⊥)
      → ◌≡◌ {A = Part} (record { address = word_of file at; words = take (at + p.wpb - at) (drop at file.now) }) (text_part p current file buffer b)
  unfolding tested block_at part
  text-elsewhere at e h =
      let n : at + p.wpb - at ≡ p.wpb = omega arith in
      (λ j. record { address = word_of file (e j); words = take (n j) (drop (e j) file.now) }) ∙ by-test false (ne_eqb b current h)

-- its words alone
pub text-words : (p : Description) (current : ℕ) (file buffer : Borrowed) (b : ℕ) (r : Borrowed) → part_of r ≡ text_part p current file buffer b
    → r.now ≡ text_of (seen p current file.now buffer.now) b
text-words p current file buffer b r e = ap (λ (x : Part). x.words) e
