-- What CREATE writes, piece by piece: the lengths, that all are words, and the texts of its master and blocks.
use Prim.Native.Nat.{ℕ, suc, ◌+◌, ◌*◌, ◌-◌, ◌≤◌}
use mathlib.Core.Path.{◌≡◌, refl, sym, ap, ◌∙◌}
use mathlib.Core.List.{List, [], ◌∷◌, ◌++◌, append_assoc}
use mathlib.Core.Bool.{true}
use native.Mathlib.Omega.{arith}
use native.Mathlib.Nat.{mul-le-mul_right}
use lib.ListN.{length, length-append, length-replicate}
use Rattle.words.specs.Words.{part, zeros, all_words, top_word}
use Rattle.words.specs.Keys.{ones}
use Rattle.words.proofs.Parts.{part-zeros}
use Rattle.words.proofs.All.{all_words-none, cons-all_words, append-all_words, all_words-replicate}
use Rattle.table.specs.Tables.{laid}
use Rattle.drum.specs.declared.Description.{Description}
use Rattle.drum.specs.Params.{D, I, master_size, file_size, start, index_shape, detail_shape}
use Rattle.drum.specs.Blocks.{block_at}
use Rattle.drum.proofs.Good.{good-yes}
use Rattle.drum.proofs.Forms.{index-tag, detail-tag}
use Rattle.layout.specs.Create.{end_record, created}
use Rattle.layout.specs.Tree.{bound_of, head_of, fresh_leaf, fresh_section, fresh_tree}
use Rattle.layout.specs.Holds.{master_entries, master_text}
use Rattle.layout.proofs.Lists.{part-behind, part-first}
use Rattle.layout.proofs.Good.{Good, row_more, cap-d, cap-i, master-fits, start_first, start-next}

length-laid : (w n : ℕ) (rows : List ℕ) → 1 + length rows ≤ w → length (laid w n rows) ≡ w
unfolding laid
length-laid w n rows h = rw (length-append rows (zeros (w - 1 - length rows)), length-replicate {A = ℕ} (w - 1 - length rows) 0) (omega arith)

-- its four pieces
module _ (p : Description) where
  unfoldable master_piece : List ℕ
  master_piece = 1 ∷ 0 ∷ 3 ∷ (ones p.k ++ (1 ∷ zeros (master_size p - 4 - p.k)))

  unfoldable pub index_piece : List ℕ
  index_piece = laid p.wpb ((index_shape p).tag + 1) (ones p.k ++ (2 ∷ []))

  unfoldable pub detail_piece : List ℕ
  detail_piece = laid p.wpb ((detail_shape p).tag + 1) (end_record p)

  pieces : created p ≡ master_piece ++ (index_piece ++ (detail_piece ++ zeros ((p.n - 2) * p.wpb)))
  unfolding created master_piece index_piece detail_piece
  pieces = refl

module _ (p : Description) (g : Good p) where
  abbrev rest : List ℕ
  rest = zeros ((p.n - 2) * p.wpb)

  entry-fits : 3 + (p.k + 1) ≤ master_size p
  entry-fits = omega (arith, master-fits p g 1 g.control-least)

  length-master : length (master_piece p) ≡ master_size p
  unfolding master_piece
  length-master =
      rw (
        length-append (ones p.k) (1 ∷ zeros (master_size p - 4 - p.k)),
        length-replicate p.k top_word,
        length-replicate {A = ℕ} (master_size p - 4 - p.k) 0,
      ) (omega (arith, entry-fits))

  length-entry : (b : ℕ) → length (ones p.k ++ (b ∷ [])) ≡ p.k + 1
  length-entry b = rw (length-append (ones p.k) (b ∷ []), length-replicate p.k top_word)

  length-index : length (index_piece p) ≡ p.wpb
  unfolding index_piece
  length-index =
      let i : 1 ≤ I p = omega (arith, g.two-entries) in
      length-laid p.wpb ((index_shape p).tag + 1) (ones p.k ++ (2 ∷ [])) (rw (length-entry 2) (omega (arith, mul-le-mul_right (p.k + 1) i, cap-i p g)))

  pub length-end : length (end_record p) ≡ p.wpr
  unfolding end_record
  length-end =
      let n = p.wpr - p.k in
      rw (length-append (ones p.k) (zeros n), length-replicate p.k top_word, length-replicate {A = ℕ} n 0) (omega (arith, g.key))

  length-detail : length (detail_piece p) ≡ p.wpb
  unfolding detail_piece
  length-detail =
      let d : 1 ≤ D p = omega (arith, g.two_records) in
      length-laid p.wpb ((detail_shape p).tag + 1) (end_record p) (omega (arith, length-end, mul-le-mul_right p.wpr d, cap-d p g))

  two_blocks : p.n * p.wpb ≡ p.wpb + (p.wpb + (p.n - 2) * p.wpb)
  two_blocks =
      let e : p.n ≡ suc (suc (p.n - 2)) = omega (arith, g.n-least) in
      ap (λ (n : ℕ). n * p.wpb) e ∙ row_more (suc (p.n - 2)) p.wpb ∙ ap (λ (x : ℕ). p.wpb + x) (row_more (p.n - 2) p.wpb)

  pub length-made : length (created p) ≡ file_size p
  unfolding file_size
  length-made =
      rw (
        pieces p,
        length-append (master_piece p) (index_piece p ++ (detail_piece p ++ rest)),
        length-append (index_piece p) (detail_piece p ++ rest),
        length-append (detail_piece p) rest,
        length-replicate {A = ℕ} ((p.n - 2) * p.wpb) 0,
      ) (omega (arith, length-master, length-index, length-detail, two_blocks))

  words-entry : (b : ℕ) → b ≤ top_word → all_words (ones p.k ++ (b ∷ [])) ≡ true
  words-entry b h = append-all_words (ones p.k) (b ∷ []) (all_words-replicate p.k top_word (omega arith)) (cons-all_words b [] h all_words-none)

  words-end : all_words (end_record p) ≡ true
  unfolding end_record
  words-end =
      append-all_words (ones p.k) (zeros (p.wpr - p.k))
      (all_words-replicate p.k top_word (omega arith)) (all_words-replicate (p.wpr - p.k) 0 (omega arith))

  words-laid : (n : ℕ) (rows : List ℕ) → n ≤ top_word → all_words rows ≡ true → all_words (laid p.wpb n rows) ≡ true
  unfolding laid
  words-laid n rows h w =
      let x = p.wpb - 1 - length rows in
      cons-all_words n (rows ++ zeros x) h (append-all_words rows (zeros x) w (all_words-replicate x 0 (omega arith)))

  words-master : all_words (master_piece p) ≡ true
  unfolding master_piece
  words-master =
      let x = master_size p - 4 - p.k in
      let o = all_words-replicate p.k top_word (omega arith) in
      let e = append-all_words (ones p.k) (1 ∷ zeros x) o (cons-all_words 1 (zeros x) (omega arith) (all_words-replicate x 0 (omega arith))) in
      cons-all_words 1 _ (omega arith) (cons-all_words 0 _ (omega arith) (cons-all_words 3 _ (omega arith) e))

  pub words-made : all_words (created p) ≡ true
  unfolding index_piece detail_piece
  words-made =
      let i = index-tag p (good-yes p g) in
      let d = detail-tag p (good-yes p g) in
      rw (pieces p)
      (append-all_words (master_piece p) _ words-master
      (append-all_words (index_piece p) _ (words-laid ((index_shape p).tag + 1) _ (omega arith) (words-entry 2 (omega arith)))
      (append-all_words (detail_piece p) rest (words-laid ((detail_shape p).tag + 1) _ (omega arith) words-end)
      (all_words-replicate ((p.n - 2) * p.wpb) 0 (omega arith)))))

  -- the parts of the file
  behind-master : (a n : ℕ) → part (master_size p + a) n (created p) ≡ part a n (index_piece p ++ (detail_piece p ++ rest))
  behind-master a n = rw (pieces p) (part-behind (master_piece p) _ (master_size p) a n length-master)

  behind-index : (a n : ℕ) → part (master_size p + (p.wpb + a)) n (created p) ≡ part a n (detail_piece p ++ rest)
  behind-index a n = behind-master (p.wpb + a) n ∙ part-behind (index_piece p) _ p.wpb a n length-index

  behind-detail : (a n : ℕ) → part (master_size p + (p.wpb + (p.wpb + a))) n (created p) ≡ part a n rest
  behind-detail a n = behind-index (p.wpb + a) n ∙ part-behind (detail_piece p) rest p.wpb a n length-detail

  pub first_block : block_at p (created p) 1 ≡ index_piece p
  unfolding block_at
  first_block =
      let e : start p 1 ≡ master_size p + 0 = omega (arith, start_first p) in
      rw e (behind-master 0 p.wpb ∙ part-first (index_piece p) _ p.wpb length-index)

  pub second_block : block_at p (created p) 2 ≡ detail_piece p
  unfolding block_at
  second_block =
      let e : start p 2 ≡ master_size p + (p.wpb + 0) = omega (arith, start_first p, start-next p 1 (omega arith)) in
      rw e (behind-index 0 p.wpb ∙ part-first (detail_piece p) _ p.wpb length-detail)

  pub later-block : (b : ℕ) → 3 ≤ b → b ≤ p.n → block_at p (created p) b ≡ zeros p.wpb
  unfolding block_at start
  later-block b h k =
      let q : b - 1 ≡ suc (suc (b - 3)) = omega arith in
      let e : master_size p + (b - 1) * p.wpb ≡ master_size p + (p.wpb + (p.wpb + (b - 3) * p.wpb)) =
      rw (q, row_more (suc (b - 3)) p.wpb, row_more (b - 3) p.wpb) in
      let l : suc (b - 3) ≤ p.n - 2 = omega arith in
      let m = mul-le-mul_right p.wpb l in
      let r = row_more (b - 3) p.wpb in
      rw e (behind-detail ((b - 3) * p.wpb) p.wpb ∙ part-zeros ((b - 3) * p.wpb) p.wpb ((p.n - 2) * p.wpb) (omega arith))

  pub master-made : part 0 (master_size p) (created p) ≡ master_text p (fresh_tree p)
  unfolding master_text fresh_tree fresh_section fresh_leaf master_entries bound_of head_of master_piece
  master-made =
      let d : master_size p - 3 - length (ones p.k ++ (1 ∷ [])) ≡ master_size p - 4 - p.k = omega (arith, length-entry 1) in
      rw (pieces p, d)
      (part-first (master_piece p) _ (master_size p) length-master
      ∙ ap (λ (l : List ℕ). 1 ∷ 0 ∷ 3 ∷ l) (sym (append_assoc (ones p.k) (1 ∷ []) (zeros (master_size p - 4 - p.k)))))
