-- The description of a file in the other form, and the texts of blocks turned into it.
use Prim.Native.Nat.{ℕ, ◌+◌, ◌-◌}
use mathlib.Core.Path.{◌≡◌, refl, ap, ◌∙◌}
use mathlib.Core.Bool.{Bool, true, false, cond}
use mathlib.Core.List.{List, ◌∷◌, ◌++◌}
use native.Mathlib.Omega.{arith}
use lib.Dec.{eqb}
use lib.ListN.{length, length-set}
use Rattle.words.specs.Words.{zeros}
use Rattle.table.specs.Tables.{laid}
use Rattle.drum.specs.declared.Description.{Description}
use Rattle.drum.specs.Params.{D, I, master_size, file_size, start, good_params, index_shape, detail_shape}
use Rattle.drum.specs.Blocks.{block_at, free_text}
use Rattle.drum.proofs.Good.{good-facts, good-yes}
use Rattle.drum.proofs.Blocks.{length-free_text}
use Rattle.drum.proofs.Forms.{laid-count}
use Rattle.drum.proofs.FreeTexts.{link-free_text}
use Rattle.layout.specs.Turned.{other_form, turned_index, turned_detail, turned_free, turned_text}

module _ (p : Description) (good : good_params p ≡ true) where
  -- good parameters are good in the other form
  pub good-other : good_params (other_form p) ≡ true
  unfolding other_form D I
  good-other =
      let g = good-facts p good in
      good-yes (other_form p) (record {
        wpb-even = g.wpb-even;
        wpb-least = g.wpb-least;
        wpb-most = g.wpb-most;
        k-least = g.k-least;
        k-most = g.k-most;
        key = g.key;
        two_records = g.two_records;
        two-entries = g.two-entries;
        space-records = g.space-records;
        space-entries = g.space-entries;
        control-least = g.control-least;
        control-most = g.control-most;
        n-least = g.n-least;
        n-most = g.n-most;
        form-least = omega (arith, g.form-most);
        form-most = omega (arith, g.form-least);
      })

  -- and the other of the other form is the first
  pub form-back : other_form (other_form p) ≡ p
  unfolding other_form
  form-back =
      let g = good-facts p good in
      let e : 3 - (3 - p.form) ≡ p.form = omega (arith, g.form-most) in
      λ j. record { wpb = p.wpb; wpr = p.wpr; k = p.k; space = p.space; control = p.control; n = p.n; form = e j }

-- a block lies where it lay
pub other_block : (p : Description) (f : List ℕ) (b : ℕ) → block_at (other_form p) f b ≡ block_at p f b
unfolding block_at start master_size other_form
other_block p f b = refl

pub other-start : (p : Description) (b : ℕ) → start (other_form p) b ≡ start p b
unfolding start master_size other_form
other-start p b = refl

pub other-master : (p : Description) → master_size (other_form p) ≡ master_size p
unfolding master_size other_form
other-master p = refl

pub other-size : (p : Description) → file_size (other_form p) ≡ file_size p
unfolding file_size master_size other_form
other-size p = refl

-- a text by its mark: of an index block, of a detail block, of a chained one, of one never used
module _ (p : Description) where
  pub index-turned : (n : ℕ) (rows : List ℕ)
      → turned_text p 3 (laid p.wpb ((index_shape p).tag + n) rows) ≡ laid p.wpb ((index_shape (other_form p)).tag + n) rows
  unfolding turned_text turned_index laid
  index-turned n rows =
      ap (λ (c : ℕ). ((index_shape (other_form p)).tag + c) ∷ (rows ++ zeros (p.wpb - 1 - length rows))) (laid-count (index_shape p) p.wpb n rows)

  pub detail-turned : (n : ℕ) (rows : List ℕ)
      → turned_text p 1 (laid p.wpb ((detail_shape p).tag + n) rows) ≡ laid p.wpb ((detail_shape (other_form p)).tag + n) rows
  unfolding turned_text turned_detail laid
  detail-turned n rows =
      ap (λ (c : ℕ). ((detail_shape (other_form p)).tag + c) ∷ (rows ++ zeros (p.wpb - 1 - length rows))) (laid-count (detail_shape p) p.wpb n rows)

  pub free-turned : (link : ℕ) → good_params p ≡ true → turned_text p 2 (free_text p link) ≡ free_text (other_form p) link
  unfolding turned_text turned_free
  free-turned link good = ap (free_text (other_form p)) (link-free_text p link good)

  pub unused-turned : (t : List ℕ) → turned_text p 0 t ≡ t
  unfolding turned_text
  unused-turned t = refl

  -- a turned text is as long
  pub length-turned : (m : ℕ) (t : List ℕ) → good_params p ≡ true → length t ≡ p.wpb → length (turned_text p m t) ≡ p.wpb
  unfolding turned_text turned_index turned_detail turned_free other_form
  length-turned m t good e = go (eqb m 3) (eqb m 1) (eqb m 2)
    where
      go : (x y z : Bool) → length (cond x (turned_index p t) (cond y (turned_detail p t) (cond z (turned_free p t) t))) ≡ p.wpb
      go true y z = length-set t 0 _ ∙ e
      go false true z = length-set t 0 _ ∙ e
      go false false true = length-free_text (other_form p) _ (good-other p good)
      go false false false = e
