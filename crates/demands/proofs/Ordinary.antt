-- The ordinary records not below a key: none where all are below it, some where one is not; and the records of the last block.
use Prim.Native.Nat.{ℕ, suc, ◌≤◌}
use mathlib.Core.Bool.{Bool, true, false, cond}
use mathlib.Core.Path.{◌≡◌, refl, sym, ap, ◌∙◌}
use mathlib.Core.List.{List, [], ◌∷◌, ◌++◌}
use native.Mathlib.Omega.{arith}
use lib.ListN.{length}
use borrow.Author.Tests.{lt-ltb}
use Rattle.words.specs.Keys.{is_ones, key_lt, val}
use Rattle.drum.specs.declared.Description.{Description}
use Rattle.layout.specs.Tree.{Leaf}
use Rattle.rules.specs.State.{key_in}
use Rattle.demands.specs.Answers.{ordinary, records_from, last_block}
use Rattle.demands.proofs.Lists.{All}
use Rattle.demands.proofs.Order.{Asc, asc-le}
use Rattle.demands.proofs.Trees.{key}
use Rattle.demands.proofs.Holds.{RowOk}
use Rattle.demands.proofs.Sound.{Key}
use Rattle.demands.proofs.Records.{row_under}

no-cons : (x : List ℕ) (xs : List (List ℕ)) → x ∷ xs ≡ [] → ⊥
no-cons x xs e = let z : suc (length xs) ≡ 0 = ap length e in omega arith

-- where all keys but that of the end record are below the key, no ordinary record is not below it
module _ (p : Description) (kr : p.k ≤ p.wpr) (w : List ℕ) (kw : Key p w) where
  end-only : (e : List ℕ) → is_ones (key_in p e) ≡ true → ordinary p (records_from p w (e ∷ [])) ≡ []
  unfolding ordinary records_from
  end-only e o = go (key_lt (key_in p e) w)
    where
      go : (t : Bool) → ordinary p (cond t [] (e ∷ [])) ≡ []
      go true = refl
      go false = rw o

  pub none_from : (lo : ℕ) (xs : List (List ℕ)) (e : List ℕ) → Asc (key p.k) lo xs (val w) → All (RowOk p) xs → is_ones (key_in p e) ≡ true
      → ordinary p (records_from p w (xs ++ e ∷ [])) ≡ []
  unfolding records_from
  none_from lo [] e h ok o = end-only e o
  none_from lo (x ∷ xs) e h ok o =
      rw (row_under p kr w kw x ok.0, lt-ltb (key p.k x) (val w) (asc-le (key p.k) (suc (key p.k x)) xs (val w) h.1))
      (none_from (suc (key p.k x)) xs e h.1 ok.1 o)

  -- an ordinary record not below the key is among those
  pub some-from : (xs : List (List ℕ)) (y : List ℕ) (ys : List (List ℕ)) → key_lt (key_in p y) w ≡ false → is_ones (key_in p y) ≡ false
      → ordinary p (records_from p w (xs ++ y ∷ ys)) ≡ [] → ⊥
  unfolding ordinary records_from
  some-from [] y ys l o e = no-cons y (ordinary p (records_from p w ys)) (sym (rw (l, o)) ∙ e)
  some-from (x ∷ xs) y ys l o e = go (key_lt (key_in p x) w) (some-from xs y ys l o) e
    where
      by : (u : Bool) (zs : List (List ℕ)) → (zs ≡ [] → ⊥) → cond u zs (x ∷ zs) ≡ [] → ⊥
      by true zs h q = h q
      by false zs h q = no-cons x zs q

      go : (t : Bool) → (ordinary p (records_from p w (xs ++ y ∷ ys)) ≡ [] → ⊥)
          → ordinary p (cond t (records_from p w (xs ++ y ∷ ys)) (x ∷ records_from p w (xs ++ y ∷ ys))) ≡ [] → ⊥
      go true h q = h q
      go false h q = by (is_ones (key_in p x)) (ordinary p (records_from p w (xs ++ y ∷ ys))) h q

pub last_leaf : (ls : List Leaf) (l : Leaf) → last_block (ls ++ l ∷ []) ≡ l.records
unfolding last_block
last_leaf [] l = refl
last_leaf (x ∷ []) l = refl
last_leaf (x ∷ y ∷ ls) l = last_leaf (y ∷ ls) l
