-- Records in the order of their keys: those above the first of them are the rest.
use Prim.Native.Nat.{ℕ, suc, ◌≤◌}
use mathlib.Core.Path.{◌≡◌, refl, sym, ap, ◌∙◌, subst}
use mathlib.Core.Bool.{Bool, true, false, cond}
use mathlib.Core.List.{List, [], ◌∷◌}
use native.Mathlib.Omega.{arith}
use lib.ListN.{take}
use Rattle.layout.specs.Holds.{ascending, keys_of}
use Rattle.words.specs.Words.{part}
use Rattle.words.specs.Keys.{key_lt, is_ones, val}
use Rattle.words.proofs.Keys.{clash, key_lt-irrefl, key_lt-trans}
use Rattle.words.proofs.Values.{val-lt-key_lt}
use Rattle.drum.specs.declared.Description.{Description}
use Rattle.rules.specs.State.{key_in}
use Rattle.demands.specs.Contents.{records_above}
use Rattle.demands.specs.Answers.{ordinary}
use Rattle.demands.proofs.Lists.{All}
use Rattle.demands.proofs.Order.{Asc, asc-wide}
use Rattle.demands.proofs.Trees.{key}
use Rattle.demands.proofs.Holds.{RowOk}
use Rattle.demands.proofs.Records.{WideKey, key-long}

module _ (p : Description) where
  abbrev Above : List ℕ → List (List ℕ) → Type 0
  Above k rs = All (λ (r : List ℕ). key_lt k (key_in p r) ≡ true) rs

  -- each key is below all behind it
  abbrev pub Sorted : List (List ℕ) → Type 0
  Sorted [] = Unit {0}
  Sorted (r ∷ rs) = Above (key_in p r) rs × Sorted rs

  above-all : (k : List ℕ) (rs : List (List ℕ)) → Above k rs → records_above p k rs ≡ rs
  unfolding records_above
  above-all k [] h = refl
  above-all k (r ∷ rs) h = rw h.0 (ap (λ (z : List (List ℕ)). r ∷ z) (above-all k rs h.1))

  are-above : (k : List ℕ) (rs : List (List ℕ)) → Above k (records_above p k rs)
  unfolding records_above
  are-above k [] = tt
  are-above k (r ∷ rs) = go (key_lt k (key_in p r)) refl (are-above k rs)
    where
      go : (t : Bool) → key_lt k (key_in p r) ≡ t → Above k (records_above p k rs) → Above k (cond t (r ∷ records_above p k rs) (records_above p k rs))
      go true e ih = (e, ih)
      go false e ih = ih

  -- those above a higher key are above the lower
  above-again : (a b : List ℕ) → key_lt a b ≡ true → (rs : List (List ℕ)) → records_above p b (records_above p a rs) ≡ records_above p b rs
  unfolding records_above
  above-again a b l [] = refl
  above-again a b l (r ∷ rs) = go (key_lt a (key_in p r)) (key_lt b (key_in p r)) refl refl (above-again a b l rs)
    where
      up : List (List ℕ)
      up = records_above p a rs

      go : (t u : Bool) → key_lt a (key_in p r) ≡ t → key_lt b (key_in p r) ≡ u → records_above p b up ≡ records_above p b rs
          → records_above p b (cond t (r ∷ up) up) ≡ cond u (r ∷ records_above p b rs) (records_above p b rs)
      go true true e g ih = rw g (ap (λ (z : List (List ℕ)). r ∷ z) ih)
      go true false e g ih = rw g ih
      go false true e g ih = absurd (clash (sym (key_lt-trans a b (key_in p r) l g) ∙ e))
      go false false e g ih = ih

  -- the ordinary ones of those above, or those above of the ordinary ones
  ordinary-above : (k : List ℕ) (rs : List (List ℕ)) → ordinary p (records_above p k rs) ≡ records_above p k (ordinary p rs)
  unfolding records_above ordinary
  ordinary-above k [] = refl
  ordinary-above k (r ∷ rs) = go (key_lt k (key_in p r)) (is_ones (key_in p r)) refl refl (ordinary-above k rs)
    where
      up : List (List ℕ)
      up = records_above p k rs

      some : List (List ℕ)
      some = ordinary p rs

      go : (t u : Bool) → key_lt k (key_in p r) ≡ t → is_ones (key_in p r) ≡ u → ordinary p up ≡ records_above p k some
          → ordinary p (cond t (r ∷ up) up) ≡ records_above p k (cond u some (r ∷ some))
      go true true e g ih = rw g ih
      go true false e g ih = rw (e, g) (ap (λ (z : List (List ℕ)). r ∷ z) ih)
      go false true e g ih = ih
      go false false e g ih = rw e ih

  -- ---- still in order

  above-sub : (a k : List ℕ) (rs : List (List ℕ)) → Above a rs → Above a (records_above p k rs)
  unfolding records_above
  above-sub a k [] h = tt
  above-sub a k (r ∷ rs) h = go (key_lt k (key_in p r)) (above-sub a k rs h.1)
    where
      go : (t : Bool) → Above a (records_above p k rs) → Above a (cond t (r ∷ records_above p k rs) (records_above p k rs))
      go true ih = (h.0, ih)
      go false ih = ih

  ordinary-sub : (a : List ℕ) (rs : List (List ℕ)) → Above a rs → Above a (ordinary p rs)
  unfolding ordinary
  ordinary-sub a [] h = tt
  ordinary-sub a (r ∷ rs) h = go (is_ones (key_in p r)) (ordinary-sub a rs h.1)
    where
      go : (t : Bool) → Above a (ordinary p rs) → Above a (cond t (ordinary p rs) (r ∷ ordinary p rs))
      go true ih = ih
      go false ih = (h.0, ih)

  sorted-above : (k : List ℕ) (rs : List (List ℕ)) → Sorted rs → Sorted (records_above p k rs)
  unfolding records_above
  sorted-above k [] h = tt
  sorted-above k (r ∷ rs) h = go (key_lt k (key_in p r)) (sorted-above k rs h.1)
    where
      go : (t : Bool) → Sorted (records_above p k rs) → Sorted (cond t (r ∷ records_above p k rs) (records_above p k rs))
      go true ih = (above-sub (key_in p r) k rs h.0, ih)
      go false ih = ih

  pub sorted-ordinary : (rs : List (List ℕ)) → Sorted rs → Sorted (ordinary p rs)
  unfolding ordinary
  sorted-ordinary [] h = tt
  sorted-ordinary (r ∷ rs) h = go (is_ones (key_in p r)) (sorted-ordinary rs h.1)
    where
      go : (t : Bool) → Sorted (ordinary p rs) → Sorted (cond t (ordinary p rs) (r ∷ ordinary p rs))
      go true ih = ih
      go false ih = (ordinary-sub (key_in p r) rs h.0, ih)

  pub sorted-ascends : (rs : List (List ℕ)) → Sorted rs → ascending (keys_of p rs) ≡ true
  unfolding ascending part
  sorted-ascends [] h = refl
  sorted-ascends (r ∷ []) h = refl
  sorted-ascends (r ∷ q ∷ rs) h = rw h.0.0 (sorted-ascends (q ∷ rs) h.1)

  -- ---- the first goes, and the rest is above it

  rest-above : (r : List ℕ) (rest : List (List ℕ)) → Sorted (r ∷ rest) → records_above p (key_in p r) (r ∷ rest) ≡ rest
  unfolding records_above
  rest-above r rest h = rw (key_lt-irrefl (key_in p r)) (above-all (key_in p r) rest h.0)

  -- from a position, or from none
  pub next-rest : (placed : Bool) (at : List ℕ) (rows : List (List ℕ)) → Sorted rows → (r : List ℕ) (rest : List (List ℕ))
      → ordinary p (cond placed (records_above p at rows) rows) ≡ r ∷ rest → ordinary p (records_above p (key_in p r) rows) ≡ rest
  next-rest false at rows h r rest e =
      ordinary-above (key_in p r) rows ∙ ap (records_above p (key_in p r)) e ∙ rest-above r rest (subst Sorted e (sorted-ordinary rows h))
  next-rest true at rows h r rest e =
      let i : records_above p at (ordinary p rows) ≡ r ∷ rest = sym (ordinary-above at rows) ∙ e in
      let up : Above at (r ∷ rest) = subst (Above at) i (are-above at (ordinary p rows)) in
      ordinary-above (key_in p r) rows
      ∙ sym (above-again at (key_in p r) up.0 (ordinary p rows))
      ∙ ap (records_above p (key_in p r)) i
      ∙ rest-above r rest (subst Sorted i (sorted-above at (ordinary p rows) (sorted-ordinary rows h)))

  -- ---- ascending numbers

  module _ (kr : p.k ≤ p.wpr) where
    above-asc : (b : List ℕ) → WideKey p b → (rs : List (List ℕ)) (hi : ℕ) → All (RowOk p) rs → Asc (key p.k) (suc (val b)) rs hi → Above b rs
    unfolding key part
    above-asc b w [] hi ok a = tt
    above-asc b w (r ∷ rs) hi ok a =
        let l = key-long p kr r ok.0 in
        let first = a.0 in (
          val-lt-key_lt b (take p.k r) w.1 l.1 (w.0 ∙ sym l.0) a.0,
          above-asc b w rs hi ok.1 (asc-wide (key p.k) _ _ rs hi hi a.1 (omega arith) (omega arith)),
        )

    pub sorted-asc : (lo : ℕ) (rs : List (List ℕ)) (hi : ℕ) → All (RowOk p) rs → Asc (key p.k) lo rs hi → Sorted rs
    unfolding key part
    sorted-asc lo [] hi ok a = tt
    sorted-asc lo (r ∷ rs) hi ok a =
        (above-asc (take p.k r) (key-long p kr r ok.0) rs hi ok.1 a.1, sorted-asc (suc (key p.k r)) rs hi ok.1 a.1)
