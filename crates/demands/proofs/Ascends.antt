-- The order of a held tree's keys, as numbers, in the reader's words: each key below the next, none above its bound.
use Prim.Native.Nat.{ℕ, suc, ◌≤◌, ◌<◌}
use mathlib.Core.Bool.{true}
use mathlib.Core.Path.{◌≡◌, refl, sym, ◌∙◌}
use mathlib.Core.List.{List, [], ◌∷◌}
use native.Mathlib.Omega.{arith}
use lib.ListN.{length, take}
use borrow.Author.Tests.{le-ltb}
use Rattle.words.specs.Keys.{key_lt, key_le, val}
use Rattle.words.proofs.Keys.{key_le-yes}
use Rattle.words.proofs.Values.{key_lt-val, val-lt-key_lt}
use Rattle.drum.specs.declared.Description.{Description}
use Rattle.layout.specs.Tree.{Leaf}
use Rattle.layout.specs.Holds as lay
use Rattle.demands.proofs.Records.{WideKey, key-long}
use Rattle.demands.proofs.Lists.{All}
use Rattle.demands.proofs.Order.{Asc, asc-le}
use Rattle.demands.proofs.Trees.{key, bd, Ranged}
use Rattle.demands.proofs.Holds as held

module _ (p : Description) (kr : p.k ≤ p.wpr) where
  abbrev K : List ℕ → ℕ
  K = key p.k

  lt-key : (a b : List ℕ) → WideKey p a → WideKey p b → val a < val b → key_lt a b ≡ true
  lt-key a b ha hb l = val-lt-key_lt a b ha.1 hb.1 (ha.0 ∙ sym hb.0) l

  le-key : (a b : List ℕ) → WideKey p a → WideKey p b → val a ≤ val b → key_le a b ≡ true
  le-key a b ha hb l = key_le-yes a b (key_lt-val b a hb.1 ha.1 (hb.0 ∙ sym ha.0) ∙ le-ltb (val b) (val a) l)

  up-after : (b : List ℕ) (hi : ℕ) → WideKey p b → (rs : List (List ℕ)) → All (held.RowOk p) rs → Asc K (suc (val b)) rs hi
      → lay.ascending (b ∷ lay.keys_of p rs) ≡ true
  unfolding lay.ascending key
  up-after b hi hb [] ok a = refl
  up-after b hi hb (r ∷ rs) ok a =
      rw (lt-key b (take p.k r) hb (key-long p kr r ok.0) a.0) (up-after (take p.k r) hi (key-long p kr r ok.0) rs ok.1 a.1)

  up_first : (hi : ℕ) (rs : List (List ℕ)) → All (held.RowOk p) rs → Asc K 0 rs hi → lay.ascending (lay.keys_of p rs) ≡ true
  unfolding lay.ascending key
  up_first hi [] ok a = refl
  up_first hi (r ∷ rs) ok a = up-after (take p.k r) hi (key-long p kr r ok.0) rs ok.1 a.1

  bounded : (lo : ℕ) (bound : List ℕ) → WideKey p bound → (rs : List (List ℕ)) → All (held.RowOk p) rs → Asc K lo rs (suc (val bound))
      → lay.All (λ k. key_le k bound ≡ true) (lay.keys_of p rs)
  unfolding lay.All key
  bounded lo bound hb [] ok a = tt
  bounded lo bound hb (r ∷ rs) ok a = (
    le-key (take p.k r) bound (key-long p kr r ok.0) hb (omega (arith, asc-le K (suc (K r)) rs (suc (val bound)) a.1)),
    bounded
        (suc (K r)) bound hb rs ok.1 a.1,
  )

  widths : (rs : List (List ℕ)) → All (held.RowOk p) rs → lay.All (λ r. length r ≡ p.wpr) rs
  unfolding lay.All
  widths [] h = tt
  widths (r ∷ rs) h = (h.0.0, widths rs h.1)

  told-after : (b : List ℕ) → WideKey p b → (ls : List Leaf) → All (held.LeafFits p) ls → Ranged p.k (suc (val b)) ls → lay.LeavesOk p (b ∷ []) ls
  unfolding lay.LeavesOk bd
  told-after b hb [] ok r = tt
  told-after b hb (l ∷ ls) ok r =
      let w : WideKey p l.bound = (ok.0.bound, ok.0.wide) in (
        record {
          counted = (ok.0.some, ok.0.room);
          width = ok.0.bound;
          widths = widths l.records ok.0.rows;
          order = up-after b _ hb l.records ok.0.rows r.0;
          bounded = bounded _ l.bound w l.records ok.0.rows r.0;
        },
        told-after l.bound w ls ok.1 r.1,
      )

  pub told-first : (ls : List Leaf) → All (held.LeafFits p) ls → Ranged p.k 0 ls → lay.LeavesOk p [] ls
  unfolding lay.LeavesOk bd
  told-first [] ok r = tt
  told-first (l ∷ ls) ok r =
      let w : WideKey p l.bound = (ok.0.bound, ok.0.wide) in (
        record {
          counted = (ok.0.some, ok.0.room);
          width = ok.0.bound;
          widths = widths l.records ok.0.rows;
          order = up_first _ l.records ok.0.rows r.0;
          bounded = bounded _ l.bound w l.records ok.0.rows r.0;
        },
        told-after l.bound w ls ok.1 r.1,
      )

-- ---- the file
