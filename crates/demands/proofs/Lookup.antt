-- "Lookup", on a sound state: it passes, and comes to THE leaf that covers the key, with its place in the tree. All keyed calls start here.
use Prim.Native.Nat.{ℕ, suc, ◌≤◌, ◌<◌}
use mathlib.Core.Bool.{Bool, true, false, cond}
use mathlib.Core.Path.{◌≡◌, sym, ap, ◌∙◌, subst}
use mathlib.Core.List.{List, [], ◌∷◌, ◌++◌}
use native.Mathlib.Omega.{arith}
use native.Mathlib.Decide.{ℕ_discrete}
use lib.Dec.{ltb, leb}
use lib.ListN.{length, length-append}
use borrow.Author.Tests.{lt-ltb, le-ltb}
use Rattle.numbers.specs.Checked.{Checked, passed, ◌>>=◌}
use Rattle.words.specs.Keys.{val}
use Rattle.table.specs.Tables.{count, row_with}
use Rattle.drum.specs.declared.Description.{Description}
use Rattle.drum.specs.Params.{detail_shape}
use Rattle.drum.specs.Blocks.{Texts, text_of}
use Rattle.drum.proofs.Good.{good-facts}
use Rattle.rules.specs.declared.Way.{Way}
use Rattle.rules.specs.declared.Way.TheVariants.{Here, By}
use Rattle.rules.specs.declared.Look.TheVariants.{Found, Missing}
use Rattle.rules.specs.Paths.{path_to}
use Rattle.rules.specs.Lookup.{on_buffer, in_buffer, look_outside, look}
use Rattle.demands.proofs.Rows.{first_in}
use Rattle.demands.proofs.Order.{Asc, asc-le, hit}
use Rattle.layout.specs.Tree.{Section}
use Rattle.demands.proofs.Trees.{leaves_in, records_in, key, bd, table}
use Rattle.demands.proofs.Holds.{Free, HoldsCells}
use Rattle.demands.proofs.Locate.{Located, locate, covered, sec_bd}
use Rattle.demands.proofs.Places.{Place, tree_of, olds, lo, hi, Spot, leaf-text, leaf-ok, asc-leaf, hit-here}
use Rattle.demands.proofs.Texts.{count-table}
use Rattle.demands.proofs.Blocks.{master_of}
use Rattle.demands.proofs.Paths.{path_of, path-to}
use Rattle.demands.proofs.Records.{AtKey, missing, present, at_key, cut-front, cut-back, hit-at}
use Rattle.demands.proofs.Sound.{Key, KeptTree, buffer-leaf}
use Rattle.demands.proofs.Reach.{some-leaves, At, buffer-none, buffer-some, flush-pass, at_here, at-by}

-- the place covers the key, and the search comes to it
pub record Covers (v : Texts) (w : List ℕ) (a : Place) : Type 0 where
  pub above : lo v.desc a ≤ val w
  pub within : val w < hi v.desc a
  pub path-is : path_to v w ≡ passed (path_of a)

-- the key in the block that the lookup comes to, and in the contents
pub data Looked (v : Texts) (flag : Bool) (w : List ℕ) (ss : List Section) (f : Free) : Type 0 where
  absent : (a : Place) → At v flag ss f a (By (path_of a)) → Covers v w a → hit (key v.desc.k) (val w) (records_in (leaves_in ss)) ≡ []
      → hit (key v.desc.k) (val w) a.leaf.records ≡ [] → look v flag w ≡ passed (Missing (path_of a)) → Looked v flag w ss f
  there : (a : Place) (way : Way) → At v flag ss f a way → Covers v w a → (bs : List (List ℕ)) (r : List ℕ) (cs : List (List ℕ))
      → a.leaf.records ≡ bs ++ r ∷ cs → key v.desc.k r ≡ val w
      → hit (key v.desc.k) (val w) (records_in (leaves_in ss)) ≡ r ∷ [] → look v flag w ≡ passed (Found way (length bs)) → Looked v flag w ss f

module _ (v : Texts) (flag : Bool) (ss : List Section) (f : Free) (h : KeptTree v flag ss f) (w : List ℕ) (kw : Key v.desc w) where
  abbrev p : Description
  p = v.desc

  kr : p.k ≤ p.wpr
  kr = (good-facts p h.good).key

  module _ (a : Place) (hz : HoldsCells p (master_of p v.file) (text_of v) (tree_of a) f) where
    cover : lo p a ≤ val w → val w < hi p a → Covers v w a
    unfolding bd
    cover l u =
        let places : (first_in (λ s. leb (val w) (sec_bd p.k s)) (tree_of a) ≡ length a.before) ×
        (first_in (λ m. leb (val w) (bd p.k m)) (olds a) ≡ length a.low)
        = covered p.k a.before a.index a.low a.leaf a.high a.behind (val w) (some-leaves p (tree_of a) hz.sized) hz.ranged l
        (omega arith) in
        record { above = l; within = u; path-is = path-to v a f hz w kw.wide kw.long places.0 places.1 }

    -- the block's own search
    search : AtKey p.k (val w) a.leaf.records (row_with (detail_shape p) w (table (detail_shape p) p.wpb a.leaf.records))
    search = at_key p kr a.leaf.records (leaf-ok p a f _ (text_of v) hz).rows w kw.wide kw.long

    hit-in : (bs : List (List ℕ)) (r : List ℕ) (cs : List (List ℕ)) → a.leaf.records ≡ bs ++ r ∷ cs → key p.k r ≡ val w
        → (lo p a ≤ val w) × (val w < hi p a) × (hit (key p.k) (val w) a.leaf.records ≡ r ∷ [])
    hit-in bs r cs q e =
        let K : List ℕ → ℕ = key p.k in
        let asc : Asc K (lo p a) (bs ++ r ∷ cs) (hi p a) = subst (λ (z : List (List ℕ)). Asc K (lo p a) z (hi p a)) q (asc-leaf p a f _ (text_of v) hz) in (
          rw (← e) (asc-le K (lo p a) bs (K r) (cut-front K (lo p a) bs r cs _ asc)),
          rw (← e) (asc-le K (suc (K r)) cs _ (cut-back K (lo p a) bs r cs _ asc)),
          ap (hit K (val w)) q ∙ ap (λ (x : ℕ). hit K x (bs ++ r ∷ cs)) (sym e) ∙ hit-at K (lo p a) bs r cs _ asc,
        )

  -- the block is brought
  goes : Located p.k ss (val w) → in_buffer v w ≡ passed false → Looked v flag w ss f
  unfolding look look_outside
  goes c e = go (search a hz)
    where
      a : Place
      a = record { before = c.before; index = c.index; low = c.low; leaf = c.leaf; high = c.high; behind = c.behind }

      A : At v flag ss f a (By (path_of a))
      A = at-by v flag ss f h a c.is

      hz : HoldsCells p (master_of p v.file) (text_of v) (tree_of a) f
      hz = subst (λ (z : List Section). HoldsCells p (master_of p v.file) (text_of v) z f) c.is h.holds

      C : Covers v w a
      C = cover a hz c.above (omega (arith, c.within))

      t : text_of v a.leaf.block ≡ table (detail_shape p) p.wpb a.leaf.records
      t = leaf-text p a f _ (text_of v) hz

      whole : hit (key p.k) (val w) (records_in (leaves_in ss)) ≡ hit (key p.k) (val w) a.leaf.records
      whole =
          ap (λ (z : List Section). hit (key p.k) (val w) (records_in (leaves_in z))) c.is ∙ hit-here p a f _ (text_of v) hz (val w) C.above C.within

      place : ℕ
      place = row_with (detail_shape p) w (table (detail_shape p) p.wpb a.leaf.records)

      looked : (b : Bool) → ltb place (length a.leaf.records) ≡ b → look v flag w ≡ passed (cond b (Found (By (path_of a)) place) (Missing (path_of a)))
      looked b g =
          let i : ltb (row_with (detail_shape p) w (text_of v a.leaf.block)) (count (detail_shape v.desc) (text_of v a.leaf.block)) ≡ b
          = ap (λ (x : List ℕ). ltb (row_with (detail_shape p) w x) (count (detail_shape p) x)) t ∙ ap (ltb place) (count-table (detail_shape p) p.wpb a.leaf.records) ∙ g in
          let j : row_with (detail_shape p) w (text_of v a.leaf.block) ≡ place = ap (row_with (detail_shape p) w) t in
          simp (e, C.path-is, flush-pass v flag ss f h)
          (ap (λ (x : Bool). passed (cond x (Found (By (path_of a)) (row_with (detail_shape p) w (text_of v a.leaf.block))) (Missing (path_of a)))) i
          ∙ ap (λ (n : ℕ). passed (cond b (Found (By (path_of a)) n) (Missing (path_of a)))) j)

      go : AtKey p.k (val w) a.leaf.records place → Looked v flag w ss f
      go (missing i n) = absent a A C (whole ∙ n) n (looked false (le-ltb place (length a.leaf.records) (omega arith)))
      go (present bs r cs q i k) =
          there a (By (path_of a)) A C bs r cs q k (whole ∙ (hit-in a hz bs r cs q k).2)
          (looked true (lt-ltb place (length a.leaf.records) (omega (arith, i, ap length q, length-append bs (r ∷ cs)))) ∙ ap
          (λ (n : ℕ). passed (Found (By (path_of a)) n)) i)

  located : Located p.k ss (val w)
  located = locate p.k ss (val w) (some-leaves p ss h.holds.sized) (rw h.holds.top (omega (arith, kw.below)))

  -- the buffer has the key, or it has not
  tries : Spot ss v.current → Looked v flag w ss f
  unfolding look in_buffer
  tries s = go (search a hz)
    where
      A : At v flag ss f s.place Here
      A = at_here v flag ss f h s

      a : Place
      a = s.place

      hz : HoldsCells p (master_of p v.file) (text_of v) (tree_of a) f
      hz = A.held

      t : v.buffer ≡ table (detail_shape p) p.wpb a.leaf.records
      t = buffer-leaf v flag ss f h s

      place : ℕ
      place = row_with (detail_shape p) w (table (detail_shape p) p.wpb a.leaf.records)

      tested : (b : Bool) → ltb place (length a.leaf.records) ≡ b → on_buffer v (ltb (row_with (detail_shape p) w v.buffer) (count (detail_shape v.desc) v.buffer)) ≡ passed b
      tested b g =
          buffer-some v flag ss f h s (ltb (row_with (detail_shape p) w v.buffer) (count (detail_shape v.desc) v.buffer))
          ∙ ap passed (ap (λ (x : List ℕ). ltb (row_with (detail_shape p) w x) (count (detail_shape p) x)) t ∙ ap (ltb place) (count-table (detail_shape p) p.wpb a.leaf.records) ∙ g)

      go : AtKey p.k (val w) a.leaf.records place → Looked v flag w ss f
      go (missing i n) = goes located (tested false (le-ltb place (length a.leaf.records) (omega arith)))
      go (present bs r cs q i k) =
          let c : (lo p a ≤ val w) × (val w < hi p a) × (hit (key p.k) (val w) a.leaf.records ≡ r ∷ []) = hit-in a hz bs r cs q k in
          let C : Covers v w a = cover a hz c.0 c.1 in
          let whole : hit (key p.k) (val w) (records_in (leaves_in ss)) ≡ hit (key p.k) (val w) a.leaf.records
          = ap (λ (z : List Section). hit (key p.k) (val w) (records_in (leaves_in z))) s.is
          ∙ hit-here p a f _ (text_of v) hz (val w) C.above C.within in
          there a Here A C bs r cs q k (whole ∙ c.2)
          (ap (λ (m : Checked Bool). m >>= (λ here. cond here (passed (Found Here (row_with (detail_shape p) w v.buffer))) (look_outside v flag w)))
          (tested true (lt-ltb place (length a.leaf.records) (omega (arith, i, ap length q, length-append bs (r ∷ cs)))))
          ∙ ap (λ (n : ℕ). passed (Found Here n)) (ap (row_with (detail_shape p) w) t ∙ i))

  pub looks : Looked v flag w ss f
  unfolding in_buffer
  looks = go (ℕ_discrete v.current 0)
    where
      go : Dec (v.current ≡ 0) → Looked v flag w ss f
      go (yes e) = goes located (buffer-none v flag ss f h e (ltb (row_with (detail_shape p) w v.buffer) (count (detail_shape v.desc) v.buffer)))
      go (no n) = tries (h.current (omega arith))
