-- XTEND's way to the last block, on a sound state: it passes, and comes to the file's last leaf, whose last record is the end record.
use Prim.Native.Nat.{ℕ, suc, ◌-◌, ◌≤◌, ◌<◌}
use mathlib.Core.Bool.{Bool, true, false, cond}
use mathlib.Core.Logic.{◌⊎◌, inl, inr}
use mathlib.Core.Path.{◌≡◌, refl, sym, ap, ap₂, ◌∙◌, subst}
use mathlib.Core.List.{List, [], ◌∷◌, ◌++◌, append-nil, append_assoc}
use native.Mathlib.Omega.{arith}
use native.Mathlib.Decide.{ℕ_discrete}
use lib.ListN.{length, take, length-append, length-replicate}
use lib.Seq.{take_at}
use Rattle.numbers.specs.Numbers.{bad_file}
use Rattle.numbers.specs.Checked.{Checked, passed, ◌>>=◌, ◌>>◌, require}
use Rattle.words.specs.Words.{zeros, top_word}
use Rattle.words.specs.Keys.{ones, is_ones, val}
use Rattle.words.proofs.All.{is_ones-ones, is_ones-true}
use Rattle.table.specs.Tables.{count, key_at}
use Rattle.drum.proofs.Forms.{count-master}
use Rattle.drum.specs.declared.Description.{Description}
use Rattle.drum.specs.Params.{detail_shape}
use Rattle.drum.specs.Blocks.{Texts, text_of}
use Rattle.drum.proofs.Good.{good-facts}
use Rattle.layout.specs.Create.{end_record}
use Rattle.rules.specs.declared.Which.TheVariants as which
use Rattle.rules.specs.declared.Path.{Path}
use Rattle.rules.specs.declared.Way.{Way}
use Rattle.rules.specs.declared.Way.TheVariants.{Here, By}
use Rattle.rules.specs.Paths.{last_path}
use Rattle.rules.specs.Lookup.{on_buffer, flush_ok}
use Rattle.rules.specs.Xtend.{ends_in_ones, last_outside, last_way}
use Rattle.demands.proofs.Lists.{All, all_right, from_end, last-same}
use Rattle.demands.proofs.Order.{Asc, asc-le, asc-right}
use Rattle.layout.specs.Tree.{Leaf, Section}
use Rattle.demands.proofs.Trees.{leaves_in, leaves_in-append, records_in, records-append, key, bd, reach, Ranged, reach-append, ranged-right, ranged-asc}
use Rattle.demands.proofs.Trees.{table}
use Rattle.demands.proofs.Holds.{Free, HoldsCells, LeafFits, SectionOk, RowOk}
use Rattle.demands.proofs.Steps.{sec}
use Rattle.demands.proofs.Places.{Place, tree_of, olds, lo, hi, Spot, leaf-text, leaf-ok, asc-leaf}
use Rattle.demands.proofs.Texts.{count-table}
use Rattle.demands.proofs.Blocks.{master_of}
use Rattle.demands.proofs.Entries.{sections-is, count_index}
use Rattle.demands.proofs.Paths.{path_of, path-by}
use Rattle.demands.proofs.Records.{key_here, key-long}
use Rattle.demands.proofs.Sound.{KeptTree, buffer-leaf}
use Rattle.demands.proofs.Reach.{At, buffer-none, buffer-some, flush-pass, at_here, at-by}

-- the last place of a tree
abbrev pub ending : List Section → ℕ → List Leaf → Leaf → Place
ending bs ib low l = record { before = bs; index = ib; low = low; leaf = l; high = []; behind = [] }

pub record Last (v : Texts) (flag : Bool) (ss : List Section) (f : Free) : Type 0 where
  pub before : List Section
  pub index : ℕ
  pub low : List Leaf
  pub leaf : Leaf
  pub way : Way
  pub front : List (List ℕ)
  pub at : At v flag ss f (ending before index low leaf) way
  pub way-is : last_way v flag ≡ passed way
  pub path-is : last_path v ≡ passed (path_of (ending before index low leaf))
  pub rows_are : leaf.records ≡ front ++ end_record v.desc ∷ []

module _ (v : Texts) (flag : Bool) (ss : List Section) (f : Free) (h : KeptTree v flag ss f) where
  abbrev p : Description
  p = v.desc

  abbrev K : List ℕ → ℕ
  K = key v.desc.k

  kr : p.k ≤ p.wpr
  kr = (good-facts p h.good).key

  -- the key that a block ends in
  ends : (fr : List (List ℕ)) (y : List ℕ) → All (RowOk p) (fr ++ y ∷ []) → ends_in_ones p (table (detail_shape p) p.wpb (fr ++ y ∷ [])) ≡ is_ones (take p.k y)
  ends fr y ok =
      let n : count (detail_shape p) (table (detail_shape p) p.wpb (fr ++ y ∷ [])) - 1 ≡ length fr = omega (arith, count-table (detail_shape p) p.wpb (fr ++ y ∷ []), length-append fr (y ∷ [])) in
      ap is_ones (ap (key_at (detail_shape p) (table (detail_shape p) p.wpb (fr ++ y ∷ []))) n ∙ key_here p kr fr y [] ok)

  pub end-ones : is_ones (take p.k (end_record p)) ≡ true
  unfolding end_record
  end-ones = ap is_ones (take_at (ones p.k) (zeros (p.wpr - p.k)) p.k (length-replicate {A = ℕ} p.k top_word)) ∙ is_ones-ones p.k

  module _ (bs : List Section) (ib : ℕ) (low : List Leaf) (l : Leaf) (z : ss ≡ tree_of (ending bs ib low l)) where
    hz : HoldsCells p (master_of p v.file) (text_of v) (tree_of (ending bs ib low l)) f
    hz = subst (λ (s : List Section). HoldsCells p (master_of p v.file) (text_of v) s f) z h.holds

    lok : LeafFits p l
    lok = leaf-ok p (ending bs ib low l) f _ _ hz

    -- the last leaf's last row is the end record
    last_row_lem : (fr : List (List ℕ)) (y : List ℕ) → l.records ≡ fr ++ y ∷ [] → y ≡ end_record p
    last_row_lem fr y e =
        last-same (records_in (leaves_in bs ++ low) ++ fr) y h.ended.front (end_record p)
        (sym (ap (λ (s : List Section). records_in (leaves_in s)) z ∙ spread ∙ ap (λ (r : List (List ℕ)). records_in (leaves_in bs ++ low) ++ r) e ∙ sym
        (append_assoc (records_in (leaves_in bs ++ low)) fr (y ∷ []))) ∙ h.ended.is)
      where
        spread : records_in (leaves_in (bs ++ (sec ib (low ++ (l ∷ [])) ∷ []))) ≡ records_in (leaves_in bs ++ low) ++ l.records
        spread = simp (leaves_in-append, records-append, append_assoc, append-nil)

    path-last : last_path v ≡ passed (path_of (ending bs ib low l))
    path-last =
        path-by v (ending bs ib low l) f hz which.Last which.Last []
        (omega (arith, count-master p v.file, sections-is p v.file (tree_of (ending bs ib low l)) f hz.master-is hz.sized, length-append bs (sec ib (low ++ (l ∷ [])) ∷ [])))
        (omega (arith, count_index p (low ++ (l ∷ [])), length-append low (l ∷ [])))

    -- "else write if flagged, index and detail of the last block"
    goes : (test : on_buffer v (ends_in_ones p v.buffer) ≡ passed false) → Last v flag ss f
    unfolding last_way last_outside
    goes test = go (from_end l.records)
      where
        text-is : text_of v l.block ≡ table (detail_shape p) p.wpb l.records
        text-is = leaf-text p (ending bs ib low l) f _ _ hz

        go : (l.records ≡ []) ⊎ ((fr : List (List ℕ)) × (y : List ℕ) × (l.records ≡ fr ++ y ∷ [])) → Last v flag ss f
        go (inl e) = absurd (omega (arith, lok.some, ap length e))
        go (inr (fr, y, e)) =
            let ey : y ≡ end_record p = last_row_lem fr y e in
            let en : ends_in_ones p (text_of v l.block) ≡ true
            = ap (ends_in_ones p) (text-is ∙ ap (table (detail_shape p) p.wpb) e) ∙ ends fr y (subst (All (RowOk p)) e lok.rows)
            ∙ ap (λ (r : List ℕ). is_ones (take p.k r)) ey ∙ end-ones in
            record {
              before = bs;
              index = ib;
              low = low;
              leaf = l;
              way = By (path_of (ending bs ib low l));
              front = fr;
              at = at-by v flag ss f h (ending bs ib low l) z;
              way-is = ap (λ (m : Checked Bool). m >>= (λ here. cond here (passed Here) (last_outside v flag))) test
                  ∙ ap (λ (m : Checked Path). m >>= (λ w. require (ends_in_ones p (text_of v w.detail)) bad_file >>
                  (require (flush_ok v flag) bad_file >> passed (By w)))) path-last
                  ∙ ap₂ (λ (t u : Bool). require t bad_file >> (require u bad_file >> passed (By (path_of (ending bs ib low l))))) en (flush-pass v flag ss f h);
              path-is = path-last;
              rows_are = e ∙ ap (λ (r : List ℕ). fr ++ r ∷ []) ey;
            }

  -- a leaf that ends in ONES is the last one
  nothing-after : (a : Place) → ss ≡ tree_of a → val (ones p.k) < hi p a → (a.high ≡ []) × (a.behind ≡ [])
  nothing-after a z top = go a.high refl a.behind refl
    where
      hz₂ : HoldsCells p (master_of p v.file) (text_of v) (tree_of a) f
      hz₂ = subst (λ (s : List Section). HoldsCells p (master_of p v.file) (text_of v) s f) z h.holds

      pre : List Leaf
      pre = leaves_in a.before ++ a.low

      after : List Leaf
      after = a.high ++ leaves_in a.behind

      split : leaves_in (tree_of a) ≡ (leaves_in a.before ++ a.low) ++ (a.leaf ∷ (a.high ++ leaves_in a.behind))
      split = simp (leaves_in-append, append_assoc)

      rest : Ranged p.k (hi p a) (a.high ++ leaves_in a.behind)
      rest =
          (ranged-right p.k 0 (leaves_in a.before ++ a.low) (a.leaf ∷ (a.high ++ leaves_in a.behind))
          (subst (Ranged p.k 0) split hz₂.ranged)).1

      ends_at : reach p.k (hi p a) (a.high ++ leaves_in a.behind) ≡ suc (val (ones p.k))
      ends_at =
          sym (ap (reach p.k 0) split ∙ reach-append p.k 0 (leaves_in a.before ++ a.low) (a.leaf ∷ (a.high ++ leaves_in a.behind))) ∙ hz₂.top

      -- a leaf after it would end above ONES
      no-leaf : (m : Leaf) (ms : List Leaf) → a.high ++ leaves_in a.behind ≡ m ∷ ms → LeafFits p m → ⊥
      no-leaf m ms e ok =
          let r : Ranged p.k (hi p a) (m ∷ ms) = subst (Ranged p.k (hi p a)) e rest in
          let b : reach p.k (suc (bd p.k m)) ms ≡ suc (val (ones p.k)) = ap (reach p.k (hi p a)) (sym e) ∙ ends_at in
          omega (
            arith,
            asc-le K (suc (bd p.k m)) (records_in ms) _ (ranged-asc p.k (suc (bd p.k m)) ms r.1),
            b,
            top,
            one m.records refl r.0
                ok.some,
          )
        where
          one : (rs : List (List ℕ)) → m.records ≡ rs → Asc K (hi p a) m.records (suc (bd p.k m)) → 1 ≤ length m.records → hi p a < suc (bd p.k m)
          one [] e r s = absurd (omega (arith, s, ap length e))
          one (x ∷ xs) e r s =
              let q : Asc K (hi p a) (x ∷ xs) (suc (bd p.k m)) = subst (λ (u : List (List ℕ)). Asc K (hi p a) u (suc (bd p.k m))) e r in
              omega (arith, q.0, asc-le K (suc (K x)) xs (suc (bd p.k m)) q.1)

      secs : All (SectionOk p) (sec a.index (olds a) ∷ a.behind)
      secs = all_right (SectionOk p) a.before _ hz₂.sized

      go : (hs : List Leaf) → a.high ≡ hs → (ds : List Section) → a.behind ≡ ds → (a.high ≡ []) × (a.behind ≡ [])
      go [] e [] g = (e, g)
      go (m ∷ hs) e ds g = absurd (no-leaf m (hs ++ leaves_in a.behind) (ap (λ (u : List Leaf). u ++ leaves_in a.behind) e)
          (subst (All (LeafFits p)) e (all_right (LeafFits p) a.low _ secs.0.leaves).1).0)
      go [] e (s ∷ ds) g = absurd (sect s.leaves refl)
        where
          sok : SectionOk p s
          sok = (subst (All (SectionOk p)) g secs.1).0

          sect : (ls : List Leaf) → s.leaves ≡ ls → ⊥
          sect [] q = absurd (omega (arith, sok.some, ap length q))
          sect (m ∷ ms) q =
              no-leaf m (ms ++ leaves_in ds) (ap₂ (λ (u : List Leaf) (w : List Section). u ++ leaves_in w) e g ∙ ap (λ (u : List Leaf). u ++ leaves_in ds) q)
              (subst (All (LeafFits p)) q sok.leaves).0

  -- "buffer ends in ONES: 0"
  stays : (s : Spot ss v.current) → ends_in_ones p v.buffer ≡ true → Last v flag ss f
  unfolding last_way
  stays s e = go (from_end s.place.leaf.records)
    where
      buf : v.buffer ≡ table (detail_shape p) p.wpb s.place.leaf.records
      buf = buffer-leaf v flag ss f h s

      hs : HoldsCells p (master_of p v.file) (text_of v) (tree_of s.place) f
      hs = subst (λ (z : List Section). HoldsCells p (master_of p v.file) (text_of v) z f) s.is h.holds

      ok : LeafFits p s.place.leaf
      ok = leaf-ok p s.place f _ _ hs

      go : (s.place.leaf.records ≡ []) ⊎ ((fr : List (List ℕ)) × (y : List ℕ) × (s.place.leaf.records ≡ fr ++ y ∷ [])) → Last v flag ss f
      go (inl n) = absurd (omega (arith, ok.some, ap length n))
      go (inr (fr, y, g)) =
          let yok : RowOk p y = (all_right (RowOk p) fr _ (subst (All (RowOk p)) g ok.rows)).0 in
          let ky : take p.k y ≡ ones p.k
          = is_ones-true p.k (take p.k y) (key-long p kr y yok).0
          (sym (ends fr y (subst (All (RowOk p)) g ok.rows)) ∙ ap (ends_in_ones p) (sym (buf ∙ ap (table (detail_shape p) p.wpb) g)) ∙ e) in
          let k : K y ≡ val (ones p.k) = last-key y ky in
          let asc₂ : Asc K (lo p s.place) (fr ++ y ∷ []) (hi p s.place)
          = subst (λ (u : List (List ℕ)). Asc K (lo p s.place) u (hi p s.place)) g (asc-leaf p s.place f _ _ hs) in
          let n : (s.place.high ≡ []) × (s.place.behind ≡ [])
          = nothing-after s.place s.is (omega (arith, k, (asc-right K (lo p s.place) fr (y ∷ []) _ asc₂).1)) in
          finish fr y g n
        where
          last-key : (y : List ℕ) → take p.k y ≡ ones p.k → K y ≡ val (ones p.k)
          last-key y e = unfold key in ap val e

          finish : (fr : List (List ℕ)) (y : List ℕ) → s.place.leaf.records ≡ fr ++ y ∷ [] → (s.place.high ≡ []) × (s.place.behind ≡ [])
              → Last v flag ss f
          finish fr y g n =
              let a : Place = ending s.place.before s.place.index s.place.low s.place.leaf in
              let z : ss ≡ tree_of a
              = s.is ∙ ap₂ (λ (u : List Leaf) (w : List Section). s.place.before ++ (sec s.place.index (s.place.low ++ (s.place.leaf ∷ u)) ∷ w))
              n.0 n.1 in
              record {
                before = s.place.before;
                index = s.place.index;
                low = s.place.low;
                leaf = s.place.leaf;
                way = Here;
                front = fr;
                at = at_here v flag ss f h (record { place = a; is = z; block = s.block });
                way-is =
                    ap (λ (m : Checked Bool). m >>= (λ here. cond here (passed Here) (last_outside v flag)))
                    (buffer-some v flag ss f h s (ends_in_ones p v.buffer) ∙ ap passed e);
                path-is = path-last s.place.before s.place.index s.place.low s.place.leaf z;
                rows_are = g ∙ ap (λ (r : List ℕ). fr ++ r ∷ []) (last_row_lem s.place.before s.place.index s.place.low s.place.leaf z fr y g);
              }

  pub last : Last v flag ss f
  last = go (ℕ_discrete v.current 0)
    where
      leaf : on_buffer v (ends_in_ones p v.buffer) ≡ passed false → (bs : List Section) (s : Section) → ss ≡ bs ++ s ∷ []
          → (s.leaves ≡ []) ⊎ ((low : List Leaf) × (l : Leaf) × (s.leaves ≡ low ++ l ∷ [])) → Last v flag ss f
      leaf t bs s e (inl n) = absurd (omega (arith, (all_right (SectionOk p) bs _ (subst (All (SectionOk p)) e h.holds.sized)).0.some, ap length n))
      leaf t bs s e (inr (low, l, g)) = goes bs s.block low l (e ∙ ap (λ (u : List Leaf). bs ++ (sec s.block u ∷ [])) g) t

      outside : on_buffer v (ends_in_ones p v.buffer) ≡ passed false → (ss ≡ []) ⊎ ((bs : List Section) × (s : Section) × (ss ≡ bs ++ s ∷ []))
          → Last v flag ss f
      outside t (inl e) = absurd (omega (arith, h.holds.top, ap (λ (s : List Section). reach p.k 0 (leaves_in s)) e))
      outside t (inr (bs, s, e)) = leaf t bs s e (from_end s.leaves)

      buffered : Spot ss v.current → (t : Bool) → ends_in_ones p v.buffer ≡ t → Last v flag ss f
      buffered s true e = stays s e
      buffered s false e = outside (buffer-some v flag ss f h s (ends_in_ones p v.buffer) ∙ ap passed e) (from_end ss)

      go : Dec (v.current ≡ 0) → Last v flag ss f
      go (yes e) = outside (buffer-none v flag ss f h e (ends_in_ones p v.buffer)) (from_end ss)
      go (no n) = buffered (h.current (omega arith)) (ends_in_ones p v.buffer) refl
