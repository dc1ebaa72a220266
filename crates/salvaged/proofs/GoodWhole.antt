-- Salvage of a good copy for which there is room: the fresh file holds its records.
use mathlib.Core.Path.{◌≡◌, refl, sym, ap, ◌∙◌, subst}
use mathlib.Core.Bool.{Bool, true, false, cond}
use mathlib.Core.Logic.{◌⊎◌, inl, inr}
use mathlib.Core.List.{List, [], ◌∷◌, ◌++◌, map}
use Prim.Native.Nat.{ℕ, ◌+◌, ◌≤◌}
use native.Mathlib.Omega.{arith}
use lib.Dec.{eqb}
use lib.ListN.{length}
use Rattle.numbers.specs.Numbers.{accepted, not_found}
use Rattle.words.specs.Keys.{ones, is_ones, key_lt}
use Rattle.words.proofs.All.{is_ones-ne}
use Rattle.words.proofs.Parts.{length_part}
use Rattle.words.proofs.Keys.{Stands, below, same, above, stands, clash, key_lt-irrefl, key_lt-asym, same_key-eq, same_key-true, same_key-refl}
use Rattle.drum.specs.declared.Description.{Description}
use Rattle.drum.proofs.Good.{good-facts}
use Rattle.layout.specs.Create.{end_record}
use Rattle.layout.specs.Tree.{Leaf, Tree, last_in, leaves_of, contents, records_in}
use Rattle.layout.specs.Holds.{All, LeavesOk, Holds}
use Rattle.layout.proofs.Good.{Good}
use Rattle.layout.proofs.Pieces.{length-end}
use Rattle.rules.specs.State.{State, Outcome, key_in}
use Rattle.rules.specs.Requests.{inserting, answer}
use Rattle.demands.specs.History.{stored}
use Rattle.demands.specs.Contents.{records_below, records_above, changed, Contains}
use Rattle.salvage.specs.Met.{Met, over, found, not_marked, met}
use Rattle.salvage.specs.Salvage.{why_not}
use Rattle.salvaged.specs.Spots.{Spot, spots, spots_of, rows_of, started, carried_of, Lent}
use Rattle.salvaged.specs.Reported.{Line, lines_by, lines_of}
use Rattle.salvaged.specs.Whole.{GoodFileWhole}
use Rattle.salvaged.proofs.Rows.{all_both}
use Rattle.salvaged.proofs.Runs.{contains}
use Rattle.salvaged.proofs.Carried.{end-key, end-ones, described}
use Rattle.salvaged.proofs.Whole.{salvage-opens}
use Rattle.salvaged.proofs.Counting.{taken, taken-append, as_many, ordinary, spots-taken}
use Rattle.salvaged.proofs.Ordered.{Above, Up, leaves-up, one-taken, same_lists}
use Rattle.salvaged.proofs.GoodFile.{contents-up, no-faults}
use Rattle.salvaged.proofs.GoodFile as good-file

-- ---- where each line is of a block passed over, all are carried

module _ (p : Description) where
  abbrev Passed : Line → Type 0
  Passed l = l.reason ≡ not_marked

  not-passed : (n : ℕ) → why_not n ≡ not_marked → ⊥
  not-passed n e = go (eqb n not_found) e
    where
      go : (c : Bool) → cond {A = ℕ} c 5 6 ≡ 1 → ⊥
      go true e = absurd (omega arith)
      go false e = absurd (omega arith)

  all-carried : (ms : List Met) (u : State) → All Passed (lines_by p u ms) → carried_of u (spots p ms) ≡ spots p ms
  unfolding lines_by spots carried_of All
  all-carried [] u a = refl
  all-carried (over b m ∷ ms) u a = all-carried ms u a.1
  all-carried (found b i r ∷ ms) u a = go (is_ones (key_in p r)) a (all-carried ms u) (all-carried ms (answer u (inserting r)).after)
    where
      s : Spot
      s = record { block = b; place = i; row = r }

      o : Outcome
      o = answer u (inserting r)

      line : Line
      line = record { block = b; place = i; reason = why_not o.number }

      by : (d : Bool) → All Passed (cond d (lines_by p o.after ms) (line ∷ lines_by p o.after ms))
          → (All Passed (lines_by p o.after ms) → carried_of o.after (spots p ms) ≡ spots p ms)
          → cond d (s ∷ carried_of o.after (spots p ms)) (carried_of o.after (spots p ms)) ≡ s ∷ spots p ms
      by true a m = ap (λ (l : List Spot). s ∷ l) (m a)
      by false a m = absurd (not-passed o.number a.0)

      go : (c : Bool) → All Passed (cond c (lines_by p u ms) (cond (accepted o.number) (lines_by p o.after ms) (line ∷ lines_by p o.after ms)))
          → (All Passed (lines_by p u ms) → carried_of u (spots p ms) ≡ spots p ms)
          → (All Passed (lines_by p o.after ms) → carried_of o.after (spots p ms) ≡ spots p ms)
          → carried_of u (cond c (spots p ms) (s ∷ spots p ms)) ≡ cond c (spots p ms) (s ∷ spots p ms)
      go true a k m = k a
      go false a k m = by (accepted o.number) a m

  only-passed : (ls : List Line) → All (λ (l : Line). (l.reason ≡ not_marked) ⊎ (l.reason ≡ 6)) ls → All (λ (l : Line). l.reason ≡ 6 → ⊥) ls → All Passed ls
  unfolding All
  only-passed [] a b = tt
  only-passed (l ∷ ls) (a, more) (b, rest) = (go a, only-passed ls more rest)
    where
      go : (l.reason ≡ not_marked) ⊎ (l.reason ≡ 6) → l.reason ≡ not_marked
      go (inl e) = e
      go (inr e) = absurd (b e)

-- ---- records put in one after the other, no key twice

module _ (p : Description) where
  abbrev with : List ℕ → List ℕ → Bool
  with = good-file.same p

  module _ (q : List ℕ → Bool) (k : List ℕ) where
    cut-taken : (rows : List (List ℕ)) → taken (with k) rows ≡ 0 → taken q (records_below p k rows) + taken q (records_above p k rows) ≡ taken q rows
    unfolding taken records_below records_above
    cut-taken [] e = refl
    cut-taken (x ∷ xs) e = go (stands (key_in p x) k) (cut-taken xs)
      where
        B : List (List ℕ)
        B = records_below p k xs

        A : List (List ℕ)
        A = records_above p k xs

        by : (lo hi : Bool) → key_lt (key_in p x) k ≡ lo → key_lt k (key_in p x) ≡ hi
            → taken q (cond lo (x ∷ B) B) + taken q (cond hi (x ∷ A) A) ≡ cond (q x) 1 0 + taken q xs
            → taken q (cond (key_lt (key_in p x) k) (x ∷ B) B) + taken q (cond (key_lt k (key_in p x)) (x ∷ A) A) ≡ cond (q x) 1 0 + taken q xs
        by lo hi a b h = (λ j. taken q (cond (a j) (x ∷ B) B) + taken q (cond (b j) (x ∷ A) A)) ∙ h

        go : Stands (key_in p x) k → (taken (with k) xs ≡ 0 → taken q B + taken q A ≡ taken q xs)
            → taken q (cond (key_lt (key_in p x) k) (x ∷ B) B) + taken q (cond (key_lt k (key_in p x)) (x ∷ A) A) ≡ cond (q x) 1 0 + taken q xs
        go (below l) h = let z = h (omega arith) in by true false l (key_lt-asym (key_in p x) k l) (omega arith)
        go (above l) h = let z = h (omega arith) in by false true (key_lt-asym k (key_in p x) l) l (omega arith)
        go (same y) h = let c : cond {A = ℕ} (with k x) 1 0 ≡ 1 = ap (λ (t : Bool). cond {A = ℕ} t 1 0) (same_key-eq (key_in p x) k y) in absurd (omega arith)

    put-taken : (r : List ℕ) (rows : List (List ℕ)) → taken (with k) rows ≡ 0
        → taken q (records_below p k rows ++ r ∷ records_above p k rows) ≡ cond (q r) 1 0 + taken q rows
    unfolding taken
    put-taken r rows e =
        let a = taken-append q (records_below p k rows) (r ∷ records_above p k rows) in
        let b = cut-taken rows e in
        omega arith

  changed-taken : (rows base : List (List ℕ)) → ((key : List ℕ) → taken (with key) rows + taken (with key) base ≤ 1) → (q : List ℕ → Bool)
      → taken q (changed p (map stored rows) base) ≡ taken q rows + taken q base
  unfolding taken changed
  changed-taken [] base h q = omega arith
  changed-taken (r ∷ rows) base h q =
      let k = key_in p r in
      let c : cond {A = ℕ} (with k r) 1 0 ≡ 1 = ap (λ (t : Bool). cond {A = ℕ} t 1 0) (same_key-refl k) in
      let none : taken (with k) base ≡ 0 = omega (arith, h k) in
      let ih = changed-taken rows (records_below p k base ++ r ∷ records_above p k base) (λ key. omega (arith, h key, put-taken (with key) k r base none)) q in
      omega (arith, ih, put-taken q k r base none)

  -- ---- the end record is the only one with its key

  abbrev Keyed : List ℕ → Type 0
  Keyed r = length (key_in p r) ≡ p.k

  leaves-keyed : p.k ≤ p.wpr → (before : List (List ℕ)) (ls : List Leaf) → LeavesOk p before ls → All Keyed (records_in ls)
  unfolding LeavesOk All
  leaves-keyed kr before [] o = tt
  leaves-keyed kr before (l ∷ ls) (o, more) =
      all_both Keyed l.records (records_in ls) (wide l.records o.widths) (leaves-keyed kr (l.bound ∷ []) ls more)
    where
      wide : (rs : List (List ℕ)) → All (λ r. length r ≡ p.wpr) rs → All Keyed rs
      wide [] a = tt
      wide (r ∷ rs) (a, more) = (length_part 0 p.k r (omega arith), wide rs more)

  last-above : (key e : List ℕ) (rows : List (List ℕ)) → 1 ≤ length rows → Above p key rows → last_in rows ≡ e → key_lt key (key_in p e) ≡ true
  unfolding All last_in
  last-above key e [] l a h = absurd (omega arith)
  last-above key e (r ∷ []) l a h = ap (λ (z : List ℕ). key_lt key (key_in p z)) (sym h) ∙ a.0
  last-above key e (r ∷ s ∷ rs) l a h = last-above key e (s ∷ rs) (omega arith) a.1 h

  ends-taken : (q : List ℕ → Bool) (rows : List (List ℕ)) → 1 ≤ length rows → All Keyed rows → Up p rows → last_in rows ≡ end_record p
      → taken q rows ≡ taken (ordinary p q) rows + taken q (end_record p ∷ [])
  unfolding All last_in Up taken
  ends-taken q [] n a u e = absurd (omega arith)
  ends-taken q (r ∷ []) n a u e =
      let is : is_ones (key_in p r) ≡ true = ap (λ (z : List ℕ). is_ones (key_in p z)) e ∙ end-ones p in
      let c : cond {A = ℕ} (ordinary p q r) 1 0 ≡ 0 = ap (λ (t : Bool). cond {A = ℕ} (cond t false (q r)) 1 0) is in
      let d : cond {A = ℕ} (q r) 1 0 ≡ cond {A = ℕ} (q (end_record p)) 1 0 = ap (λ (z : List ℕ). cond {A = ℕ} (q z) 1 0) e in
      omega arith
  ends-taken q (r ∷ s ∷ rs) n a u e =
      let l = last-above (key_in p r) (end_record p) (s ∷ rs) (omega arith) u.0 e in
      let not : is_ones (key_in p r) ≡ false = is_ones-ne p.k (key_in p r) a.0
      (λ y. clash (sym l ∙ (λ j. key_lt (y j) (end-key p j)) ∙ key_lt-irrefl (ones p.k))) in
      let c : cond {A = ℕ} (ordinary p q r) 1 0 ≡ cond {A = ℕ} (q r) 1 0 = ap (λ (t : Bool). cond {A = ℕ} (cond t false (q r)) 1 0) not in
      let ih = ends-taken q (s ∷ rs) (omega arith) a.1 u.1 e in
      omega arith

-- ---- the records

some-last : (p : Description) → Good p → (rows : List (List ℕ)) → last_in rows ≡ end_record p → 1 ≤ length rows
unfolding last_in
some-last p g [] e = let l = ap length e in absurd (omega (arith, length-end p g, g.key))
some-last p g (r ∷ rows) e = omega arith

module _ (p : Description) (copy buffer : List ℕ) (lent : Lent p copy buffer) (t : Tree) (two : p.form ≡ 2) (h : Holds p copy t) where
  sum_is : (q : List ℕ → Bool) → taken q (rows_of (spots_of p copy)) + taken q (end_record p ∷ []) ≡ taken q (contents t)
  sum_is q =
      let g = good-facts p lent.good in
      let a = spots-taken p q (met p copy) ∙ as_many p copy t lent.good two h (ordinary p q) in
      let b = ends-taken p q (contents t) (some-last p g (contents t) h.end) (leaves-keyed p g.key [] (leaves_of t) h.leaves)
      (contents-up p copy t lent.good two h) h.end in
      omega arith

  one_each : (key : List ℕ) → taken (with p key) (rows_of (spots_of p copy)) + taken (with p key) (end_record p ∷ []) ≤ 1
  one_each key =
      let one = one-taken p (with p key) key (contents t) (λ r y. same_key-true (key_in p r) key y) (contents-up p copy t lent.good two h) in
      omega (arith, sum_is (with p key), one)

  -- those carried, put in one after the other, are the copy's
  pub rows_whole : carried_of (started p buffer) (spots_of p copy) ≡ spots_of p copy
      → changed p (map stored (rows_of (carried_of (started p buffer) (spots_of p copy)))) (end_record p ∷ []) ≡ contents t
  rows_whole e =
      let c = contains p buffer lent.good lent.buffer-is (spots_of p copy) in
      let d = described p buffer lent.good lent.buffer-is (spots_of p copy) in
      let up = subst (λ (z : Description). Up z (contents c.tree)) d (leaves-up _ [] (leaves_of c.tree) c.held.leaves) in
      same_lists p _ (contents t) (subst (Up p) c.are up) (contents-up p copy t lent.good two h)
      (λ q. ap (λ (l : List Spot). taken q (changed p (map stored (rows_of l)) (end_record p ∷ []))) e
      ∙ changed-taken p (rows_of (spots_of p copy)) (end_record p ∷ []) one_each q ∙ sum_is q)

pub good-file-whole : GoodFileWhole
good-file-whole p copy fresh buffer report lent done t two h none session b work marks d o lb lm =
    let a = only-passed p (lines_of p copy buffer) (no-faults p copy buffer t lent two h) none in
    let e = rows_whole p copy buffer lent t two h (all-carried p (met p copy) (started p buffer) a) in
    let k = salvage-opens p copy fresh buffer report lent done session b work marks d o lb lm in
    (k.0, subst (Contains _) e k.1)
