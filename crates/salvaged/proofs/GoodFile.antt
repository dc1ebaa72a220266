-- Salvage of a copy that is well-formed in the second form.
use mathlib.Core.Path.{◌≡◌, refl, sym, ap, ◌∙◌, subst}
use mathlib.Core.Bool.{Bool, true, false, cond}
use mathlib.Core.Logic.{◌⊎◌, inl, inr}
use mathlib.Core.List.{List, [], ◌∷◌, ◌++◌, append_assoc}
use Prim.Native.Nat.{ℕ, zero, suc, ◌+◌, ◌≤◌}
use native.Mathlib.Omega.{arith}
use borrow.Author.Tests.{eq-eqb}
use lib.Dec.{eqb}
use Rattle.numbers.specs.Numbers.{accepted}
use Rattle.words.specs.Keys.{is_ones, same_key}
use Rattle.words.proofs.Keys.{clash, same_key-true, same_key-refl}
use Rattle.drum.specs.declared.Description.{Description}
use Rattle.drum.specs.Params.{good_params}
use Rattle.drum.specs.Blocks.{block_at}
use Rattle.layout.specs.Tree.{Tree, leaves_of, contents}
use Rattle.layout.specs.Holds.{All, Holds}
use Rattle.rules.specs.State.{State, Outcome, key_in}
use Rattle.rules.specs.Requests.{inserting, answer, left}
use Rattle.demands.specs.History.{with_key}
use Rattle.demands.specs.Answers.{Inserted}
use Rattle.salvage.specs.Met.{Met, over, found, records_in, missed, not_marked, places, met_in, met_from, met}
use Rattle.salvage.specs.Salvage.{why_not}
use Rattle.salvaged.specs.Spots.{Spot, spots, spots_of, rows_of, inserts, started, tried_after, Lent}
use Rattle.salvaged.specs.Reported.{Line, lines_by}
use Rattle.salvaged.specs.Whole.{NoFaults}
use Rattle.salvaged.proofs.Rows.{Fit, all_fit, all_both, rows_append}
use Rattle.salvaged.proofs.Runs.{left-more}
use Rattle.salvaged.proofs.Carried.{inserted-after}
use Rattle.salvaged.proofs.Kept.{none-carried}
use Rattle.salvaged.proofs.GoodBlocks.{Either, detail, other, block-either}
use Rattle.salvaged.proofs.Counting.{taken, taken-append, as_many, ordinary, spots-taken}
use Rattle.salvaged.proofs.Ordered.{Up, leaves-up, one-taken}

-- ---- no key twice

module _ (p : Description) where
  abbrev pub same : List ℕ → List ℕ → Bool
  same key r = same_key (key_in p r) key

  none-with : (key : List ℕ) (rs : List (List ℕ)) → taken (same key) rs ≡ 0 → with_key p key rs ≡ []
  unfolding taken with_key
  none-with key [] e = refl
  none-with key (r ∷ rs) e = go (same key r) e (none-with key rs)
    where
      go : (c : Bool) → cond c 1 0 + taken (same key) rs ≡ 0 → (taken (same key) rs ≡ 0 → with_key p key rs ≡ [])
          → cond c (r ∷ with_key p key rs) (with_key p key rs) ≡ []
      go true e f = absurd (omega arith)
      go false e f = f (omega arith)

  -- of each that comes, none with its key came before it
  unfoldable Alone : List Spot → List Spot → Type 0
  Alone xs [] = Unit {0}
  Alone xs (s ∷ ss) = (with_key p (key_in p s.row) (rows_of xs) ≡ []) × Alone (xs ++ s ∷ []) ss

  alone : (ss xs : List Spot) → ((key : List ℕ) → taken (same key) (rows_of (xs ++ ss)) ≤ 1) → Alone xs ss
  unfolding Alone taken
  alone [] xs h = tt
  alone (s ∷ ss) xs h =
      let key = key_in p s.row in
      let e : taken (same key) (rows_of (xs ++ s ∷ ss)) ≡ taken (same key) (rows_of xs) + (1 + taken (same key) (rows_of ss))
      = ap (taken (same key)) (rows_append xs (s ∷ ss)) ∙ taken-append (same key) (rows_of xs) (rows_of (s ∷ ss))
      ∙ ap (λ (c : Bool). taken (same key) (rows_of xs) + (cond c 1 0 + taken (same key) (rows_of ss))) (same_key-refl key) in (
        none-with key (rows_of xs) (omega (arith, e, h key)),
        alone ss (xs ++ s ∷ []) (λ k. subst (λ (l : List Spot). taken (same k) (rows_of l) ≤ 1) (sym (append_assoc xs (s ∷ []) ss)) (h k)),
      )

module _ (p : Description) (copy : List ℕ) (t : Tree) (good : good_params p ≡ true) (two : p.form ≡ 2) (h : Holds p copy t) where
  pub contents-up : Up p (contents t)
  contents-up = leaves-up p [] (leaves_of t) h.leaves

  pub one_key : (key : List ℕ) → taken (same p key) (rows_of (spots_of p copy)) ≤ 1
  one_key key =
      let e = spots-taken p (same p key) (met p copy) ∙ as_many p copy t good two h (ordinary p (same p key)) in
      let l = one-taken p (ordinary p (same p key)) key (contents t) (λ r y. go (is_ones (key_in p r)) r y) contents-up in
      omega arith
    where
      go : (c : Bool) (r : List ℕ) → cond c false (same p key r) ≡ true → key_in p r ≡ key
      go true r y = absurd (clash (sym y))
      go false r y = same_key-true (key_in p r) key y

  -- ---- the blocks passed over

  abbrev Passed : Met → Type 0
  Passed (over b m) = m ≡ not_marked
  Passed (found b i r) = Unit {0}

  places-passed : (b i : ℕ) (rs : List (List ℕ)) → All Passed (places b i rs)
  unfolding All places
  places-passed b i [] = tt
  places-passed b i (r ∷ rs) = (tt, places-passed b (i + 1) rs)

  block-passed : (b : ℕ) → Either p copy t good two h b → All Passed (met_in p b (block_at p copy b))
  unfolding met_in All
  block-passed b (detail one m) =
      subst (λ (c : Bool). All Passed (cond c (places b 1 (records_in p (block_at p copy b))) (over b (missed p (block_at p copy b)) ∷ []))) (sym (eq-eqb _ 0 m))
      (places-passed b 1 (records_in p (block_at p copy b)))
  block-passed b (other none m) = go (eqb (missed p (block_at p copy b)) 0)
    where
      go : (c : Bool) → All Passed (cond c (places b 1 (records_in p (block_at p copy b))) (over b (missed p (block_at p copy b)) ∷ []))
      go true = places-passed b 1 (records_in p (block_at p copy b))
      go false = (m, tt)

  met-passed : (n b : ℕ) → 1 ≤ b → b + n ≤ p.n + 1 → All Passed (met_from p copy b n)
  unfolding met_from All
  met-passed zero b l m = tt
  met-passed (suc n) b l m =
      all_both Passed (met_in p b (block_at p copy b)) (met_from p copy (b + 1) n) (block-passed b (block-either p copy t good two h b (l, omega arith)))
      (met-passed n (b + 1) (omega arith) (omega arith))

-- ---- the lines

abbrev Fine : Line → Type 0
Fine l = (l.reason ≡ not_marked) ⊎ (l.reason ≡ 6)

-- after an NSERT that is accepted or lacks room
fine_more : (b i n : ℕ) (ls : List Line) → (accepted n ≡ true) ⊎ (why_not n ≡ 6) → All Fine ls
    → All Fine (cond (accepted n) ls (record { block = b; place = i; reason = why_not n } ∷ ls))
unfolding All
fine_more b i n ls (inl e) a = subst (λ (c : Bool). All Fine (cond c ls (record { block = b; place = i; reason = why_not n } ∷ ls))) (sym e) a
fine_more b i n ls (inr e) a = go (accepted n)
  where
    go : (c : Bool) → All Fine (cond c ls (record { block = b; place = i; reason = why_not n } ∷ ls))
    go true = a
    go false = (inr e, a)

module _ (p : Description) (copy : List ℕ) (buffer : List ℕ) (t : Tree) (lent : Lent p copy buffer) (two : p.form ≡ 2) (h : Holds p copy t) where
  abbrev st : State
  st = started p buffer

  -- where none with its key came before, NSERT is accepted or lacks room
  first-put : (xs : List Spot) (s : Spot) → Fit p s → with_key p (key_in p s.row) (rows_of xs) ≡ []
      → let n = (answer (left st (inserts xs)) (inserting s.row)).number in
      (accepted n ≡ true) ⊎ (why_not n ≡ 6)
  unfolding tried_after
  first-put xs s f none =
      go (subst (λ (l : List (List ℕ)). Inserted l (tried_after st xs s)) (none-carried p (key_in p s.row) xs st none)
      (inserted-after p buffer lent.good lent.buffer-is xs s f))
    where
      go : Inserted [] (tried_after st xs s) → let n = (answer (left st (inserts xs)) (inserting s.row)).number in (accepted n ≡ true) ⊎ (why_not n ≡ 6)
      go (inl e) = inl (ap accepted e)
      go (inr (inl e)) = inl (ap accepted e)
      go (inr (inr e)) = inr (ap why_not e)

  lines-fine : (ms : List Met) (xs : List Spot) → All (Passed p copy t lent.good two h) ms → Alone p xs (spots p ms) → All (Fit p) (spots p ms)
      → All Fine (lines_by p (left st (inserts xs)) ms)
  unfolding lines_by spots All Alone left
  lines-fine [] xs o a f = tt
  lines-fine (over b m ∷ ms) xs (o, more) a f = (inl o, lines-fine ms xs more a f)
  lines-fine (found b i r ∷ ms) xs (tell, more) a f =
      go (is_ones (key_in p r)) a f (lines-fine ms xs more) (lines-fine ms (xs ++ record { block = b; place = i; row = r } ∷ []) more)
    where
      s : Spot
      s = record { block = b; place = i; row = r }

      o : Outcome
      o = answer (left st (inserts xs)) (inserting r)

      after_is : left st (inserts (xs ++ s ∷ [])) ≡ o.after
      after_is = left-more xs (s ∷ []) st

      go : (c : Bool) → Alone p xs (cond c (spots p ms) (s ∷ spots p ms)) → All (Fit p) (cond c (spots p ms) (s ∷ spots p ms))
          → (Alone p xs (spots p ms) → All (Fit p) (spots p ms) → All Fine (lines_by p (left st (inserts xs)) ms))
          → (Alone p (xs ++ s ∷ []) (spots p ms) → All (Fit p) (spots p ms) → All Fine (lines_by p (left st (inserts (xs ++ s ∷ []))) ms))
          → All Fine (cond c (lines_by p (left st (inserts xs)) ms)
          (cond (accepted o.number) (lines_by p o.after ms) (record { block = b; place = i; reason = why_not o.number } ∷ lines_by p o.after ms)))
      go true a f k m = k a f
      go false a f k m =
          fine_more b i o.number (lines_by p o.after ms) (first-put xs s f.0 a.0)
          (subst (λ (u : State). All Fine (lines_by p u ms)) after_is (m a.1 f.1))

pub no-faults : NoFaults
unfolding left
no-faults p copy buffer t lent two h =
    lines-fine p copy buffer t lent two h (met p copy) [] (met-passed p copy t lent.good two h p.n 1 (omega arith) (omega arith))
    (alone p (spots_of p copy) [] (one_key p copy t lent.good two h)) (all_fit p copy buffer lent)
