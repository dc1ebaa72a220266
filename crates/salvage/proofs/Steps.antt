-- What one thing that is met does, as the code does it; and how much a walk can grow.
use mathlib.Core.Path.{◌≡◌, refl, sym, ap, ◌∙◌}
use mathlib.Core.Bool.{Bool, true, false, cond}
use mathlib.Core.List.{List, [], ◌∷◌, ◌++◌}
use Prim.Native.Nat.{ℕ, ◌+◌, ◌*◌, ◌≤◌}
use native.Mathlib.Omega.{arith}
use mir.Syntax.{w64}
use mir.Val.{Fits}
use borrow.Author.Tests.{eq-eqb, ne_eqb}
use lib.ListN.{length}
use Rattle.numbers.specs.Numbers.{accepted, not_found}
use Rattle.words.specs.Words.{part, put, all_are}
use Rattle.words.specs.Keys.{is_ones}
use Rattle.rules.specs.State.{Outcome, key_in, lent}
use Rattle.rules.specs.NsertDone.{nsert}
use Rattle.rules.specs.Requests.{inserting, lending, answer}
use Rattle.searchfile.specs.Answers.{Answer}
use Rattle.searchfile.specs.Promise.{Counted, given, counted, answered}
use Rattle.demands.proofs.Costs.{few-transfers}
use Rattle.demands.proofs.Came.{same-parameters}
use Rattle.salvage.specs.declared.Going.{Going}
use Rattle.salvage.specs.Met.{Met, over, found}
use Rattle.salvage.specs.Salvage.{Walk, lined, why_not, after, tried, settled, step, run}
use Rattle.salvage.specs.Promise.{walking, Told, tells, inserted, Spare}

-- one line more, with the words that the code writes
pub line-is : (g : Going) (f d x y : List ℕ) (b i r : ℕ) (h : Going) → h ≡ record { session = g.session; lines = g.lines + 1; transfers = g.transfers }
    → y ≡ put x (3 * g.lines) (b ∷ i ∷ r ∷ []) → walking h f d y ≡ lined b i r (walking g f d x)
unfolding lined
line-is g f d x y b i r h e q = λ j. walking (e j) f d (q j)

-- the reason of a record not carried
pub why-second : (n : ℕ) → n ≡ not_found → 5 ≡ why_not n
why-second n h = sym (ap (λ (c : Bool). cond c 5 6) (eq-eqb n not_found h))

pub why-room : (n : ℕ) → (n ≡ not_found → ⊥) → 6 ≡ why_not n
why-room n h = sym (ap (λ (c : Bool). cond c 5 6) (ne_eqb n not_found h))

-- an NSERT: a is its answer, f' and d' what it leaves; it makes at most 16 transfers, so the sum fits
module _ (g : Going) (f d r : List ℕ) (a : Answer) (f' d' : List ℕ) (e : answered a f' d' r ≡ counted (nsert (given g.session f d r))) where
  few : a.transfers ≤ 16
  unfolding answer lending
  few =
      let n : a.transfers ≡ length (nsert (given g.session f d r)).transfers = ap (λ (c : Counted). c.transfers) e in
      rw n (few-transfers (given g.session f d []) (inserting r))

  pub sum_fits : g.transfers + 16 ≤ 1099511627776 → Fits w64 (g.transfers + a.transfers)
  sum_fits s = omega (arith, few)

  pub insert-told : tells a.number (walking (record { session = a.session; lines = g.lines; transfers = g.transfers + a.transfers }) f' d' [])
      ≡ inserted r (walking g f d [])
  unfolding after tried
  insert-told = λ j. tells (e j).number (record {
    session = (e j).after.session;
    file = (e j).after.file;
    buffer = (e j).after.buffer;
    report = [];
    lines = g.lines;
    transfers = g.transfers + (e j).transfers;
  })

-- a line where it is not accepted: ok is the code's test
module _ (g : Going) (n b i : ℕ) (x : List ℕ) (ok : Bool) (is : ok ≡ accepted n) where
  pub settle-none : ok ≡ true → walking g [] [] x ≡ settled n b i (walking g [] [] x)
  unfolding settled
  settle-none h = sym (ap (λ (c : Bool). cond c (walking g [] [] x) (lined b i (why_not n) (walking g [] [] x))) (sym is ∙ h))

  pub settle-line : (y : List ℕ) (why : ℕ) (h : Going) → h ≡ record { session = g.session; lines = g.lines + 1; transfers = g.transfers }
      → y ≡ put x (3 * g.lines) (b ∷ i ∷ why ∷ []) → why ≡ why_not n → ok ≡ false → walking h [] [] y ≡ settled n b i (walking g [] [] x)
  unfolding settled
  settle-line y why h eh ey q z =
      line-is g [] [] x y b i why h eh ey
      ∙ ap (λ (m : ℕ). lined b i m (walking g [] [] x)) q
      ∙ sym (ap (λ (c : Bool). cond c (walking g [] [] x) (lined b i (why_not n) (walking g [] [] x))) (sym is ∙ z))

-- a walk on other words
abbrev on : List ℕ → List ℕ → List ℕ → Walk → Walk
on f d x w = record { session = w.session; file = f; buffer = d; report = x; lines = w.lines; transfers = w.transfers }

settled_on : (n b i : ℕ) (f d : List ℕ) (w : Walk) → on f d (settled n b i w).report (settled n b i w) ≡ settled n b i (on f d w.report w)
unfolding settled lined
settled_on n b i f d w = go (accepted n)
  where
    go : (c : Bool) → let v = cond c w (lined b i (why_not n) w) in
        on f d v.report v ≡ cond c (on f d w.report w) (lined b i (why_not n) (on f d w.report w))
    go true = refl
    go false = refl

-- the record with key ONES is left
module _ (g : Going) (f d x : List ℕ) (b i : ℕ) (r : List ℕ) (t : Bool) (ones : t ≡ all_are 262143 (part 0 g.session.desc.k r)) where
  abbrev before : Walk
  before = walking g f d x

  by_ones : Bool → Walk
  by_ones c = cond c before (settled (tried r before).number b i (after (tried r before) before))

  pub one_left : t ≡ true → before ≡ step before (found b i r)
  unfolding step is_ones by_ones
  one_left h = sym (ap by_ones (sym ones ∙ h))

  -- any other is put in
  pub one-done : (n : ℕ) (v h : Going) (f' d' y : List ℕ) → tells n (walking v f' d' []) ≡ inserted r (walking g f d [])
      → walking h [] [] y ≡ settled n b i (walking v [] [] x) → t ≡ false → walking h f' d' y ≡ step before (found b i r)
  unfolding step is_ones by_ones after tried
  one-done n v h f' d' y e s z =
      ap (λ (w : Walk). on f' d' w.report w) s
      ∙ settled_on n b i f' d' (walking v [] [] x)
      ∙ (λ j. settled (e j).number b i (on (e j).after.file (e j).after.buffer x (e j).after))
      ∙ sym (ap by_ones (sym ones ∙ z))

-- what settling asks
pub line_after : (n : ℕ) (g v : Going) (f d r f' d' : List ℕ) (k : ℕ) → tells n (walking v f' d' []) ≡ inserted r (walking g f d []) → Spare g 1 k
    → 3 * (v.lines + 1) ≤ k
unfolding after
line_after n g v f d r f' d' k e s =
    let l : v.lines ≡ g.lines = ap (λ (z : Told). z.after.lines) e in
    let m = s.lines in
    omega arith

pub spare-sum : (g : Going) (k : ℕ) → Spare g 1 k → g.transfers + 16 ≤ 1099511627776
spare-sum g k s = let m = s.transfers in omega arith

-- ---- how much a walk grows

-- what one step changes: at most one line and 16 transfers more, and the parameters stay
pub record Grown (w v : Walk) (k : ℕ) : Type 0 where
  pub lines : v.lines ≤ w.lines + k
  pub transfers : v.transfers ≤ w.transfers + 16 * k
  pub desc : v.session.desc ≡ w.session.desc

lined-grown : (b i r : ℕ) (w v : Walk) → Grown w v 0 → Grown w (lined b i r v) 1
unfolding lined
lined-grown b i r w v g = let l = g.lines in let t = g.transfers in record { lines = omega arith; transfers = omega arith; desc = g.desc }

after-grown : (r : List ℕ) (w : Walk) → (length (tried r w).transfers ≤ 16) × ((after (tried r w) w).session.desc ≡ w.session.desc)
unfolding after tried answer lending
after-grown r w =
    (few-transfers (lent w.session w.file w.buffer []) (inserting r), same-parameters (lent w.session w.file w.buffer []) (inserting r))

pub step-grown : (w : Walk) (m : Met) → Grown w (step w m) 1
unfolding step settled after lined
step-grown w (over b r) = record { lines = omega arith; transfers = omega arith; desc = refl }
step-grown w (found b i r) = go (is_ones (key_in w.session.desc r))
  where
    o : Outcome
    o = tried r w

    by : (c : Bool) → Grown w (cond c (after o w) (lined b i (why_not o.number) (after o w))) 1
    by true = let g = after-grown r w in record { lines = omega arith; transfers = omega (arith, g.0); desc = g.1 }
    by false = let g = after-grown r w in record { lines = omega arith; transfers = omega (arith, g.0); desc = g.1 }

    go : (c : Bool) → Grown w (cond c w (settled o.number b i (after o w))) 1
    go true = record { lines = omega arith; transfers = omega arith; desc = refl }
    go false = by (accepted o.number)

pub run-grown : (ms : List Met) (w : Walk) → Grown w (run w ms) (length ms)
unfolding run
run-grown [] w = record { lines = omega arith; transfers = omega arith; desc = refl }
run-grown (m ∷ ms) w =
    let a = step-grown w m in
    let b = run-grown ms (step w m) in
    let l = a.lines in
    let k = b.lines in
    let t = a.transfers in
    let s = b.transfers in
    record { lines = omega arith; transfers = omega arith; desc = b.desc ∙ a.desc }

pub run_more : (ms ns : List Met) (w : Walk) → run w (ms ++ ns) ≡ run (run w ms) ns
unfolding run
run_more [] ns w = refl
run_more (m ∷ ms) ns w = run_more ms ns (step w m)

-- after k of them there is room for the others
module _ (g h : Going) (f d x f' d' x' : List ℕ) (ms : List Met) (e : walking h f' d' x' ≡ run (walking g f d x) ms) where
  pub spare-after : (k j n : ℕ) → length ms ≤ k → Spare g (k + j) n → Spare h j n
  spare-after k j n few s =
      let a = run-grown ms (walking g f d x) in
      let l : h.lines ≡ (run (walking g f d x) ms).lines = ap (λ (w : Walk). w.lines) e in
      let t : h.transfers ≡ (run (walking g f d x) ms).transfers = ap (λ (w : Walk). w.transfers) e in
      let al = a.lines in
      let at = a.transfers in
      let sl = s.lines in
      let st = s.transfers in
      record { lines = omega arith; transfers = omega arith }

  pub desc-after : h.session.desc ≡ g.session.desc
  desc-after = ap (λ (w : Walk). w.session.desc) e ∙ (run-grown ms (walking g f d x)).desc
