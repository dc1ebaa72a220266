-- The call as a run of NSERTs from a CREATE and an OPEN, which `demands` speaks of; and what a walk has become is what that run leaves.
use mathlib.Core.Path.{◌≡◌, refl, sym, ap, ◌∙◌, subst}
use mathlib.Core.Bool.{Bool, true, false, cond}
use mathlib.Core.List.{List, [], ◌∷◌, ◌++◌, map}
use Prim.Native.Nat.{ℕ, ◌+◌}
use native.Mathlib.Omega.{arith}
use borrow.Author.Tests.{eq-eqb}
use lib.ListN.{length, length-replicate}
use Rattle.numbers.specs.Numbers.{done, wrong_size, accepted}
use Rattle.words.specs.Words.{zeros}
use Rattle.words.specs.Keys.{is_ones}
use Rattle.words.proofs.All.{both-and}
use Rattle.drum.specs.declared.Description.{Description}
use Rattle.drum.specs.Params.{good_params, file_size}
use Rattle.layout.specs.Create.{created, end_record}
use Rattle.layout.specs.Tree.{contents, fresh_tree, fresh_section, fresh_leaf}
use Rattle.layout.specs.Holds.{Holds}
use Rattle.layout.proofs.Made.{created-length, created-marks}
use Rattle.layout.proofs.Unique.{one-tree}
use Rattle.rules.specs.State.{Session, State, desc, key_in, lent, at_rest}
use Rattle.rules.specs.Open.{Created, Opened, create, open_layout, open_file}
use Rattle.rules.specs.NsertDone.{nsert}
use Rattle.rules.specs.Requests.{Request, inserting, lending, answer, left, tally}
use Rattle.demands.specs.Promises.{AfterOpen}
use Rattle.demands.specs.History.{Event, stored, event_of, events}
use Rattle.demands.specs.Contents.{changed, Contains}
use Rattle.demands.specs.Formula.{AfterCreate, all_transfers}
use Rattle.demands.proofs.Opens.{open-tests}
use Rattle.demands.proofs.Made.{made-opens}
use Rattle.demands.proofs.Whole.{run-contents}
use Rattle.demands.proofs.Came.{Stays, settled-stays}
use Rattle.salvage.specs.Met.{Met, over, found}
use Rattle.salvage.specs.Salvage.{Walk, lined, why_not, after, tried, settled, step, run, begun}
use Rattle.salvage.proofs.Steps.{step-grown}
use Rattle.salvaged.specs.Spots.{Spot, spots, rows_of, inserts, started, carried_of}

-- ---- NSERTs leave the parameters and the open session

nsert-stays : (st : State) (r : List ℕ) → Stays st.session (answer st (inserting r)).after.session
unfolding answer lending nsert
nsert-stays st r = settled-stays (lending r st) _

pub left-stays : (xs : List Spot) (st : State) → Stays st.session (left st (inserts xs)).session
unfolding left
left-stays [] st = record { described = refl; opened = refl }
left-stays (x ∷ xs) st =
    let a = nsert-stays st x.row in
    let b = left-stays xs (answer st (inserting x.row)).after in
    record { described = b.described ∙ a.described; opened = b.opened ∙ a.opened }

pub left-more : (xs ys : List Spot) (st : State) → left st (inserts (xs ++ ys)) ≡ left (left st (inserts xs)) (inserts ys)
unfolding left
left-more [] ys st = refl
left-more (x ∷ xs) ys st = left-more xs ys (answer st (inserting x.row)).after

pub carried-more : (xs ys : List Spot) (st : State) → carried_of st (xs ++ ys) ≡ carried_of st xs ++ carried_of (left st (inserts xs)) ys
unfolding carried_of left
carried-more [] ys st = refl
carried-more (x ∷ xs) ys st = go (accepted (answer st (inserting x.row)).number) (carried-more xs ys (answer st (inserting x.row)).after)
  where
    go : (c : Bool) → let u = (answer st (inserting x.row)).after in
        carried_of u (xs ++ ys) ≡ carried_of u xs ++ carried_of (left u (inserts xs)) ys
        → cond c (x ∷ carried_of u (xs ++ ys)) (carried_of u (xs ++ ys)) ≡ cond c (x ∷ carried_of u xs) (carried_of u xs) ++ carried_of (left u (inserts xs)) ys
    go true e = ap (λ (l : List Spot). x ∷ l) e
    go false e = e

events-carried : (xs : List Spot) (st : State) → events st (inserts xs) ≡ map stored (rows_of (carried_of st xs))
unfolding events event_of carried_of
events-carried [] st = refl
events-carried (x ∷ xs) st = go (accepted (answer st (inserting x.row)).number) (events-carried xs (answer st (inserting x.row)).after)
  where
    go : (c : Bool) → let u = (answer st (inserting x.row)).after in
        events u (inserts xs) ≡ map stored (rows_of (carried_of u xs))
        → cond c (stored x.row ∷ []) [] ++ events u (inserts xs) ≡ map stored (rows_of (cond c (x ∷ carried_of u xs) (carried_of u xs)))
    go true e = ap (λ (l : List Event). stored x.row ∷ l) e
    go false e = e

-- ---- from CREATE and OPEN

module _ (p : Description) (buffer : List ℕ) (good : good_params p ≡ true) (long : length buffer ≡ p.wpb) where
  abbrev closed : Session
  closed = record { desc = p; opened = false; current = 0; flag = false; placed = false; position = zeros 63 }

  abbrev file : List ℕ
  file = (create p (created p)).file

  abbrev made : State
  made = lent closed file buffer []

  abbrev marks : List ℕ
  marks = zeros p.n

  opening : ((create p (created p)).number ≡ done)
      × ((open_file made marks).outcome.number ≡ done)
      × Holds p file (fresh_tree p)
  opening =
      let o = made-opens closed (created p) buffer [] marks good (created-length p good) long (length-replicate {A = ℕ} p.n 0) refl in
      (o.0, o.1, o.3)

  file-is : file ≡ created p
  unfolding create
  file-is =
      ap (λ (c : Bool). (cond {A = Created} c (record { number = done; file = created p }) (record { number = wrong_size; file = created p })).file)
      (both-and (good_params p) _ good (eq-eqb (length (created p)) (file_size p) (created-length p good)))

  -- what OPEN leaves
  opened-is : (open_file made marks).outcome.after ≡ started p buffer
  unfolding open_layout at_rest started begun
  opened-is =
      ap (λ (o : Opened). o.outcome.after)
      (ap (λ (f : List ℕ). open_file (lent closed f buffer []) marks) file-is
      ∙ open-tests (lent closed (created p) buffer []) marks good (created-length p good) long (length-replicate {A = ℕ} p.n 0) refl
      ∙ ap (open_layout (lent closed (created p) buffer [])) (created-marks p good))

  pub from-open : (P : State → Type 0) → AfterOpen P → (qs : List Request) → P (left (started p buffer) qs)
  from-open P h qs = subst (λ (st : State). P (left st qs)) opened-is (h made marks opening.1 qs)

  pub from-create : (P : State → List Request → Type 0) → AfterCreate P → (qs : List Request) → P (started p buffer) qs
  from-create P h qs = subst (λ (st : State). P st qs) opened-is (h closed (created p) buffer [] marks opening.0 opening.1 qs)

  -- the records after any NSERTs
  pub contains : (xs : List Spot)
      → Contains (left (started p buffer) (inserts xs)) (changed p (map stored (rows_of (carried_of (started p buffer) xs))) (end_record p ∷ []))
  unfolding fresh_tree fresh_section fresh_leaf
  contains xs =
      let (t, there, runs) = run-contents made marks opening.1 in
      let same : contents t ≡ end_record p ∷ [] = ap contents (one-tree p file t (fresh_tree p) good there opening.2) in
      let now : Contains (left (started p buffer) (inserts xs)) (changed p (events (started p buffer) (inserts xs)) (contents t))
      = subst (λ (st : State). Contains (left st (inserts xs)) (changed p (events st (inserts xs)) (contents t))) opened-is (runs (inserts xs)) in
      subst (Contains (left (started p buffer) (inserts xs))) (λ j. changed p (events-carried xs (started p buffer) j) (same j)) now

-- ---- the walk

abbrev pub state_of : Walk → State
state_of w = lent w.session w.file w.buffer []

-- no NSERT looks at the workspace that the one before left
left-lent : (xs : List Spot) (st : State) → lending [] (left (lending [] st) (inserts xs)) ≡ lending [] (left st (inserts xs))
unfolding left lending answer
left-lent [] st = refl
left-lent (x ∷ xs) st = refl

-- what a walk leaves and costs is what its NSERTs leave and cost
pub record Ran (p : Description) (w v : Walk) (ms : List Met) : Type 0 where
  pub state : state_of v ≡ lending [] (left (state_of w) (inserts (spots p ms)))
  pub transfers : v.transfers ≡ w.transfers + all_transfers (state_of w) (inserts (spots p ms))

cost-lent : (xs : List Spot) (st : State) → all_transfers (lending [] st) (inserts xs) ≡ all_transfers st (inserts xs)
unfolding all_transfers tally lending answer
cost-lent [] st = refl
cost-lent (x ∷ xs) st = refl

-- a step changes nothing of it but by its NSERT
settled-state : (n b i : ℕ) (v : Walk) → (state_of (settled n b i v) ≡ state_of v) × ((settled n b i v).transfers ≡ v.transfers)
unfolding settled lined
settled-state n b i v = go (accepted n)
  where
    go : (c : Bool) → let u = cond c v (lined b i (why_not n) v) in (state_of u ≡ state_of v) × (u.transfers ≡ v.transfers)
    go true = (refl, refl)
    go false = (refl, refl)

module _ (w : Walk) (b i : ℕ) (r : List ℕ) where
  by_ones : Bool → Walk
  by_ones c = cond c w (settled (tried r w).number b i (after (tried r w) w))

  pub found_left : is_ones (key_in w.session.desc r) ≡ true → step w (found b i r) ≡ w
  unfolding step by_ones
  found_left h = ap by_ones h

  pub found-tried : is_ones (key_in w.session.desc r) ≡ false → step w (found b i r) ≡ settled (tried r w).number b i (after (tried r w) w)
  unfolding step by_ones
  found-tried h = ap by_ones h

  tried-state : is_ones (key_in w.session.desc r) ≡ false
      → (state_of (step w (found b i r)) ≡ lending [] (answer (state_of w) (inserting r)).after)
      × ((step w (found b i r)).transfers ≡ w.transfers + length (answer (state_of w) (inserting r)).transfers)
  unfolding after tried answer lending
  tried-state h =
      let s = settled-state (tried r w).number b i (after (tried r w) w) in
      (ap state_of (found-tried h) ∙ s.0, ap (λ (v : Walk). v.transfers) (found-tried h) ∙ s.1)

-- the spots from a record on
abbrev some : Description → ℕ → ℕ → List ℕ → List Met → Bool → List Spot
some p b i r ms c = cond c (spots p ms) (record { block = b; place = i; row = r } ∷ spots p ms)

found-ran : (p : Description) (b i : ℕ) (r : List ℕ) (ms : List Met) (w : Walk) → w.session.desc ≡ p → (c : Bool) → is_ones (key_in p r) ≡ c
    → Ran p (step w (found b i r)) (run (step w (found b i r)) ms) ms → Ran p w (run (step w (found b i r)) ms) (found b i r ∷ ms)
unfolding spots left all_transfers tally
found-ran p b i r ms w e true h k =
    let is = found_left w b i r (ap (λ (q : Description). is_ones (key_in q r)) e ∙ h) in
    let ys = ap (some p b i r ms) (sym h) in
    record {
      state = k.state ∙ λ j. lending [] (left (state_of (is j)) (inserts (ys j)));
      transfers = k.transfers ∙ λ j. (is j).transfers + all_transfers (state_of (is j)) (inserts (ys j));
    }
found-ran p b i r ms w e false h k =
    let is = tried-state w b i r (ap (λ (q : Description). is_ones (key_in q r)) e ∙ h) in
    let ys = ap (some p b i r ms) (sym h) in
    let u = (answer (state_of w) (inserting r)).after in
    let cost : (step w (found b i r)).transfers + all_transfers (state_of (step w (found b i r))) (inserts (spots p ms))
    ≡ w.transfers + (length (answer (state_of w) (inserting r)).transfers + all_transfers u (inserts (spots p ms)))
    = omega (arith, is.1, ap (λ (x : State). all_transfers x (inserts (spots p ms))) is.0 ∙ cost-lent (spots p ms) u) in
    record {
      state = k.state ∙ ap (λ (x : State). lending [] (left x (inserts (spots p ms)))) is.0 ∙ left-lent (spots p ms) u
          ∙ ap (λ (zs : List Spot). lending [] (left (state_of w) (inserts zs))) ys;
      transfers = k.transfers ∙ cost ∙ ap (λ (zs : List Spot). w.transfers + all_transfers (state_of w) (inserts zs)) ys;
    }

lined-desc : (b m : ℕ) (w : Walk) → (lined b 0 m w).session.desc ≡ w.session.desc
unfolding lined
lined-desc b m w = refl

over-ran : (p : Description) (b m : ℕ) (ms : List Met) (w : Walk) → Ran p (lined b 0 m w) (run (lined b 0 m w) ms) ms → Ran p w (run (lined b 0 m w) ms) (over b m ∷ ms)
unfolding lined spots
over-ran p b m ms w k = record { state = k.state; transfers = k.transfers }

pub ran : (p : Description) (ms : List Met) (w : Walk) → w.session.desc ≡ p → Ran p w (run w ms) ms
unfolding run step
ran p [] w e = unfold spots left lending all_transfers tally in record { state = refl; transfers = omega arith }
ran p (over b m ∷ ms) w e = over-ran p b m ms w (ran p ms (lined b 0 m w) (lined-desc b m w ∙ e))
ran p (found b i r ∷ ms) w e =
    found-ran p b i r ms w e (is_ones (key_in p r)) refl (ran p ms (step w (found b i r)) ((step-grown w (found b i r)).desc ∙ e))
