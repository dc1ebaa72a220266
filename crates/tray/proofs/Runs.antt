-- A run with trays is a run of single calls: it leaves the same session, file and buffer, and what is counted of it is the same.
use Prim.Native.Nat.{ℕ, suc, ◌+◌, ◌*◌}
use mathlib.Core.Path.{◌≡◌, refl, sym, ap, ◌∙◌}
use mathlib.Core.Bool.{Bool, true, false, cond}
use mathlib.Core.List.{List, [], ◌∷◌, ◌++◌, map, append-nil}
use native.Mathlib.Omega.{arith}
use lib.ListN.{length, length-append, take}
use Rattle.numbers.specs.Numbers.{done, accepted}
use Rattle.numbers.specs.Checked.{Checked, passed, refused}
use Rattle.rules.specs.State.{State, Outcome, desc}
use Rattle.rules.specs.Requests.{Request, inserting, lending, answer, left, tally}
use Rattle.demands.specs.Formula.{accepted_by, of_nsert, of_xtend, share, M, all_transfers, shares}
use Rattle.demands.specs.History.{Event, stored, event_of, events}
use Rattle.tray.specs.Tray.{TrayOutcome, records_of, nsert_one, stopped_by, stored_before, inserts, tray_checks, after_checks, nsert_tray}
use Rattle.tray.specs.Singles.{singles, joined, stored_by}
use Rattle.tray.specs.Runs.{Turn, single, tray, after_turn, left_by, tried, tried_after, calls_of, expand, SameRun}
use Rattle.tray.specs.Runs.{summed, transfers_of, accepted_of, share_of, events_of, events_by}
use Rattle.tray.proofs.Blind.{Blind, left-blind, tally-blind, tally-after, left_after, events-blind, events-after}
use Rattle.tray.proofs.Singles.{inserts-made}

-- the three numbers that are counted of a call
abbrev transfers-in : State → Request → Outcome → ℕ
transfers-in before q o = length o.transfers

abbrev accepted-in : State → Request → Outcome → ℕ
accepted-in before q o = of_nsert (accepted_by o) q + of_xtend (accepted_by o) q

abbrev share_in : State → Request → Outcome → ℕ
share_in before q o = share q

accepted-blind : Blind accepted-in
unfolding accepted_by
accepted-blind w u st q o = refl

-- ---- of single NSERTs

joined_length : (qs : List Request) (st : State) → length (joined st qs) ≡ tally transfers-in st qs
unfolding joined tally
joined_length [] st = refl
joined_length (q ∷ qs) st =
    let o = answer st q in
    let i = joined_length qs o.after in
    length-append o.transfers (joined o.after qs) ∙ ap (λ (n : ℕ). length o.transfers + n) i

singles-stored : (ts : List (List ℕ)) (st : State) → stored_by st (singles ts) ≡ tally accepted-in st (singles ts)
unfolding stored_by tally of_nsert of_xtend
singles-stored [] st = refl
singles-stored (r ∷ ts) st =
    let i = singles-stored ts (answer st (inserting r)).after in
    omega arith

singles-share : (ts : List (List ℕ)) (st : State) → 3 * length ts ≡ tally share_in st (singles ts)
unfolding tally share
singles-share [] st = refl
singles-share (r ∷ ts) st =
    let i = singles-share ts (answer st (inserting r)).after in
    omega arith

-- what the records behind the first come to
abbrev rest_of : State → List ℕ → List (List ℕ) → TrayOutcome
rest_of st r rs = inserts (nsert_one st r).after rs (nsert_one st r).number

-- as many of the records as are stored are put in
events-made : (rs : List (List ℕ)) (st : State) (n : ℕ) → events st (singles (tried st rs)) ≡ map stored (take (inserts st rs n).stored rs)
unfolding tried inserts events event_of nsert_one answer
events-made [] st n = refl
events-made (r ∷ rs) st n =
    go (accepted (nsert_one st r).number) refl (events-made rs (nsert_one st r).after (nsert_one st r).number)
  where
    go : (c : Bool) → accepted (nsert_one st r).number ≡ c
        → events (nsert_one st r).after (singles (tried (nsert_one st r).after rs)) ≡ map stored (take (rest_of st r rs).stored rs)
        → events st (singles (r ∷ cond c (tried (nsert_one st r).after rs) []))
        ≡ map stored (take (cond c (stored_before (nsert_one st r) (rest_of st r rs)) (stopped_by (nsert_one st r))).stored (r ∷ rs))
    go true h i =
        let now = (answer st (inserting r)).after in
        let ts = tried (nsert_one st r).after rs in
        let k = (rest_of st r rs).stored in
        let m : suc k ≡ k + 1 = omega arith in
        ap (λ (c : Bool). cond c (stored r ∷ []) [] ++ events now (singles ts)) h
        ∙ ap (λ (l : List Event). stored r ∷ l) (sym (events-blind st.work (singles ts) now) ∙ i)
        ∙ ap (λ (n : ℕ). map stored (take n (r ∷ rs))) m
    go false h i = ap (λ (c : Bool). cond c (stored r ∷ []) [] ++ []) h

-- ---- of one call of a run

record SameTurn (st : State) (after : State) (transfers records share : ℕ) (deeds : List Event) (qs : List Request) : Type 0 where
  is_state : after ≡ lending after.work (left st qs)
  is-transfers : transfers ≡ tally transfers-in st qs
  is-records : records ≡ tally accepted-in st qs
  is_share : share ≡ tally share_in st qs
  is-events : deeds ≡ events st qs

abbrev Same : State → Turn → Type 0
Same st c = SameTurn st (after_turn st c) (transfers_of st c) (accepted_of st c) (share_of st c) (events_of st c) (calls_of st c)

single-same : (st : State) (q : Request) → Same st (single q)
unfolding after_turn transfers_of accepted_of share_of events_of calls_of left tally events lending
single-same st q = record {
  is_state = refl;
  is-transfers = omega arith;
  is-records = omega arith;
  is_share = omega arith;
  is-events = sym (append-nil (event_of (desc st) q (answer st q)));
}

module _ (st : State) (t : List ℕ) where
  abbrev outcome-by : Checked Bool → TrayOutcome
  outcome-by c = after_checks st t c

  tray-by : (c : Checked Bool)
      → SameTurn st (outcome-by c).after (length (outcome-by c).transfers) (outcome-by c).stored (3 * length (tried_after st t c))
      (map stored (take (outcome-by c).stored (records_of (desc st) t))) (singles (tried_after st t c))
  unfolding after_checks tried_after left tally events lending
  tray-by (refused n) = record { is_state = refl; is-transfers = refl; is-records = refl; is_share = refl; is-events = refl }
  tray-by (passed x) =
      let rs = records_of (desc st) t in
      let m = inserts-made rs st done in
      let ts = tried st rs in
      record {
        is_state = m.after ∙ ap (λ (w : List ℕ). lending w (left st (singles ts))) (sym (ap (λ (z : State). z.work) m.after));
        is-transfers = ap length m.transfers ∙ joined_length (singles ts) st;
        is-records = m.stored ∙ singles-stored ts st;
        is_share = singles-share ts st;
        is-events = sym (events-made rs st done);
      }

  tray-same : Same st (tray t)
  unfolding after_turn transfers_of accepted_of share_of events_of calls_of nsert_tray
  tray-same = tray-by (tray_checks st t)

turn-same : (st : State) (c : Turn) → Same st c
turn-same st (single q) = single-same st q
turn-same st (tray t) = tray-same st t

-- ---- of a run

pub run-state : (cs : List Turn) (st : State) → left_by st cs ≡ lending (left_by st cs).work (left st (expand st cs))
unfolding left_by expand left lending
run-state [] st = refl
run-state (c ∷ cs) st =
    let now = after_turn st c in
    let qs = calls_of st c in
    let ys = expand now cs in
    let u = (left_by now cs).work in
    run-state cs now
    ∙ ap (λ (x : State). lending u (left x ys)) (turn-same st c).is_state
    ∙ left-blind u now.work ys (left st qs)
    ∙ ap (lending u) (sym (left_after qs ys st))

module _ (value : State → Request → Outcome → ℕ) (blind : Blind value) (worth : State → Turn → ℕ) where
  run-sum : ((st : State) (c : Turn) → worth st c ≡ tally value st (calls_of st c)) → (cs : List Turn) (st : State)
      → summed worth st cs ≡ tally value st (expand st cs)
  unfolding summed expand tally
  run-sum is [] st = refl
  run-sum is (c ∷ cs) st =
      let now = after_turn st c in
      let qs = calls_of st c in
      let ys = expand now cs in
      let e = is st c in
      let r = run-sum is cs now ∙ ap (λ (x : State). tally value x ys) (turn-same st c).is_state ∙ tally-blind value blind now.work ys (left st qs) in
      (λ j. e j + r j) ∙ sym (tally-after value qs ys st)

run-events : (cs : List Turn) (st : State) → events_by st cs ≡ events st (expand st cs)
unfolding events_by expand events
run-events [] st = refl
run-events (c ∷ cs) st =
    let now = after_turn st c in
    let qs = calls_of st c in
    let ys = expand now cs in
    let e = (turn-same st c).is-events in
    let r = run-events cs now ∙ ap (λ (x : State). events x ys) (turn-same st c).is_state ∙ events-blind now.work ys (left st qs) in
    (λ j. e j ++ r j) ∙ sym (events-after qs ys st)

pub same-run : (st : State) (cs : List Turn) → SameRun st cs
unfolding lending all_transfers M shares
same-run st cs = record {
  session = ap (λ (x : State). x.session) (run-state cs st);
  file = ap (λ (x : State). x.file) (run-state cs st);
  buffer = ap (λ (x : State). x.buffer) (run-state cs st);
  transfers = run-sum transfers-in (λ w u before q o. refl) transfers_of (λ before c. (turn-same before c).is-transfers) cs st;
  records = run-sum accepted-in accepted-blind accepted_of (λ before c. (turn-same before c).is-records) cs st;
  shares = run-sum share_in (λ w u before q o. refl) share_of (λ before c. (turn-same before c).is_share) cs st;
  events = run-events cs st;
}
