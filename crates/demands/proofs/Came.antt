-- What every call comes to, on all words: it is refused with a number that it can be refused with, and all is unchanged; or its steps have ended as
-- Ends says; or it is an OPEN or a CLOSE that has answered 0. What the numbers say and leave, and what becomes of position, is read off this.
use Prim.Native.Nat.{ℕ}
use mathlib.Core.Path.{◌≡◌, refl}
use mathlib.Core.Bool.{Bool, true, false, cond}
use mathlib.Core.List.{List}
use Rattle.numbers.specs.Numbers as number_is
use Rattle.numbers.specs.Numbers.{accepted}
use Rattle.numbers.specs.Checked.{Checked, passed, refused, ◌>>◌}
use Rattle.numbers.proofs.Passed.{Passed, chain}
use Rattle.layout.specs.Inspect.{layout_marks}
use Rattle.rules.specs.State.{Session, State, Outcome, Effect, desc, texts, key_in, holding, positioned, at_rest, outcome, unchanged, settle}
use Rattle.rules.specs.Checks.{sizes_ok, work_ok, is_open, key_ok, keyed_call}
use Rattle.rules.specs.Lookup.{Reached}
use Rattle.rules.specs.Open.{open_checks, open_layout, open_done, open_file}
use Rattle.rules.specs.Close.{close_checks, close_done, close}
use Rattle.rules.specs.Seek.{seek, updat}
use Rattle.rules.specs.Adv.{adv}
use Rattle.rules.specs.NsertDone.{nsert}
use Rattle.rules.specs.Dlete.{dlete}
use Rattle.rules.specs.XtendDone.{xtend}
use Rattle.rules.specs.Requests.{Request, opening, closing, seeking, advancing, inserting, deleting, updating, extending, answer, given, lending}
use Rattle.demands.specs.Refusals.{stops}
use Rattle.demands.specs.Answering.{open_refuses, plain_refuses, keyed_refuses, finds, advances, inserts, extends}
use Rattle.demands.proofs.Refused.{Refuses, refusing}
use Rattle.demands.proofs.BadFile.{IsBad, seek-bad, updat-bad, adv-bad, nsert-bad, dlete-bad, xtend-bad, walk-bad}
use Rattle.demands.proofs.Ends.{Ends, LookedUp, Lasted, Never, seek-ends, updat-ends, adv-ends, nsert-ends, dlete-ends, xtend-ends}

-- a refusal that leaves all unchanged: one of those that bar says, not 0 or 070001, and none at which a call stops
pub record Bars (bar : ℕ → Bool) (n : ℕ) : Type 0 where
  pub is : bar n ≡ true
  pub other : accepted n ≡ false
  pub plain : stops n ≡ false

bars : (bar : ℕ → Bool) (n : ℕ) → bar n ≡ true → accepted n ≡ false → stops n ≡ false → Bars bar n
bars bar n e a s = record { is = e; other = a; plain = s }

-- steps that refuse with 070003 alone
bad-bars : {A : Type 0} (bar : ℕ → Bool) (c : Checked A) → Refuses IsBad c → Bars bar number_is.bad_file → Refuses (Bars bar) c
bad-bars bar c b h = record { number = λ n e. rw (b.number n e) h }

-- a call with steps
pub data CameTo (bar ok : ℕ → Bool) (R : Reached → Type 0) (st : State) : Outcome → Type 0 where
  barred : (n : ℕ) → Bars bar n → CameTo bar ok R st (unchanged st n)
  ended : (e : Effect) → Ends ok R st.work e → CameTo bar ok R st (outcome st.session e)

-- OPEN and CLOSE
pub data Rested (bar : ℕ → Bool) (st : State) : Outcome → Type 0 where
  barred : (n : ℕ) → Bars bar n → Rested bar st (unchanged st n)
  rested : (o : Outcome) → o.number ≡ number_is.done → o.after.session.placed ≡ false → desc o.after ≡ desc st → Rested bar st o

-- what SEEK, UPDAT, NSERT and DLETE reach
abbrev pub SoughtKey : State → Reached → Type 0
SoughtKey st = LookedUp (texts st) st.session.flag (key_in (desc st) st.work)

-- what XTEND reaches
abbrev pub SoughtLast : State → Reached → Type 0
SoughtLast st = Lasted (texts st) st.session.flag (key_in (desc st) st.work)

-- by the call
abbrev pub CallResult : Request → State → Outcome → Type 0
CallResult (opening marks) st = Rested open_refuses st
CallResult closing st = Rested plain_refuses st
CallResult (seeking w) st = CameTo keyed_refuses finds (SoughtKey st) st
CallResult (advancing w) st = CameTo plain_refuses advances Never st
CallResult (inserting w) st = CameTo keyed_refuses inserts (SoughtKey st) st
CallResult (deleting w) st = CameTo keyed_refuses finds (SoughtKey st) st
CallResult (updating w) st = CameTo keyed_refuses finds (SoughtKey st) st
CallResult (extending w) st = CameTo keyed_refuses extends (SoughtLast st) st

module _ (st : State) where
  module _ (ok : ℕ → Bool) (R : Reached → Type 0) where
    settled : (bar : ℕ → Bool) (c : Checked Effect) → Refuses (Bars bar) c → Passed (Ends ok R st.work) c → CameTo bar ok R st (settle st c)
    unfolding settle
    settled bar (refused n) r p = barred n (r.number n refl)
    settled bar (passed e) r p = ended e (p.holds e refl)

    -- the refusals of a keyed call, and then its steps; of ADV, and then its steps
    keyed : (reads : ℕ) (c : Checked Effect) → Refuses IsBad c → Passed (Ends ok R st.work) c → CameTo keyed_refuses ok R st (keyed_call reads st c)
    unfolding sizes_ok work_ok is_open key_ok keyed_refuses stops
    keyed reads c b p = settled keyed_refuses _ (search (refusing, bars, bad-bars) depth 9) (search chain depth 9)

    unkeyed : (c : Checked Effect) → Refuses IsBad c → Passed (Ends ok R st.work) c → CameTo plain_refuses ok R st (settle st do
      sizes_ok st
      work_ok st
      is_open st
      c)
    unfolding sizes_ok work_ok is_open plain_refuses stops
    unkeyed c b p = settled plain_refuses _ (search (refusing, bars, bad-bars) depth 9) (search chain depth 9)

  open-came : (marks : List ℕ) → Rested open_refuses st (open_file st marks).outcome
  unfolding open_file open_done open_layout open_checks sizes_ok at_rest open_refuses stops
  open-came marks = go (open_checks st marks) (search (refusing, bars) depth 9)
    where
      walk : (c : Checked (List ℕ)) → Refuses (Bars open_refuses) c → Rested open_refuses st (open_layout st c).outcome
      walk (refused n) r = barred n (r.number n refl)
      walk (passed ms) r = rested _ refl refl refl

      go : (c : Checked Bool) → Refuses (Bars open_refuses) c → Rested open_refuses st (open_done st marks c).outcome
      go (refused n) r = barred n (r.number n refl)
      go (passed t) r = walk (layout_marks (desc st) st.file) (bad-bars open_refuses _ (walk-bad (desc st) st.file) (bars _ _ refl refl refl))

  close-came : Rested plain_refuses st (close st)
  unfolding close close_done close_checks sizes_ok is_open at_rest plain_refuses stops
  close-came = go (close_checks st) (search (refusing, bars) depth 9)
    where
      go : (c : Checked Bool) → Refuses (Bars plain_refuses) c → Rested plain_refuses st (close_done st c)
      go (refused n) r = barred n (r.number n refl)
      go (passed t) r = rested _ refl refl refl

-- every call, on every state
pub came : (st : State) (q : Request) → CallResult q (given st q) (answer st q)
unfolding answer given seek updat nsert dlete xtend adv lending
came st (opening marks) = open-came st marks
came st closing = close-came st
came st (seeking w) = keyed (lending w st) finds _ (desc st).k _ (seek-bad _ _ _) (seek-ends _ _ _)
came st (advancing w) = unkeyed (lending w st) advances Never _ (adv-bad _ _ _ _) (adv-ends _ _ w _ _)
came st (inserting w) = keyed (lending w st) inserts _ (desc st).wpr _ (nsert-bad _ _ _) (nsert-ends _ _ _)
came st (deleting w) = keyed (lending w st) finds _ (desc st).k _ (dlete-bad _ _ _) (dlete-ends _ _ _)
came st (updating w) = keyed (lending w st) finds _ (desc st).wpr _ (updat-bad _ _ _) (updat-ends _ _ _)
came st (extending w) = keyed (lending w st) extends _ (desc st).wpr _ (xtend-bad _ _ _) (xtend-ends _ _ _)

-- ---- no call changes the parameters

-- parameters, and whether it is open, stay as they are
pub record Stays (s now : Session) : Type 0 where
  pub described : now.desc ≡ s.desc
  pub opened : now.opened ≡ s.opened

-- so they do in a call with steps
outcome-stays : (s : Session) (e : Effect) → Stays s (outcome s e).after.session
unfolding outcome holding positioned
outcome-stays s e = go e.keyed
  where
    held : Session
    held = holding e.current e.flag s

    go : (t : Bool) → Stays s (cond t (positioned (key_in s.desc e.work) held) held)
    go true = record { described = refl; opened = refl }
    go false = record { described = refl; opened = refl }

pub settled-stays : (st : State) (c : Checked Effect) → Stays st.session (settle st c).after.session
unfolding settle
settled-stays st (refused n) = record { described = refl; opened = refl }
settled-stays st (passed e) = outcome-stays st.session e

came-desc : (bar ok : ℕ → Bool) (R : Reached → Type 0) (st : State) (o : Outcome) → CameTo bar ok R st o → desc o.after ≡ desc st
came-desc bar ok R st _ (barred n b) = refl
came-desc bar ok R st _ (ended e h) = (outcome-stays st.session e).described

rested-desc : (bar : ℕ → Bool) (st : State) (o : Outcome) → Rested bar st o → desc o.after ≡ desc st
rested-desc bar st _ (barred n b) = refl
rested-desc bar st o (rested _ e p d) = d

-- every call, on all words
pub same-parameters : (st : State) (q : Request) → desc (answer st q).after ≡ desc st
unfolding given lending
same-parameters st (opening marks) = rested-desc _ _ _ (came st (opening marks))
same-parameters st closing = rested-desc _ _ _ (came st closing)
same-parameters st (seeking w) = came-desc _ _ _ _ _ (came st (seeking w))
same-parameters st (advancing w) = came-desc _ _ _ _ _ (came st (advancing w))
same-parameters st (inserting w) = came-desc _ _ _ _ _ (came st (inserting w))
same-parameters st (deleting w) = came-desc _ _ _ _ _ (came st (deleting w))
same-parameters st (updating w) = came-desc _ _ _ _ _ (came st (updating w))
same-parameters st (extending w) = came-desc _ _ _ _ _ (came st (extending w))
