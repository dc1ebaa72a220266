-- Document 01, "Numbers returned (octal)": every call leaves what the column "leaves" says, on all inputs.
use Prim.Native.Nat.{ℕ}
use mathlib.Core.Path.{◌≡◌, refl, sym, ◌∙◌, subst}
use mathlib.Core.Bool.{Bool, true, false, cond, ◌&&◌}
use mathlib.Core.List.{List}
use mathlib.Core.Logic.{◌⊎◌, inl, inr}
use lib.Dec.{eqb}
use lib.ListN.{length}
use borrow.Author.Tests.{eq-eqb}
use native.Mathlib.Omega.{arith}
use Rattle.numbers.specs.Numbers as number_is
use Rattle.numbers.specs.Checked.{Checked, passed, refused}
use Rattle.drum.specs.declared.Description.{Description}
use Rattle.drum.specs.Params.{good_params, file_size}
use Rattle.layout.specs.Inspect.{layout_marks}
use Rattle.rules.specs.State.{State, Outcome, desc, lent, holding, outcome, unchanged}
use Rattle.rules.specs.Checks.{sizes_ok}
use Rattle.rules.specs.Lookup.{Reached, stopping}
use Rattle.rules.specs.Open.{Created, create, open_checks, open_layout, open_done, open_file}
use Rattle.rules.specs.Requests.{Request, opening, closing, seeking, advancing, inserting, deleting, updating, extending, answer, given}
use Rattle.demands.specs.Refusals.{leaves_all, stops, AllUnchanged, JustReached, LookupDone, LastReached, LookedBefore, Stopped, Leaves, LeavesMarks}
use Rattle.demands.proofs.Refused.{impossible, Refuses, refusing}
use Rattle.demands.proofs.BadFile.{IsBad, walk-bad}
use Rattle.demands.proofs.Ends.{stopped, went, at_last_lem, at-found}
use Rattle.demands.proofs.Came.{CameTo, Rested, SoughtKey, SoughtLast, came, barred, ended, rested}

all_same : (st : State) (n : ℕ) → AllUnchanged st (unchanged st n)
all_same st n = record { session = refl; file = refl; buffer = refl; work = refl; transfers = refl }

-- a call that stops at r leaves what it reached
just-reached : (st : State) (n : ℕ) (r : Reached) → JustReached st r (outcome st.session (stopping n st.work r))
unfolding outcome holding stopping
just-reached st n r =
    record { file = refl; buffer = refl; current = refl; flag = refl; transfers = refl; work = refl; placed = refl; position = refl; opened = refl; parameters = refl }

-- a call with steps, of which Q says what it leaves where it stops at an r of which R holds
module _ (q : Request) (st : State) (bar ok : ℕ → Bool) (R : Reached → Type 0)
    (h : (o : Outcome) (r : Reached) → R r → JustReached st r o → Stopped q st o) where
  leaves : (o : Outcome) → CameTo bar ok R st o → Leaves q st o
  unfolding outcome stopping
  leaves _ (barred n b) = record { refusal = λ e. all_same st n; stop = λ e. impossible (sym e ∙ b.plain) }
  leaves _ (ended _ (stopped n r e i a s)) =
      record { refusal = λ g. impossible (sym g ∙ i); stop = λ g. h _ r s (just-reached st n r) }
  leaves _ (ended e (went _ o i n k)) = record { refusal = λ g. impossible (sym g ∙ i); stop = λ g. impossible (sym g ∙ n) }

-- OPEN and CLOSE stop nowhere
rest-leaves : (q : Request) (st : State) (bar : ℕ → Bool) (o : Outcome) → Rested bar st o → Leaves q st o
unfolding leaves_all stops
rest-leaves q st bar _ (barred n b) = record { refusal = λ e. all_same st n; stop = λ e. impossible (sym e ∙ b.plain) }
rest-leaves q st bar o (rested _ d p k) = record { refusal = λ e. impossible (sym e ∙ rw d); stop = λ e. impossible (sym e ∙ rw d) }

-- where a lookup, and where XTEND stops
looked-left : (st : State) (o : Outcome) (r : Reached) → SoughtKey st r → JustReached st r o → LookupDone st o
looked-left st o r l j = record { result = l.result; looked = l.looked; leaves = subst (λ (z : Reached). JustReached st z o) l.is j }

last-left : (st : State) (o : Outcome) (r : Reached) → SoughtLast st r → JustReached st r o → LastReached st o ⊎ LookedBefore st o
last-left st o r (at_last_lem way e g is) j = inl (record { way = way; last = e; alone = g; leaves = subst (λ (z : Reached). JustReached st z o) is j })
last-left st o r (at-found way w q l is) j =
    inr (record { way = way; last = w; found = q; looks = l; leaves = subst (λ (z : Reached). JustReached st z o) is j })

-- every call, on every state: what its number says that it leaves
pub refusals : (st : State) (q : Request) → Leaves q (given st q) (answer st q)
refusals st (opening marks) = rest-leaves _ _ _ _ (came st (opening marks))
refusals st closing = rest-leaves _ _ _ _ (came st closing)
refusals st (seeking w) = leaves _ _ _ _ _ (looked-left _) _ (came st (seeking w))
refusals st (advancing w) = leaves _ _ _ _ _ (λ o r n j. n) _ (came st (advancing w))
refusals st (inserting w) = leaves _ _ _ _ _ (looked-left _) _ (came st (inserting w))
refusals st (deleting w) = leaves _ _ _ _ _ (looked-left _) _ (came st (deleting w))
refusals st (updating w) = leaves _ _ _ _ _ (looked-left _) _ (came st (updating w))
refusals st (extending w) = leaves _ _ _ _ _ (last-left _) _ (came st (extending w))

-- the same as one equation: the outcome of a call that stops at r
pub stopped-as : (st : State) (r : Reached) (o : Outcome) → JustReached st r o → o ≡ outcome st.session (stopping o.number st.work r)
unfolding outcome holding stopping
stopped-as st r o j = λ i. record {
  number = o.number;
  transfers = j.transfers i;
  after = lent
      (record {
        desc = j.parameters i;
        opened = j.opened i;
        current = j.current i;
        flag = j.flag i;
        placed = j.placed i;
        position = j.position i;
      })
      (j.file i)
      (j.buffer i)
      (j.work i);
}

-- OPEN's marks: 020007 and 020006 leave them as they were lent, 070003 leaves all 0
pub marks-left : (st : State) (marks : List ℕ) → LeavesMarks st marks (open_file st marks)
unfolding open_file open_done open_layout open_checks sizes_ok
marks-left st marks = go (open_checks st marks) (search refusing)
  where
    after : (c : Checked (List ℕ)) → Refuses IsBad c → LeavesMarks st marks (open_layout st c)
    after (refused n) r = let b = r.number n refl in record { wrong = λ e. absurd (omega arith); already = λ e. absurd (omega arith); bad = λ e. refl }
    after (passed ms) r = record { wrong = λ e. absurd (omega arith); already = λ e. absurd (omega arith); bad = λ e. absurd (omega arith) }

    go : (c : Checked Bool) → Refuses (λ n. eqb n number_is.bad_file ≡ false) c → LeavesMarks st marks (open_done st marks c)
    go (refused n) r = record {
      wrong = λ e. refl;
      already = λ e. refl;
      bad = λ e. impossible (sym (eq-eqb n number_is.bad_file e) ∙ r.number n refl);
    }
    go (passed x) r = after (layout_marks (desc st) st.file) (walk-bad (desc st) st.file)

-- CREATE refused, "can answer only 020007 or 0", leaves the file
pub create-left : (p : Description) (f : List ℕ) → (create p f).number ≡ number_is.wrong_size → (create p f).file ≡ f
unfolding create
create-left p f = go (good_params p && eqb (length f) (file_size p)) _ _ refl refl
  where
    go : (t : Bool) (a b : Created) → a.number ≡ number_is.done → b.file ≡ f → (cond t a b).number ≡ number_is.wrong_size → (cond t a b).file ≡ f
    go true a b d g e = absurd (omega arith)
    go false a b d g e = g
