-- Document 01, "Numbers returned (octal)": "Checked in this order; the first that applies is given, and none otherwise", of the first four.
use Prim.Native.Nat.{ℕ}
use mathlib.Core.Path.{◌≡◌, refl, ap}
use mathlib.Core.Bool.{Bool, true, false, not, ◌&&◌, ◌||◌}
use mathlib.Core.List.{List}
use lib.Dec.{eqb}
use lib.ListN.{length}
use native.Mathlib.Omega.{arith}
use Rattle.numbers.specs.Numbers as number_is
use Rattle.numbers.specs.Checked.{Checked, passed, refused, ◌>>◌, require}
use Rattle.layout.specs.Inspect.{layout_marks}
use Rattle.rules.specs.State.{State, Outcome, Effect, desc, texts, outcome, unchanged, settle}
use Rattle.rules.specs.Checks.{sizes_ok, work_ok, is_open, key_ok, keyed_call}
use Rattle.rules.specs.Lookup.{Reached, stopping, flush_ok}
use Rattle.rules.specs.Open.{open_checks, open_layout, open_done, open_file}
use Rattle.rules.specs.Close.{close_checks, close_done, close}
use Rattle.rules.specs.Seek.{seek, updat}
use Rattle.rules.specs.Adv.{adv}
use Rattle.rules.specs.NsertDone.{nsert}
use Rattle.rules.specs.Dlete.{dlete}
use Rattle.rules.specs.XtendDone.{xtend}
use Rattle.rules.specs.Requests.{Request, opening, closing, seeking, advancing, inserting, deleting, updating, extending, answer, given, lending}
use Rattle.demands.specs.Refusals.{leaves_all}
use Rattle.demands.specs.Answering.{finds, advances, inserts, extends}
use Rattle.demands.specs.When.{lent_right, work_right, sizes_right, open_right, reads_right, key_right, early, is_early, When}
use Rattle.numbers.proofs.Passed.{Passed}
use Rattle.demands.proofs.Refused.{Refuses}
use Rattle.demands.proofs.BadFile.{IsBad, seek-bad, updat-bad, adv-bad, nsert-bad, dlete-bad, xtend-bad, walk-bad}
use Rattle.demands.proofs.Ends.{Ends, stopped, went, Never, seek-ends, updat-ends, adv-ends, nsert-ends, dlete-ends, xtend-ends}

-- a number that is none of the five refusals is none of the first four
late : (n : ℕ) → leaves_all n ≡ false → is_early n ≡ false
unfolding leaves_all is_early
late n e = go (eqb n number_is.wrong_size) (eqb n number_is.already_open) (eqb n number_is.is_closed) (eqb n number_is.wrong_key) (eqb n number_is.bad_file) e
  where
    go : (a b c d x : Bool) → (a || (b || (c || (d || x)))) ≡ false → (a || (b || (c || d))) ≡ false
    go true b c d x e = e
    go false true c d x e = e
    go false false true d x e = e
    go false false false true x e = e
    go false false false false x e = refl

bad-late : (n : ℕ) → n ≡ number_is.bad_file → is_early n ≡ false
unfolding is_early
bad-late n e = rw e

late-ends : (ok : ℕ → Bool) (R : Reached → Type 0) (st : State) (e : Effect) → Ends ok R st.work e
    → is_early (outcome st.session e).number ≡ false
unfolding outcome stopping
late-ends ok R st _ (stopped n r o q a s) = late n q
late-ends ok R st e (went _ o q n k) = late e.number q

settled : (ok : ℕ → Bool) (R : Reached → Type 0) (st : State) (c : Checked Effect) → Refuses IsBad c → Passed (Ends ok R st.work) c
    → is_early (settle st c).number ≡ false
unfolding settle
settled ok R st (refused n) b p = bad-late n (b.number n refl)
settled ok R st (passed e) b p = late-ends ok R st e (p.holds e refl)

same : (st : State) (m n : ℕ) → ◌≡◌ {A = Checked Bool} (refused m) (refused n) → unchanged st m ≡ unchanged st n
same st m n e = ap (unchanged st) (let z : m ≡ n = cc in z)

clash : {A : Type 0} (n : ℕ) (a : Bool) → ◌≡◌ {A = Checked Bool} (refused n) (passed a) → A
clash n a e = absurd (let z : ◌≡◌ {A = ℕ} 0 1 = cc in omega arith)

clash' : {A : Type 0} (n : ℕ) (a : Bool) → ◌≡◌ {A = Checked Bool} (passed a) (refused n) → A
clash' n a e = absurd (let z : ◌≡◌ {A = ℕ} 0 1 = cc in omega arith)

-- the chain of a call that is lent a workspace
record Chain (st : State) (k : Checked Bool) (o : Outcome) : Type 0 where
  first : (n : ℕ) → k ≡ refused n → o ≡ unchanged st n
  none : k ≡ passed true → is_early o.number ≡ false

chained : (st : State) (a b o t : Bool) (c : Checked Effect) → is_early (settle st c).number ≡ false
    → Chain st (require (a && b) number_is.wrong_size >> (require o number_is.is_closed >> require t number_is.wrong_key))
    (settle st (require a number_is.wrong_size >> (require b number_is.wrong_size >> (require o number_is.is_closed >> (require t number_is.wrong_key >> c)))))
unfolding settle
chained st false b o t c h = record { first = λ n e. same st _ n e; none = λ e. clash _ true e }
chained st true false o t c h = record { first = λ n e. same st _ n e; none = λ e. clash _ true e }
chained st true true false t c h = record { first = λ n e. same st _ n e; none = λ e. clash _ true e }
chained st true true true false c h = record { first = λ n e. same st _ n e; none = λ e. clash _ true e }
chained st true true true true c h = record { first = λ n e. clash' n true e; none = λ e. h }

unkeyed : (st : State) (a b o : Bool) (c : Checked Effect) → is_early (settle st c).number ≡ false
    → Chain st (require (a && b) number_is.wrong_size >> (require o number_is.is_closed >> require true number_is.wrong_key))
    (settle st (require a number_is.wrong_size >> (require b number_is.wrong_size >> (require o number_is.is_closed >> c))))
unfolding settle
unkeyed st false b o c h = record { first = λ n e. same st _ n e; none = λ e. clash _ true e }
unkeyed st true false o c h = record { first = λ n e. same st _ n e; none = λ e. clash _ true e }
unkeyed st true true false c h = record { first = λ n e. same st _ n e; none = λ e. clash _ true e }
unkeyed st true true true c h = record { first = λ n e. clash' n true e; none = λ e. h }

as-when : (q : Request) (st : State) (o : Outcome) → Chain st (early q st) o → When q st o
as-when q st o c = record { first = c.first; none = c.none }

tested : (st : State) (c : Checked (List ℕ)) → Refuses IsBad c → is_early (open_layout st c).outcome.number ≡ false
unfolding is_early open_layout
tested st (refused n) b = rw (b.number n refl)
tested st (passed ms) b = refl

open-chain : (st : State) (marks : List ℕ) (a b o : Bool)
    → Chain st (require (a && b) number_is.wrong_size >> (require (not o) number_is.already_open >> require true number_is.wrong_key))
    (open_done st marks (require a number_is.wrong_size >> (require b number_is.wrong_size >> require (not o) number_is.already_open))).outcome
unfolding open_done
open-chain st marks false b o = record { first = λ n e. same st _ n e; none = λ e. clash _ true e }
open-chain st marks true false o = record { first = λ n e. same st _ n e; none = λ e. clash _ true e }
open-chain st marks true true true = record { first = λ n e. same st _ n e; none = λ e. clash _ true e }
open-chain st marks true true false =
    record { first = λ n e. clash' n true e; none = λ e. tested st (layout_marks (desc st) st.file) (walk-bad (desc st) st.file) }

close-chain : (st : State) (a o x : Bool) → Chain st (require a number_is.wrong_size >> (require o number_is.is_closed >> require true number_is.wrong_key))
    (close_done st (require a number_is.wrong_size >> (require o number_is.is_closed >> require x number_is.bad_file)))
unfolding close_done is_early
close-chain st false o x = record { first = λ n e. same st _ n e; none = λ e. clash _ true e }
close-chain st true false x = record { first = λ n e. same st _ n e; none = λ e. clash _ true e }
close-chain st true true false = record { first = λ n e. clash' n true e; none = λ e. refl }
close-chain st true true true = record { first = λ n e. clash' n true e; none = λ e. refl }

-- a keyed call, that reads so many words of the workspace
keyed-when : (q : Request) (st : State) (reads : ℕ) (c : Checked Effect)
    → early q st ≡ require (lent_right st && work_right st) number_is.wrong_size
    >> (require st.session.opened number_is.is_closed >> require (reads_right reads st) number_is.wrong_key)
    → (ok : ℕ → Bool) (R : Reached → Type 0) → Refuses IsBad c → Passed (Ends ok R st.work) c → When q st (keyed_call reads st c)
unfolding sizes_ok work_ok is_open key_ok
keyed-when q st reads c e ok R b p =
    as-when q st _ (rw e (chained st (lent_right st) (work_right st) st.session.opened (reads_right reads st) c (settled ok R st c b p)))

-- every call, on every state
pub when-refused : (st : State) (q : Request) → When q (given st q) (answer st q)
unfolding answer given lending early sizes_right open_right key_right sizes_ok work_ok is_open seek updat nsert dlete xtend adv open_file open_checks close close_checks
when-refused st (opening marks) =
    as-when (opening marks) st _ (open-chain st marks (lent_right st) (eqb (length marks) (desc st).n) st.session.opened)
when-refused st closing =
    as-when closing st _ (close-chain st (lent_right st) st.session.opened (flush_ok (texts st) st.session.flag))
when-refused st (seeking w) = keyed-when (seeking w) (lending w st) (desc st).k _ refl finds _ (seek-bad _ _ _) (seek-ends _ _ _)
when-refused st (advancing w) =
    let v = lending w st in
    as-when (advancing w) v _ (unkeyed v (lent_right v) (work_right v) v.session.opened _ (settled advances Never v _ (adv-bad _ _ _ _) (adv-ends _ _ w _ _)))
when-refused st (inserting w) = keyed-when (inserting w) (lending w st) (desc st).wpr _ refl inserts _ (nsert-bad _ _ _) (nsert-ends _ _ _)
when-refused st (deleting w) = keyed-when (deleting w) (lending w st) (desc st).k _ refl finds _ (dlete-bad _ _ _) (dlete-ends _ _ _)
when-refused st (updating w) = keyed-when (updating w) (lending w st) (desc st).wpr _ refl finds _ (updat-bad _ _ _) (updat-ends _ _ _)
when-refused st (extending w) = keyed-when (extending w) (lending w st) (desc st).wpr _ refl extends _ (xtend-bad _ _ _) (xtend-ends _ _ _)
