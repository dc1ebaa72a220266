-- A run of the exported functions is a run of the calls: the state read from the words, and what is unpacked from the numbers returned.
use Prim.Native.Nat.{ℕ, ◌+◌, ◌≤◌}
use mathlib.Core.Path.{◌≡◌, refl, sym, ap, ap₂, ◌∙◌, subst}
use mathlib.Core.Bool.{Bool, true, false}
use mathlib.Core.List.{List, [], ◌∷◌}
use native.Mathlib.Omega.{arith}
use lib.ListN.{length}
use Rattle.numbers.specs.Numbers as number_is
use Rattle.drum.specs.Params.{good_params}
use Rattle.rules.specs.State.{Session, State, desc, lent}
use Rattle.rules.specs.Open.{Created, create, open_file}
use Rattle.rules.specs.Run.{created_outcome}
use Rattle.rules.specs.Requests.{Request, opening, answer, left}
use Rattle.demands.specs.Formula as rule
use Rattle.demands.specs.declared.Plan.{Plan}
use Rattle.demands.specs.Planned.{planned, Keeps}
use Rattle.demands.specs.Turns.{Turn, turn, turns, sum, counts, Formula}
use Rattle.demands.proofs.Demands.{opens, session-formula}
use Rattle.demands.proofs.Plans.{plan-holds}
use Rattle.demands.proofs.Turns.{counts-are, turns-formula}
use Rattle.capi.specs.Words.{is_session, session_of, packed}
use Rattle.searchfile.specs.Promise.{creating}
use Rattle.capi.specs.Calls.{Returned, ReturnedOpen, returned}
use Rattle.capi.specs.Plan.{plan_in, most_in}
use Rattle.capi.specs.Runs.{number_in, transfers_in, state_in, promised, promised_create, Call, Promises, last, requests, seen_of, seen, transfers_of}
use Rattle.capi.specs.Runs.{ArchiveFollows, ArchiveAfterOpen, Begins, ArchiveFormula, ArchivePlanned}
use Rattle.capi.proofs.Words.{words-kept}
use Rattle.capi.proofs.Told.{called-none, called-some, open_none}
use Rattle.capi.proofs.Most.{most-some}
use Rattle.capi.proofs.Unpacked.{created-small, number-unpacked}
use Rattle.capi.proofs.Stepped.{step-session, step-state, step-number, step-transfers}

-- ---- a run

module _ (x : Returned) (ok : is_session x.session ≡ true) (c : Call) (p : c.gave ≡ promised x c.request) where
  turn_is : seen_of c ≡ turn c.request (answer (state_in x) c.request)
  turn_is =
      let n = step-number x ok c.request c.gave p in
      let t = step-transfers x ok c.request c.gave p in
      let s = step-state x ok c.request c.gave p in
      λ j. record { request = c.request; number = n j; count = t j; after = s j }

  rest-is : {A : Type 0} (g : State → A) (a : A) → a ≡ g (state_in c.gave) → a ≡ g (answer (state_in x) c.request).after
  rest-is g a e = e ∙ ap g (step-state x ok c.request c.gave p)

pub run-session : (cs : List Call) (x : Returned) → is_session x.session ≡ true → Promises x cs → is_session (last x cs).session ≡ true
unfolding last
run-session [] x ok p = ok
run-session (c ∷ cs) x ok p = run-session cs c.gave (step-session x ok c.request c.gave p.0) p.1

run-seen : (cs : List Call) (x : Returned) → is_session x.session ≡ true → Promises x cs → seen cs ≡ turns (state_in x) (requests cs)
unfolding seen turns requests
run-seen [] x ok p = refl
run-seen (c ∷ cs) x ok p =
    let n = run-seen cs c.gave (step-session x ok c.request c.gave p.0) p.1 in
    ap₂ (λ (t : Turn) (ts : List Turn). t ∷ ts) (turn_is x ok c p.0) (rest-is x ok c p.0 (λ st. turns st (requests cs)) (seen cs) n)

pub run-leaves : (cs : List Call) (x : Returned) → is_session x.session ≡ true → Promises x cs → state_in (last x cs) ≡ left (state_in x) (requests cs)
unfolding last left requests
run-leaves [] x ok p = refl
run-leaves (c ∷ cs) x ok p =
    let n = run-leaves cs c.gave (step-session x ok c.request c.gave p.0) p.1 in
    rest-is x ok c p.0 (λ st. left st (requests cs)) (state_in (last c.gave cs)) n

run-transfers : (cs : List Call) (st : State) → transfers_of cs ≡ counts st (seen cs)
unfolding transfers_of seen counts sum
run-transfers [] st = refl
run-transfers (c ∷ cs) st = ap (λ (n : ℕ). transfers_in c.gave.answer + n) (run-transfers cs (state_in c.gave))

pub archive-follows : ArchiveFollows
archive-follows x cs ok p =
    let s = run-seen cs x ok p in
    record {
      calls = s;
      leaves = run-leaves cs x ok p;
      transfers = run-transfers cs (state_in x) ∙ ap (counts (state_in x)) s ∙ counts-are (state_in x) (requests cs);
      session = run-session cs x ok p;
    }

-- ---- from OPEN on

-- a function that answers 0 was lent a session
none_answers : (x : Returned) (marks : List ℕ) → is_session x.session ≡ false → number_in (promised x (opening marks)).answer ≡ number_is.wrong_size
unfolding promised packed
none_answers x marks h =
    ap (λ (r : ReturnedOpen). number_in r.returned.answer) (sym (open_none x.session h x.file x.buffer marks))

none-creates : (x : Returned) → is_session x.session ≡ false → number_in (promised_create x).answer ≡ number_is.wrong_size
unfolding promised_create packed
none-creates x h = ap (λ (r : Returned). number_in r.answer) (sym (called-none x.session h creating x.file [] []))

sessioned : (ws : List ℕ) (n : ℕ) → (is_session ws ≡ false → n ≡ number_is.wrong_size) → n ≡ number_is.done → is_session ws ≡ true
sessioned ws n h e = go (is_session ws) refl
  where
    go : (t : Bool) → is_session ws ≡ t → is_session ws ≡ true
    go true k = k
    go false k = absurd (let z = h k in omega arith)

module _ (x : Returned) (marks : List ℕ) (o : Returned) (p : o ≡ promised x (opening marks)) (e : number_in o.answer ≡ number_is.done) where
  open-was : is_session x.session ≡ true
  open-was = sessioned x.session (number_in o.answer) (λ h. ap (λ (r : Returned). number_in r.answer) p ∙ none_answers x marks h) e

  open_is : is_session o.session ≡ true
  open_is = step-session x open-was (opening marks) o p

  open-answers : (open_file (state_in x) marks).outcome.number ≡ number_is.done
  unfolding answer
  open-answers = sym (step-number x open-was (opening marks) o p) ∙ e

  open-state : state_in o ≡ (open_file (state_in x) marks).outcome.after
  unfolding answer
  open-state = step-state x open-was (opening marks) o p

pub archive-after-open : ArchiveAfterOpen
archive-after-open P h x marks o cs p e ps =
    let s = open-state x marks o p e in
    let l = run-leaves cs o (open_is x marks o p e) ps in
    subst P (sym (l ∙ ap (λ (st : State). left st (requests cs)) s)) (h (state_in x) marks (open-answers x marks o p e) (requests cs))

-- ---- from CREATE and OPEN on

module _ (x made : Returned) (marks : List ℕ) (o : Returned) (b : Begins x made marks o) where
  abbrev pub s : Session
  s = session_of x.session

  abbrev pub new : Created
  new = create s.desc x.file

  create-was : is_session x.session ≡ true
  create-was = sessioned x.session (number_in made.answer) (λ h. ap (λ (r : Returned). number_in r.answer) b.create ∙ none-creates x h) b.created

  -- the file is new, and all else as it was
  made-is : made ≡ returned (packed 0 new.number) x.session new.file x.buffer x.work
  unfolding promised_create creating created_outcome
  made-is =
      let c = called-some x.session create-was creating x.file [] [] in
      let k = words-kept x.session create-was in
      b.create
      ∙ ap (λ (r : Returned). returned r.answer r.session r.file x.buffer x.work) (sym c)
      ∙ (λ j. returned (packed 0 new.number) (k j) new.file x.buffer x.work)

  abbrev pub fresh : State
  fresh = lent s new.file x.buffer x.work

  made-state : state_in made ≡ fresh
  made-state = ap state_in made-is

  pub creates : new.number ≡ number_is.done
  creates =
      sym (number-unpacked 0 new.number (created-small s.desc x.file)) ∙ sym (ap (λ (r : Returned). number_in r.answer) made-is) ∙ b.created

  pub fresh-opens : (open_file fresh marks).outcome.number ≡ number_is.done
  fresh-opens = ap (λ (st : State). (open_file st marks).outcome.number) (sym made-state) ∙ open-answers made marks o b.open-file b.opened

  pub opened-is : state_in o ≡ (open_file fresh marks).outcome.after
  opened-is = open-state made marks o b.open-file b.opened ∙ ap (λ (st : State). (open_file st marks).outcome.after) made-state

  within : (qs : List Request) → rule.Within (state_in o) qs
  within qs = subst (λ (st : State). rule.Within st qs) (sym opened-is) (session-formula s x.file x.buffer x.work marks creates fresh-opens qs)

  pub good : good_params (desc (state_in o)) ≡ true
  good = subst (λ (st : State). good_params (desc st) ≡ true) (sym opened-is) (opens fresh marks fresh-opens).sound.kept.good

  plan-kept : (qs : List Request) (plan : Plan) → Keeps plan (state_in o) qs → rule.all_transfers (state_in o) qs ≤ planned (desc (state_in o)) plan
  plan-kept qs =
      subst (λ (st : State). (plan : Plan) → Keeps plan st qs → rule.all_transfers st qs ≤ planned (desc st) plan) (sym opened-is)
      (plan-holds s x.file x.buffer x.work marks creates fresh-opens qs)

  pub opened-session : is_session o.session ≡ true
  opened-session = open_is made marks o b.open-file b.opened

  module _ (cs : List Call) (ps : Promises o cs) where
    seen-is : seen cs ≡ turns (state_in o) (requests cs)
    seen-is = run-seen cs o opened-session ps

    formula-of : Formula (state_in o) (seen cs)
    formula-of = subst (Formula (state_in o)) (sym seen-is) (turns-formula (state_in o) (requests cs) (within (requests cs)))

    planned-of : (plan : List ℕ) → length plan ≡ 8 → Keeps (plan_in plan) (state_in o) (requests cs) → transfers_of cs ≤ most_in o.session plan
    unfolding session_of
    planned-of plan l k =
        let t = (archive-follows o cs opened-session ps).transfers in
        rw (t, most-some o.session plan opened-session good l) (plan-kept (requests cs) (plan_in plan) k)

pub archive-formula : ArchiveFormula
archive-formula x made marks o cs b ps = formula-of x made marks o b cs ps

pub archive-planned : ArchivePlanned
archive-planned x made marks o cs plan b ps l k = planned-of x made marks o b cs ps plan l k
