-- A reading call's promise, told in words by the laws of the full set's calls. The laws speak as the code does: s is the reading session that it reads from
-- the words, a the reading call's answer, r what it returns.
use Prim.Native.Nat.{ℕ, zero, suc, ◌≤◌}
use mathlib.Core.Path.{◌≡◌, refl, sym, ap, ◌∙◌}
use mathlib.Core.Bool.{Bool, true, false, cond, not, ◌&&◌}
use mathlib.Core.List.{List, []}
use native.Mathlib.Omega.{arith}
use borrow.Author.Tests.{eqb-true, eq-eqb, ne_eqb}
use lib.Dec.{eqb}
use lib.ListN.{length, get_or}
use mir.Syntax.{w32}
use mir.Val.{Fits}
use Rattle.numbers.specs.Numbers.{wrong_size, is_closed, reading_only}
use Rattle.numbers.specs.Checked.{Checked, passed, refused, ◌>>◌, require}
use Rattle.words.proofs.All.{and_both}
use Rattle.drum.specs.Params.{sized}
use Rattle.rules.specs.State.{Session, State, Outcome, desc, lent, at_rest, unchanged, settle}
use Rattle.rules.specs.Checks.{sizes_ok, work_ok, is_open}
use Rattle.rules.specs.Open.{open_checks, open_layout}
use Rattle.searchfile.specs.declared.Session as code
use Rattle.searchfile.specs.Promise.{held}
use Rattle.searchfile.specs.Promise as full
use Rattle.face.specs.Counted.{CountedOpen, counted, counted_open}
use Rattle.reading.specs.declared.ReadingSession.{ReadingSession}
use Rattle.reading.specs.Answers.{Answer}
use Rattle.reading.specs.Finished.{finished_marks}
use Rattle.reading.specs.Reading.{one_section, as_session, given, answered, answered_open, profile, altering, read_open, read_open_done}
use Rattle.capi.specs.Words.{is_session, parameters_in, session_of, words_of, packed}
use Rattle.capi.specs.Calls.{Tellable, returned, told_in_words, told_open, marked}
use Rattle.capi.specs.View.{place_of}
use Rattle.capi.proofs.Words.{session-facts}
use Rattle.capi.proofs.Outcomes.{Telling}
use Rattle.capi.proofs.Told.{tellable}
use Rattle.creading.specs.Calls.{is_reading, called_reading, called_reading_open, viewed_reading, whole_session, whole_answer}

-- ---- what a call of the profile can be told of

none_told : (st : State) (n : ℕ) → Telling st (unchanged st n)
none_told st n = record { same-parameters = refl; current-most = λ h. h; few = omega arith }

pub profile-telling : (call : State → Outcome) → ((st : State) → Telling st (call st)) → (st : State) → Telling st (profile call st)
unfolding profile
profile-telling call tells st = go (one_section (desc st))
  where
    go : (t : Bool) → Telling st (cond t (call st) (unchanged st wrong_size))
    go true = tells st
    go false = none_told st wrong_size

alter-by : (st : State) (a b c : Bool) → Telling st (settle st (require a wrong_size >> (require b wrong_size >> (require c is_closed >> refused reading_only))))
unfolding settle
alter-by st true true true = none_told st _
alter-by st true true false = none_told st _
alter-by st true false c = none_told st _
alter-by st false b c = none_told st _

pub alter-telling : (st : State) → Telling st (altering st)
unfolding altering sizes_ok work_ok is_open
alter-telling st =
    alter-by st (sized (desc st) (length st.file) (length st.buffer)) (eqb (length st.work) (desc st).wpr) st.session.opened

layout-telling : (st : State) (c : Checked (List ℕ)) → Telling st (open_layout st c).outcome
unfolding open_layout at_rest
layout-telling st (refused n) = none_told st n
layout-telling st (passed m) = record { same-parameters = refl; current-most = λ h. omega arith; few = omega arith }

pub open-telling : (marks : List ℕ) (st : State) → Telling st (read_open st marks).outcome
unfolding read_open read_open_done
open-telling marks st = go (require (one_section (desc st)) wrong_size >> open_checks st marks)
  where
    go : (c : Checked Bool) → Telling st (read_open_done st marks c).outcome
    go (refused n) = none_told st n
    go (passed x) = layout-telling st (finished_marks (desc st) st.file)

-- ---- the words of a reading session

pub reading-none : (ws : List ℕ) → is_session ws ≡ false → is_reading ws ≡ false
unfolding is_reading
reading-none ws h = ap (λ (t : Bool). t && eqb (get_or ws 8 0) 0) h

-- a word that is 0 or 1 is 0, or 1
zero_or_one : (x : ℕ) → x ≤ 1 → eqb x 0 ≡ not (eqb x 1)
zero_or_one zero h = refl
zero_or_one (suc zero) h = refl
zero_or_one (suc (suc x)) h = absurd (omega arith)

module _ (ws : List ℕ) (is : is_session ws ≡ true) (s : code.Session) (same : held s ≡ session_of ws) where
  -- the flag of the session read from them says whether they are a reading session's
  reading_is : (t : Bool) → s.flag ≡ t → is_reading ws ≡ not t
  unfolding is_reading session_of
  reading_is t f =
      ap (λ (x : Bool). x && eqb (get_or ws 8 0) 0) is
      ∙ zero_or_one (get_or ws 8 0) (session-facts ws is).flag-most
      ∙ ap not (sym (ap (λ (x : Session). x.flag) same) ∙ f)

  pub reading-flagged : s.flag ≡ true → is_reading ws ≡ false
  reading-flagged = reading_is true

  pub reading-unflagged : s.flag ≡ false → is_reading ws ≡ true
  reading-unflagged = reading_is false

parts : (ws : List ℕ) → is_reading ws ≡ true → (is_session ws ≡ true) × (eqb (get_or ws 8 0) 0 ≡ true)
unfolding is_reading
parts ws = and_both (is_session ws) (eqb (get_or ws 8 0) 0)

-- the session read from them, without its flag
pub reading-by : (ws : List ℕ) (s : code.Session) → held s ≡ session_of ws → is_reading ws ≡ true
    → ◌≡◌ {A = Session}
    (record { desc = s.desc; opened = s.opened; current = s.current; flag = false; placed = s.placed; position = s.position }) (session_of ws)
unfolding session_of
reading-by ws s e is =
    let z = eqb-true (get_or ws 8 0) 0 (parts ws is).1 in
    let off : s.flag ≡ false = ap (λ (x : Session). x.flag) e ∙ ap (λ (n : ℕ). eqb n 1) z in
    (λ i. record { desc = s.desc; opened = s.opened; current = s.current; flag = sym off i; placed = s.placed; position = s.position }) ∙ e

-- ---- the calls

-- words that are no reading session's
module _ (ws : List ℕ) (h : is_reading ws ≡ false) where
  pub called-none : (call : State → Outcome) (f b w : List ℕ) → returned wrong_size ws f b w ≡ called_reading call ws f b w
  unfolding called_reading packed
  called-none call f b w = simp h

  pub open_none : (f b m : List ℕ) → marked (returned wrong_size ws f b []) m ≡ called_reading_open ws f b m
  unfolding called_reading_open packed
  open_none f b m = simp h

  pub view-none : (f b : List ℕ) (block : ℕ) → wrong_size ≡ viewed_reading ws f b block
  unfolding viewed_reading packed
  view-none f b block = simp h

-- words that are one's: the answer is told
module _ (ws : List ℕ) (s : ReadingSession) (a : Answer) where
  pub call-told : (call : State → Outcome) (f b w b₁ w₁ us : List ℕ) (r : ℕ) → answered a f b₁ w₁ ≡ counted (call (given s f b w))
      → as_session s ≡ session_of ws → (r ≡ packed a.transfers a.number) × (us ≡ words_of ws (as_session a.session))
      → is_reading ws ≡ true → returned r us f b₁ w₁ ≡ called_reading call ws f b w
  unfolding called_reading
  call-told call f b w b₁ w₁ us r e same p h =
      simp h
      ((λ j. returned (p.0 j) (p.1 j) f b₁ w₁)
      ∙ ap (told_in_words ws) e
      ∙ ap (λ (z : Session). told_in_words ws (counted (call (lent z f b w)))) same)

  pub open_told : (f b m m₁ us : List ℕ) (r : ℕ) → answered_open a f b m₁ ≡ counted_open (read_open (given s f b []) m)
      → as_session s ≡ session_of ws → (r ≡ packed a.transfers a.number) × (us ≡ words_of ws (as_session a.session))
      → is_reading ws ≡ true → marked (returned r us f b []) m₁ ≡ called_reading_open ws f b m
  unfolding called_reading_open
  open_told f b m m₁ us r e same p h =
      simp h
      ((λ j. marked (returned (p.0 j) (p.1 j) f b []) m₁)
      ∙ ap (told_open ws) e
      ∙ ap (λ (z : Session). told_open ws (counted_open (read_open (lent z f b []) m))) same)

-- and it can be told
pub can-tell : (call : State → Outcome) → ((st : State) → Telling st (call st))
    → (ws : List ℕ) (s : ReadingSession) (a : Answer) (f b w b₁ w₁ : List ℕ)
    → answered a f b₁ w₁ ≡ counted (call (given s f b w))
    → as_session s ≡ session_of ws → is_reading ws ≡ true → ((i : ℕ) → Fits w32 (get_or ws i 0)) → Tellable ws (whole_answer a)
can-tell call tells ws s a f b w b₁ w₁ e same h word =
    tellable call tells ws (whole_session s) (whole_answer a) f b w f b₁ w₁ e same (parts ws h).0 word

pub can-tell-open : (ws : List ℕ) (s : ReadingSession) (a : Answer) (f b m m₁ : List ℕ)
    → answered_open a f b m₁ ≡ counted_open (read_open (given s f b []) m)
    → as_session s ≡ session_of ws → is_reading ws ≡ true → ((i : ℕ) → Fits w32 (get_or ws i 0)) → Tellable ws (whole_answer a)
can-tell-open ws s a f b m m₁ e =
    can-tell (λ st. (read_open st m).outcome) (open-telling m) ws s a f b [] b [] (ap (λ (o : CountedOpen). o.outcome) e)

-- ---- VIEW

module _ (ws f b : List ℕ) (block : ℕ) (s : code.Session) (same : held s ≡ session_of ws) (h : is_reading ws ≡ true) where
  control : s.desc.control ≡ (parameters_in ws).control
  unfolding session_of
  control = ap (λ (x : Session). x.desc.control) same

  pub view-many : (s.desc.control ≡ 1 → ⊥) → 0 ≡ viewed_reading ws f b block
  unfolding viewed_reading
  view-many n = simp (h, ne_eqb (parameters_in ws).control 1 (λ x. n (control ∙ x)))

  pub view-told : (r : ℕ) → r ≡ place_of (full.given s f b []) block → s.desc.control ≡ 1 → r ≡ viewed_reading ws f b block
  unfolding viewed_reading
  view-told r q one =
      simp (h, eq-eqb (parameters_in ws).control 1 (sym control ∙ one))
      (q ∙ ap (λ (x : Session). place_of (lent x f b []) block) same)
