-- What a function promises is the call, told in words; so one call of a function leaves, in the words, what the call leaves.
use Prim.Native.Nat.{ℕ}
use mathlib.Core.Path.{◌≡◌, refl, sym, ap, ◌∙◌}
use mathlib.Core.Bool.{Bool, true, false}
use mathlib.Core.List.{List, []}
use native.Mathlib.Omega.{arith}
use borrow.Author.Tests.{eqb-false}
use lib.Dec.{eqb}
use lib.ListN.{length}
use Rattle.numbers.specs.Checked.{Checked, passed, refused}
use Rattle.words.specs.Words.{part}
use Rattle.words.proofs.Parts.{length_part}
use Rattle.rules.specs.State.{Session, State, Outcome, lent}
use Rattle.rules.specs.Open.{open_checks, open_done, open_layout, open_file}
use Rattle.rules.specs.Checks.{sizes_ok, is_open}
use Rattle.rules.specs.Close.{close_checks, close_done, close}
use Rattle.rules.specs.Seek.{seek, updat}
use Rattle.rules.specs.Adv.{adv}
use Rattle.rules.specs.NsertDone.{nsert}
use Rattle.rules.specs.Dlete.{dlete}
use Rattle.rules.specs.XtendDone.{xtend}
use Rattle.rules.specs.Requests.{Request, opening, closing, seeking, advancing, inserting, deleting, updating, extending, answer, given, lending}
use Rattle.drum.specs.declared.Description.{Description}
use Rattle.demands.proofs.Came.{same-parameters}
use Rattle.demands.proofs.Lengths.{lengths-kept}
use Rattle.searchfile.specs.Promise.{counted}
use Rattle.capi.specs.Words.{is_session, parameters_in, session_of}
use Rattle.capi.specs.Calls.{Returned, ReturnedOpen, told_in_words}
use Rattle.capi.specs.Runs.{number_in, transfers_in, state_in, keeping, promised}
use Rattle.capi.proofs.Words.{session-facts, form-none, session-kept, words_are}
use Rattle.capi.proofs.Told.{called-some, open-some}
use Rattle.capi.proofs.Unpacked.{number_small, number-unpacked, transfers-unpacked}

-- OPEN and CLOSE do not look at the workspace, and leave it
module _ (ws : List ℕ) (s : Session) (f b w : List ℕ) where
  -- told without it, and told with it
  abbrev Keeping : Outcome → Outcome → Type 0
  Keeping o p = keeping w (told_in_words ws (counted o)) ≡ told_in_words ws (counted p)

  closed-keeping : (c : Checked Bool) → Keeping (close_done (lent s f b []) c) (close_done (lent s f b w) c)
  unfolding close_done
  closed-keeping (refused n) = refl
  closed-keeping (passed x) = refl

  close-keeping : Keeping (close (lent s f b [])) (close (lent s f b w))
  unfolding close close_checks sizes_ok is_open
  close-keeping = closed-keeping (close_checks (lent s f b w))

  layout-keeping : (c : Checked (List ℕ)) → Keeping (open_layout (lent s f b []) c).outcome (open_layout (lent s f b w) c).outcome
  unfolding open_layout
  layout-keeping (refused n) = refl
  layout-keeping (passed ms) = refl

  opened-keeping : (marks : List ℕ) (c : Checked Bool) → Keeping (open_done (lent s f b []) marks c).outcome (open_done (lent s f b w) marks c).outcome
  unfolding open_done
  opened-keeping marks (refused n) = refl
  opened-keeping marks (passed x) = layout-keeping _

  open-keeping : (marks : List ℕ) → Keeping (open_file (lent s f b []) marks).outcome (open_file (lent s f b w) marks).outcome
  unfolding open_file open_checks sizes_ok
  open-keeping marks = opened-keeping marks (open_checks (lent s f b w) marks)

promised-told : (x : Returned) → is_session x.session ≡ true → (q : Request) → promised x q ≡ told_in_words x.session (counted (answer (state_in x) q))
unfolding promised answer lending
promised-told x ok (opening marks) =
    ap (λ (r : ReturnedOpen). keeping x.work r.returned) (sym (open-some x.session ok x.file x.buffer marks))
    ∙ open-keeping x.session (session_of x.session) x.file x.buffer x.work marks
promised-told x ok closing =
    ap (keeping x.work) (sym (called-some x.session ok close x.file x.buffer []))
    ∙ close-keeping x.session (session_of x.session) x.file x.buffer x.work
promised-told x ok (seeking w) = sym (called-some x.session ok seek x.file x.buffer w)
promised-told x ok (advancing w) = sym (called-some x.session ok adv x.file x.buffer w)
promised-told x ok (inserting w) = sym (called-some x.session ok nsert x.file x.buffer w)
promised-told x ok (deleting w) = sym (called-some x.session ok dlete x.file x.buffer w)
promised-told x ok (updating w) = sym (called-some x.session ok updat x.file x.buffer w)
promised-told x ok (extending w) = sym (called-some x.session ok xtend x.file x.buffer w)

given-session : (st : State) (q : Request) → (given st q).session ≡ st.session
unfolding given lending
given-session st (opening marks) = refl
given-session st closing = refl
given-session st (seeking w) = refl
given-session st (advancing w) = refl
given-session st (inserting w) = refl
given-session st (deleting w) = refl
given-session st (updating w) = refl
given-session st (extending w) = refl

-- ---- one call

module _ (x : Returned) (ok : is_session x.session ≡ true) (q : Request) (y : Returned) (p : y ≡ promised x q) where
  abbrev does : Outcome
  does = answer (state_in x) q

  is : y ≡ told_in_words x.session (counted does)
  is = p ∙ promised-told x ok q

  whole : length does.after.session.position ≡ 63
  unfolding session_of
  whole =
      let h = (session-facts x.session ok).whole in
      let l : length (part 10 63 x.session) ≡ 63 = length_part 10 63 x.session (omega arith) in
      (lengths-kept (state_in x) q).position (ap (λ (s : Session). length s.position) (given-session (state_in x) q) ∙ l)

  -- the parameters stay, and words without a place for the form are of the first
  first : eqb (length x.session) 74 ≡ false → does.after.session.desc.form ≡ 1
  unfolding session_of parameters_in
  first e =
      let f = session-facts x.session ok in
      let n : length x.session ≡ 74 → ⊥ = eqb-false (length x.session) 74 e in
      ap (λ (d : Description). d.form) (same-parameters (state_in x) q) ∙ sym (form-none x.session (omega (arith, f.no_more)))

  pub step-session : is_session y.session ≡ true
  step-session = ap (λ (r : Returned). is_session r.session) is ∙ words_are x.session does.after.session whole

  pub step-state : state_in y ≡ does.after
  step-state =
      let k = session-kept x.session does.after.session whole first in
      ap state_in is ∙ (λ j. lent (k j) does.after.file does.after.buffer does.after.work)

  pub step-number : number_in y.answer ≡ does.number
  step-number = ap (λ (r : Returned). number_in r.answer) is ∙ number-unpacked _ _ (number_small (state_in x) q)

  pub step-transfers : transfers_in y.answer ≡ length does.transfers
  step-transfers = ap (λ (r : Returned). transfers_in r.answer) is ∙ transfers-unpacked _ _ (number_small (state_in x) q)
