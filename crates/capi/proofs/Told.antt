-- A session call's promise, told in words: one law for every call, and what it asks of the answer before it is told. They speak as the
-- code does: s is the session that it reads from the words, a the session call's answer, r what it returns.
use Prim.Native.Nat.{ℕ, ◌≤◌}
use mathlib.Core.Path.{◌≡◌, sym, ap, ◌∙◌}
use mathlib.Core.Bool.{Bool, true, false, cond}
use mathlib.Core.List.{List, []}
use native.Mathlib.Omega.{arith}
use mir.Syntax.{w32}
use mir.Val.{Fits}
use lib.ListN.{length, get_or}
use Rattle.numbers.specs.Numbers.{wrong_size}
use Rattle.rules.specs.State.{Session, State, Outcome, lent}
use Rattle.rules.specs.Open.{open_file}
use Rattle.rules.specs.Run.{created_outcome}
use Rattle.searchfile.specs.declared.Session as code
use Rattle.searchfile.specs.Answers.{Answer}
use Rattle.searchfile.specs.Promise.{Counted, CountedOpen, held, given, counted, counted_open, answered, answered_open, creating}
use Rattle.capi.specs.Words.{is_session, parameters_in, session_of, words_of, packed}
use Rattle.capi.specs.Calls.{returned, told_in_words, told_open, marked, called, called_open, Tellable}
use Rattle.capi.proofs.Words.{session-facts, words-kept}
use Rattle.capi.proofs.Outcomes.{Telling, open-telling}

-- what a call is told as, by the test of the words
module _ (ws : List ℕ) (x : Bool) (is : is_session ws ≡ x) where
  called-by : (call : State → Outcome) (f b w : List ℕ)
      → cond x (told_in_words ws (counted (call (lent (session_of ws) f b w)))) (returned (packed 0 wrong_size) ws f b w) ≡ called call ws f b w
  unfolding called
  called-by call f b w = rw is

  open_by : (f b m : List ℕ)
      → cond x (told_open ws (counted_open (open_file (lent (session_of ws) f b []) m))) (marked (returned (packed 0 wrong_size) ws f b []) m)
      ≡ called_open ws f b m
  unfolding called_open
  open_by f b m = rw is

-- words that are no session's
module _ (ws : List ℕ) (not_one : is_session ws ≡ false) where
  pub called-none : (call : State → Outcome) (f b w : List ℕ) → returned wrong_size ws f b w ≡ called call ws f b w
  unfolding packed
  called-none = called-by ws false not_one

  pub open_none : (f b m : List ℕ) → marked (returned wrong_size ws f b []) m ≡ called_open ws f b m
  unfolding packed
  open_none = open_by ws false not_one

-- words that are one's
module _ (ws : List ℕ) (is : is_session ws ≡ true) where
  pub called-some : (call : State → Outcome) (f b w : List ℕ) → told_in_words ws (counted (call (lent (session_of ws) f b w))) ≡ called call ws f b w
  called-some = called-by ws true is

  pub open-some : (f b m : List ℕ) → told_open ws (counted_open (open_file (lent (session_of ws) f b []) m)) ≡ called_open ws f b m
  open-some = open_by ws true is

-- what CREATE answers is told, its session as it was; and it can be told
module _ (s : code.Session) (a : Answer) (f g : List ℕ) (e : answered a g [] [] ≡ counted (creating (given s f [] []))) where
  pub create-called : (ws : List ℕ) (r : ℕ) → held s ≡ session_of ws → r ≡ packed a.transfers a.number
      → is_session ws ≡ true → returned r ws g [] [] ≡ called creating ws f [] []
  unfolding creating created_outcome
  create-called ws r same p is =
      let k = words-kept ws is in
      let c = e ∙ ap (λ (x : Session). counted (creating (lent x f [] []))) same in
      (λ j. returned (p j) (sym k j) g [] [])
      ∙ (λ j. returned (packed (c j).transfers (c j).number) (words_of ws (session_of ws)) (c j).after.file [] [])
      ∙ called-some ws is creating f [] []

  pub create-few : a.transfers ≤ 16
  unfolding creating created_outcome
  create-few = let n : a.transfers ≡ 0 = ap (λ (x : Counted). x.transfers) e in omega arith

-- what the answer of a call is told as
module _ (ws : List ℕ) (s : code.Session) (a : Answer) where
  pub call-called : (call : State → Outcome) (f b w f₁ b₁ w₁ us : List ℕ) (r : ℕ)
      → answered a f₁ b₁ w₁ ≡ counted (call (given s f b w)) → held s ≡ session_of ws
      → (r ≡ packed a.transfers a.number) × (us ≡ words_of ws (held a.session))
      → is_session ws ≡ true → returned r us f₁ b₁ w₁ ≡ called call ws f b w
  call-called call f b w f₁ b₁ w₁ us r e same p is =
      (λ j. returned (p.0 j) (p.1 j) f₁ b₁ w₁)
      ∙ ap (told_in_words ws) e
      ∙ ap (λ (x : Session). told_in_words ws (counted (call (lent x f b w)))) same
      ∙ called-some ws is call f b w

  pub open-called : (f b m m₁ us : List ℕ) (r : ℕ)
      → answered_open a f b m₁ ≡ counted_open (open_file (given s f b []) m) → held s ≡ session_of ws
      → (r ≡ packed a.transfers a.number) × (us ≡ words_of ws (held a.session))
      → is_session ws ≡ true → marked (returned r us f b []) m₁ ≡ called_open ws f b m
  open-called f b m m₁ us r e same p is =
      (λ j. marked (returned (p.0 j) (p.1 j) f b []) m₁)
      ∙ ap (told_open ws) e
      ∙ ap (λ (x : Session). told_open ws (counted_open (open_file (lent x f b []) m))) same
      ∙ open-some ws is f b m

-- and it can be told: the call is given by hand, the rest is in reach
pub tellable : (call : State → Outcome) → ((st : State) → Telling st (call st))
    → (ws : List ℕ) (s : code.Session) (a : Answer) (f b w f₁ b₁ w₁ : List ℕ)
    → answered a f₁ b₁ w₁ ≡ counted (call (given s f b w)) → held s ≡ session_of ws → is_session ws ≡ true
    → ((i : ℕ) → Fits w32 (get_or ws i 0)) → Tellable ws a
unfolding session_of
tellable call tells ws s a f b w f₁ b₁ w₁ e same is word =
    let facts = session-facts ws is in
    let m = tells (given s f b w) in
    let p : (held s).desc ≡ parameters_in ws = ap (λ (x : Session). x.desc) same in
    let c : (held s).current ≡ get_or ws 7 0 = ap (λ (x : Session). x.current) same in
    let d : a.session.desc ≡ (call (given s f b w)).after.session.desc = ap (λ (x : Counted). x.after.session.desc) e in
    let u : a.session.current ≡ (call (given s f b w)).after.session.current = ap (λ (x : Counted). x.after.session.current) e in
    let n : a.transfers ≡ length (call (given s f b w)).transfers = ap (λ (x : Counted). x.transfers) e in
    let k = word 7 in
    record {
      session = record {
        whole = facts.whole;
        no_more = facts.no_more;
        same-parameters = sym (d ∙ m.same-parameters ∙ p);
        current-most = rw u (m.current-most (rw c (omega arith)));
      };
      few = rw n m.few;
    }

pub open-tellable : (ws : List ℕ) (s : code.Session) (a : Answer) (f b m m₁ : List ℕ)
    → answered_open a f b m₁ ≡ counted_open (open_file (given s f b []) m) → held s ≡ session_of ws → is_session ws ≡ true
    → ((i : ℕ) → Fits w32 (get_or ws i 0)) → Tellable ws a
open-tellable ws s a f b m m₁ e =
    tellable (λ st. (open_file st m).outcome) (λ st. open-telling st m) ws s a f b [] f b [] (ap (λ (o : CountedOpen). o.outcome) e)
