-- A call of the register is its refusals and then what the routine does. The laws speak as the code does: s is the session, n the number of the
-- refusal, r the answer, and f₁, b₁, w₁ are the words left.
use Prim.Native.Nat.{ℕ, ◌-◌, ◌≤◌, ◌<◌}
use mathlib.Core.Path.{◌≡◌, refl, sym, ap, ◌∙◌}
use mathlib.Core.Bool.{Bool, true}
use mathlib.Core.List.{List}
use borrow.Author.Tests.{lt-ltb, le-ltb}
use Rattle.numbers.specs.Numbers.{wrong_size}
use Rattle.numbers.specs.Checked.{Checked, passed, refused, require}
use Rattle.words.specs.Words.{put, zeros}
use Rattle.rules.specs.State.{State, Outcome, desc, unchanged}
use Rattle.rules.specs.Seek.{seek}
use Rattle.rules.specs.Adv.{adv}
use Rattle.rules.specs.NsertDone.{nsert}
use Rattle.rules.specs.Requests.{lending}
use Rattle.searchfile.specs.declared.Session as code
use Rattle.searchfile.specs.Answers.{Answer}
use Rattle.searchfile.specs.Promise.{given, counted, answered}
use Rattle.register.specs.Names.{raw}
use Rattle.register.specs.Register.{has_state, checked, raw_name, enter, ask, next, move, spelled, romanise, turned, turn}
use Rattle.register.proofs.Refusing.{name_tests, spelled_tests, name-chain, spelled-chain, name-fits}
use Rattle.register.proofs.Records.{raw-written}

-- a call: what it refuses, and then what the routine does
pub record Guard (call : State → Outcome) (checks : State → Checked Bool) (rest : State → Outcome) : Type 0 where
  pub is : (st : State) → call st ≡ checked st (checks st) (rest st)

refused-by : (st : State) (m : Checked Bool) (o : Outcome) (n : ℕ) → m ≡ refused n → checked st m o ≡ unchanged st n
unfolding checked
refused-by st m o n e = ap (λ (x : Checked Bool). checked st x o) e

passed-by : (st : State) (m : Checked Bool) (o : Outcome) (x : Bool) → m ≡ passed x → checked st m o ≡ o
unfolding checked
passed-by st m o x e = ap (λ (c : Checked Bool). checked st c o) e

-- the answer of a call that is refused
pub guard-refused : {call : State → Outcome} {checks : State → Checked Bool} {rest : State → Outcome} → Guard call checks rest
    → (s : code.Session) (f b w : List ℕ) (n : ℕ) (r : Answer) → r ≡ record { number = n; transfers = 0; session = s }
    → refused n ≡ checks (given s f b w) → answered r f b w ≡ counted (call (given s f b w))
guard-refused {call} {checks} {rest} g s f b w n r e h =
    let st = given s f b w in
    (λ j. answered (e j) f b w) ∙ sym (ap counted (g.is st ∙ refused-by st (checks st) (rest st) n (sym h)))

-- the answer of a call that is not
pub guard_passed : {call : State → Outcome} {checks : State → Checked Bool} {rest : State → Outcome} → Guard call checks rest
    → (s : code.Session) (f b w f₁ b₁ w₁ : List ℕ) (r : Answer) → answered r f₁ b₁ w₁ ≡ counted (rest (given s f b w))
    → passed true ≡ checks (given s f b w) → answered r f₁ b₁ w₁ ≡ counted (call (given s f b w))
guard_passed {call} {checks} {rest} g s f b w f₁ b₁ w₁ r e h =
    let st = given s f b w in
    e ∙ sym (ap counted (g.is st ∙ passed-by st (checks st) (rest st) true (sym h)))

-- ---- the calls

pub enter-guard : Guard enter name_tests (λ st. nsert (lending (raw_name (desc st) st.work) st))
unfolding enter
enter-guard = record { is = λ st. ap (λ (c : Checked Bool). checked st c (nsert (lending (raw_name (desc st) st.work) st))) (name-chain st) }

pub ask-guard : Guard ask has_state seek
unfolding ask
ask-guard = record { is = λ st. refl }

pub next-guard : Guard next has_state adv
unfolding next
next-guard = record { is = λ st. refl }

pub romanise-guard : (spelling : List ℕ) → Guard (romanise spelling) (spelled_tests spelling) (λ st. move raw (spelled (desc st) spelling) st)
unfolding romanise
romanise-guard spelling = record { is = λ st. ap (λ (c : Checked Bool). checked st c (move raw (spelled (desc st) spelling) st)) (spelled-chain spelling st) }

pub turn-guard : (from to : ℕ) → Guard (turn from to) name_tests (λ st. move from (turned (desc st) to) st)
unfolding turn
turn-guard from to = record { is = λ st. ap (λ (c : Checked Bool). checked st c (move from (turned (desc st) to) st)) (name-chain st) }

-- ---- the moves, whatever their states and spellings

module _ (s : code.Session) (f b w : List ℕ) (n : ℕ) (r : Answer) (e : r ≡ record { number = n; transfers = 0; session = s }) where
  pub turn-refused : (from to : ℕ) → refused n ≡ name_tests (given s f b w) → answered r f b w ≡ counted (turn from to (given s f b w))
  turn-refused from to = guard-refused (turn-guard from to) s f b w n r e

  pub romanise-refused : (spelling : List ℕ) → refused n ≡ spelled_tests spelling (given s f b w)
      → answered r f b w ≡ counted (romanise spelling (given s f b w))
  romanise-refused spelling = guard-refused (romanise-guard spelling) s f b w n r e

pub romanise-passed : (s : code.Session) (f b w f₁ b₁ w₁ spelling : List ℕ) (r : Answer)
    → answered r f₁ b₁ w₁ ≡ counted (move raw (spelled s.desc spelling) (given s f b w)) → passed true ≡ spelled_tests spelling (given s f b w)
    → answered r f₁ b₁ w₁ ≡ counted (romanise spelling (given s f b w))
romanise-passed s f b w f₁ b₁ w₁ spelling r = guard_passed (romanise-guard spelling) s f b w f₁ b₁ w₁ r

pub turn-passed : (s : code.Session) (f b w f₁ b₁ w₁ : List ℕ) (from to : ℕ) (r : Answer)
    → answered r f₁ b₁ w₁ ≡ counted (move from (turned s.desc to) (given s f b w)) → passed true ≡ name_tests (given s f b w)
    → answered r f₁ b₁ w₁ ≡ counted (turn from to (given s f b w))
turn-passed s f b w f₁ b₁ w₁ from to r = guard_passed (turn-guard from to) s f b w f₁ b₁ w₁ r

-- ---- asking and listing, whose one test is of the data word

module _ {call rest : State → Outcome} (g : Guard call has_state rest) (s : code.Session) (f b w : List ℕ) (r : Answer) where
  pub state-none : r ≡ record { number = wrong_size; transfers = 0; session = s } → s.desc.wpr ≤ s.desc.k
      → answered r f b w ≡ counted (call (given s f b w))
  unfolding has_state
  state-none e h = guard-refused g s f b w wrong_size r e (ap (λ (t : Bool). require t wrong_size) (sym (le-ltb _ _ h)))

  pub state-some : (f₁ b₁ w₁ : List ℕ) → answered r f₁ b₁ w₁ ≡ counted (rest (given s f b w)) → s.desc.k < s.desc.wpr
      → answered r f₁ b₁ w₁ ≡ counted (call (given s f b w))
  unfolding has_state
  state-some f₁ b₁ w₁ e h = guard_passed g s f b w f₁ b₁ w₁ r e (ap (λ (t : Bool). require t wrong_size) (sym (lt-ltb _ _ h)))

-- ---- entering: NSERT of the workspace with zeros behind its key

pub enter-passed : (s : code.Session) (f b w f₁ b₁ w₁ : List ℕ) (r : Answer) → answered r f₁ b₁ w₁ ≡ counted (nsert (given s f b w₁))
    → w₁ ≡ put w s.desc.k (zeros (s.desc.wpr - s.desc.k)) → passed true ≡ name_tests (given s f b w)
    → answered r f₁ b₁ w₁ ≡ counted (enter (given s f b w))
unfolding lending
enter-passed s f b w f₁ b₁ w₁ r e i h =
    guard_passed enter-guard s f b w f₁ b₁ w₁ r
    (e ∙ ap (λ (x : List ℕ). counted (nsert (given s f b x))) (i ∙ raw-written s.desc w (name-fits _ _ _ _ w h)))
    h
