-- A call of the profile is the rules' where CONTROL is 1, and 020007 where it is not. The laws speak as the code does: s is the session, n the number of
-- the refusal, d what the steps gave, r the answer, and b₁, w₁ are the words left.
use Prim.Native.Nat.{ℕ}
use mathlib.Core.Path.{◌≡◌, refl, sym, ap, ◌∙◌}
use mathlib.Core.Bool.{Bool, true, false, cond}
use mathlib.Core.List.{List, []}
use Rattle.numbers.specs.Numbers.{done, wrong_size, reading_only}
use Rattle.numbers.specs.Checked.{Checked, passed, refused, ◌>>◌, require}
use Rattle.numbers.proofs.Passed.{then-passed}
use Rattle.words.specs.Words.{part, put}
use Rattle.rules.specs.State.{State, Effect, Outcome, desc, lent, texts, holding, positioned, at_rest, unchanged, settle}
use Rattle.rules.specs.Close.{close, close_checks, close_done}
use Rattle.rules.specs.Told.{gave, told}
use Rattle.rules.specs.declared.Done.{Done}
use Rattle.rules.specs.Lookup.{flush_moves}
use Rattle.drum.specs.declared.Description.{Description}
use Rattle.drum.specs.Blocks.{written}
use Rattle.face.specs.Counted.{counted, next}
use Rattle.face.proofs.Refusing.{plain, plain-chain}
use Rattle.face.proofs.Chains.{Chain, seen_of, told-seen, refused-by}
use Rattle.reading.specs.declared.ReadingSession.{ReadingSession}
use Rattle.reading.specs.Answers.{Answer}
use Rattle.reading.specs.Reading.{one_section, as_session, given, answered, profile, profile_checks, altering, read_close, read_alter}

-- the call itself
pub profile-is : (call : State → Outcome) (st : State) → one_section (desc st) ≡ true → profile call st ≡ call st
unfolding profile
profile-is call st e = simp e

-- its refusals: the profile's, and then the call's
abbrev pub profiled : (State → Checked Bool) → State → Checked Bool
profiled checks st = profile_checks (desc st) (checks st)

-- what is behind the profile's test, once all has passed
pub behind : (p : Description) (c : Checked Bool) → passed true ≡ profile_checks p c → passed true ≡ c
behind p c e = sym (then-passed (one_section p) wrong_size c true (sym e)).1

pub read-chain : {call : State → Outcome} {checks : State → Checked Bool} {steps : State → Checked Effect} → Chain call checks steps
    → Chain (profile call) (profiled checks) steps
unfolding profile settle
read-chain {call} {checks} {steps} chain = record { is = λ st. go st (one_section (desc st)) }
  where
    go : (st : State) (t : Bool) → cond t (call st) (unchanged st wrong_size) ≡ settle st ((require t wrong_size >> checks st) >> steps st)
    go st true = chain.is st
    go st false = refl

module _ {call : State → Outcome} {checks : State → Checked Bool} {steps : State → Checked Effect} (chain : Chain call checks steps)
    (s : ReadingSession) (f b w : List ℕ) (r : Answer) where
  abbrev from : State
  from = given s f b w

  -- the answer of a call that is refused
  pub read-refused : (n : ℕ) → r ≡ record { number = n; transfers = 0; session = s } → refused n ≡ profiled checks from
      → answered r f b w ≡ counted (profile call from)
  read-refused n e h =
      (λ j. answered (e j) f b w)
      ∙ sym (ap counted ((read-chain chain).is from) ∙ refused-by from (profiled checks from) n (steps from) (sym h))

  -- the answer of a call whose steps are made
  pub read_told : (b₁ w₁ : List ℕ) (d : Done) → gave d f b₁ w₁ ≡ told (texts from) false w (steps from)
      → (r.number ≡ d.number) × (r.transfers ≡ d.transfers) × (as_session r.session ≡ next (as_session s) d w₁)
      → passed true ≡ profiled checks from → answered r f b₁ w₁ ≡ counted (profile call from)
  read_told b₁ w₁ d e a h =
      (λ j. record { number = a.0 j; transfers = a.1 j; after = lent (a.2 j) f b₁ w₁ })
      ∙ ap (seen_of (as_session s)) e
      ∙ told-seen from (steps from)
      ∙ sym (ap counted ((read-chain chain).is from ∙ ap (λ (x : Checked Bool). settle from (x >> steps from)) (sym h)))

-- the session of an answer, where the steps left the flag off
module _ (s : ReadingSession) (d : Done) (w : List ℕ) (off : d.flag ≡ false) where
  pub after-placed : (at : List ℕ) → at ≡ put s.position 0 (part 0 s.desc.k w) → d.keyed ≡ true
      → record { desc = s.desc; opened = s.opened; current = d.current; flag = false; placed = true; position = at } ≡ next (as_session s) d w
  unfolding holding positioned
  after-placed at e k = rw (k, off, e)

  pub after_kept : d.keyed ≡ false
      → record { desc = s.desc; opened = s.opened; current = d.current; flag = false; placed = s.placed; position = s.position } ≡ next (as_session s) d w
  unfolding holding
  after_kept k = rw (k, off)

-- ---- the altering calls: their refusals, and then 020010

-- it has no steps but to refuse
abbrev pub alter-steps : State → Checked Effect
alter-steps st = refused reading_only

pub alter-chain : Chain altering plain alter-steps
unfolding altering
alter-chain = record { is = λ st. ap (settle st) (plain-chain st (refused reading_only)) }

pub read_only : (s : ReadingSession) (f b w : List ℕ) (r : Answer) → r ≡ record { number = reading_only; transfers = 0; session = s }
    → passed true ≡ profiled plain (given s f b w) → answered r f b w ≡ counted (read_alter (given s f b w))
unfolding settle
read_only s f b w r e h =
    let st = given s f b w in
    (λ j. answered (e j) f b w)
    ∙ sym (ap counted ((read-chain alter-chain).is st ∙ ap (λ (x : Checked Bool). settle st (x >> refused reading_only)) (sym h)))

-- ---- CLOSE

-- a test behind which nothing is asked
pub last_asked : (t : Bool) (n : ℕ) (c : Checked Bool) → c ≡ require t n → c ≡ (require t n >> passed true)
last_asked true n c e = e
last_asked false n c e = e

module _ (s : ReadingSession) (f b : List ℕ) where
  abbrev shut : State
  shut = given s f b []

  closing : read_close shut ≡ close_done shut (profiled close_checks shut)
  unfolding profile close close_done
  closing = go (one_section s.desc)
    where
      go : (t : Bool) → cond t (close shut) (unchanged shut wrong_size) ≡ close_done shut (require t wrong_size >> close_checks shut)
      go true = refl
      go false = refl

  -- a refusal leaves all as it was
  pub close_early : (n : ℕ) (r : Answer) → r ≡ record { number = n; transfers = 0; session = s } → refused n ≡ profiled close_checks shut
      → answered r f b [] ≡ counted (read_close shut)
  unfolding close_done
  close_early n r e h = (λ j. answered (e j) f b []) ∙ sym (ap counted (closing ∙ ap (close_done shut) (sym h)))

  -- nothing is written
  pub close-done : (rest : ReadingSession) → as_session rest ≡ at_rest false (as_session s) → passed true ≡ profiled close_checks shut
      → answered (record { number = done; transfers = 0; session = rest }) f b [] ≡ counted (read_close shut)
  unfolding close_done flush_moves written
  close-done rest e h =
      (λ j. record { number = done; transfers = 0; after = lent (e j) f b [] })
      ∙ sym (ap counted (closing ∙ ap (close_done shut) (sym h)))
