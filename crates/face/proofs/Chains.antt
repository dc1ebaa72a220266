-- A call that is lent a workspace is its refusals and then its steps; and what a caller sees of it.
use mathlib.Core.Path.{◌≡◌, refl, ap}
use mathlib.Core.Bool.{Bool, cond}
use Prim.Native.Nat.{ℕ}
use Rattle.numbers.specs.Checked.{Checked, passed, refused, ◌>>◌}
use Rattle.rules.specs.State.{Session, State, Effect, Outcome, lent, texts, key_in, position_key, holding, positioned, outcome, unchanged, settle}
use Rattle.rules.specs.Told.{Told, told}
use Rattle.rules.specs.Seek.{seek, seek_steps, updat, updat_steps}
use Rattle.rules.specs.Adv.{adv, adv_steps}
use Rattle.rules.specs.NsertDone.{nsert, nsert_steps}
use Rattle.rules.specs.Dlete.{dlete, dlete_steps}
use Rattle.rules.specs.XtendDone.{xtend, xtend_steps}
use Rattle.face.specs.Counted.{Counted, counted}
use Rattle.face.proofs.Refusing.{plain, keyed, plain-chain, keyed-chain}

-- a call: what it refuses, and then its steps
pub record Chain (call : State → Outcome) (checks : State → Checked Bool) (steps : State → Checked Effect) : Type 0 where
  pub is : (st : State) → call st ≡ settle st (checks st >> steps st)

-- what a caller sees of steps that tell this
abbrev pub seen_of : Session → Told → Counted
seen_of s t = record {
  number = t.number;
  transfers = t.transfers;
  after = lent
      (cond t.keyed (positioned (key_in s.desc t.work) (holding t.current t.flag s)) (holding t.current t.flag s))
      t.file
      t.buffer
      t.work;
}

-- what the steps tell is what a caller sees of them
pub told-seen : (st : State) (c : Checked Effect) → seen_of st.session (told (texts st) st.session.flag st.work c) ≡ counted (settle st c)
unfolding settle outcome holding
told-seen st (refused n) = refl
told-seen st (passed e) = refl

-- a refusal leaves all unchanged
pub refused-by : (st : State) (m : Checked Bool) (n : ℕ) (steps : Checked Effect) → m ≡ refused n → counted (settle st (m >> steps)) ≡ counted (unchanged st n)
unfolding settle
refused-by st m n steps e = ap (λ (x : Checked Bool). counted (settle st (x >> steps))) e

-- ---- each call

pub seek-chain : Chain seek (keyed (λ p. p.k)) (λ st. seek_steps (texts st) st.session.flag st.work)
unfolding seek
seek-chain = record { is = λ st. ap (settle st) (keyed-chain st (λ p. p.k) _) }

pub updat-chain : Chain updat (keyed (λ p. p.wpr)) (λ st. updat_steps (texts st) st.session.flag st.work)
unfolding updat
updat-chain = record { is = λ st. ap (settle st) (keyed-chain st (λ p. p.wpr) _) }

pub nsert-chain : Chain nsert (keyed (λ p. p.wpr)) (λ st. nsert_steps (texts st) st.session.flag st.work)
unfolding nsert
nsert-chain = record { is = λ st. ap (settle st) (keyed-chain st (λ p. p.wpr) _) }

pub dlete-chain : Chain dlete (keyed (λ p. p.k)) (λ st. dlete_steps (texts st) st.session.flag st.work)
unfolding dlete
dlete-chain = record { is = λ st. ap (settle st) (keyed-chain st (λ p. p.k) _) }

pub xtend-chain : Chain xtend (keyed (λ p. p.wpr)) (λ st. xtend_steps (texts st) st.session.flag st.work)
unfolding xtend
xtend-chain = record { is = λ st. ap (settle st) (keyed-chain st (λ p. p.wpr) _) }

pub adv-chain : Chain adv plain (λ st. adv_steps (texts st) st.session.flag st.session.placed (position_key st.session))
unfolding adv
adv-chain = record { is = λ st. ap (settle st) (plain-chain st _) }
