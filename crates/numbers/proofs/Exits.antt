-- The exit of a `?`: it hands the refusal of a step on.
use mathlib.Core.Path.{◌≡◌, refl}
use mathlib.Core.Bool.{Bool, true, false}
use Prim.Native.Nat.{ℕ}
use Rattle.std.specs.Prelude.{Result, Ok, Err}
use Rattle.std.specs.Result.{IsErrAnd}
use Rattle.std.proofs.lemmas.Result.{err_from_is_err_and}
use Rattle.numbers.specs.declared.Refusal.{Refusal}
use Rattle.numbers.specs.Checked.{Checked, refused, require}
use Rattle.numbers.proofs.Passed.{clash}
use Rattle.numbers.specs.Refused.{checked, tested, number, number_of}

-- what is answered there is the refusal of the step that failed
pub handed : {B : Type 0} (r : Result B Refusal) (e : Refusal) (c : Checked B) → IsErrAnd r (λ y. y ≡ e) → refused (number_of e) ≡ c → checked r ≡ c
handed r e c q h = let p = err_from_is_err_and r q in rw (p.1, p.2) h

-- the same where what is answered there is a test
pub handed-test : (r : Result (Unit {0}) Refusal) (e : Refusal) (c : Checked Bool) → IsErrAnd r (λ y. y ≡ e) → refused (number_of e) ≡ c → tested r ≡ c
handed-test r e c q h = let p = err_from_is_err_and r q in rw (p.1, p.2) h

-- and the number that a call answers there
pub number-handed : {A : Type 0} (r : Result A Refusal) (e : Refusal) → IsErrAnd r (λ y. y ≡ e) → number r ≡ number_of e
number-handed r e q = let p = err_from_is_err_and r q in rw (p.1, p.2) refl

-- a test that refused does not hold, and the number is its own
pub broke : (t : Bool) (m n : ℕ) → refused m ≡ require t n → (t ≡ false) × (m ≡ n)
broke true m n e = clash m true e
broke false m n e = (refl, cc)
