-- The numbers that a chain of checks can refuse with: one law for each form of a chain, so that `search` walks it.
use Prim.Native.Nat.{ℕ}
use mathlib.Core.Path.{◌≡◌, refl, subst}
use mathlib.Core.Bool.{Bool, true, false, cond}
use native.Mathlib.Omega.{arith}
use Rattle.words.proofs.Keys.{clash}
use Rattle.numbers.specs.Checked.{Checked, passed, refused, ◌>>=◌, ◌>>◌, require}

-- a test that is both passes anything
pub impossible : {A : Type 0} → ◌≡◌ {A = Bool} true false → A
impossible e = absurd (clash e)

-- c refuses with numbers of which P holds, or not at all
pub record Refuses {A : Type 0} (P : ℕ → Type 0) (c : Checked A) : Type 0 where
  pub number : (n : ℕ) → c ≡ refused n → P n

pub of-refused : {A : Type 0} {P : ℕ → Type 0} (n : ℕ) → P n → Refuses {A = A} P (refused n)
of-refused {A} {P} n h = record { number = λ m e. subst P (let z : n ≡ m = cc in z) h }

pub of-passed : {A : Type 0} {P : ℕ → Type 0} (a : A) → Refuses P (passed a)
of-passed a = record { number = λ m e. absurd (let z : ◌≡◌ {A = ℕ} 0 1 = cc in omega arith) }

pub of-bind : {A B : Type 0} {P : ℕ → Type 0} (m : Checked A) (rest : A → Checked B)
    → Refuses P m → ((a : A) → Refuses P (rest a)) → Refuses P (m >>= rest)
of-bind (refused n) rest h g = of-refused n (h.number n refl)
of-bind (passed a) rest h g = g a

pub of-then : {A B : Type 0} {P : ℕ → Type 0} (m : Checked A) (rest : Checked B)
    → Refuses P m → Refuses P rest → Refuses P (m >> rest)
of-then (refused n) rest h g = of-refused n (h.number n refl)
of-then (passed a) rest h g = g

pub of_test : {A : Type 0} {P : ℕ → Type 0} (t : Bool) (a b : Checked A) → Refuses P a → Refuses P b → Refuses P (cond t a b)
of_test true a b ha hb = ha
of_test false a b ha hb = hb

pub of-elim : {A : Type 0} {P : ℕ → Type 0} (t : Bool) (a b : Checked A)
    → Refuses P a → Refuses P b → Refuses {A = A} P (elim t [ true ↦ a | false ↦ b ])
of-elim true a b ha hb = ha
of-elim false a b ha hb = hb

pub of-require : {P : ℕ → Type 0} (t : Bool) (n : ℕ) → P n → Refuses P (require t n)
of-require true n h = of-passed true
of-require false n h = of-refused n h

pub ruleset refusing = (of-refused, of-passed, of-bind, of-then, of_test, of-require)
