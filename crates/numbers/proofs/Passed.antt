-- A property that every value has which a chain of checks passes: one law for each form of a chain, so that `search` walks it; and what
-- a single line that was passed tells.
use Prim.Native.Nat.{ℕ, ◌≤◌}
use mathlib.Core.Path.{◌≡◌, refl, subst}
use mathlib.Core.Bool.{Bool, true, false, cond, ◌&&◌}
use lib.Dec.{leb}
use borrow.Author.Tests.{leb-true}
use native.Mathlib.Omega.{arith}
use Rattle.numbers.specs.Numbers.{bad_file}
use Rattle.numbers.specs.Checked.{Checked, passed, refused, ◌>>=◌, ◌>>◌, require, within, up_to}

-- P holds of whatever c passes
pub record Passed {A : Type 0} (P : A → Type 0) (c : Checked A) : Type 0 where
  pub holds : (a : A) → c ≡ passed a → P a

-- a refusal passes nothing
pub clash : {A B : Type 0} (n : ℕ) (a : A) → refused n ≡ passed a → B
clash n a e = absurd (let z : ◌≡◌ {A = ℕ} 0 1 = cc in omega arith)

pub by-refused : {B : Type 0} {P : B → Type 0} (n : ℕ) → Passed P (refused n)
by-refused n = record { holds = λ b e. clash n b e }

pub by-bind : {A B : Type 0} {P : B → Type 0} (m : Checked A) (rest : A → Checked B)
    → ((a : A) → m ≡ passed a → Passed P (rest a)) → Passed P (m >>= rest)
by-bind (refused n) rest h = by-refused n
by-bind (passed a) rest h = h a refl

pub by-then : {A B : Type 0} {P : B → Type 0} (m : Checked A) (rest : Checked B)
    → ((a : A) → m ≡ passed a → Passed P rest) → Passed P (m >> rest)
by-then (refused n) rest h = by-refused n
by-then (passed a) rest h = h a refl

-- the test's value is handed on
pub by-test : {B : Type 0} {P : B → Type 0} (t : Bool) (a b : Checked B)
    → (t ≡ true → Passed P a) → (t ≡ false → Passed P b) → Passed P (cond t a b)
by-test true a b ha hb = ha refl
by-test false a b ha hb = hb refl

pub by-passed : {B : Type 0} {P : B → Type 0} (b : B) → P b → Passed P (passed b)
by-passed {B} {P} b h = record { holds = λ c e. subst P (let z : b ≡ c = cc in z) h }

pub ruleset chain = (by-refused, by-bind, by-then, by-test, by-passed)

-- one step of a chain, taken apart
pub bind-passed : {A B : Type 0} (x : Checked A) (rest : A → Checked B) (b : B) → x >>= rest ≡ passed b
    → (a : A) × (x ≡ passed a) × (rest a ≡ passed b)
bind-passed (refused n) rest b e = clash n b e
bind-passed (passed a) rest b e = (a, refl, e)

pub then-passed : {B : Type 0} (t : Bool) (n : ℕ) (rest : Checked B) (b : B) → require t n >> rest ≡ passed b → (t ≡ true) × (rest ≡ passed b)
then-passed true n rest b e = (refl, e)
then-passed false n rest b e = clash n b e

-- a passed `require`: the test holds
pub required : (t : Bool) (n : ℕ) (a : Bool) → require t n ≡ passed a → t ≡ true
required true n a e = refl
required false n a e = clash n a e

-- a passed number is the one that was tested
passed_on : (t : Bool) (n x y : ℕ) → require t n >> passed x ≡ passed y → (t ≡ true) × (x ≡ y)
passed_on true n x y e = (refl, cc)
passed_on false n x y e = clash n y e

pub both : (a b : Bool) → (a && b) ≡ true → (a ≡ true) × (b ≡ true)
both true b e = (refl, e)
both false b e = absurd (let z : ◌≡◌ {A = ℕ} 0 1 = cc in omega arith)

-- a passed `within`: the number lies in the range
pub ranged : (lo hi x y : ℕ) → within lo hi x ≡ passed y → (lo ≤ x) × (x ≤ hi) × (x ≡ y)
ranged lo hi x y e =
    let a = passed_on (leb lo x && leb x hi) bad_file x y e in
    let b = both (leb lo x) (leb x hi) a.0 in
    (leb-true lo x b.0, leb-true x hi b.1, a.1)

-- a passed `up_to`: the number is not above the limit
pub limited : (hi x y : ℕ) → up_to hi x ≡ passed y → (x ≤ hi) × (x ≡ y)
limited hi x y e =
    let a = passed_on (leb x hi) bad_file x y e in
    (leb-true x hi a.0, a.1)
