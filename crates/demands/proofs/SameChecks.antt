-- Two chains of checks that come to the same: one law for each form of a chain.
use mathlib.Core.Path.{◌≡◌, refl, subst}
use mathlib.Core.Bool.{Bool, true, false, cond}
use Rattle.numbers.specs.Checked.{Checked, passed, refused, ◌>>=◌, ◌>>◌}

-- two chains of checks that come to the same: one law for each form of a chain
pub record SameChecks {A : Type 0} (c d : Checked A) : Type 0 where
  pub is : c ≡ d

pub same_refl : {A : Type 0} (c : Checked A) → SameChecks c c
same_refl c = record { is = refl }

pub same-bind : {A B : Type 0} (m n : Checked A) (r s : A → Checked B)
    → SameChecks m n → ((a : A) → m ≡ passed a → SameChecks (r a) (s a)) → SameChecks (m >>= r) (n >>= s)
same-bind {A} {B} m n r s h g = subst (λ (z : Checked A). SameChecks (m >>= r) (z >>= s)) h.is (go m g)
  where
    go : (c : Checked A) → ((a : A) → c ≡ passed a → SameChecks (r a) (s a)) → SameChecks (c >>= r) (c >>= s)
    go (refused x) k = same_refl (refused x)
    go (passed a) k = k a refl

pub same_then : {A B : Type 0} (m n : Checked A) (r s : Checked B) → SameChecks m n → SameChecks r s → SameChecks (m >> r) (n >> s)
same_then {A} {B} m n r s h g = record { is = λ i. h.is i >> g.is i }

pub same_test : {B : Type 0} (t s : Bool) (a b c d : Checked B)
    → t ≡ s → (t ≡ true → SameChecks a c) → (t ≡ false → SameChecks b d) → SameChecks (cond t a b) (cond s c d)
same_test {B} t s a b c d e h g = subst (λ (z : Bool). SameChecks (cond t a b) (cond z c d)) e (go t h g)
  where
    go : (z : Bool) → (z ≡ true → SameChecks a c) → (z ≡ false → SameChecks b d) → SameChecks (cond z a b) (cond z c d)
    go true x y = x refl
    go false x y = y refl
