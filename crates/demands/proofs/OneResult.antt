-- Document 01, "What the promises pin": "Two results allowed by one promise are proved equal". Every promise is an equation: what a call
-- gave, its result and all the words it was lent, is what the definition tells.
use mathlib.Core.Path.{◌≡◌, sym, ◌∙◌}
use mathlib.Core.Bool.{Bool}
use mathlib.Core.List.{List}
use Prim.Native.Nat.{ℕ}
use Rattle.numbers.specs.Checked.{Checked}
use Rattle.drum.specs.Blocks.{Texts}
use Rattle.rules.specs.declared.Done.{Done}
use Rattle.rules.specs.State.{Effect}
use Rattle.rules.specs.Told.{gave, told}

pub one_told : {A : Type 0} (want one other : A) → one ≡ want → other ≡ want → one ≡ other
one_told want one other e g = e ∙ sym g

pub one-result : (v : Texts) (flag : Bool) (work : List ℕ) (c : Checked Effect) (r s : Done) (f g b d w u : List ℕ)
    → gave r f b w ≡ told v flag work c → gave s g d u ≡ told v flag work c → (r ≡ s) × (f ≡ g) × (b ≡ d) × (w ≡ u)
one-result v flag work c r s f g b d w u x y =
    let e : gave r f b w ≡ gave s g d u = x ∙ sym y in (
      λ i. record { number = (e i).number; transfers = (e i).transfers; current = (e i).current; flag = (e i).flag; keyed = (e i).keyed },
      λ i. (e i).file,
      λ i. (e i).buffer,
      λ i. (e i).work,
    )
