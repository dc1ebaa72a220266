-- `searchfile::Session::after` meets its contract: position is written only where the steps say so.
use mathlib.Core.Path.{◌≡◌, refl}
use mathlib.Core.Bool.{Bool, true, false, cond}
use Rattle.rules.specs.State.{holding, positioned}
use Rattle.searchfile.proofs.Session.after.Goals as goal

-- one of two values, told by a test that is known
when_true : {A : Type 0} (t : Bool) (x p h : A) → t ≡ true → x ≡ p → x ≡ cond t p h
when_true t x p h e q = rw e q

when_false : {A : Type 0} (t : Bool) (x p h : A) → t ≡ false → x ≡ h → x ≡ cond t p h
when_false t x p h e q = rw e q

pub put_key-requires : goal.put_key-requires
put_key-requires c = c.requires

pub returns-then-done : goal.returns-then-done
unfolding holding positioned
returns-then-done c = (refl, refl, when_true _ _ _ _ c.if-done.true (rw c.put_key.ensures))

pub returns-else-done : goal.returns-else-done
unfolding holding positioned
returns-else-done c = (refl, refl, when_false _ _ _ _ c.if-done.false refl)
