-- Which call can answer which number: what every call comes to says it.
use Prim.Native.Nat.{ℕ}
use mathlib.Core.Path.{◌≡◌, refl, sym}
use mathlib.Core.Bool.{Bool, true, false, cond, ◌&&◌, ◌||◌}
use lib.Dec.{eqb}
use lib.ListN.{length}
use Rattle.numbers.specs.Numbers as number_is
use Rattle.drum.specs.Params.{good_params, file_size}
use Rattle.layout.specs.Create.{created}
use Rattle.rules.specs.State.{State, Outcome, outcome}
use Rattle.rules.specs.Lookup.{Reached, stopping}
use Rattle.rules.specs.Open.{Created, create}
use Rattle.rules.specs.Requests.{opening, closing, seeking, advancing, inserting, deleting, updating, extending}
use Rattle.demands.specs.Answering.{can_answer, CanAnswer, CreateCan}
use Rattle.demands.proofs.Refused.{impossible}
use Rattle.demands.proofs.Ends.{stopped, went}
use Rattle.demands.proofs.Came.{CameTo, Rested, came, barred, ended, rested}

or_right : (a b : Bool) → b ≡ true → (a || b) ≡ true
or_right true b e = refl
or_right false b e = e

or_left : (a b : Bool) → a ≡ true → (a || b) ≡ true
or_left true b e = refl
or_left false b e = impossible (sym e)

module _ (bar : ℕ → Bool) (st : State) where
  -- a call with steps: one of its refusals, or of the numbers that its steps end with
  among : (ok : ℕ → Bool) (R : Reached → Type 0) (o : Outcome) → CameTo bar ok R st o → (bar o.number || ok o.number) ≡ true
  unfolding outcome stopping
  among ok R _ (barred n b) = or_left (bar n) (ok n) b.is
  among ok R _ (ended _ (stopped n r e q a s)) = or_right (bar n) (ok n) e
  among ok R _ (ended e (went _ h q s k)) = or_right (bar e.number) (ok e.number) h

  -- OPEN and CLOSE: one of their refusals, or 0
  rests : (o : Outcome) → Rested bar st o → (bar o.number || eqb o.number number_is.done) ≡ true
  rests _ (barred n b) = or_left (bar n) (eqb n number_is.done) b.is
  rests o (rested _ e p k) = or_right (bar o.number) (eqb o.number number_is.done) (rw e)

pub can-answer : CanAnswer
unfolding can_answer
can-answer st (opening marks) = rests _ _ _ (came st (opening marks))
can-answer st closing = rests _ _ _ (came st closing)
can-answer st (seeking w) = among _ _ _ _ _ (came st (seeking w))
can-answer st (advancing w) = among _ _ _ _ _ (came st (advancing w))
can-answer st (inserting w) = among _ _ _ _ _ (came st (inserting w))
can-answer st (deleting w) = among _ _ _ _ _ (came st (deleting w))
can-answer st (updating w) = among _ _ _ _ _ (came st (updating w))
can-answer st (extending w) = among _ _ _ _ _ (came st (extending w))

pub create-can : CreateCan
unfolding create
create-can p f = go (good_params p && eqb (length f) (file_size p))
  where
    go : (t : Bool)
        → let n = (cond {A = Created} t (record { number = number_is.done; file = created p }) (record { number = number_is.wrong_size; file = f })).number in
        (eqb n number_is.wrong_size || eqb n number_is.done) ≡ true
    go true = refl
    go false = refl
