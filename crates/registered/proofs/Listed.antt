-- No name is listed twice, and the listing goes on in order: what `demands` promises of SEEK and ADV, of the state that the register's calls left.
use Prim.Native.Nat.{ℕ, ◌≤◌, ◌<◌}
use mathlib.Core.Path.{◌≡◌, sym, ap, subst}
use mathlib.Core.Bool.{Bool}
use mathlib.Core.List.{List, [], ◌∷◌}
use native.Mathlib.Omega.{arith}
use borrow.Author.Tests.{lt-ltb}
use lib.ListN.{length}
use Rattle.numbers.specs.Numbers.{wrong_size}
use Rattle.numbers.specs.Checked.{require}
use Rattle.rules.specs.State.{State, Outcome, desc, key_in}
use Rattle.rules.specs.Open.{open_file}
use Rattle.rules.specs.Adv.{adv}
use Rattle.rules.specs.Requests.{seeking, advancing, lending, answer, left}
use Rattle.demands.specs.History.{with_key}
use Rattle.demands.specs.Contents.{Contains}
use Rattle.demands.specs.Answers.{Sought, Advanced, Answered, ordinary, above_position}
use Rattle.demands.proofs.Mission.{second}
use Rattle.register.specs.Register.{has_state, checked, next}
use Rattle.registered.specs.Deeds.{Deed, listing, did, left_by, requests}
use Rattle.registered.specs.Listed.{NoNameTwice, ListsNext}
use Rattle.registered.proofs.Runs.{same-run}

-- at most one
one_only : (work : List ℕ) (rs : List (List ℕ)) (o : Outcome) → Sought work rs o → length rs ≤ 1
one_only work [] o s = omega arith
one_only work (r ∷ rs) o s = let n : length rs ≡ 0 = ap length s.0 in omega arith

-- the state of the register's run is that of the routine's, but for the workspace
module _ (st : State) (ds : List Deed) where
  pub is : left_by st ds ≡ lending (left_by st ds).work (left st (requests st ds))
  unfolding lending
  is = same-run st ds (left_by st ds).work

-- what is promised of a state holds of it with another workspace
answered-lent : (u : State) (w : List ℕ) (rows : List (List ℕ)) → Answered u rows → Answered (lending w u) rows
unfolding lending answer
answered-lent u w rows a = record { seek = a.seek; adv = a.adv; nsert = a.nsert; dlete = a.dlete; updat = a.updat; xtend = a.xtend }

pub contains-lent : (u : State) (w : List ℕ) (rows : List (List ℕ)) → Contains (lending w u) rows → Contains u rows
unfolding lending
contains-lent u w rows c = record { tree = c.tree; held = c.held; are = c.are }

answers : (st : State) (marks : List ℕ) → (open_file st marks).outcome.number ≡ 0 → (ds : List Deed) (rows : List (List ℕ))
    → Contains (left_by (open_file st marks).outcome.after ds) rows
    → Answered (left_by (open_file st marks).outcome.after ds) rows
answers st marks o ds rows c =
    let s = (open_file st marks).outcome.after in
    let u = left s (requests s ds) in
    let w = (left_by s ds).work in
    let d = contains-lent u w rows (subst (λ (x : State). Contains x rows) (is s ds) c) in
    subst (λ (x : State). Answered x rows) (sym (is s ds)) (answered-lent u w rows (second.answers st marks o (requests s ds) rows d))

pub no-name-twice : NoNameTwice
no-name-twice st marks o ds rows c work k =
    let now = left_by (open_file st marks).outcome.after ds in
    one_only work (with_key (desc now) (key_in (desc now) work) rows) (answer now (seeking work)) ((answers st marks o ds rows c).seek work k)

pub next-is : (now : State) (work : List ℕ) → (desc now).k < (desc now).wpr → answer now (advancing work) ≡ did now (listing work)
unfolding did next checked has_state answer lending
next-is now work h = ap (λ (t : Bool). checked (lending work now) (require t wrong_size) (adv (lending work now))) (sym (lt-ltb (desc now).k (desc now).wpr h))

pub lists-next : ListsNext
lists-next st marks o ds rows c work l h =
    let now = left_by (open_file st marks).outcome.after ds in
    subst (Advanced (desc now) (ordinary (desc now) (above_position now.session rows))) (next-is now work h) ((answers st marks o ds rows c).adv work l)
