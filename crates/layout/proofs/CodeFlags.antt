-- What a function's answer says of the step that it stands for.
use mathlib.Core.Path.{◌≡◌, refl, sym, ◌∙◌}
use mathlib.Core.Bool.{Bool, true, false, not, ◌&&◌}
use mathlib.Core.List.{List}
use Prim.Native.Nat.{ℕ}
use borrow.Author.Tests.{not-true, not-false}
use Rattle.numbers.specs.Numbers.{bad_file}
use Rattle.std.specs.Prelude.{Result, Ok, Err}
use Rattle.std.specs.Result.{IsErrAnd}
use Rattle.std.proofs.lemmas.Result.{err_from_is_err_and}
use Rattle.numbers.specs.declared.Refusal.{Refusal}
use Rattle.numbers.specs.Refused.{number_of, tested}
use Rattle.numbers.specs.Checked.{Checked, passed, refused, ◌>>◌, require, between, within}
use Rattle.numbers.proofs.Passed.{clash}
use Rattle.layout.specs.Inspected.{flagged, found, stepped}

pub flagged-false : (r : Bool) (ms : List ℕ) → r ≡ false → flagged r ms ≡ refused bad_file
flagged-false r ms e = simp e

pub flagged-true : (r : Bool) (ms : List ℕ) → r ≡ true → flagged r ms ≡ passed ms
flagged-true r ms e = simp e

-- the same of a flag tested by `if !..`
pub halted : (r : Bool) (ms : List ℕ) (x : Checked (List ℕ)) → x ≡ flagged r ms → not r ≡ true → x ≡ refused bad_file
halted r ms x e n = e ∙ flagged-false r ms (not-true r n)

pub moved : (r : Bool) (ms : List ℕ) (x : Checked (List ℕ)) → x ≡ flagged r ms → not r ≡ false → x ≡ passed ms
moved r ms x e n = e ∙ flagged-true r ms (not-false r n)

-- the exit of a `?` in the walk: whatever was refused there, the file is bad
pub stopped : (r : Result (Unit {0}) Refusal) (e : Refusal) (ms : List ℕ) (x : Checked (List ℕ)) → IsErrAnd r (λ y. y ≡ e) → x ≡ refused bad_file → x ≡ stepped r ms
stopped r e ms x q h = let p = err_from_is_err_and r q in rw (p.1) h

pub unfound : {A : Type 0} (r : Result A Refusal) (e : Refusal) (x : Checked A) → IsErrAnd r (λ y. y ≡ e) → x ≡ refused bad_file → x ≡ found r
unfound r e x q h = let p = err_from_is_err_and r q in rw (p.1) h

pub by-test : (t : Bool) (n : ℕ) → refused n ≡ require t bad_file → require t bad_file ≡ refused bad_file
by-test true n e = clash n true e
by-test false n e = refl

pub by-range : (least most x n : ℕ) → refused n ≡ within least most x → within least most x ≡ refused bad_file
by-range least most x n e = go (between least most x) e
  where
    go : (t : Bool) → refused n ≡ require t bad_file >> passed x → require t bad_file >> passed x ≡ refused bad_file
    go true q = clash n x q
    go false q = refl

-- a function of the walk that ends with a test
pub last-test : (t : Bool) (r : Result (Unit {0}) Refusal) (ms : List ℕ) → tested r ≡ require t bad_file → require t bad_file >> passed ms ≡ stepped r ms
last-test true (Ok u) ms e = refl
last-test true (Err x) ms e = clash (number_of x) true e
last-test false (Ok u) ms e = clash bad_file true (sym e)
last-test false (Err x) ms e = refl

-- tests in a row, the first two together
pub grouped : (x y z : Bool) → (x && (y && z)) ≡ ((x && y) && z)
grouped true y z = refl
grouped false y z = refl
