-- The numbers that calls answer are small, so the two parts of a returned number are apart.
use Prim.Native.Nat.{ℕ, ◌≤◌, ◌<◌}
use mathlib.Core.Path.{◌≡◌, refl, sym, ◌∙◌}
use mathlib.Core.Bool.{Bool, true, false, ◌||◌}
use mathlib.Core.List.{List}
use native.Mathlib.Omega.{arith}
use borrow.Author.Tests.{ne_eqb, leb-true, leb-false}
use lib.Dec.{eqb, leb}
use Rattle.numbers.specs.Numbers as number_is
use Rattle.drum.specs.declared.Description.{Description}
use Rattle.rules.specs.State.{State}
use Rattle.rules.specs.Open.{create}
use Rattle.rules.specs.Requests.{Request, opening, closing, seeking, advancing, inserting, deleting, updating, extending, answer}
use Rattle.demands.specs.Answering.{open_refuses, plain_refuses, keyed_refuses, finds, advances, inserts, extends, can_answer}
use Rattle.demands.proofs.Answering.{can-answer, create-can}
use Rattle.capi.specs.Words.{packed}
use Rattle.capi.specs.Runs.{number_in, transfers_in}

module _ (n : ℕ) (above : number_is.bad_file < n) where
  is-not : (k : ℕ) → leb k number_is.bad_file ≡ true → eqb n k ≡ false
  is-not k h = let m = leb-true k number_is.bad_file h in ne_eqb n k (λ e. omega arith)

  neither : (a b : Bool) → a ≡ false → b ≡ false → (a || b) ≡ false
  neither a b e h = simp (e, h)

  none_above : (q : Request) → can_answer q n ≡ false
  unfolding can_answer open_refuses plain_refuses keyed_refuses finds advances inserts extends
  none_above (opening marks) = search (neither, is-not)
  none_above closing = search (neither, is-not)
  none_above (seeking w) = search (neither, is-not)
  none_above (advancing w) = search (neither, is-not)
  none_above (inserting w) = search (neither, is-not)
  none_above (deleting w) = search (neither, is-not)
  none_above (updating w) = search (neither, is-not)
  none_above (extending w) = search (neither, is-not)

number-most : (n : ℕ) → (number_is.bad_file < n → ⊥) → n ≤ number_is.bad_file
number-most n h = go (leb n number_is.bad_file) refl
  where
    go : (t : Bool) → leb n number_is.bad_file ≡ t → n ≤ number_is.bad_file
    go true e = leb-true n number_is.bad_file e
    go false e = absurd (h (leb-false n number_is.bad_file e))

clash : {A : Type 0} {t : Bool} → t ≡ true → t ≡ false → A
clash e h = absurd (let z : ◌≡◌ {A = Bool} true false = sym e ∙ h in let y : ◌≡◌ {A = ℕ} 0 1 = cc in omega arith)

pub number_small : (st : State) (q : Request) → (answer st q).number ≤ number_is.bad_file
number_small st q = number-most (answer st q).number (λ h. clash (can-answer st q) (none_above (answer st q).number h q))

pub created-small : (p : Description) (f : List ℕ) → (create p f).number ≤ number_is.bad_file
created-small p f =
    let n = (create p f).number in
    number-most n (λ h. clash (create-can p f) (neither n h _ _ (is-not n h number_is.wrong_size refl) (is-not n h number_is.done refl)))

pub number-unpacked : (t n : ℕ) → n ≤ number_is.bad_file → number_in (packed t n) ≡ n
unfolding packed
number-unpacked t n h = omega arith

pub transfers-unpacked : (t n : ℕ) → n ≤ number_is.bad_file → transfers_in (packed t n) ≡ t
unfolding packed
transfers-unpacked t n h = omega arith
