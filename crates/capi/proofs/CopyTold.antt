-- The copying call's promise, told in words; and two results allowed by it are equal.
use Prim.Native.Nat.{ℕ, ◌≤◌}
use mathlib.Core.Path.{◌≡◌, sym, ap, ◌∙◌}
use mathlib.Core.Bool.{Bool, true, false, cond}
use mathlib.Core.List.{List, []}
use native.Mathlib.Omega.{arith}
use Rattle.numbers.specs.Numbers.{wrong_size}
use Rattle.rules.specs.State.{Session, lent}
use Rattle.rules.specs.Copy.{copy_file}
use Rattle.searchfile.specs.declared.Session as code
use Rattle.searchfile.specs.Answers.{Answer}
use Rattle.searchfile.specs.Promise.{held, given}
use Rattle.searchfile.specs.Copying.{CountedCopy, counted_copy, answered_copy}
use Rattle.capi.specs.Words.{is_session, session_of, words_of, packed}
use Rattle.capi.specs.Copying.{returned_copy, told_copy, called_copy, OneReturnedCopy}
use Rattle.capi.proofs.Words.{words-kept}

-- what is told, by the test of the words
copy-by : (ws f second m : List ℕ) (c : ℕ) (x : Bool) → is_session ws ≡ x
    → cond x (told_copy ws (counted_copy (copy_file (lent (session_of ws) f [] []) second c m))) (returned_copy (packed 0 wrong_size) ws f second m)
    ≡ called_copy ws f second c m
unfolding called_copy
copy-by ws f second m c x is = rw is

module _ (ws : List ℕ) where
  -- words that are no session's
  pub copy-none : (f second m : List ℕ) (c : ℕ) → is_session ws ≡ false → returned_copy wrong_size ws f second m ≡ called_copy ws f second c m
  unfolding packed
  copy-none f second m c not_one = copy-by ws f second m c false not_one

  -- what the answer of the session's call is told as; the words are still the session's
  pub copy-called : (s : code.Session) (a : Answer) (f second m x n : List ℕ) (c r : ℕ)
      → answered_copy a f x n ≡ counted_copy (copy_file (given s f [] []) second c m) → held s ≡ session_of ws
      → r ≡ packed a.transfers a.number → is_session ws ≡ true → returned_copy r ws f x n ≡ called_copy ws f second c m
  unfolding copy_file
  copy-called s a f second m x n c r e same p is =
      let kept : words_of ws (held a.session) ≡ ws =
      ap (λ (o : CountedCopy). words_of ws o.outcome.after.session) e ∙ ap (words_of ws) same ∙ words-kept ws is in
      (λ j. returned_copy (p j) (sym kept j) f x n)
      ∙ ap (told_copy ws) e
      ∙ ap (λ (o : Session). told_copy ws (counted_copy (copy_file (lent o f [] []) second c m))) same
      ∙ copy-by ws f second m c true is

-- no transfers
pub copy-free : (s : code.Session) (a : Answer) (f second m x n : List ℕ) (c : ℕ)
    → answered_copy a f x n ≡ counted_copy (copy_file (given s f [] []) second c m) → a.transfers ≤ 16
unfolding copy_file
copy-free s a f second m x n c e =
    let z : a.transfers ≡ 0 = ap (λ (o : CountedCopy). o.outcome.transfers) e in
    omega arith

pub one-returned-copy : OneReturnedCopy
one-returned-copy ws file second marks c r s us vs f g x y m n a b =
    let e : returned_copy r us f x m ≡ returned_copy s vs g y n = a ∙ sym b in
    (λ i. (e i).answer, λ i. (e i).session, λ i. (e i).file, λ i. (e i).second, λ i. (e i).marks)
