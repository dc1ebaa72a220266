-- The copying call's answer from what the copying function left; and two results allowed by its promise are equal.
use Prim.Native.Nat.{ℕ}
use mathlib.Core.Path.{◌≡◌, sym, ◌∙◌}
use mathlib.Core.List.{List, []}
use Rattle.rules.specs.Copy.{copy_left, copy, copy_file}
use Rattle.searchfile.specs.declared.Session as code
use Rattle.searchfile.specs.Promise.{given}
use Rattle.searchfile.specs.Copying.{counted_copy, answered_copy, OneCopied}
use Rattle.searchfile.proofs.OneResult.{one_answer}

-- the number is the copying function's; session and file are those that came in
pub copy_told : (s : code.Session) (c n : ℕ) (f second marks x m : List ℕ) → copy_left n x m ≡ copy s.desc s.opened c f second marks
    → answered_copy (record { number = n; transfers = 0; session = s }) f x m ≡ counted_copy (copy_file (given s f [] []) second c marks)
unfolding copy_file
copy_told s c n f second marks x m e = λ j. record {
  outcome = record { number = (e j).number; transfers = 0; after = given s f [] [] };
  second = (e j).second;
  marks = (e j).marks;
}

pub one-copied : OneCopied
one-copied o r s f g x y m n a b =
    let e : answered_copy r f x m ≡ answered_copy s g y n = a ∙ sym b in
    let z = one_answer o.outcome r s f g [] [] [] [] (λ i. (a i).outcome) (λ i. (b i).outcome) in
    (z.0, z.1, λ i. (e i).second, λ i. (e i).marks)
