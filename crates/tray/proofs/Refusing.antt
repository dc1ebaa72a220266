-- The refusals of a tray: what follows where one is made, and where none is.
use mathlib.Core.Path.{◌≡◌, sym, ap, ◌∙◌}
use mathlib.Core.Bool.{Bool, true}
use mathlib.Core.List.{List, []}
use Prim.Native.Nat.{ℕ, ◌+◌, ◌*◌}
use lib.ListN.{length}
use Rattle.numbers.specs.Numbers.{done, wrong_size}
use Rattle.numbers.specs.Checked.{Checked, passed, refused, require}
use Rattle.numbers.specs.declared.Refusal.{Refusal}
use Rattle.numbers.specs.Refused.{number_of}
use Rattle.numbers.proofs.Passed.{Passed, chain, required}
use Rattle.rules.specs.State.{State, desc}
use Rattle.searchfile.specs.declared.Session as code
use Rattle.searchfile.specs.Promise.{given}
use Rattle.tray.specs.declared.Trayed.{Trayed}
use Rattle.tray.specs.Tray.{count_of, records_of, matches, inserts, tray_checks, after_checks, nsert_tray}
use Rattle.tray.specs.Promise.{counted_tray, answered_tray}
use Rattle.tray.proofs.Rows.{matches-long}

-- where none is made, the tray is as long as its first word says
module _ (st : State) (t : List ℕ) where
  matching : (x : Bool) → require (matches (desc st) t) wrong_size ≡ passed x → matches (desc st) t ≡ true
  matching x e = required _ _ _ e

  checks-passed : Passed (λ (x : Bool). matches (desc st) t ≡ true) (tray_checks st t)
  unfolding tray_checks
  checks-passed = search (chain, matching) depth 9

  pub whole-passed : (x : Bool) → tray_checks st t ≡ passed x → length t ≡ 1 + count_of t * (desc st).wpr
  whole-passed x e = matches-long (desc st) t (checks-passed.holds x e)

-- the returns of `nsert_tray`, by what its refusals come to
module _ (s : code.Session) (f b t : List ℕ) where
  pub tray-long : passed true ≡ tray_checks (given s f b []) t → length t ≡ 1 + count_of t * s.desc.wpr
  tray-long e = whole-passed (given s f b []) t true (sym e)

  pub call-refused : (e : Refusal) (n : ℕ) → refused (number_of e) ≡ tray_checks (given s f b []) t → n ≡ number_of e
      → answered_tray (record { stored = 0; number = n; transfers = 0; session = s }) f b ≡ counted_tray (nsert_tray (given s f b []) t)
  unfolding nsert_tray after_checks
  call-refused e n h is = ap (λ (c : Checked Bool). counted_tray (after_checks (given s f b []) t c)) (ap refused is ∙ h)

  pub call-made : (r : Trayed) (g d : List ℕ) → answered_tray r g d ≡ counted_tray (inserts (given s f b []) (records_of s.desc t) done)
      → passed true ≡ tray_checks (given s f b []) t → answered_tray r g d ≡ counted_tray (nsert_tray (given s f b []) t)
  unfolding nsert_tray after_checks
  call-made r g d e h = e ∙ ap (λ (c : Checked Bool). counted_tray (after_checks (given s f b []) t c)) h
