-- The refusals before a call's steps: told one by one or together, and what they leave to rely on.
use mathlib.Core.Path.{◌≡◌, refl, sym, ◌∙◌}
use mathlib.Core.Bool.{Bool, true, false, not, ◌&&◌}
use mathlib.Core.List.{List}
use Prim.Native.Nat.{ℕ, ◌+◌, ◌≤◌}
use native.Mathlib.Omega.{arith}
use borrow.Author.Tests.{eqb-true}
use lib.Dec.{eqb}
use lib.ListN.{length}
use Rattle.numbers.specs.Numbers.{wrong_size, is_closed, wrong_key}
use Rattle.numbers.specs.Checked.{Checked, passed, refused, ◌>>◌, require}
use Rattle.numbers.proofs.Passed.{Passed, chain, required}
use Rattle.words.specs.Words.{part, all_words}
use Rattle.words.specs.Keys.{is_ones}
use Rattle.drum.specs.declared.Description.{Description}
use Rattle.drum.specs.Params.{sized, good_params, file_size}
use Rattle.drum.proofs.Good.{caps, sized-facts}
use Rattle.rules.specs.State.{State, Effect, desc, key_in}
use Rattle.rules.specs.Checks.{sizes_ok, work_ok, is_open, key_ok}
use Rattle.face.specs.Checks.{plain_checks, keyed_checks}

-- ---- the refusals of the table, told one by one or together

three : {A : Type 0} (a b c : Bool) (x y z : ℕ) (rest : Checked A)
    → require a x >> (require b y >> (require c z >> rest)) ≡ (require a x >> (require b y >> require c z)) >> rest
three false b c x y z rest = refl
three true false c x y z rest = refl
three true true false x y z rest = refl
three true true true x y z rest = refl

then-after : {A : Type 0} (m : Checked Bool) (t : Bool) (x : ℕ) (rest : Checked A) → m >> (require t x >> rest) ≡ (m >> require t x) >> rest
then-after (refused n) t x rest = refl
then-after (passed a) t x rest = refl

-- the refusals of a call on these words
abbrev pub plain : State → Checked Bool
plain st = plain_checks (desc st) st.session.opened (length st.file) (length st.buffer) (length st.work)

abbrev pub keyed : (Description → ℕ) → State → Checked Bool
keyed reads st = keyed_checks (desc st) st.session.opened (length st.file) (length st.buffer) st.work (reads (desc st))

module _ (st : State) where
  pub plain-chain : (steps : Checked Effect) → sizes_ok st >> (work_ok st >> (is_open st >> steps)) ≡ plain st >> steps
  unfolding sizes_ok work_ok is_open plain_checks
  plain-chain steps =
      three
      (sized (desc st) (length st.file) (length st.buffer))
      (eqb (length st.work) (desc st).wpr)
      st.session.opened
      wrong_size
      wrong_size
      is_closed
      steps

  pub keyed-chain : (reads : Description → ℕ) (steps : Checked Effect)
      → sizes_ok st >> (work_ok st >> (is_open st >> (key_ok (reads (desc st)) st >> steps))) ≡ keyed reads st >> steps
  unfolding key_ok keyed_checks
  keyed-chain reads steps =
      plain-chain (key_ok (reads (desc st)) st >> steps)
      ∙ then-after
      (plain st)
      (all_words (part 0 (reads (desc st)) st.work) && not (is_ones (key_in (desc st) st.work)))
      wrong_key
      steps

-- ---- what refusals that passed tell: good parameters, and the lengths

pub record Lent (p : Description) (file buffer work : ℕ) : Type 0 where
  pub good : good_params p ≡ true
  pub file-is : file ≡ file_size p
  pub buffer-is : buffer ≡ p.wpb
  pub work-is : work ≡ p.wpr

module _ (p : Description) (opened : Bool) (file buffer work : ℕ) where
  plain_lines : (x y : Bool) → require (sized p file buffer) wrong_size ≡ passed x → require (eqb work p.wpr) wrong_size ≡ passed y
      → Lent p file buffer work
  plain_lines x y h k =
      let s = sized-facts p file buffer (required _ _ _ h) in
      record { good = s.good; file-is = s.file-is; buffer-is = s.buffer-is; work-is = eqb-true _ _ (required _ _ _ k) }

  plain-passed : Passed (λ (x : Bool). Lent p file buffer work) (plain_checks p opened file buffer work)
  unfolding plain_checks
  plain-passed = search (chain, plain_lines) depth 9

  plain-line : (x : Bool) → plain_checks p opened file buffer work ≡ passed x → Lent p file buffer work
  plain-line x h = plain-passed.holds x h

  pub plain-lent : passed true ≡ plain_checks p opened file buffer work → Lent p file buffer work
  plain-lent e = plain-line true (sym e)

module _ (p : Description) (opened : Bool) (file buffer : ℕ) (work : List ℕ) (reads : ℕ) where
  lines : (x : Bool) → plain_checks p opened file buffer (length work) ≡ passed x → Lent p file buffer (length work)
  lines = plain-line p opened file buffer (length work)

  keyed-passed : Passed (λ (x : Bool). Lent p file buffer (length work)) (keyed_checks p opened file buffer work reads)
  unfolding keyed_checks
  keyed-passed = search (chain, lines) depth 9

  pub keyed-lent : passed true ≡ keyed_checks p opened file buffer work reads → Lent p file buffer (length work)
  keyed-lent e = keyed-passed.holds true (sym e)

  -- the words that it tests stand in the workspace
  pub reads-within : passed true ≡ plain_checks p opened file buffer (length work) → (good_params p ≡ true → reads ≤ p.wpr) → 0 + reads ≤ length work
  reads-within e h =
      let l = plain-lent p opened file buffer (length work) e in
      let r = h l.good in
      let q = l.work-is in
      omega arith

  pub key-within : passed true ≡ plain_checks p opened file buffer (length work) → 0 + p.k ≤ length work
  key-within e =
      let l = plain-lent p opened file buffer (length work) e in
      let g = caps p l.good in
      let q = l.work-is in
      omega arith
