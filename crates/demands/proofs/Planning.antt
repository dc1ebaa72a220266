-- What the planner's code computes step by step is what the formula says of a plan.
use Prim.Native.Nat.{ℕ, zero, suc, max, ◌+◌, ◌*◌, ◌/◌}
use mathlib.Core.Path.{◌≡◌, refl, ◌∙◌}
use native.Mathlib.Nat.{max-eq_left}
use native.Mathlib.Omega.{arith}
use borrow.Author.Tests.{le-leb}
use Rattle.drum.specs.declared.Description.{Description}
use Rattle.drum.specs.Params.{D, I, FD, FI}
use Rattle.demands.specs.declared.Plan.{Plan}
use Rattle.demands.specs.Formula.{h_d, h_i}
use Rattle.demands.specs.Planned.{plan_shares, plan_details, plan_indexes, planned}
use Rattle.demands.specs.Reuse.{larger}
use Rattle.demands.specs.Space.{most_details, most_sections, most_blocks}

module _ (p : Description) (plan : Plan) where
  -- the detail blocks: the records by the larger half of D, and by FD
  pub details-by : (r records d d₀ fd fd₀ : ℕ) → r ≡ records / ((d + 1) / 2) + records / fd → records ≡ plan.records
      → d ≡ d₀ → d₀ ≡ D p → fd ≡ fd₀ → fd₀ ≡ FD p → r ≡ plan_details p plan
  unfolding plan_details h_d
  details-by r records d d₀ fd fd₀ e er ed e₀ ef e₁ = rw (e, er, ed, e₀, ef, e₁)

  -- all transfers: the shares, 4 for each detail block, 1 for each index block
  pub transfers-by : (shares details r i i₀ fi fi₀ : ℕ) → r ≡ details / ((i + 1) / 2) + details / fi → shares ≡ plan_shares plan
      → details ≡ plan_details p plan → i ≡ i₀ → i₀ ≡ I p → fi ≡ fi₀ → fi₀ ≡ FI p
      → shares + 4 * details + r ≡ planned p plan
  unfolding planned plan_indexes h_i
  transfers-by shares details r i i₀ fi fi₀ e es ed ei e₀ ef e₁ = rw (e, es, ed, ei, e₀, ef, e₁)

-- ---- the space of so many names

-- there is always one block
at_least_one : (x : ℕ) → max x 1 ≡ larger 1 x
unfolding larger
at_least_one zero = refl
at_least_one (suc x) = rw (max-eq_left {n = suc x} {m = 1} (omega arith), le-leb 1 (suc x) (omega arith)) refl

module _ (p : Description) (names : ℕ) where
  -- the records by the larger half of D, and one block at least
  pub names-details : (r x n half d d₀ : ℕ) → r ≡ max x 1 → x ≡ (n + 1) / half → n ≡ names → half ≡ (d + 1) / 2 → d ≡ d₀ → d₀ ≡ D p
      → r ≡ most_details p names
  unfolding most_details h_d
  names-details r x n half d d₀ er ex en eh ed e₀ = er ∙ at_least_one x ∙ rw (ex, en, eh, ed, e₀) refl

  -- these by the larger half of I, and one at least
  pub names-sections : (r x details half i i₀ : ℕ) → r ≡ max x 1 → x ≡ details / half → details ≡ most_details p names → half ≡ (i + 1) / 2 → i ≡ i₀
      → i₀ ≡ I p
      → r ≡ most_sections p names
  unfolding most_sections h_i
  names-sections r x details half i i₀ er ex ed eh ei e₀ = er ∙ at_least_one x ∙ rw (ex, ed, eh, ei, e₀) refl

  pub names-blocks : (details sections : ℕ) → details ≡ most_details p names → sections ≡ most_sections p names → details + sections ≡ most_blocks p names
  unfolding most_blocks
  names-blocks details sections ed es = rw (ed, es)
