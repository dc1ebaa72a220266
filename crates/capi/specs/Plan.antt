-- `nasturakh_most_transfers(session, plan)`: the most transfers that a planned session can cost.
use Rattle.std.specs.Prelude.{ℕ, ◌≤◌, ◌≡◌, Bool, false, cond, ◌&&◌, List, eqb, length, get_or}
use Rattle.drum.specs.Params.{good_params}
use Rattle.demands.specs.declared.Plan.{Plan}
use Rattle.demands.specs.Planned.{planned}
use Rattle.capi.specs.Words.{is_session, parameters_in, most_word}

-- the eight words of a plan: how many SEEK, UPDAT, NSERT, ADV, DLETE, XTEND and CLOSE, and how many records NSERT and XTEND are to put in
unfoldable pub plan_in : List ℕ → Plan
plan_in ws = record {
  seeks = get_or ws 0 0;
  updats = get_or ws 1 0;
  nserts = get_or ws 2 0;
  advs = get_or ws 3 0;
  dletes = get_or ws 4 0;
  xtends = get_or ws 5 0;
  closes = get_or ws 6 0;
  records = get_or ws 7 0;
}

-- whether there is a plan: a session slice that is one, parameters in range, and "exactly" eight words
unfoldable pub is_plan : List ℕ → List ℕ → Bool
is_plan ws plan = is_session ws && (good_params (parameters_in ws) && eqb (length plan) 8)

-- 2^64 - 1: there is none
abbrev pub no_plan : ℕ
no_plan = 18446744073709551615

-- the formula's bound, by the session's parameters
unfoldable pub most_in : List ℕ → List ℕ → ℕ
most_in ws plan = cond (is_plan ws plan) (planned (parameters_in ws) (plan_in plan)) no_plan

-- that number can't be mistaken for a bound: no plan of 32-bit words has it
abbrev pub OnlyNoPlan : Type 0
OnlyNoPlan = (ws plan : List ℕ) → ((i : ℕ) → get_or plan i 0 ≤ most_word) → most_in ws plan ≡ no_plan → is_plan ws plan ≡ false
