-- What a planner of sheet runs uses: the most transfers that a session of so many calls can cost, by the session formula. Nothing is proved here.
use Rattle.std.specs.Prelude.{ℕ, ◌+◌, ◌*◌, ◌/◌, ◌≤◌, List, [], ◌∷◌}
use Rattle.drum.specs.declared.Description.{Description}
use Rattle.drum.specs.Params.{FD, FI}
use Rattle.rules.specs.State.{State, desc}
use Rattle.rules.specs.Requests.{Request, opening, closing, seeking, advancing, inserting, deleting, updating, extending}
use Rattle.demands.specs.declared.Plan.{Plan}
use Rattle.demands.specs.Formula.{h_d, h_i, M, all_transfers, AfterCreate}

-- "3·(SEEK+UPDAT+NSERT) + 5·ADV + 6·DLETE + 4·XTEND + CLOSE", with "XTEND's 4 becomes 6" [F4, E6]
unfoldable pub plan_shares : Plan → ℕ
plan_shares plan = 3 * (plan.seeks + plan.updats + plan.nserts) + 5 * plan.advs + 6 * plan.dletes + 6 * plan.xtends + plan.closes

-- "hD·S ≤ M, FD·X ≤ M": the most that S+X can be
unfoldable pub plan_details : Description → Plan → ℕ
plan_details p plan = plan.records / h_d p + plan.records / FD p

-- "hI·s ≤ S+X, FI·x ≤ S+X": the most that s+x can be
unfoldable pub plan_indexes : Description → Plan → ℕ
plan_indexes p plan = plan_details p plan / h_i p + plan_details p plan / FI p

-- "and the sum of transfers is at most .. + 4·(S+X) + s + x"
unfoldable pub planned : Description → Plan → ℕ
planned p plan = plan_shares plan + 4 * plan_details p plan + plan_indexes p plan

-- ---- a run that keeps to a plan

-- one call, by its kind. An OPEN is not planned: it costs none
abbrev pub calls : ℕ → ℕ → ℕ → ℕ → ℕ → ℕ → ℕ → Plan
calls seeks updats nserts advs dletes xtends closes =
    record { seeks = seeks; updats = updats; nserts = nserts; advs = advs; dletes = dletes; xtends = xtends; closes = closes; records = 0 }

-- the plan of one call [F4]
unfoldable pub one_call : Request → Plan
one_call (opening marks) = calls 0 0 0 0 0 0 0
one_call (seeking work) = calls 1 0 0 0 0 0 0
one_call (updating work) = calls 0 1 0 0 0 0 0
one_call (inserting work) = calls 0 0 1 0 0 0 0
one_call (advancing work) = calls 0 0 0 1 0 0 0
one_call (deleting work) = calls 0 0 0 0 1 0 0
one_call (extending work) = calls 0 0 0 0 0 1 0
one_call closing = calls 0 0 0 0 0 0 1

-- how many calls of a kind a run has: "calls counted whether refused or not"
unfoldable pub count_of : (Plan → ℕ) → List Request → ℕ
count_of kind [] = 0
count_of kind (q ∷ qs) = kind (one_call q) + count_of kind qs

-- no more calls of any kind than planned, and no more "records accepted by NSERT and XTEND"
pub record Keeps (plan : Plan) (st : State) (qs : List Request) : Type 0 where
  pub seeks : count_of (λ c. c.seeks) qs ≤ plan.seeks
  pub updats : count_of (λ c. c.updats) qs ≤ plan.updats
  pub nserts : count_of (λ c. c.nserts) qs ≤ plan.nserts
  pub advs : count_of (λ c. c.advs) qs ≤ plan.advs
  pub dletes : count_of (λ c. c.dletes) qs ≤ plan.dletes
  pub xtends : count_of (λ c. c.xtends) qs ≤ plan.xtends
  pub closes : count_of (λ c. c.closes) qs ≤ plan.closes
  pub records : M st qs ≤ plan.records

-- it costs no more transfers than are planned
abbrev pub PlanHolds : Type 0
PlanHolds = AfterCreate λ st qs. (plan : Plan) → Keeps plan st qs → all_transfers st qs ≤ planned (desc st) plan

-- of its records one may always plan as many as its NSERTs and XTENDs: a run on any words accepts no more
abbrev pub RecordsWithin : Type 0
RecordsWithin = (st : State) (qs : List Request) → M st qs ≤ count_of (λ c. c.nserts) qs + count_of (λ c. c.xtends) qs
