-- `nasturakh_most_blocks(session, names)`, `nasturakh_most_sections(session, names)`: the space of so many names. Nothing is proved here.
use Rattle.std.specs.Prelude.{ℕ, ◌+◌, ◌≤◌, ◌<◌, ◌≡◌, Bool, false, cond, ◌&&◌, List}
use Rattle.numbers.specs.Numbers.{no_room}
use Rattle.drum.specs.declared.Description.{Description}
use Rattle.drum.specs.Params.{good_params}
use Rattle.rules.specs.Requests.{inserting}
use Rattle.demands.specs.Formula.{detail_blocks, index_blocks, M}
use Rattle.demands.specs.Full.{OnlyNserts}
use Rattle.demands.specs.Space.{most_sections, most_blocks}
use Rattle.capi.specs.Words.{is_session, parameters_in, most_word}
use Rattle.capi.specs.Calls.{Returned}
use Rattle.capi.specs.Plan.{no_plan}
use Rattle.capi.specs.Runs.{number_in, state_in, promised, Call, Promises, last, requests, Begins}

-- whether there are parameters to plan by: a session slice that is one, and parameters in range
unfoldable pub is_planner : List ℕ → Bool
is_planner ws = is_session ws && good_params (parameters_in ws)

-- a number of blocks, by the session's parameters; 2^64 - 1 where there are none [F9]
unfoldable pub space_in : (Description → ℕ → ℕ) → List ℕ → ℕ → ℕ
space_in most ws names = cond (is_planner ws) (most (parameters_in ws) names) no_plan

-- that number can't be mistaken for a bound: no 32-bit number of names has it
abbrev pub OnlyNoSpace : Type 0
OnlyNoSpace = (ws : List ℕ) (names : ℕ) → names ≤ most_word
    → (space_in most_blocks ws names ≡ no_plan → is_planner ws ≡ false) × (space_in most_sections ws names ≡ no_plan → is_planner ws ≡ false)

-- two results of either function are equal
abbrev pub OneSpace : Type 0
OneSpace = (most : Description → ℕ → ℕ) (ws : List ℕ) (names r s : ℕ) → r ≡ space_in most ws names → s ≡ space_in most ws names → r ≡ s

-- no DLETE and no XTEND is accepted in a run of the functions, from CREATE and OPEN on, and at most so many NSERTs are: the sections and blocks in
-- use, by the words of the file that it leaves, are no more than the two functions return [F5, F9]
abbrev pub ArchiveSpace : Type 0
ArchiveSpace =
    (x made : Returned) (marks : List ℕ) (o : Returned) (cs : List Call) (names : ℕ) → Begins x made marks o → Promises o cs
    → OnlyNserts (state_in o) (requests cs) → M (state_in o) (requests cs) ≤ names
    → let now = state_in (last o cs) in
    (index_blocks now ≤ space_in most_sections o.session names) × (detail_blocks now + index_blocks now ≤ space_in most_blocks o.session names)

-- where N and CONTROL are no less than what they return, and fewer names have been accepted, `nasturakh_nsert` does not answer 070002 [F9]
abbrev pub ArchiveRoom : Type 0
ArchiveRoom =
    (x made : Returned) (marks : List ℕ) (o : Returned) (cs : List Call) (names : ℕ) → Begins x made marks o → Promises o cs
    → OnlyNserts (state_in o) (requests cs)
    → space_in most_blocks o.session names ≤ (parameters_in o.session).n → space_in most_sections o.session names ≤ (parameters_in o.session).control
    → M (state_in o) (requests cs) < names
    → (work : List ℕ) → number_in (promised (last o cs) (inserting work)).answer ≡ no_room → ⊥
