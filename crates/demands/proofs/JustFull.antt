-- The bounds of how-full met, and broken where a DLETE or an XTEND is accepted too or there is one block only: runs after CREATE and OPEN with the
-- parameters 8 2 1 0 2 6 and 8 2 1 1 2 8 (D 3, I 3, h_d 2, h_i 2). By computation.
use Prim.Native.Nat.{ℕ}
use mathlib.Core.Path.{◌≡◌, refl}
use mathlib.Core.List.{List, [], ◌∷◌, ◌++◌, map}
use native.Mathlib.Omega.{arith}
use Rattle.numbers.specs.Numbers.{done}
use Rattle.words.specs.Words.{zeros}
use Rattle.drum.specs.declared.Description.{Description}
use Rattle.rules.specs.State.{State, lent}
use Rattle.rules.specs.Open.{create, open_file}
use Rattle.rules.specs.Run.{begun}
use Rattle.rules.specs.Requests.{Request, closing, inserting, deleting, extending}
use Rattle.rules.proofs.Computing.{computing}
use Rattle.demands.specs.Formula.{h_d, h_i, details_under, detail_blocks, index_blocks, accepted_by}
use Rattle.demands.specs.History.{event_of, events}
use Rattle.demands.specs.Contents.{records_below, records_above, changed}
use Rattle.demands.specs.Full.{other_change, Run, started, JustFull, OthersBreak, OneBreaks}
use Rattle.demands.specs.Reuse.{larger}
use Rattle.demands.specs.Space.{most_details, most_sections, most_blocks}
use Rattle.demands.proofs.Reached.{counts_of}
use Rattle.demands.proofs.Full.{run-rows}

abbrev odd : Description
odd = record { wpb = 8; wpr = 2; k = 1; space = 0; control = 2; n = 6; form = 1 }

abbrev spaced : Description
spaced = record { wpb = 8; wpr = 2; k = 1; space = 1; control = 2; n = 8; form = 1 }

-- a closed session over words that are all 0, the file made by CREATE
abbrev made_with : Description → State
made_with p = lent (begun p).session (create (begun p).session.desc (begun p).file).file (begun p).buffer (begun p).work

pub odd-creates : (create (begun odd).session.desc (begun odd).file).number ≡ done
unfolding computing
odd-creates = refl

pub odd-opens : (open_file (made_with odd) (zeros 6)).outcome.number ≡ done
unfolding computing
odd-opens = refl

spaced-creates : (create (begun spaced).session.desc (begun spaced).file).number ≡ done
unfolding computing
spaced-creates = refl

spaced-opens : (open_file (made_with spaced) (zeros 8)).outcome.number ≡ done
unfolding computing
spaced-opens = refl

abbrev run_odd : List Request → Run
run_odd qs = record {
  session = (begun odd).session;
  file = (begun odd).file;
  buffer = (begun odd).buffer;
  work = (begun odd).work;
  marks = zeros 6;
  creates = odd-creates;
  opens = odd-opens;
  calls = qs;
}

abbrev run_spaced : List Request → Run
run_spaced qs = record {
  session = (begun spaced).session;
  file = (begun spaced).file;
  buffer = (begun spaced).buffer;
  work = (begun spaced).work;
  marks = zeros 8;
  creates = spaced-creates;
  opens = spaced-opens;
  calls = qs;
}

abbrev rec : ℕ → ℕ → List ℕ
rec k x = k ∷ x ∷ []

-- seven NSERTs: four detail blocks of two records, the end record among them, and two index blocks of two entries
abbrev seven : List Request
seven = map inserting (rec 10 1 ∷ rec 20 2 ∷ rec 30 3 ∷ rec 15 4 ∷ rec 12 5 ∷ rec 17 6 ∷ rec 18 7 ∷ [])

pub just-full : JustFull
unfolding computing h_d h_i details_under detail_blocks index_blocks accepted_by other_change event_of events records_below records_above changed
just-full = record {
  run = run_odd seven;
  rows = _;
  stand = run-rows (run_odd seven);
  three-records = refl;
  three-entries = refl;
  only = refl;
  several = (omega arith, omega arith);
  details = refl;
  indexes = refl;
}

-- its numbers and transfers, with the CLOSE behind them; after the third NSERT two detail blocks and four records
pub seven-are : counts_of (started (run_odd [])) (seven ++ closing ∷ [])
    ≡ (done ∷ 2 ∷ []) ∷ (done ∷ 3 ∷ []) ∷ (done ∷ 7 ∷ []) ∷ (done ∷ 2 ∷ []) ∷ (done ∷ 7 ∷ []) ∷ (done ∷ 2 ∷ []) ∷ (done ∷ 8 ∷ []) ∷ (done ∷ 0 ∷ []) ∷ []
unfolding computing counts_of
seven-are = refl

-- N 6 and CONTROL 2 are what a planner takes for seven names: all of it is in use
pub seven-planned : (most_blocks odd 7 ≡ 6) × (most_sections odd 7 ≡ 2)
unfolding computing h_d h_i larger most_details most_sections most_blocks
seven-planned = (refl, refl)

-- NSERT 10, 20, 30 and DLETE 10: two detail blocks, three records
abbrev struck : Run
struck = run_odd (map inserting (rec 10 1 ∷ rec 20 2 ∷ rec 30 3 ∷ []) ++ deleting (rec 10 1) ∷ [])

-- NSERT 19 and XTEND 21, where SPACE is 1: two detail blocks, three records
abbrev started-anew : Run
started-anew = run_spaced (inserting (rec 19 1) ∷ extending (rec 21 2) ∷ [])

pub others-break : OthersBreak
unfolding computing h_d details_under detail_blocks event_of events records_below records_above changed
others-break = (
  record {
    run = struck;
    nserts = rec 10 1 ∷ rec 20 2 ∷ rec 30 3 ∷ [];
    last = rec 10 1;
    calls_are = refl;
    several = omega arith;
    broken = record { rows = _; stand = run-rows struck; fewer = omega arith };
  },
  record {
    run = started-anew;
    nserts = rec 19 1 ∷ [];
    last = rec 21 2;
    calls_are = refl;
    several = omega arith;
    broken = record { rows = _; stand = run-rows started-anew; fewer = omega arith };
  },
)

pub one-breaks : OneBreaks
unfolding computing h_d details_under detail_blocks event_of events records_below records_above changed
one-breaks = (run_odd [], refl, record { rows = _; stand = run-rows (run_odd []); fewer = omega arith })
