-- SEEK and UPDAT make at most 3 transfers, on all words: so a move's count has room in a number.
use Prim.Native.Nat.{ℕ, ◌≤◌}
use mathlib.Core.Path.{◌≡◌, refl, ap}
use mathlib.Core.Bool.{Bool}
use mathlib.Core.List.{List}
use native.Mathlib.Omega.{arith}
use lib.ListN.{length}
use Rattle.numbers.specs.Checked.{Checked, passed, refused}
use Rattle.numbers.proofs.Passed.{Passed, chain, by-passed}
use Rattle.drum.specs.Blocks.{Texts}
use Rattle.rules.specs.declared.Way.TheVariants.{By}
use Rattle.rules.specs.declared.Look.{Look}
use Rattle.rules.specs.declared.Look.TheVariants as look_is
use Rattle.rules.specs.State.{State, Effect, desc, texts, outcome, settle}
use Rattle.rules.specs.Checks.{keyed_call}
use Rattle.rules.specs.Lookup.{stopping, storing}
use Rattle.rules.specs.Seek.{giving, seek_done, seek_steps, seek, updat_done, updat_steps, updat}
use Rattle.rules.proofs.Sizes.{way-few}
use Rattle.searchfile.specs.Answers.{Answer}
use Rattle.searchfile.specs.Promise.{Counted, counted, answered}

-- at most 3
abbrev Few : Effect → Type 0
Few e = length e.transfers ≤ 3

module _ (v : Texts) (flag : Bool) (work : List ℕ) where
  seek-done : (l : Look) → Passed Few (seek_done v flag work l)
  unfolding seek_done giving stopping
  seek-done (look_is.Found way i) = by-passed _ (way-few v flag way)
  seek-done (look_is.Missing w) = by-passed _ (way-few v flag (By w))

  seek-steps : Passed Few (seek_steps v flag work)
  unfolding seek_steps
  seek-steps = search (chain, seek-done)

  updat-done : (l : Look) → Passed Few (updat_done v flag work l)
  unfolding updat_done storing stopping
  updat-done (look_is.Found way i) = by-passed _ (way-few v flag way)
  updat-done (look_is.Missing w) = by-passed _ (way-few v flag (By w))

  updat-steps : Passed Few (updat_steps v flag work)
  unfolding updat_steps
  updat-steps = search (chain, updat-done)

module _ (st : State) where
  settled : (c : Checked Effect) → Passed Few c → length (settle st c).transfers ≤ 3
  unfolding settle outcome
  settled (refused n) p = omega arith
  settled (passed e) p = p.holds e refl

  module _ (c : Checked Effect) (steps : Passed Few c) (reads : ℕ) where
    keyed : length (keyed_call reads st c).transfers ≤ 3
    keyed = settled _ (search (chain, steps) depth 9)

  pub seek-few : length (seek st).transfers ≤ 3
  unfolding seek
  seek-few = keyed _ (seek-steps (texts st) st.session.flag st.work) (desc st).k

  pub updat-few : length (updat st).transfers ≤ 3
  unfolding updat
  updat-few = keyed _ (updat-steps (texts st) st.session.flag st.work) (desc st).wpr

-- the count that UPDAT's answer carries
pub updated-few : (a : Answer) (f b w : List ℕ) (st : State) → answered a f b w ≡ counted (updat st) → a.transfers ≤ 3
updated-few a f b w st e =
    let n : a.transfers ≡ length (updat st).transfers = ap (λ (x : Counted). x.transfers) e in
    let l = updat-few st in
    omega arith
