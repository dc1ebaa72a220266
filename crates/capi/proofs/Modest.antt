-- The steps of a call leave little to tell: a current block that is the one given, or 0, or one of 1..N, and at most 16 transfers. SEEK,
-- UPDAT and ADV.
use Prim.Native.Nat.{ℕ, ◌≤◌}
use mathlib.Core.Path.{◌≡◌}
use mathlib.Core.Bool.{Bool, true, false, cond}
use mathlib.Core.List.{List, [], ◌∷◌, ◌++◌}
use native.Mathlib.Omega.{arith}
use lib.Dec.{eqb}
use lib.ListN.{length, length-append}
use Rattle.numbers.specs.Checked.{passed}
use Rattle.numbers.proofs.Passed.{Passed, chain, by-passed}
use Rattle.drum.specs.Blocks.{Transfer, Read, Texts, Fitting}
use Rattle.drum.proofs.Good.{good-facts}
use Rattle.rules.specs.declared.Path.{Path}
use Rattle.rules.specs.declared.Way.{Way}
use Rattle.rules.specs.declared.Way.TheVariants.{Here, By}
use Rattle.rules.specs.declared.Look.{Look}
use Rattle.rules.specs.declared.Look.TheVariants as look_is
use Rattle.rules.specs.declared.Step.{Step}
use Rattle.rules.specs.declared.Step.TheVariants as step_is
use Rattle.rules.specs.State.{Effect, key_in}
use Rattle.rules.specs.Lookup.{Reached, flush_moves, bringing, reached, look, stopping, storing, landing}
use Rattle.rules.specs.Fits.{WayFits, LookFits, StepFits}
use Rattle.rules.specs.Seek.{giving, seek_done, seek_steps, updat_done, updat_steps}
use Rattle.rules.specs.Adv.{adv_giving, adv_reads, adv_step, adv_done, adv_steps}
use Rattle.rules.proofs.Fits.{look-passed, step-passed}
use Rattle.capi.specs.Words.{most_word}

pub record Modest (v : Texts) (e : Effect) : Type 0 where
  pub current-most : v.current ≤ most_word → e.current ≤ most_word
  pub few : length e.transfers ≤ 16

-- the same of a block that was reached
pub record Brought (v : Texts) (r : Reached) : Type 0 where
  pub current-most : v.current ≤ most_word → r.current ≤ most_word
  pub few : length r.moves ≤ 5

module _ (v : Texts) (fit : Fitting v.desc v.file v.buffer) where
  pub block-most : (b : ℕ) → b ≤ v.desc.n → b ≤ most_word
  block-most b h = let g = good-facts v.desc fit.good in omega arith

  flush-few : (flag : Bool) → length (flush_moves v flag) ≤ 1
  unfolding flush_moves
  flush-few true = omega arith
  flush-few false = omega arith

  brought : (flag : Bool) (b : ℕ) (reads : List Transfer) → b ≤ v.desc.n → length reads ≤ 4 → Brought v (bringing v flag b reads)
  unfolding bringing
  brought flag b reads h l =
      let f = flush-few flag in
      record { current-most = λ c. block-most b h; few = simp length-append (omega arith) }

  pub way-brought : (flag : Bool) (way : Way) → WayFits v flag way → Brought v (reached v flag way)
  unfolding reached
  way-brought flag Here h = record { current-most = λ c. c; few = omega arith }
  way-brought flag (By w) h = brought flag w.detail (Read w.index ∷ Read w.detail ∷ []) h.0.detail-most (omega arith)

  -- a call that stops, that gives a record, that stores, that lands on a new block
  pub stop-modest : (n : ℕ) (work : List ℕ) (r : Reached) → Brought v r → Modest v (stopping n work r)
  unfolding stopping
  stop-modest n work r b = record { current-most = b.current-most; few = let f = b.few in omega arith }

  give-modest : (r : Reached) (n i : ℕ) (keyed : Bool) → Brought v r → Modest v (giving v r n i keyed)
  unfolding giving
  give-modest r n i keyed b = record { current-most = b.current-most; few = let f = b.few in omega arith }

  pub store-modest : (n : ℕ) (work : List ℕ) (r : Reached) (t : List ℕ) → Brought v r → Modest v (storing n work r t)
  unfolding storing
  store-modest n work r t b = record { current-most = b.current-most; few = let f = b.few in omega arith }

  pub land-modest : (n : ℕ) (work : List ℕ) (moves : List Transfer) (b : ℕ) (f : List ℕ) → b ≤ v.desc.n → length moves ≤ 16
      → Modest v (landing v.desc n work moves b f)
  unfolding landing
  land-modest n work moves b f h l = record { current-most = λ c. block-most b h; few = l }

  -- some steps more, after a block was reached
  pub more-few : (flag : Bool) (way : Way) (moves : List Transfer) → WayFits v flag way → length moves ≤ 5
      → length ((reached v flag way).moves ++ moves) ≤ 16
  more-few flag way moves h l =
      let f = (way-brought flag way h).few in
      simp length-append (omega arith)

module _ (v : Texts) (fit : Fitting v.desc v.file v.buffer) (flag : Bool) (work : List ℕ) where
  looked : (l : Look) → look v flag (key_in v.desc work) ≡ passed l → LookFits v flag l
  looked l e = (look-passed v flag (key_in v.desc work)).holds l e

  seek-done : (l : Look) → LookFits v flag l → Passed (Modest v) (seek_done v flag work l)
  unfolding seek_done
  seek-done (look_is.Found way i) h = by-passed _ (give-modest v fit (reached v flag way) _ i _ (way-brought v fit flag way h.0))
  seek-done (look_is.Missing w) h = by-passed _ (stop-modest v fit _ work (reached v flag (By w)) (way-brought v fit flag (By w) h))

  pub seek-modest : Passed (Modest v) (seek_steps v flag work)
  unfolding seek_steps
  seek-modest = search (chain, seek-done, looked)

  updat-done : (l : Look) → LookFits v flag l → Passed (Modest v) (updat_done v flag work l)
  unfolding updat_done
  updat-done (look_is.Found way i) h = by-passed _ (store-modest v fit _ work (reached v flag way) _ (way-brought v fit flag way h.0))
  updat-done (look_is.Missing w) h = by-passed _ (stop-modest v fit _ work (reached v flag (By w)) (way-brought v fit flag (By w) h))

  pub updat-modest : Passed (Modest v) (updat_steps v flag work)
  unfolding updat_steps
  updat-modest = search (chain, updat-done, looked)

-- ADV
module _ (v : Texts) (fit : Fitting v.desc v.file v.buffer) (flag : Bool) where
  next-few : (w x : Path) → length (adv_reads w x) ≤ 4
  unfolding adv_reads
  next-few w x = go (eqb x.section w.section)
    where
      go : (t : Bool) → length (Read w.index ∷ Read w.detail ∷ cond t (Read x.detail ∷ []) (Read x.index ∷ Read x.detail ∷ [])) ≤ 4
      go true = omega arith
      go false = omega arith

  stepped : (placed : Bool) (at : List ℕ) (s : Step) → adv_step v flag placed at ≡ passed s → StepFits v flag s
  stepped placed at s e = (step-passed v flag at placed).holds s e

  adv-done : (s : Step) → StepFits v flag s → Passed (Modest v) (adv_done v flag s)
  unfolding adv_done adv_giving
  adv-done (step_is.At way i) h = by-passed _ (give-modest v fit (reached v flag way) _ i _ (way-brought v fit flag way h.0))
  adv-done (step_is.Beyond w x i) h =
      by-passed _ (give-modest v fit (bringing v flag x.detail (adv_reads w x)) _ i _ (brought v fit flag x.detail (adv_reads w x) h.0.detail-most (next-few w x)))

  pub adv-modest : (placed : Bool) (at : List ℕ) → Passed (Modest v) (adv_steps v flag placed at)
  unfolding adv_steps
  adv-modest placed at = search (chain, adv-done, stepped)
