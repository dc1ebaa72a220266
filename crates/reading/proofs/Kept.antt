-- SEEK and ADV where nothing is flagged: they only read, so the file and the flag stay.
use Prim.Native.Nat.{ℕ}
use mathlib.Core.Path.{◌≡◌, refl, ap, ◌∙◌}
use mathlib.Core.Bool.{Bool, true, false, cond}
use mathlib.Core.List.{List, [], ◌∷◌}
use lib.Dec.{eqb}
use Rattle.numbers.specs.Checked.{Checked, passed, refused}
use Rattle.numbers.proofs.Passed.{Passed, by-bind, by-passed}
use Rattle.drum.specs.declared.Description.{Description}
use Rattle.drum.specs.Blocks.{Transfer, Read, written, writes, Texts, seen}
use Rattle.rules.specs.declared.Path.{Path}
use Rattle.rules.specs.declared.Way.{Way}
use Rattle.rules.specs.declared.Way.TheVariants.{Here, By}
use Rattle.rules.specs.declared.Look.{Look}
use Rattle.rules.specs.declared.Look.TheVariants as look_is
use Rattle.rules.specs.declared.Step.{Step}
use Rattle.rules.specs.declared.Step.TheVariants as step_is
use Rattle.rules.specs.declared.Done.{Done}
use Rattle.rules.specs.State.{Effect, key_in}
use Rattle.rules.specs.Lookup.{look, flush_moves, bringing, reached, stopping}
use Rattle.rules.specs.Seek.{giving, seek_done, seek_steps}
use Rattle.rules.specs.Adv.{adv_giving, adv_reads, adv_done, adv_step, adv_steps}
use Rattle.rules.specs.Told.{Told, gave, told}

-- what steps leave that write nothing
pub record Kept (v : Texts) (e : Effect) : Type 0 where
  pub off : e.flag ≡ false
  pub same : e.file ≡ v.file
  pub reads : (b : ℕ) → writes e.transfers b ≡ false

module _ (v : Texts) where
  given-kept : (way : Way) (number i : ℕ) (keyed : Bool) → Kept v (giving v (reached v false way) number i keyed)
  unfolding giving reached bringing flush_moves written writes
  given-kept Here number i keyed = record { off = refl; same = refl; reads = λ b. refl }
  given-kept (By w) number i keyed = record { off = refl; same = refl; reads = λ b. refl }

  seek-done-kept : (work : List ℕ) (l : Look) → Passed (Kept v) (seek_done v false work l)
  unfolding seek_done stopping reached bringing flush_moves written writes
  seek-done-kept work (look_is.Found way i) = by-passed _ (given-kept way _ i true)
  seek-done-kept work (look_is.Missing w) = by-passed _ (record { off = refl; same = refl; reads = λ b. refl })

  pub seek-kept : (work : List ℕ) → Passed (Kept v) (seek_steps v false work)
  unfolding seek_steps
  seek-kept work = by-bind (look v false (key_in v.desc work)) (seek_done v false work) (λ l e. seek-done-kept work l)

  beyond-kept : (w x : Path) (number i : ℕ) (keyed : Bool) → Kept v (giving v (bringing v false x.detail (adv_reads w x)) number i keyed)
  unfolding giving bringing flush_moves adv_reads written writes
  beyond-kept w x number i keyed = record { off = refl; same = kept (eqb x.section w.section); reads = λ b. alone b (eqb x.section w.section) }
    where
      moves : Bool → List Transfer
      moves t = Read w.index ∷ Read w.detail ∷ cond t (Read x.detail ∷ []) (Read x.index ∷ Read x.detail ∷ [])

      kept : (t : Bool) → written v.desc (moves t) v.file ≡ v.file
      kept true = refl
      kept false = refl

      alone : (b : ℕ) (t : Bool) → writes (moves t) b ≡ false
      alone b true = refl
      alone b false = refl

  adv-done-kept : (s : Step) → Passed (Kept v) (adv_done v false s)
  unfolding adv_done adv_giving
  adv-done-kept (step_is.At way i) = by-passed _ (given-kept way _ i _)
  adv-done-kept (step_is.Beyond w x i) = by-passed _ (beyond-kept w x _ i _)

  pub adv-kept : (placed : Bool) (at : List ℕ) → Passed (Kept v) (adv_steps v false placed at)
  unfolding adv_steps
  adv-kept placed at = by-bind (adv_step v false placed at) (adv_done v false) (λ s e. adv-done-kept s)

  told-off : (work : List ℕ) (c : Checked Effect) → Passed (Kept v) c → (told v false work c).flag ≡ false
  told-off work (refused n) h = refl
  told-off work (passed e) h = (h.holds e refl).off

-- what the code gave: the flag is off
module _ (p : Description) (cur : ℕ) (f b : List ℕ) (d : Done) (g t w work : List ℕ) where
  abbrev v : Texts
  v = seen p cur f b

  pub seek-off : gave d g t w ≡ told v false work (seek_steps v false work) → d.flag ≡ false
  seek-off e = ap (λ (z : Told). z.flag) e ∙ told-off v work _ (seek-kept v work)

  pub adv-off : (placed : Bool) (at : List ℕ) → gave d g t w ≡ told v false work (adv_steps v false placed at) → d.flag ≡ false
  adv-off placed at e = ap (λ (z : Told). z.flag) e ∙ told-off v work _ (adv-kept v placed at)
