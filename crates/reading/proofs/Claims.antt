-- The claims of the reading set's calls, for all sessions and words.
use Prim.Native.Nat.{ℕ, ◌≤◌}
use mathlib.Core.Path.{◌≡◌, refl, ap, ◌∙◌}
use mathlib.Core.Bool.{Bool, true, false, cond}
use mathlib.Core.Logic.{◌⊎◌, inl, inr}
use mathlib.Core.List.{List}
use native.Mathlib.Omega.{arith}
use borrow.Author.Tests.{eq-eqb, eqb-true}
use lib.ListN.{length}
use Rattle.numbers.specs.Checked.{Checked, passed, refused, ◌>>=◌, ◌>>◌, require}
use Rattle.numbers.specs.Numbers.{wrong_size, bad_file}
use Rattle.numbers.proofs.Passed.{Passed, chain, by-bind, by-passed}
use Rattle.drum.specs.Blocks.{Texts, written, writes}
use Rattle.layout.specs.Inspect.{layout_marks}
use Rattle.rules.specs.declared.Path.{Path}
use Rattle.rules.specs.declared.Way.{Way}
use Rattle.rules.specs.declared.Way.TheVariants.{Here, By}
use Rattle.rules.specs.declared.Look.{Look}
use Rattle.rules.specs.declared.Look.TheVariants as look_is
use Rattle.rules.specs.declared.Step.{Step}
use Rattle.rules.specs.declared.Step.TheVariants as step_is
use Rattle.rules.specs.State.{State, Outcome, Effect, desc, texts, key_in, at_rest, holding, positioned, outcome, unchanged, settle}
use Rattle.rules.specs.Checks.{sizes_ok, work_ok, is_open}
use Rattle.rules.specs.Lookup.{look, flush_moves, bringing, reached, stopping}
use Rattle.rules.specs.Fits.{PathFits}
use Rattle.rules.specs.Seek.{seek, seek_done, seek_steps, giving}
use Rattle.rules.specs.Adv.{adv, next_path, adv_beyond, adv_at, adv_outside, adv_giving, adv_reads, adv_done, adv_step, adv_steps}
use Rattle.rules.specs.Open.{open_file, open_done, open_checks, open_layout}
use Rattle.rules.specs.Close.{close, close_checks, close_done}
use Rattle.rules.proofs.Fits.{covering-fits, next-passed}
use Rattle.reading.specs.declared.ReadingSession.{ReadingSession}
use Rattle.reading.specs.Finished.{finished, finished_marks}
use Rattle.reading.specs.Reading.{as_session, given, one_section, profile, altering, read_open, read_open_done}
use Rattle.reading.specs.Claims.{ReadingIsRules, SeekTwo, AdvThree, Unwritten, FileKept, Refused020010}
use Rattle.reading.proofs.Kept.{Kept, seek-kept, adv-kept}
use Rattle.reading.proofs.Profile.{profile-is}

-- ---- what each call costs

-- SEEK: its lookup moves nothing, or reads two blocks
abbrev Two : Effect → Type 0
Two e = (length e.transfers ≡ 0) ⊎ (length e.transfers ≡ 2)

module _ (v : Texts) where
  way-two : (way : Way) → (length (reached v false way).moves ≡ 0) ⊎ (length (reached v false way).moves ≡ 2)
  unfolding reached bringing flush_moves
  way-two Here = inl refl
  way-two (By w) = inr refl

  seek-done-two : (work : List ℕ) (l : Look) → Passed Two (seek_done v false work l)
  unfolding seek_done stopping giving
  seek-done-two work (look_is.Found way i) = by-passed _ (way-two way)
  seek-done-two work (look_is.Missing w) = by-passed _ (way-two (By w))

  seek-two-steps : (work : List ℕ) → Passed Two (seek_steps v false work)
  unfolding seek_steps
  seek-two-steps work = by-bind (look v false (key_in v.desc work)) (seek_done v false work) (λ l e. seek-done-two work l)

  -- ADV: with one section the next detail block is in the section of the first path
  abbrev Same : Step → Type 0
  Same (step_is.At way i) = Unit {0}
  Same (step_is.Beyond w x i) = x.section ≡ w.section

  module _ (one : v.desc.control ≡ 1) (at : List ℕ) where
    same-section : (w x : Path) (i : ℕ) → PathFits v w → next_path v w ≡ passed x → Same (step_is.Beyond w x i)
    same-section w x i fits e =
        let next = (next-passed v w).holds x e in
        omega (arith, one, fits.section-below, fits.sections-most, next.section-below)

    outside-same : (placed : Bool) → Passed Same (adv_outside v false placed at)
    unfolding adv_outside adv_at adv_beyond
    outside-same placed = search (chain, same-section, covering-fits v false at) depth 14

    step_same : (placed : Bool) → Passed Same (adv_step v false placed at)
    unfolding adv_step
    step_same false = outside-same false
    step_same true = search (chain, outside-same)

  way-three : (way : Way) → length (reached v false way).moves ≤ 3
  unfolding reached bringing flush_moves
  way-three Here = omega arith
  way-three (By w) = omega arith

  beyond-three : (w x : Path) → x.section ≡ w.section → length (bringing v false x.detail (adv_reads w x)).moves ≤ 3
  unfolding bringing flush_moves adv_reads
  beyond-three w x e = simp (eq-eqb _ _ e) (omega arith)

  abbrev Three : Effect → Type 0
  Three e = length e.transfers ≤ 3

  adv-done-three : (s : Step) → Same s → Passed Three (adv_done v false s)
  unfolding adv_done adv_giving giving
  adv-done-three (step_is.At way i) h = by-passed _ (way-three way)
  adv-done-three (step_is.Beyond w x i) h = by-passed _ (beyond-three w x h)

  adv-three-steps : v.desc.control ≡ 1 → (placed : Bool) (at : List ℕ) → Passed Three (adv_steps v false placed at)
  unfolding adv_steps
  adv-three-steps one placed at = by-bind (adv_step v false placed at) (adv_done v false) (λ s e. adv-done-three s ((step_same one at placed).holds s e))

-- a call is its refusals, which move nothing, and then its steps
module _ (P : Outcome → Type 0) (st : State) (none : (n : ℕ) → P (unchanged st n)) where
  settled : (c : Checked Effect) → Passed (λ e. P (outcome st.session e)) c → P (settle st c)
  unfolding settle
  settled (refused n) h = none n
  settled (passed e) h = h.holds e refl

  profiled : (call : State → Outcome) → (one_section (desc st) ≡ true → P (call st)) → P (profile call st)
  unfolding profile
  profiled call h = go (one_section (desc st)) refl
    where
      go : (t : Bool) → one_section (desc st) ≡ t → P (cond t (call st) (unchanged st wrong_size))
      go true e = h e
      go false e = none wrong_size

pub seek-two : SeekTwo
unfolding seek outcome
seek-two s f b w =
    let st = given s f b w in
    let P : Outcome → Type 0 = λ o. (length o.transfers ≡ 0) ⊎ (length o.transfers ≡ 2) in
    profiled P st (λ n. inl refl) seek (λ one. settled P st (λ n. inl refl) _ (search (chain, seek-two-steps) depth 9))

pub adv-three : AdvThree
unfolding adv outcome
adv-three s f b w =
    let st = given s f b w in
    let P : Outcome → Type 0 = λ o. length o.transfers ≤ 3 in
    profiled P st (λ n. omega arith) adv
    (λ one. let steps = adv-three-steps (texts st) (eqb-true _ _ one) in settled P st (λ n. omega arith) _ (search (chain, steps) depth 9))

-- ---- no word of the file changes

unwritten-none : (s : ReadingSession) (f b w : List ℕ) (n : ℕ) → Unwritten (given s f b w) (unchanged (given s f b w) n)
unfolding writes
unwritten-none s f b w n = record { file = refl; off = refl; reads = λ c. refl }

kept-outcome : (s : ReadingSession) (f b w : List ℕ) (e : Effect) → Kept (texts (given s f b w)) e → Unwritten (given s f b w) (outcome (as_session s) e)
unfolding outcome holding positioned
kept-outcome s f b w e k = record { file = k.same; off = go e.keyed; reads = k.reads }
  where
    go : (t : Bool)
        → (cond t (positioned (key_in s.desc e.work) (holding e.current e.flag (as_session s))) (holding e.current e.flag (as_session s))).flag
        ≡ false
    go true = k.off
    go false = k.off

kept-outcomes : (s : ReadingSession) (f b w : List ℕ) (c : Checked Effect) → Passed (Kept (texts (given s f b w))) c
    → Passed (λ e. Unwritten (given s f b w) (outcome (as_session s) e)) c
kept-outcomes s f b w c h = record { holds = λ e q. kept-outcome s f b w e (h.holds e q) }

call_kept : (s : ReadingSession) (f b w : List ℕ) (c : Checked Effect) → Passed (Kept (texts (given s f b w))) c
    → Unwritten (given s f b w) (settle (given s f b w) c)
call_kept s f b w c h = settled (Unwritten (given s f b w)) (given s f b w) (unwritten-none s f b w) c (kept-outcomes s f b w c h)

seeks-kept : (s : ReadingSession) (f b w : List ℕ) → Unwritten (given s f b w) (seek (given s f b w))
unfolding seek
seeks-kept s f b w = call_kept s f b w _ (search (chain, seek-kept) depth 9)

advances-kept : (s : ReadingSession) (f b w : List ℕ) → Unwritten (given s f b w) (adv (given s f b w))
unfolding adv
advances-kept s f b w = call_kept s f b w _ (search (chain, adv-kept) depth 9)

alters-kept : (s : ReadingSession) (f b w : List ℕ) → Unwritten (given s f b w) (altering (given s f b w))
unfolding altering
alters-kept s f b w = call_kept s f b w _ (search chain depth 9)

closed-kept : (s : ReadingSession) (f b w : List ℕ) (x : Bool) → Unwritten (given s f b w) (close_done (given s f b w) (passed x))
unfolding close_done flush_moves written writes at_rest
closed-kept s f b w x = record { file = refl; off = refl; reads = λ c. refl }

closes_kept : (s : ReadingSession) (f b w : List ℕ) → Unwritten (given s f b w) (close (given s f b w))
unfolding close close_done
closes_kept s f b w = go (close_checks (given s f b w))
  where
    go : (c : Checked Bool) → Unwritten (given s f b w) (close_done (given s f b w) c)
    go (refused n) = unwritten-none s f b w n
    go (passed x) = closed-kept s f b w x

layout-kept : (s : ReadingSession) (f b w : List ℕ) (c : Checked (List ℕ)) → Unwritten (given s f b w) (open_layout (given s f b w) c).outcome
unfolding open_layout at_rest writes
layout-kept s f b w (refused n) = unwritten-none s f b w n
layout-kept s f b w (passed m) = record { file = refl; off = refl; reads = λ c. refl }

opens_kept : (s : ReadingSession) (f b w marks : List ℕ) → Unwritten (given s f b w) (read_open (given s f b w) marks).outcome
unfolding read_open read_open_done
opens_kept s f b w marks = go (require (one_section s.desc) _ >> open_checks (given s f b w) marks)
  where
    go : (c : Checked Bool) → Unwritten (given s f b w) (read_open_done (given s f b w) marks c).outcome
    go (refused n) = unwritten-none s f b w n
    go (passed x) = layout-kept s f b w (finished_marks s.desc f)

pub file-kept : FileKept
file-kept =
    let whole : (s : ReadingSession) (f b w : List ℕ) (call : State → Outcome) → Unwritten (given s f b w) (call (given s f b w))
    → Unwritten (given s f b w) (profile call (given s f b w))
    = λ s f b w call h. profiled (Unwritten (given s f b w)) (given s f b w) (unwritten-none s f b w) call (λ one. h) in
    record {
      seeks = λ s f b w. whole s f b w seek (seeks-kept s f b w);
      advances = λ s f b w. whole s f b w adv (advances-kept s f b w);
      closes = λ s f b w. whole s f b w close (closes_kept s f b w);
      opens = opens_kept;
      alters = λ s f b w. whole s f b w altering (alters-kept s f b w);
    }

-- ---- the calls are the rules'

finished-same : (s : ReadingSession) (f : List ℕ) → finished s.desc f ≡ true → finished_marks s.desc f ≡ layout_marks s.desc f
unfolding finished_marks
finished-same s f e = go (layout_marks s.desc f)
  where
    go : (c : Checked (List ℕ)) → (c >>= (λ marks. require (finished s.desc f) bad_file >> passed marks)) ≡ c
    go (refused n) = refl
    go (passed m) = simp e

opens-same : (s : ReadingSession) (f b w marks : List ℕ) → s.desc.control ≡ 1 → finished s.desc f ≡ true
    → read_open (given s f b w) marks ≡ open_file (given s f b w) marks
unfolding read_open read_open_done open_file open_done
opens-same s f b w marks one e = simp (eq-eqb _ _ one) (go (open_checks (given s f b w) marks))
  where
    go : (c : Checked Bool) → read_open_done (given s f b w) marks c ≡ open_done (given s f b w) marks c
    go (refused n) = refl
    go (passed x) = ap (open_layout (given s f b w)) (finished-same s f e)

pub reading-is-rules : (s : ReadingSession) (one : s.desc.control ≡ 1) → ReadingIsRules s one
reading-is-rules s one = record {
  seeks = λ f b w. profile-is seek (given s f b w) (eq-eqb _ _ one);
  advances = λ f b w. profile-is adv (given s f b w) (eq-eqb _ _ one);
  closes = λ f b w. profile-is close (given s f b w) (eq-eqb _ _ one);
  opens = λ f b w marks. opens-same s f b w marks one;
  views = λ file buffer b. simp (eq-eqb _ _ one);
}

pub refused-020010 : Refused020010
unfolding altering sizes_ok work_ok is_open settle
refused-020010 s f b w one fit long o =
    profile-is altering (given s f b w) (eq-eqb _ _ one) ∙ simp (fit, eq-eqb _ _ long, o)
