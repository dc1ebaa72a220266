-- What the planner's functions test, one law for each return; and what they return, of a run of the exported functions.
use Prim.Native.Nat.{ℕ, ◌≤◌, ◌<◌}
use mathlib.Core.Path.{◌≡◌, refl, sym, ap, ◌∙◌, subst}
use mathlib.Core.Bool.{Bool, true, false, cond}
use mathlib.Core.List.{List}
use native.Mathlib.Omega.{arith}
use Rattle.numbers.specs.Numbers.{no_room}
use Rattle.drum.specs.declared.Description.{Description}
use Rattle.drum.specs.Params.{good_params}
use Rattle.rules.specs.State.{State, desc}
use Rattle.rules.specs.Requests.{Request, inserting, answer, left}
use Rattle.demands.specs.Formula.{M}
use Rattle.demands.specs.Full.{OnlyNserts}
use Rattle.demands.specs.Space.{most_sections, most_blocks, SpaceWithin}
use Rattle.demands.proofs.Space.{sections-most, blocks-most, blocks-within, room-for-all}
use Rattle.capi.specs.Words.{is_session, session_of, parameters_in}
use Rattle.capi.specs.Calls.{Returned}
use Rattle.capi.specs.Plan.{no_plan}
use Rattle.capi.specs.Runs.{state_in, promised, Call, Promises, last, requests, Begins}
use Rattle.capi.specs.Space.{is_planner, space_in, OnlyNoSpace, OneSpace, ArchiveSpace, ArchiveRoom}
use Rattle.capi.proofs.Stepped.{step-number}
use Rattle.capi.proofs.Runs.{run-leaves, run-session, s, creates, fresh-opens, opened-is, opened-session}
use Rattle.capi.proofs.Runs as runs

-- ---- the two functions

module _ (most : Description → ℕ → ℕ) (ws : List ℕ) (names : ℕ) where
  pub space-none : is_planner ws ≡ false → no_plan ≡ space_in most ws names
  unfolding space_in
  space-none not_one = sym (ap (λ (t : Bool). cond t (most (parameters_in ws) names) no_plan) not_one)

  -- both hold
  pub space-some : is_session ws ≡ true → good_params (parameters_in ws) ≡ true → space_in most ws names ≡ most (parameters_in ws) names
  unfolding space_in is_planner
  space-some h g = simp (h, g)

  pub space-is : (r : ℕ) (p : Description) → r ≡ most p names → p ≡ parameters_in ws → is_planner ws ≡ true → r ≡ space_in most ws names
  unfolding space_in
  space-is r p e d is =
      e ∙ ap (λ (q : Description). most q names) d ∙ sym (ap (λ (t : Bool). cond t (most (parameters_in ws) names) no_plan) is)

  only_none : most (parameters_in ws) names < no_plan → space_in most ws names ≡ no_plan → is_planner ws ≡ false
  unfolding space_in
  only_none l = go (is_planner ws)
    where
      go : (t : Bool) → cond t (most (parameters_in ws) names) no_plan ≡ no_plan → t ≡ false
      go true e = absurd (omega arith)
      go false e = refl

pub only-no-space : OnlyNoSpace
only-no-space ws names l = (
  only_none most_blocks ws names (omega (arith, l, blocks-most (parameters_in ws) names)),
  only_none most_sections ws names (omega (arith, l, sections-most (parameters_in ws) names)),
)

pub one-space : OneSpace
one-space most ws names r s e f = e ∙ sym f

-- ---- of a run

module _ (x made : Returned) (marks : List ℕ) (o : Returned) (cs : List Call) (names : ℕ) (b : Begins x made marks o) (ps : Promises o cs)
    (only : OnlyNserts (state_in o) (requests cs)) where
  abbrev qs : List Request
  qs = requests cs

  abbrev now : State
  now = state_in (last o cs)

  left_is : now ≡ left (state_in o) qs
  left_is = run-leaves cs o (opened-session x made marks o b) ps

  -- what the functions return is what the bounds are said of
  returns : (most : Description → ℕ → ℕ) → space_in most o.session names ≡ most (desc (state_in o)) names
  unfolding session_of
  returns most = space-some most o.session names (opened-session x made marks o b) (runs.good x made marks o b)

  within : M (state_in o) qs ≤ names → SpaceWithin (desc (state_in o)) names now
  within l =
      subst (SpaceWithin (desc (state_in o)) names) (sym left_is)
      (subst (λ (st : State). OnlyNserts st qs → M st qs ≤ names → SpaceWithin (desc st) names (left st qs)) (sym (opened-is x made marks o b))
      (λ k m. blocks-within (s x made marks o b) x.file x.buffer x.work marks (creates x made marks o b) (fresh-opens x made marks o b) qs k names m)
      only l)

  abbrev Roomy : State → Type 0
  Roomy st = OnlyNserts st qs → most_blocks (desc st) names ≤ (desc st).n → most_sections (desc st) names ≤ (desc st).control → M st qs < names
      → (w : List ℕ) → (answer (left st qs) (inserting w)).number ≡ no_room → ⊥

  has_room_lem : Roomy (state_in o)
  has_room_lem =
      subst Roomy (sym (opened-is x made marks o b))
      (λ k n c l.
      room-for-all (s x made marks o b) x.file x.buffer x.work marks (creates x made marks o b) (fresh-opens x made marks o b) qs k names n c l)

pub archive-space : ArchiveSpace
archive-space x made marks o cs names b ps only l =
    let w = within x made marks o cs names b ps only l in
    let e = returns x made marks o cs names b ps only in
    (omega (arith, w.sections, e most_sections), omega (arith, w.blocks, e most_blocks))

pub archive-room : ArchiveRoom
unfolding session_of
archive-room x made marks o cs names b ps only n c l w k =
    let e = returns x made marks o cs names b ps only in
    let is = left_is x made marks o cs names b ps only in
    let number = step-number (last o cs) (run-session cs o (opened-session x made marks o b) ps) (inserting w) (promised (last o cs) (inserting w)) refl in
    has_room_lem x made marks o cs names b ps only only (omega (arith, n, e most_blocks)) (omega (arith, c, e most_sections)) l w
    (ap (λ (st : State). (answer st (inserting w)).number) (sym is) ∙ sym number ∙ k)
