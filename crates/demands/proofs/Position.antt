-- What every call makes of position, on all inputs: what it comes to says it.
use Prim.Native.Nat.{ℕ}
use mathlib.Core.Path.{◌≡◌, refl, sym, ◌∙◌}
use mathlib.Core.Bool.{Bool, true, false}
use Rattle.numbers.specs.Numbers.{accepted}
use Rattle.rules.specs.State.{State, Outcome, Effect, holding, positioned, outcome}
use Rattle.rules.specs.Lookup.{Reached, stopping}
use Rattle.rules.specs.Requests.{Request, opening, closing, seeking, advancing, inserting, deleting, updating, extending, answer, given}
use Rattle.demands.specs.Position.{MovesPosition, Rests, Positions}
use Rattle.demands.proofs.Refused.{impossible}
use Rattle.demands.proofs.Ends.{Ends, stopped, went}
use Rattle.demands.proofs.Came.{CameTo, Rested, came, barred, ended, rested}

module _ (bar : ℕ → Bool) (st : State) where
  -- steps set position exactly where their number is 0 or 070001
  set-as : (ok : ℕ → Bool) (R : Reached → Type 0) (e : Effect) → Ends ok R st.work e → e.keyed ≡ accepted e.number
  unfolding stopping
  set-as ok R _ (stopped n r e q a s) = sym a
  set-as ok R e (went _ h q s k) = k

  moved_by : (e : Effect) → e.keyed ≡ accepted e.number → MovesPosition st (outcome st.session e)
  unfolding outcome holding positioned
  moved_by e k = go e.keyed refl
    where
      go : (t : Bool) → e.keyed ≡ t → MovesPosition st (outcome st.session e)
      go true q = record { moved = λ a. record { placed = rw q; position = rw q }; stayed = λ a. impossible (sym q ∙ k ∙ a) }
      go false q = record { moved = λ a. impossible (sym a ∙ sym k ∙ q); stayed = λ a. record { placed = rw q; position = rw q } }

  moves : (ok : ℕ → Bool) (R : Reached → Type 0) (o : Outcome) → CameTo bar ok R st o → MovesPosition st o
  moves ok R _ (barred n b) = record { moved = λ a. impossible (sym a ∙ b.other); stayed = λ a. record { placed = refl; position = refl } }
  moves ok R _ (ended e h) = moved_by e (set-as ok R e h)

  rests : (o : Outcome) → Rested bar st o → Rests st o
  rests _ (barred n b) = record { rested = λ e. impossible (sym (rw e) ∙ b.other); stayed = λ e. record { placed = refl; position = refl } }
  rests o (rested _ e p k) = record { rested = λ d. p; stayed = λ d. absurd (d e) }

-- every call, on every state
pub positions : (st : State) (q : Request) → Positions q (given st q) (answer st q)
positions st (opening marks) = rests _ _ _ (came st (opening marks))
positions st closing = rests _ _ _ (came st closing)
positions st (seeking w) = moves _ _ _ _ _ (came st (seeking w))
positions st (advancing w) = moves _ _ _ _ _ (came st (advancing w))
positions st (inserting w) = moves _ _ _ _ _ (came st (inserting w))
positions st (deleting w) = moves _ _ _ _ _ (came st (deleting w))
positions st (updating w) = moves _ _ _ _ _ (came st (updating w))
positions st (extending w) = moves _ _ _ _ _ (came st (extending w))
