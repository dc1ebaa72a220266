-- Every call of the register leaves what words can tell.
use Prim.Native.Nat.{ℕ, ◌≤◌}
use mathlib.Core.Path.{◌≡◌, refl, ◌∙◌}
use mathlib.Core.Bool.{Bool, true, false, cond, not, ◌&&◌}
use mathlib.Core.List.{List}
use native.Mathlib.Omega.{arith}
use lib.Dec.{eqb}
use mir.Syntax.{w32}
use mir.Val.{Fits}
use lib.ListN.{length, get_or, length-append}
use Rattle.numbers.specs.Numbers.{done, not_allowed}
use Rattle.numbers.specs.Checked.{Checked, passed, refused}
use Rattle.rules.specs.State.{State, Outcome, desc}
use Rattle.rules.specs.Seek.{seek, updat}
use Rattle.rules.specs.Requests.{lending}
use Rattle.register.specs.Names.{raw, romanised, on_hold, state_of}
use Rattle.register.specs.Register.{has_state, name_ok, spelled_ok, checked, raw_name, stopped, joined, sought, followed, move, spelled, turned, turn, enter, ask, romanise, hold, free}
use Rattle.register.proofs.Costs.{seek-few, updat-few}
use Rattle.searchfile.specs.declared.Session as code
use Rattle.searchfile.specs.Answers.{Answer}
use Rattle.searchfile.specs.Promise.{held, given, counted, answered}
use Rattle.capi.specs.Words.{is_session, session_of}
use Rattle.capi.specs.Calls.{Tellable}
use Rattle.capi.proofs.Told.{tellable}
use Rattle.capi.proofs.Outcomes.{Telling, seek-telling, updat-telling, nsert-telling}

-- an outcome of few transfers that words can tell
record Brief (st : State) (o : Outcome) : Type 0 where
  telling : Telling st o
  brief : length o.transfers ≤ 3

module _ (st : State) where
  checked-telling : (c : Checked Bool) (o : Outcome) → Telling st o → Telling st (checked st c o)
  unfolding checked
  checked-telling (refused n) o t = record { same-parameters = refl; current-most = λ h. h; few = omega arith }
  checked-telling (passed x) o t = t

  stopped-brief : (n : ℕ) (o : Outcome) → Brief st o → Brief st (stopped n o)
  unfolding stopped
  stopped-brief n o b = record {
    telling = record { same-parameters = b.telling.same-parameters; current-most = b.telling.current-most; few = b.telling.few };
    brief = b.brief;
  }

  sought-brief : (from : ℕ) → Brief st (sought from st)
  unfolding sought
  sought-brief from = go (eqb (seek st).number done && not (eqb (state_of (desc st) (seek st).after.work) from))
    where
      found : Brief st (seek st)
      found = record { telling = seek-telling st; brief = seek-few st }

      go : (t : Bool) → Brief st (cond t (stopped not_allowed (seek st)) (seek st))
      go true = stopped-brief not_allowed (seek st) found
      go false = found

  followed-telling : (o : Outcome) (c : Checked (List ℕ)) → Brief st o → Telling st (followed o c)
  unfolding followed joined lending
  followed-telling o (refused n) b = (stopped-brief n o b).telling
  followed-telling o (passed w) b =
      let u = updat (lending w o.after) in
      let t = updat-telling (lending w o.after) in
      let l = updat-few (lending w o.after) in
      let k = b.brief in
      record {
        same-parameters = t.same-parameters ∙ b.telling.same-parameters;
        current-most = λ h. t.current-most (b.telling.current-most h);
        few = rw (length-append o.transfers u.transfers) (omega arith);
      }

  move-telling : (from : ℕ) (made : List ℕ → Checked (List ℕ)) → Telling st (move from made st)
  unfolding move
  move-telling from made = go (eqb (sought from st).number done)
    where
      go : (t : Bool) → Telling st (cond t (followed (sought from st) (made (sought from st).after.work)) (sought from st))
      go true = followed-telling (sought from st) (made (sought from st).after.work) (sought-brief from)
      go false = (sought-brief from).telling

  pub enter-telling : Telling st (enter st)
  unfolding enter lending
  enter-telling =
      let t = nsert-telling (lending (raw_name (desc st) st.work) st) in
      checked-telling (name_ok st) _ (record { same-parameters = t.same-parameters; current-most = t.current-most; few = t.few })

  pub ask-telling : Telling st (ask st)
  unfolding ask
  ask-telling = checked-telling (has_state st) _ (seek-telling st)

  pub hold-telling : Telling st (hold st)
  unfolding hold turn
  hold-telling = checked-telling (name_ok st) _ (move-telling romanised (turned (desc st) on_hold))

  pub free-telling : Telling st (free st)
  unfolding free turn
  free-telling = checked-telling (name_ok st) _ (move-telling on_hold (turned (desc st) romanised))

pub romanise-telling : (spelling : List ℕ) (st : State) → Telling st (romanise spelling st)
unfolding romanise
romanise-telling spelling st = checked-telling st (spelled_ok spelling st) _ (move-telling st raw (spelled (desc st) spelling))

-- romanising can be told, whatever the spelling
pub romanise-tellable : (spelling ws : List ℕ) (s : code.Session) (a : Answer) (f b w f₁ b₁ w₁ : List ℕ)
    → answered a f₁ b₁ w₁ ≡ counted (romanise spelling (given s f b w)) → held s ≡ session_of ws → is_session ws ≡ true
    → ((i : ℕ) → Fits w32 (get_or ws i 0)) → Tellable ws a
romanise-tellable spelling = tellable (romanise spelling) (romanise-telling spelling)
