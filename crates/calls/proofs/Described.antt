-- No call changes the parameters that the session carries.
use Prim.Native.Nat.{ℕ}
use mathlib.Core.Path.{◌≡◌, refl}
use mathlib.Core.Bool.{Bool, true, false, cond}
use mathlib.Core.List.{List}
use Rattle.numbers.specs.Checked.{Checked, passed, refused}
use Rattle.words.specs.Words.{zeros}
use Rattle.rules.specs.declared.Call.{Call}
use Rattle.rules.specs.declared.Call.TheVariants.{Create, Open, Close, Seek, Adv, Nsert, Dlete, Updat, Xtend}
use Rattle.rules.specs.State.{Session, State, Effect, desc, key_in, holding, positioned, at_rest, outcome, settle}
use Rattle.rules.specs.Open.{open_file, open_checks, open_done, open_layout}
use Rattle.rules.specs.Close.{close, close_checks, close_done}
use Rattle.rules.specs.Seek.{seek, updat}
use Rattle.rules.specs.Adv.{adv}
use Rattle.rules.specs.NsertDone.{nsert}
use Rattle.rules.specs.Dlete.{dlete}
use Rattle.rules.specs.XtendDone.{xtend}
use Rattle.rules.specs.Requests.{answer, lending}
use Rattle.rules.specs.Run.{perform, created_outcome}

settled : (st : State) (x : Checked Effect) → desc (settle st x).after ≡ desc st
unfolding settle outcome holding positioned
settled st (refused n) = refl
settled st (passed e) = go e.keyed
  where
    held : Session
    held = holding e.current e.flag st.session

    go : (k : Bool) → (cond k (positioned (key_in (desc st) e.work) held) held).desc ≡ desc st
    go true = refl
    go false = refl

laid : (st : State) (x : Checked (List ℕ)) → desc (open_layout st x).outcome.after ≡ desc st
unfolding open_layout at_rest
laid st (refused n) = refl
laid st (passed marks) = refl

opened : (st : State) (m : List ℕ) (x : Checked Bool) → desc (open_done st m x).outcome.after ≡ desc st
unfolding open_done
opened st m (refused n) = refl
opened st m (passed x) = laid st _

closed : (st : State) (x : Checked Bool) → desc (close_done st x).after ≡ desc st
unfolding close_done at_rest
closed st (refused n) = refl
closed st (passed x) = refl

pub same-description : (ws : List ℕ) (st : State) (c : Call) → desc (perform ws st c).after ≡ desc st
unfolding perform created_outcome answer lending open_file close seek adv nsert dlete updat xtend
same-description ws st Create = refl
same-description ws st Open = opened st (zeros (desc st).n) (open_checks st (zeros (desc st).n))
same-description ws st Close = closed st (close_checks st)
same-description ws st (Seek at) = settled (lending _ st) _
same-description ws st Adv = settled (lending _ st) _
same-description ws st (Nsert at) = settled (lending _ st) _
same-description ws st (Dlete at) = settled (lending _ st) _
same-description ws st (Updat at) = settled (lending _ st) _
same-description ws st (Xtend at) = settled (lending _ st) _
