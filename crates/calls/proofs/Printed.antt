-- One call: where its key or record has room, and OPEN is lent as many marks as there are blocks, it does what it does in the printed session.
-- Of a run of calls Session.antt speaks.
use Prim.Native.Nat.{ℕ, ◌+◌, ◌≤◌}
use mathlib.Core.Path.{◌≡◌, refl, sym, ap, ◌∙◌}
use mathlib.Core.Bool.{Bool}
use mathlib.Core.List.{List}
use lib.ListN.{length, length-replicate}
use Rattle.numbers.specs.Checked.{Checked, passed, refused}
use Rattle.words.specs.Words.{zeros}
use Rattle.rules.specs.declared.Call.{Call}
use Rattle.rules.specs.declared.Call.TheVariants.{Create, Open, Close, Seek, Adv, Nsert, Dlete, Updat, Xtend}
use Rattle.rules.specs.State.{State, desc}
use Rattle.rules.specs.Open.{open_file, open_checks, open_done}
use Rattle.rules.specs.Requests.{answer, lending}
use Rattle.rules.specs.Run.{perform, key_from, record_from}
use Rattle.calls.specs.Perform.{Staged, staged_for, called, called_on, done}
use Rattle.calls.proofs.Performed.{staged-room}

-- n words from word `at` on stand in the words beside, and the workspace holds n
abbrev HasRoom : List ℕ → State → ℕ → ℕ → Type 0
HasRoom ws st at n = (at + n ≤ length ws) × (n ≤ length st.work)

-- the key or record that the call carries has room
abbrev pub Room : List ℕ → State → Call → Type 0
Room ws st Create = Unit {0}
Room ws st Open = Unit {0}
Room ws st Close = Unit {0}
Room ws st (Seek at) = HasRoom ws st at (desc st).k
Room ws st Adv = Unit {0}
Room ws st (Nsert at) = HasRoom ws st at (desc st).wpr
Room ws st (Dlete at) = HasRoom ws st at (desc st).k
Room ws st (Updat at) = HasRoom ws st at (desc st).wpr
Room ws st (Xtend at) = HasRoom ws st at (desc st).wpr

-- OPEN asks how many marks it is lent, and never what they are
open-marks : (st : State) (m n : List ℕ) → length m ≡ length n → (open_file st m).outcome ≡ (open_file st n).outcome
unfolding open_file open_checks open_done
open-marks st m n h = rw h (go (open_checks st n))
  where
    go : (x : Checked Bool) → (open_done st m x).outcome ≡ (open_done st n x).outcome
    go (refused e) = refl
    go (passed x) = refl

pub done-printed : (ws : List ℕ) (st : State) (m : List ℕ) (c : Call) → length m ≡ (desc st).n → Room ws st c → (done ws st m c).outcome ≡ perform ws st c
unfolding done called_on called staged_for perform answer lending key_from record_from
done-printed ws st m Create l h = refl
done-printed ws st m Open l h = open-marks st m (zeros (desc st).n) (l ∙ sym (length-replicate (desc st).n 0))
done-printed ws st m Close l h = refl
done-printed ws st m (Seek at) l h =
    ap (λ (g : Staged). (called_on st m (Seek at) g).outcome) (staged-room ws at (desc st).k st.work h.0 h.1)
done-printed ws st m Adv l h = refl
done-printed ws st m (Nsert at) l h =
    ap (λ (g : Staged). (called_on st m (Nsert at) g).outcome) (staged-room ws at (desc st).wpr st.work h.0 h.1)
done-printed ws st m (Dlete at) l h =
    ap (λ (g : Staged). (called_on st m (Dlete at) g).outcome) (staged-room ws at (desc st).k st.work h.0 h.1)
done-printed ws st m (Updat at) l h =
    ap (λ (g : Staged). (called_on st m (Updat at) g).outcome) (staged-room ws at (desc st).wpr st.work h.0 h.1)
done-printed ws st m (Xtend at) l h =
    ap (λ (g : Staged). (called_on st m (Xtend at) g).outcome) (staged-room ws at (desc st).wpr st.work h.0 h.1)
