-- Document 02, "Forty inserts at once": "a lent run (a count word, then the records)", here called a tray, and the call that puts its records in by NSERT.
use Rattle.std.specs.Prelude.{ℕ, zero, suc, ◌+◌, ◌*◌, Bool, cond, ◌&&◌, List, [], ◌∷◌, ◌++◌, ltb, eqb, length, get_or}
use Rattle.numbers.specs.Numbers.{done, wrong_size, accepted}
use Rattle.numbers.specs.Checked.{Checked, passed, refused, ◌>>◌, require}
use Rattle.words.specs.Words.{part}
use Rattle.drum.specs.declared.Description.{Description}
use Rattle.drum.specs.Blocks.{Transfer}
use Rattle.rules.specs.State.{State, Outcome, desc}
use Rattle.rules.specs.Checks.{sizes_ok, is_open}
use Rattle.rules.specs.NsertDone.{nsert}
use Rattle.rules.specs.Requests.{lending}

-- "a count word": its first word; 0 where it has none [Y1]
abbrev pub count_of : List ℕ → ℕ
count_of t = get_or t 0 0

-- n records of w words each, from word `at` on
unfoldable pub records_at : ℕ → ℕ → ℕ → List ℕ → List (List ℕ)
records_at zero w at t = []
records_at (suc n) w at t = part at w t ∷ records_at n w (at + w) t

-- "then the records": WPR words each, from word 1 on [Y1]
abbrev pub records_of : Description → List ℕ → List (List ℕ)
records_of p t = records_at (count_of t) p.wpr 1 t

-- whether "the run's length" matches "its first word"; a tray of no words has none, and the product is taken in full [Y3]
unfoldable pub matches : Description → List ℕ → Bool
matches p t = ltb 0 (length t) && eqb (length t) (1 + count_of t * p.wpr)

-- "how many were stored, the last number and the sum of transfers", these as their list; and the state at exit [Y2]
pub record TrayOutcome : Type 0 where
  pub stored : ℕ
  pub number : ℕ
  pub transfers : List Transfer
  pub after : State

-- no NSERT is made: nothing stored, no transfers, all unchanged
abbrev pub none_made : State → ℕ → TrayOutcome
none_made st n = record { stored = 0; number = n; transfers = []; after = st }

-- NSERT of one record of a tray: "The workspace is not touched." [Y2]
unfoldable pub nsert_one : State → List ℕ → Outcome
nsert_one st r =
    let o = nsert (lending r st) in
    record { number = o.number; transfers = o.transfers; after = lending st.work o.after }

-- the NSERT that stopped the tray: its number and its transfers count, its record is not stored [Y2, Y4]
abbrev pub stopped_by : Outcome → TrayOutcome
stopped_by o = record { stored = 0; number = o.number; transfers = o.transfers; after = o.after }

-- an NSERT that stored its record, and what the rest of the tray comes to [Y2, Y4]
abbrev pub stored_before : Outcome → TrayOutcome → TrayOutcome
stored_before o x =
    record { stored = x.stored + 1; number = x.number; transfers = o.transfers ++ x.transfers; after = x.after }

-- NSERTs one after the other; it "stops after the first answer that is neither 0 nor 070001"; n is the last number so far [Y2]
unfoldable pub inserts : State → List (List ℕ) → ℕ → TrayOutcome
inserts st [] n = none_made st n
inserts st (r ∷ rs) n =
    let o = nsert_one st r in
    cond (accepted o.number) (stored_before o (inserts o.after rs o.number)) (stopped_by o)

-- 020007, for the tray too, and then 020005 [Y3, N1, N3]
unfoldable pub tray_checks : State → List ℕ → Checked Bool
tray_checks st t = do
  sizes_ok st
  require (matches (desc st) t) wrong_size
  is_open st

-- the refusal, or the NSERTs; "a run of no records answers 0" [Y3]
unfoldable pub after_checks : State → List ℕ → Checked Bool → TrayOutcome
after_checks st t (refused n) = none_made st n
after_checks st t (passed x) = inserts st (records_of (desc st) t) done

-- the call [Y2, Y3]
unfoldable pub nsert_tray : State → List ℕ → TrayOutcome
nsert_tray st t = after_checks st t (tray_checks st t)
