-- Document 02, "Forty inserts at once": what the tray does, told by single NSERTs; and what it refuses. Nothing is proved here.
use Rattle.std.specs.Prelude.{ℕ, ◌+◌, ◌≤◌, true, false, ◌&&◌, ◌⊎◌, ◌≡◌, List, [], ◌∷◌, ◌++◌, map, length, take}
use Rattle.numbers.specs.Numbers.{done, wrong_size, is_closed, accepted}
use Rattle.drum.specs.Params.{sized}
use Rattle.drum.specs.Blocks.{Transfer}
use Rattle.rules.specs.State.{State, desc}
use Rattle.rules.specs.Requests.{Request, inserting, answer, left, tally}
use Rattle.demands.specs.Formula.{accepted_by}
use Rattle.tray.specs.Tray.{count_of, records_of, matches, none_made, nsert_tray}

-- single NSERTs of these records
abbrev pub singles : List (List ℕ) → List Request
singles = map inserting

-- the lists of transfers of a run's calls, joined [T3]
unfoldable pub joined : State → List Request → List Transfer
joined st [] = []
joined st (q ∷ qs) = let o = answer st q in o.transfers ++ joined o.after qs

-- the number of a run's last call; n where it has none
unfoldable pub last_number : State → List Request → ℕ → ℕ
last_number st [] n = n
last_number st (q ∷ qs) n = let o = answer st q in last_number o.after qs o.number

-- how many of its calls answer 0 or 070001
unfoldable pub stored_by : State → List Request → ℕ
stored_by st qs = tally (λ before q o. accepted_by o) st qs

-- the tray does what single NSERTs of its first m records do: "File, buffer, session and sum equal those of single NSERTs up to and including the
-- one that stopped it." [Y4]
pub record AsSingles (st : State) (t : List ℕ) (m : ℕ) : Type 0 where
  pub some : m ≤ count_of t
  pub session : (nsert_tray st t).after.session ≡ (left st (singles (take m (records_of (desc st) t)))).session
  pub file : (nsert_tray st t).after.file ≡ (left st (singles (take m (records_of (desc st) t)))).file
  pub buffer : (nsert_tray st t).after.buffer ≡ (left st (singles (take m (records_of (desc st) t)))).buffer
  -- "The workspace is not touched."
  pub work : (nsert_tray st t).after.work ≡ st.work
  pub transfers : (nsert_tray st t).transfers ≡ joined st (singles (take m (records_of (desc st) t)))
  pub number : (nsert_tray st t).number ≡ last_number st (singles (take m (records_of (desc st) t))) done
  pub stored : (nsert_tray st t).stored ≡ stored_by st (singles (take m (records_of (desc st) t)))
  -- all m are stored, and there are no more; or all but the last, "the first answer that is neither 0 nor 070001"
  pub ends : (((nsert_tray st t).stored ≡ m) × (m ≡ count_of t)) ⊎ (((nsert_tray st t).stored + 1 ≡ m) × (accepted (nsert_tray st t).number ≡ false))

-- of every tray that has a record and is not refused by 020007, on a closed session too [Y2, Y4]
abbrev pub TraySingles : Type 0
TraySingles =
    (st : State) (t : List ℕ) → sized (desc st) (length st.file) (length st.buffer) ≡ true → matches (desc st) t ≡ true → 1 ≤ count_of t
    → (m : ℕ) × AsSingles st t m

-- the refusals of the call itself, in their order: each leaves all, and there is no other reason for its number [Y3]
pub record TrayRefused (st : State) (t : List ℕ) : Type 0 where
  -- "020007, all unchanged, where the run's length doesn't match its first word", and for the sizes of file and buffer
  pub wrong_size_lem : sized (desc st) (length st.file) (length st.buffer) && matches (desc st) t ≡ false → nsert_tray st t ≡ none_made st wrong_size
  pub only-size : (nsert_tray st t).number ≡ wrong_size → sized (desc st) (length st.file) (length st.buffer) && matches (desc st) t ≡ false
  -- then 020005
  pub closed : sized (desc st) (length st.file) (length st.buffer) && matches (desc st) t ≡ true → st.session.opened ≡ false
      → nsert_tray st t ≡ none_made st is_closed
  pub only-closed : (nsert_tray st t).number ≡ is_closed → st.session.opened ≡ false
  -- "a run of no records answers 0 after 020007 and 020005"
  pub empty : sized (desc st) (length st.file) (length st.buffer) && matches (desc st) t ≡ true → st.session.opened ≡ true → count_of t ≡ 0
      → nsert_tray st t ≡ none_made st done
