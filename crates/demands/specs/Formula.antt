-- Document 01, "The session formula": what demand 3 says of a run of calls, and of one call. Nothing is proved here. All numbers are
-- counted from the run itself: by the calls, their answers, their lists of transfers and the words of the file.
use Rattle.std.specs.Prelude.{ℕ, zero, suc, ◌+◌, ◌*◌, ◌-◌, ◌/◌, ◌≤◌, ◌≡◌, Bool, cond, not, eqb, List, length}
use Rattle.numbers.specs.Numbers.{done, accepted}
use Rattle.table.specs.Tables.{count, block_in}
use Rattle.drum.specs.declared.Description.{Description}
use Rattle.drum.specs.Params.{D, I, FD, FI, master_shape, index_shape}
use Rattle.drum.specs.Blocks.{block_at, sections}
use Rattle.rules.specs.State.{Session, State, Outcome, desc, lent}
use Rattle.rules.specs.Open.{create, open_file}
use Rattle.rules.specs.Requests.{Request, opening, closing, seeking, advancing, inserting, deleting, updating, extending, answer, tally}

-- "hD = (D+1)/2, hI = (I+1)/2, rounded down." [F1]
unfoldable pub h_d : Description → ℕ
h_d p = (D p + 1) / 2

-- "hI = (I+1)/2" [F1]
unfoldable pub h_i : Description → ℕ
h_i p = (I p + 1) / 2

-- the detail blocks that the first n sections of the file f name: "Index block: word 0 count, then entries: key and detail block"
unfoldable pub details_under : Description → List ℕ → ℕ → ℕ
details_under p f zero = 0
details_under p f (suc n) = details_under p f n + count (index_shape p) (block_at p f (block_in (master_shape p) f n))

-- the detail blocks and the index blocks in use. An index block is never the buffered one, so that its words are the file's [F2]
unfoldable pub detail_blocks : State → ℕ
detail_blocks st = details_under (desc st) st.file (sections st.file)

-- the index blocks in use: the sections [F2]
unfoldable pub index_blocks : State → ℕ
index_blocks st = sections st.file

-- how many more of them are in use after a call than before it; 0 where there are fewer [F2]
unfoldable pub new_details : State → Outcome → ℕ
new_details before o = detail_blocks o.after - detail_blocks before

-- the same of the index blocks [F2]
unfoldable pub new_indexes : State → Outcome → ℕ
new_indexes before o = index_blocks o.after - index_blocks before

-- the file's last detail block: that of the last entry under the last section
unfoldable pub last_detail : State → ℕ
last_detail st =
    let p = desc st in
    let t = block_at p st.file (block_in (master_shape p) st.file (sections st.file - 1)) in
    block_in (index_shape p) t (count (index_shape p) t - 1)

-- a call has started a block where the file's last detail block is another one after it: "the end record starts a new block" [C27, E5]
unfoldable pub starts_last : State → State → Bool
starts_last before after = not (eqb (last_detail after) (last_detail before))

-- 1 where the call answers 0 or 070001: "stored"
unfoldable pub accepted_by : Outcome → ℕ
accepted_by o = cond (accepted o.number) 1 0

-- n of an NSERT, and 0 of any other call; n of an XTEND
unfoldable pub of_nsert : ℕ → Request → ℕ
of_nsert n (opening marks) = 0
of_nsert n closing = 0
of_nsert n (seeking work) = 0
of_nsert n (advancing work) = 0
of_nsert n (inserting work) = n
of_nsert n (deleting work) = 0
of_nsert n (updating work) = 0
of_nsert n (extending work) = 0

-- n of an XTEND, and 0 of any other call
unfoldable pub of_xtend : ℕ → Request → ℕ
of_xtend n (opening marks) = 0
of_xtend n closing = 0
of_xtend n (seeking work) = 0
of_xtend n (advancing work) = 0
of_xtend n (inserting work) = 0
of_xtend n (deleting work) = 0
of_xtend n (updating work) = 0
of_xtend n (extending work) = n

-- of n new blocks of a call those that were split off: all of an NSERT's, and an XTEND's where it has started none: "Such splits count in S and s"
-- [F2, E5]
unfoldable pub split_off : ℕ → Request → State → State → ℕ
split_off n q before after = of_nsert n q + of_xtend (cond (starts_last before after) 0 n) q

-- and those that an XTEND has started [F2]
unfoldable pub started_new : ℕ → Request → State → State → ℕ
started_new n q before after = of_xtend (cond (starts_last before after) n 0) q

-- "3·(SEEK+UPDAT+NSERT) + 5·ADV + 6·DLETE + 4·XTEND + CLOSE", and "In the formula XTEND's 4 becomes 6": a call's share of that sum [F4, E6]
unfoldable pub share : Request → ℕ
share (opening marks) = 0
share closing = 1
share (seeking work) = 3
share (advancing work) = 5
share (inserting work) = 3
share (deleting work) = 6
share (updating work) = 3
share (extending work) = 6

-- ---- of a run of calls, from the state st on

module _ (st : State) (qs : List Request) where
  -- "Let M be records accepted by NSERT and XTEND" [F2]
  unfoldable pub M : ℕ
  M = tally (λ before q o. of_nsert (accepted_by o) q + of_xtend (accepted_by o) q) st qs

  -- "S, s detail and index splits by NSERT": each puts one more block in use; and of an XTEND that stores as NSERT does "Such splits count in S and
  -- s" [F2, E5]
  unfoldable pub S : ℕ
  S = tally (λ before q o. split_off (new_details before o) q before o.after) st qs

  -- index splits by NSERT, and by such an XTEND [F2, E5]
  unfoldable pub s : ℕ
  s = tally (λ before q o. split_off (new_indexes before o) q before o.after) st qs

  -- "X, x detail and index blocks started by XTEND" [F2]
  unfoldable pub X : ℕ
  X = tally (λ before q o. started_new (new_details before o) q before o.after) st qs

  -- index blocks started by XTEND [F2]
  unfoldable pub x : ℕ
  x = tally (λ before q o. started_new (new_indexes before o) q before o.after) st qs

  -- "the sum of transfers", and "calls counted whether refused or not" [F4, T3]
  unfoldable pub all_transfers : ℕ
  all_transfers = tally (λ before q o. length o.transfers) st qs

  -- the calls' shares, summed [F4]
  unfoldable pub shares : ℕ
  shares = tally (λ before q o. share q) st qs

-- "hD·S ≤ M, FD·X ≤ M, hI·s ≤ S+X, FI·x ≤ S+X, and the sum of transfers is at most 3·(SEEK+UPDAT+NSERT) + 5·ADV + 6·DLETE + 4·XTEND +
-- CLOSE + 4·(S+X) + s + x, calls counted whether refused or not.", with 6 for XTEND's 4 [F3, F4, E6]
pub record Within (st : State) (qs : List Request) : Type 0 where
  pub splits : h_d (desc st) * S st qs ≤ M st qs
  pub starts : FD (desc st) * X st qs ≤ M st qs
  pub index-splits : h_i (desc st) * s st qs ≤ S st qs + X st qs
  pub index-starts : FI (desc st) * x st qs ≤ S st qs + X st qs
  pub transfers : all_transfers st qs ≤ shares st qs + 4 * (S st qs + X st qs) + s st qs + x st qs

-- P holds "From a CREATE and then an OPEN that both answer 0, any calls, each given what the last left, closing and reopening included"
abbrev pub AfterCreate : (State → List Request → Type 0) → Type 0
AfterCreate P =
    (session : Session) (f buffer work marks : List ℕ) → (create session.desc f).number ≡ done
    → let made = lent session (create session.desc f).file buffer work in
    (open_file made marks).outcome.number ≡ done → (qs : List Request) → P (open_file made marks).outcome.after qs

-- demand 3: the formula holds of every such run [F3, F4, S7]
abbrev pub Demand3 : Type 0
Demand3 = AfterCreate Within

-- ---- of one call

-- at most its share of transfers, 4 for each new detail block and 1 for each new index block
abbrev pub CallWithin : State → Request → Type 0
CallWithin st q = length (answer st q).transfers ≤ share q + 4 * new_details st (answer st q) + new_indexes st (answer st q)
