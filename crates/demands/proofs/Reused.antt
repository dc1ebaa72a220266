-- Blocks freed and used again: runs after CREATE and OPEN with the parameters 8 3 1 0 2 6 (D 2, I 3, FD 2, FI 3); and SPACE left free, with the
-- parameters 12 3 1 1 2 9 (D 3, I 5, FD 2, FI 4). By computation.
use Prim.Native.Nat.{ℕ}
use mathlib.Core.Path.{◌≡◌, refl}
use mathlib.Core.List.{List, [], ◌∷◌, map}
use Rattle.words.specs.Words.{zeros}
use lib.ListN.{get_or}
use Rattle.drum.specs.declared.Description.{Description}
use Rattle.drum.specs.Blocks.{block_at, chain_head, lowest_unused}
use Rattle.rules.specs.State.{State}
use Rattle.rules.specs.Open.{create}
use Rattle.rules.specs.Run.{begun, created_outcome}
use Rattle.rules.specs.Requests.{Request, opening, closing, seeking, inserting, deleting, updating, extending, answer, left}
use Rattle.rules.proofs.Computing.{computing}
use Rattle.demands.specs.Formula.{details_under, detail_blocks, index_blocks, accepted_by}
use Rattle.demands.specs.Filled.{disturbs, OnlyXtends}
use Rattle.demands.specs.Reuse.{larger, peak}

abbrev small : Description
small = record { wpb = 8; wpr = 3; k = 1; space = 0; control = 2; n = 6; form = 1 }

abbrev spaced : Description
spaced = record { wpb = 12; wpr = 3; k = 1; space = 1; control = 2; n = 9; form = 1 }

-- CREATE and OPEN
abbrev made_with : Description → State
made_with p = (answer (created_outcome (begun p) (create p (begun p).file)).after (opening (zeros p.n))).after

abbrev made : State
made = made_with small

abbrev rec : ℕ → List ℕ
rec k = k ∷ 0 ∷ 0 ∷ []

-- words 1 and 2 of the master after each call of a run: the chain's head, and the lowest block never used
unfoldable pub frees : State → List Request → List (List ℕ)
frees st [] = []
frees st (q ∷ qs) = let o = answer st q in (chain_head o.after.file ∷ lowest_unused o.after.file ∷ []) ∷ frees o.after qs

-- the second NSERT splits block 2, and 3 is new; the second DLETE frees 2; the last NSERT splits block 3, and 2 is used again: word 2 stays
abbrev again : List Request
again = inserting (rec 10) ∷ inserting (rec 20) ∷ deleting (rec 10) ∷ deleting (rec 20) ∷ inserting (rec 30) ∷ inserting (rec 40) ∷ []

pub used-again : (frees made again ≡ (0 ∷ 3 ∷ []) ∷ (0 ∷ 4 ∷ []) ∷ (0 ∷ 4 ∷ []) ∷ (2 ∷ 4 ∷ []) ∷ (2 ∷ 4 ∷ []) ∷ (0 ∷ 4 ∷ []) ∷ [])
    × (block_at small (left made again).file 1 ≡ 2 ∷ 40 ∷ 3 ∷ 262143 ∷ 2 ∷ 0 ∷ 0 ∷ 0 ∷ []) × (peak made again ≡ 3)
unfolding computing frees details_under detail_blocks index_blocks larger peak
used-again = (refl, refl, refl)

-- six XTENDs fill the file, with a second section; six DLETEs free blocks 2 and 3, then 4 and after it the emptied index block 1, the head; then a
-- split takes block 1 for records, and the next takes 4
abbrev full : List Request
full = map extending (rec 10 ∷ rec 20 ∷ rec 30 ∷ rec 40 ∷ rec 50 ∷ rec 60 ∷ [])

abbrev emptied : List Request
emptied = map deleting (rec 10 ∷ rec 20 ∷ rec 30 ∷ rec 40 ∷ rec 50 ∷ rec 60 ∷ [])

abbrev refilled : List Request
refilled = map extending (rec 70 ∷ rec 80 ∷ rec 85 ∷ rec 90 ∷ [])

pub detail-below-index : (frees (left made full) emptied ≡ (0 ∷ 7 ∷ []) ∷ (2 ∷ 7 ∷ []) ∷ (2 ∷ 7 ∷ []) ∷ (3 ∷ 7 ∷ []) ∷ (3 ∷ 7 ∷ []) ∷ (1 ∷ 7 ∷ []) ∷ [])
    × (block_at small (left (left made full) emptied).file 1 ≡ 4 ∷ zeros 7)
    × (frees (left (left made full) emptied) refilled ≡ (1 ∷ 7 ∷ []) ∷ (4 ∷ 7 ∷ []) ∷ (4 ∷ 7 ∷ []) ∷ (3 ∷ 7 ∷ []) ∷ [])
unfolding computing frees
detail-below-index = (refl, refl, refl)

-- the premise of extended-filled is met by runs with other calls between: SEEK, UPDAT, CLOSE and OPEN, an NSERT that finds its key and a DLETE
-- that does not
abbrev between : List Request
between =
    extending (rec 10) ∷ inserting (rec 10) ∷ extending (rec 20) ∷ deleting (rec 15) ∷ updating (rec 10)
    ∷ closing ∷ opening (zeros 6) ∷ seeking (rec 20) ∷ extending (rec 30) ∷ []

pub others-between : OnlyXtends made between
unfolding computing accepted_by disturbs
others-between = refl

-- eight XTENDs with SPACE 1: the counts of index block 1, of the blocks 2 to 5 under it, of block 6, begun with index block 7, and of 7
abbrev extensions : List Request
extensions = map extending (rec 10 ∷ rec 20 ∷ rec 30 ∷ rec 40 ∷ rec 50 ∷ rec 60 ∷ rec 70 ∷ rec 80 ∷ [])

pub space-left : map (λ b. get_or (block_at spaced (left (made_with spaced) extensions).file b) 0 0) (1 ∷ 2 ∷ 3 ∷ 4 ∷ 5 ∷ 6 ∷ 7 ∷ []) ≡ 4 ∷ 2 ∷ 2 ∷ 2 ∷ 2 ∷ 1 ∷ 1 ∷ []
unfolding computing
space-left = refl
