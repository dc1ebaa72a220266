-- Document 02, "Extending after the last name was struck off": sessions whose last name was struck off, as tables, and words that no session
-- leaves. By computation.
use Prim.Native.Nat.{ℕ, ◌+◌, ◌*◌}
use mathlib.Core.Bool.{false}
use mathlib.Core.Path.{◌≡◌, refl}
use mathlib.Core.List.{List, [], ◌∷◌, map}
use lib.ListN.{take, set, length}
use Rattle.numbers.specs.Numbers.{bad_file, done}
use Rattle.drum.specs.declared.Description.{Description}
use Rattle.rules.specs.declared.Call.{Call}
use Rattle.rules.specs.declared.Call.TheVariants as call
use Rattle.rules.specs.State.{State, lent, holding}
use Rattle.rules.specs.NsertDone.{nsert}
use Rattle.rules.specs.XtendDone.{xtend}
use Rattle.rules.specs.Run.{Line, begun, printed, ended, record_from}
use Rattle.rules.specs.Requests.{Request, inserting, deleting, extending, answer}
use Rattle.rules.proofs.Computing.{computing}
use Rattle.demands.specs.Names.{block_of}
use Rattle.demands.specs.Formula.{details_under, detail_blocks, index_blocks, new_details, new_indexes, last_detail, starts_last, of_nsert, of_xtend, split_off}
use Rattle.demands.specs.Formula.{started_new, share, S, s, X, x, all_transfers, shares}
use Rattle.demands.proofs.Printed.{line}

-- ---- `8 3 1 0 2 4`: NSERT 10 1 2, 20 3 4; DLETE 20; XTEND 15 5 5, 12 6 6, 15 6 6, 18 7 7, 19 8 8, 30 9 9

abbrev struck : Description
struck = record { wpb = 8; wpr = 3; k = 1; space = 0; control = 2; n = 4; form = 1 }

abbrev struck-words : List ℕ
struck-words =
    10 ∷ 1 ∷ 2 ∷ 20 ∷ 3 ∷ 4
    ∷ 20
    ∷ 15 ∷ 5 ∷ 5 ∷ 12 ∷ 6 ∷ 6 ∷ 15 ∷ 6 ∷ 6 ∷ 18 ∷ 7 ∷ 7 ∷ 19 ∷ 8 ∷ 8 ∷ 30 ∷ 9 ∷ 9 ∷ []

abbrev struck-calls : List Call
struck-calls =
    call.Create ∷ call.Open
    ∷ call.Nsert 0 ∷ call.Nsert 3 ∷ call.Dlete 6
    ∷ call.Xtend 7 ∷ call.Xtend 10 ∷ call.Xtend 13 ∷ call.Xtend 16 ∷ call.Xtend 19 ∷ call.Xtend 22
    ∷ call.Close ∷ []

abbrev struck-lines : List Line
struck-lines =
    line 0o000000 0 []
    ∷ line 0o000000 0 []
    ∷ line 0o000000 2 []
    ∷ line 0o000000 7 []
    ∷ line 0o000000 0 []
    ∷ line 0o000000 6 []
    ∷ line 0o000005 6 []
    ∷ line 0o000005 5 []
    ∷ line 0o000000 9 []
    ∷ line 0o070001 5 []
    ∷ line 0o070001 4 []
    ∷ line 0o000000 1 []
    ∷ []

abbrev struck-file : List ℕ
struck-file =
    1 ∷ 0 ∷ 5 ∷ 262143 ∷ 1 ∷ 0 ∷ 0 ∷ 0
    ∷ 3 ∷ 15 ∷ 2 ∷ 20 ∷ 4 ∷ 262143 ∷ 3 ∷ 0
    ∷ 2 ∷ 10 ∷ 1 ∷ 2 ∷ 15 ∷ 5 ∷ 5 ∷ 0
    ∷ 2 ∷ 30 ∷ 9 ∷ 9 ∷ 262143 ∷ 0 ∷ 0 ∷ 0
    ∷ 2 ∷ 18 ∷ 7 ∷ 7 ∷ 19 ∷ 8 ∷ 8 ∷ 0 ∷ []

-- its lines, and the file at the end
pub table : (printed struck-words (begun struck) struck-calls ≡ struck-lines) × ((ended struck-words (begun struck) struck-calls).file ≡ struck-file)
unfolding computing
table = (refl, refl)

-- in the second block form the same lines
pub table-second : printed struck-words (begun (record { wpb = 8; wpr = 3; k = 1; space = 0; control = 2; n = 4; form = 2 })) struck-calls ≡ struck-lines
unfolding computing
table-second = refl

-- the blocks that the call at place n of a session names, in the order of its list
abbrev named : List ℕ → Description → List Call → (List ℕ → Request) → ℕ → ℕ → List ℕ
named ws p cs kind n at = let st = ended ws (begun p) (take n cs) in map block_of (answer st (kind (record_from ws st at))).transfers

-- XTEND 15 5 5: W2 R1 R3 R1 R1 R2, the share of an XTEND; XTEND 18 7 7, which splits: R1 R3 R1 R1 R2 R1 W2 W4 W1
pub struck-lists :
    (named struck-words struck struck-calls extending 5 7 ≡ 2 ∷ 1 ∷ 3 ∷ 1 ∷ 1 ∷ 2 ∷ [])
    × (named struck-words struck struck-calls extending 8 16 ≡ 1 ∷ 3 ∷ 1 ∷ 1 ∷ 2 ∷ 1 ∷ 2 ∷ 4 ∷ 1 ∷ [])
unfolding computing
struck-lists = (refl, refl)

-- ---- `6 2 1 0 3 6`: NSERT 1 0, 3 0; DLETE 3; NSERT 2 0; XTEND 3 0, which splits its block and the index block: 11

abbrev eleven : Description
eleven = record { wpb = 6; wpr = 2; k = 1; space = 0; control = 3; n = 6; form = 1 }

abbrev eleven-words : List ℕ
eleven-words = 1 ∷ 0 ∷ 3 ∷ 0 ∷ 3 ∷ 2 ∷ 0 ∷ 3 ∷ 0 ∷ []

abbrev eleven-calls : List Call
eleven-calls = call.Create ∷ call.Open ∷ call.Nsert 0 ∷ call.Nsert 2 ∷ call.Dlete 4 ∷ call.Nsert 5 ∷ call.Xtend 7 ∷ []

abbrev eleven-lines : List Line
eleven-lines =
    line 0o000000 0 []
    ∷ line 0o000000 0 []
    ∷ line 0o000000 2 []
    ∷ line 0o000000 7 []
    ∷ line 0o000000 0 []
    ∷ line 0o000000 3 []
    ∷ line 0o000000 11 []
    ∷ []

abbrev eleven-file : List ℕ
eleven-file =
    2 ∷ 0 ∷ 6 ∷ 3 ∷ 1 ∷ 262143 ∷ 5 ∷ 0 ∷ 0 ∷ 0
    ∷ 2 ∷ 2 ∷ 2 ∷ 3 ∷ 4 ∷ 0
    ∷ 2 ∷ 1 ∷ 0 ∷ 2 ∷ 0 ∷ 0
    ∷ 1 ∷ 262143 ∷ 0 ∷ 0 ∷ 0 ∷ 0
    ∷ 1 ∷ 3 ∷ 0 ∷ 0 ∷ 0 ∷ 0
    ∷ 1 ∷ 262143 ∷ 3 ∷ 0 ∷ 0 ∷ 0
    ∷ 0 ∷ 0 ∷ 0 ∷ 0 ∷ 0 ∷ 0 ∷ []

-- its lines, the file, the buffer and the current block; the last list W2 R1 R3 R1 R1 R2 R1 W2 W4 W1 W5
pub eleven-table :
    (printed eleven-words (begun eleven) eleven-calls ≡ eleven-lines)
    × ((ended eleven-words (begun eleven) eleven-calls).file ≡ eleven-file)
    × ((ended eleven-words (begun eleven) eleven-calls).buffer ≡ 1 ∷ 3 ∷ 0 ∷ 0 ∷ 0 ∷ 0 ∷ [])
    × ((ended eleven-words (begun eleven) eleven-calls).session.current ≡ 4)
    × (named eleven-words eleven eleven-calls extending 6 7 ≡ 2 ∷ 1 ∷ 3 ∷ 1 ∷ 1 ∷ 2 ∷ 1 ∷ 2 ∷ 4 ∷ 1 ∷ 5 ∷ [])
unfolding computing
eleven-table = (refl, refl, refl, refl, refl)

-- "Such splits count in S and s": after NSERT 3 0 has split a block, XTEND 3 0 splits one more, and an index block; it starts none
abbrev eleven-run : List Request
eleven-run = inserting (1 ∷ 0 ∷ []) ∷ inserting (3 ∷ 0 ∷ []) ∷ deleting (3 ∷ 0 ∷ []) ∷ inserting (2 ∷ 0 ∷ []) ∷ extending (3 ∷ 0 ∷ []) ∷ []

abbrev eleven-made : State
eleven-made = ended [] (begun eleven) (call.Create ∷ call.Open ∷ [])

pub splits-count : (S eleven-made eleven-run ≡ 2) × (s eleven-made eleven-run ≡ 1) × (X eleven-made eleven-run ≡ 0) × (x eleven-made eleven-run ≡ 0)
unfolding computing details_under detail_blocks index_blocks new_details new_indexes last_detail starts_last of_nsert of_xtend split_off started_new S s X x
splits-count = (refl, refl, refl, refl)

-- ---- `6 2 1 0 2 5`: NSERT 1 0, 2 0, 3 0, 5 0; DLETE 5; NSERT 4 0; XTEND 5 0: "070002 after that lookup leaves the lookup done"

abbrev short : Description
short = record { wpb = 6; wpr = 2; k = 1; space = 0; control = 2; n = 5; form = 1 }

abbrev short-words : List ℕ
short-words = 1 ∷ 0 ∷ 2 ∷ 0 ∷ 3 ∷ 0 ∷ 5 ∷ 0 ∷ 5 ∷ 4 ∷ 0 ∷ 5 ∷ 0 ∷ []

abbrev short-calls : List Call
short-calls =
    call.Create ∷ call.Open
    ∷ call.Nsert 0 ∷ call.Nsert 2 ∷ call.Nsert 4 ∷ call.Nsert 6
    ∷ call.Dlete 8 ∷ call.Nsert 9 ∷ call.Xtend 11 ∷ []

abbrev short-lines : List Line
short-lines =
    line 0o000000 0 []
    ∷ line 0o000000 0 []
    ∷ line 0o000000 2 []
    ∷ line 0o000000 7 []
    ∷ line 0o000000 2 []
    ∷ line 0o070001 8 []
    ∷ line 0o000000 0 []
    ∷ line 0o070001 3 []
    ∷ line 0o070002 6 []
    ∷ []

-- its lines, the last list W3 R5 R4 R5 R1 R3, and the block in the buffer then, not flagged
pub short-table :
    (printed short-words (begun short) short-calls ≡ short-lines)
    × (named short-words short short-calls extending 8 11 ≡ 3 ∷ 5 ∷ 4 ∷ 5 ∷ 1 ∷ 3 ∷ [])
    × ((ended short-words (begun short) short-calls).session.current ≡ 3)
    × ((ended short-words (begun short) short-calls).session.flag ≡ false)
unfolding computing
short-table = (refl, refl, refl, refl)

-- ---- words that no session leaves: the first session after XTEND 12 6 6, the chain's head made the last block, and XTEND 18 7 7

abbrev looked : State
looked = ended struck-words (begun struck) (take 7 struck-calls)

-- the last block is brought, so that the new block is in the list already: 070003. NSERT does not read it
abbrev brought : State
brought = lent looked.session (set looked.file 1 3) looked.buffer (18 ∷ 7 ∷ 7 ∷ [])

pub made-up-brought : ((xtend brought).number ≡ bad_file) × ((xtend brought).transfers ≡ []) × ((nsert brought).number ≡ done) × (length
    (nsert brought).transfers ≡ 6)
unfolding computing
made-up-brought = (refl, refl, refl, refl)

-- the last block is in the buffer, not flagged: it is in no transfer, and is taken. R1 R1 R2 R1 W2 W3 W1
abbrev buffered : State
buffered = lent (holding 3 false looked.session) (set looked.file 1 3) (1 ∷ 262143 ∷ 0 ∷ 0 ∷ 0 ∷ 0 ∷ 0 ∷ 0 ∷ []) (18 ∷ 7 ∷ 7 ∷ [])

abbrev taken-file : List ℕ
taken-file =
    1 ∷ 1 ∷ 4 ∷ 262143 ∷ 1 ∷ 0 ∷ 0 ∷ 0
    ∷ 3 ∷ 15 ∷ 2 ∷ 20 ∷ 3 ∷ 262143 ∷ 3 ∷ 0
    ∷ 2 ∷ 10 ∷ 1 ∷ 2 ∷ 15 ∷ 5 ∷ 5 ∷ 0
    ∷ 1 ∷ 18 ∷ 7 ∷ 7 ∷ 0 ∷ 0 ∷ 0 ∷ 0
    ∷ 0 ∷ 0 ∷ 0 ∷ 0 ∷ 0 ∷ 0 ∷ 0 ∷ 0 ∷ []

pub made-up-buffered :
    ((xtend buffered).number ≡ done)
    × (map block_of (xtend buffered).transfers ≡ 1 ∷ 1 ∷ 2 ∷ 1 ∷ 2 ∷ 3 ∷ 1 ∷ [])
    × ((xtend buffered).after.file ≡ taken-file)
    × ((xtend buffered).after.session.current ≡ 3)
unfolding computing
made-up-buffered = (refl, refl, refl, refl)

-- two entries with one bound: the lookup of 15 stops at the first, which is not the one before the last by its place: 5
abbrev twins : State
twins =
    lent (holding 0 false looked.session)
    (1 ∷ 0 ∷ 5 ∷ 262143 ∷ 1 ∷ 0 ∷ 0 ∷ 0
    ∷ 3 ∷ 20 ∷ 2 ∷ 20 ∷ 4 ∷ 262143 ∷ 3 ∷ 0
    ∷ 1 ∷ 10 ∷ 1 ∷ 2 ∷ 0 ∷ 0 ∷ 0 ∷ 0
    ∷ 1 ∷ 262143 ∷ 0 ∷ 0 ∷ 0 ∷ 0 ∷ 0 ∷ 0
    ∷ 1 ∷ 12 ∷ 0 ∷ 0 ∷ 0 ∷ 0 ∷ 0 ∷ 0 ∷ [])
    looked.buffer (15 ∷ 5 ∷ 5 ∷ [])

pub made-up-twins : ((xtend twins).number ≡ 5) × (length (xtend twins).transfers ≡ 5) × ((xtend twins).after.session.current ≡ 2)
unfolding computing
made-up-twins = (refl, refl, refl)

-- ---- 6 is needed: `28 2 1 11 2 6`: XTEND 1, 1000; DLETE 1000; XTEND 2 .. 13, with a 0 word each

abbrev needed : Description
needed = record { wpb = 28; wpr = 2; k = 1; space = 11; control = 2; n = 6; form = 1 }

abbrev put : ℕ → Request
put k = extending (k ∷ 0 ∷ [])

abbrev needed-run : List Request
needed-run =
    put 1 ∷ put 1000 ∷ deleting (1000 ∷ 0 ∷ [])
    ∷ put 2 ∷ put 3 ∷ put 4 ∷ put 5 ∷ put 6 ∷ put 7 ∷ put 8 ∷ put 9 ∷ put 10 ∷ put 11 ∷ put 12 ∷ put 13 ∷ []

abbrev needed-made : State
needed-made = ended [] (begun needed) (call.Create ∷ call.Open ∷ [])

-- 14 XTENDs and a DLETE cost 81; with 5 for each XTEND the formula would allow 80, with 6 it allows 94
pub six-needed :
    (all_transfers needed-made needed-run ≡ 81)
    × (5 * 14 + 6 + 4 * (S needed-made needed-run + X needed-made needed-run) + s needed-made needed-run + x needed-made needed-run ≡ 80)
    × (shares needed-made needed-run + 4 * (S needed-made needed-run + X needed-made needed-run) + s needed-made needed-run + x needed-made needed-run ≡ 94)
unfolding computing details_under detail_blocks index_blocks new_details new_indexes last_detail starts_last of_nsert of_xtend split_off started_new share S s X x all_transfers shares
six-needed = (refl, refl, refl)
