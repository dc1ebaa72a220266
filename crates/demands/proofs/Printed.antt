-- Document 01, "One session, printed": the fifteen lines, as one table, and block 1 after the third NSERT. By computation.
use Prim.Native.Nat.{ℕ}
use mathlib.Core.Path.{◌≡◌, refl}
use mathlib.Core.List.{List, [], ◌∷◌}
use lib.ListN.{take}
use Rattle.drum.specs.declared.Description.{Description}
use Rattle.rules.specs.declared.Call.{Call}
use Rattle.rules.specs.declared.Call.TheVariants as call
use Rattle.rules.specs.Run.{Line, begun, printed, ended}
use Rattle.drum.specs.Blocks.{text_of}
use Rattle.rules.specs.State.{texts}
use Rattle.rules.proofs.Computing.{computing}

-- "Input `8 3 1 0 2 4`": WPB WPR K SPACE CONTROL N
abbrev small : Description
small = record { wpb = 8; wpr = 3; k = 1; space = 0; control = 2; n = 4; form = 1 }

-- the words that the calls carry: NSERT 10 1 2, 20 3 4, 5 7 7, 15 6 6, 12 0 0; DLETE 5, 10; XTEND 30 8 9, 25 0 0; SEEK 20
abbrev words : List ℕ
words =
    10 ∷ 1 ∷ 2 ∷ 20 ∷ 3 ∷ 4 ∷ 5 ∷ 7 ∷ 7 ∷ 15 ∷ 6 ∷ 6 ∷ 12 ∷ 0 ∷ 0
    ∷ 5 ∷ 10
    ∷ 30 ∷ 8 ∷ 9 ∷ 25 ∷ 0 ∷ 0
    ∷ 20 ∷ []

abbrev calls : List Call
calls =
    call.Create ∷ call.Open
    ∷ call.Nsert 0 ∷ call.Nsert 3 ∷ call.Nsert 6 ∷ call.Nsert 9 ∷ call.Nsert 12
    ∷ call.Dlete 15 ∷ call.Dlete 16
    ∷ call.Xtend 17 ∷ call.Xtend 20
    ∷ call.Seek 23 ∷ call.Adv ∷ call.Adv ∷ call.Close ∷ []

abbrev pub line : ℕ → ℕ → List ℕ → Line
line n c w = record { number = n; count = c; shown = w }

abbrev lines : List Line
lines =
    line 0o000000 0 []
    ∷ line 0o000000 0 []
    ∷ line 0o000000 2 []
    ∷ line 0o000000 7 []
    ∷ line 0o070001 6 []
    ∷ line 0o070001 2 []
    ∷ line 0o070002 3 []
    ∷ line 0o000000 2 []
    ∷ line 0o000000 3 []
    ∷ line 0o000000 3 []
    ∷ line 0o000005 0 []
    ∷ line 0o000000 3 (20 ∷ 3 ∷ 4 ∷ [])
    ∷ line 0o000000 3 (30 ∷ 8 ∷ 9 ∷ [])
    ∷ line 0o030002 0 (262143 ∷ 0 ∷ 0 ∷ [])
    ∷ line 0o000000 0 []
    ∷ []

-- the whole file after the third NSERT: the master and the four blocks, as docs/FORMAT.md draws them
abbrev drawn : List ℕ
drawn =
    1 ∷ 0 ∷ 5 ∷ 262143 ∷ 1 ∷ 0 ∷ 0 ∷ 0
    ∷ 3 ∷ 10 ∷ 2 ∷ 20 ∷ 4 ∷ 262143 ∷ 3 ∷ 0
    ∷ 2 ∷ 5 ∷ 7 ∷ 7 ∷ 10 ∷ 1 ∷ 2 ∷ 0
    ∷ 1 ∷ 262143 ∷ 0 ∷ 0 ∷ 0 ∷ 0 ∷ 0 ∷ 0
    ∷ 1 ∷ 20 ∷ 3 ∷ 4 ∷ 0 ∷ 0 ∷ 0 ∷ 0 ∷ []

-- "prints: ..", "After the third NSERT block 1 is 3 10 2 20 4 262143 3 0.", and the file then
pub table :
    (printed words (begun small) calls ≡ lines)
    × (text_of (texts (ended words (begun small) (take 5 calls))) 1 ≡ 3 ∷ 10 ∷ 2 ∷ 20 ∷ 4 ∷ 262143 ∷ 3 ∷ 0 ∷ [])
    × ((ended words (begun small) (take 5 calls)).file ≡ drawn)
unfolding computing
table = (refl, refl, refl)

-- the same parameters with the second block form
abbrev second : Description
second = record { wpb = 8; wpr = 3; k = 1; space = 0; control = 2; n = 4; form = 2 }

-- the file after the fifteen calls in the second form: block 2 is free, and says so
abbrev at_end : List ℕ
at_end =
    1 ∷ 2 ∷ 5 ∷ 262143 ∷ 1 ∷ 0 ∷ 0 ∷ 0
    ∷ 4098 ∷ 20 ∷ 4 ∷ 262143 ∷ 3 ∷ 0 ∷ 0 ∷ 0
    ∷ 12288 ∷ 0 ∷ 0 ∷ 0 ∷ 0 ∷ 0 ∷ 0 ∷ 0
    ∷ 8194 ∷ 30 ∷ 8 ∷ 9 ∷ 262143 ∷ 0 ∷ 0 ∷ 0
    ∷ 8194 ∷ 15 ∷ 6 ∷ 6 ∷ 20 ∷ 3 ∷ 4 ∷ 0 ∷ []

-- in the second form the same lines, block 1 after the third NSERT with its kind, and the file at the end
pub table-second :
    (printed words (begun second) calls ≡ lines)
    × (text_of (texts (ended words (begun second) (take 5 calls))) 1 ≡ 4099 ∷ 10 ∷ 2 ∷ 20 ∷ 4 ∷ 262143 ∷ 3 ∷ 0 ∷ [])
    × ((ended words (begun second) calls).file ≡ at_end)
unfolding computing
table-second = (refl, refl, refl)
