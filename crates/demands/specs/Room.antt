-- Whether there is room for one record more, by arithmetic alone: on a file that is filled by XTEND alone, an XTEND whose key is above all others is
-- stored exactly where the blocks for all records are there. Nothing is proved here.
use Rattle.std.specs.Prelude.{ℕ, ◌+◌, ◌/◌, Bool, true, false, ◌&&◌, ◌≡◌, List, [], leb, length}
use Rattle.numbers.specs.Numbers.{accepted, no_room}
use Rattle.drum.specs.declared.Description.{Description}
use Rattle.drum.specs.Params.{FD, FI}
use Rattle.layout.specs.Tree.{Tree, contents}
use Rattle.layout.specs.Holds.{Holds}
use Rattle.rules.specs.State.{State, desc, key_in}
use Rattle.rules.specs.Requests.{extending, answer}
use Rattle.demands.specs.Promises.{AfterOpen, put_back}
use Rattle.demands.specs.Answers.{Keyed, ordinary, records_from}
use Rattle.demands.specs.Filled.{Filled}

-- n ordinary records in a file filled by XTEND have room: with 1 + n/FD detail blocks and 1 + (n/FD)/FI index blocks, "N, blocks" and "CONTROL, sections"
unfoldable pub has_room : Description → ℕ → Bool
has_room p n =
    let d = n / FD p in
    let x = d / FI p in
    leb (1 + d + (1 + x)) p.n && leb (1 + x) p.control

-- "stored"; or "new blocks are needed and too few are free, or a section is needed and CONTROL are in use"
abbrev pub StoredIf : Bool → ℕ → Type 0
StoredIf true number = accepted number ≡ true
StoredIf false number = number ≡ no_room

-- XTEND of a record whose key is above all others: no ordinary record's key is at or above it. With it there is one ordinary record more
abbrev pub RoomIn : State → Tree → Type 0
RoomIn st t = (work : List ℕ) → Keyed st (desc st).wpr work → ordinary (desc st) (records_from (desc st) (key_in (desc st) work) (contents t)) ≡ []
    → StoredIf (has_room (desc st) (length (ordinary (desc st) (contents t)) + 1)) (answer st (extending work)).number

-- after each call of any run from an OPEN that answers 0, where the tree that stands in the file with the buffer put back is filled by XTEND
abbrev pub RoomEnough : Type 0
RoomEnough = AfterOpen λ st. (t : Tree) → Holds (desc st) (put_back st) t → Filled (desc st) t → RoomIn st t
