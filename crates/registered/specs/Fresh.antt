-- A file made by CREATE: "Entering adds a raw name, its spelling zero." Nothing is proved here.
use Rattle.std.specs.Prelude.{ℕ, ◌≡◌, List}
use Rattle.numbers.specs.Numbers.{done}
use Rattle.words.specs.Words.{zeros}
use Rattle.layout.specs.Holds.{All}
use Rattle.rules.specs.State.{Session, desc, lent}
use Rattle.rules.specs.Open.{create, open_file}
use Rattle.register.specs.Names.{raw, spelling_size, state_of, spelling_of}
use Rattle.registered.specs.Deeds.{Deed, asking, did, left_by}
use Rattle.registered.specs.Kept.{Registers}

-- from CREATE and OPEN answering 0, while only register calls touch the file: whatever asking shows to be raw has the spelling zero [G3]
abbrev pub FreshRawZero : Type 0
FreshRawZero =
    (session : Session) (f buffer work marks : List ℕ) → (create session.desc f).number ≡ done
    → let made = (open_file (lent session (create session.desc f).file buffer work) marks).outcome in
    let p = desc made.after in
    made.number ≡ done → (ds : List Deed) → All Registers ds → (name : List ℕ)
    → let o = did (left_by made.after ds) (asking name) in
    o.number ≡ done → state_of p o.after.work ≡ raw → spelling_of p o.after.work ≡ zeros (spelling_size p)
