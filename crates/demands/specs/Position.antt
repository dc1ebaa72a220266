-- What a call makes of position. Document 01, "The calls and their transfers": "position = key", "position = its key; for the end record .. position
-- stays", "NSERT, DLETE, UPDAT and XTEND set position to their key when they answer 0 or 070001"; "OPEN and CLOSE leave .. position none".
use Rattle.std.specs.Prelude.{◌≡◌, true, false}
use Rattle.numbers.specs.Numbers.{done, accepted}
use Rattle.words.specs.Words.{put}
use Rattle.rules.specs.State.{Session, State, Outcome, desc, key_in}
use Rattle.rules.specs.Requests.{Request, opening, closing, seeking, advancing, inserting, deleting, updating, extending}

-- position is as it was
pub record PositionStays (s now : Session) : Type 0 where
  pub placed : now.placed ≡ s.placed
  pub position : now.position ≡ s.position

-- position is the key that then stands first in the workspace: its words over the first of the position's [C33, C35]
pub record PositionIsKey (st now : State) : Type 0 where
  pub placed : now.session.placed ≡ true
  pub position : now.session.position ≡ put st.session.position 0 (key_in (desc st) now.work)

-- SEEK, ADV, NSERT, DLETE, UPDAT, XTEND: by the number alone [C3, C9, C33]
pub record MovesPosition (st : State) (o : Outcome) : Type 0 where
  pub moved : accepted o.number ≡ true → PositionIsKey st o.after
  pub stayed : accepted o.number ≡ false → PositionStays st.session o.after.session

-- OPEN and CLOSE [S2]
pub record Rests (st : State) (o : Outcome) : Type 0 where
  pub rested : o.number ≡ done → o.after.session.placed ≡ false
  pub stayed : (o.number ≡ done → ⊥) → PositionStays st.session o.after.session

-- what each call makes of position [C33, S2]
abbrev pub Positions : Request → State → Outcome → Type 0
Positions (opening marks) st o = Rests st o
Positions closing st o = Rests st o
Positions (seeking work) st o = MovesPosition st o
Positions (advancing work) st o = MovesPosition st o
Positions (inserting work) st o = MovesPosition st o
Positions (deleting work) st o = MovesPosition st o
Positions (updating work) st o = MovesPosition st o
Positions (extending work) st o = MovesPosition st o
