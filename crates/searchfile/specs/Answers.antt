-- What a call answers, with the session that it hands back.
use Rattle.face.specs.declared.Answer as face
use Rattle.searchfile.specs.declared.Session.{Session}

-- "A value handed in and back" beside the number and the count [S1]
abbrev pub Answer : Type 0
Answer = face.Answer Session
