-- How near a run comes to the session formula: once a block has split, hD·S is below M by D/2 or more, and hI·s below S+X by I/2 or more. A file
-- just made has one record in its one block: the first split takes D records, of which h_d pay for it. proofs/Reached has runs that come so near.
-- Nothing is proved here.
use Rattle.std.specs.Prelude.{◌+◌, ◌*◌, ◌/◌, ◌≤◌, ◌<◌, List}
use Rattle.drum.specs.Params.{D, I}
use Rattle.rules.specs.State.{State, desc}
use Rattle.rules.specs.Requests.{Request}
use Rattle.demands.specs.Formula.{h_d, h_i, M, S, s, X, AfterCreate}

-- how near a run comes to the formula [F3]
pub record Nearest (st : State) (qs : List Request) : Type 0 where
  -- "hD·S ≤ M", and never equal; "hI·s ≤ S+X" likewise
  pub never : 1 ≤ S st qs → h_d (desc st) * S st qs < M st qs
  pub index-never : 1 ≤ s st qs → h_i (desc st) * s st qs < S st qs + X st qs
  -- the difference is half a block or more, rounded down
  pub splits : 1 ≤ S st qs → h_d (desc st) * S st qs + D (desc st) / 2 ≤ M st qs
  pub index-splits : 1 ≤ s st qs → h_i (desc st) * s st qs + I (desc st) / 2 ≤ S st qs + X st qs

-- from a CREATE and an OPEN that both answer 0 [F3]
abbrev pub NeverMet : Type 0
NeverMet = AfterCreate Nearest
