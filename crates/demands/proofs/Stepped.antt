-- What one call from a sound state leaves and brings: all that the theorems over whole runs ask of a call.
use Prim.Native.Nat.{ℕ, ◌+◌, ◌*◌, ◌≤◌}
use mathlib.Core.Path.{◌≡◌}
use mathlib.Core.List.{List, map}
use lib.Dec.{eqb}
use lib.ListN.{length}
use Rattle.numbers.specs.Numbers.{done}
use Rattle.words.specs.Keys.{val}
use Rattle.drum.specs.declared.Description.{Description}
use Rattle.rules.specs.State.{State, Outcome, desc, key_in}
use Rattle.rules.specs.Requests.{Request, opening, closing, seeking, advancing, inserting, deleting, updating, extending, answer}
use Rattle.demands.specs.Formula.{accepted_by, share}
use Rattle.demands.specs.History.{event_of}
use Rattle.demands.specs.History as history
use Rattle.demands.specs.Filled.{disturbs, Filled}
use Rattle.demands.specs.Reuse.{Takes, KeepsBlocks, Deletes}
use Rattle.demands.proofs.Lists.{All}
use Rattle.layout.specs.Tree.{Section, Tree}
use Rattle.demands.proofs.Trees.{leaves_in, records_in, key}
use Rattle.demands.proofs.Holds.{Free}
use Rattle.demands.proofs.Sound.{Key, Sound}
use Rattle.demands.proofs.History.{Change, puts, drops, happened}
use Rattle.demands.proofs.Moves.{tree_in}
use Rattle.demands.proofs.LastBlock.{LastTells}
use Rattle.demands.proofs.Growth.{Growth, nothing, Grows}

-- what a call may bring: NSERT splits and XTEND starts or splits, with a record where it is accepted; XTEND that is not, and the others, bring nothing
abbrev pub Brought : Request → Outcome → Growth → Type 0
Brought (opening marks) o g = g ≡ nothing
Brought closing o g = g ≡ nothing
Brought (seeking w) o g = g ≡ nothing
Brought (advancing w) o g = g ≡ nothing
Brought (inserting w) o g = (g.records ≡ accepted_by o) × (g.starts ≡ 0) × (g.index-starts ≡ 0)
Brought (deleting w) o g = g ≡ nothing
Brought (updating w) o g = g ≡ nothing
Brought (extending w) o g =
    (g.records ≡ accepted_by o) × (g.splits + g.starts ≤ accepted_by o) × (g.index-splits + g.index-starts ≤ accepted_by o)

-- the transfers that a call may make which brings g
abbrev pub most : Request → Growth → ℕ
most q g = share q + 4 * (g.splits + g.starts) + (g.index-splits + g.index-starts)

-- an event by the number of its key, and that its key is one that a call may be given
unfoldable pub numbered : history.Event → Change (List ℕ)
numbered (history.stored r) = puts r
numbered (history.removed x) = drops (val x)

abbrev pub KeyOf : Description → history.Event → Type 0
KeyOf p (history.stored r) = Key p (key_in p r)
KeyOf p (history.removed x) = Key p x

-- what a call makes of the blocks: NSERT and XTEND take as many as they bring, DLETE may free some, the others keep all
abbrev pub Moved : Request → Outcome → Growth → Tree → Tree → Type 0
Moved (opening marks) o g t t' = KeepsBlocks t t'
Moved closing o g t t' = KeepsBlocks t t'
Moved (seeking w) o g t t' = KeepsBlocks t t'
Moved (advancing w) o g t t' = KeepsBlocks t t'
Moved (inserting w) o g t t' = Takes (g.splits + g.starts) (g.index-splits + g.index-starts) t t'
Moved (deleting w) o g t t' = Deletes (eqb o.number done) t t'
Moved (updating w) o g t t' = KeepsBlocks t t'
Moved (extending w) o g t t' = Takes (g.splits + g.starts) (g.index-splits + g.index-starts) t t'

-- a call from a sound state with the tree ss: a sound state again, of the same file; the contents with what the call put in or took out; and
-- what the call brought, at what cost, and what the last leaf tells of it; the blocks then; and a tree filled by XTEND stays one where the call is no
-- NSERT and no DLETE accepted
pub record Stepped (st : State) (ss : List Section) (f : Free) (q : Request) : Type 0 where
  pub sections : List Section
  pub free : Free
  pub sound : Sound (answer st q).after sections free
  pub desc-is : desc (answer st q).after ≡ desc st
  pub contents-is : records_in (leaves_in sections) ≡ happened (key (desc st).k) (map numbered (event_of (desc st) q (answer st q))) (records_in (leaves_in ss))
  pub keys : All (KeyOf (desc st)) (event_of (desc st) q (answer st q))
  pub growth : Growth
  pub grows : Grows (desc st) ss sections growth
  pub brought : Brought q (answer st q) growth
  pub last : LastTells q growth ss sections
  pub cost : length (answer st q).transfers ≤ most q growth
  pub moved : Moved q (answer st q) growth (tree_in ss f) (tree_in sections free)
  pub filled : disturbs q (answer st q) ≡ 0 → Filled (desc st) (tree_in ss f) → Filled (desc st) (tree_in sections free)
