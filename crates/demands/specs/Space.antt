-- What a planner of space uses: so many names, put in by NSERT in any order, take at most so many blocks; and with so many there is room for all.
-- Nothing is proved here.
use Rattle.std.specs.Prelude.{ℕ, ◌+◌, ◌/◌, ◌≤◌, ◌<◌, ◌≡◌, List}
use Rattle.numbers.specs.Numbers.{no_room}
use Rattle.drum.specs.declared.Description.{Description}
use Rattle.rules.specs.State.{State, desc}
use Rattle.rules.specs.Requests.{inserting, answer, left}
use Rattle.demands.specs.Formula.{h_d, h_i, detail_blocks, index_blocks, M, AfterCreate}
use Rattle.demands.specs.Reuse.{larger}
use Rattle.demands.specs.Full.{OnlyNserts}

-- the detail blocks of r names: "if more than one, times hD is at most its records, the end record counted" [F6, F9]
unfoldable pub most_details : Description → ℕ → ℕ
most_details p r = larger 1 ((r + 1) / h_d p)

-- the sections, each with its index block: "likewise index blocks, if more than one, times hI against detail blocks" [F7, F9]
unfoldable pub most_sections : Description → ℕ → ℕ
most_sections p r = larger 1 (most_details p r / h_i p)

-- all blocks of r names [F9]
unfoldable pub most_blocks : Description → ℕ → ℕ
most_blocks p r = most_details p r + most_sections p r

-- no more blocks are in use
pub record SpaceWithin (p : Description) (r : ℕ) (st : State) : Type 0 where
  pub details : detail_blocks st ≤ most_details p r
  pub sections : index_blocks st ≤ most_sections p r
  pub blocks : detail_blocks st + index_blocks st ≤ most_blocks p r

-- from a CREATE and then an OPEN that both answer 0, any calls of which no DLETE and no XTEND is accepted, and at most r NSERTs are [F5, F9]
abbrev pub BlocksWithin : Type 0
BlocksWithin = AfterCreate λ st qs. OnlyNserts st qs → (r : ℕ) → M st qs ≤ r → SpaceWithin (desc st) r (left st qs)

-- with N and CONTROL no less than that there is room for r names in any order: after such calls, fewer than r accepted, no NSERT answers 070002 [F9]
abbrev pub RoomForAll : Type 0
RoomForAll = AfterCreate λ st qs. OnlyNserts st qs → (r : ℕ) → most_blocks (desc st) r ≤ (desc st).n → most_sections (desc st) r ≤ (desc st).control
    → M st qs < r → (work : List ℕ) → (answer (left st qs) (inserting work)).number ≡ no_room → ⊥
