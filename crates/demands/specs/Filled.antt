-- "FD = D−SPACE, FI = I−SPACE" over a whole run: a file that is filled by XTEND alone has SPACE places free in every block but the last of its
-- kind, no block freed, and its blocks in the order of their keys as long as there is one section. Nothing is proved here.
use Rattle.std.specs.Prelude.{ℕ, zero, suc, ◌+◌, ◌-◌, ◌/◌, ◌≤◌, ◌≡◌, List, [], ◌∷◌, length}
use Rattle.numbers.specs.Numbers.{done}
use Rattle.drum.specs.declared.Description.{Description}
use Rattle.drum.specs.Params.{FD, FI}
use Rattle.layout.specs.Tree.{Leaf, Section, Tree, last_in, leaf_blocks, leaves_of, contents}
use Rattle.layout.specs.Holds.{Holds}
use Rattle.rules.specs.State.{Session, State, Outcome, desc, lent, key_in}
use Rattle.rules.specs.Open.{create, open_file}
use Rattle.rules.specs.Requests.{Request, opening, closing, seeking, advancing, inserting, deleting, updating, extending, left, tally}
use Rattle.demands.specs.Formula.{accepted_by}
use Rattle.demands.specs.Promises.{put_back}
use Rattle.demands.specs.Answers.{ordinary}

-- P holds of each of a list but the last, and Q of the last
unfoldable pub ButLast : {A : Type 0} → (A → Type 0) → (A → Type 0) → List A → Type 0
ButLast P Q [] = Unit {0}
ButLast P Q (x ∷ []) = Q x
ButLast P Q (x ∷ y ∷ xs) = P x × ButLast P Q (y ∷ xs)

-- n numbers from b on
unfoldable pub count_from : ℕ → ℕ → List ℕ
count_from b zero = []
count_from b (suc n) = b ∷ count_from (suc b) n

-- while there is one section: its index block is CREATE's block 1, and its detail blocks are 2, 3, .. in the order of their keys
unfoldable pub OneInOrder : List Section → Type 0
OneInOrder [] = Unit {0}
OneInOrder (s ∷ []) = (s.block ≡ 1) × (leaf_blocks s.leaves ≡ count_from 2 (length s.leaves))
OneInOrder (s ∷ u ∷ ss) = Unit {0}

-- a detail block with FD records, and one with no more
abbrev pub Full : Description → Leaf → Type 0
Full p l = length l.records ≡ FD p

-- a detail block with FD records or fewer [C26]
abbrev pub Most : Description → Leaf → Type 0
Most p l = length l.records ≤ FD p

-- a section with FI detail blocks, and one with no more
abbrev pub FullIndex : Description → Section → Type 0
FullIndex p s = length s.leaves ≡ FI p

-- a section with FI detail blocks or fewer [C29]
abbrev pub MostIndex : Description → Section → Type 0
MostIndex p s = length s.leaves ≤ FI p

-- a detail block whose bound is the key of its last record, and any one
abbrev pub Tight : Description → Leaf → Type 0
Tight p l = l.bound ≡ key_in p (last_in l.records)

-- any detail block
abbrev pub Any : Leaf → Type 0
Any l = Unit {0}

-- a file that XTEND alone has filled [P9, C26, C27, C29]
pub record Filled (p : Description) (t : Tree) : Type 0 where
  -- "head of the free chain (0 none)": none
  pub chain : t.chain ≡ []
  -- "Fewer than FD records: insert": every detail block but the last has FD records, the last has no more
  pub details : ButLast (Full p) (Most p) (leaves_of t)
  -- "If the index holds FI or more, the entry starts a new index block and section": every section but the last has FI detail blocks
  pub indexes : ButLast (FullIndex p) (MostIndex p) t.sections
  -- "the old bound becomes the key": every bound but the last is the key of the last record under it
  pub bounds : ButLast (Tight p) Any (leaves_of t)
  -- "lowest block never used": every block below it is in use
  pub lowest : t.lowest ≡ 1 + length (leaves_of t) + length t.sections
  -- "block 1: 1, ONES, 2", and new blocks from word 2
  pub order : OneInOrder t.sections

-- the blocks in use, by R, the ordinary records: 1 + R/FD detail blocks, and over d of them 1 + (d-1)/FI index blocks, rounded down
pub record CountedOf (p : Description) (t : Tree) : Type 0 where
  pub details : length (leaves_of t) ≡ 1 + length (ordinary p (contents t)) / FD p
  pub indexes : length t.sections ≡ 1 + (length (leaves_of t) - 1) / FI p

-- 1 for an NSERT or a DLETE that is accepted, and 0 for any other call
unfoldable pub disturbs : Request → Outcome → ℕ
disturbs (opening marks) o = 0
disturbs closing o = 0
disturbs (seeking work) o = 0
disturbs (advancing work) o = 0
disturbs (inserting work) o = accepted_by o
disturbs (deleting work) o = accepted_by o
disturbs (updating work) o = 0
disturbs (extending work) o = 0

-- of the calls of a run no NSERT and no DLETE is accepted; SEEK, ADV, UPDAT, XTEND, CLOSE, OPEN and refused calls are any
abbrev pub OnlyXtends : State → List Request → Type 0
OnlyXtends st qs = tally (λ before q o. disturbs q o) st qs ≡ 0

-- the tree that stands in the file with the buffer put back is so filled
abbrev pub StandsFilled : State → Type 0
StandsFilled st = (t : Tree) × Holds (desc st) (put_back st) t × Filled (desc st) t × CountedOf (desc st) t

-- from an OPEN that answers 0, of a file that is so filled, any such calls, closing and reopening included
abbrev pub StaysFilled : Type 0
StaysFilled =
    (st : State) (marks : List ℕ) → (open_file st marks).outcome.number ≡ done → (t : Tree) → Holds (desc st) st.file t → Filled (desc st) t
    → (qs : List Request) → OnlyXtends (open_file st marks).outcome.after qs → StandsFilled (left (open_file st marks).outcome.after qs)

-- from a CREATE and then an OPEN that both answer 0
abbrev pub ExtendedFilled : Type 0
ExtendedFilled =
    (session : Session) (f buffer work marks : List ℕ) → (create session.desc f).number ≡ done
    → let made = lent session (create session.desc f).file buffer work in
    (open_file made marks).outcome.number ≡ done
    → (qs : List Request) → OnlyXtends (open_file made marks).outcome.after qs → StandsFilled (left (open_file made marks).outcome.after qs)
