-- "New blocks come from the chain's head first, then word 2; detail before index. Freed blocks are therefore used again." Of the trees before and
-- after a call, and of word 2 over a run. Nothing is proved here.
use Rattle.std.specs.Prelude.{ℕ, zero, suc, ◌+◌, ◌-◌, Bool, true, false, cond, ◌≡◌, List, [], ◌∷◌, ◌++◌, leb, eqb, length, drop}
use Rattle.numbers.specs.Numbers.{done}
use Rattle.drum.specs.Blocks.{lowest_unused}
use Rattle.layout.specs.Tree.{Section, Tree, leaf_blocks, leaves_of, times}
use Rattle.layout.specs.Holds.{Holds}
use Rattle.rules.specs.State.{Session, State, desc, lent}
use Rattle.rules.specs.Open.{create, open_file}
use Rattle.rules.specs.Requests.{Request, opening, closing, seeking, advancing, inserting, deleting, updating, extending, answer, left}
use Rattle.demands.specs.Formula.{detail_blocks, index_blocks, new_details, new_indexes}
use Rattle.demands.specs.Promises.{AfterOpen, put_back}

-- the detail blocks and the index blocks in use
abbrev pub details_of : Tree → List ℕ
details_of t = leaf_blocks (leaves_of t)

-- the index blocks of a list of sections [L4]
unfoldable pub indexes_in : List Section → List ℕ
indexes_in [] = []
indexes_in (s ∷ ss) = s.block ∷ indexes_in ss

-- `more` has the blocks of `less` and besides them those of `extra`, each as often, in any order
abbrev pub Besides : List ℕ → List ℕ → List ℕ → Type 0
Besides more extra less = (b : ℕ) → times b more ≡ times b extra + times b less

-- "New blocks come from the chain's head first, then word 2": n of them
unfoldable pub new_blocks : ℕ → List ℕ → ℕ → List ℕ
new_blocks zero chain lowest = []
new_blocks (suc n) [] lowest = lowest ∷ new_blocks n [] (lowest + 1)
new_blocks (suc n) (b ∷ bs) lowest = b ∷ new_blocks n bs lowest

-- d new detail blocks and x new index blocks: "detail before index", taken off the chain, and from word 2 only where the chain is too short
pub record Takes (d x : ℕ) (t t' : Tree) : Type 0 where
  pub details : Besides (details_of t') (new_blocks d t.chain t.lowest) (details_of t)
  pub indexes : Besides (indexes_in t'.sections) (drop d (new_blocks (d + x) t.chain t.lowest)) (indexes_in t.sections)
  pub chain : t'.chain ≡ drop (d + x) t.chain
  pub lowest : t'.lowest ≡ t.lowest + (d + x - length t.chain)

-- the detail blocks ds and the index blocks xs are freed: "block made the chain's head", "An emptied index block is then made the head"
pub record Frees (ds xs : List ℕ) (t t' : Tree) : Type 0 where
  pub details : Besides (details_of t) ds (details_of t')
  pub indexes : Besides (indexes_in t.sections) xs (indexes_in t'.sections)
  pub chain : t'.chain ≡ xs ++ (ds ++ t.chain)
  pub lowest : t'.lowest ≡ t.lowest

-- the same blocks in use, the same chain and the same word 2
abbrev pub KeepsBlocks : Tree → Tree → Type 0
KeepsBlocks t t' = Frees [] [] t t'

-- what a DLETE that answers 0 frees: "found: remove" none; "Left empty" its block; "An emptied index block" that too
pub data Deleted (t t' : Tree) : Type 0 where
  some_left : KeepsBlocks t t' → Deleted t t'
  detail-freed : (b : ℕ) → Frees (b ∷ []) [] t t' → Deleted t t'
  both-freed : (b x : ℕ) → Frees (b ∷ []) (x ∷ []) t t' → Deleted t t'

-- any other DLETE keeps all
abbrev pub Deletes : Bool → Tree → Tree → Type 0
Deletes true t t' = Deleted t t'
Deletes false t t' = KeepsBlocks t t'

-- what a call makes of the blocks; NSERT and XTEND that are not accepted have no new ones, so that all is kept
abbrev pub Reuses : State → Request → Tree → Tree → Type 0
Reuses st (opening marks) t t' = KeepsBlocks t t'
Reuses st closing t t' = KeepsBlocks t t'
Reuses st (seeking work) t t' = KeepsBlocks t t'
Reuses st (advancing work) t t' = KeepsBlocks t t'
Reuses st (inserting work) t t' = let o = answer st (inserting work) in Takes (new_details st o) (new_indexes st o) t t'
Reuses st (deleting work) t t' = Deletes (eqb (answer st (deleting work)).number done) t t'
Reuses st (updating work) t t' = KeepsBlocks t t'
Reuses st (extending work) t t' = let o = answer st (extending work) in Takes (new_details st o) (new_indexes st o) t t'

-- after each call of any run from an OPEN that answers 0
abbrev pub CallReuse : Type 0
CallReuse = AfterOpen λ st. (q : Request) (t t' : Tree) → Holds (desc st) (put_back st) t
    → Holds (desc st) (put_back (answer st q).after) t' → Reuses st q t t'

-- ---- over a run: a block never used is put in use only where all others are in use

-- the larger of two numbers
unfoldable pub larger : ℕ → ℕ → ℕ
larger a b = cond (leb a b) b a

-- the most blocks in use at once, at the start of a run and after each of its calls
unfoldable pub peak : State → List Request → ℕ
peak st [] = detail_blocks st + index_blocks st
peak st (q ∷ qs) = larger (detail_blocks st + index_blocks st) (peak (answer st q).after qs)

-- "Freed blocks are therefore used again": from an OPEN that answers 0 word 2 rises to the peak and no further
abbrev pub LowestIsPeak : Type 0
LowestIsPeak =
    (st : State) (marks : List ℕ) → (open_file st marks).outcome.number ≡ done → (qs : List Request)
    → let opened = (open_file st marks).outcome.after in lowest_unused (left opened qs).file ≡ larger (lowest_unused st.file) (1 + peak opened qs)

-- and from a CREATE and an OPEN that both answer 0 it is one above the peak
abbrev pub MadeIsPeak : Type 0
MadeIsPeak =
    (session : Session) (f buffer work marks : List ℕ) → (create session.desc f).number ≡ done
    → let made = lent session (create session.desc f).file buffer work in
    (open_file made marks).outcome.number ≡ done
    → (qs : List Request) → let opened = (open_file made marks).outcome.after in lowest_unused (left opened qs).file ≡ 1 + peak opened qs
