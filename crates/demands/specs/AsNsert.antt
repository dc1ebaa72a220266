-- Document 02, "Extending after the last name was struck off": "otherwise the record is stored as NSERT stores it". Nothing is proved here.
use Rattle.std.specs.Prelude.{ℕ, ◌+◌, false, ◌≡◌, List, [], length}
use Rattle.numbers.specs.Checked.{passed}
use Rattle.drum.specs.declared.Description.{Description}
use Rattle.layout.specs.Tree.{Tree, leaves_of, contents}
use Rattle.layout.specs.Holds.{Holds}
use Rattle.rules.specs.declared.Way.{Way}
use Rattle.rules.specs.declared.Way.TheVariants.{Here, By}
use Rattle.rules.specs.State.{State, desc, texts, key_in}
use Rattle.rules.specs.Xtend.{last_way}
use Rattle.rules.specs.Requests.{inserting, extending, answer}
use Rattle.demands.specs.Promises.{AfterOpen, put_back}
use Rattle.demands.specs.Answers.{Keyed, ordinary, records_from, last_block}
use Rattle.demands.specs.Storing.{bound_before, is_above}

-- "Where the last block holds only the end record and the key is not above the bound before it", and no ordinary key is not below it [E2, E4]
pub record BehindAll (p : Description) (key : List ℕ) (t : Tree) : Type 0 where
  pub alone : ordinary p (last_block (leaves_of t)) ≡ []
  pub under : is_above (bound_before (leaves_of t)) key ≡ false
  pub none : ordinary p (records_from p key (contents t)) ≡ []

-- "the last block is reached as now": the transfers that this adds to NSERT's, its index block read, or the last block brought and its index block
-- read again; a flagged buffer is written once [E2, E4]
unfoldable pub besides : Way → ℕ
besides Here = 1
besides (By w) = 3

-- XTEND answers the number that NSERT of the same record answers, leaves the file, buffer, workspace and session that it leaves, and makes so many
-- transfers more [E4]
pub record AsNsert (st : State) (work : List ℕ) : Type 0 where
  pub number : (answer st (extending work)).number ≡ (answer st (inserting work)).number
  pub after : (answer st (extending work)).after ≡ (answer st (inserting work)).after
  pub transfers : (way : Way) → last_way (texts st) st.session.flag ≡ passed way
      → length (answer st (extending work)).transfers ≡ length (answer st (inserting work)).transfers + besides way

-- after each call of any run from an OPEN that answers 0, where the tree t stands in the file with the buffer put back
abbrev pub XtendAsNsert : Type 0
XtendAsNsert = AfterOpen λ st. (t : Tree) → Holds (desc st) (put_back st) t → (work : List ℕ) → Keyed st (desc st).wpr work
    → BehindAll (desc st) (key_in (desc st) work) t → AsNsert st work
