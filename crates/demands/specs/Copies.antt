-- Document 02, "More sections": "same entries". A copy is opened and used as the file it was made from would be. Nothing is proved here.
use Rattle.std.specs.Prelude.{ℕ, ◌≡◌, Bool, false, List, length}
use Rattle.numbers.specs.Numbers.{done}
use Rattle.drum.specs.declared.Description.{Description}
use Rattle.layout.specs.Tree.{Tree, contents}
use Rattle.layout.specs.Holds.{Holds}
use Rattle.layout.specs.Copied.{under_control}
use Rattle.rules.specs.State.{Session, State, lent, desc, key_in}
use Rattle.rules.specs.Open.{open_file}
use Rattle.rules.specs.Copy.{copy}
use Rattle.rules.specs.Requests.{Request, seeking, answer, left}
use Rattle.demands.specs.Refusals.{leaves_all}
use Rattle.demands.specs.History.{events, standing, with_key, handed}

-- OPEN of this state answers 0, and after any calls a SEEK that is not refused finds exactly what stood among these records or was put in, and was not
-- taken out since
pub record FindsAmong (st : State) (marks : List ℕ) (rows : List (List ℕ)) : Type 0 where
  pub opens : (open_file st marks).outcome.number ≡ done
  pub finds : (qs : List Request) (w : List ℕ)
      → let begun = (open_file st marks).outcome.after in
      let o = answer (left begun qs) (seeking w) in
      let key = key_in (desc st) w in
      leaves_all o.number ≡ false → handed o ≡ standing (desc st) key (events begun qs) (with_key (desc st) key rows)

-- after a copy that answers 0: the records are those of the tree that stands in the first file, for any closed session with the new CONTROL
abbrev pub CopyFinds : Type 0
CopyFinds =
    (p : Description) (opened : Bool) (c : ℕ) (f second marks : List ℕ) → (copy p opened c f second marks).number ≡ done
    → (t : Tree) × Holds p f t × ((fresh : Session) (buffer work others : List ℕ) → fresh.desc ≡ under_control c p → fresh.opened ≡ false
    → length buffer ≡ p.wpb → length others ≡ p.n
    → FindsAmong (lent fresh (copy p opened c f second marks).second buffer work) others (contents t))
