-- XTEND that did what NSERT does: its transfers counted besides NSERT's, and what is told then.
use Prim.Native.Nat.{ℕ, ◌+◌, ◌≤◌}
use mathlib.Core.Path.{◌≡◌, sym, ap, ◌∙◌}
use mathlib.Core.Bool.{Bool}
use mathlib.Core.List.{List, ◌++◌}
use native.Mathlib.Omega.{arith}
use lib.ListN.{length}
use Rattle.numbers.specs.Checked.{passed}
use Rattle.drum.specs.Blocks.{Texts}
use Rattle.rules.specs.declared.Path.{Path}
use Rattle.rules.specs.declared.Way.{Way}
use Rattle.rules.specs.declared.Way.TheVariants.{Here, By}
use Rattle.rules.specs.declared.Done.{Done}
use Rattle.rules.specs.declared.Insert.{Insert}
use Rattle.rules.specs.declared.Extend.TheVariants.{Before}
use Rattle.rules.specs.State.{Effect}
use Rattle.rules.specs.Lookup.{reached}
use Rattle.rules.specs.NsertDone.{insert_done}
use Rattle.rules.specs.XtendDone.{reading, listed, extend_done}
use Rattle.rules.specs.Fits.{Outside}
use Rattle.rules.specs.Told.{gave, told}
use Rattle.rules.proofs.Before.{insert-done, before_here, before-by}
use Rattle.xtend.specs.Steps.{lead, counting}

-- the list of the whole call is longer than NSERT's
longer : (v : Texts) (flag : Bool) (work : List ℕ) (way : Way) (x : ℕ) (d : Insert) (e t : Effect) → 1 ≤ x → Outside d
    → insert_done v flag work d ≡ passed e → insert_done v (reached v flag way).flag work d ≡ passed t
    → length ((reading x (reached v flag way)).moves ++ t.transfers) ≡ length e.transfers + lead way
longer v flag work Here x d e t least out h k = before_here v work x d e t out flag least h k
longer v flag work (By w) x d e t least out h k = before-by v work x d e t out flag w least h k

-- a way has few transfers
module _ (way : Way) where
  pub lead_most : (m : ℕ) → m ≡ lead way → m ≤ 3
  lead_most m e = go way e
    where
      go : (x : Way) → m ≡ lead x → m ≤ 3
      go Here h = omega arith
      go (By w) h = omega arith

module _ (v : Texts) (flag : Bool) (work : List ℕ) (way : Way) (w : Path) (d : Insert) (x : Done) (m : ℕ) (g t : List ℕ) where
  -- NSERT's effect under that list
  pub before-led : 1 ≤ w.index → Outside d → gave x g t work ≡ told v flag work (insert_done v flag work d) → m ≡ lead way
      → gave (counting m x) g t work ≡ told v flag work (extend_done v flag work (Before way w d))
  unfolding extend_done listed
  before-led least out h r =
      let a = insert-done v work flag d out in
      let b = insert-done v work (reached v flag way).flag d out in
      let e = h ∙ ap (told v flag work) a.1 in
      let c : x.transfers + m ≡ length ((reading w.index (reached v flag way)).moves ++ b.0.transfers) =
      (λ j. (e j).transfers + r j) ∙ sym (longer v flag work way w.index d a.0 b.0 least out a.1 b.1) in
      let l : extend_done v flag work (Before way w d) ≡ passed (listed ((reading w.index (reached v flag way)).moves ++ b.0.transfers) a.0) =
      rw (a.1, b.1)
      in
      (λ j. record {
        number = (e j).number;
        transfers = c j;
        current = (e j).current;
        flag = (e j).flag;
        keyed = (e j).keyed;
        file = (e j).file;
        buffer = (e j).buffer;
        work = (e j).work;
      })
      ∙ ap (told v flag work) (sym l)
