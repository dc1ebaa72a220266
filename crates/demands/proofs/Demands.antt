-- Demand 2's and demand 3's sentences over whole runs, from CREATE and OPEN on.
use Prim.Native.Nat.{ℕ}
use mathlib.Core.Bool.{Bool, true, false, cond, not, ◌&&◌}
use mathlib.Core.Path.{◌≡◌, refl, ap, ◌∙◌, subst}
use mathlib.Core.List.{List, [], ◌∷◌}
use native.Mathlib.Omega.{arith}
use lib.Dec.{eqb}
use lib.ListN.{length}
use borrow.Author.Tests.{eqb-true, not-true}
use Rattle.numbers.specs.Numbers.{done, wrong_size, already_open}
use Rattle.numbers.specs.Checked.{◌>>◌, require}
use Rattle.drum.specs.declared.Description.{Description}
use Rattle.drum.specs.Params.{good_params, file_size, sized}
use Rattle.drum.proofs.Good.{Sized, sized-facts}
use Rattle.layout.specs.Create.{created}
use Rattle.layout.specs.Tree.{Tree, Section, fresh_tree, fresh_section, fresh_leaf}
use Rattle.layout.specs.Tree as lay
use Rattle.layout.specs.Holds.{Holds}
use Rattle.layout.proofs.Made.{create-opens}
use Rattle.layout.proofs.Unique.{one-tree}
use Rattle.rules.specs.State.{Session, State, desc, key_in, lent}
use Rattle.rules.specs.Checks.{sizes_ok}
use Rattle.rules.specs.Open.{Created, create, open_checks, open_done, open_file}
use Rattle.rules.specs.Requests.{Request, answer, opening as opening_with}
use Rattle.demands.specs.Formula.{Within, AfterCreate, Demand3, CallWithin}
use Rattle.demands.specs.Nearest.{Nearest, NeverMet}
use Rattle.demands.specs.History.{FoundExactly, events, standing, with_key}
use Rattle.demands.proofs.Came.{same-parameters}
use Rattle.demands.proofs.Trees.{leaves_in, records_in}
use Rattle.demands.proofs.Holds.{Free}
use Rattle.demands.proofs.Sound.{Sound}
use Rattle.demands.proofs.Opens.{Opens, open-right}
use Rattle.demands.proofs.Growth.{counts, sizes, nothing}
use Rattle.demands.proofs.Within as formula
use Rattle.demands.proofs.Calls.{stepped}
use Rattle.demands.proofs.Standing.{found}

-- the bound of one call, from a sound state
pub call-bound : (st : State) (ss : List Section) (f : Free) → Sound st ss f → (q : Request) → CallWithin st q
call-bound st ss f h q = formula.call-within st ss f h q (stepped st ss f h q)

-- ---- an OPEN that answers 0 has passed its checks

record Opening (st : State) (marks : List ℕ) : Type 0 where
  sizes-are : Sized (desc st) (length st.file) (length st.buffer)
  marks-are : length marks ≡ (desc st).n
  was-closed : st.session.opened ≡ false

opening-by : (st : State) (marks : List ℕ) (a b c : Bool)
    → (open_done st marks (require a wrong_size >> (require b wrong_size >> require c already_open))).outcome.number ≡ done → (a ≡ true) × (b ≡ true) × (c ≡ true)
unfolding open_done
opening-by st marks true true true e = (refl, refl, refl)
opening-by st marks true true false e = absurd (omega arith)
opening-by st marks true false c e = absurd (omega arith)
opening-by st marks false b c e = absurd (omega arith)

opening : (st : State) (marks : List ℕ) → (open_file st marks).outcome.number ≡ done → Opening st marks
unfolding open_file open_checks sizes_ok
opening st marks e =
    let t = opening-by st marks (sized (desc st) (length st.file) (length st.buffer)) (eqb (length marks) (desc st).n) (not st.session.opened) e in
    record { sizes-are = sized-facts (desc st) (length st.file) (length st.buffer) t.0; marks-are = eqb-true _ _ t.1; was-closed = not-true _ t.2 }

pub opens : (st : State) (marks : List ℕ) → (open_file st marks).outcome.number ≡ done → Opens st marks
opens st marks e = let o = opening st marks e in open-right st marks o.sizes-are.good o.sizes-are.file-is o.sizes-are.buffer-is o.marks-are
    o.was-closed e

-- it keeps the parameters
pub opened-desc : (st : State) (marks : List ℕ) → (open_file st marks).outcome.number ≡ done → desc (open_file st marks).outcome.after ≡ desc st
unfolding answer
opened-desc st marks o = same-parameters st (opening_with marks)

-- ---- demand 3

-- CREATE that answers 0 writes the file anew
create-file : (p : Description) (f : List ℕ) → (create p f).number ≡ done → (create p f).file ≡ created p
unfolding create
create-file p f = go (good_params p && eqb (length f) (file_size p))
  where
    go : (t : Bool) → (cond {A = Created} t (record { number = done; file = created p }) (record { number = wrong_size; file = f })).number ≡ done
        → (cond {A = Created} t (record { number = done; file = created p }) (record { number = wrong_size; file = f })).file ≡ created p
    go true e = refl
    go false e = absurd (omega arith)

pub fresh-counts : (p : Description) → (counts (leaves_in (fresh_tree p).sections) ≡ 1 ∷ []) × (sizes (fresh_tree p).sections ≡ 1 ∷ [])
unfolding counts sizes fresh_tree fresh_section fresh_leaf
fresh-counts p = (refl, refl)

-- the tree that stands in a file just made
pub made-fresh : (session : Session) (f buffer work marks : List ℕ) → (create session.desc f).number ≡ done
    → (o : (open_file (lent session (create session.desc f).file buffer work) marks).outcome.number ≡ done)
    → (opens (lent session (create session.desc f).file buffer work) marks o).tree ≡ fresh_tree session.desc
made-fresh session f buffer work marks c o =
    let st : State = lent session (create session.desc f).file buffer work in
    let z : Opens st marks = opens st marks o in
    let p : Description = session.desc in
    let good : good_params p ≡ true = (opening st marks o).sizes-are.good in
    one-tree p (created p) z.tree (fresh_tree p) good (subst (λ (x : List ℕ). Holds p x z.tree) (create-file p f c) z.stands) (create-opens p good)

-- what holds of a run that began with nothing brought
pub after-create : (P : State → List Request → Type 0) → ((st : State) (qs : List Request) → formula.Ran (desc st) st qs nothing → P st qs) → AfterCreate P
after-create =
    formula.within-create stepped λ session f buffer work marks c o.
    let z : Opens _ marks = opens (lent session (create session.desc f).file buffer work) marks o in
    let is : z.tree ≡ fresh_tree session.desc = made-fresh session f buffer work marks c o in (
      z.tree.sections,
      _,
      z.sound,
      ap (λ (t : Tree). counts (leaves_in t.sections)) is ∙ (fresh-counts session.desc).0,
      ap (λ (t : Tree). sizes t.sections) is ∙ (fresh-counts session.desc).1,
    )

pub session-formula : Demand3
session-formula = after-create Within formula.ran-within

pub never_met : NeverMet
never_met = after-create Nearest formula.ran-nearest

-- ---- demand 2

pub found-after-open : FoundExactly
found-after-open st marks o t h qs w u =
    let z : Opens st marks = opens st marks o in
    let p : Description = desc st in
    let good : good_params p ≡ true = (opening st marks o).sizes-are.good in
    let is : z.tree ≡ t = one-tree p st.file z.tree t good z.stands h in
    let c : records_in (leaves_in z.tree.sections) ≡ lay.contents t = ap lay.contents is in
    let s : State = (open_file st marks).outcome.after in
    found s z.tree.sections _ z.sound qs w u
    ∙ ap (λ (d : Description). standing d (key_in d w) (events s qs) (with_key d (key_in d w) (records_in (leaves_in z.tree.sections)))) (opened-desc st marks o)
    ∙ ap (λ (rows : List (List ℕ)). standing p (key_in p w) (events s qs) (with_key p (key_in p w) rows)) c
