-- DLETE on a sound open state: not found exactly where the key is not there; else the record goes.
use Prim.Native.Nat.{ℕ}
use mathlib.Core.Logic.{◌⊎◌, inl, inr}
use mathlib.Core.Path.{◌≡◌, refl, sym, ap, subst}
use mathlib.Core.List.{List, [], ◌∷◌, ◌++◌}
use native.Mathlib.Omega.{arith}
use lib.ListN.{length, length-append}
use Rattle.numbers.specs.Numbers.{done, not_found}
use Rattle.numbers.specs.Checked.{passed}
use Rattle.words.specs.Keys.{val}
use Rattle.drum.proofs.Good.{good-facts}
use Rattle.rules.specs.declared.Way.{Way}
use Rattle.rules.specs.declared.Look.TheVariants.{Found}
use Rattle.rules.specs.State.{State, desc, texts, key_in}
use Rattle.rules.specs.Lookup.{look}
use Rattle.rules.specs.Dlete.{dlete}
use Rattle.demands.proofs.Order.{hit, del}
use Rattle.layout.specs.Tree.{Section}
use Rattle.demands.proofs.Trees.{leaves_in, records_in, key}
use Rattle.demands.proofs.Holds.{Free}
use Rattle.demands.proofs.Steps.{with_rows}
use Rattle.demands.proofs.Places.{Place, tree_with}
use Rattle.demands.proofs.Sound.{Key}
use Rattle.demands.proofs.Answers.{Ready, key_of, Gives, gives_more}
use Rattle.demands.proofs.Reach.{At}
use Rattle.demands.proofs.Lookup.{Covers, Looked, absent, there, looks}
use Rattle.demands.proofs.Dlete.{dlete-absent, dlete-some}
use Rattle.demands.proofs.DleteEmpty.{dlete-emptied}
use Rattle.demands.proofs.Growth.{nothing}
use Rattle.demands.specs.Reuse.{KeepsBlocks, Deleted, some_left}
use Rattle.demands.proofs.Moves.{tree_in, kept_block}

abbrev pub DleteRight : State → List Section → Free → Type 0
DleteRight st ss f =
    ((hit (key (desc st).k) (val (key_in (desc st) st.work)) (records_in (leaves_in ss)) ≡ []) × Gives st ss (dlete st) not_found 3
    (records_in (leaves_in ss)) nothing ss f)
    ⊎ ((x : List ℕ) × (hit (key (desc st).k) (val (key_in (desc st) st.work)) (records_in (leaves_in ss)) ≡ x ∷ [])
    × (ss' : List Section) × (f' : Free) × Gives st ss (dlete st) done 6
    (del (key (desc st).k) (val (key_in (desc st) st.work)) (records_in (leaves_in ss))) nothing ss' f'
    × Deleted (tree_in ss f) (tree_in ss' f'))

module _ (st : State) (ss : List Section) (f : Free) (r : Ready (desc st).k st ss f) (kw : Key (desc st) (key_in (desc st) st.work)) where
  abbrev Result : Type 0
  Result =
      (ss' : List Section) × (f' : Free) × Gives st ss (dlete st) done 6
      (del (key (desc st).k) (val (key_in (desc st) st.work)) (records_in (leaves_in ss))) nothing ss' f'
      × Deleted (tree_in ss f) (tree_in ss' f')

  kept-some : (a : Place) (way : Way) → At (texts st) st.session.flag ss f a way → (rows : List (List ℕ))
      → Deleted (tree_in ss f) (tree_in (tree_with a (with_rows (desc st) a.leaf rows ∷ [])) f)
  kept-some a way A rows = some_left (subst (λ (z : List Section). KeepsBlocks (tree_in z f) (tree_in (tree_with a (with_rows (desc st) a.leaf rows ∷ [])) f))
      (sym A.is) (kept_block a f (with_rows (desc st) a.leaf rows) refl))

  take_out : (a : Place) (way : Way) → At (texts st) st.session.flag ss f a way → Covers (texts st) (key_in (desc st) st.work) a
      → (bs : List (List ℕ)) (x : List ℕ) (cs : List (List ℕ))
      → a.leaf.records ≡ bs ++ x ∷ cs → key (desc st).k x ≡ val (key_in (desc st) st.work)
      → look (texts st) st.session.flag (key_in (desc st) st.work) ≡ passed (Found way (length bs)) → Result
  take_out a way A C [] x [] q k l = dlete-emptied st ss f r kw a way A C x q k l
  take_out a way A C [] x (c ∷ cs) q k l = (
    _,
    f,
    gives_more st ss _ _ 3 6 _ nothing _ f
        (dlete-some st ss f r kw a way A C [] x (c ∷ cs) q k l (omega (arith, ap length q))) (omega arith),
    kept-some a way A _,
  )
  take_out a way A C (b ∷ bs) x cs q k l = (
    _,
    f,
    gives_more st ss _ _ 3 6 _ nothing _ f
        (dlete-some st ss f r kw a way A C (b ∷ bs) x cs q k l (omega (arith, ap length q, length-append bs (x ∷ cs)))) (omega arith),
    kept-some a way A _,
  )

  at : Looked (texts st) st.session.flag (key_in (desc st) st.work) ss f → DleteRight st ss f
  at (absent a A C e none l) = inl (e, dlete-absent st ss f r a A l)
  at (there a way A C bs x cs q k one l) = let t = take_out a way A C bs x cs q k l in inr (x, one, t.0, t.1, t.2, t.3)

pub dlete-right : (st : State) (ss : List Section) (f : Free) → Ready (desc st).k st ss f → DleteRight st ss f
dlete-right st ss f r =
    let kw : Key (desc st) (key_in (desc st) st.work) = key_of (desc st).k st ss f r (omega arith) (good-facts (desc st) r.sound.kept.good).key in
    at st ss f r kw (looks (texts st) st.session.flag ss f r.sound.kept (key_in (desc st) st.work) kw)
