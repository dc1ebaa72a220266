-- The ends that calls share: to stop after some steps, to hand out a record, to store in the buffered block.
use Prim.Native.Nat.{ℕ, ◌≤◌, ◌<◌}
use mathlib.Core.Bool.{Bool, true}
use mathlib.Core.Path.{◌≡◌, refl, sym, subst}
use mathlib.Core.List.{List, [], ◌∷◌}
use native.Mathlib.Omega.{arith}
use lib.ListN.{length}
use Rattle.words.specs.Words.{part}
use Rattle.words.specs.Keys.{ones, val}
use Rattle.table.specs.Tables.{row}
use Rattle.drum.specs.declared.Description.{Description}
use Rattle.drum.specs.Params.{D, detail_shape}
use Rattle.drum.specs.Blocks.{seen}
use Rattle.rules.specs.State.{State, Outcome, desc, texts, key_in, outcome}
use Rattle.rules.specs.Lookup.{Reached, reached, stopping, storing}
use Rattle.rules.specs.Seek.{giving}
use Rattle.rules.specs.declared.Way.{Way}
use Rattle.rules.proofs.Sizes.{way-few}
use Rattle.demands.proofs.Lists.{All}
use Rattle.demands.proofs.Order.{Asc}
use Rattle.layout.specs.Tree.{Section}
use Rattle.demands.proofs.Trees.{leaves_in, records_in, key, reach, ranged-asc, table}
use Rattle.demands.proofs.Holds.{Free, HoldsCells, LeafFits, RowOk}
use Rattle.demands.proofs.Steps.{with_rows}
use Rattle.demands.proofs.Places.{Place, tree_of, tree_with, lo, hi, leaf-ok}
use Rattle.demands.proofs.Records.{key-long}
use Rattle.demands.proofs.Sound.{Key, Ended, KeptTree, Sound, texts_left, store-leaf}
use Rattle.demands.proofs.Answers.{Ready, Gives, effect-gives}
use Rattle.demands.proofs.Reach.{At}
use Rattle.demands.proofs.Growth.{Growth, Grows, nothing, grow-none}

pub asc-rows : (p : Description) (master : List ℕ) (text : ℕ → List ℕ) (ss : List Section) (f : Free) → HoldsCells p master text ss f
    → Asc (key p.k) 0 (records_in (leaves_in ss)) (reach p.k 0 (leaves_in ss))
asc-rows p master text ss f h = ranged-asc p.k 0 (leaves_in ss) h.ranged

-- the key of a record that is not the end record
pub row-key : (p : Description) → p.k ≤ p.wpr → (r : List ℕ) → RowOk p r → key p.k r < val (ones p.k) → Key p (key_in p r)
unfolding key part
row-key p kr r ok l = record { long = (key-long p kr r ok).0; wide = (key-long p kr r ok).1; below = l }

module _ (st : State) (ss : List Section) (f : Free) (h : Sound st ss f) (o : st.session.opened ≡ true) (r : Reached) (most : ℕ)
    (cost : length r.moves ≤ most) where
  abbrev p : Description
  p = desc st

  -- "lookup done; workspace, position kept"
  pub stop-gives : KeptTree (texts_left (texts st) r) r.flag ss f → (n : ℕ) (work : List ℕ)
      → Gives st ss (outcome st.session (stopping n work r)) n most (records_in (leaves_in ss)) nothing ss f
  unfolding stopping
  stop-gives k n work =
      effect-gives st ss f h o (stopping n work r) ss f k most cost nothing (grow-none p ss) n (records_in (leaves_in ss)) refl refl
      (λ e. absurd (let z : ◌≡◌ {A = ℕ} 0 1 = cc in omega arith))

  -- "record to workspace, position = key"
  pub give-gives : KeptTree (texts_left (texts st) r) r.flag ss f → (n i : ℕ) (t : Bool) (x : List ℕ) → row (detail_shape p) r.buffer i ≡ x
      → (t ≡ true → Key p (key_in p x))
      → Gives st ss (outcome st.session (giving (texts st) r n i t)) n most (records_in (leaves_in ss)) nothing ss f
  unfolding giving
  give-gives k n i t x e kw =
      effect-gives st ss f h o (giving (texts st) r n i t) ss f k most cost nothing (grow-none p ss) n (records_in (leaves_in ss)) refl refl
      (λ q. subst (λ (z : List ℕ). Key p (key_in p z)) (sym e) (kw q))

  -- other rows for the leaf in the buffer, flag on, "position = key"
  pub store-gives : (a : Place) → KeptTree (texts_left (texts st) r) r.flag (tree_of a) f → r.current ≡ a.leaf.block
      → (rs new : List (List ℕ)) (t : List ℕ) (n : ℕ) (work : List ℕ)
      → t ≡ table (detail_shape p) p.wpb rs → Asc (key p.k) (lo p a) rs (hi p a) → 1 ≤ length rs → length rs ≤ D p → All (RowOk p) rs
      → records_in (leaves_in (tree_with a (with_rows p a.leaf rs ∷ []))) ≡ new → Ended p new → Key p (key_in p work) → (brought : Growth)
      → Grows p ss (tree_with a (with_rows p a.leaf rs ∷ [])) brought
      → Gives st ss (outcome st.session (storing n work r t)) n most new brought (tree_with a (with_rows p a.leaf rs ∷ [])) f
  unfolding storing
  store-gives a k e rs new t n work et asc some room oks c z kw brought grew =
      let ok : LeafFits p a.leaf = leaf-ok p a f _ _ k.holds in
      let k₁ : KeptTree (seen p r.current r.file (table (detail_shape p) p.wpb rs)) true (tree_with a (with_rows p a.leaf rs ∷ [])) f
      = store-leaf (texts_left (texts st) r) r.flag a f k e rs asc (record { some = some; room = room; rows = oks; bound = ok.bound; wide = ok.wide })
      (rw c z) in
      effect-gives st ss f h o (storing n work r t) (tree_with a (with_rows p a.leaf rs ∷ [])) f
      (subst (λ (b : List ℕ). KeptTree (seen p r.current r.file b) true (tree_with a (with_rows p a.leaf rs ∷ [])) f)
      (sym et) k₁) most cost brought grew n new refl c (λ q. kw)

-- a call that stops at the end of the way it went, its number n: SEEK, UPDAT and DLETE of a key that is not there, NSERT of one that is or has no room
pub stop-at : (st : State) (ss : List Section) (f : Free) (reads : ℕ) (r : Ready reads st ss f) (o : Outcome) (a : Place) (way : Way)
    → At (texts st) st.session.flag ss f a way → (n : ℕ)
    → o ≡ outcome st.session (stopping n st.work (reached (texts st) st.session.flag way)) → Gives st ss o n 3 (records_in (leaves_in ss)) nothing ss f
stop-at st ss f reads r o a way A n e =
    let here : Reached = reached (texts st) st.session.flag way in
    let back : KeptTree (texts_left (texts st) here) here.flag ss f
    = subst (λ (z : List Section). KeptTree (texts_left (texts st) here) here.flag z f) (sym A.is) A.kept in
    subst (λ (z : Outcome). Gives st ss z n 3 (records_in (leaves_in ss)) nothing ss f) (sym e)
    (stop-gives st ss f r.sound r.opened here 3 (way-few (texts st) st.session.flag way) back n st.work)
