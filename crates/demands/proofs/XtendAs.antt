-- XTEND where the last block holds only the end record and the key is not above the bound before it: out of sequence after the lookup, or what
-- NSERT of the same record does, with the transfers to the last block besides.
use Prim.Native.Nat.{ℕ, ◌+◌, ◌≤◌, ◌<◌}
use mathlib.Core.Bool.{Bool, true, false, cond, not, ◌&&◌}
use mathlib.Core.Path.{◌≡◌, refl, sym, ap, ◌∙◌, subst}
use mathlib.Core.List.{List, [], ◌∷◌, ◌++◌}
use native.Mathlib.Omega.{arith}
use lib.Dec.{eqb}
use lib.ListN.{length}
use Rattle.numbers.specs.Numbers.{out_of_sequence, bad_file}
use Rattle.numbers.specs.Checked.{Checked, passed, ◌>>=◌, ◌>>◌, require}
use Rattle.words.specs.Keys.{val}
use Rattle.drum.specs.Blocks.{Transfer, Read, Texts}
use Rattle.layout.specs.Tree.{Section}
use Rattle.rules.specs.declared.Path.{Path}
use Rattle.rules.specs.declared.Way.{Way}
use Rattle.rules.specs.declared.Way.TheVariants.{Here, By}
use Rattle.rules.specs.declared.Look.{Look}
use Rattle.rules.specs.declared.Look.TheVariants.{Missing}
use Rattle.rules.specs.declared.Insert.{Insert}
use Rattle.rules.specs.declared.Insert.TheVariants as insert-is
use Rattle.rules.specs.declared.Extend.TheVariants.{Before}
use Rattle.rules.specs.State.{State, Outcome, Effect, desc, texts, key_in, outcome}
use Rattle.rules.specs.Lookup.{Reached, look, flush_moves, bringing, reached, stopping}
use Rattle.rules.specs.Free.{is_new}
use Rattle.rules.specs.Nsert.{insert_after, insert_deed}
use Rattle.rules.specs.NsertDone.{insert_done, nsert}
use Rattle.rules.specs.Xtend.{not_behind, apart, new_apart, insert_before, look_deed, extend_at}
use Rattle.rules.specs.XtendDone.{reading, listed, extend_done, xtend}
use Rattle.rules.specs.Fits.{Outside}
use Rattle.rules.proofs.Before.{before_here, before-by}
use Rattle.demands.specs.Refusals.{looked_from}
use Rattle.demands.specs.AsNsert.{besides}
use Rattle.demands.proofs.Scene.{scene}
use Rattle.demands.proofs.Holds.{Free}
use Rattle.demands.proofs.Places.{Place, tree_of, lo, index_in}
use Rattle.demands.proofs.Paths.{path_of}
use Rattle.demands.proofs.Sound.{Key, KeptTree, texts_left}
use Rattle.demands.proofs.Answers.{Ready, Gives}
use Rattle.demands.proofs.Reach.{At, at-by}
use Rattle.demands.proofs.Lookup.{Covers}
use Rattle.demands.proofs.Stores.{stop-gives}
use Rattle.demands.proofs.Frees.{next, free_count, taken, taken-count, next-outside, second-outside, new-pass}
use Rattle.demands.proofs.Nsert.{nsert-by}
use Rattle.demands.proofs.NsertRight.{PlanFits, stops, rooms, splits, boths}
use Rattle.demands.proofs.Last.{ending, Last}
use Rattle.demands.proofs.Growth.{nothing}
use Rattle.demands.proofs.Xtend.{xtend-by}
use Rattle.demands.proofs.XtendAlone.{to-look}

-- the transfers to the last block and of the lookup from there
look-few : (v : Texts) (flag : Bool) (way : Way) (w q : Path) → length (looked_from v flag way w q).moves ≤ 6
unfolding looked_from reading reached bringing flush_moves
look-few v flag way w q = go flag way (eqb w.index 0)
  where
    go : (flag : Bool) (way : Way) (t : Bool)
        → length (((reached v flag way).moves ++ cond t [] (Read w.index ∷ [])) ++ (reached v (reached v flag way).flag (By q)).moves) ≤ 6
    go true Here true = omega arith
    go true Here false = omega arith
    go true (By y) true = omega arith
    go true (By y) false = omega arith
    go false Here true = omega arith
    go false Here false = omega arith
    go false (By y) true = omega arith
    go false (By y) false = omega arith

-- a block that NSERT's test of new blocks would pass on the last path
apart-new : (c : ℕ) (flag : Bool) (way : Way) (w : Path) (b : ℕ) → is_new c flag w b ≡ true → apart way w b ≡ true
unfolding apart
apart-new c flag way w b e = go way (eqb b w.index) (eqb b w.detail) refl refl e
  where
    go : (way : Way) (i d : Bool) → eqb b w.index ≡ i → eqb b w.detail ≡ d → (not i && (not d && not (flag && eqb b c))) ≡ true → apart way w b ≡ true
    go Here false d ei ed h = rw ei
    go (By y) false false ei ed h = rw (ei, ed)
    go (By y) false true ei ed h = absurd (let z : ◌≡◌ {A = ℕ} 0 1 = cc in omega arith)
    go y true d ei ed h = absurd (let z : ◌≡◌ {A = ℕ} 0 1 = cc in omega arith)

-- what a plan of NSERT does
record Does (v : Texts) (flag : Bool) (work : List ℕ) (d : Insert) : Type 0 where
  effect : Effect
  does : insert_done v flag work d ≡ passed effect

does-it : (v : Texts) (flag : Bool) (work : List ℕ) (f : Free) (d : Insert) → PlanFits f d → Does v flag work d
unfolding insert_done
does-it v flag work f _ (stops w n) = record { effect = _; does = refl }
does-it v flag work f _ (rooms w i n) = record { effect = _; does = refl }
does-it v flag work f _ (splits w i d n e s) = record { effect = _; does = refl }
does-it v flag work f _ (boths w i b d n e g s) = record { effect = _; does = refl }

plan-outside : (f : Free) (d : Insert) → PlanFits f d → Outside d
plan-outside f _ (stops w n) = tt
plan-outside f _ (rooms w i n) = tt
plan-outside f _ (splits w i d n e s) = tt
plan-outside f _ (boths w i b d n e g s) = tt

-- XTEND answers and leaves what NSERT does, and its transfers are more by those to the last block
pub record AsCalled (st : State) (way : Way) : Type 0 where
  pub number-is : (xtend st).number ≡ (nsert st).number
  pub after_is : (xtend st).after ≡ (nsert st).after
  pub more-is : length (xtend st).transfers ≡ length (nsert st).transfers + besides way

as-outcome : (st : State) (way : Way) (ms : List Transfer) (e : Effect) → xtend st ≡ outcome st.session (listed ms e) → nsert st ≡ outcome st.session e
    → length ms ≡ length e.transfers + besides way → AsCalled st way
unfolding outcome listed
as-outcome st way ms e xs ns long = record {
  number-is = ap (λ (o : Outcome). o.number) xs ∙ sym (ap (λ (o : Outcome). o.number) ns);
  after_is = ap (λ (o : Outcome). o.after) xs ∙ sym (ap (λ (o : Outcome). o.after) ns);
  more-is = ap (λ (o : Outcome). length o.transfers) xs ∙ long ∙ ap (λ (o : Outcome). length o.transfers + besides way) (sym ns);
}

module _ (st : State) (ss : List Section) (f : Free) (r : Ready (desc st).wpr st ss f) (kw : Key (desc st) (key_in (desc st) st.work))
    (L : Last (texts st) st.session.flag ss f) (alone : L.front ≡ [])
    (under : val (key_in (desc st) st.work) < lo (desc st) (ending L.before L.index L.low L.leaf)) where
  open scene st ss use {p, v, flag, w, K, rows}

  abbrev end : Place
  end = ending L.before L.index L.low L.leaf

  index-least : 1 ≤ L.index
  index-least = (index_in p end f _ _ L.at.held).0

  module _ (q : Place) (is : ss ≡ tree_of q) (C : Covers (texts st) (key_in (desc st) st.work) q) where
    -- the lookup's path, and the three tests
    pub looked-at : (t : Bool) → not_behind v w (path_of end) (path_of q) ≡ t → extend_at v flag w L.way
        ≡ cond t (passed (Before L.way (path_of end) (insert-is.Stop (By (path_of q)) out_of_sequence)))
        (insert_before v flag w L.way (path_of end) (path_of q))
    unfolding look_deed
    looked-at t e =
        to-look st ss f r kw L alone under
        ∙ ap (λ (m : Checked Path). m >>= (λ c. cond (not_behind v w (path_of end) c) (passed (Before L.way (path_of end) (insert-is.Stop
        (By c) out_of_sequence)))
        (insert_before v flag w L.way (path_of end) c))) C.path-is
        ∙ ap (λ (b : Bool). cond b (passed (Before L.way (path_of end) (insert-is.Stop (By (path_of q)) out_of_sequence)))
        (insert_before v flag w L.way (path_of end) (path_of q))) e

    -- 5, "the lookup done"
    pub five : not_behind v w (path_of end) (path_of q) ≡ true → Gives st ss (xtend st) out_of_sequence 6 rows nothing ss f
    unfolding extend_done insert_done listed stopping looked_from
    five e =
        let here : Reached = looked_from v flag L.way (path_of end) (path_of q) in
        let A : At v flag ss f q (By (path_of q)) = at-by v flag ss f r.sound.kept q is in
        let back : KeptTree (texts_left v here) here.flag ss f
        = subst (λ (z : List Section). KeptTree (texts_left v here) here.flag z f) (sym is) A.kept in
        subst (λ (z : Outcome). Gives st ss z out_of_sequence 6 rows nothing ss f)
        (sym (xtend-by st ss f r kw L (Before L.way (path_of end) (insert-is.Stop (By (path_of q)) out_of_sequence)) (stopping out_of_sequence st.work here)
        (looked-at true e) refl))
        (stop-gives st ss f r.sound r.opened here 6 (look-few v flag L.way (path_of end) (path_of q)) back out_of_sequence st.work)

    -- the plan is NSERT's, whose new blocks are apart from the last path
    module _ (e : not_behind (texts st) (key_in (desc st) st.work) (path_of (ending L.before L.index L.low L.leaf)) (path_of q) ≡ false)
        (l : look (texts st) st.session.flag (key_in (desc st) st.work) ≡ passed (Missing (path_of q))) (d : Insert)
        (plan-is : insert_deed (texts st) st.session.flag (key_in (desc st) st.work) ≡ passed d) (fits : PlanFits f d) where
      apart-is : new_apart L.way (path_of end) d ≡ true
      unfolding new_apart
      apart-is = go d fits
        where
          away : (b : ℕ) → is_new v.current flag (path_of end) b ≡ true → apart L.way (path_of end) b ≡ true
          away b h = apart-new v.current flag L.way (path_of end) b h

          first : 1 ≤ free_count f → apart L.way (path_of end) (next f) ≡ true
          first some = away (next f) (new-pass v flag ss f r.sound.kept end L.at.is (next f) (next-outside p _ _ ss f r.sound.kept.holds some))

          second : 2 ≤ free_count f → apart L.way (path_of end) (next (taken f)) ≡ true
          second two =
              let some : 1 ≤ free_count f = omega arith in
              away (next (taken f)) (new-pass v flag ss f r.sound.kept end L.at.is (next (taken f))
              (second-outside p _ _ ss f r.sound.kept.holds some (omega (arith, taken-count f some))))

          go : (d : Insert) → PlanFits f d → new_apart L.way (path_of end) d ≡ true
          go _ (stops c n) = refl
          go _ (rooms c i n) = refl
          go _ (splits c i t n z some) = ap (apart L.way (path_of end)) z ∙ first some
          go _ (boths c i b t n y z two) = rw (y, z, first (omega arith), second two)

      pub before-deed : extend_at v flag w L.way ≡ passed (Before L.way (path_of end) d)
      unfolding insert_before insert_after
      before-deed =
          looked-at false e
          ∙ ap (λ (m : Checked Insert). m >>= (λ c. require (new_apart L.way (path_of end) c) bad_file >> passed (Before L.way (path_of end) c))) planned
          ∙ ap (λ (b : Bool). require b bad_file >> passed (Before L.way (path_of end) d)) apart-is
        where
          by-look : insert_deed v flag w ≡ insert_after v flag w (Missing (path_of q))
          by-look = unfold insert_deed in ap (λ (m : Checked Look). m >>= (λ c. insert_after v flag w c)) l

          planned : insert_after v flag w (Missing (path_of q)) ≡ passed d
          planned = sym by-look ∙ plan-is

      pub as_called : AsCalled st L.way
      unfolding extend_done besides
      as_called = as-outcome st L.way (moves L.way) one.effect xs ns (long L.way)
        where
          one : Does v flag st.work d
          one = does-it v flag st.work f d fits

          two : (way : Way) → Does v (reached v flag way).flag st.work d
          two way = does-it v (reached v flag way).flag st.work f d fits

          moves : Way → List Transfer
          moves way = (reading L.index (reached v flag way)).moves ++ (two way).effect.transfers

          done : extend_done v flag st.work (Before L.way (path_of end) d) ≡ passed (listed (moves L.way) one.effect)
          done =
              ap (λ (m : Checked Effect). m >>= (λ e. insert_done v (reached v flag L.way).flag st.work d >>=
              (λ t. passed (listed ((reading L.index (reached v flag L.way)).moves ++ t.transfers) e)))) one.does
              ∙ ap (λ (m : Checked Effect). m >>= (λ t. passed (listed ((reading L.index (reached v flag L.way)).moves ++ t.transfers) one.effect)))
              (two L.way).does

          xs : xtend st ≡ outcome st.session (listed (moves L.way) one.effect)
          xs = xtend-by st ss f r kw L (Before L.way (path_of end) d) (listed (moves L.way) one.effect) before-deed done

          ns : nsert st ≡ outcome st.session one.effect
          ns = nsert-by st ss f r d one.effect plan-is one.does

          long : (way : Way) → length (moves way) ≡ length one.effect.transfers + besides way
          long Here = before_here v st.work L.index d one.effect (two Here).effect (plan-outside f d fits) flag index-least one.does
              (two Here).does
          long (By y) = before-by v st.work L.index d one.effect (two (By y)).effect (plan-outside f d fits) flag y index-least one.does (two
              (By y)).does
