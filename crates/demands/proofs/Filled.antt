-- A file that is filled by XTEND alone: its shape over a whole run, and the number of its blocks.
use Prim.Native.Nat.{ℕ, ◌+◌, ◌*◌, ◌-◌, ◌/◌, ◌≤◌}
use mathlib.Core.Bool.{true}
use mathlib.Core.Logic.{◌⊎◌, inl, inr}
use mathlib.Core.Path.{◌≡◌, refl, sym, ap, ◌∙◌, subst}
use mathlib.Core.List.{List, [], ◌∷◌, ◌++◌}
use native.Mathlib.Omega.{arith}
use native.Mathlib.Nat.{div-eq_of_lt-le}
use lib.ListN.{length, length-append}
use Rattle.words.specs.Words.{part}
use Rattle.drum.specs.declared.Description.{Description}
use Rattle.drum.specs.Params.{FD, FI, good_params}
use Rattle.drum.proofs.Good.{good-facts}
use Rattle.layout.specs.Create.{end_record}
use Rattle.layout.specs.Tree.{Leaf, Section, leaf_blocks, fresh_leaf, fresh_section, fresh_tree}
use Rattle.layout.specs.Tree as lay
use Rattle.layout.proofs.Unique.{one-tree}
use Rattle.rules.specs.State.{State, desc, texts, lent}
use Rattle.rules.specs.Open.{create, open_file}
use Rattle.rules.specs.Requests.{Request, answer, left, tally}
use Rattle.demands.specs.Answers.{ordinary}
use Rattle.demands.specs.Filled.{ButLast, count_from, OneInOrder, Full, Most, FullIndex, MostIndex, Filled, CountedOf, disturbs}
use Rattle.demands.specs.Filled.{OnlyXtends, StandsFilled, StaysFilled, ExtendedFilled}
use Rattle.demands.proofs.Lists.{All, all_right, from_end}
use Rattle.demands.proofs.Trees.{leaves_in, leaves_in-append, records_in, records-append}
use Rattle.demands.proofs.Holds.{Free, LeafFits, SectionOk}
use Rattle.demands.proofs.Sound.{Sound}
use Rattle.demands.proofs.Stores.{asc-rows}
use Rattle.demands.proofs.Last.{end-ones}
use Rattle.demands.proofs.Records.{rows_of, rows_ok}
use Rattle.demands.proofs.XtendNumber.{ordinary-front}
use Rattle.demands.proofs.Opens.{Opens, flushed-stands}
use Rattle.demands.proofs.Moves.{tree_in}
use Rattle.demands.proofs.Fills.{fronts, ending-one}
use Rattle.demands.proofs.Stepped.{Stepped}
use Rattle.demands.proofs.Calls.{stepped}
use Rattle.demands.proofs.Demands.{opens, opened-desc, made-fresh}

-- ---- how many blocks there are

pub full-records : (p : Description) (ls : List Leaf) → All (Full p) ls → length (records_in ls) ≡ length ls * FD p
full-records p [] h = omega arith
full-records p (l ∷ ls) h = omega (arith, length-append l.records (records_in ls), h.0, full-records p ls h.1)

pub full-leaves : (p : Description) (ss : List Section) → All (FullIndex p) ss → length (leaves_in ss) ≡ length ss * FI p
full-leaves p [] h = omega arith
full-leaves p (s ∷ ss) h = omega (arith, length-append s.leaves (leaves_in ss), h.0, full-leaves p ss h.1)

-- n full ones and one of 1 to m: n is the number below, divided by m
divided : (n m r total : ℕ) → 1 ≤ r → r ≤ m → total ≡ n * m + r → (total - 1) / m ≡ n
divided n m r total some most e = div-eq_of_lt-le m (omega arith) (omega arith)

module _ (st : State) (ss : List Section) (f : Free) (h : Sound st ss f) (F : Filled (desc st) (tree_in ss f)) where
  abbrev p : Description
  p = desc st

  front-is : ordinary p (lay.contents (tree_in ss f)) ≡ h.kept.ended.front
  front-is =
      let is : records_in (leaves_in ss) ≡ h.kept.ended.front ++ end_record p ∷ [] = h.kept.ended.is in
      ap (ordinary p) is
      ∙ ordinary-front p (good-facts p h.kept.good).key (end_record p) (unfold part in end-ones (texts st) st.session.flag ss f h.kept) 0
      h.kept.ended.front _
      (rw is at (asc-rows p _ _ ss f h.kept.holds)) h.kept.holds.top (rw is at (rows_of p (leaves_in ss) (rows_ok p ss h.kept.holds.sized)))

  -- the records of the file are one more than the ordinary ones
  pub total-is : length (records_in (leaves_in ss)) - 1 ≡ length (ordinary p (lay.contents (tree_in ss f)))
  total-is = omega (arith, ap length h.kept.ended.is, length-append h.kept.ended.front (end_record p ∷ []), ap length front-is)

  details-by : (leaves_in ss ≡ []) ⊎ ((xs : List Leaf) × (y : Leaf) × (leaves_in ss ≡ xs ++ y ∷ []))
      → length (leaves_in ss) ≡ 1 + length (ordinary p (lay.contents (tree_in ss f))) / FD p
  details-by (inl e) =
      absurd (omega (
        arith,
        ap (λ (z : List Leaf). length (records_in z)) e,
        ap length h.kept.ended.is,
        length-append h.kept.ended.front (end_record p ∷ []),
      ))
  details-by (inr (xs, y, e)) =
      let b : ButLast (Full p) (Most p) (xs ++ y ∷ []) = subst (ButLast (Full p) (Most p)) e F.details in
      let ok : LeafFits p y = (all_right (LeafFits p) xs _ (rw e at (rows_ok p ss h.kept.holds.sized))).0 in
      let n : length (records_in (leaves_in ss)) ≡ length xs * FD p + length y.records
      = ap (λ (z : List Leaf). length (records_in z)) e ∙ omega (
        arith,
        ap length (records-append xs (y ∷ [])),
        length-append (records_in xs) (records_in (y ∷ [])),
        length-append y.records [],
        full-records p xs (fronts (Full p) (Most p) xs y b),
      ) in
      let d : length (ordinary p (lay.contents (tree_in ss f))) / FD p ≡ length xs
      = ap (λ (m : ℕ). m / FD p) (sym total-is) ∙ divided (length xs) (FD p) (length y.records) (length (records_in (leaves_in ss))) ok.some
      (ending-one (Full p) (Most p) xs y b) n in
      omega (arith, ap length e, length-append xs (y ∷ []), d)

  indexes-by : (ss ≡ []) ⊎ ((xs : List Section) × (y : Section) × (ss ≡ xs ++ y ∷ [])) → length ss ≡ 1 + (length (leaves_in ss) - 1) / FI p
  indexes-by (inl e) =
      absurd (omega (
        arith,
        ap (λ (z : List Section). length (records_in (leaves_in z))) e,
        ap length h.kept.ended.is,
        length-append h.kept.ended.front (end_record p ∷ []),
      ))
  indexes-by (inr (xs, y, e)) =
      let b : ButLast (FullIndex p) (MostIndex p) (xs ++ y ∷ []) = subst (ButLast (FullIndex p) (MostIndex p)) e F.indexes in
      let ok : SectionOk p y = (all_right (SectionOk p) xs _ (rw e at h.kept.holds.sized)).0 in
      let n : length (leaves_in ss) ≡ length xs * FI p + length y.leaves
      = ap (λ (z : List Section). length (leaves_in z)) e ∙ omega (
        arith,
        ap length (leaves_in-append xs (y ∷ [])),
        length-append (leaves_in xs) (leaves_in (y ∷ [])),
        length-append y.leaves [],
        full-leaves p xs (fronts (FullIndex p) (MostIndex p) xs y b),
      ) in
      omega (
        arith,
        ap length e,
        length-append xs (y ∷ []),
        divided (length xs) (FI p) (length y.leaves) (length (leaves_in ss)) ok.some (ending-one (FullIndex p) (MostIndex p) xs y b) n,
      )

  counted : CountedOf p (tree_in ss f)
  counted = record { details = details-by (from_end (leaves_in ss)); indexes = indexes-by (from_end ss) }

-- ---- over a run

filled-run : (qs : List Request) (st : State) (ss : List Section) (f : Free) → Sound st ss f → Filled (desc st) (tree_in ss f) → OnlyXtends st qs
    → StandsFilled (left st qs)
unfolding left tally
filled-run [] st ss f h F o = (tree_in ss f, flushed-stands st ss f h, F, counted st ss f h F)
filled-run (q ∷ qs) st ss f h F o =
    let z : Stepped st ss f q = stepped st ss f h q in
    let here : disturbs q (answer st q) ≡ 0 = omega arith in
    filled-run qs (answer st q).after z.sections z.free z.sound
    (subst (λ (p : Description). Filled p (tree_in z.sections z.free)) (sym z.desc-is) (z.filled here F)) (omega arith)

pub stays-filled : StaysFilled
stays-filled st marks o t ht F qs only =
    let z : Opens st marks = opens st marks o in
    let d : desc (open_file st marks).outcome.after ≡ desc st = opened-desc st marks o in
    let good : good_params (desc st) ≡ true = subst (λ (p : Description). good_params p ≡ true) d z.sound.kept.good in
    let is : z.tree ≡ t = one-tree (desc st) st.file z.tree t good z.stands ht in
    filled-run qs (open_file st marks).outcome.after z.tree.sections _ z.sound
    (subst (λ (p : Description). Filled p z.tree) (sym d) (subst (Filled (desc st)) (sym is) F)) only

-- the file that CREATE writes
fresh-filled : (p : Description) → good_params p ≡ true → Filled p (fresh_tree p)
unfolding fresh_tree fresh_section fresh_leaf ButLast OneInOrder leaf_blocks count_from FD FI
fresh-filled p good =
    let g = good-facts p good in
    record {
      chain = refl;
      details = omega (arith, g.space-records, g.two_records);
      indexes = omega (arith, g.space-entries, g.two-entries);
      bounds = tt;
      lowest = refl;
      order = (refl, refl);
    }

pub extended-filled : ExtendedFilled
extended-filled session f buffer work marks c o =
    let p : Description = session.desc in
    let made : State = lent session (create p f).file buffer work in
    let z : Opens made marks = opens made marks o in
    let good : good_params p ≡ true = subst (λ (d : Description). good_params d ≡ true) (opened-desc made marks o) z.sound.kept.good in
    stays-filled made marks o z.tree z.stands (subst (Filled p) (sym (made-fresh session f buffer work marks c o)) (fresh-filled p good))
