-- NSERT into a full block: what it will do, and that it will stop where no room is left.
use Prim.Native.Nat.{ℕ, ◌≤◌, ◌<◌}
use mathlib.Core.Bool.{true, cond}
use mathlib.Core.Path.{◌≡◌, ◌∙◌}
use mathlib.Core.List.{List, []}
use native.Mathlib.Omega.{arith}
use lib.Dec.{ltb}
use lib.ListN.{length}
use borrow.Author.Tests.{lt-ltb, le-ltb}
use Rattle.numbers.specs.Numbers.{no_room}
use Rattle.numbers.specs.Checked.{passed}
use Rattle.words.specs.Keys.{val}
use Rattle.drum.specs.Params.{D, I, good_params, detail_shape}
use Rattle.drum.specs.Blocks.{text_of}
use Rattle.rules.specs.declared.Way.TheVariants.{By}
use Rattle.rules.specs.declared.Look.TheVariants.{Missing}
use Rattle.rules.specs.declared.Insert.TheVariants.{Stop, Split, Both}
use Rattle.rules.specs.State.{State, desc, texts, key_in}
use Rattle.rules.specs.Lookup.{look}
use Rattle.rules.specs.Nsert.{half_count, split_deed, both_deed, insert_at, insert_deed}
use Rattle.demands.proofs.Scene.{scene}
use Rattle.demands.proofs.Order.{hit}
use Rattle.layout.specs.Tree.{Section}
use Rattle.demands.proofs.Trees.{key, table}
use Rattle.demands.proofs.Holds.{Free}
use Rattle.demands.proofs.Places.{Place, olds, leaf-text, index-text}
use Rattle.demands.proofs.Texts.{count-table}
use Rattle.demands.proofs.Entries.{count_index}
use Rattle.demands.proofs.Paths.{path_of}
use Rattle.demands.proofs.Sound.{Key}
use Rattle.demands.proofs.Answers.{Ready}
use Rattle.demands.proofs.Reach.{At}
use Rattle.demands.proofs.Lookup.{Covers}
use Rattle.demands.proofs.Frees.{next, free_count, taken, taken_of, stored_with, FreeOk, free-taken, taken-count, stored-number}
use Rattle.demands.proofs.Takes.{next-is, one_none, one-some, two_none, two-few, two-full, two-some}
use Rattle.demands.proofs.Nsert.{deed-at, place, free₀}

module _ (st : State) (ss : List Section) (f : Free) (r : Ready (desc st).wpr st ss f) (kw : Key (desc st) (key_in (desc st) st.work)) (a : Place)
    (A : At (texts st) st.session.flag ss f a (By (path_of a))) (C : Covers (texts st) (key_in (desc st) st.work) a)
    (none : hit (key (desc st).k) (val (key_in (desc st) st.work)) a.leaf.records ≡ [])
    (l : look (texts st) st.session.flag (key_in (desc st) st.work) ≡ passed (Missing (path_of a)))
    (full : length a.leaf.records ≡ D (desc st)) where
  open scene st ss use {p, v, flag, K, rows}

  -- where the record goes
  abbrev i : ℕ
  i = place st ss f r kw a A C none l

  good : good_params p ≡ true
  good = r.sound.kept.good

  fr : FreeOk v f
  fr = free₀ st ss f r kw a A C none l

  text : text_of v a.leaf.block ≡ table (detail_shape p) p.wpb a.leaf.records
  text = leaf-text p a f _ _ A.held

  -- ---- the deed

  not-room : insert_at v flag (path_of a) i ≡ cond (ltb (length (olds a)) (I p)) (split_deed v flag (path_of a) i) (both_deed v flag (path_of a) i)
  unfolding insert_at
  not-room =
      simp (
        text,
        count-table (detail_shape p) p.wpb a.leaf.records,
        le-ltb (length a.leaf.records) (D p) (omega (arith, full)),
        index-text p a f _ _ A.held,
        count_index p (olds a),
      )

  -- the index block has room
  module _ (less : length (olds a) < I p) where
    to-split : insert_deed v flag (key_in p st.work) ≡ split_deed v flag (path_of a) i
    to-split = deed-at st ss f r kw a A C none l ∙ not-room ∙ simp (lt-ltb (length (olds a)) (I p) less)

    pub none-deed : free_count f ≡ 0 → insert_deed v flag (key_in p st.work) ≡ passed (Stop (By (path_of a)) no_room)
    unfolding split_deed
    none-deed z = to-split ∙ simp (one_none v flag ss f r.sound.kept a A.is z)

    pub split-deed : 1 ≤ free_count f
        → insert_deed v flag (key_in p st.work) ≡ passed (Split (path_of a) i (taken_of f) (stored_with p (half_count (D p) i) (taken f)))
    unfolding split_deed
    split-deed some =
        to-split ∙ simp (
          one-some v flag ss f r.sound.kept a A.is some,
          next-is v flag ss f r.sound.kept a A.is some,
          stored-number v (half_count (D p) i) (taken f) (free-taken v f fr some),
        )

  -- the index block is full
  module _ (most : length (olds a) ≡ I p) where
    to_both : insert_deed v flag (key_in p st.work) ≡ both_deed v flag (path_of a) i
    to_both = deed-at st ss f r kw a A C none l ∙ not-room ∙ simp (le-ltb (length (olds a)) (I p) (omega (arith, most)))

    pub none-both-deed : free_count f ≡ 0 → insert_deed v flag (key_in p st.work) ≡ passed (Stop (By (path_of a)) no_room)
    unfolding both_deed
    none-both-deed z = to_both ∙ simp (two_none v flag ss f r.sound.kept a A.is z)

    pub few-deed : free_count f ≡ 1 → insert_deed v flag (key_in p st.work) ≡ passed (Stop (By (path_of a)) no_room)
    unfolding both_deed
    few-deed z = to_both ∙ simp (two-few v flag ss f r.sound.kept a A.is z)

    pub sections-deed : 2 ≤ free_count f → p.control ≤ length ss → insert_deed v flag (key_in p st.work) ≡ passed (Stop (By (path_of a)) no_room)
    unfolding both_deed
    sections-deed two c = to_both ∙ simp (two-full v flag ss f r.sound.kept a A.is two c)

    pub both-deed : 2 ≤ free_count f → length ss < p.control
        → insert_deed v flag (key_in p st.work) ≡ passed (Both (path_of a) i (next f) (taken_of (taken f)) (stored_with p (half_count (D p) i) (taken (taken f))))
    unfolding both_deed
    both-deed two c =
        let some : 1 ≤ free_count f = omega arith in
        let some₂ : 1 ≤ free_count (taken f) = omega (arith, taken-count f some) in
        to_both ∙ simp (
          two-some v flag ss f r.sound.kept a A.is two c,
          next-is v flag ss f r.sound.kept a A.is some,
          stored-number v (half_count (D p) i) (taken (taken f)) (free-taken v (taken f) (free-taken v f fr some) some₂),
        )
