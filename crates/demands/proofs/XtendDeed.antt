-- XTEND into a filled last block: what it will do, and that it will stop where no room is left.
use Prim.Native.Nat.{ℕ, ◌≤◌, ◌<◌}
use mathlib.Core.Path.{◌≡◌, ap, ◌∙◌}
use mathlib.Core.List.{List, [], ◌∷◌, ◌++◌}
use native.Mathlib.Omega.{arith}
use lib.ListN.{length}
use borrow.Author.Tests.{lt-ltb, le-ltb}
use Rattle.numbers.specs.Numbers.{no_room}
use Rattle.numbers.specs.Checked.{Checked, passed, ◌>>=◌}
use Rattle.words.specs.Keys.{val}
use Rattle.table.specs.Tables.{count}
use Rattle.drum.specs.Params.{FD, FI, detail_shape, index_shape}
use Rattle.drum.specs.Blocks.{text_of}
use Rattle.rules.specs.declared.Path.{Path}
use Rattle.rules.specs.declared.Extend.TheVariants.{Stop, New, Both}
use Rattle.rules.specs.State.{State, desc, texts, key_in}
use Rattle.rules.specs.Lookup.{text_at}
use Rattle.rules.specs.Xtend.{new_deed, extend_at, start_deed, section_deed, new_at}
use Rattle.demands.proofs.Scene.{scene}
use Rattle.layout.specs.Tree.{Section}
use Rattle.demands.proofs.Trees.{key}
use Rattle.demands.proofs.Holds.{Free}
use Rattle.demands.proofs.Entries.{count_index}
use Rattle.demands.proofs.Paths.{path_of}
use Rattle.demands.proofs.Sound.{Key}
use Rattle.demands.proofs.Answers.{Ready}
use Rattle.demands.proofs.Frees.{free_count, stored_with, stored-number, next, taken, taken_of, free-taken, taken-count}
use Rattle.demands.proofs.Takes.{next-is, one_none, one-some, two_none, two-few, two-full, two-some}
use Rattle.demands.proofs.Last.{Last}
use Rattle.demands.proofs.Xtend.{end_scene, the_end, counted, path-of, to-new}

module _ (st : State) (ss : List Section) (f : Free) (r : Ready (desc st).wpr st ss f) (kw : Key (desc st) (key_in (desc st) st.work))
    (L : Last (texts st) st.session.flag ss f)
    (fr : List (List ℕ)) (y : List ℕ) (e : L.front ≡ fr ++ y ∷ []) (higher : key (desc st).k y < val (key_in (desc st) st.work))
    (full : FD (desc st) ≤ length L.leaf.records) where
  open scene st ss use {p, v, flag, w, K, rows}
  open end_scene st ss f L use {end, n₀}
  open the_end st ss f r kw L use {g, hd, fo, rok, so, index_is}

  -- ---- the deed

  to_at : extend_at v flag w L.way ≡ new_at v flag L.way (path_of end) n₀
  unfolding new_deed
  to_at =
      to-new st ss f r kw L fr y e higher full
      ∙ ap (λ (m : Checked Path). m >>= (λ x. new_at v flag L.way x (count (detail_shape v.desc) (text_at v L.way)))) (path-of st ss f r kw L)
      ∙ ap (new_at v flag L.way (path_of end)) (counted st ss f r kw L)

  cnt : count (index_shape v.desc) (text_of v L.index) ≡ length (L.low ++ (L.leaf ∷ []))
  cnt = ap (count (index_shape p)) index_is ∙ count_index p (L.low ++ (L.leaf ∷ []))

  module _ (room : length (L.low ++ (L.leaf ∷ [])) < FI (desc st)) where
    pub none-deed : free_count f ≡ 0 → extend_at v flag w L.way ≡ passed (Stop L.way 0 no_room)
    unfolding new_at start_deed
    none-deed z = to_at ∙ simp (cnt, lt-ltb (length (L.low ++ (L.leaf ∷ []))) (FI p) room, one_none v flag ss f r.sound.kept end L.at.is z)

    pub new-deed : 1 ≤ free_count f → extend_at v flag w L.way ≡ passed (New L.way (path_of end) (taken_of f) (stored_with p n₀ (taken f)))
    unfolding new_at start_deed
    new-deed some =
        to_at ∙ simp (
          cnt,
          lt-ltb (length (L.low ++ (L.leaf ∷ []))) (FI p) room,
          one-some v flag ss f r.sound.kept end L.at.is some,
          next-is v flag ss f r.sound.kept end L.at.is some,
          stored-number v n₀ (taken f) (free-taken v f fo some),
        )

  module _ (most : FI (desc st) ≤ length (L.low ++ (L.leaf ∷ []))) where
    pub none-both-deed : free_count f ≡ 0 → extend_at v flag w L.way ≡ passed (Stop L.way 0 no_room)
    unfolding new_at section_deed
    none-both-deed z =
        to_at ∙ simp (cnt, le-ltb (length (L.low ++ (L.leaf ∷ []))) (FI p) most, two_none v flag ss f r.sound.kept end L.at.is z)

    pub few-deed : free_count f ≡ 1 → extend_at v flag w L.way ≡ passed (Stop L.way 0 no_room)
    unfolding new_at section_deed
    few-deed z =
        to_at ∙ simp (cnt, le-ltb (length (L.low ++ (L.leaf ∷ []))) (FI p) most, two-few v flag ss f r.sound.kept end L.at.is z)

    pub sections-deed : 2 ≤ free_count f → p.control ≤ length ss → extend_at v flag w L.way ≡ passed (Stop L.way 0 no_room)
    unfolding new_at section_deed
    sections-deed two c =
        to_at ∙ simp (cnt, le-ltb (length (L.low ++ (L.leaf ∷ []))) (FI p) most, two-full v flag ss f r.sound.kept end L.at.is two c)

    pub both-deed : 2 ≤ free_count f → length ss < p.control
        → extend_at v flag w L.way ≡ passed (Both L.way (path_of end) (next f) (taken_of (taken f)) (stored_with p n₀ (taken (taken f))))
    unfolding new_at section_deed
    both-deed two c =
        let some : 1 ≤ free_count f = omega arith in
        let some₂ : 1 ≤ free_count (taken f) = omega (arith, taken-count f some) in
        to_at ∙ simp (
          cnt,
          le-ltb (length (L.low ++ (L.leaf ∷ []))) (FI p) most,
          two-some v flag ss f r.sound.kept end L.at.is two c,
          next-is v flag ss f r.sound.kept end L.at.is some,
          stored-number v n₀ (taken (taken f)) (free-taken v (taken f) (free-taken v f fo some) some₂),
        )
