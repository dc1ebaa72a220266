-- ADV on a sound open state, all its ways: in the buffer, in the covering block, in the next block, in the next section.
use Prim.Native.Nat.{ℕ, ◌-◌, ◌≤◌, ◌<◌}
use mathlib.Core.Bool.{Bool, true, false, cond, ◌&&◌}
use mathlib.Core.Logic.{◌⊎◌, inl, inr}
use mathlib.Core.Path.{◌≡◌, refl, sym, ap, ap₂, ◌∙◌, subst}
use mathlib.Core.List.{List, [], ◌∷◌, ◌++◌}
use native.Mathlib.Omega.{arith}
use native.Mathlib.Decide.{ℕ_discrete}
use lib.ListN.{length, take, length-append}
use borrow.Author.Tests.{ltb-true, ltb-false}
use Rattle.numbers.specs.Checked.{Checked, passed, ◌>>=◌}
use Rattle.words.specs.Words.{all_words}
use Rattle.words.specs.Keys.{key_lt, key_le, val}
use Rattle.words.proofs.Keys.{key_le-true}
use Rattle.words.proofs.Values.{key_lt-val}
use Rattle.table.specs.Tables.{count, key_at}
use Rattle.drum.specs.Params.{detail_shape}
use Rattle.drum.specs.Blocks.{text_of}
use Rattle.drum.proofs.Good.{good-facts}
use Rattle.rules.specs.declared.Which.TheVariants as which
use Rattle.rules.specs.declared.Way.TheVariants.{Here}
use Rattle.rules.specs.declared.Step.TheVariants as step_is
use Rattle.rules.specs.State.{State, desc, outcome}
use Rattle.rules.specs.Paths.{path_to, first_path}
use Rattle.rules.specs.Lookup.{reached}
use Rattle.rules.specs.Adv.{next_row, next_in_buffer, adv_outside, adv_step, adv_giving, adv_done}
use Rattle.demands.proofs.Scene.{scene}
use Rattle.demands.proofs.Lists.{All, all_right, from_end}
use Rattle.demands.proofs.Order.{Asc, asc-right, below, from}
use Rattle.layout.specs.Tree.{Leaf, Section}
use Rattle.demands.proofs.Trees.{leaves_in, records_in, key, reach, table}
use Rattle.demands.proofs.Holds.{Free, HoldsCells, SectionOk, RowOk}
use Rattle.demands.proofs.Steps.{sec}
use Rattle.demands.proofs.Locate.{Located, locate}
use Rattle.demands.proofs.Places.{Place, tree_of, lo, hi, Spot, asc-leaf}
use Rattle.demands.proofs.Texts.{count-table}
use Rattle.demands.proofs.Blocks.{master_of}
use Rattle.demands.proofs.Paths.{path-by, path-to}
use Rattle.demands.proofs.Records.{key_here, key-long}
use Rattle.demands.proofs.Sound.{Key, Sound, buffer-leaf}
use Rattle.demands.proofs.Reach.{some-leaves, buffer-none, buffer-some}
use Rattle.demands.proofs.Adv.{mark, AdvRight, from_some, next_row_lem, adv-by, adv-done, mark-placed, mark-free, hz, lok, from-rows}
use Rattle.demands.proofs.AdvNext.{arrived}

module _ (st : State) (ss : List Section) (f : Free) (h : Sound st ss f) (o : st.session.opened ≡ true) (wl : length st.work ≡ (desc st).wpr) where
  open scene st ss use {p, v, flag, placed, at, K, rows}

  -- ---- the buffer has not the next record

  misses : adv_step v flag placed at ≡ adv_outside v flag placed at → AdvRight st ss f
  misses out = go placed refl
    where
      held : HoldsCells p (master_of p st.file) (text_of v) ss f
      held = h.kept.holds

      first : placed ≡ false → (zs : List Section) → ss ≡ zs → AdvRight st ss f
      first e [] z = absurd (omega (arith, held.top, ap (λ (s : List Section). reach p.k 0 (leaves_in s)) z))
      first e (s ∷ cs) z = leaf s.leaves refl
        where
          leaf : (ls : List Leaf) → s.leaves ≡ ls → AdvRight st ss f
          leaf [] q = absurd (omega (arith, (subst (All (SectionOk p)) z held.sized).0.some, ap length q))
          leaf (l ∷ hs) q =
              let a : Place = record { before = []; index = s.block; low = []; leaf = l; high = hs; behind = cs } in
              let z₂ : ss ≡ tree_of a = z ∙ ap (λ (y : List Leaf). sec s.block y ∷ cs) q in
              arrived st ss f h o wl out a z₂
              (ap (λ (t : Bool). cond t (path_to v at) (first_path v)) e ∙ path-by v a f (hz st ss f h o wl a z₂) which.First which.First [] refl refl)
              (omega arith) (omega (arith, mark-free st ss f h o wl e))

      cover : placed ≡ true → Located p.k ss (val at) → AdvRight st ss f
      cover e c =
          let a : Place = record { before = c.before; index = c.index; low = c.low; leaf = c.leaf; high = c.high; behind = c.behind } in
          let kw : Key p at = h.placed e in
          arrived st ss f h o wl out a c.is (ap (λ (t : Bool). cond t (path_to v at) (first_path v)) e ∙ path-to v a f (hz st ss f h o wl a c.is) at
          kw.wide kw.long (rw c.is at c.section-place) c.leaf-place)
          (omega (arith, mark-placed st ss f h o wl e, c.above)) (omega (arith, mark-placed st ss f h o wl e, c.within))

      go : (t : Bool) → placed ≡ t → AdvRight st ss f
      go false e = first e ss refl
      go true e = cover e (locate p.k ss (val at) (some-leaves p ss held.sized) (rw held.top (omega (arith, (h.placed e).below))))

  -- ---- the buffer has it: "Buffer's first key ≤ position < its last"

  module _ (pl : st.session.placed ≡ true) (s : Spot ss st.session.current) where
    a : Place
    a = s.place

    kw : Key p at
    kw = h.placed pl

    kr : p.k ≤ p.wpr
    kr = (good-facts p h.kept.good).key

    buf : st.buffer ≡ table (detail_shape p) p.wpb s.place.leaf.records
    buf = buffer-leaf v flag ss f h.kept s

    ok : All (RowOk p) s.place.leaf.records
    ok = (lok st ss f h o wl s.place s.is).rows

    -- the first and the last key of the block, as numbers
    first_key : (x : List ℕ) (rs : List (List ℕ)) → All (RowOk p) (x ∷ rs) → key_le (key_at (detail_shape p) (table (detail_shape p) p.wpb (x ∷ rs)) 0) at ≡ true → K x ≤ val at
    unfolding key
    first_key x rs oks e =
        let kl : (length (take p.k x) ≡ p.k) × (all_words (take p.k x) ≡ true) = key-long p kr x oks.0 in
        ltb-false (val at) (val (take p.k x))
        (sym (key_lt-val at (take p.k x) kw.wide kl.1 (kw.long ∙ sym kl.0)) ∙ ap (key_lt at) (sym (key_here p kr [] x rs oks)) ∙ key_le-true _ at e)

    last-key : (fr : List (List ℕ)) (y : List ℕ) → All (RowOk p) (fr ++ y ∷ [])
        → key_lt at (key_at (detail_shape p) (table (detail_shape p) p.wpb (fr ++ y ∷ [])) (length fr)) ≡ true → val at < K y
    unfolding key
    last-key fr y oks e =
        let kl : (length (take p.k y) ≡ p.k) × (all_words (take p.k y) ≡ true) = key-long p kr y (all_right (RowOk p) fr _ oks).0 in
        ltb-true (val at) (val (take p.k y))
        (sym (key_lt-val at (take p.k y) kw.wide kl.1 (kw.long ∙ sym kl.0)) ∙ ap (key_lt at) (sym (key_here p kr fr y [] oks)) ∙ e)

    stays : key_le (key_at (detail_shape p) st.buffer 0) at ≡ true → key_lt at (key_at (detail_shape p) st.buffer (count (detail_shape (desc st)) st.buffer - 1)) ≡ true
        → adv_step v flag placed at ≡ passed (step_is.At Here (next_row v true at st.buffer)) → AdvRight st ss f
    unfolding adv_done reached
    stays fe le step = go s.place.leaf.records refl (from_end s.place.leaf.records)
      where
        start : ℕ
        start = lo p s.place

        asc₀ : Asc K start s.place.leaf.records (hi p s.place)
        asc₀ = asc-leaf p s.place f _ _ (hz st ss f h o wl s.place s.is)

        row : next_row v true at st.buffer ≡ length (below K (mark st) s.place.leaf.records)
        row = ap (λ (t : Bool). next_row v t at st.buffer) (sym pl) ∙ ap (next_row v placed at) buf ∙ next_row_lem st ss f h o wl s.place.leaf.records ok

        end : (r : List ℕ) (cs : List (List ℕ)) → from K (mark st) s.place.leaf.records ≡ r ∷ cs → start ≤ mark st → mark st ≤ hi p s.place
            → AdvRight st ss f
        end r cs fr x y =
            adv-done st ss f h o wl (reached v flag Here) (omega arith) s.place.leaf.records buf ok h.kept r cs fr
            (adv-by st ss f h o wl (step_is.At Here (next_row v true at st.buffer)) _ step refl ∙ ap
            (λ (n : ℕ). outcome st.session (adv_giving v (reached v flag Here) n)) row)
            (cs ++ records_in (s.place.high ++ leaves_in s.place.behind))
            (from-rows st ss f h o wl s.place s.is x y ∙ ap (λ (u : List (List ℕ)). u ++ records_in (s.place.high ++ leaves_in s.place.behind)) fr)

        some : (zs : List (List ℕ)) → from K (mark st) s.place.leaf.records ≡ zs → start ≤ mark st → mark st ≤ hi p s.place
            → (fr : List (List ℕ)) (y : List ℕ)
            → s.place.leaf.records ≡ fr ++ y ∷ [] → mark st ≤ K y → AdvRight st ss f
        some [] z x u fr y g l = absurd (from_some K (mark st) fr y l (ap (from K (mark st)) (sym g) ∙ z))
        some (r ∷ cs) z x u fr y g l = end r cs z x u

        go : (rs : List (List ℕ)) → s.place.leaf.records ≡ rs
            → (s.place.leaf.records ≡ []) ⊎ ((fr : List (List ℕ)) × (y : List ℕ) × (s.place.leaf.records ≡ fr ++ y ∷ [])) → AdvRight st ss f
        go [] e w = absurd (omega (arith, (lok st ss f h o wl s.place s.is).some, ap length e))
        go (x ∷ rs) e (inl n) = absurd (omega (arith, ap length e, ap length n))
        go (x ∷ rs) e (inr (fr, y, g)) =
            let first : K x ≤ val at
            = first_key x rs (subst (All (RowOk p)) e ok)
            (ap (λ (t : List ℕ). key_le (key_at (detail_shape p) t 0) at) (sym (buf ∙ ap (table (detail_shape p) p.wpb) e)) ∙ fe) in
            let n : count (detail_shape (desc st)) st.buffer - 1 ≡ length fr
            = omega (arith, ap (count (detail_shape p)) (buf ∙ ap (table (detail_shape p) p.wpb) g) ∙ count-table (detail_shape p) p.wpb (fr ++ y ∷ []), length-append fr (y ∷ [])) in
            let last : val at < K y
            = last-key fr y (subst (All (RowOk p)) g ok)
            (ap₂ (λ (t : List ℕ) (m : ℕ). key_lt at (key_at (detail_shape p) t m)) (sym (buf ∙ ap (table (detail_shape p) p.wpb) g)) (sym n) ∙ le) in
            let asc₁ : Asc K start (x ∷ rs) (hi p s.place) = subst (λ (z : List (List ℕ)). Asc K start z (hi p s.place)) e asc₀ in
            let asc₂ : Asc K start (fr ++ y ∷ []) (hi p s.place) = subst (λ (z : List (List ℕ)). Asc K start z (hi p s.place)) g asc₀ in
            some (from K (mark st) s.place.leaf.records) refl (omega (arith, asc₁.0, first, mark-placed st ss f h o wl pl))
            (omega (arith, last, mark-placed st ss f h o wl pl, (asc-right K start fr (y ∷ []) _ asc₂).1)) fr y g
            (omega (arith, last, mark-placed st ss f h o wl pl))

    tries : AdvRight st ss f
    unfolding next_in_buffer adv_step
    tries = go (key_le (key_at (detail_shape p) st.buffer 0) at) (key_lt at (key_at (detail_shape p) st.buffer (count (detail_shape (desc st)) st.buffer - 1))) refl refl
      where
        to : (t : Bool) → (key_le (key_at (detail_shape p) st.buffer 0) at && key_lt at (key_at (detail_shape p) st.buffer (count (detail_shape (desc st)) st.buffer - 1))) ≡ t
            → adv_step v flag placed at ≡ cond t (passed (step_is.At Here (next_row v true at st.buffer))) (adv_outside v flag true at)
        to t e =
            ap (λ (b : Bool). adv_step v flag b at) pl
            ∙ ap (λ (m : Checked Bool). m >>= (λ here. cond here (passed (step_is.At Here (next_row v true at st.buffer))) (adv_outside v flag true at)))
            (buffer-some v flag ss f h.kept s (key_le (key_at (detail_shape p) st.buffer 0) at && key_lt at
            (key_at (detail_shape p) st.buffer (count (detail_shape (desc st)) st.buffer - 1))) ∙ ap passed e)

        go : (t u : Bool) → key_le (key_at (detail_shape p) st.buffer 0) at ≡ t → key_lt at (key_at (detail_shape p) st.buffer (count (detail_shape (desc st)) st.buffer - 1)) ≡ u
            → AdvRight st ss f
        go true true e g = stays e g (to true (ap₂ (λ (x y : Bool). x && y) e g))
        go true false e g = misses (to false (ap₂ (λ (x y : Bool). x && y) e g) ∙ ap (λ (b : Bool). adv_outside v flag b at) (sym pl))
        go false u e g = misses (to false (ap₂ (λ (x y : Bool). x && y) e g) ∙ ap (λ (b : Bool). adv_outside v flag b at) (sym pl))

  pub adv-right : AdvRight st ss f
  unfolding adv_step next_in_buffer
  adv-right = go placed refl (ℕ_discrete st.session.current 0)
    where
      go : (t : Bool) → placed ≡ t → Dec (st.session.current ≡ 0) → AdvRight st ss f
      go false e d = misses (ap (λ (b : Bool). adv_step v flag b at) e ∙ ap (λ (b : Bool). adv_outside v flag b at) (sym e))
      go true e (no n) = tries e (h.kept.current (omega arith))
      go true e (yes z) =
          misses (ap (λ (b : Bool). adv_step v flag b at) e
          ∙ ap (λ (m : Checked Bool). m >>= (λ here. cond here (passed (step_is.At Here (next_row v true at st.buffer))) (adv_outside v flag true at)))
          (buffer-none v flag ss f h.kept z (key_le (key_at (detail_shape p) st.buffer 0) at && key_lt at
          (key_at (detail_shape p) st.buffer (count (detail_shape (desc st)) st.buffer - 1))))
          ∙ ap (λ (b : Bool). adv_outside v flag b at) (sym e))
