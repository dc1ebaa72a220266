-- ADV on a sound open state: the record handed out is the first of the contents above the position.
use Prim.Native.Nat.{ℕ, suc, ◌≤◌, ◌<◌}
use mathlib.Core.Bool.{Bool, true, false, not, cond}
use mathlib.Core.Logic.{inr}
use mathlib.Core.Path.{◌≡◌, refl, sym, ap, ap₂, ◌∙◌, subst}
use mathlib.Core.List.{List, [], ◌∷◌, ◌++◌, append-nil}
use native.Mathlib.Omega.{arith}
use native.Mathlib.Decide.{dec_lt}
use lib.Dec.{ltb}
use lib.ListN.{length, take, length-append, length-replicate}
use borrow.Author.Tests.{lt-ltb, le-ltb, not-true}
use Rattle.numbers.specs.Numbers.{done, at_end, bad_file}
use Rattle.numbers.specs.Checked.{Checked, passed, ◌>>=◌, ◌>>◌, require}
use Rattle.words.specs.Words.{part, all_words, top_word}
use Rattle.words.specs.Keys.{ones, is_ones, val}
use Rattle.words.proofs.All.{all_words-replicate, below-ones}
use Rattle.words.proofs.Values.{key_lt-val-lt}
use Rattle.table.specs.Tables.{count, row, key_at, row_above}
use Rattle.drum.specs.Params.{detail_shape}
use Rattle.drum.specs.Blocks.{Transfer, text_of}
use Rattle.drum.proofs.Good.{good-facts}
use Rattle.rules.specs.declared.Path.{Path}
use Rattle.rules.specs.declared.Way.TheVariants.{By}
use Rattle.rules.specs.declared.Step.{Step}
use Rattle.rules.specs.declared.Step.TheVariants as step_is
use Rattle.rules.specs.State.{State, Outcome, Effect, desc, key_in, position_key, outcome, settle}
use Rattle.rules.specs.Paths.{path_to, first_path}
use Rattle.rules.specs.Lookup.{Reached, bringing}
use Rattle.rules.specs.Seek.{giving}
use Rattle.rules.specs.Adv.{next_row, adv_beyond, adv_at, adv_outside, adv_step, adv_giving, adv_done, adv_steps, adv}
use Rattle.rules.proofs.Sizes.{bring-few}
use Rattle.demands.proofs.Scene.{scene}
use Rattle.demands.proofs.Lists.{All, all_right}
use Rattle.demands.proofs.Order.{below, from, below-from}
use Rattle.layout.specs.Tree.{Section}
use Rattle.demands.proofs.Trees.{leaves_in, records_in, key, table}
use Rattle.demands.proofs.Holds.{Free, HoldsCells, LeafFits, RowOk}
use Rattle.demands.proofs.Places.{Place, tree_of, lo, hi, leaf-text, leaf-ok, from-here}
use Rattle.demands.proofs.Texts.{count-table}
use Rattle.demands.proofs.Blocks.{master_of, cells_written}
use Rattle.demands.proofs.Paths.{path_of}
use Rattle.demands.proofs.Records.{above_at, place-above, row_here, key_here, key-long}
use Rattle.demands.proofs.Sound.{Key, KeptTree, Sound, texts_left}
use Rattle.demands.proofs.Answers.{sizes-pass, work-pass, open-pass, Gives}
use Rattle.demands.proofs.Reach.{flush-pass, bring}
use Rattle.demands.proofs.Stores.{give-gives}
use Rattle.demands.proofs.Growth.{nothing}

-- where the keys above the position start
abbrev pub mark : State → ℕ
mark st = cond st.session.placed (suc (val (position_key st.session))) 0

-- the first record above the position is handed out: "for the end record the answer is 030002"
abbrev pub AdvRight : State → List Section → Free → Type 0
AdvRight st ss f =
    (r : List ℕ) × (cs : List (List ℕ)) × (from (key (desc st).k) (mark st) (records_in (leaves_in ss)) ≡ r ∷ cs)
    × Gives st ss (adv st) (cond (is_ones (key_in (desc st) r)) at_end done) 5 (records_in (leaves_in ss)) nothing ss f × ((adv st).after.work ≡ r)

below-zero : (K : List ℕ → ℕ) (xs : List (List ℕ)) → below K 0 xs ≡ []
unfolding below
below-zero K [] = refl
below-zero K (x ∷ xs) = rw (le-ltb (K x) 0 (omega arith))

pub from_some : (K : List ℕ → ℕ) (y : ℕ) (xs : List (List ℕ)) (r : List ℕ) → y ≤ K r → from K y (xs ++ r ∷ []) ≡ [] → ⊥
unfolding from
from_some K y [] r l e = absurd (let z : ◌≡◌ {A = List (List ℕ)} (r ∷ []) [] = sym (rw (le-ltb (K r) y l)) ∙ e in let z : ◌≡◌ {A = ℕ} 0 1 = cc in omega arith)
from_some K y (x ∷ xs) r l e = go (dec_lt (K x) y) (from_some K y xs r l)
  where
    go : Dec (K x < y) → (from K y (xs ++ r ∷ []) ≡ [] → ⊥) → ⊥
    go (yes q) f = f (sym (rw (lt-ltb (K x) y q)) ∙ e)
    go (no n) f =
        absurd
        (let z : ◌≡◌ {A = List (List ℕ)} (x ∷ (xs ++ r ∷ [])) [] = sym (rw (le-ltb (K x) y (omega arith))) ∙ e in let z : ◌≡◌ {A = ℕ} 0 1 = cc in omega arith)

module _ (st : State) (ss : List Section) (f : Free) (h : Sound st ss f) (o : st.session.opened ≡ true) (wl : length st.work ≡ (desc st).wpr) where
  open scene st ss use {p, v, flag, placed, at, K, rows}

  kr : p.k ≤ p.wpr
  kr = (good-facts p h.kept.good).key

  held : HoldsCells p (master_of p st.file) (text_of v) ss f
  held = h.kept.holds

  -- the search in a detail block
  pub next_row_lem : (rs : List (List ℕ)) → All (RowOk p) rs → next_row v placed at (table (detail_shape p) p.wpb rs) ≡ length (below K (mark st) rs)
  next_row_lem rs ok = go placed refl
    where
      go : (t : Bool) → placed ≡ t → cond t (row_above (detail_shape p) at (table (detail_shape p) p.wpb rs)) 0 ≡ length (below K (cond t (suc (val at)) 0) rs)
      go false e = sym (ap length (below-zero K rs))
      go true e = let kw : Key p at = h.placed e in above_at p kr rs ok at kw.wide kw.long ∙ place-above K (val at) rs

  pub cut-rows : (rs : List (List ℕ)) (r : List ℕ) (cs : List (List ℕ)) → from K (mark st) rs ≡ r ∷ cs → rs ≡ below K (mark st) rs ++ r ∷ cs
  cut-rows rs r cs e = sym (below-from K (mark st) rs) ∙ ap (λ (z : List (List ℕ)). below K (mark st) rs ++ z) e

  -- there is a record above the position in these rows, or not
  pub found-row : (rs : List (List ℕ)) (r : List ℕ) (cs : List (List ℕ)) → from K (mark st) rs ≡ r ∷ cs → ltb (length (below K (mark st) rs)) (length rs) ≡ true
  found-row rs r cs fr =
      lt-ltb (length (below K (mark st) rs)) (length rs) (omega (arith, ap length (cut-rows rs r cs fr), length-append (below K (mark st) rs) (r ∷ cs)))

  pub no_row : (rs : List (List ℕ)) → from K (mark st) rs ≡ [] → ltb (length (below K (mark st) rs)) (length rs) ≡ false
  no_row rs fr =
      le-ltb (length (below K (mark st) rs)) (length rs)
      (omega (
        arith,
        ap length (sym (below-from K (mark st) rs) ∙ ap (λ (z : List (List ℕ)). below K (mark st) rs ++ z) fr ∙ append-nil
            (below K (mark st) rs)),
      ))

  -- ---- the record that the steps come to is handed out

  pub adv-by : (s : Step) (e : Effect) → adv_step v flag placed at ≡ passed s → adv_done v flag s ≡ passed e → adv st ≡ outcome st.session e
  unfolding adv adv_steps settle
  adv-by s e es ee = simp (sizes-pass st ss f h, work-pass st wl, open-pass st o, es, ee)

  pub adv-done : (here : Reached) → length here.moves ≤ 5 → (rs : List (List ℕ)) → here.buffer ≡ table (detail_shape p) p.wpb rs → All (RowOk p) rs
      → KeptTree (texts_left v here) here.flag ss f → (r : List ℕ) (cs : List (List ℕ)) → from K (mark st) rs ≡ r ∷ cs → adv st
      ≡ outcome st.session (adv_giving v here (length (below K (mark st) rs)))
      → (rest : List (List ℕ)) → from K (mark st) rows ≡ r ∷ rest → AdvRight st ss f
  unfolding adv_giving outcome giving part
  adv-done here cost rs b ok kept r cs fr out rest g =
      let bs : List (List ℕ) = below K (mark st) rs in
      let rs-is : rs ≡ bs ++ r ∷ cs = cut-rows rs r cs fr in
      let oks : All (RowOk p) (bs ++ r ∷ cs) = subst (All (RowOk p)) rs-is ok in
      let rok : RowOk p r = (all_right (RowOk p) bs _ oks).0 in
      let buf : here.buffer ≡ table (detail_shape p) p.wpb (bs ++ r ∷ cs) = b ∙ ap (table (detail_shape p) p.wpb) rs-is in
      let row_is : row (detail_shape p) here.buffer (length bs) ≡ r
      = ap (λ (t : List ℕ). row (detail_shape p) t (length bs)) buf ∙ row_here p kr bs r cs oks in
      let ky : is_ones (key_at (detail_shape p) here.buffer (length bs)) ≡ is_ones (key_in p r)
      = ap is_ones (ap (λ (t : List ℕ). key_at (detail_shape p) t (length bs)) buf ∙ key_here p kr bs r cs oks) in
      let out₂ : adv st ≡ outcome st.session (giving v here (cond (is_ones (key_in p r)) at_end done) (length bs) (not (is_ones (key_in p r))))
      = out ∙ ap (λ (t : Bool). outcome st.session (giving v here (cond t at_end done) (length bs) (not t))) ky in (
        r,
        rest,
        g,
        subst (λ (z : Outcome). Gives st ss z (cond (is_ones (key_in p r)) at_end done) 5 rows nothing ss f) (sym out₂)
            (give-gives st ss f h o here 5 cost kept (cond (is_ones (key_in p r)) at_end done) (length bs) (not (is_ones (key_in p r))) r row_is
            (λ e. let kl : (length (take p.k r) ≡ p.k) × (all_words (take p.k r) ≡ true) = key-long p kr r rok in record {
              long = kl.0;
              wide = kl.1;
              below =
                  key_lt-val-lt (take p.k r) (ones p.k) kl.1 (all_words-replicate p.k top_word (omega arith))
                  (kl.0 ∙ sym (length-replicate {A = ℕ} p.k top_word))
                  (below-ones p.k (take p.k r) kl.0 kl.1 (not-true _ e));
            })),
        ap (λ (z : Outcome). z.after.work) out₂ ∙ row_is,
      )

  -- ---- a place of the tree

  pub mark-placed : placed ≡ true → mark st ≡ suc (val at)
  mark-placed e = ap (λ (t : Bool). cond t (suc (val at)) 0) e

  pub mark-free : placed ≡ false → mark st ≡ 0
  mark-free e = ap (λ (t : Bool). cond t (suc (val at)) 0) e

  pub mark-le : mark st ≤ val (ones p.k)
  mark-le = go placed refl
    where
      go : (t : Bool) → placed ≡ t → cond t (suc (val at)) 0 ≤ val (ones p.k)
      go true e = (h.placed e).below
      go false e = omega arith

  module _ (a : Place) (z : ss ≡ tree_of a) where
    pub hz : HoldsCells p (master_of p st.file) (text_of v) (tree_of a) f
    hz = subst (λ (s : List Section). HoldsCells p (master_of p st.file) (text_of v) s f) z held

    pub lok : LeafFits p a.leaf
    lok = leaf-ok p a f _ _ hz

    pub from-rows : lo p a ≤ mark st → mark st ≤ hi p a
        → from K (mark st) rows ≡ from K (mark st) a.leaf.records ++ records_in (a.high ++ leaves_in a.behind)
    from-rows l u = ap (λ (s : List Section). from K (mark st) (records_in (leaves_in s))) z ∙ from-here p a f _ _ hz (mark st) l u

    pub text-is : text_of v a.leaf.block ≡ table (detail_shape p) p.wpb a.leaf.records
    text-is = leaf-text p a f _ _ hz

    -- it was brought, and has a record above the position
    pub brought : (reads : List Transfer) → cells_written reads ≡ [] → length reads ≤ 4
        → adv st ≡ outcome st.session (adv_giving v (bringing v flag a.leaf.block reads) (length (below K (mark st) a.leaf.records)))
        → (r : List ℕ) (rs : List (List ℕ)) → from K (mark st) a.leaf.records ≡ r ∷ rs → (rest : List (List ℕ)) → from K (mark st) rows ≡ r ∷ rest
        → AdvRight st ss f
    unfolding bringing
    brought reads quiet cost e r rs fr rest g =
        adv-done (bringing v flag a.leaf.block reads) (omega (arith, bring-few v flag a.leaf.block reads)) a.leaf.records text-is lok.rows
        (bring v flag ss f h.kept reads quiet a.leaf.block (text_of v a.leaf.block)
        (inr (record { place = a; is = z; block = refl }, refl))) r rs fr e rest g

    -- the first block that the steps come to
    module _ (way : cond placed (path_to v at) (first_path v) ≡ passed (path_of a)) where
      pub arrive : adv_outside v flag placed at ≡ cond (ltb (length (below K (mark st) a.leaf.records)) (length a.leaf.records))
          (passed (step_is.At (By (path_of a)) (length (below K (mark st) a.leaf.records)))) (adv_beyond v placed at (path_of a))
      unfolding adv_outside adv_at
      arrive =
          let i : next_row v placed at (text_of v a.leaf.block) ≡ length (below K (mark st) a.leaf.records)
          = ap (next_row v placed at) text-is ∙ next_row_lem a.leaf.records lok.rows in
          let c : count (detail_shape v.desc) (text_of v a.leaf.block) ≡ length a.leaf.records = ap (count (detail_shape p)) text-is ∙ count-table (detail_shape p) p.wpb a.leaf.records in
          ap (λ (m : Checked Path). m >>= (λ w. adv_at v flag placed at w)) way
          ∙ ap (λ (t : Bool). require t bad_file >> cond (ltb (next_row v placed at (text_of v a.leaf.block)) (count (detail_shape v.desc) (text_of v a.leaf.block)))
          (passed (step_is.At (By (path_of a)) (next_row v placed at (text_of v a.leaf.block)))) (adv_beyond v placed at (path_of a)))
          (flush-pass v flag ss f h.kept)
          ∙ ap₂ (λ (j m : ℕ). cond (ltb j m) (passed (step_is.At (By (path_of a)) j)) (adv_beyond v placed at (path_of a))) i c
