-- The record handed over, after the block is reached or brought; and the blocks read when it is the next one.
use mathlib.Core.Path.{◌≡◌, ap, ◌∙◌, subst}
use mathlib.Core.Bool.{Bool, true, false, cond, not}
use mathlib.Core.List.{List, [], ◌∷◌}
use Prim.Native.Nat.{ℕ, ◌+◌, ◌*◌, ◌≤◌}
use native.Mathlib.Omega.{arith}
use lib.Dec.{eqb}
use lib.ListN.{length}
use mir.Syntax.{w64}
use mir.Val.{Fits}
use Rattle.numbers.specs.Numbers.{done, at_end}
use Rattle.numbers.specs.Checked.{passed}
use Rattle.words.specs.Words.{part, top_word, all_are}
use Rattle.words.specs.Keys.{is_ones}
use Rattle.table.specs.Tables.{place, row, key_at}
use Rattle.drum.specs.declared.Description.{Description}
use Rattle.drum.specs.Params.{detail_shape}
use Rattle.drum.specs.Blocks.{Fitting, Texts, Read, seen, text_of, written}
use Rattle.drum.proofs.Blocks.{length-text_of}
use Rattle.rules.specs.declared.Path.{Path}
use Rattle.rules.specs.declared.Way.{Way}
use Rattle.rules.specs.declared.Step.{Step}
use Rattle.rules.specs.declared.Step.TheVariants.{At, Beyond}
use Rattle.rules.specs.declared.Done.{Done}
use Rattle.rules.specs.Lookup.{Reached, flush_moves, bringing, reached}
use Rattle.rules.specs.Fits.{WayFits, StepFits}
use Rattle.rules.specs.Seek.{giving}
use Rattle.rules.specs.Adv.{adv_giving, adv_reads, adv_done}
use Rattle.rules.specs.Told.{gave, told}
use Rattle.acts.specs.declared.Arrived.{Arrived}
use Rattle.acts.specs.Reach.{Come, come, came}
use Rattle.acts.proofs.Moves.{OnlyReads, row-reached, row_within, come-by, flush-most}
use Rattle.adv.specs.Answers.{handed}

only-reads : (w x : Path) → OnlyReads (adv_reads w x)
unfolding adv_reads
only-reads w x = go (eqb x.section w.section)
  where
    go : (t : Bool) → OnlyReads (Read w.index ∷ Read w.detail ∷ cond t (Read x.detail ∷ []) (Read x.index ∷ Read x.detail ∷ []))
    go true = tt
    go false = tt

reads-most : (w x : Path) → length (adv_reads w x) ≤ 4
unfolding adv_reads
reads-most w x = go (eqb x.section w.section)
  where
    go : (t : Bool) → length (Read w.index ∷ Read w.detail ∷ cond t (Read x.detail ∷ []) (Read x.index ∷ Read x.detail ∷ [])) ≤ 4
    go true = omega arith
    go false = omega arith

-- row i of the text b is handed over: its key decides number and position
pub hands : (p : Description) (b : List ℕ) (i : ℕ) (here : Arrived) (end : Bool) (n : ℕ) (r : Done)
    → end ≡ all_are top_word (part (1 + i * p.wpr) p.k b) → n ≡ cond end at_end done
    → r ≡ record { number = n; transfers = here.transfers; current = here.current; flag = here.flag; keyed = not end } → r ≡ handed p b i here
unfolding is_ones key_at detail_shape
hands p b i here end n r e en er =
    let m = en ∙ ap (λ (z : Bool). cond z at_end done) e in
    er ∙ (λ j. record { number = m j; transfers = here.transfers; current = here.current; flag = here.flag; keyed = not (e j) })

module _ (p : Description) (cur : ℕ) (f b : List ℕ) (flag : Bool) (s : Step) where
  abbrev v : Texts
  v = seen p cur f b

  -- a call that hands over row i of the block reached
  given-at : (work : List ℕ) (x : Reached) (i : ℕ) (here : Arrived) (g t w : List ℕ) (r : Done)
      → came here g t ≡ come x → r ≡ handed p t i here → w ≡ row (detail_shape p) t i
      → gave r g t w ≡ told v flag work (passed (adv_giving v x i))
  unfolding adv_giving giving
  given-at work x i here g t w r e er ew =
      ap (λ (z : Done). gave z g t w) er
      ∙ (λ j. record {
        number = cond (is_ones (key_at (detail_shape p) (e j).buffer i)) at_end done;
        transfers = (e j).transfers;
        current = (e j).current;
        flag = (e j).flag;
        keyed = not (is_ones (key_at (detail_shape p) (e j).buffer i));
        file = (e j).file;
        buffer = (e j).buffer;
        work = (ew ∙ (λ k. row (detail_shape p) (e k).buffer i)) j;
      })

  -- the block is reached
  module _ (way : Way) (i : ℕ) (es : s ≡ At way i) where
    pub at-way : StepFits v flag s → WayFits v flag way
    at-way fits = (subst (StepFits v flag) es fits).0

    module _ (here : Arrived) (g t : List ℕ) (e : came here g t ≡ come (reached v flag way)) where
      pub at_row : StepFits v flag s → Fitting p f b → place (detail_shape p) i + p.wpr ≤ length t
      at_row fits fit = row-reached v fit flag way (at-way fits) i (subst (StepFits v flag) es fits).1 t (ap (λ (z : Come). z.buffer) e)

      pub adv-at-told : (work w : List ℕ) (r : Done) → r ≡ handed p t i here → w ≡ row (detail_shape p) t i
          → gave r g t w ≡ told v flag work (adv_done v flag s)
      unfolding adv_done
      adv-at-told work w r er ew = rw es (given-at work (reached v flag way) i here g t w r e er ew)

  -- the next block is brought
  module _ (w x : Path) (i : ℕ) (es : s ≡ Beyond w x i) where
    module _ (fits : StepFits v flag s) where
      pub beyond-least : 1 ≤ x.detail
      beyond-least = (subst (StepFits v flag) es fits).0.detail-least

      pub beyond-most : x.detail ≤ p.n
      beyond-most = (subst (StepFits v flag) es fits).0.detail-most

      pub current-least : flag ≡ true → 1 ≤ cur
      current-least on = ((subst (StepFits v flag) es fits).1 on).0

      pub current-most : flag ≡ true → cur ≤ p.n
      current-most on = ((subst (StepFits v flag) es fits).1 on).1

      pub beyond-row : (t : List ℕ) → t ≡ text_of v x.detail → Fitting p f b → place (detail_shape p) i + p.wpr ≤ length t
      beyond-row t e fit =
          let h = subst (StepFits v flag) es fits in
          let l = ap length e ∙ length-text_of v x.detail fit (h.0.detail-least, h.0.detail-most) in
          row_within p t i fit.good l (rw e h.0.records-most) (rw e h.2)

    pub adv-beyond-told : (wrote n : ℕ) (work given g t : List ℕ) (r : Done)
        → wrote ≡ length (flush_moves v flag) → n ≡ length (adv_reads w x) → g ≡ written p (flush_moves v flag) f → t ≡ text_of v x.detail
        → r ≡ handed p t i (record { transfers = wrote + n; current = x.detail; flag = false }) → given ≡ row (detail_shape p) t i
        → gave r g t given ≡ told v flag work (adv_done v flag s)
    unfolding adv_done
    adv-beyond-told wrote n work given g t r ew en eg et er egiven =
        let e = come-by v flag x.detail (adv_reads w x) wrote n g t ew en eg et (only-reads w x) in
        rw es (given-at work (bringing v flag x.detail (adv_reads w x)) i _ g t given r e er egiven)

-- few transfers
pub transfers-few : (p : Description) (cur : ℕ) (f b : List ℕ) (flag : Bool) (w x : Path) (wrote n : ℕ)
    → wrote ≡ length (flush_moves (seen p cur f b) flag) → n ≡ length (adv_reads w x) → Fits w64 (wrote + n)
transfers-few p cur f b flag w x wrote n ew en =
    let m = flush-most (seen p cur f b) flag in
    let l = reads-most w x in
    omega arith
