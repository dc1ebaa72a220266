-- A block reached where nothing is flagged: nothing is written, so the words of the file are those that came in.
use mathlib.Core.Path.{◌≡◌, refl, ap, ◌∙◌, subst}
use mathlib.Core.Bool.{false}
use mathlib.Core.List.{List}
use Prim.Native.Nat.{ℕ, ◌+◌, ◌≤◌}
use native.Mathlib.Omega.{arith}
use lib.ListN.{length}
use Rattle.numbers.specs.Numbers.{not_found}
use Rattle.table.specs.Tables.{row}
use Rattle.drum.specs.declared.Description.{Description}
use Rattle.drum.specs.Params.{detail_shape}
use Rattle.drum.specs.Blocks.{Texts, seen, text_of, written}
use Rattle.rules.specs.declared.Path.{Path}
use Rattle.rules.specs.declared.Way.{Way}
use Rattle.rules.specs.declared.Way.TheVariants.{Here, By}
use Rattle.rules.specs.declared.Look.{Look}
use Rattle.rules.specs.declared.Look.TheVariants.{Missing}
use Rattle.rules.specs.declared.Step.{Step}
use Rattle.rules.specs.declared.Step.TheVariants.{Beyond}
use Rattle.rules.specs.declared.Done.{Done}
use Rattle.rules.specs.Lookup.{flush_moves, bringing, reached, stopping}
use Rattle.rules.specs.Fits.{WayFits}
use Rattle.rules.specs.Seek.{seek_done}
use Rattle.rules.specs.Adv.{adv_reads, adv_done}
use Rattle.rules.specs.Told.{gave, told}
use Rattle.acts.specs.declared.Arrived.{Arrived}
use Rattle.acts.specs.Reach.{come, came}
use Rattle.adv.specs.Answers.{handed}
use Rattle.adv.proofs.Given.{adv-beyond-told}

module _ (p : Description) (cur : ℕ) (f b : List ℕ) where
  abbrev v : Texts
  v = seen p cur f b

  -- the two ways
  pub here-come : (way : Way) → way ≡ Here
      → record { file = f; current = cur; flag = false; buffer = b; transfers = 0 } ≡ come (reached v false way)
  unfolding reached
  here-come way e = rw e

  module _ (way : Way) (w : Path) (e : way ≡ By w) where
    pub by-least : WayFits v false way → 1 ≤ w.detail
    by-least h = (subst (WayFits v false) e h).0.detail-least

    pub by_most : WayFits v false way → w.detail ≤ p.n
    by_most h = (subst (WayFits v false) e h).0.detail-most

    pub by-come : (t : List ℕ) → t ≡ text_of v w.detail
        → record { file = f; current = w.detail; flag = false; buffer = t; transfers = 2 } ≡ come (reached v false way)
    unfolding reached bringing flush_moves written
    by-come t et = rw e (λ j. record { file = f; current = w.detail; flag = false; buffer = et j; transfers = 2 })

  -- SEEK does not find the key
  pub missing-told : (l : Look) (w : Path) (work : List ℕ) (here : Arrived) (t : List ℕ) (r : Done) → came here f t ≡ come (reached v false (By w))
      → l ≡ Missing w → r ≡ record { number = not_found; transfers = here.transfers; current = here.current; flag = here.flag; keyed = false }
      → gave r f t work ≡ told v false work (seek_done v false work l)
  unfolding seek_done stopping
  missing-told l w work here t r e el er =
      rw (el, er) (λ j. record {
        number = not_found;
        transfers = (e j).transfers;
        current = (e j).current;
        flag = (e j).flag;
        keyed = false;
        file = (e j).file;
        buffer = (e j).buffer;
        work = work;
      })

  -- ADV brings the next block
  pub beyond-told : (s : Step) (w x : Path) (i n : ℕ) (work given t : List ℕ) (r : Done) → s ≡ Beyond w x i
      → r ≡ handed p t i (record { transfers = n; current = x.detail; flag = false }) → n ≡ length (adv_reads w x) → t ≡ text_of v x.detail
      → given ≡ row (detail_shape p) t i → gave r f t given ≡ told v false work (adv_done v false s)
  unfolding flush_moves written
  beyond-told s w x i n work given t r es er en et eg =
      let none : n ≡ 0 + n = omega arith in
      let read = er ∙ ap (λ (m : ℕ). handed p t i (record { transfers = m; current = x.detail; flag = false })) none in
      adv-beyond-told p cur f b false s w x i es 0 n work given f t r refl en refl et read eg
