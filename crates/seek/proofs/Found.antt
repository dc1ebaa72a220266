-- One law for each answer of the lookup: what it asks of the code that follows, and what SEEK and UPDAT then give.
use mathlib.Core.Path.{◌≡◌, ap, ◌∙◌, subst}
use mathlib.Core.Bool.{Bool, true}
use mathlib.Core.List.{List, []}
use Prim.Native.Nat.{ℕ, ◌+◌, ◌≤◌}
use native.Mathlib.Omega.{arith}
use lib.ListN.{length}
use Rattle.numbers.specs.Numbers.{done, not_found}
use Rattle.numbers.specs.Checked.{passed}
use Rattle.words.specs.Words.{part}
use Rattle.table.specs.declared.Shape.{Shape}
use Rattle.table.specs.Tables.{place, row, replaced}
use Rattle.drum.specs.declared.Description.{Description}
use Rattle.drum.specs.Params.{detail_shape}
use Rattle.drum.specs.Blocks.{Fitting, Texts, seen}
use Rattle.rules.specs.declared.Path.{Path}
use Rattle.rules.specs.declared.Way.{Way}
use Rattle.rules.specs.declared.Way.TheVariants.{By}
use Rattle.rules.specs.declared.Look.{Look}
use Rattle.rules.specs.declared.Look.TheVariants.{Found, Missing}
use Rattle.rules.specs.declared.Done.{Done}
use Rattle.rules.specs.Lookup.{reached, stopping, storing}
use Rattle.rules.specs.Fits.{WayFits, LookFits}
use Rattle.rules.specs.Seek.{seek_done, updat_done, giving}
use Rattle.rules.specs.Told.{Told, gave, told}
use Rattle.acts.specs.declared.Arrived.{Arrived}
use Rattle.acts.specs.Reach.{Come, come, came}
use Rattle.acts.proofs.Moves.{row-reached, stopped}

-- the answer 0 after a block was reached, with the flag, the buffer and the workspace left
abbrev ended : Come → Bool → List ℕ → List ℕ → Told
ended z flag b w = record {
  number = done;
  transfers = z.transfers;
  current = z.current;
  flag = flag;
  keyed = true;
  file = z.file;
  buffer = b;
  work = w;
}

-- the whole row is a part of it
pub whole : (n : ℕ) → n ≤ n
whole n = omega arith

module _ (p : Description) (cur : ℕ) (f b : List ℕ) (flag : Bool) (l : Look) where
  abbrev v : Texts
  v = seen p cur f b

  -- found: the way fits, and the row lies in the block reached
  module _ (way : Way) (i : ℕ) (el : l ≡ Found way i) (fits : LookFits v flag l) where
    pub found-way : WayFits v flag way
    found-way = (subst (LookFits v flag) el fits).0

    pub found-row : (h : Shape) (here : Arrived) (g t : List ℕ) → h ≡ detail_shape p → came here g t ≡ come (reached v flag way) → Fitting p f b
        → place h i + p.wpr ≤ length t
    found-row h here g t eh e fit =
        let r = row-reached v fit flag way found-way i (subst (LookFits v flag) el fits).1 t (ap (λ (z : Come). z.buffer) e) in
        rw eh r

    -- and so does a part of the row
    pub found_part : (n : ℕ) (h : Shape) (here : Arrived) (g t : List ℕ) → h ≡ detail_shape p → came here g t ≡ come (reached v flag way) → Fitting p f b
        → n ≤ p.wpr → place h i + n ≤ length t
    found_part n h here g t eh e fit l =
        let r = found-row h here g t eh e fit in
        omega arith

  module _ (work : List ℕ) where
    -- not found: the lookup is all
    module _ (w : Path) (r : Done) (g t : List ℕ) (el : l ≡ Missing w)
        (e : gave r g t [] ≡ told v flag [] (passed (stopping not_found [] (reached v flag (By w))))) where
      pub seek-missing : gave r g t work ≡ told v flag work (seek_done v flag work l)
      unfolding seek_done
      seek-missing = rw el (stopped v flag not_found work r g t (reached v flag (By w)) e)

      pub updat-missing : gave r g t work ≡ told v flag work (updat_done v flag work l)
      unfolding updat_done
      updat-missing = rw el (stopped v flag not_found work r g t (reached v flag (By w)) e)

    -- found: the block is reached, and the record goes to the workspace or is replaced
    module _ (way : Way) (i : ℕ) (here : Arrived) (g t : List ℕ) (el : l ≡ Found way i) (e : came here g t ≡ come (reached v flag way)) where
      pub seek_found : (r : Done) (given : List ℕ)
          → r ≡ record { number = done; transfers = here.transfers; current = here.current; flag = here.flag; keyed = true }
          → given ≡ row (detail_shape p) t i → gave r g t given ≡ told v flag work (seek_done v flag work l)
      unfolding seek_done giving
      seek_found r given er eg =
          let w = eg ∙ ap (λ (z : Come). row (detail_shape p) z.buffer i) e in
          rw el (ap (λ (z : Done). gave z g t given) er ∙ (λ j. ended (e j) (e j).flag (e j).buffer (w j)))

      pub updat-found : (r : Done) (h : Shape) (u : List ℕ)
          → r ≡ record { number = done; transfers = here.transfers; current = here.current; flag = true; keyed = true }
          → h ≡ detail_shape p → u ≡ replaced h i (part 0 p.wpr work) t
          → gave r g u work ≡ told v flag work (updat_done v flag work l)
      unfolding updat_done storing
      updat-found r h u er eh eu =
          let d = rw eh at eu ∙ ap (λ (z : Come). replaced (detail_shape p) i (part 0 p.wpr work) z.buffer) e in
          rw el (ap (λ (z : Done). gave z g u work) er ∙ (λ j. ended (e j) true (d j) work))
