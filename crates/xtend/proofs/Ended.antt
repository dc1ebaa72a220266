-- What the code tells at the end of XTEND, deed by deed; and that it is what the steps come to.
use Prim.Native.Nat.{ℕ, ◌≤◌}
use mathlib.Core.Path.{◌≡◌, ap, ◌∙◌, subst}
use mathlib.Core.Bool.{Bool, true, false}
use mathlib.Core.List.{List, []}
use lib.ListN.{length}
use Rattle.numbers.specs.Checked.{passed}
use Rattle.drum.specs.declared.Description.{Description}
use Rattle.drum.specs.Blocks.{Fitting, Transfer, Texts, seen, block_at}
use Rattle.drum.proofs.Good.{good-facts}
use Rattle.rules.specs.declared.Path.{Path}
use Rattle.rules.specs.declared.Way.{Way}
use Rattle.rules.specs.declared.Taken.{Taken}
use Rattle.rules.specs.declared.Done.{Done}
use Rattle.rules.specs.declared.Insert.{Insert}
use Rattle.rules.specs.declared.Extend.{Extend}
use Rattle.rules.specs.declared.Extend.TheVariants.{Stop, Room, New, Both, Before}
use Rattle.rules.specs.Lookup.{reached, stopping, landing}
use Rattle.rules.specs.Told.{gave, told}
use Rattle.rules.specs.NsertDone.{insert_done}
use Rattle.rules.specs.XtendDone.{reading, extend_done}
use Rattle.xtend.specs.Fits.{BeforeFits, ExtendFits}
use Rattle.xtend.specs.Steps.{counting, lead, read_of, room_done, starting, new_all, new_left, section_all, section_left}
use Rattle.xtend.proofs.Stored.{stop-besides, room-besides}
use Rattle.xtend.proofs.Led.{before-led}

-- the buffer takes the new block
landed : (v : Texts) (flag : Bool) (work : List ℕ) (number m b : ℕ) (moves : List Transfer) (f g t : List ℕ) (r : Done)
    → r ≡ record { number = number; transfers = m; current = b; flag = false; keyed = true } → t ≡ block_at v.desc g b
    → m ≡ length moves → g ≡ f → gave r g t work ≡ told v flag work (passed (landing v.desc number work moves b f))
unfolding landing
landed v flag work number m b moves f g t r er et em eg =
    (λ j. gave (er j) g (et j) work)
    ∙ (λ j. record {
      number = number;
      transfers = em j;
      current = b;
      flag = false;
      keyed = true;
      file = eg j;
      buffer = block_at v.desc (eg j) b;
      work = work;
    })

-- what each deed tells
module _ (p : Description) (cur : ℕ) (f b : List ℕ) (flag : Bool) (deed : Extend) where
  abbrev v : Texts
  v = seen p cur f b

  module _ (r : Done) (work : List ℕ) where
    module _ (g t : List ℕ) where
      pub told-stop : (way : Way) (x n : ℕ) (d : Done) (m : ℕ) → deed ≡ Stop way x n → r ≡ counting m d
          → gave d g t [] ≡ told v flag [] (passed (stopping n [] (reached v flag way))) → m ≡ length (read_of x)
          → gave r g t work ≡ told v flag work (extend_done v flag work deed)
      unfolding extend_done
      told-stop way x n d m e er h l = rw e (ap (λ (z : Done). gave z g t work) er ∙ stop-besides v flag way n x m work d g t h l)

      pub told-room : (way : Way) (x n : ℕ) (d : Done) (m : ℕ) → deed ≡ Room way x n → r ≡ counting m d
          → gave d g t work ≡ told v flag work (room_done v flag work way n) → m ≡ length (read_of x)
          → gave r g t work ≡ told v flag work (extend_done v flag work deed)
      unfolding extend_done reading
      told-room way x n d m e er h l = rw e (ap (λ (z : Done). gave z g t work) er ∙ room-besides v flag way n x m work d g t h l)

      pub told-new : (way : Way) (w : Path) (d : Taken) (n m : ℕ) → deed ≡ New way w d n
          → r ≡ record { number = n; transfers = m; current = d.block; flag = false; keyed = true } → t ≡ block_at p g d.block
          → m ≡ length (new_all v flag (starting way w d) work) → g ≡ new_left v flag (starting way w d) work
          → gave r g t work ≡ told v flag work (extend_done v flag work deed)
      unfolding extend_done new_all new_left
      told-new way w d n m e er et em eg = rw e (landed v flag work n m d.block _ _ g t r er et em eg)

      pub told-both : (way : Way) (w : Path) (c : ℕ) (x : Taken) (n m : ℕ) → deed ≡ Both way w c x n
          → r ≡ record { number = n; transfers = m; current = c; flag = false; keyed = true } → t ≡ block_at p g c
          → m ≡ length (section_all v flag (starting way w (record { block = c; head = x.head; lowest = x.lowest })) x.block work)
          → g ≡ section_left v flag (starting way w (record { block = c; head = x.head; lowest = x.lowest })) x.block work
          → gave r g t work ≡ told v flag work (extend_done v flag work deed)
      unfolding extend_done section_all section_left
      told-both way w c x n m e er et em eg = rw e (landed v flag work n m c _ _ g t r er et em eg)

      pub told-before : (way : Way) (w : Path) (d : Insert) (x : Done) (m : ℕ) → deed ≡ Before way w d → r ≡ counting m x
          → gave x g t work ≡ told v flag work (insert_done v flag work d) → m ≡ lead way → ExtendFits v flag deed
          → gave r g t work ≡ told v flag work (extend_done v flag work deed)
      told-before way w d x m e er h l fits =
          let q : BeforeFits v flag w d = subst (ExtendFits v flag) e fits in
          rw e (ap (λ (z : Done). gave z g t work) er ∙ before-led v flag work way w d x m g t q.last.index-least q.outside h l)

-- a key lies in a record
pub key-within : (p : Description) (f b : List ℕ) → Fitting p f b → p.k ≤ p.wpr
key-within p f b fit = (good-facts p fit.good).key
