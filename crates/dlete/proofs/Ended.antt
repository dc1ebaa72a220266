-- What the code tells at the end of DLETE: an emptied block, and the workspace, which stays whatever it is.
use Prim.Native.Nat.{ℕ}
use mathlib.Core.Path.{◌≡◌, refl, ap, ◌∙◌}
use mathlib.Core.Bool.{Bool, true, false}
use mathlib.Core.List.{List, []}
use lib.ListN.{length}
use Rattle.numbers.specs.Numbers.{done}
use Rattle.numbers.specs.Checked.{passed}
use Rattle.words.specs.Words.{zeros}
use Rattle.drum.specs.declared.Description.{Description}
use Rattle.drum.specs.Blocks.{Fitting, Transfer, Texts, seen}
use Rattle.rules.specs.declared.Done.{Done}
use Rattle.rules.specs.declared.Path.{Path}
use Rattle.rules.specs.declared.Way.{Way}
use Rattle.rules.specs.declared.Delete.{Delete}
use Rattle.rules.specs.declared.Delete.TheVariants.{Stop, Remove, Empty, Both}
use Rattle.rules.specs.State.{key_in}
use Rattle.rules.specs.Lookup.{stopping, storing}
use Rattle.rules.specs.Dlete.{empty_all, both_all, empty_file, both_file, emptying, delete_deed, delete_done, dlete_steps}
use Rattle.rules.specs.Told.{Told, gave, told}

-- the buffer zeroed, nothing buffered
emptied-told : (v : Texts) (flag : Bool) (n : ℕ) (moves : List Transfer) (f g b : List ℕ) (r : Done)
    → r ≡ record { number = done; transfers = n; current = 0; flag = false; keyed = true }
    → b ≡ zeros (length v.buffer) → length v.buffer ≡ v.desc.wpb
    → n ≡ length moves → f ≡ g → gave r f b [] ≡ told v flag [] (passed (emptying v.desc [] moves g))
unfolding emptying
emptied-told v flag n moves f g b r er eb l en ef =
    let et : r.transfers ≡ length moves = ap (λ (x : Done). x.transfers) er ∙ en in
    let ez : b ≡ zeros v.desc.wpb = eb ∙ ap zeros l in
    λ j. record {
      number = (er j).number;
      transfers = et j;
      current = (er j).current;
      flag = (er j).flag;
      keyed = (er j).keyed;
      file = ef j;
      buffer = ez j;
      work = [];
    }

-- what an emptied block tells
module _ (p : Description) (cur : ℕ) (f b : List ℕ) (flag : Bool) (d : Delete) where
  abbrev v : Texts
  v = seen p cur f b

  module _ (r : Done) where
    module _ (g t : List ℕ) where
      -- an emptied block: the buffer is zeroed and nothing is held
      module _ (way : Way) (w : Path) (head n : ℕ) where
        pub told-one : (b₁ : List ℕ) → d ≡ Empty way w head → r ≡ record { number = done; transfers = n; current = 0; flag = false; keyed = true }
            → n ≡ length (empty_all v flag way w head) → g ≡ empty_file v flag way w head
            → t ≡ zeros (length b₁) → length b₁ ≡ length b → Fitting p f b
            → gave r g t [] ≡ told v flag [] (delete_done v flag [] d)
        unfolding delete_done
        told-one b₁ e er en eg et l fit = rw e (emptied-told v flag n _ g _ t r er (et ∙ ap zeros l) fit.buffer-is en eg)

        pub told-both : d ≡ Both way w head → r ≡ record { number = done; transfers = n; current = 0; flag = false; keyed = true }
            → n ≡ length (both_all v flag way w head) → g ≡ both_file v flag way w head
            → t ≡ zeros (length b) → Fitting p f b
            → gave r g t [] ≡ told v flag [] (delete_done v flag [] d)
        unfolding delete_done
        told-both e er en eg et fit = rw e (emptied-told v flag n _ g _ t r er et fit.buffer-is en eg)

-- the same told with a workspace
kept : (work : List ℕ) → Told → Told
kept work x = record {
  number = x.number;
  transfers = x.transfers;
  current = x.current;
  flag = x.flag;
  keyed = x.keyed;
  file = x.file;
  buffer = x.buffer;
  work = work;
}

kept-told : (v : Texts) (flag : Bool) (work : List ℕ) (d : Delete)
    → kept work (told v flag [] (delete_done v flag [] d)) ≡ told v flag work (delete_done v flag work d)
unfolding kept delete_done stopping storing emptying
kept-told v flag work (Stop w) = refl
kept-told v flag work (Remove way i) = refl
kept-told v flag work (Empty way w head) = refl
kept-told v flag work (Both way w head) = refl

-- DLETE by its plan and by what was done, the workspace kept
pub dlete-told : (p : Description) (cur : ℕ) (f b : List ℕ) (flag : Bool) (work : List ℕ) (d : Delete) (r : Done) (g h : List ℕ)
    → passed d ≡ delete_deed (seen p cur f b) flag (key_in p work)
    → gave r g h [] ≡ told (seen p cur f b) flag [] (delete_done (seen p cur f b) flag [] d)
    → gave r g h work ≡ told (seen p cur f b) flag work (dlete_steps (seen p cur f b) flag work)
unfolding dlete_steps kept
dlete-told p cur f b flag work d r g h e t = rw (← e) (ap (kept work) t ∙ kept-told (seen p cur f b) flag work d)
