-- What the test of a row's seven words tells.
use Prim.Native.Nat.{ℕ, ◌*◌, ◌≤◌}
use mathlib.Core.Path.{◌≡◌}
use mathlib.Core.Bool.{true}
use mathlib.Core.List.{List}
use borrow.Author.Tests.{eqb-true, leb-true}
use lib.Dec.{leb, eqb}
use lib.ListN.{length, get_or}
use Rattle.words.proofs.All.{and_both}
use Rattle.rowcalls.specs.Words.{is_row, most_word}

-- what the test of a row's words tells
pub record Row (ws : List ℕ) (file : ℕ) : Type 0 where
  pub whole : length ws ≡ 7
  pub kind-most : get_or ws 2 0 ≤ 1
  pub blocks-most : file ≤ most_word * get_or ws 0 0

pub row-facts : (ws : List ℕ) (file : ℕ) → is_row ws file ≡ true → Row ws file
unfolding is_row
row-facts ws file h =
    let (a, h₁) = and_both (eqb (length ws) 7) _ h in
    let (b, c) = and_both (leb (get_or ws 2 0) 1) (leb file (most_word * get_or ws 0 0)) h₁ in
    record { whole = eqb-true _ _ a; kind-most = leb-true _ _ b; blocks-most = leb-true _ _ c }
