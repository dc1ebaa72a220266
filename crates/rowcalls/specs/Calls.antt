-- PUT and GET for programs in other languages: what they do in `sequential`, told in words. They transfer nothing, so that "transfers times
-- 2^32, plus the number" is the number alone.
use Rattle.std.specs.Prelude.{ℕ, cond, List, length, get_or, set}
use Rattle.numbers.specs.Numbers.{wrong_size}
use Rattle.sequential.specs.Calls.{Stored, Read, put_row, get_row}
use Rattle.rowcalls.specs.Words.{is_row, layout_of, place_of, at_place}

-- what a function returns, and the words it leaves
pub record Returned : Type 0 where
  pub answer : ℕ
  pub row : List ℕ
  pub file : List ℕ
  pub work : List ℕ

-- the same as a function of them
abbrev pub returned : ℕ → List ℕ → List ℕ → List ℕ → Returned
returned r ws f w = record { answer = r; row = ws; file = f; work = w }

-- PUT's outcome: its number, the place in words 4 and 5, and the file [R6]
abbrev pub told_put : List ℕ → List ℕ → Stored → Returned
told_put ws w o = returned o.number (at_place ws o.place) o.file w

-- GET's outcome: its number, the place in words 4 and 5, how many are left in word 6, and the workspace [R7]
abbrev pub told_get : List ℕ → List ℕ → Read → Returned
told_get ws f o = returned o.number (set (at_place ws o.place) 6 o.left) f o.work

-- 020007 for words that are no row, all unchanged; else PUT [R6, R8]
unfoldable pub put_called : List ℕ → List ℕ → List ℕ → Returned
put_called ws f w =
    cond (is_row ws (length f)) (told_put ws w (put_row (layout_of ws) (place_of ws) f w)) (returned wrong_size ws f w)

-- 020007 for words that are no row, all unchanged; else GET, which is told in word 6 how many are left [R7, R8]
unfoldable pub get_called : List ℕ → List ℕ → List ℕ → Returned
get_called ws f w =
    cond (is_row ws (length f)) (told_get ws f (get_row (layout_of ws) (place_of ws) (get_or ws 6 0) f w)) (returned wrong_size ws f w)
