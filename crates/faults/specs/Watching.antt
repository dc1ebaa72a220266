-- What a fault is told by, beside what is kept of a line: its words counted, and the first that is not all digits.
use Rattle.std.specs.Prelude.{ℕ, suc, Bool, true, false, cond, ◌&&◌, ◌||◌, List, [], ◌∷◌, ltb, eqb, Option, None, Some, is_some}
use Rattle.lines.specs.Lines.{is_blank, is_line_feed, is_digit, top_number}
use Rattle.faults.specs.declared.watch.Watch.{Watch}

-- a line of which nothing is read: whether its first word is a name
unfoldable pub unwatched : Bool → Watch
unwatched named = record { named = named; inside = false; words = 0; odd = None }

-- "Words of a line are separated by one or more blanks": how many have begun with a byte more of one, counted up to a bound
unfoldable pub words_with : Watch → ℕ
words_with w = cond w.inside w.words (cond (ltb w.words top_number) (suc w.words) w.words)

-- "A number is one or more digits 0-9": the first word that is not all digits, a name left out, where b is a byte of word n
unfoldable pub odd_with : Watch → ℕ → ℕ → Option ℕ
odd_with w n b = cond (is_some w.odd || (is_digit b || (w.named && eqb n 1))) w.odd (Some n)

-- a byte of the line
unfoldable pub seen : Watch → ℕ → Watch
seen w b =
    cond
    (is_blank b)
    (record { named = w.named; inside = false; words = w.words; odd = w.odd })
    (record { named = w.named; inside = true; words = words_with w; odd = odd_with w (words_with w) b })

-- bytes up to the first line feed
unfoldable pub watched : Watch → List ℕ → Watch
watched w [] = w
watched w (b ∷ l) = cond (is_line_feed b) w (watched (seen w b) l)
