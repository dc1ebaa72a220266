-- An input is read line by line, and a line may be cut anywhere into parts.
use Prim.Native.Nat.{ℕ, suc, ◌+◌, ◌<◌}
use native.Mathlib.Nat.{add-zero, not-suc-le-zero}
use native.Mathlib.Omega.{arith}
use mathlib.Core.Path.{◌≡◌, refl, sym, ap, ◌∙◌}
use mathlib.Core.Bool.{Bool, true, false, cond, not}
use mathlib.Core.List.{List, [], ◌∷◌, ◌++◌, append-nil}
use lib.Dec.{eqb}
use lib.ListN.{length}
use borrow.Author.Tests.{not-true}
use Rattle.words.specs.Words.{none_is}
use Rattle.words.proofs.All.{and_both}
use Rattle.lines.specs.Lines.{is_blank, is_line_feed, leading, pieces, ended, lines_of}
use Rattle.lines.specs.Reading.{Read, rested, letter, resting, step, steps, read_line}
use Rattle.lines.specs.Promise.{to_line_feed}
use Rattle.lines.proofs.Letters.{letter-is, rested-is}
use Rattle.lines.proofs.Fold.{pieces-some}

-- no byte of it ends a line
abbrev pub Within : List ℕ → Type 0
Within l = none_is 10 l ≡ true

module _ (b : ℕ) (l : List ℕ) (h : Within (b ∷ l)) where
  within_first : is_line_feed b ≡ false
  unfolding none_is is_line_feed
  within_first = not-true (eqb b 10) (and_both (not (eqb b 10)) (none_is 10 l) h).0

  within-rest : Within l
  unfolding none_is
  within-rest = (and_both (not (eqb b 10)) (none_is 10 l) h).1

-- a part, and what stands behind it
pub lines-parts : (s : Read) (at : ℕ) (a b : List ℕ) → Within a → to_line_feed s at (a ++ b) ≡ to_line_feed (steps s a) (at + length a) b
unfolding to_line_feed steps
lines-parts s at [] b h = ap (λ (i : ℕ). to_line_feed s i b) (sym (add-zero at))
lines-parts s at (x ∷ a) b h =
    let n : suc at + length a ≡ at + suc (length a) = omega arith in
    ap (λ (t : Bool). cond t (record { kept = rested s; at = suc at; ended = true }) (to_line_feed (step s x) (suc at) (a ++ b))) (within_first x a h)
    ∙ lines-parts (step s x) (suc at) a b (within-rest x a h)
    ∙ ap (λ (i : ℕ). to_line_feed (steps (step s x) a) i b) n

-- a line that ends, and one that does not end yet
pub lines-ended : (s : Read) (at : ℕ) (l rest : List ℕ) → Within l
    → to_line_feed s at (l ++ 10 ∷ rest) ≡ record { kept = read_line s l; at = at + length l + 1; ended = true }
unfolding to_line_feed is_line_feed read_line
lines-ended s at l rest h =
    let n : suc (at + length l) ≡ at + length l + 1 = omega arith in
    lines-parts s at l (10 ∷ rest) h ∙ (λ j. record { kept = read_line s l; at = n j; ended = true })

pub lines-open : (s : Read) (at : ℕ) (l : List ℕ) → Within l
    → to_line_feed s at l ≡ record { kept = steps s l; at = at + length l; ended = false }
unfolding to_line_feed
lines-open s at l h = ap (to_line_feed s at) (sym (append-nil l)) ∙ lines-parts s at l [] h

-- the first line of an input, and its last one
pieces-line : (l rest : List ℕ) → Within l → pieces is_line_feed (l ++ 10 ∷ rest) ≡ l ∷ pieces is_line_feed rest
unfolding pieces leading is_line_feed
pieces-line [] rest h = refl
pieces-line (b ∷ l) rest h =
    ap (λ (t : Bool). cond t ([] ∷ pieces is_line_feed (l ++ 10 ∷ rest)) (leading b (pieces is_line_feed (l ++ 10 ∷ rest)))) (within_first b l h)
    ∙ ap (leading b) (pieces-line l rest (within-rest b l h))

pieces-last : (l : List ℕ) → Within l → pieces is_line_feed l ≡ l ∷ []
unfolding pieces leading
pieces-last [] h = refl
pieces-last (b ∷ l) h =
    ap (λ (t : Bool). cond t ([] ∷ pieces is_line_feed l) (leading b (pieces is_line_feed l))) (within_first b l h)
    ∙ ap (leading b) (pieces-last l (within-rest b l h))

ended-first : (l : List ℕ) (ls : List (List ℕ)) → 0 < length ls → ended (l ∷ ls) ≡ l ∷ ended ls
unfolding ended
ended-first l [] h = absurd (not-suc-le-zero h)
ended-first l (m ∷ ls) h = refl

pub lines-first : (l rest : List ℕ) → Within l → lines_of (l ++ 10 ∷ rest) ≡ l ∷ lines_of rest
unfolding lines_of
lines-first l rest h = ap ended (pieces-line l rest h) ∙ ended-first l (pieces is_line_feed rest) (pieces-some is_line_feed rest)

pub lines_none : lines_of [] ≡ []
unfolding lines_of ended pieces
lines_none = refl

pub lines-last : (b : ℕ) (l : List ℕ) → Within (b ∷ l) → lines_of (b ∷ l) ≡ (b ∷ l) ∷ []
unfolding lines_of ended
lines-last b l h = ap ended (pieces-last (b ∷ l) h)

-- a last line counts if any byte of it was read
step-begun : (s : Read) (b : ℕ) → (step s b).reading.begun ≡ true
unfolding step resting
step-begun s b = go (is_blank b)
  where
    go : (t : Bool) → (cond t (rested s) (letter s b)).reading.begun ≡ true
    go true = ap (λ (z : Read). z.reading.begun) (rested-is s)
    go false = ap (λ (z : Read). z.reading.begun) (letter-is s b)

pub steps-begun : (s : Read) (b : ℕ) (l : List ℕ) → (steps s (b ∷ l)).reading.begun ≡ true
unfolding steps
steps-begun s b [] = step-begun s b
steps-begun s b (c ∷ l) = steps-begun (step s b) c l
