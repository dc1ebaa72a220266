-- What reading a part of a line keeps: the lengths of the lent words, and that the bytes kept of the name stand in them.
use Prim.Native.Nat.{ℕ, suc, ◌+◌, ◌≤◌, ◌<◌}
use native.Mathlib.Omega.{arith}
use mathlib.Core.Path.{◌≡◌, refl, sym, ap, ◌∙◌, subst}
use mathlib.Core.Bool.{Bool, true, false, cond, ◌&&◌}
use mathlib.Core.List.{List, [], ◌∷◌}
use lib.Dec.{ltb, eqb}
use lib.ListN.{length, drop, length-set, length-drop}
use borrow.Author.Tests.{ltb-true}
use Rattle.words.proofs.All.{and_both}
use Rattle.lines.specs.declared.Reading.{Reading}
use Rattle.lines.specs.declared.Taken.{Taken}
use Rattle.lines.specs.Lines.{is_blank, is_line_feed}
use Rattle.lines.specs.Reading.{Read, unread, spells, letter, rested, step, steps, read_line, resting}
use Rattle.lines.specs.Promise.{Took, to_line_feed, read, took}
use Rattle.lines.proofs.Letters.{letter_with, letter-is, rest_with, stores, rested-is}

-- t has the lent words of s, changed or not, and where the name fits s it fits t
pub record KeepsRead (s t : Read) : Type 0 where
  pub names : length t.name ≡ length s.name
  pub values : length t.numbers ≡ length s.numbers
  pub fits : s.reading.spelled ≤ length s.name → t.reading.spelled ≤ length t.name

keeps_self : (s : Read) → KeepsRead s s
keeps_self s = record { names = refl; values = refl; fits = λ h. h }

keeps_on : (s t u : Read) → KeepsRead s t → KeepsRead t u → KeepsRead s u
keeps_on s t u a b = record { names = b.names ∙ a.names; values = b.values ∙ a.values; fits = λ h. b.fits (a.fits h) }

-- a byte is kept only where there is room for it
spells-room : (r : Reading) (name : List ℕ) → spells r name ≡ true → r.spelled < length name
unfolding spells
spells-room r name e =
    let h = and_both (eqb r.others 0) (eqb r.numbers 0 && ltb r.spelled (length name)) e in
    ltb-true r.spelled (length name) (and_both (eqb r.numbers 0) (ltb r.spelled (length name)) h.1).1

pub letter-keeps : (s : Read) (b : ℕ) → KeepsRead s (letter s b)
letter-keeps s b = subst (KeepsRead s) (sym (letter-is s b)) (go (spells s.reading s.name) refl)
  where
    go : (t : Bool) → spells s.reading s.name ≡ t → KeepsRead s (letter_with t s b)
    go true e = record {
      names = length-set s.name s.reading.spelled b;
      values = refl;
      fits = λ h. rw (length-set s.name s.reading.spelled b) (spells-room s.reading s.name e);
    }
    go false e = record { names = refl; values = refl; fits = λ h. h }

pub rested-keeps : (s : Read) → KeepsRead s (rested s)
unfolding resting
rested-keeps s = subst (KeepsRead s) (sym (rested-is s)) (go s.reading.inside (stores s))
  where
    go : (i t : Bool) → KeepsRead s (rest_with i t s)
    go true true = record { names = refl; values = length-set s.numbers s.reading.numbers s.reading.value; fits = λ h. h }
    go true false = record { names = refl; values = refl; fits = λ h. h }
    go false t = record { names = refl; values = refl; fits = λ h. h }

pub step_keeps : (s : Read) (b : ℕ) → KeepsRead s (step s b)
unfolding step
step_keeps s b = go (is_blank b)
  where
    go : (t : Bool) → KeepsRead s (cond t (rested s) (letter s b))
    go true = rested-keeps s
    go false = letter-keeps s b

pub steps-keep : (s : Read) (l : List ℕ) → KeepsRead s (steps s l)
unfolding steps
steps-keep s [] = keeps_self s
steps-keep s (b ∷ l) = keeps_on s (step s b) (steps (step s b) l) (step_keeps s b) (steps-keep (step s b) l)

pub line-keeps : (s : Read) (l : List ℕ) → KeepsRead s (read_line s l)
unfolding read_line
line-keeps s l = keeps_on s (steps s l) (rested (steps s l)) (steps-keep s l) (rested-keeps (steps s l))

pub part-keeps : (s : Read) (at : ℕ) (l : List ℕ) → KeepsRead s (to_line_feed s at l).kept
unfolding to_line_feed
part-keeps s at [] = keeps_self s
part-keeps s at (b ∷ l) = go (is_line_feed b) (part-keeps (step s b) (suc at) l)
  where
    go : (t : Bool)
        → KeepsRead (step s b) (to_line_feed (step s b) (suc at) l).kept
        → KeepsRead s (cond t (record { kept = rested s; at = suc at; ended = true }) (to_line_feed (step s b) (suc at) l)).kept
    go true r = rested-keeps s
    go false r = keeps_on s (step s b) (to_line_feed (step s b) (suc at) l).kept (step_keeps s b) r

-- a part is read no further than to its end
part-ends : (s : Read) (at : ℕ) (l : List ℕ) → (to_line_feed s at l).at ≤ at + length l
unfolding to_line_feed
part-ends s at [] = omega arith
part-ends s at (b ∷ l) = go (is_line_feed b) (part-ends (step s b) (suc at) l)
  where
    go : (t : Bool)
        → (to_line_feed (step s b) (suc at) l).at ≤ suc at + length l
        → (cond t (record { kept = rested s; at = suc at; ended = true }) (to_line_feed (step s b) (suc at) l)).at ≤ at + suc (length l)
    go true r = omega arith
    go false r = omega arith

pub taken-within : (t : Taken) (name numbers : List ℕ) (s : Read) (from : ℕ) (bytes : List ℕ) → from ≤ length bytes
    → took t name numbers ≡ to_line_feed s from (drop from bytes) → t.at ≤ length bytes
taken-within t name numbers s from bytes h e =
    let a : t.at ≡ (to_line_feed s from (drop from bytes)).at = ap (λ (z : Took). z.at) e in
    omega (arith, part-ends s from (drop from bytes), length-drop from bytes)

-- an unread line has kept no byte, so from there on the bytes kept always stand in the lent ones
pub unread-fits : (name : List ℕ) → unread.spelled ≤ length name
unfolding unread
unread-fits name = omega arith

pub line-fits : (name numbers l : List ℕ) → (read_line (read unread name numbers) l).reading.spelled ≤ length (read_line (read unread name numbers) l).name
line-fits name numbers l = (line-keeps (read unread name numbers) l).fits (unread-fits name)
