-- Each branch of the code is a case of its definition: bytes that are looked at, and faults of a line of calls.
use Prim.Native.Nat.{ℕ, ◌+◌, ◌-◌, ◌≤◌, ◌<◌}
use mathlib.Core.Bool.{Bool, true, false, cond}
use native.Mathlib.Omega.{arith}
use lib.Dec.{eqb}
use Rattle.std.specs.Int.{from_bool}
use mathlib.Core.Path.{◌≡◌, refl, sym, ap, ◌∙◌}
use mathlib.Core.List.{List, [], ◌∷◌}
use Rattle.std.proofs.Common.{Option, None, Some}
use lib.ListN.{length, drop}
use Rattle.words.specs.Words.{part}
use Rattle.words.specs.Keys.{same_key}
use Rattle.words.proofs.Parts.{part-all}
use Rattle.texts.specs.Texts.{bytes}
use Rattle.drum.specs.declared.Description.{Description}
use native.Mathlib.Numerals.{add-one}
use borrow.Author.Tests.{lt-ltb, le-ltb, le-leb, lt-leb, eq-eqb, ne_eqb}
use Rattle.lines.specs.Lines.{is_blank, named, carries}
use Rattle.rules.specs.declared.Call.{Call}
use Rattle.faults.specs.declared.Fault.{Fault}
use Rattle.faults.specs.declared.Fault.TheVariants.{Empty, NotPlayed, NoCall, Count, NoNumber, AboveTop, NotSix}
use Rattle.faults.specs.declared.nearest.Near.{Near}
use Rattle.faults.specs.declared.watch.Watch.{Watch}
use Rattle.faults.specs.Watching.{words_with, odd_with, seen}
use Rattle.faults.specs.Nearest.{upper, same, agreeing, alike, nearer, nearest}
use Rattle.faults.specs.Faults.{name_fault, numbers_fault, named_fault, call_fault, odd_fault}
use Rattle.faults.specs.First.{words_fault}

-- whether a letter, as a capital, is another one
pub same-from : (a b u r : ℕ) → u ≡ upper a → r ≡ from_bool (eqb u b) → (r ≡ same a b) × (r ≤ 1)
unfolding same
same-from a b u r e g = rw (← e) (go (eqb u b) g)
  where
    go : (t : Bool) → r ≡ from_bool t → (r ≡ cond t 1 0) × (r ≤ 1)
    go true h = (h, omega arith)
    go false h = (h, omega arith)

-- how many words have begun
module _ (w : Watch) where
  pub words_inside : w.inside ≡ true → w.words ≡ words_with w
  unfolding words_with
  words_inside h = simp h

  pub words_more : w.inside ≡ false → w.words < 4294967295 → w.words + 1 ≡ words_with w
  unfolding words_with
  words_more h k = simp (h, lt-ltb _ _ k, add-one)

  pub words-full : w.inside ≡ false → 4294967295 ≤ w.words → w.words ≡ words_with w
  unfolding words_with
  words-full h k = simp (h, le-ltb _ _ k)

-- a byte of the line
module _ (w : Watch) (b : ℕ) (r : Bool) (e : r ≡ is_blank b) where
  pub seen-blank : r ≡ true → record { named = w.named; inside = false; words = w.words; odd = w.odd } ≡ seen w b
  unfolding seen
  seen-blank h = simp (sym e ∙ h)

  pub seen-letter : (n : ℕ) (o : Option ℕ) → r ≡ false → n ≡ words_with w → o ≡ odd_with w n b
      → record { named = w.named; inside = true; words = n; odd = o } ≡ seen w b
  unfolding seen
  seen-letter n o h p q =
      let s : seen w b ≡ record { named = w.named; inside = true; words = words_with w; odd = odd_with w (words_with w) b } = simp (sym e ∙ h) in
      (λ j. record { named = w.named; inside = true; words = p j; odd = (q ∙ ap (λ (m : ℕ). odd_with w m b) p) j }) ∙ sym s

-- a line that names a call
module _ (w : Watch) (c : Call) (takes : ℕ) where
  pub numbers-odd : (n : ℕ) → w.odd ≡ Some n → NoNumber n ≡ numbers_fault w c takes
  unfolding numbers_fault odd_fault
  numbers-odd n e = simp e

  pub numbers-count : (n m : ℕ) → w.odd ≡ None → n ≡ w.words - 1 → m ≡ w.words - 1 → (n ≡ takes → ⊥)
      → Count c takes m ≡ numbers_fault w c takes
  unfolding numbers_fault odd_fault
  numbers-count n m z e d h = ap (Count c takes) d ∙ simp (z, ne_eqb _ _ (λ (q : w.words - 1 ≡ takes). h (e ∙ q)))

  pub numbers-above : (n : ℕ) → w.odd ≡ None → n ≡ w.words - 1 → n ≡ takes → AboveTop ≡ numbers_fault w c takes
  unfolding numbers_fault odd_fault
  numbers-above n z e h = simp (z, eq-eqb _ _ (sym e ∙ h))

-- a first line not of six numbers
module _ (w : Watch) where
  pub first-odd : (n : ℕ) → w.odd ≡ Some n → NoNumber n ≡ words_fault w
  unfolding words_fault odd_fault
  first-odd n e = simp e

  pub first_count : w.odd ≡ None → (w.words ≡ 6 → ⊥) → NotSix w.words ≡ words_fault w
  unfolding words_fault odd_fault
  first_count z h = simp (z, ne_eqb _ _ h)

  pub first_above : w.odd ≡ None → w.words ≡ 6 → AboveTop ≡ words_fault w
  unfolding words_fault odd_fault
  first_above z h = simp (z, eq-eqb _ _ h)

-- how much a word is like a text, and which call is nearer
pub alike-sum : (w t : List ℕ) (x y z : ℕ) → x ≡ agreeing w t → y ≡ agreeing (drop 1 w) t → z ≡ agreeing w (drop 1 t)
    → x + y + z ≡ alike w t
unfolding alike
alike-sum w t x y z e f g = λ j. e j + f j + g j

module _ (w t : List ℕ) (near : Near) (c : Call) (s : ℕ) (e : s ≡ alike w t) where
  pub nearer-kept : s ≤ near.score → near ≡ nearer w near c t
  unfolding nearer
  nearer-kept h = rw (← e, le-leb _ _ h)

  pub nearer-new : near.score < s → record { call = c; size = length t; score = s } ≡ nearer w near c t
  unfolding nearer
  nearer-new h = rw (← e, lt-leb _ _ h)

-- a line whose first word names no call
module _ (w : Watch) (word : List ℕ) where
  pub name-empty : w.words ≡ 0 → Empty ≡ name_fault w word
  unfolding name_fault
  name-empty h = simp (eq-eqb _ _ h)

  module _ (r : Bool) (e : r ≡ same_key (part 0 (length word) word) (86 ∷ 73 ∷ 69 ∷ 87 ∷ [])) (z : w.words ≡ 0 → ⊥) where
    is_view : same_key word (86 ∷ 73 ∷ 69 ∷ 87 ∷ []) ≡ r
    is_view = sym (rw (part-all (length word) word refl) at e)

    pub name-view : r ≡ true → NotPlayed ≡ name_fault w word
    unfolding name_fault bytes
    name-view h = simp (ne_eqb _ _ z, is_view ∙ h)

    pub name-other : (near : Option Call) → r ≡ false → near ≡ nearest word → NoCall near ≡ name_fault w word
    unfolding name_fault bytes
    name-other near h n = ap NoCall n ∙ simp (ne_eqb _ _ z, is_view ∙ h)

-- a line of calls, by the call that its first word names
module _ (p : Description) (w : Watch) (word : List ℕ) (f : Fault) where
  pub call_none : f ≡ name_fault w word → None ≡ named (part 0 (length word) word) → f ≡ call_fault p w word
  unfolding call_fault named_fault
  call_none g e = g ∙ ap (named_fault p w word) (e ∙ ap named (part-all (length word) word refl))

  pub call-some : (c : Call) (n : ℕ) → f ≡ numbers_fault w c n → n ≡ carries p c → Some c ≡ named (part 0 (length word) word)
      → f ≡ call_fault p w word
  unfolding call_fault named_fault
  call-some c n g m e = g ∙ ap (numbers_fault w c) m ∙ ap (named_fault p w word) (e ∙ ap named (part-all (length word) word refl))
