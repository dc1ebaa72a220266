-- What is kept of a line says all of it that Lines.antt asks: the call that it is, the call that its first word names, its parameters.
use Prim.Native.Nat.{ℕ, suc, ◌+◌, ◌≤◌, ◌<◌}
use native.Mathlib.Omega.{arith}
use mathlib.Core.Path.{◌≡◌, refl, sym, ap, ◌∙◌}
use mathlib.Core.Bool.{Bool, true, false, cond, ◌&&◌}
use mathlib.Core.List.{List, [], ◌∷◌}
use Rattle.std.proofs.Common.{Option, None, Some}
use lib.Dec.{ltb, eqb}
use lib.ListN.{length}
use borrow.Author.Tests.{eqb-true, ne_eqb}
use Rattle.words.specs.Words.{part, put}
use Rattle.words.proofs.All.{and_both}
use Rattle.words.proofs.Keys.{clash}
use Rattle.words.proofs.Parts.{part-written, get_or-put-in}
use Rattle.drum.specs.declared.Description.{Description}
use Rattle.rules.specs.declared.Call.{Call}
use Rattle.rules.specs.declared.Call.TheVariants.{Create, Open, Close, Seek, Adv, Nsert, Dlete, Updat, Xtend}
use Rattle.lines.specs.Lines.{words_of, all_numbers, values, named, carries, no_call, a_call, with_numbers, parsed_words, parse, first_named, described, parameters}
use Rattle.lines.specs.Reading.{Read, unread, resting, read_line, spelled_name, call_in, call_of, parsed_as, parameters_in}
use Rattle.lines.specs.Promise.{read}
use Rattle.lines.proofs.Naming.{named-take, named_none, named_other}
use Rattle.lines.proofs.Fold.{word, words_read, start, line-words, start-quiet, Full, words-full, rested-quiet}
use Rattle.lines.proofs.Letters.{letters}
use Rattle.lines.proofs.Words.{placed, word-others, word_count, word-other}
use Rattle.lines.proofs.Tally.{another-more, Tally, all, other, tally}
use Rattle.lines.proofs.Spelled.{first-spelled, none-spelled}

length-values : (ws : List (List ℕ)) → length (values ws) ≡ length ws
unfolding values
length-values [] = refl
length-values (w ∷ ws) = ap suc (length-values ws)

-- words that are not so many numbers, where there is room for so many
not-all : (ws : List (List ℕ)) (n room : ℕ) → n ≤ room → (all_numbers ws ≡ true → room < length ws) → (all_numbers ws && eqb (length ws) n) ≡ false
not-all ws n room h k = go (all_numbers ws && eqb (length ws) n) refl
  where
    go : (t : Bool) → (all_numbers ws && eqb (length ws) n) ≡ t → t ≡ false
    go true e =
        let b = and_both (all_numbers ws) (eqb (length ws) n) e in
        let m = eqb-true (length ws) n b.1 in
        let r = k b.0 in
        absurd (omega arith)
    go false e = refl

module _ (name numbers : List ℕ) (room : 7 ≤ length name) where
  words-named : (ws : List (List ℕ)) → Full ws → first_named ws ≡ named (spelled_name (words_read (start name numbers) ws))
  unfolding first_named
  words-named [] f = sym (ap named (none-spelled name numbers) ∙ named_none)
  words-named ([] ∷ ws) f = absurd f
  words-named ((b ∷ w) ∷ ws) f = sym (ap named (first-spelled name numbers b w ws) ∙ named-take (length name) (b ∷ w) room)

  pub line-name : (l : List ℕ) → first_named (words_of l) ≡ named (spelled_name (read_line (read unread name numbers) l))
  line-name l = words-named (words_of l) (words-full l) ∙ ap (λ (z : Read). named (spelled_name z)) (sym (line-words name numbers l))

carries-room : (p : Description) (n : ℕ) → p.k ≤ n → p.wpr ≤ n → (c : Call) → carries p c ≤ n
unfolding carries
carries-room p n h g Create = omega arith
carries-room p n h g Open = omega arith
carries-room p n h g Close = omega arith
carries-room p n h g (Seek at) = h
carries-room p n h g Adv = omega arith
carries-room p n h g (Nsert at) = g
carries-room p n h g (Dlete at) = h
carries-room p n h g (Updat at) = g
carries-room p n h g (Xtend at) = g

-- the same test and, where it holds, the same numbers
agree-call : (p : Description) (c : Call) (x y : Bool) (v numbers : List ℕ) → x ≡ y → (x ≡ true → v ≡ part 0 (carries p c) numbers)
    → cond x (a_call c v) no_call ≡ parsed_as p (cond y (Some c) None) numbers
unfolding parsed_as
agree-call p c x y v numbers e h = go x h ∙ ap (λ (t : Bool). parsed_as p (cond t (Some c) None) numbers) e
  where
    go : (t : Bool) → (t ≡ true → v ≡ part 0 (carries p c) numbers) → cond t (a_call c v) no_call ≡ parsed_as p (cond t (Some c) None) numbers
    go true k = ap (a_call c) (k refl)
    go false k = refl

module _ (p : Description) (c : Call) (s : Read) (ws : List (List ℕ)) (o : s.reading.others ≡ 1) (n : s.reading.numbers ≡ 0) (room : carries p c ≤ length s.numbers) where
  abbrev S : Read
  S = words_read s ws

  behind-name : Tally s ws → cond (all_numbers ws && eqb (length ws) (carries p c)) (a_call c (values ws)) no_call ≡ parsed_as p (call_in p S.reading (Some c)) S.numbers
  unfolding call_in
  behind-name (all a l q m v) = agree-call p c _ _ _ _ same stored
    where
      count : S.reading.numbers ≡ length ws
      count = omega arith

      same : (all_numbers ws && eqb (length ws) (carries p c)) ≡ (eqb S.reading.others 1 && eqb S.reading.numbers (carries p c))
      same = (λ j. a j && eqb (length ws) (carries p c)) ∙ sym (λ j. eqb ((q ∙ o) j) 1 && eqb (count j) (carries p c))

      stored : (all_numbers ws && eqb (length ws) (carries p c)) ≡ true → values ws ≡ part 0 (carries p c) S.numbers
      stored t =
          let b = and_both (all_numbers ws) (eqb (length ws) (carries p c)) t in
          let k : length (values ws) ≡ carries p c = length-values ws ∙ eqb-true (length ws) (carries p c) b.1 in
          sym (ap (part 0 (carries p c)) (v ∙ ap (λ (i : ℕ). put s.numbers i (values ws)) n) ∙ part-written s.numbers 0 (carries p c) (values ws) k (omega arith))
  behind-name (other q h) = agree-call p c _ _ _ _ (bad ∙ sym (ap (λ (t : Bool). t && eqb S.reading.numbers (carries p c)) off)) (λ t. absurd (clash (sym t ∙ bad)))
    where
      bad : (all_numbers ws && eqb (length ws) (carries p c)) ≡ false
      bad = not-all ws (carries p c) (length s.numbers) room (λ a. let k = h a in omega arith)

      off : eqb S.reading.others 1 ≡ false
      off = ne_eqb S.reading.others 1 (λ e. omega arith)

module _ (p : Description) (name numbers : List ℕ) (room : 7 ≤ length name) (key : p.k ≤ length numbers) (record-room : p.wpr ≤ length numbers) where
  -- a first word that names the call c
  words-kind : (c : Call) (b : ℕ) (w : List ℕ) (ws : List (List ℕ)) → Full ws → named (b ∷ w) ≡ Some c
      → with_numbers p (Some c) ws
      ≡ parsed_as p (call_in p (words_read (start name numbers) ((b ∷ w) ∷ ws)).reading (Some c)) (words_read (start name numbers) ((b ∷ w) ∷ ws)).numbers
  unfolding with_numbers resting
  words-kind c b w ws f h = behind-name p c s ws o n fits (tally s ws (rested-quiet (letters (start name numbers) (b ∷ w))) f (omega (arith, o)) (omega (arith, n)))
    where
      s : Read
      s = word (start name numbers) (b ∷ w)

      e : placed (start name numbers) (b ∷ w) ≡ false
      e = ap (λ (t : Bool). t && ltb 0 (length numbers)) (named_other (b ∷ w) c h)

      o : s.reading.others ≡ 1
      o = word-others (start name numbers) (start-quiet name numbers) b w false e ∙ another-more 0 (omega arith)

      n : s.reading.numbers ≡ 0
      n = word_count (start name numbers) (start-quiet name numbers) b w false e

      fits : carries p c ≤ length s.numbers
      fits = rw (word-other (start name numbers) (start-quiet name numbers) b w e) (carries-room p (length numbers) key record-room c)

  words-call : (ws : List (List ℕ)) → Full ws
      → parsed_words p ws
      ≡ parsed_as p (call_in p (words_read (start name numbers) ws).reading (named (spelled_name (words_read (start name numbers) ws)))) (words_read (start name numbers) ws).numbers
  unfolding parsed_words call_in parsed_as first_named with_numbers
  words-call [] f = ap (λ (x : Option Call). parsed_as p (call_in p (start name numbers).reading x) numbers) (words-named name numbers room [] f)
  words-call ([] ∷ ws) f = absurd f
  words-call ((b ∷ w) ∷ ws) f = go (named (b ∷ w)) refl ∙ ap (λ (x : Option Call). parsed_as p (call_in p S.reading x) S.numbers) (words-named name numbers room ((b ∷ w) ∷ ws) f)
    where
      S : Read
      S = words_read (start name numbers) ((b ∷ w) ∷ ws)

      go : (x : Option Call) → named (b ∷ w) ≡ x → with_numbers p x ws ≡ parsed_as p (call_in p S.reading x) S.numbers
      go None h = refl
      go (Some c) h = words-kind c b w ws f h

  pub line-call : (l : List ℕ)
      → parse p l
      ≡ parsed_as
      p
      (call_of p (read_line (read unread name numbers) l).reading (read_line (read unread name numbers) l).name)
      (read_line (read unread name numbers) l).numbers
  unfolding parse call_of spelled_name
  line-call l =
      words-call (words_of l) (words-full l)
      ∙ ap (λ (z : Read). parsed_as p (call_of p z.reading z.name) z.numbers) (sym (line-words name numbers l))

-- six numbers stored say what they said
described-put : (l v : List ℕ) → length v ≡ 6 → 6 ≤ length l → described (put l 0 v) ≡ described v
unfolding described
described-put l v e h =
    let g : 0 + length v ≤ length l = omega arith in
    λ j. record {
      wpb = get_or-put-in l 0 v 0 (omega arith) (omega arith) g j;
      wpr = get_or-put-in l 0 v 1 (omega arith) (omega arith) g j;
      k = get_or-put-in l 0 v 2 (omega arith) (omega arith) g j;
      space = get_or-put-in l 0 v 3 (omega arith) (omega arith) g j;
      control = get_or-put-in l 0 v 4 (omega arith) (omega arith) g j;
      n = get_or-put-in l 0 v 5 (omega arith) (omega arith) g j;
      form = 1;
    }

agree-described : (x y : Bool) (v l : List ℕ) → x ≡ y → (x ≡ true → described v ≡ described l)
    → cond x (Some (described v)) None ≡ cond y (Some (described l)) None
agree-described x y v l e h = go x h ∙ ap (λ (t : Bool). cond t (Some (described l)) None) e
  where
    go : (t : Bool) → (t ≡ true → described v ≡ described l) → cond t (Some (described v)) None ≡ cond t (Some (described l)) None
    go true k = ap Some (k refl)
    go false k = refl

module _ (name numbers : List ℕ) (room : 6 ≤ length numbers) where
  words-parameters : (ws : List (List ℕ)) → Tally (start name numbers) ws
      → parameters ws ≡ parameters_in (words_read (start name numbers) ws).reading (words_read (start name numbers) ws).numbers
  unfolding parameters parameters_in resting
  words-parameters ws (all a l q m v) = agree-described _ _ _ _ same stored
    where
      count : (words_read (start name numbers) ws).reading.numbers ≡ length ws
      count = omega arith

      same : (all_numbers ws && eqb (length ws) 6) ≡ (eqb (words_read (start name numbers) ws).reading.others 0 && eqb (words_read (start name numbers) ws).reading.numbers 6)
      same = (λ j. a j && eqb (length ws) 6) ∙ sym (λ j. eqb (q j) 0 && eqb (count j) 6)

      stored : (all_numbers ws && eqb (length ws) 6) ≡ true → described (values ws) ≡ described (words_read (start name numbers) ws).numbers
      stored t =
          let b = and_both (all_numbers ws) (eqb (length ws) 6) t in
          let k : length (values ws) ≡ 6 = length-values ws ∙ eqb-true (length ws) 6 b.1 in
          sym (ap described v ∙ described-put numbers (values ws) k room)
  words-parameters ws (other q h) = agree-described _ _ _ _ (bad ∙ sym (ap (λ (t : Bool). t && eqb (words_read (start name numbers) ws).reading.numbers 6) off)) (λ t. absurd (clash (sym t ∙ bad)))
    where
      bad : (all_numbers ws && eqb (length ws) 6) ≡ false
      bad = not-all ws 6 (length numbers) room (λ a. let k = h a in omega arith)

      off : eqb (words_read (start name numbers) ws).reading.others 0 ≡ false
      off = ne_eqb (words_read (start name numbers) ws).reading.others 0 (λ e. omega arith)

  pub line-parameters : (l : List ℕ)
      → parameters (words_of l) ≡ parameters_in (read_line (read unread name numbers) l).reading (read_line (read unread name numbers) l).numbers
  unfolding resting
  line-parameters l =
      words-parameters (words_of l) (tally (start name numbers) (words_of l) (start-quiet name numbers) (words-full l) (omega arith) (omega arith))
      ∙ ap (λ (z : Read). parameters_in z.reading z.numbers) (sym (line-words name numbers l))
