-- A session's words and the session say the same: read and written back, neither loses anything.
use Prim.Native.Nat.{ℕ, zero, suc, ◌+◌, ◌≤◌, ◌<◌}
use mathlib.Core.Path.{◌≡◌, refl, sym, ap, ◌∙◌}
use mathlib.Core.Bool.{Bool, true, false, cond}
use mathlib.Core.List.{List, [], ◌∷◌, ◌++◌, append-nil}
use native.Mathlib.Omega.{arith}
use native.Mathlib.Decide.{dec_lt}
use borrow.Author.Tests.{eq-eqb, ne_eqb, le-leb, leb-true}
use lib.Dec.{leb, eqb}
use lib.ListN.{length, get_or, set, drop, length-append, take-append-drop, get_or-eq_default}
use lib.Seq.{drop-length, drop-cons, drop-drop, take_at, get_or_at}
use Rattle.numbers.proofs.Passed.{both}
use Rattle.words.specs.Words.{part, put}
use Rattle.words.proofs.Parts.{length_part, part-all, put_all}
use Rattle.drum.specs.declared.Description.{Description}
use Rattle.rules.specs.State.{Session}
use Rattle.searchfile.specs.declared.Session as code
use Rattle.searchfile.specs.Promise.{held}
use Rattle.capi.specs.Words.{is_session, parameters_in, session_of, form_word, words_of, bit}
use Rattle.capi.specs.Calls.{Writable}

-- what the test of a session's words tells
pub record Words (ws : List ℕ) : Type 0 where
  pub whole : 73 ≤ length ws
  pub no_more : length ws ≤ 74
  pub opened-most : get_or ws 6 0 ≤ 1
  pub flag-most : get_or ws 8 0 ≤ 1
  pub placed-most : get_or ws 9 0 ≤ 1

-- a word in reach is read the same, whatever would be read beyond
get_or-within : (l : List ℕ) (i d e : ℕ) → i < length l → get_or l i d ≡ get_or l i e
get_or-within [] i d e h = absurd (omega arith)
get_or-within (x ∷ l) zero d e h = refl
get_or-within (x ∷ l) (suc i) d e h = get_or-within l i d e (omega arith)

module _ (ws : List ℕ) where
  pub session-facts : is_session ws ≡ true → Words ws
  unfolding is_session
  session-facts h =
      let a = both (leb 73 (length ws)) _ h in
      let m = both (leb (length ws) 74) _ a.1 in
      let b = both (leb (get_or ws 6 0) 1) _ m.1 in
      let c = both (leb (get_or ws 8 0) 1) (leb (get_or ws 9 0) 1) b.1 in
      record {
        whole = leb-true _ _ a.0;
        no_more = leb-true _ _ m.0;
        opened-most = leb-true _ _ b.0;
        flag-most = leb-true _ _ c.0;
        placed-most = leb-true _ _ c.1;
      }

  pub session-yes : Words ws → is_session ws ≡ true
  unfolding is_session
  session-yes h =
      simp (
        le-leb _ _ h.whole,
        le-leb _ _ h.no_more,
        le-leb _ _ h.opened-most,
        le-leb _ _ h.flag-most,
        le-leb _ _ h.placed-most,
      )

  -- what the code's test t tells
  pub asked-whole : (t : Bool) → t ≡ is_session ws → t ≡ true → 73 ≤ length ws
  asked-whole t e h = (session-facts (sym e ∙ h)).whole

  -- the form as the code reads it: without a place for it the first, else word 73
  pub form-none : length ws ≤ 73 → 1 ≡ get_or ws 73 1
  form-none h = sym (get_or-eq_default ws 1 {n = 73} h)

  pub form-read : (x : ℕ) → x ≡ get_or ws 73 0 → 73 < length ws → x ≡ get_or ws 73 1
  form-read x e h = e ∙ get_or-within ws 73 0 1 h

  -- the first ten words one by one
  spelled : 73 ≤ length ws
      → ws
      ≡ get_or ws 0 0 ∷ get_or ws 1 0 ∷ get_or ws 2 0 ∷ get_or ws 3 0 ∷ get_or ws 4 0 ∷ get_or ws 5 0
      ∷ get_or ws 6 0 ∷ get_or ws 7 0 ∷ get_or ws 8 0 ∷ get_or ws 9 0 ∷ drop 10 ws
  spelled h =
      drop-cons ws 0 0 (omega arith)
      ∙ ap (λ (z : List ℕ). get_or ws 0 0 ∷ z) (drop-cons ws 1 0 (omega arith)
      ∙ ap (λ (z : List ℕ). get_or ws 1 0 ∷ z) (drop-cons ws 2 0 (omega arith)
      ∙ ap (λ (z : List ℕ). get_or ws 2 0 ∷ z) (drop-cons ws 3 0 (omega arith)
      ∙ ap (λ (z : List ℕ). get_or ws 3 0 ∷ z) (drop-cons ws 4 0 (omega arith)
      ∙ ap (λ (z : List ℕ). get_or ws 4 0 ∷ z) (drop-cons ws 5 0 (omega arith)
      ∙ ap (λ (z : List ℕ). get_or ws 5 0 ∷ z) (drop-cons ws 6 0 (omega arith)
      ∙ ap (λ (z : List ℕ). get_or ws 6 0 ∷ z) (drop-cons ws 7 0 (omega arith)
      ∙ ap (λ (z : List ℕ). get_or ws 7 0 ∷ z) (drop-cons ws 8 0 (omega arith)
      ∙ ap (λ (z : List ℕ). get_or ws 8 0 ∷ z) (drop-cons ws 9 0 (omega arith))))))))))

  -- the rest is the position, and the form where there is a word for it
  gone : (n : ℕ) → length ws ≡ n → drop n ws ≡ []
  gone n e = ap (λ (k : ℕ). drop k ws) (sym e) ∙ drop-length ws

  form-kept : 73 ≤ length ws → length ws ≤ 74 → form_word ws (get_or ws 73 1) ≡ drop 73 ws
  form-kept h k = go (dec_lt (length ws) 74)
    where
      go : Dec (length ws < 74) → form_word ws (get_or ws 73 1) ≡ drop 73 ws
      go (yes q) =
          ap (λ (t : Bool). cond t (get_or ws 73 1 ∷ []) []) (ne_eqb (length ws) 74 (λ e. omega arith)) ∙ sym (gone 73 (omega arith))
      go (no q) =
          let n : length ws ≡ 74 = omega arith in
          let e : drop 73 ws ≡ get_or ws 73 1 ∷ [] = drop-cons ws 73 1 (omega arith) ∙ ap (λ (z : List ℕ). get_or ws 73 1 ∷ z) (gone 74 n) in
          ap (λ (t : Bool). cond t (get_or ws 73 1 ∷ []) []) (eq-eqb (length ws) 74 n) ∙ sym e

  rest-kept : 73 ≤ length ws → length ws ≤ 74 → part 10 63 ws ++ form_word ws (get_or ws 73 1) ≡ drop 10 ws
  unfolding part
  rest-kept h k =
      ap (λ (z : List ℕ). part 10 63 ws ++ z) (form-kept h k ∙ sym (drop-drop 63 10 ws)) ∙ take-append-drop 63 (drop 10 ws)

  -- the parameters read one by one, each step handing the description on
  pub parameters-by : (p : Description) (a b c d e f g : ℕ) → p ≡ record { wpb = a; wpr = b; k = c; space = d; control = e; n = f; form = g }
      → g ≡ get_or ws 73 1 → a ≡ get_or ws 0 0 → b ≡ get_or ws 1 0 → c ≡ get_or ws 2 0 → d ≡ get_or ws 3 0 → e ≡ get_or ws 4 0 → f ≡ get_or ws 5 0 → p ≡ parameters_in ws
  unfolding parameters_in
  parameters-by p a b c d e f g h i u v w x y z = h ∙ (λ j. record { wpb = u j; wpr = v j; k = w j; space = x j; control = y j; n = z j; form = i j })

  -- the session read so, its position copied over the words l
  pub session-by : (d : Description) (x : ℕ) (l ps : List ℕ) → ps ≡ put l 0 (part 10 63 ws) → d ≡ parameters_in ws → x ≡ get_or ws 7 0
      → 73 ≤ length ws → length l ≡ 63
      → ◌≡◌ {A = Session}
      (record { desc = d; opened = eqb (get_or ws 6 0) 1; current = x; flag = eqb (get_or ws 8 0) 1; placed = eqb (get_or ws 9 0) 1; position = ps })
      (session_of ws)
  unfolding session_of
  session-by d x l ps e p c h k =
      let q = e ∙ put_all l (part 10 63 ws) (length_part 10 63 ws (omega arith) ∙ sym k) in
      λ j. record {
        desc = p j;
        opened = eqb (get_or ws 6 0) 1;
        current = c j;
        flag = eqb (get_or ws 8 0) 1;
        placed = eqb (get_or ws 9 0) 1;
        position = q j;
      }

-- a word that is 0 or 1
bit_is : (x : ℕ) → x ≤ 1 → bit (eqb x 1) ≡ x
bit_is zero h = refl
bit_is (suc zero) h = refl
bit_is (suc (suc x)) h = absurd (omega arith)

bit-back : (x : Bool) → eqb (bit x) 1 ≡ x
bit-back true = refl
bit-back false = refl

-- a session's words are the words of the session that they are
pub words-kept : (ws : List ℕ) → is_session ws ≡ true → words_of ws (session_of ws) ≡ ws
unfolding words_of session_of parameters_in
words-kept ws h =
    let f = session-facts ws h in
    let a = bit_is (get_or ws 6 0) f.opened-most in
    let b = bit_is (get_or ws 8 0) f.flag-most in
    let c = bit_is (get_or ws 9 0) f.placed-most in
    let d = rest-kept ws f.whole f.no_more in
    (λ j. get_or ws 0 0 ∷ get_or ws 1 0 ∷ get_or ws 2 0 ∷ get_or ws 3 0 ∷ get_or ws 4 0 ∷ get_or ws 5 0 ∷ a j ∷ get_or ws 7 0 ∷ b j ∷ c j ∷ d j)
    ∙ sym (spelled ws f.whole)

-- the form written is read back; without a place for it, it was the first
form-back : (ws pos : List ℕ) (x : ℕ) → length pos ≡ 63 → (eqb (length ws) 74 ≡ false → x ≡ 1) → get_or (pos ++ form_word ws x) 63 1 ≡ x
form-back ws pos x l h = go (eqb (length ws) 74) refl
  where
    go : (t : Bool) → eqb (length ws) 74 ≡ t → get_or (pos ++ cond t (x ∷ []) []) 63 1 ≡ x
    go true e = get_or_at pos x [] 1 63 l
    go false e =
        ap (λ (z : List ℕ). get_or z 63 1) (append-nil pos) ∙ get_or-eq_default pos 1 {n = 63} (omega arith) ∙ sym (h e)

-- a session is the one that its words are
pub session-kept : (ws : List ℕ) (s : Session) → length s.position ≡ 63 → (eqb (length ws) 74 ≡ false → s.desc.form ≡ 1)
    → session_of (words_of ws s) ≡ s
unfolding words_of session_of parameters_in part
session-kept ws s h first =
    let a = bit-back s.opened in
    let b = bit-back s.flag in
    let c = bit-back s.placed in
    let d = take_at s.position (form_word ws s.desc.form) 63 h in
    let e = form-back ws s.position s.desc.form h first in
    λ j. record {
      desc = record {
        wpb = s.desc.wpb;
        wpr = s.desc.wpr;
        k = s.desc.k;
        space = s.desc.space;
        control = s.desc.control;
        n = s.desc.n;
        form = e j;
      };
      opened = a j;
      current = s.current;
      flag = b j;
      placed = c j;
      position = d j;
    }

bit-most : (x : Bool) → bit x ≤ 1
bit-most true = omega arith
bit-most false = omega arith

one_more_lem : (t : Bool) (pos : List ℕ) (x : ℕ) → length pos ≡ 63
    → (63 ≤ length (pos ++ cond t (x ∷ []) [])) × (length (pos ++ cond t (x ∷ []) []) ≤ 64)
one_more_lem true pos x h = let e = length-append pos (x ∷ []) in (omega arith, omega arith)
one_more_lem false pos x h = let e = length-append {A = ℕ} pos [] in (omega arith, omega arith)

-- and its words are a session's
pub words_are : (ws : List ℕ) (s : Session) → length s.position ≡ 63 → is_session (words_of ws s) ≡ true
unfolding words_of
words_are ws s h =
    let l = one_more_lem (eqb (length ws) 74) s.position s.desc.form h in
    session-yes (words_of ws s)
    (record {
      whole = omega (arith, l.0);
      no_more = omega (arith, l.1);
      opened-most = bit-most s.opened;
      flag-most = bit-most s.flag;
      placed-most = bit-most s.placed;
    })

-- the position written over words 10 to 72
module _ (a b c d e f g h i j : ℕ) (rest pos : List ℕ) where
  over : length pos ≡ 63
      → put (a ∷ b ∷ c ∷ d ∷ e ∷ f ∷ g ∷ h ∷ i ∷ j ∷ rest) 10 pos ≡ a ∷ b ∷ c ∷ d ∷ e ∷ f ∷ g ∷ h ∷ i ∷ j ∷ (pos ++ drop 63 rest)
  unfolding put
  over y =
      let n : 10 + length pos ≡ 73 = omega arith in
      ap (λ (k : ℕ). a ∷ b ∷ c ∷ d ∷ e ∷ f ∷ g ∷ h ∷ i ∷ j ∷ (pos ++ drop k (a ∷ b ∷ c ∷ d ∷ e ∷ f ∷ g ∷ h ∷ i ∷ j ∷ rest))) n

-- words 6 to 72 written over
pub overwritten : (ws : List ℕ) (s : code.Session) (ts : List ℕ) (o l m : ℕ)
    → ts ≡ put ws 10 (part 0 63 s.position) → o ≡ bit s.opened → l ≡ bit s.flag → m ≡ bit s.placed
    → Writable ws s → length s.position ≡ 63
    → set (set (set (set ts 6 o) 7 s.current) 8 l) 9 m ≡ words_of ws (held s)
unfolding words_of parameters_in
overwritten ws s ts o l m e u v w pre k =
    let p = pre.same-parameters in
    let x =
    over
    (get_or ws 0 0) (get_or ws 1 0) (get_or ws 2 0) (get_or ws 3 0) (get_or ws 4 0) (get_or ws 5 0) (get_or ws 6 0) (get_or ws 7 0) (get_or ws 8 0) (get_or ws 9 0)
    (drop 10 ws) s.position k in
    let y = drop-drop 63 10 ws ∙ sym (form-kept ws pre.whole pre.no_more) in
    let z = e ∙ ap (put ws 10) (part-all 63 s.position k) ∙ ap (λ (t : List ℕ). put t 10 s.position) (spelled ws pre.whole) ∙ x in
    (λ j. set (set (set (set (z j) 6 (u j)) 7 s.current) 8 (v j)) 9 (w j))
    ∙ (λ j. get_or ws 0 0 ∷ get_or ws 1 0 ∷ get_or ws 2 0 ∷ get_or ws 3 0 ∷ get_or ws 4 0 ∷ get_or ws 5 0
    ∷ bit s.opened ∷ s.current ∷ bit s.flag ∷ bit s.placed ∷ (s.position ++ y j))
    ∙ (λ j. (p j).wpb ∷ (p j).wpr ∷ (p j).k ∷ (p j).space ∷ (p j).control ∷ (p j).n
    ∷ bit s.opened ∷ s.current ∷ bit s.flag ∷ bit s.placed ∷ (s.position ++ form_word ws (p j).form))
