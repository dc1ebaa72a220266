-- The turning call's promise, told in words: of a session's words the form alone is written; and two results allowed by it are equal.
use Prim.Native.Nat.{ℕ, ◌≤◌}
use mathlib.Core.Path.{◌≡◌, refl, sym, ap, ◌∙◌}
use mathlib.Core.Bool.{Bool, true, false, cond, ◌&&◌}
use mathlib.Core.List.{List, [], ◌∷◌, ◌++◌}
use native.Mathlib.Omega.{arith}
use borrow.Author.Tests.{eq-eqb, ne_eqb, eqb-true}
use mir.Syntax.{w32}
use mir.Val.{Fits}
use lib.Dec.{eqb}
use lib.ListN.{length, get_or, set}
use lib.Seq.{set_at, get_or-set_other}
use Rattle.numbers.specs.Numbers.{wrong_size}
use Rattle.numbers.specs.Checked.{Checked, passed, refused}
use Rattle.numbers.proofs.Passed.{both}
use Rattle.words.specs.Words.{part}
use Rattle.words.proofs.Parts.{length_part}
use Rattle.drum.specs.declared.Description.{Description}
use Rattle.layout.specs.Inspect.{layout_marks}
use Rattle.layout.specs.Turned.{other_form}
use Rattle.rules.specs.State.{Session, lent}
use Rattle.rules.specs.Turning.{turn_checks, turn_layout, turn_done, turning, describing, turn_file}
use Rattle.searchfile.specs.declared.Session as code
use Rattle.searchfile.specs.Answers.{Answer}
use Rattle.searchfile.specs.Promise.{held, given}
use Rattle.searchfile.specs.Turning.{CountedTurn, counted_turn, answered_turn}
use Rattle.capi.specs.Words.{is_session, parameters_in, session_of, words_of, most_word, bit, packed}
use Rattle.capi.specs.Turning.{ReturnedTurn, returned_turn, told_turn, called_turn, OnlyForm, OneReturnedTurn}
use Rattle.capi.proofs.Words.{form-read, words-kept}

-- ---- the call hands back the session with another form at most

-- a description with another form
abbrev formed : ℕ → Description → Description
formed x p = record { wpb = p.wpb; wpr = p.wpr; k = p.k; space = p.space; control = p.control; n = p.n; form = x }

-- a description that differs from p in the form at most, which fits a word where that of p does
record Turns (p d : Description) : Type 0 where
  same-else : formed d.form p ≡ d
  form-most : p.form ≤ most_word → d.form ≤ most_word

module _ (p : Description) (f : List ℕ) where
  layout-turns : (c : Checked (List ℕ)) → Turns p (turn_layout p f c).desc
  unfolding turn_layout other_form
  layout-turns (refused n) = record { same-else = refl; form-most = λ h. h }
  layout-turns (passed m) = record { same-else = refl; form-most = λ h. omega arith }

  done-turns : (marks : List ℕ) (c : Checked Bool) → Turns p (turn_done p f marks c).desc
  unfolding turn_done
  done-turns marks (refused n) = record { same-else = refl; form-most = λ h. h }
  done-turns marks (passed x) = layout-turns (layout_marks p f)

  turning-turns : (opened : Bool) (marks : List ℕ) → Turns p (turning p opened f marks).desc
  unfolding turning
  turning-turns opened marks = done-turns marks (turn_checks p opened (length f) (length marks))

-- ---- word 73 written over

-- the words of a session before its position, and behind them t
abbrev front : Session → List ℕ → List ℕ
front s t =
    s.desc.wpb ∷ s.desc.wpr ∷ s.desc.k ∷ s.desc.space ∷ s.desc.control ∷ s.desc.n
    ∷ bit s.opened ∷ s.current ∷ bit s.flag ∷ bit s.placed ∷ t

form-written : (ws : List ℕ) (s : Session) (x : ℕ) → length ws ≡ 74 → length s.position ≡ 63
    → set (words_of ws s) 73 x ≡ words_of ws (describing (formed x s.desc) s)
unfolding words_of describing
form-written ws s x n l =
    let q = eq-eqb (length ws) 74 n in
    (λ j. front s (set (s.position ++ cond (q j) (s.desc.form ∷ []) []) 63 x))
    ∙ ap (front s) (set_at s.position s.desc.form [] x 63 l)
    ∙ (λ j. front s (s.position ++ cond (sym q j) (x ∷ []) []))

module _ (ws f m : List ℕ) (is : is_session ws ≡ true) (n : length ws ≡ 74) where
  abbrev after : Session
  after = (turn_file (lent (session_of ws) f [] []) m).outcome.after.session

  turned-words : set ws 73 after.desc.form ≡ words_of ws after
  unfolding turn_file describing session_of
  turned-words =
      let l : length (part 10 63 ws) ≡ 63 = length_part 10 63 ws (omega arith) in
      let t = (turning-turns (parameters_in ws) f (session_of ws).opened m).same-else in
      ap (λ (z : List ℕ). set z 73 after.desc.form) (sym (words-kept ws is))
      ∙ form-written ws (session_of ws) after.desc.form n l
      ∙ ap (λ (d : Description). words_of ws (describing d (session_of ws))) t

  turned-most : ((i : ℕ) → Fits w32 (get_or ws i 0)) → after.desc.form ≤ most_word
  unfolding turn_file describing session_of parameters_in
  turned-most word =
      let k = word 73 in
      let e = form-read ws (get_or ws 73 0) refl (omega arith) in
      (turning-turns (parameters_in ws) f (session_of ws).opened m).form-most (omega arith)

-- ---- the returns of the code

-- what is told with these words for the session
abbrev form_told : CountedTurn → List ℕ → ReturnedTurn
form_told o us = returned_turn (packed o.outcome.transfers o.outcome.number) us o.outcome.after.file o.marks

module _ (ws f m : List ℕ) where
  turn_by : (c : Bool) → is_session ws && eqb (length ws) 74 ≡ c
      → cond c (told_turn ws (counted_turn (turn_file (lent (session_of ws) f [] []) m))) (returned_turn (packed 0 wrong_size) ws f m) ≡ called_turn ws f m
  unfolding called_turn
  turn_by c e = rw e

  pub turn-none : is_session ws ≡ false → returned_turn wrong_size ws f m ≡ called_turn ws f m
  unfolding packed
  turn-none not_one = turn_by false (ap (λ (c : Bool). c && eqb (length ws) 74) not_one)

  module _ (is : is_session ws ≡ true) where
    pub turn-formless : (length ws ≡ 74 → ⊥) → returned_turn wrong_size ws f m ≡ called_turn ws f m
    unfolding packed
    turn-formless l = let z = ne_eqb (length ws) 74 l in turn_by false (λ j. is j && z j)

    module _ (s : code.Session) (a : Answer) (g n : List ℕ) (e : answered_turn a g n ≡ counted_turn (turn_file (given s f [] []) m)) where
      pub turn-called : (us : List ℕ) (r : ℕ) → held s ≡ session_of ws → us ≡ set ws 73 a.session.desc.form
          → r ≡ packed a.transfers a.number → length ws ≡ 74 → returned_turn r us g n ≡ called_turn ws f m
      turn-called us r same u p l =
          let z = eq-eqb (length ws) 74 l in
          let c = e ∙ ap (λ (o : Session). counted_turn (turn_file (lent o f [] []) m)) same in
          (λ j. returned_turn (p j) (u j) g n)
          ∙ ap (λ (b : CountedTurn). form_told b (set ws 73 b.outcome.after.session.desc.form)) c
          ∙ ap (form_told (counted_turn (turn_file (lent (session_of ws) f [] []) m))) (turned-words ws f m is l)
          ∙ turn_by true (λ j. is j && z j)

      pub turn-most : held s ≡ session_of ws → length ws ≡ 74 → ((i : ℕ) → Fits w32 (get_or ws i 0))
          → a.session.desc.form ≤ most_word
      turn-most same l word =
          let c = e ∙ ap (λ (o : Session). counted_turn (turn_file (lent o f [] []) m)) same in
          let k : a.session.desc.form ≡ (after ws f m is l).desc.form = ap (λ (b : CountedTurn). b.outcome.after.session.desc.form) c in
          rw k (turned-most ws f m is l word)

-- no transfers
pub turn-free : (s : code.Session) (a : Answer) (f m g n : List ℕ) → answered_turn a g n ≡ counted_turn (turn_file (given s f [] []) m) → a.transfers ≤ 16
unfolding turn_file
turn-free s a f m g n e =
    let z : a.transfers ≡ 0 = ap (λ (o : CountedTurn). o.outcome.transfers) e in
    omega arith

pub only-form : OnlyForm
only-form ws f m i h = go (is_session ws && eqb (length ws) 74) refl
  where
    go : (t : Bool) → is_session ws && eqb (length ws) 74 ≡ t → get_or (called_turn ws f m).session i 0 ≡ get_or ws i 0
    go false e = ap (λ (r : ReturnedTurn). get_or r.session i 0) (sym (turn_by ws f m false e))
    go true e =
        let b = both (is_session ws) (eqb (length ws) 74) e in
        let n = eqb-true (length ws) 74 b.1 in
        ap (λ (r : ReturnedTurn). get_or r.session i 0) (sym (turn_by ws f m true e))
        ∙ ap (λ (z : List ℕ). get_or z i 0) (sym (turned-words ws f m b.0 n))
        ∙ get_or-set_other ws 73 i _ 0 h

pub one-returned-turn : OneReturnedTurn
one-returned-turn ws file marks r s us vs f g m n a b =
    let e : returned_turn r us f m ≡ returned_turn s vs g n = a ∙ sym b in
    (λ i. (e i).answer, λ i. (e i).session, λ i. (e i).file, λ i. (e i).marks)
