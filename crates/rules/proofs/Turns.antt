-- The ways through the turning call, one law for each; when it answers which number; that what it left opens, and is turned back.
use Prim.Native.Nat.{ℕ}
use mathlib.Core.Path.{◌≡◌, refl, sym, ap, ◌∙◌}
use mathlib.Core.Bool.{Bool, true, false}
use mathlib.Core.List.{List}
use native.Mathlib.Omega.{arith}
use lib.ListN.{length}
use borrow.Author.Tests.{eqb-true, eq-eqb}
use Rattle.numbers.specs.Numbers.{done, wrong_size, already_open, bad_file}
use Rattle.numbers.specs.Checked.{Checked, passed, refused}
use Rattle.words.specs.Words.{zeros}
use Rattle.drum.specs.declared.Description.{Description}
use Rattle.drum.specs.Params.{every, good_params, file_size}
use Rattle.drum.proofs.Good.{every-hold}
use Rattle.layout.specs.Tree.{Tree, marks_of}
use Rattle.layout.specs.Holds.{Holds, WellFormed}
use Rattle.layout.specs.Inspect.{layout_marks}
use Rattle.layout.specs.Turned.{other_form, turned}
use Rattle.layout.proofs.Exact.{open-exact, refused_none}
use Rattle.layout.proofs.TurnedForm.{good-other, form-back}
use Rattle.layout.proofs.Turned.{turn_holds, turn-back}
use Rattle.rules.specs.Turning.{Turning, turn_left, turn_sizes, turn_checks, turn_layout, turn_done, turning}
use Rattle.rules.specs.Turns.{TurnExact, TurnedOpens, TurnedBack}
use Rattle.rules.proofs.Copies.{opens-for}

-- right sizes, as facts
pub record TurnSized (p : Description) (file marks : ℕ) : Type 0 where
  pub good : good_params p ≡ true
  pub file-is : file ≡ file_size p
  pub marks-are : marks ≡ p.n

module _ (p : Description) (file marks : ℕ) where
  pub turn_facts : turn_sizes p file marks ≡ true → TurnSized p file marks
  unfolding turn_sizes
  turn_facts h = let (g, (l, (m, u))) = every-hold _ h in record { good = g; file-is = eqb-true _ _ l; marks-are = eqb-true _ _ m }

  pub turn-yes : TurnSized p file marks → turn_sizes p file marks ≡ true
  unfolding turn_sizes every
  turn-yes z = simp (z.good, eq-eqb _ _ z.file-is, eq-eqb _ _ z.marks-are)

  pub turn-no : (TurnSized p file marks → ⊥) → turn_sizes p file marks ≡ false
  turn-no n = go (turn_sizes p file marks) refl
    where
      go : (t : Bool) → turn_sizes p file marks ≡ t → turn_sizes p file marks ≡ false
      go true e = absurd (n (turn_facts e))
      go false e = e

module _ (p : Description) (f marks : List ℕ) (opened : Bool) where
  pub turn-wrong : turn_sizes p (length f) (length marks) ≡ false → turning p opened f marks ≡ turn_left wrong_size p f marks
  unfolding turning turn_done turn_checks
  turn-wrong e = simp e

  module _ (sizes : turn_sizes p (length f) (length marks) ≡ true) where
    pub turn-already : opened ≡ true → turning p opened f marks ≡ turn_left already_open p f marks
    unfolding turning turn_done turn_checks
    turn-already e = simp (sizes, e)

    -- the sizes are right and the session is closed: the inspection decides
    pub turn-inspected : opened ≡ false → turning p opened f marks ≡ turn_layout p f (layout_marks p f)
    unfolding turning turn_done turn_checks
    turn-inspected e = simp (sizes, e)

    pub turn-bad : opened ≡ false → layout_marks p f ≡ refused bad_file → turning p opened f marks ≡ turn_left bad_file p f (zeros p.n)
    unfolding turn_layout
    turn-bad o e = turn-inspected o ∙ ap (turn_layout p f) e

    pub turn-made : (ms : List ℕ) → opened ≡ false → layout_marks p f ≡ passed ms → turning p opened f marks ≡ turn_left done (other_form p) (turned p ms f) ms
    unfolding turn_layout
    turn-made ms o e = turn-inspected o ∙ ap (turn_layout p f) e

-- the number of each way, told apart
not_done : (n : ℕ) (x : Turning) (q : Description) (g m : List ℕ) → x ≡ turn_left n q g m → x.number ≡ done → n ≡ done
not_done n x q g m e d = sym (ap (λ (y : Turning). y.number) e) ∙ d

-- the inspection refuses with 070003 alone
refused-bad : (p : Description) (f : List ℕ) (n : ℕ) → good_params p ≡ true → length f ≡ file_size p → layout_marks p f ≡ refused n → n ≡ bad_file
refused-bad p f n g s e = same n bad_file (sym e ∙ (open-exact p f g s).2 (refused_none p f n g s e))
  where
    same : (x y : ℕ) → ◌≡◌ {A = Checked (List ℕ)} (refused x) (refused y) → x ≡ y
    same x y e = cc

module _ (p : Description) (opened : Bool) (f marks : List ℕ) where
  abbrev right : Bool
  right = turn_sizes p (length f) (length marks)

  bad-file : right ≡ true → opened ≡ false → (WellFormed p f → ⊥) → turning p opened f marks ≡ turn_left bad_file p f (zeros p.n)
  bad-file e o none =
      let z = turn_facts p _ _ e in
      turn-bad p f marks opened e o ((open-exact p f z.good z.file-is).2 none)

  well-formed : right ≡ true → opened ≡ false → (t : Tree) → Holds p f t
      → turning p opened f marks ≡ turn_left done (other_form p) (turned p (marks_of t p.n) f) (marks_of t p.n)
  well-formed e o t h =
      let z = turn_facts p _ _ e in
      turn-made p f marks opened e (marks_of t p.n) o ((open-exact p f z.good z.file-is).1 t h)

  all_right : (turning p opened f marks).number ≡ done → (right ≡ true) × (opened ≡ false) × WellFormed p f
  unfolding WellFormed turn_layout
  all_right d = go right opened refl refl
    where
      stands : (t : Checked (List ℕ)) → right ≡ true → opened ≡ false → layout_marks p f ≡ t → WellFormed p f
      stands (passed ms) e o q =
          let z = turn_facts p _ _ e in
          let (t, h, m) = (open-exact p f z.good z.file-is).0 ms q in (t, h)
      stands (refused n) e o q =
          let z = turn_facts p _ _ e in
          let y : n ≡ done = not_done n _ _ _ _ (turn-inspected p f marks opened e o ∙ ap (turn_layout p f) q) d in
          absurd (omega (arith, refused-bad p f n z.good z.file-is q))

      go : (r o : Bool) → right ≡ r → opened ≡ o → (right ≡ true) × (opened ≡ false) × WellFormed p f
      go false o e u = absurd (let y : ◌≡◌ {A = ℕ} wrong_size done = not_done _ _ _ _ _ (turn-wrong p f marks opened e) d in omega arith)
      go true true e u = absurd (let y : ◌≡◌ {A = ℕ} already_open done = not_done _ _ _ _ _ (turn-already p f marks opened e u) d in omega arith)
      go true false e u = (e, u, stands (layout_marks p f) e u refl)

pub turn-exact : (p : Description) (opened : Bool) (f marks : List ℕ) → TurnExact p opened f marks
turn-exact p opened f marks = record {
  sizes = turn-wrong p f marks opened;
  open-already = turn-already p f marks opened;
  not-layout = bad-file p opened f marks;
  made = well-formed p opened f marks;
  only = all_right p opened f marks;
}

pub turned-opens : TurnedOpens
unfolding other_form WellFormed
turned-opens p opened f marks d fresh buffer work others o lb lm =
    let (e, u, (t, h)) = all_right p opened f marks d in
    let good = (turn_facts p _ _ e).good in
    rw (well-formed p opened f marks e u t h) (
      opens-for p f t fresh buffer work others good h o lb lm,
      opens-for (other_form p) (turned p (marks_of t p.n) f) t fresh buffer work others (good-other p good) (turn_holds p f t good h) o lb lm,
    )

pub turned-back : TurnedBack
unfolding other_form WellFormed
turned-back p opened f marks others d lm =
    let (e, u, (t, h)) = all_right p opened f marks d in
    let good = (turn_facts p _ _ e).good in
    let g = turned p (marks_of t p.n) f in
    let k : Holds (other_form p) g t = turn_holds p f t good h in
    let z : turn_sizes (other_form p) (length g) (length others) ≡ true =
    turn-yes (other_form p) (length g) (length others) (record { good = good-other p good; file-is = k.size; marks-are = lm }) in
    rw (well-formed p opened f marks e u t h)
    (well-formed (other_form p) opened g others z u t k ∙ (λ j. turn_left done (form-back p good j) (turn-back p f t good h j) (marks_of t p.n)))
