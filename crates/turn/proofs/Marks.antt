-- The marks while the file is turned: the block that an entry of the master names, the loop that marks it, and the loop that gives OPEN's marks again.
use Prim.Native.Nat.{ℕ, suc, ◌+◌, ◌*◌, ◌-◌, ◌≤◌, ◌<◌}
use mathlib.Core.Path.{◌≡◌, refl, sym, ap, ◌∙◌}
use mathlib.Core.List.{List, [], ◌∷◌, ◌++◌, append_assoc, append-nil}
use native.Mathlib.Nat.{mul-le-mul_right}
use native.Mathlib.Omega.{arith}
use mir.Syntax.{w64}
use mir.Val.{Fits}
use lib.ListN.{length, get_or, set, take, drop}
use lib.Seq.{take_all, take-suc-set, drop-set-lt, drop-cons, drop-length}
use borrow.Author.Tests.{eq-eqb, ne_eqb}
use Rattle.table.specs.Tables.{block_in}
use Rattle.drum.specs.declared.Description.{Description}
use Rattle.drum.specs.Params.{master_shape}
use Rattle.drum.specs.Blocks.{sections}
use Rattle.drum.proofs.Good.{caps}
use Rattle.layout.specs.Inspected.{Fit}
use Rattle.layout.specs.Turned.{index_marked, index_unmarked}
use Rattle.layout.proofs.Good.{row_more}
use Rattle.turn.specs.Fits.{TurnFits, open_mark}

-- entry i of the master lies in the file
module _ (p : Description) (f : List ℕ) where
  pub key-few : Fit p f → p.k ≤ 63
  key-few w = (caps p w.good).facts.k-most

  module _ (i : ℕ) (w : Fit p f) (few : sections f ≤ p.control) (l : i < sections f) where
    entry-within : i * (p.k + 1) + (p.k + 1) ≤ p.control * (p.k + 1)
    entry-within =
        let s = row_more i (p.k + 1) in
        let h : suc i ≤ p.control = omega arith in
        let m = mul-le-mul_right (p.k + 1) h in
        omega arith

    entry-most : i * (p.k + 1) + (p.k + 1) ≤ 1048512
    entry-most = omega (arith, entry-within, (caps p w.good).sections-most)

    pub entry-product : Fits w64 (i * (p.k + 1))
    entry-product = omega (arith, entry-most)

    pub entry-start : Fits w64 (3 + i * (p.k + 1))
    entry-start = omega (arith, entry-most)

    pub entry_place : Fits w64 (3 + i * (p.k + 1) + p.k)
    entry_place = omega (arith, entry-most)

    pub entry-lies : 3 + i * (p.k + 1) + p.k < length f
    entry-lies =
        let c = caps p w.good in
        omega (arith, entry-within, w.size, c.sections-fit, c.file-is)

pub entry-names : (p : Description) (f : List ℕ) (i r : ℕ) → r ≡ get_or f (3 + i * (p.k + 1) + p.k) 0 → r ≡ block_in (master_shape p) f i
unfolding block_in master_shape
entry-names p f i r e = e

-- the loop over the entries
module _ (p : Description) (f marks : List ℕ) where
  pub some_words : TurnFits p f marks → 0 < length f
  some_words w =
      let c = caps p w.good in
      omega (arith, w.file-is, c.sections-fit, c.file-is)

  pub turn-fit : TurnFits p f marks → Fit p f
  turn-fit w = record { good = w.good; size = w.file-is }

  pub turn-few : TurnFits p f marks → sections f ≤ p.control
  turn-few w = w.few

  pub mark-none : marks ≡ index_marked p f 0 marks
  unfolding index_marked
  mark-none = refl

  module _ (i n b : ℕ) (eb : b ≡ block_in (master_shape p) f i) (w : TurnFits p f marks) (en : n ≡ sections f) (l : i < n) where
    pub names-some : 1 ≤ b
    names-some = omega (arith, w.named i (omega arith))

    pub names-within : (m : List ℕ) → length m ≡ length marks → b - 1 < length m
    names-within m k = omega (arith, w.named i (omega arith), w.marks-are, names-some)

  pub mark-next : (m : List ℕ) (i b : ℕ) → m ≡ index_marked p f i marks → b ≡ block_in (master_shape p) f i
      → set m (b - 1) 3 ≡ index_marked p f (i + 1) marks
  unfolding index_marked
  mark-next m i b em eb =
      let s : i + 1 ≡ suc i = omega arith in
      (λ j. set (em j) (eb j - 1) 3) ∙ ap (λ (x : ℕ). index_marked p f x marks) (sym s)

  pub mark-all : (m : List ℕ) (i n : ℕ) → m ≡ index_marked p f i marks → n ≡ sections f → i ≤ n → n ≤ i → m ≡ index_marked p f (sections f) marks
  mark-all m i n em en h k =
      let s : i ≡ sections f = omega arith in
      em ∙ ap (λ (x : ℕ). index_marked p f x marks) s

pub unmark-next : (m₀ m : List ℕ) (i x : ℕ) → index_unmarked m₀ ≡ take i m ++ index_unmarked (drop i m) → x ≡ open_mark (get_or m i 0) → i < length m
    → index_unmarked m₀ ≡ take (i + 1) (set m i x) ++ index_unmarked (drop (i + 1) (set m i x))
unfolding index_unmarked
unmark-next m₀ m i x e ex l =
    let s : i + 1 ≡ suc i = omega arith in
    let a : take (i + 1) (set m i x) ≡ take i m ++ (x ∷ []) = ap (λ (n : ℕ). take n (set m i x)) s ∙ take-suc-set m i x l in
    let b : drop (i + 1) (set m i x) ≡ drop (suc i) m = ap (λ (n : ℕ). drop n (set m i x)) s ∙ drop-set-lt (suc i) m i x (omega arith) in
    let c : index_unmarked (drop i m) ≡ x ∷ index_unmarked (drop (suc i) m) =
    ap index_unmarked (drop-cons m i 0 l) ∙ ap (λ (y : ℕ). y ∷ index_unmarked (drop (suc i) m)) (sym ex) in
    e
    ∙ ap (λ (r : List ℕ). take i m ++ r) c
    ∙ sym (append_assoc (take i m) (x ∷ []) (index_unmarked (drop (suc i) m)))
    ∙ sym (λ j. a j ++ index_unmarked (b j))

pub unmark-all : (m₀ m : List ℕ) (i : ℕ) → index_unmarked m₀ ≡ take i m ++ index_unmarked (drop i m) → length m ≤ i → i ≤ length m₀ → length m ≡ length m₀
    → m ≡ index_unmarked m₀
unfolding index_unmarked
unmark-all m₀ m i e h k l =
    let s : i ≡ length m = omega arith in
    sym (e ∙ ap (λ (n : ℕ). take n m ++ index_unmarked (drop n m)) s ∙ rw (drop-length m, take_all (length m) m (omega arith)) (append-nil m))
