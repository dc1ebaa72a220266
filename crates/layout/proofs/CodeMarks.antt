-- What a block that was marked is, and the marks that are all 0.
use mathlib.Core.Path.{◌≡◌, refl, ap, ◌∙◌}
use mathlib.Core.Bool.{Bool, true, false, not, ◌&&◌}
use mathlib.Core.List.{List, [], ◌∷◌}
use Prim.Native.Nat.{ℕ, ◌≤◌}
use lib.Dec.{leb, eqb}
use lib.ListN.{length, replicate, length-replicate}
use borrow.Author.Tests.{leb-true}
use Rattle.numbers.specs.Numbers.{bad_file}
use Rattle.numbers.specs.Checked.{passed}
use Rattle.std.specs.List.{list_all}
use Rattle.words.specs.Words.{zeros, all_are, none_is}
use Rattle.layout.specs.Inspect.{marked}
use Rattle.numbers.proofs.Passed.{clash}

-- a block that was marked is one of the file's
pub marked-in : (m b : ℕ) (ms ms' : List ℕ) (n : ℕ) → marked m b ms ≡ passed ms' → length ms ≡ n → (1 ≤ b) × (b ≤ n)
unfolding marked
marked-in m b ms ms' n e l = go (leb 1 b) (leb b (length ms)) refl refl
  where
    go : (x y : Bool) → leb 1 b ≡ x → leb b (length ms) ≡ y → (1 ≤ b) × (b ≤ n)
    go true true h k = (leb-true _ _ h, rw (← l) (leb-true _ _ k))
    go true false h k = clash bad_file ms' (simp (h, k) at e)
    go false y h k = clash bad_file ms' (simp h at e)

pub length-zeros : (n : ℕ) (l : List ℕ) → l ≡ zeros n → length l ≡ n
length-zeros n l e = rw e (length-replicate n 0)

pub emptied : (n m : ℕ) (l : List ℕ) → l ≡ zeros m → m ≡ n → l ≡ zeros n
emptied n m l e q = e ∙ ap (λ (x : ℕ). replicate {A = ℕ} x 0) q

-- the library's test of each element, and the definitions'
pub none-listed : (l : List ℕ) → list_all (λ y. not (eqb y 0)) l ≡ none_is 0 l
unfolding none_is
none-listed [] = refl
none-listed (y ∷ l) = ap (λ (b : Bool). not (eqb y 0) && b) (none-listed l)

pub all-listed : (l : List ℕ) → list_all (λ y. eqb y 0) l ≡ all_are 0 l
unfolding all_are
all-listed [] = refl
all-listed (y ∷ l) = ap (λ (b : Bool). eqb y 0 && b) (all-listed l)
