-- The ways through CREATE, one law for each: n is the size that its method computes.
use mathlib.Core.Path.{◌≡◌, sym, ◌∙◌}
use mathlib.Core.Bool.{true, false}
use mathlib.Core.List.{List, []}
use Prim.Native.Nat.{ℕ}
use lib.ListN.{length}
use borrow.Author.Tests.{eq-eqb, ne_eqb}
use Rattle.numbers.specs.Numbers.{done, wrong_size}
use Rattle.drum.specs.declared.Description.{Description}
use Rattle.drum.specs.Params.{good_params, file_size, size_if}
use Rattle.drum.proofs.Good.{size-good}
use Rattle.layout.specs.Create.{created}
use Rattle.rules.specs.Open.{create}
use Rattle.rules.specs.Run.{created_outcome}
use Rattle.searchfile.specs.declared.Session as code
use Rattle.searchfile.specs.Answers.{Answer}
use Rattle.searchfile.specs.Promise.{given, counted, answered, creating}

-- the size, of good parameters
pub create-whole : (p : Description) (f : List ℕ) (n : ℕ) → n ≡ size_if p (file_size p) → good_params p ≡ true → length f ≡ n → length f ≡ file_size p
create-whole p f n i g l = l ∙ size-good p (file_size p) n i g

module _ (s : code.Session) (f : List ℕ) (r : Answer) (a : r ≡ record { number = wrong_size; transfers = 0; session = s }) where
  -- a refusal leaves all as it was
  pub create-params : good_params s.desc ≡ false → answered r f [] [] ≡ counted (creating (given s f [] []))
  unfolding creating created_outcome create
  create-params h = (λ j. answered (a j) f [] []) ∙ simp (h)

  pub create-size : (n : ℕ) → n ≡ size_if s.desc (file_size s.desc) → (length f ≡ n → ⊥) → good_params s.desc ≡ true
      → answered r f [] [] ≡ counted (creating (given s f [] []))
  unfolding creating created_outcome create
  create-size n i l g =
      (λ j. answered (a j) f [] []) ∙ simp (g, ne_eqb (length f) (file_size s.desc) (λ k. l (k ∙ sym (size-good s.desc _ n i g))))

-- a new file, and the session as it was
pub create-done : (s : code.Session) (f g : List ℕ) (n : ℕ) → g ≡ created s.desc → n ≡ size_if s.desc (file_size s.desc) → length f ≡ n
    → good_params s.desc ≡ true
    → answered (record { number = done; transfers = 0; session = s }) g [] [] ≡ counted (creating (given s f [] []))
unfolding creating created_outcome create
create-done s f g n k i l h =
    (λ j. answered (record { number = done; transfers = 0; session = s }) (k j) [] [])
    ∙ simp (h, eq-eqb (length f) (file_size s.desc) (create-whole s.desc f n i h l))
