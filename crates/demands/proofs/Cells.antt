-- A cell is a block's number with the text that it must have. A tree asks for a list of cells; `Agree` says that the blocks have those texts,
-- and `times` counts a number's cells. Two lists hold the same cells where every weight of a cell sums up to the same on both: `Same`.
-- A sum goes through `◌++◌`, so `Same` is proved by `simp` and `omega`, whatever order the cells stand in.
use Prim.Native.Nat.{ℕ, ◌+◌, ◌≤◌}
use mathlib.Core.Bool.{Bool, true, false, not, cond}
use mathlib.Core.Logic.{◌≢◌}
use mathlib.Core.Path.{◌≡◌, refl, sym, ap, ◌∙◌}
use mathlib.Core.List.{List, [], ◌∷◌, ◌++◌}
use native.Mathlib.Omega.{arith}
use native.Mathlib.Nat.{zero-add}
use lib.Dec.{eqb}
use borrow.Author.Tests.{eq-eqb, ne_eqb}
use Rattle.demands.proofs.Lists.{All, all_middle, all_right}
use Rattle.words.specs.Keys.{same_key}
use Rattle.words.proofs.Keys.{same_key-true, same_key-refl}

-- the blocks' texts as a function of the number: one text changed
unfoldable pub wrote : (ℕ → List ℕ) → ℕ → List ℕ → ℕ → List ℕ
wrote text b t c = cond (eqb c b) t (text c)

pub wrote-same : (text : ℕ → List ℕ) (b : ℕ) (t : List ℕ) → wrote text b t b ≡ t
unfolding wrote
wrote-same text b t = rw (eq-eqb b b refl)

pub wrote-other : (text : ℕ → List ℕ) (b : ℕ) (t : List ℕ) (c : ℕ) → c ≢ b → wrote text b t c ≡ text c
unfolding wrote
wrote-other text b t c h = rw (ne_eqb c b h)

abbrev pub Cell : Type 0
Cell = ℕ × List ℕ

abbrev pub bit : Bool → ℕ
bit true = 1
bit false = 0

-- 1 where the numbers are the same, else 0
unfoldable pub is : ℕ → ℕ → ℕ
is a b = bit (eqb a b)

pub is-self : (a : ℕ) → is a a ≡ 1
unfolding is
is-self a = rw (eq-eqb a a refl)

pub is_same : (a b : ℕ) → a ≡ b → is a b ≡ 1
unfolding is
is_same a b e = ap bit (eq-eqb a b e)

pub is_ne : (a b : ℕ) → is a b ≡ 0 → a ≢ b
unfolding is
is_ne a b h e = omega (arith, sym (ap bit (eq-eqb a b e)) ∙ h)

pub is-not : (a b : ℕ) → a ≢ b → is a b ≡ 0
unfolding is
is-not a b n = ap bit (ne_eqb a b n)

-- ---- sums over cells

unfoldable pub weigh : (Cell → ℕ) → List Cell → ℕ
weigh w [] = 0
weigh w (c ∷ cs) = w c + weigh w cs

pub weigh-nil : (w : Cell → ℕ) → weigh w [] ≡ 0
unfolding weigh
weigh-nil w = refl

pub weigh-cons : (w : Cell → ℕ) (c : Cell) (cs : List Cell) → weigh w (c ∷ cs) ≡ w c + weigh w cs
unfolding weigh
weigh-cons w c cs = refl

pub weigh-append : (w : Cell → ℕ) (xs ys : List Cell) → weigh w (xs ++ ys) ≡ weigh w xs + weigh w ys
unfolding weigh
weigh-append w [] ys = sym (zero-add (weigh w ys))
weigh-append w (x ∷ xs) ys = rw (weigh-append w xs ys) (omega arith)

abbrev pub SameCells : List Cell → List Cell → Type 0
SameCells xs ys = (w : Cell → ℕ) → weigh w xs ≡ weigh w ys

-- how many of the cells name block b
unfoldable pub cell_times : ℕ → List Cell → ℕ
cell_times b cs = weigh (λ c. is c.0 b) cs

-- ---- cells and blocks

abbrev pub Agree : (ℕ → List ℕ) → List Cell → Type 0
Agree text = All (λ c. text c.0 ≡ c.1)

-- 1 for a cell that the blocks do not agree with
bad : (ℕ → List ℕ) → Cell → ℕ
bad text c = bit (not (same_key (text c.0) c.1))

bad-zero : (text : ℕ → List ℕ) (cs : List Cell) → Agree text cs → weigh (bad text) cs ≡ 0
unfolding weigh bad
bad-zero text [] h = refl
bad-zero text (c ∷ cs) h = rw (h.0, same_key-refl c.1, bad-zero text cs h.1)

zero-bad : (text : ℕ → List ℕ) (cs : List Cell) → weigh (bad text) cs ≡ 0 → Agree text cs
unfolding weigh bad
zero-bad text [] h = tt
zero-bad text (c ∷ cs) h = (go (same_key (text c.0) c.1) refl (omega arith), zero-bad text cs (omega arith))
  where
    go : (t : Bool) → same_key (text c.0) c.1 ≡ t → bit (not t) ≡ 0 → text c.0 ≡ c.1
    go true e z = same_key-true (text c.0) c.1 e
    go false e z = absurd (omega arith)

pub agree_same : (text : ℕ → List ℕ) (xs ys : List Cell) → SameCells xs ys → Agree text xs → Agree text ys
agree_same text xs ys s h = zero-bad text ys (sym (s (bad text)) ∙ bad-zero text xs h)

-- a block that none of the cells names may get another text
pub agree-wrote : (text : ℕ → List ℕ) (b : ℕ) (t : List ℕ) (cs : List Cell) → cell_times b cs ≡ 0 → Agree text cs → Agree (wrote text b t) cs
unfolding cell_times weigh
agree-wrote text b t [] h g = tt
agree-wrote text b t (c ∷ cs) h g = (wrote-other text b t c.0 (is_ne c.0 b (omega arith)) ∙ g.0, agree-wrote text b t cs (omega arith) g.1)

-- ---- some cells are written, one after another

abbrev pub wrotes : (ℕ → List ℕ) → List Cell → ℕ → List ℕ
wrotes text [] = text
wrotes text (w ∷ ws) = wrotes (wrote text w.0 w.1) ws

-- where no number is there twice, the written cells are as written, and the others as they were
pub agree-wrotes : (text : ℕ → List ℕ) (ws cs : List Cell) → ((c : ℕ) → cell_times c ws + cell_times c cs ≤ 1) → Agree text cs → Agree (wrotes text ws) (ws ++ cs)
unfolding cell_times weigh
agree-wrotes text [] cs h g = g
agree-wrotes text (w ∷ ws) cs h g =
    all_middle (λ c. wrotes (wrote text w.0 w.1) ws c.0 ≡ c.1) ws w cs (agree-wrotes (wrote text w.0 w.1) ws (w ∷ cs) (λ c. omega (arith, h c))
    (wrote-same text w.0 w.1, agree-wrote text w.0 w.1 cs (omega (arith, h w.0, is-self w.0)) g))

-- The blocks agree with `cells`, in which no number is there twice. The cells `ws` are written, whose numbers are those of `old`, and the cells `keep` stay:
-- the blocks then agree with the new cells, and each number is there as often as before.
module _ (text : ℕ → List ℕ) (cells cells' old keep ws : List Cell) (was : SameCells cells (old ++ keep)) (will : SameCells cells' (ws ++ keep))
    (moved : (b : ℕ) → cell_times b ws ≡ cell_times b old) where
  pub rewrite-times : (b : ℕ) → cell_times b cells' ≡ cell_times b cells
  unfolding cell_times
  rewrite-times b =
      omega
      (arith, was (λ c. is c.0 b), will (λ c. is c.0 b), weigh-append (λ c. is c.0 b) old keep, weigh-append (λ c. is c.0 b) ws keep, moved b)

  pub rewrite-agree : ((b : ℕ) → cell_times b cells ≤ 1) → Agree text cells → Agree (wrotes text ws) cells'
  unfolding cell_times
  rewrite-agree o g =
      agree_same (wrotes text ws) (ws ++ keep) cells' (λ w. sym (will w)) (agree-wrotes text ws keep
      (λ b. omega (arith, o b, was (λ c. is c.0 b), weigh-append (λ c. is c.0 b) old keep, moved b))
      (all_right (λ c. text c.0 ≡ c.1) old keep (agree_same text cells (old ++ keep) was g)))
