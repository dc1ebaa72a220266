-- OPEN's test is exact: it passes where a tree stands in the file, and leaves that tree's marks; else it refuses with 070003.
use Prim.Native.Nat.{ℕ, zero, suc, ◌+◌}
use mathlib.Core.Path.{◌≡◌, refl, sym, ap, ◌∙◌}
use mathlib.Core.List.{List}
use mathlib.Core.Bool.{Bool, true, false}
use native.Mathlib.Omega.{arith}
use lib.Dec.{eqb}
use lib.ListN.{length, drop}
use Rattle.words.specs.Words.{all_are}
use Rattle.numbers.specs.Numbers.{bad_file}
use Rattle.numbers.specs.Checked.{Checked, passed, refused, ◌>>=◌, ◌>>◌, require}
use Rattle.table.specs.declared.Shape.{Shape}
use Rattle.drum.specs.declared.Description.{Description}
use Rattle.drum.specs.Params.{good_params, file_size}
use Rattle.drum.specs.Blocks.{block_at, link_place, link_in, is_free}
use Rattle.layout.specs.Inspect.{rows_in, marked, through, detail_held, index_held, chain_held, walked, layout_marks}
use Rattle.layout.specs.Tree.{Tree, marks_of}
use Rattle.layout.specs.Holds.{Holds, WellFormed}
use Rattle.layout.proofs.Good.{Sized, good-facts}
use Rattle.numbers.proofs.Passed.{clash}
use Rattle.layout.proofs.Read.{tree_at}
use Rattle.layout.proofs.Found.{layout-facts}
use Rattle.layout.proofs.Sound.{sound}
use Rattle.layout.proofs.Complete.{complete-for}

-- c refuses with 070003 alone
record Bad {A : Type 0} (c : Checked A) : Type 0 where
  is : (n : ℕ) → c ≡ refused n → n ≡ bad_file

bad-passed : {A : Type 0} (a : A) → Bad (passed a)
bad-passed a = record { is = λ n e. absurd (let z : ◌≡◌ {A = ℕ} 0 1 = cc in omega arith) }

bad-refused : {A : Type 0} → Bad {A = A} (refused bad_file)
bad-refused = record { is = λ n e. cc }

bad-require : (t : Bool) → Bad (require t bad_file)
bad-require true = bad-passed true
bad-require false = bad-refused

bad-bind : {A B : Type 0} (m : Checked A) (rest : A → Checked B) → Bad m → ((a : A) → Bad (rest a)) → Bad (m >>= rest)
bad-bind (refused n) rest h k = record { is = λ m e. h.is m (let z : n ≡ m = cc in ap refused z) }
bad-bind (passed a) rest h k = k a

bad-then : {A B : Type 0} (m : Checked A) (rest : Checked B) → Bad m → Bad rest → Bad (m >> rest)
bad-then (refused n) rest h k = record { is = λ m e. h.is m (let z : n ≡ m = cc in ap refused z) }
bad-then (passed a) rest h k = k

ruleset bads = (bad-passed, bad-refused, bad-require, bad-bind, bad-then)

-- each step of the walk, and the walk, refuse so alone
bad-rows : (p : Description) (f : List ℕ) (most : ℕ) (h : Shape) (s : ℕ) → Bad (rows_in p f most h s)
unfolding rows_in
bad-rows p f most h s = search bads depth 9

bad-marked : (m b : ℕ) (ms : List ℕ) → Bad (marked m b ms)
unfolding marked
bad-marked m b ms = search bads depth 9

bad-through : (step : ℕ → ℕ → List ℕ → Checked (List ℕ)) → ((low e : ℕ) (ms : List ℕ) → Bad (step low e ms))
    → (stride low e n : ℕ) (ms : List ℕ) → Bad (through step stride low e n ms)
unfolding through
bad-through step h stride low e zero ms = bad-passed ms
bad-through step h stride low e (suc n) ms = bad-bind (step low e ms) _ (h low e ms) (bad-through step h stride e (e + stride) n)

bad-detail : (p : Description) (f : List ℕ) (low e : ℕ) (ms : List ℕ) → Bad (detail_held p f low e ms)
unfolding detail_held
bad-detail p f low e ms = search (bads, bad-rows, bad-marked) depth 9

bad-index : (p : Description) (f : List ℕ) (low e : ℕ) (ms : List ℕ) → Bad (index_held p f low e ms)
unfolding index_held
bad-index p f low e ms = search (bads, bad-rows, bad-marked, bad-through, bad-detail) depth 9

bad-chain : (p : Description) (f : List ℕ) (fuel b : ℕ) (ms : List ℕ) → Bad (chain_held p f fuel b ms)
unfolding chain_held
bad-chain p f zero b ms = go (eqb b 0)
  where
    go : (t : Bool) → Bad {A = List ℕ} (elim t [ true ↦ passed ms | false ↦ refused bad_file ])
    go true = bad-passed ms
    go false = bad-refused
bad-chain p f (suc fuel) b ms = go (eqb b 0) (λ m. bad-chain p f fuel (link_in p (block_at p f b)) m)
  where
    go : (t : Bool) → ((m : List ℕ) → Bad (chain_held p f fuel (link_in p (block_at p f b)) m))
        → Bad {A = List ℕ} (elim t [
          | true ↦ passed ms
          | false ↦ do
            m ← marked 2 b ms
            require (is_free p (block_at p f b)) bad_file
            require (all_are 0 (drop (link_place p + 1) (block_at p f b))) bad_file
            chain_held p f fuel (link_in p (block_at p f b)) m
        ])
    go true h = bad-passed ms
    go false h = search (bads, bad-marked, h) depth 12

bad-layout : (p : Description) (f : List ℕ) → Bad (layout_marks p f)
unfolding layout_marks walked
bad-layout p f = search (bads, bad-through, bad-index, bad-chain) depth 12

-- "Such a file opens", with its tree's marks; no other does
pub open-exact : (p : Description) (f : List ℕ) → good_params p ≡ true → length f ≡ file_size p
    → ((ms : List ℕ) → layout_marks p f ≡ passed ms → (t : Tree) × Holds p f t × (ms ≡ marks_of t p.n))
    × ((t : Tree) → Holds p f t → layout_marks p f ≡ passed (marks_of t p.n))
    × ((WellFormed p f → ⊥) → layout_marks p f ≡ refused bad_file)
unfolding WellFormed
open-exact p f g size = (held, complete-for p f z, λ none. go none (layout_marks p f) refl)
  where
    z : Sized p f
    z = record { good = good-facts p g; size = size }

    stands : (ms : List ℕ) → layout_marks p f ≡ passed ms → Holds p f (tree_at p f)
    stands ms e = sound p f z ms ((layout-facts p f).holds ms e)

    same : (x y : List ℕ) → passed x ≡ passed y → x ≡ y
    same x y e = cc

    held : (ms : List ℕ) → layout_marks p f ≡ passed ms → (t : Tree) × Holds p f t × (ms ≡ marks_of t p.n)
    held ms e = let h = stands ms e in (tree_at p f, h, same ms _ (sym e ∙ complete-for p f z (tree_at p f) h))

    go : (WellFormed p f → ⊥) → (c : Checked (List ℕ)) → layout_marks p f ≡ c → layout_marks p f ≡ refused bad_file
    go none (passed ms) e = absurd (none (tree_at p f, stands ms e))
    go none (refused n) e = e ∙ ap refused ((bad-layout p f).is n e)

-- no tree stands in a file that the test refuses
pub refused_none : (p : Description) (f : List ℕ) (n : ℕ) → good_params p ≡ true → length f ≡ file_size p
    → layout_marks p f ≡ refused n → WellFormed p f → ⊥
unfolding WellFormed
refused_none p f n g size e (t, h) = clash n (marks_of t p.n) (sym e ∙ (open-exact p f g size).1 t h)
