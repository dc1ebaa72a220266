-- The session formula over trees: what calls have brought, and that it pays for both levels. The changes of a tree are in Changes.
use Prim.Native.Nat.{ℕ, ◌+◌, ◌-◌}
use mathlib.Core.Bool.{true}
use mathlib.Core.Path.{◌≡◌, refl, sym, ap, ◌∙◌, subst}
use mathlib.Core.List.{List, [], ◌∷◌, ◌++◌, map}
use native.Mathlib.Omega.{arith}
use lib.ListN.{length, length-map}
use Rattle.drum.specs.declared.Description.{Description}
use Rattle.drum.specs.Params.{D, I, FD, FI, good_params}
use Rattle.drum.proofs.Good.{Good, good-facts}
use Rattle.demands.proofs.Lists.{map-append}
use Rattle.layout.specs.Tree.{Leaf, Section}
use Rattle.demands.proofs.Trees.{leaves_in}
use Rattle.demands.proofs.Potential.{Paid, paid-same, paid-made}

-- the records of each leaf; the leaves of each section
unfoldable pub counts : List Leaf → List ℕ
counts ls = map (λ l. length l.records) ls

unfoldable pub sizes : List Section → List ℕ
sizes ss = map (λ s. length s.leaves) ss

pub counts-append : (xs ys : List Leaf) → counts (xs ++ ys) ≡ counts xs ++ counts ys
unfolding counts
counts-append xs ys = map-append (λ l. length l.records) xs ys

pub sizes-append : (xs ys : List Section) → sizes (xs ++ ys) ≡ sizes xs ++ sizes ys
unfolding sizes
sizes-append xs ys = map-append (λ s. length s.leaves) xs ys

-- what calls have brought: records accepted; detail blocks split by NSERT, and started by XTEND; index blocks likewise
pub record Growth : Type 0 where
  pub records : ℕ
  pub splits : ℕ
  pub starts : ℕ
  pub index-splits : ℕ
  pub index-starts : ℕ

abbrev pub grown : ℕ → ℕ → ℕ → ℕ → ℕ → Growth
grown m S X s x = record { records = m; splits = S; starts = X; index-splits = s; index-starts = x }

-- first h, then g
abbrev pub plus : Growth → Growth → Growth
plus g h =
    grown (g.records + h.records) (g.splits + h.splits) (g.starts + h.starts) (g.index-splits + h.index-splits) (g.index-starts + h.index-starts)

-- what one call can bring: nothing; a record where there is room; a split, of the leaf or of the section too; a block started, or a section too
abbrev pub nothing : Growth
nothing = grown 0 0 0 0 0

abbrev pub a_record : Growth
a_record = grown 1 0 0 0 0

abbrev pub a_split : Growth
a_split = grown 1 1 0 0 0

abbrev pub both_split : Growth
both_split = grown 1 1 0 1 0

abbrev pub a_start : Growth
a_start = grown 1 0 1 0 0

abbrev pub both_start : Growth
both_start = grown 1 0 1 0 1

-- records pay for detail blocks, and detail blocks, whose entries come in, for index blocks
pub record Tally (p : Description) (ss : List Section) (g : Growth) : Type 0 where
  pub leaves : Paid (D p) (FD p) (counts (leaves_in ss)) g.records g.splits g.starts
  pub entries : Paid (I p) (FI p) (sizes ss) (g.splits + g.starts) g.index-splits g.index-starts

-- a call takes the tree ss to ss' and brings g; so many more blocks are in use then
pub record Grows (p : Description) (ss ss' : List Section) (g : Growth) : Type 0 where
  pub tally : (h : Growth) → Tally p ss h → Tally p ss' (plus g h)
  pub details : length (leaves_in ss') - length (leaves_in ss) ≡ g.splits + g.starts
  pub indexes : length ss' - length ss ≡ g.index-splits + g.index-starts

module _ (p : Description) (ss' : List Section) (g h : Growth) where
  -- the two levels of a tree whose counts are known
  pub tally-by : (cs es : List ℕ) (m S X e s x : ℕ) → Paid (D p) (FD p) cs m S X → Paid (I p) (FI p) es e s x → cs ≡ counts (leaves_in ss') → es ≡ sizes ss'
      → m ≡ g.records + h.records → S ≡ g.splits + h.splits → X ≡ g.starts + h.starts → e ≡ (g.splits + h.splits) + (g.starts + h.starts)
      → s ≡ g.index-splits + h.index-splits → x ≡ g.index-starts + h.index-starts → Tally p ss' (plus g h)
  tally-by cs es m S X e s x a b ca eb em e_s e_x ee es' ex = record {
    leaves = paid-same (D p) (FD p) cs _ m _ S _ X _ ca em e_s e_x a;
    entries = paid-same (I p) (FI p) es _ e _ s _ x _ eb ee es' ex b;
  }

-- the tree as it is
pub grow-none : (p : Description) (ss : List Section) → Grows p ss ss nothing
grow-none p ss = record {
  tally =
      λ h t. tally-by p ss nothing h (counts (leaves_in ss)) (sizes ss) h.records h.splits h.starts (h.splits + h.starts) h.index-splits
      h.index-starts
      t.leaves t.entries refl refl (omega arith) (omega arith) (omega arith) (omega arith) (omega arith) (omega arith);
  details = omega arith;
  indexes = omega arith;
}

-- only the counts of a tree matter
pub grow-as : (p : Description) (ss ss' ss'' : List Section) (g : Growth) → counts (leaves_in ss') ≡ counts (leaves_in ss'') → sizes ss' ≡ sizes ss''
    → Grows p ss ss' g → Grows p ss ss'' g
unfolding counts sizes
grow-as p ss ss' ss'' g e f h =
    let n : length (leaves_in ss') ≡ length (leaves_in ss'')
    = sym (length-map (leaves_in ss') (λ l. length l.records)) ∙ ap length e ∙ length-map (leaves_in ss'') (λ l. length l.records) in
    let m : length ss' ≡ length ss'' = sym (length-map ss' (λ s. length s.leaves)) ∙ ap length f ∙ length-map ss'' (λ s. length s.leaves) in
    record {
      tally = λ k t. let u = h.tally k t in record {
        leaves = paid-same (D p) (FD p) _ _ _ _ _ _ _ _ e refl refl refl u.leaves;
        entries = paid-same (I p) (FI p) _ _ _ _ _ _ _ _ f refl refl refl u.entries;
      };
      details = rw (← n) h.details;
      indexes = rw (← m) h.indexes;
    }

-- a file just made: one section of one leaf with one record
pub tally-made : (p : Description) → good_params p ≡ true → (ss : List Section) → counts (leaves_in ss) ≡ 1 ∷ [] → sizes ss ≡ 1 ∷ [] → Tally p ss nothing
tally-made p good ss e f =
    let g : Good p = good-facts p good in
    record {
      leaves = paid-same (D p) (FD p) (1 ∷ []) _ 0 0 0 0 0 0 (sym e) refl refl refl (paid-made (D p) (FD p) g.two_records);
      entries = paid-same (I p) (FI p) (1 ∷ []) _ 0 0 0 0 0 0 (sym f) refl refl refl (paid-made (I p) (FI p) g.two-entries);
    }

-- the tree before, told in another way
pub grow-from : (p : Description) (ss ss₀ ss' : List Section) (g : Growth) → ss ≡ ss₀ → Grows p ss₀ ss' g → Grows p ss ss' g
grow-from p ss ss₀ ss' g e h = subst (λ (z : List Section). Grows p z ss' g) (sym e) h
