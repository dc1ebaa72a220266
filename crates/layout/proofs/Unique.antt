-- A tree that stands in a file is the one that is read off it; so at most one tree stands in a file.
use Prim.Native.Nat.{ℕ, ◌+◌, ◌*◌, ◌-◌, ◌≤◌}
use mathlib.Core.Path.{◌≡◌, sym, ap, ◌∙◌}
use mathlib.Core.List.{List, [], ◌∷◌, ◌++◌}
use mathlib.Core.Bool.{true}
use native.Mathlib.Omega.{arith}
use lib.ListN.{length, get_or}
use Rattle.words.specs.Words.{part, all_are, zeros}
use Rattle.words.proofs.Parts.{length_part, part-add}
use Rattle.words.proofs.All.{all_are-replicate}
use Rattle.drum.specs.declared.Description.{Description}
use Rattle.drum.specs.Params.{good_params, master_size}
use Rattle.drum.specs.Blocks.{sections, chain_head, lowest_unused}
use Rattle.layout.specs.Tree.{Section, Tree, head_of}
use Rattle.layout.specs.Holds.{Holds, master_entries, master_text}
use Rattle.layout.proofs.Good.{Sized, good-facts, master-fits, master-in}
use Rattle.layout.proofs.Lists.{append-parts}
use Rattle.layout.proofs.Read.{sections_at, chain_at, tree_at}
use Rattle.layout.proofs.Texts.{three-words}
use Rattle.layout.proofs.Trees.{master-length}
use Rattle.layout.proofs.Decode.{sections-are, chain-is}
use Rattle.layout.proofs.Facts.{chain-facts}
use Rattle.layout.proofs.Marked.{chain-few}

-- the master's words, taken apart
pub record Master (p : Description) (f : List ℕ) (t : Tree) : Type 0 where
  pub secs : sections f ≡ length t.sections
  pub head : chain_head f ≡ head_of t.chain
  pub low : lowest_unused f ≡ t.lowest
  pub rows : part 3 (length t.sections * (p.k + 1)) f ≡ master_entries t.sections
  pub behind : all_are 0 (part (3 + length t.sections * (p.k + 1)) (master_size p - (3 + length t.sections * (p.k + 1))) f) ≡ true
  pub inside : 3 + length t.sections * (p.k + 1) ≤ length f

abbrev mk_tree : List Section → List ℕ → ℕ → Tree
mk_tree ss cs l = record { sections = ss; chain = cs; lowest = l }

module _ (p : Description) (f : List ℕ) (z : Sized p f) (t : Tree) (h : Holds p f t) where
  pub master-words : Master p f t
  unfolding master_text
  master-words =
      let es = master_entries t.sections in
      let u = length t.sections * (p.k + 1) in
      let y = master_size p - (3 + u) in
      let fit = master-fits p z.good (length t.sections) h.control.1 in
      let all = master-in p f z in
      let len : length es ≡ u = master-length p [] t.sections h.leaves h.counted in
      let q : master_size p ≡ 3 + (u + y) = omega arith in
      let d : master_size p - 3 - length es ≡ y = omega arith in
      let x : get_or f 0 0 ∷ get_or f 1 0 ∷ get_or f 2 0 ∷ (part 3 u f ++ part (3 + u) y f)
      ≡ length t.sections ∷ head_of t.chain ∷ t.lowest ∷ (es ++ zeros y) =
      ap (λ (l : List ℕ). get_or f 0 0 ∷ get_or f 1 0 ∷ get_or f 2 0 ∷ l) (sym (part-add 3 u y f))
      ∙ sym (three-words f (u + y) (omega arith))
      ∙ ap (λ (m : ℕ). part 0 m f) (sym q)
      ∙ h.master
      ∙ rw d in
      let e : part 3 u f ++ part (3 + u) y f ≡ es ++ zeros y = cc in
      let (a, b) = append-parts (part 3 u f) es (part (3 + u) y f) (zeros y) (length_part 3 u f (omega arith) ∙ sym len) e in
      record { secs = cc; head = cc; low = cc; rows = a; behind = rw b (all_are-replicate y 0); inside = omega arith }

  pub tree-at : tree_at p f ≡ t
  unfolding tree_at
  tree-at =
      let m = master-words in
      let (c, l) = chain-facts p f z t.chain h.linked h.chained in
      let ss : sections_at p f 3 (sections f) ≡ t.sections =
      ap (sections_at p f 3) m.secs
      ∙ sections-are p f z [] t.sections 3 h.leaves h.counted h.reached h.indexes h.details m.inside m.rows in
      let cs : chain_at p f p.n (chain_head f) ≡ t.chain =
      ap (chain_at p f p.n) m.head ∙ chain-is p f z t.chain p.n (head_of t.chain) (chain-few p f t h) c l in
      λ i. mk_tree (ss i) (cs i) (m.low i)

-- one file, one tree
pub one-tree : (p : Description) (f : List ℕ) (t u : Tree) → good_params p ≡ true → Holds p f t → Holds p f u → t ≡ u
one-tree p f t u g h k =
    let z : Sized p f = record { good = good-facts p g; size = h.size } in
    sym (tree-at p f z t h) ∙ tree-at p f z u k
