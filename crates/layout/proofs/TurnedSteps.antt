-- A file turned block after block where it lies: what is left of it gives the turned file, what a block's text is before its turn, and the marks put back.
use Prim.Native.Nat.{ℕ, zero, suc, ◌+◌, ◌-◌, ◌≤◌, ◌<◌}
use mathlib.Core.Path.{◌≡◌, refl, sym, ap, ◌∙◌}
use mathlib.Core.Bool.{Bool, true, false, cond}
use mathlib.Core.List.{List, [], ◌∷◌, ◌++◌, append_assoc}
use native.Mathlib.Omega.{arith}
use lib.Dec.{leb, eqb}
use lib.ListN.{length, get_or, take, drop, length-append, take-append-drop}
use lib.Seq.{length-take-le, drop-drop, drop-cons, drop-length, drop_at, take_at, ext_get_or}
use borrow.Author.Tests.{leb-true, leb-false}
use Rattle.words.specs.Words.{part, put}
use Rattle.numbers.specs.Checked.{passed}
use Rattle.table.specs.Tables.{count, block_in}
use Rattle.drum.specs.declared.Description.{Description}
use Rattle.drum.specs.Params.{D, I, file_size, start, good_params, master_shape, index_shape, detail_shape}
use Rattle.drum.specs.Blocks.{sections, block_at, put_block, Block}
use Rattle.layout.specs.Inspect.{layout_marks}
use Rattle.layout.specs.Tree.{Leaf, Section, Tree, leaves_of, leaf_blocks, reached_blocks, times, mark_of, marks_of}
use Rattle.layout.specs.Holds.{All, OneTo, LeavesOk, IndexIn, DetailIn, Holds}
use Rattle.layout.specs.Turned.{index_marked, index_unmarked, indexes_in, turned_text, turned_blocks, turned}
use Rattle.drum.proofs.Blocks.{block_within}
use Rattle.drum.proofs.Forms.{laid-count}
use Rattle.words.proofs.Parts.{length_part}
use Rattle.layout.proofs.Good.{good-facts, start_first, start-next, start-end}
use Rattle.layout.proofs.Marked.{marks-length, marks-at}
use Rattle.layout.proofs.Unique.{master-words}
use Rattle.layout.proofs.Exact.{open-exact}
use Rattle.layout.proofs.OneFile.{all-times}
use Rattle.layout.proofs.TurnedForm.{length-turned}
use Rattle.layout.proofs.TurnedBlocks.{length_marked}
use Rattle.layout.proofs.TurnedMarks.{turn_mark, turn-mark, named-block, reached-either}

-- a block written at word s: the words before it, its own, and those behind it
module _ (f x : List ℕ) (s w : ℕ) (l : s + w ≤ length f) (n : length x ≡ w) where
  pub before-put : take (s + w) (put f s x) ≡ take s f ++ x
  unfolding put
  before-put =
      let a : List ℕ = take s f in
      let b : List ℕ = drop (s + length x) f in
      let len : length (a ++ x) ≡ s + w = length-append a x ∙ omega (arith, length-take-le s f (omega arith)) in
      take_at (a ++ x) b (s + w) len

  pub behind-put : drop (s + w) (put f s x) ≡ drop (s + w) f
  unfolding put
  behind-put =
      let a : List ℕ = take s f in
      let b : List ℕ = drop (s + length x) f in
      let len : length (a ++ x) ≡ s + w = length-append a x ∙ omega (arith, length-take-le s f (omega arith)) in
      drop_at (a ++ x) b (s + w) len ∙ ap (λ (m : ℕ). drop (s + m) f) n

-- the turning of the blocks, one by one: f is the file as it is, i blocks are turned, ms are all marks; what is left gives the whole
module _ (p : Description) (f ms : List ℕ) (i : ℕ) where
  unfoldable pub left_to_turn : List ℕ
  left_to_turn = take (start p (i + 1)) f ++ turned_blocks p (drop i ms) (drop (start p (i + 1)) f)

pub turn-begins : (p : Description) (f marks : List ℕ) → turned p marks f ≡ left_to_turn p f (index_marked p f (sections f) marks) 0
unfolding turned left_to_turn
turn-begins p f marks = rw (start_first p)

pub turn-goes : (p : Description) (f g ms : List ℕ) (i : ℕ) → g ≡ put_block p f (i + 1) (turned_text p (get_or ms i 0) (block_at p f (i + 1)))
    → good_params p ≡ true → length f ≡ file_size p → i < length ms → i < p.n → left_to_turn p f ms i ≡ left_to_turn p g ms (i + 1)
unfolding left_to_turn turned_blocks put_block block_at part
turn-goes p f g ms i e good size k n =
    let s = start p (i + 1) in
    let w = p.wpb in
    let x = turned_text p (get_or ms i 0) (part s w f) in
    let fits : s + w ≤ length f = omega (arith, size, block_within p (i + 1) (omega arith, omega arith)) in
    let len : length x ≡ w = length-turned p (get_or ms i 0) (part s w f) good (length_part s w f fits) in
    let next : start p (i + 1 + 1) ≡ s + w = start-next p (i + 1) (omega arith) in
    let one : i + 1 ≡ suc i = omega arith in
    let a : take (start p (i + 1 + 1)) g ≡ take s f ++ x = (λ j. take (next j) (e j)) ∙ before-put f x s w fits len in
    let b : drop (start p (i + 1 + 1)) g ≡ drop w (drop s f) = (λ j. drop (next j) (e j)) ∙ behind-put f x s w fits len ∙ sym (drop-drop w s f) in
    let c : drop (i + 1) ms ≡ drop (suc i) ms = ap (λ (m : ℕ). drop m ms) one in
    ap (λ (l : List ℕ). take s f ++ turned_blocks p l (drop s f)) (drop-cons ms i 0 k)
    ∙ sym (append_assoc (take s f) x (turned_blocks p (drop (suc i) ms) (drop w (drop s f))))
    ∙ sym (λ j. a j ++ turned_blocks p (c j) (b j))

pub turn-done : (p : Description) (f ms : List ℕ) (i : ℕ) → length f ≡ file_size p → length ms ≡ p.n → i ≡ p.n → left_to_turn p f ms i ≡ f
unfolding left_to_turn turned_blocks
turn-done p f ms i size many e =
    let end : start p (i + 1) ≡ length f = ap (λ (n : ℕ). start p (n + 1)) e ∙ start-end p ∙ sym size in
    let none : drop i ms ≡ [] = ap (λ (n : ℕ). drop n ms) (e ∙ sym many) ∙ drop-length ms in
    rw (none, end) (take-append-drop (length f) f)

-- the marks put back, place by place
unmarked-length : (ms : List ℕ) → length (index_unmarked ms) ≡ length ms
unfolding index_unmarked
unmarked-length [] = refl
unmarked-length (m ∷ ms) = ap suc (unmarked-length ms)

pub unmarked-at : (ms : List ℕ) (i : ℕ) → get_or (index_unmarked ms) i 0 ≡ cond (eqb (get_or ms i 0) 3) 1 (get_or ms i 0)
unfolding index_unmarked
unmarked-at [] i = refl
unmarked-at (m ∷ ms) zero = refl
unmarked-at (m ∷ ms) (suc i) = unmarked-at ms i

-- the counts of blocks that stand in a file
module _ (p : Description) (f : List ℕ) where
  entries-few : (ss : List Section) → All (λ (s : Section). OneTo (I p) (length s.leaves)) ss → All (IndexIn p f) ss
      → All (λ (b : ℕ). count (index_shape p) (block_at p f b) ≤ I p) (indexes_in ss)
  unfolding All indexes_in
  entries-few [] c h = tt
  entries-few (s ∷ ss) (c, cs) (a, h) = (rw (a, laid-count (index_shape p) p.wpb) c.1, entries-few ss cs h)

  records-few : (before : List (List ℕ)) (ls : List Leaf) → LeavesOk p before ls → All (DetailIn p f) ls
      → All (λ (b : ℕ). count (detail_shape p) (block_at p f b) ≤ D p) (leaf_blocks ls)
  unfolding All leaf_blocks LeavesOk
  records-few before [] o h = tt
  records-few before (l ∷ ls) (o, os) (a, h) = (rw (a, laid-count (detail_shape p) p.wpb) o.counted.1, records-few (l.bound ∷ []) ls os h)

module _ (p : Description) (f : List ℕ) (t : Tree) (good : good_params p ≡ true) (h : Holds p f t) where
  module _ (b : ℕ) (i : Block p b) where
    abbrev of_index : Bool
    of_index = leb 1 (times b (indexes_in t.sections))

    abbrev of_reached : Bool
    of_reached = leb 1 (times b (reached_blocks t))

    abbrev of_chain : Bool
    of_chain = leb 1 (times b t.chain)

    told : (m : ℕ) → turn_mark p f t good h b ≡ m → cond of_index 3 (cond of_reached 1 (cond of_chain 2 0)) ≡ m
    unfolding mark_of
    told m e = sym (turn-mark p f t good h b i) ∙ e

    index-told : turn_mark p f t good h b ≡ 3 → 1 ≤ times b (indexes_in t.sections)
    index-told e = go of_index of_reached of_chain refl (told 3 e)
      where
        go : (x y c : Bool) → of_index ≡ x → ◌≡◌ {A = ℕ} (cond x 3 (cond y 1 (cond c 2 0))) 3 → 1 ≤ times b (indexes_in t.sections)
        go true y c ex q = leb-true _ _ ex
        go false true c ex q = absurd (omega arith)
        go false false true ex q = absurd (omega arith)
        go false false false ex q = absurd (omega arith)

    detail-told : turn_mark p f t good h b ≡ 1 → 1 ≤ times b (leaf_blocks (leaves_of t))
    detail-told e = go of_index of_reached of_chain refl refl (told 1 e)
      where
        go : (x y c : Bool) → of_index ≡ x → of_reached ≡ y → ◌≡◌ {A = ℕ} (cond x 3 (cond y 1 (cond c 2 0))) 1 → 1 ≤ times b (leaf_blocks (leaves_of t))
        go true y c ex ey q = absurd (omega arith)
        go false true c ex ey q =
            let none = leb-false 1 (times b (indexes_in t.sections)) ex in
            omega (arith, none, leb-true 1 (times b (reached_blocks t)) ey, reached-either b t.sections)
        go false false true ex ey q = absurd (omega arith)
        go false false false ex ey q = absurd (omega arith)

    mark-back : cond (eqb (turn_mark p f t good h b) 3) 1 (turn_mark p f t good h b) ≡ mark_of t b
    unfolding mark_of
    mark-back = rw (turn-mark p f t good h b i) (go of_index of_reached of_chain refl refl)
      where
        go : (x y c : Bool) → of_index ≡ x → of_reached ≡ y
            → ◌≡◌ {A = ℕ} (cond (eqb (cond x 3 (cond y 1 (cond c 2 0))) 3) 1 (cond x 3 (cond y 1 (cond c 2 0)))) (cond y 1 (cond c 2 0))
        go true true c ex ey = refl
        go true false c ex ey =
            let none = leb-false 1 (times b (reached_blocks t)) ey in
            absurd (omega (arith, none, leb-true 1 (times b (indexes_in t.sections)) ex, reached-either b t.sections))
        go false true c ex ey = refl
        go false false true ex ey = refl
        go false false false ex ey = refl

  all_back : index_unmarked (index_marked p f (sections f) (marks_of t p.n)) ≡ marks_of t p.n
  all_back =
      let ms = index_marked p f (sections f) (marks_of t p.n) in
      let n = marks-length t p.n 1 in
      let l = unmarked-length ms ∙ length_marked p f (sections f) (marks_of t p.n) in
      ext_get_or 0 (index_unmarked ms) (marks_of t p.n) l (λ i k.
      let d : i + 1 - 1 ≡ i = omega arith in
      let e : 1 + i ≡ i + 1 = omega arith in
      let b : Block p (i + 1) = (omega arith, omega arith) in
      unmarked-at ms i ∙ rw d at (mark-back (i + 1) b) ∙ sym (marks-at t p.n 1 i (omega arith) ∙ ap (mark_of t) e))

-- what the walk of a good file tells of its marks, as the code asks it
module _ (p : Description) (f marks : List ℕ) (e : layout_marks p f ≡ passed marks) (good : good_params p ≡ true) (size : length f ≡ file_size p) where
  abbrev held : (t : Tree) × Holds p f t × (marks ≡ marks_of t p.n)
  held = (open-exact p f good size).0 marks e

  pub marks-many : length marks ≡ p.n
  marks-many = let (t, h, m) = held in ap length m ∙ marks-length t p.n 1

  pub sections-few : sections f ≤ p.control
  sections-few = let (t, h, m) = held in rw (master-words p f (record { good = good-facts p good; size = size }) t h).secs h.control.1

  pub name_in : (i : ℕ) → i < sections f → Block p (block_in (master_shape p) f i)
  name_in i k = let (t, h, m) = held in named-block p f t good h i k

  pub marks-again : index_unmarked (index_marked p f (sections f) marks) ≡ marks
  marks-again = let (t, h, m) = held in rw m (all_back p f t good h)

  module _ (b : ℕ) (i : Block p b) where
    pub index-few : get_or (index_marked p f (sections f) marks) (b - 1) 0 ≡ 3 → count (index_shape p) (block_at p f b) ≤ I p
    index-few q =
        let (t, h, m) = held in
        all-times _ b (indexes_in t.sections) (entries-few p f t.sections h.counted h.indexes) (index-told p f t good h b i (rw m at q))

    pub detail-few : get_or (index_marked p f (sections f) marks) (b - 1) 0 ≡ 1 → count (detail_shape p) (block_at p f b) ≤ D p
    detail-few q =
        let (t, h, m) = held in
        all-times _ b (leaf_blocks (leaves_of t)) (records-few p f [] (leaves_of t) h.leaves h.details) (detail-told p f t good h b i (rw m at q))
