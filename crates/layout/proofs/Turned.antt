-- A file turned to the other form holds the tree that it held; turned back it is the file.
use Prim.Native.Nat.{ℕ, zero, suc, ◌+◌, ◌-◌, ◌≤◌}
use mathlib.Core.Path.{◌≡◌, refl, sym, ap, subst, ◌∙◌}
use mathlib.Core.Bool.{Bool, true, false, cond}
use mathlib.Core.List.{List, [], ◌∷◌}
use native.Mathlib.Omega.{arith}
use lib.Dec.{leb}
use lib.ListN.{length}
use borrow.Author.Tests.{leb-true, leb-false, eq-eqb}
use Rattle.words.specs.Words.{part, zeros, all_words, top_word}
use Rattle.words.proofs.Parts.{part-all}
use Rattle.words.proofs.All.{all_words-cons, cons-all_words, append-all_words, all_words-part, all_words-set, all_words-replicate, all_words-get_or}
use Rattle.table.specs.Tables.{laid}
use Rattle.drum.specs.declared.Description.{Description}
use Rattle.drum.specs.Params.{D, I, master_size, file_size, start, good_params, tag_of, free_kind}
use Rattle.drum.specs.Blocks.{block_at, link_place, link_in, free_text, Block}
use Rattle.drum.proofs.Good.{caps}
use Rattle.drum.proofs.Forms.{tag-most, index-tag, detail-tag}
use Rattle.drum.proofs.FreeTexts.{link-free_text}
use Rattle.layout.specs.Create.{end_record}
use Rattle.layout.specs.Tree.{Leaf, Section, Tree, leaves_of, leaf_blocks, reached_blocks, head_of, times, marks_of}
use Rattle.layout.specs.Holds.{All, OneTo, LeavesOk, IndexIn, DetailIn, ChainIn, Holds, master_text}
use Rattle.layout.specs.Turned.{other_form, turned_text, turned, indexes_in, TurnHolds, TurnBack, TurnOpens}
use Rattle.layout.proofs.Good.{start_first, start-end}
use Rattle.layout.proofs.Marked.{marks-length}
use Rattle.layout.proofs.Exact.{open-exact}
use Rattle.layout.proofs.OneFile.{all-times, one_more_lem, one-file}
use Rattle.layout.proofs.TurnedForm.{good-other, form-back, other-master, other-size, index-turned, detail-turned, free-turned, unused-turned}
use Rattle.layout.proofs.TurnedBlocks.{turned-master, turned-length, turned-block}
use Rattle.layout.proofs.TurnedMarks.{turn_mark, mark-index, mark-detail, mark-chained, mark-unused, reached-either}

-- a block stands in a list that begins with it, and in one that has one before it
stands-first : (b : ℕ) (bs : List ℕ) → 1 ≤ times b (b ∷ bs)
unfolding times
stands-first b bs = rw (eq-eqb b b refl) (omega arith)

stands-behind : (b c : ℕ) (bs : List ℕ) → 1 ≤ times b bs → 1 ≤ times b (c ∷ bs)
unfolding times
stands-behind b c bs h = omega arith

-- what is said of detail blocks does not speak of the form
leaves-other : (p : Description) (before : List (List ℕ)) (ls : List Leaf) → LeavesOk p before ls → LeavesOk (other_form p) before ls
unfolding LeavesOk other_form D
leaves-other p before [] h = tt
leaves-other p before (l ∷ ls) (o, h) = (
  record { counted = o.counted; width = o.width; widths = o.widths; order = o.order; bounded = o.bounded },
  leaves-other p (l.bound ∷ []) ls h,
)

-- blocks turned by their marks
module _ (p : Description) (f g : List ℕ) where
  abbrev By : ℕ → ℕ → Type 0
  By m b = block_at (other_form p) g b ≡ turned_text p m (block_at p f b)

  indexes-by : (ss : List Section) → ((b : ℕ) → 1 ≤ times b (indexes_in ss) → By 3 b) → All (IndexIn p f) ss → All (IndexIn (other_form p) g) ss
  unfolding All indexes_in other_form
  indexes-by [] by h = tt
  indexes-by (s ∷ ss) by (a, h) = (
    by s.block (stands-first s.block (indexes_in ss)) ∙ ap (turned_text p 3) a ∙ index-turned p _ _,
    indexes-by ss (λ b k. by b (stands-behind b s.block (indexes_in ss) k)) h,
  )

  details-by : (ls : List Leaf) → ((b : ℕ) → 1 ≤ times b (leaf_blocks ls) → By 1 b) → All (DetailIn p f) ls → All (DetailIn (other_form p) g) ls
  unfolding All leaf_blocks other_form
  details-by [] by h = tt
  details-by (l ∷ ls) by (a, h) = (
    by l.block (stands-first l.block (leaf_blocks ls)) ∙ ap (turned_text p 1) a ∙ detail-turned p _ _,
    details-by ls (λ b k. by b (stands-behind b l.block (leaf_blocks ls) k)) h,
  )

  chain_by : good_params p ≡ true → (cs : List ℕ) → ((b : ℕ) → 1 ≤ times b cs → By 2 b) → ChainIn p f cs → ChainIn (other_form p) g cs
  unfolding ChainIn
  chain_by good [] by h = tt
  chain_by good (c ∷ cs) by (a, h) = (
    by c (stands-first c cs) ∙ ap (turned_text p 2) a ∙ free-turned p _ good,
    chain_by good cs (λ b k. by b (stands-behind b c cs k)) h,
  )

  -- their words, once they are turned
  abbrev Fine : ℕ → Type 0
  Fine b = all_words (block_at (other_form p) g b) ≡ true

  relaid : (w m n : ℕ) (rows : List ℕ) → all_words (laid w m rows) ≡ true → n ≤ top_word → all_words (laid w n rows) ≡ true
  unfolding laid
  relaid w m n rows h k = cons-all_words n _ k (all_words-cons m _ h).1

  module _ (good : good_params p ≡ true) (words : all_words f ≡ true) where
    block_words : (b : ℕ) → all_words (block_at p f b) ≡ true
    unfolding block_at
    block_words b = all_words-part (start p b) p.wpb f words

    details-fine : (before : List (List ℕ)) (ls : List Leaf) → LeavesOk p before ls → All (DetailIn p f) ls → All (DetailIn (other_form p) g) ls
        → All Fine (leaf_blocks ls)
    unfolding All leaf_blocks LeavesOk other_form
    details-fine before [] o h k = tt
    details-fine before (l ∷ ls) (o, os) (a, h) (b, k) =
        let c = caps p good in
        let e = detail-tag (other_form p) (good-other p good) in (
          rw b (relaid p.wpb _ _ _ (rw a at (block_words l.block)) (omega (arith, o.counted))),
          details-fine (l.bound ∷ []) ls os h k,
        )

    indexes-fine : (ss : List Section) → All (λ (s : Section). OneTo (I p) (length s.leaves)) ss → All (IndexIn p f) ss → All (IndexIn (other_form p) g) ss
        → All Fine (indexes_in ss)
    unfolding All indexes_in other_form
    indexes-fine [] o h k = tt
    indexes-fine (s ∷ ss) (o, os) (a, h) (b, k) =
        let c = caps p good in
        let e = index-tag (other_form p) (good-other p good) in (
          rw b (relaid p.wpb _ _ _ (rw a at (block_words s.block)) (omega (arith, o))),
          indexes-fine ss os h k,
        )

    free-fine : (link : ℕ) → link ≤ top_word → all_words (free_text (other_form p) link) ≡ true
    unfolding free_text laid
    free-fine link h =
        let e = tag-most (other_form p) free_kind in
        all_words-set (laid (other_form p).wpb (tag_of (other_form p) free_kind) []) (link_place (other_form p)) link
        (cons-all_words (tag_of (other_form p) free_kind) (zeros ((other_form p).wpb - 1 - 0)) (omega arith)
        (all_words-replicate ((other_form p).wpb - 1 - 0) 0 (omega arith))) h

    chain-fine : (cs : List ℕ) → ChainIn p f cs → ChainIn (other_form p) g cs → All Fine cs
    unfolding All ChainIn link_in
    chain-fine [] h k = tt
    chain-fine (c ∷ cs) (a, h) (b, k) =
        let e : link_in p (block_at p f c) ≡ head_of cs = ap (link_in p) a ∙ link-free_text p (head_of cs) good in
        let l = all_words-get_or (block_at p f c) (link_place p) (block_words c) in
        (rw b (free-fine (head_of cs) (omega arith)), chain-fine cs h k)

-- the whole file
module _ (p : Description) (f : List ℕ) (t : Tree) (good : good_params p ≡ true) (h : Holds p f t) where
  abbrev q : Description
  q = other_form p

  abbrev g : List ℕ
  g = turned p (marks_of t p.n) f

  many : length (marks_of t p.n) ≡ p.n
  many = marks-length t p.n 1

  by-mark : (b m : ℕ) → Block p b → turn_mark p f t good h b ≡ m → By p f g m b
  by-mark b m i e = turned-block p f (marks_of t p.n) good h.size many b i ∙ ap (λ (x : ℕ). turned_text p x (block_at p f b)) e

  reached-block : (b : ℕ) → 1 ≤ times b (reached_blocks t) → Block p b
  reached-block b k = all-times (Block p) b (reached_blocks t) h.reached k

  indexes-held : All (IndexIn q g) t.sections
  indexes-held = indexes-by p f g t.sections (λ b k.
      let i = reached-block b (omega (arith, reached-either b t.sections)) in
      by-mark b 3 i (mark-index p f t good h b i k)) h.indexes

  details-held : All (DetailIn q g) (leaves_of t)
  details-held = details-by p f g (leaves_of t) (λ b k.
      let i = reached-block b (omega (arith, reached-either b t.sections)) in
      by-mark b 1 i (mark-detail p f t good h b i k)) h.details

  chain_held_lem : ChainIn q g t.chain
  chain_held_lem = chain_by p f g good t.chain (λ b k.
      let i = all-times (Block p) b t.chain h.linked k in
      by-mark b 2 i (mark-chained p f t good h b i k)) h.chained

  unused-held : (b : ℕ) → t.lowest ≤ b → b ≤ p.n → block_at q g b ≡ zeros p.wpb
  unused-held b k l =
      let i : Block p b = (omega (arith, h.lowest), l) in
      by-mark b 0 i (mark-unused p f t good h b i k) ∙ unused-turned p (block_at p f b) ∙ h.unused b k l

  -- its words
  block-fine : (b : ℕ) → Block p b → Fine p f g b
  block-fine b i = go (leb t.lowest b) (leb 1 (times b (indexes_in t.sections))) (leb 1 (times b (leaf_blocks (leaves_of t)))) refl refl refl (h.once b i)
    where
      go : (u x y : Bool) → leb t.lowest b ≡ u → leb 1 (times b (indexes_in t.sections)) ≡ x → leb 1 (times b (leaf_blocks (leaves_of t))) ≡ y
          → times b (reached_blocks t) + times b t.chain + cond u 1 0 ≡ 1 → Fine p f g b
      go true x y eu ex ey o = rw (unused-held b (leb-true _ _ eu) i.1) (all_words-replicate p.wpb 0 (omega arith))
      go false true y eu ex ey o =
          all-times (Fine p f g) b (indexes_in t.sections)
          (indexes-fine p f g good h.words t.sections h.counted h.indexes indexes-held) (leb-true _ _ ex)
      go false false true eu ex ey o =
          all-times (Fine p f g) b (leaf_blocks (leaves_of t))
          (details-fine p f g good h.words [] (leaves_of t) h.leaves h.details details-held) (leb-true _ _ ey)
      go false false false eu ex ey o =
          all-times (Fine p f g) b t.chain (chain-fine p f g good h.words t.chain h.chained chain_held_lem)
          (omega (
            arith,
            reached-either b t.sections,
            leb-false 1 (times b (indexes_in t.sections)) ex,
            leb-false 1 (times b (leaf_blocks (leaves_of t))) ey,
          ))

  words-before : (b : ℕ) → b ≤ p.n → all_words (part 0 (start q (b + 1)) g) ≡ true
  words-before zero i =
      rw (start_first q, other-master p, turned-master p f (marks_of t p.n) good h.size many) (all_words-part 0 (master_size p) f h.words)
  words-before (suc b) i =
      rw (one_more_lem q g b) (append-all_words _ _ (words-before b (omega arith)) (block-fine (b + 1) (omega arith, omega arith)))

  size-held : length g ≡ file_size q
  size-held = turned-length p f (marks_of t p.n) good h.size many ∙ sym (other-size p)

  words-held : all_words g ≡ true
  unfolding other_form
  words-held =
      let w : all_words (part 0 (file_size q) g) ≡ true = rw (← start-end q) (words-before p.n (omega arith)) in
      rw (part-all (file_size q) g size-held) at w

  held-other : Holds q g t
  unfolding other_form I end_record master_text master_size
  held-other = record {
    size = size-held;
    words = words-held;
    master = turned-master p f (marks_of t p.n) good h.size many ∙ h.master;
    indexes = indexes-held;
    details = details-held;
    chained = chain_held_lem;
    unused = unused-held;
    control = h.control;
    counted = h.counted;
    leaves = leaves-other p [] (leaves_of t) h.leaves;
    last = h.last;
    end = h.end;
    once = h.once;
    reached = h.reached;
    linked = h.linked;
    lowest = h.lowest;
  }

pub turn_holds : TurnHolds
turn_holds p f t good h = held-other p f t good h

pub turn-opens : TurnOpens
unfolding other_form
turn-opens p f marks good size e =
    let (t, h, m) = (open-exact p f good size).0 marks e in
    let g = turned p (marks_of t p.n) f in
    let k = turn_holds p f t good h in
    let l = turned-length p f (marks_of t p.n) good h.size (marks-length t p.n 1) ∙ sym (other-size p) in
    rw m ((open-exact (other_form p) g (good-other p good) l).1 t k)

-- the file turned twice holds the same tree under the first description, so it is the first file
pub turn-back : TurnBack
unfolding other_form
turn-back p f t good h =
    let g = turned (other_form p) (marks_of t p.n) (turned p (marks_of t p.n) f) in
    one-file p g f t
    (subst (λ (d : Description). Holds d g t) (form-back p good)
    (turn_holds (other_form p) (turned p (marks_of t p.n) f) t (good-other p good) (turn_holds p f t good h)))
    h
