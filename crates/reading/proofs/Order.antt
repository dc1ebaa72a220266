-- Whether the detail blocks are 2, 3, .. with FD records each but the last: one law for each return, and what a file that was inspected leaves to rely on.
use Prim.Native.Nat.{ℕ, zero, suc, ◌+◌, ◌*◌, ◌-◌, ◌≤◌, ◌<◌}
use mathlib.Core.Path.{◌≡◌, refl, sym, ap, ◌∙◌, subst}
use mathlib.Core.Bool.{Bool, true, false, not, ◌&&◌}
use mathlib.Core.List.{List}
use native.Mathlib.Nat.{not-suc-le-zero}
use native.Mathlib.Omega.{arith}
use borrow.Author.Tests.{eq-eqb, ne_eqb, eqb-true}
use lib.Dec.{eqb}
use lib.ListN.{length, get_or}
use mir.Syntax.{w64}
use mir.Val.{Fits}
use Rattle.numbers.specs.Numbers.{bad_file}
use Rattle.numbers.specs.Checked.{passed, refused}
use Rattle.words.specs.Words.{zeros}
use Rattle.words.proofs.All.{and_both}
use Rattle.words.proofs.Parts.{get_d_part}
use Rattle.table.specs.declared.Shape.{Shape}
use Rattle.table.specs.Tables.{count}
use Rattle.table.proofs.Places.{row-le, row_next}
use Rattle.drum.specs.declared.Description.{Description}
use Rattle.drum.specs.Params.{I, FD, start, index_shape, detail_shape}
use Rattle.drum.specs.Blocks.{sections, chain_head, block_at, Block}
use Rattle.drum.proofs.Good.{caps}
use Rattle.layout.specs.Inspect.{named, layout_marks}
use Rattle.layout.specs.Inspected.{Fit, flagged, left_marks}
use Rattle.layout.proofs.CodeFlags.{halted, moved, grouped}
use Rattle.layout.proofs.CodeSizes.{start-inside, file-short, file-long}
use Rattle.layout.proofs.Read.{LeavesAt, SectionFacts, Sections, entries_at}
use Rattle.layout.proofs.Found.{layout-facts}
use Rattle.reading.specs.Finished.{holds_fd, entry_ok, in_order, finished, finished_marks}
use Rattle.reading.specs.Fits.{NamesBlocks, Inspected}

-- ---- a block's count

pub last-holds : (p : Description) (f : List ℕ) (b behind : ℕ) → behind ≡ 0 → eqb behind 0 ≡ holds_fd p f b behind
unfolding holds_fd
last-holds p f b behind e = simp (eq-eqb _ _ e)

pub other-holds : (p : Description) (f t : List ℕ) (b behind n m : ℕ) → n ≡ count (detail_shape p) t → t ≡ block_at p f b → m ≡ FD p → (behind ≡ 0 → ⊥)
    → eqb n m ≡ holds_fd p f b behind
unfolding holds_fd
other-holds p f t b behind n m en et em z = simp (ne_eqb _ _ z, en, et, em)

-- ---- the entries, one by one: what is left behind the first i tells what all tell

module _ (p : Description) (f : List ℕ) where
  pub order-start : (e n : ℕ) → in_order p f e 2 n ≡ in_order p f (e + 0 * (p.k + 1)) (2 + 0) (n - 0)
  order-start e n =
      let x : e ≡ e + 0 * (p.k + 1) = omega arith in
      let y : n ≡ n - 0 = omega arith in
      λ j. in_order p f (x j) 2 (y j)

  module _ (e n i : ℕ) (whole : Bool) (q : whole ≡ in_order p f (e + i * (p.k + 1)) (2 + i) (n - i)) where
    pub order-done : n ≤ i → true ≡ whole
    unfolding in_order
    order-done h = let z : n - i ≡ 0 = omega arith in sym (q ∙ rw z)

    module _ (some : i < n) where
      one_more_lem : n - i ≡ suc (n - (i + 1))
      one_more_lem = omega arith

      module _ (t : Bool) (h : t ≡ entry_ok p f (e + i * (p.k + 1)) (2 + i) (n - (i + 1))) where
        pub order-stop : t ≡ false → false ≡ whole
        unfolding in_order
        order-stop m = sym (q ∙ rw one_more_lem (simp (sym h ∙ m)))

        pub order-next : t ≡ true → whole ≡ in_order p f (e + (i + 1) * (p.k + 1)) (2 + (i + 1)) (n - (i + 1))
        unfolding in_order
        order-next m =
            let k : e + i * (p.k + 1) + (p.k + 1) ≡ e + (i + 1) * (p.k + 1) = omega (arith, row_next i (p.k + 1)) in
            let d : 2 + i + 1 ≡ 2 + (i + 1) = omega arith in
            q ∙ rw one_more_lem (simp (sym h ∙ m) (λ j. in_order p f (k j) (d j) (n - (i + 1))))

-- one entry: m is the block that it names
module _ (p : Description) (f : List ℕ) (e b behind m : ℕ) (em : m ≡ named p f e) where
  pub other_block : (m ≡ b → ⊥) → eqb m b ≡ entry_ok p f e b behind
  unfolding entry_ok
  other_block n = simp (ap (λ (z : ℕ). eqb z b) (sym em) ∙ ne_eqb m b n) (ne_eqb m b n)

  pub this-block : (t : Bool) → t ≡ holds_fd p f b behind → m ≡ b → t ≡ entry_ok p f e b behind
  unfolding entry_ok
  this-block t h y = simp (ap (λ (z : ℕ). eqb z b) (sym em) ∙ eq-eqb m b y) h

  module _ (y : m ≡ b) (h : Block p (named p f e)) where
    pub named-least : 1 ≤ b
    named-least = omega arith

    pub named-most : b ≤ p.n
    named-most = omega arith

-- the words that it asks for
module _ (p : Description) (f : List ℕ) (e : ℕ) (w : Fit p f) (inside : e + (p.k + 1) ≤ length f) where
  pub word-inside : e + p.k < length f
  word-inside = omega arith

  pub word_fits : Fits w64 (e + p.k)
  word_fits = let l = file-short p f w in omega arith

-- the blocks that they name
module _ (p : Description) (f : List ℕ) where
  pub names_start : (e n : ℕ) → NamesBlocks p f e n → NamesBlocks p f (e + 0 * (p.k + 1)) (n - 0)
  names_start e n h =
      let x : e ≡ e + 0 * (p.k + 1) = omega arith in
      let y : n ≡ n - 0 = omega arith in
      subst (NamesBlocks p f (e + 0 * (p.k + 1))) y (subst (λ (a : ℕ). NamesBlocks p f a n) x h)

  module _ (e n i : ℕ) (h : NamesBlocks p f (e + i * (p.k + 1)) (n - i)) (some : i < n) where
    both_named : Block p (named p f (e + i * (p.k + 1))) × NamesBlocks p f (e + i * (p.k + 1) + (p.k + 1)) (n - (i + 1))
    unfolding NamesBlocks
    both_named =
        let m : n - i ≡ suc (n - (i + 1)) = omega arith in
        subst (NamesBlocks p f (e + i * (p.k + 1))) m h

    pub next-named : Block p (named p f (e + i * (p.k + 1)))
    next-named = both_named.0

    pub names-rest : NamesBlocks p f (e + (i + 1) * (p.k + 1)) (n - (i + 1))
    names-rest =
        let k : e + i * (p.k + 1) + (p.k + 1) ≡ e + (i + 1) * (p.k + 1) = omega (arith, row_next i (p.k + 1)) in
        subst (λ (a : ℕ). NamesBlocks p f a (n - (i + 1))) k both_named.1

  -- a file that was inspected
  names_of : (n low e : ℕ) → LeavesAt p f low e n → NamesBlocks p f e n
  unfolding LeavesAt NamesBlocks
  names_of zero low e h = tt
  names_of (suc n) low e h = (h.0, names_of n e (e + (p.k + 1)) h.2)

  first-section : (n : ℕ) → 1 ≤ n → Sections p f 0 3 n → SectionFacts p f 0 3
  unfolding Sections
  first-section zero some h = absurd (not-suc-le-zero some)
  first-section (suc n) some h = h.1

-- a count in a block of the file is the file's word at its start, less the tag
pub count_at : (p : Description) (f : List ℕ) (h : Shape) (b : ℕ) → 0 < p.wpb → count h (block_at p f b) ≡ get_or f (start p b) 0 - h.tag
unfolding count block_at
count_at p f h b some =
    let e : start p b + 0 ≡ start p b = omega arith in
    ap (λ (x : ℕ). x - h.tag) (get_d_part (start p b) p.wpb 0 f some ∙ ap (λ (a : ℕ). get_or f a 0) e)

pub inspected : (p : Description) (f ms : List ℕ) (r : Bool) → layout_marks p f ≡ flagged r ms → not r ≡ false → Fit p f → Inspected p f
inspected p f ms r e y w =
    let z = (layout-facts p f).holds ms (moved r ms (layout_marks p f) e y) in
    let s = first-section p f (sections f) z.control.0 z.tree in
    let wide : 0 < p.wpb = let g = caps p w.good in omega arith in
    let counted : count (index_shape p) (block_at p f 1) ≡ entries_at p f (start p 1) = count_at p f (index_shape p) 1 wide in
    record {
      good = w.good;
      size = w.size;
      few = λ h. rw counted (rw h at s.rows.fits.1);
      names = λ h. rw counted (names_of p f (entries_at p f (start p 1)) 0 (start p 1 + 1) (rw h at s.leaves));
    }

-- ---- the whole: v is what the two numbers of the master are found to be, n the count of block 1

-- a test that is made only where the one before it holds
pub then_and : (x y v : Bool) → x ≡ true → v ≡ y → v ≡ (x && y)
then_and x y v e h = h ∙ rw e refl

pub else-and : (x y v : Bool) → x ≡ false → v ≡ x → v ≡ (x && y)
else-and x y v e h = h ∙ rw e refl

-- two tests that were made before a third
tested_no : (x y z v : Bool) → v ≡ (x && y) → v ≡ false → v ≡ (x && (y && z))
tested_no x y z v e n = n ∙ sym (grouped x y z ∙ ap (λ (b : Bool). b && z) (sym e ∙ n))

tested_yes : (x y z v : Bool) → v ≡ (x && y) → v ≡ true → z ≡ (x && (y && z))
tested_yes x y z v e n = sym (grouped x y z ∙ ap (λ (b : Bool). b && z) (sym e ∙ n))

module _ (p : Description) (f : List ℕ) where
  -- no block is chained, and the first entry names block 1
  abbrev pub Master : Bool
  Master = eqb (chain_head f) 0 && eqb (named p f 3) 1

  module _ (v : Bool) (e : v ≡ Master) where
    pub elsewhere : v ≡ false → v ≡ finished p f
    unfolding finished
    elsewhere n = tested_no _ _ (in_order p f (start p 1 + 1) 2 (count (index_shape p) (block_at p f 1))) v e n

    module _ (y : v ≡ true) where
      pub names-first : named p f 3 ≡ 1
      names-first = eqb-true _ _ (and_both (eqb (chain_head f) 0) _ (sym e ∙ y)).1

      pub in-first : (t : List ℕ) (n s : ℕ) (r : Bool) → r ≡ in_order p f (s + 1) 2 n → n ≡ count (index_shape p) t → t ≡ block_at p f 1 → s ≡ start p 1
          → r ≡ finished p f
      unfolding finished
      in-first t n s r er en et es =
          er ∙ (λ j. in_order p f (es j + 1) 2 ((en ∙ ap (count (index_shape p)) et) j))
          ∙ tested_yes _ _ (in_order p f (start p 1 + 1) 2 (count (index_shape p) (block_at p f 1))) v e y

  module _ (w : Inspected p f) where
    pub whole-fit : Fit p f
    whole-fit = record { good = w.good; size = w.size }

    pub narrow : p.k ≤ 63
    narrow = (caps p w.good).facts.k-most

    pub wide : 6 ≤ p.wpb
    wide = (caps p w.good).facts.wpb-least

    pub some-blocks : 2 ≤ p.n
    some-blocks = (caps p w.good).facts.n-least

    pub start_fits : (s : ℕ) → s ≡ start p 1 → Fits w64 (s + 1)
    start_fits s e =
        let z = start-inside p f whole-fit 1 s e (omega arith) (let n = some-blocks in omega arith) in
        let l = file-short p f whole-fit in
        omega arith

    pub word-behind : 4 + p.k ≤ length f
    word-behind = let z = file-long p f whole-fit in omega arith

    -- the entries of block 1
    module _ (one : named p f 3 ≡ 1) (t : List ℕ) (n : ℕ) (en : n ≡ count (index_shape p) t) (et : t ≡ block_at p f 1) where
      counted : n ≡ count (index_shape p) (block_at p f 1)
      counted = en ∙ ap (count (index_shape p)) et

      pub entries-few : n ≤ I p
      entries-few = rw counted (w.few one)

      pub entries-named : (s : ℕ) → s ≡ start p 1 → NamesBlocks p f (s + 1) n
      entries-named s es = rw (counted, es) (w.names one)

      pub entries-inside : (s : ℕ) → s ≡ start p 1 → s + 1 + n * (p.k + 1) ≤ length f
      entries-inside s es =
          let g = caps p w.good in
          let z = start-inside p f whole-fit 1 s es (omega arith) (omega arith) in
          let l = row-le n (I p) (p.k + 1) entries-few in
          omega arith

-- ---- the marks

module _ (p : Description) (f ms : List ℕ) (r : Bool) (e : layout_marks p f ≡ flagged r ms) where
  pub not-laid : not r ≡ true → finished_marks p f ≡ refused bad_file
  unfolding finished_marks
  not-laid h = simp (halted r ms (layout_marks p f) e h)

  module _ (h : not r ≡ false) (x : Bool) (ex : x ≡ finished p f) where
    pub is-laid : x ≡ true → finished_marks p f ≡ passed ms
    unfolding finished_marks
    is-laid y = simp (moved r ms (layout_marks p f) e h, sym ex ∙ y)

    pub not-finished : x ≡ false → finished_marks p f ≡ refused bad_file
    unfolding finished_marks
    not-finished y = simp (moved r ms (layout_marks p f) e h, sym ex ∙ y)

    -- the marks left
    pub marks-kept : x ≡ true → ms ≡ left_marks p.n (finished_marks p f)
    unfolding left_marks
    marks-kept y = sym (ap (left_marks p.n) (is-laid y))

    pub marks-cleared : x ≡ false → (ms' ms₀ : List ℕ) → ms' ≡ zeros (length ms) → length ms ≡ length ms₀ → length ms₀ ≡ p.n
        → ms' ≡ left_marks p.n (finished_marks p f)
    unfolding left_marks
    marks-cleared y ms' ms₀ ez l l₀ = ez ∙ ap zeros (l ∙ l₀) ∙ sym (ap (left_marks p.n) (not-finished y))

  pub marks-none : not r ≡ true → ms ≡ left_marks p.n (layout_marks p f) → ms ≡ left_marks p.n (finished_marks p f)
  unfolding left_marks
  marks-none h l = l ∙ ap (left_marks p.n) (halted r ms (layout_marks p f) e h ∙ sym (not-laid h))
