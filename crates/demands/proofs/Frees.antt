-- New blocks: the chain's head first, then the lowest number never used. The checks of the calls, on the free blocks of a held tree.
use Prim.Native.Nat.{ℕ, zero, suc, pred, ◌+◌, ◌≤◌}
use mathlib.Core.Bool.{Bool, true, false, cond, not, ◌&&◌}
use mathlib.Core.Logic.{◌≢◌}
use mathlib.Core.Path.{◌≡◌, refl, sym, ap, ◌∙◌, subst}
use mathlib.Core.List.{List, [], ◌∷◌, ◌++◌}
use native.Mathlib.Omega.{arith}
use lib.Dec.{ltb, eqb}
use lib.ListN.{length}
use borrow.Author.Tests.{lt-ltb, le-ltb, eq-eqb, ne_eqb}
use Rattle.numbers.specs.Numbers.{done, none_free, bad_file}
use Rattle.numbers.specs.Checked.{Checked, passed, ◌>>=◌, ◌>>◌, up_to, require}
use Rattle.words.specs.Words.{zeros}
use Rattle.drum.proofs.FreeTexts.{kind-free_text, link-free_text}
use Rattle.drum.specs.declared.Description.{Description}
use Rattle.drum.specs.Params.{D, good_params}
use Rattle.drum.specs.Blocks.{Texts, text_of, free_text, link_in, is_free}
use Rattle.rules.specs.declared.Taken.{Taken}
use Rattle.rules.specs.Free.{none_left, granted, is_new, stored_number}
use Rattle.demands.proofs.Lists.{All, all_left, all_right}
use Rattle.demands.proofs.Cells.{Cell, is, is-self, is_ne, weigh, weigh-append, weigh-cons, cell_times, Agree}
use Rattle.layout.specs.Tree.{Section}
use Rattle.demands.proofs.Trees.{cells_of}
use Rattle.demands.proofs.Holds.{Free, HoldsCells, head_or, chain_cells, fresh_cells, free_cells, inside, inside-le}
use Rattle.demands.proofs.Places.{Place, tree_of, inside-low, cells_in, spot-cell}
use Rattle.demands.proofs.Paths.{path_of, within-pass, upto-pass}
use Rattle.demands.proofs.Sound.{KeptTree}

abbrev pub next : Free → ℕ
next f = head_or f.chain f.lowest

abbrev pub free_count : Free → ℕ
free_count f = length f.chain + f.spare

abbrev takes : List ℕ → ℕ → ℕ → Free
takes [] lowest spare = record { chain = []; lowest = lowest + 1; spare = pred spare }
takes (c ∷ cs) lowest spare = record { chain = cs; lowest = lowest; spare = spare }

abbrev pub taken : Free → Free
taken f = takes f.chain f.lowest f.spare

-- the new block, with words 1 and 2 of the master then
abbrev pub taken_of : Free → Taken
taken_of f = record { block = next f; head = head_or (taken f).chain 0; lowest = (taken f).lowest }

-- "stored; the record's block now holds D and no block is free": n records, and these free blocks
abbrev pub stored_with : Description → ℕ → Free → ℕ
stored_with p n f = cond (eqb n (D p) && eqb (free_count f) 0) none_free done

-- the text of the next free block
pub first_text : Description → List ℕ → List ℕ
first_text p [] = zeros p.wpb
first_text p (c ∷ cs) = free_text p (head_or cs 0)

pub take-block : (p : Description) (f : Free) → 1 ≤ free_count f → free_cells p f ≡ (next f, first_text p f.chain) ∷ free_cells p (taken f)
unfolding free_cells first_text
take-block p f h = go f.chain f.spare h
  where
    go : (c : List ℕ) (s : ℕ) → 1 ≤ length c + s
        → free_cells p (record { chain = c; lowest = f.lowest; spare = s }) ≡ (head_or c f.lowest, first_text p c) ∷ free_cells p (takes c f.lowest s)
    go [] zero h = absurd (omega arith)
    go [] (suc s) h = refl
    go (c ∷ cs) s h = refl

pub taken-numbers : (f : Free) → 1 ≤ free_count f → (taken f).lowest + (taken f).spare ≡ f.lowest + f.spare
taken-numbers f h = go f.chain f.spare h
  where
    go : (c : List ℕ) (s : ℕ) → 1 ≤ length c + s → (takes c f.lowest s).lowest + (takes c f.lowest s).spare ≡ f.lowest + s
    go [] zero h = absurd (omega arith)
    go [] (suc s) h = omega arith
    go (c ∷ cs) s h = refl

pub taken-count : (f : Free) → 1 ≤ free_count f → suc (free_count (taken f)) ≡ free_count f
taken-count f h = go f.chain f.spare h
  where
    go : (c : List ℕ) (s : ℕ) → 1 ≤ length c + s → suc (free_count (takes c f.lowest s)) ≡ length c + s
    go [] zero h = absurd (omega arith)
    go [] (suc s) h = omega arith
    go (c ∷ cs) s h = omega arith

-- ---- what the checks ask of the free blocks

pub record FreeOk (v : Texts) (f : Free) : Type 0 where
  pub numbers : f.lowest + f.spare ≡ suc v.desc.n
  pub chained : All (λ b. (1 ≤ b) × (b ≤ v.desc.n)) f.chain
  pub agree : Agree (text_of v) (chain_cells v.desc f.chain)
  pub low : 1 ≤ f.lowest

cells-chain : (p : Description) (Q : ℕ → Type 0) (bs : List ℕ) → All (λ c. Q c.0) (chain_cells p bs) → All Q bs
cells-chain p Q [] h = tt
cells-chain p Q (b ∷ bs) h = (h.0, cells-chain p Q bs h.1)

all-times : (Q : ℕ → Type 0) (cs : List Cell) → ((b : ℕ) → 1 ≤ cell_times b cs → Q b) → All (λ c. Q c.0) cs
unfolding cell_times weigh
all-times Q [] h = tt
all-times Q (c ∷ cs) h = (h c.0 (omega (arith, is-self c.0)), all-times Q cs (λ b l. h b (omega arith)))

pub free-ok : (v : Texts) (ss : List Section) (f : Free) (master : List ℕ) → HoldsCells v.desc master (text_of v) ss f → FreeOk v f
unfolding free_cells
free-ok v ss f master h =
    let p : Description = v.desc in
    let Q : ℕ → Type 0 = λ b. (1 ≤ b) × (b ≤ p.n) in
    let R : Cell → Type 0 = λ c. Q c.0 in
    let T : Cell → Type 0 = λ c. text_of v c.0 ≡ c.1 in
    let ins : All R (cells_of p ss ++ (chain_cells p f.chain ++ fresh_cells p f.lowest f.spare))
    = all-times Q (cells_of p ss ++ free_cells p f) (λ b l. inside-low p.n b (omega (arith, h.once b))) in
    let part : All R (chain_cells p f.chain ++ fresh_cells p f.lowest f.spare) = all_right R (cells_of p ss) _ ins in
    record {
      numbers = h.numbers;
      chained = cells-chain p Q f.chain (all_left R (chain_cells p f.chain) _ part);
      agree = all_left T (chain_cells p f.chain) _ (all_right T (cells_of p ss) _ h.agree);
      low = first f.spare f.lowest h.numbers (all_right R (chain_cells p f.chain) _ part);
    }
  where
    first : (s u : ℕ) → u + s ≡ suc v.desc.n → All (λ c. (1 ≤ c.0) × (c.0 ≤ v.desc.n)) (fresh_cells v.desc u s) → 1 ≤ u
    first zero u e a = omega arith
    first (suc s) u e a = a.0.0

pub free-taken : (v : Texts) (f : Free) → FreeOk v f → 1 ≤ free_count f → FreeOk v (taken f)
free-taken v f h l = go f.chain refl f.spare refl
  where
    go : (c : List ℕ) → f.chain ≡ c → (s : ℕ) → f.spare ≡ s → FreeOk v (takes c f.lowest s)
    go [] e zero g = absurd (omega (arith, ap length e))
    go [] e (suc s) g = record { numbers = omega (arith, h.numbers); chained = tt; agree = tt; low = omega arith }
    go (c ∷ cs) e s g = record { numbers = rw (← g) h.numbers; chained = (rw e at h.chained).1; agree = (rw e at h.agree).1; low = h.low }

module _ (v : Texts) where
  none_left_lem : (f : Free) → FreeOk v f → none_left v.desc (head_or f.chain 0) f.lowest ≡ passed (eqb (free_count f) 0)
  unfolding none_left
  none_left_lem f h = go f.chain h.chained
    where
      p : Description
      p = v.desc

      empty : (s : ℕ) → f.lowest + s ≡ suc p.n → ltb p.n f.lowest ≡ eqb s 0
      empty zero e = lt-ltb p.n f.lowest (omega arith)
      empty (suc s) e = le-ltb p.n f.lowest (omega arith) ∙ sym (ne_eqb (suc s) 0 (λ e. omega arith))

      go : (c : List ℕ) → All (λ b. (1 ≤ b) × (b ≤ p.n)) c → none_left p (head_or c 0) f.lowest ≡ passed (eqb (length c + f.spare) 0)
      go [] a =
          simp (upto-pass p.n 0 (omega arith), within-pass 1 (p.n + 1) f.lowest h.low (omega (arith, h.numbers)), empty f.spare h.numbers)
          (let e : f.spare ≡ 0 + f.spare = omega arith in ap (λ (n : ℕ). passed (eqb n 0)) e)
      go (c ∷ cs) a = simp (upto-pass p.n c a.0.1, ne_eqb c 0 (λ e. omega (arith, a.0.0)), ne_eqb (suc (length cs) + f.spare) 0 (λ e. omega arith))

  -- 070001's test
  pub stored-number : (n : ℕ) (f : Free) → FreeOk v f → stored_number v.desc n (head_or f.chain 0) f.lowest ≡ passed (stored_with v.desc n f)
  unfolding stored_number
  stored-number n f h = go (eqb n (D v.desc))
    where
      go : (t : Bool) → (cond t (none_left v.desc (head_or f.chain 0) f.lowest >>= (λ none. passed (cond none none_free done))) (passed done)) ≡ passed
          (cond (t && eqb (free_count f) 0) none_free done)
      go true = simp (none_left_lem f h)
      go false = refl

  pub grant-none : (f : Free) → FreeOk v f → free_count f ≡ 0
      → granted v (head_or f.chain 0) f.lowest ≡ passed (record { block = 0; head = head_or f.chain 0; lowest = f.lowest })
  unfolding granted
  grant-none f h z = simp (none_left_lem f h, eq-eqb (free_count f) 0 z)

  pub grant-some : good_params v.desc ≡ true → (f : Free) → FreeOk v f → 1 ≤ free_count f → granted v (head_or f.chain 0) f.lowest ≡ passed (taken_of f)
  unfolding granted
  grant-some good f h l = rw (none_left_lem f h) (simp (ne_eqb (free_count f) 0 (λ e. omega arith)) (go f.chain f.spare l h.chained h.agree))
    where
      p : Description
      p = v.desc

      go : (c : List ℕ) (s : ℕ) → 1 ≤ length c + s → All (λ b. (1 ≤ b) × (b ≤ p.n)) c → Agree (text_of v) (chain_cells p c)
          → cond {A = Checked Taken} (eqb (head_or c 0) 0) (passed (record { block = f.lowest; head = 0; lowest = f.lowest + 1 }))
          (require (is_free p (text_of v (head_or c 0))) bad_file
          >> (up_to p.n (link_in p (text_of v (head_or c 0))) >>= (λ link. passed (record { block = head_or c 0; head = link; lowest = f.lowest }))))
          ≡ passed (record { block = head_or c f.lowest; head = head_or (takes c f.lowest s).chain 0; lowest = (takes c f.lowest s).lowest })
      go [] s l a g = refl
      go (c ∷ []) s l a g = simp (ne_eqb c 0 (λ e. omega (arith, a.0.0)), g.0, kind-free_text p 0 good, link-free_text p 0 good, upto-pass p.n 0 (omega arith))
      go (c ∷ (b ∷ cs)) s l a g = simp (ne_eqb c 0 (λ e. omega (arith, a.0.0)), g.0, kind-free_text p b good, link-free_text p b good, upto-pass p.n b a.1.0.1)

-- ---- a new block is none of the call's other blocks

module _ (p : Description) (master : List ℕ) (text : ℕ → List ℕ) (ss : List Section) (f : Free) (h : HoldsCells p master text ss f) (l : 1 ≤ free_count f) where
  split : (b : ℕ) → cell_times b (cells_of p ss) + (is (next f) b + cell_times b (free_cells p (taken f))) ≡ inside p.n b
  unfolding cell_times
  split b =
      sym (weigh-append (λ c. is c.0 b) (cells_of p ss) (free_cells p f)
      ∙ ap (λ (n : ℕ). weigh (λ c. is c.0 b) (cells_of p ss) + n)
      (ap (weigh (λ c. is c.0 b)) (take-block p f l) ∙ weigh-cons (λ c. is c.0 b) (next f, first_text p f.chain) (free_cells p (taken f)))) ∙ h.once b

  pub next-in : (1 ≤ next f) × (next f ≤ p.n)
  next-in = inside-low p.n (next f) (omega (arith, split (next f), is-self (next f)))

  -- the first new block, and the second
  pub next-outside : cell_times (next f) (cells_of p ss) ≡ 0
  next-outside = omega (arith, split (next f), is-self (next f), inside-le p.n (next f))

  module _ (l₂ : 1 ≤ free_count (taken f)) where
    more : (b : ℕ) → cell_times b (free_cells p (taken f)) ≡ is (next (taken f)) b + cell_times b (free_cells p (taken (taken f)))
    unfolding cell_times
    more b =
        ap (weigh (λ c. is c.0 b)) (take-block p (taken f) l₂)
        ∙ weigh-cons (λ c. is c.0 b) (next (taken f), first_text p (taken f).chain) (free_cells p (taken (taken f)))

    pub second-in : (1 ≤ next (taken f)) × (next (taken f) ≤ p.n)
    second-in = inside-low p.n (next (taken f)) (omega (arith, split (next (taken f)), more (next (taken f)), is-self (next (taken f))))

    pub second-outside : cell_times (next (taken f)) (cells_of p ss) ≡ 0
    second-outside = omega (arith, split (next (taken f)), more (next (taken f)), is-self (next (taken f)), inside-le p.n (next (taken f)))

    pub second-other : next (taken f) ≢ next f
    second-other = is_ne (next (taken f)) (next f) (omega (arith, split (next f), more (next f), is-self (next f), inside-le p.n (next f)))

pub new-pass : (v : Texts) (flag : Bool) (ss : List Section) (f : Free) → KeptTree v flag ss f → (a : Place) → ss ≡ tree_of a → (b : ℕ)
    → cell_times b (cells_of v.desc ss) ≡ 0
    → is_new v.current flag (path_of a) b ≡ true
new-pass v flag ss f h a e b z =
    let apart : is a.index b + is a.leaf.block b ≡ 0 = omega (arith, cells_in v.desc a b, rw e at z) in
    simp
    (ne_eqb b a.index (λ q. is_ne a.index b (omega arith) (sym q)), ne_eqb b a.leaf.block (λ q. is_ne a.leaf.block b (omega arith) (sym q)))
    (go flag refl)
  where
    go : (t : Bool) → flag ≡ t → not (t && eqb b v.current) ≡ true
    go false g = refl
    go true g =
        simp (ne_eqb b v.current (λ q. omega (
          arith,
          z,
          subst (λ (c : ℕ). 1 ≤ cell_times c (cells_of v.desc ss)) (sym q)
              (spot-cell v.desc ss v.current (h.current (h.flagged g))),
        )))
