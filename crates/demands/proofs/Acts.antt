-- The calls that write blocks and the master: what they leave. And a leaf that becomes two, a section that becomes two.
use Prim.Native.Nat.{ℕ, suc, ◌≤◌, ◌<◌}
use mathlib.Core.Bool.{Bool, true, false, cond}
use mathlib.Core.Logic.{◌⊎◌, inl, inr}
use mathlib.Core.Path.{◌≡◌, refl, sym, ap, ◌∙◌}
use mathlib.Core.List.{List, [], ◌∷◌, ◌++◌, append_assoc}
use native.Mathlib.Omega.{arith}
use lib.ListN.{length, length-append, take-append-drop}
use Rattle.drum.specs.declared.Description.{Description}
use Rattle.drum.specs.Params.{I, master_size, file_size}
use Rattle.drum.specs.Blocks.{Transfer, block_at, written, text_of}
use Rattle.rules.specs.declared.Way.{Way}
use Rattle.rules.specs.State.{State, desc, texts, key_in, outcome}
use Rattle.rules.specs.Lookup.{reached, landing}
use Rattle.rules.specs.Free.{with_free}
use Rattle.demands.proofs.Scene.{scene}
use Rattle.demands.proofs.Lists.{All, all_append, all_left, all_right, which}
use Rattle.demands.proofs.Order.{Asc}
use Rattle.demands.proofs.Cells.{Cell, is, is-self, weigh, cell_times, SameCells, wrotes}
use Rattle.layout.specs.Tree.{Leaf, Section}
use Rattle.demands.proofs.Trees.{leaves_in, leaves_in-append, records_in, key, leaf_cell}
use Rattle.demands.proofs.Holds.{Free, HoldsCells, LeafFits, master_for, head_or, last_bound, free_cells}
use Rattle.demands.proofs.Steps.{sec, lf, ix, lower, upper, split-leaf, split-both}
use Rattle.demands.proofs.Places.{Place, tree_of, tree_with, olds, lo, hi, Spot, sec-ok, last_bound-append, last_bound-any, master-same, leaf-in, index_in}
use Rattle.demands.proofs.Blocks.{master_of, behind, behind-length, master-first, master-put, cells_written, Fits, written-master}
use Rattle.demands.proofs.Entries.{file-is, master-long, index-long}
use Rattle.demands.proofs.Masters.{with-free}
use Rattle.demands.proofs.Frees.{next, free_count, taken, first_text, take-block, taken-numbers, taken-count}
use Rattle.demands.proofs.Sound.{Key, Ended, Sound, way-fits, way-covers, acted, leaf-length}
use Rattle.demands.proofs.Answers.{Gives, effect-gives}
use Rattle.demands.proofs.Reach.{At}
use Rattle.demands.proofs.Growth.{Growth, Grows}

-- a list of transfers leaves the master's words
pub written_is : (p : Description) (ms : List Transfer) (m rest : List ℕ) → length m ≡ master_size p → length (m ++ rest) ≡ file_size p
    → All (Fits p) (cells_written ms)
    → written p ms (m ++ rest) ≡ m ++ behind p (written p ms (m ++ rest))
unfolding master_of behind
written_is p ms m rest lm le fit =
    sym (take-append-drop (master_size p) (written p ms (m ++ rest)))
    ∙ ap (λ (z : List ℕ). z ++ behind p (written p ms (m ++ rest))) (written-master p ms (m ++ rest) le fit ∙ master-put p m rest lm)

module _ (st : State) (ss : List Section) (f : Free) (h : Sound st ss f) (o : st.session.opened ≡ true) (kw : Key (desc st) (key_in (desc st) st.work))
    (a : Place) (way : Way) (A : At (texts st) st.session.flag ss f a way) where
  open scene st ss use {p, v}

  -- all the transfers of a call whose own are ms
  abbrev pub all_moves : List Transfer → List Transfer
  all_moves ms = (reached v st.session.flag way).moves ++ ms

  abbrev Left : List Section → List ℕ → ℕ → List ℕ → Type 0
  Left ss' file' d b = ((d ≡ 0) × (length b ≡ p.wpb)) ⊎ (Spot ss' d × (b ≡ block_at p file' d))

  -- the blocks ws are written; the detail block is one of them
  module _ (ms : List Transfer) (ws : List Cell) (ms-is : cells_written ms ≡ ws) (fit : All (Fits p) ws) (old : 1 ≤ cell_times a.leaf.block ws) (f' : Free)
      (file₁ : List ℕ)
      (e₁ : file₁ ≡ master_for p (tree_of a) f' ++ behind p st.file) where
    long₁ : length (master_for p (tree_of a) f') ≡ master_size p
    long₁ = master-long p h.kept.good (tree_of a) f' A.held.sized A.held.sections

    fits : All (Fits p) (cells_written (all_moves ms))
    fits = way-fits v st.session.flag ss f h.kept way ms (rw ms-is fit)

    -- the master has changed only in words 1 and 2
    pub same-file : (ss' : List Section) → master_for p ss' f' ≡ master_for p (tree_of a) f'
        → written p (all_moves ms) file₁ ≡ master_for p ss' f' ++ behind p (written p (all_moves ms) file₁)
    same-file ss' e =
        let le : length (master_for p (tree_of a) f' ++ behind p st.file) ≡ file_size p
        = rw (length-append (master_for p (tree_of a) f') (behind p st.file), long₁, behind-length p st.file h.kept.file-length)
        (omega (arith, master-first p)) in
        rw (e₁, e) (written_is p (all_moves ms) (master_for p (tree_of a) f') (behind p st.file) long₁ le fits)

    pub act-gives : (ss' : List Section) (file' : List ℕ) → file' ≡ master_for p ss' f' ++ behind p (written p (all_moves ms) file₁)
        → HoldsCells p (master_for p ss' f') (wrotes (text_of v) ws) ss' f' → (new : List (List ℕ)) → records_in (leaves_in ss') ≡ new → Ended p new
        → (d : ℕ) (b : List ℕ) → Left ss' file' d b → (n : ℕ) (tr : List Transfer) (most : ℕ) → length tr ≤ most → (brought : Growth) → Grows p ss ss' brought
        → Gives st ss (outcome st.session (record { number = n; transfers = tr; current = d; flag = false; keyed = true; file = file'; buffer = b; work = st.work })) n most new brought ss' f'
    act-gives ss' file' e' hold new c z d b s n tr most cost brought grew =
        let cover : (x : ℕ) → 1 ≤ x → wrotes (block_at p st.file) (cells_written (all_moves ms)) x ≡ wrotes (text_of v) ws x
        = λ x l. way-covers v st.session.flag ss f h.kept way ms (λ w g. rw (A.here-is w, ms-is) old) x l
        ∙ ap (λ (y : List Cell). wrotes (text_of v) y x) ms-is in
        effect-gives st ss f h o
        (record { number = n; transfers = tr; current = d; flag = false; keyed = true; file = file'; buffer = b; work = st.work }) ss' f'
        (acted v st.session.flag ss f h.kept (all_moves ms) ws file₁ (master_for p (tree_of a) f') e₁ long₁ fits cover ss' f' file' e'
        (master-long p h.kept.good ss' f' hold.sized hold.sections) hold (rw c z) d b s)
        most cost brought grew n new refl c (λ q. kw)

  -- words 1 and 2 of the file
  pub freed : (f' : Free) → with_free (head_or f'.chain 0) f'.lowest st.file ≡ master_for p (tree_of a) f' ++ behind p st.file
  freed f' =
      ap (with_free (head_or f'.chain 0) f'.lowest) (file-is p st.file (tree_of a) f A.held.master-is A.held.sized)
      ∙ with-free p (tree_of a) f f' (behind p st.file)

  -- ---- a leaf becomes two: the rows up to x, and those after it in a new block

  module _ (xs : List (List ℕ)) (x : List ℕ) (ys : List (List ℕ)) (nb : ℕ) (asc : Asc (key p.k) (lo p a) (xs ++ x ∷ ys) (hi p a))
      (ok₁ : LeafFits p (lower p a.leaf xs x)) (ok₂ : LeafFits p (upper p a.leaf nb ys)) where
    abbrev l₁ : Leaf
    l₁ = lower p a.leaf xs x

    abbrev l₂ : Leaf
    l₂ = upper p a.leaf nb ys

    abbrev news : List Leaf
    news = a.low ++ (l₁ ∷ (l₂ ∷ a.high))

    pub news-ok : All (LeafFits p) news
    news-ok =
        let olds-ok : All (LeafFits p) (olds a) = (sec-ok p a f _ _ A.held).leaves in
        all_append (LeafFits p) a.low _ (all_left (LeafFits p) a.low _ olds-ok) (ok₁, (ok₂, (all_right (LeafFits p) a.low _ olds-ok).1))

    pub news-length : length news ≡ suc (length (olds a))
    news-length = rw (length-append a.low (l₁ ∷ (l₂ ∷ a.high)), length-append a.low (a.leaf ∷ a.high)) (omega arith)

    pub low_fits : Fits p (lf p l₁)
    unfolding leaf_cell
    low_fits = let i = leaf-in p a f _ _ A.held in (i.0, i.1, leaf-length p (xs ++ x ∷ []) h.kept.good ok₁.rows ok₁.room)

    pub high_fits : (1 ≤ nb) × (nb ≤ p.n) → Fits p (lf p l₂)
    unfolding leaf_cell
    high_fits i = (i.0, i.1, leaf-length p ys h.kept.good ok₂.rows ok₂.room)

    pub index-fits : (ls : List Leaf) → All (LeafFits p) ls → length ls ≤ I p → Fits p (a.index, ix p ls)
    index-fits ls ok l = let i = index_in p a f _ _ A.held in (i.0, i.1, index-long p h.kept.good ls ok l)

    pub new-spot : Spot (tree_with a (l₁ ∷ (l₂ ∷ []))) nb
    new-spot = record {
      place = record { before = a.before; index = a.index; low = a.low ++ (l₁ ∷ []); leaf = l₂; high = a.high; behind = a.behind };
      is = ap (λ (z : List Leaf). a.before ++ (sec a.index z ∷ a.behind)) (sym (append_assoc a.low (l₁ ∷ []) (l₂ ∷ a.high)));
      block = refl;
    }

    pub old-spot : Spot (tree_with a (l₁ ∷ (l₂ ∷ []))) a.leaf.block
    old-spot = record { place = record { before = a.before; index = a.index; low = a.low; leaf = l₁; high = l₂ ∷ a.high; behind = a.behind }; is = refl; block = refl }

    pub two-spot : (t : Bool) → Spot (tree_with a (l₁ ∷ (l₂ ∷ []))) (cond t a.leaf.block nb)
    two-spot true = old-spot
    two-spot false = new-spot

    -- the index block has room for the new entry
    pub two-gives : nb ≡ next f → 1 ≤ free_count f → length (olds a) < I p
        → (ms : List Transfer) (ws : List Cell) → cells_written ms ≡ ws → All (Fits p) ws → SameCells ws (lf p l₁ ∷ (lf p l₂ ∷ ((a.index, ix p news) ∷ [])))
        → (new : List (List ℕ)) → records_in (leaves_in (tree_with a (l₁ ∷ (l₂ ∷ [])))) ≡ new → Ended p new
        → (d : ℕ) → Spot (tree_with a (l₁ ∷ (l₂ ∷ []))) d → (n most : ℕ) → length (all_moves ms) ≤ most
        → (brought : Growth) → Grows p ss (tree_with a (l₁ ∷ (l₂ ∷ []))) brought
        → Gives st ss (outcome st.session (landing p n st.work (all_moves ms) d
        (written p (all_moves ms) (with_free (head_or (taken f).chain 0) (taken f).lowest st.file)))) n most new brought (tree_with a (l₁ ∷ (l₂ ∷ [])))
        (taken f)
    unfolding landing cell_times weigh leaf_cell
    two-gives nx some room ms ws ms-is fit order new c z d s n most cost brought grew =
        let file₁ : List ℕ = with_free (head_or (taken f).chain 0) (taken f).lowest st.file in
        let F : List ℕ = written p (all_moves ms) file₁ in
        let ss' : List Section = tree_with a (l₁ ∷ (l₂ ∷ [])) in
        let old : 1 ≤ cell_times a.leaf.block ws = rw (order (λ c. is c.0 a.leaf.block)) (omega (arith, is-self a.leaf.block)) in
        let cells : free_cells p f ≡ (nb, first_text p f.chain) ∷ free_cells p (taken f) = rw nx (take-block p f some) in
        act-gives ms ws ms-is fit old (taken f) file₁ (freed (taken f)) ss' F
        (same-file ms ws ms-is fit old (taken f) file₁ (freed (taken f)) ss' (master-same p a (taken f) (l₁ ∷ (l₂ ∷ [])) (λ d. refl)))
        (split-leaf p a.before a.index a.low a.leaf a.high a.behind f _ _ A.held (taken f) nb (first_text p f.chain) cells
        (taken-numbers f some) xs x ys asc room ok₁ ok₂ ws order)
        new c z d (block_at p F d) (inr (s, refl)) n (all_moves ms) most cost brought grew

    -- ---- and the section two: the entries as', and the entries bs' in a new index block; `op` changes the master

    module _ (nib : ℕ) (as' bs' : List Leaf) (cut : as' ++ bs' ≡ news) (a₁ : 1 ≤ length as') (a₂ : length as' ≤ I p) (b₁ : 1 ≤ length bs')
        (b₂ : length bs' ≤ I p) where
      abbrev pub tree₂ : List Section
      tree₂ = a.before ++ (sec a.index as' ∷ (sec nib bs' ∷ a.behind))

      pub leaves-cut : leaves_in tree₂ ≡ leaves_in (tree_with a (l₁ ∷ (l₂ ∷ [])))
      leaves-cut =
          rw
          (leaves_in-append a.before (sec a.index as' ∷ (sec nib bs' ∷ a.behind)), leaves_in-append a.before (sec a.index news ∷ a.behind), ← cut)
          (ap (λ (z : List Leaf). leaves_in a.before ++ z) (sym (append_assoc as' bs' (leaves_in a.behind))))

      -- each leaf of the old section is in one of the two
      pub spot-cut : (m : List Leaf) (l : Leaf) (n : List Leaf) → as' ++ bs' ≡ m ++ l ∷ n → Spot tree₂ l.block
      spot-cut m l n e = go (which m l n as' bs' e)
        where
          go : ((t : List Leaf) × (as' ≡ m ++ l ∷ t)) ⊎ ((t : List Leaf) × (bs' ≡ t ++ l ∷ n)) → Spot tree₂ l.block
          go (inl (t, q)) = record {
            place = record { before = a.before; index = a.index; low = m; leaf = l; high = t; behind = sec nib bs' ∷ a.behind };
            is = ap (λ (z : List Leaf). a.before ++ (sec a.index z ∷ (sec nib bs' ∷ a.behind))) q;
            block = refl;
          }
          go (inr (t, q)) = record {
            place = record { before = a.before ++ (sec a.index as' ∷ []); index = nib; low = t; leaf = l; high = n; behind = a.behind };
            is = ap (λ (z : List Leaf). a.before ++ (sec a.index as' ∷ (sec nib z ∷ a.behind))) q
                ∙ sym (append_assoc a.before (sec a.index as' ∷ []) (sec nib (t ++ l ∷ n) ∷ a.behind));
            block = refl;
          }

      pub half-spot : (t : Bool) → Spot tree₂ (cond t a.leaf.block nb)
      half-spot true = spot-cut a.low l₁ (l₂ ∷ a.high) cut
      half-spot false = spot-cut (a.low ++ (l₁ ∷ [])) l₂ a.high (cut ∙ sym (append_assoc a.low (l₁ ∷ []) (l₂ ∷ a.high)))

      -- the new section ends in the old one's bound
      pub last-cut : last_bound [] bs' ≡ last_bound [] (olds a)
      last-cut =
          last_bound-any [] (last_bound [] as') bs' b₁ ∙ sym (last_bound-append [] as' bs') ∙ ap (last_bound []) cut
          ∙ rw (last_bound-append [] a.low (l₁ ∷ (l₂ ∷ a.high)), last_bound-append [] a.low (a.leaf ∷ a.high))

      pub four-gives : nb ≡ next f → nib ≡ next (taken f) → 2 ≤ free_count f → length (tree_of a) < p.control
          → (ms : List Transfer) (ws : List Cell) → cells_written ms ≡ ws → All (Fits p) ws
          → SameCells ws (lf p l₁ ∷ (lf p l₂ ∷ ((a.index, ix p as') ∷ ((nib, ix p bs') ∷ []))))
          → (op : List ℕ → List ℕ) → ((rest : List ℕ) → op (master_for p (tree_of a) (taken (taken f)) ++ rest) ≡ master_for p tree₂ (taken (taken f)) ++ rest)
          → (new : List (List ℕ)) → records_in (leaves_in tree₂) ≡ new → Ended p new → (d : ℕ) → Spot tree₂ d → (n most : ℕ) → length (all_moves ms) ≤ most
          → (brought : Growth) → Grows p ss tree₂ brought
          → Gives st ss (outcome st.session (landing p n st.work (all_moves ms) d
          (op (written p (all_moves ms) (with_free (head_or (taken (taken f)).chain 0) (taken (taken f)).lowest st.file))))) n most new brought tree₂
          (taken (taken f))
      unfolding landing cell_times weigh leaf_cell
      four-gives nx nx₂ two room ms ws ms-is fit order op law new c z d s n most cost brought grew =
          let file₁ : List ℕ = with_free (head_or (taken (taken f)).chain 0) (taken (taken f)).lowest st.file in
          let some : 1 ≤ free_count f = omega arith in
          let some₂ : 1 ≤ free_count (taken f) = omega (arith, taken-count f some) in
          let old : 1 ≤ cell_times a.leaf.block ws = rw (order (λ c. is c.0 a.leaf.block)) (omega (arith, is-self a.leaf.block)) in
          let cells : free_cells p f ≡ (nb, first_text p f.chain) ∷ ((nib, first_text p (taken f).chain) ∷ free_cells p (taken (taken f)))
          = rw (nx, nx₂) (take-block p f some ∙ ap (λ (z : List Cell). (next f, first_text p f.chain) ∷ z) (take-block p (taken f) some₂)) in
          let F : List ℕ = written p (all_moves ms) file₁ in
          let F-is : F ≡ master_for p (tree_of a) (taken (taken f)) ++ behind p F
          = same-file ms ws ms-is fit old (taken (taken f)) file₁ (freed (taken (taken f))) (tree_of a) refl in
          act-gives ms ws ms-is fit old (taken (taken f)) file₁ (freed (taken (taken f))) tree₂ (op F) (ap op F-is ∙ law (behind p F))
          (split-both p a.before a.index a.low a.leaf a.high a.behind f _ _ A.held (taken (taken f)) nb nib (first_text p f.chain)
          (first_text p (taken f).chain) cells
          (taken-numbers (taken f) some₂ ∙ taken-numbers f some) xs x ys asc ok₁ ok₂ as' bs' cut a₁ a₂ b₁ b₂ room ws order)
          new c z d (block_at p (op F) d) (inr (s, refl)) n (all_moves ms) most cost brought grew
