-- Trees filled by XTEND: what a record more, a block more and a section more leave, and how many blocks there are.
use Prim.Native.Nat.{ℕ, zero, suc, ◌+◌, ◌≤◌, ◌<◌}
use mathlib.Core.Path.{◌≡◌, refl, sym, ap, ◌∙◌, subst}
use mathlib.Core.List.{List, [], ◌∷◌, ◌++◌, append_assoc, append-nil}
use native.Mathlib.Omega.{arith}
use lib.ListN.{length, length-append}
use Rattle.drum.specs.declared.Description.{Description}
use Rattle.drum.specs.Params.{FD, FI}
use Rattle.layout.specs.Tree.{Leaf, Section, last_in, leaf_blocks}
use Rattle.layout.specs.Tree as lay
use Rattle.layout.proofs.Lists.{last-right}
use Rattle.rules.specs.State.{key_in}
use Rattle.demands.specs.Filled.{ButLast, count_from, OneInOrder, Full, Most, FullIndex, MostIndex, Tight, Any, Filled}
use Rattle.demands.proofs.Lists.{All, all_append}
use Rattle.demands.proofs.Trees.{leaves_in, leaves_in-append}
use Rattle.demands.proofs.Holds.{Free}
use Rattle.demands.proofs.Steps.{sec, with_rows}
use Rattle.demands.proofs.Places.{Place, tree_of, tree_with, olds}
use Rattle.demands.proofs.Frees.{next, taken}
use Rattle.demands.proofs.Moves.{tree_in, with_chain, blocks-append}

-- ---- all but the last

module _ {A : Type 0} (P Q : A → Type 0) where
  pub ends-in : (xs : List A) (y : A) → All P xs → Q y → ButLast P Q (xs ++ y ∷ [])
  unfolding ButLast
  ends-in [] y h q = q
  ends-in (x ∷ []) y h q = (h.0, q)
  ends-in (x ∷ z ∷ xs) y h q = (h.0, ends-in (z ∷ xs) y h.1 q)

  pub fronts : (xs : List A) (y : A) → ButLast P Q (xs ++ y ∷ []) → All P xs
  unfolding ButLast
  fronts [] y h = tt
  fronts (x ∷ []) y h = (h.0, tt)
  fronts (x ∷ z ∷ xs) y h = (h.0, fronts (z ∷ xs) y h.1)

  pub ending-one : (xs : List A) (y : A) → ButLast P Q (xs ++ y ∷ []) → Q y
  unfolding ButLast
  ending-one [] y h = h
  ending-one (x ∷ []) y h = h.1
  ending-one (x ∷ z ∷ xs) y h = ending-one (z ∷ xs) y h.1

  -- one of them gives way to another
  pub swapped : (xs : List A) (y z : A) (ys : List A) → (P y → P z) → (Q y → Q z) → ButLast P Q (xs ++ y ∷ ys) → ButLast P Q (xs ++ z ∷ ys)
  unfolding ButLast
  swapped [] y z [] p q h = q h
  swapped [] y z (a ∷ ys) p q h = (p h.0, h.1)
  swapped (x ∷ []) y z ys p q h = (h.0, swapped [] y z ys p q h.1)
  swapped (x ∷ w ∷ xs) y z ys p q h = (h.0, swapped (w ∷ xs) y z ys p q h.1)

-- ---- blocks in order

pub count-more : (b n : ℕ) → count_from b n ++ ((b + n) ∷ []) ≡ count_from b (suc n)
unfolding count_from
count-more b zero = ap (λ (m : ℕ). m ∷ []) (let e : b + 0 ≡ b = omega arith in e)
count-more b (suc n) =
    ap (λ (z : List ℕ). b ∷ z) (ap (λ (m : ℕ). count_from (suc b) n ++ (m ∷ [])) (let e : b + suc n ≡ suc b + n = omega arith in e) ∙ count-more (suc b) n)

-- one section: a block in the place of another with its number, and a block more
one-swap : (i : ℕ) (low : List Leaf) (l m : Leaf) (high : List Leaf) → m.block ≡ l.block → OneInOrder (sec i (low ++ (l ∷ high)) ∷ [])
    → OneInOrder (sec i (low ++ (m ∷ high)) ∷ [])
unfolding OneInOrder leaf_blocks
one-swap i low l m high e (is, bs) = (
  is,
  blocks-append low (m ∷ high) ∙ ap (λ (b : ℕ). leaf_blocks low ++ (b ∷ leaf_blocks high)) e ∙ sym (blocks-append low (l ∷ high)) ∙ bs
      ∙ ap (count_from 2) (length-append low (l ∷ high) ∙ sym (length-append low (m ∷ high))),
)

one-longer : (i : ℕ) (low : List Leaf) (l m n : Leaf) → m.block ≡ l.block → n.block ≡ 2 + length (low ++ (l ∷ []))
    → OneInOrder (sec i (low ++ (l ∷ [])) ∷ []) → OneInOrder (sec i (low ++ (m ∷ (n ∷ []))) ∷ [])
unfolding OneInOrder leaf_blocks
one-longer i low l m n e new (is, bs) =
    let k : ℕ = length (low ++ (l ∷ [])) in
    let long : length (low ++ (m ∷ (n ∷ []))) ≡ suc k = omega (arith, length-append low (m ∷ (n ∷ [])), length-append low (l ∷ [])) in (
      is,
      blocks-append low (m ∷ (n ∷ [])) ∙ ap (λ (b : ℕ). leaf_blocks low ++ (b ∷ (n.block ∷ []))) e
          ∙ sym (append_assoc (leaf_blocks low) (l.block ∷ []) (n.block ∷ []))
          ∙ ap (λ (z : List ℕ). z ++ (n.block ∷ [])) (sym (blocks-append low (l ∷ [])) ∙ bs) ∙ ap (λ (b : ℕ). count_from 2 k ++ (b ∷ [])) new
          ∙ count-more 2 k ∙ ap (count_from 2) (sym long),
    )

-- a section in the place of another
ordered : (bs : List Section) (s u : Section) (cs : List Section) → OneInOrder (bs ++ s ∷ cs) → (bs ≡ [] → OneInOrder (s ∷ []) → OneInOrder (u ∷ []))
    → OneInOrder (bs ++ u ∷ cs)
unfolding OneInOrder
ordered [] s u [] h g = g refl h
ordered [] s u (c ∷ cs) h g = tt
ordered (b ∷ []) s u cs h g = tt
ordered (b ∷ c ∷ bs) s u cs h g = tt

two-ordered : (bs : List Section) (s u : Section) → OneInOrder (bs ++ (s ∷ (u ∷ [])))
unfolding OneInOrder
two-ordered [] s u = tt
two-ordered (b ∷ []) s u = tt
two-ordered (b ∷ c ∷ bs) s u = tt

-- ---- with no chain a new block comes from word 2

fresh-next : (f : Free) → f.chain ≡ [] → (next f ≡ f.lowest) × ((taken f).chain ≡ []) × ((taken f).lowest ≡ f.lowest + 1)
fresh-next f e =
    let Fresh : Free → Type 0 = λ g. (next g ≡ f.lowest) × ((taken g).chain ≡ []) × ((taken g).lowest ≡ f.lowest + 1) in
    subst (λ (c : List ℕ). Fresh (with_chain f c)) (sym e) (refl, refl, refl)

-- ---- the key of the last record, where one gives way to another with its key

last-key : (p : Description) (bs : List (List ℕ)) (x w : List ℕ) (cs : List (List ℕ)) → key_in p w ≡ key_in p x
    → key_in p (last_in (bs ++ w ∷ cs)) ≡ key_in p (last_in (bs ++ x ∷ cs))
unfolding last_in
last-key p bs x w cs e = ap (key_in p) (last-right bs (w ∷ cs) (omega arith)) ∙ go cs ∙ sym (ap (key_in p) (last-right bs (x ∷ cs) (omega arith)))
  where
    go : (cs : List (List ℕ)) → key_in p (last_in (w ∷ cs)) ≡ key_in p (last_in (x ∷ cs))
    go [] = e
    go (c ∷ cs) = refl

-- ---- the parts of a filled tree

module _ (p : Description) where
  place-leaves : (a : Place) (ls : List Leaf) → lay.leaves_in (tree_with a ls) ≡ (leaves_in a.before ++ a.low) ++ (ls ++ (a.high ++ leaves_in a.behind))
  place-leaves a ls = simp (leaves_in-append, append_assoc)

  -- a block's records give way to others: UPDAT, and XTEND where the last block has room
  pub filled-swap : (a : Place) (m : Leaf) (f : Free) → m.block ≡ a.leaf.block → m.bound ≡ a.leaf.bound
      → key_in p (last_in m.records) ≡ key_in p (last_in a.leaf.records)
      → (Full p a.leaf → Full p m) → (Most p a.leaf → Most p m) → Filled p (tree_in (tree_of a) f) → Filled p (tree_in (tree_with a (m ∷ [])) f)
  filled-swap a m f eb ed ek full most h =
      let pre : List Leaf = leaves_in a.before ++ a.low in
      let post : List Leaf = a.high ++ leaves_in a.behind in
      let was : lay.leaves_in (tree_of a) ≡ pre ++ (a.leaf ∷ post) = place-leaves a (a.leaf ∷ []) in
      let now : lay.leaves_in (tree_with a (m ∷ [])) ≡ pre ++ (m ∷ post) = place-leaves a (m ∷ []) in
      let size : length (a.low ++ (m ∷ a.high)) ≡ length (a.low ++ (a.leaf ∷ a.high))
      = length-append a.low (m ∷ a.high) ∙ sym (length-append a.low (a.leaf ∷ a.high)) in
      record {
        chain = h.chain;
        details = subst (ButLast (Full p) (Most p)) (sym now)
            (swapped (Full p) (Most p) pre a.leaf m post full most (subst (ButLast (Full p) (Most p)) was h.details));
        indexes = swapped (FullIndex p) (MostIndex p) a.before (sec a.index (olds a)) (sec a.index (a.low ++ (m ∷ a.high))) a.behind
            (λ e. size ∙ e) (λ l. omega (arith, size)) h.indexes;
        bounds = subst (ButLast (Tight p) Any) (sym now)
            (swapped (Tight p) Any pre a.leaf m post (λ e. ed ∙ e ∙ sym ek) (λ u. u) (subst (ButLast (Tight p) Any) was h.bounds));
        lowest = omega (
          arith,
          h.lowest,
          ap length was,
          ap length now,
          length-append pre (a.leaf ∷ post),
          length-append pre (m ∷ post),
          length-append a.before (sec a.index (olds a) ∷ a.behind),
          length-append a.before (sec a.index (a.low ++ (m ∷ a.high)) ∷ a.behind),
        );
        order = ordered a.before (sec a.index (olds a)) (sec a.index (a.low ++ (m ∷ a.high))) a.behind h.order
            (λ e. one-swap a.index a.low a.leaf m a.high eb);
      }

  -- a record gives way to another with its key
  pub filled-updated : (a : Place) (f : Free) (ss : List Section) → ss ≡ tree_of a → (bs : List (List ℕ)) (x w : List ℕ) (cs : List (List ℕ))
      → a.leaf.records ≡ bs ++ x ∷ cs → key_in p w ≡ key_in p x
      → Filled p (tree_in ss f) → Filled p (tree_in (tree_with a (with_rows p a.leaf (bs ++ w ∷ cs) ∷ [])) f)
  filled-updated a f ss is bs x w cs q k h =
      let size : length (bs ++ w ∷ cs) ≡ length a.leaf.records = length-append bs (w ∷ cs) ∙ sym (ap length q ∙ length-append bs (x ∷ cs)) in
      filled-swap a (with_rows p a.leaf (bs ++ w ∷ cs)) f refl refl (last-key p bs x w cs k ∙ ap (λ (z : List (List ℕ)). key_in p (last_in z)) (sym q))
      (λ e. size ∙ e) (λ l. omega (arith, size))
      (subst (λ (z : List Section). Filled p (tree_in z f)) is h)

  -- ---- a block starts behind the last one, which is full

  module _ (bs : List Section) (i : ℕ) (low : List Leaf) (l m n : Leaf) (f : Free) (h : Filled p (tree_in (bs ++ (sec i (low ++ (l ∷ [])) ∷ [])) f))
      (full : FD p ≤ length l.records) (size : length m.records ≡ length l.records) (tight : m.bound ≡ key_in p (last_in m.records))
      (block : m.block ≡ l.block) (new : n.block ≡ next f) (few : length n.records ≤ FD p) where
    abbrev pre : List Leaf
    pre = leaves_in bs ++ low

    was : lay.leaves_in (bs ++ (sec i (low ++ (l ∷ [])) ∷ [])) ≡ pre ++ (l ∷ [])
    was = simp (leaves_in-append, append_assoc, append-nil)

    full-now : All (Full p) (pre ++ (m ∷ []))
    full-now =
        let d : ButLast (Full p) (Most p) (pre ++ (l ∷ [])) = subst (ButLast (Full p) (Most p)) was h.details in
        let most : Most p l = ending-one (Full p) (Most p) pre l d in
        all_append (Full p) pre (m ∷ []) (fronts (Full p) (Most p) pre l d) (omega (arith, size, full, most), tt)

    tight-now : All (Tight p) (pre ++ (m ∷ []))
    tight-now = all_append (Tight p) pre (m ∷ []) (fronts (Tight p) Any pre l (subst (ButLast (Tight p) Any) was h.bounds)) (tight, tt)

    -- the tree with both, however they are parted in sections
    with-both : (ss : List Section) (g : Free) → lay.leaves_in ss ≡ pre ++ (m ∷ (n ∷ [])) → g.chain ≡ [] → ButLast (FullIndex p) (MostIndex p) ss
        → g.lowest + length (bs ++ (sec i (low ++ (l ∷ [])) ∷ [])) ≡ f.lowest + length ss + 1 → OneInOrder ss → Filled p (tree_in ss g)
    with-both ss g e c ix lw o =
        let now : lay.leaves_in ss ≡ (pre ++ (m ∷ [])) ++ (n ∷ []) = e ∙ sym (append_assoc pre (m ∷ []) (n ∷ [])) in
        record {
          chain = c;
          details = subst (ButLast (Full p) (Most p)) (sym now) (ends-in (Full p) (Most p) (pre ++ (m ∷ [])) n full-now few);
          indexes = ix;
          bounds = subst (ButLast (Tight p) Any) (sym now) (ends-in (Tight p) Any (pre ++ (m ∷ [])) n tight-now tt);
          lowest = omega (arith, lw, h.lowest, ap length was, ap length e, length-append pre (l ∷ []), length-append pre (m ∷ (n ∷ [])));
          order = o;
        }

    -- in the section of the last
    pub filled-block : length (low ++ (l ∷ [])) < FI p → Filled p (tree_in (bs ++ (sec i (low ++ (m ∷ (n ∷ []))) ∷ [])) (taken f))
    filled-block room =
        let s : Section = sec i (low ++ (l ∷ [])) in
        let u : Section = sec i (low ++ (m ∷ (n ∷ []))) in
        let z = fresh-next f h.chain in
        with-both (bs ++ (u ∷ [])) (taken f) (simp (leaves_in-append, append_assoc, append-nil)) z.1
        (swapped (FullIndex p) (MostIndex p) bs s u [] (λ e. absurd (omega (arith, room, e)))
        (λ e. omega (arith, room, length-append low (l ∷ []), length-append low (m ∷ (n ∷ [])))) h.indexes)
        (omega (arith, z.2, length-append bs (s ∷ []), length-append bs (u ∷ [])))
        (ordered bs s u [] h.order (λ e. one-longer i low l m n block (new ∙ z.0 ∙ omega (arith, h.lowest, ap length was, alone e))))
      where
        alone : bs ≡ [] → length (pre ++ (l ∷ [])) + length (bs ++ (sec i (low ++ (l ∷ [])) ∷ [])) ≡ length (low ++ (l ∷ [])) + 1
        alone e = rw e (omega arith)

    -- in a section of its own
    pub filled-section : (j : ℕ) → FI p ≤ length (low ++ (l ∷ [])) → 1 ≤ FI p
        → Filled p (tree_in (bs ++ (sec i (low ++ (m ∷ [])) ∷ (sec j (n ∷ []) ∷ []))) (taken (taken f)))
    filled-section j most some =
        let s : Section = sec i (low ++ (m ∷ [])) in
        let u : Section = sec j (n ∷ []) in
        let z = fresh-next f h.chain in
        let y = fresh-next (taken f) z.1 in
        let long : length (low ++ (m ∷ [])) ≡ length (low ++ (l ∷ [])) = length-append low (m ∷ []) ∙ sym (length-append low (l ∷ [])) in
        let top : length (low ++ (l ∷ [])) ≤ FI p = ending-one (FullIndex p) (MostIndex p) bs (sec i (low ++ (l ∷ []))) h.indexes in
        with-both (bs ++ (s ∷ (u ∷ []))) (taken (taken f)) (simp (leaves_in-append, append_assoc, append-nil)) y.1
        (subst (ButLast (FullIndex p) (MostIndex p)) (append_assoc bs (s ∷ []) (u ∷ []))
        (ends-in (FullIndex p) (MostIndex p) (bs ++ (s ∷ [])) u
        (all_append (FullIndex p) bs (s ∷ []) (fronts (FullIndex p) (MostIndex p) bs (sec i (low ++ (l ∷ []))) h.indexes)
        (omega (arith, long, most, top), tt)) some))
        (omega (arith, z.2, y.2, length-append bs (sec i (low ++ (l ∷ [])) ∷ []), length-append bs (s ∷ (u ∷ [])))) (two-ordered bs s u)
