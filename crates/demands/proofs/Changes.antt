-- The changes that calls make to a tree, and what each brings: both levels stay paid for.
use Prim.Native.Nat.{ℕ, suc, ◌+◌, ◌-◌, ◌≤◌}
use mathlib.Core.Bool.{true}
use mathlib.Core.Path.{◌≡◌, refl, sym, ap, ◌∙◌, subst}
use mathlib.Core.List.{List, [], ◌∷◌, ◌++◌, append_assoc, append-nil}
use native.Mathlib.Omega.{arith}
use lib.ListN.{length, length-append}
use Rattle.table.specs.Splits.{low_count}
use Rattle.drum.specs.declared.Description.{Description}
use Rattle.drum.specs.Params.{D, I, FD, FI, good_params}
use Rattle.drum.proofs.Good.{good-facts}
use Rattle.layout.specs.Tree.{Leaf, Section}
use Rattle.demands.proofs.Trees.{leaves_in, leaves_in-append}
use Rattle.demands.proofs.Steps.{sec}
use Rattle.demands.proofs.Places.{Place, tree_of, tree_with, olds}
use Rattle.demands.proofs.Potential.{Paid, paid-add, paid-less, paid-split, paid-start, paid-gone}
use Rattle.demands.proofs.Growth.{counts, sizes, counts-append, sizes-append, Growth, nothing, a_record, a_split, both_split, a_start, both_start, Tally}
use Rattle.demands.proofs.Growth.{Grows, tally-by, grow-as}

-- the leaves before the place, and behind it
abbrev pub ahead : Place → List Leaf
ahead a = leaves_in a.before ++ a.low

abbrev pub rest : Place → List Leaf
rest a = a.high ++ leaves_in a.behind

module _ (a : Place) (ls : List Leaf) where
  leaves-with : leaves_in (tree_with a ls) ≡ ahead a ++ (ls ++ rest a)
  leaves-with = simp (leaves_in-append, append_assoc)

  counts_with : counts (leaves_in (tree_with a ls)) ≡ counts (ahead a) ++ (counts ls ++ counts (rest a))
  counts_with = rw (leaves-with, counts-append (ahead a) (ls ++ rest a), counts-append ls (rest a))

  sizes-with : sizes (tree_with a ls) ≡ sizes a.before ++ (length (a.low ++ (ls ++ a.high)) ∷ sizes a.behind)
  unfolding sizes
  sizes-with = sizes-append a.before (sec a.index (a.low ++ (ls ++ a.high)) ∷ a.behind)

  length-with : length (leaves_in (tree_with a ls)) ≡ length (ahead a) + (length ls + length (rest a))
  length-with = rw (leaves-with, length-append (ahead a) (ls ++ rest a), length-append ls (rest a))

  sections-with : length (tree_with a ls) ≡ suc (length a.before + length a.behind)
  sections-with = rw (length-append a.before (sec a.index (a.low ++ (ls ++ a.high)) ∷ a.behind)) (omega arith)

  section-with : length (a.low ++ (ls ++ a.high)) ≡ length ls + (length a.low + length a.high)
  section-with = rw (length-append a.low (ls ++ a.high), length-append ls a.high) (omega arith)

module _ (p : Description) (good : good_params p ≡ true) (a : Place) where
  abbrev c : ℕ
  c = length a.leaf.records

  abbrev n : ℕ
  n = length (olds a)

  d2 : 2 ≤ D p
  d2 = (good-facts p good).two_records

  i2 : 2 ≤ I p
  i2 = (good-facts p good).two-entries

  module _ (h : Growth) (t : Tally p (tree_of a) h) where
    was : Paid (D p) (FD p) (counts (ahead a) ++ (c ∷ counts (rest a))) h.records h.splits h.starts
    was = unfold counts in (rw (counts_with a (a.leaf ∷ [])) at t.leaves)

    was-entries : Paid (I p) (FI p) (sizes a.before ++ (n ∷ sizes a.behind)) (h.splits + h.starts) h.index-splits h.index-starts
    was-entries = rw (sizes-with a (a.leaf ∷ [])) at t.entries

  -- other leaves at the place, as many as before or more: how many more blocks are in use
  more-details : (ls : List Leaf) → length (leaves_in (tree_with a ls)) - length (leaves_in (tree_of a)) ≡ length ls - 1
  more-details ls = omega (arith, length-with a ls, length-with a (a.leaf ∷ []))

  same-indexes : (ls : List Leaf) → length (tree_with a ls) - length (tree_of a) ≡ 0
  same-indexes ls = omega (arith, sections-with a ls, sections-with a (a.leaf ∷ []))

  entries-same : (l' : Leaf) → sizes a.before ++ (n ∷ sizes a.behind) ≡ sizes (tree_with a (l' ∷ []))
  entries-same l' = rw (sizes-with a (l' ∷ []), section-with a (l' ∷ []), section-with a (a.leaf ∷ []))

  -- ---- other records in the leaf

  -- as many, or fewer: UPDAT, and DLETE that leaves some
  pub grow-less : (l' : Leaf) → length l'.records ≤ c → Grows p (tree_of a) (tree_with a (l' ∷ [])) nothing
  unfolding counts
  grow-less l' e = record {
    tally =
        λ h t. tally-by p (tree_with a (l' ∷ [])) nothing h _ _ h.records h.splits h.starts (h.splits + h.starts) h.index-splits
        h.index-starts
        (paid-less (D p) (FD p) d2 h.records h.splits h.starts (counts (ahead a)) c (counts (rest a)) (was h t) (length l'.records) e)
        (was-entries h t)
        (sym (counts_with a (l' ∷ []))) (entries-same l')
        (omega arith) (omega arith) (omega arith) (omega arith) (omega arith) (omega arith);
    details = more-details (l' ∷ []);
    indexes = same-indexes (l' ∷ []);
  }

  -- one more: NSERT and XTEND where there is room
  pub grow-room : (l' : Leaf) → length l'.records ≡ suc c → Grows p (tree_of a) (tree_with a (l' ∷ [])) a_record
  unfolding counts
  grow-room l' e = record {
    tally =
        λ h t. tally-by p (tree_with a (l' ∷ [])) a_record h _ _ (suc h.records) h.splits h.starts (h.splits + h.starts) h.index-splits
        h.index-starts
        (paid-add (D p) (FD p) d2 h.records h.splits h.starts (counts (ahead a)) c (counts (rest a)) (was h t))
        (was-entries h t)
        (rw (counts_with a (l' ∷ []), e)) (entries-same l')
        (omega arith) (omega arith) (omega arith) (omega arith) (omega arith) (omega arith);
    details = more-details (l' ∷ []);
    indexes = same-indexes (l' ∷ []);
  }

  -- ---- the leaf becomes two

  module _ (l₁ l₂ : Leaf) where
    -- the entry of the new leaf comes into its section
    two-entries : (h : Growth) → Tally p (tree_of a) h
        → Paid (I p) (FI p) (sizes (tree_with a (l₁ ∷ (l₂ ∷ [])))) (suc (h.splits + h.starts)) h.index-splits h.index-starts
    two-entries h t =
        let more : length (a.low ++ (l₁ ∷ (l₂ ∷ a.high))) ≡ suc n = omega (arith, section-with a (l₁ ∷ (l₂ ∷ [])), section-with a (a.leaf ∷ [])) in
        rw (sizes-with a (l₁ ∷ (l₂ ∷ [])), more)
        (paid-add (I p) (FI p) i2 (h.splits + h.starts) h.index-splits h.index-starts (sizes a.before) n (sizes a.behind) (was-entries h t))

    -- NSERT into a full leaf: (D+2)/2 records stay, and the rest go to the new one
    split-leaves : c ≡ D p → length l₁.records ≡ low_count (D p) → length l₂.records ≡ D p + 1 - low_count (D p) → (h : Growth) → Tally p (tree_of a) h
        → Paid (D p) (FD p) (counts (leaves_in (tree_with a (l₁ ∷ (l₂ ∷ []))))) (suc h.records) (suc h.splits) h.starts
    unfolding counts
    split-leaves full e₁ e₂ h t =
        rw (counts_with a (l₁ ∷ (l₂ ∷ [])), e₁, e₂)
        (paid-split (D p) (FD p) d2 h.records h.splits h.starts (counts (ahead a)) c (counts (rest a)) (was h t) full)

    -- XTEND behind the last leaf, which holds FD records or more: the new one starts with the end record
    start-leaves : a.high ≡ [] → a.behind ≡ [] → FD p ≤ c → length l₁.records ≡ c → length l₂.records ≡ 1 → (h : Growth) → Tally p (tree_of a) h
        → Paid (D p) (FD p) (counts (leaves_in (tree_with a (l₁ ∷ (l₂ ∷ []))))) (suc h.records) h.splits (suc h.starts)
    unfolding counts
    start-leaves e₃ e₄ fill e₁ e₂ h t =
        let none : rest a ≡ [] = rw (e₃, e₄) in
        rw (counts_with a (l₁ ∷ (l₂ ∷ [])), e₁, e₂, none)
        (paid-start (D p) (FD p) d2 h.records h.splits h.starts (counts (ahead a)) c (counts (rest a)) (was h t) (ap counts none) fill)

    pub grow-split : c ≡ D p → length l₁.records ≡ low_count (D p) → length l₂.records ≡ D p + 1 - low_count (D p)
        → Grows p (tree_of a) (tree_with a (l₁ ∷ (l₂ ∷ []))) a_split
    grow-split full e₁ e₂ = record {
      tally =
          λ h t. tally-by p (tree_with a (l₁ ∷ (l₂ ∷ []))) a_split h _ _ (suc h.records) (suc h.splits) h.starts (suc (h.splits + h.starts))
          h.index-splits h.index-starts
          (split-leaves full e₁ e₂ h t) (two-entries h t) refl refl (omega arith) (omega arith) (omega arith) (omega arith) (omega arith) (omega arith);
      details = more-details (l₁ ∷ (l₂ ∷ []));
      indexes = same-indexes (l₁ ∷ (l₂ ∷ []));
    }

    pub grow-start : a.high ≡ [] → a.behind ≡ [] → FD p ≤ c → length l₁.records ≡ c → length l₂.records ≡ 1
        → Grows p (tree_of a) (tree_with a (l₁ ∷ (l₂ ∷ []))) a_start
    grow-start e₃ e₄ fill e₁ e₂ = record {
      tally =
          λ h t. tally-by p (tree_with a (l₁ ∷ (l₂ ∷ []))) a_start h _ _ (suc h.records) h.splits (suc h.starts) (suc (h.splits + h.starts))
          h.index-splits h.index-starts
          (start-leaves e₃ e₄ fill e₁ e₂ h t) (two-entries h t) refl refl (omega arith) (omega arith) (omega arith) (omega arith) (omega arith) (omega arith);
      details = more-details (l₁ ∷ (l₂ ∷ []));
      indexes = same-indexes (l₁ ∷ (l₂ ∷ []));
    }

    -- ---- and its section two: the leaves as', and the leaves bs' under a new index block

    module _ (nib : ℕ) (as' bs' : List Leaf) (cut : as' ++ bs' ≡ a.low ++ (l₁ ∷ (l₂ ∷ a.high))) where
      abbrev tree₂ : List Section
      tree₂ = a.before ++ (sec a.index as' ∷ (sec nib bs' ∷ a.behind))

      leaves-cut : leaves_in tree₂ ≡ leaves_in (tree_with a (l₁ ∷ (l₂ ∷ [])))
      leaves-cut =
          rw (
            leaves_in-append a.before (sec a.index as' ∷ (sec nib bs' ∷ a.behind)),
            leaves_in-append a.before
                (sec a.index (a.low ++ (l₁ ∷ (l₂ ∷ a.high))) ∷ a.behind),
            ← cut,
          )
          (ap (λ (z : List Leaf). leaves_in a.before ++ z) (sym (append_assoc as' bs' (leaves_in a.behind))))

      sizes-cut : sizes tree₂ ≡ sizes a.before ++ (length as' ∷ (length bs' ∷ sizes a.behind))
      unfolding sizes
      sizes-cut = sizes-append a.before (sec a.index as' ∷ (sec nib bs' ∷ a.behind))

      cut-details : length (leaves_in tree₂) - length (leaves_in (tree_of a)) ≡ 1
      cut-details = rw leaves-cut (more-details (l₁ ∷ (l₂ ∷ [])))

      cut-indexes : length tree₂ - length (tree_of a) ≡ 1
      cut-indexes = omega (arith, length-append a.before (sec a.index as' ∷ (sec nib bs' ∷ a.behind)), sections-with a (a.leaf ∷ []))

      -- NSERT: (I+2)/2 entries stay
      pub grow-both : c ≡ D p → length l₁.records ≡ low_count (D p) → length l₂.records ≡ D p + 1 - low_count (D p)
          → n ≡ I p → length as' ≡ low_count (I p) → length bs' ≡ I p + 1 - low_count (I p)
          → Grows p (tree_of a) (a.before ++ (sec a.index as' ∷ (sec nib bs' ∷ a.behind))) both_split
      grow-both full e₁ e₂ fulli e₃ e₄ = record {
        tally =
            λ h t. tally-by p tree₂ both_split h _ _ (suc h.records) (suc h.splits) h.starts (suc (h.splits + h.starts)) (suc h.index-splits)
            h.index-starts
            (split-leaves full e₁ e₂ h t)
            (paid-split (I p) (FI p) i2 (h.splits + h.starts) h.index-splits h.index-starts (sizes a.before) n (sizes a.behind)
            (was-entries h t) fulli)
            (ap counts (sym leaves-cut)) (rw (sizes-cut, e₃, e₄)) (omega arith) (omega arith) (omega arith) (omega arith) (omega arith) (omega arith);
        details = cut-details;
        indexes = cut-indexes;
      }

      -- XTEND behind the last section, which holds FI entries or more
      pub grow-start-both : a.high ≡ [] → a.behind ≡ [] → FD p ≤ c → length l₁.records ≡ c → length l₂.records ≡ 1
          → FI p ≤ n → length as' ≡ n → length bs' ≡ 1 → Grows p (tree_of a) (a.before ++ (sec a.index as' ∷ (sec nib bs' ∷ a.behind))) both_start
      unfolding sizes
      grow-start-both e₃ e₄ fill e₁ e₂ filli e₅ e₆ = record {
        tally =
            λ h t. tally-by p tree₂ both_start h _ _ (suc h.records) h.splits (suc h.starts) (suc (h.splits + h.starts)) h.index-splits
            (suc h.index-starts)
            (start-leaves e₃ e₄ fill e₁ e₂ h t)
            (paid-start (I p) (FI p) i2 (h.splits + h.starts) h.index-splits h.index-starts (sizes a.before) n (sizes a.behind)
            (was-entries h t) (ap sizes e₄) filli)
            (ap counts (sym leaves-cut)) (rw (sizes-cut, e₅, e₆, e₄)) (omega arith) (omega arith) (omega arith) (omega arith) (omega arith) (omega arith);
        details = cut-details;
        indexes = cut-indexes;
      }

  -- ---- the leaf goes, which is not the last of the file: DLETE that empties it

  pub grow-drop : (m : Leaf) (ms : List Leaf) → rest a ≡ m ∷ ms → Grows p (tree_of a) (tree_with a []) nothing
  unfolding counts
  grow-drop m ms e = record {
    tally = λ h t. tally-by p (tree_with a []) nothing h _ _ h.records h.splits h.starts (h.splits + h.starts) h.index-splits h.index-starts
        (paid-gone (D p) (FD p) d2 h.records h.splits h.starts (counts (ahead a)) c (counts (rest a)) (was h t) (length m.records) (counts ms)
        (ap counts e))
        (paid-less (I p) (FI p) i2 (h.splits + h.starts) h.index-splits h.index-starts (sizes a.before) n (sizes a.behind) (was-entries h t)
        (length (a.low ++ a.high))
        (omega (arith, section-with a [], section-with a (a.leaf ∷ []))))
        (sym (counts_with a [])) (sym (sizes-with a []))
        (omega arith) (omega arith) (omega arith) (omega arith) (omega arith) (omega arith);
    details = more-details [];
    indexes = same-indexes [];
  }

  -- another leaf follows it in its section
  pub grow-inner : (m : Leaf) (hs : List Leaf) → a.high ≡ m ∷ hs → Grows p (tree_of a) (a.before ++ (sec a.index (a.low ++ (m ∷ hs)) ∷ a.behind)) nothing
  grow-inner m hs e =
      subst (λ (z : List Leaf). Grows p (tree_of a) (a.before ++ (sec a.index (a.low ++ z) ∷ a.behind)) nothing) e
      (grow-drop m (hs ++ leaves_in a.behind) (ap (λ (z : List Leaf). z ++ leaves_in a.behind) e))

  -- it is the last of its section, and a section follows
  module _ (high-none : a.high ≡ []) (s : Section) (cs : List Section) (follows : a.behind ≡ s ∷ cs) (some : 1 ≤ length s.leaves) where
    drop-last : Grows p (tree_of a) (tree_with a []) nothing
    drop-last = go s.leaves refl some
      where
        go : (ls : List Leaf) → s.leaves ≡ ls → 1 ≤ length ls → Grows p (tree_of a) (tree_with a []) nothing
        go [] e l = absurd (omega arith)
        go (m ∷ ms) e l = grow-drop m (ms ++ leaves_in cs) (rw (high-none, follows, e))

    -- the one before takes its bound
    pub grow_last : (low : List Leaf) (y y' : Leaf) → a.low ≡ low ++ (y ∷ []) → length y'.records ≡ length y.records
        → Grows p (tree_of a) (a.before ++ (sec a.index (low ++ (y' ∷ [])) ∷ a.behind)) nothing
    unfolding counts sizes
    grow_last low y y' e l = grow-as p (tree_of a) (tree_with a []) _ nothing
        (rw (e, high-none) (simp (leaves_in-append, counts-append, append_assoc, l)))
        (sizes-with a [] ∙ ap (λ (z : ℕ). sizes a.before ++ (z ∷ sizes a.behind)) as_many ∙ sym
        (sizes-append a.before (sec a.index (low ++ (y' ∷ [])) ∷ a.behind)))
        drop-last
      where
        as_many : length (a.low ++ a.high) ≡ length (low ++ (y' ∷ []))
        as_many = rw (high-none, append-nil a.low, e, length-append low (y ∷ []), length-append low (y' ∷ []))

    -- it is the only one of its section, which goes too
    gone-leaves : a.low ≡ [] → leaves_in (tree_with a []) ≡ leaves_in (a.before ++ a.behind)
    gone-leaves e = rw (e, high-none) (simp leaves_in-append)

    pub grow-section : a.low ≡ [] → Grows p (tree_of a) (a.before ++ a.behind) nothing
    grow-section e = record {
      tally =
          λ h t. tally-by p (a.before ++ a.behind) nothing h _ _ (0 + h.records) (0 + h.splits) (0 + h.starts) (h.splits + h.starts) h.index-splits
          h.index-starts
          (drop-last.tally h t).leaves
          (paid-gone (I p) (FI p) i2 (h.splits + h.starts) h.index-splits h.index-starts (sizes a.before) n (sizes a.behind) (was-entries h t)
          (length s.leaves) (sizes cs) (unfold sizes in ap sizes follows))
          (ap counts (gone-leaves e)) (sym (sizes-append a.before a.behind))
          (omega arith) (omega arith) (omega arith) (omega arith) (omega arith) (omega arith);
      details = omega (arith, ap length (gone-leaves e), length-with a [], length-with a (a.leaf ∷ []));
      indexes = omega (arith, length-append a.before a.behind, sections-with a (a.leaf ∷ []));
    }
