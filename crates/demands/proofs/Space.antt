-- The blocks that names put in by NSERT alone can take, and that so many are enough.
use Prim.Native.Nat.{ℕ, suc, ◌+◌, ◌*◌, ◌-◌, ◌/◌, ◌≤◌, ◌<◌}
use mathlib.Core.Bool.{true}
use mathlib.Core.Logic.{◌⊎◌, inl, inr}
use mathlib.Core.Path.{◌≡◌, sym, ◌∙◌, subst}
use mathlib.Core.List.{List, [], ◌∷◌, ◌++◌}
use native.Mathlib.Omega.{arith}
use native.Mathlib.Decide.{dec_le}
use native.Mathlib.Nat.{div-le_self}
use lib.ListN.{length, replicate, take, drop, length-append, length-replicate, length-drop, take-append-drop}
use lib.Seq.{length-take-le}
use Rattle.numbers.specs.Numbers.{no_room}
use Rattle.table.specs.Splits.{low_count}
use Rattle.drum.specs.declared.Description.{Description}
use Rattle.drum.specs.Params.{D, I, FD, FI, good_params}
use Rattle.drum.proofs.Good.{good-facts}
use Rattle.layout.specs.Tree.{Leaf, Section}
use Rattle.rules.specs.State.{State, desc, lent}
use Rattle.rules.specs.Nsert.{half_count}
use Rattle.rules.specs.NsertDone.{nsert}
use Rattle.rules.specs.Open.{create, open_file}
use Rattle.rules.specs.Requests.{inserting, lending, answer, left}
use Rattle.demands.specs.Formula.{h_d, h_i, detail_blocks, index_blocks}
use Rattle.demands.specs.Reuse.{larger}
use Rattle.demands.specs.Full.{HalfFull}
use Rattle.demands.specs.Space.{most_details, most_sections, most_blocks, SpaceWithin, BlocksWithin, RoomForAll}
use Rattle.demands.proofs.Trees.{leaves_in, records_in}
use Rattle.demands.proofs.Holds.{Free}
use Rattle.demands.proofs.Texts.{half}
use Rattle.demands.proofs.Places.{Place, tree_of, olds}
use Rattle.demands.proofs.Frees.{free_count, taken}
use Rattle.demands.proofs.InUse.{indexes-are}
use Rattle.demands.proofs.AllBlocks.{below-lowest}
use Rattle.demands.proofs.Potential.{paid-first}
use Rattle.demands.proofs.Growth.{Growth, Tally}
use Rattle.demands.proofs.Changes.{grow-split, grow-both}
use Rattle.demands.proofs.Reuse.{larger-least, larger-first, larger-second}
use Rattle.demands.proofs.Plans.{bought}
use Rattle.demands.proofs.Answered.{readied}
use Rattle.demands.proofs.NsertRight.{Nserted, duplicate, room, split, both, no_room_lem, nsert-right}
use Rattle.demands.proofs.Stuck.{keyed-of, stored-number}
use Rattle.demands.proofs.OnlyNserts.{Grew}
use Rattle.demands.proofs.HalfFull.{half_full, grew-full}
use Rattle.demands.proofs.Full.{ran}

-- ---- how many blocks there can be

-- n blocks, each paid for by a rows of m, if there is more than one
fits_in : (a n m : ℕ) → 1 ≤ a → (2 ≤ n → a * n ≤ m) → n ≤ larger 1 (m / a)
fits_in a n m some h = go (dec_le 2 n)
  where
    go : Dec (2 ≤ n) → n ≤ larger 1 (m / a)
    go (yes l) = omega (arith, bought a n m m some (h l) (omega arith), larger-second 1 (m / a))
    go (no l) = omega (arith, larger-first 1 (m / a))

module _ (p : Description) (good : good_params p ≡ true) where
  half-records : 1 ≤ h_d p
  unfolding h_d
  half-records = omega (arith, (good-facts p good).two_records)

  half-entries : 1 ≤ h_i p
  unfolding h_i
  half-entries = omega (arith, (good-facts p good).two-entries)

  pub details-fit : (r n : ℕ) → (2 ≤ n → h_d p * n ≤ r + 1) → n ≤ most_details p r
  unfolding most_details
  details-fit r n h = fits_in (h_d p) n (r + 1) half-records h

  pub sections-fit : (r n : ℕ) → (2 ≤ n → h_i p * n ≤ most_details p r) → n ≤ most_sections p r
  unfolding most_sections
  sections-fit r n h = fits_in (h_i p) n (most_details p r) half-entries h

-- no more than a block for each name and one for the end record
pub details-most : (p : Description) (r : ℕ) → most_details p r ≤ r + 1
unfolding most_details
details-most p r = larger-least 1 ((r + 1) / h_d p) (r + 1) (omega arith) (div-le_self (r + 1) (h_d p))

pub sections-most : (p : Description) (r : ℕ) → most_sections p r ≤ r + 1
unfolding most_sections
sections-most p r =
    larger-least 1 (most_details p r / h_i p) (r + 1) (omega arith) (omega (arith, div-le_self (most_details p r) (h_i p), details-most p r))

pub blocks-most : (p : Description) (r : ℕ) → most_blocks p r ≤ 2 * (r + 1)
unfolding most_blocks
blocks-most p r = omega (arith, details-most p r, sections-most p r)

-- ---- a split that is wanted is paid for, whether there is a block for it or not

-- a leaf of so many records
abbrev leaf_of : ℕ → Leaf
leaf_of n = record { bound = []; block = 0; records = replicate n [] }

module _ (p : Description) (good : good_params p ≡ true) (a : Place) (g : Growth) (t : Tally p (tree_of a) g) (top : length a.leaf.records ≡ D p) where
  abbrev low : Leaf
  low = leaf_of (low_count (D p))

  abbrev high : Leaf
  high = leaf_of (D p + 1 - low_count (D p))

  -- of a full detail block
  split-paid : (D p + 1) / 2 * suc g.splits + D p / 2 ≤ suc g.records
  split-paid =
      let h = grow-split p good a low high top (length-replicate (low_count (D p)) []) (length-replicate (D p + 1 - low_count (D p)) []) in
      omega (arith, paid-first (D p) (FD p) _ _ _ _ (h.tally g t).leaves (omega arith))

  -- and of its index block, which is full too
  index-paid : length (olds a) ≡ I p → (I p + 1) / 2 * suc g.index-splits + I p / 2 ≤ suc (g.splits + g.starts)
  index-paid most =
      let ns : List Leaf = a.low ++ (low ∷ (high ∷ a.high)) in
      let k : ℕ = low_count (I p) in
      let long : length ns ≡ I p + 1
      = omega (arith, length-append a.low (low ∷ (high ∷ a.high)), length-append a.low (a.leaf ∷ a.high), most) in
      let two = half (I p) (good-facts p good).two-entries in
      let h = grow-both p good a low high 0 (take k ns) (drop k ns) (take-append-drop k ns) top (length-replicate (low_count (D p)) [])
      (length-replicate (D p + 1 - low_count (D p)) []) most (length-take-le k ns (omega (arith, long, two)))
      (length-drop k ns ∙ omega (arith, long)) in
      omega (arith, paid-first (I p) (FI p) _ _ _ _ (h.tally g t).entries (omega arith))

-- ---- a state of a file that NSERT alone has changed

module _ (st : State) (ss : List Section) (f : Free) (g : Growth) (k : Grew st ss f g) (r : ℕ) where
  abbrev p : Description
  p = desc st

  good : good_params p ≡ true
  good = k.sound.kept.good

  pub within : g.records ≤ r → SpaceWithin (desc st) r st
  unfolding most_blocks
  within l =
      let b : HalfFull st (length (records_in (leaves_in ss))) = grew-full st ss f g k in
      let x : detail_blocks st ≤ most_details p r = details-fit p good r (detail_blocks st) (λ m. omega (arith, b.details m, k.records, l)) in
      let y : index_blocks st ≤ most_sections p r = sections-fit p good r (index_blocks st) (λ m. omega (arith, b.indexes m, x)) in
      record { details = x; sections = y; blocks = omega (arith, x, y) }

  -- the blocks in use and the free ones are all
  all_blocks : length (leaves_in ss) + length ss + free_count f ≡ p.n
  all_blocks = omega (arith, below-lowest p _ _ ss f k.sound.kept.holds, k.sound.kept.holds.numbers)

  module _ (few : g.records < r) (blocks : most_blocks (desc st) r ≤ (desc st).n) (sections : most_sections (desc st) r ≤ (desc st).control) where
    -- a full block has one to split into, and where its index block is full too there is a section
    module _ (a : Place) (is : ss ≡ tree_of a) (top : length a.leaf.records ≡ D p) where
      paid : Tally p (tree_of a) g
      paid = subst (λ (z : List Section). Tally p z g) is k.paid

      one_more_lem : 2 + g.splits ≤ most_details p r
      unfolding h_d
      one_more_lem = details-fit p good r (2 + g.splits)
          (λ m. omega (arith, few, half_full (D p) (1 + g.splits) (1 + g.records) (omega (arith, split-paid p good a g paid top))))

      section-more : length (olds a) ≡ I p → 2 + g.index-splits ≤ most_sections p r
      unfolding h_i
      section-more most =
          sections-fit p good r (2 + g.index-splits)
          (λ m. omega (
            arith,
            one_more_lem,
            half_full (I p) (1 + g.index-splits) (1 + g.splits) (omega (arith, index-paid p good a g paid top most, k.none)),
          ))

      enough : (free_count f ≡ 0) ⊎ ((length (olds a) ≡ I p) × ((free_count f ≡ 1) ⊎ (p.control ≤ length ss))) → ⊥
      unfolding most_blocks
      enough (inl z) =
          omega (arith, z, all_blocks, one_more_lem, (within (omega arith)).sections, blocks, k.leaves, k.indexes, indexes-are st ss f k.sound)
      enough (inr (most, inl z)) = omega (arith, z, all_blocks, one_more_lem, section-more most, blocks, k.leaves, k.indexes)
      enough (inr (most, inr z)) = omega (arith, z, section-more most, sections, k.indexes)

    pub has_room_lem : (w : List ℕ) → (answer st (inserting w)).number ≡ no_room → ⊥
    unfolding answer lending nsert
    has_room_lem w e = go (nsert-right (lending w st) ss f (readied st ss f k.sound p.wpr w (keyed-of st ss f k.sound w e)))
      where
        go : Nserted (lending w st) ss f → ⊥
        go (duplicate y q h) = omega (arith, h.number-is, e)
        go (room q a B l h) = stored-number p (length a.leaf.records + 1) f (nsert (lending w st)).number h.number-is e
        go (split q a B l m z i u h) = stored-number p (half_count (D p) i) (taken f) (nsert (lending w st)).number h.number-is e
        go (both q a B l m z d i u h) = stored-number p (half_count (D p) i) (taken (taken f)) (nsert (lending w st)).number h.number-is e
        go (no_room_lem q a B l why h) = enough a B.is l why

-- ---- after any such run

pub blocks-within : BlocksWithin
blocks-within session f buffer work marks c o qs only r l =
    let e = ran session f buffer work marks c o qs only in
    subst (λ (d : Description). SpaceWithin d r (left (open_file (lent session (create session.desc f).file buffer work) marks).outcome.after qs))
    e.desc-is (within _ e.sections e.free _ e.grew r (omega (arith, l)))

pub room-for-all : RoomForAll
room-for-all session f buffer work marks c o qs only r blocks sections few w =
    let e = ran session f buffer work marks c o qs only in
    has_room_lem _ e.sections e.free _ e.grew r (omega (arith, few)) (subst (λ (d : Description). most_blocks d r ≤ d.n) (sym e.desc-is) blocks)
    (subst (λ (d : Description). most_sections d r ≤ d.control) (sym e.desc-is) sections) w
