-- One new block, and two with a section, on the free blocks of a held tree: what NSERT and XTEND are given.
use Prim.Native.Nat.{◌≤◌, ◌<◌}
use mathlib.Core.Bool.{Bool, false}
use mathlib.Core.Path.{◌≡◌}
use mathlib.Core.List.{List}
use native.Mathlib.Omega.{arith}
use lib.Dec.{eqb}
use lib.ListN.{length}
use borrow.Author.Tests.{ne_eqb, le-leb, lt-leb}
use Rattle.numbers.specs.Checked.{passed}
use Rattle.drum.specs.declared.Description.{Description}
use Rattle.drum.specs.Blocks.{Texts, text_of, chain_head, lowest_unused, sections}
use Rattle.rules.specs.declared.Taken.{Taken}
use Rattle.rules.specs.Free.{take_one, take_two}
use Rattle.layout.specs.Tree.{Section}
use Rattle.demands.proofs.Holds.{Free, HoldsCells, head_or}
use Rattle.demands.proofs.Places.{Place, tree_of}
use Rattle.demands.proofs.Blocks.{master_of}
use Rattle.demands.proofs.Entries.{head-is, lowest-is, sections-is}
use Rattle.demands.proofs.Paths.{path_of}
use Rattle.demands.proofs.Sound.{KeptTree}
use Rattle.demands.proofs.Frees.{next, free_count, taken, taken_of, FreeOk, free-ok, free-taken, taken-count, grant-none, grant-some}
use Rattle.demands.proofs.Frees.{next-outside, second-outside, second-other, next-in, second-in, new-pass}

-- no block, and words 1 and 2 as they are
abbrev pub none_of : Free → Taken
none_of f = record { block = 0; head = head_or f.chain 0; lowest = f.lowest }

module _ (v : Texts) (flag : Bool) (ss : List Section) (f : Free) (k : KeptTree v flag ss f) (a : Place) (is : ss ≡ tree_of a) where
  abbrev p : Description
  p = v.desc

  hd : HoldsCells p (master_of p v.file) (text_of v) ss f
  hd = k.holds

  fr : FreeOk v f
  fr = free-ok v ss f _ hd

  heads : chain_head v.file ≡ head_or f.chain 0
  heads = head-is p v.file ss f hd.master-is hd.sized

  lows : lowest_unused v.file ≡ f.lowest
  lows = lowest-is p v.file ss f hd.master-is hd.sized

  secs : sections v.file ≡ length ss
  secs = sections-is p v.file ss f hd.master-is hd.sized

  -- the next free block is one
  pub next-is : 1 ≤ free_count f → eqb (next f) 0 ≡ false
  next-is some = ne_eqb (next f) 0 (λ e. omega (arith, e, next-in p _ _ ss f hd some))

  -- one new block is asked for: there is none, or it is the next one
  pub one_none : free_count f ≡ 0 → take_one v flag (path_of a) ≡ passed (none_of f)
  unfolding take_one
  one_none z = simp (heads, lows, grant-none v f fr z)

  pub one-some : 1 ≤ free_count f → take_one v flag (path_of a) ≡ passed (taken_of f)
  unfolding take_one
  one-some some =
      simp (heads, lows, grant-some v k.good f fr some, next-is some, new-pass v flag ss f k a is (next f) (next-outside p _ _ ss f hd some))

  -- two are asked for, and a section: there is none, only one, or no section is left; or they are the next two
  pub two_none : free_count f ≡ 0 → take_two v flag (path_of a) ≡ passed (record { detail = 0; index = none_of f })
  unfolding take_two
  two_none z = simp (heads, lows, grant-none v f fr z)

  pub two-few : free_count f ≡ 1 → take_two v flag (path_of a) ≡ passed (record { detail = 0; index = none_of (taken f) })
  unfolding take_two
  two-few z =
      let some : 1 ≤ free_count f = omega arith in
      simp (
        heads,
        lows,
        grant-some v k.good f fr some,
        grant-none v (taken f) (free-taken v f fr some) (omega (arith, z, taken-count f some)),
        next-is some,
      )

  module _ (two : 2 ≤ free_count f) where
    some : 1 ≤ free_count f
    some = omega (arith, two)

    some₂ : 1 ≤ free_count (taken f)
    some₂ = omega (arith, two, taken-count f some)

    second_is : eqb (next (taken f)) 0 ≡ false
    second_is = ne_eqb (next (taken f)) 0 (λ e. omega (arith, e, second-in p _ _ ss f hd some some₂))

    pub two-full : p.control ≤ length ss → take_two v flag (path_of a) ≡ passed (record { detail = 0; index = taken_of (taken f) })
    unfolding take_two
    two-full c =
        simp (
          heads,
          lows,
          grant-some v k.good f fr some,
          grant-some v k.good (taken f) (free-taken v f fr some) some₂,
          next-is some,
          second_is,
          secs,
          le-leb p.control (length ss) c,
        )

    pub two-some : length ss < p.control → take_two v flag (path_of a) ≡ passed (record { detail = next f; index = taken_of (taken f) })
    unfolding take_two
    two-some c =
        simp (
          heads,
          lows,
          grant-some v k.good f fr some,
          grant-some v k.good (taken f) (free-taken v f fr some) some₂,
          next-is some,
          second_is,
          secs,
          lt-leb p.control (length ss) c,
          new-pass v flag ss f k a is (next f) (next-outside p _ _ ss f hd some),
          new-pass v flag ss f k a is (next (taken f)) (second-outside p _ _ ss f hd some some₂),
          ne_eqb (next (taken f)) (next f) (second-other p _ _ ss f hd some some₂),
        )
