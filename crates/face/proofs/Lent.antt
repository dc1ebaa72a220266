-- What refusals that passed leave to rely on: all that the steps of a call and its answer ask for.
use Prim.Native.Nat.{ℕ, ◌≤◌}
use mathlib.Core.Path.{◌≡◌}
use mathlib.Core.Bool.{Bool, true}
use mathlib.Core.List.{List}
use native.Mathlib.Omega.{arith}
use lib.ListN.{length}
use borrow.Author.Rules.{rules}
use Rattle.drum.specs.declared.Description.{Description}
use Rattle.drum.specs.Params.{good_params}
use Rattle.drum.specs.Blocks.{Fitting}
use Rattle.drum.proofs.Good.{caps}
use Rattle.numbers.specs.Checked.{passed}
use Rattle.face.specs.Checks.{plain_checks, keyed_checks}
use Rattle.face.proofs.Refusing.{Lent, keyed-lent, plain-lent}

lent-fitting : (p : Description) (f b : List ℕ) (work : ℕ) → Lent p (length f) (length b) work → Fitting p f b
lent-fitting p f b work h = record { good = h.good; file-is = h.file-is; buffer-is = h.buffer-is }

lent-most : (p : Description) (file buffer work : ℕ) → Lent p file buffer work → p.k ≤ 63
lent-most p file buffer work h = (caps p h.good).facts.k-most

lent-room : (p : Description) (file buffer work : ℕ) → Lent p file buffer work → p.k ≤ work
lent-room p file buffer work h = let g = caps p h.good in let l = h.work-is in omega arith

module _ (p : Description) (opened : Bool) (f b w : List ℕ) (reads : ℕ) (e : passed true ≡ keyed_checks p opened (length f) (length b) w reads) where
  keyed-passed : Lent p (length f) (length b) (length w)
  keyed-passed = keyed-lent p opened (length f) (length b) w reads e

  pub keyed-fitting : Fitting p f b
  keyed-fitting = lent-fitting p f b (length w) keyed-passed

  pub keyed-whole : length w ≡ p.wpr
  keyed-whole = keyed-passed.work-is

  pub keyed-most : p.k ≤ 63
  keyed-most = lent-most p (length f) (length b) (length w) keyed-passed

  pub keyed-room : (m : ℕ) → m ≡ length w → p.k ≤ m
  keyed-room m i = rw i (lent-room p (length f) (length b) (length w) keyed-passed)

module _ (p : Description) (opened : Bool) (f b w : List ℕ) (e : passed true ≡ plain_checks p opened (length f) (length b) (length w)) where
  plain-passed : Lent p (length f) (length b) (length w)
  plain-passed = plain-lent p opened (length f) (length b) (length w) e

  pub plain-fitting : Fitting p f b
  plain-fitting = lent-fitting p f b (length w) plain-passed

  pub plain-whole : length w ≡ p.wpr
  plain-whole = plain-passed.work-is

  pub plain-most : p.k ≤ 63
  plain-most = lent-most p (length f) (length b) (length w) plain-passed

  pub plain-room : (m : ℕ) → m ≡ length w → p.k ≤ m
  plain-room m i = rw i (lent-room p (length f) (length b) (length w) plain-passed)

  pub position-room : (m : ℕ) → m ≡ 63 → p.k ≤ m
  position-room m i = rw i plain-most

-- a keyed call reads no more words than a record has
pub key-in-record : (p : Description) → good_params p ≡ true → p.k ≤ p.wpr
key-in-record p h = (caps p h).facts.key

-- what the methods of these calls name
pub ruleset keyed-call = (rules, keyed-fitting, keyed-whole, keyed-most, keyed-room)

pub ruleset plain-call = (rules, plain-fitting, plain-whole, plain-most, plain-room, position-room)
