-- What good parameters and a file of at most 8,192 words ask of the lent bytes and words.
use Prim.Native.Nat.{ℕ, ◌+◌, ◌*◌, ◌≤◌}
use native.Mathlib.Nat.{mul-le-mul_left, mul-le-mul_right}
use native.Mathlib.Omega.{arith}
use mathlib.Core.Path.{◌≡◌, refl, sym, ap, subst, ◌∙◌}
use mathlib.Core.Bool.{Bool, true, false, cond}
use mathlib.Core.List.{List}
use Rattle.std.proofs.Common.{Option, None, Some, Result, Ok, Err, IfOk, MatchResult}
use borrow.Author.Tests.{ltb-false}
use lib.Dec.{ltb}
use lib.ListN.{length, take, length-take}
use Rattle.drum.specs.declared.Description.{Description}
use Rattle.drum.specs.Params.{D, good_params, file_size, size_if}
use Rattle.drum.proofs.Good.{good-facts, caps}
use Rattle.printed.specs.declared.Start.{Start}
use Rattle.printed.specs.declared.Start.TheVariants.{BadLine, OutOfRange, TooLarge, Good}
use Rattle.printed.specs.declared.Over.{Over}
use Rattle.printed.specs.declared.Turn.{Turn}
use Rattle.printed.specs.Promise.{turn_end}
use Rattle.printed.specs.Output.{most_words, start_with, start_of}
use Rattle.rules.specs.State.{Session}
use Rattle.searchfile.specs.declared.Session as code
use Rattle.searchfile.specs.Promise.{held}
use Rattle.terminal.specs.declared.input.Place.{Place}
use Rattle.terminal.specs.Places.{Ready, Playable, Roomy}

-- a block has at most 4,096 words
pub block-most : (p : Description) → Playable p → p.wpb ≤ 4096
block-most p h = (good-facts p h.good).wpb-most

-- a record fills at most half a block
pub record-most : (p : Description) → Playable p → p.wpr ≤ 2047
record-most p h =
    let g = good-facts p h.good in
    let f = (caps p h.good).records-fit in
    let two : 2 * p.wpr ≤ D p * p.wpr = mul-le-mul_right p.wpr g.two_records in
    omega arith

-- the key is a part of the record
pub key-most : (p : Description) → Playable p → p.k ≤ p.wpr
key-most p h = (good-facts p h.good).key

-- a file of at most 8,192 words has fewer than 4,096 blocks
pub blocks-most : (p : Description) → Playable p → p.n ≤ 4096
blocks-most p h =
    let g = good-facts p h.good in
    let is = (caps p h.good).file-is in
    let s = h.small in
    let six : p.n * 6 ≤ p.n * p.wpb = mul-le-mul_left p.n g.wpb-least in
    omega arith

-- ---- what a line of calls asks for
-- the numbers of a line have room for a key and for a record
pub key-numbers : (p : Description) (numbers : List ℕ) → Playable p → length numbers ≡ 2048 → p.k ≤ length numbers
key-numbers p numbers h e = omega (arith, key-most p h, record-most p h)

pub record-numbers : (p : Description) (numbers : List ℕ) → Playable p → length numbers ≡ 2048 → p.wpr ≤ length numbers
record-numbers p numbers h e = omega (arith, record-most p h)

-- the workspace is as long as a record, which has room for a key
pub work-long : (p : Description) (file buffer work : List ℕ) → Roomy file buffer work → Playable p → length (take p.wpr work) ≡ p.wpr
work-long p file buffer work r h =
    let room = r.record-room in
    simp length-take (omega (arith, record-most p h))

pub key-work : (p : Description) (file buffer work : List ℕ) → Roomy file buffer work → Playable p → p.k ≤ length (take p.wpr work)
key-work p file buffer work r h = omega (arith, work-long p file buffer work r h, key-most p h)

pub record-work : (p : Description) (file buffer work : List ℕ) → Roomy file buffer work → Playable p → p.wpr ≤ length (take p.wpr work)
record-work p file buffer work r h = omega (arith, work-long p file buffer work r h)

-- the file's size, as it is asked for, is at most that of the lent words
pub size_small : (p : Description) → Playable p → size_if p (file_size p) ≤ 8192
unfolding size_if
size_small p h = simp h.good h.small

-- there are as many marks as blocks
pub marks-long : (p : Description) (marks : List ℕ) → Playable p → 4096 ≡ length marks → length (take p.n marks) ≡ p.n
marks-long p marks h e = simp length-take (omega (arith, blocks-most p h))

-- the output has room for what a line prints
pub out-room : (p : Description) (file buffer work out : List ℕ) (filled : ℕ) → Roomy file buffer work → Playable p → filled ≤ 16384 → length out ≡ 65536
    → filled + 35 + 21 * length (take p.wpr work) ≤ length out
out-room p file buffer work out filled r h f e = omega (arith, work-long p file buffer work r h, record-most p h)

-- what a line printed ends within the output
printed-within : (p : Description) (file buffer work : List ℕ) (at filled : ℕ) → at ≤ filled + 35 + 21 * length (take p.wpr work)
    → Roomy file buffer work → Playable p → filled ≤ 16384 → at ≤ 65536
printed-within p file buffer work at filled l r h f = omega (arith, work-long p file buffer work r h, record-most p h)

-- a description that is another one serves as that one did
pub still-playable : (d e : Description) → d ≡ e → Playable e → Playable d
still-playable d e q h = subst Playable (sym q) h

-- the same of what came of a line: a session of the same parameters, or the end
pub turned-within : (r : Result Turn Over) (p : Description) (file buffer work : List ℕ) (filled : ℕ) → IfOk r (λ t. t.session.desc ≡ p)
    → turn_end r ≤ filled + 35 + 21 * length (take p.wpr work) → Roomy file buffer work → Playable p → filled ≤ 16384
    → MatchResult r (λ t. Playable t.session.desc × (t.at ≤ 65536)) (λ e. e.at ≤ 65536)
turned-within (Ok t) p file buffer work filled e l r h f = (still-playable _ _ e h, printed-within p file buffer work t.at filled l r h f)
turned-within (Err x) p file buffer work filled e l r h f = printed-within p file buffer work x.at filled l r h f

-- a place that is ready leaves room for a line
pub room-left : (p : Place) → Ready p → p.filled ≤ 16384
room-left p r = r.room

-- arrays for the largest file, block and record have room
pub roomy : (file buffer work : List ℕ) → length file ≡ 8192 → length buffer ≡ 4096 → length work ≡ 2048 → Roomy file buffer work
roomy file buffer work f b w = record { file-room = omega arith; block_room = omega arith; record-room = omega arith }

-- ---- the first line
-- a start that is good has parameters with which calls are played
abbrev Fit : Start → Type 0
Fit BadLine = Unit {0}
Fit OutOfRange = Unit {0}
Fit TooLarge = Unit {0}
Fit (Good p) = Playable p

fit : (o : Option Description) → Fit (start_of o)
unfolding start_of start_with
fit None = tt
fit (Some p) = go (good_params p) refl (ltb most_words (file_size p)) refl
  where
    go : (g : Bool) → good_params p ≡ g → (l : Bool) → ltb most_words (file_size p) ≡ l → Fit (cond g (cond l TooLarge (Good p)) OutOfRange)
    go false e l m = tt
    go true e true m = tt
    go true e false m = record { good = e; small = ltb-false _ _ m }

pub started : (s : Start) (o : Option Description) (p : Description) → s ≡ start_of o → s ≡ Good p → Playable p
started s o p e g = subst Fit (sym e ∙ g) (fit o)

-- a session begun with parameters has these
pub begun-playable : (s : code.Session) (t : Session) → held s ≡ t → Playable t.desc → Playable s.desc
begun-playable s t e h = still-playable s.desc t.desc (ap (λ (z : Session). z.desc) e) h
