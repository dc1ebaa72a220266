-- Document 01: "New blocks come from the chain's head first, then word 2; detail before index." And the test of 070001.
use Rattle.std.specs.Prelude.{ℕ, ◌+◌, Bool, false, cond, not, ◌&&◌, ◌||◌, List, leb, ltb, eqb, set}
use Rattle.numbers.specs.Numbers.{none_free, bad_file, done}
use Rattle.numbers.specs.Checked.{Checked, passed, ◌>>=◌, ◌>>◌, require, within, up_to}
use Rattle.drum.specs.declared.Description.{Description}
use Rattle.drum.specs.Params.{D}
use Rattle.drum.specs.Blocks.{Texts, text_of, link_in, is_free, sections, chain_head, lowest_unused}
use Rattle.rules.specs.declared.Path.{Path}
use Rattle.rules.specs.declared.Taken.{Taken}
use Rattle.rules.specs.declared.Pair.{Pair}

-- whether no block is free, with these words 1 and 2: the chain is empty and word 2 is N+1 ("word 2 may be N+1, a chain link 0") [B9, N9]
unfoldable pub none_left : Description → ℕ → ℕ → Checked Bool
none_left p head lowest = do
  up_to p.n head
  cond (eqb head 0) (do
    within 1 (p.n + 1) lowest
    passed (ltb p.n lowest))
      (passed false)

-- one new block (0: none is free), and words 1 and 2 then: the chain's head, whose link becomes the head; else the lowest never used. "A wrong kind is one
-- more bad number": the head's, looked at where it is taken [C32, B9, K4]
unfoldable pub granted : Texts → ℕ → ℕ → Checked Taken
granted v head lowest = do
  none ← none_left v.desc head lowest
  cond none (passed (record { block = 0; head = head; lowest = lowest }))
      (cond (eqb head 0) (passed (record { block = lowest; head = 0; lowest = lowest + 1 })) (do
        require (is_free v.desc (text_of v head)) bad_file
        link ← up_to v.desc.n (link_in v.desc (text_of v head))
        passed (record { block = head; head = link; lowest = lowest })))

-- "a new block equal to any other block in the call's list of transfers" is bad: those are the index block and the detail block of the way,
-- and the current block if it is written [B5]
abbrev pub is_new : ℕ → Bool → Path → ℕ → Bool
is_new cur flag w b = not (eqb b w.index) && (not (eqb b w.detail) && not (flag && eqb b cur))

-- one new block for a call with the path w, tested (0: none is free) [C12, C27, C32, N8, B5, B10]
unfoldable pub take_one : Texts → Bool → Path → Checked Taken
take_one v flag w = do
  d ← granted v (chain_head v.file) (lowest_unused v.file)
  cond (eqb d.block 0) (passed d) (do
    require (is_new v.current flag w d.block) bad_file
    passed d)

-- "new blocks are needed and too few are free, or a section is needed and CONTROL are in use": d and x are the blocks granted, or 0 [N8]
abbrev pub is_short : Texts → ℕ → ℕ → Bool
is_short v d x = eqb d 0 || (eqb x 0 || leb v.desc.control (sections v.file))

-- two new blocks for it, "detail before index", and a section: tested, and not the same (detail 0: a block or the section is lacking)
-- [C15, C29, C32, N8, B5, B10]
unfoldable pub take_two : Texts → Bool → Path → Checked Pair
take_two v flag w = do
  d ← granted v (chain_head v.file) (lowest_unused v.file)
  x ← granted v d.head d.lowest
  cond (is_short v d.block x.block) (passed (record { detail = 0; index = x })) (do
    require (is_new v.current flag w d.block) bad_file
    require (is_new v.current flag w x.block) bad_file
    require (not (eqb x.block d.block)) bad_file
    passed (record { detail = d.block; index = x }))

-- "stored; the record's block now holds D and no block is free": 070001, else 0 [N9, B9]
unfoldable pub stored_number : Description → ℕ → ℕ → ℕ → Checked ℕ
stored_number p n head lowest =
    cond (eqb n (D p)) (do
      none ← none_left p head lowest
      passed (cond none none_free done))
    (passed done)

-- the file with these words 1 and 2 [L2, L3]
unfoldable pub with_free : ℕ → ℕ → List ℕ → List ℕ
with_free head lowest f = set (set f 1 head) 2 lowest
