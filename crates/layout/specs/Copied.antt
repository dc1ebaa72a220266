-- "a call, free of transfers, copies a closed, well-formed file into a second lent file with the new CONTROL: same entries, same block numbers, same free
-- chain, new master entries zero": the words of the second file, and what is claimed of them. Nothing is proved here.
use Rattle.std.specs.Prelude.{ℕ, ◌+◌, ◌*◌, ◌-◌, ◌≤◌, ◌≡◌, true, List, ◌++◌, length, drop}
use Rattle.words.specs.Words.{part, zeros}
use Rattle.drum.specs.declared.Description.{Description}
use Rattle.drum.specs.Params.{master_size, good_params}
use Rattle.drum.specs.Blocks.{sections, block_at}
use Rattle.layout.specs.Tree.{Tree}
use Rattle.layout.specs.Holds.{Holds}

-- "with the new CONTROL": the description of the second file; all else is the first one's [M2]
unfoldable pub under_control : ℕ → Description → Description
under_control c p = record { wpb = p.wpb; wpr = p.wpr; k = p.k; space = p.space; control = c; n = p.n; form = p.form }

-- the words of the master that are in use: its three numbers, and the entries of its sections [L1, L4]
unfoldable pub entries_end : Description → List ℕ → ℕ
entries_end p f = 3 + sections f * (p.k + 1)

-- "same entries, same block numbers, same free chain, new master entries zero": the master's words in use, zeros to its new end, the blocks as they are [M1]
unfoldable pub copied : ℕ → Description → List ℕ → List ℕ
copied c p f = part 0 (entries_end p f) f ++ (zeros (master_size (under_control c p) - entries_end p f) ++ drop (master_size p) f)

-- each block has the number and the words that it had, on all words
abbrev pub CopyBlocks : Type 0
CopyBlocks =
    (c : ℕ) (p : Description) (f : List ℕ) (b : ℕ) → entries_end p f ≤ length f → entries_end p f ≤ master_size (under_control c p)
    → block_at (under_control c p) (copied c p f) b ≡ block_at p f b

-- one tree: the copy of a file that holds t holds t under the new CONTROL, so its entries, block numbers, chain, word 2 and records are those of the first
abbrev pub CopyHolds : Type 0
CopyHolds =
    (c : ℕ) (p : Description) (f : List ℕ) (t : Tree) → good_params p ≡ true → good_params (under_control c p) ≡ true
    → length t.sections ≤ c → Holds p f t → Holds (under_control c p) (copied c p f) t

-- a copy copied back is the file, word for word
abbrev pub CopyBack : Type 0
CopyBack =
    (c : ℕ) (p : Description) (f : List ℕ) (t : Tree) → good_params p ≡ true → good_params (under_control c p) ≡ true
    → length t.sections ≤ c → Holds p f t → copied p.control (under_control c p) (copied c p f) ≡ f

-- one tree under one description, one file
abbrev pub OneFile : Type 0
OneFile = (p : Description) (f g : List ℕ) (t : Tree) → Holds p f t → Holds p g t → f ≡ g
