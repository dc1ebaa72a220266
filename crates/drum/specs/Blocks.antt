-- Blocks of the file, transfers, and current texts. Document 01, "Parameters", "The session", "The calls and their transfers".
use Rattle.std.specs.Prelude.{ℕ, ◌≤◌, ◌≡◌, Bool, true, false, cond, ◌||◌, List, [], ◌∷◌, eqb, length, get_or, set}
use Rattle.words.specs.Words.{part, put}
use Rattle.table.specs.Tables.{laid}
use Rattle.drum.specs.declared.Description.{Description}
use Rattle.drum.specs.Params.{start, file_size, good_params, second, tag_of, free_kind}

-- the words of block b in the file, and the file with the words t in block b [P11]
unfoldable pub block_at : Description → List ℕ → ℕ → List ℕ
block_at p f b = part (start p b) p.wpb f

-- the file with the words t in block b [P11]
unfoldable pub put_block : Description → List ℕ → ℕ → List ℕ → List ℕ
put_block p f b t = put f (start p b) t

-- "A transfer is one block read or written.": a block is read, or written with these words [T1]
pub data Transfer : Type 0 where
  Read : ℕ → Transfer
  Write : ℕ → List ℕ → Transfer

-- the file after a list of transfers [T1]
unfoldable pub written : Description → List Transfer → List ℕ → List ℕ
written p [] f = f
written p (Read b ∷ moves) f = written p moves f
written p (Write b t ∷ moves) f = written p moves (put_block p f b t)

-- whether a list of transfers writes block b: "no block of the file changes unless that list writes it" [T4]
unfoldable pub writes : List Transfer → ℕ → Bool
writes [] b = false
writes (Read c ∷ moves) b = writes moves b
writes (Write c t ∷ moves) b = eqb b c || writes moves b

-- "word 0 sections in use, word 1 head of the free chain (0 none), word 2 lowest block never used (N+1 when none)" [L1]
abbrev pub sections : List ℕ → ℕ
sections f = get_or f 0 0

-- "word 1 head of the free chain (0 none)" [L2]
abbrev pub chain_head : List ℕ → ℕ
chain_head f = get_or f 1 0

-- "word 2 lowest block never used (N+1 when none)" [L3]
abbrev pub lowest_unused : List ℕ → ℕ
lowest_unused f = get_or f 2 0

-- where a free block has its link: "word 0 the next free block or 0"; in the second form "whose link moves to word 1" [L7, K3]
unfoldable pub link_place : Description → ℕ
link_place p = cond (second p) 1 0

-- "Free block: word 0 the next free block or 0. All other words are 0"; in the second form 12288, the link, and 0: its text with that link [L7, L8, K2, K3]
unfoldable pub free_text : Description → ℕ → List ℕ
free_text p link = set (laid p.wpb (tag_of p free_kind) []) (link_place p) link

-- the link in the text of a free block [L7, K3]
unfoldable pub link_in : Description → List ℕ → ℕ
link_in p t = get_or t (link_place p) 0

-- "a wrong kind is one more bad number": whether a text's word 0 says that the block is free; the first form does not say it [K2, K4]
unfoldable pub is_free : Description → List ℕ → Bool
is_free p t = cond (second p) (eqb (get_or t 0 0) free_kind) true

-- what a plan looks at: the file and the buffer, with the description and the number of the buffered block (0 none)
pub record Texts : Type 0 where
  pub desc : Description
  pub current : ℕ
  pub file : List ℕ
  pub buffer : List ℕ

-- the same, of the four things that it is made of
abbrev pub seen : Description → ℕ → List ℕ → List ℕ → Texts
seen p cur f b = record { desc = p; current = cur; file = f; buffer = b }

-- "Current text of a block: the buffer if it is the current block, else the file." [S4, T5]
unfoldable pub text_of : Texts → ℕ → List ℕ
text_of v b = cond (eqb b v.current) v.buffer (block_at v.desc v.file b)

-- what 020007 leaves to rely on: good parameters, and a file and a buffer of the right lengths [N1]
pub record Fitting (p : Description) (f b : List ℕ) : Type 0 where
  pub good : good_params p ≡ true
  pub file-is : length f ≡ file_size p
  pub buffer-is : length b ≡ p.wpb

-- the number of a block: 1..N [P8]
abbrev pub Block : Description → ℕ → Type 0
Block p b = (1 ≤ b) × (b ≤ p.n)
