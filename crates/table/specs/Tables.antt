-- Tables. Master, index block and detail block are one thing: a count in word 0 after the tag of the kind, and from word `base` on that many rows of `stride`
-- words, each of which begins with a key of `width` words. Document 01, "Layout".
use Rattle.std.specs.Prelude.{ℕ, zero, suc, ◌+◌, ◌*◌, ◌-◌, ◌<◌, ◌≡◌, Bool, true, false, not, eqb, List, ◌∷◌, ◌++◌, length, get_or, set}
use Rattle.words.specs.Words.{part, put, zeros}
use Rattle.words.specs.Keys.{key_lt, key_le, same_key}
use Rattle.std.specs.declared.cmp.Ordering.{Ordering}
use Rattle.std.specs.Ordering.{is_eq, is_ge, is_gt}
use Rattle.table.specs.declared.Shape.{Shape}
use Rattle.table.specs.declared.Want.{Want}
use Rattle.table.specs.declared.Want.TheVariants.{Equal, NotBelow, Over}

-- "word 0 count" (of the master: "word 0 sections in use"); in the second form "4096 plus the count for an index block, 8192 plus the count
-- for a detail block": word 0 less the tag of the kind, 0 where it is below [L1, L5, L6]
unfoldable pub count : Shape → List ℕ → ℕ
count h t = get_or t 0 0 - h.tag

-- where row i begins
abbrev pub place : Shape → ℕ → ℕ
place h i = h.base + i * h.stride

-- row i; its key; the word after its key, of an entry the block that it names
unfoldable pub row : Shape → List ℕ → ℕ → List ℕ
row h t i = part (place h i) h.stride t

-- the key of row i [P3, L4, L5]
unfoldable pub key_at : Shape → List ℕ → ℕ → List ℕ
key_at h t i = part (place h i) h.width t

-- of an entry, row i, the block that it names [L4, L5]
unfoldable pub block_in : Shape → List ℕ → ℕ → ℕ
block_in h t i = get_or t (place h i + h.width) 0

-- "Searches take the first that fits": the first i below n at which the test holds, else n [W5]
unfoldable pub first_where : (ℕ → Bool) → ℕ → ℕ
first_where test zero = zero
first_where test (suc n) = elim (test zero) [ true ↦ zero | false ↦ suc (first_where (λ i. test (suc i)) n) ]

-- whether a row's key x is one that a search for the key wants
abbrev pub wanted : Want → List ℕ → List ℕ → Bool
wanted Equal key x = same_key x key
wanted NotBelow key x = key_le key x
wanted Over key x = key_lt key x

-- the same, by how x stands to the key
abbrev pub asked : Want → Ordering → Bool
asked Equal o = is_eq o
asked NotBelow o = is_ge o
asked Over o = is_gt o

-- whether row i is one that a search for the key wants [W5]
unfoldable pub fits : Want → Shape → List ℕ → List ℕ → ℕ → Bool
fits w h key t i = wanted w key (key_at h t i)

-- the first n rows are below the key: no search for it wants one of them
abbrev pub AllBelow : Shape → List ℕ → List ℕ → ℕ → Type 0
AllBelow h key t n = (j : ℕ) → j < n → key_lt (part (place h j) h.width t) key ≡ true

-- the words i and i + 1 of t as one number r, the first heavier
pub record Pair (t : List ℕ) (i r : ℕ) : Type 0 where
  pub value : r ≡ get_or t i 0 * 4294967296 + get_or t (i + 1) 0
  pub small : get_or t (i + 1) 0 < 4294967296

-- whether word m of the row at word p is another than the key's, the key at word a of k
abbrev pub differs : List ℕ → ℕ → List ℕ → ℕ → ℕ → Bool
differs t p k a m = not (eqb (get_or t (p + m) 0) (get_or k (a + m) 0))

-- the first row whose key is the key; is not below it; is above it: else the count [W5]
abbrev pub row_with : Shape → List ℕ → List ℕ → ℕ
row_with h key t = first_where (fits Equal h key t) (count h t)

-- the first row whose key is not below the key, else the count [W5]
abbrev pub row_from : Shape → List ℕ → List ℕ → ℕ
row_from h key t = first_where (fits NotBelow h key t) (count h t)

-- the first row whose key is above the key, else the count [W5]
abbrev pub row_above : Shape → List ℕ → List ℕ → ℕ
row_above h key t = first_where (fits Over h key t) (count h t)

-- t with the words s before its words a to e, which move up
unfoldable pub opened : List ℕ → ℕ → ℕ → List ℕ → List ℕ
opened t a e s = put t a (s ++ part a (e - a) t)

-- t without its words a to a + n, those up to e moved down and zeros after them
unfoldable pub closed : List ℕ → ℕ → ℕ → ℕ → List ℕ
closed t a e n = put t a (part (a + n) (e - (a + n)) t ++ zeros n)

-- t with row r put in at place i [C11, C26]
unfoldable pub inserted : Shape → ℕ → List ℕ → List ℕ → List ℕ
inserted h i r t = set (opened t (place h i) (place h (count h t)) r) 0 (h.tag + (count h t + 1))

-- t with the row at place i taken out; the words given up become 0 [C17, C34]
unfoldable pub removed : Shape → ℕ → List ℕ → List ℕ
removed h i t = set (closed t (place h i) (place h (count h t)) h.stride) 0 (h.tag + (count h t - 1))

-- t with the words r over row i from its first word on: a whole row, or its key alone [C4]
unfoldable pub replaced : Shape → ℕ → List ℕ → List ℕ → List ℕ
replaced h i r t = put t (place h i) r

-- a block of w words written anew: word 0, the rows' words, and "All other words are 0" [C34, L8]
unfoldable pub laid : ℕ → ℕ → List ℕ → List ℕ
laid w n rows = n ∷ (rows ++ zeros (w - 1 - length rows))
