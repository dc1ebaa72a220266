-- Words of a list at a place: read as a part, written over. Document 01: "file, buffer and workspace are lent slices of 32-bit words".
use Rattle.std.specs.Prelude.{ℕ, ◌+◌, Bool, true, ◌&&◌, not, List, [], ◌∷◌, ◌++◌, leb, eqb, length, take, drop, replicate}

-- "What is built": "A word is a number 0..262143" [W1]
abbrev pub top_word : ℕ
top_word = 262143

-- the n words of l from word a on
unfoldable pub part : ℕ → ℕ → List ℕ → List ℕ
part a n l = take n (drop a l)

-- l with the words of s written over its words from word a on
unfoldable pub put : List ℕ → ℕ → List ℕ → List ℕ
put l a s = take a l ++ s ++ drop (a + length s) l

-- n words 0
abbrev pub zeros : ℕ → List ℕ
zeros n = replicate n 0

-- each word is x
unfoldable pub all_are : ℕ → List ℕ → Bool
all_are x [] = true
all_are x (y ∷ l) = eqb y x && all_are x l

-- no word is x
unfoldable pub none_is : ℕ → List ℕ → Bool
none_is x [] = true
none_is x (y ∷ l) = not (eqb y x) && none_is x l

-- "Layout": "none is above 262143" [W1, L9]
unfoldable pub all_words : List ℕ → Bool
all_words [] = true
all_words (x ∷ l) = leb x top_word && all_words l
