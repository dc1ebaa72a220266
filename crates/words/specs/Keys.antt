-- Keys and their order. Document 01, "What is built" and "Layout". All that is above compares keys through key_lt and same_key alone.
use Rattle.std.specs.Prelude.{ℕ, ◌+◌, ◌*◌, ◌^◌, Bool, true, false, not, ◌&&◌, ◌||◌, List, [], ◌∷◌, ltb, eqb, length, replicate}
use Rattle.std.specs.declared.cmp.Ordering.{Ordering}
use Rattle.std.specs.declared.cmp.Ordering.TheVariants.{Less, Equal, Greater}
use Rattle.words.specs.Words.{top_word, all_are}

-- "ONES is a key whose words are all 262143": the key ONES of k words [W3]
abbrev pub ones : ℕ → List ℕ
ones k = replicate k top_word

-- whether a key is ONES [W3]
unfoldable pub is_ones : List ℕ → Bool
is_ones key = all_are top_word key

-- "Keys compare word by word, unsigned, first word heaviest": a is below b [W4]
unfoldable pub key_lt : List ℕ → List ℕ → Bool
key_lt [] [] = false
key_lt [] (y ∷ b) = true
key_lt (x ∷ a) [] = false
key_lt (x ∷ a) (y ∷ b) = ltb x y || (eqb x y && key_lt a b)

-- a is not above b [W4]
unfoldable pub key_le : List ℕ → List ℕ → Bool
key_le a b = not (key_lt b a)

-- a and b have the same words [W4]
unfoldable pub same_key : List ℕ → List ℕ → Bool
same_key [] [] = true
same_key [] (y ∷ b) = false
same_key (x ∷ a) [] = false
same_key (x ∷ a) (y ∷ b) = eqb x y && same_key a b

-- the one where the test holds, else the other
abbrev pub pick : Bool → Ordering → Ordering → Ordering
pick true a b = a
pick false a b = b

-- how a stands to b [W4]
unfoldable pub order : List ℕ → List ℕ → Ordering
order a b = pick (key_lt a b) Less (pick (same_key a b) Equal Greater)

-- a key as one number, its words the digits: of keys of one length the one below has the smaller number
unfoldable pub val : List ℕ → ℕ
val [] = 0
val (x ∷ key) = x * 262144 ^ length key + val key
