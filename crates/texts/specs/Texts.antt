-- Texts as bytes: names and numbers as they are printed.
use Rattle.std.specs.Prelude.{ℕ, zero, suc, ◌+◌, ◌/◌, ◌%◌, cond, List, [], ◌∷◌, ◌++◌, ltb}
use Prim.Native.Char.{code}
use Prim.Native.String.{String, [] as nil, ◌∷◌ as ◌then◌}

-- the bytes of a text
unfoldable pub bytes : String → List ℕ
bytes nil = []
bytes (c then s) = code c ∷ bytes s

-- the byte of a digit 0..9
abbrev pub digit : ℕ → ℕ
digit d = 48 + d

-- the last k digits of n to the base b, the heaviest first
unfoldable pub digits : ℕ → ℕ → ℕ → List ℕ
digits b zero n = []
digits b (suc k) n = digits b k (n / b) ++ (digit (n % b) ∷ [])

-- how many decimal digits n has, where it has at most k + 1
unfoldable pub places : ℕ → ℕ → ℕ
places zero n = 1
places (suc k) n = cond (ltb n 10) 1 (suc (places k (n / 10)))

-- a number below 2^64 in decimal, no digit 0 in front: such a number has at most 20 digits
unfoldable pub decimal : ℕ → List ℕ
decimal n = digits 10 (places 19 n) n

-- "number as six octal digits" [O5]
unfoldable pub octal : ℕ → List ℕ
octal n = digits 8 6 n

-- words as they stand behind a transfer count: each after a space
unfoldable pub listed : List ℕ → List ℕ
listed [] = []
listed (x ∷ xs) = (32 ∷ decimal x) ++ listed xs
