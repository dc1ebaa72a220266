-- What the printed digits denote: a number below 10^20 in decimal and a word in octal are read back from their digits, and a number in decimal has no digit 0 in front.
use mathlib.Core.Path.{◌≡◌, refl, sym, ◌∙◌}
use mathlib.Core.List.{List, [], ◌∷◌, ◌++◌}
use Prim.Native.Nat.{ℕ, zero, suc, ◌+◌, ◌-◌, ◌*◌, ◌/◌, ◌%◌, ◌^◌, ◌≤◌, ◌<◌}
use native.Mathlib.Nat.{pow-suc, pow-zero, mod-lt, div-add-mod', div-lt_iff_lt-mul}
use native.Mathlib.Omega.{arith}
use native.Mathlib.Decide.{dec_lt}
use lib.ListN.{length, get_or, get_or-append}
use lib.Seq.{get_or-append-add}
use Rattle.texts.specs.Texts.{digits, places, decimal, octal}
use Rattle.texts.proofs.Digits.{length_digits, places-one, places-more}

-- the number that digits to the base b denote, read from the heaviest on, where acc is read already
unfoldable pub value : ℕ → ℕ → List ℕ → ℕ
value b acc [] = acc
value b acc (d ∷ s) = value b (acc * b + (d - 48)) s

value-snoc : (b acc : ℕ) (s : List ℕ) (d : ℕ) → value b acc (s ++ (d ∷ [])) ≡ value b acc s * b + (d - 48)
unfolding value
value-snoc b acc [] d = refl
value-snoc b acc (x ∷ s) d = value-snoc b (acc * b + (x - 48)) s d

pub digits-denote : (b k n : ℕ) → 0 < b → n < b ^ k → value b 0 (digits b k n) ≡ n
unfolding digits value
digits-denote b zero n p h = omega (arith, pow-zero b)
digits-denote b (suc k) n p h =
    let m : n < b ^ k * b = rw pow-suc at h in
    let r : value b 0 (digits b k (n / b)) ≡ n / b = digits-denote b k (n / b) p ((div-lt_iff_lt-mul p).1 m) in
    let d : 48 + n % b - 48 ≡ n % b = omega arith in
    value-snoc b 0 (digits b k (n / b)) (48 + n % b) ∙ rw (r, d) (div-add-mod' n b)

-- the places of a number are enough for it
hold-few : (k n : ℕ) → n < 10 → n < 10 ^ places k n
hold-few k n l = rw (places-one k n l) l

pub places-hold : (k n : ℕ) → n < 10 ^ suc k → n < 10 ^ places k n
places-hold zero n h = hold-few 0 n h
places-hold (suc k) n h = go (dec_lt n 10) (λ l. places-hold k (n / 10) l)
  where
    go : Dec (n < 10) → (n / 10 < 10 ^ suc k → n / 10 < 10 ^ places k (n / 10)) → n < 10 ^ places (suc k) n
    go (yes l) r = hold-few (suc k) n l
    go (no l) r =
        let g : 10 ≤ n = omega arith in
        let p : 10 ^ suc (suc k) ≡ 10 ^ suc k * 10 = pow-suc 10 (suc k) in
        let q : n / 10 < 10 ^ places k (n / 10) = r (omega arith) in
        rw (places-more k n g, pow-suc) (omega arith)

pub decimal-denotes : (n : ℕ) → n < 10 ^ 20 → value 10 0 (decimal n) ≡ n
unfolding decimal
decimal-denotes n h = digits-denote 10 (places 19 n) n (omega arith) (places-hold 19 n h)

pub octal-denotes : (n : ℕ) → n ≤ 262143 → value 8 0 (octal n) ≡ n
unfolding octal
octal-denotes n h = digits-denote 8 6 n (omega arith) (omega arith)

-- the first of several digits stands in front of the last
digits-first : (b k n : ℕ) → 0 < k → get_or (digits b (suc k) n) 0 0 ≡ get_or (digits b k (n / b)) 0 0
unfolding digits
digits-first b k n h =
    let l : 0 < length (digits b k (n / b)) = omega (arith, length_digits b k (n / b)) in
    get_or-append (digits b k (n / b)) ((48 + n % b) ∷ []) 0 0 l

-- a number above 0 does not begin with the digit 0: its one digit is the number, and of several the first is that of the number before the last
digits-one : (b n : ℕ) → get_or (digits b 1 n) 0 0 ≡ 48 + n % b
unfolding digits
digits-one b n = refl

pub places-some : (k n : ℕ) → 0 < places k n
unfolding places
places-some zero n = omega arith
places-some (suc k) n = go (dec_lt n 10)
  where
    go : Dec (n < 10) → 0 < places (suc k) n
    go (yes h) = omega (arith, places-one (suc k) n h)
    go (no h) =
        let g : 10 ≤ n = omega arith in
        omega (arith, places-more k n g)

first-few : (k n : ℕ) → n < 10 → 0 < n → get_or (digits 10 (places k n) n) 0 0 ≡ 48 → ⊥
first-few k n l p e = omega (arith, digits-one 10 n, rw (places-one k n l) at e)

first-not-zero : (k n : ℕ) → n < 10 ^ suc k → 0 < n → get_or (digits 10 (places k n) n) 0 0 ≡ 48 → ⊥
first-not-zero zero n h p e = first-few 0 n h p e
first-not-zero (suc k) n h p e = go (dec_lt n 10) (λ l p. first-not-zero k (n / 10) l p)
  where
    go : Dec (n < 10) → (n / 10 < 10 ^ suc k → 0 < n / 10 → get_or (digits 10 (places k (n / 10)) (n / 10)) 0 0 ≡ 48 → ⊥) → ⊥
    go (yes l) r = first-few (suc k) n l p e
    go (no l) r =
        let g : 10 ≤ n = omega arith in
        let q : 10 ^ suc (suc k) ≡ 10 ^ suc k * 10 = pow-suc 10 (suc k) in
        let f = digits-first 10 (places k (n / 10)) n (places-some k (n / 10)) in
        r (omega arith) (omega arith) (sym f ∙ (rw (places-more k n g) at e))

pub decimal-first : (n : ℕ) → n < 10 ^ 20 → 0 < n → get_or (decimal n) 0 0 ≡ 48 → ⊥
unfolding decimal
decimal-first n h p = first-not-zero 19 n h p

-- each byte is that of a digit below the base
pub digits-digit : (b k n i : ℕ) → 0 < b → i < k → (48 ≤ get_or (digits b k n) i 0) × (get_or (digits b k n) i 0 < 48 + b)
unfolding digits
digits-digit b zero n i p h = absurd (omega arith)
digits-digit b (suc k) n i p h = go (dec_lt i k) (λ l. digits-digit b k (n / b) i p l)
  where
    s : List ℕ
    s = digits b k (n / b)

    x : ℕ
    x = 48 + n % b

    len : length s ≡ k
    len = length_digits b k (n / b)

    go : Dec (i < k) → (i < k → (48 ≤ get_or s i 0) × (get_or s i 0 < 48 + b)) → (48 ≤ get_or (s ++ (x ∷ [])) i 0) × (get_or (s ++ (x ∷ [])) i 0 < 48 + b)
    go (yes l) r = rw (get_or-append s (x ∷ []) 0 i (omega (arith, len))) (r l)
    go (no l) r =
        let e : i ≡ length s + 0 = omega (arith, len) in
        rw (e, get_or-append-add s (x ∷ []) 0 0) (omega arith, omega (arith, mod-lt n p))
