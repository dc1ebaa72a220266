-- Laws of the digits of a number, and a turn of each loop over them.
use mathlib.Core.Path.{◌≡◌, refl, sym, ◌∙◌}
use mathlib.Core.List.{List, []}
use Prim.Native.Nat.{ℕ, zero, suc, ◌+◌, ◌-◌, ◌*◌, ◌/◌, ◌%◌, ◌^◌, ◌≤◌, ◌<◌}
use native.Mathlib.Nat.{pow-suc}
use native.Mathlib.Omega.{arith}
use lib.ListN.{length, set, length-append}
use borrow.Author.Tests.{lt-ltb, le-ltb}
use Rattle.words.specs.Words.{put}
use Rattle.texts.specs.Texts.{digits, places}
use Rattle.texts.proofs.Puts.{put_last}

pub length_digits : (b k n : ℕ) → length (digits b k n) ≡ k
unfolding digits
length_digits b zero n = refl
length_digits b (suc k) n = simp (length-append, length_digits b k (n / b)) (omega arith)

-- a turn of the loop that writes digits, the last one first: i digits of rest are to go
pub digit-turn : (w l : List ℕ) (at b i rest : ℕ) → w ≡ put l at (digits b i rest) → 0 < i → at + i ≤ length l
    → w ≡ put (set l (at + (i - 1)) (48 + rest % b)) at (digits b (i - 1) (rest / b))
unfolding digits
digit-turn w l at b zero rest e pos h = absurd (omega arith)
digit-turn w l at b (suc i) rest e pos h =
    let n : length (digits b i (rest / b)) ≡ i = length_digits b i (rest / b) in
    let m : suc i - 1 ≡ i = omega arith in
    let q : at + length (digits b i (rest / b)) < length l = omega arith in
    rw m (e ∙ sym (rw n at (put_last l at (digits b i (rest / b)) (48 + rest % b) q)))

pub no_digit : (b n : ℕ) → digits b 0 n ≡ []
unfolding digits
no_digit b n = refl

-- how many decimal digits a number has
pub places-one : (k n : ℕ) → n < 10 → places k n ≡ 1
unfolding places
places-one zero n h = refl
places-one (suc k) n h = simp (lt-ltb n 10 h)

pub places-more : (k n : ℕ) → 10 ≤ n → places (suc k) n ≡ suc (places k (n / 10))
unfolding places
places-more k n h = simp (le-ltb n 10 h)

-- a turn of the loop that counts them: k are counted, at most 21 - k are left
pub places-turn : (m k rest : ℕ) → k ≤ 20 → 1 ≤ k → 10 ≤ rest → rest < 10 ^ suc (20 - k) → m ≡ places (20 - k) rest + (k - 1)
    → (k + 1 ≤ 20) × (rest / 10 < 10 ^ suc (20 - (k + 1))) × (m ≡ places (20 - (k + 1)) (rest / 10) + (k + 1 - 1))
places-turn m k rest h h' ten b e = go (20 - k) refl b e
  where
    go : (j : ℕ) → 20 - k ≡ j → rest < 10 ^ suc j → m ≡ places j rest + (k - 1)
        → (k + 1 ≤ 20) × (rest / 10 < 10 ^ suc (20 - (k + 1))) × (m ≡ places (20 - (k + 1)) (rest / 10) + (k + 1 - 1))
    go zero q b e = absurd (omega arith)
    go (suc j) q b e =
        let i : 20 - (k + 1) ≡ j = omega arith in
        let p : 10 ^ suc (suc j) ≡ 10 ^ suc j * 10 = pow-suc 10 (suc j) in
        let r : places (suc j) rest ≡ suc (places j (rest / 10)) = places-more j rest ten in
        rw i (omega arith, omega arith, omega arith)
