-- Laws of parts of a list and of words written over it.
use mathlib.Core.Path.{◌≡◌, refl, sym, ap, ◌∙◌}
use mathlib.Core.List.{List, [], ◌∷◌, ◌++◌, append_assoc, append-nil}
use Prim.Native.Nat.{ℕ, zero, suc, ◌+◌, ◌-◌, ◌≤◌, ◌<◌}
use native.Mathlib.Nat.{add-zero, sub-zero, not-suc-le-zero}
use native.Mathlib.Numerals.{add-one}
use native.Mathlib.Omega.{arith}
use native.Mathlib.Decide.{dec_lt}
use lib.ListN.{length, take, drop, get_or, set, replicate, length-append, length-replicate, length-take, length-drop, take-append-drop, get_or-append}
use lib.Seq.{length-take-le, take-suc, drop-cons, set_at, get_or-drop, get_or-take, get_or-append-add, drop-append-add, drop-append-le, drop-drop, drop_at, take_at}
use lib.Seq.{take-append-le, take-take, take-add, take_all, take-nil, drop-length, drop-set-lt, ext_get_or, take-append_seam}
use borrow.Rule.Slice.PartMut.{put_mid, mid_of}
use Rattle.std.specs.List.{copy_within}
use Rattle.words.specs.Words.{part, put}

pub length_part : (a n : ℕ) (l : List ℕ) → a + n ≤ length l → length (part a n l) ≡ n
unfolding part
length_part a n l h = simp (length-take, length-drop) (omega arith)

pub part-snoc : (a n : ℕ) (l : List ℕ) → a + n < length l → part a (n + 1) l ≡ part a n l ++ (get_or l (a + n) 0 ∷ [])
unfolding part
part-snoc a n l h =
    let k : n < length (drop a l) = simp length-drop (omega arith) in
    rw (add-one, take-suc (drop a l) n 0, get_or-drop)

pub part-cons : (a n : ℕ) (l : List ℕ) → a < length l → part a (suc n) l ≡ get_or l a 0 ∷ part (suc a) n l
unfolding part
part-cons a n l h = rw (drop-cons l a 0)

-- the first word of what is left of a part
pub part-turn : (a n i : ℕ) (l : List ℕ) → i < n → a + n ≤ length l → part (a + i) (n - i) l ≡ get_or l (a + i) 0 ∷ part (a + (i + 1)) (n - (i + 1)) l
part-turn a n i l h k =
    let m : n - i ≡ suc (n - (i + 1)) = omega arith in
    let s : a + (i + 1) ≡ suc (a + i) = omega arith in
    rw (m, s) (part-cons (a + i) (n - (i + 1)) l (omega arith))

pub part_none : (a : ℕ) (l : List ℕ) → part a 0 l ≡ []
unfolding part
part_none a l = refl

pub put-none : (l : List ℕ) (a : ℕ) → put l a [] ≡ l
unfolding put
put-none l a = simp (append-nil, add-zero, take-append-drop)

pub length-put : (l : List ℕ) (a : ℕ) (s : List ℕ) → a + length s ≤ length l → length (put l a s) ≡ length l
unfolding put
length-put l a s h = simp (length-append, length-take, length-drop) (omega arith)

-- one word more at the end of what is written
pub put-snoc : (l : List ℕ) (a : ℕ) (s : List ℕ) (x : ℕ) → a + length s < length l → set (put l a s) (a + length s) x ≡ put l a (s ++ (x ∷ []))
unfolding put
put-snoc l a s x h =
    let e : length (take a l ++ s) ≡ a + length s = simp (length-append, length-take) (omega arith) in
    let n : a + length (s ++ (x ∷ [])) ≡ suc (a + length s) = simp length-append (omega arith) in
    rw (n, drop-cons l (a + length s) 0, set_at (take a l ++ s) (get_or l (a + length s) 0) (drop (suc (a + length s)) l) x (a + length s) e)
    (simp append_assoc)

-- one word more before what is written
pub put-cons : (l : List ℕ) (a : ℕ) (s : List ℕ) (x : ℕ) → a + 1 + length s ≤ length l → set (put l (a + 1) s) a x ≡ put l a (x ∷ s)
unfolding put
put-cons l a s x h =
    let b : a < length l = omega arith in
    let e : length (take a l) ≡ a = simp length-take (omega arith) in
    let n : a + suc (length s) ≡ suc a + length s = omega arith in
    rw (n, add-one, take-suc l a 0) (simp append_assoc (set_at (take a l) (get_or l a 0) (s ++ drop (suc a + length s) l) x a e))

-- words before and after what is written are kept
pub get_or-put-before : (l : List ℕ) (a : ℕ) (s : List ℕ) (k : ℕ) → k < a → a ≤ length l → get_or (put l a s) k 0 ≡ get_or l k 0
unfolding put
get_or-put-before l a s k h h' =
    let e : k < length (take a l) = simp length-take (omega arith) in
    simp append_assoc (get_or-append (take a l) (s ++ drop (a + length s) l) 0 k e ∙ get_or-take a l k 0 h)

pub get_or-put-after : (l : List ℕ) (a : ℕ) (s : List ℕ) (k : ℕ) → a + length s ≤ k → a ≤ length l → get_or (put l a s) k 0 ≡ get_or l k 0
unfolding put
get_or-put-after l a s k h h' =
    let n : length (take a l ++ s) ≡ a + length s = simp (length-append, length-take) (omega arith) in
    let e : k ≡ length (take a l ++ s) + (k - (a + length s)) = omega arith in
    let f : a + length s + (k - (a + length s)) ≡ k = omega arith in
    ap (λ (i : ℕ). get_or (take a l ++ s ++ drop (a + length s) l) i 0) e
    ∙ get_or-append-add (take a l ++ s) (drop (a + length s) l) (k - (a + length s)) 0
    ∙ get_or-drop (a + length s) l (k - (a + length s)) 0
    ∙ ap (λ (i : ℕ). get_or l i 0) f

-- two writes side by side are one
pub put-after : (l : List ℕ) (a : ℕ) (s z : List ℕ) → a + length s ≤ length l → put (put l a s) (a + length s) z ≡ put l a (s ++ z)
unfolding put
put-after l a s z h =
    let n : length (take a l ++ s) ≡ a + length s = simp (length-append, length-take) (omega arith) in
    let m : length (s ++ z) ≡ length s + length z = length-append s z in
    let p : List ℕ = take a l ++ s in
    let q : List ℕ = drop (a + length s) l in
    let j : a + length s + length z ≡ a + length (s ++ z) = omega arith in
    let e : drop (a + length s + length z) (p ++ q) ≡ drop (a + length (s ++ z)) l =
    ap (λ (k : ℕ). drop (k + length z) (p ++ q)) (sym n) ∙ drop-append-add p q (length z) ∙ drop-drop (length z) (a + length s) l ∙ ap (λ (k : ℕ). drop k l) j in
    rw (take_at p q (a + length s) n, e) (simp append_assoc)

pub put-before : (l : List ℕ) (a : ℕ) (r s : List ℕ) → a + length r ≤ length l → put (put l (a + length r) s) a r ≡ put l a (r ++ s)
unfolding put
put-before l a r s h =
    let n : length (take (a + length r) l) ≡ a + length r = simp length-take (omega arith) in
    let m : length (r ++ s) ≡ length r + length s = length-append r s in
    let q : List ℕ = s ++ drop (a + length r + length s) l in
    let k : a ≤ length (take (a + length r) l) = omega arith in
    let j : a + length (r ++ s) ≡ a + length r + length s = omega arith in
    simp append_assoc
    (rw (drop_at (take (a + length r) l) q (a + length r) n, take-append-le a (take (a + length r) l) q k, take-take a (a + length r) l (omega arith), j) refl)

-- all of a list, read and written
pub part-all : (n : ℕ) (l : List ℕ) → length l ≡ n → part 0 n l ≡ l
unfolding part
part-all n l h = take_all n l (omega arith)

pub put_all : (l s : List ℕ) → length s ≡ length l → put l 0 s ≡ s
unfolding put
put_all l s h =
    let n : 0 + length s ≡ length l = omega arith in
    rw (n, drop-length) (append-nil s)

-- a part is known by its words; one that lies before or after what is written is kept, and what is written is read back
pub get_d_part : (a n i : ℕ) (l : List ℕ) → i < n → get_or (part a n l) i 0 ≡ get_or l (a + i) 0
unfolding part
get_d_part a n i l h = get_or-take n (drop a l) i 0 h ∙ get_or-drop a l i 0

pub part-put-before : (l : List ℕ) (a : ℕ) (s : List ℕ) (b n : ℕ) → b + n ≤ a → a + length s ≤ length l → part b n (put l a s) ≡ part b n l
part-put-before l a s b n h h' =
    let e : length (part b n (put l a s)) ≡ n = length_part b n (put l a s) (rw (length-put l a s h') (omega arith)) in
    let f : length (part b n l) ≡ n = length_part b n l (omega arith) in
    ext_get_or 0 _ _ (e ∙ sym f) (λ i k. get_d_part b n i (put l a s) (omega arith) ∙ get_or-put-before l a s (b + i) (omega arith) (omega arith) ∙ sym (get_d_part b n i l (omega arith)))

pub part-put-after : (l : List ℕ) (a : ℕ) (s : List ℕ) (b n : ℕ) → a + length s ≤ b → b + n ≤ length l → part b n (put l a s) ≡ part b n l
part-put-after l a s b n h h' =
    let e : length (part b n (put l a s)) ≡ n = length_part b n (put l a s) (rw (length-put l a s (omega arith)) (omega arith)) in
    let f : length (part b n l) ≡ n = length_part b n l (omega arith) in
    ext_get_or 0 _ _ (e ∙ sym f) (λ i k. get_d_part b n i (put l a s) (omega arith) ∙ get_or-put-after l a s (b + i) (omega arith) (omega arith) ∙ sym (get_d_part b n i l (omega arith)))

pub part-put : (l : List ℕ) (a : ℕ) (s : List ℕ) → a + length s ≤ length l → part a (length s) (put l a s) ≡ s
unfolding part put
part-put l a s h =
    let n : length (take a l) ≡ a = simp length-take (omega arith) in
    simp append_assoc (rw (drop_at (take a l) (s ++ drop (a + length s) l) a n) (take-append_seam s (drop (a + length s) l)))

-- a word of what is written
pub get_or-put-in : (l : List ℕ) (a : ℕ) (s : List ℕ) (k : ℕ) → a ≤ k → k < a + length s → a + length s ≤ length l → get_or (put l a s) k 0 ≡ get_or s (k - a) 0
get_or-put-in l a s k h h' g =
    let e : a + (k - a) ≡ k = omega arith in
    let q : k - a < length s = omega arith in
    sym (sym (ap (λ (x : List ℕ). get_or x (k - a) 0) (part-put l a s g)) ∙ get_d_part a (length s) (k - a) (put l a s) q ∙ ap (λ (j : ℕ). get_or (put l a s) j 0) e)

-- one word stored is a write of one
pub set-put : (l : List ℕ) (i x : ℕ) → i < length l → set l i x ≡ put l i (x ∷ [])
set-put l i x h = rw (put-none l i, add-zero) at (put-snoc l i [] x (omega arith))

-- two writes that do not meet
pub put-swap : (l : List ℕ) (a : ℕ) (s : List ℕ) (b : ℕ) (z : List ℕ) → a + length s ≤ b → b + length z ≤ length l → put (put l a s) b z ≡ put (put l b z) a s
put-swap l a s b z h g = ext_get_or 0 _ _ (lens ∙ sym rens) word
  where
    la : length (put l a s) ≡ length l
    la = length-put l a s (omega arith)

    lb : length (put l b z) ≡ length l
    lb = length-put l b z (omega arith)

    lens : length (put (put l a s) b z) ≡ length l
    lens = length-put (put l a s) b z (omega (arith, la)) ∙ la

    rens : length (put (put l b z) a s) ≡ length l
    rens = length-put (put l b z) a s (omega (arith, lb)) ∙ lb

    word : (k : ℕ) → k < length (put (put l a s) b z) → get_or (put (put l a s) b z) k 0 ≡ get_or (put (put l b z) a s) k 0
    word k m = first (dec_lt k a)
      where
        last : Dec (k < b + length z) → b ≤ k → get_or (put (put l a s) b z) k 0 ≡ get_or (put (put l b z) a s) k 0
        last (yes q) r = get_or-put-in (put l a s) b z k r q (omega (arith, la)) ∙ sym (get_or-put-after (put l b z) a s k (omega arith) (omega (arith, lb)) ∙ get_or-put-in l b z k r q g)
        last (no q) r = get_or-put-after (put l a s) b z k (omega arith) (omega (arith, la)) ∙ get_or-put-after l a s k (omega arith) (omega arith) ∙ sym (get_or-put-after (put l b z) a s k (omega arith) (omega (arith, lb)) ∙ get_or-put-after l b z k (omega arith) (omega arith))

        third : Dec (k < b) → a + length s ≤ k → get_or (put (put l a s) b z) k 0 ≡ get_or (put (put l b z) a s) k 0
        third (yes q) r = get_or-put-before (put l a s) b z k q (omega (arith, la)) ∙ get_or-put-after l a s k r (omega arith) ∙ sym (get_or-put-after (put l b z) a s k r (omega (arith, lb)) ∙ get_or-put-before l b z k q (omega arith))
        third (no q) r = last (dec_lt k (b + length z)) (omega arith)

        second : Dec (k < a + length s) → a ≤ k → get_or (put (put l a s) b z) k 0 ≡ get_or (put (put l b z) a s) k 0
        second (yes q) r = get_or-put-before (put l a s) b z k (omega arith) (omega (arith, la)) ∙ get_or-put-in l a s k r q (omega arith) ∙ sym (get_or-put-in (put l b z) a s k r q (omega (arith, lb)))
        second (no q) r = third (dec_lt k b) (omega arith)

        first : Dec (k < a) → get_or (put (put l a s) b z) k 0 ≡ get_or (put (put l b z) a s) k 0
        first (yes q) = get_or-put-before (put l a s) b z k (omega arith) (omega (arith, la)) ∙ get_or-put-before l a s k q (omega arith) ∙ sym (get_or-put-before (put l b z) a s k q (omega (arith, lb)) ∙ get_or-put-before l b z k (omega arith) (omega arith))
        first (no q) = second (dec_lt k (a + length s)) (omega arith)

-- one write over another, and a part written where it stands
pub put-over : (l : List ℕ) (a : ℕ) (s z : List ℕ) → length s ≡ length z → a + length s ≤ length l → put (put l a s) a z ≡ put l a z
unfolding put
put-over l a s z h g =
    let n : length (take a l) ≡ a = length-take-le a l (omega arith) in
    let m : length (take a l ++ s) ≡ a + length z = simp length-append (omega arith) in
    let e : take a (take a l ++ (s ++ drop (a + length s) l)) ≡ take a l = take_at (take a l) (s ++ drop (a + length s) l) a n in
    rw (drop_at (take a l ++ s) (drop (a + length s) l) (a + length z) m, append_assoc (take a l) s (drop (a + length s) l), e, h)

around : (a n : ℕ) (l : List ℕ) → take a l ++ (part a n l ++ drop (a + n) l) ≡ l
unfolding part
around a n l = rw (← drop-drop n a l, take-append-drop) (take-append-drop a l)

pub put-part : (l : List ℕ) (a n : ℕ) → a + n ≤ length l → put l a (part a n l) ≡ l
unfolding put
put-part l a n h =
    let e : length (part a n l) ≡ n = length_part a n l h in
    rw (e, append_assoc (take a l) (part a n l) (drop (a + n) l)) (around a n l)

-- a part of a slice that was lent as `&mut s[a..e]` and is back
pub mid-put : (a k : ℕ) (xs ys : List ℕ) → length ys ≡ k → put_mid a k xs ys ≡ put xs a ys
unfolding put
mid-put a k xs ys h = rw (h, drop-drop) (simp append_assoc)

pub mid-part : (a k : ℕ) (xs : List ℕ) → mid_of a k xs ≡ part a k xs
unfolding part
mid-part a k xs = refl

-- the first and the last words of a list and of a part of it
pub drop-take : (y x : ℕ) (l : List ℕ) → y ≤ x → drop y (take x l) ≡ take (x - y) (drop y l)
drop-take zero x l h = rw sub-zero
drop-take (suc y) zero l h = absurd (not-suc-le-zero h)
drop-take (suc y) (suc x) [] h = sym (take-nil (suc x - suc y))
drop-take (suc y) (suc x) (a ∷ l) h =
    let e : suc x - suc y ≡ x - y = omega arith in
    rw e (drop-take y x l (omega arith))

pub take_part : (a q z : ℕ) (t : List ℕ) → q ≤ z → take q (part a z t) ≡ part a q t
unfolding part
take_part a q z t h = take-take q z (drop a t) h

pub drop-part : (a q z : ℕ) (t : List ℕ) → q ≤ z → drop q (part a z t) ≡ part (a + q) (z - q) t
unfolding part
drop-part a q z t h = drop-take q z (drop a t) h ∙ ap (take (z - q)) (drop-drop q a t)

pub part-part : (a n b m : ℕ) (l : List ℕ) → b + m ≤ n → part b m (part a n l) ≡ part (a + b) m l
unfolding part
part-part a n b m l h =
    let e : take m (drop b (part a n l)) ≡ take m (part (a + b) (n - b) l) = ap (take m) (drop-part a b n l (omega arith)) in
    e ∙ take_part (a + b) m (n - b) l (omega arith)

pub part-add : (a n m : ℕ) (l : List ℕ) → part a (n + m) l ≡ part a n l ++ part (a + n) m l
unfolding part
part-add a n m l = take-add n m (drop a l) ∙ ap (λ (x : List ℕ). take n (drop a l) ++ take m x) (drop-drop n a l)

-- parts of what is written, and of a list made of two
pub part-put-in : (l : List ℕ) (a : ℕ) (s : List ℕ) (b n : ℕ) → b + n ≤ length s → a + length s ≤ length l → part (a + b) n (put l a s) ≡ part b n s
part-put-in l a s b n h g = sym (part-part a (length s) b n (put l a s) h) ∙ ap (part b n) (part-put l a s g)

pub part-append-low : (a n : ℕ) (l r : List ℕ) → a + n ≤ length l → part a n (l ++ r) ≡ part a n l
unfolding part
part-append-low a n l r h =
    let k : n ≤ length (drop a l) = simp length-drop (omega arith) in
    rw (drop-append-le a l r (omega arith)) (take-append-le n (drop a l) r k)

pub part-append-high : (a n : ℕ) (l r : List ℕ) → part (length l + a) n (l ++ r) ≡ part a n r
unfolding part
part-append-high a n l r = ap (take n) (drop-append-add l r a)

-- zeros cut short
pub drop-zeros : (k m : ℕ) → drop k (replicate m 0) ≡ replicate {A = ℕ} (m - k) 0
drop-zeros zero m = rw sub-zero
drop-zeros (suc k) zero =
    let e : 0 - suc k ≡ 0 = omega arith in
    rw e
drop-zeros (suc k) (suc m) =
    let e : suc m - suc k ≡ m - k = omega arith in
    rw e (drop-zeros k m)

pub take-zeros : (k m : ℕ) → k ≤ m → take k (replicate m 0) ≡ replicate {A = ℕ} k 0
take-zeros zero m h = refl
take-zeros (suc k) zero h = absurd (not-suc-le-zero h)
take-zeros (suc k) (suc m) h = ap (λ (x : List ℕ). 0 ∷ x) (take-zeros k m (omega arith))

pub part-zeros : (a n m : ℕ) → a + n ≤ m → part a n (replicate m 0) ≡ replicate {A = ℕ} n 0
unfolding part
part-zeros a n m h = rw (drop-zeros a m) (take-zeros n (m - a) (omega arith))

-- writes with the length of what is written given apart
pub part-written : (l : List ℕ) (a n : ℕ) (s : List ℕ) → length s ≡ n → a + n ≤ length l → part a n (put l a s) ≡ s
part-written l a n s e h = ap (λ (k : ℕ). part a k (put l a s)) (sym e) ∙ part-put l a s (omega arith)

-- a part that the stored word is not in
pub part-set-before : (l : List ℕ) (i x a n : ℕ) → i < a → part a n (set l i x) ≡ part a n l
unfolding part
part-set-before l i x a n h = ap (take n) (drop-set-lt a l i x h)

pub part-set-after : (l : List ℕ) (i x a n : ℕ) → a + n ≤ i → i < length l → part a n (set l i x) ≡ part a n l
part-set-after l i x a n h k = rw (set-put l i x k) (part-put-before l i (x ∷ []) a n h (omega arith))

-- what the library writes over a range of a slice: a part of another, a part of its own, one word again and again
pub copied_over : (l s r : List ℕ) (at from n : ℕ) → r ≡ mid_of from (from + n - from) s → from + n ≤ length s
    → put_mid at (at + n - at) l r ≡ put l at (part from n s)
unfolding part
copied_over l s r at from n e h =
    let k : from + n - from ≡ n = omega arith in
    let m : at + n - at ≡ n = omega arith in
    let p : r ≡ part from n s = rw k at e in
    rw (m, p) (mid-put at n l (part from n s) (length_part from n s h))

pub moved_within : (l : List ℕ) (from to n : ℕ) → from + n ≤ length l → copy_within l from (from + n) to ≡ put l to (part from n l)
unfolding part put
moved_within l from to n h =
    let k : from + n - from ≡ n = omega arith in
    let m : length (part from n l) ≡ n = length_part from n l h in
    rw (k, m) refl

pub filled_over : (l r : List ℕ) (at n x : ℕ) → r ≡ replicate (length (mid_of at (at + n - at) l)) x → at + n ≤ length l
    → put_mid at (at + n - at) l r ≡ put l at (replicate n x)
unfolding part
filled_over l r at n x e h =
    let m : at + n - at ≡ n = omega arith in
    let k : length (part at n l) ≡ n = length_part at n l h in
    let p : r ≡ replicate n x = rw (m, k) at e in
    rw (m, p) (mid-put at n l (replicate n x) (length-replicate n x))
