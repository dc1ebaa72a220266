-- A record of the register: the words that the code writes are a key, a state and a spelling; and each is read back.
use Prim.Native.Nat.{ℕ, suc, ◌+◌, ◌-◌, ◌≤◌}
use mathlib.Core.Path.{◌≡◌, refl, sym, ap, ◌∙◌}
use mathlib.Core.List.{List, [], ◌∷◌, ◌++◌, append-nil}
use native.Mathlib.Omega.{arith}
use lib.ListN.{length, get_or, set, drop, length-replicate, drop_of_length-le}
use Rattle.words.specs.Words.{part, put, zeros}
use Rattle.words.proofs.Parts.{length_part, part-add, part-cons, part-all, part-append-low, part-append-high, put-cons, put-part}
use Rattle.drum.specs.declared.Description.{Description}
use Rattle.rules.specs.State.{key_in}
use Rattle.register.specs.Names.{spelling_size, name_of, state_of, spelling_of}
use Rattle.register.specs.Register.{raw_name}
use Rattle.register.specs.Checks.{StateFits}

-- a record is its key, its state and its spelling
pub name-is : (p : Description) (w : List ℕ) → StateFits p w → w ≡ name_of (key_in p w) (state_of p w) (spelling_of p w)
unfolding name_of state_of spelling_of
name-is p w h =
    let d = h.data-word in
    let l = h.whole in
    let n : p.wpr ≡ p.k + suc (spelling_size p) = omega arith in
    let z : 0 + p.k ≡ p.k = omega arith in
    let a : part 0 p.wpr w ≡ part 0 p.k w ++ part p.k (suc (spelling_size p)) w = ap (λ (m : ℕ). part 0 m w) n
    ∙ part-add 0 p.k (suc (spelling_size p)) w
    ∙ ap (λ (m : ℕ). part 0 p.k w ++ part m (suc (spelling_size p)) w) z in
    let b : part p.k (suc (spelling_size p)) w ≡ get_or w p.k 0 ∷ part (suc p.k) (spelling_size p) w = part-cons p.k (spelling_size p) w (omega arith) in
    let s : suc p.k ≡ p.k + 1 = omega arith in
    sym (part-all p.wpr w l) ∙ a
    ∙ ap (λ (x : List ℕ). part 0 p.k w ++ x) (b ∙ ap (λ (m : ℕ). get_or w p.k 0 ∷ part m (spelling_size p) w) s)

-- the words behind the key, written over
behind : (k : ℕ) (w s : List ℕ) → k + length s ≡ length w → put w k s ≡ part 0 k w ++ s
unfolding put part
behind k w s h =
    let e : drop (k + length s) w ≡ [] = drop_of_length-le w {i = k + length s} (omega arith) in
    rw (e, append-nil)

module _ (p : Description) (w : List ℕ) (h : StateFits p w) where
  pub raw-written : put w p.k (zeros (p.wpr - p.k)) ≡ raw_name p w
  unfolding raw_name name_of
  raw-written =
      let d = h.data-word in
      let l = h.whole in
      let n : p.wpr - p.k ≡ suc (spelling_size p) = omega arith in
      let z : length (zeros (p.wpr - p.k)) ≡ p.wpr - p.k = length-replicate {A = ℕ} (p.wpr - p.k) 0 in
      behind p.k w (zeros (p.wpr - p.k)) (omega arith) ∙ ap (λ (m : ℕ). part 0 p.k w ++ zeros m) n

  pub spelled-written : (x : ℕ) (s : List ℕ) → length s ≡ spelling_size p → set (put w (p.k + 1) s) p.k x ≡ name_of (key_in p w) x s
  unfolding name_of
  spelled-written x s e =
      let d = h.data-word in
      let l = h.whole in
      put-cons w p.k s x (omega arith) ∙ behind p.k w (x ∷ s) (omega arith)

  pub turned-written : (x : ℕ) → set w p.k x ≡ name_of (key_in p w) x (spelling_of p w)
  unfolding spelling_of
  turned-written x =
      let d = h.data-word in
      let l = h.whole in
      let n : p.k + 1 + spelling_size p ≤ length w = omega arith in
      ap (λ (y : List ℕ). set y p.k x) (sym (put-part w (p.k + 1) (spelling_size p) n))
      ∙ spelled-written x (part (p.k + 1) (spelling_size p) w) (length_part (p.k + 1) (spelling_size p) w n)

-- the words behind the first
part-behind : (n x : ℕ) (s : List ℕ) → part 1 n (x ∷ s) ≡ part 0 n s
unfolding part
part-behind n x s = refl

get_d_append_seam : (key : List ℕ) (x : ℕ) (s : List ℕ) (d : ℕ) → get_or (key ++ x ∷ s) (length key) d ≡ x
get_d_append_seam [] x s d = refl
get_d_append_seam (y ∷ key) x s d = get_d_append_seam key x s d

-- a record's parts are read back
module _ (p : Description) (key : List ℕ) (x : ℕ) (s : List ℕ) (l : length key ≡ p.k) where
  pub key-read : key_in p (name_of key x s) ≡ key
  unfolding name_of
  key-read = part-append-low 0 p.k key (x ∷ s) (omega arith) ∙ part-all p.k key l

  pub state-read : state_of p (name_of key x s) ≡ x
  unfolding state_of name_of
  state-read = ap (λ (n : ℕ). get_or (key ++ x ∷ s) n 0) (sym l) ∙ get_d_append_seam key x s 0

  pub spelling-read : length s ≡ spelling_size p → spelling_of p (name_of key x s) ≡ s
  unfolding spelling_of name_of
  spelling-read e =
      ap (λ (n : ℕ). part (n + 1) (spelling_size p) (key ++ x ∷ s)) (sym l)
      ∙ part-append-high 1 (spelling_size p) key (x ∷ s)
      ∙ part-behind (spelling_size p) x s
      ∙ part-all (spelling_size p) s e

pub spelling-long : (p : Description) (w : List ℕ) → StateFits p w → length (spelling_of p w) ≡ spelling_size p
unfolding spelling_of
spelling-long p w h =
    let d = h.data-word in
    let l = h.whole in
    length_part (p.k + 1) (spelling_size p) w (omega arith)

pub key-long : (p : Description) (w : List ℕ) → StateFits p w → length (key_in p w) ≡ p.k
key-long p w h =
    let d = h.data-word in
    let l = h.whole in
    length_part 0 p.k w (omega arith)
