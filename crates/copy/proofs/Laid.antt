-- Where the pieces of the copy lie, as rules over what the function may rely on; and the three writes as one.
use Prim.Native.Nat.{ℕ, ◌+◌, ◌*◌, ◌-◌, ◌≤◌, ◌<◌}
use mathlib.Core.Path.{◌≡◌, ap, ◌∙◌}
use mathlib.Core.Bool.{true}
use mathlib.Core.List.{List, ◌++◌, append_assoc}
use native.Mathlib.Nat.{mul-le-mul_right}
use native.Mathlib.Omega.{arith}
use mir.Syntax.{w64}
use mir.Val.{Fits}
use lib.ListN.{length, drop, length-append, length-replicate, length-drop}
use lib.Seq.{take_all}
use Rattle.words.specs.Words.{part, put, zeros}
use Rattle.words.proofs.Parts.{length_part, put-after, put_all}
use Rattle.drum.specs.declared.Description.{Description}
use Rattle.drum.specs.Params.{good_params, master_size, file_size}
use Rattle.drum.specs.Blocks.{sections}
use Rattle.drum.proofs.Good.{caps}
use Rattle.layout.specs.Inspected.{Fit}
use Rattle.layout.specs.Copied.{under_control, entries_end, copied}
use Rattle.copy.specs.Fits.{CopyFits}
use Rattle.copy.proofs.Sizes.{controlled, under-is}

-- the master's words in use, where no more sections are than CONTROL allows
module _ (p : Description) (good : good_params p ≡ true) (f : List ℕ) where
  pub end-within : (c : ℕ) → good_params (under_control c p) ≡ true → sections f ≤ c → entries_end p f ≤ master_size (under_control c p)
  unfolding entries_end under_control
  end-within c g h =
      let k = caps (under_control c p) g in
      let l = mul-le-mul_right (p.k + 1) h in
      omega arith

pub key-few : (p : Description) (f : List ℕ) → Fit p f → p.k ≤ 63
key-few p f w = (caps p w.good).facts.k-most

pub fit-some : (p : Description) (f : List ℕ) → Fit p f → 0 < length f
fit-some p f w =
    let c = caps p w.good in
    omega (arith, w.size)

-- the product that counts them
module _ (p : Description) (f : List ℕ) (n : ℕ) (e : n ≡ sections f) (w : Fit p f) (h : sections f ≤ p.control) where
  entries-most : n * (p.k + 1) ≤ 1048512
  entries-most =
      let c = caps p w.good in
      let few : n ≤ p.control = omega arith in
      let l = mul-le-mul_right (p.k + 1) few in
      omega arith

  pub entries_fit : Fits w64 (n * (p.k + 1))
  entries_fit = omega (arith, entries-most)

  pub entries-add : Fits w64 (3 + n * (p.k + 1))
  entries-add = omega (arith, entries-most)

  pub end_is : 3 + n * (p.k + 1) ≡ entries_end p f
  unfolding entries_end
  end_is = rw e

-- the new master's size, as the code finds it
pub new_is : (c : ℕ) (p q : Description) (m : ℕ) → q ≡ controlled c p → m ≡ master_size q → m ≡ master_size (under_control c p)
new_is c p q m d e = e ∙ ap master_size (under-is c p q d)

pub new-good : (c : ℕ) (p q : Description) → q ≡ controlled c p → good_params (under_control c p) ≡ true → good_params q ≡ true
new-good c p q d g = ap good_params (under-is c p q d) ∙ g

module _ (p : Description) (c : ℕ) (f s : List ℕ) (w : CopyFits p c f s) where
  pub used-old : entries_end p f ≤ master_size p
  unfolding entries_end
  used-old =
      let k = caps p w.good in
      let l = mul-le-mul_right (p.k + 1) w.few in
      omega arith

  pub used-new : entries_end p f ≤ master_size (under_control c p)
  used-new = end-within p w.good f c w.again w.room

  pub file-behind : length f ≡ master_size p + p.n * p.wpb
  unfolding file_size
  file-behind = w.file-is

  pub second-behind : length s ≡ master_size (under_control c p) + p.n * p.wpb
  unfolding file_size under_control
  second-behind = w.second_is

  pub copy-fit : Fit p f
  copy-fit = record { good = w.good; size = w.file-is }

  -- the words that are written, u in use, the old master o and the new one m: each write lies in the second file, and what it copies in the first
  module _ (u m : ℕ) (eu : u ≡ entries_end p f) (em : m ≡ master_size (under_control c p)) where
    pub master-within : u ≤ m
    master-within = let a = used-new in omega arith

    pub master-lies : m ≤ length s
    master-lies = let b = second-behind in omega arith

    pub master-from : u ≤ length f
    master-from =
        let a = used-old in
        let b = file-behind in
        omega arith

  module _ (o : ℕ) (eo : o ≡ master_size p) where
    pub blocks_from : o ≤ length f
    blocks_from = let a = file-behind in omega arith

    pub blocks-whole : o + (length f - o) ≤ length f
    blocks-whole = let a = file-behind in omega arith

    pub blocks-lie : (m : ℕ) (s₁ : List ℕ) → length s₁ ≡ length s → m ≡ master_size (under_control c p) → m + (length f - o) ≤ length s₁
    blocks-lie m s₁ k em =
        let a = file-behind in
        let b = second-behind in
        omega arith

-- two writes, one behind the other: of a master, and of all behind it
pub master-laid : (s s₁ s₂ f : List ℕ) (u m : ℕ) → s₂ ≡ put s₁ u (zeros (m - u)) → s₁ ≡ put s 0 (part 0 u f) → u ≤ m → m ≤ length s → u ≤ length f
    → s₂ ≡ put s 0 (part 0 u f ++ zeros (m - u))
master-laid s s₁ s₂ f u m e₂ e₁ h k j =
    let l : length (part 0 u f) ≡ u = length_part 0 u f (omega arith) in
    let i : u ≡ 0 + length (part 0 u f) = omega arith in
    rw (e₂, e₁) (ap (λ (n : ℕ). put (put s 0 (part 0 u f)) n (zeros (m - u))) i ∙ put-after s 0 (part 0 u f) (zeros (m - u)) (omega arith))

filled : (s x z : List ℕ) (m : ℕ) → length x ≡ m → m + length z ≡ length s → put (put s 0 x) m z ≡ x ++ z
filled s x z m lx lz =
    let i : m ≡ 0 + length x = omega arith in
    ap (λ (k : ℕ). put (put s 0 x) k z) i ∙ put-after s 0 x z (omega arith) ∙ put_all s (x ++ z) (length-append x z ∙ omega arith)

-- they fill the second file with the copy
pub copy-laid : (p : Description) (c : ℕ) (f s s₁ s₂ : List ℕ) (u o m : ℕ) → CopyFits p c f s → s₂ ≡ put s₁ m (part o (length f - o) f)
    → s₁ ≡ put s 0 (part 0 u f ++ zeros (m - u)) → u ≡ entries_end p f → o ≡ master_size p → m ≡ master_size (under_control c p)
    → s₂ ≡ copied c p f
unfolding copied
copy-laid p c f s s₁ s₂ u o m w e₂ e₁ eu eo em =
    let inside = used-old p c f s w in
    let within = used-new p c f s w in
    let behind = file-behind p c f s w in
    let whole = second-behind p c f s w in
    let x = part 0 u f ++ zeros (m - u) in
    let lu : length (part 0 u f) ≡ u = length_part 0 u f (omega arith) in
    let lz : length (zeros (m - u)) ≡ m - u = length-replicate {A = ℕ} (m - u) 0 in
    let lx : length x ≡ m = length-append (part 0 u f) (zeros (m - u)) ∙ omega arith in
    let lb : length (part o (length f - o) f) ≡ length f - o = length_part o (length f - o) f (omega arith) in
    let rest : part o (length f - o) f ≡ drop o f = unfold part in take_all (length f - o) (drop o f) (simp length-drop (omega arith)) in
    rw (e₂, e₁, filled s x (part o (length f - o) f) m lx (omega arith), rest, eu, eo, em)
    (append_assoc (part 0 (entries_end p f) f) (zeros (master_size (under_control c p) - entries_end p f)) (drop (master_size p) f))
