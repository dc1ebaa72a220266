-- The records of a tree ascend strictly: so no two have one key, and two such lists of the same records are one.
use mathlib.Core.Path.{◌≡◌, refl, sym, ap, ◌∙◌}
use mathlib.Core.Bool.{Bool, true, false, cond}
use mathlib.Core.List.{List, [], ◌∷◌, ◌++◌}
use Prim.Native.Nat.{ℕ, ◌+◌, ◌≤◌}
use native.Mathlib.Omega.{arith}
use lib.ListN.{length, take}
use Rattle.words.specs.Words.{part}
use Rattle.words.specs.Keys.{key_lt, key_le, same_key}
use Rattle.words.proofs.All.{and_both}
use Rattle.words.proofs.Keys.{Stands, below, same, above, stands, clash, key_lt-irrefl, key_lt-trans, key_lt-le-trans, key_le-lt-trans, same_key-true, same_key-refl}
use Rattle.drum.specs.declared.Description.{Description}
use Rattle.layout.specs.Tree.{Leaf, records_in}
use Rattle.layout.specs.Holds.{All, LeavesOk, ascending, keys_of}
use Rattle.rules.specs.State.{key_in}
use Rattle.salvaged.proofs.Rows.{all_both}
use Rattle.salvaged.proofs.Once.{all_map}
use Rattle.salvaged.proofs.GoodBlocks.{ascending-end}
use Rattle.salvaged.proofs.Counting.{taken}

module _ (p : Description) where
  -- all have keys above this one
  abbrev pub Above : List ℕ → List (List ℕ) → Type 0
  Above key rs = All (λ (r : List ℕ). key_lt key (key_in p r) ≡ true) rs

  unfoldable pub Up : List (List ℕ) → Type 0
  Up [] = Unit {0}
  Up (r ∷ rs) = Above (key_in p r) rs × Up rs

  above-all : (key : List ℕ) (rs : List (List ℕ)) → ascending (key ∷ keys_of p rs) ≡ true → Above key rs
  unfolding All ascending part
  above-all key [] h = tt
  above-all key (r ∷ rs) h =
      let (a, b) = and_both (key_lt key (take p.k r)) (ascending (take p.k r ∷ keys_of p rs)) h in (
        a,
        all_map (λ (s : List ℕ). key_lt (take p.k r) (key_in p s) ≡ true) (λ (s : List ℕ). key_lt key (key_in p s) ≡ true)
            (λ s l. key_lt-trans key (take p.k r) (key_in p s) a l) rs (above-all (take p.k r) rs b),
      )

  rows-up : (rs : List (List ℕ)) → ascending (keys_of p rs) ≡ true → Up rs
  unfolding Up part
  rows-up [] h = tt
  rows-up (r ∷ rs) h = (above-all (take p.k r) rs h, rows-up rs (ascending-end (take p.k r ∷ []) (keys_of p rs) h))

  abbrev AtMost : List ℕ → List (List ℕ) → Type 0
  AtMost bound rs = All (λ (r : List ℕ). key_le (key_in p r) bound ≡ true) rs

  at_most : (bound : List ℕ) (rs : List (List ℕ)) → All (λ key. key_le key bound ≡ true) (keys_of p rs) → AtMost bound rs
  unfolding All part
  at_most bound [] a = tt
  at_most bound (r ∷ rs) (a, more) = (a, at_most bound rs more)

  bound-above : (key bound : List ℕ) (rs : List (List ℕ)) → 1 ≤ length rs → Above key rs → AtMost bound rs → key_lt key bound ≡ true
  unfolding All
  bound-above key bound [] l a m = absurd (omega arith)
  bound-above key bound (r ∷ rs) l a m = key_lt-le-trans key (key_in p r) bound a.0 m.0

  leaves-above : (key : List ℕ) (ls : List Leaf) → LeavesOk p (key ∷ []) ls → Above key (records_in ls)
  unfolding LeavesOk All
  leaves-above key [] o = tt
  leaves-above key (l ∷ ls) (o, more) =
      let here = above-all key l.records o.order in
      let b = bound-above key l.bound l.records o.counted.0 here (at_most l.bound l.records o.bounded) in
      all_both (λ (r : List ℕ). key_lt key (key_in p r) ≡ true) l.records (records_in ls) here
      (all_map (λ (s : List ℕ). key_lt l.bound (key_in p s) ≡ true) (λ (s : List ℕ). key_lt key (key_in p s) ≡ true)
      (λ s x. key_lt-trans key l.bound (key_in p s) b x) (records_in ls) (leaves-above l.bound ls more))

  up-append : (bound : List ℕ) (xs ys : List (List ℕ)) → Up xs → Up ys → AtMost bound xs → Above bound ys → Up (xs ++ ys)
  unfolding Up All
  up-append bound [] ys u v m a = v
  up-append bound (x ∷ xs) ys u v m a = (
    all_both (λ (r : List ℕ). key_lt (key_in p x) (key_in p r) ≡ true) xs ys u.0
        (all_map (λ (s : List ℕ). key_lt bound (key_in p s) ≡ true) (λ (s : List ℕ). key_lt (key_in p x) (key_in p s) ≡ true)
        (λ s l. key_le-lt-trans (key_in p x) bound (key_in p s) m.0 l) ys a),
    up-append bound xs ys u.1 v m.1 a,
  )

  pub leaves-up : (before : List (List ℕ)) (ls : List Leaf) → LeavesOk p before ls → Up (records_in ls)
  unfolding LeavesOk
  leaves-up before [] o = unfold Up in tt
  leaves-up before (l ∷ ls) (o, more) =
      up-append l.bound l.records (records_in ls) (rows-up l.records (ascending-end before (keys_of p l.records) o.order))
      (leaves-up (l.bound ∷ []) ls more) (at_most l.bound l.records o.bounded) (leaves-above l.bound ls more)

  -- ---- a test that takes one key takes one record at most
  module _ (q : List ℕ → Bool) where
    pub above-none : (key : List ℕ) (rs : List (List ℕ)) → ((r : List ℕ) → q r ≡ true → key_lt key (key_in p r) ≡ false) → Above key rs → taken q rs ≡ 0
    unfolding All taken
    above-none key [] h a = refl
    above-none key (r ∷ rs) h a = let e = above-none key rs h a.1 in go (q r) refl e
      where
        go : (c : Bool) → q r ≡ c → taken q rs ≡ 0 → cond c 1 0 + taken q rs ≡ 0
        go true e z = absurd (clash (sym a.0 ∙ h r e))
        go false e z = omega arith

    pub one-taken : (key : List ℕ) (rs : List (List ℕ)) → ((r : List ℕ) → q r ≡ true → key_in p r ≡ key) → Up rs → taken q rs ≤ 1
    unfolding Up taken
    one-taken key [] h u = omega arith
    one-taken key (r ∷ rs) h u = go (q r) refl (one-taken key rs h u.1)
      where
        go : (c : Bool) → q r ≡ c → taken q rs ≤ 1 → cond c 1 0 + taken q rs ≤ 1
        go true e l =
            let z = above-none (key_in p r) rs (λ s y. ap (key_lt (key_in p r)) (h s y ∙ sym (h r e)) ∙ key_lt-irrefl (key_in p r)) u.0 in omega arith
        go false e l = omega arith

  -- ---- two such lists of the same records are one

  abbrev equal : List ℕ → List ℕ → Bool
  equal x r = same_key r x

  -- a record whose key is below those of a list is none of it
  none_equal : (key x : List ℕ) (rs : List (List ℕ)) → key_lt key (key_in p x) ≡ false → Above key rs → taken (equal x) rs ≡ 0
  none_equal key x rs h a = above-none (equal x) key rs (λ r e. ap (λ (z : List ℕ). key_lt key (key_in p z)) (same_key-true r x e) ∙ h) a

  self-taken : (x : List ℕ) (xs : List (List ℕ)) → taken (equal x) (x ∷ xs) ≡ 1 + taken (equal x) xs
  unfolding taken
  self-taken x xs = ap (λ (c : Bool). cond c 1 0 + taken (equal x) xs) (same_key-refl x)

  -- x is not where all keys are above its own
  not-above : (x y : List ℕ) (ys : List (List ℕ)) → key_lt (key_in p x) (key_in p y) ≡ true → Above (key_in p y) ys → taken (equal x) (y ∷ ys) ≡ 0
  unfolding All
  not-above x y ys l a =
      none_equal (key_in p x) x (y ∷ ys) (key_lt-irrefl (key_in p x)) (
        l,
        all_map (λ (s : List ℕ). key_lt (key_in p y) (key_in p s) ≡ true) (λ (s : List ℕ). key_lt (key_in p x) (key_in p s) ≡ true)
            (λ s m. key_lt-trans (key_in p x) (key_in p y) (key_in p s) l m) ys a,
      )

  same_head : (x y : List ℕ) (ys : List (List ℕ)) → key_in p x ≡ key_in p y → Above (key_in p y) ys → 1 ≤ taken (equal x) (y ∷ ys) → y ≡ x
  unfolding taken
  same_head x y ys e a l = go (equal x y) refl l
    where
      go : (c : Bool) → equal x y ≡ c → 1 ≤ cond c 1 0 + taken (equal x) ys → y ≡ x
      go true h m = same_key-true y x h
      go false h m =
          absurd (omega (arith, none_equal (key_in p y) x ys (ap (key_lt (key_in p y)) e ∙ key_lt-irrefl (key_in p y)) a))

  some-none : (x : List ℕ) (xs : List (List ℕ)) → taken (λ r. true) (x ∷ xs) ≡ taken (λ r. true) [] → ⊥
  unfolding taken
  some-none x xs e = omega arith

  tail-taken : (x y : List ℕ) (xs ys : List (List ℕ)) (q : List ℕ → Bool) → x ≡ y → taken q (x ∷ xs) ≡ taken q (y ∷ ys) → taken q xs ≡ taken q ys
  unfolding taken
  tail-taken x y xs ys q e h = let c : cond (q x) 1 0 ≡ cond {A = ℕ} (q y) 1 0 = ap (λ (z : List ℕ). cond {A = ℕ} (q z) 1 0) e in omega arith

  pub same_lists : (xs ys : List (List ℕ)) → Up xs → Up ys → ((q : List ℕ → Bool) → taken q xs ≡ taken q ys) → xs ≡ ys
  unfolding Up
  same_lists [] [] u v h = refl
  same_lists [] (y ∷ ys) u v h = absurd (some-none y ys (sym (h (λ r. true))))
  same_lists (x ∷ xs) [] u v h = absurd (some-none x xs (h (λ r. true)))
  same_lists (x ∷ xs) (y ∷ ys) u v h = go (stands (key_in p x) (key_in p y)) (same_lists xs ys u.1 v.1)
    where
      go : Stands (key_in p x) (key_in p y) → (((q : List ℕ → Bool) → taken q xs ≡ taken q ys) → xs ≡ ys) → x ∷ xs ≡ y ∷ ys
      go (below l) k = absurd (omega (arith, h (equal x), self-taken x xs, not-above x y ys l v.0))
      go (above l) k = absurd (omega (arith, h (equal y), self-taken y ys, not-above y x xs l u.0))
      go (same e) k =
          let f : y ≡ x = same_head x y ys e v.0 (omega (arith, h (equal x), self-taken x xs)) in
          λ j. sym f j ∷ k (λ q. tail-taken x y xs ys q (sym f) (h q)) j
