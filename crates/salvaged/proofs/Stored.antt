-- Records put in their places, one after the other: which of them have a key.
use mathlib.Core.Path.{◌≡◌, refl, sym, ap, ◌∙◌}
use mathlib.Core.Bool.{Bool, true, false, cond}
use mathlib.Core.List.{List, [], ◌∷◌, ◌++◌, map}
use Prim.Native.Nat.{ℕ}
use Rattle.words.specs.Keys.{key_lt, same_key}
use Rattle.words.proofs.Keys.{Stands, below, same, above, stands, clash, key_lt-irrefl, key_lt-trans, same_key-eq, same_key-true}
use Rattle.drum.specs.declared.Description.{Description}
use Rattle.rules.specs.State.{key_in}
use Rattle.demands.specs.History.{stored, with_key}
use Rattle.demands.specs.Contents.{records_below, records_above, changed}

pub with_append : (p : Description) (key : List ℕ) (xs ys : List (List ℕ)) → with_key p key (xs ++ ys) ≡ with_key p key xs ++ with_key p key ys
unfolding with_key
with_append p key [] ys = refl
with_append p key (x ∷ xs) ys = go (same_key (key_in p x) key) (with_append p key xs ys)
  where
    go : (c : Bool) → with_key p key (xs ++ ys) ≡ with_key p key xs ++ with_key p key ys
        → cond c (x ∷ with_key p key (xs ++ ys)) (with_key p key (xs ++ ys)) ≡ cond c (x ∷ with_key p key xs) (with_key p key xs) ++ with_key p key ys
    go true e = ap (λ (l : List (List ℕ)). x ∷ l) e
    go false e = e

-- a record x before others, B of which W have the key: here says whether x is taken, there whether those with the key are
module _ (p : Description) (key x : List ℕ) (B W : List (List ℕ)) where
  taken : (c : Bool) → with_key p key B ≡ cond c W [] → same_key (key_in p x) key ≡ true → with_key p key (cond c (x ∷ B) B) ≡ cond c (x ∷ W) []
  unfolding with_key
  taken true e h = ap (λ (t : Bool). cond t (x ∷ with_key p key B) (with_key p key B)) h ∙ ap (λ (l : List (List ℕ)). x ∷ l) e
  taken false e h = e

  passed-by : (c : Bool) → same_key (key_in p x) key ≡ false → with_key p key (cond c (x ∷ B) B) ≡ with_key p key B
  unfolding with_key
  passed-by true h = ap (λ (t : Bool). cond t (x ∷ with_key p key B) (with_key p key B)) h
  passed-by false h = refl

  picked : (here there t : Bool) → same_key (key_in p x) key ≡ t → (same_key (key_in p x) key ≡ true → here ≡ there) → with_key p key B ≡ cond there W []
      → with_key p key (cond here (x ∷ B) B) ≡ cond there (cond (same_key (key_in p x) key) (x ∷ W) W) []
  picked here there true h q e =
      ap (λ (c : Bool). with_key p key (cond c (x ∷ B) B)) (q h)
      ∙ taken there e h
      ∙ sym (ap (λ (t : Bool). cond there (cond t (x ∷ W) W) []) h)
  picked here there false h q e = passed-by here h ∙ e ∙ sym (ap (λ (t : Bool). cond there (cond t (x ∷ W) W) []) h)

none-either : (c : Bool) → [] ≡ cond {A = List (List ℕ)} c [] []
none-either true = refl
none-either false = refl

module _ (p : Description) (key k : List ℕ) where
  -- of the records below k and above it, those with the key: all, or none
  with-below : (rows : List (List ℕ)) → with_key p key (records_below p k rows) ≡ cond (key_lt key k) (with_key p key rows) []
  unfolding with_key records_below
  with-below [] = none-either (key_lt key k)
  with-below (x ∷ xs) =
      picked p key x (records_below p k xs) (with_key p key xs) (key_lt (key_in p x) k) (key_lt key k) (same_key (key_in p x) key) refl
      (λ h. ap (λ (z : List ℕ). key_lt z k) (same_key-true (key_in p x) key h)) (with-below xs)

  with-above : (rows : List (List ℕ)) → with_key p key (records_above p k rows) ≡ cond (key_lt k key) (with_key p key rows) []
  unfolding with_key records_above
  with-above [] = none-either (key_lt k key)
  with-above (x ∷ xs) =
      picked p key x (records_above p k xs) (with_key p key xs) (key_lt k (key_in p x)) (key_lt k key) (same_key (key_in p x) key) refl
      (λ h. ap (key_lt k) (same_key-true (key_in p x) key h)) (with-above xs)

lt-not-same : (a b : List ℕ) → key_lt a b ≡ true → (same_key b a ≡ false) × (key_lt b a ≡ false)
lt-not-same a b h = (not_same (same_key b a) refl, not-above (key_lt b a) refl)
  where
    not_same : (c : Bool) → same_key b a ≡ c → c ≡ false
    not_same true e = absurd (clash (sym h ∙ ap (key_lt a) (same_key-true b a e) ∙ key_lt-irrefl a))
    not_same false e = refl

    not-above : (c : Bool) → key_lt b a ≡ c → c ≡ false
    not-above true e = absurd (clash (sym (key_lt-trans a b a h e) ∙ key_lt-irrefl a))
    not-above false e = refl

append-none : (l : List (List ℕ)) → l ++ [] ≡ l
append-none [] = refl
append-none (x ∷ l) = ap (λ (m : List (List ℕ)). x ∷ m) (append-none l)

-- what is below, what is the same, what is above
abbrev three : List (List ℕ) → List ℕ → Bool → Bool → Bool → List (List ℕ)
three W r lo eq hi = cond lo W [] ++ cond eq (r ∷ cond hi W []) (cond hi W [])

three-is : (W : List (List ℕ)) (r key k : List ℕ) → Stands key k → three W r (key_lt key k) (same_key k key) (key_lt k key) ≡ cond (same_key k key) (r ∷ []) W
three-is W r key k (below h) =
    let n = lt-not-same key k h in
    (λ j. three W r (h j) (n.0 j) (n.1 j)) ∙ append-none W ∙ sym (ap (λ (t : Bool). cond t (r ∷ []) W) n.0)
three-is W r key k (same e) =
    let a : key_lt key k ≡ false = ap (λ (z : List ℕ). key_lt z k) e ∙ key_lt-irrefl k in
    let b : key_lt k key ≡ false = ap (key_lt k) e ∙ key_lt-irrefl k in
    let c : same_key k key ≡ true = same_key-eq k key (sym e) in
    (λ j. three W r (a j) (c j) (b j)) ∙ sym (ap (λ (t : Bool). cond t (r ∷ []) W) c)
three-is W r key k (above h) =
    let n = lt-not-same k key h in
    let c : same_key k key ≡ false = differ (same_key k key) refl in
    (λ j. three W r (n.1 j) (c j) (h j)) ∙ sym (ap (λ (t : Bool). cond t (r ∷ []) W) c)
  where
    differ : (t : Bool) → same_key k key ≡ t → t ≡ false
    differ true e = absurd (clash (sym h ∙ ap (λ (z : List ℕ). key_lt z key) (same_key-true k key e) ∙ key_lt-irrefl key))
    differ false e = refl

-- a record r put in its place: under its own key it stands alone, and under any other what stood there
with-put : (p : Description) (key r : List ℕ) (rows : List (List ℕ))
    → with_key p key (records_below p (key_in p r) rows ++ r ∷ records_above p (key_in p r) rows) ≡ cond (same_key (key_in p r) key) (r ∷ []) (with_key p key rows)
unfolding with_key
with-put p key r rows =
    let k = key_in p r in
    with_append p key (records_below p k rows) (r ∷ records_above p k rows)
    ∙ (λ j. with-below p key k rows j ++ cond (same_key k key) (r ∷ with-above p key k rows j) (with-above p key k rows j))
    ∙ three-is (with_key p key rows) r key k (stands key k)

-- of records put in one after the other: none has the key, and what stood under it stands; or one has it, and one stands under it
pub data Under (was some now : List (List ℕ)) : Type 0 where
  none : some ≡ [] → now ≡ was → Under was some now
  one : (r : List ℕ) (rs : List (List ℕ)) (x : List ℕ) → some ≡ r ∷ rs → now ≡ x ∷ [] → Under was some now

-- the records with r in its place
abbrev placed : Description → List ℕ → List (List ℕ) → List (List ℕ)
placed p r rows = records_below p (key_in p r) rows ++ r ∷ records_above p (key_in p r) rows

one_more_lem : (p : Description) (key r : List ℕ) (rows rs end : List (List ℕ)) (t : Bool) → same_key (key_in p r) key ≡ t → Under (with_key p key (placed p r rows)) rs end
    → Under (with_key p key rows) (cond t (r ∷ rs) rs) end
one_more_lem p key r rows rs end true h (none e n) = one r rs r refl (n ∙ with-put p key r rows ∙ ap (λ (t : Bool). cond t (r ∷ []) (with_key p key rows)) h)
one_more_lem p key r rows rs end true h (one y ys x e n) = one r rs x refl n
one_more_lem p key r rows rs end false h (none e n) = none e (n ∙ with-put p key r rows ∙ ap (λ (t : Bool). cond t (r ∷ []) (with_key p key rows)) h)
one_more_lem p key r rows rs end false h (one y ys x e n) = one y ys x e n

pub with-changed : (p : Description) (key : List ℕ) (rs rows : List (List ℕ))
    → Under (with_key p key rows) (with_key p key rs) (with_key p key (changed p (map stored rs) rows))
unfolding with_key changed
with-changed p key [] rows = none refl refl
with-changed p key (r ∷ rs) rows =
    one_more_lem p key r rows (with_key p key rs) _ (same_key (key_in p r) key) refl (with-changed p key rs (placed p r rows))
