-- Events on ordered contents: a key is found exactly when it stood there or was put in, and was not taken out since; and what is found
-- is the record last stored under it.
use Prim.Native.Nat.{ℕ, suc, ◌<◌}
use mathlib.Core.Bool.{cond}
use mathlib.Core.Logic.{◌≢◌}
use mathlib.Core.Path.{◌≡◌, refl, sym, ap, ◌∙◌}
use mathlib.Core.List.{List, [], ◌∷◌, ◌++◌, append_assoc, append-nil}
use native.Mathlib.Omega.{arith}
use native.Mathlib.Decide.{ℕ_discrete, dec_lt}
use lib.Dec.{eqb}
use borrow.Author.Tests.{lt-ltb, le-ltb, eq-eqb, ne_eqb}
use Rattle.words.proofs.Keys.{Tri, tri, lt, eq, gt}
use Rattle.demands.proofs.Order.{Asc, asc-append, asc-below, asc-from, below, from, below-from, hit, ins, del, upd, hit-local, asc-upd, asc-del}

-- a record is put in (anew, or in place of the one with its key); the record with a key is taken out
pub data Change (A : Type 0) : Type 0 where
  puts : A → Change A
  drops : ℕ → Change A

module _ {A : Type 0} (key : A → ℕ) where
  -- a list cut around x: what is below x, what has the key x, what is above
  module _ (x top : ℕ) (P M Q : List A) (hp : Asc key 0 P x) (hm : Asc key x M (suc x)) (hq : Asc key (suc x) Q top) where
    hit-mid : hit key x (P ++ (M ++ Q)) ≡ hit key x M
    hit-mid = hit-local key P M Q x (suc x) top hp hm hq x (omega arith) (omega arith)

    hit-low : (k : ℕ) → k < x → hit key k (P ++ (M ++ Q)) ≡ hit key k P
    hit-low k h = hit-local key [] P (M ++ Q) 0 x top (omega arith) hp (asc-append key x M (suc x) Q top hm hq) k (omega arith) h

    hit-high : (k : ℕ) → x < k → k < top → hit key k (P ++ (M ++ Q)) ≡ hit key k Q
    hit-high k h u =
        ap (hit key k) (sym (append_assoc P M Q) ∙ ap (λ (z : List A). (P ++ M) ++ z) (sym (append-nil Q)))
        ∙ hit-local key (P ++ M) Q [] (suc x) top top (asc-append key 0 P x M (suc x) hp hm) hq (omega arith) k h u

  -- at another key nothing changes
  hit_other : (x top k : ℕ) (P M M' Q : List A) → Asc key 0 P x → Asc key x M (suc x) → Asc key x M' (suc x) → Asc key (suc x) Q top
      → k ≢ x → k < top → hit key k (P ++ (M' ++ Q)) ≡ hit key k (P ++ (M ++ Q))
  hit_other x top k P M M' Q hp hm hm' hq n u = go (tri k x)
    where
      go : Tri k x → hit key k (P ++ (M' ++ Q)) ≡ hit key k (P ++ (M ++ Q))
      go (lt l) = hit-low x top P M' Q hp hm' hq k l ∙ sym (hit-low x top P M Q hp hm hq k l)
      go (eq e) = absurd (n e)
      go (gt g) = hit-high x top P M' Q hp hm' hq k g u ∙ sym (hit-high x top P M Q hp hm hq k g u)

  from-from : (x : ℕ) (xs : List A) → from key (suc x) (from key x xs) ≡ from key (suc x) xs
  unfolding from
  from-from x [] = refl
  from-from x (y ∷ ys) = go (dec_lt (key y) x) (from-from x ys)
    where
      go : Dec (key y < x) → from key (suc x) (from key x ys) ≡ from key (suc x) ys → from key (suc x) (from key x (y ∷ ys)) ≡ from key (suc x) (y ∷ ys)
      go (yes h) e = rw (lt-ltb (key y) x h, lt-ltb (key y) (suc x) (omega arith)) e
      go (no n) e = rw (le-ltb (key y) x (omega arith))

  module _ (x top : ℕ) (xs : List A) (h : Asc key 0 xs top) (u : x < top) where
    -- the list, cut around x
    pub cut : below key x xs ++ (hit key x xs ++ from key (suc x) xs) ≡ xs
    unfolding hit
    cut =
        ap (λ (z : List A). below key x xs ++ z)
        (ap (λ (z : List A). below key (suc x) (from key x xs) ++ z) (sym (from-from x xs)) ∙ below-from key (suc x) (from key x xs))
        ∙ below-from key x xs

    hp : Asc key 0 (below key x xs) x
    hp = asc-below key 0 x xs top h (omega arith)

    hm : Asc key x (hit key x xs) (suc x)
    unfolding hit
    hm = asc-below key x (suc x) (from key x xs) top (asc-from key 0 x xs top h (omega arith)) (omega arith)

    hq : Asc key (suc x) (from key (suc x) xs) top
    hq = asc-from key 0 (suc x) xs top h u

    pub del-same : hit key x (del key x xs) ≡ []
    unfolding del
    del-same = hit-mid x top (below key x xs) [] (from key (suc x) xs) hp (omega arith) hq ∙ unfold hit below from in refl

    pub del-other : (k : ℕ) → k ≢ x → k < top → hit key k (del key x xs) ≡ hit key k xs
    unfolding del
    del-other k n v = hit_other x top k (below key x xs) (hit key x xs) [] (from key (suc x) xs) hp hm (omega arith) hq n v ∙ ap (hit key k) cut

    pub upd_same : (r : A) → key r ≡ x → hit key x (upd key r xs) ≡ r ∷ []
    unfolding upd
    upd_same r e = rw e (hit-mid x top (below key x xs) (r ∷ []) (from key (suc x) xs) hp (omega arith, omega arith) hq ∙ one)
      where
        one : hit key x (r ∷ []) ≡ r ∷ []
        one = unfold hit below from in rw (le-ltb (key r) x (omega arith), lt-ltb (key r) (suc x) (omega arith))

    pub upd_other : (r : A) → key r ≡ x → (k : ℕ) → k ≢ x → k < top → hit key k (upd key r xs) ≡ hit key k xs
    unfolding upd
    upd_other r e k n v =
        rw e (hit_other x top k (below key x xs) (hit key x xs) (r ∷ []) (from key (suc x) xs) hp hm (omega arith, omega arith) hq n v ∙ ap (hit key k) cut)

    -- where the key is not there an insertion is an update, so NSERT, XTEND and UPDAT are one event
    pub ins-upd : (r : A) → key r ≡ x → hit key x xs ≡ [] → ins key r xs ≡ upd key r xs
    unfolding ins upd hit
    ins-upd r e none =
        rw e
        (ap (λ (z : List A). below key x xs ++ r ∷ z)
        (sym (below-from key (suc x) (from key x xs)) ∙ ap (λ (z : List A). z ++ from key (suc x) (from key x xs)) none ∙ from-from x xs))

  -- ---- a list of events

  unfoldable pub happen : Change A → List A → List A
  happen (puts r) c = upd key r c
  happen (drops x) c = del key x c

  unfoldable pub happened : List (Change A) → List A → List A
  happened [] c = c
  happened (e ∷ es) c = happened es (happen e c)

  pub happened-append : (es gs : List (Change A)) (c : List A) → happened (es ++ gs) c ≡ happened gs (happened es c)
  unfolding happened
  happened-append [] gs c = refl
  happened-append (e ∷ es) gs c = happened-append es gs (happen e c)

  -- what stands at the key k, where d stood: none, or the record last put in under it
  unfoldable pub last_put : ℕ → List (Change A) → List A → List A
  last_put k [] d = d
  last_put k (puts r ∷ es) d = last_put k es (cond (eqb (key r) k) (r ∷ []) d)
  last_put k (drops x ∷ es) d = last_put k es (cond (eqb x k) [] d)

  -- no event is at the key `top` or above it
  abbrev pub KeyedBy : ℕ → List (Change A) → Type 0
  KeyedBy top [] = Unit {0}
  KeyedBy top (puts r ∷ es) = (key r < top) × KeyedBy top es
  KeyedBy top (drops x ∷ es) = (x < top) × KeyedBy top es

  at_stored : (top k : ℕ) (r : A) (c : List A) → Asc key 0 c top → key r < top → k < top
      → hit key k (upd key r c) ≡ cond (eqb (key r) k) (r ∷ []) (hit key k c)
  at_stored top k r c h u v = go (ℕ_discrete (key r) k)
    where
      go : Dec (key r ≡ k) → hit key k (upd key r c) ≡ cond (eqb (key r) k) (r ∷ []) (hit key k c)
      go (yes e) = rw (eq-eqb (key r) k e) (upd_same k top c h v r e)
      go (no n) = rw (ne_eqb (key r) k n) (upd_other (key r) top c h u r refl k (λ e. n (sym e)) v)

  at-removed : (top k x : ℕ) (c : List A) → Asc key 0 c top → x < top → k < top → hit key k (del key x c) ≡ cond (eqb x k) [] (hit key k c)
  at-removed top k x c h u v = go (ℕ_discrete x k)
    where
      go : Dec (x ≡ k) → hit key k (del key x c) ≡ cond (eqb x k) [] (hit key k c)
      go (yes e) = rw (eq-eqb x k e, e) (del-same k top c h v)
      go (no n) = rw (ne_eqb x k n) (del-other x top c h u k (λ e. n (sym e)) v)

  -- after any events what is found at a key is what stands there
  pub found-exactly : (top : ℕ) (es : List (Change A)) (c : List A) → Asc key 0 c top → KeyedBy top es
      → (k : ℕ) → k < top → hit key k (happened es c) ≡ last_put k es (hit key k c)
  unfolding happened last_put happen
  found-exactly top [] c h ok k v = refl
  found-exactly top (puts r ∷ es) c h ok k v =
      found-exactly top es (upd key r c) (asc-upd key 0 r c top h (omega arith) ok.0) ok.1 k v
      ∙ ap (last_put k es) (at_stored top k r c h ok.0 v)
  found-exactly top (drops x ∷ es) c h ok k v =
      found-exactly top es (del key x c) (asc-del key 0 x c top h (omega arith) ok.0) ok.1 k v
      ∙ ap (last_put k es) (at-removed top k x c h ok.0 v)
