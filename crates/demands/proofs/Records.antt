-- The records of one detail block: where a key stands among them, and what is done there. And the end record, which stays the last.
use Prim.Native.Nat.{ℕ, suc, ◌+◌, ◌-◌, ◌*◌, ◌≤◌, ◌<◌}
use mathlib.Core.Bool.{true}
use mathlib.Core.Path.{◌≡◌, refl, sym, ap, ◌∙◌, subst}
use mathlib.Core.List.{List, [], ◌∷◌, ◌++◌, append_assoc, append-nil}
use native.Mathlib.Omega.{arith}
use native.Mathlib.Decide.{dec_lt}
use lib.Dec.{ltb, eqb}
use lib.ListN.{length, take, length-append, length-replicate}
use lib.Seq.{take_at, length-take-le}
use borrow.Author.Tests.{lt-ltb, le-ltb, eqb-true, eqb-false}
use Rattle.words.specs.Words.{part, all_words, zeros, top_word}
use Rattle.words.specs.Keys.{ones, key_lt, val}
use Rattle.words.proofs.Values.{key_lt-val}
use Rattle.words.proofs.All.{all_words-take}
use Rattle.table.specs.Tables.{row_with, row_above, row, key_at, inserted, removed, replaced}
use Rattle.drum.specs.declared.Description.{Description}
use Rattle.drum.specs.Params.{detail_shape}
use Rattle.layout.specs.Create.{end_record}
use Rattle.layout.specs.Tree.{Leaf, Section}
use Rattle.rules.specs.State.{key_in}
use Rattle.demands.proofs.Lists.{All, all_left, all_right, all_append}
use Rattle.demands.proofs.Rows.{first_in, None, Found, nowhere, at, found}
use Rattle.demands.proofs.Order.{Asc, after, asc-wide, asc-left, asc-right, asc-append, below, from, below-from, below_at, from_at, below-above, ins}
use Rattle.demands.proofs.Order.{upd, del, hit, ins-local, upd-local, del-local}
use Rattle.demands.proofs.Trees.{leaves_in, records_in, key, table}
use Rattle.demands.proofs.Holds.{LeafFits, SectionOk, RowOk}
use Rattle.demands.proofs.Texts.{table-row, table-key, table-insert, table-remove, table-replace}
use Rattle.demands.proofs.Find.{KeyRow, table-with-is, table-above-is}
use Rattle.demands.proofs.Sound.{Key, Ended, rows_long}

-- ---- an ascending list, cut at an element

module _ {A : Type 0} (K : A → ℕ) where
  pub none-hit : (x : ℕ) (xs : List A) → None (λ r. eqb (K r) x) xs → hit K x xs ≡ []
  unfolding hit below from
  none-hit x [] n = refl
  none-hit x (r ∷ rs) n = go (dec_lt (K r) x) (dec_lt x (K r)) (none-hit x rs n.1)
    where
      go : Dec (K r < x) → Dec (x < K r) → hit K x rs ≡ [] → hit K x (r ∷ rs) ≡ []
      go (yes l) d e = rw (lt-ltb (K r) x l) e
      go (no m) (yes g) e = rw (le-ltb (K r) x (omega arith), le-ltb (K r) (suc x) g)
      go (no m) (no g) e = absurd (eqb-false (K r) x n.0 (omega arith))

  below_suc : (x : ℕ) (xs : List A) → below K (suc x) xs ≡ below K x xs ++ hit K x xs
  unfolding hit below from
  below_suc x [] = refl
  below_suc x (r ∷ rs) = go (dec_lt (K r) x) (below_suc x rs)
    where
      go : Dec (K r < x) → below K (suc x) rs ≡ below K x rs ++ hit K x rs → below K (suc x) (r ∷ rs) ≡ below K x (r ∷ rs) ++ hit K x (r ∷ rs)
      go (yes l) e = rw (lt-ltb (K r) x l, lt-ltb (K r) (suc x) (omega arith)) (ap (λ (z : List A). r ∷ z) e)
      go (no m) e = rw (le-ltb (K r) x (omega arith))

  pub place-above : (x : ℕ) (xs : List A) → first_in (λ r. ltb x (K r)) xs ≡ length (below K (suc x) xs)
  unfolding first_in below
  place-above x [] = refl
  place-above x (r ∷ rs) = go (dec_lt x (K r)) (place-above x rs)
    where
      go : Dec (x < K r) → first_in (λ r. ltb x (K r)) rs ≡ length (below K (suc x) rs) → first_in (λ r. ltb x (K r)) (r ∷ rs) ≡ length (below K (suc x) (r ∷ rs))
      go (yes h) e = rw (lt-ltb x (K r) h, le-ltb (K r) (suc x) h)
      go (no n) e = rw (le-ltb x (K r) (omega arith), lt-ltb (K r) (suc x) (omega arith), e)

  -- where no element has the key, the first above it stands where it would go
  pub place-new : (x : ℕ) (xs : List A) → hit K x xs ≡ [] → first_in (λ r. ltb x (K r)) xs ≡ length (below K x xs)
  place-new x xs e = place-above x xs ∙ ap length (below_suc x xs ∙ ap (λ (z : List A). below K x xs ++ z) e ∙ append-nil (below K x xs))

  pub length-ins : (r : A) (xs : List A) → length (ins K r xs) ≡ suc (length xs)
  unfolding ins
  length-ins r xs = rw (length-append (below K (K r) xs)) (omega (arith, simp length-append at (ap length (below-from K (K r) xs))))

  pub all-ins : (P : A → Type 0) (r : A) (xs : List A) → P r → All P xs → All P (ins K r xs)
  unfolding ins
  all-ins P r xs h a =
      let s : All P (below K (K r) xs ++ from K (K r) xs) = rw (below-from K (K r) xs) a in
      all_append P (below K (K r) xs) _ (all_left P (below K (K r) xs) _ s) (h, all_right P (below K (K r) xs) _ s)

  module _ (lo : ℕ) (bs : List A) (r : A) (cs : List A) (hi : ℕ) (h : Asc K lo (bs ++ r ∷ cs) hi) where
    pub cut-front : Asc K lo bs (K r)
    cut-front = asc-wide K lo lo bs (after K lo bs) (K r) (asc-left K lo bs (r ∷ cs) hi h) (omega arith) (asc-right K lo bs (r ∷ cs) hi h).0

    pub cut-back : Asc K (suc (K r)) cs hi
    cut-back = (asc-right K lo bs (r ∷ cs) hi h).1

    cut-rest : Asc K (K r) (r ∷ cs) hi
    cut-rest = (omega arith, cut-back)

    both : (bs ++ (r ∷ [])) ++ cs ≡ bs ++ r ∷ cs
    both = append_assoc bs (r ∷ []) cs

    through : Asc K lo (bs ++ (r ∷ [])) (suc (K r))
    through = asc-append K lo bs (K r) (r ∷ []) (suc (K r)) cut-front (omega arith, omega arith)

    pub from_suc : from K (suc (K r)) (bs ++ r ∷ cs) ≡ cs
    from_suc = rw (← both) (from_at K lo (bs ++ (r ∷ [])) (suc (K r)) cs hi through cut-back)

    below-here : below K (K r) (bs ++ r ∷ cs) ≡ bs
    below-here = below_at K lo bs (K r) (r ∷ cs) hi cut-front cut-rest

    pub hit-at : hit K (K r) (bs ++ r ∷ cs) ≡ r ∷ []
    unfolding hit below
    hit-at = rw (from_at K lo bs (K r) (r ∷ cs) hi cut-front cut-rest, lt-ltb (K r) (suc (K r)) (omega arith), below-above K (suc (K r)) cs hi cut-back)

    pub del-at : del K (K r) (bs ++ r ∷ cs) ≡ bs ++ cs
    unfolding del
    del-at = rw (below-here, from_suc)

    pub upd-at : (r' : A) → K r' ≡ K r → upd K r' (bs ++ r ∷ cs) ≡ bs ++ r' ∷ cs
    unfolding upd
    upd-at r' e = rw (e, below-here, from_suc)

-- ---- the search for a key in a detail block

pub data AtKey (k : ℕ) (x : ℕ) (rows : List (List ℕ)) (i : ℕ) : Type 0 where
  missing : i ≡ length rows → hit (key k) x rows ≡ [] → AtKey k x rows i
  present : (bs : List (List ℕ)) (r : List ℕ) (cs : List (List ℕ)) → rows ≡ bs ++ r ∷ cs → i ≡ length bs → key k r ≡ x → AtKey k x rows i

-- words that can be a key: K of them, none above 262143
abbrev pub WideKey : Description → List ℕ → Type 0
WideKey p w = (length w ≡ p.k) × (all_words w ≡ true)

module _ (p : Description) (kr : p.k ≤ p.wpr) where
  pub key-long : (r : List ℕ) → RowOk p r → WideKey p (take p.k r)
  key-long r h = (length-take-le p.k r (rw h.0 kr), all_words-take p.k r h.1)

  key-rows : (w : List ℕ) (q : all_words w ≡ true) → length w ≡ p.k → (rows : List (List ℕ)) → All (RowOk p) rows → All (KeyRow w q p.k) rows
  key-rows w q e [] h = tt
  key-rows w q e (r ∷ rows) h = (((key-long r h.0).0 ∙ sym e, (key-long r h.0).1), key-rows w q e rows h.1)

  module _ (rows : List (List ℕ)) (ok : All (RowOk p) rows) (w : List ℕ) (q : all_words w ≡ true) (e : length w ≡ p.k) where
    pub at_key : AtKey p.k (val w) rows (row_with (detail_shape p) w (table (detail_shape p) p.wpb rows))
    unfolding detail_shape key
    at_key =
        rw (table-with-is (detail_shape p) kr rows (rows_long p rows ok) w q (key-rows w q e rows ok) refl p.wpb)
        (go (found (λ r. eqb (key p.k r) (val w)) rows))
      where
        go : Found (λ r. eqb (key p.k r) (val w)) rows (first_in (λ r. eqb (key p.k r) (val w)) rows)
            → AtKey p.k (val w) rows (first_in (λ r. eqb (key p.k r) (val w)) rows)
        go (nowhere n h) = missing n (none-hit (key p.k) (val w) rows h)
        go (at bs r cs l n h t) = present bs r cs l n (eqb-true (key p.k r) (val w) t)

    -- the place of the first record above the key
    pub above_at : row_above (detail_shape p) w (table (detail_shape p) p.wpb rows) ≡ first_in (λ r. ltb (val w) (key p.k r)) rows
    unfolding detail_shape key
    above_at =
        table-above-is (detail_shape p) kr rows (rows_long p rows ok) w q (key-rows w q e rows ok) refl p.wpb

    -- the place for a new record
    pub new-at : hit (key p.k) (val w) rows ≡ [] → row_above (detail_shape p) w (table (detail_shape p) p.wpb rows) ≡ length (below (key p.k) (val w) rows)
    new-at none = above_at ∙ place-new (key p.k) (val w) rows none

  pub row_here : (bs : List (List ℕ)) (r : List ℕ) (cs : List (List ℕ)) → All (RowOk p) (bs ++ r ∷ cs)
      → row (detail_shape p) (table (detail_shape p) p.wpb (bs ++ r ∷ cs)) (length bs) ≡ r
  unfolding detail_shape
  row_here bs r cs ok =
      table-row p.wpb (detail_shape p) refl bs cs (rows_long p bs (all_left (RowOk p) bs _ ok)) (rows_long p cs (all_right (RowOk p) bs _ ok).1) r
      (all_right (RowOk p) bs _ ok).0.0

  pub key_here : (bs : List (List ℕ)) (r : List ℕ) (cs : List (List ℕ)) → All (RowOk p) (bs ++ r ∷ cs)
      → key_at (detail_shape p) (table (detail_shape p) p.wpb (bs ++ r ∷ cs)) (length bs) ≡ take p.k r
  unfolding detail_shape
  key_here bs r cs ok =
      table-key p.wpb (detail_shape p) refl bs cs (rows_long p bs (all_left (RowOk p) bs _ ok)) (rows_long p cs (all_right (RowOk p) bs _ ok).1) r
      (all_right (RowOk p) bs _ ok).0.0 kr

  -- what is done to the words of the block
  module _ (bs : List (List ℕ)) (x : List ℕ) (cs : List (List ℕ)) where
    pub record-replace : All (RowOk p) (bs ++ x ∷ cs) → (r : List ℕ) → length r ≡ p.wpr
        → replaced (detail_shape p) (length bs) r (table (detail_shape p) p.wpb (bs ++ x ∷ cs)) ≡ table (detail_shape p) p.wpb (bs ++ r ∷ cs)
    unfolding detail_shape
    record-replace ok r lr =
        table-replace p.wpb (detail_shape p) refl bs cs (rows_long p bs (all_left (RowOk p) bs _ ok)) (rows_long p cs (all_right (RowOk p) bs _ ok).1) x r
        (all_right (RowOk p) bs _ ok).0.0 lr

    pub record-remove : All (RowOk p) (bs ++ x ∷ cs) → 1 + length (bs ++ x ∷ cs) * p.wpr ≤ p.wpb
        → removed (detail_shape p) (length bs) (table (detail_shape p) p.wpb (bs ++ x ∷ cs)) ≡ table (detail_shape p) p.wpb (bs ++ cs)
    unfolding detail_shape
    record-remove ok fits =
        table-remove p.wpb (detail_shape p) refl bs cs (rows_long p bs (all_left (RowOk p) bs _ ok)) (rows_long p cs (all_right (RowOk p) bs _ ok).1) x
        (all_right (RowOk p) bs _ ok).0.0 fits

    pub record-insert : All (RowOk p) (bs ++ cs) → length x ≡ p.wpr → 1 + length (bs ++ x ∷ cs) * p.wpr ≤ p.wpb
        → inserted (detail_shape p) (length bs) x (table (detail_shape p) p.wpb (bs ++ cs)) ≡ table (detail_shape p) p.wpb (bs ++ x ∷ cs)
    unfolding detail_shape
    record-insert ok lx fits =
        table-insert p.wpb (detail_shape p) refl bs cs (rows_long p bs (all_left (RowOk p) bs _ ok))
        (rows_long p cs (all_right (RowOk p) bs _ ok)) x lx fits

  -- a record put in where its key goes
  pub record-ins : (rs : List (List ℕ)) (r : List ℕ) → All (RowOk p) rs → length r ≡ p.wpr → 1 + suc (length rs) * p.wpr ≤ p.wpb
      → inserted (detail_shape p) (length (below (key p.k) (key p.k r) rs)) r (table (detail_shape p) p.wpb rs) ≡ table (detail_shape p) p.wpb (ins (key p.k) r rs)
  unfolding ins
  record-ins rs r ok lr fits =
      let bs : List (List ℕ) = below (key p.k) (key p.k r) rs in
      let cs : List (List ℕ) = from (key p.k) (key p.k r) rs in
      let e : bs ++ cs ≡ rs = below-from (key p.k) (key p.k r) rs in
      let n : length (ins (key p.k) r rs) ≡ suc (length rs) = length-ins (key p.k) r rs in
      ap (λ (z : List (List ℕ)). inserted (detail_shape p) (length bs) r (table (detail_shape p) p.wpb z)) (sym e) ∙ put_in bs cs (subst (All (RowOk p)) (sym e) ok) n
    where
      put_in : (bs cs : List (List ℕ)) → All (RowOk p) (bs ++ cs) → length (bs ++ r ∷ cs) ≡ suc (length rs)
          → inserted (detail_shape p) (length bs) r (table (detail_shape p) p.wpb (bs ++ cs)) ≡ table (detail_shape p) p.wpb (bs ++ r ∷ cs)
      put_in bs cs ok n = record-insert bs r cs ok lr (rw n fits)

  -- ---- the end record stays the last

  pub end-key : key p.k (end_record p) ≡ val (ones p.k)
  unfolding key end_record
  end-key = ap val (take_at (ones p.k) (zeros (p.wpr - p.k)) p.k (length-replicate {A = ℕ} p.k top_word))

  module _ (rows : List (List ℕ)) (top : ℕ) (asc : Asc (key p.k) 0 rows top) (z : Ended p rows) where
    asc₂ : Asc (key p.k) 0 (z.front ++ end_record p ∷ []) top
    asc₂ = rw z.is at asc

    front-asc : Asc (key p.k) 0 z.front (val (ones p.k))
    front-asc = rw (← end-key) (cut-front (key p.k) 0 z.front (end_record p) [] top asc₂)

    back-asc : Asc (key p.k) (val (ones p.k)) (end_record p ∷ []) top
    back-asc = (rw end-key (omega arith), cut-back (key p.k) 0 z.front (end_record p) [] top asc₂)

    pub ended-ins : (r : List ℕ) → key p.k r < val (ones p.k) → Ended p (ins (key p.k) r rows)
    ended-ins r e =
        record { front = ins (key p.k) r z.front; is = ap (ins (key p.k) r) z.is ∙ ins-local (key p.k) [] z.front (end_record p ∷ []) 0 (val (ones p.k)) top (omega arith) front-asc back-asc r (omega arith) e }

    pub ended-upd : (r : List ℕ) → key p.k r < val (ones p.k) → Ended p (upd (key p.k) r rows)
    ended-upd r e =
        record { front = upd (key p.k) r z.front; is = ap (upd (key p.k) r) z.is ∙ upd-local (key p.k) [] z.front (end_record p ∷ []) 0 (val (ones p.k)) top (omega arith) front-asc back-asc r (omega arith) e }

    pub ended-del : (x : ℕ) → x < val (ones p.k) → Ended p (del (key p.k) x rows)
    ended-del x e =
        record { front = del (key p.k) x z.front; is = ap (del (key p.k) x) z.is ∙ del-local (key p.k) [] z.front (end_record p ∷ []) 0 (val (ones p.k)) top (omega arith) front-asc back-asc x (omega arith) e }

-- the records of a tree
pub rows_of : (p : Description) (ls : List Leaf) → All (LeafFits p) ls → All (RowOk p) (records_in ls)
rows_of p [] h = tt
rows_of p (l ∷ ls) h = all_append (RowOk p) l.records (records_in ls) h.0.rows (rows_of p ls h.1)

pub rows_ok : (p : Description) (ss : List Section) → All (SectionOk p) ss → All (LeafFits p) (leaves_in ss)
rows_ok p [] h = tt
rows_ok p (s ∷ ss) h = all_append (LeafFits p) s.leaves (leaves_in ss) h.0.leaves (rows_ok p ss h.1)

-- a record's key against a call's, by their numbers
pub row_under : (p : Description) → p.k ≤ p.wpr → (w : List ℕ) → Key p w → (r : List ℕ) → RowOk p r → key_lt (key_in p r) w ≡ ltb (key p.k r) (val w)
unfolding key part
row_under p kr w kw r ok = let l = key-long p kr r ok in key_lt-val (key_in p r) w l.1 kw.wide (l.0 ∙ sym kw.long)
