-- What the calls do to the words of a table with 0 behind its rows, as what is done to its rows: the laws of table, for master, index and detail blocks alike.
use Prim.Native.Nat.{ℕ, suc, ◌+◌, ◌≤◌}
use mathlib.Core.Path.{◌≡◌, refl, sym, ap, ◌∙◌}
use mathlib.Core.List.{List, [], ◌∷◌, ◌++◌, append_assoc}
use lib.ListN.{length, take, length-append, length-replicate, replicate-append-replicate}
use native.Mathlib.Omega.{arith}
use Rattle.words.specs.Words.{zeros}
use Rattle.table.specs.declared.Shape.{Shape}
use Rattle.table.specs.Tables.{count, key_at, block_in, inserted, removed, replaced}
use Rattle.table.specs.Splits.{entered}
use Rattle.table.specs.Rows.{encode}
use Rattle.table.proofs.Rows.{key-encode, entry-block}
use Rattle.table.proofs.RowChanges.{rekeyed-encode, inserted-encode, removed-encode, entered-encode}
use Rattle.demands.proofs.Rows.{Each, tab}

zeros-split : (a b : ℕ) (rest : List ℕ) → zeros (a + b) ++ rest ≡ zeros a ++ (zeros b ++ rest)
zeros-split a b rest = ap (λ (z : List ℕ). z ++ rest) (sym (replicate-append-replicate {A = ℕ} a b 0)) ∙ append_assoc (zeros a) (zeros b) rest

pub zeros-length : (n : ℕ) → length (zeros n) ≡ n
zeros-length n = length-replicate {A = ℕ} n 0

pub count-tab : (h : Shape) → h.tag ≡ 0 → (front : List ℕ) (rows : List (List ℕ)) (z : ℕ) (rest : List ℕ) → count h (tab front rows z rest) ≡ length rows
unfolding tab count
count-tab h plain front rows z rest = omega arith

-- no tag, no more than the number
untagged : (h : Shape) → h.tag ≡ 0 → (n : ℕ) → h.tag + n ≡ n
untagged h plain n = omega arith

module _ (h : Shape) (front : List ℕ) (eb : h.base ≡ suc (length front)) (plain : h.tag ≡ 0) (bs : List (List ℕ)) (hb : Each h.stride bs) where
  module _ (r : List ℕ) (hr : length r ≡ h.stride) (cs : List (List ℕ)) (z : ℕ) (rest : List ℕ) where
    pub key-tab : h.width ≤ h.stride → key_at h (tab front (bs ++ r ∷ cs) z rest) (length bs) ≡ take h.width r
    unfolding tab encode
    key-tab kw = key-encode h (length (bs ++ r ∷ cs) ∷ front) eb bs hb r hr cs (zeros z ++ rest) kw

    pub inserted-tab : Each h.stride cs → inserted h (length bs) r (tab front (bs ++ cs) (h.stride + z) rest) ≡ tab front (bs ++ r ∷ cs) z rest
    unfolding tab encode
    inserted-tab hc =
        rw (zeros-split h.stride z rest)
        (rw (untagged h plain (length (bs ++ cs)), untagged h plain (length (bs ++ r ∷ cs)))
        at (inserted-encode h front eb bs cs hb hc (length (bs ++ cs)) (length (bs ++ r ∷ cs)) r (zeros h.stride)
        (zeros z ++ rest) refl refl hr (zeros-length h.stride)))

    pub removed-tab : Each h.stride cs → removed h (length bs) (tab front (bs ++ r ∷ cs) z rest) ≡ tab front (bs ++ cs) (h.stride + z) rest
    unfolding tab encode
    removed-tab hc =
        rw (zeros-split h.stride z rest)
        (rw (untagged h plain (length (bs ++ cs)), untagged h plain (length (bs ++ r ∷ cs)))
        at (removed-encode h front eb bs cs hb hc (length (bs ++ r ∷ cs)) (length (bs ++ cs)) r (zeros z ++ rest) refl refl hr))

  -- entries: a key, and the block that it bounds
  module _ (w : List ℕ) (b : ℕ) (hw : length w ≡ h.width) (cs : List (List ℕ)) (z : ℕ) (rest : List ℕ) where
    pub block-tab : h.stride ≡ h.width + 1 → block_in h (tab front (bs ++ (w ++ (b ∷ [])) ∷ cs) z rest) (length bs) ≡ b
    unfolding tab encode
    block-tab hs = entry-block h (length (bs ++ (w ++ (b ∷ [])) ∷ cs) ∷ front) eb hs bs hb w hw b cs (zeros z ++ rest)

    -- another key for the entry
    pub rekeyed-tab : (w' : List ℕ) → length w' ≡ h.width
        → replaced h (length bs) w' (tab front (bs ++ (w ++ (b ∷ [])) ∷ cs) z rest) ≡ tab front (bs ++ (w' ++ (b ∷ [])) ∷ cs) z rest
    unfolding tab encode
    rekeyed-tab w' hw' =
        let n : length (bs ++ (w ++ (b ∷ [])) ∷ cs) ≡ length (bs ++ (w' ++ (b ∷ [])) ∷ cs)
        = length-append bs ((w ++ (b ∷ [])) ∷ cs) ∙ sym (length-append bs ((w' ++ (b ∷ [])) ∷ cs)) in
        rekeyed-encode h (length (bs ++ (w ++ (b ∷ [])) ∷ cs) ∷ front) eb bs hb w w' (b ∷ []) cs (zeros z ++ rest) (hw ∙ sym hw')
        ∙ ap (λ (m : ℕ). encode (m ∷ front) (bs ++ (w' ++ (b ∷ [])) ∷ cs) (zeros z ++ rest)) n

  -- the entry becomes two
  pub entered-tab : (w : List ℕ) (b : ℕ) → length w ≡ h.width → (cs : List (List ℕ)) (z : ℕ) (rest : List ℕ) → h.stride ≡ h.width + 1 → Each h.stride cs
      → (r : List ℕ) → length r ≡ h.stride → (c : ℕ)
      → entered h (length bs) r c (tab front (bs ++ (w ++ (b ∷ [])) ∷ cs) (h.stride + z) rest) ≡ tab front (bs ++ r ∷ ((w ++ (c ∷ [])) ∷ cs)) z rest
  unfolding tab encode
  entered-tab w b hw cs z rest hs hc r hr c =
      rw (zeros-split h.stride z rest)
      (rw (untagged h plain (length (bs ++ (w ++ (b ∷ [])) ∷ cs)), untagged h plain (length (bs ++ r ∷ ((w ++ (c ∷ [])) ∷ cs))))
      at (entered-encode h front eb hs bs cs hb hc (length (bs ++ (w ++ (b ∷ [])) ∷ cs)) (length (bs ++ r ∷ ((w ++ (c ∷ [])) ∷ cs))) w b c r (zeros h.stride)
      (zeros z ++ rest) refl refl hw hr (zeros-length h.stride)))
