-- A block's text, `table h w rows`, read, searched and changed: base 1, its count right, 0 behind its rows.
use mathlib.Core.Path.{◌≡◌, refl, sym, ap, ◌∙◌}
use mathlib.Core.List.{List, [], ◌∷◌, ◌++◌}
use Prim.Native.Nat.{ℕ, suc, ◌+◌, ◌*◌, ◌-◌, ◌≤◌, ◌<◌}
use native.Mathlib.Omega.{arith}
use lib.ListN.{length, take, get_or, length-append, length-replicate, replicate-append-replicate}
use Rattle.words.specs.Words.{zeros}
use Rattle.words.specs.Keys.{key_lt, key_le, same_key}
use Rattle.table.specs.declared.Shape.{Shape}
use Rattle.table.specs.Tables.{count, row, key_at, block_in, row_with, row_from, row_above, inserted, removed, replaced, laid}
use Rattle.table.specs.Splits.{renamed, entered}
use Rattle.table.specs.Rows.{cat, encode, table}
use Rattle.table.proofs.Lists.{all_append}
use Rattle.table.proofs.Rows.{untag, Each, length-cat, row-encode, key-encode, block-encode, entry_length}
use Rattle.table.proofs.RowSearch.{first_in, with-encode, from-encode, above-encode}
use Rattle.table.proofs.RowChanges.{replaced-encode, rekeyed-encode, renamed-encode, inserted-encode, removed-encode}
use Rattle.table.proofs.Lengths.{length-laid}

-- words written anew are a table: the count in front, 0 behind
pub laid-encode : (w n : ℕ) (rows : List (List ℕ)) → laid w n (cat rows) ≡ encode (n ∷ []) rows (zeros (w - 1 - length (cat rows)))
unfolding laid encode
laid-encode w n rows = refl

pub table-laid : (h : Shape) (w n : ℕ) (rows : List (List ℕ)) → n ≡ length rows → laid w (h.tag + n) (cat rows) ≡ table h w rows
unfolding table
table-laid h w n rows e = ap (λ (k : ℕ). laid w (h.tag + k) (cat rows)) e

-- the words 0 behind rows of s words
unfoldable pub behind : ℕ → ℕ → List (List ℕ) → List ℕ
behind w s rows = zeros (w - 1 - length rows * s)

pub table-encode : (h : Shape) (w s : ℕ) (rows : List (List ℕ)) → Each s rows → table h w rows ≡ encode ((h.tag + length rows) ∷ []) rows (behind w s rows)
unfolding table behind
table-encode h w s rows e = rw (laid-encode w (h.tag + length rows) rows, length-cat s rows e)

pub length-table : (h : Shape) (w s : ℕ) (rows : List (List ℕ)) → Each s rows → 1 + length rows * s ≤ w → length (table h w rows) ≡ w
unfolding table
length-table h w s rows e l = length-laid w (h.tag + length rows) (cat rows) (rw (length-cat s rows e) l)

pub count-table : (h : Shape) (w : ℕ) (rows : List (List ℕ)) → count h (table h w rows) ≡ length rows
unfolding table laid count
count-table h w rows = untag h.tag (length rows)

-- one row more takes its words from the 0 behind
pub behind-one : (w s : ℕ) (bs cs : List (List ℕ)) (r : List ℕ) → 1 + length (bs ++ (r ∷ cs)) * s ≤ w
    → behind w s (bs ++ cs) ≡ zeros s ++ behind w s (bs ++ (r ∷ cs))
unfolding behind
behind-one w s bs cs r h =
    let n : length (bs ++ (r ∷ cs)) ≡ suc (length (bs ++ cs)) = omega (arith, length-append bs (r ∷ cs), length-append bs cs) in
    let m : 1 + suc (length (bs ++ cs)) * s ≤ w = rw n at h in
    let e : w - 1 - length (bs ++ cs) * s ≡ s + (w - 1 - suc (length (bs ++ cs)) * s) = omega arith in
    rw (n, e) (sym (replicate-append-replicate {A = ℕ} s (w - 1 - suc (length (bs ++ cs)) * s) 0))

module _ (w : ℕ) (h : Shape) (one : h.base ≡ 1) where
  -- the three searches
  module _ (rows : List (List ℕ)) (e : Each h.stride rows) (kw : h.width ≤ h.stride) (key : List ℕ) where
    is : table h w rows ≡ encode ((h.tag + length rows) ∷ []) rows (behind w h.stride rows)
    is = table-encode h w h.stride rows e

    pub table-with : row_with h key (table h w rows) ≡ first_in (λ r. same_key (take h.width r) key) rows
    table-with = ap (row_with h key) is ∙ with-encode h [] one kw key (length rows) rows refl e (behind w h.stride rows)

    pub table-from : row_from h key (table h w rows) ≡ first_in (λ r. key_le key (take h.width r)) rows
    table-from = ap (row_from h key) is ∙ from-encode h [] one kw key (length rows) rows refl e (behind w h.stride rows)

    pub table-above : row_above h key (table h w rows) ≡ first_in (λ r. key_lt key (take h.width r)) rows
    table-above = ap (row_above h key) is ∙ above-encode h [] one kw key (length rows) rows refl e (behind w h.stride rows)

  module _ (bs cs : List (List ℕ)) (hb : Each h.stride bs) (hc : Each h.stride cs) where
    with_row : (r : List ℕ) → length r ≡ h.stride
        → table h w (bs ++ (r ∷ cs)) ≡ encode ((h.tag + length (bs ++ (r ∷ cs))) ∷ []) (bs ++ (r ∷ cs)) (behind w h.stride (bs ++ (r ∷ cs)))
    with_row r hr = table-encode h w h.stride (bs ++ (r ∷ cs)) (all_append _ bs (r ∷ cs) hb (hr, hc))

    -- the readers
    module _ (r : List ℕ) (hr : length r ≡ h.stride) where
      pub table-row : row h (table h w (bs ++ (r ∷ cs))) (length bs) ≡ r
      table-row =
          ap (λ (t : List ℕ). row h t (length bs)) (with_row r hr)
          ∙ row-encode h ((h.tag + length (bs ++ (r ∷ cs))) ∷ []) one bs hb r hr cs (behind w h.stride (bs ++ (r ∷ cs)))

      pub table-key : h.width ≤ h.stride → key_at h (table h w (bs ++ (r ∷ cs))) (length bs) ≡ take h.width r
      table-key kw =
          ap (λ (t : List ℕ). key_at h t (length bs)) (with_row r hr)
          ∙ key-encode h ((h.tag + length (bs ++ (r ∷ cs))) ∷ []) one bs hb r hr cs (behind w h.stride (bs ++ (r ∷ cs))) kw

      pub table-block : h.width < h.stride → block_in h (table h w (bs ++ (r ∷ cs))) (length bs) ≡ get_or r h.width 0
      table-block kw =
          ap (λ (t : List ℕ). block_in h t (length bs)) (with_row r hr)
          ∙ block-encode h ((h.tag + length (bs ++ (r ∷ cs))) ∷ []) one bs hb r hr cs (behind w h.stride (bs ++ (r ∷ cs))) kw

      -- the row put in, and taken out
      module _ (room : 1 + length (bs ++ (r ∷ cs)) * h.stride ≤ w) where
        less : table h w (bs ++ cs) ≡ encode ((h.tag + length (bs ++ cs)) ∷ []) (bs ++ cs) (zeros h.stride ++ behind w h.stride (bs ++ (r ∷ cs)))
        less =
            table-encode h w h.stride (bs ++ cs) (all_append _ bs cs hb hc)
            ∙ ap (encode ((h.tag + length (bs ++ cs)) ∷ []) (bs ++ cs)) (behind-one w h.stride bs cs r room)

        pub table-insert : inserted h (length bs) r (table h w (bs ++ cs)) ≡ table h w (bs ++ (r ∷ cs))
        table-insert =
            ap (inserted h (length bs) r) less
            ∙ inserted-encode h [] one bs cs hb hc (length (bs ++ cs)) (length (bs ++ (r ∷ cs))) r (zeros h.stride) (behind w h.stride (bs ++ (r ∷ cs))) refl refl hr (length-replicate {A = ℕ} h.stride 0)
            ∙ sym (with_row r hr)

        pub table-remove : removed h (length bs) (table h w (bs ++ (r ∷ cs))) ≡ table h w (bs ++ cs)
        table-remove =
            ap (removed h (length bs)) (with_row r hr)
            ∙ removed-encode h [] one bs cs hb hc (length (bs ++ (r ∷ cs))) (length (bs ++ cs)) r (behind w h.stride (bs ++ (r ∷ cs))) refl refl hr
            ∙ sym less

    -- words written over a row, and an entry that names another block: rows of one count have one front and as many 0 behind
    same : (r r' : List ℕ) → length r' ≡ h.stride
        → encode ((h.tag + length (bs ++ (r ∷ cs))) ∷ []) (bs ++ (r' ∷ cs)) (behind w h.stride (bs ++ (r ∷ cs))) ≡ table h w (bs ++ (r' ∷ cs))
    unfolding behind
    same r r' hr' =
        let n : length (bs ++ (r ∷ cs)) ≡ length (bs ++ (r' ∷ cs)) = length-append bs (r ∷ cs) ∙ sym (length-append bs (r' ∷ cs)) in
        ap (λ (k : ℕ). encode ((h.tag + k) ∷ []) (bs ++ (r' ∷ cs)) (zeros (w - 1 - k * h.stride))) n ∙ sym (with_row r' hr')

    pub table-replace : (r r' : List ℕ) → length r ≡ h.stride → length r' ≡ h.stride
        → replaced h (length bs) r' (table h w (bs ++ (r ∷ cs))) ≡ table h w (bs ++ (r' ∷ cs))
    table-replace r r' hr hr' =
        ap (replaced h (length bs) r') (with_row r hr)
        ∙ replaced-encode h ((h.tag + length (bs ++ (r ∷ cs))) ∷ []) one bs hb r r' cs (behind w h.stride (bs ++ (r ∷ cs))) (hr ∙ sym hr')
        ∙ same r r' hr'

    pub table-rekey : (k k' d : List ℕ) → length k ≡ length k' → length (k ++ d) ≡ h.stride
        → replaced h (length bs) k' (table h w (bs ++ ((k ++ d) ∷ cs))) ≡ table h w (bs ++ ((k' ++ d) ∷ cs))
    table-rekey k k' d e hr =
        ap (replaced h (length bs) k') (with_row (k ++ d) hr)
        ∙ rekeyed-encode h ((h.tag + length (bs ++ ((k ++ d) ∷ cs))) ∷ []) one bs hb k k' d cs (behind w h.stride (bs ++ ((k ++ d) ∷ cs))) e
        ∙ same (k ++ d) (k' ++ d) (omega (arith, length-append k d, length-append k' d))

    -- entries
    module _ (es : h.stride ≡ h.width + 1) (k : List ℕ) (ek : length k ≡ h.width) (old new : ℕ) where
      long : (b : ℕ) → length (k ++ (b ∷ [])) ≡ h.stride
      long b = entry_length h (0 ∷ []) one es bs hb k ek b cs []

      pub table-rename : renamed h (length bs) new (table h w (bs ++ ((k ++ (old ∷ [])) ∷ cs))) ≡ table h w (bs ++ ((k ++ (new ∷ [])) ∷ cs))
      table-rename =
          ap (renamed h (length bs) new) (with_row (k ++ (old ∷ [])) (long old))
          ∙ renamed-encode h ((h.tag + length (bs ++ ((k ++ (old ∷ [])) ∷ cs))) ∷ []) one bs hb k old new cs
          (behind w h.stride (bs ++ ((k ++ (old ∷ [])) ∷ cs))) ek
          ∙ same (k ++ (old ∷ [])) (k ++ (new ∷ [])) (long new)

-- an entry becomes two
pub table-enter : (w : ℕ) (h : Shape) → h.base ≡ 1 → (bs cs : List (List ℕ)) → Each h.stride bs → Each h.stride cs → h.stride ≡ h.width + 1
    → (k : List ℕ) → length k ≡ h.width
    → (old new : ℕ) (r : List ℕ) → length r ≡ h.stride → 1 + length (bs ++ (r ∷ ((k ++ (new ∷ [])) ∷ cs))) * h.stride ≤ w
    → entered h (length bs) r new (table h w (bs ++ ((k ++ (old ∷ [])) ∷ cs))) ≡ table h w (bs ++ (r ∷ ((k ++ (new ∷ [])) ∷ cs)))
unfolding entered
table-enter w h one bs cs hb hc es k ek old new r hr room =
    ap (inserted h (length bs) r) (table-rename w h one bs cs hb hc es k ek old new)
    ∙ table-insert w h one bs ((k ++ (new ∷ [])) ∷ cs) hb (entry_length h (0 ∷ []) one es bs hb k ek new cs [], hc) r hr room
