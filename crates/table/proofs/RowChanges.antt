-- What the operations on a table's words do to its rows. The front of a table whose count changes is `(h.tag + n) ∷ rest`, n the number of its rows.
use mathlib.Core.Path.{◌≡◌, sym, ap, ◌∙◌}
use mathlib.Core.List.{List, [], ◌∷◌, ◌++◌, append_assoc}
use Prim.Native.Nat.{ℕ, suc, ◌+◌, ◌*◌, ◌-◌}
use native.Mathlib.Omega.{arith}
use lib.ListN.{length, set, length-append, length-replicate}
use lib.Seq.{set_at}
use Rattle.words.specs.Words.{part, put, zeros}
use Rattle.table.specs.declared.Shape.{Shape}
use Rattle.table.specs.Tables.{place, opened, closed, inserted, removed, replaced}
use Rattle.table.specs.Splits.{renamed, entered}
use Rattle.table.specs.Rows.{cat, encode}
use Rattle.table.proofs.Rows.{Each, length-cat, part_at, put-at, encode-seam, encode-row, count-encode, set-count, place-length, entry_length}

module _ (h : Shape) (front : List ℕ) (eb : h.base ≡ length front) (bs : List (List ℕ)) (hb : Each h.stride bs) where
  -- words written over the first words of a row: the whole row, or its key alone
  pub replaced-encode : (r r' : List ℕ) (cs : List (List ℕ)) (pad : List ℕ) → length r ≡ length r'
      → replaced h (length bs) r' (encode front (bs ++ (r ∷ cs)) pad) ≡ encode front (bs ++ (r' ∷ cs)) pad
  unfolding replaced
  replaced-encode r r' cs pad e =
      rw (encode-row front bs r cs pad, encode-row front bs r' cs pad)
      (put-at (front ++ cat bs) r (cat cs ++ pad) (place h (length bs)) (place-length h front eb bs hb) r' e)

  pub rekeyed-encode : (k k' d : List ℕ) (cs : List (List ℕ)) (pad : List ℕ) → length k ≡ length k'
      → replaced h (length bs) k' (encode front (bs ++ ((k ++ d) ∷ cs)) pad) ≡ encode front (bs ++ ((k' ++ d) ∷ cs)) pad
  unfolding replaced
  rekeyed-encode k k' d cs pad e =
      rw (encode-row front bs (k ++ d) cs pad, encode-row front bs (k' ++ d) cs pad, append_assoc k d (cat cs ++ pad), append_assoc k' d (cat cs ++ pad))
      (put-at (front ++ cat bs) k (d ++ (cat cs ++ pad)) (place h (length bs)) (place-length h front eb bs hb) k' e)

  -- an entry names another block
  pub renamed-encode : (k : List ℕ) (old new : ℕ) (cs : List (List ℕ)) (pad : List ℕ) → length k ≡ h.width
      → renamed h (length bs) new (encode front (bs ++ ((k ++ (old ∷ [])) ∷ cs)) pad) ≡ encode front (bs ++ ((k ++ (new ∷ [])) ∷ cs)) pad
  unfolding renamed
  renamed-encode k old new cs pad ek =
      let x : List ℕ = front ++ cat bs in
      let e : (b : ℕ) → encode front (bs ++ ((k ++ (b ∷ [])) ∷ cs)) pad ≡ (x ++ k) ++ (b ∷ (cat cs ++ pad)) = λ b. encode-row front bs (k ++ (b ∷ [])) cs pad ∙ simp append_assoc in
      let l : length (x ++ k) ≡ place h (length bs) + h.width = length-append x k ∙ (rw (place-length h front eb bs hb, ek)) in
      rw (e old, e new) (set_at (x ++ k) old (cat cs ++ pad) new (place h (length bs) + h.width) l)

  -- a row put in before the rows cs, into the room behind them, and a row taken out before them
  module _ (cs : List (List ℕ)) (hc : Each h.stride cs) where
    pub opened-encode : (r room pad : List ℕ) → length r ≡ h.stride → length room ≡ h.stride
        → opened (encode front (bs ++ cs) (room ++ pad)) (place h (length bs)) (place h (length (bs ++ cs))) r ≡ encode front (bs ++ (r ∷ cs)) pad
    unfolding opened
    opened-encode r room pad hr ho =
        let x : List ℕ = front ++ cat bs in
        let a : ℕ = place h (length bs) in
        let lx : length x ≡ a = place-length h front eb bs hb in
        let lc : length (cat cs) ≡ length cs * h.stride = length-cat h.stride cs hc in
        let lm : place h (length (bs ++ cs)) - a ≡ length cs * h.stride = rw (length-append bs cs) (omega arith) in
        let p : part a (length cs * h.stride) (x ++ (cat cs ++ (room ++ pad))) ≡ cat cs = part_at x (cat cs) (room ++ pad) a lx (length cs * h.stride) lc in
        let q : put (x ++ ((cat cs ++ room) ++ pad)) a (r ++ cat cs) ≡ x ++ ((r ++ cat cs) ++ pad)
        = put-at x (cat cs ++ room) pad a lx (r ++ cat cs) (simp length-append (omega arith)) in
        rw (lm, encode-seam front bs cs (room ++ pad), p, encode-row front bs r cs pad)
        (ap (λ (z : List ℕ). put (x ++ z) a (r ++ cat cs)) (sym (append_assoc (cat cs) room pad)) ∙ q ∙ ap (λ (z : List ℕ). x ++ z) (append_assoc r (cat cs) pad))

    pub closed-encode : (r pad : List ℕ) → length r ≡ h.stride
        → closed (encode front (bs ++ (r ∷ cs)) pad) (place h (length bs)) (place h (length (bs ++ (r ∷ cs)))) h.stride ≡ encode front (bs ++ cs) (zeros h.stride ++ pad)
    unfolding closed
    closed-encode r pad hr =
        let x : List ℕ = front ++ cat bs in
        let a : ℕ = place h (length bs) in
        let z : List ℕ = zeros h.stride in
        let lz : length z ≡ h.stride = length-replicate h.stride 0 in
        let lx : length x ≡ a = place-length h front eb bs hb in
        let lc : length (cat cs) ≡ length cs * h.stride = length-cat h.stride cs hc in
        let lr : length (x ++ r) ≡ a + h.stride = length-append x r ∙ omega arith in
        let lm : place h (length (bs ++ (r ∷ cs))) - (a + h.stride) ≡ length cs * h.stride = rw (length-append bs (r ∷ cs)) (omega arith) in
        let p : part (a + h.stride) (length cs * h.stride) (x ++ (r ++ (cat cs ++ pad))) ≡ cat cs
        = rw (← append_assoc x r (cat cs ++ pad)) (part_at (x ++ r) (cat cs) pad (a + h.stride) lr (length cs * h.stride) lc) in
        let q : put (x ++ ((r ++ cat cs) ++ pad)) a (cat cs ++ z) ≡ x ++ ((cat cs ++ z) ++ pad) = put-at x (r ++ cat cs) pad a lx (cat cs ++ z) (simp length-append (omega arith)) in
        rw (lm, encode-row front bs r cs pad, p, encode-seam front bs cs (z ++ pad))
        (ap (λ (y : List ℕ). put (x ++ y) a (cat cs ++ z)) (sym (append_assoc r (cat cs) pad)) ∙ q ∙ ap (λ (y : List ℕ). x ++ y) (append_assoc (cat cs) z pad))

-- the count with it
module _ (h : Shape) (rest : List ℕ) (eb : h.base ≡ suc (length rest)) (bs cs : List (List ℕ)) (hb : Each h.stride bs) (hc : Each h.stride cs) where
  pub inserted-encode : (n m : ℕ) (r room pad : List ℕ) → n ≡ length (bs ++ cs) → m ≡ length (bs ++ (r ∷ cs)) → length r ≡ h.stride → length room ≡ h.stride
      → inserted h (length bs) r (encode ((h.tag + n) ∷ rest) (bs ++ cs) (room ++ pad)) ≡ encode ((h.tag + m) ∷ rest) (bs ++ (r ∷ cs)) pad
  unfolding inserted
  inserted-encode n m r room pad en em hr ho =
      let c : n + 1 ≡ m = omega (arith, length-append bs (r ∷ cs), length-append bs cs) in
      rw (count-encode h n rest (bs ++ cs) (room ++ pad), c)
      (ap (λ (k : ℕ). set (opened (encode ((h.tag + n) ∷ rest) (bs ++ cs) (room ++ pad)) (place h (length bs)) (place h k) r) 0 (h.tag + m)) en
      ∙ ap (λ (t : List ℕ). set t 0 (h.tag + m)) (opened-encode h ((h.tag + n) ∷ rest) eb bs hb cs hc r room pad hr ho)
      ∙ set-count (h.tag + n) (h.tag + m) rest (bs ++ (r ∷ cs)) pad)

  pub removed-encode : (n m : ℕ) (r pad : List ℕ) → n ≡ length (bs ++ (r ∷ cs)) → m ≡ length (bs ++ cs) → length r ≡ h.stride
      → removed h (length bs) (encode ((h.tag + n) ∷ rest) (bs ++ (r ∷ cs)) pad) ≡ encode ((h.tag + m) ∷ rest) (bs ++ cs) (zeros h.stride ++ pad)
  unfolding removed
  removed-encode n m r pad en em hr =
      let c : n - 1 ≡ m = omega (arith, length-append bs (r ∷ cs), length-append bs cs) in
      rw (count-encode h n rest (bs ++ (r ∷ cs)) pad, c)
      (ap (λ (k : ℕ). set (closed (encode ((h.tag + n) ∷ rest) (bs ++ (r ∷ cs)) pad) (place h (length bs)) (place h k) h.stride) 0 (h.tag + m)) en
      ∙ ap (λ (t : List ℕ). set t 0 (h.tag + m)) (closed-encode h ((h.tag + n) ∷ rest) eb bs hb cs hc r pad hr)
      ∙ set-count (h.tag + n) (h.tag + m) rest (bs ++ cs) (zeros h.stride ++ pad))

-- an entry becomes two: r, and after it the entry's key with another block
pub entered-encode : (h : Shape) (rest : List ℕ) → h.base ≡ suc (length rest) → h.stride ≡ h.width + 1 → (bs cs : List (List ℕ)) → Each h.stride bs
    → Each h.stride cs
    → (n m : ℕ) (k : List ℕ) (old new : ℕ) (r room pad : List ℕ) → n ≡ length (bs ++ ((k ++ (old ∷ [])) ∷ cs))
    → m ≡ length (bs ++ (r ∷ ((k ++ (new ∷ [])) ∷ cs))) → length k ≡ h.width → length r ≡ h.stride → length room ≡ h.stride
    → entered h (length bs) r new (encode ((h.tag + n) ∷ rest) (bs ++ ((k ++ (old ∷ [])) ∷ cs)) (room ++ pad))
    ≡ encode ((h.tag + m) ∷ rest) (bs ++ (r ∷ ((k ++ (new ∷ [])) ∷ cs))) pad
unfolding entered
entered-encode h rest eb es bs cs hb hc n m k old new r room pad en em ek hr ho =
    let e : List ℕ = k ++ (new ∷ []) in
    let he : length e ≡ h.stride = entry_length h ((h.tag + n) ∷ rest) eb es bs hb k ek new cs pad in
    let en' : n ≡ length (bs ++ (e ∷ cs)) = omega (arith, length-append bs ((k ++ (old ∷ [])) ∷ cs), length-append bs (e ∷ cs)) in
    ap (inserted h (length bs) r) (renamed-encode h ((h.tag + n) ∷ rest) eb bs hb k old new cs (room ++ pad) ek)
    ∙ inserted-encode h rest eb bs (e ∷ cs) hb (he, hc) n m r room pad en' em hr ho
