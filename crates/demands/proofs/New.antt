-- The plans' test of a new block is the sentence "a new block equal to any other block in the call's list of transfers": it passes exactly
-- where the list of NSERT, of XTEND, or of an XTEND that stores as NSERT does, names the block once.
use Prim.Native.Nat.{ℕ, ◌+◌}
use mathlib.Core.Path.{◌≡◌, refl, sym, ◌∙◌, ap, subst}
use mathlib.Core.Bool.{Bool, true, false, cond, not, ◌&&◌, ◌||◌}
use mathlib.Core.List.{List, [], ◌∷◌, ◌++◌, append_assoc, append-nil}
use lib.Dec.{eqb}
use borrow.Author.Tests.{eq-eqb, eqb-true}
use Rattle.numbers.specs.Numbers.{bad_file}
use Rattle.numbers.specs.Checked.{passed, require}
use Rattle.table.specs.Tables.{laid}
use Rattle.drum.specs.Params.{index_shape}
use Rattle.drum.specs.Blocks.{Transfer, Read, Write, Texts, text_of}
use Rattle.rules.specs.declared.Path.{Path}
use Rattle.rules.specs.declared.Way.{Way}
use Rattle.rules.specs.declared.Way.TheVariants.{Here, By}
use Rattle.rules.specs.State.{key_in}
use Rattle.rules.specs.Lookup.{flush_moves, bringing, reached}
use Rattle.rules.specs.Free.{is_new}
use Rattle.demands.specs.Names.{block_of, names, once}
use Rattle.rules.specs.NsertDone as n
use Rattle.rules.specs.Xtend.{last_of, apart}
use Rattle.rules.specs.XtendDone as x
use Rattle.numbers.proofs.Passed.{Passed, chain, required}

-- one transfer more names its block more
or_swap : (p q s : Bool) → (p || (q || s)) ≡ (q || (p || s))
or_swap true true s = refl
or_swap true false s = refl
or_swap false q s = refl

named : (l : List Transfer) (m : Transfer) (r : List Transfer) (b : ℕ) → names (l ++ (m ∷ r)) b ≡ (eqb b (block_of m) || names (l ++ r) b)
unfolding names
named [] m r b = refl
named (c ∷ l) m r b =
    ap (λ (z : Bool). eqb b (block_of c) || z) (named l m r b) ∙ or_swap (eqb b (block_of c)) (eqb b (block_of m)) (names (l ++ r) b)

-- a block named by the transfer m is named once where no other names it
once-in : (l : List Transfer) (m : Transfer) (r : List Transfer) → once (l ++ (m ∷ r)) (block_of m) ≡ not (names (l ++ r) (block_of m))
unfolding once names
once-in [] m r = rw (eq-eqb (block_of m) (block_of m) refl)
once-in (c ∷ l) m r =
    go (eqb (block_of m) (block_of c)) (names (l ++ (m ∷ r)) (block_of m)) (once (l ++ (m ∷ r)) (block_of m)) (names (l ++ r) (block_of m))
    (rw (named l m r (block_of m), eq-eqb (block_of m) (block_of m) refl)) (once-in l m r)
  where
    go : (t a o n : Bool) → a ≡ true → o ≡ not n → cond t (not a) o ≡ not (t || n)
    go true a o n e g = rw e
    go false a o n e g = g

-- the same in the middle of what follows a list
named-mid : (l k : List Transfer) (m : Transfer) (r : List Transfer) (b : ℕ)
    → names (l ++ (k ++ (m ∷ r))) b ≡ (eqb b (block_of m) || names (l ++ (k ++ r)) b)
named-mid l k m r b = rw (← append_assoc l k (m ∷ r), ← append_assoc l k r) (named (l ++ k) m r b)

once-mid : (l k : List Transfer) (m : Transfer) (r : List Transfer)
    → once (l ++ (k ++ (m ∷ r))) (block_of m) ≡ not (names (l ++ (k ++ r)) (block_of m))
once-mid l k m r = rw (← append_assoc l k (m ∷ r), ← append_assoc l k r) (once-in (l ++ k) m r)

-- of two new blocks each is named once where it is not the other, and no other transfer names it
not-or : (a b : Bool) → not (a || b) ≡ (not a && not b)
not-or true b = refl
not-or false b = refl

two_in : (l k r : List Transfer) (m y : Transfer)
    → (once (l ++ (k ++ (m ∷ (r ++ (y ∷ []))))) (block_of m) ≡ (not (eqb (block_of m) (block_of y)) && not (names (l ++ (k ++ r)) (block_of m))))
    × (once (l ++ (k ++ (m ∷ (r ++ (y ∷ []))))) (block_of y) ≡ (not (eqb (block_of y) (block_of m)) && not (names (l ++ (k ++ r)) (block_of y))))
two_in l k r m y = (
  rw (once-mid l k m (r ++ (y ∷ [])), ← append_assoc k r (y ∷ []), named-mid l (k ++ r) y [] (block_of m), append-nil (k ++ r))
      (not-or (eqb (block_of m) (block_of y)) (names (l ++ (k ++ r)) (block_of m))),
  rw (← append_assoc k (m ∷ r) (y ∷ []), once-mid l (k ++ (m ∷ r)) y [], append-nil (k ++ (m ∷ r)), named-mid l k m r (block_of y))
      (not-or (eqb (block_of y) (block_of m)) (names (l ++ (k ++ r)) (block_of y))),
)

-- the three blocks that the other transfers name: a flagged buffer's, the index block and the detail block of the way
of-nsert : (c i d : Bool) → not (c || (i || (d || (i || (d || (i || false)))))) ≡ (not i && (not d && not c))
of-nsert true true true = refl
of-nsert true true false = refl
of-nsert true false true = refl
of-nsert true false false = refl
of-nsert false true true = refl
of-nsert false true false = refl
of-nsert false false true = refl
of-nsert false false false = refl

of-xtend : (c i d : Bool) → not (c || (i || (d || (d || (i || (i || false)))))) ≡ (not i && (not d && not c))
of-xtend true true true = refl
of-xtend true true false = refl
of-xtend true false true = refl
of-xtend true false false = refl
of-xtend false true true = refl
of-xtend false true false = refl
of-xtend false false true = refl
of-xtend false false false = refl

of-buffer : (flag i d : Bool) → not (d || (i || (i || false))) ≡ (not i && (not d && not (flag && d)))
of-buffer true true true = refl
of-buffer true true false = refl
of-buffer true false true = refl
of-buffer true false false = refl
of-buffer false true true = refl
of-buffer false true false = refl
of-buffer false false true = refl
of-buffer false false false = refl

module _ (v : Texts) (w : Path) where
  -- NSERT's list but for the new blocks
  among-nsert : (flag : Bool) (b : ℕ) (t u : List ℕ)
      → not (names ((reached v flag (By w)).moves ++ (Read w.index ∷ Write w.detail t ∷ Write w.index u ∷ [])) b) ≡ is_new v.current flag w b
  unfolding names reached bringing flush_moves
  among-nsert true b t u = of-nsert (eqb b v.current) (eqb b w.index) (eqb b w.detail)
  among-nsert false b t u = of-nsert false (eqb b w.index) (eqb b w.detail)

  -- the new block of a split, and the two of a split with a full index, are named once in the whole list
  pub new_split : (flag : Bool) (i b : ℕ) (r : List ℕ)
      → once ((reached v flag (By w)).moves ++ n.split_moves v w i r b) b ≡ is_new v.current flag w b
  unfolding n.split_moves
  new_split flag i b r =
      once-mid (reached v flag (By w)).moves (Read w.index ∷ Write w.detail (n.detail_low v w i r) ∷ []) (Write b (n.detail_high v w i r))
      (Write w.index (n.index_entered v w i r b) ∷ [])
      ∙ among-nsert flag b (n.detail_low v w i r) (n.index_entered v w i r b)

  pub new-both : (flag : Bool) (i b x : ℕ) (r : List ℕ)
      → (once ((reached v flag (By w)).moves ++ n.both_split_moves v w i r b x) b ≡ (not (eqb b x) && is_new v.current flag w b))
      × (once ((reached v flag (By w)).moves ++ n.both_split_moves v w i r b x) x ≡ (not (eqb x b) && is_new v.current flag w x))
  unfolding n.both_split_moves
  new-both flag i b x r =
      let e =
      two_in (reached v flag (By w)).moves (Read w.index ∷ Write w.detail (n.detail_low v w i r) ∷ [])
      (Write w.index (n.index_low v w i r b) ∷ []) (Write b (n.detail_high v w i r)) (Write x (n.index_high v w i r b)) in (
        e.0 ∙ ap (λ (z : Bool). not (eqb b x) && z) (among-nsert flag b (n.detail_low v w i r) (n.index_low v w i r b)),
        e.1 ∙ ap (λ (z : Bool). not (eqb x b) && z) (among-nsert flag x (n.detail_low v w i r) (n.index_low v w i r b)),
      )

  -- XTEND's list but for the new blocks, whether the last block was in the buffer or is brought
  at-current : Passed (λ (u : Path). u.detail ≡ v.current) (last_of v Here)
  unfolding last_of
  at-current = search (chain, tested)
    where
      tested : (u : Path) (a : Bool) → require (eqb u.detail v.current) bad_file ≡ passed a → u.detail ≡ v.current
      tested u a e = eqb-true u.detail v.current (required _ bad_file a e)

  among-by : (flag : Bool) (b : ℕ) (t u : List ℕ)
      → not (names ((reached v flag (By w)).moves ++ (Write w.detail t ∷ Read w.index ∷ Write w.index u ∷ [])) b) ≡ is_new v.current flag w b
  unfolding names reached bringing flush_moves
  among-by true b t u = of-xtend (eqb b v.current) (eqb b w.index) (eqb b w.detail)
  among-by false b t u = of-xtend false (eqb b w.index) (eqb b w.detail)

  brought : (x : Path) → last_of v (By x) ≡ passed w → w ≡ x
  unfolding last_of
  brought x e = cc

  among-xtend : (way : Way) (flag : Bool) (b : ℕ) (t u : List ℕ) → last_of v way ≡ passed w
      → not (names ((reached v flag way).moves ++ (Write w.detail t ∷ Read w.index ∷ Write w.index u ∷ [])) b) ≡ is_new v.current flag w b
  unfolding names reached bringing flush_moves
  among-xtend Here flag b t u e =
      of-buffer flag (eqb b w.index) (eqb b w.detail)
      ∙ ap (λ (z : ℕ). not (eqb b w.index) && (not (eqb b w.detail) && not (flag && eqb b z))) (at-current.holds w e)
  among-xtend (By x) flag b t u e =
      subst (λ (z : Path). not (names ((reached v flag (By z)).moves ++ (Write w.detail t ∷ Read w.index ∷ Write w.index u ∷ [])) b) ≡ is_new
      v.current flag w b)
      (brought x e) (among-by flag b t u)

  -- the new block of XTEND, and the two where it starts a section
  pub new-extend : (way : Way) (flag : Bool) (work : List ℕ) (b : ℕ) → last_of v way ≡ passed w
      → once ((reached v flag way).moves ++ x.new_moves v way w work b) b ≡ is_new v.current flag w b
  unfolding x.new_moves
  new-extend way flag work b e =
      let old = x.old_text v way work in
      let new = x.extended v.desc (index_shape v.desc) (key_in v.desc work) b (text_of v w.index) in
      once-mid (reached v flag way).moves (Write w.detail old ∷ Read w.index ∷ Write w.index new ∷ []) (Write b (x.end_text v way)) []
      ∙ among-xtend way flag b old new e

  pub new-section : (way : Way) (flag : Bool) (work : List ℕ) (b y : ℕ) → last_of v way ≡ passed w
      → (once ((reached v flag way).moves ++ x.section_moves v way w work b y) b ≡ (not (eqb b y) && is_new v.current flag w b))
      × (once ((reached v flag way).moves ++ x.section_moves v way w work b y) y ≡ (not (eqb y b) && is_new v.current flag w y))
  unfolding x.section_moves
  new-section way flag work b y e =
      let old = x.old_text v way work in
      let new = x.bounded (index_shape v.desc) (key_in v.desc work) (text_of v w.index) in
      let g =
      two_in (reached v flag way).moves (Write w.detail old ∷ Read w.index ∷ Write w.index new ∷ []) [] (Write b (x.end_text v way))
      (Write y (laid v.desc.wpb ((index_shape v.desc).tag + 1) (x.ones_entry v.desc b))) in (
        g.0 ∙ ap (λ (z : Bool). not (eqb b y) && z) (among-xtend way flag b old new e),
        g.1 ∙ ap (λ (z : Bool). not (eqb y b) && z)
            (among-xtend way flag y old new e),
      )

-- ---- XTEND as NSERT: the transfers to the last block come before NSERT's

names-append : (l r : List Transfer) (b : ℕ) → names (l ++ r) b ≡ (names l b || names r b)
unfolding names
names-append [] r b = refl
names-append (m ∷ l) r b = ap (λ (z : Bool). eqb b (block_of m) || z) (names-append l r b) ∙ sym (or_assoc (eqb b (block_of m)) (names l b) (names r b))
  where
    or_assoc : (p q t : Bool) → ((p || q) || t) ≡ (p || (q || t))
    or_assoc true q t = refl
    or_assoc false q t = refl

of-lead : (c i d : Bool) → not (c || (i || (d || (i || false)))) ≡ ((not i && not d) && not c)
of-lead true true d = refl
of-lead true false true = refl
of-lead true false false = refl
of-lead false true d = refl
of-lead false false true = refl
of-lead false false false = refl

and-move : (a c i d : Bool) → ((a && c) && (i && (d && true))) ≡ (a && (i && (d && c)))
and-move false c i d = refl
and-move true true i d = refl
and-move true false true true = refl
and-move true false true false = refl
and-move true false false d = refl

-- a buffer that was written on the way to the last block is not flagged any more: a test of the whole list, by one of the rest
module _ (v : Texts) (w q : Path) (some : eqb w.index 0 ≡ false) where
  abbrev lead : Way → Bool → List Transfer
  lead way flag = (x.reading w.index (reached v flag way)).moves

  lead-here : (flag : Bool) (b : ℕ) → not (names (lead Here flag) b) ≡ apart Here w b
  unfolding x.reading apart reached names
  lead-here flag b = rw some (or-none (eqb b w.index))
    where
      or-none : (t : Bool) → not (t || false) ≡ not t
      or-none true = refl
      or-none false = refl

  lead-by : (flag : Bool) (b : ℕ) → not (names (lead (By w) flag) b) ≡ (apart (By w) w b && not (flag && eqb b v.current))
  unfolding x.reading apart reached bringing flush_moves names
  lead-by true b = rw some (of-lead (eqb b v.current) (eqb b w.index) (eqb b w.detail))
  lead-by false b = rw some (of-lead false (eqb b w.index) (eqb b w.detail))

  -- where it was in the buffer, that is as it was; where it was brought, a flagged buffer was written
  still : (flag : Bool) (b : ℕ)
      → (not (names (lead Here flag) b) && is_new v.current (reached v flag Here).flag q b) ≡ (apart Here w b && is_new v.current flag q b)
  unfolding reached
  still flag b = ap (λ (z : Bool). z && is_new v.current flag q b) (lead-here flag b)

  written_once : (flag : Bool) (b : ℕ)
      → (not (names (lead (By w) flag) b) && is_new v.current (reached v flag (By w)).flag q b) ≡ (apart (By w) w b && is_new v.current flag q b)
  unfolding reached bringing
  written_once flag b =
      ap (λ (z : Bool). z && is_new v.current false q b) (lead-by flag b)
      ∙ and-move (apart (By w) w b) (not (flag && eqb b v.current)) (not (eqb b q.index)) (not (eqb b q.detail))

  -- NSERT's transfers behind them
  abbrev then : Way → Bool → List Transfer
  then way flag = (reached v (reached v flag way).flag (By q)).moves

  -- the whole list but for the new blocks
  among-before : (way : Way) (flag : Bool) (b : ℕ) (t u : List ℕ) → last_of v way ≡ passed w
      → not (names ((lead way flag ++ then way flag) ++ (Read q.index ∷ Write q.detail t ∷ Write q.index u ∷ [])) b)
      ≡ (apart way w b && is_new v.current flag q b)
  among-before way flag b t u e =
      let rest : List Transfer = Read q.index ∷ Write q.detail t ∷ Write q.index u ∷ [] in
      ap (λ (l : List Transfer). not (names l b)) (append_assoc (lead way flag) (then way flag) rest)
      ∙ ap not (names-append (lead way flag) (then way flag ++ rest) b) ∙ not-or (names (lead way flag) b) (names (then way flag ++ rest) b)
      ∙ ap (λ (z : Bool). not (names (lead way flag) b) && z) (among-nsert v q (reached v flag way).flag b t u) ∙ go way e
    where
      go : (way : Way) → last_of v way ≡ passed w
          → (not (names (lead way flag) b) && is_new v.current (reached v flag way).flag q b) ≡ (apart way w b && is_new v.current flag q b)
      go Here e = still flag b
      go (By y) e = subst (λ (z : Path). (not (names (lead (By z) flag) b) && is_new v.current (reached v flag (By z)).flag q b)
          ≡ (apart (By z) w b && is_new v.current flag q b)) (brought v w y e) (written_once flag b)

  -- the new block of a split, and the two where the index block splits too, are named once in the whole list
  pub new-before : (way : Way) (flag : Bool) (i b : ℕ) (r : List ℕ) → last_of v way ≡ passed w
      → once (lead way flag ++ (then way flag ++ n.split_moves v q i r b)) b ≡ (apart way w b && is_new v.current flag q b)
  unfolding n.split_moves
  new-before way flag i b r e =
      let low = n.detail_low v q i r in
      let index = n.index_entered v q i r b in
      ap (λ (l : List Transfer). once l b) (sym (append_assoc (lead way flag) (then way flag) _))
      ∙ once-mid (lead way flag ++ then way flag) (Read q.index ∷ Write q.detail low ∷ []) (Write b (n.detail_high v q i r)) (Write q.index index ∷ [])
      ∙ among-before way flag b low index e

  pub new-before-both : (way : Way) (flag : Bool) (i b y : ℕ) (r : List ℕ) → last_of v way ≡ passed w
      → (once (lead way flag ++ (then way flag ++ n.both_split_moves v q i r b y)) b ≡ (not (eqb b y) && (apart way w b && is_new v.current flag q b)))
      × (once (lead way flag ++ (then way flag ++ n.both_split_moves v q i r b y)) y ≡ (not (eqb y b) && (apart way w y && is_new v.current flag q y)))
  unfolding n.both_split_moves
  new-before-both way flag i b y r e =
      let low = n.detail_low v q i r in
      let index = n.index_low v q i r b in
      let g =
      two_in (lead way flag ++ then way flag) (Read q.index ∷ Write q.detail low ∷ []) (Write q.index index ∷ []) (Write b (n.detail_high v q i r))
      (Write y (n.index_high v q i r b)) in (
        ap (λ (l : List Transfer). once l b) (sym (append_assoc (lead way flag) (then way flag) _)) ∙ g.0
            ∙ ap (λ (z : Bool). not (eqb b y) && z) (among-before way flag b low index e),
        ap (λ (l : List Transfer). once l y) (sym (append_assoc (lead way flag) (then way flag) _)) ∙ g.1
            ∙ ap (λ (z : Bool). not (eqb y b) && z) (among-before way flag y low index e),
      )
