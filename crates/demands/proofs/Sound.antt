-- The invariant of a session: with the buffer put back, the file holds a tree. And the two ways in which a call leaves it: blocks and master
-- written and a block brought, or another text stored in the buffer.
use Prim.Native.Nat.{ℕ, ◌-◌, ◌≤◌, ◌<◌}
use mathlib.Core.Bool.{Bool, true, false, cond}
use mathlib.Core.Logic.{◌≢◌, ◌⊎◌, inl, inr}
use mathlib.Core.Path.{◌≡◌, refl, sym, ap, ◌∙◌, subst}
use mathlib.Core.List.{List, [], ◌∷◌, ◌++◌, append-nil}
use native.Mathlib.Omega.{arith}
use native.Mathlib.Nat.{mul-le-mul_right}
use native.Mathlib.Decide.{ℕ_discrete}
use lib.ListN.{length, length-append}
use Rattle.words.specs.Words.{all_words}
use Rattle.words.specs.Keys.{ones, val}
use Rattle.words.proofs.Keys.{clash}
use Rattle.drum.specs.declared.Description.{Description}
use Rattle.drum.specs.Params.{D, master_size, file_size, good_params, detail_shape}
use Rattle.drum.specs.Blocks.{Transfer, Read, Write, block_at, written, Texts, seen, text_of}
use Rattle.drum.proofs.Good.{caps}
use Rattle.layout.specs.Create.{end_record}
use Rattle.rules.specs.declared.Way.{Way}
use Rattle.rules.specs.declared.Way.TheVariants.{Here, By}
use Rattle.rules.specs.State.{State, desc, texts, position_key}
use Rattle.rules.specs.Lookup.{Reached, flush_moves, bringing, reached}
use Rattle.demands.proofs.Lists.{All, all_append}
use Rattle.demands.proofs.Order.{Asc}
use Rattle.demands.proofs.Cells.{Cell, cell_times, wrote, wrote-same, wrote-other, wrotes}
use Rattle.demands.proofs.Rows.{Each}
use Rattle.layout.specs.Tree.{Leaf, Section}
use Rattle.demands.proofs.Trees.{leaves_in, records_in, key, table, leaf_cell}
use Rattle.demands.proofs.Holds.{Free, HoldsCells, LeafFits, RowOk, master_for}
use Rattle.demands.proofs.Steps.{with_rows, replace-rows}
use Rattle.demands.proofs.Places.{Place, tree_of, tree_with, lo, hi, Spot, spot_in, spot-text, holds-ext, master-same}
use Rattle.demands.proofs.Texts.{length-table}
use Rattle.demands.proofs.Blocks.{master_of, behind, block-length, behind-block, behind-length, master-first, master-put, behind-put, cells_written}
use Rattle.demands.proofs.Blocks.{cells-written-append, Fits, wrotes-ext, wrotes-append, written-length, written-text}

-- a key that a call may be given: k words, not ONES
pub record Key (p : Description) (w : List ℕ) : Type 0 where
  pub long : length w ≡ p.k
  pub wide : all_words w ≡ true
  pub below : val w < val (ones p.k)

-- "The last record of the file is the end record: key ONES, data 0."
pub record Ended (p : Description) (rows : List (List ℕ)) : Type 0 where
  pub front : List (List ℕ)
  pub is : rows ≡ front ++ end_record p ∷ []

-- the file alone, whatever is in the buffer, holds a tree
pub record Alone (p : Description) (file : List ℕ) : Type 0 where
  pub sections : List Section
  pub free : Free
  pub holds : HoldsCells p (master_of p file) (block_at p file) sections free
  pub ended : Ended p (records_in (leaves_in sections))

-- the file, the current block, the flag and the buffer hold the tree
pub record KeptTree (v : Texts) (flag : Bool) (ss : List Section) (f : Free) : Type 0 where
  pub good : good_params v.desc ≡ true
  pub file-length : length v.file ≡ file_size v.desc
  pub buffer-length : length v.buffer ≡ v.desc.wpb
  pub current : 1 ≤ v.current → Spot ss v.current
  pub flagged : flag ≡ true → 1 ≤ v.current
  pub clean : flag ≡ false → 1 ≤ v.current → v.buffer ≡ block_at v.desc v.file v.current
  pub holds : HoldsCells v.desc (master_of v.desc v.file) (text_of v) ss f
  pub ended : Ended v.desc (records_in (leaves_in ss))
  pub alone : Alone v.desc v.file

-- position is none or such a key; "OPEN and CLOSE leave current 0, flag off"
pub record Sound (st : State) (ss : List Section) (f : Free) : Type 0 where
  pub kept : KeptTree (texts st) st.session.flag ss f
  pub position : length st.session.position ≡ 63
  pub placed : st.session.placed ≡ true → Key (desc st) (position_key st.session)
  pub resting : st.session.opened ≡ false → (st.session.current ≡ 0) × (st.session.flag ≡ false)

pub no-true-false : {A : Type 0} {t : Bool} → t ≡ true → t ≡ false → A
no-true-false e g = absurd (clash (sym e ∙ g))

-- the texts as some steps leave them
abbrev pub texts_left : Texts → Reached → Texts
texts_left v r = seen v.desc r.current r.file r.buffer

abbrev pub is_here : Way → Bool
is_here Here = true
is_here (By w) = false

-- ---- current texts

module _ (v : Texts) where
  pub text-is : (c : ℕ) → text_of v c ≡ wrote (block_at v.desc v.file) v.current v.buffer c
  unfolding text_of wrote
  text-is c = refl

  pub text-current : text_of v v.current ≡ v.buffer
  text-current = text-is v.current ∙ wrote-same (block_at v.desc v.file) v.current v.buffer

  pub text-other : (c : ℕ) → c ≢ v.current → text_of v c ≡ block_at v.desc v.file c
  text-other c n = text-is c ∙ wrote-other (block_at v.desc v.file) v.current v.buffer c n

module _ (v : Texts) (flag : Bool) (ss : List Section) (f : Free) (h : KeptTree v flag ss f) where
  abbrev p : Description
  p = v.desc

  pub current-in : 1 ≤ v.current → v.current ≤ p.n
  current-in l = (spot_in p _ (text_of v) ss f v.current h.holds (h.current l)).1

  -- the buffer's words are those of its leaf
  pub buffer-leaf : (s : Spot ss v.current) → v.buffer ≡ table (detail_shape p) p.wpb s.place.leaf.records
  buffer-leaf s = sym (text-current v) ∙ spot-text p _ (text_of v) ss f v.current h.holds s

  pub clean-text : (c : ℕ) → 1 ≤ c → (flag ≡ true → c ≢ v.current) → block_at p v.file c ≡ text_of v c
  clean-text c l g = go (ℕ_discrete c v.current) flag refl
    where
      go : Dec (c ≡ v.current) → (t : Bool) → flag ≡ t → block_at p v.file c ≡ text_of v c
      go (no n) t e = sym (text-other v c n)
      go (yes q) true e = absurd (g e q)
      go (yes q) false e = rw q (sym (h.clean e (omega arith)) ∙ sym (text-current v))

  -- ---- the transfers before a call's own: a flagged buffer is written, unless the block was there

  flush-fits : All (Fits p) (cells_written (flush_moves v flag))
  unfolding flush_moves cells_written
  flush-fits = go flag refl
    where
      go : (t : Bool) → flag ≡ t → All (Fits p) (cells_written (cond t (Write v.current v.buffer ∷ []) []))
      go true e = ((h.flagged e, current-in (h.flagged e), h.buffer-length), tt)
      go false e = tt

  flush-text : (c : ℕ) → 1 ≤ c → wrotes (block_at p v.file) (cells_written (flush_moves v flag)) c ≡ text_of v c
  unfolding flush_moves cells_written
  flush-text c l = go flag refl
    where
      go : (t : Bool) → flag ≡ t → wrotes (block_at p v.file) (cells_written (cond t (Write v.current v.buffer ∷ []) [])) c ≡ text_of v c
      go true e = sym (text-is v c)
      go false e = clean-text c l (λ g. no-true-false g e)

  module _ (reads ms : List Transfer) (quiet : cells_written reads ≡ []) where
    brought-writes : cells_written ((flush_moves v flag ++ reads) ++ ms) ≡ cells_written (flush_moves v flag) ++ cells_written ms
    brought-writes =
        cells-written-append (flush_moves v flag ++ reads) ms
        ∙ rw (cells-written-append (flush_moves v flag) reads, quiet, append-nil (cells_written (flush_moves v flag)))

    pub brought-fits : All (Fits p) (cells_written ms) → All (Fits p) (cells_written ((flush_moves v flag ++ reads) ++ ms))
    brought-fits g = rw brought-writes (all_append (Fits p) (cells_written (flush_moves v flag)) (cells_written ms) flush-fits g)

    pub brought-covers : (c : ℕ) → 1 ≤ c
        → wrotes (block_at p v.file) (cells_written ((flush_moves v flag ++ reads) ++ ms)) c ≡ wrotes (text_of v) (cells_written ms) c
    brought-covers c l =
        rw brought-writes (wrotes-append (block_at p v.file) (cells_written (flush_moves v flag)) (cells_written ms) c
        ∙ wrotes-ext (cells_written ms) (wrotes (block_at p v.file) (cells_written (flush_moves v flag))) (text_of v) c (λ z. flush-text c l))

  pub way-fits : (way : Way) (ms : List Transfer) → All (Fits p) (cells_written ms) → All (Fits p) (cells_written ((reached v flag way).moves ++ ms))
  unfolding reached bringing cells_written
  way-fits Here ms g = g
  way-fits (By w) ms g = brought-fits (Read w.index ∷ Read w.detail ∷ []) ms refl g

  pub way-covers : (way : Way) (ms : List Transfer) → (is_here way ≡ true → flag ≡ true → 1 ≤ cell_times v.current (cells_written ms))
      → (c : ℕ) → 1 ≤ c → wrotes (block_at p v.file) (cells_written ((reached v flag way).moves ++ ms)) c ≡ wrotes (text_of v) (cells_written ms) c
  unfolding reached bringing cells_written
  way-covers Here ms g c l =
      wrotes-ext (cells_written ms) (block_at p v.file) (text_of v) c
      (λ z. clean-text c l (λ e q. omega (arith, g refl e, z, ap (λ (x : ℕ). cell_times x (cells_written ms)) q)))
  way-covers (By w) ms g c l = brought-covers (Read w.index ∷ Read w.detail ∷ []) ms refl c l

  -- ---- the master and some blocks are written, and the buffer then holds a block as written, or none

  pub acted : (moves : List Transfer) (ws : List Cell) (file₁ m₁ : List ℕ) → file₁ ≡ m₁ ++ behind p v.file → length m₁ ≡ master_size p
      → All (Fits p) (cells_written moves)
      → ((c : ℕ) → 1 ≤ c → wrotes (block_at p v.file) (cells_written moves) c ≡ wrotes (text_of v) ws c)
      → (ss' : List Section) (f' : Free) (file' : List ℕ) → file' ≡ master_for p ss' f' ++ behind p (written p moves file₁) → length (master_for p ss' f')
      ≡ master_size p
      → HoldsCells p (master_for p ss' f') (wrotes (text_of v) ws) ss' f' → Ended p (records_in (leaves_in ss'))
      → (d : ℕ) (b : List ℕ) → ((d ≡ 0) × (length b ≡ p.wpb)) ⊎ (Spot ss' d × (b ≡ block_at p file' d)) → KeptTree (seen p d file' b) false ss' f'
  acted moves ws file₁ m₁ e₁ l₁ fit cover ss' f' file' e' l' hold z d b s =
      let m : List ℕ = master_for p ss' f' in
      let F : List ℕ = written p moves file₁ in
      let rest-length : length (behind p v.file) ≡ file_size p - master_size p = behind-length p v.file h.file-length in
      let room : master_size p ≤ file_size p = master-first p in
      let L₁ : length file₁ ≡ file_size p = rw (e₁, length-append m₁ (behind p v.file), l₁, rest-length) (omega arith) in
      let LF : length F ≡ file_size p = written-length p moves file₁ L₁ fit in
      let l_f : length (behind p F) ≡ file_size p - master_size p = behind-length p F LF in
      let L' : length file' ≡ file_size p = rw (e', length-append m (behind p F), l', l_f) (omega arith) in
      let M' : master_of p file' ≡ m = ap (master_of p) e' ∙ master-put p m (behind p F) l' in
      let tx : (c : ℕ) → 1 ≤ c → c ≤ p.n → block_at p file' c ≡ wrotes (text_of v) ws c
      = λ c l u. behind-block p file' F L' LF (ap (behind p) e' ∙ behind-put p m (behind p F) l') c
      ∙ written-text p moves file₁ L₁ fit c l u
      ∙ wrotes-ext (cells_written moves) (block_at p file₁) (block_at p v.file) c
      (λ q. behind-block p file₁ v.file L₁ h.file-length (ap (behind p) e₁ ∙ behind-put p m₁ (behind p v.file) l₁) c)
      ∙ cover c l in
      finish file' L' M' tx s
    where
      text' : (file' : List ℕ) (c : ℕ) → (1 ≤ d → b ≡ block_at p file' d) → 1 ≤ c → text_of (seen p d file' b) c ≡ block_at p file' c
      text' file' c g l = go (ℕ_discrete c d)
        where
          go : Dec (c ≡ d) → text_of (seen p d file' b) c ≡ block_at p file' c
          go (yes e) = rw e (text-current (seen p d file' b) ∙ g (omega arith))
          go (no n) = text-other (seen p d file' b) c n

      build : (file' : List ℕ) → length file' ≡ file_size p → master_of p file' ≡ master_for p ss' f'
          → ((c : ℕ) → 1 ≤ c → c ≤ p.n → block_at p file' c ≡ wrotes (text_of v) ws c)
          → length b ≡ p.wpb → (1 ≤ d → Spot ss' d) → (1 ≤ d → b ≡ block_at p file' d) → KeptTree (seen p d file' b) false ss' f'
      build file' L' M' tx lb sp g = record {
        good = h.good;
        file-length = L';
        buffer-length = lb;
        current = sp;
        flagged = λ e. no-true-false e refl;
        clean = λ e l. g l;
        holds =
            subst (λ (x : List ℕ). HoldsCells p x (text_of (seen p d file' b)) ss' f') (sym M')
            (holds-ext p _ _ _ ss' f' (λ c l u. text' file' c g l ∙ tx c l u) hold);
        ended = z;
        alone = record {
          sections = ss';
          free = f';
          holds = subst (λ (x : List ℕ). HoldsCells p x (block_at p file') ss' f') (sym M') (holds-ext p _ _ _ ss' f' tx hold);
          ended = z;
        };
      }

      finish : (file' : List ℕ) → length file' ≡ file_size p → master_of p file' ≡ master_for p ss' f'
          → ((c : ℕ) → 1 ≤ c → c ≤ p.n → block_at p file' c ≡ wrotes (text_of v) ws c)
          → ((d ≡ 0) × (length b ≡ p.wpb)) ⊎ (Spot ss' d × (b ≡ block_at p file' d)) → KeptTree (seen p d file' b) false ss' f'
      finish file' L' M' tx (inl g) = build file' L' M' tx g.1 (λ l. absurd (omega (arith, g.0))) (λ l. absurd (omega (arith, g.0)))
      finish file' L' M' tx (inr g) =
          let i : (1 ≤ d) × (d ≤ p.n) = spot_in p _ _ ss' f' d hold g.0 in
          build file' L' M' tx (ap length g.1 ∙ block-length p file' L' d i.0 i.1) (λ l. g.0) (λ l. g.1)

  -- ---- another text for the current block, flagged

  pub store_kept : (t : List ℕ) (ss' : List Section) → 1 ≤ v.current → length t ≡ p.wpb → Spot ss' v.current
      → HoldsCells p (master_of p v.file) (wrote (text_of v) v.current t) ss' f
      → Ended p (records_in (leaves_in ss')) → KeptTree (seen p v.current v.file t) true ss' f
  store_kept t ss' l e s g z = record {
    good = h.good;
    file-length = h.file-length;
    buffer-length = e;
    current = λ q. s;
    flagged = λ q. l;
    clean = λ q k. no-true-false refl q;
    holds = holds-ext p _ _ _ ss' f (λ c k u. same c) g;
    ended = z;
    alone = h.alone;
  }
    where
      same : (c : ℕ) → text_of (seen p v.current v.file t) c ≡ wrote (text_of v) v.current t c
      same c = go (ℕ_discrete c v.current)
        where
          go : Dec (c ≡ v.current) → text_of (seen p v.current v.file t) c ≡ wrote (text_of v) v.current t c
          go (yes e) = rw (e, wrote-same (text_of v) v.current t) (text-current (seen p v.current v.file t))
          go (no n) = rw (text-other (seen p v.current v.file t) c n, wrote-other (text_of v) v.current t c n, text-other v c n)

pub rows_long : (p : Description) (rows : List (List ℕ)) → All (RowOk p) rows → Each p.wpr rows
rows_long p [] h = tt
rows_long p (r ∷ rows) h = (h.0.0, rows_long p rows h.1)

pub leaf-length : (p : Description) (rows : List (List ℕ)) → good_params p ≡ true → All (RowOk p) rows → length rows ≤ D p
    → length (table (detail_shape p) p.wpb rows) ≡ p.wpb
leaf-length p rows g ok room = length-table (detail_shape p) p.wpb p.wpr rows (rows_long p rows ok) (omega (arith, (caps p g).records-fit, mul-le-mul_right p.wpr room))

-- the leaf in the buffer gets other rows, flag on
pub store-leaf : (v : Texts) (flag : Bool) (a : Place) (f : Free) → KeptTree v flag (tree_of a) f → v.current ≡ a.leaf.block
    → (rows : List (List ℕ)) → Asc (key v.desc.k) (lo v.desc a) rows (hi v.desc a) → LeafFits v.desc (with_rows v.desc a.leaf rows)
    → Ended v.desc (records_in (leaves_in (tree_with a (with_rows v.desc a.leaf rows ∷ []))))
    → KeptTree (seen v.desc v.current v.file (table (detail_shape v.desc) v.desc.wpb rows)) true (tree_with a (with_rows v.desc a.leaf rows ∷ [])) f
unfolding leaf_cell
store-leaf v flag a f h e rows asc ok z =
    let p : Description = v.desc in
    let l' : Leaf = with_rows p a.leaf rows in
    let b : Place = record { before = a.before; index = a.index; low = a.low; leaf = l'; high = a.high; behind = a.behind } in
    store_kept v flag (tree_of a) f h (table (detail_shape p) p.wpb rows) (tree_with a (l' ∷ []))
    (spot_in p _ (text_of v) (tree_of a) f v.current h.holds (record { place = a; is = refl; block = sym e })).0
    (leaf-length p rows h.good ok.rows ok.room)
    (record { place = b; is = refl; block = sym e })
    (subst (λ (c : ℕ). HoldsCells p (master_of p v.file) (wrote (text_of v) c (table (detail_shape p) p.wpb rows)) (tree_with a (l' ∷ [])) f) (sym e)
    (subst (λ (m : List ℕ). HoldsCells p m (wrote (text_of v) a.leaf.block (table (detail_shape p) p.wpb rows)) (tree_with a (l' ∷ [])) f)
    (master-same p a f (l' ∷ []) (λ d. refl) ∙ sym h.holds.master-is)
    (replace-rows p a.before a.index a.low a.leaf a.high a.behind f _ _ h.holds rows asc ok)))
    z
