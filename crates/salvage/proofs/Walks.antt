-- The walk's two loops: what is left of a block, and of the copy, comes to what the whole comes to.
use mathlib.Core.Path.{◌≡◌, refl, sym, ap, ◌∙◌, subst}
use mathlib.Core.Bool.{Bool, true, false, cond}
use mathlib.Core.List.{List, [], ◌∷◌}
use Prim.Native.Nat.{ℕ, zero, suc, ◌+◌, ◌*◌, ◌-◌, ◌≤◌, ◌<◌}
use native.Mathlib.Nat.{mul-le-mul_right}
use native.Mathlib.Omega.{arith}
use borrow.Author.Tests.{eq-eqb, ne_eqb, eqb-true}
use lib.Dec.{eqb}
use lib.ListN.{length, length-append, get_or, take, drop}
use Rattle.words.specs.Words.{put}
use Rattle.words.proofs.Parts.{length_part}
use Rattle.drum.specs.declared.Description.{Description}
use Rattle.drum.specs.Params.{D, file_size, good_params}
use Rattle.drum.specs.Blocks.{block_at}
use Rattle.drum.proofs.Good.{caps}
use Rattle.salvage.specs.declared.Going.{Going}
use Rattle.salvage.specs.Met.{Met, over, found, count_in, rows_from, records_in, missed, places, met_in, met_from, met}
use Rattle.salvage.specs.Salvage.{Walk, lined, step, run}
use Rattle.salvage.specs.Promise.{walking, Spare, Ready, Taken, Copied}
use Rattle.salvage.proofs.Rows.{part-lent, rows-less, row-more, rows-length}
use Rattle.salvage.proofs.Tests.{range-facts, whole}
use Rattle.salvage.proofs.Steps.{line-is, run_more, spare-after, desc-after}

pub spare-one : (g : Going) (count i n m : ℕ) → Spare g (count - i) n → i < count → m ≡ n → Spare g 1 m
spare-one g count i n m s l e = let a = s.lines in let b = s.transfers in record { lines = omega arith; transfers = omega arith }

pub places-length : (b i : ℕ) (rs : List (List ℕ)) → length (places b i rs) ≡ length rs
unfolding places
places-length b i [] = refl
places-length b i (r ∷ rs) = let e = places-length b (i + 1) rs in omega arith

-- ---- the records of a block

-- before the first: its count is good, and all its records lie in it
module _ (g : Going) (t : List ℕ) (b n : ℕ) (h : Taken g t b n) where
  pub text-some : 0 < length t
  text-some = let c = caps _ h.ready.good in let f = c.facts in omega (arith, h.ready.text-is)

  pub marked-least : 8192 ≤ get_or t 0 0
  marked-least = h.marked

  pub block-small : b ≤ 262143
  block-small = h.ready.block

  pub desc-good : good_params g.session.desc ≡ true
  desc-good = h.ready.good

  module _ (count : ℕ) (is : count ≡ get_or t 0 0 - 8192) where
    pub count-few : count ≤ 4096
    count-few = let c = caps _ h.ready.good in omega (arith, h.counted)

    pub rows-within : 1 + 0 * g.session.desc.wpr + (count - 0) * g.session.desc.wpr ≤ length t
    rows-within =
        let c = caps _ h.ready.good in
        let z : count - 0 ≡ count_in t = omega arith in
        let m : count_in t * g.session.desc.wpr ≤ D g.session.desc * g.session.desc.wpr = mul-le-mul_right g.session.desc.wpr h.counted in
        omega (arith, h.ready.text-is, ap (λ (k : ℕ). k * g.session.desc.wpr) z)

    pub records-spare : Spare g (count - 0) n
    records-spare = let s = h.ready.spare in let a = s.lines in let c = s.transfers in record { lines = omega (arith, h.counted); transfers = omega (arith, h.counted) }

    pub records-first : (w : Walk) → run w (places b 1 (records_in g.session.desc t)) ≡ run w (places b (0 + 1) (rows_from g.session.desc.wpr (1 + 0 * g.session.desc.wpr) (count - 0) t))
    records-first w =
        let z : count_in t ≡ count - 0 = omega arith in
        let a : 1 ≡ 1 + 0 * g.session.desc.wpr = omega arith in
        λ j. run w (places b 1 (rows_from g.session.desc.wpr (a j) (z j) t))

-- the record at word `at`, the i + 1st of count
module _ (count i w at : ℕ) (t : List ℕ) (within : at + (count - i) * w ≤ length t) (more : i < count) where
  left_less : (count - i) * w ≡ w + (count - (i + 1)) * w
  left_less =
      let m : count - i - 1 ≡ count - (i + 1) = omega arith in
      rows-less (count - i) w (omega arith) ∙ ap (λ (k : ℕ). w + k * w) m

  pub record-end : at + w ≤ length t
  record-end = omega (arith, left_less)

  pub rows-after : at ≡ 1 + i * w → 1 + (i + 1) * w + (count - (i + 1)) * w ≤ length t
  rows-after e = omega (arith, left_less, row-more i w)

  pub key-lent : (g : Going) (p : Description) → g.session.desc ≡ p → w ≡ p.wpr → good_params p ≡ true
      → g.session.desc.k ≤ length (take (at + w - at) (drop at t))
  key-lent g p q e good =
      let k : g.session.desc.k ≡ p.k = ap (λ (z : Description). z.k) q in
      let l : length (take (at + w - at) (drop at t)) ≡ w = ap length (part-lent at w t) ∙ length_part at w t record-end in
      let c = caps p good in
      let f = c.facts in
      omega arith

-- a turn
module _ (g h : Going) (f d x f' d' x' : List ℕ) (b i w at : ℕ) (t : List ℕ)
    (e : walking h f' d' x' ≡ step (walking g f d x) (found b (i + 1) (take (at + w - at) (drop at t)))) (count : ℕ) (more : i < count) where
  abbrev one : List Met
  one = found b (i + 1) (take (at + w - at) (drop at t)) ∷ []

  as-run : walking h f' d' x' ≡ run (walking g f d x) one
  unfolding run
  as-run = e

  pub record-spare : (n : ℕ) → Spare g (count - i) n → Spare h (count - (i + 1)) n
  record-spare n s =
      let m : 1 + (count - (i + 1)) ≡ count - i = omega arith in
      spare-after g h f d x f' d' x' one as-run 1 (count - (i + 1)) n (omega arith) (subst (λ (k : ℕ). Spare g k n) (sym m) s)

  pub record-desc : (p : Description) → g.session.desc ≡ p → h.session.desc ≡ p
  record-desc p q = desc-after g h f d x f' d' x' one as-run ∙ q

  pub record-turn : (whole : Walk) → whole ≡ run (walking g f d x) (places b (i + 1) (rows_from w at (count - i) t)) → at ≡ 1 + i * w
      → whole ≡ run (walking h f' d' x') (places b (i + 1 + 1) (rows_from w (1 + (i + 1) * w) (count - (i + 1)) t))
  unfolding run places rows_from
  record-turn whole q is =
      let m : count - i ≡ suc (count - (i + 1)) = omega arith in
      let r = row-more i w in
      let next : at + w ≡ 1 + (i + 1) * w = omega arith in
      q ∙ ap (λ (k : ℕ). run (walking g f d x) (places b (i + 1) (rows_from w at k t))) m
      ∙ ap (λ (r : List ℕ). run (step (walking g f d x) (found b (i + 1) r)) (places b (i + 1 + 1) (rows_from w (at + w) (count - (i + 1)) t))) (sym (part-lent at w t))
      ∙ (λ j. run (sym e j) (places b (i + 1 + 1) (rows_from w (next j) (count - (i + 1)) t)))

-- at last
pub records-end : (whole w : Walk) (b i v at count : ℕ) (t : List ℕ) → whole ≡ run w (places b (i + 1) (rows_from v at (count - i) t)) → count ≤ i → w ≡ whole
unfolding run places rows_from
records-end whole w b i v at count t q l =
    let m : count - i ≡ 0 = omega arith in
    sym (q ∙ ap (λ (k : ℕ). run w (places b (i + 1) (rows_from v at k t))) m)

-- ---- a block

-- its text is a part of the copy
module _ (g : Going) (copy text : List ℕ) (b : ℕ) (is : text ≡ block_at g.session.desc copy b) where
  pub block_walked : (v w : Walk) → v ≡ run w (met_in g.session.desc b text) → v ≡ run w (met_in g.session.desc b (block_at g.session.desc copy b))
  block_walked v w e = e ∙ ap (λ (t : List ℕ). run w (met_in g.session.desc b t)) is

pub block-ready : (g : Going) (copy text : List ℕ) (b n : ℕ) → Copied g copy → b ≤ g.session.desc.n → length text ≡ g.session.desc.wpb
    → Spare g (1 + D g.session.desc) n → Ready g text b n
block-ready g copy text b n h most l s =
    let c = caps g.session.desc h.good in
    let f = c.facts in
    record { good = h.good; text-is = l; block = omega arith; spare = s }

-- what its text gives: m is the first test that it misses, as the code has it
module _ (g : Going) (t : List ℕ) (b m : ℕ) (told : m ≡ missed g.session.desc t) where
  given_by : (w : Walk) (c : Bool) → Walk
  given_by w c = run w (cond c (places b 1 (records_in g.session.desc t)) (over b (missed g.session.desc t) ∷ []))

  pub block-over : (f d x y : List ℕ) (r : Going) → r ≡ record { session = g.session; lines = g.lines + 1; transfers = g.transfers }
      → y ≡ put x (3 * g.lines) (b ∷ 0 ∷ m ∷ []) → (m ≡ 0 → ⊥) → walking r f d y ≡ run (walking g f d x) (met_in g.session.desc b t)
  unfolding run met_in step given_by
  block-over f d x y r er ey ne =
      line-is g f d x y b 0 m r er ey
      ∙ ap (λ (n : ℕ). lined b 0 n (walking g f d x)) told
      ∙ sym (ap (given_by (walking g f d x)) (ap (λ (n : ℕ). eqb n 0) (sym told) ∙ ne_eqb m 0 ne))

  pub block-taken : (n : ℕ) → m ≡ 0 → Ready g t b n → Taken g t b n
  block-taken n z s =
      let w = whole g.session.desc t (sym told ∙ z) in
      record {
        ready = s;
        marked = (range-facts 8192 12287 (get_or t 0 0) w.marked).0;
        counted = (range-facts 1 (D g.session.desc) (count_in t) w.counted).1;
      }

  pub block_run : (v w : Walk) → v ≡ run w (places b 1 (records_in g.session.desc t)) → m ≡ 0 → v ≡ run w (met_in g.session.desc b t)
  unfolding met_in given_by
  block_run v w e z = e ∙ sym (ap (given_by w) (ap (λ (n : ℕ). eqb n 0) (sym told) ∙ eq-eqb m 0 z))

pub met-few : (p : Description) (b : ℕ) (t : List ℕ) → length (met_in p b t) ≤ 1 + D p
unfolding met_in
met-few p b t = go (eqb (missed p t) 0) refl
  where
    go : (c : Bool) → eqb (missed p t) 0 ≡ c → length (cond c (places b 1 (records_in p t)) (over b (missed p t) ∷ [])) ≤ 1 + D p
    go true e =
        let l = range-facts 1 (D p) (count_in t) (whole p t (eqb-true _ _ e)).counted in
        omega (arith, places-length b 1 (records_in p t), rows-length p.wpr 1 (count_in t) t)
    go false e = omega arith

pub met-most : (p : Description) (copy : List ℕ) (b n : ℕ) → length (met_from p copy b n) ≤ n * (1 + D p)
unfolding met_from
met-most p copy b zero = omega arith
met-most p copy b (suc n) =
    let e : suc n * (1 + D p) ≡ 1 + D p + n * (1 + D p) = omega arith in
    omega (arith, length-append (met_in p b (block_at p copy b)) (met_from p copy (b + 1) n), met-few p b (block_at p copy b), met-most p copy (b + 1) n)

-- ---- all blocks: b of n are done

module _ (g : Going) (copy : List ℕ) (h : Copied g copy) where
  pub blocks-first : (w : Walk) → run w (met g.session.desc copy) ≡ run w (met_from g.session.desc copy 1 (g.session.desc.n + 1 - 1))
  blocks-first w =
      let z : g.session.desc.n ≡ g.session.desc.n + 1 - 1 = omega arith in
      ap (λ (k : ℕ). run w (met_from g.session.desc copy 1 k)) z

  -- the same of the walk further on, whose parameters are the same
  pub copied_on : (k : Going) → k.session.desc ≡ g.session.desc → Copied k copy
  copied_on k e = record { good = ap good_params e ∙ h.good; copy_is = h.copy_is ∙ ap file_size (sym e) }

pub spare-first : (g : Going) (k n : ℕ) → Spare g (g.session.desc.n * k) n → Spare g ((g.session.desc.n + 1 - 1) * k) n
spare-first g k n s =
    let z : g.session.desc.n ≡ g.session.desc.n + 1 - 1 = omega arith in
    subst (λ (m : ℕ). Spare g (m * k) n) z s

module _ (p : Description) (g : Going) (e : g.session.desc ≡ p) (b n : ℕ) (more : b < n) where
  blocks-less : (n - b) * (1 + D p) ≡ 1 + D p + (n - (b + 1)) * (1 + D p)
  blocks-less =
      let m : n - b - 1 ≡ n - (b + 1) = omega arith in
      rows-less (n - b) (1 + D p) (omega arith) ∙ ap (λ (k : ℕ). 1 + D p + k * (1 + D p)) m

  pub spare-block : (r m : ℕ) → Spare g ((n - b) * (1 + D p)) r → m ≡ r → Spare g (1 + D g.session.desc) m
  spare-block r m s q =
      let l = s.lines in
      let t = s.transfers in
      let d : 1 + D g.session.desc ≡ 1 + D p = ap (λ (q : Description). 1 + D q) e in
      record { lines = omega (arith, blocks-less); transfers = omega (arith, blocks-less) }

  pub number-most : n ≡ p.n + 1 → b ≤ g.session.desc.n
  number-most q = let d : g.session.desc.n ≡ p.n = ap (λ (z : Description). z.n) e in omega arith

  module _ (k : Going) (f d x f' d' x' copy : List ℕ) (q : walking k f' d' x' ≡ run (walking g f d x) (met_in g.session.desc b (block_at g.session.desc copy b))) where
    abbrev here : Description → List Met
    here z = met_in z b (block_at z copy b)

    pub spare-next : (r : ℕ) → Spare g ((n - b) * (1 + D p)) r → Spare k ((n - (b + 1)) * (1 + D p)) r
    spare-next r s =
        let few : length (here g.session.desc) ≤ 1 + D p =
        subst (λ (z : Description). length (here g.session.desc) ≤ 1 + D z) e (met-few g.session.desc b (block_at g.session.desc copy b)) in
        spare-after g k f d x f' d' x' _ q (1 + D p) ((n - (b + 1)) * (1 + D p)) r few (subst (λ (m : ℕ). Spare g m r) blocks-less s)

    pub desc-next : k.session.desc ≡ p
    desc-next = desc-after g k f d x f' d' x' _ q ∙ e

    pub block-turn : (whole : Walk) → whole ≡ run (walking g f d x) (met_from p copy b (n - b))
        → whole ≡ run (walking k f' d' x') (met_from p copy (b + 1) (n - (b + 1)))
    unfolding met_from
    block-turn whole w =
        let m : n - b ≡ suc (n - (b + 1)) = omega arith in
        let rest = met_from p copy (b + 1) (n - (b + 1)) in
        w ∙ ap (λ (j : ℕ). run (walking g f d x) (met_from p copy b j)) m
        ∙ run_more (here p) rest (walking g f d x)
        ∙ ap (λ (z : Description). run (run (walking g f d x) (here z)) rest) (sym e)
        ∙ ap (λ (v : Walk). run v rest) (sym q)

pub blocks_end : (whole w : Walk) (p : Description) (copy : List ℕ) (b n : ℕ) → whole ≡ run w (met_from p copy b (n - b)) → n ≤ b → w ≡ whole
unfolding run met_from
blocks_end whole w p copy b n q l =
    let m : n - b ≡ 0 = omega arith in
    sym (q ∙ ap (λ (k : ℕ). run w (met_from p copy b k)) m)
