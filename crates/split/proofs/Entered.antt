-- An entry that becomes two: in a table, and in an index block where it lies.
use mathlib.Core.Path.{◌≡◌, refl, ap, ◌∙◌}
use mathlib.Core.List.{List}
use Prim.Native.Nat.{ℕ, ◌+◌, ◌≤◌, ◌<◌}
use native.Mathlib.Omega.{arith}
use lib.ListN.{length}
use Rattle.words.specs.Words.{part}
use Rattle.words.proofs.Parts.{length_part}
use Rattle.table.specs.declared.Shape.{Shape}
use Rattle.table.specs.Tables.{count, place, inserted}
use Rattle.table.specs.Splits.{renamed, entered}
use Rattle.table.proofs.Places.{row_lt}
use Rattle.table.proofs.Lengths.{count-renamed, length-renamed, length-entered}
use Rattle.drum.specs.declared.Description.{Description}
use Rattle.drum.specs.Params.{I, index_shape}
use Rattle.drum.specs.Blocks.{block_at, put_block}
use Rattle.drum.specs.Inside.{HasBlock, Takes}
use Rattle.drum.proofs.Forms.{index-tag}
use Rattle.drum.proofs.Good.{caps}
use Rattle.drum.proofs.Blocks.{length-block, block_same}
use Rattle.drum.proofs.Lent.{held-still, changed-twice}
use Rattle.split.specs.Enters.{Enters, EntersIn}

-- the entry lies in the table, and what names its block too
pub entry-end : (h : Shape) (i : ℕ) (t : List ℕ) → Enters h i t → place h i + h.width < length t
entry-end h i t e =
    let r = row_lt i (count h t) h.stride e.below in
    omega arith

module _ (h : Shape) (i b : ℕ) (t u : List ℕ) (e : u ≡ renamed h i b t) where
  module _ (enters : Enters h i t) where
    named_count : count h u ≡ count h t
    named_count = ap (count h) e ∙ count-renamed h i t b enters.counted

    pub named-room : place h (count h u) + h.stride ≤ length u
    named-room =
        let l : length u ≡ length t = ap length e ∙ length-renamed h i t b in
        rw (named_count, l) enters.room

    pub named-place : i ≤ count h u
    named-place =
        let l = enters.below in
        rw named_count (omega arith)

    pub named-most : h.tag + count h u < 262143
    named-most = rw named_count enters.count_most

  pub entered_by : (s r : List ℕ) → s ≡ inserted h i r u → s ≡ entered h i r b t
  unfolding entered
  entered_by s r q = rw (q, e)

-- an index block with room
module _ (p : Description) (f : List ℕ) (x i : ℕ) (enters : EntersIn p f x i) where
  block-length : length (block_at p f x) ≡ p.wpb
  block-length = length-block p f enters.held.file-is x (enters.held.least, enters.held.most)

  index-enters : Enters (index_shape p) i (block_at p f x)
  unfolding index_shape
  index-enters =
      let g = caps p enters.held.good in
      let q = g.facts in
      let l = block-length in
      let r = row_lt (count (index_shape p) (block_at p f x)) (I p) (p.k + 1) enters.room in
      let t = index-tag p enters.held.good in
      let l₁ = enters.room in
      record { counted = omega arith; key-within = omega arith; room = omega arith; below = enters.below; count_most = omega arith }

  module _ (h : Shape) (eh : h ≡ index_shape p) where
    shape-enters : Enters h i (block_at p f x)
    shape-enters = rw eh index-enters

    pub name-end : place h i + h.width < p.wpb
    name-end =
        let e = entry-end h i (block_at p f x) shape-enters in
        let l = block-length in
        omega arith

    pub entry-long : (entry : List ℕ) → p.k + 1 ≤ length entry → h.stride ≤ length entry
    unfolding index_shape
    entry-long entry l = rw eh l

    module _ (b : ℕ) (g : List ℕ) (e : g ≡ put_block p f x (renamed h i b (block_at p f x))) where
      named-length : length (renamed h i b (block_at p f x)) ≡ p.wpb
      named-length = length-renamed h i (block_at p f x) b ∙ block-length

      pub named-held : HasBlock p g x
      named-held = held-still p f g x x _ e named-length enters.held enters.held

      named-text : block_at p g x ≡ renamed h i b (block_at p f x)
      named-text = ap (λ (z : List ℕ). block_at p z x) e ∙ block_same p f enters.held.file-is x (enters.held.least, enters.held.most) _ named-length

      takes-named : Takes h i (block_at p g x)
      takes-named =
          record {
            counted = shape-enters.counted;
            room = named-room h i b (block_at p f x) (block_at p g x) named-text shape-enters;
            place-most = named-place h i b (block_at p f x) (block_at p g x) named-text shape-enters;
            count_most = named-most h i b (block_at p f x) (block_at p g x) named-text shape-enters;
          }

      entered_here : (s r : List ℕ) → length r ≡ h.stride → s ≡ put_block p g x (inserted h i r (block_at p g x))
          → s ≡ put_block p f x (entered h i r b (block_at p f x))
      unfolding entered
      entered_here s r lr q =
          let below = shape-enters.below in
          let n = length-entered h i (block_at p f x) r b shape-enters.counted (omega arith) lr shape-enters.room ∙ block-length in
          changed-twice p f g s x _ _ enters.held named-length n e (inserted h i r) q refl

      pub entered-in : (s entry : List ℕ) → s ≡ put_block p g x (inserted h i (part 0 h.stride entry) (block_at p g x)) → p.k + 1 ≤ length entry
          → s ≡ put_block p f x (entered (index_shape p) i (part 0 (p.k + 1) entry) b (block_at p f x))
      unfolding index_shape
      entered-in s entry q l =
          let k = entry-long entry l in
          let n = length_part 0 h.stride entry (omega arith) in
          entered_here s (part 0 h.stride entry) n q
          ∙ ap (λ (z : Shape). put_block p f x (entered z i (part 0 z.stride entry) b (block_at p f x))) eh

-- so it takes the other entry
pub named-takes : (p : Description) (f g : List ℕ) (x i b : ℕ) (h : Shape) → g ≡ put_block p f x (renamed h i b (block_at p f x)) → h ≡ index_shape p
    → EntersIn p f x i → Takes h i (block_at p g x)
named-takes p f g x i b h e eh enters = takes-named p f x i enters h eh b g e
