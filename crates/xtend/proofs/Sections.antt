-- An index block changed where it lies in the file; a new index block, and its section in the master, whose words the blocks leave.
use mathlib.Core.Path.{◌≡◌, refl, sym, ap, ◌∙◌}
use mathlib.Core.List.{List, [], ◌∷◌, ◌++◌}
use Prim.Native.Nat.{ℕ, ◌+◌, ◌-◌, ◌≤◌, ◌<◌}
use native.Mathlib.Omega.{arith}
use borrow.Rule.Slice.PartMut.{put_mid, mid_of}
use lib.ListN.{length, take}
use Rattle.words.specs.Words.{part}
use Rattle.words.specs.Keys.{ones}
use Rattle.table.specs.declared.Shape.{Shape}
use Rattle.table.specs.Tables.{count, laid}
use Rattle.table.proofs.Lengths.{length-laid}
use Rattle.drum.specs.declared.Description.{Description}
use Rattle.drum.specs.Params.{I, start, file_size, master_shape, index_shape}
use Rattle.drum.specs.Blocks.{Block, block_at, put_block, sections}
use Rattle.drum.specs.Inside.{HasBlock}
use Rattle.drum.proofs.Good.{caps}
use Rattle.drum.proofs.Forms.{index-tag, count-master}
use Rattle.drum.proofs.Blocks.{length-block, length-put_block, master-word}
use Rattle.drum.proofs.Lent.{lent, given_back}
use Rattle.rules.specs.XtendDone.{ones_entry, bounded, extended}
use Rattle.rules.proofs.Rooms.{index-end, index-row, master-row}
use Rattle.rules.proofs.Sizes.{ones-length}
use Rattle.xtend.specs.Fits.{LastIn, LastRoomIn, IndexTakes, SectionIn}
use Rattle.xtend.specs.Steps.{indexed, sectioned}
use Rattle.xtend.proofs.Entries.{length-bounded}

-- the text of the index block
module _ (p : Description) (f : List ℕ) (i : ℕ) (key : List ℕ) (has : IndexTakes p f i key) where
  index-block : Block p i
  index-block = (has.held.least, has.held.most)

  index-length : length (block_at p f i) ≡ p.wpb
  index-length = length-block p f has.held.file-is i index-block

  index-last : LastIn p (index_shape p) (block_at p f i) key
  unfolding index_shape
  index-last = record {
    base = omega arith;
    stride = refl;
    least = has.least;
    within = rw index-length (index-end p has.held.good (count (index_shape p) (block_at p f i)) has.most);
    key-is = has.key-is;
  }

  pub key-most : p.k ≤ 63
  key-most = (caps p has.held.good).facts.k-most

  pub bound-length : length (bounded (index_shape p) (part 0 p.k key) (block_at p f i)) ≡ p.wpb
  bound-length = length-bounded p (index_shape p) (block_at p f i) key index-last ∙ index-length

  index-room : (b : ℕ) → b ≤ p.n → count (index_shape p) (block_at p f i) < I p → LastRoomIn p (index_shape p) (block_at p f i) key b
  unfolding index_shape
  index-room b hb room =
      let g = caps p has.held.good in
      let q = g.facts in
      record {
        good = has.held.good;
        last = index-last;
        most = omega (arith, index-tag p has.held.good);
        room = rw index-length (index-row p has.held.good (count (index_shape p) (block_at p f i)) room);
        block = omega arith;
      }

  -- where its words are lent
  module _ (a : ℕ) (h : Shape) (ea : a ≡ start p i) (eh : h ≡ index_shape p) where
    pub last-lent : LastIn p h (mid_of a (a + p.wpb - a) f) key
    last-lent = rw (eh, lent p f i a ea) index-last

    pub room-lent : (b : ℕ) → b ≤ p.n → count (index_shape p) (block_at p f i) < I p → LastRoomIn p h (mid_of a (a + p.wpb - a) f) key b
    room-lent b hb room = rw (eh, lent p f i a ea) (index-room b hb room)

    module _ (t : List ℕ) where
      pub bounded-back : t ≡ bounded h (part 0 p.k key) (mid_of a (a + p.wpb - a) f) → length t ≡ length (mid_of a (a + p.wpb - a) f)
          → put_mid a (a + p.wpb - a) f t ≡ put_block p f i (bounded (index_shape p) (part 0 p.k key) (block_at p f i))
      bounded-back et k =
          given_back p f i a t has.held ea k
          ∙ ap (put_block p f i) (et ∙ (λ j. bounded (eh j) (part 0 p.k key) (lent p f i a ea j)))

      pub extended-back : (b : ℕ) → t ≡ extended p h (part 0 p.k key) b (mid_of a (a + p.wpb - a) f)
          → length t ≡ length (mid_of a (a + p.wpb - a) f)
          → put_mid a (a + p.wpb - a) f t ≡ put_block p f i (extended p (index_shape p) (part 0 p.k key) b (block_at p f i))
      extended-back b et k =
          given_back p f i a t has.held ea k
          ∙ ap (put_block p f i) (et ∙ (λ j. extended p (eh j) (part 0 p.k key) b (lent p f i a ea j)))

-- an entry has its words
pub entry-words : (p : Description) (b : ℕ) (entry : List ℕ) → part 0 (p.k + 1) entry ≡ ones p.k ++ (b ∷ []) → p.k + 1 ≡ length (take (p.k + 1) entry)
unfolding part ones_entry
entry-words p b entry e = sym (ap length e ∙ ones-length p b)

-- a new index block x, and its section
module _ (p : Description) (f : List ℕ) (i : ℕ) (key : List ℕ) (b x : ℕ) (has : SectionIn p f i key b x) where
  pub key-few : p.k ≤ 63
  key-few = key-most p f i key has.old

  pub number_small : b ≤ 262143
  number_small =
      let g = caps p has.old.held.good in
      let q = g.facts in
      let e = has.entry in
      omega arith

  new-block : Block p x
  new-block = (has.new.least, has.new.most)

  old-block : Block p i
  old-block = (has.old.held.least, has.old.held.most)

  laid-is : length (laid p.wpb ((index_shape p).tag + 1) (ones_entry p b)) ≡ p.wpb
  laid-is =
      let g = caps p has.old.held.good in
      let l = ones-length p b in
      length-laid p.wpb ((index_shape p).tag + 1) (ones_entry p b) (omega arith)

  bounded-is : length (put_block p f i (bounded (index_shape p) (part 0 p.k key) (block_at p f i))) ≡ file_size p
  bounded-is = length-put_block p f has.old.held.file-is i old-block _ (bound-length p f i key has.old)

  -- the entry's words are lent
  pub entry-small : (entry : List ℕ) → part 0 (p.k + 1) entry ≡ ones p.k ++ (b ∷ []) → 1 + length (take (p.k + 1) entry) ≤ p.wpb
  entry-small entry e =
      let g = caps p has.old.held.good in
      let l = entry-words p b entry e in
      omega arith

  -- the new index block lies in the file once the old one has its bound
  pub bounded-held : (a : ℕ) (h : Shape) (t : List ℕ) → a ≡ start p i → h ≡ index_shape p
      → t ≡ bounded h (part 0 p.k key) (mid_of a (a + p.wpb - a) f) → length t ≡ length (mid_of a (a + p.wpb - a) f)
      → HasBlock p (put_mid a (a + p.wpb - a) f t) x
  bounded-held a h t ea eh et k = record {
    good = has.new.good;
    file-is = ap length (bounded-back p f i key has.old a h ea eh t et k) ∙ bounded-is;
    least = has.new.least;
    most = has.new.most;
  }

  length-indexed : length (indexed p (part 0 p.k key) i b x f) ≡ file_size p
  unfolding indexed
  length-indexed = length-put_block p _ bounded-is x new-block _ laid-is

  sections-indexed : sections (indexed p (part 0 p.k key) i b x f) ≡ sections f
  unfolding indexed
  sections-indexed =
      let g = caps p has.old.held.good in
      master-word p _ bounded-is x new-block _ laid-is 0 (omega arith)
      ∙ master-word p f has.old.held.file-is i old-block _ (bound-length p f i key has.old) 0 (omega arith)

  indexed-room : LastRoomIn p (master_shape p) (indexed p (part 0 p.k key) i b x f) key x
  unfolding master_shape
  indexed-room =
      let g = caps p has.old.held.good in
      let q = g.facts in
      let s : count (master_shape p) (indexed p (part 0 p.k key) i b x f) ≡ sections f = count-master p _ ∙ sections-indexed in
      let l = length-indexed in
      let a = has.least in
      let c = has.room in
      let n = has.new.most in
      let r = master-row p has.old.held.good (sections f) c in
      record {
        good = has.old.held.good;
        last = record {
          base = omega arith;
          stride = refl;
          least = omega arith;
          within = rw s (omega arith);
          key-is = has.old.key-is;
        };
        most = omega arith;
        room = rw s (omega arith);
        block = omega arith;
      }

-- `start_index` and `start_section`, by what their calls left
module _ (p : Description) (f : List ℕ) (i : ℕ) (key : List ℕ) (b x : ℕ) where
  pub indexed-by : (h : Shape) (f₁ f₂ entry : List ℕ) → f₂ ≡ put_block p f₁ x (laid p.wpb (h.tag + 1) (take (p.k + 1) entry))
      → h ≡ index_shape p → f₁ ≡ put_block p f i (bounded (index_shape p) (part 0 p.k key) (block_at p f i))
      → part 0 (p.k + 1) entry ≡ ones p.k ++ (b ∷ []) → f₂ ≡ indexed p (part 0 p.k key) i b x f
  unfolding indexed ones_entry part
  indexed-by h f₁ f₂ entry e₂ eh e₁ e = rw (e₂, eh, e, e₁)

  module _ (h : Shape) (f₁ : List ℕ) (eh : h ≡ master_shape p) (e₁ : f₁ ≡ indexed p (part 0 p.k key) i b x f) where
    pub section-room : SectionIn p f i key b x → LastRoomIn p h f₁ key x
    section-room has = rw (eh, e₁) (indexed-room p f i key b x has)

    pub sectioned-by : (f₂ : List ℕ) → f₂ ≡ extended p h (part 0 p.k key) x f₁ → f₂ ≡ sectioned p (part 0 p.k key) i b x f
    unfolding sectioned
    sectioned-by f₂ e₂ = rw (e₂, eh, e₁)
