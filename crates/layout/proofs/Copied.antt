-- The copy of a file under another CONTROL: where its master and its blocks are, the tree that it holds, and the way back.
use Prim.Native.Nat.{ℕ, ◌+◌, ◌*◌, ◌-◌, ◌≤◌}
use mathlib.Core.Path.{◌≡◌, refl, sym, ap, ◌∙◌}
use mathlib.Core.List.{List, [], ◌∷◌, ◌++◌, append_assoc}
use mathlib.Core.Bool.{true}
use native.Mathlib.Omega.{arith}
use lib.ListN.{length, take, drop, length-append, length-drop, length-replicate}
use lib.Seq.{drop-drop}
use Rattle.words.specs.Words.{part, zeros, all_words}
use Rattle.words.proofs.Parts.{length_part, part-all, part-append-low, part-append-high}
use Rattle.words.proofs.All.{append-all_words, all_words-part, all_words-drop, all_words-replicate}
use Rattle.drum.specs.declared.Description.{Description}
use Rattle.drum.specs.Params.{D, I, master_size, file_size, start, good_params, tag_of, index_shape, detail_shape}
use Rattle.drum.specs.Blocks.{block_at, link_place, free_text}
use Rattle.layout.specs.Create.{end_record}
use Rattle.layout.specs.Tree.{Leaf, Section, Tree, head_of, leaves_of}
use Rattle.layout.specs.Holds.{All, LeavesOk, IndexIn, DetailIn, ChainIn, Holds, master_entries, master_text}
use Rattle.layout.specs.Copied.{under_control, entries_end, copied, CopyBlocks, CopyHolds, CopyBack}
use Rattle.layout.proofs.Good.{Sized, good-facts, master-fits}
use Rattle.layout.proofs.Texts.{three-words}
use Rattle.layout.proofs.Trees.{master-length}
use Rattle.layout.proofs.Unique.{master-words}
use Rattle.layout.proofs.OneFile.{one-file}

-- two pieces: the new master, and all behind the old one
module _ (c : ℕ) (p : Description) (f : List ℕ) (in-file : entries_end p f ≤ length f) (in-master : entries_end p f ≤ master_size (under_control c p)) where
  abbrev q : Description
  q = under_control c p

  unfoldable pub new_master : List ℕ
  new_master = part 0 (entries_end p f) f ++ zeros (master_size q - entries_end p f)

  pieces : copied c p f ≡ new_master ++ drop (master_size p) f
  unfolding copied new_master
  pieces = sym (append_assoc (part 0 (entries_end p f) f) (zeros (master_size q - entries_end p f)) (drop (master_size p) f))

  pub length-master : length new_master ≡ master_size q
  unfolding new_master
  length-master =
      rw (
        length-append (part 0 (entries_end p f) f) (zeros (master_size q - entries_end p f)),
        length_part 0 (entries_end p f) f (omega arith),
        length-replicate {A = ℕ} (master_size q - entries_end p f) 0,
      ) (omega arith)

  pub copied-master : part 0 (master_size q) (copied c p f) ≡ new_master
  copied-master =
      rw (pieces, ← length-master)
      (part-append-low 0 (length new_master) new_master (drop (master_size p) f) (omega arith) ∙ part-all (length new_master) new_master refl)

  pub copied-length : length f ≡ file_size p → length (copied c p f) ≡ file_size q
  unfolding file_size under_control
  copied-length l =
      rw (pieces, length-append new_master (drop (master_size p) f), length-drop) (omega (arith, length-master))

  -- a block starts as far behind the new master as it did behind the old one
  pub copied-block : (b : ℕ) → block_at q (copied c p f) b ≡ block_at p f b
  unfolding block_at start under_control part
  copied-block b =
      let x = (b - 1) * p.wpb in
      let rest = drop (master_size p) f in
      let e : part (master_size q + x) p.wpb (new_master ++ rest) ≡ part x p.wpb rest =
      ap (λ (m : ℕ). part (m + x) p.wpb (new_master ++ rest)) (sym length-master) ∙ part-append-high x p.wpb new_master rest in
      ap (part (master_size q + x) p.wpb) pieces ∙ e ∙ ap (take p.wpb) (drop-drop x (master_size p) f)

  pub copied-words : all_words f ≡ true → all_words (copied c p f) ≡ true
  unfolding new_master
  copied-words h =
      rw pieces
      (append-all_words new_master (drop (master_size p) f)
      (append-all_words _ _ (all_words-part 0 (entries_end p f) f h) (all_words-replicate (master_size q - entries_end p f) 0 (omega arith)))
      (all_words-drop (master_size p) f h))

pub copy_blocks : CopyBlocks
copy_blocks c p f b i j = copied-block c p f i j b

-- what is said of detail blocks does not speak of CONTROL
leaves-under : (c : ℕ) (p : Description) (before : List (List ℕ)) (ls : List Leaf) → LeavesOk p before ls → LeavesOk (under_control c p) before ls
unfolding LeavesOk under_control D
leaves-under c p before [] h = tt
leaves-under c p before (l ∷ ls) (o, h) = (
  record { counted = o.counted; width = o.width; widths = o.widths; order = o.order; bounded = o.bounded },
  leaves-under c p (l.bound ∷ []) ls h,
)

-- what is said of the texts of blocks holds where each block has the words that it had
module _ (p q : Description) (f g : List ℕ) (same : (b : ℕ) → block_at q g b ≡ block_at p f b) (wide : q.wpb ≡ p.wpb)
    (form : q.form ≡ p.form) where
  indexes-under : (ss : List Section) → All (IndexIn p f) ss → All (IndexIn q g) ss
  unfolding All index_shape tag_of
  indexes-under [] h = tt
  indexes-under (s ∷ ss) (a, h) = (same s.block ∙ a ∙ rw (wide, form), indexes-under ss h)

  details-under : (ls : List Leaf) → All (DetailIn p f) ls → All (DetailIn q g) ls
  unfolding All detail_shape tag_of
  details-under [] h = tt
  details-under (l ∷ ls) (a, h) = (same l.block ∙ a ∙ rw (wide, form), details-under ls h)

  chain-under : (cs : List ℕ) → ChainIn p f cs → ChainIn q g cs
  unfolding ChainIn free_text tag_of link_place
  chain-under [] h = tt
  chain-under (b ∷ bs) (a, h) = (same b ∙ a ∙ rw (wide, form), chain-under bs h)

module _ (c : ℕ) (p : Description) (f : List ℕ) (t : Tree) (good : good_params p ≡ true) (again : good_params (under_control c p) ≡ true)
    (most : length t.sections ≤ c) (h : Holds p f t) where
  z : Sized p f
  z = record { good = good-facts p good; size = h.size }

  -- the entries lie in the file, in the old master and in the new one
  end_is : entries_end p f ≡ 3 + length t.sections * (p.k + 1)
  unfolding entries_end
  end_is = rw (master-words p f z t h).secs

  pub end-in-file : entries_end p f ≤ length f
  end-in-file = omega (arith, end_is, (master-words p f z t h).inside)

  pub end-in-master : entries_end p f ≤ master_size (under_control c p)
  unfolding under_control
  end-in-master = omega (arith, end_is, master-fits (under_control c p) (good-facts (under_control c p) again) (length t.sections) most)

  master-under : part 0 (master_size (under_control c p)) (copied c p f) ≡ master_text (under_control c p) t
  unfolding new_master master_text
  master-under =
      let m = master-words p f z t h in
      let u = length t.sections * (p.k + 1) in
      let len : length (master_entries t.sections) ≡ u = master-length p [] t.sections h.leaves h.counted in
      let d : master_size (under_control c p) - 3 - length (master_entries t.sections) ≡ master_size (under_control c p) - (3 + u) = omega arith in
      let w : part 0 (3 + u) f ≡ length t.sections ∷ head_of t.chain ∷ t.lowest ∷ master_entries t.sections =
      three-words f u (omega (arith, m.inside)) ∙ rw (m.secs, m.head, m.low, m.rows) in
      copied-master c p f end-in-file end-in-master ∙ rw (end_is, w, d)

  held-under : Holds (under_control c p) (copied c p f) t
  unfolding under_control I end_record
  held-under =
      let q = under_control c p in
      let g = copied c p f in
      let same = copied-block c p f end-in-file end-in-master in
      record {
        size = copied-length c p f end-in-file end-in-master h.size;
        words = copied-words c p f end-in-file end-in-master h.words;
        master = master-under;
        indexes = indexes-under p q f g same refl refl t.sections h.indexes;
        details = details-under p q f g same refl refl (leaves_of t) h.details;
        chained = chain-under p q f g same refl refl t.chain h.chained;
        unused = λ b i j. same b ∙ h.unused b i j;
        control = (h.control.0, most);
        counted = h.counted;
        leaves = leaves-under c p [] (leaves_of t) h.leaves;
        last = h.last;
        end = h.end;
        once = h.once;
        reached = h.reached;
        linked = h.linked;
        lowest = h.lowest;
      }

pub copy_holds : CopyHolds
copy_holds c p f t good again most h = held-under c p f t good again most h

-- the copy of the copy holds the same tree under the first description, so it is the first file
pub copy-back : CopyBack
unfolding under_control
copy-back c p f t good again most h =
    one-file p (copied p.control (under_control c p) (copied c p f)) f t
    (copy_holds p.control (under_control c p) (copied c p f) t again good h.control.1 (copy_holds c p f t good again most h))
    h
