-- DLETE that leaves a block empty: its entry goes, and an emptied index block's entry too. All of DLETE together.
use Prim.Native.Nat.{ℕ, suc, ◌+◌, ◌-◌, ◌≤◌}
use mathlib.Core.Bool.{true, false, cond}
use mathlib.Core.Logic.{◌⊎◌, inl, inr}
use mathlib.Core.Path.{◌≡◌, refl, sym, ap, ap₂, ◌∙◌, subst}
use mathlib.Core.List.{List, [], ◌∷◌, ◌++◌, append-nil, append_assoc}
use native.Mathlib.Omega.{arith}
use lib.Dec.{eqb}
use lib.ListN.{length, length-append, set}
use borrow.Author.Tests.{eq-eqb, ne_eqb}
use Rattle.numbers.specs.Numbers.{done}
use Rattle.numbers.specs.Checked.{passed}
use Rattle.words.specs.Keys.{val}
use Rattle.table.specs.Tables.{count, removed, key_at}
use Rattle.drum.proofs.Blocks.{length-free_text}
use Rattle.drum.specs.declared.Description.{Description}
use Rattle.drum.specs.Params.{I, good_params, master_shape, index_shape, detail_shape}
use Rattle.drum.specs.Blocks.{Transfer, text_of, written}
use Rattle.drum.proofs.Good.{good-facts}
use Rattle.rules.specs.declared.Path.{Path}
use Rattle.rules.specs.declared.Way.{Way}
use Rattle.rules.specs.declared.Way.TheVariants.{Here, By}
use Rattle.rules.specs.declared.Look.TheVariants.{Found}
use Rattle.rules.specs.declared.Delete.{Delete}
use Rattle.rules.specs.declared.Delete.TheVariants.{Empty, Both}
use Rattle.rules.specs.State.{State, Outcome, desc, texts, key_in}
use Rattle.rules.specs.Lookup.{reached, look, text_at}
use Rattle.rules.proofs.Sizes.{way-few}
use Rattle.demands.proofs.Scene.{scene}
use Rattle.demands.proofs.Lists.{All, all_append, all_left, all_right, map-append, from_end, last-same}
use Rattle.demands.proofs.Order.{del}
use Rattle.layout.specs.Tree.{Leaf, Section, leaf_blocks}
use Rattle.demands.proofs.Trees.{leaves_in, records_in, key, table, leaves_in-append, records-append, index_text}
use Rattle.demands.proofs.Holds.{Free, HoldsCells, LeafFits, SectionOk, master_for, master_entry, head_or}
use Rattle.demands.proofs.Places.{Place, tree_of, tree_with, olds, index-text, leaf-in, index_in, sec-ok, last_bound-append}
use Rattle.demands.proofs.Texts.{count-table}
use Rattle.demands.proofs.Blocks.{master_of, behind, cells_written, Fits}
use Rattle.demands.proofs.Paths.{path_of, upto-pass}
use Rattle.demands.proofs.Records.{end-key}
use Rattle.demands.proofs.Sound.{Key, Ended, is_here}
use Rattle.demands.proofs.Answers.{Ready, Gives}
use Rattle.demands.proofs.Reach.{At}
use Rattle.words.specs.Words.{zeros}
use Rattle.layout.specs.Create.{end_record}
use Rattle.rules.specs.Dlete.{empty_deed, empty_at, delete_after, delete_deed, delete_done, dlete, entry_gone, empty_moves, empty_all, both_all, empty_file, both_file}
use Rattle.rules.specs.Dlete.{emptying}
use Rattle.demands.proofs.Cells.{Cell, is-self, weigh, cell_times, wrotes}
use Rattle.demands.proofs.Steps.{sec, ix, push, link, with_bound, drop-leaf, drop-last, drop-section}
use Rattle.demands.proofs.Flat.{zeros-length}
use Rattle.demands.proofs.Entries.{head-is, file-is, count_index, index_key, index-long}
use Rattle.demands.proofs.Masters.{with-head, index-removed, index-rekeyed, master-removed}
use Rattle.demands.proofs.Frees.{free-ok}
use Rattle.demands.proofs.Acts.{same-file, act-gives}
use Rattle.demands.proofs.Lookup.{Covers}
use Rattle.demands.proofs.Dlete.{dlete-by, gone-contents, gone-ended}
use Rattle.demands.specs.Reuse.{Deleted, detail-freed, both-freed}
use Rattle.demands.proofs.Moves.{tree_in, one-freed, two-freed, same_blocks}
use Rattle.demands.proofs.Growth.{Grows, nothing, grow-from}
use Rattle.demands.proofs.Changes.{grow-inner, grow_last, grow-section}

-- the words of the index block with the entry gone: another follows it
pub gone-inner : (p : Description) (low : List Leaf) (l m : Leaf) (hs : List Leaf) → good_params p ≡ true → All (LeafFits p) (low ++ (l ∷ (m ∷ hs)))
    → length (low ++ (l ∷ (m ∷ hs))) ≤ I p
    → entry_gone p (length low) (index_text p (low ++ (l ∷ (m ∷ hs)))) ≡ index_text p (low ++ (m ∷ hs))
unfolding entry_gone
gone-inner p low l m hs g ok room =
    simp (
      count_index p (low ++ (l ∷ (m ∷ hs))),
      ne_eqb (length low + 1) (length (low ++ (l ∷ (m ∷ hs))))
          (λ e. omega (arith, e, length-append low (l ∷ (m ∷ hs)))),
    )
    (index-removed p g low l (m ∷ hs) ok room)

-- it is the last, "the one before takes its bound"
pub gone-last : (p : Description) (low : List Leaf) (y l : Leaf) → good_params p ≡ true → All (LeafFits p) (low ++ (y ∷ (l ∷ [])))
    → length (low ++ (y ∷ (l ∷ []))) ≤ I p
    → entry_gone p (length low + 1) (index_text p (low ++ (y ∷ (l ∷ [])))) ≡ index_text p (low ++ (with_bound p y l.bound ∷ []))
unfolding entry_gone
gone-last p low y l g ok room =
    let w : Leaf = with_bound p y l.bound in
    let two : LeafFits p y × (LeafFits p l × Unit {0}) = all_right (LeafFits p) low _ ok in
    let wok : LeafFits p w = record { some = two.0.some; room = two.0.room; rows = two.0.rows; bound = two.1.0.bound; wide = two.1.0.wide } in
    let a₁ : low ++ (y ∷ (l ∷ [])) ≡ (low ++ (y ∷ [])) ++ (l ∷ []) = sym (append_assoc low (y ∷ []) (l ∷ [])) in
    let a₂ : low ++ (w ∷ (l ∷ [])) ≡ (low ++ (w ∷ [])) ++ (l ∷ []) = sym (append_assoc low (w ∷ []) (l ∷ [])) in
    let n₁ : length low + 1 ≡ length (low ++ (y ∷ [])) = sym (length-append low (y ∷ [])) in
    let n₂ : length low + 1 ≡ length (low ++ (w ∷ [])) = sym (length-append low (w ∷ [])) in
    let kb : key_at (index_shape p) (index_text p (low ++ (y ∷ (l ∷ [])))) (length low + 1) ≡ l.bound
    = ap₂ (λ (z : List Leaf) (n : ℕ). key_at (index_shape p) (index_text p z) n) a₁ n₁
    ∙ index_key p (low ++ (y ∷ [])) l [] (subst (All (LeafFits p)) a₁ ok) in
    let wall : All (LeafFits p) (low ++ (w ∷ (l ∷ []))) = all_append (LeafFits p) low _ (all_left (LeafFits p) low _ ok) (wok, two.1) in
    let less : length low + 1 - 1 ≡ length low = omega arith in
    let last : eqb (length low + 1 + 1) (length (low ++ (y ∷ (l ∷ [])))) ≡ true
    = eq-eqb (length low + 1 + 1) (length (low ++ (y ∷ (l ∷ [])))) (rw (length-append low (y ∷ (l ∷ []))) (omega arith)) in
    rw (count_index p (low ++ (y ∷ (l ∷ []))), last, kb, less, index-rekeyed p g low y (l ∷ []) ok l.bound two.1.0.bound)
    (ap₂ (λ (z : List Leaf) (n : ℕ). removed (index_shape p) n (index_text p z)) a₂ n₂
    ∙ index-removed p g (low ++ (w ∷ [])) l [] (subst (All (LeafFits p)) a₂ wall)
    (omega (arith, room, length-append low (y ∷ (l ∷ [])), length-append low (w ∷ (l ∷ [])), ap length a₂))
    ∙ ap (index_text p) (append-nil (low ++ (w ∷ []))))

abbrev path_in : Way → Path → Path
path_in Here d = d
path_in (By w) d = w

module _ (st : State) (ss : List Section) (f : Free) (r : Ready (desc st).k st ss f) (kw : Key (desc st) (key_in (desc st) st.work)) (a : Place) (way : Way)
    (A : At (texts st) st.session.flag ss f a way) (C : Covers (texts st) (key_in (desc st) st.work) a) (x : List ℕ) (q : a.leaf.records ≡ x ∷ [])
    (k : key (desc st).k x ≡ val (key_in (desc st) st.work))
    (l : look (texts st) st.session.flag (key_in (desc st) st.work) ≡ passed (Found way 0)) where
  open scene st ss use {p, v, flag, w}

  abbrev Result : Type 0
  Result =
      (ss' : List Section) × (f' : Free) × Gives st ss (dlete st) done 6
      (del (key (desc st).k) (val (key_in (desc st) st.work)) (records_in (leaves_in ss))) nothing ss' f'
      × Deleted (tree_in ss f) (tree_in ss' f')

  abbrev head : ℕ
  head = head_or f.chain 0

  good : good_params p ≡ true
  good = r.sound.kept.good

  hd : HoldsCells p (master_of p st.file) (text_of v) ss f
  hd = r.sound.kept.holds

  so : SectionOk p (sec a.index (olds a))
  so = sec-ok p a f _ _ A.held

  index_is : text_of v a.index ≡ index_text p (olds a)
  index_is = index-text p a f _ _ A.held

  head_in : head ≤ p.n
  head_in = go f.chain (free-ok v ss f _ hd).chained
    where
      go : (c : List ℕ) → All (λ b. (1 ≤ b) × (b ≤ p.n)) c → head_or c 0 ≤ p.n
      go [] a = omega arith
      go (c ∷ cs) a = a.0.1

  -- the way to the block is the one for the key, however it came to the buffer
  to-empty : empty_at v w way ≡ empty_deed v way (path_of a)
  to-empty = go way A.here-is A.by-is
    where
      go : (y : Way) → (is_here y ≡ true → v.current ≡ a.leaf.block) → (is_here y ≡ false → y ≡ By (path_of a)) → empty_at v w y ≡ empty_deed v y (path_of a)
      go Here e g = unfold empty_at in simp (C.path-is, eq-eqb a.leaf.block v.current (sym (e refl)))
      go (By z) e g = unfold empty_at in ap (empty_deed v (By z)) (ap (λ (m : Way). path_in m z) (g refl))

  deed : delete_deed v flag w ≡ passed (cond (eqb (length (olds a)) 1) (Both way (path_of a) head) (Empty way (path_of a) head))
  unfolding delete_deed delete_after empty_deed
  deed =
      let cnt : count (detail_shape v.desc) (text_at v way) ≡ 1 = ap (count (detail_shape p)) (A.text-is ∙ ap (table (detail_shape p) p.wpb) q) ∙ count-table (detail_shape p) p.wpb (x ∷ []) in
      simp (l, cnt, to-empty, head-is p st.file ss f hd.master-is hd.sized, upto-pass p.n head head_in, index_is, count_index p (olds a))

  -- the blocks written, and the rest of the call
  emptied : (d : Delete) (t : List ℕ) (b : ℕ) (op : List ℕ → List ℕ) → delete_deed v flag w ≡ passed d
      → delete_done v flag st.work d ≡ passed
      (emptying p st.work ((reached v flag way).moves ++ empty_moves p (path_of a) head t)
      (op (written p ((reached v flag way).moves ++ empty_moves p (path_of a) head t) (set st.file 1 b))))
      → (f' : Free) → head_or f'.chain 0 ≡ b → f'.lowest ≡ f.lowest → (ss' : List Section)
      → ((rest : List ℕ) → op (master_for p (tree_of a) f' ++ rest) ≡ master_for p ss' f' ++ rest)
      → length t ≡ p.wpb → HoldsCells p (master_for p ss' f') (wrotes (text_of v) ((a.leaf.block, link p f) ∷ ((a.index, t) ∷ []))) ss' f'
      → records_in (leaves_in ss') ≡ del (key p.k) (val w) (records_in (leaves_in ss)) → Grows p (tree_of a) ss' nothing
      → Deleted (tree_in (tree_of a) f) (tree_in ss' f') → Result
  unfolding emptying empty_moves cells_written cell_times weigh
  emptied d t b op ed ee f' eh el ss' law lt hold c grew freed =
      let ms : List Transfer = empty_moves p (path_of a) head t in
      let ws : List Cell = (a.leaf.block, link p f) ∷ ((a.index, t) ∷ []) in
      let i : (1 ≤ a.leaf.block) × (a.leaf.block ≤ p.n) = leaf-in p a f _ _ A.held in
      let j : (1 ≤ a.index) × (a.index ≤ p.n) = index_in p a f _ _ A.held in
      let fit : All (Fits p) ws = ((i.0, i.1, length-free_text p head good), ((j.0, j.1, lt), tt)) in
      let old : 1 ≤ cell_times a.leaf.block ws = omega (arith, is-self a.leaf.block) in
      let file₁ : List ℕ = set st.file 1 b in
      let e₁ : file₁ ≡ master_for p (tree_of a) f' ++ behind p st.file
      = ap (λ (z : List ℕ). set z 1 b) (file-is p st.file (tree_of a) f A.held.master-is A.held.sized)
      ∙ with-head p (tree_of a) f f' b (behind p st.file) eh el in
      let F : List ℕ = written p ((reached v flag way).moves ++ ms) file₁ in
      let F-is : F ≡ master_for p (tree_of a) f' ++ behind p F = same-file st ss f r.sound r.opened kw a way A ms ws refl fit old f' file₁ e₁
      (tree_of a) refl in (
        ss',
        f',
        subst (λ (z : Outcome). Gives st ss z done 6 (del (key p.k) (val w) (records_in (leaves_in ss))) nothing ss' f')
            (sym (dlete-by st ss f r d (emptying p st.work ((reached v flag way).moves ++ ms) (op F)) ed ee))
            (act-gives st ss f r.sound r.opened kw a way A ms ws refl fit old f' file₁ e₁ ss' (op F) (ap op F-is ∙ law (behind p F)) hold _ c
            (gone-ended st ss f r kw a way A C [] x [] q k) 0 (zeros p.wpb) (inl (refl, zeros-length p.wpb)) done ((reached v flag way).moves ++ ms) 6
            (rw (length-append (reached v flag way).moves ms) (omega (arith, way-few v flag way))) nothing
            (grow-from p ss (tree_of a) ss' nothing A.is grew)),
        subst (λ (z : List Section). Deleted (tree_in z f) (tree_in ss' f')) (sym A.is) freed,
      )

  -- another leaf follows in the section
  dlete-inner : (m : Leaf) (hs : List Leaf) → a.high ≡ m ∷ hs → Result
  unfolding delete_done empty_all empty_file
  dlete-inner m hs e =
      let n : length (olds a) ≡ length a.low + suc (suc (length hs))
      = length-append a.low (a.leaf ∷ a.high) ∙ ap (λ (z : List Leaf). length a.low + suc (length z)) e in
      let eo : olds a ≡ a.low ++ (a.leaf ∷ (m ∷ hs)) = ap (λ (z : List Leaf). a.low ++ (a.leaf ∷ z)) e in
      let ls : List Leaf = a.low ++ (m ∷ hs) in
      let f' : Free = push p a.leaf.block f in
      let oks : All (LeafFits p) (a.low ++ (a.leaf ∷ (m ∷ hs))) = subst (All (LeafFits p)) eo so.leaves in
      let ok : All (LeafFits p) ls = all_append (LeafFits p) a.low _ (all_left (LeafFits p) a.low _ oks) (all_right (LeafFits p) a.low _ oks).1 in
      let room : length (a.low ++ (a.leaf ∷ (m ∷ hs))) ≤ I p = subst (λ (z : List Leaf). length z ≤ I p) eo so.room in
      let held' : HoldsCells p (master_of p st.file) (text_of v) (a.before ++ (sec a.index (a.low ++ (a.leaf ∷ (m ∷ hs))) ∷ a.behind)) f
      = subst (λ (z : List Leaf). HoldsCells p (master_of p st.file) (text_of v) (a.before ++ (sec a.index z ∷ a.behind)) f) eo A.held in
      let t-is : entry_gone p (length a.low) (text_of v a.index) ≡ ix p ls
      = ap (entry_gone p (length a.low)) (index_is ∙ ap (index_text p) eo) ∙ gone-inner p a.low a.leaf m hs good oks room in
      let ss' : List Section = a.before ++ (sec a.index ls ∷ a.behind) in
      emptied (Empty way (path_of a) head) (ix p ls) a.leaf.block (λ z. z)
      (deed ∙ simp (ne_eqb (length (olds a)) 1 (λ z. omega (arith, n, z))))
      (ap (λ (t : List ℕ). passed (emptying p st.work ((reached v flag way).moves ++ empty_moves p (path_of a) head t)
      (written p ((reached v flag way).moves ++ empty_moves p (path_of a) head t) (set st.file 1 a.leaf.block)))) t-is)
      f' refl refl ss' (λ rest. ap (λ (z : List ℕ). z ++ rest) (same m hs e f'))
      (index-long p good ls ok (omega (arith, room, length-append a.low (m ∷ hs), length-append a.low (a.leaf ∷ (m ∷ hs)))))
      (drop-leaf p a.before a.index a.low a.leaf m hs a.behind f _ (text_of v) held')
      (ap (λ (z : List Leaf). records_in (leaves_in (a.before ++ (sec a.index (a.low ++ z) ∷ a.behind)))) (sym e)
      ∙ gone-contents st ss f r kw a way A C [] x [] q k [] refl)
      (grow-inner p good a m hs e) (detail-freed _ (one-freed a f ls (ap (λ (z : List Leaf). leaf_blocks (a.low ++ z)) (sym e))))
    where
      same : (m : Leaf) (hs : List Leaf) → a.high ≡ m ∷ hs → (f' : Free)
          → master_for p (tree_of a) f' ≡ master_for p (a.before ++ (sec a.index (a.low ++ (m ∷ hs)) ∷ a.behind)) f'
      same m hs e f' = unfold master_for master_entry in rw e (simp (map-append, last_bound-append))

  -- it is the section's last, and another is before it
  dlete-last : (low : List Leaf) (y : Leaf) → a.low ≡ low ++ (y ∷ []) → a.high ≡ [] → (s : Section) (cs : List Section) → a.behind ≡ s ∷ cs
      → 1 ≤ length s.leaves → Result
  unfolding delete_done empty_all empty_file
  dlete-last low y el eh s cs eb some =
      let eo : olds a ≡ low ++ (y ∷ (a.leaf ∷ [])) = ap₂ (λ (s t : List Leaf). s ++ (a.leaf ∷ t)) el eh ∙ append_assoc low (y ∷ []) (a.leaf ∷ []) in
      let j : length a.low ≡ length low + 1 = ap length el ∙ length-append low (y ∷ []) in
      let n : length (low ++ (y ∷ (a.leaf ∷ []))) ≡ suc (suc (length low)) = rw (length-append low (y ∷ (a.leaf ∷ []))) (omega arith) in
      let ls : List Leaf = low ++ (with_bound p y a.leaf.bound ∷ []) in
      let f' : Free = push p a.leaf.block f in
      let ok : SectionOk p (sec a.index (low ++ (y ∷ (a.leaf ∷ [])))) = subst (λ (z : List Leaf). SectionOk p (sec a.index z)) eo so in
      let two : LeafFits p y × (LeafFits p a.leaf × Unit {0}) = all_right (LeafFits p) low _ ok.leaves in
      let wok : LeafFits p (with_bound p y a.leaf.bound)
      = record { some = two.0.some; room = two.0.room; rows = two.0.rows; bound = two.1.0.bound; wide = two.1.0.wide } in
      let held' : HoldsCells p (master_of p st.file) (text_of v) (a.before ++ (sec a.index (low ++ (y ∷ (a.leaf ∷ []))) ∷ a.behind)) f
      = subst (λ (z : List Leaf). HoldsCells p (master_of p st.file) (text_of v) (a.before ++ (sec a.index z ∷ a.behind)) f) eo A.held in
      let t-is : entry_gone p (length a.low) (text_of v a.index) ≡ ix p ls
      = ap₂ (λ (i : ℕ) (t : List ℕ). entry_gone p i t) j (index_is ∙ ap (index_text p) eo) ∙ gone-last p low y a.leaf good ok.leaves ok.room in
      let ss' : List Section = a.before ++ (sec a.index ls ∷ a.behind) in
      emptied (Empty way (path_of a) head) (ix p ls) a.leaf.block (λ z. z)
      (deed ∙ simp (ne_eqb (length (olds a)) 1 (λ z. omega (arith, ap length eo, n, z))))
      (ap (λ (t : List ℕ). passed (emptying p st.work ((reached v flag way).moves ++ empty_moves p (path_of a) head t)
      (written p ((reached v flag way).moves ++ empty_moves p (path_of a) head t) (set st.file 1 a.leaf.block)))) t-is)
      f' refl refl ss'
      (λ rest. ap (λ (z : List ℕ). z ++ rest) (ap (λ (z : List Leaf). master_for p (a.before ++ (sec a.index z ∷ a.behind)) f') eo ∙ same low y f'))
      (index-long p good ls (all_append (LeafFits p) low _ (all_left (LeafFits p) low _ ok.leaves) (wok, tt))
      (omega (arith, ok.room, n, length-append low (with_bound p y a.leaf.bound ∷ []))))
      (drop-last p a.before a.index low y a.leaf a.behind f _ (text_of v) held')
      (contents-same low y el eh ∙ gone-contents st ss f r kw a way A C [] x [] q k [] refl)
      (grow_last p good a eh s cs eb some low y (with_bound p y a.leaf.bound) el refl)
      (detail-freed _ (one-freed a f ls (same_blocks low y a.leaf.bound a.low a.high el eh)))
    where
      same : (low : List Leaf) (y : Leaf) (f' : Free) → master_for p (a.before ++ (sec a.index (low ++ (y ∷ (a.leaf ∷ []))) ∷ a.behind)) f'
          ≡ master_for p (a.before ++ (sec a.index (low ++ (with_bound p y a.leaf.bound ∷ [])) ∷ a.behind)) f'
      same low y f' = unfold master_for master_entry in simp (map-append, last_bound-append)

      contents-same : (low : List Leaf) (y : Leaf) → a.low ≡ low ++ (y ∷ []) → a.high ≡ []
          → records_in (leaves_in (a.before ++ (sec a.index (low ++ (with_bound p y a.leaf.bound ∷ [])) ∷ a.behind)))
          ≡ records_in (leaves_in (tree_with a []))
      contents-same low y el eh = rw (el, eh) (simp (leaves_in-append, records-append, append_assoc))

  -- it is the section's only one: the section goes too, and another follows
  dlete-section : (jb : ℕ) (m : Leaf) (hs : List Leaf) (cs : List Section) → a.low ≡ [] → a.high ≡ [] → a.behind ≡ sec jb (m ∷ hs) ∷ cs → Result
  unfolding delete_done both_all both_file
  dlete-section jb m hs cs el eh eb =
      let eo : olds a ≡ a.leaf ∷ [] = ap₂ (λ (s t : List Leaf). s ++ (a.leaf ∷ t)) el eh in
      let f' : Free = push p a.index (push p a.leaf.block f) in
      let held₀ : HoldsCells p (master_of p st.file) (text_of v) (a.before ++ (sec a.index (a.leaf ∷ []) ∷ a.behind)) f
      = subst (λ (z : List Leaf). HoldsCells p (master_of p st.file) (text_of v) (a.before ++ (sec a.index z ∷ a.behind)) f) eo A.held in
      let held' : HoldsCells p (master_of p st.file) (text_of v) (a.before ++ (sec a.index (a.leaf ∷ []) ∷ (sec jb (m ∷ hs) ∷ cs))) f
      = subst (λ (z : List Section). HoldsCells p (master_of p st.file) (text_of v) (a.before ++ (sec a.index (a.leaf ∷ []) ∷ z)) f) eb held₀ in
      emptied (Both way (path_of a) head) (link p (push p a.leaf.block f)) a.index (removed (master_shape p) (length a.before))
      (deed ∙ simp (eq-eqb (length (olds a)) 1 (ap length eo))) refl f' refl refl (a.before ++ a.behind)
      (λ rest. master-removed p good a.before (sec a.index (olds a)) a.behind A.held.sized f' rest A.held.sections)
      (length-free_text p a.leaf.block good)
      (subst (λ (z : List Section). HoldsCells p (master_for p (a.before ++ z) f')
      (wrotes (text_of v) ((a.leaf.block, link p f) ∷ ((a.index, link p (push p a.leaf.block f)) ∷ []))) (a.before ++ z) f') (sym eb)
      (drop-section p a.before a.index a.leaf jb m hs cs f (master_of p st.file) (text_of v) held'))
      (contents-same el eh ∙ gone-contents st ss f r kw a way A C [] x [] q k [] refl)
      (grow-section p good a eh (sec jb (m ∷ hs)) cs eb (omega arith) el) (both-freed _ _ (two-freed a f el eh))
    where
      contents-same : a.low ≡ [] → a.high ≡ [] → records_in (leaves_in (a.before ++ a.behind)) ≡ records_in (leaves_in (tree_with a []))
      contents-same el eh = rw (el, eh) (simp leaves_in-append)

  -- the file's last block is not emptied: it holds the end record
  not_last : a.high ≡ [] → a.behind ≡ [] → ⊥
  not_last eh eb =
      let z : Ended p (records_in (leaves_in ss)) = r.sound.kept.ended in
      let e : records_in (leaves_in a.before ++ a.low) ++ (x ∷ []) ≡ z.front ++ end_record p ∷ []
      = sym (all eh eb) ∙ ap (λ (t : List Section). records_in (leaves_in t)) (sym A.is) ∙ z.is in
      omega (
        arith,
        k,
        kw.below,
        ap (key p.k) (last-same (records_in (leaves_in a.before ++ a.low)) x z.front (end_record p) e),
        end-key p
            (good-facts p good).key,
      )
    where
      all : a.high ≡ [] → a.behind ≡ [] → records_in (leaves_in (tree_of a)) ≡ records_in (leaves_in a.before ++ a.low) ++ (x ∷ [])
      all eh eb = rw (eh, eb) (simp (leaves_in-append, records-append, q, append_assoc))

  pub dlete-emptied : Result
  dlete-emptied = go a.high refl
    where
      some : (s : Section) (cs : List Section) → a.behind ≡ s ∷ cs → 1 ≤ length s.leaves
      some s cs eb = (subst (All (SectionOk p)) eb (all_right (SectionOk p) a.before _ A.held.sized).1).0.some

      section : a.low ≡ [] → a.high ≡ [] → (s : Section) (cs : List Section) → a.behind ≡ s ∷ cs → (ls : List Leaf) → s.leaves ≡ ls → Result
      section el eh s cs eb [] e = absurd (omega (arith, some s cs eb, ap length e))
      section el eh s cs eb (m ∷ hs) e = dlete-section s.block m hs cs el eh (eb ∙ ap (λ (z : List Leaf). sec s.block z ∷ cs) e)

      split : a.high ≡ [] → (zs : List Section) → a.behind ≡ zs → (a.low ≡ []) ⊎ ((xs : List Leaf) × (y : Leaf) × (a.low ≡ xs ++ y ∷ [])) → Result
      split eh [] eb w = absurd (not_last eh eb)
      split eh (s ∷ cs) eb (inl el) = section el eh s cs eb s.leaves refl
      split eh (s ∷ cs) eb (inr (xs, y, el)) = dlete-last xs y el eh s cs eb (some s cs eb)

      go : (hs : List Leaf) → a.high ≡ hs → Result
      go (m ∷ hs) e = dlete-inner m hs e
      go [] e = split e a.behind refl (from_end a.low)
