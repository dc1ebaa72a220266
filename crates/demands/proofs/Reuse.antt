-- Freed blocks are used again: what each call makes of the blocks, and word 2 over a run.
use Prim.Native.Nat.{ℕ, ◌+◌, ◌-◌, ◌≤◌}
use mathlib.Core.Bool.{Bool, true, false}
use mathlib.Core.Logic.{◌⊎◌, inl, inr}
use mathlib.Core.Path.{◌≡◌, refl, sym, ap, ◌∙◌, subst}
use mathlib.Core.List.{List, [], ◌∷◌}
use native.Mathlib.Omega.{arith}
use native.Mathlib.Decide.{dec_le}
use lib.Dec.{eqb}
use lib.ListN.{length, length-drop}
use borrow.Author.Tests.{le-leb, lt-leb}
use Rattle.numbers.specs.Numbers.{done}
use Rattle.numbers.specs.Checked.{Checked, passed, refused}
use Rattle.drum.specs.declared.Description.{Description}
use Rattle.drum.specs.Blocks.{lowest_unused}
use Rattle.layout.specs.Inspect.{layout_marks}
use Rattle.layout.specs.Tree.{Section, Tree, fresh_tree}
use Rattle.layout.specs.Holds as laid
use Rattle.layout.proofs.Unique.{one-tree}
use Rattle.rules.specs.State.{State, desc, lent}
use Rattle.rules.specs.Open.{create, open_file, open_checks, open_done, open_layout}
use Rattle.rules.specs.Requests.{Request, opening, closing, seeking, advancing, inserting, deleting, updating, extending, answer, left}
use Rattle.demands.specs.Formula.{detail_blocks, index_blocks, new_details, new_indexes}
use Rattle.demands.specs.Promises.{put_back}
use Rattle.demands.specs.Reuse.{Takes, Frees, some_left, detail-freed, both-freed, Deletes, Reuses, CallReuse, larger, peak, LowestIsPeak, MadeIsPeak}
use Rattle.demands.proofs.Holds.{Free}
use Rattle.demands.proofs.Entries.{lowest-is}
use Rattle.demands.proofs.Sound.{Sound}
use Rattle.demands.proofs.InUse.{details-are, indexes-are}
use Rattle.demands.proofs.AllBlocks.{below-lowest}
use Rattle.demands.proofs.Opens.{flushed-stands}
use Rattle.demands.proofs.Moves.{tree_in}
use Rattle.demands.proofs.Stepped.{Stepped}
use Rattle.demands.proofs.Calls.{stepped}
use Rattle.demands.proofs.Growing.{more-details, more-indexes}
use Rattle.demands.proofs.Demands.{opens, made-fresh}
use Rattle.demands.proofs.Promised.{after_open}

-- ---- one call

module _ (st : State) (ss : List Section) (f : Free) (h : Sound st ss f) (q : Request) (z : Stepped st ss f q) where
  abbrev before : Tree
  before = tree_in ss f

  abbrev after : Tree
  after = tree_in z.sections z.free

  -- as many new blocks as the words of the file tell
  by-words : Takes (z.growth.splits + z.growth.starts) (z.growth.index-splits + z.growth.index-starts) before after
      → Takes (new_details st (answer st q)) (new_indexes st (answer st q)) before after
  by-words t =
      let d = more-details st ss f h (answer st q) z.sections z.free z.sound z.growth z.grows in
      let x = more-indexes st ss f h (answer st q) z.sections z.free z.sound z.growth z.grows in
      subst (λ (n : ℕ). Takes n (new_indexes st (answer st q)) before after) (sym d)
      (subst (λ (n : ℕ). Takes (z.growth.splits + z.growth.starts) n before after) (sym x) t)

reuses : (st : State) (ss : List Section) (f : Free) → Sound st ss f → (q : Request) → (z : Stepped st ss f q)
    → Reuses st q (tree_in ss f) (tree_in z.sections z.free)
reuses st ss f h (opening marks) z = z.moved
reuses st ss f h closing z = z.moved
reuses st ss f h (seeking w) z = z.moved
reuses st ss f h (advancing w) z = z.moved
reuses st ss f h (inserting w) z = by-words st ss f h (inserting w) z z.moved
reuses st ss f h (deleting w) z = z.moved
reuses st ss f h (updating w) z = z.moved
reuses st ss f h (extending w) z = by-words st ss f h (extending w) z z.moved

pub call-reuse : CallReuse
call-reuse =
    after_open (λ (st : State). (q : Request) (t t' : Tree) → laid.Holds (desc st) (put_back st) t → laid.Holds (desc st) (put_back (answer st q).after) t'
    → Reuses st q t t') λ st ss f h q t t' ht ht'.
    let z : Stepped st ss f q = stepped st ss f h q in
    let is : tree_in ss f ≡ t = one-tree (desc st) (put_back st) _ t h.kept.good (flushed-stands st ss f h) ht in
    let there : laid.Holds (desc st) (put_back (answer st q).after) (tree_in z.sections z.free)
    = subst (λ (p : Description). laid.Holds p (put_back (answer st q).after) (tree_in z.sections z.free)) z.desc-is
    (flushed-stands (answer st q).after z.sections z.free z.sound) in
    let is' : tree_in z.sections z.free ≡ t' = one-tree (desc st) (put_back (answer st q).after) _ t' h.kept.good there ht' in
    subst (λ (x : Tree). Reuses st q x t') is (subst (Reuses st q (tree_in ss f)) is' (reuses st ss f h q z))

-- ---- a run

larger-right : (a b : ℕ) → a ≤ b → larger a b ≡ b
unfolding larger
larger-right a b l = simp (le-leb a b l)

larger-left : (a b : ℕ) → b ≤ a → larger a b ≡ a
larger-left a b l = go (dec_le a b)
  where
    go : Dec (a ≤ b) → larger a b ≡ a
    go (yes e) = larger-right a b e ∙ omega arith
    go (no n) = unfold larger in simp (lt-leb a b (omega arith))

pub larger-least : (a b c : ℕ) → a ≤ c → b ≤ c → larger a b ≤ c
larger-least a b c l m = go (dec_le a b)
  where
    go : Dec (a ≤ b) → larger a b ≤ c
    go (yes e) = omega (arith, larger-right a b e)
    go (no n) = omega (arith, larger-left a b (omega arith))

-- it is no less than either
pub larger-first : (a b : ℕ) → a ≤ larger a b
larger-first a b = go (dec_le a b)
  where
    go : Dec (a ≤ b) → a ≤ larger a b
    go (yes e) = omega (arith, larger-right a b e)
    go (no n) = omega (arith, larger-left a b (omega arith))

pub larger-second : (a b : ℕ) → b ≤ larger a b
larger-second a b = go (dec_le a b)
  where
    go : Dec (a ≤ b) → b ≤ larger a b
    go (yes e) = omega (arith, larger-right a b e)
    go (no n) = omega (arith, larger-left a b (omega arith))

-- word 2 stays, or the chain is empty then
abbrev Rises : Tree → Tree → Type 0
Rises t t' = (t.lowest ≤ t'.lowest) × ((t'.lowest ≡ t.lowest) ⊎ (length t'.chain ≡ 0))

takes-rise : (d x : ℕ) (t t' : Tree) → Takes d x t t' → Rises t t'
takes-rise d x t t' h = go (dec_le (d + x) (length t.chain))
  where
    go : Dec (d + x ≤ length t.chain) → Rises t t'
    go (yes l) = (omega (arith, h.lowest), inl (omega (arith, h.lowest)))
    go (no n) = (omega (arith, h.lowest), inr (omega (arith, ap length h.chain, length-drop (d + x) t.chain)))

frees-rise : (ds xs : List ℕ) (t t' : Tree) → Frees ds xs t t' → Rises t t'
frees-rise ds xs t t' h = (omega (arith, h.lowest), inl h.lowest)

deletes-rise : (b : Bool) (t t' : Tree) → Deletes b t t' → Rises t t'
deletes-rise true t t' (some_left h) = frees-rise [] [] t t' h
deletes-rise true t t' (detail-freed b h) = frees-rise (b ∷ []) [] t t' h
deletes-rise true t t' (both-freed b x h) = frees-rise (b ∷ []) (x ∷ []) t t' h
deletes-rise false t t' h = frees-rise [] [] t t' h

rises : (st : State) (q : Request) (t t' : Tree) → Reuses st q t t' → Rises t t'
rises st (opening marks) t t' h = frees-rise [] [] t t' h
rises st closing t t' h = frees-rise [] [] t t' h
rises st (seeking w) t t' h = frees-rise [] [] t t' h
rises st (advancing w) t t' h = frees-rise [] [] t t' h
rises st (inserting w) t t' h = takes-rise _ _ t t' h
rises st (deleting w) t t' h = deletes-rise (eqb (answer st (deleting w)).number done) t t' h
rises st (updating w) t t' h = frees-rise [] [] t t' h
rises st (extending w) t t' h = takes-rise _ _ t t' h

abbrev in_use : State → ℕ
in_use st = detail_blocks st + index_blocks st

-- every block below word 2 is in use or on the chain
below-words : (st : State) (ss : List Section) (f : Free) → Sound st ss f → f.lowest ≡ 1 + in_use st + length f.chain
below-words st ss f h = omega (arith, below-lowest (desc st) _ _ ss f h.kept.holds, details-are st ss f h, indexes-are st ss f h)

peak-most : (st : State) (qs : List Request) → in_use st ≤ peak st qs
unfolding peak
peak-most st [] = omega arith
peak-most st (q ∷ qs) = go (dec_le (in_use st) (peak (answer st q).after qs))
  where
    go : Dec (in_use st ≤ peak (answer st q).after qs) → in_use st ≤ larger (in_use st) (peak (answer st q).after qs)
    go (yes l) = omega (arith, larger-right (in_use st) (peak (answer st q).after qs) l)
    go (no n) = omega (arith, larger-left (in_use st) (peak (answer st q).after qs) (omega arith))

-- one call, then the rest of a run: low and low' are word 2, u and u' the blocks in use, c' those on the chain, m the peak of the rest
peak-step : (low low' u u' c' m : ℕ) → 1 + u ≤ low → low ≤ low' → (low' ≡ low) ⊎ (c' ≡ 0) → low' ≡ 1 + u' + c' → u' ≤ m
    → larger low' (1 + m) ≡ larger low (1 + larger u m)
peak-step low low' u u' c' m l r s e v = go (dec_le (1 + m) low)
  where
    same : (low' ≡ low) ⊎ (c' ≡ 0) → 1 + m ≤ low → low' ≡ low
    same (inl k) w = k
    same (inr k) w = omega arith

    under : (low' ≡ low) ⊎ (c' ≡ 0) → low ≤ 1 + m → low' ≤ 1 + m
    under (inl k) w = omega arith
    under (inr k) w = omega arith

    go : Dec (1 + m ≤ low) → larger low' (1 + m) ≡ larger low (1 + larger u m)
    go (yes w) =
        larger-left low' (1 + m) (omega arith) ∙ same s w ∙ sym
        (larger-left low (1 + larger u m) (omega (arith, larger-least u m (low - 1) (omega arith) (omega arith))))
    go (no w) =
        let k : larger u m ≡ m = larger-right u m (omega arith) in
        larger-right low' (1 + m) (under s (omega arith)) ∙ sym (larger-right low (1 + m) (omega arith)) ∙ ap (λ (n : ℕ). larger low (1 + n)) (sym k)

peak-run : (qs : List Request) (st : State) (ss : List Section) (f : Free) → Sound st ss f
    → lowest_unused (left st qs).file ≡ larger f.lowest (1 + peak st qs)
unfolding left peak
peak-run [] st ss f h =
    lowest-is (desc st) st.file ss f h.kept.holds.master-is h.kept.holds.sized ∙ sym
    (larger-left f.lowest (1 + in_use st) (omega (arith, below-words st ss f h)))
peak-run (q ∷ qs) st ss f h =
    let z : Stepped st ss f q = stepped st ss f h q in
    let st' : State = (answer st q).after in
    let r : Rises (tree_in ss f) (tree_in z.sections z.free) = rises st q _ _ (reuses st ss f h q z) in
    peak-run qs st' z.sections z.free z.sound
    ∙ peak-step f.lowest z.free.lowest (in_use st) (in_use st') (length z.free.chain) (peak st' qs) (omega (arith, below-words st ss f h)) r.0
    r.1 (below-words st' z.sections z.free z.sound) (peak-most st' qs)

-- OPEN leaves the file as it is
pub opened-file : (st : State) (marks : List ℕ) → (open_file st marks).outcome.after.file ≡ st.file
unfolding open_file open_done open_layout
opened-file st marks = go (open_checks st marks)
  where
    tested : (c : Checked (List ℕ)) → (open_layout st c).outcome.after.file ≡ st.file
    tested (refused n) = refl
    tested (passed m) = refl

    go : (c : Checked Bool) → (open_done st marks c).outcome.after.file ≡ st.file
    go (refused n) = refl
    go (passed t) = tested (layout_marks (desc st) st.file)

opened-lowest : (st : State) (marks : List ℕ) (o : (open_file st marks).outcome.number ≡ done) → (opens st marks o).tree.lowest ≡ lowest_unused st.file
opened-lowest st marks o =
    let k = (opens st marks o).sound.kept in
    sym (lowest-is _ _ _ _ k.holds.master-is k.holds.sized) ∙ ap lowest_unused (opened-file st marks)

pub lowest-is-peak : LowestIsPeak
lowest-is-peak st marks o qs =
    let opened : State = (open_file st marks).outcome.after in
    peak-run qs opened _ _ (opens st marks o).sound ∙ ap (λ (n : ℕ). larger n (1 + peak opened qs)) (opened-lowest st marks o)

pub made-is-peak : MadeIsPeak
made-is-peak session f buffer work marks c o qs =
    let made : State = lent session (create session.desc f).file buffer work in
    let opened : State = (open_file made marks).outcome.after in
    let none : length (opens made marks o).tree.chain ≡ 0
    = unfold fresh_tree in ap (λ (t : Tree). length t.chain) (made-fresh session f buffer work marks c o) in
    lowest-is-peak made marks o qs
    ∙ larger-right (lowest_unused made.file) (1 + peak opened qs)
    (omega (arith, opened-lowest made marks o, below-words opened _ _ (opens made marks o).sound, none, peak-most opened qs))
