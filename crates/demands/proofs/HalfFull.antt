-- The bounds of a state of a file that NSERT alone has changed; and that they are kept of the file alone too, without its buffer.
use Prim.Native.Nat.{ℕ, ◌+◌, ◌*◌, ◌/◌, ◌≤◌}
use mathlib.Core.Bool.{Bool, true, false}
use mathlib.Core.Path.{◌≡◌, refl, sym, ap, ap₂, ◌∙◌, subst}
use mathlib.Core.List.{List}
use native.Mathlib.Omega.{arith}
use lib.ListN.{length}
use Rattle.drum.specs.declared.Description.{Description}
use Rattle.drum.specs.Params.{D, I, FD, FI}
use Rattle.drum.specs.Blocks.{written, sections}
use Rattle.layout.specs.Tree.{Section, Tree}
use Rattle.layout.specs.Tree as lay
use Rattle.layout.specs.Holds as laid
use Rattle.rules.specs.State.{State, desc, texts, at_rest}
use Rattle.rules.specs.Lookup.{flush_moves}
use Rattle.rules.specs.Close.{close, close_checks, close_done}
use Rattle.rules.specs.Requests.{Request, answer}
use Rattle.demands.specs.Formula.{h_d, h_i, details_under, detail_blocks, index_blocks}
use Rattle.demands.specs.Promises.{put_back}
use Rattle.demands.specs.Full.{HalfFull}
use Rattle.demands.proofs.Trees.{leaves_in, records_in}
use Rattle.demands.proofs.Holds.{Free}
use Rattle.demands.proofs.Sound.{Sound}
use Rattle.demands.proofs.Answers.{sizes-pass, open-pass}
use Rattle.demands.proofs.Reach.{flush-pass}
use Rattle.demands.proofs.Seek.{close-right}
use Rattle.demands.proofs.InUse.{details-are, indexes-are}
use Rattle.demands.proofs.Opens.{flushed-stands}
use Rattle.demands.proofs.Moves.{tree_in}
use Rattle.demands.proofs.Potential.{paid-first}
use Rattle.demands.proofs.Growth.{Growth, Tally}
use Rattle.demands.proofs.OnlyNserts.{Grew}
use Rattle.demands.proofs.Lost.{LeftBy, clean, same, put-back, left_by_lem}

-- one level: the first block and one for each split, each paid for by half a block of rows
pub half_full : (cap splits adds : ℕ) → (cap + 1) / 2 * splits + cap / 2 ≤ adds → (cap + 1) / 2 * (1 + splits) ≤ 1 + adds
half_full cap splits adds h = omega (arith, h)

-- both levels
pub grew-full : (st : State) (ss : List Section) (f : Free) (g : Growth) → Grew st ss f g → HalfFull st (length (records_in (leaves_in ss)))
unfolding h_d h_i
grew-full st ss f g k =
    let p : Description = desc st in
    let d : detail_blocks st ≡ 1 + g.splits = details-are st ss f k.sound ∙ k.leaves in
    let i : index_blocks st ≡ 1 + g.index-splits = indexes-are st ss f k.sound ∙ k.indexes in
    record {
      details = λ l. omega (
        arith,
        ap (λ (n : ℕ). h_d (desc st) * n) d,
        k.records,
        half_full (D p) g.splits g.records (paid-first (D p) (FD p) _ _ _ _ k.paid.leaves (omega (arith, l, d))),
      );
      indexes = λ l. omega (
        arith,
        ap (λ (n : ℕ). h_i (desc st) * n) i,
        d,
        half_full (I p) g.index-splits g.splits
            (omega (arith, paid-first (I p) (FI p) _ _ _ _ k.paid.entries (omega (arith, l, i)), k.none)),
      );
    }

-- ---- the file alone

-- a tree stands in the file alone, within both bounds
pub record Stands (st : State) : Type 0 where
  pub tree : Tree
  pub holds : laid.Holds (desc st) st.file tree
  pub full : HalfFull st (length (lay.contents tree))

-- the bounds are said of parameters and file alone
same-words : (st now : State) → desc now ≡ desc st → now.file ≡ st.file → (n : ℕ) → HalfFull st n → HalfFull now n
unfolding detail_blocks index_blocks
same-words st now d e n h =
    let b : detail_blocks now ≡ detail_blocks st = λ j. details_under (d j) (e j) (sections (e j)) in
    let i : index_blocks now ≡ index_blocks st = ap sections e in
    record {
      details = λ l. omega (arith, ap₂ (λ (p : Description) (m : ℕ). h_d p * m) d b, h.details (omega (arith, l, b)));
      indexes = λ l. omega (arith, ap₂ (λ (p : Description) (m : ℕ). h_i p * m) d i, b, h.indexes (omega (arith, l, i)));
    }

module _ (st : State) (ss : List Section) (f : Free) (h : Sound st ss f) where
  -- nothing waits in the buffer
  quiet : st.session.flag ≡ false → put_back st ≡ st.file
  unfolding flush_moves written
  quiet e = rw e

  closed-file : st.session.opened ≡ true → (close st).after.file ≡ put_back st
  unfolding close close_done close_checks at_rest
  closed-file o = simp (sizes-pass st ss f h, open-pass st o, flush-pass (texts st) st.session.flag ss f h.kept)

  -- a sound state whose file is this one with the buffer put back
  record Rested : Type 0 where
    at : State
    sound : Sound at ss f
    desc-is : desc at ≡ desc st
    file-is : at.file ≡ put_back st

  rested : Rested
  rested = go st.session.opened refl
    where
      go : (t : Bool) → st.session.opened ≡ t → Rested
      go true o = let g = close-right st ss f h o in record { at = (close st).after; sound = g.sound; desc-is = g.desc-is; file-is = closed-file o }
      go false o = record { at = st; sound = h; desc-is = refl; file-is = sym (quiet (h.resting o).1) }

-- the file of a state is another's with the buffer put back
from-put-back : (st : State) (ss : List Section) (f : Free) (g : Growth) → Grew st ss f g → (now : State) → desc now ≡ desc st → now.file ≡ put_back st
    → Stands now
from-put-back st ss f g k now d e =
    let r = rested st ss f k.sound in
    let at : Grew r.at ss f g
    = record {
      sound = r.sound;
      paid = subst (λ (p : Description). Tally p ss g) (sym r.desc-is) k.paid;
      leaves = k.leaves;
      indexes = k.indexes;
      records = k.records;
      none = k.none;
    } in
    record {
      tree = tree_in ss f;
      holds = subst (λ (p : Description). laid.Holds p now.file (tree_in ss f)) (sym d)
          (subst (λ (x : List ℕ). laid.Holds (desc st) x (tree_in ss f)) (sym e) (flushed-stands st ss f k.sound));
      full = same-words r.at now (d ∙ sym r.desc-is) (e ∙ sym r.file-is) _ (grew-full r.at ss f g at);
    }

-- every such call keeps that
pub stands_on : (st : State) (ss : List Section) (f : Free) (g : Growth) → Grew st ss f g → (q : Request) (ss' : List Section) (f' : Free) (g' : Growth)
    → Grew (answer st q).after ss' f' g' → desc (answer st q).after ≡ desc st → Stands st → Stands (answer st q).after
stands_on st ss f g k q ss' f' g' k' d s = go (left_by_lem st q)
  where
    go : LeftBy st (answer st q).after → Stands (answer st q).after
    go (clean e) = from-put-back (answer st q).after ss' f' g' k' (answer st q).after refl (sym (quiet (answer st q).after ss' f' k'.sound e))
    go (same e) = record {
      tree = s.tree;
      holds = subst (λ (p : Description). laid.Holds p (answer st q).after.file s.tree) (sym d)
          (subst (λ (x : List ℕ). laid.Holds (desc st) x s.tree) (sym e) s.holds);
      full = same-words st (answer st q).after d e _ s.full;
    }
    go (put-back e) = from-put-back st ss f g k (answer st q).after d e
