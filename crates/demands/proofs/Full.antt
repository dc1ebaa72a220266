-- A file that NSERT alone has changed since CREATE: the blocks in use against the records.
use Prim.Native.Nat.{ℕ}
use mathlib.Core.Bool.{true}
use mathlib.Core.Path.{◌≡◌, refl, sym, ap, ◌∙◌, subst}
use mathlib.Core.List.{List}
use native.Mathlib.Omega.{arith}
use lib.ListN.{length}
use Rattle.numbers.specs.Numbers.{done}
use Rattle.drum.specs.declared.Description.{Description}
use Rattle.drum.specs.Params.{good_params}
use Rattle.layout.specs.Tree.{Section, Tree, fresh_tree, fresh_section, fresh_leaf}
use Rattle.layout.specs.Tree as lay
use Rattle.layout.specs.Holds as laid
use Rattle.layout.proofs.Unique.{one-tree}
use Rattle.rules.specs.State.{Session, State, desc, lent}
use Rattle.rules.specs.Open.{create, open_file}
use Rattle.rules.specs.Requests.{Request, left}
use Rattle.demands.specs.Promises.{put_back}
use Rattle.demands.specs.History.{events}
use Rattle.demands.specs.Contents.{changed, Contains}
use Rattle.demands.specs.Full.{OnlyNserts, HalfFull, HowFull, HowFullAlone, NsertsCounted, Run, started, ended}
use Rattle.demands.proofs.Trees.{leaves_in, records_in}
use Rattle.demands.proofs.Holds.{Free}
use Rattle.demands.proofs.InUse.{details-are, indexes-are}
use Rattle.demands.proofs.Reader.{free_of}
use Rattle.demands.proofs.Opens.{Opens, flushed-stands}
use Rattle.demands.proofs.Moves.{tree_in}
use Rattle.demands.proofs.Growth.{counts, sizes, Growth, nothing, tally-made}
use Rattle.demands.proofs.Reuse.{opened-file}
use Rattle.demands.proofs.Demands.{opens, opened-desc, made-fresh, fresh-counts}
use Rattle.demands.proofs.Whole.{run-contents}
use Rattle.demands.proofs.OnlyNserts.{Grew, Ended, run-grew}
use Rattle.demands.proofs.HalfFull.{grew-full, Stands, stands_on}

fresh-lengths : (p : Description) → (length (leaves_in (fresh_tree p).sections) ≡ 1) × (length (fresh_tree p).sections ≡ 1)
    × (length (records_in (leaves_in (fresh_tree p).sections)) ≡ 1)
unfolding fresh_tree fresh_section fresh_leaf
fresh-lengths p = (refl, refl, refl)

module _ (session : Session) (f buffer work marks : List ℕ) (c : (create session.desc f).number ≡ done)
    (o : (open_file (lent session (create session.desc f).file buffer work) marks).outcome.number ≡ done) where
  abbrev made : State
  made = lent session (create session.desc f).file buffer work

  abbrev st : State
  st = (open_file made marks).outcome.after

  z : Opens made marks
  z = opens made marks o

  is : z.tree ≡ fresh_tree session.desc
  unfolding z
  is = made-fresh session f buffer work marks c o

  -- a file just made
  grew-made : Grew st z.tree.sections (free_of session.desc z.tree) nothing
  grew-made =
      let w = fresh-lengths session.desc in
      let u = fresh-counts session.desc in
      record {
        sound = z.sound;
        paid = tally-made (desc st) z.sound.kept.good z.tree.sections (ap (λ (t : Tree). counts (leaves_in t.sections)) is ∙ u.0)
            (ap (λ (t : Tree). sizes t.sections) is ∙ u.1);
        leaves = ap (λ (t : Tree). length (leaves_in t.sections)) is ∙ w.0;
        indexes = ap (λ (t : Tree). length t.sections) is ∙ w.1;
        records = ap (λ (t : Tree). length (records_in (leaves_in t.sections))) is ∙ w.2;
        none = refl;
      }

  stands-made : Stands st
  stands-made = record {
    tree = z.tree;
    holds = subst (λ (p : Description). laid.Holds p st.file z.tree) (sym (opened-desc made marks o))
        (subst (λ (x : List ℕ). laid.Holds (desc made) x z.tree) (sym (opened-file made marks)) z.stands);
    full = grew-full st z.tree.sections (free_of session.desc z.tree) nothing grew-made;
  }

  -- after any such calls
  pub ran : (qs : List Request) → OnlyNserts (open_file (lent session (create session.desc f).file buffer work) marks).outcome.after qs
      → Ended Stands (open_file (lent session (create session.desc f).file buffer work) marks).outcome.after qs nothing
  ran qs only = run-grew Stands stands_on qs st z.tree.sections (free_of session.desc z.tree) nothing grew-made stands-made only

-- the records of a sound state are those of its tree
rows_are : (st : State) (ss : List Section) (f : Free) {g : Growth} → Grew st ss f g → (rows : List (List ℕ)) → Contains st rows
    → length (records_in (leaves_in ss)) ≡ length rows
rows_are st ss f k rows c =
    let same : tree_in ss f ≡ c.tree
    = one-tree (desc st) (put_back st) _ c.tree k.sound.kept.good (flushed-stands st ss f k.sound) c.held in
    ap (λ (t : Tree). length (lay.contents t)) same ∙ ap length c.are

pub nserts-counted : NsertsCounted
nserts-counted session f buffer work marks c o qs only rows k =
    let r = ran session f buffer work marks c o qs only in
    let g = r.grew in
    let now : State = left (open_file (lent session (create session.desc f).file buffer work) marks).outcome.after qs in
    record {
      details = omega (arith, details-are now r.sections r.free g.sound, g.leaves);
      indexes = omega (arith, indexes-are now r.sections r.free g.sound, g.indexes);
      records-are = omega (arith, rows_are now r.sections r.free g rows k, g.records);
    }

pub how-full : HowFull
how-full session f buffer work marks c o qs only rows k =
    let r = ran session f buffer work marks c o qs only in
    let now : State = left (open_file (lent session (create session.desc f).file buffer work) marks).outcome.after qs in
    subst (HalfFull now) (rows_are now r.sections r.free r.grew rows k) (grew-full now r.sections r.free _ r.grew)

pub how-full-alone : HowFullAlone
how-full-alone session f buffer work marks c o qs only t held =
    let r = ran session f buffer work marks c o qs only in
    let s = r.kept in
    let now : State = left (open_file (lent session (create session.desc f).file buffer work) marks).outcome.after qs in
    let one : s.tree ≡ t = one-tree (desc now) now.file s.tree t r.grew.sound.kept.good s.holds held in
    subst (λ (y : Tree). HalfFull now (length (lay.contents y))) one s.full

-- the records that stand after any run: what its calls made of the end record
pub run-rows : (r : Run) → Contains (ended r) (changed r.session.desc (events (started r) r.calls) (lay.contents (fresh_tree r.session.desc)))
run-rows r =
    let made : State = lent r.session (create r.session.desc r.file).file r.buffer r.work in
    let p : Description = r.session.desc in
    let z : Opens made r.marks = opens made r.marks r.opens in
    let good : good_params p ≡ true = subst (λ (d : Description). good_params d ≡ true) (opened-desc made r.marks r.opens) z.sound.kept.good in
    let w = run-contents made r.marks r.opens in
    let same : w.0 ≡ fresh_tree p
    = one-tree p made.file w.0 z.tree good w.1 z.stands
    ∙ made-fresh r.session r.file r.buffer r.work r.marks r.creates r.opens in
    subst (λ (t : Tree). Contains (ended r) (changed p (events (started r) r.calls) (lay.contents t))) same (w.2 r.calls)
