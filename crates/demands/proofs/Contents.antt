-- What each call makes of the contents, as operations on a sorted list.
use Prim.Native.Nat.{ℕ, suc, ◌≤◌, ◌<◌}
use mathlib.Core.Bool.{Bool, true, false, cond}
use mathlib.Core.Path.{◌≡◌, refl, sym, ap, ap₂, ◌∙◌}
use mathlib.Core.List.{List, [], ◌∷◌, ◌++◌, map}
use native.Mathlib.Omega.{arith}
use native.Mathlib.Decide.{dec_lt}
use lib.Dec.{ltb, eqb}
use borrow.Author.Tests.{lt-ltb, le-ltb}
use Rattle.numbers.specs.Numbers.{accepted, done}
use Rattle.words.specs.Words.{part}
use Rattle.words.specs.Keys.{val, key_lt}
use Rattle.words.proofs.Values.{key_lt-val}
use Rattle.drum.specs.declared.Description.{Description}
use Rattle.drum.proofs.Good.{good-facts}
use Rattle.layout.specs.Tree.{Section, Tree}
use Rattle.layout.specs.Tree as lay
use Rattle.layout.proofs.Unique.{one-tree}
use Rattle.rules.specs.State.{State, desc, key_in}
use Rattle.rules.specs.Requests.{Request, opening, closing, seeking, advancing, inserting, deleting, updating, extending, answer}
use Rattle.demands.specs.History.{Event, stored, removed, event_of}
use Rattle.demands.specs.Promises.{put_back}
use Rattle.demands.specs.Contents.{records_below, records_above, changed, Contains, CallContents}
use Rattle.demands.proofs.Lists.{All}
use Rattle.demands.proofs.Order.{Asc, asc-wide, below, from, below-above, from-above, upd, del}
use Rattle.demands.proofs.Trees.{leaves_in, records_in, key, reach}
use Rattle.demands.proofs.Holds.{Free, RowOk}
use Rattle.demands.proofs.Records.{key-long, rows_of, rows_ok, row_under}
use Rattle.demands.proofs.Sound.{Key, Sound}
use Rattle.demands.proofs.Stores.{asc-rows}
use Rattle.demands.proofs.History.{happened, happen}
use Rattle.demands.proofs.Stepped.{numbered, KeyOf, Stepped}
use Rattle.demands.proofs.Calls.{stepped}
use Rattle.demands.proofs.Opens.{flushed-stands}
use Rattle.demands.proofs.Promised.{after_open}

module _ (p : Description) (kr : p.k ≤ p.wpr) (w : List ℕ) (kw : Key p w) where
  abbrev K : List ℕ → ℕ
  K = key p.k

  row-over : (r : List ℕ) → RowOk p r → key_lt w (key_in p r) ≡ ltb (val w) (K r)
  unfolding key part
  row-over r ok = let l = key-long p kr r ok in key_lt-val w (key_in p r) kw.wide l.1 (kw.long ∙ sym l.0)

  pub below-is : (lo : ℕ) (rows : List (List ℕ)) (hi : ℕ) → Asc K lo rows hi → All (RowOk p) rows → records_below p w rows ≡ below K (val w) rows
  unfolding records_below below
  below-is lo [] hi h ok = refl
  below-is lo (r ∷ rows) hi h ok = go (dec_lt (K r) (val w)) (below-is (suc (K r)) rows hi h.1 ok.1)
    where
      go : Dec (K r < val w) → records_below p w rows ≡ below K (val w) rows → records_below p w (r ∷ rows) ≡ below K (val w) (r ∷ rows)
      go (yes l) e = rw (row_under p kr w kw r ok.0, lt-ltb (K r) (val w) l) (ap (λ (z : List (List ℕ)). r ∷ z) e)
      go (no n) e =
          rw (row_under p kr w kw r ok.0, le-ltb (K r) (val w) (omega arith))
          (e ∙ below-above K (val w) rows hi (asc-wide K (suc (K r)) (val w) rows hi hi h.1 (omega arith) (omega arith)))

  pub above-is : (lo : ℕ) (rows : List (List ℕ)) (hi : ℕ) → Asc K lo rows hi → All (RowOk p) rows → records_above p w rows ≡ from K (suc (val w)) rows
  unfolding records_above from
  above-is lo [] hi h ok = refl
  above-is lo (r ∷ rows) hi h ok = go (dec_lt (val w) (K r)) (above-is (suc (K r)) rows hi h.1 ok.1)
    where
      go : Dec (val w < K r) → records_above p w rows ≡ from K (suc (val w)) rows → records_above p w (r ∷ rows) ≡ from K (suc (val w)) (r ∷ rows)
      go (yes l) e =
          rw (row-over r ok.0, lt-ltb (val w) (K r) l, le-ltb (K r) (suc (val w)) (omega arith))
          (ap (λ (z : List (List ℕ)). r ∷ z) (e ∙ from-above K (suc (val w)) rows hi
          (asc-wide K (suc (K r)) (suc (val w)) rows hi hi h.1 (omega arith) (omega arith))))
      go (no n) e = rw (row-over r ok.0, le-ltb (val w) (K r) (omega arith), lt-ltb (K r) (suc (val w)) (omega arith)) e

module _ (p : Description) (kr : p.k ≤ p.wpr) (rows : List (List ℕ)) (hi : ℕ) (h : Asc (key p.k) 0 rows hi) (ok : All (RowOk p) rows) where
  event-is : (e : Event) → KeyOf p e → happened (key p.k) (map numbered (e ∷ [])) rows ≡ changed p (e ∷ []) rows
  unfolding happened happen numbered changed upd del key part
  event-is (stored r) k =
      ap₂ (λ (x y : List (List ℕ)). x ++ r ∷ y) (sym (below-is p kr (key_in p r) k 0 rows hi h ok)) (sym (above-is p kr (key_in p r) k 0 rows hi h ok))
  event-is (removed x) k = ap₂ (λ (y z : List (List ℕ)). y ++ z) (sym (below-is p kr x k 0 rows hi h ok)) (sym (above-is p kr x k 0 rows hi h ok))

  some_is : (t : Bool) (e : Event) → All (KeyOf p) (cond t (e ∷ []) [])
      → happened (key p.k) (map numbered (cond t (e ∷ []) [])) rows ≡ changed p (cond t (e ∷ []) []) rows
  some_is true e k = event-is e k.0
  some_is false e k = unfold happened changed in refl

  none_is_lem : happened (key p.k) (map numbered []) rows ≡ changed p [] rows
  unfolding happened changed
  none_is_lem = refl

pub changed-is : (st : State) (ss : List Section) (f : Free) → Sound st ss f → (q : Request) → All (KeyOf (desc st)) (event_of (desc st) q (answer st q))
    → happened (key (desc st).k) (map numbered (event_of (desc st) q (answer st q))) (records_in (leaves_in ss))
    ≡ changed (desc st) (event_of (desc st) q (answer st q)) (records_in (leaves_in ss))
unfolding event_of
changed-is st ss f h q ks = go q ks
  where
    p : Description
    p = desc st

    kr : p.k ≤ p.wpr
    kr = (good-facts p h.kept.good).key

    asc : Asc (key p.k) 0 (records_in (leaves_in ss)) (reach p.k 0 (leaves_in ss))
    asc = asc-rows p _ _ ss f h.kept.holds

    ok : All (RowOk p) (records_in (leaves_in ss))
    ok = rows_of p (leaves_in ss) (rows_ok p ss h.kept.holds.sized)

    go : (q : Request) → All (KeyOf p) (event_of p q (answer st q)) → happened (key p.k) (map numbered (event_of p q (answer st q)))
        (records_in (leaves_in ss)) ≡ changed p (event_of p q (answer st q)) (records_in (leaves_in ss))
    go (opening marks) k = none_is_lem p kr _ _ asc ok
    go closing k = none_is_lem p kr _ _ asc ok
    go (seeking w) k = none_is_lem p kr _ _ asc ok
    go (advancing w) k = none_is_lem p kr _ _ asc ok
    go (inserting w) k = some_is p kr _ _ asc ok (accepted (answer st (inserting w)).number) (stored w) k
    go (deleting w) k = some_is p kr _ _ asc ok (eqb (answer st (deleting w)).number done) (removed (key_in p w)) k
    go (updating w) k = some_is p kr _ _ asc ok (accepted (answer st (updating w)).number) (stored w) k
    go (extending w) k = some_is p kr _ _ asc ok (accepted (answer st (extending w)).number) (stored w) k

pub sound-contents : (st : State) (ss : List Section) (f : Free) → Sound st ss f → (rows : List (List ℕ)) → Contains st rows → (q : Request)
    → Contains (answer st q).after (changed (desc st) (event_of (desc st) q (answer st q)) rows)
sound-contents st ss f h rows c q =
    let p : Description = desc st in
    let t : Tree = record { sections = ss; chain = f.chain; lowest = f.lowest } in
    let is : records_in (leaves_in ss) ≡ rows
    = ap lay.contents (one-tree p (put_back st) t c.tree h.kept.good (flushed-stands st ss f h) c.held) ∙ c.are in
    let z : Stepped st ss f q = stepped st ss f h q in
    record {
      tree = record { sections = z.sections; chain = z.free.chain; lowest = z.free.lowest };
      held = flushed-stands (answer st q).after z.sections z.free z.sound;
      are = z.contents-is ∙ changed-is st ss f h q z.keys ∙ ap (changed p (event_of p q (answer st q))) is;
    }

pub call-contents : CallContents
call-contents =
    after_open (λ (st : State). (rows : List (List ℕ)) → Contains st rows → (q : Request) → Contains (answer st q).after
    (changed (desc st) (event_of (desc st) q (answer st q)) rows)) sound-contents
