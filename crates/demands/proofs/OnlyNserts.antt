-- Runs in which no DLETE and no XTEND is accepted: each split puts one block in use, each NSERT accepted one record more, and nothing goes.
use Prim.Native.Nat.{ℕ, suc, ◌+◌, ◌<◌}
use mathlib.Core.Bool.{Bool, true, false, cond}
use mathlib.Core.Path.{◌≡◌, refl, sym, ap, ◌∙◌, subst}
use mathlib.Core.List.{List, [], ◌∷◌, ◌++◌, map}
use native.Mathlib.Omega.{arith}
use lib.Dec.{eqb}
use lib.ListN.{length, length-append, length-drop}
use Rattle.numbers.specs.Numbers.{accepted, done}
use Rattle.words.specs.Keys.{val}
use Rattle.drum.specs.declared.Description.{Description}
use Rattle.layout.specs.Tree.{Section}
use Rattle.rules.specs.State.{State, Outcome, desc, key_in}
use Rattle.rules.specs.Requests.{Request, opening, closing, seeking, advancing, inserting, deleting, updating, extending, answer, left, tally}
use Rattle.demands.specs.Formula.{accepted_by, M, S, s, X, x}
use Rattle.demands.specs.History.{Event, stored, removed, event_of}
use Rattle.demands.specs.Reuse.{Takes, KeepsBlocks, Deletes}
use Rattle.demands.specs.Full.{other_change, OnlyNserts}
use Rattle.demands.proofs.Scene.{scene}
use Rattle.demands.proofs.Lists.{All}
use Rattle.demands.proofs.Order.{Asc, below, from, hit, upd}
use Rattle.demands.proofs.History.{cut, happen, happened}
use Rattle.demands.proofs.Trees.{leaves_in, records_in, reach}
use Rattle.demands.proofs.Holds.{Free}
use Rattle.demands.proofs.Sound.{Key, Sound}
use Rattle.demands.proofs.Answers.{work-key}
use Rattle.demands.proofs.Standing.{ordered}
use Rattle.demands.proofs.AllBlocks.{below-lowest}
use Rattle.demands.proofs.Moves.{tree_in}
use Rattle.demands.proofs.Growth.{Growth, plus, nothing, Tally}
use Rattle.demands.proofs.Within.{brings, tally-same, seen}
use Rattle.demands.proofs.Stepped.{numbered, KeyOf, Stepped}
use Rattle.demands.proofs.Calls.{not_done, stepped}
use Rattle.demands.proofs.Story.{nsert-fresh, updat-there}

-- a record put in where so many had its key
pub length-upd : {A : Type 0} (K : A → ℕ) (r : A) (top : ℕ) (xs : List A) → Asc K 0 xs top → K r < top
    → length (upd K r xs) + length (hit K (K r) xs) ≡ suc (length xs)
unfolding upd
length-upd K r top xs h u =
    let x : ℕ = K r in
    omega (
      arith,
      ap length (cut K x top xs h u),
      length-append (below K x xs) (hit K x xs ++ from K (suc x) xs),
      length-append (hit K x xs) (from K (suc x) xs),
      length-append (below K x xs) (r ∷ from K (suc x) xs),
    )

not-accepted : (o : Outcome) → accepted_by o ≡ 0 → accepted o.number ≡ false
unfolding accepted_by
not-accepted o = go (accepted o.number)
  where
    go : (t : Bool) → cond {A = ℕ} t 1 0 ≡ 0 → t ≡ false
    go true e = absurd (omega arith)
    go false e = refl

-- ---- one call

module _ (st : State) (ss : List Section) (f : Free) (h : Sound st ss f) where
  open scene st ss use {p, K, rows}

  -- a call that brought so much left so many blocks and records more, and started none
  pub record Adds (q : Request) (z : Stepped st ss f q) : Type 0 where
    pub details : length (leaves_in z.sections) ≡ length (leaves_in ss) + z.growth.splits
    pub indexes : length z.sections ≡ length ss + z.growth.index-splits
    pub records : length (records_in (leaves_in z.sections)) ≡ length (records_in (leaves_in ss)) + z.growth.records
    pub none : z.growth.starts ≡ 0

  module _ (q : Request) (z : Stepped st ss f q) where
    was : f.lowest ≡ 1 + (length (leaves_in ss) + length ss) + length f.chain
    was = below-lowest (desc st) _ _ ss f h.kept.holds

    now : z.free.lowest ≡ 1 + (length (leaves_in z.sections) + length z.sections) + length z.free.chain
    now = below-lowest (desc (answer st q).after) _ _ z.sections z.free z.sound.kept.holds

    -- as many blocks more as were taken
    taking : Takes (z.growth.splits + z.growth.starts) (z.growth.index-splits + z.growth.index-starts) (tree_in ss f) (tree_in z.sections z.free)
        → z.growth.starts ≡ 0 → z.growth.index-starts ≡ 0
        → length (records_in (leaves_in z.sections)) ≡ length (records_in (leaves_in ss)) + z.growth.records → Adds q z
    taking t a b e =
        let c = ap length t.chain
        ∙ length-drop ((z.growth.splits + z.growth.starts) + (z.growth.index-splits + z.growth.index-starts)) f.chain in
        record {
          details = omega (arith, was, now, c, t.lowest, z.grows.details, z.grows.indexes);
          indexes = omega (arith, was, now, c, t.lowest, z.grows.details, z.grows.indexes);
          records = e;
          none = a;
        }

    -- as many as there were
    keeping : KeepsBlocks (tree_in ss f) (tree_in z.sections z.free) → z.growth ≡ nothing
        → length (records_in (leaves_in z.sections)) ≡ length (records_in (leaves_in ss)) → Adds q z
    keeping k g e =
        let c = ap length k.chain in
        let d = ap (λ (y : Growth). y.splits) g in
        let a = ap (λ (y : Growth). y.starts) g in
        let i = ap (λ (y : Growth). y.index-splits) g in
        let j = ap (λ (y : Growth). y.index-starts) g in
        record {
          details = omega (arith, was, now, c, k.lowest, z.grows.details, z.grows.indexes, d, a, i, j);
          indexes = omega (arith, was, now, c, k.lowest, z.grows.details, z.grows.indexes, d, a, i, j);
          records = omega (arith, e, ap (λ (y : Growth). y.records) g);
          none = a;
        }

    -- no record came or went; one came where n had its key
    same-records : event_of p q (answer st q) ≡ [] → length (records_in (leaves_in z.sections)) ≡ length rows
    unfolding happened
    same-records e = ap length (z.contents-is ∙ ap (λ (es : List Event). happened K (map numbered es) rows) e)

    put-records : (w : List ℕ) (n : ℕ) → event_of p q (answer st q) ≡ stored w ∷ [] → length (hit K (val (key_in p w)) rows) ≡ n
        → length (records_in (leaves_in z.sections)) + n ≡ suc (length rows)
    unfolding happened happen numbered
    put-records w n e m =
        let k : Key p (key_in p w) = (subst (All (KeyOf p)) e z.keys).0 in
        let c : records_in (leaves_in z.sections) ≡ upd K w rows = z.contents-is ∙ ap (λ (es : List Event). happened K (map numbered es) rows) e in
        let under : K w < reach p.k 0 (leaves_in ss) = omega (arith, work-key p w, k.below, h.kept.holds.top) in
        let same : hit K (K w) rows ≡ hit K (val (key_in p w)) rows = ap (λ (x : ℕ). hit K x rows) (work-key p w) in
        omega (arith, ap length c, length-upd K w _ rows (ordered st ss f h).asc under, ap length same, m)

  nserted : (w : List ℕ) (z : Stepped st ss f (inserting w)) → length (records_in (leaves_in z.sections)) ≡ length rows + z.growth.records
  unfolding event_of accepted_by
  nserted w z = go (accepted (answer st (inserting w)).number) refl
    where
      go : (t : Bool) → accepted (answer st (inserting w)).number ≡ t → length (records_in (leaves_in z.sections)) ≡ length rows + z.growth.records
      go true e =
          omega (
            arith,
            put-records (inserting w) z w 0 (ap (λ (t : Bool). cond t (stored w ∷ []) []) e) (ap length (nsert-fresh st ss f h w e)),
            z.brought.0,
            ap (λ (t : Bool). cond {A = ℕ} t 1 0) e,
          )
      go false e =
          omega (
            arith,
            same-records (inserting w) z (ap (λ (t : Bool). cond t (stored w ∷ []) []) e),
            z.brought.0,
            ap (λ (t : Bool). cond {A = ℕ} t 1 0) e,
          )

  updated : (w : List ℕ) (z : Stepped st ss f (updating w)) → length (records_in (leaves_in z.sections)) ≡ length rows
  unfolding event_of
  updated w z = go (accepted (answer st (updating w)).number) refl
    where
      go : (t : Bool) → accepted (answer st (updating w)).number ≡ t → length (records_in (leaves_in z.sections)) ≡ length rows
      go true e =
          omega (
            arith,
            put-records (updating w) z w 1 (ap (λ (t : Bool). cond t (stored w ∷ []) []) e) (ap length (updat-there st ss f h w e).1),
          )
      go false e = same-records (updating w) z (ap (λ (t : Bool). cond t (stored w ∷ []) []) e)

  adds : (q : Request) (z : Stepped st ss f q) → other_change q (answer st q) ≡ 0 → Adds q z
  unfolding other_change event_of
  adds (opening marks) z o = keeping (opening marks) z z.moved z.brought (same-records (opening marks) z refl)
  adds closing z o = keeping closing z z.moved z.brought (same-records closing z refl)
  adds (seeking w) z o = keeping (seeking w) z z.moved z.brought (same-records (seeking w) z refl)
  adds (advancing w) z o = keeping (advancing w) z z.moved z.brought (same-records (advancing w) z refl)
  adds (inserting w) z o = taking (inserting w) z z.moved z.brought.1 z.brought.2 (nserted w z)
  adds (deleting w) z o =
      let e : eqb (answer st (deleting w)).number done ≡ false = not_done (answer st (deleting w)).number (not-accepted (answer st (deleting w)) o) in
      keeping (deleting w) z (subst (λ (b : Bool). Deletes b (tree_in ss f) (tree_in z.sections z.free)) e z.moved) z.brought
      (same-records (deleting w) z (ap (λ (t : Bool). cond t (removed (key_in p w) ∷ []) []) e))
  adds (updating w) z o = keeping (updating w) z z.moved z.brought (updated w z)
  adds (extending w) z o =
      let e : accepted (answer st (extending w)).number ≡ false = not-accepted (answer st (extending w)) o in
      taking (extending w) z z.moved (omega (arith, z.brought.1, o)) (omega (arith, z.brought.2, o))
      (omega (arith, same-records (extending w) z (ap (λ (t : Bool). cond t (stored w ∷ []) []) e), z.brought.0, o))

-- ---- a run

-- a sound state of a file that NSERT alone has changed, where g was brought since CREATE: it has paid for the tree, is what the tree has beyond that
-- of a file just made, and no block was started
pub record Grew (st : State) (ss : List Section) (f : Free) (g : Growth) : Type 0 where
  pub sound : Sound st ss f
  pub paid : Tally (desc st) ss g
  pub leaves : length (leaves_in ss) ≡ 1 + g.splits
  pub indexes : length ss ≡ 1 + g.index-splits
  pub records : length (records_in (leaves_in ss)) ≡ 1 + g.records
  pub none : g.starts ≡ 0

-- the same brought, told in another way
grew-as : (st : State) (ss : List Section) (f : Free) (g h : Growth) → g.records ≡ h.records → g.splits ≡ h.splits → g.starts ≡ h.starts
    → g.index-splits ≡ h.index-splits → g.index-starts ≡ h.index-starts → Grew st ss f g → Grew st ss f h
grew-as st ss f g h a b c d e k = record {
  sound = k.sound;
  paid = tally-same (desc st) ss g h a b c d e k.paid;
  leaves = omega (arith, k.leaves);
  indexes = omega (arith, k.indexes);
  records = omega (arith, k.records);
  none = omega (arith, k.none);
}

-- one such call
grew-on : (st : State) (ss : List Section) (f : Free) (g : Growth) (k : Grew st ss f g) (q : Request) (z : Stepped st ss f q)
    → other_change q (answer st q) ≡ 0 → Grew (answer st q).after z.sections z.free (plus z.growth g)
grew-on st ss f g k q z o =
    let a : Adds st ss f k.sound q z = adds st ss f k.sound q z o in
    record {
      sound = z.sound;
      paid = subst (λ (p : Description). Tally p z.sections (plus z.growth g)) (sym z.desc-is) (z.grows.tally g k.paid);
      leaves = omega (arith, a.details, k.leaves);
      indexes = omega (arith, a.indexes, k.indexes);
      records = omega (arith, a.records, k.records);
      none = omega (arith, a.none, k.none);
    }

-- what a run of such calls leaves, with a P that each of them keeps
pub record Ended (P : State → Type 0) (st : State) (qs : List Request) (g : Growth) : Type 0 where
  pub sections : List Section
  pub free : Free
  pub grew : Grew (left st qs) sections free (plus (brings st qs) g)
  pub desc-is : desc (left st qs) ≡ desc st
  pub kept : P (left st qs)

module _ (P : State → Type 0)
    (step : (st : State) (ss : List Section) (f : Free) (g : Growth) → Grew st ss f g → (q : Request) (ss' : List Section) (f' : Free) (g' : Growth)
    → Grew (answer st q).after ss' f' g' → desc (answer st q).after ≡ desc st → P st → P (answer st q).after) where
  pub run-grew : (qs : List Request) (st : State) (ss : List Section) (f : Free) (g : Growth) → Grew st ss f g → P st → OnlyNserts st qs → Ended P st qs g
  unfolding left tally M S s X x
  run-grew [] st ss f g k p o = record {
    sections = ss;
    free = f;
    grew = grew-as st ss f g (plus (brings st []) g) (omega arith) (omega arith) (omega arith) (omega arith) (omega arith) k;
    desc-is = refl;
    kept = p;
  }
  run-grew (q ∷ qs) st ss f g k p o =
      let z : Stepped st ss f q = stepped st ss f k.sound q in
      let now : State = (answer st q).after in
      let g' : Growth = plus z.growth g in
      let k' : Grew now z.sections z.free g' = grew-on st ss f g k q z (omega arith) in
      let y = seen st ss f k.sound q z in
      let r : Ended P now qs g'
      = run-grew qs now z.sections z.free g' k' (step st ss f g k q z.sections z.free g' k' z.desc-is p) (omega arith) in
      record {
        sections = r.sections;
        free = r.free;
        grew = grew-as (left now qs) r.sections r.free (plus (brings now qs) g') (plus (brings st (q ∷ qs)) g) (omega (arith, y.records))
            (omega (arith, y.splits)) (omega (arith, y.starts)) (omega (arith, y.index-splits)) (omega (arith, y.index-starts)) r.grew;
        desc-is = r.desc-is ∙ z.desc-is;
        kept = r.kept;
      }
