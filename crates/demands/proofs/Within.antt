-- The session formula of a whole run, from what is known of each call; and the bound of one call.
use Prim.Native.Nat.{ℕ, ◌+◌, ◌*◌, ◌/◌, ◌≤◌}
use mathlib.Core.Bool.{Bool, true, false, cond, not}
use mathlib.Core.Logic.{inl, inr}
use borrow.Author.Tests.{eq-eqb, ne_eqb}
use mathlib.Core.Path.{◌≡◌, refl, sym, ap, ◌∙◌, subst}
use mathlib.Core.List.{List, [], ◌∷◌}
use native.Mathlib.Omega.{arith}
use Rattle.numbers.specs.Numbers.{done}
use Rattle.drum.specs.declared.Description.{Description}
use Rattle.drum.specs.Params.{D, I, FD, FI, good_params}
use Rattle.drum.proofs.Good.{good-facts}
use Rattle.rules.specs.State.{Session, State, Outcome, desc, lent}
use Rattle.rules.specs.Open.{create, open_file}
use Rattle.rules.specs.Requests.{Request, opening, closing, seeking, advancing, inserting, deleting, updating, extending, answer, left, tally}
use Rattle.demands.specs.Formula.{h_d, h_i, new_details, new_indexes, last_detail, starts_last, accepted_by, of_nsert, of_xtend, split_off, started_new}
use Rattle.demands.specs.Formula.{M, S, s, X, x, all_transfers, shares, Within, AfterCreate, CallWithin}
use Rattle.demands.specs.Nearest.{Nearest}
use Rattle.demands.proofs.Lists.{All, all_append}
use Rattle.layout.specs.Tree.{Leaf, Section}
use Rattle.demands.proofs.Trees.{leaves_in}
use Rattle.demands.proofs.Holds.{Free, LeafFits, SectionOk}
use Rattle.demands.proofs.Sound.{Sound}
use Rattle.demands.proofs.Potential.{last_or, paid-same, paid-halves, paid-first, paid-fills}
use Rattle.demands.proofs.Growth.{counts, sizes, Growth, grown, plus, nothing, Tally, Grows, tally-made}
use Rattle.demands.proofs.InUse.{details-are, indexes-are}
use Rattle.demands.proofs.LastBlock.{last_number, last-is, LastTells}
use Rattle.demands.proofs.Stepped.{Brought, Stepped}

-- ---- one call

-- what it brought can be seen from the call, its answer and the file's words
pub record Seen (st : State) (q : Request) (o : Outcome) (g : Growth) : Type 0 where
  pub records : of_nsert (accepted_by o) q + of_xtend (accepted_by o) q ≡ g.records
  pub splits : split_off (new_details st o) q st o.after ≡ g.splits
  pub index-splits : split_off (new_indexes st o) q st o.after ≡ g.index-splits
  pub starts : started_new (new_details st o) q st o.after ≡ g.starts
  pub index-starts : started_new (new_indexes st o) q st o.after ≡ g.index-starts

-- what XTEND has split off and started, as the last leaf tells
pub record Sorted (st : State) (o : Outcome) (g : Growth) : Type 0 where
  pub splits : cond (starts_last st o.after) 0 (new_details st o) ≡ g.splits
  pub index-splits : cond (starts_last st o.after) 0 (new_indexes st o) ≡ g.index-splits
  pub starts : cond (starts_last st o.after) (new_details st o) 0 ≡ g.starts
  pub index-starts : cond (starts_last st o.after) (new_indexes st o) 0 ≡ g.index-starts

pub sorted : (st : State) (o : Outcome) (g : Growth) → new_details st o ≡ g.splits + g.starts → new_indexes st o ≡ g.index-splits + g.index-starts
    → (w : List ℕ) (ss ss' : List Section) → last_detail st ≡ last_number (leaves_in ss) → last_detail o.after ≡ last_number (leaves_in ss')
    → LastTells (extending w) g ss ss' → Sorted st o g
unfolding starts_last
sorted st o g d i w ss ss' e e' (inl (u, v, n)) =
    let t : starts_last st o.after ≡ false = ap not (eq-eqb (last_detail o.after) (last_detail st) (e' ∙ n ∙ sym e)) in
    record {
      splits = ap (λ (b : Bool). cond b 0 (new_details st o)) t ∙ omega arith;
      index-splits = ap (λ (b : Bool). cond b 0 (new_indexes st o)) t ∙ omega arith;
      starts = ap (λ (b : Bool). cond b (new_details st o) 0) t ∙ omega arith;
      index-starts = ap (λ (b : Bool). cond b (new_indexes st o) 0) t ∙ omega arith;
    }
sorted st o g d i w ss ss' e e' (inr (u, v, n)) =
    let t : starts_last st o.after ≡ true = ap not (ne_eqb (last_detail o.after) (last_detail st) (λ q. n (sym e' ∙ q ∙ e))) in
    record {
      splits = ap (λ (b : Bool). cond b 0 (new_details st o)) t ∙ omega arith;
      index-splits = ap (λ (b : Bool). cond b 0 (new_indexes st o)) t ∙ omega arith;
      starts = ap (λ (b : Bool). cond b (new_details st o) 0) t ∙ omega arith;
      index-starts = ap (λ (b : Bool). cond b (new_indexes st o) 0) t ∙ omega arith;
    }

sees : (st : State) (q : Request) (o : Outcome) (g : Growth) → Brought q o g → new_details st o ≡ g.splits + g.starts
    → new_indexes st o ≡ g.index-splits + g.index-starts
    → (ss ss' : List Section) → last_detail st ≡ last_number (leaves_in ss) → last_detail o.after ≡ last_number (leaves_in ss') → LastTells q g ss ss'
    → Seen st q o g
unfolding of_nsert of_xtend split_off started_new
sees st (opening marks) o g b d i ss ss' e e' lt =
    subst (Seen st (opening marks) o) (sym b) (record { records = refl; splits = refl; index-splits = refl; starts = refl; index-starts = refl })
sees st closing o g b d i ss ss' e e' lt =
    subst (Seen st closing o) (sym b) (record { records = refl; splits = refl; index-splits = refl; starts = refl; index-starts = refl })
sees st (seeking w) o g b d i ss ss' e e' lt =
    subst (Seen st (seeking w) o) (sym b) (record { records = refl; splits = refl; index-splits = refl; starts = refl; index-starts = refl })
sees st (advancing w) o g b d i ss ss' e e' lt =
    subst (Seen st (advancing w) o) (sym b) (record { records = refl; splits = refl; index-splits = refl; starts = refl; index-starts = refl })
sees st (inserting w) o g b d i ss ss' e e' lt =
    record { records = omega arith; splits = omega arith; index-splits = omega arith; starts = omega arith; index-starts = omega arith }
sees st (deleting w) o g b d i ss ss' e e' lt =
    subst (Seen st (deleting w) o) (sym b) (record { records = refl; splits = refl; index-splits = refl; starts = refl; index-starts = refl })
sees st (updating w) o g b d i ss ss' e e' lt =
    subst (Seen st (updating w) o) (sym b) (record { records = refl; splits = refl; index-splits = refl; starts = refl; index-starts = refl })
sees st (extending w) o g b d i ss ss' e e' lt =
    let z : Sorted st o g = sorted st o g d i w ss ss' e e' lt in
    record {
      records = omega arith;
      splits = omega (arith, z.splits);
      index-splits = omega (arith, z.index-splits);
      starts = omega (arith, z.starts);
      index-starts = omega (arith, z.index-starts);
    }

module _ (st : State) (ss : List Section) (f : Free) (h : Sound st ss f) (q : Request) (z : Stepped st ss f q) where
  new-details : new_details st (answer st q) ≡ z.growth.splits + z.growth.starts
  unfolding new_details
  new-details = rw (details-are (answer st q).after z.sections z.free z.sound, details-are st ss f h) z.grows.details

  new-indexes : new_indexes st (answer st q) ≡ z.growth.index-splits + z.growth.index-starts
  unfolding new_indexes
  new-indexes = rw (indexes-are (answer st q).after z.sections z.free z.sound, indexes-are st ss f h) z.grows.indexes

  -- the bound of one call
  pub call-within : CallWithin st q
  call-within = rw (new-details, new-indexes) z.cost

  pub seen : Seen st q (answer st q) z.growth
  seen =
      sees st q (answer st q) z.growth z.brought new-details new-indexes ss z.sections (last-is st ss f h)
      (last-is (answer st q).after z.sections z.free z.sound) z.last

-- ---- a run of calls

-- what a run brings
abbrev pub brings : State → List Request → Growth
brings st qs = grown (M st qs) (S st qs) (X st qs) (s st qs) (x st qs)

pub tally-same : (p : Description) (ss : List Section) (g h : Growth) → g.records ≡ h.records → g.splits ≡ h.splits → g.starts ≡ h.starts
    → g.index-splits ≡ h.index-splits → g.index-starts ≡ h.index-starts → Tally p ss g → Tally p ss h
tally-same p ss g h a b c d e t = record {
  leaves = paid-same (D p) (FD p) _ _ _ _ _ _ _ _ refl a b c t.leaves;
  entries = paid-same (I p) (FI p) _ _ _ _ _ _ _ _ refl (omega arith) d e t.entries;
}

-- where a run of calls ends that began after g was brought
pub record Ran (p : Description) (st : State) (qs : List Request) (g : Growth) : Type 0 where
  pub sections : List Section
  pub free : Free
  pub sound : Sound (left st qs) sections free
  pub desc-is : desc (left st qs) ≡ p
  pub tally : Tally p sections (plus (brings st qs) g)
  pub cost : all_transfers st qs ≤ shares st qs + 4 * (S st qs + X st qs) + s st qs + x st qs

-- a call before the run
ran-more : (p : Description) (st : State) (ss : List Section) (f : Free) (g : Growth) (q : Request) (qs : List Request) → Sound st ss f
    → (z : Stepped st ss f q)
    → Ran p (answer st q).after qs (plus z.growth g) → Ran p st (q ∷ qs) g
unfolding M S X s x all_transfers shares tally left
ran-more p st ss f g q qs h z r =
    let o : Outcome = answer st q in
    let n : Growth = z.growth in
    let y : Seen st q o n = seen st ss f h q z in
    record {
      sections = r.sections;
      free = r.free;
      sound = r.sound;
      desc-is = r.desc-is;
      tally = tally-same p r.sections (plus (brings o.after qs) (plus n g)) (plus (brings st (q ∷ qs)) g)
          (omega (arith, y.records)) (omega (arith, y.splits)) (omega (arith, y.starts)) (omega (arith, y.index-splits)) (omega (arith, y.index-starts))
          r.tally;
      cost = omega (arith, z.cost, r.cost, y.splits, y.starts, y.index-splits, y.index-starts);
    }

-- the last leaf and the last section of a held tree are not empty
last_some : (d : ℕ) (xs : List ℕ) → 1 ≤ d → All (λ n. 1 ≤ n) xs → 1 ≤ last_or d xs
last_some d [] l h = l
last_some d (n ∷ xs) l h = last_some n xs h.0 h.1

counts_some : (p : Description) (ls : List Leaf) → All (LeafFits p) ls → All (λ n. 1 ≤ n) (counts ls)
unfolding counts
counts_some p [] h = tt
counts_some p (l ∷ ls) h = (h.0.some, counts_some p ls h.1)

sizes-some : (p : Description) (ss : List Section) → All (SectionOk p) ss → All (λ n. 1 ≤ n) (sizes ss)
unfolding sizes
sizes-some p [] h = tt
sizes-some p (z ∷ zs) h = (h.0.some, sizes-some p zs h.1)

leaves-ok : (p : Description) (ss : List Section) → All (SectionOk p) ss → All (LeafFits p) (leaves_in ss)
leaves-ok p [] h = tt
leaves-ok p (z ∷ zs) h = all_append (LeafFits p) z.leaves (leaves_in zs) h.0.leaves (leaves-ok p zs h.1)

-- what a run brought, from nothing on, is within the formula
pub ran-within : (st : State) (qs : List Request) → Ran (desc st) st qs nothing → Within st qs
unfolding h_d h_i
ran-within st qs r =
    let p : Description = desc st in
    let cs : List ℕ = counts (leaves_in r.sections) in
    let es : List ℕ = sizes r.sections in
    let ok : All (SectionOk p) r.sections = subst (λ (d : Description). All (SectionOk d) r.sections) r.desc-is r.sound.kept.holds.sized in
    let a : 1 ≤ last_or 1 cs = last_some 1 cs (omega arith) (counts_some p (leaves_in r.sections) (leaves-ok p r.sections ok)) in
    let b : 1 ≤ last_or 1 es = last_some 1 es (omega arith) (sizes-some p r.sections ok) in
    record {
      splits = omega (arith, paid-halves (D p) (FD p) cs _ _ _ r.tally.leaves);
      starts = omega (arith, paid-fills (D p) (FD p) cs _ _ _ r.tally.leaves a);
      index-splits = omega (arith, paid-halves (I p) (FI p) es _ _ _ r.tally.entries);
      index-starts = omega (arith, paid-fills (I p) (FI p) es _ _ _ r.tally.entries b);
      transfers = r.cost;
    }

pub ran-good : (st : State) (qs : List Request) → Ran (desc st) st qs nothing → good_params (desc st) ≡ true
ran-good st qs r = subst (λ (d : Description). good_params d ≡ true) r.desc-is r.sound.kept.good

-- and short of it by half a block
pub ran-nearest : (st : State) (qs : List Request) → Ran (desc st) st qs nothing → Nearest st qs
unfolding h_d h_i
ran-nearest st qs r =
    let p : Description = desc st in
    let g = good-facts p (ran-good st qs r) in
    let a : 1 ≤ S st qs → (D p + 1) / 2 * S st qs + D p / 2 ≤ M st qs
    = λ l. omega (arith, paid-first (D p) (FD p) _ _ _ _ r.tally.leaves (omega arith)) in
    let b : 1 ≤ s st qs → (I p + 1) / 2 * s st qs + I p / 2 ≤ S st qs + X st qs
    = λ l. omega (arith, paid-first (I p) (FI p) _ _ _ _ r.tally.entries (omega arith)) in
    record { never = λ l. omega (arith, a l); index-never = λ l. omega (arith, b l); splits = a; index-splits = b }

module _ (step : (st : State) (ss : List Section) (f : Free) → Sound st ss f → (q : Request) → Stepped st ss f q) where
  runs : (p : Description) (qs : List Request) (st : State) (ss : List Section) (f : Free) → Sound st ss f → desc st ≡ p → (g : Growth) → Tally p ss g
      → Ran p st qs g
  runs p [] st ss f h e g t = record {
    sections = ss;
    free = f;
    sound = unfold left in h;
    desc-is = unfold left in e;
    tally =
        tally-same p ss g (plus (brings st []) g) (unfold M tally in omega arith) (unfold S tally in omega arith) (unfold X tally in omega arith)
        (unfold s tally in omega arith) (unfold x tally in omega arith) t;
    cost = unfold all_transfers shares S X s x tally in omega arith;
  }
  runs p (q ∷ qs) st ss f h e g t =
      let z : Stepped st ss f q = step st ss f h q in
      let u : Grows p ss z.sections z.growth = subst (λ (r : Description). Grows r ss z.sections z.growth) e z.grows in
      ran-more p st ss f g q qs h z (runs p qs (answer st q).after z.sections z.free z.sound (z.desc-is ∙ e) (plus z.growth g) (u.tally g t))

  -- "From a CREATE and then an OPEN that both answer 0", which leave a sound state with one section of one leaf with the end record: what holds of
  -- a run that began with nothing brought
  pub within-create : ((session : Session) (f buffer work marks : List ℕ) → (create session.desc f).number ≡ done
      → (open_file (lent session (create session.desc f).file buffer work) marks).outcome.number ≡ done
      → (ss : List Section) × (free : Free) × Sound (open_file (lent session (create session.desc f).file buffer work) marks).outcome.after ss free
      × (counts (leaves_in ss) ≡ 1 ∷ []) × (sizes ss ≡ 1 ∷ []))
      → (P : State → List Request → Type 0) → ((st : State) (qs : List Request) → Ran (desc st) st qs nothing → P st qs) → AfterCreate P
  within-create made P by session f buffer work marks c o qs = go (made session f buffer work marks c o)
    where
      st : State
      st = (open_file (lent session (create session.desc f).file buffer work) marks).outcome.after

      go : (ss : List Section) × (free : Free) × Sound st ss free × (counts (leaves_in ss) ≡ 1 ∷ []) × (sizes ss ≡ 1 ∷ []) → P st qs
      go (ss, free, h, a, b) = by st qs (runs (desc st) qs st ss free h refl nothing (tally-made (desc st) h.kept.good ss a b))
