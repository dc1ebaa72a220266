-- NSERT on a sound open state, all its ways together.
use Prim.Native.Nat.{ℕ, suc, ◌+◌, ◌-◌, ◌≤◌, ◌<◌}
use mathlib.Core.Logic.{◌⊎◌, inl, inr}
use mathlib.Core.Path.{◌≡◌, refl, ap, ◌∙◌}
use mathlib.Core.List.{List, [], ◌∷◌, ◌++◌}
use native.Mathlib.Omega.{arith}
use native.Mathlib.Decide.{dec_lt, ℕ_discrete}
use lib.ListN.{length, take, drop, get_or}
use lib.Seq.{split_at, length-take-le}
use Rattle.numbers.specs.Numbers.{not_found, no_room}
use Rattle.numbers.specs.Checked.{passed}
use Rattle.words.specs.Keys.{val}
use Rattle.table.specs.Splits.{low_count}
use Rattle.drum.specs.Params.{D, I}
use Rattle.drum.proofs.Good.{good-facts}
use Rattle.rules.specs.declared.Way.TheVariants.{By}
use Rattle.rules.specs.declared.Look.TheVariants.{Missing}
use Rattle.rules.specs.State.{State, Outcome, desc, texts, key_in}
use Rattle.rules.specs.Lookup.{look}
use Rattle.rules.specs.declared.Insert.{Insert}
use Rattle.rules.specs.declared.Insert.TheVariants.{Stop}
use Rattle.rules.specs.declared.Insert.TheVariants as insert-is
use Rattle.rules.specs.declared.Path.{Path}
use Rattle.rules.specs.declared.Taken.{Taken}
use Rattle.rules.specs.Nsert.{half_count, insert_deed}
use Rattle.rules.specs.NsertDone.{nsert}
use Rattle.demands.specs.Counted.{detail_splits, index_splits}
use Rattle.demands.proofs.Scene.{scene}
use Rattle.demands.proofs.Order.{below, hit, ins}
use Rattle.layout.specs.Tree.{Leaf, Section}
use Rattle.demands.proofs.Trees.{leaves_in, records_in, key}
use Rattle.demands.proofs.Holds.{Free}
use Rattle.demands.proofs.Steps.{lower, upper, sec, with_rows}
use Rattle.demands.proofs.Places.{Place, tree_of, olds, leaf-ok, sec-ok, tree_with}
use Rattle.demands.proofs.Texts.{half}
use Rattle.demands.proofs.Paths.{path_of}
use Rattle.demands.proofs.Records.{length-ins}
use Rattle.demands.proofs.Sound.{Key}
use Rattle.demands.proofs.Answers.{Ready, key_of, work-ok, Gives, gives_as}
use Rattle.demands.proofs.Reach.{At}
use Rattle.demands.proofs.Lookup.{Covers, Looked, absent, there, looks}
use Rattle.demands.proofs.Frees.{next, free_count, taken, stored_with}
use Rattle.demands.proofs.NsertTexts.{news-length}
use Rattle.demands.proofs.Nsert.{stop-nsert, duplicate-deed, room-deed, nsert-room}
use Rattle.demands.proofs.NsertDeed.{none-deed, none-both-deed, few-deed, sections-deed, split-deed, both-deed}
use Rattle.demands.proofs.NsertSplit.{nsert-split, nsert-both}
use Rattle.demands.proofs.Growth.{Growth, nothing, a_record, a_split, both_split}

-- a is the place of the block that the record belongs in
pub record Belongs (st : State) (ss : List Section) (a : Place) : Type 0 where
  pub is : ss ≡ tree_of a
  pub covers : Covers (texts st) (key_in (desc st) st.work) a

-- how many records of that block stand before it
abbrev pub before : State → Place → ℕ
before st a = length (below (key (desc st).k) (key (desc st).k st.work) a.leaf.records)

-- its records with the new one; the two blocks that they make where it was full; the tree where its index block was full too
abbrev pub rows_with : State → Place → List (List ℕ)
rows_with st a = ins (key (desc st).k) st.work a.leaf.records

abbrev pub halves : State → Free → Place → List Leaf
halves st f a =
    let rs = rows_with st a in
    let j = low_count (D (desc st)) - 1 in
    lower (desc st) a.leaf (take j rs) (get_or rs j []) ∷ (upper (desc st) a.leaf (next f) (drop (suc j) rs) ∷ [])

abbrev pub two_sections : State → Free → Place → List Section
two_sections st f a =
    let ns = a.low ++ (halves st f a ++ a.high) in
    let i = low_count (I (desc st)) - 1 in
    a.before ++ (sec a.index (take i ns ++ (get_or ns i a.leaf ∷ [])) ∷ (sec (next (taken f)) (drop (suc i) ns) ∷ a.behind))

-- what NSERT comes to, with the number it answers, and the tree then; so many transfers more where XTEND stores as NSERT does, in the call o
pub data Stores (o : Outcome) (more : ℕ) (st : State) (ss : List Section) (f : Free) : Type 0 where
  duplicate : (x : List ℕ) → hit (key (desc st).k) (val (key_in (desc st) st.work)) (records_in (leaves_in ss)) ≡ x ∷ []
      → Gives st ss o not_found (3 + more) (records_in (leaves_in ss)) nothing ss f → Stores o more st ss f
  room : hit (key (desc st).k) (val (key_in (desc st) st.work)) (records_in (leaves_in ss)) ≡ [] → (a : Place) → Belongs st ss a
      → length a.leaf.records < D (desc st)
      → Gives st ss o (stored_with (desc st) (length a.leaf.records + 1) f) (3 + more)
      (ins (key (desc st).k) st.work (records_in (leaves_in ss))) a_record
      (tree_with a (with_rows (desc st) a.leaf (rows_with st a) ∷ [])) f → Stores o more st ss f
  split : hit (key (desc st).k) (val (key_in (desc st) st.work)) (records_in (leaves_in ss)) ≡ [] → (a : Place) → Belongs st ss a
      → length a.leaf.records ≡ D (desc st) → length (olds a) < I (desc st)
      → 1 ≤ free_count f → (i : ℕ) → i ≡ before st a → Gives st ss o (stored_with (desc st) (half_count (D (desc st)) i) (taken f)) (7 + more)
      (ins (key (desc st).k) st.work (records_in (leaves_in ss))) a_split (tree_with a (halves st f a)) (taken f) → Stores o more st ss f
  both : hit (key (desc st).k) (val (key_in (desc st) st.work)) (records_in (leaves_in ss)) ≡ [] → (a : Place) → Belongs st ss a
      → length a.leaf.records ≡ D (desc st) → length (olds a) ≡ I (desc st)
      → 2 ≤ free_count f → length ss < (desc st).control → (i : ℕ) → i ≡ before st a
      → Gives st ss o (stored_with (desc st) (half_count (D (desc st)) i) (taken (taken f))) (8 + more)
      (ins (key (desc st).k) st.work (records_in (leaves_in ss))) both_split (two_sections st f a) (taken (taken f)) → Stores o more st ss f
  no_room_lem : hit (key (desc st).k) (val (key_in (desc st) st.work)) (records_in (leaves_in ss)) ≡ [] → (a : Place) → Belongs st ss a
      → length a.leaf.records ≡ D (desc st)
      → (free_count f ≡ 0) ⊎ ((length (olds a) ≡ I (desc st)) × ((free_count f ≡ 1) ⊎ ((desc st).control ≤ length ss)))
      → Gives st ss o no_room (3 + more) (records_in (leaves_in ss)) nothing ss f → Stores o more st ss f

-- NSERT itself
abbrev pub Nserted : State → List Section → Free → Type 0
Nserted st ss f = Stores (nsert st) 0 st ss f

module _ {o : Outcome} {more : ℕ} {st : State} {ss : List Section} {f : Free} where
  -- what each way brings
  abbrev pub brought_by : Stores o more st ss f → Growth
  brought_by (duplicate x e g) = nothing
  brought_by (room e a b l g) = a_record
  brought_by (split e a b l m s i q g) = a_split
  brought_by (both e a b l m s c i q g) = both_split
  brought_by (no_room_lem e a b l w g) = nothing

-- what it comes to, with the plan: it splits as many blocks as that says
pub record NsertCame (st : State) (ss : List Section) (f : Free) : Type 0 where
  pub way : Nserted st ss f
  pub plan : Insert
  pub plan-is : insert_deed (texts st) st.session.flag (key_in (desc st) st.work) ≡ passed plan
  pub splits : (brought_by way).splits ≡ detail_splits plan
  pub index-splits : (brought_by way).index-splits ≡ index_splits plan

-- a plan of a key that is not there: on a path, and its new blocks are the next free ones
pub data PlanFits (f : Free) : Insert → Type 0 where
  stops : (w : Path) (n : ℕ) → PlanFits f (insert-is.Stop (By w) n)
  rooms : (w : Path) (i n : ℕ) → PlanFits f (insert-is.Room w i n)
  splits : (w : Path) (i : ℕ) (d : Taken) (n : ℕ) → d.block ≡ next f → 1 ≤ free_count f → PlanFits f (insert-is.Split w i d n)
  boths : (w : Path) (i b : ℕ) (d : Taken) (n : ℕ) → b ≡ next f → d.block ≡ next (taken f) → 2 ≤ free_count f → PlanFits f (insert-is.Both w i b d n)

-- what NSERT of a key that is not there comes to
pub record NewCame (st : State) (ss : List Section) (f : Free) : Type 0 where
  pub came : NsertCame st ss f
  pub fits : PlanFits f came.plan

came : {st : State} {ss : List Section} {f : Free} {plan : Insert} (way : Nserted st ss f)
    → insert_deed (texts st) st.session.flag (key_in (desc st) st.work) ≡ passed plan
    → (brought_by way).splits ≡ detail_splits plan → (brought_by way).index-splits ≡ index_splits plan → NsertCame st ss f
came {st} {ss} {f} {plan} way e a b = record { way = way; plan = plan; plan-is = e; splits = a; index-splits = b }

new : {st : State} {ss : List Section} {f : Free} {plan : Insert} (way : Nserted st ss f)
    → insert_deed (texts st) st.session.flag (key_in (desc st) st.work) ≡ passed plan
    → (brought_by way).splits ≡ detail_splits plan → (brought_by way).index-splits ≡ index_splits plan → PlanFits f plan → NewCame st ss f
unfolding came
new {st} {ss} {f} {plan} way e a b fits = record { came = came way e a b; fits = fits }

module _ (st : State) (ss : List Section) (f : Free) (r : Ready (desc st).wpr st ss f) (kw : Key (desc st) (key_in (desc st) st.work)) where
  open scene st ss use {p, w}

  module _ (e : hit (key (desc st).k) (val (key_in (desc st) st.work)) (records_in (leaves_in ss)) ≡ []) (a : Place)
      (A : At (texts st) st.session.flag ss f a (By (path_of a)))
      (C : Covers (texts st) (key_in (desc st) st.work) a) (none : hit (key (desc st).k) (val (key_in (desc st) st.work)) a.leaf.records ≡ [])
      (l : look (texts st) st.session.flag (key_in (desc st) st.work) ≡ passed (Missing (path_of a))) where
    here : Belongs st ss a
    here = record { is = A.is; covers = C }

    sec-room : length (olds a) ≤ I p
    sec-room = (sec-ok p a f _ _ A.held).room

    d2 : 2 ≤ D p
    d2 = (good-facts p r.sound.kept.good).two_records

    i2 : 2 ≤ I p
    i2 = (good-facts p r.sound.kept.good).two-entries

    ends : length a.leaf.records ≡ D p → (free_count f ≡ 0) ⊎ ((length (olds a) ≡ I p) × ((free_count f ≡ 1) ⊎ (p.control ≤ length ss)))
        → insert_deed (texts st) st.session.flag w ≡ passed (Stop (By (path_of a)) no_room) → NewCame st ss f
    unfolding detail_splits index_splits
    ends full why deed = new (no_room_lem e a here full why (stop-nsert st ss f r a (By (path_of a)) A no_room deed)) deed refl refl (stops _ _)

    -- the block is full
    full-ways : length a.leaf.records ≡ D p → NewCame st ss f
    unfolding detail_splits index_splits
    full-ways full = go (dec_lt (length (olds a)) (I p)) (ℕ_discrete (free_count f) 0) (ℕ_discrete (free_count f) 1) (dec_lt (length ss) p.control)
      where
        rs : List (List ℕ)
        rs = ins (key p.k) st.work a.leaf.records

        j : ℕ
        j = low_count (D p) - 1

        jl : (j < length rs) × (suc j ≡ low_count (D p))
        jl = (omega (arith, length-ins (key p.k) st.work a.leaf.records, full, half (D p) d2), omega (arith, half (D p) d2))

        cut : rs ≡ take j rs ++ get_or rs j [] ∷ drop (suc j) rs
        cut = split_at rs j [] jl.0

        lx : suc (length (take j rs)) ≡ low_count (D p)
        lx = ap suc (length-take-le j rs (omega (arith, jl.0))) ∙ jl.1

        go : Dec (length (olds a) < I p) → Dec (free_count f ≡ 0) → Dec (free_count f ≡ 1) → Dec (length ss < p.control) → NewCame st ss f
        go (yes less) (yes z) d₁ d₂ = ends full (inl z) (none-deed st ss f r kw a A C none l full less z)
        go (yes less) (no z) d₁ d₂ =
            let some : 1 ≤ free_count f = omega arith in
            new
            (split e a here full less some (before st a) refl
            (nsert-split st ss f r kw a A C none l full (take j rs) (get_or rs j []) (drop (suc j) rs) cut lx less some))
            (split-deed st ss f r kw a A C none l full less some) refl refl (splits _ _ _ _ refl some)
        go (no m) (yes z) d₁ d₂ = ends full (inl z) (none-both-deed st ss f r kw a A C none l full (omega (arith, sec-room)) z)
        go (no m) (no z) (yes o) d₂ =
            let most : length (olds a) ≡ I p = omega (arith, sec-room) in
            ends full (inr (most, inl o)) (few-deed st ss f r kw a A C none l full most o)
        go (no m) (no z) (no o) (no c) =
            let most : length (olds a) ≡ I p = omega (arith, sec-room) in
            let top : p.control ≤ length ss = omega arith in
            ends full (inr (most, inr top)) (sections-deed st ss f r kw a A C none l full most (omega arith) top)
        go (no m) (no z) (no o) (yes c) =
            let most : length (olds a) ≡ I p = omega (arith, sec-room) in
            let two : 2 ≤ free_count f = omega arith in
            new
            (both e a here full most two c (before st a) refl
            (nsert-both st ss f r kw a A C none l full (take j rs) (get_or rs j []) (drop (suc j) rs) cut lx most
            (take i ns) (get_or ns i a.leaf) (drop (suc i) ns) (split_at ns i a.leaf il) li two c))
            (both-deed st ss f r kw a A C none l full most two c) (refl {a = 1}) (refl {a = 1}) (boths _ _ _ _ _ refl refl two)
          where
            ns : List Leaf
            ns = a.low ++ (lower p a.leaf (take j rs) (get_or rs j []) ∷ (upper p a.leaf (next f) (drop (suc j) rs) ∷ a.high))

            i : ℕ
            i = low_count (I p) - 1

            il : i < length ns
            il = omega (
              arith,
              news-length (texts st) a f A.held r.sound.kept.good st.work (work-ok st ss f r) full (take j rs) (get_or rs j [])
                  (drop (suc j) rs) cut lx (next f),
              half (I p) i2,
              sec-room,
            )

            li : suc (length (take i ns)) ≡ low_count (I p)
            li = ap suc (length-take-le i ns (omega (arith, il))) ∙ omega (arith, half (I p) i2)

    pub new-key : NewCame st ss f
    unfolding detail_splits index_splits
    new-key = go (dec_lt (length a.leaf.records) (D p))
      where
        go : Dec (length a.leaf.records < D p) → NewCame st ss f
        go (yes less) = new (room e a here less (nsert-room st ss f r kw a A C none l less)) (room-deed st ss f r kw a A C none l less) refl refl (rooms _ _ _)
        go (no n) = full-ways (omega (arith, (leaf-ok p a f _ _ A.held).room))

  at : Looked (texts st) st.session.flag (key_in (desc st) st.work) ss f → NsertCame st ss f
  unfolding detail_splits index_splits
  at (there a way A C bs x cs q k one l) =
      let deed = duplicate-deed st ss f r way (length bs) l in
      came (duplicate x one (stop-nsert st ss f r a way A not_found deed)) deed refl refl
  at (absent a A C e none l) = (new-key e a A C none l).came

pub nsert-came : (st : State) (ss : List Section) (f : Free) → Ready (desc st).wpr st ss f → NsertCame st ss f
nsert-came st ss f r =
    let kw : Key (desc st) (key_in (desc st) st.work) = key_of (desc st).wpr st ss f r (good-facts (desc st) r.sound.kept.good).key (omega arith) in
    at st ss f r kw (looks (texts st) st.session.flag ss f r.sound.kept (key_in (desc st) st.work) kw)

-- another call that answers the same and leaves the same, with so many transfers more at most
pub stores_as : (st : State) (ss : List Section) (f : Free) (o o₁ : Outcome) (more : ℕ) → o₁.number ≡ o.number → o₁.after ≡ o.after
    → length o₁.transfers ≤ length o.transfers + more → Stores o 0 st ss f → Stores o₁ more st ss f
stores_as st ss f o o₁ more en ea el (duplicate x e g) = duplicate x e (gives_as st ss o o₁ more en ea el g)
stores_as st ss f o o₁ more en ea el (room e a b l g) = room e a b l (gives_as st ss o o₁ more en ea el g)
stores_as st ss f o o₁ more en ea el (split e a b l m s i q g) = split e a b l m s i q (gives_as st ss o o₁ more en ea el g)
stores_as st ss f o o₁ more en ea el (both e a b l m s c i q g) = both e a b l m s c i q (gives_as st ss o o₁ more en ea el g)
stores_as st ss f o o₁ more en ea el (no_room_lem e a b l w g) = no_room_lem e a b l w (gives_as st ss o o₁ more en ea el g)

-- it brings as much
pub stores-bring : (st : State) (ss : List Section) (f : Free) (o o₁ : Outcome) (more : ℕ) (en : o₁.number ≡ o.number) (ea : o₁.after ≡ o.after)
    (el : length o₁.transfers ≤ length o.transfers + more) (y : Stores o 0 st ss f) → brought_by (stores_as st ss f o o₁ more en ea el y) ≡ brought_by y
unfolding stores_as
stores-bring st ss f o o₁ more en ea el (duplicate x e g) = refl
stores-bring st ss f o o₁ more en ea el (room e a b l g) = refl
stores-bring st ss f o o₁ more en ea el (split e a b l m s i q g) = refl
stores-bring st ss f o o₁ more en ea el (both e a b l m s c i q g) = refl
stores-bring st ss f o o₁ more en ea el (no_room_lem e a b l w g) = refl

pub nsert-right : (st : State) (ss : List Section) (f : Free) → Ready (desc st).wpr st ss f → Nserted st ss f
nsert-right st ss f r = (nsert-came st ss f r).way
