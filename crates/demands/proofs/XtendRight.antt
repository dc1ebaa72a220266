-- XTEND on a sound open state, all its ways together.
use Prim.Native.Nat.{ℕ, suc, ◌+◌, ◌≤◌, ◌<◌}
use mathlib.Core.Bool.{true}
use mathlib.Core.Logic.{◌⊎◌, inl, inr}
use mathlib.Core.Path.{◌≡◌, refl, sym, ap, ◌∙◌, subst}
use mathlib.Core.List.{List, [], ◌∷◌, ◌++◌}
use native.Mathlib.Omega.{arith}
use native.Mathlib.Decide.{dec_lt, ℕ_discrete}
use lib.ListN.{length}
use Rattle.numbers.specs.Numbers.{out_of_sequence, no_room}
use Rattle.numbers.specs.Checked.{passed}
use Rattle.words.specs.Keys.{val}
use Rattle.drum.specs.Params.{FD, FI}
use Rattle.drum.proofs.Good.{good-facts}
use Rattle.rules.specs.State.{State, Outcome, desc, texts, key_in}
use Rattle.rules.specs.declared.Extend.{Extend}
use Rattle.rules.specs.declared.Extend.TheVariants.{Stop}
use Rattle.rules.specs.declared.Way.{Way}
use Rattle.rules.specs.declared.Way.TheVariants.{Here, By}
use Rattle.rules.specs.declared.Look.TheVariants.{Missing}
use Rattle.rules.specs.Lookup.{look}
use Rattle.rules.specs.NsertDone.{nsert}
use Rattle.rules.specs.Xtend.{not_behind, extend_at, extend_deed}
use Rattle.rules.specs.XtendDone.{xtend}
use Rattle.demands.specs.Counted.{detail_starts, index_starts, extend_splits, detail_splits, index_splits}
use Rattle.demands.specs.AsNsert.{besides}
use Rattle.layout.specs.Create.{end_record}
use Rattle.demands.proofs.Scene.{scene}
use Rattle.demands.proofs.Steps.{sec, with_rows, lower, upper}
use Rattle.demands.proofs.Lists.{from_end}
use Rattle.demands.proofs.Order.{Asc, asc-le, asc-right, hit, ins}
use Rattle.layout.specs.Tree.{Section}
use Rattle.demands.proofs.Trees.{leaves_in, records_in, key}
use Rattle.demands.proofs.Holds.{Free}
use Rattle.demands.proofs.Places.{Place, tree_of, lo, tree_with}
use Rattle.demands.proofs.Paths.{path_of}
use Rattle.demands.proofs.Sound.{Key}
use Rattle.demands.proofs.Answers.{Ready, key_of, Gives}
use Rattle.demands.proofs.Frees.{free_count, taken, stored_with, next}
use Rattle.demands.proofs.Last.{ending, Last, last}
use Rattle.demands.proofs.Xtend.{last-deed, stop-xtend, five-deed, xtend-five, room-deed, xtend-room, in-sequence}
use Rattle.demands.proofs.XtendAlone.{few, alone-room}
use Rattle.demands.proofs.XtendAlone as alone
use Rattle.demands.proofs.Reach.{At}
use Rattle.demands.proofs.Lookup.{Covers, Looked, absent, there, looks}
use Rattle.demands.proofs.NsertRight.{Stores, NsertCame, NewCame, new-key, stores_as, stores-bring}
use Rattle.demands.proofs.NsertRight as n
use Rattle.demands.proofs.Between.{leaves_before}
use Rattle.demands.proofs.XtendBefore.{not_below, Verdict, verdict}
use Rattle.demands.proofs.XtendBefore as verdict-is
use Rattle.demands.proofs.XtendAs.{AsCalled, looked-at, five, before-deed, as_called}
use Rattle.demands.proofs.XtendDeed.{none-deed, none-both-deed, few-deed, sections-deed, new-deed, both-deed}
use Rattle.demands.proofs.XtendNew.{xtend-new, xtend-both}
use Rattle.demands.proofs.Growth.{Growth, nothing, a_record, a_start, both_start}

-- the tree with the record before the end record, with a new block for the end record, and with a new section besides
module _ (st : State) (ss : List Section) (f : Free) (L : Last (texts st) st.session.flag ss f) where
  abbrev pub with_record : List Section
  with_record =
      tree_with (ending L.before L.index L.low L.leaf) (with_rows (desc st) L.leaf (L.front ++ st.work ∷ (end_record (desc st) ∷ [])) ∷ [])

  abbrev pub with_block : List Section
  with_block =
      tree_with (ending L.before L.index L.low L.leaf)
      (lower (desc st) L.leaf L.front st.work ∷ (upper (desc st) L.leaf (next f) (end_record (desc st) ∷ []) ∷ []))

  abbrev pub with_section : List Section
  with_section =
      L.before
      ++ (sec L.index (L.low ++ (lower (desc st) L.leaf L.front st.work ∷ []))
      ∷ (sec (next (taken f)) (upper (desc st) L.leaf (next f) (end_record (desc st) ∷ []) ∷ []) ∷ []))

-- the key is above the ordinary keys of the last block, and belongs in it
abbrev pub InSequence : (st : State) (ss : List Section) (f : Free) → Last (texts st) st.session.flag ss f → Type 0
InSequence st ss f L =
    Asc (key (desc st).k) (lo (desc st) (ending L.before L.index L.low L.leaf)) L.front (val (key_in (desc st) st.work))

-- what XTEND comes to, with the number it answers, and the tree then; L is the last block, `front` its ordinary records
pub data Xtended (st : State) (ss : List Section) (f : Free) (L : Last (texts st) st.session.flag ss f) : Type 0 where
  -- "Out of sequence (5) when the key is not above the highest ordinary key there, or, if none is there, not above the bound before that block"
  too-low : (fr : List (List ℕ)) (y : List ℕ) → L.front ≡ fr ++ y ∷ [] → val (key_in (desc st) st.work) ≤ key (desc st).k y
      → Gives st ss (xtend st) out_of_sequence 4 (records_in (leaves_in ss)) nothing ss f → Xtended st ss f L
  -- "If it finds the key, stops at another bound .., or shows a last key not below the key": some ordinary key is not below the key
  too-low-alone : L.front ≡ [] → val (key_in (desc st) st.work) < lo (desc st) (ending L.before L.index L.low L.leaf)
      → (not_below st ss ≡ [] → ⊥) → Gives st ss (xtend st) out_of_sequence 6 (records_in (leaves_in ss)) nothing ss f → Xtended st ss f L
  -- "otherwise the record is stored as NSERT stores it": the ordinary keys are all below the key
  before : L.front ≡ [] → val (key_in (desc st) st.work) < lo (desc st) (ending L.before L.index L.low L.leaf)
      → Asc (key (desc st).k) 0 (records_in (leaves_before (ending L.before L.index L.low L.leaf))) (val (key_in (desc st) st.work))
      → hit (key (desc st).k) (val (key_in (desc st) st.work)) (records_in (leaves_in ss)) ≡ [] → AsCalled st L.way → Stores (xtend st) 3 st ss f
      → Xtended st ss f L
  room : InSequence st ss f L → length L.leaf.records < FD (desc st) → Gives st ss (xtend st) (stored_with (desc st) (length L.leaf.records + 1) f) 4
      (ins (key (desc st).k) st.work (records_in (leaves_in ss))) a_record (with_record st ss f L) f → Xtended st ss f L
  started : InSequence st ss f L → FD (desc st) ≤ length L.leaf.records → length (L.low ++ (L.leaf ∷ [])) < FI (desc st) → 1 ≤ free_count f
      → Gives st ss (xtend st) (stored_with (desc st) (length L.leaf.records) (taken f)) 7
      (ins (key (desc st).k) st.work (records_in (leaves_in ss))) a_start (with_block st ss f L) (taken f) → Xtended st ss f L
  both : InSequence st ss f L → FD (desc st) ≤ length L.leaf.records → FI (desc st) ≤ length (L.low ++ (L.leaf ∷ [])) → 2 ≤ free_count f
      → length ss < (desc st).control
      → Gives st ss (xtend st) (stored_with (desc st) (length L.leaf.records) (taken (taken f))) 8
      (ins (key (desc st).k) st.work (records_in (leaves_in ss))) both_start (with_section st ss f L) (taken (taken f)) → Xtended st ss f L
  no_room_lem : InSequence st ss f L → FD (desc st) ≤ length L.leaf.records
      → (free_count f ≡ 0) ⊎ ((FI (desc st) ≤ length (L.low ++ (L.leaf ∷ []))) × ((free_count f ≡ 1) ⊎ ((desc st).control ≤ length ss)))
      → Gives st ss (xtend st) no_room 4 (records_in (leaves_in ss)) nothing ss f → Xtended st ss f L

module _ {st : State} {ss : List Section} {f : Free} {L : Last (texts st) st.session.flag ss f} where
  -- what each way brings
  abbrev pub brought_by : Xtended st ss f L → Growth
  brought_by (too-low fr y e l g) = nothing
  brought_by (too-low-alone e l n g) = nothing
  brought_by (before e l s h a y) = n.brought_by y
  brought_by (room iq l g) = a_record
  brought_by (started iq l m s g) = a_start
  brought_by (both iq l m s c g) = both_start
  brought_by (no_room_lem iq l w g) = nothing

-- what it comes to, with the plan: it starts and splits as many blocks as that says
pub record XtendCame (st : State) (ss : List Section) (f : Free) (L : Last (texts st) st.session.flag ss f) : Type 0 where
  pub way : Xtended st ss f L
  pub plan : Extend
  pub plan-is : extend_deed (texts st) st.session.flag (key_in (desc st) st.work) ≡ passed plan
  pub starts : (brought_by way).starts ≡ detail_starts plan
  pub index-starts : (brought_by way).index-starts ≡ index_starts plan
  pub splits : (brought_by way).splits ≡ extend_splits detail_splits plan
  pub index-splits : (brought_by way).index-splits ≡ extend_splits index_splits plan

few-besides : (way : Way) → besides way ≤ 3
unfolding besides
few-besides Here = omega arith
few-besides (By w) = omega arith

-- what is stored as NSERT stores it starts nothing
pub stores-start : {o : Outcome} {more : ℕ} {st : State} {ss : List Section} {f : Free} (y : Stores o more st ss f)
    → ((n.brought_by y).starts ≡ 0) × ((n.brought_by y).index-starts ≡ 0)
stores-start (n.duplicate x e g) = (refl, refl)
stores-start (n.room e a b l g) = (refl, refl)
stores-start (n.split e a b l m s i q g) = (refl, refl)
stores-start (n.both e a b l m s c i q g) = (refl, refl)
stores-start (n.no_room_lem e a b l w g) = (refl, refl)

module _ (st : State) (ss : List Section) (f : Free) (r : Ready (desc st).wpr st ss f) (kw : Key (desc st) (key_in (desc st) st.work))
    (L : Last (texts st) st.session.flag ss f) where
  open scene st ss use {p, w}

  came : {plan : Extend} (way : Xtended st ss f L) → extend_at (texts st) st.session.flag w L.way ≡ passed plan
      → (brought_by way).starts ≡ detail_starts plan → (brought_by way).index-starts ≡ index_starts plan
      → (brought_by way).splits ≡ extend_splits detail_splits plan → (brought_by way).index-splits ≡ extend_splits index_splits plan → XtendCame st ss f L
  came {plan} way e a b c d =
      record { way = way; plan = plan; plan-is = last-deed st ss f r kw L plan e; starts = a; index-starts = b; splits = c; index-splits = d }

  stops : InSequence st ss f L → FD p ≤ length L.leaf.records → (free_count f ≡ 0) ⊎ ((FI p ≤ length (L.low ++ (L.leaf ∷ []))) × ((free_count f ≡ 1) ⊎
      (p.control ≤ length ss)))
      → extend_at (texts st) st.session.flag w L.way ≡ passed (Stop L.way 0 no_room) → XtendCame st ss f L
  unfolding detail_starts index_starts extend_splits detail_splits index_splits
  stops iq full why deed = came (no_room_lem iq full why (stop-xtend st ss f r kw L 0 no_room deed)) deed refl refl refl refl

  -- the lookup finds all ordinary keys below the key, or not
  under-bound : L.front ≡ [] → val w < lo p (ending L.before L.index L.low L.leaf) → XtendCame st ss f L
  unfolding detail_starts index_starts extend_splits detail_splits index_splits
  under-bound e u = go (looks (texts st) st.session.flag ss f r.sound.kept w kw)
    where
      five-at : (q : Place) (is : ss ≡ tree_of q) (C : Covers (texts st) w q)
          → not_behind (texts st) w (path_of (ending L.before L.index L.low L.leaf)) (path_of q) ≡ true → (not_below st ss ≡ [] → ⊥)
          → XtendCame st ss f L
      five-at q is C t some =
          came (too-low-alone e u some (five st ss f r kw L e u q is C t)) (looked-at st ss f r kw L e u q is C true t) refl refl refl refl

      new-at : (q : Place) (A : At (texts st) st.session.flag ss f q (By (path_of q))) (C : Covers (texts st) w q)
          (hits : hit (key p.k) (val w) (records_in (leaves_in ss)) ≡ []) (none : hit (key p.k) (val w) q.leaf.records ≡ [])
          (l : look (texts st) st.session.flag w ≡ passed (Missing (path_of q)))
          → Verdict st ss f r kw L e u q A.is C → XtendCame st ss f L
      new-at q A C hits none l (verdict-is.stops t some) = five-at q A.is C t some
      new-at q A C hits none l (verdict-is.stores t below own) =
          let k : NewCame st ss f = new-key st ss f r kw hits q A C none l in
          let c : NsertCame st ss f = k.came in
          let a : AsCalled st L.way = as_called st ss f r kw L e u q A.is C t l c.plan c.plan-is k.fits in
          let more : length (xtend st).transfers ≤ length (nsert st).transfers + 3 = omega (arith, a.more-is, few-besides L.way) in
          let y : Stores (xtend st) 3 st ss f = stores_as st ss f (nsert st) (xtend st) 3 a.number-is a.after_is more c.way in
          let same : n.brought_by y ≡ n.brought_by c.way = stores-bring st ss f (nsert st) (xtend st) 3 a.number-is a.after_is more c.way in
          came (before e u below hits a y) (before-deed st ss f r kw L e u q A.is C t l c.plan c.plan-is k.fits) (stores-start y).0
          (stores-start y).1
          (ap (λ (g : Growth). g.splits) same ∙ c.splits) (ap (λ (g : Growth). g.index-splits) same ∙ c.index-splits)

      old-at : (q : Place) (is : ss ≡ tree_of q) (C : Covers (texts st) w q) (bs : List (List ℕ)) (x : List ℕ) (cs : List (List ℕ))
          → q.leaf.records ≡ bs ++ x ∷ cs → key p.k x ≡ val w → Verdict st ss f r kw L e u q is C → XtendCame st ss f L
      old-at q is C bs x cs g k (verdict-is.stops t some) = five-at q is C t some
      old-at q is C bs x cs g k (verdict-is.stores t below own) =
          let s
          = asc-right (key p.k) (lo p q) bs (x ∷ cs) (val w) (subst (λ (z : List (List ℕ)). Asc (key p.k) (lo p q) z (val w)) g own) in
          absurd (omega (arith, k, asc-le (key p.k) (suc (key p.k x)) cs (val w) s.1))

      go : Looked (texts st) st.session.flag w ss f → XtendCame st ss f L
      go (absent q A C hits none l) = new-at q A C hits none l (verdict st ss f r kw L e u q A.is C)
      go (there q way A C bs x cs g k one l) = old-at q A.is C bs x cs g k (verdict st ss f r kw L e u q A.is C)

  only_end : L.front ≡ [] → XtendCame st ss f L
  unfolding detail_starts index_starts extend_splits detail_splits index_splits
  only_end e = go (dec_lt (val w) (lo p (ending L.before L.index L.low L.leaf)))
    where
      go : Dec (val w < lo p (ending L.before L.index L.low L.leaf)) → XtendCame st ss f L
      go (yes h) = under-bound e h
      go (no n) =
          let h : lo p (ending L.before L.index L.low L.leaf) ≤ val w = omega arith in
          came (room (subst (λ (z : List (List ℕ)). Asc (key p.k) (lo p (ending L.before L.index L.low L.leaf)) z (val w)) (sym e) h)
          (few st ss f r kw L e) (alone-room st ss f r kw L e h)) (alone.room-deed st ss f r kw L e h) refl refl refl refl

  started-ways : (fr : List (List ℕ)) (y : List ℕ) → L.front ≡ fr ++ y ∷ [] → key p.k y < val w → FD p ≤ length L.leaf.records → XtendCame st ss f L
  unfolding detail_starts index_starts extend_splits detail_splits index_splits
  started-ways fr y e h full =
      go (dec_lt (length (L.low ++ (L.leaf ∷ []))) (FI p)) (ℕ_discrete (free_count f) 0) (ℕ_discrete (free_count f) 1) (dec_lt (length ss) p.control)
    where
      iq : InSequence st ss f L
      iq = in-sequence st ss f r kw L fr y e h

      go : Dec (length (L.low ++ (L.leaf ∷ [])) < FI p) → Dec (free_count f ≡ 0) → Dec (free_count f ≡ 1) → Dec (length ss < p.control) → XtendCame st ss f L
      go (yes less) (yes z) d₁ d₂ = stops iq full (inl z) (none-deed st ss f r kw L fr y e h full less z)
      go (yes less) (no z) d₁ d₂ =
          let some : 1 ≤ free_count f = omega arith in
          came (started iq full less some (xtend-new st ss f r kw L fr y e h full less some))
          (new-deed st ss f r kw L fr y e h full less some) refl refl refl refl
      go (no m) (yes z) d₁ d₂ = stops iq full (inl z) (none-both-deed st ss f r kw L fr y e h full (omega arith) z)
      go (no m) (no z) (yes o) d₂ =
          let most : FI p ≤ length (L.low ++ (L.leaf ∷ [])) = omega arith in
          stops iq full (inr (most, inl o)) (few-deed st ss f r kw L fr y e h full most o)
      go (no m) (no z) (no o) (no c) =
          let most : FI p ≤ length (L.low ++ (L.leaf ∷ [])) = omega arith in
          let top : p.control ≤ length ss = omega arith in
          stops iq full (inr (most, inr top)) (sections-deed st ss f r kw L fr y e h full most (omega arith) top)
      go (no m) (no z) (no o) (yes c) =
          let most : FI p ≤ length (L.low ++ (L.leaf ∷ [])) = omega arith in
          let two : 2 ≤ free_count f = omega arith in
          came (both iq full most two c (xtend-both st ss f r kw L fr y e h full most two c))
          (both-deed st ss f r kw L fr y e h full most two c) refl refl refl refl

  at : (L.front ≡ []) ⊎ ((fr : List (List ℕ)) × (y : List ℕ) × (L.front ≡ fr ++ y ∷ [])) → XtendCame st ss f L
  unfolding detail_starts index_starts extend_splits detail_splits index_splits
  at (inl e) = only_end e
  at (inr (fr, y, e)) = go (dec_lt (key p.k y) (val w)) (dec_lt (length L.leaf.records) (FD p))
    where
      go : Dec (key p.k y < val w) → Dec (length L.leaf.records < FD p) → XtendCame st ss f L
      go (no n) d =
          let low : val w ≤ key p.k y = omega arith in
          came (too-low fr y e low (xtend-five st ss f r kw L fr y e low)) (five-deed st ss f r kw L fr y e low) refl refl refl refl
      go (yes h) (yes less) = came (room (in-sequence st ss f r kw L fr y e h) less (xtend-room st ss f r kw L fr y e h less))
          (room-deed st ss f r kw L fr y e h less) refl refl refl refl
      go (yes h) (no n) = started-ways fr y e h (omega arith)

pub xtend-came : (st : State) (ss : List Section) (f : Free) (r : Ready (desc st).wpr st ss f)
    → (L : Last (texts st) st.session.flag ss f) × XtendCame st ss f L
xtend-came st ss f r =
    let kw : Key (desc st) (key_in (desc st) st.work) = key_of (desc st).wpr st ss f r (good-facts (desc st) r.sound.kept.good).key (omega arith) in
    let L : Last (texts st) st.session.flag ss f = last (texts st) st.session.flag ss f r.sound.kept in
    (L, at st ss f r kw L (from_end L.front))

pub xtend-right : (st : State) (ss : List Section) (f : Free) (r : Ready (desc st).wpr st ss f)
    → (L : Last (texts st) st.session.flag ss f) × Xtended st ss f L
xtend-right st ss f r = let z = xtend-came st ss f r in (z.0, z.1.way)
