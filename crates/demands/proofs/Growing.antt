-- What S, s, X and x count.
use Prim.Native.Nat.{ℕ, ◌+◌, ◌-◌}
use mathlib.Core.Bool.{Bool, true, false, cond, ◌&&◌}
use mathlib.Core.Path.{◌≡◌, refl, sym, ap, ap₂, ◌∙◌, subst}
use mathlib.Core.List.{List, [], ◌∷◌, ◌++◌}
use native.Mathlib.Omega.{arith}
use lib.Dec.{leb, eqb}
use lib.ListN.{length}
use borrow.Author.Tests.{le-leb, lt-leb}
use Rattle.numbers.specs.Numbers.{accepted, done, none_free}
use Rattle.drum.specs.declared.Description.{Description}
use Rattle.drum.specs.Params.{D, I, FD, FI}
use Rattle.layout.specs.Tree.{Leaf, Section, Tree}
use Rattle.layout.specs.Tree as lay
use Rattle.layout.specs.Holds as laid
use Rattle.layout.proofs.Unique.{one-tree}
use Rattle.rules.specs.State.{State, Outcome, desc, texts, key_in}
use Rattle.rules.specs.Requests.{Request, opening, closing, seeking, advancing, inserting, deleting, updating, extending, lending, answer}
use Rattle.demands.specs.Formula.{new_details, new_indexes}
use Rattle.demands.specs.Promises.{put_back}
use Rattle.demands.specs.Answers.{Keyed, last_block}
use Rattle.demands.specs.Storing.{section_for, block_for, last_section, at_last}
use Rattle.demands.specs.Growing.{one_if, stores, Fullness, cover_full, last_full, GrownAs, Grown, CallGrowth}
use Rattle.demands.proofs.Holds.{Free}
use Rattle.demands.proofs.Places.{Place, olds}
use Rattle.demands.proofs.Sound.{Sound}
use Rattle.demands.proofs.Answers.{Ready, Gives}
use Rattle.demands.proofs.Frees.{free_count, taken, stored_with}
use Rattle.demands.proofs.Growth.{Growth, nothing, Grows}
use Rattle.demands.proofs.InUse.{details-are, indexes-are}
use Rattle.demands.proofs.Last.{Last}
use Rattle.demands.proofs.NsertRight.{Belongs, Stores, duplicate, room, split, both, no_room_lem, nsert-right}
use Rattle.demands.proofs.XtendRight as x
use Rattle.demands.proofs.Opens.{flushed-stands}
use Rattle.demands.proofs.Stepped.{Stepped}
use Rattle.demands.proofs.Calls.{stepped}
use Rattle.demands.proofs.Answered.{readied}
use Rattle.demands.proofs.NsertNumber.{section-is, block-is}
use Rattle.demands.proofs.XtendNumber.{rows_are, section-are, at-yes, at-no}
use Rattle.demands.proofs.Moves.{tree_in}
use Rattle.demands.proofs.Promised.{after_open}

-- so many more blocks are in use
module _ (st : State) (ss : List Section) (f : Free) (h : Sound st ss f) (o : Outcome) (ss' : List Section) (f' : Free) (h' : Sound o.after ss' f')
    (b : Growth) (g : Grows (desc st) ss ss' b) where
  pub more-details : new_details st o ≡ b.splits + b.starts
  unfolding new_details
  more-details = ap₂ (λ (m n : ℕ). m - n) (details-are o.after ss' f' h') (details-are st ss f h) ∙ g.details

  pub more-indexes : new_indexes st o ≡ b.index-splits + b.index-starts
  unfolding new_indexes
  more-indexes = ap₂ (λ (m n : ℕ). m - n) (indexes-are o.after ss' f' h') (indexes-are st ss f h) ∙ g.indexes

pub stored-yes : (p : Description) (n : ℕ) (f : Free) → accepted (stored_with p n f) ≡ true
stored-yes p n f = go (eqb n (D p) && eqb (free_count f) 0)
  where
    go : (t : Bool) → accepted (cond t none_free done) ≡ true
    go true = refl
    go false = refl

-- both numbers, of what is accepted and full
abbrev News : State → Outcome → Bool → Bool → Type 0
News st o full top = (new_details st o ≡ one_if (accepted o.number && full)) × (new_indexes st o ≡ one_if (accepted o.number && (full && top)))

news-by : (st : State) (o : Outcome) (full top : Bool) {n : ℕ} (a : Bool) → o.number ≡ n → accepted n ≡ a → new_details st o ≡ one_if (a && full)
    → new_indexes st o ≡ one_if (a && (full && top)) → News st o full top
news-by st o full top a e q d i =
    let s : a ≡ accepted o.number = sym (ap accepted e ∙ q) in
    (d ∙ ap (λ (t : Bool). one_if (t && full)) s, i ∙ ap (λ (t : Bool). one_if (t && (full && top))) s)

module _ (st : State) (ss : List Section) (f : Free) (h : Sound st ss f) (w : List ℕ) (ask : Keyed st (desc st).wpr w) where
  abbrev p : Description
  p = desc st

  r : Ready p.wpr (lending w st) ss f
  r = readied st ss f h p.wpr w ask

  module _ (o : Outcome) where
    details-of : {n m : ℕ} {rows : List (List ℕ)} {b : Growth} {ss' : List Section} {f' : Free} → Gives (lending w st) ss o n m rows b ss' f'
        → new_details st o ≡ b.splits + b.starts
    unfolding lending
    details-of {n} {m} {rows} {b} {ss'} {f'} g = more-details st ss f h o ss' f' g.sound b g.grows

    indexes-of : {n m : ℕ} {rows : List (List ℕ)} {b : Growth} {ss' : List Section} {f' : Free} → Gives (lending w st) ss o n m rows b ss' f'
        → new_indexes st o ≡ b.index-splits + b.index-starts
    unfolding lending
    indexes-of {n} {m} {rows} {b} {ss'} {f'} g = more-indexes st ss f h o ss' f' g.sound b g.grows

  abbrev leaves : List Leaf
  leaves = section_for (key_in (desc st) w) ss

  -- what NSERT stores, and XTEND as NSERT does
  stores-news : (o : Outcome) (more : ℕ) → Stores o more (lending w st) ss f
      → News st o (leb (D p) (length (block_for (key_in p w) leaves))) (leb (I p) (length leaves))
  unfolding lending
  stores-news o more y = go y
    where
      at : (a : Place) → Belongs (lending w st) ss a → News st o (leb (D p) (length a.leaf.records)) (leb (I p) (length (olds a)))
          → News st o (leb (D p) (length (block_for (key_in p w) leaves))) (leb (I p) (length leaves))
      at a B n =
          let s : leaves ≡ olds a = section-is st ss f h w ask a B in
          subst (λ (z : List Leaf). News st o (leb (D p) (length (block_for (key_in p w) z))) (leb (I p) (length z))) (sym s)
          (subst (λ (z : List (List ℕ)). News st o (leb (D p) (length z)) (leb (I p) (length (olds a)))) (sym (block-is st ss f h w ask a B)) n)

      go : Stores o more (lending w st) ss f → News st o (leb (D p) (length (block_for (key_in p w) leaves))) (leb (I p) (length leaves))
      go (duplicate y e g) = news-by st o _ _ false g.number-is refl (details-of o g) (indexes-of o g)
      go (no_room_lem e a B l m g) = news-by st o _ _ false g.number-is refl (details-of o g) (indexes-of o g)
      go (room e a B l g) = at a B (rw (lt-leb (D p) (length a.leaf.records) l)
          (news-by st o false (leb (I p) (length (olds a))) true g.number-is (stored-yes p _ f) (details-of o g) (indexes-of o g)))
      go (split e a B l m s k q g) =
          at a B (rw (le-leb (D p) (length a.leaf.records) (omega (arith, l)), lt-leb (I p) (length (olds a)) m)
          (news-by st o true false true g.number-is (stored-yes p _ (taken f)) (details-of o g) (indexes-of o g)))
      go (both e a B l m s c k q g) =
          at a B (rw (le-leb (D p) (length a.leaf.records) (omega (arith, l)), le-leb (I p) (length (olds a)) (omega (arith, m)))
          (news-by st o true true true g.number-is (stored-yes p _ (taken (taken f))) (details-of o g) (indexes-of o g)))

  nsert-news : GrownAs st (answer st (inserting w)) (cover_full p (key_in p w) (tree_in ss f))
  unfolding answer lending
  nsert-news = stores-news (answer st (inserting w)) 0 (nsert-right (lending w st) ss f r)

  xtend-news : GrownAs st (answer st (extending w))
      (cond (at_last p (key_in p w) (tree_in ss f)) (last_full p (tree_in ss f)) (cover_full p (key_in p w) (tree_in ss f)))
  unfolding answer lending
  xtend-news = let z = x.xtend-right (lending w st) ss f r in go z.0 z.1
    where
      o : Outcome
      o = answer st (extending w)

      at : (L : Last (texts (lending w st)) st.session.flag ss f) (a b : Bool) → leb (FD p) (length L.leaf.records) ≡ a
          → News st o a (leb (FI p) (length (last_section ss)))
          → News st o (leb (FD p) (length (last_block (lay.leaves_of (tree_in ss f))))) (leb (FI p) (length (last_section ss)))
      at L a b e n =
          subst (λ (t : Bool). News st o t (leb (FI p) (length (last_section ss))))
          (sym (ap (λ (z : List (List ℕ)). leb (FD p) (length z)) (rows_are (lending w st) ss f r L) ∙ e)) n

      top : (L : Last (texts (lending w st)) st.session.flag ss f) (b : Bool) → leb (FI p) (length (L.low ++ (L.leaf ∷ []))) ≡ b → News st o true b
          → News st o true (leb (FI p) (length (last_section ss)))
      top L b e n = subst (News st o true) (sym (ap (λ (z : List Leaf). leb (FI p) (length z)) (section-are (lending w st) ss f r L) ∙ e)) n

      -- none, whatever is full
      none : (full : Fullness) {n m : ℕ} {rows : List (List ℕ)} → Gives (lending w st) ss o n m rows nothing ss f → accepted n ≡ false → GrownAs st o full
      none full g a = news-by st o full.block full.index false g.number-is a (details-of o g) (indexes-of o g)

      -- by where the key belongs
      by : (t : Bool) → at_last p (key_in p w) (tree_in ss f) ≡ t → GrownAs st o (cond t (last_full p (tree_in ss f)) (cover_full p (key_in p w) (tree_in ss f)))
          → GrownAs st o (cond (at_last p (key_in p w) (tree_in ss f)) (last_full p (tree_in ss f)) (cover_full p (key_in p w) (tree_in ss f)))
      by t e n = subst (λ (b : Bool). GrownAs st o (cond b (last_full p (tree_in ss f)) (cover_full p (key_in p w) (tree_in ss f)))) (sym e) n

      go : (L : Last (texts (lending w st)) st.session.flag ss f) → x.Xtended (lending w st) ss f L
          → GrownAs st o (cond (at_last p (key_in p w) (tree_in ss f)) (last_full p (tree_in ss f)) (cover_full p (key_in p w) (tree_in ss f)))
      go L (x.too-low fr y e l g) = none _ g refl
      go L (x.too-low-alone e l hs g) = none _ g refl
      go L (x.before e l s n a y) = by false (at-no (lending w st) ss f r L e l) (stores-news o 3 y)
      go L (x.no_room_lem iq l m g) = none _ g refl
      go L (x.room iq l g) =
          by true (at-yes (lending w st) ss f r L iq) (at L false false (lt-leb (FD p) (length L.leaf.records) l)
          (news-by st o false (leb (FI p) (length (last_section ss))) true g.number-is (stored-yes p _ f) (details-of o g) (indexes-of o g)))
      go L (x.started iq l m s g) =
          by true (at-yes (lending w st) ss f r L iq) (at L true false (le-leb (FD p) (length L.leaf.records) l)
          (top L false (lt-leb (FI p) _ m) (news-by st o true false true g.number-is (stored-yes p _ (taken f)) (details-of o g) (indexes-of o g))))
      go L (x.both iq l m s c g) =
          by true (at-yes (lending w st) ss f r L iq) (at L true true (le-leb (FD p) (length L.leaf.records) l)
          (top L true (le-leb (FI p) _ m) (news-by st o true true true g.number-is (stored-yes p _ (taken (taken f))) (details-of o g) (indexes-of o g))))

-- the other calls
module _ (st : State) (ss : List Section) (f : Free) (h : Sound st ss f) where
  none-new : (q : Request) (z : Stepped st ss f q) → z.growth ≡ nothing → (new_details st (answer st q) ≡ 0) × (new_indexes st (answer st q) ≡ 0)
  none-new q z e = (
    more-details st ss f h (answer st q) z.sections z.free z.sound z.growth z.grows ∙ ap (λ (g : Growth). g.splits + g.starts) e,
    more-indexes st ss f h (answer st q) z.sections z.free z.sound z.growth z.grows ∙ ap (λ (g : Growth). g.index-splits + g.index-starts) e,
  )

  pub no-news : (q : Request) → stores q ≡ false → (new_details st (answer st q) ≡ 0) × (new_indexes st (answer st q) ≡ 0)
  unfolding stores
  no-news (opening marks) e = let z = stepped st ss f h (opening marks) in none-new _ z z.brought
  no-news closing e = let z = stepped st ss f h closing in none-new _ z z.brought
  no-news (seeking w) e = let z = stepped st ss f h (seeking w) in none-new _ z z.brought
  no-news (advancing w) e = let z = stepped st ss f h (advancing w) in none-new _ z z.brought
  no-news (inserting w) e = absurd (let z : ◌≡◌ {A = ℕ} 0 1 = cc in omega arith)
  no-news (deleting w) e = let z = stepped st ss f h (deleting w) in none-new _ z z.brought
  no-news (updating w) e = let z = stepped st ss f h (updating w) in none-new _ z z.brought
  no-news (extending w) e = absurd (let z : ◌≡◌ {A = ℕ} 0 1 = cc in omega arith)

pub call-growth : CallGrowth
call-growth =
    after_open (λ (st : State). (t : Tree) → laid.Holds (desc st) (put_back st) t → Grown st t) λ st ss f h t ht.
    let is : tree_in ss f ≡ t = one-tree (desc st) (put_back st) (tree_in ss f) t h.kept.good (flushed-stands st ss f h) ht in
    subst (Grown st) is (record { nsert = nsert-news st ss f h; xtend = xtend-news st ss f h; others = no-news st ss f h })
