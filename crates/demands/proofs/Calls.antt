-- Each call of a session from a sound state, open or closed, refused or not: what it leaves, what it put in or took out, and what it brought.
use Prim.Native.Nat.{ℕ, suc, ◌≤◌, ◌<◌}
use mathlib.Core.Bool.{Bool, true, false, cond, not, ◌&&◌, ◌||◌}
use mathlib.Core.Logic.{inl, inr}
use mathlib.Core.Path.{◌≡◌, refl, sym, ap, ◌∙◌, subst}
use mathlib.Core.List.{List, [], ◌∷◌, map}
use native.Mathlib.Omega.{arith}
use native.Mathlib.Decide.{ℕ_discrete}
use lib.Dec.{eqb}
use lib.ListN.{length}
use borrow.Author.Tests.{eq-eqb, ne_eqb, not-true}
use Rattle.numbers.specs.Numbers.{accepted, done, none_free, not_found, out_of_sequence, no_room, wrong_size, is_closed, already_open}
use Rattle.numbers.specs.Checked.{Checked, passed, refused, ◌>>◌, require}
use Rattle.words.specs.Keys.{val}
use Rattle.words.proofs.Keys.{clash}
use Rattle.drum.specs.declared.Description.{Description}
use Rattle.drum.specs.Params.{D, I}
use Rattle.drum.proofs.Good.{good-facts}
use Rattle.layout.specs.Inspect.{layout_marks}
use Rattle.layout.specs.Tree.{Section, Tree}
use Rattle.rules.specs.State.{State, Outcome, desc, texts, key_in, at_rest, settle, unchanged}
use Rattle.rules.specs.Checks.{sizes_ok, work_ok, is_open}
use Rattle.rules.specs.Seek.{seek, seek_steps, updat, updat_steps}
use Rattle.rules.specs.Adv.{adv}
use Rattle.rules.specs.NsertDone.{nsert, nsert_steps}
use Rattle.rules.specs.Dlete.{dlete, dlete_steps}
use Rattle.rules.specs.XtendDone.{xtend, xtend_steps}
use Rattle.rules.specs.Close.{close, close_checks, close_done}
use Rattle.rules.specs.Open.{open_file, open_checks, open_done, open_layout}
use Rattle.rules.specs.Requests.{Request, opening, closing, seeking, advancing, inserting, deleting, updating, extending, lending, answer}
use Rattle.demands.specs.Formula.{accepted_by, share}
use Rattle.demands.specs.History.{event_of}
use Rattle.demands.specs.History as history
use Rattle.demands.proofs.Scene.{scene}
use Rattle.demands.proofs.Lists.{All}
use Rattle.demands.proofs.Order.{Asc, asc-right, below, from, below-above, ins, upd, del, hit}
use Rattle.demands.proofs.Trees.{leaves_in, records_in, key, reach}
use Rattle.demands.proofs.Holds.{Free}
use Rattle.demands.proofs.Sound.{Key, Sound}
use Rattle.demands.proofs.Answers.{Ready, key_of, work-key, sizes-pass, Gives}
use Rattle.demands.proofs.Stores.{asc-rows}
use Rattle.demands.proofs.Frees.{free_count, taken, stored_with}
use Rattle.demands.proofs.Seek.{close-right, SeekRight, seek-right, UpdatRight, updat-right}
use Rattle.demands.proofs.NsertRight.{rows_with, halves, Stores, Nserted, duplicate, room, split, both, no_room_lem, nsert-right}
use Rattle.demands.proofs.DleteRight.{DleteRight, dlete-right}
use Rattle.demands.proofs.AdvRight.{adv-right}
use Rattle.demands.proofs.Last.{ending, Last}
use Rattle.demands.proofs.Places.{lo}
use Rattle.demands.proofs.Steps.{with_rows}
use Rattle.demands.proofs.Between.{leaves_before}
use Rattle.demands.proofs.LastBlock.{LastTells, with-last, both-last, record-last, start-last, section-last}
use Rattle.demands.proofs.XtendRight as x
use Rattle.demands.proofs.History.{happen, happened, ins-upd}
use Rattle.demands.proofs.Growth.{Growth, nothing, a_record, a_split, both_split, a_start, both_start, Grows, grow-none}
use Rattle.demands.specs.Filled.{disturbs, Filled}
use Rattle.demands.specs.Reuse.{some_left, Deletes}
use Rattle.demands.proofs.Moves.{tree_in, kept, none-taken}
use Rattle.demands.proofs.Filling.{room-blocks, split-blocks, both-blocks, record-blocks, start-blocks, start-both-blocks, record-filled, start-filled}
use Rattle.demands.proofs.Filling.{start-both-filled, not-filled}
use Rattle.demands.proofs.Stepped.{Brought, Moved, most, numbered, KeyOf, Stepped}
use Rattle.demands.proofs.Step.{Gate, stopped, ready, gate, opened-sound, lent-sound}

-- a list with a record put in that ascends did not have its key
pub ins-fresh : {A : Type 0} (K : A → ℕ) (lo : ℕ) (r : A) (c : List A) (hi : ℕ) → Asc K lo (ins K r c) hi → hit K (K r) c ≡ []
unfolding ins hit
ins-fresh {A} K lo r c hi h =
    let a : Asc K (suc (K r)) (from K (K r) c) hi = (asc-right K lo (below K (K r) c) (r ∷ from K (K r) c) hi h).1 in
    below-above K (suc (K r)) (from K (K r) c) hi a

-- the numbers of a call that has stored
stored-accepted : (p : Description) (n : ℕ) (f : Free) → accepted (stored_with p n f) ≡ true
stored-accepted p n f = go (eqb n (D p) && eqb (free_count f) 0)
  where
    go : (t : Bool) → accepted (cond t none_free done) ≡ true
    go true = refl
    go false = refl

pub not_done : (n : ℕ) → accepted n ≡ false → eqb n done ≡ false
not_done n e = go (eqb n done) e
  where
    go : (t : Bool) → (t || eqb n none_free) ≡ false → t ≡ false
    go true q = absurd (clash q)
    go false q = refl

-- the last of three checks that pass
last-test : {A B : Type 0} (a : Checked A) (b : Checked B) (t : Bool) (n : ℕ) (u : Bool) → a >> (b >> require t n) ≡ passed u → t ≡ true
last-test (refused m) b t n u e = absurd (let z : ◌≡◌ {A = ℕ} 0 1 = cc in omega arith)
last-test (passed x) (refused m) t n u e = absurd (let z : ◌≡◌ {A = ℕ} 0 1 = cc in omega arith)
last-test (passed x) (passed y) true n u e = refl
last-test (passed x) (passed y) false n u e = absurd (let z : ◌≡◌ {A = ℕ} 0 1 = cc in omega arith)

accepts : (o : Outcome) (t : Bool) → accepted o.number ≡ t → cond {A = ℕ} t 1 0 ≡ accepted_by o
unfolding accepted_by
accepts o t e = ap (λ (b : Bool). cond {A = ℕ} b 1 0) (sym e)

-- a call that leaves the tree keeps its blocks
moved_none : (q : Request) (o : Outcome) (t : Tree) → Moved q o nothing t t
moved_none (opening marks) o t = kept t
moved_none closing o t = kept t
moved_none (seeking w) o t = kept t
moved_none (advancing w) o t = kept t
moved_none (inserting w) o t = none-taken t
moved_none (deleting w) o t = go (eqb o.number done)
  where
    go : (b : Bool) → Deletes b t t
    go true = some_left (kept t)
    go false = kept t
moved_none (updating w) o t = kept t
moved_none (extending w) o t = none-taken t

-- and its last leaf
tells_none : (q : Request) (ss : List Section) → LastTells q nothing ss ss
tells_none (opening marks) ss = tt
tells_none closing ss = tt
tells_none (seeking w) ss = tt
tells_none (advancing w) ss = tt
tells_none (inserting w) ss = tt
tells_none (deleting w) ss = tt
tells_none (updating w) ss = tt
tells_none (extending w) ss = inl (refl, refl, refl)

module _ (st : State) (ss : List Section) (f : Free) (q : Request) where
  open scene st ss use {p, K}

  abbrev o : Outcome
  o = answer st q

  abbrev rows : List (List ℕ)
  rows = records_in (leaves_in ss)

  step_by : (ss' : List Section) (f' : Free) → Sound o.after ss' f' → desc o.after ≡ p → (es : List history.Event) → event_of p q o ≡ es
      → records_in (leaves_in ss') ≡ happened K (map numbered es) rows → All (KeyOf p) es → (g : Growth) → Grows p ss ss' g → Brought q o g → LastTells q g ss ss'
      → length o.transfers ≤ most q g
      → Moved q o g (tree_in ss f) (tree_in ss' f') → (disturbs q o ≡ 0 → Filled p (tree_in ss f) → Filled p (tree_in ss' f')) → Stepped st ss f q
  step_by ss' f' s d es e c k g gr b lt cost mv fl = record {
    sections = ss';
    free = f';
    sound = s;
    desc-is = d;
    contents-is = c ∙ ap (λ (z : List history.Event). happened K (map numbered z) rows) (sym e);
    keys = subst (All (KeyOf p)) (sym e) k;
    growth = g;
    grows = gr;
    brought = b;
    last = lt;
    cost = cost;
    moved = mv;
    filled = fl;
  }

  -- nothing was put in, taken out or brought
  abbrev Calm : Type 0
  Calm = (event_of p q o ≡ []) × Brought q o nothing

  step-calm : Sound o.after ss f → desc o.after ≡ p → Calm → length o.transfers ≤ share q → Stepped st ss f q
  unfolding happened
  step-calm s d a cost = step_by ss f s d [] a.0 refl tt nothing (grow-none p ss) a.1 (tells_none q ss) (omega arith) (moved_none q o (tree_in ss f))
      (λ e h. h)

  -- the record w was put in, or the record with the key x taken out
  step-stored : (ss' : List Section) (f' : Free) → Sound o.after ss' f' → desc o.after ≡ p → (w : List ℕ) → event_of p q o ≡ history.stored w ∷ []
      → records_in (leaves_in ss') ≡ upd K w rows
      → Key p (key_in p w) → (g : Growth) → Grows p ss ss' g → Brought q o g → LastTells q g ss ss' → length o.transfers ≤ most q g
      → Moved q o g (tree_in ss f) (tree_in ss' f') → (disturbs q o ≡ 0 → Filled p (tree_in ss f) → Filled p (tree_in ss' f')) → Stepped st ss f q
  unfolding happened happen numbered
  step-stored ss' f' s d w e c k g gr b lt cost mv fl = step_by ss' f' s d (history.stored w ∷ []) e c (k, tt) g gr b lt cost mv fl

  step-removed : (ss' : List Section) (f' : Free) → Sound o.after ss' f' → desc o.after ≡ p → (y : List ℕ) → event_of p q o ≡ history.removed y ∷ []
      → records_in (leaves_in ss') ≡ del K (val y) rows
      → Key p y → Grows p ss ss' nothing → Brought q o nothing → LastTells q nothing ss ss' → length o.transfers ≤ share q
      → Moved q o nothing (tree_in ss f) (tree_in ss' f') → (disturbs q o ≡ 0 → Filled p (tree_in ss f) → Filled p (tree_in ss' f')) → Stepped st ss f q
  unfolding happened happen numbered
  step-removed ss' f' s d y e c k gr b lt cost mv fl = step_by ss' f' s d (history.removed y ∷ []) e c (k, tt) nothing gr b lt (omega arith) mv fl

-- an NSERT or a DLETE that is accepted does not leave a filled tree alone
disturbed : {A : Type 0} (o : Outcome) → 1 ≡ accepted_by o → accepted_by o ≡ 0 → A
disturbed o e d = absurd (omega arith)

-- a call that is not accepted is calm, and so is any that changes no record
calm : (st : State) (ss : List Section) (f : Free) (q : Request) → accepted (answer st q).number ≡ false → Calm st ss f q
unfolding event_of
calm st ss f (opening marks) e = (refl, refl)
calm st ss f closing e = (refl, refl)
calm st ss f (seeking w) e = (refl, refl)
calm st ss f (advancing w) e = (refl, refl)
calm st ss f (inserting w) e = (ap (λ (t : Bool). cond t (history.stored w ∷ []) []) e, (accepts (answer st (inserting w)) false e, refl, refl))
calm st ss f (deleting w) e = (ap (λ (t : Bool). cond t (history.removed (key_in (desc st) w) ∷ []) []) (not_done (answer st (deleting w)).number e), refl)
calm st ss f (updating w) e = (ap (λ (t : Bool). cond t (history.stored w ∷ []) []) e, refl)
calm st ss f (extending w) e =
    (ap (λ (t : Bool). cond t (history.stored w ∷ []) []) e, (accepts (answer st (extending w)) false e, omega arith, omega arith))

-- ---- refusals: the state is as it was given

module _ (st : State) (ss : List Section) (f : Free) where
  stays : (q : Request) (st₁ : State) (n : ℕ) → Sound st₁ ss f → desc st₁ ≡ desc st → accepted n ≡ false → answer st q ≡ unchanged st₁ n → Stepped st ss f q
  stays q st₁ n h d a e =
      step-calm st ss f q (subst (λ (z : Outcome). Sound z.after ss f) (sym e) h) (ap (λ (z : Outcome). desc z.after) e ∙ d)
      (calm st ss f q (ap (λ (z : Outcome). accepted z.number) e ∙ a)) (rw e (omega arith))

  module _ (h : Sound st ss f) where
    -- SEEK, whichever it answers
    seek-step : (w : List ℕ) → Gate (lending w st) ss f (lent-sound w st ss f h) (desc st).k → Stepped st ss f (seeking w)
    unfolding answer lending seek share event_of
    seek-step w (stopped n ne ac nf e) =
        stays (seeking w) (lending w st) n (lent-sound w st ss f h) refl ac (e (seek_steps (texts (lending w st)) st.session.flag w))
    seek-step w (ready r) = go (seek-right (lending w st) ss f r)
      where
        go : SeekRight (lending w st) ss f → Stepped st ss f (seeking w)
        go (inl (e, g, z)) = step-calm st ss f (seeking w) g.sound g.desc-is (refl, refl) g.most-is
        go (inr (y, e, g, z)) = step-calm st ss f (seeking w) g.sound g.desc-is (refl, refl) g.most-is

    adv-step : (w : List ℕ) → Dec (length w ≡ (desc st).wpr) → (u : Bool) → st.session.opened ≡ u → Stepped st ss f (advancing w)
    unfolding answer lending adv settle work_ok is_open share event_of
    adv-step w (no n) u e =
        stays (advancing w) (lending w st) wrong_size (lent-sound w st ss f h) refl refl
        (simp (sizes-pass (lending w st) ss f (lent-sound w st ss f h), ne_eqb (length w) (desc st).wpr n))
    adv-step w (yes l) false e =
        stays (advancing w) (lending w st) is_closed (lent-sound w st ss f h) refl refl
        (simp (sizes-pass (lending w st) ss f (lent-sound w st ss f h), eq-eqb (length w) (desc st).wpr l, e))
    adv-step w (yes l) true e =
        let a = adv-right (lending w st) ss f (lent-sound w st ss f h) e l in
        step-calm st ss f (advancing w) a.3.sound a.3.desc-is (refl, refl) a.3.most-is

    close-step : (u : Bool) → st.session.opened ≡ u → Stepped st ss f closing
    unfolding answer close close_checks close_done is_open share event_of
    close-step false e = stays closing st is_closed h refl refl (simp (sizes-pass st ss f h, e))
    close-step true e = let g = close-right st ss f h e in step-calm st ss f closing g.sound g.desc-is (refl, refl) g.most-is

    -- the key of a call that is ready
    ready-key : (w : List ℕ) (reads : ℕ) → (desc st).k ≤ reads → reads ≤ (desc st).wpr → Ready reads (lending w st) ss f → Key (desc st) (key_in (desc st) w)
    unfolding lending
    ready-key w reads l u r = key_of reads (lending w st) ss f r l u

    key_fits : (desc st).k ≤ (desc st).wpr
    key_fits = (good-facts (desc st) h.kept.good).key

    -- a call that is not accepted
    none-step : (q : Request) (w : List ℕ) (n m : ℕ) → Gives (lending w st) ss (answer st q) n m (records_in (leaves_in ss)) nothing ss f → accepted n ≡ false
        → m ≤ share q → Stepped st ss f q
    unfolding lending
    none-step q w n m g a l =
        step-calm st ss f q g.sound g.desc-is (calm st ss f q (ap accepted g.number-is ∙ a)) (omega (arith, g.most-is))

    -- NSERT and XTEND put in a record whose key was not there
    put_step : (q : Request) (w : List ℕ) → event_of (desc st) q (answer st q) ≡ cond (accepted (answer st q).number) (history.stored w ∷ []) []
        → Key (desc st) (key_in (desc st) w)
        → (n m : ℕ) (b : Growth) {ss' : List Section} {f' : Free}
        → Gives (lending w st) ss (answer st q) n m (ins (key (desc st).k) w (records_in (leaves_in ss))) b ss' f' → accepted n ≡ true
        → (1 ≡ accepted_by (answer st q) → Brought q (answer st q) b) → LastTells q b ss ss' → m ≤ most q b
        → Moved q (answer st q) b (tree_in ss f) (tree_in ss' f')
        → (1 ≡ accepted_by (answer st q) → disturbs q (answer st q) ≡ 0 → Filled (desc st) (tree_in ss f) → Filled (desc st) (tree_in ss' f'))
        → Stepped st ss f q
    unfolding lending
    put_step q w e k n m b {ss'} {f'} g a br lt l mv fl =
        let K : List ℕ → ℕ = key (desc st).k in
        let rows : List (List ℕ) = records_in (leaves_in ss) in
        let end : ℕ = reach (desc st).k 0 (leaves_in ss') in
        let asc : Asc K 0 (records_in (leaves_in ss')) end
        = subst (λ (z : Description). Asc (key z.k) 0 (records_in (leaves_in ss')) (reach z.k 0 (leaves_in ss'))) g.desc-is
        (asc-rows (desc (answer st q).after) _ _ ss' f' g.sound.kept.holds) in
        let none : hit K (K w) rows ≡ [] = ins-fresh K 0 w rows end (subst (λ (z : List (List ℕ)). Asc K 0 z end) g.contents-is asc) in
        let ok : accepted (answer st q).number ≡ true = ap accepted g.number-is ∙ a in
        step-stored st ss f q ss' f' g.sound g.desc-is w (e ∙ ap (λ (t : Bool). cond t (history.stored w ∷ []) []) ok)
        (g.contents-is ∙ ins-upd K (K w) _ rows (asc-rows (desc st) _ _ ss f h.kept.holds)
        (omega (arith, work-key (desc st) w, k.below, h.kept.holds.top)) w refl none)
        k b g.grows (br (accepts (answer st q) true ok)) lt (omega (arith, g.most-is)) mv (fl (accepts (answer st q) true ok))

    updat-step : (w : List ℕ) → Gate (lending w st) ss f (lent-sound w st ss f h) (desc st).wpr → Stepped st ss f (updating w)
    unfolding answer lending updat share event_of
    updat-step w (stopped n ne ac nf e) =
        stays (updating w) (lending w st) n (lent-sound w st ss f h) refl ac (e (updat_steps (texts (lending w st)) st.session.flag w))
    updat-step w (ready r) = go (updat-right (lending w st) ss f r)
      where
        go : UpdatRight (lending w st) ss f → Stepped st ss f (updating w)
        go (inl (e, g)) = none-step (updating w) w not_found 3 g refl (omega arith)
        go (inr (y, e, ss', f', g, mv, fl)) =
            step-stored st ss f (updating w) ss' f' g.sound g.desc-is w (ap (λ (m : ℕ). cond (accepted m) (history.stored w ∷ []) []) g.number-is)
            g.contents-is
            (ready-key w (desc st).wpr key_fits (omega arith) r) nothing g.grows refl tt g.most-is mv (λ e. fl)

    dlete-step : (w : List ℕ) → Gate (lending w st) ss f (lent-sound w st ss f h) (desc st).k → Stepped st ss f (deleting w)
    unfolding answer lending dlete share event_of disturbs
    dlete-step w (stopped n ne ac nf e) =
        stays (deleting w) (lending w st) n (lent-sound w st ss f h) refl ac (e (dlete_steps (texts (lending w st)) st.session.flag w))
    dlete-step w (ready r) = go (dlete-right (lending w st) ss f r)
      where
        go : DleteRight (lending w st) ss f → Stepped st ss f (deleting w)
        go (inl (e, g)) = none-step (deleting w) w not_found 3 g refl (omega arith)
        go (inr (y, e, ss', f', g, mv)) =
            step-removed st ss f (deleting w) ss' f' g.sound g.desc-is (key_in (desc st) w)
            (ap (λ (m : ℕ). cond (eqb m done) (history.removed (key_in (desc st) w) ∷ []) []) g.number-is) g.contents-is
            (ready-key w (desc st).k (omega arith) key_fits r) g.grows refl tt g.most-is
            (subst (λ (n : ℕ). Deletes (eqb n done) (tree_in ss f) (tree_in ss' f')) (sym g.number-is) mv)
            (disturbed _ (accepts (answer st (deleting w)) true (ap accepted g.number-is)))

    nsert-step : (w : List ℕ) → Gate (lending w st) ss f (lent-sound w st ss f h) (desc st).wpr → Stepped st ss f (inserting w)
    unfolding answer lending nsert share event_of disturbs
    nsert-step w (stopped n ne ac nf e) =
        stays (inserting w) (lending w st) n (lent-sound w st ss f h) refl ac (e (nsert_steps (texts (lending w st)) st.session.flag w))
    nsert-step w (ready r) = go (nsert-right (lending w st) ss f r)
      where
        kw : Key (desc st) (key_in (desc st) w)
        kw = ready-key w (desc st).wpr key_fits (omega arith) r

        go : Nserted (lending w st) ss f → Stepped st ss f (inserting w)
        go (duplicate y e g) = none-step (inserting w) w not_found 3 g refl (omega arith)
        go (no_room_lem e a i l m g) = none-step (inserting w) w no_room 3 g refl (omega arith)
        go (room e a i l g) =
            put_step (inserting w) w refl kw _ 3 a_record g (stored-accepted (desc st) _ f) (λ b. (b, refl, refl)) tt (omega arith)
            (room-blocks (lending w st) ss f a i) (disturbed _)
        go (split e a i l m s k q g) =
            put_step (inserting w) w refl kw _ 7 a_split g (stored-accepted (desc st) _ (taken f)) (λ b. (b, refl, refl)) tt (omega arith)
            (split-blocks (lending w st) ss f a i) (disturbed _)
        go (both e a i l m s c k q g) =
            put_step (inserting w) w refl kw _ 8 both_split g (stored-accepted (desc st) _ (taken (taken f))) (λ b. (b, refl, refl)) tt (omega arith)
            (both-blocks (lending w st) ss f a i m (good-facts (desc st) h.kept.good).two-entries) (disturbed _)

    xtend-step : (w : List ℕ) → Gate (lending w st) ss f (lent-sound w st ss f h) (desc st).wpr → Stepped st ss f (extending w)
    unfolding answer lending xtend share event_of
    xtend-step w (stopped n ne ac nf e) =
        stays (extending w) (lending w st) n (lent-sound w st ss f h) refl ac (e (xtend_steps (texts (lending w st)) st.session.flag w))
    xtend-step w (ready r) = let z = x.xtend-right (lending w st) ss f r in go z.0 z.1
      where
        kw : Key (desc st) (key_in (desc st) w)
        kw = ready-key w (desc st).wpr key_fits (omega arith) r

        -- as NSERT: not into a file that XTEND alone has filled
        as-nsert : (L : Last (texts (lending w st)) st.session.flag ss f) → L.front ≡ []
            → val (key_in (desc st) w) < lo (desc st) (ending L.before L.index L.low L.leaf)
            → Asc (key (desc st).k) 0 (records_in (leaves_before (ending L.before L.index L.low L.leaf))) (val (key_in (desc st) w))
            → Stores (xtend (lending w st)) 3 (lending w st) ss f → Stepped st ss f (extending w)
        as-nsert L e l s (duplicate y u g) = none-step (extending w) w not_found 6 g refl (omega arith)
        as-nsert L e l s (no_room_lem u a i v m g) = none-step (extending w) w no_room 6 g refl (omega arith)
        as-nsert L e l s (room u a i v g) =
            put_step (extending w) w refl kw _ 6 a_record g (stored-accepted (desc st) _ f) (λ b. (b, omega arith, omega arith))
            (inl (refl, refl, with-last (lending w st) ss f L l a i (with_rows (desc st) a.leaf (rows_with (lending w st) a) ∷ []))) (omega arith)
            (room-blocks (lending w st) ss f a i) (λ c d z. absurd (not-filled (lending w st) ss f L z l s h.kept.holds.sized))
        as-nsert L e l s (split u a i v m o k q g) =
            put_step (extending w) w refl kw _ 10 a_split g (stored-accepted (desc st) _ (taken f)) (λ b. (b, omega arith, omega arith))
            (inl (refl, refl, with-last (lending w st) ss f L l a i (halves (lending w st) f a))) (omega arith)
            (split-blocks (lending w st) ss f a i) (λ c d z. absurd (not-filled (lending w st) ss f L z l s h.kept.holds.sized))
        as-nsert L e l s (both u a i v m o c k q g) =
            let two : 2 ≤ I (desc st) = (good-facts (desc st) h.kept.good).two-entries in
            put_step (extending w) w refl kw _ 11 both_split g (stored-accepted (desc st) _ (taken (taken f))) (λ b. (b, omega arith, omega arith))
            (inl (refl, refl, both-last (lending w st) ss f L l a i m two)) (omega arith)
            (both-blocks (lending w st) ss f a i m two) (λ c d z. absurd (not-filled (lending w st) ss f L z l s h.kept.holds.sized))

        go : (L : Last (texts (lending w st)) st.session.flag ss f) → x.Xtended (lending w st) ss f L → Stepped st ss f (extending w)
        go L (x.too-low fr y e l g) = none-step (extending w) w out_of_sequence 4 g refl (omega arith)
        go L (x.too-low-alone e l hs g) = none-step (extending w) w out_of_sequence 6 g refl (omega arith)
        go L (x.before e l s n a y) = as-nsert L e l s y
        go L (x.no_room_lem iq l m g) = none-step (extending w) w no_room 4 g refl (omega arith)
        go L (x.room iq l g) =
            put_step (extending w) w refl kw _ 4 a_record g (stored-accepted (desc st) _ f) (λ b. (b, omega arith, omega arith))
            (inl (refl, refl, record-last (lending w st) ss f L)) (omega arith)
            (record-blocks (lending w st) ss f L) (λ e d h. record-filled (lending w st) ss f L h l)
        go L (x.started iq l m s g) =
            put_step (extending w) w refl kw _ 7 a_start g (stored-accepted (desc st) _ (taken f)) (λ b. (b, omega arith, omega arith))
            (inr (refl, refl, start-last (lending w st) ss f L h.kept.holds s)) (omega arith)
            (start-blocks (lending w st) ss f L)
            (λ e d z. start-filled (lending w st) ss f L z h.kept.good l m)
        go L (x.both iq l m s c g) =
            put_step (extending w) w refl kw _ 8 both_start g (stored-accepted (desc st) _ (taken (taken f))) (λ b. (b, omega arith, omega arith))
            (inr (refl, refl, section-last (lending w st) ss f L h.kept.holds (omega arith))) (omega arith)
            (start-both-blocks (lending w st) ss f L)
            (λ e d z. start-both-filled (lending w st) ss f L z h.kept.good l m)

    -- OPEN: refused, or the file as it is
    open-left : (marks : List ℕ) (c : Checked Bool) → open_checks st marks ≡ c
        → Sound (open_done st marks c).outcome.after ss f × (desc (open_done st marks c).outcome.after ≡ desc st) ×
        (length (open_done st marks c).outcome.transfers ≤ 0)
    unfolding open_checks open_done open_layout at_rest
    open-left marks (refused n) e = (h, refl, omega arith)
    open-left marks (passed t) e = go (layout_marks (desc st) st.file)
      where
        closed : not st.session.opened ≡ true
        closed = last-test (sizes_ok st) (require (eqb (length marks) (desc st).n) wrong_size) (not st.session.opened) already_open t e

        go : (d : Checked (List ℕ))
            → Sound (open_layout st d).outcome.after ss f × (desc (open_layout st d).outcome.after ≡ desc st)
            × (length (open_layout st d).outcome.transfers ≤ 0)
        go (refused n) = (h, refl, omega arith)
        go (passed m) = (opened-sound st ss f h (not-true _ closed), refl, omega arith)

    open_step : (marks : List ℕ) → Stepped st ss f (opening marks)
    unfolding answer open_file share event_of
    open_step marks =
        let z = open-left marks (open_checks st marks) refl in
        step-calm st ss f (opening marks) z.0 z.1 (refl, refl) z.2

-- every call from a sound state
pub stepped : (st : State) (ss : List Section) (f : Free) → Sound st ss f → (q : Request) → Stepped st ss f q
stepped st ss f h (opening marks) = open_step st ss f h marks
stepped st ss f h closing = close-step st ss f h st.session.opened refl
stepped st ss f h (seeking w) = seek-step st ss f h w (gate (lending w st) ss f (lent-sound w st ss f h) (desc st).k)
stepped st ss f h (advancing w) = adv-step st ss f h w (ℕ_discrete (length w) (desc st).wpr) st.session.opened refl
stepped st ss f h (inserting w) = nsert-step st ss f h w (gate (lending w st) ss f (lent-sound w st ss f h) (desc st).wpr)
stepped st ss f h (deleting w) = dlete-step st ss f h w (gate (lending w st) ss f (lent-sound w st ss f h) (desc st).k)
stepped st ss f h (updating w) = updat-step st ss f h w (gate (lending w st) ss f (lent-sound w st ss f h) (desc st).wpr)
stepped st ss f h (extending w) = xtend-step st ss f h w (gate (lending w st) ss f (lent-sound w st ss f h) (desc st).wpr)
