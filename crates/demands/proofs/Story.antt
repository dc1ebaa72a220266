-- What a run of calls has done to the records, with adding, replacing and taking out told apart.
use Prim.Native.Nat.{ℕ, ◌≤◌}
use mathlib.Core.Bool.{Bool, true, false, cond}
use mathlib.Core.Logic.{inl, inr}
use mathlib.Core.Path.{◌≡◌, refl, sym, ap, ◌∙◌, subst}
use mathlib.Core.List.{List, [], ◌∷◌, ◌++◌, map}
use native.Mathlib.Omega.{arith}
use lib.Dec.{eqb}
use borrow.Author.Tests.{eqb-true}
use Rattle.numbers.specs.Numbers.{done, accepted}
use Rattle.words.specs.Keys.{ones, same_key, val}
use Rattle.words.proofs.Values.{same_key-val}
use Rattle.drum.specs.declared.Description.{Description}
use Rattle.layout.specs.Tree.{Section}
use Rattle.rules.specs.State.{State, Outcome, desc, texts, key_in}
use Rattle.rules.specs.Open.{open_file}
use Rattle.rules.specs.Seek.{updat, updat_steps}
use Rattle.rules.specs.NsertDone.{nsert, nsert_steps}
use Rattle.rules.specs.XtendDone.{xtend, xtend_steps}
use Rattle.rules.specs.Requests.{Request, opening, closing, seeking, advancing, inserting, deleting, updating, extending, lending, answer, left}
use Rattle.demands.specs.History as history
use Rattle.demands.specs.History.{event_of, events, with_key}
use Rattle.demands.specs.Story.{Deed, added, replaced, removed, deed_of, deeds, added-to, in_place, stands, SeekTells}
use Rattle.demands.proofs.Scene.{scene}
use Rattle.demands.proofs.Refused.{impossible}
use Rattle.demands.proofs.Lists.{All}
use Rattle.demands.proofs.Order.{Asc, ins, hit}
use Rattle.demands.proofs.Trees.{leaves_in, records_in, key, reach}
use Rattle.demands.proofs.Holds.{Free, RowOk}
use Rattle.demands.proofs.Records.{rows_of, rows_ok}
use Rattle.demands.proofs.Sound.{Key, Sound}
use Rattle.demands.proofs.Answers.{work-key, Gives}
use Rattle.demands.proofs.Stores.{asc-rows}
use Rattle.demands.proofs.Growth.{Growth}
use Rattle.demands.proofs.Step.{Gate, stopped, ready, gate, lent-sound, sound-run}
use Rattle.demands.proofs.Last.{Last}
use Rattle.demands.proofs.Seek.{UpdatRight, updat-right}
use Rattle.demands.proofs.NsertRight.{Nserted, duplicate, room, split, both, no_room_lem, nsert-right}
use Rattle.demands.proofs.XtendRight as x
use Rattle.demands.proofs.History.{found-exactly}
use Rattle.demands.proofs.History as his
use Rattle.demands.proofs.Stepped.{numbered, KeyOf, Stepped}
use Rattle.demands.proofs.Calls.{ins-fresh, stepped}
use Rattle.demands.proofs.Standing.{tells, with-hit, standing-same, events-keyed, ordered, seek-hands}
use Rattle.demands.proofs.Opens.{Opens}
use Rattle.demands.proofs.Demands.{opens, opened-desc, found-after-open}
use Rattle.demands.proofs.Sought.{found-or-not}

standing-append : (p : Description) (k : List ℕ) (es gs : List history.Event) (was : List (List ℕ))
    → history.standing p k (es ++ gs) was ≡ history.standing p k gs (history.standing p k es was)
unfolding history.standing
standing-append p k [] gs was = refl
standing-append p k (history.stored r ∷ es) gs was = standing-append p k es gs _
standing-append p k (history.removed y ∷ es) gs was = standing-append p k es gs _

stands-append : (p : Description) (k : List ℕ) (es gs : List Deed) (was : List (List ℕ)) → stands p k (es ++ gs) was ≡ stands p k gs (stands p k es was)
unfolding stands
stands-append p k [] gs was = refl
stands-append p k (added r ∷ es) gs was = stands-append p k es gs _
stands-append p k (replaced r ∷ es) gs was = stands-append p k es gs _
stands-append p k (removed y ∷ es) gs was = stands-append p k es gs _

module _ (st : State) (ss : List Section) (f : Free) (h : Sound st ss f) where
  open scene st ss use {p, K, rows}
  open ordered st ss f h use {kr, asc}

  -- a record that comes in had no other with its key
  fresh-by : (w : List ℕ) (o : Outcome) {n m : ℕ} {b : Growth} {ss' : List Section} {f' : Free} → Gives (lending w st) ss o n m (ins K w rows) b ss' f'
      → hit K (val (key_in p w)) rows ≡ []
  unfolding lending
  fresh-by w o {n} {m} {b} {ss'} {f'} g =
      let end : ℕ = reach p.k 0 (leaves_in ss') in
      let up : Asc K 0 (records_in (leaves_in ss')) end
      = subst (λ (z : Description). Asc (key z.k) 0 (records_in (leaves_in ss')) (reach z.k 0 (leaves_in ss'))) g.desc-is
      (asc-rows (desc o.after) _ _ ss' f' g.sound.kept.holds) in
      ap (λ (n : ℕ). hit K n rows) (sym (work-key p w)) ∙ ins-fresh K 0 w rows end (subst (λ (z : List (List ℕ)). Asc K 0 z end) g.contents-is up)

  pub nsert-fresh : (w : List ℕ) → accepted (answer st (inserting w)).number ≡ true → hit K (val (key_in p w)) rows ≡ []
  unfolding answer lending nsert
  nsert-fresh w a = go (gate (lending w st) ss f (lent-sound w st ss f h) p.wpr)
    where
      by : Nserted (lending w st) ss f → hit K (val (key_in p w)) rows ≡ []
      by (duplicate y e g) = impossible (sym a ∙ ap accepted g.number-is)
      by (room e a B l g) = e
      by (split e a B l m s k q g) = e
      by (both e a B l m s c k q g) = e
      by (no_room_lem e a B l m g) = e

      go : Gate (lending w st) ss f (lent-sound w st ss f h) p.wpr → hit K (val (key_in p w)) rows ≡ []
      go (stopped n ne ac nf e) =
          impossible (sym a ∙ ap (λ (o : Outcome). accepted o.number) (e (nsert_steps (texts (lending w st)) st.session.flag w)) ∙ ac)
      go (ready r) = by (nsert-right (lending w st) ss f r)

  xtend-fresh : (w : List ℕ) → accepted (answer st (extending w)).number ≡ true → hit K (val (key_in p w)) rows ≡ []
  unfolding answer lending xtend
  xtend-fresh w a = go (gate (lending w st) ss f (lent-sound w st ss f h) p.wpr)
    where
      by : (L : Last (texts (lending w st)) st.session.flag ss f) → x.Xtended (lending w st) ss f L → hit K (val (key_in p w)) rows ≡ []
      by L (x.too-low fr y e l g) = impossible (sym a ∙ ap accepted g.number-is)
      by L (x.too-low-alone e l hs g) = impossible (sym a ∙ ap accepted g.number-is)
      by L (x.no_room_lem iq l m g) = impossible (sym a ∙ ap accepted g.number-is)
      by L (x.before e l s n i y) = n
      by L (x.room iq l g) = fresh-by w (answer st (extending w)) g
      by L (x.started iq l m s g) = fresh-by w (answer st (extending w)) g
      by L (x.both iq l m s c g) = fresh-by w (answer st (extending w)) g

      go : Gate (lending w st) ss f (lent-sound w st ss f h) p.wpr → hit K (val (key_in p w)) rows ≡ []
      go (stopped n ne ac nf e) =
          impossible (sym a ∙ ap (λ (o : Outcome). accepted o.number) (e (xtend_steps (texts (lending w st)) st.session.flag w)) ∙ ac)
      go (ready r) = let z = x.xtend-right (lending w st) ss f r in by z.0 z.1

  pub updat-there : (w : List ℕ) → accepted (answer st (updating w)).number ≡ true → (y : List ℕ) × (hit K (val (key_in p w)) rows ≡ y ∷ [])
  unfolding answer lending updat
  updat-there w a = go (gate (lending w st) ss f (lent-sound w st ss f h) p.wpr)
    where
      by : UpdatRight (lending w st) ss f → (y : List ℕ) × (hit K (val (key_in p w)) rows ≡ y ∷ [])
      by (inl (e, g)) = impossible (sym a ∙ ap accepted g.number-is)
      by (inr (y, e, ss', f', g, c, d)) = (y, e)

      go : Gate (lending w st) ss f (lent-sound w st ss f h) p.wpr → (y : List ℕ) × (hit K (val (key_in p w)) rows ≡ y ∷ [])
      go (stopped n ne ac nf e) =
          impossible (sym a ∙ ap (λ (o : Outcome). accepted o.number) (e (updat_steps (texts (lending w st)) st.session.flag w)) ∙ ac)
      go (ready r) = by (updat-right (lending w st) ss f r)

  module _ (k : List ℕ) (kk : Key (desc st) k) where
    with-is : with_key p k rows ≡ hit K (val k) rows
    with-is = with-hit p kr k kk 0 rows _ asc (rows_of p (leaves_in ss) (rows_ok p ss h.kept.holds.sized))

    -- the same key
    same-hit : (w : List ℕ) → Key p (key_in p w) → same_key (key_in p w) k ≡ true → with_key p k rows ≡ hit K (val (key_in p w)) rows
    same-hit w kw e =
        let v : val (key_in p w) ≡ val k
        = eqb-true (val (key_in p w)) (val k) (sym (same_key-val (key_in p w) k kw.wide kk.wide (kw.long ∙ sym kk.long)) ∙ e) in
        with-is ∙ ap (λ (n : ℕ). hit K n rows) (sym v)

    added-as : (w : List ℕ) → Key p (key_in p w) → hit K (val (key_in p w)) rows ≡ []
        → history.standing p k (history.stored w ∷ []) (with_key p k rows) ≡ stands p k (added w ∷ []) (with_key p k rows)
    unfolding history.standing stands added-to
    added-as w kw none = go (same_key (key_in p w) k) refl
      where
        go : (t : Bool) → same_key (key_in p w) k ≡ t → cond t (w ∷ []) (with_key p k rows) ≡ cond t (added-to w (with_key p k rows)) (with_key p k rows)
        go true e = sym (ap (added-to w) (same-hit w kw e ∙ none))
        go false e = refl

    replaced-as : (w : List ℕ) → Key p (key_in p w) → (y : List ℕ) → hit K (val (key_in p w)) rows ≡ y ∷ []
        → history.standing p k (history.stored w ∷ []) (with_key p k rows) ≡ stands p k (replaced w ∷ []) (with_key p k rows)
    unfolding history.standing stands in_place
    replaced-as w kw y one = go (same_key (key_in p w) k) refl
      where
        go : (t : Bool) → same_key (key_in p w) k ≡ t → cond t (w ∷ []) (with_key p k rows) ≡ cond t (in_place w (with_key p k rows)) (with_key p k rows)
        go true e = sym (ap (in_place w) (same-hit w kw e ∙ one))
        go false e = refl

    -- one call
    abbrev Same : List history.Event → List Deed → Type 0
    Same es ds =
        history.standing (desc st) k es (with_key (desc st) k (records_in (leaves_in ss))) ≡ stands (desc st) k ds
        (with_key (desc st) k (records_in (leaves_in ss)))

    none-same : Same [] []
    unfolding history.standing stands
    none-same = refl

    removed-same : (y : List ℕ) → Same (history.removed y ∷ []) (removed y ∷ [])
    unfolding history.standing stands
    removed-same y = refl

    if-same : (t : Bool) (e : history.Event) (d : Deed) → All (KeyOf p) (cond t (e ∷ []) []) → (t ≡ true → KeyOf p e → Same (e ∷ []) (d ∷ []))
        → Same (cond t (e ∷ []) []) (cond t (d ∷ []) [])
    if-same true e d ks z = z refl ks.0
    if-same false e d ks z = none-same

    call_same : (q : Request) → All (KeyOf p) (event_of p q (answer st q)) → Same (event_of p q (answer st q)) (deed_of p q (answer st q))
    unfolding event_of deed_of
    call_same (opening marks) ks = none-same
    call_same closing ks = none-same
    call_same (seeking w) ks = none-same
    call_same (advancing w) ks = none-same
    call_same (inserting w) ks = if-same (accepted (answer st (inserting w)).number) (history.stored w) (added w) ks (λ a kw. added-as w kw (nsert-fresh w a))
    call_same (deleting w) ks =
        if-same (eqb (answer st (deleting w)).number done) (history.removed (key_in p w)) (removed (key_in p w)) ks (λ a kw. removed-same (key_in p w))
    call_same (updating w) ks =
        if-same (accepted (answer st (updating w)).number) (history.stored w) (replaced w) ks
        (λ a kw. let y = updat-there w a in replaced-as w kw y.0 y.1)
    call_same (extending w) ks = if-same (accepted (answer st (extending w)).number) (history.stored w) (added w) ks (λ a kw. added-as w kw (xtend-fresh w a))

    -- the records with the key after the call
    with-after : (q : Request) (z : Stepped st ss f q)
        → with_key p k (records_in (leaves_in z.sections)) ≡ history.standing p k (event_of p q (answer st q)) (with_key p k rows)
    with-after q z =
        let es : List history.Event = event_of p q (answer st q) in
        let top : ℕ = reach p.k 0 (leaves_in ss) in
        let below_top : val (ones p.k) ≤ top = omega (arith, h.kept.holds.top) in
        let z-asc : Asc K 0 (records_in (leaves_in z.sections)) (reach p.k 0 (leaves_in z.sections))
        = subst (λ (d : Description). Asc (key d.k) 0 (records_in (leaves_in z.sections)) (reach d.k 0 (leaves_in z.sections))) z.desc-is
        (asc-rows (desc (answer st q).after) _ _ z.sections z.free z.sound.kept.holds) in
        let z-ok = subst (λ (d : Description). All (λ r. RowOk d r) (records_in (leaves_in z.sections))) z.desc-is
        (rows_of (desc (answer st q).after) (leaves_in z.sections) (rows_ok (desc (answer st q).after) z.sections z.sound.kept.holds.sized)) in
        with-hit p kr k kk 0 (records_in (leaves_in z.sections)) _ z-asc z-ok ∙ ap (hit K (val k)) z.contents-is
        ∙ found-exactly K top (map numbered es) rows asc (events-keyed p kr k kk top below_top es z.keys) (val k) (omega (arith, kk.below))
        ∙ ap (h-standing es) (sym with-is) ∙ sym (standing-same p kr k kk es _ z.keys)
      where
        h-standing : List history.Event → List (List ℕ) → List (List ℕ)
        h-standing es was = his.last_put K (val k) (map numbered es) was

-- a run of calls
run-same : (p : Description) (k : List ℕ) → Key p k → (qs : List Request) (st : State) (ss : List Section) (f : Free) → Sound st ss f → desc st ≡ p
    → history.standing p k (events st qs) (with_key p k (records_in (leaves_in ss))) ≡ stands p k (deeds st qs) (with_key p k (records_in (leaves_in ss)))
unfolding events deeds
run-same p k kk [] st ss f h e = unfold history.standing stands in refl
run-same p k kk (q ∷ qs) st ss f h e =
    let z : Stepped st ss f q = stepped st ss f h q in
    let es : List history.Event = event_of (desc st) q (answer st q) in
    let ds : List Deed = deed_of (desc st) q (answer st q) in
    let was : List (List ℕ) = with_key p k (records_in (leaves_in ss)) in
    let kd : Key (desc st) k = subst (λ (d : Description). Key d k) (sym e) kk in
    let now : history.standing p k es was ≡ stands p k ds was
    = subst (λ (d : Description). history.standing d k es (with_key d k (records_in (leaves_in ss))) ≡ stands d k ds (with_key d k (records_in (leaves_in ss)))) e
    (call_same st ss f h k kd q z.keys) in
    let then : with_key p k (records_in (leaves_in z.sections)) ≡ history.standing p k es was
    = subst (λ (d : Description). with_key d k (records_in (leaves_in z.sections)) ≡ history.standing d k es (with_key d k (records_in (leaves_in ss)))) e
    (with-after st ss f h k kd q z) in
    standing-append p k es (events (answer st q).after qs) was
    ∙ ap (history.standing p k (events (answer st q).after qs)) (sym then)
    ∙ run-same p k kk qs (answer st q).after z.sections z.free z.sound (z.desc-is ∙ e)
    ∙ ap (stands p k (deeds (answer st q).after qs)) (then ∙ now)
    ∙ sym (stands-append p k ds (deeds (answer st q).after qs) was)

pub seek-tells : SeekTells
unfolding answer lending
seek-tells st marks o =
    let z : Opens st marks = opens st marks o in
    let opened : State = (open_file st marks).outcome.after in
    let d : desc opened ≡ desc st = opened-desc st marks o in (
      z.tree,
      z.stands,
      λ qs w q.
          let r = sound-run opened z.tree.sections _ z.sound qs in
          let now : State = left opened qs in
          let u = found-or-not (lending w now) r.0 r.1 (lent-sound w now r.0 r.1 r.2) q in
          let t = tells (desc st) qs opened z.tree.sections _ z.sound d in
          let s
          = seek-hands now t.sections t.free t.sound w u
          (gate (lending w now) t.sections t.free (lent-sound w now t.sections t.free t.sound) (desc now).k) in
          let kk : Key (desc st) (key_in (desc st) w) = subst (λ (p : Description). Key p (key_in p w)) t.desc-is s.0 in
          found-after-open st marks o z.tree z.stands qs w u
          ∙ run-same (desc st) (key_in (desc st) w) kk qs opened z.tree.sections _ z.sound d,
    )
