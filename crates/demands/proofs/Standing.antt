-- Demand 2 over a run: from a sound state, any calls, a SEEK that is not refused hands out exactly what stands under its key.
use Prim.Native.Nat.{ℕ, suc, ◌≤◌, ◌<◌}
use mathlib.Core.Bool.{Bool, true, cond}
use mathlib.Core.Logic.{◌⊎◌, inl, inr}
use mathlib.Core.Path.{◌≡◌, refl, sym, ap, ◌∙◌, subst}
use mathlib.Core.List.{List, [], ◌∷◌, map}
use native.Mathlib.Omega.{arith}
use lib.Dec.{eqb}
use lib.ListN.{length}
use borrow.Author.Tests.{lt-ltb, le-ltb, eq-eqb, ne_eqb}
use Rattle.numbers.specs.Numbers.{accepted, done, not_found}
use Rattle.words.specs.Words.{part, all_words}
use Rattle.words.specs.Keys.{ones, val, same_key}
use Rattle.words.proofs.Keys.{clash, Tri, tri, lt, eq, gt}
use Rattle.words.proofs.Values.{same_key-val}
use Rattle.drum.specs.declared.Description.{Description}
use Rattle.drum.proofs.Good.{good-facts}
use Rattle.layout.specs.Tree.{Section}
use Rattle.rules.specs.State.{State, Outcome, desc, texts, key_in}
use Rattle.rules.specs.Seek.{seek, seek_steps}
use Rattle.rules.specs.Requests.{Request, seeking, lending, answer, left}
use Rattle.demands.specs.History.{event_of, events, with_key, handed}
use Rattle.demands.specs.History as history
use Rattle.demands.proofs.Lists.{All, all_append, map-append}
use Rattle.demands.proofs.Order.{Asc, asc-wide, below, from, from-above, below-above, hit}
use Rattle.demands.proofs.Trees.{leaves_in, records_in, key, reach}
use Rattle.demands.proofs.Holds.{Free, RowOk}
use Rattle.demands.proofs.Records.{key-long}
use Rattle.demands.proofs.Records.{rows_of, rows_ok}
use Rattle.demands.proofs.Sound.{Key, Sound}
use Rattle.demands.proofs.Answers.{key_of, work-key}
use Rattle.demands.proofs.Stores.{asc-rows}
use Rattle.demands.proofs.Seek.{SeekRight, seek-right}
use Rattle.demands.proofs.History.{Change, happened, happened-append, last_put, KeyedBy, found-exactly}
use Rattle.demands.proofs.Stepped.{numbered, KeyOf, Stepped}
use Rattle.demands.proofs.Step.{Gate, stopped, ready, gate, lent-sound}
use Rattle.demands.proofs.Calls.{stepped}

-- ---- the records with a key, of an ascending list

-- a list that starts above the key has none with it
hit-above : {A : Type 0} (K : A → ℕ) (x lo : ℕ) (ys : List A) (hi : ℕ) → Asc K lo ys hi → x < lo → hit K x ys ≡ []
unfolding hit
hit-above K x lo ys hi h l =
    ap (below K (suc x)) (from-above K x ys hi (asc-wide K lo x ys hi hi h (omega arith) (omega arith)))
    ∙ below-above K (suc x) ys hi (asc-wide K lo (suc x) ys hi hi h l (omega arith))

module _ (p : Description) (kr : p.k ≤ p.wpr) (w : List ℕ) (kw : Key p w) where
  abbrev K : List ℕ → ℕ
  K = key p.k

  -- equal keys are equal numbers
  same-is : (x : List ℕ) → length x ≡ p.k → all_words x ≡ true → same_key x w ≡ eqb (val x) (val w)
  same-is x l a = same_key-val x w a kw.wide (l ∙ sym kw.long)

  row_same : (r : List ℕ) → RowOk p r → same_key (key_in p r) w ≡ eqb (K r) (val w)
  unfolding key part
  row_same r ok = same-is (key_in p r) (key-long p kr r ok).0 (key-long p kr r ok).1

  pub with-hit : (lo : ℕ) (rows : List (List ℕ)) (hi : ℕ) → Asc K lo rows hi → All (RowOk p) rows → with_key p w rows ≡ hit K (val w) rows
  unfolding with_key hit below from
  with-hit lo [] hi h ok = refl
  with-hit lo (r ∷ rows) hi h ok = go (tri (K r) (val w)) (with-hit (suc (K r)) rows hi h.1 ok.1)
    where
      go : Tri (K r) (val w) → with_key p w rows ≡ hit K (val w) rows → with_key p w (r ∷ rows) ≡ hit K (val w) (r ∷ rows)
      go (lt l) e = rw (row_same r ok.0, ne_eqb (K r) (val w) (λ z. omega arith), lt-ltb (K r) (val w) l) e
      go (eq q) e =
          rw (row_same r ok.0, eq-eqb (K r) (val w) q, le-ltb (K r) (val w) (omega arith), lt-ltb (K r) (suc (val w)) (omega arith))
          (ap (λ (z : List (List ℕ)). r ∷ z) (e ∙ hit-above K (val w) (suc (K r)) rows hi h.1 (omega arith) ∙ sym
          (below-above K (suc (val w)) rows hi (asc-wide K (suc (K r)) (suc (val w)) rows hi hi h.1 (omega arith) (omega arith)))))
      go (gt g) e =
          rw (row_same r ok.0, ne_eqb (K r) (val w) (λ z. omega arith), le-ltb (K r) (val w) (omega arith), le-ltb (K r) (suc (val w)) g)
          (e ∙ hit-above K (val w) (suc (K r)) rows hi h.1 (omega arith))

  -- ---- what stands under a key, by words and by numbers

  pub standing-same : (es : List history.Event) (d : List (List ℕ)) → All (KeyOf p) es → history.standing p w es d ≡ last_put K (val w) (map numbered es) d
  unfolding history.standing last_put numbered
  standing-same [] d h = refl
  standing-same (history.stored r ∷ es) d h =
      ap (λ (t : Bool). history.standing p w es (cond t (r ∷ []) d))
      (same-is (key_in p r) h.0.long h.0.wide ∙ ap (λ (n : ℕ). eqb n (val w)) (sym (work-key p r)))
      ∙ standing-same es _ h.1
  standing-same (history.removed y ∷ es) d h =
      ap (λ (t : Bool). history.standing p w es (cond t [] d)) (same-is y h.0.long h.0.wide) ∙ standing-same es _ h.1

  pub events-keyed : (top : ℕ) → val (ones p.k) ≤ top → (es : List history.Event) → All (KeyOf p) es → KeyedBy K top (map numbered es)
  unfolding numbered
  events-keyed top l [] h = tt
  events-keyed top l (history.stored r ∷ es) h = (omega (arith, h.0.below, work-key p r), events-keyed top l es h.1)
  events-keyed top l (history.removed y ∷ es) h = (omega (arith, h.0.below), events-keyed top l es h.1)

-- ---- the contents after a run

pub record TellsTree (p : Description) (st : State) (ss : List Section) (qs : List Request) : Type 0 where
  pub sections : List Section
  pub free : Free
  pub sound : Sound (left st qs) sections free
  pub desc-is : desc (left st qs) ≡ p
  pub contents-is : records_in (leaves_in sections) ≡ happened (key p.k) (map numbered (events st qs)) (records_in (leaves_in ss))
  pub keys : All (KeyOf p) (events st qs)

told_more : (p : Description) (st : State) (ss : List Section) (f : Free) (q : Request) (qs : List Request) → desc st ≡ p → (z : Stepped st ss f q)
    → TellsTree p (answer st q).after z.sections qs → TellsTree p st ss (q ∷ qs)
unfolding left events
told_more p st ss f q qs e z r = record {
  sections = r.sections;
  free = r.free;
  sound = r.sound;
  desc-is = r.desc-is;
  contents-is =
      let es : List history.Event = event_of (desc st) q (answer st q) in
      let gs : List history.Event = events (answer st q).after qs in
      let c : records_in (leaves_in z.sections) ≡ happened (key p.k) (map numbered es) (records_in (leaves_in ss))
      = subst (λ (d : Description). records_in (leaves_in z.sections) ≡ happened (key d.k) (map numbered es) (records_in (leaves_in ss))) e
      z.contents-is in
      r.contents-is ∙ ap (happened (key p.k) (map numbered gs)) c
      ∙ sym (happened-append (key p.k) (map numbered es) (map numbered gs) (records_in (leaves_in ss)))
      ∙ ap (λ (m : List (Change (List ℕ))). happened (key p.k) m (records_in (leaves_in ss))) (sym (map-append numbered es gs));
  keys =
      all_append (KeyOf p) (event_of (desc st) q (answer st q)) (events (answer st q).after qs)
      (subst (λ (d : Description). All (KeyOf d) (event_of (desc st) q (answer st q))) e z.keys) r.keys;
}

-- any calls, refused or not, closing and reopening included
pub tells : (p : Description) (qs : List Request) (st : State) (ss : List Section) (f : Free) → Sound st ss f → desc st ≡ p → TellsTree p st ss qs
tells p [] st ss f h e = record {
  sections = ss;
  free = f;
  sound = unfold left in h;
  desc-is = unfold left in e;
  contents-is = unfold events happened in refl;
  keys = unfold events in tt;
}
tells p (q ∷ qs) st ss f h e =
    let z : Stepped st ss f q = stepped st ss f h q in
    told_more p st ss f q qs e z (tells p qs (answer st q).after z.sections z.free z.sound (z.desc-is ∙ e))

-- ---- SEEK

-- the records of a sound state: they ascend and are as long as they must be, and a key is no longer than a record
pub record Ordered (st : State) (ss : List Section) : Type 0 where
  pub kr : (desc st).k ≤ (desc st).wpr
  pub asc : Asc (key (desc st).k) 0 (records_in (leaves_in ss)) (reach (desc st).k 0 (leaves_in ss))
  pub ok : All (RowOk (desc st)) (records_in (leaves_in ss))

pub ordered : (st : State) (ss : List Section) (f : Free) → Sound st ss f → Ordered st ss
ordered st ss f h = record {
  kr = (good-facts (desc st) h.kept.good).key;
  asc = asc-rows (desc st) _ _ ss f h.kept.holds;
  ok = rows_of (desc st) (leaves_in ss) (rows_ok (desc st) ss h.kept.holds.sized);
}

-- a SEEK that is not refused hands out the record with its key, if there is one
pub seek-hands : (st : State) (ss : List Section) (f : Free) (h : Sound st ss f) (w : List ℕ)
    → ((answer st (seeking w)).number ≡ done) ⊎ ((answer st (seeking w)).number ≡ not_found)
    → Gate (lending w st) ss f (lent-sound w st ss f h) (desc st).k
    → Key (desc st) (key_in (desc st) w) × (handed (answer st (seeking w)) ≡ hit (key (desc st).k) (val (key_in (desc st) w)) (records_in (leaves_in ss)))
unfolding answer lending seek handed
seek-hands st ss f h w u (stopped n ne ac nf e) = absurd (refuse u)
  where
    is : (answer st (seeking w)).number ≡ n
    is = ap (λ (z : Outcome). z.number) (e (seek_steps (texts (lending w st)) st.session.flag w))

    refuse : ((answer st (seeking w)).number ≡ done) ⊎ ((answer st (seeking w)).number ≡ not_found) → ⊥
    refuse (inl d) = clash (sym (ap accepted (sym is ∙ d)) ∙ ac)
    refuse (inr d) = nf (sym is ∙ d)
seek-hands st ss f h w u (ready r) =
    (key_of (desc st).k (lending w st) ss f r (omega arith) (good-facts (desc st) h.kept.good).key, go (seek-right (lending w st) ss f r))
  where
    go : SeekRight (lending w st) ss f → handed (answer st (seeking w)) ≡ hit (key (desc st).k) (val (key_in (desc st) w)) (records_in (leaves_in ss))
    go (inl (e, g, z)) = ap (λ (m : ℕ). cond (eqb m done) ((answer st (seeking w)).after.work ∷ []) []) g.number-is ∙ sym e
    go (inr (y, e, g, z)) =
        ap (λ (m : ℕ). cond (eqb m done) ((answer st (seeking w)).after.work ∷ []) []) g.number-is ∙ ap (λ (m : List ℕ). m ∷ []) z ∙ sym e

-- what stood under the key, was put in, and was not taken out since
pub found : (st : State) (ss : List Section) (f : Free) → Sound st ss f → (qs : List Request) (w : List ℕ)
    → ((answer (left st qs) (seeking w)).number ≡ done) ⊎ ((answer (left st qs) (seeking w)).number ≡ not_found)
    → handed (answer (left st qs) (seeking w))
    ≡ history.standing (desc st) (key_in (desc st) w) (events st qs) (with_key (desc st) (key_in (desc st) w) (records_in (leaves_in ss)))
found st ss f h qs w u =
    let p : Description = desc st in
    let K : List ℕ → ℕ = key p.k in
    let x : List ℕ = key_in p w in
    let rows : List (List ℕ) = records_in (leaves_in ss) in
    let top : ℕ = reach p.k 0 (leaves_in ss) in
    let kr : p.k ≤ p.wpr = (good-facts p h.kept.good).key in
    let t : TellsTree p st ss qs = tells p qs st ss f h refl in
    let s
    = seek-hands (left st qs) t.sections t.free t.sound w u
    (gate (lending w (left st qs)) t.sections t.free (lent-sound w (left st qs) t.sections t.free t.sound) (desc (left st qs)).k) in
    let kw : Key p x = subst (λ (d : Description). Key d (key_in d w)) t.desc-is s.0 in
    let hands : handed (answer (left st qs) (seeking w)) ≡ hit K (val x) (records_in (leaves_in t.sections))
    = s.1 ∙ ap (λ (d : Description). hit (key d.k) (val (key_in d w)) (records_in (leaves_in t.sections))) t.desc-is in
    let asc : Asc K 0 rows top = asc-rows p _ _ ss f h.kept.holds in
    let below_top : val (ones p.k) ≤ top = omega (arith, h.kept.holds.top) in
    hands ∙ ap (hit K (val x)) t.contents-is
    ∙ found-exactly K top (map numbered (events st qs)) rows asc (events-keyed p kr x kw top below_top (events st qs) t.keys) (val x)
    (omega (arith, kw.below))
    ∙ ap (last_put K (val x) (map numbered (events st qs)))
    (sym (with-hit p kr x kw 0 rows top asc (rows_of p (leaves_in ss) (rows_ok p ss h.kept.holds.sized))))
    ∙ sym (standing-same p kr x kw (events st qs) _ t.keys)
