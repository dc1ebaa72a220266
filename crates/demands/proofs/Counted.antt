-- S, s, X and x are what the calls plan.
use Prim.Native.Nat.{ℕ, suc, ◌+◌, ◌-◌}
use mathlib.Core.Bool.{Bool, true, false, cond}
use mathlib.Core.Logic.{inl, inr}
use mathlib.Core.Path.{◌≡◌, refl, sym, ap, ap₂, ◌∙◌}
use mathlib.Core.List.{List, [], ◌∷◌}
use native.Mathlib.Omega.{arith}
use Rattle.numbers.specs.Checked.{Checked, passed, refused, ◌>>=◌, ◌>>◌}
use Rattle.rules.specs.declared.Insert.{Insert}
use Rattle.rules.specs.declared.Extend.{Extend}
use Rattle.rules.specs.State.{State, Outcome, Effect, desc, texts, key_in, settle, unchanged}
use Rattle.rules.specs.Checks.{sizes_ok, work_ok, is_open, key_ok, keyed_call}
use Rattle.drum.proofs.Good.{good-facts}
use Rattle.rules.specs.Nsert.{insert_deed}
use Rattle.rules.specs.NsertDone.{nsert_steps, nsert}
use Rattle.rules.specs.Xtend.{extend_deed}
use Rattle.rules.specs.XtendDone.{xtend_steps, xtend}
use Rattle.rules.specs.Open.{open_file}
use Rattle.rules.specs.Requests.{Request, opening, closing, seeking, advancing, inserting, deleting, updating, extending, lending, answer, tally}
use Rattle.layout.specs.Tree.{Section}
use Rattle.demands.specs.Formula.{detail_blocks, index_blocks, new_details, new_indexes, starts_last, of_nsert, of_xtend, split_off, started_new, S, s, X, x}
use Rattle.demands.specs.Growing.{stores}
use Rattle.demands.specs.Counted.{detail_splits, index_splits, detail_starts, index_starts, extend_splits, nsert_plan, xtend_plan, of_plan, splits_of, starts_of}
use Rattle.demands.specs.Counted.{AsPlanned, Counts, CallCounts, Summed, RunCounts}
use Rattle.demands.proofs.Holds.{Free}
use Rattle.demands.proofs.Sound.{Sound}
use Rattle.demands.proofs.Answers.{Ready, Gives, sizes-pass, work-pass, open-pass}
use Rattle.demands.proofs.Growth.{Growth}
use Rattle.demands.proofs.Steps.{with_rows}
use Rattle.demands.proofs.LastBlock.{LastTells, last-is, with-last, both-last, record-last, start-last, section-last}
use Rattle.demands.proofs.Within.{Sorted, sorted}
use Rattle.demands.proofs.NsertRight as n
use Rattle.demands.proofs.Last.{Last}
use Rattle.demands.proofs.XtendRight as x
use Rattle.demands.proofs.Step.{Gate, stopped, ready, gate, lent-sound}
use Rattle.demands.proofs.Opens.{Opens}
use Rattle.demands.proofs.Calls.{stepped}
use Rattle.demands.proofs.Demands.{opens}
use Rattle.demands.proofs.Promised.{after_open}
use Rattle.demands.proofs.Growing.{more-details, more-indexes, no-news}

-- ---- four checks before a plan

after-four : {A B : Type 0} (a b c d : Checked Bool) (m : Checked A) (k : A → Checked B)
    → (a >> (b >> (c >> (d >> m)))) >>= k ≡ a >> (b >> (c >> (d >> (m >>= k))))
after-four (refused j) b c d m k = refl
after-four (passed t) (refused j) c d m k = refl
after-four (passed t) (passed u) (refused j) d m k = refl
after-four (passed t) (passed u) (passed v) (refused j) m k = refl
after-four (passed t) (passed u) (passed v) (passed w) m k = refl

pub as-planned : (st : State) → AsPlanned st
unfolding nsert nsert_steps nsert_plan xtend xtend_steps xtend_plan
as-planned st = record {
  nsert-is = ap (settle st) (sym (after-four (sizes_ok st) (work_ok st) (is_open st) (key_ok (desc st).wpr st) _ _));
  xtend-is = ap (settle st) (sym (after-four (sizes_ok st) (work_ok st) (is_open st) (key_ok (desc st).wpr st) _ _));
}

module _ {A : Type 0} (f : A → ℕ) where
  -- where they refuse every call, they refuse the plan
  none-planned : (st : State) (reads n : ℕ) (m : Checked A)
      → ((steps : Checked Effect) → settle st (sizes_ok st >> (work_ok st >> (is_open st >> (key_ok reads st >> steps)))) ≡ unchanged st n)
      → of_plan f (sizes_ok st >> (work_ok st >> (is_open st >> (key_ok reads st >> m)))) ≡ 0
  unfolding of_plan settle
  none-planned st reads n m = go (sizes_ok st) (work_ok st) (is_open st) (key_ok reads st)
    where
      go : (a b c d : Checked Bool) → ((steps : Checked Effect) → settle st (a >> (b >> (c >> (d >> steps)))) ≡ unchanged st n)
          → of_plan f (a >> (b >> (c >> (d >> m)))) ≡ 0
      go (refused j) b c d e = refl
      go (passed t) (refused j) c d e = refl
      go (passed t) (passed u) (refused j) d e = refl
      go (passed t) (passed u) (passed v) (refused j) e = refl
      go (passed t) (passed u) (passed v) (passed w) e = absurd (omega (arith, ap (λ (o : Outcome). o.number) (e (refused (suc n)))))

  -- where they pass, it is the plan
  some-planned : (st : State) (ss : List Section) (g : Free) → Ready (desc st).wpr st ss g → (m : Checked A) (d : A) → m ≡ passed d
      → of_plan f (sizes_ok st >> (work_ok st >> (is_open st >> (key_ok (desc st).wpr st >> m)))) ≡ f d
  unfolding of_plan
  some-planned st ss g r m d e = rw (sizes-pass st ss g r.sound, work-pass st r.work-length, open-pass st r.opened, r.asked, e)

-- ---- each call

-- a refused call puts no block in use
module _ (st : State) (w : List ℕ) (o : Outcome) (n : ℕ) (e : o ≡ unchanged (lending w st) n) where
  no-details : new_details st o ≡ 0
  unfolding new_details detail_blocks lending
  no-details = ap (λ (z : Outcome). detail_blocks z.after - detail_blocks st) e ∙ omega arith

  no-indexes : new_indexes st o ≡ 0
  unfolding new_indexes index_blocks lending
  no-indexes = ap (λ (z : Outcome). index_blocks z.after - index_blocks st) e ∙ omega arith

module _ (st : State) (ss : List Section) (f : Free) (h : Sound st ss f) where
  -- what a call brings is put in use
  used : (w : List ℕ) (o : Outcome) {n m : ℕ} {rows : List (List ℕ)} {b : Growth} {ss' : List Section} {f' : Free} → Gives (lending w st) ss o n m rows b ss' f'
      → (new_details st o ≡ b.splits + b.starts) × (new_indexes st o ≡ b.index-splits + b.index-starts)
  unfolding lending
  used w o {n} {m} {rows} {b} {ss'} {f'} g = (more-details st ss f h o ss' f' g.sound b g.grows, more-indexes st ss f h o ss' f' g.sound b g.grows)

  nsert-counts : (w : List ℕ) → Gate (lending w st) ss f (lent-sound w st ss f h) (desc st).wpr → Counts st (inserting w)
  unfolding answer nsert nsert_plan splits_of starts_of lending
  nsert-counts w (stopped j ne ac nf e) =
      let is : answer st (inserting w) ≡ unchanged (lending w st) j = e (nsert_steps (texts (lending w st)) st.session.flag w) in
      let none : (g : Insert → ℕ) → of_plan g (nsert_plan (lending w st)) ≡ 0
      = λ g. none-planned g (lending w st) (desc st).wpr j (insert_deed (texts (lending w st)) st.session.flag (key_in (desc st) w)) e in
      record {
        details = no-details st w _ j is ∙ omega (arith, none detail_splits);
        indexes = no-indexes st w _ j is ∙ omega (arith, none index_splits);
      }
  nsert-counts w (ready r) =
      let c : n.NsertCame (lending w st) ss f = n.nsert-came (lending w st) ss f r in
      let u = ways c.way in
      let some : (g : Insert → ℕ) → of_plan g (nsert_plan (lending w st)) ≡ g c.plan = λ g. some-planned g (lending w st) ss f r _ c.plan c.plan-is in
      record { details = omega (arith, u.0, c.splits, some detail_splits); indexes = omega (arith, u.1, c.index-splits, some index_splits) }
    where
      ways : (y : n.Nserted (lending w st) ss f)
          → (new_details st (answer st (inserting w)) ≡ (n.brought_by y).splits) × (new_indexes st (answer st (inserting w)) ≡ (n.brought_by y).index-splits)
      ways (n.duplicate y e g) = used w _ g
      ways (n.room e a b l g) = used w _ g
      ways (n.split e a b l m o k q g) = used w _ g
      ways (n.both e a b l m o c k q g) = used w _ g
      ways (n.no_room_lem e a b l m g) = used w _ g

  -- XTEND's plan where it is refused, and where it is ready
  xtend-refused : (w : List ℕ) (j : ℕ) → ((steps : Checked Effect) → keyed_call (desc st).wpr (lending w st) steps ≡ unchanged (lending w st) j)
      → (g : Extend → ℕ) → of_plan g (xtend_plan (lending w st)) ≡ 0
  unfolding xtend_plan lending
  xtend-refused w j e g =
      none-planned g (lending w st) (desc st).wpr j (extend_deed (texts (lending w st)) st.session.flag (key_in (desc st) w)) e

  xtend-planned : (w : List ℕ) → Ready (desc st).wpr (lending w st) ss f → (d : Extend)
      → extend_deed (texts (lending w st)) st.session.flag (key_in (desc st) w) ≡ passed d
      → (g : Extend → ℕ) → of_plan g (xtend_plan (lending w st)) ≡ g d
  unfolding xtend_plan lending
  xtend-planned w r d e g = some-planned g (lending w st) ss f r _ d e

  xtend-counts : (w : List ℕ) → Gate (lending w st) ss f (lent-sound w st ss f h) (desc st).wpr → Counts st (extending w)
  unfolding answer xtend xtend_plan splits_of starts_of lending
  xtend-counts w (stopped j ne ac nf e) =
      let is : answer st (extending w) ≡ unchanged (lending w st) j = e (xtend_steps (texts (lending w st)) st.session.flag w) in
      let none = xtend-refused w j e in
      record {
        details = no-details st w _ j is ∙ omega (arith, none detail_starts, none (extend_splits detail_splits));
        indexes = no-indexes st w _ j is ∙ omega (arith, none index_starts, none (extend_splits index_splits));
      }
  xtend-counts w (ready r) = let z = x.xtend-came (lending w st) ss f r in go z.0 z.1
    where
      ways : (L : Last (texts (lending w st)) st.session.flag ss f) (y : x.Xtended (lending w st) ss f L)
          → (new_details st (answer st (extending w)) ≡ (x.brought_by y).splits + (x.brought_by y).starts)
          × (new_indexes st (answer st (extending w)) ≡ (x.brought_by y).index-splits + (x.brought_by y).index-starts)
      ways L (x.too-low fr y e l g) = used w _ g
      ways L (x.too-low-alone e l hs g) = used w _ g
      ways L (x.before e l s h a y) = as-nsert y
        where
          as-nsert : (y : n.Stores (answer st (extending w)) 3 (lending w st) ss f)
              → (new_details st (answer st (extending w)) ≡ (n.brought_by y).splits + (n.brought_by y).starts)
              × (new_indexes st (answer st (extending w)) ≡ (n.brought_by y).index-splits + (n.brought_by y).index-starts)
          as-nsert (n.duplicate y e g) = used w _ g
          as-nsert (n.room e a b l g) = used w _ g
          as-nsert (n.split e a b l m o k q g) = used w _ g
          as-nsert (n.both e a b l m o c k q g) = used w _ g
          as-nsert (n.no_room_lem e a b l m g) = used w _ g
      ways L (x.room iq l g) = used w _ g
      ways L (x.started iq l m o g) = used w _ g
      ways L (x.both iq l m o c g) = used w _ g
      ways L (x.no_room_lem iq l m g) = used w _ g

      go : (L : Last (texts (lending w st)) st.session.flag ss f) → x.XtendCame (lending w st) ss f L → Counts st (extending w)
      go L c =
          let u = ways L c.way in
          let some : (g : Extend → ℕ) → of_plan g (xtend_plan (lending w st)) ≡ g c.plan = xtend-planned w r c.plan c.plan-is in
          record {
            details = omega (arith, u.0, c.splits, c.starts, some detail_starts, some (extend_splits detail_splits));
            indexes = omega (arith, u.1, c.index-splits, c.index-starts, some index_starts, some (extend_splits index_splits));
          }

  counts : (q : Request) → Counts st q
  unfolding splits_of starts_of stores
  counts (opening marks) = let z = no-news st ss f h (opening marks) refl in record { details = z.0; indexes = z.1 }
  counts closing = let z = no-news st ss f h closing refl in record { details = z.0; indexes = z.1 }
  counts (seeking w) = let z = no-news st ss f h (seeking w) refl in record { details = z.0; indexes = z.1 }
  counts (advancing w) = let z = no-news st ss f h (advancing w) refl in record { details = z.0; indexes = z.1 }
  counts (inserting w) = nsert-counts w (gate (lending w st) ss f (lent-sound w st ss f h) (desc st).wpr)
  counts (deleting w) = let z = no-news st ss f h (deleting w) refl in record { details = z.0; indexes = z.1 }
  counts (updating w) = let z = no-news st ss f h (updating w) refl in record { details = z.0; indexes = z.1 }
  counts (extending w) = xtend-counts w (gate (lending w st) ss f (lent-sound w st ss f h) (desc st).wpr)

pub call-counts : CallCounts
call-counts = after_open (λ (st : State). (q : Request) → Counts st q) counts

-- ---- a run

-- of a call, what S, s, X and x sum is what it plans
record Parts (st : State) (q : Request) : Type 0 where
  S-part : split_off (new_details st (answer st q)) q st (answer st q).after ≡ splits_of detail_splits st q
  s-part : split_off (new_indexes st (answer st q)) q st (answer st q).after ≡ splits_of index_splits st q
  X-part : started_new (new_details st (answer st q)) q st (answer st q).after ≡ starts_of detail_starts st q
  x-part : started_new (new_indexes st (answer st q)) q st (answer st q).after ≡ starts_of index_starts st q

none-either : (t : Bool) (n : ℕ) → n ≡ 0 → (cond t 0 n ≡ 0) × (cond t n 0 ≡ 0)
none-either true n e = (refl, e)
none-either false n e = (e, refl)

module _ (st : State) (ss : List Section) (f : Free) (h : Sound st ss f) where
  -- as the last leaf tells
  sorted-by : (w : List ℕ) (o : Outcome) {n m : ℕ} {rows : List (List ℕ)} {b : Growth} {ss' : List Section} {f' : Free}
      → Gives (lending w st) ss o n m rows b ss' f' → LastTells (extending w) b ss ss' → Sorted st o b
  sorted-by w o {n} {m} {rows} {b} {ss'} {f'} g lt =
      let u = used st ss f h w o g in
      sorted st o b u.0 u.1 w ss ss' (last-is st ss f h) (last-is o.after ss' f' g.sound) lt

  xtend-sorted : (w : List ℕ) (L : Last (texts (lending w st)) (lending w st).session.flag ss f) (y : x.Xtended (lending w st) ss f L)
      → Sorted st (answer st (extending w)) (x.brought_by y)
  unfolding answer lending
  xtend-sorted w L (x.too-low fr y e l g) = sorted-by w _ g (inl (refl, refl, refl))
  xtend-sorted w L (x.too-low-alone e l hs g) = sorted-by w _ g (inl (refl, refl, refl))
  xtend-sorted w L (x.room iq l g) = sorted-by w _ g (inl (refl, refl, record-last (lending w st) ss f L))
  xtend-sorted w L (x.started iq l m s g) = sorted-by w _ g (inr (refl, refl, start-last (lending w st) ss f L h.kept.holds s))
  xtend-sorted w L (x.both iq l m s c g) = sorted-by w _ g (inr (refl, refl, section-last (lending w st) ss f L h.kept.holds (omega arith)))
  xtend-sorted w L (x.no_room_lem iq l m g) = sorted-by w _ g (inl (refl, refl, refl))
  xtend-sorted w L (x.before e u s q a y) = go y
    where
      go : (y : n.Stores (answer st (extending w)) 3 (lending w st) ss f) → Sorted st (answer st (extending w)) (n.brought_by y)
      go (n.duplicate z e g) = sorted-by w _ g (inl (refl, refl, refl))
      go (n.room e a b l g) = sorted-by w _ g (inl (
        refl,
        refl,
        with-last (lending w st) ss f L u a b (with_rows (desc st) a.leaf (n.rows_with
            (lending w st) a) ∷ []),
      ))
      go (n.split e a b l m o k q g) = sorted-by w _ g (inl (refl, refl, with-last (lending w st) ss f L u a b (n.halves (lending w st) f a)))
      go (n.both e a b l m o c k q g) =
          sorted-by w _ g (inl (refl, refl, both-last (lending w st) ss f L u a b m (good-facts (desc st) h.kept.good).two-entries))
      go (n.no_room_lem e a b l m g) = sorted-by w _ g (inl (refl, refl, refl))

  xtend-parts : (w : List ℕ) → Gate (lending w st) ss f (lent-sound w st ss f h) (desc st).wpr → Parts st (extending w)
  unfolding split_off started_new of_nsert of_xtend splits_of starts_of lending
  xtend-parts w (stopped j ne ac nf e) =
      let c : Counts st (extending w) = counts st ss f h (extending w) in
      let none = xtend-refused st ss f h w j e in
      let t : Bool = starts_last st (answer st (extending w)).after in
      let d = none-either t (new_details st (answer st (extending w))) (c.details ∙ omega (arith, none detail_starts, none (extend_splits detail_splits))) in
      let i = none-either t (new_indexes st (answer st (extending w))) (c.indexes ∙ omega (arith, none index_starts, none (extend_splits index_splits))) in
      record {
        S-part = omega (arith, d.0, none (extend_splits detail_splits));
        s-part = omega (arith, i.0, none (extend_splits index_splits));
        X-part = omega (arith, d.1, none detail_starts);
        x-part = omega (arith, i.1, none index_starts);
      }
  xtend-parts w (ready r) = let z = x.xtend-came (lending w st) ss f r in go z.0 z.1
    where
      go : (L : Last (texts (lending w st)) (lending w st).session.flag ss f) → x.XtendCame (lending w st) ss f L → Parts st (extending w)
      go L c =
          let y : Sorted st (answer st (extending w)) (x.brought_by c.way) = xtend-sorted w L c.way in
          let some : (g : Extend → ℕ) → of_plan g (xtend_plan (lending w st)) ≡ g c.plan = xtend-planned st ss f h w r c.plan c.plan-is in
          record {
            S-part = omega (arith, y.splits, c.splits, some (extend_splits detail_splits));
            s-part = omega (arith, y.index-splits, c.index-splits, some (extend_splits index_splits));
            X-part = omega (arith, y.starts, c.starts, some detail_starts);
            x-part = omega (arith, y.index-starts, c.index-starts, some index_starts);
          }

  parts : (q : Request) → Parts st q
  unfolding split_off started_new of_nsert of_xtend splits_of starts_of
  parts (opening marks) = record { S-part = refl; s-part = refl; X-part = refl; x-part = refl }
  parts closing = record { S-part = refl; s-part = refl; X-part = refl; x-part = refl }
  parts (seeking w) = record { S-part = refl; s-part = refl; X-part = refl; x-part = refl }
  parts (advancing w) = record { S-part = refl; s-part = refl; X-part = refl; x-part = refl }
  parts (inserting w) =
      let c : Counts st (inserting w) = counts st ss f h (inserting w) in
      record { S-part = omega (arith, c.details); s-part = omega (arith, c.indexes); X-part = refl; x-part = refl }
  parts (deleting w) = record { S-part = refl; s-part = refl; X-part = refl; x-part = refl }
  parts (updating w) = record { S-part = refl; s-part = refl; X-part = refl; x-part = refl }
  parts (extending w) = xtend-parts w (gate (lending w st) ss f (lent-sound w st ss f h) (desc st).wpr)

summed : (qs : List Request) (st : State) (ss : List Section) (f : Free) → Sound st ss f → Summed st qs
unfolding S s X x tally
summed [] st ss f h = record { S-is = refl; s-is = refl; X-is = refl; x-is = refl }
summed (q ∷ qs) st ss f h =
    let c : Parts st q = parts st ss f h q in
    let z = stepped st ss f h q in
    let r : Summed (answer st q).after qs = summed qs (answer st q).after z.sections z.free z.sound in
    record {
      S-is = ap₂ (λ (m n : ℕ). m + n) c.S-part r.S-is;
      s-is = ap₂ (λ (m n : ℕ). m + n) c.s-part r.s-is;
      X-is = ap₂ (λ (m n : ℕ). m + n) c.X-part r.X-is;
      x-is = ap₂ (λ (m n : ℕ). m + n) c.x-part r.x-is;
    }

pub run-counts : RunCounts
run-counts st marks o qs = let z : Opens st marks = opens st marks o in summed qs (open_file st marks).outcome.after z.tree.sections _ z.sound
