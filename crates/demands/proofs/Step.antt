-- One step of a session: whatever the call and whatever is lent to it, the state after is sound, and an open session is never answered 070003.
use Prim.Native.Nat.{ℕ, ◌+◌}
use mathlib.Core.Bool.{Bool, true, false, cond, not, ◌&&◌}
use mathlib.Core.Logic.{◌⊎◌, inl, inr}
use mathlib.Core.Path.{◌≡◌, refl, sym, ◌∙◌, subst}
use mathlib.Core.List.{List, [], ◌∷◌}
use native.Mathlib.Omega.{arith}
use native.Mathlib.Decide.{ℕ_discrete}
use lib.Dec.{eqb}
use lib.ListN.{length, length-replicate}
use borrow.Author.Tests.{eq-eqb, ne_eqb}
use Rattle.numbers.specs.Numbers.{accepted, done, none_free, no_room, not_found, out_of_sequence, at_end, bad_file, wrong_size, wrong_key, is_closed, already_open}
use Rattle.numbers.specs.Checked.{Checked, passed, refused, ◌>>◌}
use Rattle.words.specs.Words.{part, all_words}
use Rattle.words.specs.Keys.{is_ones}
use Rattle.drum.specs.declared.Description.{Description}
use Rattle.drum.specs.Params.{D}
use Rattle.layout.specs.Inspect.{layout_marks}
use Rattle.rules.specs.State.{State, Outcome, Effect, desc, texts, key_in, at_rest, settle, unchanged}
use Rattle.rules.specs.Checks.{sizes_ok, work_ok, is_open, key_ok}
use Rattle.rules.specs.Close.{close, close_checks, close_done}
use Rattle.rules.specs.Open.{open_checks, open_layout, open_done, open_file}
use Rattle.rules.specs.Seek.{seek, seek_steps, updat, updat_steps}
use Rattle.rules.specs.Adv.{adv}
use Rattle.rules.specs.Nsert.{half_count}
use Rattle.rules.specs.NsertDone.{nsert, nsert_steps}
use Rattle.rules.specs.Dlete.{dlete, dlete_steps}
use Rattle.rules.specs.XtendDone.{xtend, xtend_steps}
use Rattle.rules.specs.Requests.{Request, opening, closing, seeking, advancing, inserting, deleting, updating, extending, lending, answer, left}
use Rattle.layout.specs.Tree.{Section}
use Rattle.demands.proofs.Holds.{Free}
use Rattle.demands.proofs.Places.{holds-ext}
use Rattle.demands.proofs.Sound.{Sound, no-true-false, text-other}
use Rattle.demands.proofs.Answers.{Ready, sizes-pass, Gives}
use Rattle.demands.proofs.Frees.{free_count, taken, stored_with}
use Rattle.demands.proofs.Seek.{close-right, seek-right, updat-right}
use Rattle.demands.proofs.NsertRight.{Stores, duplicate, room, split, both, no_room_lem, nsert-right}
use Rattle.demands.proofs.DleteRight.{dlete-right}
use Rattle.demands.proofs.AdvRight.{adv-right}
use Rattle.demands.proofs.Last.{Last}
use Rattle.demands.proofs.XtendRight as x
use Rattle.demands.proofs.Growth.{Growth}

-- the state after is sound, of the same description
pub record LeavesSound (p : Description) (o : Outcome) : Type 0 where
  pub desc-is : desc o.after ≡ p
  pub sections : List Section
  pub free : Free
  pub sound : Sound o.after sections free

-- and 070003 is not answered
abbrev pub FineStep : Description → Outcome → Type 0
FineStep p o = (o.number ≡ bad_file → ⊥) × LeavesSound p o

fine : (st : State) (ss : List Section) (o : Outcome) (n most : ℕ) (rows : List (List ℕ)) (brought : Growth) {ss' : List Section} {f' : Free}
    → Gives st ss o n most rows brought ss' f' → (n ≡ bad_file → ⊥) → FineStep (desc st) o
fine st ss o n most rows brought {ss'} {f'} g ne =
    (λ e. ne (sym g.number-is ∙ e), record { desc-is = g.desc-is; sections = ss'; free = f'; sound = g.sound })

stored-fine : (q : Bool) → cond q none_free done ≡ bad_file → ⊥
stored-fine true e = omega arith
stored-fine false e = omega arith

stored-with : (p : Description) (n : ℕ) (f : Free) → stored_with p n f ≡ bad_file → ⊥
stored-with p n f = stored-fine (eqb n (D p) && eqb (free_count f) 0)

adv-fine : (q : Bool) → cond q at_end done ≡ bad_file → ⊥
adv-fine true e = omega arith
adv-fine false e = omega arith

either : {A B C : Type 0} → A ⊎ B → (A → C) → (B → C) → C
either (inl a) f g = f a
either (inr b) f g = g b

module _ (st : State) (ss : List Section) (f : Free) (h : Sound st ss f) where
  stays : (o : Outcome) (n : ℕ) → (n ≡ bad_file → ⊥) → o ≡ unchanged st n → FineStep (desc st) o
  stays o n ne e = subst (FineStep (desc st)) (sym e) (ne, record { desc-is = refl; sections = ss; free = f; sound = h })

  -- the rows of the table before 070003, for a keyed call that reads so many words
  pub data Gate (reads : ℕ) : Type 0 where
    stopped : (n : ℕ) → (n ≡ bad_file → ⊥) → accepted n ≡ false → (n ≡ not_found → ⊥)
        → ((steps : Checked Effect) → settle st (sizes_ok st >> (work_ok st >> (is_open st >> (key_ok reads st >> steps)))) ≡ unchanged st n) → Gate reads
    ready : Ready reads st ss f → Gate reads

  pub gate : (reads : ℕ) → Gate reads
  unfolding work_ok is_open key_ok settle
  gate reads =
      go (ℕ_discrete (length st.work) (desc st).wpr) st.session.opened refl
      (all_words (part 0 reads st.work) && not (is_ones (key_in (desc st) st.work))) refl
    where
      go : Dec (length st.work ≡ (desc st).wpr) → (u : Bool) → st.session.opened ≡ u → (t : Bool)
          → (all_words (part 0 reads st.work) && not (is_ones (key_in (desc st) st.work))) ≡ t → Gate reads
      go (no n) u o t e =
          stopped wrong_size (λ z. omega arith) refl (λ z. omega arith) (λ steps. simp (sizes-pass st ss f h, ne_eqb (length st.work) (desc st).wpr n))
      go (yes l) false o t e =
          stopped is_closed (λ z. omega arith) refl (λ z. omega arith) (λ steps. simp (sizes-pass st ss f h, eq-eqb (length st.work) (desc st).wpr l, o))
      go (yes l) true o false e =
          stopped wrong_key (λ z. omega arith) refl (λ z. omega arith)
          (λ steps. simp (sizes-pass st ss f h, eq-eqb (length st.work) (desc st).wpr l, o, e))
      go (yes l) true o true e = ready (record { sound = h; opened = o; work-length = l; asked = simp e })

  seek-step : Gate (desc st).k → FineStep (desc st) (seek st)
  unfolding seek
  seek-step (stopped n ne ac nf e) = stays (seek st) n ne (e (seek_steps (texts st) st.session.flag st.work))
  seek-step (ready r) =
      either (seek-right st ss f r) (λ q. fine st ss (seek st) not_found 3 _ _ q.1 (λ z. omega arith))
      (λ q. fine st ss (seek st) done 3 _ _ q.2 (λ z. omega arith))

  updat-step : Gate (desc st).wpr → FineStep (desc st) (updat st)
  unfolding updat
  updat-step (stopped n ne ac nf e) = stays (updat st) n ne (e (updat_steps (texts st) st.session.flag st.work))
  updat-step (ready r) =
      either (updat-right st ss f r) (λ q. fine st ss (updat st) not_found 3 _ _ q.1 (λ z. omega arith))
      (λ q. fine st ss (updat st) done 3 _ _ q.4 (λ z. omega arith))

  dlete-step : Gate (desc st).k → FineStep (desc st) (dlete st)
  unfolding dlete
  dlete-step (stopped n ne ac nf e) = stays (dlete st) n ne (e (dlete_steps (texts st) st.session.flag st.work))
  dlete-step (ready r) =
      either (dlete-right st ss f r) (λ q. fine st ss (dlete st) not_found 3 _ _ q.1 (λ z. omega arith))
      (λ q. fine st ss (dlete st) done 6 _ _ q.4 (λ z. omega arith))

  -- what NSERT stores, and XTEND as NSERT does
  stores-fine : (o : Outcome) (more : ℕ) → Stores o more st ss f → FineStep (desc st) o
  stores-fine o more (duplicate y e g) = fine st ss o not_found _ _ _ g (λ z. omega arith)
  stores-fine o more (room e a i l g) = fine st ss o _ _ _ _ g (stored-with (desc st) (length a.leaf.records + 1) f)
  stores-fine o more (split e a i l m s k q g) = fine st ss o _ _ _ _ g (stored-with (desc st) (half_count (D (desc st)) k) (taken f))
  stores-fine o more (both e a i l m s c k q g) = fine st ss o _ _ _ _ g (stored-with (desc st) (half_count (D (desc st)) k) (taken (taken f)))
  stores-fine o more (no_room_lem e a i l w g) = fine st ss o no_room _ _ _ g (λ z. omega arith)

  nsert-step : Gate (desc st).wpr → FineStep (desc st) (nsert st)
  unfolding nsert
  nsert-step (stopped n ne ac nf e) = stays (nsert st) n ne (e (nsert_steps (texts st) st.session.flag st.work))
  nsert-step (ready r) = stores-fine (nsert st) 0 (nsert-right st ss f r)

  xtend-step : Gate (desc st).wpr → FineStep (desc st) (xtend st)
  unfolding xtend
  xtend-step (stopped n ne ac nf e) = stays (xtend st) n ne (e (xtend_steps (texts st) st.session.flag st.work))
  xtend-step (ready r) = let q = x.xtend-right st ss f r in go q.0 q.1
    where
      go : (L : Last (texts st) st.session.flag ss f) → x.Xtended st ss f L → FineStep (desc st) (xtend st)
      go L (x.too-low fr y e l g) = fine st ss (xtend st) out_of_sequence 4 _ _ g (λ z. omega arith)
      go L (x.too-low-alone e l hs g) = fine st ss (xtend st) out_of_sequence 6 _ _ g (λ z. omega arith)
      go L (x.before e l s n a y) = stores-fine (xtend st) 3 y
      go L (x.room iq l g) = fine st ss (xtend st) _ 4 _ _ g (stored-with (desc st) (length L.leaf.records + 1) f)
      go L (x.started iq l m s g) = fine st ss (xtend st) _ 7 _ _ g (stored-with (desc st) (length L.leaf.records) (taken f))
      go L (x.both iq l m s c g) = fine st ss (xtend st) _ 8 _ _ g (stored-with (desc st) (length L.leaf.records) (taken (taken f)))
      go L (x.no_room_lem iq l w g) = fine st ss (xtend st) no_room 4 _ _ g (λ z. omega arith)

  adv-step : Dec (length st.work ≡ (desc st).wpr) → (u : Bool) → st.session.opened ≡ u → FineStep (desc st) (adv st)
  unfolding adv work_ok is_open settle
  adv-step (no n) u o = stays (adv st) wrong_size (λ z. omega arith) (simp (sizes-pass st ss f h, ne_eqb (length st.work) (desc st).wpr n))
  adv-step (yes l) false o = stays (adv st) is_closed (λ z. omega arith) (simp (sizes-pass st ss f h, eq-eqb (length st.work) (desc st).wpr l, o))
  adv-step (yes l) true o = let q = adv-right st ss f h o l in fine st ss (adv st) _ 5 _ _ q.3 (adv-fine (is_ones (key_in (desc st) q.0)))

  close-step : (u : Bool) → st.session.opened ≡ u → FineStep (desc st) (close st)
  unfolding close close_checks close_done is_open
  close-step true o = fine st ss (close st) done 1 _ _ (close-right st ss f h o) (λ z. omega arith)
  close-step false o = stays (close st) is_closed (λ z. omega arith) (simp (sizes-pass st ss f h, o))

  -- OPEN of an open session is refused; of a closed one it leaves the file as it is
  open-again : st.session.opened ≡ true → (marks : List ℕ) → FineStep (desc st) (open_file st marks).outcome
  unfolding open_file open_checks open_done
  open-again o marks = go (ℕ_discrete (length marks) (desc st).n)
    where
      go : Dec (length marks ≡ (desc st).n) → FineStep (desc st) (open_file st marks).outcome
      go (yes l) = stays (open_file st marks).outcome already_open (λ z. omega arith) (simp (sizes-pass st ss f h, eq-eqb (length marks) (desc st).n l, o))
      go (no n) = stays (open_file st marks).outcome wrong_size (λ z. omega arith) (simp (sizes-pass st ss f h, ne_eqb (length marks) (desc st).n n))

  pub opened-sound : st.session.opened ≡ false
      → Sound (record { session = at_rest true st.session; file = st.file; buffer = st.buffer; work = st.work }) ss f
  unfolding at_rest
  opened-sound o =
      let q : (st.session.current ≡ 0) × (st.session.flag ≡ false) = h.resting o in
      record {
        kept = record {
          good = h.kept.good;
          file-length = h.kept.file-length;
          buffer-length = h.kept.buffer-length;
          current = λ l. absurd (omega arith);
          flagged = λ e. no-true-false e refl;
          clean = λ e l. absurd (omega arith);
          holds =
              holds-ext (desc st) _ _ _ ss f
              (λ b l u. text-other (record { desc = desc st; current = 0; file = st.file; buffer = st.buffer }) b (λ e. omega arith)
              ∙ sym (text-other (texts st) b (λ e. omega (arith, e, q.0)))) h.kept.holds;
          ended = h.kept.ended;
          alone = h.kept.alone;
        };
        position = length-replicate {A = ℕ} 63 0;
        placed = λ e. no-true-false e refl;
        resting = λ e. no-true-false refl e;
      }

  open-leaves : st.session.opened ≡ false → (marks : List ℕ) → LeavesSound (desc st) (open_file st marks).outcome
  unfolding open_file open_checks open_done open_layout at_rest
  open-leaves o marks = go (open_checks st marks)
    where
      same : (n : ℕ) → LeavesSound (desc st) (unchanged st n)
      same n = record { desc-is = refl; sections = ss; free = f; sound = h }

      tested : (c : Checked (List ℕ)) → LeavesSound (desc st) (open_layout st c).outcome
      tested (refused n) = same n
      tested (passed m) = record { desc-is = refl; sections = ss; free = f; sound = opened-sound o }

      go : (c : Checked Bool) → LeavesSound (desc st) (open_done st marks c).outcome
      go (refused n) = same n
      go (passed t) = tested (layout_marks (desc st) st.file)

pub lent-sound : (w : List ℕ) (st : State) (ss : List Section) (f : Free) → Sound st ss f → Sound (lending w st) ss f
unfolding lending
lent-sound w st ss f h = record { kept = h.kept; position = h.position; placed = h.placed; resting = h.resting }

module _ (st : State) (ss : List Section) (f : Free) (h : Sound st ss f) where
  so : (w : List ℕ) → Sound (lending w st) ss f
  so w = lent-sound w st ss f h

  -- no call on an open session answers 070003
  pub open_step : st.session.opened ≡ true → (q : Request) → FineStep (desc st) (answer st q)
  unfolding answer lending
  open_step o (opening marks) = open-again st ss f h o marks
  open_step o closing = close-step st ss f h true o
  open_step o (seeking w) = seek-step (lending w st) ss f (so w) (gate (lending w st) ss f (so w) (desc st).k)
  open_step o (updating w) = updat-step (lending w st) ss f (so w) (gate (lending w st) ss f (so w) (desc st).wpr)
  open_step o (deleting w) = dlete-step (lending w st) ss f (so w) (gate (lending w st) ss f (so w) (desc st).k)
  open_step o (inserting w) = nsert-step (lending w st) ss f (so w) (gate (lending w st) ss f (so w) (desc st).wpr)
  open_step o (extending w) = xtend-step (lending w st) ss f (so w) (gate (lending w st) ss f (so w) (desc st).wpr)
  open_step o (advancing w) = adv-step (lending w st) ss f (so w) (ℕ_discrete (length w) (desc st).wpr) true o

  -- nor does any but OPEN on a closed one
  abbrev pub NotOpen : Request → Type 0
  NotOpen (opening marks) = ⊥
  NotOpen closing = Unit {0}
  NotOpen (seeking w) = Unit {0}
  NotOpen (advancing w) = Unit {0}
  NotOpen (inserting w) = Unit {0}
  NotOpen (deleting w) = Unit {0}
  NotOpen (updating w) = Unit {0}
  NotOpen (extending w) = Unit {0}

  closed_all : st.session.opened ≡ false → (q : Request) → NotOpen q → FineStep (desc st) (answer st q)
  unfolding answer lending
  closed_all o (opening marks) n = absurd n
  closed_all o closing n = close-step st ss f h false o
  closed_all o (seeking w) n = seek-step (lending w st) ss f (so w) (gate (lending w st) ss f (so w) (desc st).k)
  closed_all o (updating w) n = updat-step (lending w st) ss f (so w) (gate (lending w st) ss f (so w) (desc st).wpr)
  closed_all o (deleting w) n = dlete-step (lending w st) ss f (so w) (gate (lending w st) ss f (so w) (desc st).k)
  closed_all o (inserting w) n = nsert-step (lending w st) ss f (so w) (gate (lending w st) ss f (so w) (desc st).wpr)
  closed_all o (extending w) n = xtend-step (lending w st) ss f (so w) (gate (lending w st) ss f (so w) (desc st).wpr)
  closed_all o (advancing w) n = adv-step (lending w st) ss f (so w) (ℕ_discrete (length w) (desc st).wpr) false o

  pub closed-fine : st.session.opened ≡ false → (q : Request) → NotOpen q → (answer st q).number ≡ bad_file → ⊥
  closed-fine o q n = (closed_all o q n).0

  closed-step : st.session.opened ≡ false → (q : Request) → LeavesSound (desc st) (answer st q)
  closed-step o (opening marks) = unfold answer in open-leaves st ss f h o marks
  closed-step o closing = (closed_all o closing tt).1
  closed-step o (seeking w) = (closed_all o (seeking w) tt).1
  closed-step o (updating w) = (closed_all o (updating w) tt).1
  closed-step o (deleting w) = (closed_all o (deleting w) tt).1
  closed-step o (inserting w) = (closed_all o (inserting w) tt).1
  closed-step o (extending w) = (closed_all o (extending w) tt).1
  closed-step o (advancing w) = (closed_all o (advancing w) tt).1

  -- every call leaves a sound state, whether the session is open or closed
  pub sound-step : (q : Request) → LeavesSound (desc st) (answer st q)
  sound-step q = go st.session.opened refl
    where
      go : (t : Bool) → st.session.opened ≡ t → LeavesSound (desc st) (answer st q)
      go true o = (open_step o q).1
      go false o = closed-step o q

  pub no-070003 : st.session.opened ≡ true → (q : Request) → (answer st q).number ≡ bad_file → ⊥
  no-070003 o q = (open_step o q).0

-- and so does every run of calls, closing and reopening included
pub sound-run : (st : State) (ss : List Section) (f : Free) → Sound st ss f → (qs : List Request)
    → (ss' : List Section) × (f' : Free) × Sound (left st qs) ss' f'
unfolding left
sound-run st ss f h [] = (ss, f, h)
sound-run st ss f h (q ∷ qs) =
    let g : LeavesSound (desc st) (answer st q) = sound-step st ss f h q in
    sound-run (answer st q).after g.sections g.free g.sound qs
