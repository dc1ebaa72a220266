-- What a call does once its key or record is in the workspace; OPEN and CLOSE pass the workspace by.
use Prim.Native.Nat.{ℕ, ◌+◌, ◌≤◌, ◌<◌}
use mathlib.Core.Path.{◌≡◌, refl, sym, ap, ◌∙◌}
use mathlib.Core.Bool.{Bool, true, false, cond, not, ◌&&◌}
use mathlib.Core.List.{List, []}
use lib.Dec.{leb}
use lib.ListN.{length}
use borrow.Author.Tests.{le-leb, lt-leb, not-true, not-false}
use Rattle.numbers.specs.Numbers.{wrong_size}
use Rattle.numbers.specs.Checked.{Checked, passed, refused}
use Rattle.words.specs.Words.{part, put}
use Rattle.words.proofs.Keys.{clash}
use Rattle.drum.specs.declared.Description.{Description}
use Rattle.rules.specs.declared.Call.{Call}
use Rattle.rules.specs.declared.Call.TheVariants.{Create, Open, Close, Seek, Adv, Nsert, Dlete, Updat, Xtend}
use Rattle.rules.specs.State.{Session, State, Outcome, lent}
use Rattle.rules.specs.Checks.{sizes_ok, is_open}
use Rattle.rules.specs.Open.{open_file, open_checks, open_done, open_layout}
use Rattle.rules.specs.Close.{close, close_checks, close_done}
use Rattle.rules.specs.Seek.{seek, updat}
use Rattle.rules.specs.Adv.{adv}
use Rattle.rules.specs.NsertDone.{nsert}
use Rattle.rules.specs.Dlete.{dlete}
use Rattle.rules.specs.XtendDone.{xtend}
use Rattle.rules.specs.Run.{created_outcome}
use Rattle.searchfile.specs.Promise.{Counted, CountedOpen, counted, counted_open, creating}
use Rattle.calls.specs.Perform.{Staged, staged_as, staged, staged_for, marked, called, called_on, done}

-- the words beside and the workspace have room, or one has not
module _ (ws : List ℕ) (at n : ℕ) (w : List ℕ) where
  pub staged-room : at + n ≤ length ws → n ≤ length w → staged ws at n w ≡ staged_as true (put w 0 (part at n ws))
  unfolding staged
  staged-room h k = simp (le-leb _ _ h, le-leb _ _ k)

  pub staged-copied : (v : List ℕ) → v ≡ put w 0 (part at n ws) → at + n ≤ length ws → n ≤ length w → staged_as true v ≡ staged ws at n w
  staged-copied v e h k = ap (staged_as true) e ∙ sym (staged-room h k)

  pub staged-long : length ws < at + n → staged ws at n w ≡ staged_as false w
  unfolding staged
  staged-long h = simp (lt-leb _ _ h)

  pub staged-narrow : length w < n → staged ws at n w ≡ staged_as false w
  unfolding staged
  staged-narrow h = go (leb (at + n) (length ws))
    where
      go : (x : Bool) → cond (x && leb n (length w)) (staged_as true (put w 0 (part at n ws))) (staged_as false w) ≡ staged_as false w
      go true = simp (lt-leb _ _ h)
      go false = refl

  unfit-words : (staged ws at n w).fits ≡ false → (staged ws at n w).work ≡ w
  unfolding staged
  unfit-words = go (leb (at + n) (length ws) && leb n (length w))
    where
      go : (x : Bool)
          → (cond x (staged_as true (put w 0 (part at n ws))) (staged_as false w)).fits ≡ false
          → (cond x (staged_as true (put w 0 (part at n ws))) (staged_as false w)).work ≡ w
      go true e = absurd (clash e)
      go false e = refl

-- without room the workspace is as it was
pub unfit-left : (ws : List ℕ) (p : Description) (w : List ℕ) (c : Call) → (staged_for ws p w c).fits ≡ false → (staged_for ws p w c).work ≡ w
unfolding staged_for
unfit-left ws p w Create e = refl
unfit-left ws p w Open e = refl
unfit-left ws p w Close e = refl
unfit-left ws p w (Seek at) e = unfit-words ws at p.k w e
unfit-left ws p w Adv e = refl
unfit-left ws p w (Nsert at) e = unfit-words ws at p.wpr w e
unfit-left ws p w (Dlete at) e = unfit-words ws at p.k w e
unfit-left ws p w (Updat at) e = unfit-words ws at p.wpr w e
unfit-left ws p w (Xtend at) e = unfit-words ws at p.wpr w e

-- an outcome with another workspace
abbrev pub beside : List ℕ → Counted → Counted
beside w o =
    record { number = o.number; transfers = o.transfers; after = lent o.after.session o.after.file o.after.buffer w }

abbrev pub beside_open : List ℕ → CountedOpen → CountedOpen
beside_open w o = record { outcome = beside w o.outcome; marks = o.marks }

module _ (s : Session) (f b w : List ℕ) where
  open-layout : (x : Checked (List ℕ))
      → beside_open w (counted_open (open_layout (lent s f b []) x)) ≡ counted_open (open_layout (lent s f b w) x)
  unfolding open_layout
  open-layout (refused n) = refl
  open-layout (passed y) = refl

  open_done_lem : (m : List ℕ) (x : Checked Bool)
      → beside_open w (counted_open (open_done (lent s f b []) m x)) ≡ counted_open (open_done (lent s f b w) m x)
  unfolding open_done
  open_done_lem m (refused n) = refl
  open_done_lem m (passed y) = open-layout _

  pub open-beside : (m : List ℕ) → beside_open w (counted_open (open_file (lent s f b []) m)) ≡ counted_open (open_file (lent s f b w) m)
  unfolding open_file open_checks sizes_ok
  open-beside m = open_done_lem m (open_checks (lent s f b []) m)

  close-done : (x : Checked Bool)
      → beside w (counted (close_done (lent s f b []) x)) ≡ counted (close_done (lent s f b w) x)
  unfolding close_done
  close-done (refused n) = refl
  close-done (passed y) = refl

  pub close-beside : beside w (counted (close (lent s f b []))) ≡ counted (close (lent s f b w))
  unfolding close close_checks sizes_ok is_open
  close-beside = close-done (close_checks (lent s f b []))

-- a call of the session s over file f, buffer b and workspace u, which is w once the key or record is put into it; r tells whether it had room
module _ (ws : List ℕ) (s : Session) (f b u m w : List ℕ) (c : Call) (r : Bool) where
  abbrev did : CountedOpen
  did = counted_open (done ws (lent s f b u) m c)

  pub refused-performed : staged_as r w ≡ staged_for ws s.desc u c → not r ≡ true
      → ◌≡◌ {A = CountedOpen} (record { outcome = record { number = wrong_size; transfers = 0; after = lent s f b w }; marks = m }) did
  unfolding done called_on
  refused-performed e q =
      let n : r ≡ false = not-true r q in
      let g : (staged_for ws s.desc u c).fits ≡ false = ap (λ (x : Staged). x.fits) (sym e) ∙ n in
      let h : w ≡ u = ap (λ (x : Staged). x.work) e ∙ unfit-left ws s.desc u c g in
      (λ j. record { outcome = record { number = wrong_size; transfers = 0; after = lent s f b (h j) }; marks = m })
      ∙ ap (λ (t : Bool). counted_open (called_on (lent s f b u) m c (staged_as t (staged_for ws s.desc u c).work))) (sym g)

  called-done : (x : Call) → staged_as r w ≡ staged_for ws s.desc u c → not r ≡ false → c ≡ x → counted_open (called (lent s f b w) m x) ≡ did
  unfolding done called_on
  called-done x e q h =
      ap (λ (y : Call). counted_open (called (lent s f b w) m y)) (sym h)
      ∙ ap (λ (t : Bool). counted_open (called_on (lent s f b u) m c (staged_as t w))) (sym (not-false r q))
      ∙ ap (λ (g : Staged). counted_open (called_on (lent s f b u) m c g)) e

  -- what CREATE leaves, who is lent the file alone
  pub create-performed : (n t : ℕ) (s' : Session) (f' : List ℕ)
      → ◌≡◌ {A = Counted} (record { number = n; transfers = t; after = lent s' f' [] [] }) (counted (creating (lent s f [] [])))
      → staged_as r w ≡ staged_for ws s.desc u c → not r ≡ false → c ≡ Create
      → ◌≡◌ {A = CountedOpen} (record { outcome = record { number = n; transfers = t; after = lent s' f' b w }; marks = m }) did
  unfolding called creating created_outcome
  create-performed n t s' f' k e g h =
      (λ j. record {
        outcome = record { number = (k j).number; transfers = (k j).transfers; after = lent (k j).after.session (k j).after.file b w };
        marks = m;
      })
      ∙ called-done Create e g h

  -- what OPEN and CLOSE leave, who are not lent the workspace
  module _ (n t : ℕ) (s' : Session) (f' b' m' : List ℕ) where
    abbrev gives : List ℕ → Counted
    gives v = record { number = n; transfers = t; after = lent s' f' b' v }

    pub open-performed : ◌≡◌ {A = CountedOpen} (record { outcome = gives []; marks = m' }) (counted_open (open_file (lent s f b []) m))
        → staged_as r w ≡ staged_for ws s.desc u c → not r ≡ false → c ≡ Open
        → ◌≡◌ {A = CountedOpen} (record { outcome = gives w; marks = m' }) did
    unfolding called
    open-performed k e g h = ap (beside_open w) k ∙ open-beside s f b w m ∙ called-done Open e g h

    pub close-performed : gives [] ≡ counted (close (lent s f b []))
        → staged_as r w ≡ staged_for ws s.desc u c → not r ≡ false → c ≡ Close
        → ◌≡◌ {A = CountedOpen} (record { outcome = gives w; marks = m }) did
    unfolding called
    close-performed k e g h =
        ap (λ (x : Counted). record { outcome = x; marks = m }) (ap (beside w) k ∙ close-beside s f b w) ∙ called-done Close e g h

  -- a call whose definition looks at the workspace
  by-work : (does : State → Outcome) (x : Call) → called (lent s f b w) m x ≡ marked m (does (lent s f b w))
      → (o : Counted) → o ≡ counted (does (lent s f b w))
      → staged_as r w ≡ staged_for ws s.desc u c → not r ≡ false → c ≡ x
      → ◌≡◌ {A = CountedOpen} (record { outcome = o; marks = m }) did
  by-work does x is o k e g h = (λ j. record { outcome = k j; marks = m }) ∙ ap counted_open (sym is) ∙ called-done x e g h

  pub seek-performed : (at : ℕ) (o : Counted) → o ≡ counted (seek (lent s f b w)) → staged_as r w ≡ staged_for ws s.desc u c → not r ≡ false → c ≡ Seek at
      → ◌≡◌ {A = CountedOpen} (record { outcome = o; marks = m }) did
  unfolding called
  seek-performed at = by-work seek (Seek at) refl

  pub adv-performed : (o : Counted) → o ≡ counted (adv (lent s f b w)) → staged_as r w ≡ staged_for ws s.desc u c → not r ≡ false → c ≡ Adv
      → ◌≡◌ {A = CountedOpen} (record { outcome = o; marks = m }) did
  unfolding called
  adv-performed = by-work adv Adv refl

  pub nsert-performed : (at : ℕ) (o : Counted) → o ≡ counted (nsert (lent s f b w)) → staged_as r w ≡ staged_for ws s.desc u c → not r ≡ false → c ≡ Nsert at
      → ◌≡◌ {A = CountedOpen} (record { outcome = o; marks = m }) did
  unfolding called
  nsert-performed at = by-work nsert (Nsert at) refl

  pub dlete-performed : (at : ℕ) (o : Counted) → o ≡ counted (dlete (lent s f b w)) → staged_as r w ≡ staged_for ws s.desc u c → not r ≡ false → c ≡ Dlete at
      → ◌≡◌ {A = CountedOpen} (record { outcome = o; marks = m }) did
  unfolding called
  dlete-performed at = by-work dlete (Dlete at) refl

  pub updat-performed : (at : ℕ) (o : Counted) → o ≡ counted (updat (lent s f b w)) → staged_as r w ≡ staged_for ws s.desc u c → not r ≡ false → c ≡ Updat at
      → ◌≡◌ {A = CountedOpen} (record { outcome = o; marks = m }) did
  unfolding called
  updat-performed at = by-work updat (Updat at) refl

  pub xtend-performed : (at : ℕ) (o : Counted) → o ≡ counted (xtend (lent s f b w)) → staged_as r w ≡ staged_for ws s.desc u c → not r ≡ false → c ≡ Xtend at
      → ◌≡◌ {A = CountedOpen} (record { outcome = o; marks = m }) did
  unfolding called
  xtend-performed at = by-work xtend (Xtend at) refl
