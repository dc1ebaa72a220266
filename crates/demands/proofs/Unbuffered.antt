-- While no block is buffered, no call looks at the buffer's words: every call, mark, VIEW and run is the same over two buffers.
use Prim.Native.Nat.{ℕ}
use mathlib.Core.Path.{◌≡◌, refl, sym, ◌∙◌, ap, subst}
use mathlib.Core.Bool.{Bool, true, false, cond, not, ◌&&◌}
use mathlib.Core.List.{List, [], ◌∷◌}
use lib.Dec.{leb, eqb}
use lib.ListN.{length}
use borrow.Author.Tests.{leb-true}
use Rattle.numbers.specs.Numbers.{wrong_size, already_open, is_closed}
use Rattle.numbers.specs.Checked.{Checked, passed, refused, ◌>>◌, require}
use Rattle.words.specs.Words.{part}
use Rattle.drum.specs.declared.Description.{Description}
use Rattle.drum.specs.Params.{sized}
use Rattle.drum.specs.Blocks.{text_of, seen}
use Rattle.layout.specs.Inspect.{layout_marks}
use Rattle.rules.specs.State.{Session, State, Outcome, Effect, lent, settle, at_rest}
use Rattle.rules.specs.Checks.{sizes_ok, work_ok, is_open, key_ok}
use Rattle.rules.specs.Open.{open_checks, open_layout, open_done, open_file}
use Rattle.rules.specs.Close.{close_checks, close_done, close, view}
use Rattle.rules.specs.Requests.{Request, opening, closing, seeking, advancing, inserting, deleting, updating, extending, answer, left, lending}
use Rattle.demands.specs.Unbuffered.{Buffers, same, unused, Alike, Indistinct, Unbuffered, UnbufferedMarks, UnbufferedView, UnbufferedRun}
use Rattle.rules.specs.Lookup.{flush_moves}
use Rattle.rules.specs.Seek.{seek, updat}
use Rattle.rules.specs.Adv.{adv}
use Rattle.rules.specs.Dlete as d
use Rattle.rules.specs.NsertDone as nd
use Rattle.rules.specs.XtendDone as xd
use Rattle.demands.proofs.SameChecks.{SameChecks, same_refl, same_then}
use Rattle.demands.proofs.UnusedLooks.{seek-same, updat-same, adv-same, text_same}
use Rattle.demands.proofs.UnusedChanges.{dlete-same, nsert-same, xtend-same}

-- the refusals do not look at the buffer's words; so a call's answer is the same, and a refusal leaves both buffers as they were
abbrev pub idle : Description → Bool → Bool → List ℕ → Session
idle p opened placed position = record { desc = p; opened = opened; current = 0; flag = false; placed = placed; position = position }

abbrev keying : ℕ → State → Checked Effect → Checked Effect
keying reads st c = do
  sizes_ok st
  work_ok st
  is_open st
  key_ok reads st
  c

abbrev opening-only : State → Checked Effect → Checked Effect
opening-only st c = do
  sizes_ok st
  work_ok st
  is_open st
  c

module _ (p : Description) (opened placed : Bool) (position f a b w : List ℕ) (l : length a ≡ length b) where
  abbrev one : State
  one = lent (idle p opened placed position) f a w

  abbrev two : State
  two = lent (idle p opened placed position) f b w

  still : Alike one two
  still = record { session = refl; file = refl; work = refl; buffers = unused (record { current = refl; flag = refl }) l }

  sizes-same : SameChecks (sizes_ok one) (sizes_ok two)
  unfolding sizes_ok
  sizes-same = rw l (same_refl _)

  settled : (c d : Checked Effect) → SameChecks c d
      → Indistinct (settle one c) (settle two d)
  unfolding settle
  settled c d h = subst (λ (z : Checked Effect). Indistinct (settle one c) (settle two z)) h.is (go c)
    where
      go : (z : Checked Effect)
          → Indistinct (settle one z) (settle two z)
      go (refused n) = record { number = refl; transfers = refl; after = still }
      go (passed e) =
          record { number = refl; transfers = refl; after = record { session = refl; file = refl; work = refl; buffers = same refl } }

  -- the refusals of a keyed call, and then its steps; of ADV, and then its steps
  keyed : (reads : ℕ) (c d : Checked Effect) → SameChecks c d
      → Indistinct (settle one (keying reads one c))
      (settle two (keying reads two d))
  unfolding work_ok is_open key_ok
  keyed reads c d h =
      settled _ _
      (same_then _ _ _ _ sizes-same
      (same_then (work_ok two) (work_ok two) _ _ (same_refl _)
      (same_then (is_open two) (is_open two) _ _ (same_refl _) (same_then (key_ok reads two) (key_ok reads two) c d (same_refl _) h))))

  unkeyed : (c d : Checked Effect) → SameChecks c d
      → Indistinct (settle one (opening-only one c))
      (settle two (opening-only two d))
  unfolding work_ok is_open
  unkeyed c d h =
      settled _ _
      (same_then _ _ _ _ sizes-same (same_then (work_ok two) (work_ok two) _ _ (same_refl _) (same_then (is_open two) (is_open two) c d (same_refl _) h)))

  -- OPEN, with its marks, and CLOSE, which leaves current 0 and the flag off
  open-checks-same : (marks : List ℕ)
      → SameChecks (open_checks one marks) (open_checks two marks)
  unfolding open_checks
  open-checks-same marks = same_then _ _ _ _ sizes-same (same_refl (require (eqb (length marks) p.n) wrong_size >> require (not opened) already_open))

  open-same : (marks : List ℕ)
      → Indistinct (open_file one marks).outcome (open_file two marks).outcome
      × ((open_file one marks).marks ≡ (open_file two marks).marks)
  unfolding open_file open_done open_layout at_rest
  open-same marks = go _ _ (open-checks-same marks)
    where
      laid : (c : Checked (List ℕ))
          → Indistinct (open_layout one c).outcome (open_layout two c).outcome
          × ((open_layout one c).marks ≡ (open_layout two c).marks)
      laid (refused n) = (record { number = refl; transfers = refl; after = still }, refl)
      laid (passed ms) = (
        record {
          number = refl;
          transfers = refl;
          after = record { session = refl; file = refl; work = refl; buffers = unused (record { current = refl; flag = refl }) l };
        },
        refl,
      )

      each : (c : Checked Bool)
          → Indistinct (open_done one marks c).outcome (open_done two marks c).outcome
          × ((open_done one marks c).marks ≡ (open_done two marks c).marks)
      each (refused n) = (record { number = refl; transfers = refl; after = still }, refl)
      each (passed x) = laid (layout_marks p f)

      go : (c d : Checked Bool) → SameChecks c d
          → Indistinct (open_done one marks c).outcome (open_done two marks d).outcome
          × ((open_done one marks c).marks ≡ (open_done two marks d).marks)
      go c d h = rw (← h.is) (each c)

  close-checks-same : SameChecks (close_checks one) (close_checks two)
  unfolding close_checks is_open
  close-checks-same = same_then _ _ _ _ sizes-same (same_refl (require opened is_closed >> passed true))

  close-same : Indistinct (close one) (close two)
  unfolding close close_done at_rest flush_moves
  close-same = go _ _ close-checks-same
    where
      each : (c : Checked Bool) → Indistinct (close_done one c) (close_done two c)
      each (refused n) = record { number = refl; transfers = refl; after = still }
      each (passed x) = record {
        number = refl;
        transfers = refl;
        after = record { session = refl; file = refl; work = refl; buffers = unused (record { current = refl; flag = refl }) l };
      }

      go : (c d : Checked Bool) → SameChecks c d
          → Indistinct (close_done one c) (close_done two d)
      go c d h = rw (← h.is) (each c)

  view-same : (c : ℕ) → view one c ≡ view two c
  unfolding view
  view-same c = rw l (go opened (sized p (length f) (length b)) (leb 1 c) refl)
    where
      go : (o z low : Bool) → leb 1 c ≡ low
          → cond (o && (z && (low && leb c p.n))) (text_of (seen p 0 f a) c) [] ≡ cond (o && (z && (low && leb c p.n))) (text_of (seen p 0 f b) c) []
      go false z low e = refl
      go true false low e = refl
      go true true false e = refl
      go true true true e = ap (λ (t : List ℕ). cond (leb c p.n) t []) (text_same p f a b c (leb-true _ _ e))

-- every call
module _ (p : Description) (opened placed : Bool) (position f a b w : List ℕ) (l : length a ≡ length b) where
  answer-same : (q : Request) → Indistinct (answer (lent (idle p opened placed position) f a w) q) (answer (lent (idle p opened placed position) f b w) q)
  unfolding answer lending seek updat adv d.dlete nd.nsert xd.xtend
  answer-same (opening marks) = (open-same p opened placed position f a b w l marks).0
  answer-same closing = close-same p opened placed position f a b w l
  answer-same (seeking v) = keyed p opened placed position f a b v l p.k _ _ (seek-same p f a b v)
  answer-same (advancing v) = unkeyed p opened placed position f a b v l _ _ (adv-same p f a b placed (part 0 p.k position))
  answer-same (inserting v) = keyed p opened placed position f a b v l p.wpr _ _ (nsert-same p f a b v)
  answer-same (deleting v) = keyed p opened placed position f a b v l p.k _ _ (dlete-same p f a b v)
  answer-same (updating v) = keyed p opened placed position f a b v l p.wpr _ _ (updat-same p f a b v)
  answer-same (extending v) = keyed p opened placed position f a b v l p.wpr _ _ (xtend-same p f a b v)

-- from any two states that are alike: they are equal, or are as above
pub by_cases : (P : State → State → Type 0) → ((st : State) → P st st)
    → ((p : Description) (opened placed : Bool) (position f a b w : List ℕ) → length a ≡ length b
    → P (lent (idle p opened placed position) f a w) (lent (idle p opened placed position) f b w))
    → (st su : State) → Alike st su → P st su
by_cases P equal differ st su h = go h.buffers
  where
    go : Buffers st.session st.buffer su.buffer → P st su
    go (same e) =
        let z : st ≡ su = λ i. record { session = h.session i; file = h.file i; buffer = e i; work = h.work i } in
        subst (P st) z (equal st)
    go (unused k l) =
        let s = st.session in
        let t = idle s.desc s.opened s.placed s.position in
        let r : t ≡ s = λ i. record { desc = s.desc; opened = s.opened; current = sym k.current i; flag = sym k.flag i; placed = s.placed; position = s.position } in
        let z : lent t st.file st.buffer st.work ≡ st = λ i. lent (r i) st.file st.buffer st.work in
        let y : lent t st.file su.buffer st.work ≡ su = λ i. lent ((r ∙ h.session) i) (h.file i) su.buffer (h.work i) in
        subst (λ (c : State). P c su) z
        (subst (P (lent t st.file st.buffer st.work)) y
        (differ s.desc s.opened s.placed s.position st.file st.buffer su.buffer st.work l))

pub unbuffered : Unbuffered
unbuffered st su h q =
    by_cases (λ (x y : State). Indistinct (answer x q) (answer y q)) (λ x. itself (answer x q)) (λ p o c k f a b w l. answer-same p o c k f a b w l q) st su h
  where
    itself : (o : Outcome) → Indistinct o o
    itself o = record { number = refl; transfers = refl; after = record { session = refl; file = refl; work = refl; buffers = same refl } }

pub unbuffered-marks : UnbufferedMarks
unbuffered-marks st su h marks =
    by_cases (λ (x y : State). (open_file x marks).marks ≡ (open_file y marks).marks) (λ x. refl)
    (λ p o c k f a b w l. (open-same p o c k f a b w l marks).1) st su h

pub unbuffered-view : UnbufferedView
unbuffered-view st su h b = by_cases (λ (x y : State). view x b ≡ view y b) (λ x. refl) (λ p o c k f a d w l. view-same p o c k f a d w l b) st su h

pub unbuffered-run : UnbufferedRun
unfolding left
unbuffered-run st su h [] = h
unbuffered-run st su h (q ∷ qs) = unbuffered-run (answer st q).after (answer su q).after (unbuffered st su h q).after qs
