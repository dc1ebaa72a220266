-- The report: the words of the lines, in the order of the walk.
use mathlib.Core.Path.{◌≡◌, refl, sym, ap, ◌∙◌, subst}
use mathlib.Core.Bool.{Bool, true, false, cond}
use mathlib.Core.List.{List, [], ◌∷◌}
use Prim.Native.Nat.{ℕ, ◌+◌, ◌*◌, ◌≤◌}
use native.Mathlib.Omega.{arith}
use lib.ListN.{length}
use Rattle.numbers.specs.Numbers.{done, wrong_size, accepted}
use Rattle.words.specs.Words.{put}
use Rattle.words.specs.Keys.{is_ones}
use Rattle.words.proofs.Parts.{put-none, put-after, length-put}
use Rattle.drum.specs.declared.Description.{Description}
use Rattle.rules.specs.State.{State, Outcome, key_in}
use Rattle.rules.specs.Requests.{inserting, lending, answer}
use Rattle.salvage.specs.Met.{Met, over, found, met}
use Rattle.salvage.specs.Salvage.{Walk, Salvaging, lined, why_not, after, tried, settled, step, run, begun, ended, roomy, salvage}
use Rattle.salvage.specs.Promise.{Roomy}
use Rattle.salvage.proofs.Steps.{step-grown}
use Rattle.salvage.proofs.Walks.{met-most}
use Rattle.salvage.proofs.Ends.{roomy-facts}
use Rattle.salvaged.specs.Reported.{Line, lines_by, line_words, ReportIs}
use Rattle.salvaged.proofs.Runs.{state_of, found_left, found-tried}
use Rattle.salvaged.proofs.Whole.{called, starts}

-- the lines of a walk do not look at a workspace
lines-lent : (p : Description) (ms : List Met) (st : State) → lines_by p (lending [] st) ms ≡ lines_by p st ms
unfolding lines_by lending answer
lines-lent p [] st = refl
lines-lent p (over b m ∷ ms) st = ap (λ (l : List Line). record { block = b; place = 0; reason = m } ∷ l) (lines-lent p ms st)
lines-lent p (found b i r ∷ ms) st = go (is_ones (key_in p r)) (lines-lent p ms st)
  where
    go : (c : Bool) → lines_by p (lending [] st) ms ≡ lines_by p st ms
        → let o = answer st (inserting r) in
        let rest = cond (accepted o.number) (lines_by p o.after ms) (record { block = b; place = i; reason = why_not o.number } ∷ lines_by p o.after ms) in
        cond c (lines_by p (lending [] st) ms) rest ≡ cond c (lines_by p st ms) rest
    go true e = e
    go false e = refl

-- what a walk v has of lines more than w
pub record Wrote (w v : Walk) (ls : List Line) : Type 0 where
  pub lines : v.lines ≡ w.lines + length ls
  pub report : v.report ≡ put w.report (3 * w.lines) (line_words ls)

words-length : (ls : List Line) → length (line_words ls) ≡ 3 * length ls
unfolding line_words
words-length [] = refl
words-length (l ∷ ls) = let e = words-length ls in omega arith

-- none, and then some; one, and then some
wrote_none : (w v u : Walk) (ls : List Line) → v.lines ≡ w.lines → v.report ≡ w.report → Wrote v u ls → Wrote w u ls
wrote_none w v u ls el er k =
    record { lines = k.lines ∙ ap (λ (n : ℕ). n + length ls) el; report = k.report ∙ λ j. put (er j) (3 * el j) (line_words ls) }

wrote_one : (w u : Walk) (b i m : ℕ) (ls : List Line) → 3 * w.lines + 3 ≤ length w.report → Wrote (lined b i m w) u ls
    → Wrote w u (record { block = b; place = i; reason = m } ∷ ls)
unfolding lined line_words
wrote_one w u b i m ls room k =
    let n : 3 * (w.lines + 1) ≡ 3 * w.lines + 3 = omega arith in
    record {
      lines = k.lines ∙ (let z : w.lines + 1 + length ls ≡ w.lines + length (record { block = b; place = i; reason = m } ∷ ls) = omega arith in z);
      report = k.report ∙ ap (λ (a : ℕ). put (put w.report (3 * w.lines) (b ∷ i ∷ m ∷ [])) a (line_words ls)) n
          ∙ put-after w.report (3 * w.lines) (b ∷ i ∷ m ∷ []) (line_words ls) room;
    }

report-long : (w : Walk) (b i m : ℕ) → 3 * w.lines + 3 ≤ length w.report → length (lined b i m w).report ≡ length w.report
unfolding lined
report-long w b i m room = length-put w.report (3 * w.lines) (b ∷ i ∷ m ∷ []) room

-- after an NSERT
module _ (p : Description) (b i : ℕ) (r : List ℕ) (ms : List Met) (w u : Walk) (room : 3 * w.lines + 3 ≤ length w.report) where
  abbrev o : Outcome
  o = answer (state_of w) (inserting r)

  abbrev v : Walk
  v = after (tried r w) w

  abbrev line : Line
  line = record { block = b; place = i; reason = why_not o.number }

  -- what the rest writes is what it writes from the state that the NSERT left
  rest-is : lines_by p (state_of v) ms ≡ lines_by p o.after ms
  unfolding after tried answer lending
  rest-is = lines-lent p ms o.after

  tried-wrote : (c : Bool) → let x = cond c v (lined b i (why_not o.number) v) in
      Wrote x u (lines_by p (state_of x) ms) → Wrote w u (cond c (lines_by p o.after ms) (line ∷ lines_by p o.after ms))
  unfolding after lined
  tried-wrote true k = wrote_none w v u (lines_by p o.after ms) refl refl (subst (Wrote v u) rest-is k)
  tried-wrote false k =
      wrote_none w v u (line ∷ lines_by p o.after ms) refl refl
      (wrote_one v u b i (why_not o.number) (lines_by p o.after ms) room (subst (Wrote (lined b i (why_not o.number) v) u) rest-is k))

  tried-is : settled (tried r w).number b i v ≡ cond (accepted o.number) v (lined b i (why_not o.number) v)
  unfolding settled tried answer lending
  tried-is = refl

  found-wrote : w.session.desc ≡ p → (c : Bool) → is_ones (key_in p r) ≡ c → let x = step w (found b i r) in
      Wrote x u (lines_by p (state_of x) ms) → Wrote w u (lines_by p (state_of w) (found b i r ∷ ms))
  unfolding lines_by
  found-wrote e true h k =
      subst (λ (c : Bool). Wrote w u (cond c (lines_by p (state_of w) ms) (cond (accepted o.number) (lines_by p o.after ms) (line ∷ lines_by p o.after ms))))
      (sym h) (subst (λ (x : Walk). Wrote x u (lines_by p (state_of x) ms)) (found_left w b i r (ap (λ (q : Description). is_ones (key_in q r)) e ∙ h)) k)
  found-wrote e false h k =
      subst (λ (c : Bool). Wrote w u (cond c (lines_by p (state_of w) ms) (cond (accepted o.number) (lines_by p o.after ms) (line ∷ lines_by p o.after ms))))
      (sym h) (tried-wrote (accepted o.number) (settled_is k))
    where
      settled_is : Wrote (step w (found b i r)) u (lines_by p (state_of (step w (found b i r))) ms)
          → let x = cond (accepted o.number) v (lined b i (why_not o.number) v) in Wrote x u (lines_by p (state_of x) ms)
      settled_is k = subst (λ (x : Walk). Wrote x u (lines_by p (state_of x) ms)) (found-tried w b i r (ap (λ (q : Description). is_ones (key_in q r)) e ∙ h) ∙ tried-is) k

-- ---- the whole walk

settled-long : (n b i : ℕ) (v : Walk) → 3 * v.lines + 3 ≤ length v.report → length (settled n b i v).report ≡ length v.report
unfolding settled
settled-long n b i v room = go (accepted n)
  where
    go : (c : Bool) → length (cond c v (lined b i (why_not n) v)).report ≡ length v.report
    go true = refl
    go false = report-long v b i (why_not n) room

step-long : (w : Walk) (m : Met) → 3 * w.lines + 3 ≤ length w.report → length (step w m).report ≡ length w.report
unfolding step after
step-long w (over b m) room = report-long w b 0 m room
step-long w (found b i r) room = go (is_ones (key_in w.session.desc r))
  where
    go : (c : Bool) → length (cond c w (settled (tried r w).number b i (after (tried r w) w))).report ≡ length w.report
    go true = refl
    go false = settled-long (tried r w).number b i (after (tried r w) w) room

lined-state : (b m : ℕ) (w : Walk) → state_of (lined b 0 m w) ≡ state_of w
unfolding lined
lined-state b m w = refl

over-wrote : (p : Description) (b m : ℕ) (ms : List Met) (w u : Walk) → 3 * w.lines + 3 ≤ length w.report
    → Wrote (step w (over b m)) u (lines_by p (state_of (step w (over b m))) ms) → Wrote w u (lines_by p (state_of w) (over b m ∷ ms))
unfolding lines_by step
over-wrote p b m ms w u room k = wrote_one w u b 0 m (lines_by p (state_of w) ms) room (same k)
  where
    same : Wrote (lined b 0 m w) u (lines_by p (state_of (lined b 0 m w)) ms) → Wrote (lined b 0 m w) u (lines_by p (state_of w) ms)
    same k = subst (λ (x : State). Wrote (lined b 0 m w) u (lines_by p x ms)) (lined-state b m w) k

met-wrote : (p : Description) (m : Met) (ms : List Met) (w u : Walk) → w.session.desc ≡ p → 3 * w.lines + 3 ≤ length w.report
    → Wrote (step w m) u (lines_by p (state_of (step w m)) ms) → Wrote w u (lines_by p (state_of w) (m ∷ ms))
met-wrote p (over b m) ms w u e room k = over-wrote p b m ms w u room k
met-wrote p (found b i r) ms w u e room k = found-wrote p b i r ms w u room e (is_ones (key_in p r)) refl k

wrote : (p : Description) (ms : List Met) (w : Walk) → w.session.desc ≡ p → 3 * (w.lines + length ms) ≤ length w.report
    → Wrote w (run w ms) (lines_by p (state_of w) ms)
unfolding run
wrote p [] w e room = unfold lines_by line_words in record { lines = omega arith; report = sym (put-none w.report (3 * w.lines)) }
wrote p (m ∷ ms) w e room =
    let g = step-grown w m in
    let l = g.lines in
    let one : 3 * w.lines + 3 ≤ length w.report = omega arith in
    met-wrote p m ms w (run (step w m) ms) e one (wrote p ms (step w m) (g.desc ∙ e) (omega (arith, step-long w m one)))

rooms : (p : Description) (copy fresh buffer report : List ℕ) → (salvage p copy fresh buffer report).number ≡ done
    → Roomy p (length copy) (length fresh) (length buffer) (length report)
unfolding salvage
rooms p copy fresh buffer report h = go (roomy p (length copy) (length fresh) (length buffer) (length report)) refl h
  where
    go : (c : Bool) → roomy p (length copy) (length fresh) (length buffer) (length report) ≡ c
        → (cond c (ended (run (begun p buffer report) (met p copy)))
        (record { number = wrong_size; transfers = 0; lines = 0; fresh = fresh; buffer = buffer; report = report })).number
        ≡ done
        → Roomy p (length copy) (length fresh) (length buffer) (length report)
    go true e h = roomy-facts p (length copy) (length fresh) (length buffer) (length report) e
    go false e h = absurd (omega arith)

none_before : (n m k : ℕ) → k ≡ 0 → n ≡ k + m → n ≡ m
none_before n m k z e = omega arith

pub report-is : ReportIs
unfolding ended
report-is p copy fresh buffer report l h =
    let w = begun p buffer report in
    let s = starts p buffer report in
    let q = rooms p copy fresh buffer report h in
    let c = called p copy fresh buffer report h in
    let few = met-most p copy 1 p.n in
    let k = wrote p (met p copy) w s.1 (omega (arith, s.3, ap length s.4, q.room)) in (
      ap (λ (o : Salvaging). o.report) c ∙ k.report ∙ (λ j. put (s.4 j) (3 * s.3 j) (line_words (lines_by p (s.0 j) (met p copy)))),
      ap (λ (o : Salvaging). o.lines) c ∙ none_before _ _ w.lines s.3 k.lines ∙ ap (λ (u : State). length (lines_by p u (met p copy))) s.0,
    )
