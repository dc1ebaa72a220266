-- A turn of the tray's loop: what is left of the tray comes to what the whole comes to, with the records stored and the transfers made before.
use mathlib.Core.Path.{◌≡◌, sym, ap, subst, ◌∙◌}
use mathlib.Core.Bool.{Bool, true, false, cond, not}
use mathlib.Core.List.{List, [], ◌∷◌, ◌++◌}
use Prim.Native.Nat.{ℕ, ◌+◌, ◌*◌, ◌-◌, ◌≤◌, ◌<◌}
use native.Mathlib.Omega.{arith}
use borrow.Author.Tests.{not-true, not-false}
use mir.Syntax.{w64}
use mir.Val.{Fits}
use lib.ListN.{length, length-append, take, drop}
use Rattle.numbers.specs.Numbers.{accepted}
use Rattle.words.specs.Words.{part}
use Rattle.rules.specs.State.{Outcome, lent}
use Rattle.rules.specs.NsertDone.{nsert}
use Rattle.rules.specs.Requests.{lending, answer, inserting}
use Rattle.searchfile.specs.declared.Session as code
use Rattle.searchfile.specs.Answers.{Answer}
use Rattle.searchfile.specs.Promise.{Counted, given, counted, answered}
use Rattle.demands.proofs.Costs.{few-transfers}
use Rattle.tray.specs.Tray.{TrayOutcome, records_at, nsert_one, stopped_by, stored_before, inserts}
use Rattle.tray.specs.Promise.{CountedTray, answered_tray}
use Rattle.tray.proofs.Rows.{records-next, records-none, record-lent, one-row}

-- an outcome as a caller sees it, with k records stored and n transfers made before it
abbrev pub behind : ℕ → ℕ → TrayOutcome → CountedTray
behind k n o = record { stored = k + o.stored; number = o.number; transfers = n + length o.transfers; after = o.after }

-- what one NSERT of a tray is seen as
module _ (s : code.Session) (f b r : List ℕ) (a : Answer) (g d : List ℕ) (e : answered a g d r ≡ counted (nsert (given s f b r))) where
  one_seen : counted (nsert_one (given s f b []) r) ≡ record { number = a.number; transfers = a.transfers; after = given a.session g d [] }
  unfolding nsert_one lending
  one_seen = λ j. record {
    number = (sym e j).number;
    transfers = (sym e j).transfers;
    after = lent (sym e j).after.session (sym e j).after.file (sym e j).after.buffer [];
  }

  -- at most 16 transfers
  one-few : a.transfers ≤ 16
  unfolding answer lending
  one-few =
      let n : a.transfers ≡ length (nsert (given s f b r)).transfers = ap (λ (x : Counted). x.transfers) e in
      rw n (few-transfers (given s f b []) (inserting r))

  -- so the sum of the transfers fits
  pub sum_fits : (n k count : ℕ) → n ≤ 16 * k → k < count → count ≤ 4294967295 → Fits w64 (n + a.transfers)
  sum_fits n k count h l c = omega (arith, one-few)

  pub sum-most : (n k : ℕ) → n ≤ 16 * k → n + a.transfers ≤ 16 * (k + 1)
  sum-most n k h = omega (arith, one-few)

  module _ (rs : List (List ℕ)) (k n m : ℕ) (t : Bool) (told : t ≡ accepted a.number) where
    abbrev one : Outcome
    one = nsert_one (given s f b []) r

    abbrev rest : TrayOutcome
    rest = inserts one.after rs one.number

    answers : accepted one.number ≡ t
    answers = ap (λ (x : Counted). accepted x.number) one_seen ∙ sym told

    -- it stops the tray
    pub tray-stops : not t ≡ true
        → record { stored = k; number = a.number; transfers = n + a.transfers; after = given a.session g d [] }
        ≡ behind k n (inserts (given s f b []) (r ∷ rs) m)
    unfolding inserts
    tray-stops h =
        let z : k + 0 ≡ k = omega arith in
        sym (ap (λ (c : Bool). behind k n (cond c (stored_before one rest) (stopped_by one))) (answers ∙ not-true t h)
        ∙ λ j. record { stored = z j; number = (one_seen j).number; transfers = n + (one_seen j).transfers; after = (one_seen j).after })

    -- or the rest follows
    pub tray-goes : not t ≡ false
        → behind k n (inserts (given s f b []) (r ∷ rs) m) ≡ behind (k + 1) (n + a.transfers) (inserts (given a.session g d []) rs a.number)
    unfolding inserts
    tray-goes h =
        let u : k + (rest.stored + 1) ≡ k + 1 + rest.stored = omega arith in
        let l = length-append one.transfers rest.transfers in
        let v : n + length (one.transfers ++ rest.transfers) ≡ n + length one.transfers + length rest.transfers = omega arith in
        ap (λ (c : Bool). behind k n (cond c (stored_before one rest) (stopped_by one))) (answers ∙ not-false t h)
        ∙ (λ j. record { stored = u j; number = rest.number; transfers = v j; after = rest.after })
        ∙ λ j. behind (k + 1) (n + (one_seen j).transfers) (inserts (one_seen j).after rs (one_seen j).number)

-- what a caller will see of the whole tray, told from the loop: k records stored, n transfers made, m the last number, and the rest from word
-- `at` on
abbrev pub Reached : CountedTray → code.Session → ℕ → ℕ → ℕ → List ℕ → List ℕ → ℕ → ℕ → ℕ → List ℕ → Type 0
Reached whole s k m n f b count w at t = whole ≡ behind k n (inserts (given s f b []) (records_at (count - k) w at t) m)

module _ (whole : CountedTray) (s : code.Session) (k m n : ℕ) (f b : List ℕ) (count w at : ℕ) (t : List ℕ) (here : Reached whole s k m n f b count w at t) where
  -- at last: nothing is left; i counts the turns, as many as records are stored
  pub tray-ends : (i : ℕ) → k ≡ i → count ≤ i → answered_tray (record { stored = k; number = m; transfers = n; session = s }) f b ≡ whole
  unfolding inserts
  tray-ends i c h =
      let l : count ≤ k = omega arith in
      let u : k + 0 ≡ k = omega arith in
      let v : n + 0 ≡ n = omega arith in
      sym (here
      ∙ ap (λ (rs : List (List ℕ)). behind k n (inserts (given s f b []) rs m)) (records-none count k w at t l)
      ∙ λ j. record { stored = u j; number = m; transfers = v j; after = given s f b [] })

  -- a turn: the record at word `at` is lent to NSERT, which answers a
  abbrev lent-words : List ℕ
  lent-words = take (at + w - at) (drop at t)

  module _ (a : Answer) (g d : List ℕ) (e : answered a g d lent-words ≡ counted (nsert (given s f b lent-words))) where
    abbrev behind-it : List (List ℕ)
    behind-it = records_at (count - (k + 1)) w (at + w) t

    lent_is : answered a g d (part at w t) ≡ counted (nsert (given s f b (part at w t)))
    lent_is = subst (λ (r : List ℕ). answered a g d r ≡ counted (nsert (given s f b r))) (record-lent at w t) e

    next-is : k < count → whole ≡ behind k n (inserts (given s f b []) (part at w t ∷ behind-it) m)
    next-is l = here ∙ ap (λ (rs : List (List ℕ)). behind k n (inserts (given s f b []) rs m)) (records-next count k w at t l)

    pub turn-stops : (i : ℕ) (x : Bool) → k ≡ i → i < count → x ≡ accepted a.number → not x ≡ true
        → answered_tray (record { stored = k; number = a.number; transfers = n + a.transfers; session = a.session }) g d ≡ whole
    turn-stops i x c u q h =
        let l : k < count = omega arith in
        tray-stops s f b (part at w t) a g d lent_is behind-it k n m x q h ∙ sym (next-is l)

    pub turn-goes : (i : ℕ) (x : Bool) → at ≡ 1 + i * w → k ≡ i → i < count → x ≡ accepted a.number → not x ≡ false
        → Reached whole a.session (k + 1) a.number (n + a.transfers) g d count w (1 + (i + 1) * w) t
    turn-goes i x p c u q h =
        let l : k < count = omega arith in
        let o = one-row i w in
        let z : at + w ≡ 1 + (i + 1) * w = omega arith in
        next-is l ∙ tray-goes s f b (part at w t) a g d lent_is behind-it k n m x q h
        ∙ ap (λ (j : ℕ). behind (k + 1) (n + a.transfers) (inserts (given a.session g d []) (records_at (count - (k + 1)) w j t) a.number)) z
