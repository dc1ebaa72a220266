-- A line that names a call is performed: the numbers that the call carries, the first on its line, are all that it looks at.
use Prim.Native.Nat.{ℕ, ◌+◌, ◌≤◌}
use native.Mathlib.Omega.{arith}
use mathlib.Core.Path.{◌≡◌, sym, ap, subst, ◌∙◌}
use mathlib.Core.Bool.{Bool, true, false, cond, ◌&&◌}
use mathlib.Core.List.{List, [], ◌∷◌}
use Rattle.std.proofs.Common.{Option, None, Some}
use lib.Dec.{eqb}
use lib.ListN.{length}
use Rattle.words.specs.Words.{part, put}
use Rattle.words.specs.Keys.{same_key}
use Rattle.words.proofs.Parts.{part-part}
use Rattle.drum.specs.declared.Description.{Description}
use Rattle.rules.specs.declared.Call.{Call}
use Rattle.rules.specs.State.{State, desc}
use Rattle.rules.specs.Run.{perform, key_from, record_from, line_of}
use Rattle.searchfile.specs.Promise.{Counted, counted}
use Rattle.calls.specs.Perform.{done}
use Rattle.calls.proofs.Printed.{Room, done-printed}
use Rattle.calls.proofs.Described.{same-description}
use Rattle.texts.specs.Results.{spelling}
use Rattle.lines.specs.declared.Reading.{Reading}
use Rattle.lines.specs.Lines.{kinds, named_in, named, carries}
use Rattle.lines.specs.Reading.{call_in, call_of, parsed_as}
use Rattle.printed.specs.Output.{Played, played}
use Rattle.printed.specs.Promise.{Shown, told_line, shown_at}

-- what holds of a call, if there is one
abbrev Of : (Call → Type 0) → Option Call → Type 0
Of P None = Unit {0}
Of P (Some c) = P c

abbrev Each : (Call → Type 0) → List Call → Type 0
Each P [] = Unit {0}
Each P (c ∷ cs) = P c × Each P cs

named-in : (P : Call → Type 0) (w : List ℕ) (cs : List Call) → Each P cs → Of P (named_in cs w)
unfolding named_in
named-in P w [] h = tt
named-in P w (c ∷ cs) h = go (same_key w (spelling c)) (named-in P w cs h.1)
  where
    go : (x : Bool) → Of P (named_in cs w) → Of P (cond x (Some c) (named_in cs w))
    go true g = h.0
    go false g = g

call-in : (P : Call → Type 0) (p : Description) (r : Reading) (o : Option Call) → Of P o → Of P (call_in p r o)
unfolding call_in
call-in P p r None h = tt
call-in P p r (Some c) h = go (eqb r.others 1 && eqb r.numbers (carries p c))
  where
    go : (x : Bool) → Of P (cond x (Some c) None)
    go true = h
    go false = tt

-- the call looks at no other numbers than those that it carries, and they have room
abbrev Fits : List ℕ → State → Call → Type 0
Fits ws st c = (perform (part 0 (carries (desc st) c) ws) st c ≡ perform ws st c) × Room ws st c

module _ (ws : List ℕ) (st : State) (key-given : (desc st).k ≤ length ws) (record-given : (desc st).wpr ≤ length ws) (key-room : (desc st).k ≤ length st.work) (record-room : (desc st).wpr ≤ length st.work) where
  key-again : key_from (part 0 (desc st).k ws) st 0 ≡ key_from ws st 0
  unfolding key_from
  key-again = rw (part-part 0 (desc st).k 0 (desc st).k ws (omega arith))

  record-again : record_from (part 0 (desc st).wpr ws) st 0 ≡ record_from ws st 0
  unfolding record_from
  record-again = rw (part-part 0 (desc st).wpr 0 (desc st).wpr ws (omega arith))

  each_fits : Each (Fits ws st) kinds
  unfolding kinds carries perform
  each_fits = search (arith, key-again, record-again)

  fits : (r : Reading) (name : List ℕ) → Of (Fits ws st) (call_of (desc st) r name)
  unfolding call_of named
  fits r name = call-in (Fits ws st) (desc st) r (named (part 0 r.spelled name)) (named-in (Fits ws st) (part 0 r.spelled name) kinds each_fits)

  -- what was performed is what the line plays, and leaves the parameters as they were
  pub line-played : (m : List ℕ) → length m ≡ (desc st).n → (r : Reading) (name : List ℕ) (c : Call) → Some c ≡ call_of (desc st) r name
      → (o : Counted) → o ≡ counted (done ws st m c).outcome
      → (◌≡◌ {A = Played} (record { over = false; after = o.after; text = told_line c o.number o.transfers o.after.work }) (played st (parsed_as (desc st) (call_of (desc st) r name) ws)))
      × (desc o.after ≡ desc st)
  unfolding parsed_as played told_line line_of
  line-played m l r name c e o q =
      let f : Fits ws st c = subst (Of (Fits ws st)) (sym e) (fits r name) in
      let z : o ≡ counted (perform (part 0 (carries (desc st) c) ws) st c) = q ∙ ap counted (done-printed ws st m c l f.1 ∙ sym f.0) in (
        ap (λ (x : Counted). record { over = false; after = x.after; text = told_line c x.number x.transfers x.after.work }) z
            ∙ ap (λ (x : Option Call). played st (parsed_as (desc st) x ws)) e,
        ap (λ (x : Counted). desc x.after) z ∙ same-description (part 0 (carries (desc st) c) ws) st c,
      )

-- the text of a line is put where it was asked for
pub line-shown : (out out' text : List ℕ) (at end : ℕ) (st : State) (x : Played) → out' ≡ put out at text → end ≡ at + length text
    → ◌≡◌ {A = Played} (record { over = false; after = st; text = text }) x
    → ◌≡◌ {A = Shown} (record { over = false; after = st; out = out'; at = end }) (shown_at out at x)
line-shown out out' text at end st x e l p = (λ j. record { over = false; after = st; out = e j; at = l j }) ∙ ap (shown_at out at) p
