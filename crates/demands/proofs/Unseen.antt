-- Wrong routines whose calls answer, store and count as they should: one forgets position, one leaves CLOSE unwritten, one shows the file for the
-- buffer. Each is refused by its own sentence of demand 2 and by no other. A CLOSE that drops the buffer is refused by the records already.
use Prim.Native.Nat.{ℕ}
use mathlib.Core.Bool.{Bool, true, false, cond}
use mathlib.Core.Path.{◌≡◌, refl, sym, ap, ◌∙◌, subst}
use mathlib.Core.List.{List, [], ◌∷◌}
use native.Mathlib.Omega.{arith}
use lib.Dec.{eqb}
use lib.ListN.{length, length-replicate, get_or}
use borrow.Author.Tests.{eqb-true}
use Rattle.numbers.specs.Numbers.{done, accepted}
use Rattle.words.specs.Words.{part}
use Rattle.drum.specs.declared.Description.{Description}
use Rattle.drum.specs.Blocks.{block_at}
use Rattle.layout.specs.Tree.{Section, contents, fresh_tree}
use Rattle.layout.specs.Holds.{Holds}
use Rattle.layout.proofs.Unique.{one-tree}
use Rattle.rules.specs.State.{State, Outcome, desc, key_in, lent}
use Rattle.rules.specs.Close.{view}
use Rattle.rules.specs.Requests.{Request, opening, closing, seeking, advancing, inserting, deleting, updating, extending, given, answer}
use Rattle.demands.specs.Position.{Positions, Rests}
use Rattle.rules.proofs.Computing.{computing}
use Rattle.demands.proofs.Refused.{impossible}
use Rattle.demands.proofs.Position.{positions}
use Rattle.demands.specs.History.{event_of, with_key}
use Rattle.demands.specs.Promises.{put_back}
use Rattle.demands.specs.Contents.{Contains, changed}
use Rattle.demands.specs.Answers.{Met}
use Rattle.demands.specs.Durable.{ClosesBy}
use Rattle.demands.specs.Routines.{left_by, closes, AfterOpenBy, AnsweredBy, AnswersAre, RecordsChange, PositionsAre, ViewsAre}
use Rattle.demands.specs.WrongRoutines.{forgetting, forgetful, closing_by, feigning, dropping, unwritten, stale, ForPosition, ForClose, ForView}
use Rattle.demands.proofs.Holds.{Free}
use Rattle.demands.proofs.Sound.{Key, Sound}
use Rattle.demands.proofs.Stepped.{Stepped}
use Rattle.demands.proofs.Calls.{stepped}
use Rattle.demands.proofs.Durable.{sound-closes}
use Rattle.demands.proofs.Views.{shown}
use Rattle.demands.proofs.Routines.{Fine, by-sound, right-calls, answer-fine, answer-answers, demand-2}
use Rattle.demands.proofs.WrongRoutines.{small, resting, fresh, begin, marks₄, five, end, good, fresh-rows, begin-holds, both-there}

-- ---- position forgotten

-- what holds of each call's outcome, and of it with position as it was, holds of what `forgetful` does
by-forgetful : (st : State) (P : Request → Outcome → Type 0) → ((q : Request) → P q (answer st q)) → ((q : Request) → P q (forgetting st (answer st q)))
    → (q : Request) → P q (forgetful st q)
unfolding forgetful
by-forgetful st P a g (opening marks) = a (opening marks)
by-forgetful st P a g closing = a closing
by-forgetful st P a g (seeking w) = a (seeking w)
by-forgetful st P a g (advancing w) = a (advancing w)
by-forgetful st P a g (inserting w) = g (inserting w)
by-forgetful st P a g (deleting w) = g (deleting w)
by-forgetful st P a g (updating w) = g (updating w)
by-forgetful st P a g (extending w) = g (extending w)

-- the records of a state do not depend on its position
contains-forgetting : (st : State) (o : Outcome) (rows : List (List ℕ)) → Contains o.after rows → Contains (forgetting st o).after rows
unfolding forgetting
contains-forgetting st o rows c = record { tree = c.tree; held = c.held; are = c.are }

met-forgetting : (st : State) (o : Outcome) (xs : List (List ℕ)) → Met xs o → Met xs (forgetting st o)
unfolding forgetting
met-forgetting st o [] e = e
met-forgetting st o (x ∷ xs) e = e

event-forgetting : (st : State) (p : Description) (q : Request) (o : Outcome) → event_of p q o ≡ event_of p q (forgetting st o)
unfolding event_of forgetting
event-forgetting st p (opening marks) o = refl
event-forgetting st p closing o = refl
event-forgetting st p (seeking w) o = refl
event-forgetting st p (advancing w) o = refl
event-forgetting st p (inserting w) o = refl
event-forgetting st p (deleting w) o = refl
event-forgetting st p (updating w) o = refl
event-forgetting st p (extending w) o = refl

forgetful-fine : (st : State) (ss : List Section) (f : Free) → Sound st ss f → (q : Request) → Fine st q (forgetful st q)
unfolding forgetting
forgetful-fine st ss f h = by-forgetful st (Fine st) (answer-fine st ss f h) λ q.
    let z : Stepped st ss f q = stepped st ss f h q in
    let a : Fine st q (answer st q) = answer-fine st ss f h q in
    record {
      stands = (
        z.sections,
        z.free,
        record {
          kept = z.sound.kept;
          position = h.position;
          placed = λ e. subst (λ (p : Description). Key p (part 0 p.k st.session.position)) (sym z.desc-is) (h.placed e);
          resting = z.sound.resting;
        },
      );
      parameters = a.parameters;
      stays_open = a.stays_open;
      records = λ rows c.
          contains-forgetting st (answer st q) _
          (subst (λ es. Contains (answer st q).after (changed (desc st) es rows)) (event-forgetting st (desc st) q (answer st q)) (a.records rows c));
      not-bad = a.not-bad;
      count = a.count;
      written = a.written;
    }

forgetful-answers : (st : State) (ss : List Section) (f : Free) → Sound st ss f → AnswersAre forgetful st
unfolding forgetful forgetting
forgetful-answers st ss f h t held =
    let a : AnsweredBy answer st t = answer-answers st ss f h t held in
    record {
      seek = a.seek;
      adv = a.adv;
      dlete = λ w k. met-forgetting st (answer st (deleting w)) (with_key (desc st) (key_in (desc st) w) (contents t)) (a.dlete w k);
      updat = λ w k. met-forgetting st (answer st (updating w)) (with_key (desc st) (key_in (desc st) w) (contents t)) (a.updat w k);
      nsert = a.nsert;
      xtend = a.xtend;
    }

forgetful-closes : (st : State) (ss : List Section) (f : Free) → Sound st ss f → ClosesBy forgetful st
unfolding forgetful
forgetful-closes st ss f h = let c : ClosesBy answer st = sound-closes st ss f h in record { answers = c.answers; rests = c.rests; stands = c.stands }

-- ---- the runs that refuse them: CREATE, OPEN, NSERT

begins : ((answer fresh (opening marks₄)).number ≡ done) × ((answer fresh (opening marks₄)).after ≡ begin)
unfolding computing
begins = (refl, refl)

stored-five : accepted (answer begin (inserting five)).number ≡ true
unfolding computing
stored-five = refl

-- the state after the NSERT
abbrev held-five : State
held-five = (answer begin (inserting five)).after

forgetful-refused : AfterOpenBy forgetful (PositionsAre forgetful) → ⊥
unfolding forgetful forgetting left_by
forgetful-refused h =
    let at : PositionsAre forgetful begin = subst (PositionsAre forgetful) begins.1 (h fresh marks₄ begins.0 []) in
    impossible (sym ((at (inserting five)).moved stored-five).placed)

pub forgetful-only : ForPosition forgetful view
unfolding forgetful
forgetful-only = record {
  calls = right-calls forgetful (λ st marks. refl) forgetful-fine forgetful-answers;
  closes = by-sound forgetful (λ st marks. refl) forgetful-fine (ClosesBy forgetful) forgetful-closes;
  views = by-sound forgetful (λ st marks. refl) forgetful-fine (ViewsAre view) shown;
  refused = forgetful-refused;
}

-- ---- CLOSE

by-closing : (close : State → Outcome) (st : State) (P : Request → Outcome → Type 0) → ((q : Request) → P q (answer st q)) → P closing (close st)
    → (q : Request) → P q (closing_by close st q)
unfolding closing_by
by-closing close st P a c (opening marks) = a (opening marks)
by-closing close st P a c closing = c
by-closing close st P a c (seeking w) = a (seeking w)
by-closing close st P a c (advancing w) = a (advancing w)
by-closing close st P a c (inserting w) = a (inserting w)
by-closing close st P a c (deleting w) = a (deleting w)
by-closing close st P a c (updating w) = a (updating w)
by-closing close st P a c (extending w) = a (extending w)

-- a feigned CLOSE is as fine as the state that it leaves, and rests where that has no position
module _ (st : State) (ss : List Section) (f : Free) (h : Sound st ss f) (now : State) where
  abbrev by : Bool → Outcome
  by t = record { number = (answer st closing).number; transfers = (answer st closing).transfers; after = cond t now (answer st closing).after }

  feigned-fine : Sound now ss f → desc now ≡ desc st → now.file ≡ st.file → ((rows : List (List ℕ)) → Contains st rows → Contains now rows)
      → Fine st closing (feigning now (answer st closing))
  unfolding feigning closes event_of changed
  feigned-fine s d e c = go (eqb (answer st closing).number done)
    where
      a : Fine st closing (answer st closing)
      a = answer-fine st ss f h closing

      go : (t : Bool) → Fine st closing (by t)
      go false = record {
        stands = a.stands;
        parameters = a.parameters;
        stays_open = a.stays_open;
        records = a.records;
        not-bad = a.not-bad;
        count = refl;
        written = a.written;
      }
      go true = record {
        stands = (ss, f, s);
        parameters = d;
        stays_open = λ n. impossible n;
        records = c;
        not-bad = a.not-bad;
        count = refl;
        written = λ b k w. ap (λ (x : List ℕ). block_at (desc st) x b) e;
      }

  feigned-rests : now.session.placed ≡ false → Rests st (feigning now (answer st closing))
  unfolding feigning given
  feigned-rests n = go (eqb (answer st closing).number done) refl
    where
      a : Rests st (answer st closing)
      a = positions st closing

      go : (t : Bool) → eqb (answer st closing).number done ≡ t → Rests st (by t)
      go false e = record { rested = a.rested; stayed = a.stayed }
      go true e = record { rested = λ d. n; stayed = λ d. absurd (d (eqb-true (answer st closing).number done e)) }

unwritten-fine : (st : State) (ss : List Section) (f : Free) → Sound st ss f → (q : Request) → Fine st q (unwritten st q)
unfolding unwritten
unwritten-fine st ss f h =
    by-closing _ st (Fine st) (answer-fine st ss f h) (feigned-fine st ss f h _
    (record { kept = h.kept; position = length-replicate {A = ℕ} 63 0; placed = λ e. impossible (sym e); resting = h.resting })
    refl refl (λ rows c. record { tree = c.tree; held = c.held; are = c.are }))

unwritten-answers : (st : State) (ss : List Section) (f : Free) → Sound st ss f → AnswersAre unwritten st
unfolding unwritten closing_by
unwritten-answers st ss f h t held =
    let a : AnsweredBy answer st t = answer-answers st ss f h t held in
    record { seek = a.seek; adv = a.adv; dlete = a.dlete; updat = a.updat; nsert = a.nsert; xtend = a.xtend }

unwritten-positions : (st : State) (ss : List Section) (f : Free) → Sound st ss f → PositionsAre unwritten st
unfolding unwritten given
unwritten-positions st ss f h = by-closing _ st (λ q o. Positions q (given st q) o) (positions st) (feigned-rests st ss f h _ refl)

-- CLOSE answers 0 after the NSERT, and the file is the new one still
abbrev reopened : State
reopened = (unwritten (lent (resting false) (unwritten held-five closing).after.file begin.buffer begin.work) (opening marks₄)).after

unwritten-five : ((unwritten held-five closing).number ≡ done) × (reopened ≡ begin)
unfolding computing unwritten closing_by feigning
unwritten-five = (refl, refl)

-- the new file does not hold the record
not_there : Contains begin (five ∷ end ∷ []) → ⊥
not_there c =
    let e : five ∷ end ∷ [] ≡ end ∷ []
    = sym c.are ∙ ap contents (one-tree small (put_back begin) c.tree (fresh_tree small) good c.held begin-holds) ∙ fresh-rows in
    omega (arith, ap length e)

there-is : Contains held-five (five ∷ end ∷ [])
there-is = both-there answer demand-2.calls

held-sizes : (small ≡ desc held-five) × (length begin.buffer ≡ (desc held-five).wpb) × (length marks₄ ≡ (desc held-five).n)
unfolding computing
held-sizes = (refl, refl, refl)

unwritten-refused : AfterOpenBy unwritten (ClosesBy unwritten) → ⊥
unfolding unwritten closing_by left_by
unwritten-refused h =
    let at : ClosesBy unwritten held-five
    = subst (λ (x : State). ClosesBy unwritten (answer x (inserting five)).after) begins.1 (h fresh marks₄ begins.0 (inserting five ∷ [])) in
    not_there (subst (λ (x : State). Contains x (five ∷ end ∷ [])) unwritten-five.1
    (at.stands (five ∷ end ∷ []) there-is unwritten-five.0 (resting false) begin.buffer begin.work marks₄
    held-sizes.0 refl held-sizes.1 held-sizes.2).1)

pub unwritten-only : ForClose unwritten view
unfolding unwritten closing_by
unwritten-only = record {
  calls = right-calls unwritten (λ st marks. refl) unwritten-fine unwritten-answers;
  positions = by-sound unwritten (λ st marks. refl) unwritten-fine (PositionsAre unwritten) unwritten-positions;
  views = by-sound unwritten (λ st marks. refl) unwritten-fine (ViewsAre view) shown;
  refused = unwritten-refused;
}

-- a CLOSE that closes and drops the buffer: the records say so already
dropped-five : (put_back (dropping held-five closing).after ≡ put_back begin) × (desc (dropping held-five closing).after ≡ small)
unfolding computing dropping closing_by feigning
dropped-five = (refl, refl)

pub dropping-refused : AfterOpenBy dropping (RecordsChange dropping) → ⊥
unfolding dropping closing_by left_by event_of changed
dropping-refused h =
    let at : RecordsChange dropping held-five
    = subst (λ (x : State). RecordsChange dropping (answer x (inserting five)).after) begins.1 (h fresh marks₄ begins.0 (inserting five ∷ [])) in
    let c : Contains (dropping held-five closing).after (five ∷ end ∷ []) = at (five ∷ end ∷ []) there-is closing in
    not_there (record {
      tree = c.tree;
      held = subst (λ (p : Description). Holds p (put_back begin) c.tree) dropped-five.1
          (subst (λ (x : List ℕ). Holds (desc (dropping held-five closing).after) x c.tree) dropped-five.0 c.held);
      are = c.are;
    })

-- ---- VIEW

-- block 2's count, in the file and with the buffer put back
counts-two : (get_or (stale held-five 2) 0 0 ≡ 1) × (get_or (block_at (desc held-five) (put_back held-five) 2) 0 0 ≡ 2)
    × (held-five.session.opened ≡ true) × ((desc held-five).n ≡ 4)
unfolding computing stale
counts-two = (refl, refl, refl, refl)

stale-refused : AfterOpenBy answer (ViewsAre stale) → ⊥
unfolding left_by
stale-refused h =
    let at : ViewsAre stale held-five
    = subst (λ (x : State). ViewsAre stale (answer x (inserting five)).after) begins.1 (h fresh marks₄ begins.0 (inserting five ∷ [])) in
    let e : stale held-five 2 ≡ block_at (desc held-five) (put_back held-five) 2 = (at 2).block counts-two.2 (omega arith, omega (arith, counts-two.3)) in
    omega (arith, sym counts-two.0 ∙ ap (λ (x : List ℕ). get_or x 0 0) e ∙ counts-two.1)

pub stale-only : ForView answer stale
stale-only = record { calls = demand-2.calls; positions = demand-2.positions; closes = demand-2.closes; refused = stale-refused }
