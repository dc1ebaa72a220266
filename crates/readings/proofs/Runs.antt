-- A run of reading calls is a run of the rules' calls, in which the altering ones are left out.
use Prim.Native.Nat.{ℕ}
use mathlib.Core.Path.{◌≡◌, refl, sym, ap, ◌∙◌, subst}
use mathlib.Core.Bool.{Bool, true, false, cond, not}
use mathlib.Core.List.{List, [], ◌∷◌, ◌++◌}
use borrow.Author.Tests.{eqb-true}
use lib.Dec.{eqb}
use lib.ListN.{length}
use native.Mathlib.Omega.{arith}
use Rattle.numbers.specs.Numbers.{done, wrong_size, is_closed, already_open, reading_only}
use Rattle.numbers.specs.Checked.{Checked, passed, refused, ◌>>◌, require}
use Rattle.drum.specs.declared.Description.{Description}
use Rattle.drum.specs.Params.{sized}
use Rattle.drum.proofs.Good.{sized-facts}
use Rattle.layout.specs.Tree.{Tree, contents}
use Rattle.layout.specs.Holds.{Holds}
use Rattle.layout.specs.Inspect.{layout_marks}
use Rattle.rules.specs.State.{Session, State, Outcome, desc, key_in, lent, unchanged, settle}
use Rattle.rules.specs.Checks.{sizes_ok, work_ok, is_open}
use Rattle.rules.specs.Lookup.{flush_moves}
use Rattle.drum.specs.Blocks.{written}
use Rattle.rules.specs.Seek.{seek}
use Rattle.rules.specs.Adv.{adv}
use Rattle.rules.specs.Open.{Opened, open_file, open_done, open_checks, open_layout}
use Rattle.rules.specs.Close.{close, close_checks, close_done}
use Rattle.rules.specs.Requests.{Request, lending, answer, left}
use Rattle.rules.specs.Requests as rules
use Rattle.demands.specs.History.{with_key}
use Rattle.demands.specs.Contents.{Contains}
use Rattle.demands.specs.Answers.{Answered, Sought, Advanced, ordinary, above_position}
use Rattle.demands.proofs.Came.{same-parameters}
use Rattle.demands.proofs.Answered.{call-answers}
use Rattle.reading.specs.declared.ReadingSession.{ReadingSession}
use Rattle.reading.specs.Finished.{finished}
use Rattle.reading.specs.Reading.{one_section, as_session, given, profile, read_open, read_open_done, read_close, read_seek, read_adv, read_alter}
use Rattle.reading.specs.Reading as reading-is
use Rattle.reading.proofs.Claims.{reading-is-rules, file-kept}
use Rattle.readings.specs.Runs.{Reading, opening, closing, seeking, advancing, altering, read, read_left, ReadsRight, ReadingRun}
use Rattle.readings.proofs.Trees.{tree-finished}
use Rattle.readings.proofs.Opens.{reading-opens}

-- ---- what an OPEN that answers 0 was given

record Given (s : ReadingSession) (f b marks : List ℕ) : Type 0 where
  one : s.desc.control ≡ 1
  fit : sized s.desc (length f) (length b) ≡ true
  long : length marks ≡ s.desc.n
  shut : s.opened ≡ false

given_by : (st : State) (marks : List ℕ) (a b c d : Bool)
    → (read_open_done st marks (require a wrong_size >> (require b wrong_size >> (require c wrong_size >> require d already_open)))).outcome.number ≡ done
    → (a ≡ true) × (b ≡ true) × (c ≡ true) × (d ≡ true)
unfolding read_open_done
given_by st marks true true true true e = (refl, refl, refl, refl)
given_by st marks true true true false e = absurd (omega (arith, e))
given_by st marks true true false d e = absurd (omega (arith, e))
given_by st marks true false c d e = absurd (omega (arith, e))
given_by st marks false b c d e = absurd (omega (arith, e))

not-open : (x : Bool) → not x ≡ true → x ≡ false
not-open true e = sym e
not-open false e = refl

opened-given : (s : ReadingSession) (f b w marks : List ℕ) → (read_open (given s f b w) marks).outcome.number ≡ done → Given s f b marks
unfolding read_open open_checks sizes_ok
opened-given s f b w marks e =
    let (x, y, z, u) = given_by (given s f b w) marks _ _ _ _ e in
    record { one = eqb-true _ _ x; fit = y; long = eqb-true _ _ z; shut = not-open s.opened u }

-- ---- the calls beside the rules' calls

-- the same but for the workspace, which each call is lent anew
record Alike (a b : State) : Type 0 where
  session : a.session ≡ b.session
  file : a.file ≡ b.file
  buffer : a.buffer ≡ b.buffer

lending-alike : (a b : State) → Alike a b → (w : List ℕ) → lending w a ≡ lending w b
unfolding lending
lending-alike a b h w = λ i. lent (h.session i) (h.file i) (h.buffer i) w

same_alike : (a b : State) → a ≡ b → Alike a b
same_alike a b e = record { session = ap (λ (z : State). z.session) e; file = ap (λ (z : State). z.file) e; buffer = ap (λ (z : State). z.buffer) e }

close-work : (s : Session) (f b w u : List ℕ) → Alike (close (lent s f b w)).after (close (lent s f b u)).after
unfolding close close_done close_checks sizes_ok is_open
close-work s f b w u = go (close_checks (lent s f b w))
  where
    go : (c : Checked Bool) → Alike (close_done (lent s f b w) c).after (close_done (lent s f b u) c).after
    go (refused n) = record { session = refl; file = refl; buffer = refl }
    go (passed x) = record { session = refl; file = refl; buffer = refl }

open-work : (s : Session) (f b w u marks : List ℕ) → Alike (open_file (lent s f b w) marks).outcome.after (open_file (lent s f b u) marks).outcome.after
unfolding open_file open_done open_layout open_checks sizes_ok
open-work s f b w u marks = go (open_checks (lent s f b w) marks)
  where
    lay : (c : Checked (List ℕ)) → Alike (open_layout (lent s f b w) c).outcome.after (open_layout (lent s f b u) c).outcome.after
    lay (refused n) = record { session = refl; file = refl; buffer = refl }
    lay (passed m) = record { session = refl; file = refl; buffer = refl }

    go : (c : Checked Bool) → Alike (open_done (lent s f b w) marks c).outcome.after (open_done (lent s f b u) marks c).outcome.after
    go (refused n) = record { session = refl; file = refl; buffer = refl }
    go (passed x) = lay (layout_marks s.desc f)

-- an altering call leaves what it was given
alter-none : (st : State) (a b c : Bool) → (settle st (require a wrong_size >> (require b wrong_size >> (require c is_closed >> refused reading_only)))).after ≡ st
unfolding settle
alter-none st true true true = refl
alter-none st true true false = refl
alter-none st true false c = refl
alter-none st false b c = refl

alter-same : (st : State) → (read_alter st).after ≡ st
unfolding profile reading-is.altering sizes_ok work_ok is_open
alter-same st = go (one_section (desc st))
  where
    go : (t : Bool) → (cond t (reading-is.altering st) (unchanged st wrong_size)).after ≡ st
    go true =
        alter-none st (sized (desc st) (length st.file) (length st.buffer)) (eqb (length st.work) (desc st).wpr) st.session.opened
    go false = refl

-- a run, longer by one call
left-more : (st : State) (rs : List Request) (q : Request) → (answer (left st rs) q).after ≡ left st (rs ++ q ∷ [])
unfolding left
left-more st [] q = refl
left-more st (r ∷ rs) q = left-more (answer st r).after rs q

-- the reading session that a session of the rules is, but for its flag
abbrev reader : Session → ReadingSession
reader s = record { desc = s.desc; opened = s.opened; current = s.current; placed = s.placed; position = s.position }

module _ (p : Description) (f : List ℕ) (one : p.control ≡ 1) (fin : finished p f ≡ true) (u : State) where
  -- a state of a run of reading calls, and the rules' calls that come to one alike
  record Along (st : State) : Type 0 where
    s : ReadingSession
    b : List ℕ
    w : List ℕ
    is : st ≡ given s f b w
    parameters : s.desc ≡ p
    calls : List Request
    alike : Alike st (left u calls)

  go_on : (st : State) (a : Along st) (x : State) (q : Request) → Alike x (answer (left u a.calls) q).after → x.file ≡ f → x.session.flag ≡ false
      → Along x
  go_on st a x q h file off = record {
    s = reader x.session;
    b = x.buffer;
    w = x.work;
    is = λ i. lent (record { desc = desc x; opened = x.session.opened; current = x.session.current; flag = off i; placed = x.session.placed; position = x.session.position })
        (file i) x.buffer x.work;
    parameters = ap (λ (z : Session). z.desc) h.session ∙ same-parameters (left u a.calls) q ∙ ap (λ (z : Session). z.desc) (sym a.alike.session)
        ∙ ap desc a.is ∙ a.parameters;
    calls = a.calls ++ q ∷ [];
    alike = subst (Alike x) (left-more u a.calls q) h;
  }

  module _ (st : State) (a : Along st) where
    abbrev r : ReadingSession
    r = a.s

    abbrev y : State
    y = left u a.calls

    single : r.desc.control ≡ 1
    single = ap (λ (d : Description). d.control) a.parameters ∙ one

    done-file : finished r.desc f ≡ true
    done-file = ap (λ (d : Description). finished d f) a.parameters ∙ fin

    -- the rules' state, with the reading session's fields
    y-is : lent (as_session r) f a.b y.work ≡ y
    y-is =
        let x = sym a.is in
        let S = ap (λ (z : State). z.session) x ∙ a.alike.session in
        let F = ap (λ (z : State). z.file) x ∙ a.alike.file in
        let B = ap (λ (z : State). z.buffer) x ∙ a.alike.buffer in
        λ i. lent (S i) (F i) (B i) y.work

    lent_same : (work : List ℕ) → given r f a.b work ≡ lending work y
    unfolding lending
    lent_same work = ap (lending work) (sym a.is) ∙ lending-alike st y a.alike work

    step : (q : Reading) → Along (read st q).after
    unfolding read answer lending
    step (seeking work) =
        let e : read st (seeking work) ≡ read_seek (given r f a.b work) = ap (λ (z : State). read_seek (lending work z)) a.is in
        let k = file-kept.seeks r f a.b work in
        let t = e ∙ (reading-is-rules r single).seeks f a.b work ∙ ap seek (lent_same work) in
        go_on st a _ (rules.seeking work) (same_alike _ _ (ap (λ (o : Outcome). o.after) t)) (ap (λ (o : Outcome). o.after.file) e ∙ k.file)
        (ap (λ (o : Outcome). o.after.session.flag) e ∙ k.off)
    step (advancing work) =
        let e : read st (advancing work) ≡ read_adv (given r f a.b work) = ap (λ (z : State). read_adv (lending work z)) a.is in
        let k = file-kept.advances r f a.b work in
        let t = e ∙ (reading-is-rules r single).advances f a.b work ∙ ap adv (lent_same work) in
        go_on st a _ (rules.advancing work) (same_alike _ _ (ap (λ (o : Outcome). o.after) t)) (ap (λ (o : Outcome). o.after.file) e ∙ k.file)
        (ap (λ (o : Outcome). o.after.session.flag) e ∙ k.off)
    step closing =
        let e : read st closing ≡ read_close (given r f a.b a.w) = ap read_close a.is in
        let k = file-kept.closes r f a.b a.w in
        let t = e ∙ (reading-is-rules r single).closes f a.b a.w in
        let h = subst (λ (z : State). Alike (close (given r f a.b a.w)).after (close z).after) y-is (close-work (as_session r) f a.b a.w y.work) in
        go_on st a _ rules.closing (subst (λ (o : Outcome). Alike o.after (close y).after) (sym t) h) (ap (λ (o : Outcome). o.after.file) e ∙ k.file)
        (ap (λ (o : Outcome). o.after.session.flag) e ∙ k.off)
    step (opening marks) =
        let e : read st (opening marks) ≡ (read_open (given r f a.b a.w) marks).outcome = ap (λ (z : State). (read_open z marks).outcome) a.is in
        let k = file-kept.opens r f a.b a.w marks in
        let t = e ∙ ap (λ (o : Opened). o.outcome) ((reading-is-rules r single).opens f a.b a.w marks done-file) in
        let h = subst (λ (z : State). Alike (open_file (given r f a.b a.w) marks).outcome.after (open_file z marks).outcome.after) y-is
        (open-work (as_session r) f a.b a.w y.work marks) in
        go_on st a _ (rules.opening marks) (subst (λ (o : Outcome). Alike o.after (open_file y marks).outcome.after) (sym t) h)
        (ap (λ (o : Outcome). o.after.file) e ∙ k.file) (ap (λ (o : Outcome). o.after.session.flag) e ∙ k.off)
    step (altering work) =
        let e : (read st (altering work)).after ≡ lending work st = alter-same (lending work st) in
        subst Along (sym e) (record {
          s = r;
          b = a.b;
          w = work;
          is = ap (lending work) a.is;
          parameters = a.parameters;
          calls = a.calls;
          alike = record { session = a.alike.session; file = a.alike.file; buffer = a.alike.buffer };
        })

  along : (qs : List Reading) (st : State) → Along st → Along (read_left st qs)
  unfolding read_left
  along [] st a = a
  along (q ∷ qs) st a = along qs (read st q).after (step st a q)

  -- what the rules' calls answer, the reading calls answer
  module _ (t : Tree) (h : Holds p f t) (st : State) (a : Along st)
      (answers : (c : Contains (left u a.calls) (contents t)) → Answered (left u a.calls) (contents t)) where
    abbrev mine : State
    mine = lent (as_session a.s) f a.b (left u a.calls).work

    holds : Contains (left u a.calls) (contents t)
    unfolding flush_moves written
    holds =
        subst (λ (z : State). Contains z (contents t)) (y-is st a)
        (record { tree = t; held = subst (λ (d : Description). Holds d f t) (sym a.parameters) h; are = refl })

    answered : Answered mine (contents t)
    answered = subst (λ (z : State). Answered z (contents t)) (sym (y-is st a)) (answers holds)

    right : ReadsRight f (contents t) (given a.s f a.b a.w)
    unfolding read answer lending
    right = record {
      file = refl;
      seek = λ work k.
          subst (Sought work (with_key a.s.desc (key_in a.s.desc work) (contents t))) (sym ((reading-is-rules a.s (single st a)).seeks f a.b work)) (answered.seek work k);
      adv = λ work k.
          subst (Advanced a.s.desc (ordinary a.s.desc (above_position (as_session a.s) (contents t)))) (sym ((reading-is-rules a.s (single st a)).advances f a.b work)) (answered.adv work k);
    }

    reads-right : ReadsRight f (contents t) st
    reads-right = subst (ReadsRight f (contents t)) (sym a.is) right

kept-desc : (st : State) (marks : List ℕ) → desc (open_file st marks).outcome.after ≡ desc st
unfolding answer
kept-desc st marks = same-parameters st (rules.opening marks)

left-none : (u : State) → Alike u (left u [])
unfolding left
left-none u = record { session = refl; file = refl; buffer = refl }

-- the state that OPEN leaves
first-along : (s : ReadingSession) (f b w marks : List ℕ) (one : s.desc.control ≡ 1) (fin : finished s.desc f ≡ true)
    → Along s.desc f one fin (open_file (given s f b w) marks).outcome.after (open_file (given s f b w) marks).outcome.after
first-along s f b w marks one fin =
    let u = (open_file (given s f b w) marks).outcome.after in
    let o = ap (λ (x : Opened). x.outcome) ((reading-is-rules s one).opens f b w marks fin) in
    let k = file-kept.opens s f b w marks in
    let file : u.file ≡ f = ap (λ (x : Outcome). x.after.file) (sym o) ∙ k.file in
    let off : u.session.flag ≡ false = ap (λ (x : Outcome). x.after.session.flag) (sym o) ∙ k.off in
    record {
      s = reader u.session;
      b = u.buffer;
      w = u.work;
      is = λ i. lent (record { desc = desc u; opened = u.session.opened; current = u.session.current; flag = off i; placed = u.session.placed; position = u.session.position })
          (file i) u.buffer u.work;
      parameters = kept-desc (given s f b w) marks;
      calls = [];
      alike = left-none u;
    }

pub reading-run : ReadingRun
reading-run s f b w marks e =
    let g = opened-given s f b w marks e in
    let (t, h, F) = (reading-opens s f b w marks g.one g.fit g.long g.shut).only e in
    let good = (sized-facts s.desc (length f) (length b) g.fit).good in
    let fin = tree-finished s.desc f good g.one t h F in
    let o : read_open (given s f b w) marks ≡ open_file (given s f b w) marks = (reading-is-rules s g.one).opens f b w marks fin in
    let u = (open_file (given s f b w) marks).outcome.after in
    let first : Along s.desc f g.one fin u u = first-along s f b w marks g.one fin in (
      t,
      h,
      λ qs.
          let a = along s.desc f g.one fin u qs u first in
          subst (λ (z : State). ReadsRight f (contents t) (read_left z qs)) (sym (ap (λ (x : Opened). x.outcome.after) o))
          (reads-right s.desc f g.one fin u t h (read_left u qs) a
          (call-answers (given s f b w) marks (sym (ap (λ (x : Opened). x.outcome.number) o) ∙ e) a.calls (contents t))),
    )
