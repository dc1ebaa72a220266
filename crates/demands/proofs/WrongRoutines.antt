-- The five wrong routines of document 01 are shut out by demand 2: each is held against the calls after CREATE and OPEN with the parameters 8 3 1 0 2 4.
use Prim.Native.Nat.{ℕ}
use mathlib.Core.Bool.{Bool, true, false, cond}
use mathlib.Core.Path.{◌≡◌, refl, sym, ap, ap₂, ◌∙◌, subst}
use mathlib.Core.List.{List, [], ◌∷◌}
use native.Mathlib.Omega.{arith}
use lib.ListN.{length}
use Rattle.numbers.specs.Numbers.{done, not_found, accepted}
use lib.Dec.{eqb}
use Rattle.words.specs.Words.{zeros, part, all_words}
use Rattle.words.specs.Keys.{is_ones}
use Rattle.drum.specs.declared.Description.{Description}
use Rattle.drum.specs.Params.{good_params, file_size}
use Rattle.drum.specs.Blocks.{written, seen}
use Rattle.layout.specs.Create.{created}
use Rattle.layout.specs.Tree.{Section, Tree, contents, fresh_tree}
use Rattle.layout.specs.Holds.{Holds, WellFormed}
use Rattle.layout.proofs.Made.{create-opens}
use Rattle.layout.proofs.Unique.{one-tree}
use Rattle.rules.specs.State.{Session, State, desc, key_in, lent, at_rest}
use Rattle.rules.specs.Lookup.{flush_moves}
use Rattle.rules.specs.Requests.{opening, closing, seeking, inserting, deleting, extending, answer, left}
use Rattle.rules.proofs.Computing.{computing}
use Rattle.demands.specs.History.{Event, stored, removed, event_of, with_key}
use Rattle.demands.specs.Promises.{put_back}
use Rattle.demands.specs.Contents.{records_below, records_above, changed, Contains}
use Rattle.demands.specs.Answers.{Keyed, Met, Sought}
use Rattle.demands.specs.Storing.{stored_in, placing, section_for, block_for, if_none, nsert_number}
use Rattle.demands.specs.Routines.{Routine, left_by, AfterOpenBy, AnsweredBy, closes, ParametersStay, StaysOpen, RecordsChange, AnswersAre, CountsAre}
use Rattle.demands.specs.Routines.{RightCalls}
use Rattle.demands.specs.WrongRoutines.{RefusesEverything, ConstantAnswer, Idle, DoesNothing, StoresOnce, MadeUpCount, ShutsOut}
use Rattle.demands.proofs.Holds.{Free}
use Rattle.demands.proofs.Sound.{Sound}
use Rattle.demands.proofs.Step.{sound-run}
use Rattle.demands.proofs.Opens.{file-alone}
use Rattle.demands.proofs.Witness as witness

abbrev pub small : Description
small = record { wpb = 8; wpr = 3; k = 1; space = 0; control = 2; n = 4; form = 1 }

abbrev pub resting : Bool → Session
resting t = record { desc = small; opened = t; current = 0; flag = false; placed = false; position = zeros 63 }

-- CREATE has been called; OPEN too
abbrev pub fresh : State
fresh = lent (resting false) (created small) (zeros 8) (zeros 3)

abbrev pub begin : State
begin = lent (resting true) (created small) (zeros 8) (zeros 3)

abbrev pub marks₄ : List ℕ
marks₄ = zeros 4

abbrev pub five : List ℕ
five = 5 ∷ 7 ∷ 7 ∷ []

abbrev six : List ℕ
six = 6 ∷ 8 ∷ 8 ∷ []

abbrev pub end : List ℕ
end = 262143 ∷ 0 ∷ 0 ∷ []

pub good : good_params small ≡ true
unfolding computing
good = refl

sizes : (length (created small) ≡ file_size small) × (length (zeros 8) ≡ 8) × (length (zeros 4) ≡ 4)
unfolding computing
sizes = (refl, refl, refl)

opened-is : lent (at_rest true fresh.session) fresh.file fresh.buffer fresh.work ≡ begin
unfolding at_rest
opened-is = refl

made-is : witness.made ≡ begin
unfolding computing
made-is = refl

pub begin-holds : Holds small (put_back begin) (fresh_tree small)
unfolding flush_moves written
begin-holds = create-opens small good

pub fresh-rows : contents (fresh_tree small) ≡ end ∷ []
unfolding computing
fresh-rows = refl

begin-keyed : Keyed begin 3 five
unfolding computing
begin-keyed = ((refl, refl), refl, refl)

begin-number : nsert_number small (key_in small five) (fresh_tree small) ≡ done
unfolding computing stored_in placing section_for block_for if_none nsert_number with_key records_below
begin-number = refl

-- ---- two contents of one file

-- the file with the buffer put back, of these
abbrev back : Description → ℕ → Bool → List ℕ → List ℕ → List ℕ
back p c flag f b = written p (flush_moves (seen p c f b) flag) f

-- a state that is as another has the same records
two-contents : (st now : State) (rows was : List (List ℕ)) → Contains now rows → Contains st was → good_params (desc st) ≡ true → desc now ≡ desc st
    → Idle st now → (rows ≡ was → ⊥) → ⊥
two-contents st now rows was a b good e i n =
    let same : put_back now ≡ put_back st
    = ap (λ (p : Description). back p now.session.current now.session.flag now.file now.buffer) e
    ∙ ap₂ (λ (f x : List ℕ). back (desc st) now.session.current now.session.flag f x) i.0 i.1
    ∙ ap₂ (λ (c : ℕ) (t : Bool). back (desc st) c t st.file st.buffer) i.2 i.3 in
    let h : Holds (desc st) (put_back st) a.tree
    = subst (λ (p : Description). Holds p (put_back st) a.tree) e (subst (λ (x : List ℕ). Holds (desc now) x a.tree) same a.held) in
    n (sym a.are ∙ ap contents (one-tree (desc st) (put_back st) a.tree b.tree good h b.held) ∙ b.are)

begin-keyed₁ : Keyed begin 1 five
unfolding computing
begin-keyed₁ = ((refl, refl), refl, refl)

keyed-words : (all_words (part 0 1 five) ≡ true) × (is_ones (key_in small five) ≡ false)
unfolding computing
keyed-words = (refl, refl)

not_there : with_key small (key_in small five) (contents (fresh_tree small)) ≡ []
unfolding computing with_key
not_there = refl

is-there : with_key small (key_in small five) (five ∷ end ∷ []) ≡ five ∷ []
unfolding computing with_key
is-there = refl

put_in : changed small (stored five ∷ []) (end ∷ []) ≡ five ∷ end ∷ []
unfolding computing changed records_below records_above
put_in = refl

taken_out : changed small (removed (key_in small five) ∷ []) (five ∷ end ∷ []) ≡ end ∷ []
unfolding computing changed records_below records_above
taken_out = refl

-- a file with one record, closed; and OPEN of it
abbrev later : State
later = lent (resting false) (left begin (inserting five ∷ closing ∷ [])).file (zeros 8) (zeros 3)

abbrev again : State
again = lent (resting true) (left begin (inserting five ∷ closing ∷ [])).file (zeros 8) (zeros 3)

begin-sound : (ss : List Section) × (f : Free) × Sound (left begin (inserting five ∷ closing ∷ [])) ss f
begin-sound =
    sound-run begin witness.tree witness.free (subst (λ (x : State). Sound x witness.tree witness.free) made-is witness.witness)
    (inserting five ∷ closing ∷ [])

later-desc : desc (left begin (inserting five ∷ closing ∷ [])) ≡ small
unfolding computing
later-desc = refl

later-length : length (left begin (inserting five ∷ closing ∷ [])).file ≡ file_size small
later-length = begin-sound.2.kept.file-length ∙ ap file_size later-desc

later-tree : (t : Tree) × Holds small (left begin (inserting five ∷ closing ∷ [])).file t
later-tree =
    let w : WellFormed (desc (left begin (inserting five ∷ closing ∷ []))) (left begin (inserting five ∷ closing ∷ [])).file
    = file-alone _ begin-sound.0 begin-sound.1 begin-sound.2 in
    unfold WellFormed in (w.0, subst (λ (p : Description). Holds p (left begin (inserting five ∷ closing ∷ [])).file w.0) later-desc w.1)

begin-count : length (answer begin (extending six)).transfers ≡ 3
unfolding computing
begin-count = refl

again-count : length (answer again (extending six)).transfers ≡ 6
unfolding computing
again-count = refl

again-is : lent (at_rest true later.session) later.file later.buffer later.work ≡ again
unfolding at_rest
again-is = refl

at_again : (r : Routine) (d : RightCalls r)
    → ((r later (opening marks₄)).number ≡ done)
    × ((r later (opening marks₄)).after ≡ lent (at_rest true later.session) later.file later.buffer later.work)
    → (P : State → Type 0) → AfterOpenBy r P → P again
unfolding left_by
at_again r d z P h = subst P (z.1 ∙ again-is) (h later marks₄ z.0 [])

module _ (r : Routine) (d : RightCalls r) where
  first : ((r fresh (opening marks₄)).number ≡ done) × ((r fresh (opening marks₄)).after ≡ begin)
  first = let z = d.opens fresh marks₄ (fresh_tree small) good sizes.0 sizes.1 sizes.2 refl (create-opens small good) in (z.0, z.1 ∙ opened-is)

  -- what demand 2 says of the state after CREATE and OPEN
  at_first : (P : State → Type 0) → AfterOpenBy r P → P begin
  unfolding left_by
  at_first P h = subst P first.1 (h fresh marks₄ first.0 [])

  -- and of the state after an NSERT
  abbrev second : State
  second = (r begin (inserting five)).after

  at_second : (P : State → Type 0) → AfterOpenBy r P → P second
  unfolding left_by
  at_second P h = subst (λ (x : State). P (r x (inserting five)).after) first.1 (h fresh marks₄ first.0 (inserting five ∷ []))

  answers-first : AnsweredBy r begin (fresh_tree small)
  answers-first = at_first (AnswersAre r) d.answers (fresh_tree small) begin-holds

  nsert-answers : (r begin (inserting five)).number ≡ done
  nsert-answers = answers-first.nsert five begin-keyed ∙ begin-number

  refuses-everything : RefusesEverything r → ⊥
  refuses-everything h = h begin five (ap accepted nsert-answers)

  seek-answers : (r begin (seeking five)).number ≡ not_found
  seek-answers =
      let none : with_key small (key_in small five) (contents (fresh_tree small)) ≡ [] = not_there in
      (subst (λ (x : List (List ℕ)). Sought five x (r begin (seeking five))) none (answers-first.seek five begin-keyed₁)).0

  constant-answer : ConstantAnswer r → ⊥
  constant-answer (n, h) = let z : ◌≡◌ {A = ℕ} done not_found = sym nsert-answers ∙ h begin (inserting five) ∙ sym (h begin (seeking five))
      ∙ seek-answers in omega arith

  -- the state after the NSERT has both records
  pub both-there : Contains second (five ∷ end ∷ [])
  unfolding event_of
  both-there =
      subst (Contains second) (ap (λ (n : ℕ). changed small (cond (accepted n) (stored five ∷ []) []) (end ∷ [])) nsert-answers ∙ put_in)
      (subst (λ (es : List Event). Contains second (changed small es (end ∷ []))) event
      (at_first (RecordsChange r) d.records (end ∷ [])
      (record { tree = fresh_tree small; held = begin-holds; are = fresh-rows }) (inserting five)))
    where
      event : event_of small (inserting five) (r begin (inserting five)) ≡ cond (accepted (r begin (inserting five)).number) (stored five ∷ []) []
      event = refl

  second-desc : desc second ≡ small
  second-desc = at_first (ParametersStay r) d.parameters (inserting five)

  does-nothing : DoesNothing r → ⊥
  does-nothing h =
      two-contents begin second (five ∷ end ∷ []) (end ∷ []) both-there
      (record { tree = fresh_tree small; held = begin-holds; are = fresh-rows }) good second-desc (h begin five) (λ e. omega (arith, ap length e))

  stores-once : StoresOnce r → ⊥
  unfolding event_of
  stores-once h =
      two-contents second third (end ∷ []) (five ∷ end ∷ []) gone both-there
      (subst (λ (p : Description). good_params p ≡ true) (sym second-desc) good) third-desc (h begin five (ap accepted nsert-answers) (deleting five))
      (λ e. omega (arith, ap length e))
    where
      third : State
      third = (r second (deleting five)).after

      third-desc : desc third ≡ desc second
      third-desc = at_second (ParametersStay r) d.parameters (deleting five)

      is_open_lem : second.session.opened ≡ true
      is_open_lem = at_first (StaysOpen r) d.stays_open (inserting five) (unfold closes in refl) refl

      keyed : Keyed second (desc second).k five
      keyed = subst (λ (p : Description). ((second.session.opened ≡ true) × (length five ≡ p.wpr)) × (all_words (part 0 p.k five) ≡ true) ×
          (is_ones (key_in p five) ≡ false)) (sym second-desc) ((is_open_lem, refl), keyed-words.0, keyed-words.1)

      met : (r second (deleting five)).number ≡ done
      met =
          let c : Contains second (five ∷ end ∷ []) = both-there in
          let a : AnsweredBy r second c.tree = at_second (AnswersAre r) d.answers c.tree c.held in
          let found : with_key (desc second) (key_in (desc second) five) (contents c.tree) ≡ five ∷ []
          = ap₂ (λ (p : Description) (x : List (List ℕ)). with_key p (key_in p five) x) second-desc c.are ∙ is-there in
          subst (λ (x : List (List ℕ)). Met x (r second (deleting five))) found (a.dlete five keyed)

      event : event_of (desc second) (deleting five) (r second (deleting five)) ≡ cond (eqb (r second (deleting five)).number done)
          (removed (key_in (desc second) five) ∷ []) []
      event = refl

      gone : Contains third (end ∷ [])
      gone =
          subst (Contains third)
          (ap₂ (λ (p : Description) (n : ℕ). changed p (cond (eqb n done) (removed (key_in p five) ∷ []) []) (five ∷ end ∷ [])) second-desc met ∙ taken_out)
          (subst (λ (es : List Event). Contains third (changed (desc second) es (five ∷ end ∷ []))) event
          (at_second (RecordsChange r) d.records (five ∷ end ∷ []) both-there (deleting five)))

  made-up-count : MadeUpCount r → ⊥
  made-up-count (c, h) =
      let z = d.opens later marks₄ later-tree.0 good later-length sizes.1 sizes.2 refl later-tree.1 in
      let one : length (r begin (extending six)).transfers ≡ 3 = at_first (CountsAre r) d.counts (extending six) ∙ begin-count in
      let two : length (r again (extending six)).transfers ≡ 6
      = at_again r d z (CountsAre r) d.counts (extending six) ∙ again-count in
      let e : ◌≡◌ {A = ℕ} 3 6 = sym one ∙ h begin (extending six) ∙ sym (h again (extending six)) ∙ two in
      omega arith

  pub shuts-out : ShutsOut r
  shuts-out = record { refuses-everything = refuses-everything; constant-answer = constant-answer; does-nothing = does-nothing; stores-once = stores-once; made-up-count = made-up-count }
