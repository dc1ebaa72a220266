-- A move from the right state answers 0: UPDAT does not refuse what SEEK found, on all words.
use Prim.Native.Nat.{ℕ, suc, ◌+◌, ◌<◌}
use mathlib.Core.Path.{◌≡◌, refl, sym, ap, ◌∙◌}
use mathlib.Core.Bool.{Bool, true, false, cond, not, ◌&&◌}
use mathlib.Core.List.{List, ◌∷◌, ◌++◌}
use native.Mathlib.Omega.{arith}
use borrow.Author.Tests.{eqb-true, eq-eqb, ne_eqb, not-true}
use lib.Dec.{eqb, ltb}
use lib.ListN.{length, length-append}
use Rattle.numbers.specs.Numbers.{done, not_allowed, wrong_size, is_closed, wrong_key}
use Rattle.numbers.specs.Checked.{Checked, passed, refused, ◌>>◌, require}
use Rattle.numbers.proofs.Passed.{then-passed, required}
use Rattle.words.specs.Words.{part, all_words}
use Rattle.words.specs.Keys.{is_ones}
use Rattle.words.proofs.All.{and_both, both-and, cons-all_words, append-all_words, all_words-part}
use Rattle.drum.specs.declared.Description.{Description}
use Rattle.drum.specs.Params.{sized}
use Rattle.rules.specs.State.{State, Effect, Outcome, desc, texts, key_in, outcome, settle, unchanged}
use Rattle.rules.specs.Checks.{sizes_ok, work_ok, is_open, key_ok}
use Rattle.rules.specs.Lookup.{storing}
use Rattle.rules.specs.Seek.{seek, updat, updat_steps, updat_done}
use Rattle.rules.specs.Requests.{seeking, lending, given, answer}
use Rattle.demands.proofs.Came.{settled-stays}
use Rattle.demands.proofs.Mission.{first}
use Rattle.register.specs.Names.{raw, romanised, on_hold, spelling_size, name_of, state_of, spelling_of}
use Rattle.register.specs.Register.{has_state, name_ok, spelled_ok, checked, stopped, joined, sought, followed}
use Rattle.register.specs.Register.{move, spelled, turned, turn, ask, romanise, hold, free}
use Rattle.register.specs.Checks.{StateFits}
use Rattle.register.proofs.Refusing.{name-ok}
use Rattle.register.proofs.Records.{key-read, spelling-long}
use Rattle.registered.proofs.Again.{Brought, seek-brings, updat-here}
use Rattle.registered.proofs.Costs.{found-long, ask-refused, ask-passed}
use Rattle.registered.proofs.Romanising.{name-refuses}
use Rattle.registered.specs.Deeds.{did}
use Rattle.registered.specs.Costs.{can_spell, numbered, kept, MoveAnswers}

-- four tests that hold
passes : (v : State) (a b c d : Bool) (steps : Checked Effect) → a ≡ true → b ≡ true → c ≡ true → d ≡ true
    → settle v (require a wrong_size >> (require b wrong_size >> (require c is_closed >> (require d wrong_key >> steps)))) ≡ settle v steps
passes v a b c d steps ea eb ec ed = rw (ea, eb, ec, ed)

-- what the register's tests tell, passed
record NameTold (st : State) : Type 0 where
  sizes-are : sized (desc st) (length st.file) (length st.buffer) ≡ true
  is_open_lem : st.session.opened ≡ true
  words_are : all_words (key_in (desc st) st.work) ≡ true
  not-ones : is_ones (key_in (desc st) st.work) ≡ false

name-told : (st : State) (x : Bool) → name_ok st ≡ passed x → NameTold st
unfolding name_ok has_state sizes_ok work_ok is_open key_ok
name-told st x e =
    let (h, e₁) = then-passed (ltb (desc st).k (desc st).wpr) wrong_size _ x e in
    let (s, e₂) = then-passed (sized (desc st) (length st.file) (length st.buffer)) wrong_size _ x e₁ in
    let (w, e₃) = then-passed (eqb (length st.work) (desc st).wpr) wrong_size _ x e₂ in
    let (o, e₄) = then-passed st.session.opened is_closed _ x e₃ in
    let k = required (all_words (part 0 (desc st).k st.work) && not (is_ones (key_in (desc st) st.work))) wrong_key x e₄ in
    let (a, b) = and_both (all_words (part 0 (desc st).k st.work)) (not (is_ones (key_in (desc st) st.work))) k in
    record { sizes-are = s; is_open_lem = o; words_are = a; not-ones = not-true _ b }

module _ (st : State) (x : Bool) (e : name_ok st ≡ passed x) (z : (seek st).number ≡ done) where
  fit : StateFits (desc st) st.work
  fit = name-ok st x e

  brought : Brought (desc st) (key_in (desc st) st.work) (seek st).after
  brought = let d = fit.data-word in seek-brings st (omega arith) z

  found_name : key_in (desc st) (seek st).after.work ≡ key_in (desc st) st.work
  found_name = brought.key-is

  still_open : (seek st).after.session.opened ≡ true
  unfolding seek
  still_open = (settled-stays st _).opened ∙ (name-told st x e).is_open_lem

  -- the record that a move makes
  module _ (state : ℕ) (small : state < 3) (spelling : List ℕ) (long : length spelling ≡ spelling_size (desc st)) (words : all_words spelling ≡ true) where
    abbrev s : List ℕ
    s = name_of (key_in (desc st) (seek st).after.work) state spelling

    s-long : length s ≡ (desc st).wpr
    unfolding name_of
    s-long =
        let d = fit.data-word in
        let k = found-long st fit in
        let l : length (key_in (desc st) (seek st).after.work ++ state ∷ spelling) ≡ length (key_in (desc st) (seek st).after.work) + suc (length spelling)
        = length-append (key_in (desc st) (seek st).after.work) (state ∷ spelling) in
        omega arith

    s-words : all_words s ≡ true
    unfolding name_of
    s-words =
        append-all_words (key_in (desc st) (seek st).after.work) (state ∷ spelling) (ap all_words found_name ∙ (name-told st x e).words_are)
        (cons-all_words state spelling (omega arith) words)

    s-key : key_in (desc st) s ≡ key_in (desc st) st.work
    s-key = key-read (desc st) (key_in (desc st) (seek st).after.work) state spelling (found-long st fit) ∙ found_name

    pub updates : (updat (lending s (seek st).after)).number ≡ done
    unfolding updat lending sizes_ok work_ok is_open key_ok updat_done storing outcome settle answer given
    updates =
        let u = (seek st).after in
        let n = name-told st x e in
        let g = first.lengths st (seeking st.work) in
        let d = brought.described in
        let sizes : sized (desc u) (length u.file) (length u.buffer) ≡ true = (λ j. sized (d j) (g.file j) (g.buffer j)) ∙ n.sizes-are in
        let work : eqb (length s) (desc u).wpr ≡ true = eq-eqb _ _ (s-long ∙ ap (λ (q : Description). q.wpr) (sym d)) in
        let ones : is_ones (key_in (desc u) s) ≡ false = ap is_ones (ap (λ (q : Description). key_in q s) d ∙ s-key) ∙ n.not-ones in
        let key : (all_words (part 0 (desc u).wpr s) && not (is_ones (key_in (desc u) s))) ≡ true
        = both-and (all_words (part 0 (desc u).wpr s)) (not (is_ones (key_in (desc u) s))) (all_words-part 0 (desc u).wpr s s-words) (ap not ones) in
        ap (λ (o : Outcome). o.number)
        (passes (lending s u) _ _ _ _ (updat_steps (texts u) u.session.flag s) sizes work still_open key
        ∙ ap (settle (lending s u)) (updat-here (desc st) (key_in (desc st) st.work) s u brought s-key))

-- ---- the number of a move

module _ (st : State) where
  abbrev record-found : List ℕ
  record-found = (seek st).after.work

  move-number : (from : ℕ) (made : List ℕ → Checked (List ℕ)) (n : ℕ)
      → ((seek st).number ≡ done → (followed (seek st) (made record-found)).number ≡ n) → (move from made st).number ≡ numbered from (desc st) (seek st) n
  unfolding move sought stopped
  move-number from made n good = go (eqb (seek st).number done) (eqb (state_of (desc st) record-found) from) refl
    where
      after_test : Outcome → Outcome
      after_test q = cond (eqb q.number done) (followed q (made q.after.work)) q

      go : (a b : Bool) → eqb (seek st).number done ≡ a
          → (after_test (cond (a && not b) (stopped not_allowed (seek st)) (seek st))).number ≡ cond a (cond b n not_allowed) (seek st).number
      go false b e = ap (λ (t : Bool). (cond t (followed (seek st) (made record-found)) (seek st)).number) e
      go true false e = refl
      go true true e = ap (λ (t : Bool). (cond t (followed (seek st) (made record-found)) (seek st)).number) e ∙ good (eqb-true _ _ e)

  module _ (x : Bool) (e : name_ok st ≡ passed x) where
    spelled-number : (w : List ℕ) → length w ≡ spelling_size (desc st) → all_words w ≡ true
        → (move raw (spelled (desc st) w) st).number ≡ numbered raw (desc st) (seek st) done
    unfolding spelled followed joined
    spelled-number w l a = move-number raw (spelled (desc st) w) done (λ z. updates st x e z romanised (omega arith) w l a)

    found-fit : StateFits (desc st) record-found
    unfolding answer given lending
    found-fit =
        let f = name-ok st x e in
        record { key-few = f.key-few; data-word = f.data-word; whole = (first.lengths st (seeking st.work)).work ∙ f.whole }

    turned-number : (from to : ℕ) → to < 3 → (move from (turned (desc st) to) st).number ≡ numbered from (desc st) (seek st) (kept (desc st) (seek st))
    unfolding turned followed joined stopped
    turned-number from to small = move-number from (turned (desc st) to) _ (λ z. go z (all_words (spelling_of (desc st) record-found)) refl)
      where
        go : (seek st).number ≡ done → (t : Bool) → all_words (spelling_of (desc st) record-found) ≡ t
            → (followed (seek st) (require t wrong_key >> passed (name_of (key_in (desc st) record-found) to (spelling_of (desc st) record-found)))).number
            ≡ cond t done wrong_key
        go z true a = updates st x e z to small (spelling_of (desc st) record-found) (spelling-long (desc st) record-found found-fit) a
        go z false a = refl

-- ---- the moves

module _ (st : State) where
  -- a refusal before the lookup is asking's own
  refused-number : (from n m : ℕ) → name_ok st ≡ refused n → n ≡ numbered from (desc st) (unchanged st n) m
  refused-number from n m e =
      sym (ap (λ (t : Bool). cond t (cond (eqb (state_of (desc st) st.work) from) m not_allowed) n) (ne_eqb n done ((name-refuses st).some n e)))

  turn-number : (from to : ℕ) → to < 3 → (turn from to st).number ≡ numbered from (desc st) (ask st) (kept (desc st) (ask st))
  unfolding turn checked
  turn-number from to small = go (name_ok st) refl
    where
      go : (c : Checked Bool) → name_ok st ≡ c
          → (checked st c (move from (turned (desc st) to) st)).number ≡ numbered from (desc st) (ask st) (kept (desc st) (ask st))
      go (refused n) e =
          refused-number from n (kept (desc st) (unchanged st n)) e
          ∙ ap (λ (o : Outcome). numbered from (desc st) o (kept (desc st) o)) (sym (ask-refused st n e))
      go (passed x) e =
          turned-number st x e from to small
          ∙ ap (λ (o : Outcome). numbered from (desc st) o (kept (desc st) o)) (sym (ask-passed st (name-ok st x e)))

  romanise-number : (w : List ℕ) → can_spell (desc st) w ≡ true → (romanise w st).number ≡ numbered raw (desc st) (ask st) done
  unfolding romanise spelled_ok checked can_spell
  romanise-number w can =
      let (l, a) = and_both (eqb (length w) (spelling_size (desc st))) (all_words w) can in
      ap (λ (t : Bool). (checked st (require t wrong_size >> (name_ok st >> require (all_words w) wrong_key)) (move raw (spelled (desc st) w) st)).number) l
      ∙ ap (λ (t : Bool). (checked st (name_ok st >> require t wrong_key) (move raw (spelled (desc st) w) st)).number) a
      ∙ go (eqb-true _ _ l) a (name_ok st) refl
    where
      go : length w ≡ spelling_size (desc st) → all_words w ≡ true → (c : Checked Bool) → name_ok st ≡ c
          → (checked st (c >> passed true) (move raw (spelled (desc st) w) st)).number ≡ numbered raw (desc st) (ask st) done
      go l a (refused n) e =
          refused-number raw n done e ∙ ap (λ (o : Outcome). numbered raw (desc st) o done) (sym (ask-refused st n e))
      go l a (passed x) e =
          spelled-number st x e w l a ∙ ap (λ (o : Outcome). numbered raw (desc st) o done) (sym (ask-passed st (name-ok st x e)))

pub move-answers : (st : State) (work : List ℕ) → MoveAnswers st work
unfolding did hold free lending
move-answers st work = record {
  holds = turn-number (lending work st) romanised on_hold (omega arith);
  frees = turn-number (lending work st) on_hold romanised (omega arith);
  romanises = λ spelling. romanise-number (lending work st) spelling;
}
