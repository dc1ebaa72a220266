-- A move makes the transfers of its question: its UPDAT finds the name in the buffered block.
use Prim.Native.Nat.{ℕ, ◌<◌}
use mathlib.Core.Path.{◌≡◌, refl, sym, ap, ◌∙◌, subst}
use mathlib.Core.Bool.{Bool, true, false, cond, not, ◌&&◌}
use mathlib.Core.List.{List, [], ◌++◌, append-nil}
use native.Mathlib.Omega.{arith}
use borrow.Author.Tests.{eqb-true, lt-ltb}
use lib.Dec.{eqb, ltb}
use lib.ListN.{length}
use Rattle.numbers.specs.Numbers.{done, not_allowed, wrong_size, is_closed, wrong_key}
use Rattle.numbers.specs.Checked.{Checked, passed, refused, ◌>>◌, require}
use Rattle.numbers.proofs.Passed.{Passed, clash, by-passed, by-then}
use Rattle.words.specs.Words.{part, all_words}
use Rattle.words.specs.Keys.{is_ones}
use Rattle.drum.specs.Blocks.{Transfer}
use Rattle.drum.specs.Params.{sized}
use Rattle.rules.specs.State.{State, Effect, Outcome, desc, texts, key_in, settle, unchanged}
use Rattle.rules.specs.Checks.{sizes_ok, work_ok, is_open, key_ok}
use Rattle.rules.specs.Seek.{seek, seek_steps, updat}
use Rattle.rules.specs.Requests.{seeking, lending, given, answer}
use Rattle.demands.proofs.Mission.{first}
use Rattle.register.specs.Names.{raw, romanised, on_hold, spelling_size, state_of, spelling_of}
use Rattle.register.specs.Register.{has_state, name_ok, spelled_ok, checked, stopped, joined, sought, followed}
use Rattle.register.specs.Register.{move, spelled, turned, turn, ask, romanise, hold, free}
use Rattle.register.specs.Checks.{StateFits}
use Rattle.register.proofs.Refusing.{name-ok}
use Rattle.register.proofs.Records.{key-read, key-long}
use Rattle.registered.specs.Deeds.{did}
use Rattle.registered.specs.Costs.{can_spell, MoveFree}
use Rattle.registered.proofs.Runs.{sought-after}
use Rattle.registered.proofs.Steps.{sought-done}
use Rattle.registered.proofs.Again.{seek-brings, updat-free}

-- ---- SEEK and the test of the state

sought-moves : (from : ℕ) (st : State) → (sought from st).transfers ≡ (seek st).transfers
unfolding sought stopped
sought-moves from st = go (eqb (seek st).number done && not (eqb (state_of (desc st) (seek st).after.work) from))
  where
    go : (t : Bool) → (cond t (stopped not_allowed (seek st)) (seek st)).transfers ≡ (seek st).transfers
    go true = refl
    go false = refl

-- ---- a move

module _ (st : State) (fit : StateFits (desc st) st.work) where
  abbrev pub found : List ℕ
  found = (seek st).after.work

  -- a record with the key of the one found
  abbrev SameName : List ℕ → Type 0
  SameName s = key_in (desc st) s ≡ key_in (desc st) found

  pub found-long : length (key_in (desc st) found) ≡ (desc st).k
  unfolding answer given lending
  found-long =
      key-long (desc st) found
      (record { key-few = fit.key-few; data-word = fit.data-word; whole = (first.lengths st (seeking st.work)).work ∙ fit.whole })

  pub spelled-name : (x : List ℕ) → Passed SameName (spelled (desc st) x found)
  unfolding spelled
  spelled-name x = by-passed _ (key-read (desc st) (key_in (desc st) found) romanised x found-long)

  pub turned-name : (to : ℕ) → Passed SameName (turned (desc st) to found)
  unfolding turned
  turned-name to =
      by-then (require (all_words (spelling_of (desc st) found)) wrong_key) _
      (λ a e. by-passed _ (key-read (desc st) (key_in (desc st) found) to (spelling_of (desc st) found) found-long))

  move-cost : (from : ℕ) (made : List ℕ → Checked (List ℕ)) → Passed SameName (made found) → (move from made st).transfers ≡ (seek st).transfers
  unfolding move followed joined stopped
  move-cost from made good = go (eqb (sought from st).number done) refl (made (sought from st).after.work) refl
    where
      wide : (desc st).k < (desc st).wpr
      wide = fit.data-word

      free-after : (w : List ℕ) → (sought from st).number ≡ done → made found ≡ passed w → (updat (lending w (sought from st).after)).transfers ≡ []
      free-after w z e =
          let b = seek-brings st (omega arith) (sought-done from st z).0 in
          subst (λ (u : State). (updat (lending w u)).transfers ≡ []) (sym (sought-after from st))
          (updat-free (desc st) (key_in (desc st) st.work) w (seek st).after b (good.holds w e ∙ b.key-is))

      go : (t : Bool) → eqb (sought from st).number done ≡ t → (c : Checked (List ℕ)) → made (sought from st).after.work ≡ c
          → (cond t (followed (sought from st) c) (sought from st)).transfers ≡ (seek st).transfers
      go false e c i = sought-moves from st
      go true e (refused n) i = sought-moves from st
      go true e (passed w) i =
          let same : made found ≡ passed w = ap (λ (u : State). made u.work) (sym (sought-after from st)) ∙ i in
          ap (λ (x : List Transfer). (sought from st).transfers ++ x) (free-after w (eqb-true _ _ e) same)
          ∙ append-nil (sought from st).transfers
          ∙ sought-moves from st

-- ---- the question

-- a refusal's number
refused-is : (a b : ℕ) → ◌≡◌ {A = Checked Bool} (refused a) (refused b) → a ≡ b
refused-is a b e = ap of e
  where
    of : Checked Bool → ℕ
    of (refused n) = n
    of (passed x) = 0

-- asking refuses what a move refuses, by the same number
pub ask-refused : (st : State) (n : ℕ) → name_ok st ≡ refused n → ask st ≡ unchanged st n
unfolding name_ok ask checked has_state seek sizes_ok work_ok is_open key_ok settle
ask-refused st n e =
    go
    (ltb (desc st).k (desc st).wpr)
    (sized (desc st) (length st.file) (length st.buffer))
    (eqb (length st.work) (desc st).wpr)
    st.session.opened
    (all_words (part 0 (desc st).k st.work) && not (is_ones (key_in (desc st) st.work)))
    e
  where
    c : Checked Effect
    c = seek_steps (texts st) st.session.flag st.work

    go : (h s w o k : Bool)
        → require h wrong_size >> (require s wrong_size >> (require w wrong_size >> (require o is_closed >> require k wrong_key))) ≡ refused n
        → checked st (require h wrong_size)
        (settle st (require s wrong_size >> (require w wrong_size >> (require o is_closed >> (require k wrong_key >> c)))))
        ≡ unchanged st n
    go false s w o k e = ap (unchanged st) (refused-is _ _ e)
    go true false w o k e = ap (unchanged st) (refused-is _ _ e)
    go true true false o k e = ap (unchanged st) (refused-is _ _ e)
    go true true true false k e = ap (unchanged st) (refused-is _ _ e)
    go true true true true false e = ap (unchanged st) (refused-is _ _ e)
    go true true true true true e = clash n true (sym e)

pub ask-passed : (st : State) → StateFits (desc st) st.work → ask st ≡ seek st
unfolding ask checked has_state
ask-passed st fit = ap (λ (t : Bool). checked st (require t wrong_size) (seek st)) (lt-ltb (desc st).k (desc st).wpr fit.data-word)

-- ---- the moves

module _ (st : State) where
  as-asked : (from : ℕ) (made : List ℕ → Checked (List ℕ)) (fit : StateFits (desc st) st.work) → Passed (SameName st fit) (made (found st fit))
      → (move from made st).transfers ≡ (ask st).transfers
  as-asked from made fit good = move-cost st fit from made good ∙ ap (λ (o : Outcome). o.transfers) (sym (ask-passed st fit))

  turn-free : (from to : ℕ) → (turn from to st).transfers ≡ (ask st).transfers
  unfolding turn checked
  turn-free from to = go (name_ok st) refl
    where
      go : (c : Checked Bool) → name_ok st ≡ c → (checked st c (move from (turned (desc st) to) st)).transfers ≡ (ask st).transfers
      go (refused n) e = ap (λ (o : Outcome). o.transfers) (sym (ask-refused st n e))
      go (passed x) e = let fit = name-ok st x e in as-asked from (turned (desc st) to) fit (turned-name st fit to)

  romanise-free : (x : List ℕ) → (romanise x st).transfers ≡ cond (can_spell (desc st) x) (ask st).transfers []
  unfolding romanise spelled_ok checked can_spell
  romanise-free x = go (eqb (length x) (spelling_size (desc st))) (all_words x) (name_ok st) refl
    where
      none : (b : Bool) → (ask st).transfers ≡ [] → [] ≡ cond b (ask st).transfers []
      none true e = sym e
      none false e = refl

      go : (a b : Bool) (c : Checked Bool) → name_ok st ≡ c
          → (checked st (require a wrong_size >> (c >> require b wrong_key)) (move raw (spelled (desc st) x) st)).transfers ≡ cond (a && b) (ask st).transfers []
      go false b c e = refl
      go true b (refused n) e = none b (ap (λ (o : Outcome). o.transfers) (ask-refused st n e))
      go true false (passed y) e = refl
      go true true (passed y) e = let fit = name-ok st y e in as-asked raw (spelled (desc st) x) fit (spelled-name st fit x)

pub move-free : (st : State) (work : List ℕ) → MoveFree st work
unfolding did hold free lending
move-free st work = record {
  holds = turn-free (lending work st) romanised on_hold;
  frees = turn-free (lending work st) on_hold romanised;
  romanises = λ spelling. romanise-free (lending work st) spelling;
}
