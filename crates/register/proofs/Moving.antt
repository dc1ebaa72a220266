-- A move: SEEK, the test of the state, and UPDAT. The laws speak as the code does: a is the answer of the step before, with the words f₁, b₁, w₁
-- that it left, r the answer.
use Prim.Native.Nat.{ℕ, ◌+◌, ◌-◌, ◌≤◌}
use mathlib.Core.Path.{◌≡◌, refl, sym, ap, ◌∙◌}
use mathlib.Core.Bool.{Bool, true, false, cond, not, ◌&&◌, and-false}
use mathlib.Core.List.{List}
use native.Mathlib.Omega.{arith}
use borrow.Author.Tests.{eq-eqb, ne_eqb, not-true, not-false}
use lib.Dec.{eqb}
use lib.ListN.{length, get_or, set, length-append}
use Rattle.numbers.specs.Numbers.{done, wrong_key, not_allowed}
use Rattle.numbers.specs.Checked.{Checked, passed, refused, ◌>>◌, require}
use Rattle.words.specs.Words.{part, put, all_words}
use Rattle.words.proofs.Parts.{part-all}
use Rattle.rules.specs.State.{State, desc, key_in}
use Rattle.rules.specs.Seek.{seek, updat}
use Rattle.rules.specs.Requests.{lending}
use Rattle.searchfile.specs.declared.Session as code
use Rattle.searchfile.specs.Answers.{Answer}
use Rattle.searchfile.specs.Promise.{Counted, given, counted, answered}
use Rattle.register.specs.Names.{romanised, on_hold, name_of, state_of, spelling_of}
use Rattle.register.specs.Register.{stopped, joined, sought, followed, move, spelled, turned, turn, hold, free}
use Rattle.register.specs.Checks.{StateFits, SpellingFits, stopped_by, after}
use Rattle.register.proofs.Records.{spelled-written, turned-written}
use Rattle.register.proofs.Costs.{seek-few}

-- UPDAT's answer, after n transfers
pub stored-after : (u : Answer) (f b w : List ℕ) (n : ℕ) (st : State) → answered u f b w ≡ counted (updat st)
    → answered (record { number = u.number; transfers = n + u.transfers; session = u.session }) f b w ≡ after n (updat st)
stored-after u f b w n st e = λ j. record { number = (e j).number; transfers = n + (e j).transfers; after = (e j).after }

-- ---- SEEK and the state

module _ (from : ℕ) (st : State) where
  abbrev test : Bool
  test = eqb (seek st).number done && not (eqb (state_of (desc st) (seek st).after.work) from)

  sought-is : (t : Bool) → test ≡ t → sought from st ≡ cond t (stopped not_allowed (seek st)) (seek st)
  unfolding sought
  sought-is t e = rw e

  -- its transfers are SEEK's
  sought-few : length (sought from st).transfers ≤ 3
  unfolding stopped
  sought-few = rw (sought-is test refl) (go test)
    where
      go : (t : Bool) → length (cond t (stopped not_allowed (seek st)) (seek st)).transfers ≤ 3
      go true = seek-few st
      go false = seek-few st

module _ (s : code.Session) (f b w f₁ b₁ w₁ : List ℕ) (from : ℕ) (a : Answer) (e : answered a f₁ b₁ w₁ ≡ counted (seek (given s f b w))) where
  number_is : a.number ≡ (seek (given s f b w)).number
  number_is = ap (λ (x : Counted). x.number) e

  work-is : w₁ ≡ (seek (given s f b w)).after.work
  work-is = ap (λ (x : Counted). x.after.work) e

  pub sought-missed : (a.number ≡ 0 → ⊥) → answered a f₁ b₁ w₁ ≡ counted (sought from (given s f b w))
  sought-missed z =
      e ∙ sym (ap counted (sought-is from (given s f b w) false (simp (ne_eqb _ _ (λ h. z (number_is ∙ h))))))

  module _ (x : ℕ) (z : a.number ≡ 0) (i : x ≡ get_or w₁ s.desc.k 0) where
    state-is : state_of s.desc (seek (given s f b w)).after.work ≡ x
    unfolding state_of
    state-is = sym (i ∙ ap (λ (y : List ℕ). get_or y s.desc.k 0) work-is)

    other : (r : Answer) → r ≡ stopped_by not_allowed a → (x ≡ from → ⊥) → answered r f₁ b₁ w₁ ≡ counted (sought from (given s f b w))
    unfolding stopped
    other r k h =
        (λ j. answered (k j) f₁ b₁ w₁)
        ∙ (λ j. record { number = not_allowed; transfers = (e j).transfers; after = (e j).after })
        ∙ sym (ap counted (sought-is from (given s f b w) true (simp (eq-eqb _ _ (sym number_is ∙ z), ne_eqb _ _ (λ y. h (sym state-is ∙ y))))))

    pub sought-right : x ≡ from → answered a f₁ b₁ w₁ ≡ counted (sought from (given s f b w))
    sought-right h = e ∙ sym (ap counted (sought-is from (given s f b w) false (simp (eq-eqb _ _ (state-is ∙ h), and-false))))

pub sought-other : (s : code.Session) (f b w f₁ b₁ w₁ : List ℕ) (from x : ℕ) (a r : Answer) → r ≡ stopped_by not_allowed a
    → answered a f₁ b₁ w₁ ≡ counted (seek (given s f b w)) → a.number ≡ 0 → x ≡ get_or w₁ s.desc.k 0 → (x ≡ from → ⊥)
    → answered r f₁ b₁ w₁ ≡ counted (sought from (given s f b w))
sought-other s f b w f₁ b₁ w₁ from x a r k e z i h = other s f b w f₁ b₁ w₁ from a e x z i r k h

-- ---- what follows

module _ (s : code.Session) (f b w f₁ b₁ w₁ : List ℕ) (from : ℕ) (a : Answer) (e : answered a f₁ b₁ w₁ ≡ counted (sought from (given s f b w))) where
  pub found-few : a.transfers ≤ 3
  found-few =
      let n : a.transfers ≡ length (sought from (given s f b w)).transfers = ap (λ (x : Counted). x.transfers) e in
      let l = sought-few from (given s f b w) in
      omega arith

  module _ (made : List ℕ → Checked (List ℕ)) where
    move-is : (t : Bool) (c : Checked (List ℕ)) → eqb a.number done ≡ t → made w₁ ≡ c
        → move from made (given s f b w) ≡ cond t (followed (sought from (given s f b w)) c) (sought from (given s f b w))
    unfolding move
    move-is t c n m =
        let o = sought from (given s f b w) in
        let x : eqb o.number done ≡ t = ap (λ (k : ℕ). eqb k done) (sym (ap (λ (y : Counted). y.number) e)) ∙ n in
        let y : made o.after.work ≡ c = ap made (sym (ap (λ (v : Counted). v.after.work) e)) ∙ m in
        rw (x, y)

    pub move-missed : (a.number ≡ 0 → ⊥) → answered a f₁ b₁ w₁ ≡ counted (move from made (given s f b w))
    move-missed z = e ∙ sym (ap counted (move-is false (made w₁) (ne_eqb _ _ z) refl))

    move-refused : (n : ℕ) (r : Answer) → made w₁ ≡ refused n → a.number ≡ 0 → r ≡ stopped_by n a
        → answered r f₁ b₁ w₁ ≡ counted (move from made (given s f b w))
    unfolding followed stopped
    move-refused n r m z k =
        (λ j. answered (k j) f₁ b₁ w₁)
        ∙ (λ j. record { number = n; transfers = (e j).transfers; after = (e j).after })
        ∙ sym (ap counted (move-is true (refused n) (eq-eqb _ _ z) m))

    move-made : (f₂ b₂ w₂ : List ℕ) (r : Answer) → made w₁ ≡ passed w₂ → a.number ≡ 0
        → answered r f₂ b₂ w₂ ≡ after a.transfers (updat (given a.session f₁ b₁ w₂))
        → answered r f₂ b₂ w₂ ≡ counted (move from made (given s f b w))
    unfolding followed joined lending
    move-made f₂ b₂ w₂ r m z i =
        i
        ∙ (λ j. after (e j).transfers (updat (lending w₂ (e j).after)))
        ∙ (λ j. record {
          number = (updat (lending w₂ (sought from (given s f b w)).after)).number;
          transfers = sym (length-append (sought from (given s f b w)).transfers (updat (lending w₂ (sought from (given s f b w)).after)).transfers) j;
          after = (updat (lending w₂ (sought from (given s f b w)).after)).after;
        })
        ∙ sym (ap counted (move-is true (passed w₂) (eq-eqb _ _ z) m))

  -- romanising: the spelling, and the state before it
  spelled-done : (f₂ b₂ w₂ w₃ spelling : List ℕ) (r : Answer)
      → answered r f₂ b₂ w₃ ≡ after a.transfers (updat (given a.session f₁ b₁ w₃))
      → w₃ ≡ set w₂ s.desc.k romanised → w₂ ≡ put w₁ (s.desc.k + 1) (part 0 (length spelling) spelling) → a.number ≡ 0
      → SpellingFits s.desc w spelling → length w₁ ≡ length w
      → answered r f₂ b₂ w₃ ≡ counted (move from (spelled s.desc spelling) (given s f b w))
  unfolding spelled
  spelled-done f₂ b₂ w₂ w₃ spelling r i p₃ p₂ z h l =
      let g : StateFits s.desc w₁ = record { key-few = h.state.key-few; data-word = h.state.data-word; whole = l ∙ h.state.whole } in
      let v = spelled-written s.desc w₁ g romanised spelling h.as_long in
      let u : w₂ ≡ put w₁ (s.desc.k + 1) spelling = p₂ ∙ ap (put w₁ (s.desc.k + 1)) (part-all (length spelling) spelling refl) in
      move-made (spelled s.desc spelling) f₂ b₂ w₃ r
      (ap passed (sym (p₃ ∙ ap (λ (x : List ℕ). set x s.desc.k romanised) u ∙ v)))
      z
      i

pub romanised-done : (s : code.Session) (f b w f₁ b₁ w₁ f₂ b₂ w₂ w₃ spelling : List ℕ) (from : ℕ) (a r : Answer)
    → answered r f₂ b₂ w₃ ≡ after a.transfers (updat (given a.session f₁ b₁ w₃)) → w₃ ≡ set w₂ s.desc.k romanised
    → w₂ ≡ put w₁ (s.desc.k + 1) (part 0 (length spelling) spelling) → answered a f₁ b₁ w₁ ≡ counted (sought from (given s f b w)) → a.number ≡ 0
    → SpellingFits s.desc w spelling → length w₁ ≡ length w
    → answered r f₂ b₂ w₃ ≡ counted (move from (spelled s.desc spelling) (given s f b w))
romanised-done s f b w f₁ b₁ w₁ f₂ b₂ w₂ w₃ spelling from a r i p₃ p₂ e z h l =
    spelled-done s f b w f₁ b₁ w₁ from a e f₂ b₂ w₂ w₃ spelling r i p₃ p₂ z h l

-- ---- holding and freeing: t is the test of the record's own spelling

module _ (s : code.Session) (f b w f₁ b₁ w₁ : List ℕ) (from to : ℕ) (t : Bool) (a : Answer) (e : answered a f₁ b₁ w₁ ≡ counted (sought from (given s f b w)))
    (i : t ≡ all_words (part (s.desc.k + 1) (s.desc.wpr - s.desc.k - 1) w₁)) (z : a.number ≡ 0) where
  -- what they make of the record found, by that test
  own_is : (x : Bool) → t ≡ x → turned s.desc to w₁ ≡ require x wrong_key >> passed (name_of (key_in s.desc w₁) to (spelling_of s.desc w₁))
  unfolding turned spelling_of
  own_is x q = ap (λ (y : Bool). require y wrong_key >> passed (name_of (key_in s.desc w₁) to (spelling_of s.desc w₁))) (sym i ∙ q)

  bad : (r : Answer) → r ≡ stopped_by wrong_key a → not t ≡ true → answered r f₁ b₁ w₁ ≡ counted (move from (turned s.desc to) (given s f b w))
  bad r k q = move-refused s f b w f₁ b₁ w₁ from a e (turned s.desc to) wrong_key r (own_is false (not-true t q)) z k

  made : (f₂ b₂ w₂ : List ℕ) (r : Answer) → answered r f₂ b₂ w₂ ≡ after a.transfers (updat (given a.session f₁ b₁ w₂))
      → w₂ ≡ set w₁ s.desc.k to → not t ≡ false → StateFits s.desc w → length w₁ ≡ length w
      → answered r f₂ b₂ w₂ ≡ counted (move from (turned s.desc to) (given s f b w))
  made f₂ b₂ w₂ r j p₂ q y l =
      let v : StateFits s.desc w₁ = record { key-few = y.key-few; data-word = y.data-word; whole = l ∙ y.whole } in
      let m = own_is true (not-false t q) ∙ ap passed (sym (p₂ ∙ turned-written s.desc w₁ v to)) in
      move-made s f b w f₁ b₁ w₁ from a e (turned s.desc to) f₂ b₂ w₂ r m z j

pub kept-bad : (s : code.Session) (f b w f₁ b₁ w₁ : List ℕ) (from to : ℕ) (t : Bool) (a r : Answer) → r ≡ stopped_by wrong_key a
    → answered a f₁ b₁ w₁ ≡ counted (sought from (given s f b w)) → a.number ≡ 0
    → t ≡ all_words (part (s.desc.k + 1) (s.desc.wpr - s.desc.k - 1) w₁) → not t ≡ true
    → answered r f₁ b₁ w₁ ≡ counted (move from (turned s.desc to) (given s f b w))
kept-bad s f b w f₁ b₁ w₁ from to t a r k e z i q = bad s f b w f₁ b₁ w₁ from to t a e i z r k q

pub kept-done : (s : code.Session) (f b w f₁ b₁ w₁ f₂ b₂ w₂ : List ℕ) (from to : ℕ) (t : Bool) (a r : Answer)
    → answered r f₂ b₂ w₂ ≡ after a.transfers (updat (given a.session f₁ b₁ w₂))
    → w₂ ≡ set w₁ s.desc.k to → answered a f₁ b₁ w₁ ≡ counted (sought from (given s f b w)) → a.number ≡ 0
    → t ≡ all_words (part (s.desc.k + 1) (s.desc.wpr - s.desc.k - 1) w₁) → not t ≡ false → StateFits s.desc w → length w₁ ≡ length w
    → answered r f₂ b₂ w₂ ≡ counted (move from (turned s.desc to) (given s f b w))
kept-done s f b w f₁ b₁ w₁ f₂ b₂ w₂ from to t a r j p₂ e z i q y l = made s f b w f₁ b₁ w₁ from to t a e i z f₂ b₂ w₂ r j p₂ q y l

-- ---- the two by their states

pub hold-is : (s : code.Session) (f b w f₁ b₁ w₁ : List ℕ) (r : Answer) → answered r f₁ b₁ w₁ ≡ counted (turn romanised on_hold (given s f b w))
    → answered r f₁ b₁ w₁ ≡ counted (hold (given s f b w))
unfolding hold
hold-is s f b w f₁ b₁ w₁ r e = e

pub free-is : (s : code.Session) (f b w f₁ b₁ w₁ : List ℕ) (r : Answer) → answered r f₁ b₁ w₁ ≡ counted (turn on_hold romanised (given s f b w))
    → answered r f₁ b₁ w₁ ≡ counted (free (given s f b w))
unfolding free
free-is s f b w f₁ b₁ w₁ r e = e
