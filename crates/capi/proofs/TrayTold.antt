-- The tray's promise, told in words: it leaves what words can tell; and two results allowed by it are equal.
use Prim.Native.Nat.{ℕ, ◌≤◌}
use mathlib.Core.Path.{◌≡◌, refl, sym, ap, ◌∙◌}
use mathlib.Core.Bool.{Bool, true, false, cond, ◌&&◌}
use mathlib.Core.List.{List, [], ◌∷◌}
use native.Mathlib.Omega.{arith}
use borrow.Author.Tests.{eq-eqb, ne_eqb}
use mir.Syntax.{w32}
use mir.Val.{Fits}
use lib.Dec.{eqb}
use lib.ListN.{length, get_or, set}
use Rattle.numbers.specs.Numbers.{done, wrong_size, accepted}
use Rattle.numbers.specs.Checked.{Checked, passed, refused}
use Rattle.rules.specs.State.{Session, State, desc, lent}
use Rattle.rules.specs.Requests.{lending}
use Rattle.searchfile.specs.declared.Session as code
use Rattle.searchfile.specs.Promise.{held, given}
use Rattle.tray.specs.declared.Trayed.{Trayed}
use Rattle.tray.specs.Tray.{TrayOutcome, records_of, nsert_one, stopped_by, stored_before, inserts, tray_checks, after_checks, nsert_tray}
use Rattle.tray.specs.Promise.{CountedTray, counted_tray, answered_tray}
use Rattle.capi.specs.Words.{is_session, parameters_in, session_of, words_of, most_word}
use Rattle.capi.specs.Calls.{Writable}
use Rattle.capi.specs.Tray.{returned_tray, told_tray, called_tray, OneReturnedTray}
use Rattle.capi.proofs.Words.{session-facts}
use Rattle.capi.proofs.Outcomes.{nsert-telling}

-- ---- every tray leaves what words can tell: the parameters it was given, and a current block that fits a word

record Tells (st now : State) : Type 0 where
  same-parameters : now.session.desc ≡ desc st
  current-most : st.session.current ≤ most_word → now.session.current ≤ most_word

one-tells : (st : State) (r : List ℕ) → Tells st (nsert_one st r).after
unfolding nsert_one lending
one-tells st r = let t = nsert-telling (lending r st) in record { same-parameters = t.same-parameters; current-most = t.current-most }

then-tells : (a b c : State) → Tells a b → Tells b c → Tells a c
then-tells a b c x y = record { same-parameters = y.same-parameters ∙ x.same-parameters; current-most = λ h. y.current-most (x.current-most h) }

either-tells : (st : State) (t : Bool) (x y : TrayOutcome) → Tells st x.after → Tells st y.after → Tells st (cond t x y).after
either-tells st true x y a b = a
either-tells st false x y a b = b

inserts-tell : (rs : List (List ℕ)) (st : State) (n : ℕ) → Tells st (inserts st rs n).after
unfolding inserts
inserts-tell [] st n = record { same-parameters = refl; current-most = λ h. h }
inserts-tell (r ∷ rs) st n =
    let o = nsert_one st r in
    let one = one-tells st r in
    let rest = inserts o.after rs o.number in
    either-tells st (accepted o.number) (stored_before o rest) (stopped_by o)
    (then-tells st o.after rest.after one (inserts-tell rs o.after o.number)) one

tray-tells : (st : State) (t : List ℕ) → Tells st (nsert_tray st t).after
unfolding nsert_tray after_checks
tray-tells st t = go (tray_checks st t)
  where
    go : (c : Checked Bool) → Tells st (after_checks st t c).after
    go (refused n) = record { same-parameters = refl; current-most = λ h. h }
    go (passed x) = inserts-tell (records_of (desc st) t) st done

module _ (s : code.Session) (r : Trayed) (f b t g d : List ℕ) (e : answered_tray r g d ≡ counted_tray (nsert_tray (given s f b []) t)) where
  tray-parameters : (ws : List ℕ) → held s ≡ session_of ws → parameters_in ws ≡ r.session.desc
  unfolding session_of
  tray-parameters ws same =
      let k : r.session.desc ≡ (nsert_tray (given s f b []) t).after.session.desc = ap (λ (x : CountedTray). x.after.session.desc) e in
      sym (k ∙ (tray-tells (given s f b []) t).same-parameters ∙ ap (λ (x : Session). x.desc) same)

  tray-current : (ws : List ℕ) → held s ≡ session_of ws → ((i : ℕ) → Fits w32 (get_or ws i 0)) → r.session.current ≤ most_word
  unfolding session_of
  tray-current ws same word =
      let k : r.session.current ≡ (nsert_tray (given s f b []) t).after.session.current = ap (λ (x : CountedTray). x.after.session.current) e in
      let c : (held s).current ≡ get_or ws 7 0 = ap (λ (x : Session). x.current) same in
      let w = word 7 in
      rw k ((tray-tells (given s f b []) t).current-most (rw c (omega arith)))

  -- so the words have room for its session
  pub tray-writable : (ws : List ℕ) → held s ≡ session_of ws → is_session ws ≡ true
      → ((i : ℕ) → Fits w32 (get_or ws i 0)) → Writable ws r.session
  tray-writable ws same is word = record {
    whole = (session-facts ws is).whole;
    no_more = (session-facts ws is).no_more;
    same-parameters = tray-parameters ws same;
    current-most = tray-current ws same word;
  }

-- ---- the returns of the code

pub two-words : (l : List ℕ) (a b : ℕ) → length l ≡ 2 → set (set l 0 a) 1 b ≡ a ∷ b ∷ []
two-words [] a b h = absurd (omega arith)
two-words (y ∷ []) a b h = absurd (omega arith)
two-words (y ∷ z ∷ []) a b h = refl
two-words (y ∷ z ∷ v ∷ l) a b h = absurd (omega arith)

module _ (ws f b t told : List ℕ) where
  tray-by : (c : Bool) → is_session ws && eqb (length told) 2 ≡ c
      → cond c (told_tray ws (counted_tray (nsert_tray (lent (session_of ws) f b []) t))) (returned_tray wrong_size ws f b told) ≡ called_tray ws f b t told
  unfolding called_tray
  tray-by c e = rw e

  pub tray-none : is_session ws ≡ false → returned_tray wrong_size ws f b told ≡ called_tray ws f b t told
  tray-none not_one = tray-by false (ap (λ (c : Bool). c && eqb (length told) 2) not_one)

  module _ (is : is_session ws ≡ true) where
    pub tray-untold : (length told ≡ 2 → ⊥) → returned_tray wrong_size ws f b told ≡ called_tray ws f b t told
    tray-untold l = let z = ne_eqb (length told) 2 l in tray-by false (λ j. is j && z j)

    pub tray-called : (s : code.Session) (a : Trayed) (g d us : List ℕ) (r : ℕ)
        → answered_tray a g d ≡ counted_tray (nsert_tray (given s f b []) t) → held s ≡ session_of ws → us ≡ words_of ws (held a.session) → r ≡ a.number
        → length told ≡ 2 → returned_tray r us g d (set (set told 0 a.transfers) 1 a.stored) ≡ called_tray ws f b t told
    tray-called s a g d us r e same u n l =
        let z = eq-eqb (length told) 2 l in
        let w = two-words told a.transfers a.stored l in
        (λ j. returned_tray (n j) (u j) g d (w j))
        ∙ ap (told_tray ws) e
        ∙ ap (λ (o : Session). told_tray ws (counted_tray (nsert_tray (lent o f b []) t))) same
        ∙ tray-by true (λ j. is j && z j)

pub one-returned-tray : OneReturnedTray
one-returned-tray ws file buffer t told r s us vs f g b d m n x y =
    let e : returned_tray r us f b m ≡ returned_tray s vs g d n = x ∙ sym y in
    (λ i. (e i).answer, λ i. (e i).session, λ i. (e i).file, λ i. (e i).buffer, λ i. (e i).told)
