-- The refusals before the routine is called: as the definitions tell them and as the code tests them, and what refusals that passed leave to rely on.
use Prim.Native.Nat.{ℕ}
use mathlib.Core.Path.{◌≡◌, refl, sym, ap, ◌∙◌}
use mathlib.Core.Bool.{Bool, true, false, not, ◌&&◌}
use mathlib.Core.List.{List}
use borrow.Author.Tests.{ltb-true, eqb-true}
use lib.Dec.{eqb, ltb}
use lib.ListN.{length}
use Rattle.numbers.specs.Numbers.{wrong_size, is_closed, wrong_key}
use Rattle.numbers.specs.Checked.{Checked, passed, refused, ◌>>◌, require}
use Rattle.numbers.proofs.Passed.{clash, then-passed}
use Rattle.words.specs.Words.{part, all_words}
use Rattle.drum.specs.declared.Description.{Description}
use Rattle.words.specs.Keys.{is_ones}
use Rattle.drum.specs.Params.{sized}
use Rattle.drum.proofs.Good.{caps}
use Rattle.rules.specs.State.{State, desc, key_in}
use Rattle.rules.specs.Checks.{sizes_ok, work_ok, is_open, key_ok}
use Rattle.face.specs.Checks.{plain_checks, keyed_checks}
use Rattle.face.proofs.Refusing.{keyed-lent}
use Rattle.register.specs.Names.{spelling_size}
use Rattle.register.specs.Register.{has_state, name_ok, spelled_ok}
use Rattle.register.specs.Checks.{name_checks, spelled_checks, StateFits, SpellingFits}

-- ---- told one by one, or together

four : (a b c d : Bool) (x y z u : ℕ)
    → require a x >> (require b y >> (require c z >> require d u)) ≡ (require a x >> (require b y >> require c z)) >> require d u
four false b c d x y z u = refl
four true false c d x y z u = refl
four true true false d x y z u = refl
four true true true d x y z u = refl

-- the tests of a state
abbrev pub name_tests : State → Checked Bool
name_tests st = name_checks (desc st) st.session.opened (length st.file) (length st.buffer) st.work

abbrev pub spelled_tests : List ℕ → State → Checked Bool
spelled_tests spelling st = spelled_checks (desc st) st.session.opened (length st.file) (length st.buffer) st.work spelling

pub name-chain : (st : State) → name_ok st ≡ name_tests st
unfolding name_ok has_state name_checks sizes_ok work_ok is_open key_ok keyed_checks plain_checks
name-chain st =
    ap (λ (x : Checked Bool). require (ltb (desc st).k (desc st).wpr) wrong_size >> x)
    (four
    (sized (desc st) (length st.file) (length st.buffer))
    (eqb (length st.work) (desc st).wpr)
    st.session.opened
    (all_words (part 0 (desc st).k st.work) && not (is_ones (key_in (desc st) st.work)))
    wrong_size
    wrong_size
    is_closed
    wrong_key)

pub spelled-chain : (spelling : List ℕ) (st : State) → spelled_ok spelling st ≡ spelled_tests spelling st
unfolding spelled_ok spelled_checks
spelled-chain spelling st =
    ap
    (λ (x : Checked Bool). require (eqb (length spelling) (spelling_size (desc st))) wrong_size >> (x >> require (all_words spelling) wrong_key))
    (name-chain st)

-- ---- what refusals that passed tell

-- a chain that ends in a test passes `true`
ends-true : (m : Checked Bool) (t : Bool) (n : ℕ) (x : Bool) → m >> require t n ≡ passed x → x ≡ true
ends-true (refused k) t n x e = clash k x e
ends-true (passed a) true n x e = cc
ends-true (passed a) false n x e = clash n x e

-- a step before another
before : (m rest : Checked Bool) (b : Bool) → m >> rest ≡ passed b → (a : Bool) × (m ≡ passed a) × (rest ≡ passed b)
before (refused n) rest b e = clash n b e
before (passed a) rest b e = (a, refl, e)

module _ (p : Description) (opened : Bool) (file buffer : ℕ) (work : List ℕ) where
  name-passed : (x : Bool) → name_checks p opened file buffer work ≡ passed x → StateFits p work
  unfolding name_checks keyed_checks
  name-passed x e =
      let (a, r) = then-passed (ltb p.k p.wpr) wrong_size (keyed_checks p opened file buffer work p.k) x e in
      let t : x ≡ true = ends-true (plain_checks p opened file buffer (length work)) (all_words (part 0 p.k work) && not (is_ones (key_in p work))) wrong_key x r in
      let l = keyed-lent p opened file buffer work p.k (sym (r ∙ ap passed t)) in
      record { key-few = (caps p l.good).facts.k-most; data-word = ltb-true _ _ a; whole = l.work-is }

  spelled-passed : (x : Bool) (spelling : List ℕ) → spelled_checks p opened file buffer work spelling ≡ passed x → SpellingFits p work spelling
  unfolding spelled_checks
  spelled-passed x spelling e =
      let (l, r) = then-passed (eqb (length spelling) (spelling_size p)) wrong_size _ x e in
      let (y, c, o) = before (name_checks p opened file buffer work) (require (all_words spelling) wrong_key) x r in
      record { state = name-passed y c; as_long = eqb-true _ _ l }

  pub name-fits : passed true ≡ name_checks p opened file buffer work → StateFits p work
  name-fits e = name-passed true (sym e)

  pub spelled-fits : (spelling : List ℕ) → passed true ≡ spelled_checks p opened file buffer work spelling → SpellingFits p work spelling
  spelled-fits spelling e = spelled-passed true spelling (sym e)

-- the same of a state
pub name-ok : (st : State) (x : Bool) → name_ok st ≡ passed x → StateFits (desc st) st.work
name-ok st x e = name-passed (desc st) st.session.opened (length st.file) (length st.buffer) st.work x (sym (name-chain st) ∙ e)

pub spelled-ok : (spelling : List ℕ) (st : State) (x : Bool) → spelled_ok spelling st ≡ passed x → SpellingFits (desc st) st.work spelling
spelled-ok spelling st x e =
    spelled-passed (desc st) st.session.opened (length st.file) (length st.buffer) st.work x spelling (sym (spelled-chain spelling st) ∙ e)
