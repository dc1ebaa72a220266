-- The ways through the copying call, one law for each; when it answers which number; and that the copy opens.
use Prim.Native.Nat.{ℕ, ◌≤◌}
use mathlib.Core.Path.{◌≡◌, refl, sym, ap, ◌∙◌, subst}
use mathlib.Core.Bool.{Bool, true, false}
use mathlib.Core.List.{List}
use native.Mathlib.Omega.{arith}
use lib.ListN.{length}
use borrow.Author.Tests.{leb-true, le-leb, eqb-true, eq-eqb}
use Rattle.numbers.specs.Numbers.{done, wrong_size, already_open, bad_file}
use Rattle.numbers.specs.Checked.{Checked, passed, refused}
use Rattle.words.specs.Words.{zeros}
use Rattle.drum.specs.declared.Description.{Description}
use Rattle.drum.specs.Params.{every, good_params, file_size, sized}
use Rattle.drum.specs.Blocks.{sections}
use Rattle.drum.proofs.Good.{every-hold}
use Rattle.layout.specs.Tree.{Tree, marks_of}
use Rattle.layout.specs.Holds.{Holds, WellFormed}
use Rattle.layout.specs.Inspect.{layout_marks}
use Rattle.layout.specs.Copied.{under_control, copied}
use Rattle.layout.proofs.Exact.{open-exact, refused_none}
use Rattle.layout.proofs.Good.{good-facts}
use Rattle.layout.proofs.Unique.{master-words}
use Rattle.layout.proofs.Copied.{copy_holds}
use Rattle.rules.specs.State.{Session, State, desc, lent}
use Rattle.rules.specs.Checks.{sizes_ok}
use Rattle.rules.specs.Open.{Opened, open_checks, open_done, open_layout, open_file}
use Rattle.rules.specs.Copy.{Copy, copy_left, copy_sizes, copy_checks, copy_layout, copy_done, copy}
use Rattle.rules.specs.Copies.{CopyExact, OpensWith, CopyOpens}

-- right sizes, as facts
pub record CopySized (p : Description) (c : ℕ) (f : List ℕ) (second marks : ℕ) : Type 0 where
  pub good : good_params p ≡ true
  pub file-is : length f ≡ file_size p
  pub marks-are : marks ≡ p.n
  pub again : good_params (under_control c p) ≡ true
  pub second_is : second ≡ file_size (under_control c p)
  pub room : sections f ≤ c

module _ (p : Description) (c : ℕ) (f : List ℕ) (second marks : ℕ) where
  pub copy-facts : copy_sizes p c f second marks ≡ true → CopySized p c f second marks
  unfolding copy_sizes
  copy-facts h =
      let (g, (l, (m, (a, (s, (r, u)))))) = every-hold _ h in
      record { good = g; file-is = eqb-true _ _ l; marks-are = eqb-true _ _ m; again = a; second_is = eqb-true _ _ s; room = leb-true _ _ r }

  pub copy-yes : CopySized p c f second marks → copy_sizes p c f second marks ≡ true
  unfolding copy_sizes every
  copy-yes z = simp (z.good, eq-eqb _ _ z.file-is, eq-eqb _ _ z.marks-are, z.again, eq-eqb _ _ z.second_is, le-leb _ _ z.room)

  pub copy-no : (CopySized p c f second marks → ⊥) → copy_sizes p c f second marks ≡ false
  copy-no n = go (copy_sizes p c f second marks) refl
    where
      go : (t : Bool) → copy_sizes p c f second marks ≡ t → copy_sizes p c f second marks ≡ false
      go true e = absurd (n (copy-facts e))
      go false e = e

module _ (p : Description) (c : ℕ) (f second marks : List ℕ) (opened : Bool) where
  pub copy-wrong : copy_sizes p c f (length second) (length marks) ≡ false → copy p opened c f second marks ≡ copy_left wrong_size second marks
  unfolding copy copy_done copy_checks
  copy-wrong e = simp e

  module _ (sizes : copy_sizes p c f (length second) (length marks) ≡ true) where
    pub copy-already : opened ≡ true → copy p opened c f second marks ≡ copy_left already_open second marks
    unfolding copy copy_done copy_checks
    copy-already e = simp (sizes, e)

    -- the sizes are right and the session is closed: the inspection decides
    pub copy-inspected : opened ≡ false → copy p opened c f second marks ≡ copy_layout p c f second (layout_marks p f)
    unfolding copy copy_done copy_checks
    copy-inspected e = simp (sizes, e)

    pub copy-bad : opened ≡ false → layout_marks p f ≡ refused bad_file → copy p opened c f second marks ≡ copy_left bad_file second (zeros p.n)
    unfolding copy_layout
    copy-bad o e = copy-inspected o ∙ ap (copy_layout p c f second) e

    pub copy_done_lem : (ms : List ℕ) → opened ≡ false → layout_marks p f ≡ passed ms → copy p opened c f second marks ≡ copy_left done (copied c p f) ms
    unfolding copy_layout
    copy_done_lem ms o e = copy-inspected o ∙ ap (copy_layout p c f second) e

-- the number of each way, told apart
not_done : (n : ℕ) (x : Copy) (s m : List ℕ) → x ≡ copy_left n s m → x.number ≡ done → n ≡ done
not_done n x s m e d = sym (ap (λ (y : Copy). y.number) e) ∙ d

module _ (p : Description) (opened : Bool) (c : ℕ) (f second marks : List ℕ) where
  abbrev right : Bool
  right = copy_sizes p c f (length second) (length marks)

  bad-file : right ≡ true → opened ≡ false → (WellFormed p f → ⊥) → copy p opened c f second marks ≡ copy_left bad_file second (zeros p.n)
  bad-file e o none =
      let z = copy-facts p c f _ _ e in
      copy-bad p c f second marks opened e o ((open-exact p f z.good z.file-is).2 none)

  well-formed : right ≡ true → opened ≡ false → (t : Tree) → Holds p f t
      → copy p opened c f second marks ≡ copy_left done (copied c p f) (marks_of t p.n)
  well-formed e o t h =
      let z = copy-facts p c f _ _ e in
      copy_done_lem p c f second marks opened e (marks_of t p.n) o ((open-exact p f z.good z.file-is).1 t h)

  all_right : (copy p opened c f second marks).number ≡ done → (right ≡ true) × (opened ≡ false) × WellFormed p f
  unfolding WellFormed copy_layout
  all_right d = go right opened refl refl
    where
      stands : (t : Checked (List ℕ)) → right ≡ true → opened ≡ false → layout_marks p f ≡ t → WellFormed p f
      stands (passed ms) e o q = let (t, h, m) = (open-exact p f (copy-facts p c f _ _ e).good (copy-facts p c f _ _ e).file-is).0 ms q in (t, h)
      stands (refused n) e o q =
          let z : n ≡ done = not_done n _ _ _ (copy-inspected p c f second marks opened e o ∙ ap (copy_layout p c f second) q) d in
          let w : layout_marks p f ≡ refused bad_file
          = (open-exact p f (copy-facts p c f _ _ e).good (copy-facts p c f _ _ e).file-is).2
          (refused_none p f n (copy-facts p c f _ _ e).good (copy-facts p c f _ _ e).file-is q) in
          absurd (let y : n ≡ bad_file = same n bad_file (sym q ∙ w) in omega arith)
        where
          same : (x y : ℕ) → ◌≡◌ {A = Checked (List ℕ)} (refused x) (refused y) → x ≡ y
          same x y e = cc

      go : (r o : Bool) → right ≡ r → opened ≡ o → (right ≡ true) × (opened ≡ false) × WellFormed p f
      go false o e u = absurd (let y : ◌≡◌ {A = ℕ} wrong_size done = not_done _ _ _ _ (copy-wrong p c f second marks opened e) d in omega arith)
      go true true e u = absurd (let y : ◌≡◌ {A = ℕ} already_open done = not_done _ _ _ _ (copy-already p c f second marks opened e u) d in omega arith)
      go true false e u = (e, u, stands (layout_marks p f) e u refl)

pub copy-exact : (p : Description) (opened : Bool) (c : ℕ) (f second marks : List ℕ) → CopyExact p opened c f second marks
copy-exact p opened c f second marks = record {
  sizes = copy-wrong p c f second marks opened;
  open-already = copy-already p c f second marks opened;
  not-layout = bad-file p opened c f second marks;
  made = well-formed p opened c f second marks;
  only = all_right p opened c f second marks;
}

-- OPEN of a file that holds a tree
opens-tree : (st : State) (marks : List ℕ) (t : Tree) → good_params (desc st) ≡ true → length st.buffer ≡ (desc st).wpb → length marks ≡ (desc st).n
    → st.session.opened ≡ false → Holds (desc st) st.file t → OpensWith (open_file st marks) (marks_of t (desc st).n)
unfolding open_file open_done open_checks sizes_ok sized every open_layout
opens-tree st marks t g lb lm o h =
    let p = desc st in
    let e : open_file st marks ≡ open_layout st (layout_marks p st.file) =
    simp (g, eq-eqb (length st.file) (file_size p) h.size, eq-eqb (length st.buffer) p.wpb lb, eq-eqb (length marks) p.n lm, o) in
    let out = e ∙ ap (open_layout st) ((open-exact p st.file g h.size).1 t h) in
    (ap (λ (x : Opened). x.outcome.number) out, ap (λ (x : Opened). x.marks) out)

pub opens-for : (q : Description) (g : List ℕ) (t : Tree) (fresh : Session) (buffer work others : List ℕ) → good_params q ≡ true → Holds q g t
    → fresh.opened ≡ false → length buffer ≡ q.wpb → length others ≡ q.n → fresh.desc ≡ q
    → OpensWith (open_file (lent fresh g buffer work) others) (marks_of t q.n)
opens-for q g t fresh buffer work others good h o lb lm e =
    let d : q ≡ fresh.desc = sym e in
    let found = opens-tree (lent fresh g buffer work) others t (subst (λ (x : Description). good_params x ≡ true) d good)
    (lb ∙ ap (λ (x : Description). x.wpb) d) (lm ∙ ap (λ (x : Description). x.n) d) o (subst (λ (x : Description). Holds x g t) d h) in
    (found.0, found.1 ∙ ap (λ (x : Description). marks_of t x.n) e)

pub copy-opens : CopyOpens
unfolding under_control WellFormed
copy-opens p opened c f second marks d fresh buffer work others o lb lm =
    let (e, u, (t, h)) = all_right p opened c f second marks d in
    let z = copy-facts p c f _ _ e in
    let r : copy p opened c f second marks ≡ copy_left done (copied c p f) (marks_of t p.n) = well-formed p opened c f second marks e u t h in
    let s : length t.sections ≤ c = omega (arith, z.room, (master-words p f (record { good = good-facts p z.good; size = h.size }) t h).secs) in
    let k : Holds (under_control c p) (copied c p f) t = copy_holds c p f t z.good z.again s h in
    rw r (
      opens-for p f t fresh buffer work others z.good h o lb lm,
      opens-for (under_control c p) (copied c p f) t fresh buffer work others z.again k o lb lm,
    )
