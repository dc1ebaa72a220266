-- Before and after the walk: the sizes, the session that goes in, the CLOSE.
use mathlib.Core.Path.{◌≡◌, sym, ap, ◌∙◌}
use mathlib.Core.Bool.{Bool, true, false, cond, not, ◌&&◌}
use mathlib.Core.List.{List, []}
use mathlib.Core.Logic.{◌⊎◌, inl, inr}
use Prim.Native.Nat.{ℕ, ◌+◌, ◌*◌, ◌≤◌}
use native.Mathlib.Nat.{mul-le-mul}
use native.Mathlib.Omega.{arith}
use mir.Syntax.{w64}
use mir.Val.{Fits}
use borrow.Author.Tests.{not-true, not-false, eq-eqb, ne_eqb, leb-true, eqb-true}
use lib.Dec.{leb, eqb}
use lib.ListN.{length}
use Rattle.numbers.specs.Numbers.{done, wrong_size}
use Rattle.words.specs.Words.{zeros}
use Rattle.words.proofs.All.{and_both}
use Rattle.drum.specs.declared.Description.{Description}
use Rattle.drum.specs.Params.{D, file_size, good_params, sized}
use Rattle.drum.proofs.Good.{caps, Sized, sized-facts}
use Rattle.layout.specs.Create.{created}
use Rattle.rules.specs.Close.{close}
use Rattle.rules.specs.Requests.{closing, answer}
use Rattle.searchfile.specs.declared.Session as code
use Rattle.searchfile.specs.Answers.{Answer}
use Rattle.searchfile.specs.Promise.{Counted, given, counted, answered, held}
use Rattle.demands.proofs.Costs.{few-transfers}
use Rattle.salvage.specs.declared.Going.{Going}
use Rattle.salvage.specs.declared.Salvaged.{Salvaged}
use Rattle.salvage.specs.Met.{met}
use Rattle.salvage.specs.Salvage.{Walk, Salvaging, run, begun, ended, roomy, salvage}
use Rattle.salvage.specs.Promise.{walking, answered_with, Spare, Copied, Roomy}
use Rattle.salvage.proofs.Steps.{run-grown}
use Rattle.salvage.proofs.Walks.{met-most}

-- ---- the sizes: x is the code's test of file and buffer

module _ (p : Description) (copy fresh buffer report : ℕ) (x : Bool) (is : x ≡ sized p fresh buffer) where
  sizes-wrong : x ≡ false → false ≡ roomy p copy fresh buffer report
  unfolding roomy
  sizes-wrong h = sym (ap (λ (c : Bool). c && (eqb copy (file_size p) && leb (3 * (p.n * (1 + D p))) report)) (sym is ∙ h))

  module _ (h : x ≡ true) where
    facts : Sized p fresh buffer
    facts = sized-facts p fresh buffer (sym is ∙ h)

    copy-wrong : (copy ≡ fresh → ⊥) → false ≡ roomy p copy fresh buffer report
    unfolding roomy
    copy-wrong ne =
        let e : eqb copy (file_size p) ≡ false = ne_eqb copy (file_size p) (λ q. ne (q ∙ sym facts.file-is)) in
        sym λ j. (sym is ∙ h) j && (e j && leb (3 * (p.n * (1 + D p))) report)

    module _ (d : ℕ) (e : d ≡ D p) where
      most : p.n * (1 + d) ≤ 262142 * 4097
      most =
          let c = caps p facts.good in
          let f = c.facts in
          let few : 1 + d ≤ 4097 = omega arith in
          mul-le-mul f.n-most few

      pub row_fits : Fits w64 (1 + d)
      row_fits = let c = caps p facts.good in omega arith

      pub most-fits : Fits w64 (p.n * (1 + d))
      most-fits = omega (arith, most)

      pub words-fit : Fits w64 (3 * (p.n * (1 + d)))
      words-fit = omega (arith, most)

      pub report-tells : copy ≡ fresh → leb (3 * (p.n * (1 + d))) report ≡ roomy p copy fresh buffer report
      unfolding roomy
      report-tells q =
          let s : eqb copy (file_size p) ≡ true = eq-eqb copy (file_size p) (q ∙ facts.file-is) in
          sym λ j. (sym is ∙ h) j && (s j && leb (3 * (p.n * (1 + sym e j))) report)

  pub lengths-wrong : ((x ≡ true) × (copy ≡ fresh → ⊥)) ⊎ (x ≡ false) → false ≡ roomy p copy fresh buffer report
  lengths-wrong (inl h) = copy-wrong h.0 h.1
  lengths-wrong (inr h) = sizes-wrong h

-- what the test tells
pub roomy-facts : (p : Description) (copy fresh buffer report : ℕ) → roomy p copy fresh buffer report ≡ true → Roomy p copy fresh buffer report
unfolding roomy
roomy-facts p copy fresh buffer report h =
    let (a, b) = and_both (sized p fresh buffer) _ h in
    let (c, d) = and_both (eqb copy (file_size p)) _ b in
    let s = sized-facts p fresh buffer a in
    record { good = s.good; copy_is = eqb-true _ _ c; fresh-is = s.file-is; buffer-is = s.buffer-is; room = leb-true _ _ d }

-- ---- the walk that goes in

-- the new file, and a new session on it, opened
pub begun-is : (p : Description) (f : List ℕ) (s : code.Session) → f ≡ created p
    → held s ≡ record { desc = p; opened = false; current = 0; flag = false; placed = false; position = zeros 63 }
    → walking (record {
      session = record { desc = s.desc; opened = true; current = s.current; flag = s.flag; placed = s.placed; position = s.position };
      lines = 0;
      transfers = 0;
    }) f [] []
    ≡ begun p [] []
unfolding begun
begun-is p f s e q = λ j. record {
  session = record { desc = (q j).desc; opened = true; current = (q j).current; flag = (q j).flag; placed = (q j).placed; position = (q j).position };
  file = e j;
  buffer = [];
  report = [];
  lines = 0;
  transfers = 0;
}

-- ---- CLOSE

module _ (g : Going) (f d : List ℕ) (a : Answer) (f' : List ℕ) (e : answered a f' d [] ≡ counted (close (given g.session f d []))) where
  pub close-fits : g.transfers ≤ 1099511627776 → Fits w64 (g.transfers + a.transfers)
  unfolding answer
  close-fits h =
      let n : a.transfers ≡ length (close (given g.session f d [])).transfers = ap (λ (c : Counted). c.transfers) e in
      omega (arith, n, few-transfers (given g.session f d []) closing)

  pub close-ends : answered_with (record { number = done; transfers = g.transfers + a.transfers; lines = g.lines }) f' d [] ≡ ended (walking g f d [])
  unfolding ended
  close-ends = λ j. record {
    number = done;
    transfers = g.transfers + (e j).transfers;
    lines = g.lines;
    fresh = (e j).after.file;
    buffer = (e j).after.buffer;
    report = [];
  }

-- ---- the whole

-- the walk as it begins: g is what goes in, f the file
module _ (p : Description) (copy fresh buffer report : ℕ) (h : Roomy p copy fresh buffer report) (g : Going) (f : List ℕ) (e : walking g f [] [] ≡ begun p [] []) where
  desc-is : g.session.desc ≡ p
  unfolding begun
  desc-is = ap (λ (w : Walk). w.session.desc) e

  few-lines : p.n * (1 + D p) ≤ 262142 * 4097
  few-lines =
      let c = caps p h.good in
      let m = c.facts in
      let few : 1 + D p ≤ 4097 = omega arith in
      mul-le-mul m.n-most few

  lines_are : g.session.desc.n * (1 + D g.session.desc) ≡ p.n * (1 + D p)
  lines_are = ap (λ (q : Description). q.n * (1 + D q)) desc-is

  pub first-spare : Spare g (g.session.desc.n * (1 + D g.session.desc)) report
  unfolding begun
  first-spare =
      let l : g.lines ≡ 0 = ap (λ (w : Walk). w.lines) e in
      let t : g.transfers ≡ 0 = ap (λ (w : Walk). w.transfers) e in
      record { lines = omega (arith, lines_are, h.room); transfers = omega (arith, lines_are, few-lines) }

pub first-copied : (p : Description) (copy : List ℕ) (fresh buffer report : ℕ) (g : Going) (f : List ℕ) → walking g f [] [] ≡ begun p [] []
    → Roomy p (length copy) fresh buffer report → Copied g copy
first-copied p copy fresh buffer report g f e h =
    let d = desc-is p (length copy) fresh buffer report h g f e in
    record { good = ap good_params d ∙ h.good; copy_is = h.copy_is ∙ ap file_size (sym d) }

-- the walk as it ends
pub last-few : (g last : Going) (f d x f' d' x' ws : List ℕ) (n : ℕ) → walking last f' d' x' ≡ run (walking g f d x) (met g.session.desc ws)
    → Spare g (g.session.desc.n * (1 + D g.session.desc)) n → last.transfers ≤ 1099511627776
last-few g last f d x f' d' x' ws n w s =
    let a = run-grown (met g.session.desc ws) (walking g f d x) in
    let k = a.transfers in
    let t = s.transfers in
    let q : last.transfers ≡ (run (walking g f d x) (met g.session.desc ws)).transfers = ap (λ (z : Walk). z.transfers) w in
    omega (arith, met-most g.session.desc ws 1 g.session.desc.n)

pub walk-done : (last : Going) (f d x f' : List ℕ) (s : Salvaged) (w : Walk) → answered_with s f' d [] ≡ ended (walking last f d [])
    → walking last f d x ≡ w → answered_with s f' d x ≡ ended w
unfolding ended
walk-done last f d x f' s w e q =
    (λ j. record { number = (e j).number; transfers = (e j).transfers; lines = (e j).lines; fresh = (e j).fresh; buffer = (e j).buffer; report = x }) ∙ ap ended q

-- a walk with another buffer and report
abbrev over-words : List ℕ → List ℕ → Walk → Walk
over-words b r w = record { session = w.session; file = w.file; buffer = b; report = r; lines = w.lines; transfers = w.transfers }

pub build-done : (p : Description) (copy : List ℕ) (g : Going) (f b r : List ℕ) (o : Salvaging) → o ≡ ended (run (walking g f b r) (met g.session.desc copy))
    → walking g f [] [] ≡ begun p [] [] → o ≡ ended (run (begun p b r) (met p copy))
unfolding begun
build-done p copy g f b r o e q = e ∙ λ j. ended (run (over-words b r (q j)) (met (q j).session.desc copy))

-- the code's test of the sizes
module _ (p : Description) (copy fresh buffer report : List ℕ) (t : Bool) (is : t ≡ roomy p (length copy) (length fresh) (length buffer) (length report)) where
  by-room : Bool → Salvaging
  by-room c =
      cond c (ended (run (begun p buffer report) (met p copy)))
      (record { number = wrong_size; transfers = 0; lines = 0; fresh = fresh; buffer = buffer; report = report })

  pub call-refused : not t ≡ true
      → answered_with (record { number = wrong_size; transfers = 0; lines = 0 }) fresh buffer report ≡ salvage p copy fresh buffer report
  unfolding salvage by-room
  call-refused h = sym (ap by-room (sym is ∙ not-true t h))

  pub call-roomy : not t ≡ false → Roomy p (length copy) (length fresh) (length buffer) (length report)
  call-roomy h = roomy-facts p (length copy) (length fresh) (length buffer) (length report) (sym is ∙ not-false t h)

  pub call-done : (o : Salvaging) → o ≡ ended (run (begun p buffer report) (met p copy)) → not t ≡ false → o ≡ salvage p copy fresh buffer report
  unfolding salvage by-room
  call-done o e h = e ∙ sym (ap by-room (sym is ∙ not-false t h))
