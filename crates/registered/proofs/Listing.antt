-- The whole listing: call by call the names go on from the position, and the records stay as they are.
use Prim.Native.Nat.{ℕ, ◌+◌, ◌≤◌, ◌<◌}
use mathlib.Core.Path.{◌≡◌, refl, sym, ap, ◌∙◌, subst}
use mathlib.Core.Bool.{Bool, true, cond}
use mathlib.Core.List.{List, [], ◌∷◌, ◌++◌}
use native.Mathlib.Omega.{arith}
use lib.Dec.{eqb}
use lib.ListN.{length, take, drop}
use lib.Seq.{take-nil, drop-nil, take-length, drop-length}
use Rattle.numbers.specs.Numbers.{done, at_end, accepted}
use Rattle.words.specs.Words.{part}
use Rattle.words.proofs.Parts.{length_part, part-written}
use Rattle.drum.specs.declared.Description.{Description}
use Rattle.drum.proofs.Good.{good-facts, caps}
use Rattle.layout.specs.Tree.{contents}
use Rattle.layout.specs.Holds.{All}
use Rattle.layout.proofs.Unique.{one-tree}
use Rattle.rules.specs.State.{State, Outcome, desc, key_in, position_key}
use Rattle.rules.specs.Open.{open_file}
use Rattle.rules.specs.Adv.{adv}
use Rattle.rules.specs.Requests.{Request, advancing, lending, given, answer, left}
use Rattle.demands.specs.History.{event_of, handed}
use Rattle.demands.specs.Promises.{put_back}
use Rattle.demands.specs.Contents.{records_above, changed, Contains}
use Rattle.demands.specs.Answers.{Lent, Advanced, ordinary, above_position}
use Rattle.demands.proofs.Came.{same-parameters, settled-stays}
use Rattle.demands.proofs.Trees.{leaves_in, records_in}
use Rattle.demands.proofs.Moves.{tree_in}
use Rattle.demands.proofs.Stores.{asc-rows}
use Rattle.demands.proofs.Records.{rows_of, rows_ok}
use Rattle.demands.proofs.Step.{sound-run}
use Rattle.demands.proofs.Opens.{flushed-stands}
use Rattle.demands.proofs.Demands.{opens}
use Rattle.demands.proofs.Mission.{first, second}
use Rattle.registered.specs.Deeds.{Deed, listing, did, left_by, requests}
use Rattle.registered.specs.Listed.{listings, handed_out, ListsOn, ListsWhole}
use Rattle.registered.proofs.Steps.{handed-done}
use Rattle.registered.proofs.Listed.{is, contains-lent, next-is}
use Rattle.registered.proofs.Ordered.{Sorted, sorted-ordinary, sorted-ascends, next-rest, sorted-asc}

-- ---- a state with its records, of which ADV tells the next

record Facts (y : State) (rows : List (List ℕ)) : Type 0 where
  sorted : Sorted (desc y) rows
  key_fits : (desc y).k ≤ (desc y).wpr
  position-fits : (desc y).k ≤ length y.session.position
  goes_on_lem : (w : List ℕ) → Contains (answer y (advancing w)).after rows
  tells : (w : List ℕ) → Lent y w → Advanced (desc y) (ordinary (desc y) (above_position y.session rows)) (answer y (advancing w))

facts-lent : (u : State) (v : List ℕ) (rows : List (List ℕ)) → Facts u rows → Facts (lending v u) rows
unfolding lending answer
facts-lent u v rows h = record {
  sorted = h.sorted;
  key_fits = h.key_fits;
  position-fits = h.position-fits;
  goes_on_lem = h.goes_on_lem;
  tells = h.tells;
}

module _ (st : State) (marks : List ℕ) (o : (open_file st marks).outcome.number ≡ done) where
  abbrev s : State
  s = (open_file st marks).outcome.after

  facts-left : (qs : List Request) (rows : List (List ℕ)) → Contains (left s qs) rows → Facts (left s qs) rows
  unfolding event_of changed
  facts-left qs rows c =
      let u = left s qs in
      let z = opens st marks o in
      let (ss, f, h) = sound-run s z.tree.sections _ z.sound qs in
      let good = h.kept.good in
      let kr = (good-facts (desc u) good).key in
      let few = (caps (desc u) good).facts.k-most in
      let long = h.position in
      let one : tree_in ss f ≡ c.tree = one-tree (desc u) (put_back u) (tree_in ss f) c.tree good (flushed-stands u ss f h) c.held in
      let same : records_in (leaves_in ss) ≡ rows = ap contents one ∙ c.are in
      let ok = rows_of (desc u) (leaves_in ss) (rows_ok (desc u) ss h.kept.holds.sized) in
      record {
        sorted = subst (Sorted (desc u)) same (sorted-asc (desc u) kr 0 (records_in (leaves_in ss)) _ ok (asc-rows (desc u) _ _ ss f h.kept.holds));
        key_fits = kr;
        position-fits = omega arith;
        goes_on_lem = λ w. second.contents st marks o qs rows c (advancing w);
        tells = λ w l. (second.answers st marks o qs rows c).adv w l;
      }

  facts_at : (ds : List Deed) (x : State) → left_by s ds ≡ x → (rows : List (List ℕ)) → Contains x rows → Facts x rows
  facts_at ds x e rows c =
      let u = left s (requests s ds) in
      let v = (left_by s ds).work in
      let i : x ≡ lending v u = sym e ∙ is s ds in
      let d : Contains u rows = contains-lent u v rows (subst (λ (y : State). Contains y rows) i c) in
      subst (λ (y : State). Facts y rows) (sym i) (facts-lent u v rows (facts-left (requests s ds) rows d))

-- ---- one call

module _ (y : State) (rows : List (List ℕ)) (h : Facts y rows) (w : List ℕ) (l : Lent y w) where
  abbrev p : Description
  p = desc y

  abbrev a : Outcome
  a = answer y (advancing w)

  opened-same : a.after.session.opened ≡ y.session.opened
  unfolding answer adv lending
  opened-same = (settled-stays (lending w y) _).opened

  -- the records above a position
  abbrev up : Description → Bool → List ℕ → List (List ℕ)
  up q t at = cond t (records_above q (part 0 q.k at) rows) rows

  names-first : (r : List ℕ) (rest : List (List ℕ)) → ordinary p (above_position y.session rows) ≡ r ∷ rest
      → ordinary p (above_position a.after.session rows) ≡ rest
  unfolding given lending
  names-first r rest e =
      let t : Advanced p (r ∷ rest) a = subst (λ (x : List (List ℕ)). Advanced p x a) e (h.tells w l) in
      let d = same-parameters y (advancing w) in
      let m = (second.positions y (advancing w)).moved (ap accepted t.0) in
      let kr = h.key_fits in
      let pos = h.position-fits in
      let whole : length a.after.work ≡ p.wpr = (first.lengths y (advancing w)).work ∙ l.1 in
      let long : length (key_in p a.after.work) ≡ p.k = length_part 0 p.k a.after.work (omega arith) in
      let at : part 0 p.k a.after.session.position ≡ key_in p r
      = ap (part 0 p.k) m.position
      ∙ part-written y.session.position 0 p.k (key_in p a.after.work) long (omega arith)
      ∙ ap (key_in p) t.1 in
      ap (ordinary p) ((λ j. up (d j) (m.placed j) a.after.session.position) ∙ ap (λ (k : List ℕ). records_above p k rows) at)
      ∙ next-rest p y.session.placed (position_key y.session) rows h.sorted r rest e

  names-none : ordinary p (above_position y.session rows) ≡ [] → ordinary p (above_position a.after.session rows) ≡ []
  unfolding given lending
  names-none e =
      let t : Advanced p [] a = subst (λ (x : List (List ℕ)). Advanced p x a) e (h.tells w l) in
      let d = same-parameters y (advancing w) in
      let m = (second.positions y (advancing w)).stayed (ap accepted t.0) in
      ap (ordinary p) (λ j. up (d j) (m.placed j) (m.position j)) ∙ e

-- ---- call after call

handed-none : (o : Outcome) → o.number ≡ at_end → handed o ≡ []
unfolding handed
handed-none o z = ap (λ (n : ℕ). cond (eqb n done) (o.after.work ∷ []) []) z

pub left-by-append : (u : State) (ds es : List Deed) → left_by u (ds ++ es) ≡ left_by (left_by u ds) es
unfolding left_by
left-by-append u [] es = refl
left-by-append u (d ∷ ds) es = left-by-append (did u d).after ds es

abbrev Walked : Description → List (List ℕ) → List (List ℕ) → State → Type 0
Walked p names ws x =
    (handed_out x ws ≡ take (length ws) names)
    × ((w : List ℕ) → length w ≡ p.wpr → Advanced p (drop (length ws) names) (did (left_by x (listings ws)) (listing w)))

-- what the next call tells
told : (p : Description) (x : State) (rows names : List (List ℕ)) → Facts x rows → desc x ≡ p → p.k < p.wpr → x.session.opened ≡ true
    → ordinary p (above_position x.session rows) ≡ names → (w : List ℕ) → length w ≡ p.wpr → Advanced p names (did x (listing w))
told p x rows names h d wider op e w l =
    let k : (desc x).k < (desc x).wpr = subst (λ (q : Description). q.k < q.wpr) (sym d) wider in
    let i : ordinary (desc x) (above_position x.session rows) ≡ names = ap (λ (q : Description). ordinary q (above_position x.session rows)) d ∙ e in
    let t = h.tells w (op, l ∙ ap (λ (q : Description). q.wpr) (sym d)) in
    subst (λ (q : Description). Advanced q names (did x (listing w))) d
    (subst (λ (n : List (List ℕ)). Advanced (desc x) n (did x (listing w))) i
    (subst (Advanced (desc x) (ordinary (desc x) (above_position x.session rows))) (next-is x w k) t))

module _ (st : State) (marks : List ℕ) (o : (open_file st marks).outcome.number ≡ done) (p : Description) (wider : p.k < p.wpr) where
  walk : (ws : List (List ℕ)) (ds : List Deed) (x : State) → left_by (open_file st marks).outcome.after ds ≡ x → (rows names : List (List ℕ)) → Contains x rows
      → x.session.opened ≡ true → desc x ≡ p → All (λ w. length w ≡ p.wpr) ws → ordinary p (above_position x.session rows) ≡ names
      → Walked p names ws x
  unfolding handed_out listings left_by All
  walk [] ds x e rows names c op d ls i = (refl, λ w l. told p x rows names (facts_at st marks o ds x e rows c) d wider op i w l)
  walk (w ∷ ws) ds x e rows names c op d ls i =
      go names i
      (λ more j.
      walk
      ws
      (ds ++ listing w ∷ [])
      after-it
      (left-by-append (open_file st marks).outcome.after ds (listing w ∷ []) ∙ ap (λ (y : State). (did y (listing w)).after) e)
      rows
      more
      (subst (λ (q : Outcome). Contains q.after rows) same (h.goes_on_lem w))
      (ap (λ (q : Outcome). q.after.session.opened) (sym same) ∙ opened-same x rows h w lw ∙ op)
      (ap (λ (q : Outcome). desc q.after) (sym same) ∙ same-parameters x (advancing w) ∙ d)
      ls.1
      j)
    where
      h : Facts x rows
      h = facts_at st marks o ds x e rows c

      lw : Lent x w
      lw = (op, ls.0 ∙ ap (λ (q : Description). q.wpr) (sym d))

      same : answer x (advancing w) ≡ did x (listing w)
      same = next-is x w (subst (λ (q : Description). q.k < q.wpr) (sym d) wider)

      after-it : State
      after-it = (did x (listing w)).after

      -- names here, and names after the call
      here : (names : List (List ℕ)) → ordinary p (above_position x.session rows) ≡ names → ordinary (desc x) (above_position x.session rows) ≡ names
      here names i = ap (λ (q : Description). ordinary q (above_position x.session rows)) d ∙ i

      then : (names : List (List ℕ)) → ordinary (desc x) (above_position (answer x (advancing w)).after.session rows) ≡ names
          → ordinary p (above_position after-it.session rows) ≡ names
      then names i =
          ap (λ (q : Description). ordinary q (above_position after-it.session rows)) (sym d)
          ∙ ap (λ (q : Outcome). ordinary (desc x) (above_position q.after.session rows)) (sym same)
          ∙ i

      go : (names : List (List ℕ)) → ordinary p (above_position x.session rows) ≡ names
          → ((more : List (List ℕ)) → ordinary p (above_position after-it.session rows) ≡ more → Walked p more ws after-it) → Walked p names (w ∷ ws) x
      go [] i on =
          let t = told p x rows [] h d wider op i w ls.0 in
          let n = on [] (then [] (names-none x rows h w lw (here [] i))) in (
            ap (λ (z : List (List ℕ)). z ++ handed_out after-it ws) (handed-none (did x (listing w)) t.0) ∙ n.0 ∙ take-nil (length ws),
            λ v l. subst (λ (z : List (List ℕ)). Advanced p z (did (left_by after-it (listings ws)) (listing v))) (drop-nil (length ws)) (n.1 v l),
          )
      go (r ∷ rest) i on =
          let t = told p x rows (r ∷ rest) h d wider op i w ls.0 in
          let n = on rest (then rest (names-first x rows h w lw r rest (here (r ∷ rest) i))) in (
            ap (λ (z : List (List ℕ)). z ++ handed_out after-it ws) (handed-done (did x (listing w)) t.0 ∙ ap (λ (z : List ℕ). z ∷ []) t.1)
                ∙ ap (λ (z : List (List ℕ)). r ∷ z) n.0,
            n.1,
          )

pub lists-on : ListsOn
lists-on st marks o ds rows c op wider ws ls =
    let now = left_by (open_file st marks).outcome.after ds in
    walk st marks o (desc now) wider ws ds now refl rows (ordinary (desc now) (above_position now.session rows)) c op refl ls refl

pub lists-whole : ListsWhole
lists-whole st marks o ds rows c op wider ws ls none many =
    let now = left_by (open_file st marks).outcome.after ds in
    let names = ordinary (desc now) rows in
    let i : ordinary (desc now) (above_position now.session rows) ≡ names
    = ap (λ (t : Bool). ordinary (desc now) (cond t (records_above (desc now) (position_key now.session) rows) rows)) none in
    let n = walk st marks o (desc now) wider ws ds now refl rows names c op refl ls i in
    let sorted = sorted-ordinary (desc now) rows (facts_at st marks o ds now refl rows c).sorted in (
      n.0 ∙ ap (λ (m : ℕ). take m names) many ∙ take-length names,
      sorted-ascends (desc now) names sorted,
      λ w l. (subst (λ (z : List (List ℕ)). Advanced (desc now) z (did (left_by now (listings ws)) (listing w)))
          (ap (λ (m : ℕ). drop m names) many ∙ drop-length names) (n.1 w l)).0,
    )
