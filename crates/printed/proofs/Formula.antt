-- The printed bytes are the results of a run of requests, so their counts keep to the session formula.
use Prim.Native.Nat.{ℕ, ◌+◌}
use native.Mathlib.Omega.{arith}
use mathlib.Core.Path.{◌≡◌, refl, sym, ap, ap₂, ◌∙◌, subst}
use mathlib.Core.Bool.{true, cond}
use mathlib.Core.List.{List, [], ◌∷◌, ◌++◌, map, append-nil, append_assoc}
use lib.ListN.{length-replicate}
use Rattle.numbers.specs.Numbers.{done, accepted}
use Rattle.words.specs.Words.{zeros}
use Rattle.words.specs.Keys.{same_key}
use Rattle.drum.specs.declared.Description.{Description}
use Rattle.drum.specs.Params.{good_params, file_size}
use Rattle.rules.specs.declared.Call.{Call}
use Rattle.rules.specs.declared.Call.TheVariants.{Create, Open, Close, Seek, Adv, Nsert, Dlete, Updat, Xtend}
use Rattle.rules.specs.State.{State, Outcome, desc, lent}
use Rattle.rules.specs.Open.{create, open_file}
use Rattle.rules.specs.Run.{begun, created_outcome, perform, line_of}
use Rattle.rules.specs.Requests.{Request, answer, left, tally}
use Rattle.demands.specs.Formula as rule
use Rattle.demands.specs.Lines.{NoCreate, as_request}
use Rattle.demands.proofs.Lines.{Step, step, open_none}
use Rattle.demands.proofs.Made.{made-opens}
use Rattle.demands.proofs.Demands.{session-formula}
use Rattle.calls.specs.Session.{asks}
use Rattle.calls.proofs.Described.{same-description}
use Rattle.texts.specs.Texts.{bytes}
use Rattle.texts.specs.Results.{spelling, result_text, bad_line}
use Rattle.lines.specs.Lines.{Parsed, no_call, a_call, kinds, named_in, named, parse, parameters, words_of}
use Rattle.printed.specs.declared.Start.{Start}
use Rattle.printed.specs.Output.{played, call_lines, start_text, following, output_of, output}
use Rattle.printed.specs.Rows.{Asked, asked_first, asked, end_first, end_text, does, Result, results, leaves, requests, result_texts}
use Rattle.printed.specs.Rows.{Row, rows, row_of, sum, of_named, counts, shares, M}
use Rattle.printed.specs.Formula.{PrintsResults, making, SessionInput, PrintsRows, KeepsFormula, PrintedFormula}
use Rattle.printed.proofs.Whole.{Fit, start_fits}
use Rattle.printed.proofs.Rows.{AllSmall, rows-read, end-rows}
use Rattle.printed.proofs.Small.{Room, rooms}

-- ---- the bytes are the texts of the results

module _ (p : Description) where
  calls-printed : (ls : List (List ℕ)) (st : State) → desc st ≡ p → call_lines st ls ≡ result_texts (results st (asked p ls)) ++ end_text p ls
  unfolding call_lines played result_texts results does asked asked_first end_text end_first
  calls-printed [] st e = refl
  calls-printed (l ∷ ls) st e =
      ap (λ (d : Description). (played st (parse d l)).text ++ cond (played st (parse d l)).over [] (call_lines (played st (parse d l)).after ls)) e
      ∙ go (parse p l) (λ c ws. calls-printed ls (perform ws st c).after (same-description ws st c ∙ e))
    where
      go : (x : Parsed)
          → ((c : Call) (ws : List ℕ) → call_lines (perform ws st c).after ls ≡ result_texts (results (perform ws st c).after (asked p ls)) ++ end_text p ls)
          → (played st x).text ++ cond (played st x).over [] (call_lines (played st x).after ls)
          ≡ result_texts (results st (asked_first x (asked p ls))) ++ end_first x (end_text p ls)
      go no_call h = append-nil bad_line
      go (a_call c ws) h =
          ap (λ (t : List ℕ). result_text c (line_of c (perform ws st c)) ++ t) (h c ws)
          ∙ sym (append_assoc (result_text c (line_of c (perform ws st c))) (result_texts (results (perform ws st c).after (asked p ls))) (end_text p ls))

begun-desc : (p : Description) → desc (begun p) ≡ p
unfolding begun
begun-desc p = refl

pub prints-results : PrintsResults
unfolding output output_of start_text following
prints-results input p ls i =
    ap output_of i.lines
    ∙ ap (λ (s : Start). start_text s ++ following s ls) i.good
    ∙ calls-printed p ls (begun p) (begun-desc p)

-- ---- a run of calls is a run of requests

abbrev pub calls_in : List Asked → List Call
calls_in = map λ (a : Asked). a.call

abbrev pub result_by : Asked → Outcome → Result
result_by a o = record { call = a.call; line = line_of a.call o }

abbrev asked_as : State → Asked → Request
asked_as st a = as_request a.numbers st a.call

module _ (st : State) (a : Asked) (cs : List Asked) (n : NoCreate (a.call ∷ calls_in cs)) where
  here : Step a.numbers st a.call (calls_in cs)
  here = step a.numbers st a.call (calls_in cs) n

  does-is : does st a ≡ answer st (asked_as st a)
  unfolding does
  does-is = here.is

pub run-leaves : (cs : List Asked) (st : State) → NoCreate (calls_in cs) → leaves st cs ≡ left st (requests st cs)
unfolding leaves left requests
run-leaves [] st n = refl
run-leaves (a ∷ cs) st n =
    run-leaves cs (does st a).after (here st a cs n).rest ∙ ap (λ (o : Outcome). left o.after (requests (does st a).after cs)) (does-is st a cs n)

run-sum : (value : Row → ℕ) (worth : State → Request → Outcome → ℕ)
    → ((st : State) (a : Asked) (cs : List Call) → NoCreate (a.call ∷ cs) → (o : Outcome) → value (row_of (result_by a o)) ≡ worth st (asked_as st a) o)
    → (cs : List Asked) (st : State) → NoCreate (calls_in cs) → sum value (map row_of (results st cs)) ≡ tally worth st (requests st cs)
unfolding sum tally results requests
run-sum value worth h [] st n = refl
run-sum value worth h (a ∷ cs) st n =
    ap₂ (λ (k m : ℕ). k + m)
    (h st a (calls_in cs) n (does st a) ∙ ap (worth st (asked_as st a)) (does-is st a cs n))
    (run-sum value worth h cs (does st a).after (here st a cs n).rest
    ∙ ap (λ (o : Outcome). tally worth o.after (requests (does st a).after cs)) (does-is st a cs n))

-- the numbers that the formula sums
named-is : (st : State) (ws : List ℕ) (c : Call) (cs : List Call) → NoCreate (c ∷ cs)
    → let q = as_request ws st c in
    (of_named rule.share (named (spelling c)) ≡ rule.share q)
    × ((m : ℕ) → of_named (λ r. rule.of_nsert m r + rule.of_xtend m r) (named (spelling c)) ≡ rule.of_nsert m q + rule.of_xtend m q)
unfolding of_named named named_in kinds spelling bytes same_key asks as_request rule.share rule.of_nsert rule.of_xtend
named-is st ws Create cs n = absurd n
named-is st ws Open cs n = (refl, λ m. refl)
named-is st ws Close cs n = (refl, λ m. refl)
named-is st ws (Seek at) cs n = (refl, λ m. refl)
named-is st ws Adv cs n = (refl, λ m. refl)
named-is st ws (Nsert at) cs n = (refl, λ m. refl)
named-is st ws (Dlete at) cs n = (refl, λ m. refl)
named-is st ws (Updat at) cs n = (refl, λ m. refl)
named-is st ws (Xtend at) cs n = (refl, λ m. refl)

module _ (cs : List Asked) (st : State) (n : NoCreate (calls_in cs)) where
  abbrev printed : List Row
  printed = map row_of (results st cs)

  counts-are : counts printed ≡ rule.all_transfers st (requests st cs)
  unfolding counts rule.all_transfers row_of line_of
  counts-are = run-sum _ _ (λ st a cs n o. refl) cs st n

  shares-are : shares printed ≡ rule.shares st (requests st cs)
  unfolding shares rule.shares row_of
  shares-are = run-sum _ _ (λ st a cs n o. (named-is st a.numbers a.call cs n).0) cs st n

  M-is : M printed ≡ rule.M st (requests st cs)
  unfolding M rule.M rule.accepted_by row_of line_of
  M-is = run-sum _ _ (λ st a cs n o. (named-is st a.numbers a.call cs n).1 (cond (accepted o.number) 1 0)) cs st n

-- each result has room on its line
results-small : (cs : List Asked) (st : State)
    → ((qs : List Request) (q : Request) → Room (answer (left st qs) q)) → NoCreate (calls_in cs) → AllSmall (results st cs)
unfolding results line_of left
results-small [] st h n = tt
results-small (a ∷ cs) st h n =
    let e : answer st (asked_as st a) ≡ does st a = sym (does-is st a cs n) in
    let r : Room (does st a) = subst Room e (h [] (asked_as st a)) in (
      record { number = r.number; count = r.count },
      results-small cs (does st a).after
          (λ qs q. subst (λ (o : Outcome). Room (answer (left o.after qs) q)) e (h (asked_as st a ∷ qs) q))
          (here st a cs n).rest,
    )

-- ---- CREATE and OPEN

-- one name for what the sums over rows are made of
unfoldable adding : ℕ
unfolding counts shares M sum of_named named named_in kinds spelling bytes same_key asks rule.share rule.of_nsert rule.of_xtend
adding = 0

module _ (p : Description) (g : good_params p ≡ true) where
  abbrev pub first : State
  first = lent (begun p).session (create p (zeros (file_size p))).file (zeros p.wpb) (zeros p.wpr)

  abbrev pub opened : State
  opened = leaves (begun p) making

  pub answers : ((create p (zeros (file_size p))).number ≡ done) × ((open_file first (zeros p.n)).outcome.number ≡ done)
  unfolding begun
  answers =
      let z =
      made-opens (begun p).session (zeros (file_size p)) (zeros p.wpb) (zeros p.wpr) (zeros p.n) g
      (length-replicate {A = ℕ} (file_size p) 0) (length-replicate {A = ℕ} p.wpb 0) (length-replicate {A = ℕ} p.n 0) refl in
      (z.0, z.1)

  within : (qs : List Request) → rule.Within opened qs
  unfolding leaves does perform created_outcome answer begun
  within qs = session-formula (begun p).session (zeros (file_size p)) (zeros p.wpb) (zeros p.wpr) (zeros p.n) answers.0 answers.1 qs

  room : (qs : List Request) (q : Request) → Room (answer (left opened qs) q)
  unfolding leaves does perform created_outcome answer begun
  room qs q = rooms first (zeros p.n) answers.1 qs q

  all_small : (cs : List Asked) → NoCreate (calls_in cs) → AllSmall (results (begun p) (making ++ cs))
  unfolding leaves results does perform created_outcome answer begun line_of
  all_small cs n = (
    record { number = omega (arith, answers.0); count = omega arith },
    (record { number = omega (arith, answers.1); count = omega (arith, open_none first (zeros p.n)) }, results-small cs opened room n),
  )

  -- they add nothing to the sums
  made-rows : (cs : List Asked) → let printed = map row_of (results (begun p) (making ++ cs)) in let rest = map row_of (results opened cs) in
      (counts printed ≡ counts rest) × (shares printed ≡ shares rest) × (M printed ≡ M rest)
  unfolding leaves results does perform created_outcome answer begun line_of row_of adding
  made-rows cs = (omega (arith, open_none first (zeros p.n)), omega arith, omega arith)

-- ---- the statements

module _ (input : List ℕ) (p : Description) (ls : List (List ℕ)) (i : SessionInput input p ls) where
  pub good : good_params p ≡ true
  good = subst Fit i.given.good (start_fits (parameters (words_of i.given.first)))

  asked-are : asked p (i.creating ∷ (i.opening ∷ ls)) ≡ making ++ asked p ls
  unfolding asked asked_first
  asked-are =
      ap (λ (x : Parsed). asked_first x (asked_first (parse p i.opening) (asked p ls))) i.creates
      ∙ ap (λ (x : Parsed). asked_first (a_call Create []) (asked_first x (asked p ls))) i.opens

  abbrev end : List ℕ
  end = end_text p (i.creating ∷ (i.opening ∷ ls))

  abbrev whole : List Result
  whole = results (begun p) (making ++ asked p ls)

  rows_are : rows (output input) ≡ map row_of whole
  rows_are =
      ap rows (prints-results input p (i.creating ∷ (i.opening ∷ ls)) i.given
      ∙ ap (λ (cs : List Asked). result_texts (results (begun p) cs) ++ end) asked-are)
      ∙ rows-read whole end (all_small p good (asked p ls) i.others)
      ∙ ap (λ (xs : List Row). map row_of whole ++ xs) (end-rows p (i.creating ∷ (i.opening ∷ ls)))
      ∙ append-nil (map row_of whole)

  abbrev st : State
  st = leaves (begun p) making

  abbrev qs : List Request
  qs = requests st (asked p ls)

  pub st-desc : desc st ≡ p
  unfolding leaves does
  st-desc = same-description [] (does (begun p) (record { call = Create; numbers = [] })).after Open ∙ same-description [] (begun p) Create ∙ begun-desc p

  counted : counts (rows (output input)) ≡ rule.all_transfers st qs
  counted = ap counts rows_are ∙ (made-rows p good (asked p ls)).0 ∙ counts-are (asked p ls) st i.others

  keeps : KeepsFormula p (rows (output input)) (rule.S st qs) (rule.s st qs) (rule.X st qs) (rule.x st qs)
  keeps =
      let w : rule.Within st qs = within p good qs in
      let s : shares (rows (output input)) ≡ rule.shares st qs
      = ap shares rows_are ∙ (made-rows p good (asked p ls)).1 ∙ shares-are (asked p ls) st i.others in
      let m : M (rows (output input)) ≡ rule.M st qs
      = ap M rows_are ∙ (made-rows p good (asked p ls)).2 ∙ M-is (asked p ls) st i.others in
      subst (λ (d : Description). KeepsFormula d (rows (output input)) (rule.S st qs) (rule.s st qs) (rule.X st qs) (rule.x st qs)) st-desc (record {
        splits = rw m w.splits;
        starts = rw m w.starts;
        index-splits = w.index-splits;
        index-starts = w.index-starts;
        transfers = rw (counted, s) w.transfers;
      })

pub prints-rows : PrintsRows
prints-rows = rows_are

pub printed-formula : PrintedFormula
printed-formula input p ls i = (run-leaves (asked p ls) (st input p ls i) i.others, counted input p ls i, keeps input p ls i)
