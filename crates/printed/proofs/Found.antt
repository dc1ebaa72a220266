-- The line of a SEEK: what it prints is what the requests before it left under its key.
use Prim.Native.Nat.{ℕ, suc, ◌+◌}
use native.Mathlib.Omega.{arith}
use mathlib.Core.Logic.{◌⊎◌}
use mathlib.Core.Path.{◌≡◌, refl, sym, ap, ◌∙◌, subst}
use mathlib.Core.Bool.{Bool, true, false, cond, ◌&&◌, ◌||◌}
use mathlib.Core.List.{List, [], ◌∷◌, ◌++◌, map, map-append}
use Rattle.std.proofs.Common.{Option, None, Some}
use lib.Dec.{eqb}
use lib.ListN.{length, drop, length-replicate}
use Rattle.numbers.specs.Numbers.{done, not_found, at_end}
use Rattle.words.specs.Words.{part, put, zeros}
use borrow.Author.Tests.{eqb-true}
use Rattle.words.proofs.All.{and_both}
use Rattle.words.proofs.Parts.{part-all, part-append-low}
use Rattle.drum.specs.declared.Description.{Description}
use Rattle.drum.specs.Params.{good_params, file_size}
use Rattle.layout.specs.Tree.{contents, fresh_tree}
use Rattle.rules.specs.declared.Call.{Call}
use Rattle.rules.specs.declared.Call.TheVariants.{Create, Open, Close, Seek, Adv, Nsert, Dlete, Updat, Xtend}
use Rattle.rules.specs.State.{State, Outcome, desc, key_in}
use Rattle.rules.specs.Run.{begun, created_outcome, perform, key_from, shows, line_of}
use Rattle.rules.specs.Requests.{Request, seeking, answer, left}
use Rattle.demands.specs.Lines.{NoCreate}
use Rattle.demands.specs.History.{events, standing, with_key, handed}
use Rattle.demands.proofs.Made.{made-opens}
use Rattle.demands.proofs.Demands.{found-after-open}
use Rattle.calls.proofs.Described.{same-description}
use Rattle.texts.specs.Texts.{decimal}
use Rattle.lines.specs.Lines.{no_call, a_call, all_numbers, values, named, carries, with_numbers, parsed_words, parse, words_of}
use Rattle.printed.specs.Output.{output}
use Rattle.printed.specs.Rows.{Asked, asked_first, asked, does, Result, results, leaves, requests, rows, row_of}
use Rattle.printed.specs.Formula.{making, SessionInput}
use Rattle.printed.specs.Found.{seek_of, printed_record, Finds, PrintsFound}
use Rattle.printed.proofs.Formula.{calls_in, result_by, run-leaves, first, opened, answers, good, st-desc, prints-rows}

results-append : (xs ys : List Asked) (st : State) → results st (xs ++ ys) ≡ results st xs ++ results (leaves st xs) ys
unfolding results leaves
results-append [] ys st = refl
results-append (a ∷ xs) ys st = ap (λ (rs : List Result). result_by a (does st a) ∷ rs) (results-append xs ys (does st a).after)

leaves-desc : (cs : List Asked) (st : State) → desc (leaves st cs) ≡ desc st
unfolding leaves does
leaves-desc [] st = refl
leaves-desc (a ∷ cs) st = leaves-desc cs (does st a).after ∙ same-description a.numbers st a.call

no-create-before : (cs ds : List Call) → NoCreate (cs ++ ds) → NoCreate cs
no-create-before [] ds n = tt
no-create-before (Create ∷ cs) ds n = n
no-create-before (Open ∷ cs) ds n = no-create-before cs ds n
no-create-before (Close ∷ cs) ds n = no-create-before cs ds n
no-create-before (Seek at ∷ cs) ds n = no-create-before cs ds n
no-create-before (Adv ∷ cs) ds n = no-create-before cs ds n
no-create-before (Nsert at ∷ cs) ds n = no-create-before cs ds n
no-create-before (Dlete at ∷ cs) ds n = no-create-before cs ds n
no-create-before (Updat at ∷ cs) ds n = no-create-before cs ds n
no-create-before (Xtend at ∷ cs) ds n = no-create-before cs ds n

-- a line has as many numbers as its call carries
abbrev AllCarry : Description → List Asked → Type 0
AllCarry p [] = Unit {0}
AllCarry p (a ∷ cs) = (length a.numbers ≡ carries p a.call) × AllCarry p cs

values_length : (ws : List (List ℕ)) → length (values ws) ≡ length ws
unfolding values
values_length [] = refl
values_length (w ∷ ws) = ap suc (values_length ws)

with-carry : (p : Description) (o : Option Call) (ws : List (List ℕ)) (cs : List Asked) → AllCarry p cs → AllCarry p (asked_first (with_numbers p o ws) cs)
unfolding with_numbers asked_first
with-carry p None ws cs h = tt
with-carry p (Some c) ws cs h = go (all_numbers ws && eqb (length ws) (carries p c)) refl
  where
    go : (t : Bool) → (all_numbers ws && eqb (length ws) (carries p c)) ≡ t → AllCarry p (asked_first (cond t (a_call c (values ws)) no_call) cs)
    go true e = (values_length ws ∙ eqb-true (length ws) (carries p c) (and_both (all_numbers ws) (eqb (length ws) (carries p c)) e).1, h)
    go false e = tt

words-carry : (p : Description) (ws : List (List ℕ)) (cs : List Asked) → AllCarry p cs → AllCarry p (asked_first (parsed_words p ws) cs)
unfolding parsed_words asked_first
words-carry p [] cs h = tt
words-carry p (w ∷ ws) cs h = with-carry p (named w) ws cs h

asked-carry : (p : Description) (ls : List (List ℕ)) → AllCarry p (asked p ls)
unfolding asked parse
asked-carry p [] = tt
asked-carry p (l ∷ ls) = words-carry p (words_of l) (asked p ls) (asked-carry p ls)

carries-at : (p : Description) (before : List Asked) (a : Asked) (after : List Asked)
    → AllCarry p (before ++ (a ∷ after)) → length a.numbers ≡ carries p a.call
carries-at p [] a after h = h.0
carries-at p (b ∷ before) a after h = carries-at p before a after h.1

-- the key put in front of a workspace is its key
key-put : (k : ℕ) (key w : List ℕ) → length key ≡ k → part 0 k (put w 0 (part 0 k key)) ≡ key
unfolding put
key-put k key w e =
    let s : part 0 k key ≡ key = part-all k key e in
    ap (λ (x : List ℕ). part 0 k (x ++ drop (0 + length x) w)) s
    ∙ part-append-low 0 k key (drop (0 + length key) w) (omega arith)
    ∙ s

-- what a SEEK's row prints is what it hands out
printed-handed : (o : Outcome) → printed_record (row_of (record { call = Seek 0; line = line_of (Seek 0) o })) ≡ map (map decimal) (handed o)
unfolding printed_record row_of line_of handed shows
printed-handed o = go (eqb o.number done) (eqb o.number at_end)
  where
    go : (s t : Bool) → cond s (map decimal (cond (s || t) o.after.work []) ∷ []) [] ≡ map (map decimal) (cond s (o.after.work ∷ []) [])
    go true t = refl
    go false t = refl

module _ (p : Description) (g : good_params p ≡ true) where
  -- a SEEK of the new file after any requests
  found-new : (qs : List Request) (w : List ℕ)
      → let o = answer (left (opened p g) qs) (seeking w) in
      (o.number ≡ done) ⊎ (o.number ≡ not_found)
      → handed o ≡ standing p (key_in p w) (events (opened p g) qs) (with_key p (key_in p w) (contents (fresh_tree p)))
  unfolding leaves does perform created_outcome answer begun
  found-new qs w h =
      let z =
      made-opens (begun p).session (zeros (file_size p)) (zeros p.wpb) (zeros p.wpr) (zeros p.n) g
      (length-replicate {A = ℕ} (file_size p) 0) (length-replicate {A = ℕ} p.wpb 0) (length-replicate {A = ℕ} p.n 0) refl in
      found-after-open (first p g) (zeros p.n) (answers p g).1 (fresh_tree p) z.3 qs w h

module _ (input : List ℕ) (p : Description) (ls : List (List ℕ)) (i : SessionInput input p ls) (before after : List Asked) (key : List ℕ)
    (e : asked p ls ≡ before ++ (seek_of key ∷ after)) where
  abbrev st : State
  st = leaves (begun p) making

  abbrev qs : List Request
  qs = requests st before

  abbrev now : State
  now = leaves st before

  abbrev w : List ℕ
  w = key_from key now 0

  now-left : now ≡ left st qs
  now-left =
      let n : NoCreate (calls_in (before ++ (seek_of key ∷ after))) = subst (λ (cs : List Asked). NoCreate (calls_in cs)) e i.others in
      let m : NoCreate (calls_in before ++ calls_in (seek_of key ∷ after)) = subst NoCreate (map-append (λ (a : Asked). a.call) before (seek_of key ∷ after)) n in
      run-leaves before st (no-create-before (calls_in before) (calls_in (seek_of key ∷ after)) m)

  key-long : length key ≡ p.k
  unfolding carries
  key-long = carries-at p before (seek_of key) after (subst (AllCarry p) e (asked-carry p ls))

  key-is : key_in p w ≡ key
  unfolding key_from
  key-is =
      ap (λ (d : Description). part 0 p.k (put now.work 0 (part 0 d.k key))) (leaves-desc before st ∙ st-desc input p ls i)
      ∙ key-put p.k key now.work key-long

  -- what a SEEK with the workspace w hands out of a state
  abbrev Handed : State → Type 0
  Handed s =
      let o = answer s (seeking w) in
      (o.number ≡ done) ⊎ (o.number ≡ not_found) → handed o ≡ standing p (key_in p w) (events st qs) (with_key p (key_in p w) (contents (fresh_tree p)))

  sought : Handed now
  sought = subst Handed (sym now-left) (found-new p (good input p ls i) qs w)

  finds : Finds p (rows (output input)) before key
  unfolding results leaves does perform row_of line_of
  finds = record {
    row = row_of (result_by (seek_of key) (does now (seek_of key)));
    behind = map row_of (results (does now (seek_of key)).after after);
    place =
        prints-rows input p ls i
        ∙ ap (λ (cs : List Asked). map row_of (results (begun p) (making ++ cs))) e
        ∙ ap (map row_of) (results-append (making ++ before) (seek_of key ∷ after) (begun p))
        ∙ map-append row_of (results (begun p) (making ++ before)) (results now (seek_of key ∷ after));
    found = λ h.
        printed-handed (does now (seek_of key))
        ∙ ap (map (map decimal)) (sought h)
        ∙ ap (λ (k : List ℕ). map (map decimal) (standing p k (events st qs) (with_key p k (contents (fresh_tree p))))) key-is;
  }

pub prints-found : PrintsFound
prints-found = finds
