-- Carried or reported, never both.
use mathlib.Core.Path.{◌≡◌, refl, sym, ap, ◌∙◌, subst}
use mathlib.Core.Bool.{Bool, true, false, cond, ◌&&◌}
use mathlib.Core.List.{List, [], ◌∷◌, ◌++◌}
use Prim.Native.Nat.{ℕ, zero, suc, ◌+◌, ◌≤◌, ◌<◌}
use native.Mathlib.Omega.{arith}
use native.Mathlib.Decide.{ℕ_discrete}
use borrow.Author.Tests.{eq-eqb}
use lib.Dec.{eqb}
use lib.ListN.{length}
use Rattle.numbers.specs.Numbers.{accepted}
use Rattle.words.specs.Keys.{is_ones}
use Rattle.drum.specs.declared.Description.{Description}
use Rattle.drum.specs.Blocks.{block_at}
use Rattle.layout.specs.Holds.{All}
use Rattle.rules.specs.State.{State, key_in}
use Rattle.rules.specs.Requests.{inserting, answer, left}
use Rattle.salvage.specs.Met.{Met, over, found, records_in, missed, places, met_in, met_from, met}
use Rattle.salvage.specs.Salvage.{why_not}
use Rattle.salvaged.specs.Spots.{Spot, spots, spots_of, inserts, started, tried_after, carried_of}
use Rattle.salvaged.specs.Reported.{Line, lines_by, lines_of, lines_at, passed_over, CarriedOrReported}
use Rattle.salvaged.proofs.Once.{block_of, place_of, here, Away, Asc, Within, From, all_map, other_block, other_place}
use Rattle.salvaged.proofs.Once.{asc-away, places-in, in_block, blocks_from, walk-asc}

-- ---- the lines at a block and place

at-append : (b i : ℕ) (ks ls : List Line) → lines_at b i (ks ++ ls) ≡ lines_at b i ks ++ lines_at b i ls
unfolding lines_at
at-append b i [] ls = refl
at-append b i (k ∷ ks) ls = go (eqb k.block b && eqb k.place i) (at-append b i ks ls)
  where
    go : (c : Bool) → lines_at b i (ks ++ ls) ≡ lines_at b i ks ++ lines_at b i ls
        → cond c (k ∷ lines_at b i (ks ++ ls)) (lines_at b i (ks ++ ls)) ≡ cond c (k ∷ lines_at b i ks) (lines_at b i ks) ++ lines_at b i ls
    go true e = ap (λ (l : List Line). k ∷ l) e
    go false e = e

-- the lines of one that is met, and the state it leaves
own : Description → State → Met → List Line
own p st (over b m) = record { block = b; place = 0; reason = m } ∷ []
own p st (found b i r) =
    let o = answer st (inserting r) in
    cond (is_ones (key_in p r)) [] (cond (accepted o.number) [] (record { block = b; place = i; reason = why_not o.number } ∷ []))

next : Description → State → Met → State
next p st (over b m) = st
next p st (found b i r) = cond (is_ones (key_in p r)) st (answer st (inserting r)).after

lines_cons : (p : Description) (st : State) (m : Met) (ms : List Met) → lines_by p st (m ∷ ms) ≡ own p st m ++ lines_by p (next p st m) ms
unfolding lines_by own next
lines_cons p st (over b m) ms = refl
lines_cons p st (found b i r) ms = go (is_ones (key_in p r))
  where
    by : (c : Bool) (l : Line) (ls : List Line) → cond c ls (l ∷ ls) ≡ cond c [] (l ∷ []) ++ ls
    by true l ls = refl
    by false l ls = refl

    go : (c : Bool) → let o = answer st (inserting r) in
        let l : Line = record { block = b; place = i; reason = why_not o.number } in
        cond c (lines_by p st ms) (cond (accepted o.number) (lines_by p o.after ms) (l ∷ lines_by p o.after ms))
        ≡ cond c [] (cond (accepted o.number) [] (l ∷ [])) ++ lines_by p (cond c st o.after) ms
    go true = refl
    go false = by (accepted (answer st (inserting r)).number) _ (lines_by p (answer st (inserting r)).after ms)

next-spots : (p : Description) (st : State) (m : Met) (ms : List Met) → left (next p st m) (inserts (spots p ms)) ≡ left st (inserts (spots p (m ∷ ms)))
unfolding next spots left
next-spots p st (over b m) ms = refl
next-spots p st (found b i r) ms = go (is_ones (key_in p r))
  where
    go : (c : Bool) → left (cond c st (answer st (inserting r)).after) (inserts (spots p ms))
        ≡ left st (inserts (cond c (spots p ms) (record { block = b; place = i; row = r } ∷ spots p ms)))
    go true = refl
    go false = refl

lines_more : (p : Description) (ms ns : List Met) (st : State) → lines_by p st (ms ++ ns) ≡ lines_by p st ms ++ lines_by p (left st (inserts (spots p ms))) ns
lines_more p [] ns st = unfold lines_by spots left in refl
lines_more p (m ∷ ms) ns st =
    lines_cons p st m (ms ++ ns)
    ∙ ap (λ (l : List Line). own p st m ++ l) (lines_more p ms ns (next p st m))
    ∙ ap (λ (u : State). own p st m ++ (lines_by p (next p st m) ms ++ lines_by p u ns)) (next-spots p st m ms)
    ∙ assoc (own p st m) (lines_by p (next p st m) ms) (lines_by p (left st (inserts (spots p (m ∷ ms)))) ns)
    ∙ ap (λ (l : List Line). l ++ lines_by p (left st (inserts (spots p (m ∷ ms)))) ns) (sym (lines_cons p st m ms))
  where
    assoc : (a b c : List Line) → a ++ (b ++ c) ≡ (a ++ b) ++ c
    assoc [] b c = refl
    assoc (x ∷ a) b c = ap (λ (l : List Line). x ∷ l) (assoc a b c)

own-away : (p : Description) (st : State) (b i : ℕ) (m : Met) → here b i m ≡ false → lines_at b i (own p st m) ≡ []
unfolding own lines_at
own-away p st b i (over c m) h = ap (λ (t : Bool). cond t (record { block = c; place = 0; reason = m } ∷ []) []) h
own-away p st b i (found c j r) h = go (is_ones (key_in p r)) (accepted (answer st (inserting r)).number)
  where
    go : (t a : Bool) → let l : Line = record { block = c; place = j; reason = why_not (answer st (inserting r)).number } in
        lines_at b i (cond t [] (cond a [] (l ∷ []))) ≡ []
    go true a = refl
    go false true = refl
    go false false = ap (λ (t : Bool). cond t (record { block = c; place = j; reason = why_not (answer st (inserting r)).number } ∷ []) []) h

away-lines : (p : Description) (b i : ℕ) (ms : List Met) (st : State) → Away b i ms → lines_at b i (lines_by p st ms) ≡ []
unfolding All
away-lines p b i [] st a = unfold lines_by lines_at in refl
away-lines p b i (m ∷ ms) st a =
    ap (lines_at b i) (lines_cons p st m ms) ∙ at-append b i (own p st m) (lines_by p (next p st m) ms)
    ∙ λ j. own-away p st b i m a.0 j ++ away-lines p b i ms (next p st m) a.1 j

none-behind : (l : List Line) → l ++ [] ≡ l
none-behind [] = refl
none-behind (x ∷ l) = ap (λ (k : List Line). x ∷ k) (none-behind l)

-- ---- one that is met, among others that are not there

at_own : (p : Description) (ks bs : List Met) (m : Met) (st : State) → Away (block_of m) (place_of m) ks → Away (block_of m) (place_of m) bs
    → lines_at (block_of m) (place_of m) (lines_by p st (ks ++ m ∷ bs)) ≡ lines_at (block_of m) (place_of m) (own p (left st (inserts (spots p ks))) m)
at_own p ks bs m st low high =
    let b = block_of m in
    let i = place_of m in
    let u = left st (inserts (spots p ks)) in
    ap (lines_at b i) (lines_more p ks (m ∷ bs) st ∙ ap (λ (l : List Line). lines_by p st ks ++ l) (lines_cons p u m bs))
    ∙ at-append b i (lines_by p st ks) (own p u m ++ lines_by p (next p u m) bs)
    ∙ ap (λ (l : List Line). lines_at b i (lines_by p st ks) ++ l) (at-append b i (own p u m) (lines_by p (next p u m) bs))
    ∙ (λ j. away-lines p b i ks st low j ++ (lines_at b i (own p u m) ++ away-lines p b i bs (next p u m) high j))
    ∙ none-behind (lines_at b i (own p u m))

-- where the spots are split, what is met is
record Split (p : Description) (ms : List Met) (xs : List Spot) (s : Spot) : Type 0 where
  before : List Met
  behind : List Met
  is : ms ≡ before ++ found s.block s.place s.row ∷ behind
  spots-are : spots p before ≡ xs
  ordinary : is_ones (key_in p s.row) ≡ false

abbrev head_of : (s : Spot) → List Spot → Spot
head_of s [] = s
head_of s (x ∷ xs) = x

abbrev tail_of : List Spot → List Spot
tail_of [] = []
tail_of (x ∷ xs) = xs

none-split : (xs ys : List Spot) (s : Spot) → [] ≡ xs ++ s ∷ ys → ⊥
none-split [] ys s e = let n : 0 ≡ length (s ∷ ys) = ap length e in omega arith
none-split (x ∷ xs) ys s e = let n : 0 ≡ length (x ∷ (xs ++ s ∷ ys)) = ap length e in omega arith

module _ (p : Description) (b i : ℕ) (r : List ℕ) (ms : List Met) (s : Spot) (ys : List Spot) where
  abbrev spot : Spot
  spot = record { block = b; place = i; row = r }

  found-split : (c : Bool) → is_ones (key_in p r) ≡ c → ((xs : List Spot) → spots p ms ≡ xs ++ s ∷ ys → Split p ms xs s)
      → (xs : List Spot) → cond c (spots p ms) (spot ∷ spots p ms) ≡ xs ++ s ∷ ys → Split p (found b i r ∷ ms) xs s
  unfolding spots
  found-split true h rest xs e =
      let k = rest xs e in
      record {
        before = found b i r ∷ k.before;
        behind = k.behind;
        is = ap (λ (l : List Met). found b i r ∷ l) k.is;
        spots-are = ap (λ (c : Bool). cond c (spots p k.before) (spot ∷ spots p k.before)) h ∙ k.spots-are;
        ordinary = k.ordinary;
      }
  found-split false h rest [] e =
      let same : spot ≡ s = ap (head_of s) e in
      record {
        before = [];
        behind = ms;
        is = ap (λ (z : Spot). found z.block z.place z.row ∷ ms) same;
        spots-are = refl;
        ordinary = ap (λ (z : Spot). is_ones (key_in p z.row)) (sym same) ∙ h;
      }
  found-split false h rest (x ∷ xs) e =
      let same : spot ≡ x = ap (head_of s) e in
      let k = rest xs (ap tail_of e) in
      record {
        before = found b i r ∷ k.before;
        behind = k.behind;
        is = ap (λ (l : List Met). found b i r ∷ l) k.is;
        spots-are = ap (λ (c : Bool). cond c (spots p k.before) (spot ∷ spots p k.before)) h ∙ λ j. same j ∷ k.spots-are j;
        ordinary = k.ordinary;
      }

split : (p : Description) (ms : List Met) (xs ys : List Spot) (s : Spot) → spots p ms ≡ xs ++ s ∷ ys → Split p ms xs s
unfolding spots
split p [] xs ys s e = absurd (none-split xs ys s e)
split p (over b m ∷ ms) xs ys s e =
    let k = split p ms xs ys s e in
    record { before = over b m ∷ k.before; behind = k.behind; is = ap (λ (l : List Met). over b m ∷ l) k.is; spots-are = k.spots-are; ordinary = k.ordinary }
split p (found b i r ∷ ms) xs ys s e = found-split p b i r ms s ys (is_ones (key_in p r)) refl (λ zs q. split p ms zs ys s q) xs e

-- the line of a record that is tried there
own-tried : (p : Description) (st : State) (b i : ℕ) (r : List ℕ) → is_ones (key_in p r) ≡ false
    → let n = (answer st (inserting r)).number in
    lines_at b i (own p st (found b i r)) ≡ cond (accepted n) [] (record { block = b; place = i; reason = why_not n } ∷ [])
unfolding own lines_at
own-tried p st b i r h =
    ap (λ (c : Bool). lines_at b i (cond c [] (cond (accepted (answer st (inserting r)).number) [] (line ∷ [])))) h ∙ go (accepted (answer st (inserting r)).number)
  where
    line : Line
    line = record { block = b; place = i; reason = why_not (answer st (inserting r)).number }

    go : (c : Bool) → lines_at b i (cond c [] (line ∷ [])) ≡ cond c [] (line ∷ [])
    go true = refl
    go false = λ j. cond (eq-eqb b b refl j && eq-eqb i i refl j) (line ∷ []) []

records-at : (p : Description) (copy buffer : List ℕ) (xs ys : List Spot) (s : Spot) → spots_of p copy ≡ xs ++ s ∷ ys
    → let n = (tried_after (started p buffer) xs s).number in
    lines_at s.block s.place (lines_of p copy buffer)
    ≡ cond (accepted n) [] (record { block = s.block; place = s.place; reason = why_not n } ∷ [])
unfolding tried_after
records-at p copy buffer xs ys s e =
    let k = split p (met p copy) xs ys s e in
    let m = found s.block s.place s.row in
    let st = started p buffer in
    let (low, high) = asc-away k.before m k.behind (subst Asc k.is (walk-asc p copy p.n 1)) in
    ap (λ (ms : List Met). lines_at s.block s.place (lines_by p st ms)) k.is
    ∙ at_own p k.before k.behind m st low high
    ∙ ap (λ (zs : List Spot). lines_at s.block s.place (own p (left st (inserts zs)) m)) k.spots-are
    ∙ own-tried p (left st (inserts xs)) s.block s.place s.row k.ordinary

-- ---- the line of a block

module _ (p : Description) (copy : List ℕ) (b : ℕ) where
  abbrev text : List ℕ
  text = block_at p copy b

  abbrev passed-line : List Line
  passed-line = cond (eqb (missed p text) 0) [] (record { block = b; place = 0; reason = missed p text } ∷ [])

  its-line : (st : State) → lines_at b 0 (lines_by p st (met_in p b text)) ≡ passed-line
  unfolding met_in
  its-line st = go (eqb (missed p text) 0)
    where
      over-at : (m : ℕ) → lines_at b 0 (lines_by p st (over b m ∷ [])) ≡ record { block = b; place = 0; reason = m } ∷ []
      over-at m = unfold lines_by lines_at in λ j. cond (eq-eqb b b refl j && true) (record { block = b; place = 0; reason = m } ∷ []) []

      go : (c : Bool) → lines_at b 0 (lines_by p st (cond c (places b 1 (records_in p text)) (over b (missed p text) ∷ [])))
          ≡ cond c [] (record { block = b; place = 0; reason = missed p text } ∷ [])
      go true =
          away-lines p b 0 (places b 1 (records_in p text)) st
          (all_map _ (λ (m : Met). here b 0 m ≡ false) (λ m h. other_place b 0 m (λ e. omega (arith, h.1))) (places b 1 (records_in p text)) (places-in b 1 (records_in p text)))
      go false = over-at (missed p text)

  behind-away : (n c : ℕ) → b < c → Away b 0 (met_from p copy c n)
  behind-away n c l = all_map (From c) (λ (m : Met). here b 0 m ≡ false) (λ m h. other_block b 0 m (λ e. omega arith)) (met_from p copy c n) (blocks_from p copy n c)

  both-lines : (ms ns : List Met) (st : State)
      → lines_at b 0 (lines_by p st (ms ++ ns)) ≡ lines_at b 0 (lines_by p st ms) ++ lines_at b 0 (lines_by p (left st (inserts (spots p ms))) ns)
  both-lines ms ns st =
      ap (lines_at b 0) (lines_more p ms ns st) ∙ at-append b 0 (lines_by p st ms) (lines_by p (left st (inserts (spots p ms))) ns)

  blocks_at : (n c : ℕ) (st : State) → c ≤ b → b < c + n → lines_at b 0 (lines_by p st (met_from p copy c n)) ≡ passed-line
  unfolding met_from
  blocks_at zero c st l h = absurd (omega arith)
  blocks_at (suc n) c st l h =
      go (ℕ_discrete c b) (λ u k. blocks_at n (c + 1) u k (omega arith))
    where
      go : Dec (c ≡ b) → ((u : State) → c + 1 ≤ b → lines_at b 0 (lines_by p u (met_from p copy (c + 1) n)) ≡ passed-line)
          → lines_at b 0 (lines_by p st (met_in p c (block_at p copy c) ++ met_from p copy (c + 1) n)) ≡ passed-line
      go (yes e) rest =
          both-lines (met_in p c (block_at p copy c)) (met_from p copy (c + 1) n) st
          ∙ (λ j. lines_at b 0 (lines_by p st (met_in p (e j) (block_at p copy (e j))))
          ++ away-lines p b 0 (met_from p copy (c + 1) n) (left st (inserts (spots p (met_in p c (block_at p copy c))))) (behind-away n (c + 1) (omega arith)) j)
          ∙ none-behind (lines_at b 0 (lines_by p st (met_in p b text)))
          ∙ its-line st
      go (no ne) rest =
          both-lines (met_in p c (block_at p copy c)) (met_from p copy (c + 1) n) st
          ∙ (λ j. away-lines p b 0 (met_in p c (block_at p copy c)) st
          (all_map (Within c) (λ (m : Met). here b 0 m ≡ false) (λ m e. other_block b 0 m (λ q. ne (sym e ∙ q))) (met_in p c (block_at p copy c)) (in_block p c (block_at p copy c))) j
          ++ rest (left st (inserts (spots p (met_in p c (block_at p copy c))))) (omega arith) j)

-- ---- how many lines there are

counted : (p : Description) (ms : List Met) (st : State)
    → length (lines_by p st ms) + length (carried_of st (spots p ms)) ≡ length (spots p ms) + passed_over ms
unfolding lines_by carried_of spots passed_over
counted p [] st = refl
counted p (over b m ∷ ms) st = let e = counted p ms st in omega arith
counted p (found b i r ∷ ms) st = go (is_ones (key_in p r)) (accepted (answer st (inserting r)).number) refl (counted p ms st) (counted p ms (answer st (inserting r)).after)
  where
    tried : (a : Bool) → length (lines_by p (answer st (inserting r)).after ms) + length (carried_of (answer st (inserting r)).after (spots p ms)) ≡ length (spots p ms) + passed_over ms
        → length (cond a (lines_by p (answer st (inserting r)).after ms) (record { block = b; place = i; reason = why_not (answer st (inserting r)).number } ∷ lines_by p (answer st (inserting r)).after ms))
        + length (cond a (record { block = b; place = i; row = r } ∷ carried_of (answer st (inserting r)).after (spots p ms)) (carried_of (answer st (inserting r)).after (spots p ms)))
        ≡ length (record { block = b; place = i; row = r } ∷ spots p ms) + passed_over ms
    tried true e = omega arith
    tried false e = omega arith

    go : (c a : Bool) → accepted (answer st (inserting r)).number ≡ a
        → length (lines_by p st ms) + length (carried_of st (spots p ms)) ≡ length (spots p ms) + passed_over ms
        → length (lines_by p (answer st (inserting r)).after ms) + length (carried_of (answer st (inserting r)).after (spots p ms)) ≡ length (spots p ms) + passed_over ms
        → let l = cond c (lines_by p st ms) (cond (accepted (answer st (inserting r)).number) (lines_by p (answer st (inserting r)).after ms)
        (record { block = b; place = i; reason = why_not (answer st (inserting r)).number } ∷ lines_by p (answer st (inserting r)).after ms)) in
        let s = cond c (spots p ms) (record { block = b; place = i; row = r } ∷ spots p ms) in
        length l + length (carried_of st s) ≡ length s + passed_over ms
    go true a h e f = e
    go false a h e f = tried (accepted (answer st (inserting r)).number) f

pub carried-or-reported : CarriedOrReported
carried-or-reported p copy buffer = record {
  records = records-at p copy buffer;
  blocks = λ b h. blocks_at p copy b p.n 1 (started p buffer) h.0 (omega (arith, h.1));
  count = counted p (met p copy) (started p buffer);
}
