-- The whole program, line by line: what the functions promise of what was kept of a line is what Output.antt says of the line. So the
-- promises, one after the other over all lines, are Output.antt's `output`.
use Prim.Native.Nat.{ℕ, ◌*◌, ◌≤◌}
use native.Mathlib.Nat.{mul-le-mul_right}
use native.Mathlib.Omega.{arith}
use mathlib.Core.Path.{◌≡◌, refl, sym, ap, subst, ◌∙◌}
use mathlib.Core.Bool.{Bool, true, false, cond}
use mathlib.Core.List.{List, [], ◌∷◌, ◌++◌}
use Rattle.std.proofs.Common.{Option, None, Some}
use lib.Dec.{ltb}
use lib.ListN.{length}
use Rattle.words.specs.Words.{part}
use Rattle.drum.specs.declared.Description.{Description}
use Rattle.drum.specs.Params.{D, good_params, file_size}
use Rattle.drum.proofs.Good.{caps}
use Rattle.rules.specs.State.{State, desc}
use Rattle.rules.specs.Run.{begun}
use Rattle.calls.proofs.Described.{same-description}
use Rattle.lines.specs.Lines.{Parsed, no_call, a_call, pieces, filled, words_of, all_numbers, lines_of, named, parse, first_named, parameters}
use Rattle.lines.specs.Reading.{Read, unread, read_line, spelled_name, call_of, parsed_as, parameters_in}
use Rattle.lines.specs.Promise.{read}
use Rattle.lines.proofs.Kept.{line-keeps}
use Rattle.lines.proofs.Lines.{line-call, line-name, line-parameters}
use Rattle.printed.specs.declared.Start.{Start}
use Rattle.printed.specs.declared.Start.TheVariants.{BadLine, OutOfRange, TooLarge, Good}
use Rattle.printed.specs.Output.{most_words, start_with, start_of, Played, played, call_lines, refusal, Refused, refused_lines, start_text, following, output_of, output}

-- what is kept of a line that was read whole, with the bytes and numbers that are lent for it
abbrev pub kept : List ℕ → List ℕ → List ℕ → Read
kept name numbers l = read_line (read unread name numbers) l

-- what `start_of`, `refuse_line` and `call_line` promise of what was kept
abbrev pub starts : Read → Start
starts k = start_of (parameters_in k.reading k.numbers)

abbrev pub refuses : Read → Refused
refuses k = refusal (named (part 0 k.reading.spelled k.name))

abbrev pub plays : State → Read → Played
plays st k = played st (parsed_as (desc st) (call_of (desc st) k.reading k.name) k.numbers)

-- that is what the line itself asks for
module _ (name numbers l : List ℕ) where
  pub first-line : 6 ≤ length numbers → starts (kept name numbers l) ≡ start_of (parameters (words_of l))
  first-line h = ap start_of (sym (line-parameters name numbers h l))

  pub refused-line : 7 ≤ length name → refuses (kept name numbers l) ≡ refusal (first_named (words_of l))
  unfolding spelled_name
  refused-line h = ap refusal (sym (line-name name numbers h l))

  pub call_line : (st : State) → 7 ≤ length name → (desc st).k ≤ length numbers → (desc st).wpr ≤ length numbers
      → plays st (kept name numbers l) ≡ played st (parse (desc st) l)
  call_line st h k r = ap (played st) (sym (line-call (desc st) name numbers h k r l))

-- lines one after the other, the bytes and numbers kept of one lent for the next
unfoldable pub plays_lines : List ℕ → List ℕ → State → List (List ℕ) → List ℕ
plays_lines name numbers st [] = []
plays_lines name numbers st (l ∷ ls) =
    let k = kept name numbers l in
    let o = plays st k in o.text ++ cond o.over [] (plays_lines k.name k.numbers o.after ls)

unfoldable pub refuses_lines : List ℕ → List ℕ → List (List ℕ) → List ℕ
refuses_lines name numbers [] = []
refuses_lines name numbers (l ∷ ls) =
    let k = kept name numbers l in
    let o = refuses k in o.text ++ cond o.over [] (refuses_lines k.name k.numbers ls)

pub refused-lines : (name numbers : List ℕ) → 7 ≤ length name → (ls : List (List ℕ)) → refuses_lines name numbers ls ≡ refused_lines ls
unfolding refuses_lines refused_lines
refused-lines name numbers h [] = refl
refused-lines name numbers h (l ∷ ls) =
    let k = kept name numbers l in
    let m = (line-keeps (read unread name numbers) l).names in
    let rest = refused-lines k.name k.numbers (omega arith) ls in
    (λ j. let o = refused-line name numbers l h j in o.text ++ cond o.over [] (rest j))

played-description : (st : State) (x : Parsed) → desc (played st x).after ≡ desc st
unfolding played
played-description st no_call = refl
played-description st (a_call c ws) = same-description ws st c

-- the bytes lent for a name, and the numbers, have room for a line of the description p
abbrev Rooms : Description → List ℕ → List ℕ → Type 0
Rooms p name numbers = (7 ≤ length name) × (p.k ≤ length numbers) × (p.wpr ≤ length numbers)

pub call-lines : (name numbers : List ℕ) (st : State) → Rooms (desc st) name numbers → (ls : List (List ℕ)) → plays_lines name numbers st ls ≡ call_lines st ls
unfolding plays_lines call_lines
call-lines name numbers st h [] = refl
call-lines name numbers st h (l ∷ ls) =
    let k = kept name numbers l in
    let s = line-keeps (read unread name numbers) l in
    let e = call_line name numbers l st h.0 h.1 h.2 in
    let here : Rooms (desc st) k.name k.numbers = (omega (arith, s.names), omega (arith, s.values), omega (arith, s.values)) in
    let next : Rooms (desc (played st (parse (desc st) l)).after) k.name k.numbers
    = subst (λ (p : Description). Rooms p k.name k.numbers) (sym (played-description st (parse (desc st) l))) here in
    (λ j. let o = e j in o.text ++ cond o.over [] (plays_lines k.name k.numbers o.after ls))
    ∙ ap (λ (t : List ℕ). (played st (parse (desc st) l)).text ++ cond (played st (parse (desc st) l)).over [] t) (call-lines k.name k.numbers (played st (parse (desc st) l)).after next ls)

-- a start that is good has good parameters, for which 2,048 numbers are room enough
abbrev pub Fit : Start → Type 0
Fit BadLine = Unit {0}
Fit OutOfRange = Unit {0}
Fit TooLarge = Unit {0}
Fit (Good p) = good_params p ≡ true

pub start_fits : (o : Option Description) → Fit (start_of o)
unfolding start_of start_with
start_fits None = tt
start_fits (Some p) = go (good_params p) refl (ltb most_words (file_size p))
  where
    go : (x : Bool) → good_params p ≡ x → (y : Bool) → Fit (cond x (cond y TooLarge (Good p)) OutOfRange)
    go true e true = tt
    go true e false = e
    go false e y = tt

good-rooms : (p : Description) (name numbers : List ℕ) → 7 ≤ length name → 2048 ≤ length numbers → good_params p ≡ true → Rooms p name numbers
good-rooms p name numbers h r e =
    let c = caps p e in
    let g = c.facts in
    let two : 2 * p.wpr ≤ D p * p.wpr = mul-le-mul_right p.wpr g.two_records in
    (h, omega arith, omega arith)

-- all lines; with no line at all what is kept is that of an empty one
unfoldable pub goes_on : List ℕ → List ℕ → Start → List (List ℕ) → List ℕ
goes_on name numbers BadLine ls = []
goes_on name numbers TooLarge ls = []
goes_on name numbers OutOfRange ls = refuses_lines name numbers ls
goes_on name numbers (Good p) ls = plays_lines name numbers (begun p) ls

unfoldable pub writes_of : List ℕ → List ℕ → List (List ℕ) → List ℕ
writes_of name numbers [] = start_text (starts (kept name numbers []))
writes_of name numbers (l ∷ ls) = let k = kept name numbers l in start_text (starts k) ++ goes_on k.name k.numbers (starts k) ls

following-lines : (name numbers : List ℕ) → 7 ≤ length name → 2048 ≤ length numbers → (s : Start) → Fit s → (ls : List (List ℕ)) → goes_on name numbers s ls ≡ following s ls
unfolding goes_on following begun
following-lines name numbers h r BadLine f ls = refl
following-lines name numbers h r TooLarge f ls = refl
following-lines name numbers h r OutOfRange f ls = refused-lines name numbers h ls
following-lines name numbers h r (Good p) f ls = call-lines name numbers (begun p) (good-rooms p name numbers h r f) ls

no_line : start_text (start_of (parameters (words_of []))) ≡ output_of []
unfolding start_text start_of parameters all_numbers words_of filled pieces output_of
no_line = refl

whole-lines : (name numbers : List ℕ) → 7 ≤ length name → 2048 ≤ length numbers → (ls : List (List ℕ)) → writes_of name numbers ls ≡ output_of ls
unfolding writes_of output_of
whole-lines name numbers h r [] = ap start_text (first-line name numbers [] (omega arith)) ∙ no_line
whole-lines name numbers h r (l ∷ ls) =
    let k = kept name numbers l in
    let s = line-keeps (read unread name numbers) l in
    let e = first-line name numbers l (omega arith) in
    (λ j. start_text (e j) ++ goes_on k.name k.numbers (e j) ls)
    ∙ ap (λ (t : List ℕ). start_text (start_of (parameters (words_of l))) ++ t)
    (following-lines k.name k.numbers (omega (arith, s.names)) (omega (arith, s.values)) (start_of (parameters (words_of l))) (start_fits (parameters (words_of l))) ls)

-- the program writes `output` of what it reads
pub whole : (name numbers : List ℕ) → 7 ≤ length name → 2048 ≤ length numbers → (input : List ℕ) → writes_of name numbers (lines_of input) ≡ output input
unfolding output
whole name numbers h r input = whole-lines name numbers h r (lines_of input)
