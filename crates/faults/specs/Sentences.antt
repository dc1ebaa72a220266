-- The sentences that say what is wrong with a line, as bytes.
use Rattle.std.specs.Prelude.{ℕ, cond, ◌&&◌, List, [], ◌∷◌, ◌++◌, leb, eqb, Option, None, Some}
use Rattle.rules.specs.declared.Call.{Call}
use Rattle.texts.specs.Texts.{bytes, decimal}
use Rattle.texts.specs.Results.{spelling}
use Rattle.faults.specs.declared.Fault.{Fault}
use Rattle.faults.specs.declared.Fault.TheVariants as faults
use Rattle.faults.specs.declared.Parameter.{Parameter}
use Rattle.faults.specs.declared.Parameter.TheVariants.{Wpb, Wpr, K, Space, Control, N}

-- a byte that can be shown, and a question mark for any other
unfoldable pub visible : ℕ → ℕ
visible b = cond (leb 33 b && leb b 126) b 63

-- a word's bytes, each as it is shown
unfoldable pub visibles : List ℕ → List ℕ
visibles [] = []
visibles (b ∷ w) = visible b ∷ visibles w

-- a number between two texts, after a space
unfoldable pub figure : List ℕ → ℕ → List ℕ → List ℕ
figure before n after = before ++ ((32 ∷ decimal n) ++ after)

-- the call that may be meant, behind a semicolon
unfoldable pub suggestion : Option Call → List ℕ
suggestion None = []
suggestion (Some c) = bytes "; " ++ (spelling c ++ bytes "?")

-- of a first word that names no call [O6]
unfoldable pub no_call_text : List ℕ → Option Call → List ℕ
no_call_text word near = visibles word ++ (bytes " is no call" ++ suggestion near)

-- how many numbers a call takes [O4]
unfoldable pub takes_text : ℕ → List ℕ
takes_text takes = cond (eqb takes 1) (bytes " takes 1 number,") (figure (bytes " takes") takes (bytes " numbers,"))

-- "the key or record that kind carries": so many numbers are taken, and so many given [O4]
unfoldable pub count_text : Call → ℕ → ℕ → List ℕ
count_text c takes given = spelling c ++ (takes_text takes ++ figure (bytes "") given (bytes " given"))

-- a parameter by the name that document 01 gives it, and its value; WPB is "even" [O7]
unfoldable pub is_text : Parameter → ℕ → List ℕ
is_text Wpb value = figure (bytes "WPB is") value (bytes ": even,")
is_text Wpr value = figure (bytes "WPR is") value (bytes ":")
is_text K value = figure (bytes "K is") value (bytes ":")
is_text Space value = figure (bytes "SPACE is") value (bytes ":")
is_text Control value = figure (bytes "CONTROL is") value (bytes ":")
is_text N value = figure (bytes "N is") value (bytes ":")

-- a parameter out of its range [O7]
unfoldable pub range_text : Parameter → ℕ → ℕ → ℕ → List ℕ
range_text what value least most = is_text what value ++ (figure (bytes "") least (bytes " to") ++ figure (bytes "") most (bytes ""))

-- each fault in words; `word` is the line's first
unfoldable pub fault_text : List ℕ → Fault → List ℕ
fault_text word faults.Empty = bytes "no word; a call is expected"
fault_text word faults.NotPlayed = bytes "VIEW is not played"
fault_text word (faults.NoCall near) = no_call_text word near
fault_text word (faults.Count c takes given) = count_text c takes given
fault_text word (faults.NoNumber n) = figure (bytes "word") n (bytes " is no number")
fault_text word faults.AboveTop = bytes "a number is above 4294967295"
fault_text word (faults.NotSix given) = figure (bytes "WPB WPR K SPACE CONTROL N are expected, 6 numbers,") given (bytes " given")
fault_text word (faults.OutOfRange what value least most) = range_text what value least most
fault_text word (faults.TooLarge size) = figure (bytes "the file has") size (bytes " words, 8192 at most are played")

-- with the line's number in front
unfoldable pub sentence : ℕ → List ℕ → Fault → List ℕ
sentence line word fault = figure (bytes "line") line (bytes ": ") ++ (fault_text word fault ++ bytes "\n")
