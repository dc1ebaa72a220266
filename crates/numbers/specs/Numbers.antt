-- Document 01, "Numbers returned (octal)", in the order in which they are checked.
use Rattle.std.specs.Prelude.{ℕ, Bool, ◌||◌, eqb}

-- "parameter or slice length wrong" [N1]
abbrev pub wrong_size : ℕ
wrong_size = 0o020007

-- "OPEN, already open" [N2]
abbrev pub already_open : ℕ
already_open = 0o020006

-- "other call, closed" [N3]
abbrev pub is_closed : ℕ
is_closed = 0o020005

-- "altering calls answer 020010, after 020005" [V6]
abbrev pub reading_only : ℕ
reading_only = 0o020010

-- "a record too large or a length of 0" [R9]
abbrev pub wrong_length : ℕ
wrong_length = 0o020012

-- "keyed call: workspace word it reads above 262143, or key ONES" [N4]
abbrev pub wrong_key : ℕ
wrong_key = 0o030001

-- "OPEN: file not as under Layout; else a number the call will use is bad" [N5]
abbrev pub bad_file : ℕ
bad_file = 0o070003

-- "not found; NSERT duplicate" [N6]
abbrev pub not_found : ℕ
not_found = 0o000001

-- "a move that the state doesn't allow" [G10]
abbrev pub not_allowed : ℕ
not_allowed = 0o030007

-- "XTEND out of sequence" [N7]
abbrev pub out_of_sequence : ℕ
out_of_sequence = 0o000005

-- "new blocks are needed and too few are free, or a section is needed and CONTROL are in use" [N8]
abbrev pub no_room : ℕ
no_room = 0o070002

-- "stored; the record's block now holds D and no block is free" [N9]
abbrev pub none_free : ℕ
none_free = 0o070001

-- "ADV reached the end" [N10]
abbrev pub at_end : ℕ
at_end = 0o030002

-- "done" [N11]
abbrev pub done : ℕ
done = 0o000000

-- "when they answer 0 or 070001" [C33, F2]
abbrev pub accepted : ℕ → Bool
accepted n = eqb n done || eqb n none_free
