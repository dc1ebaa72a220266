-- A session as words: "The session travels as a lent slice of exactly 73 words: 0 WPB, 1 WPR, 2 K, 3 SPACE, 4 CONTROL, 5 N, 6 open (0 or
-- 1), 7 current, 8 write flag (0 or 1), 9 position given (0 or 1), 10..72 position."; or of 74, word 73 the block form.
use Rattle.std.specs.Prelude.{ℕ, ◌+◌, ◌*◌, Bool, cond, ◌&&◌, List, [], ◌∷◌, ◌++◌, leb, eqb, length, get_or}
use Rattle.words.specs.Words.{part}
use Rattle.drum.specs.declared.Description.{Description}
use Rattle.rules.specs.State.{Session}

-- "exactly 73 words", or one more for FORM, and none of "a word 6, 8 or 9 above 1" [K1]
unfoldable pub is_session : List ℕ → Bool
is_session ws =
    leb 73 (length ws) && (leb (length ws) 74 && (leb (get_or ws 6 0) 1 && (leb (get_or ws 8 0) 1 && leb (get_or ws 9 0) 1)))

-- "0 WPB, 1 WPR, 2 K, 3 SPACE, 4 CONTROL, 5 N", and 73 FORM; 73 words mean the first block form [K1]
unfoldable pub parameters_in : List ℕ → Description
parameters_in ws = record {
  wpb = get_or ws 0 0;
  wpr = get_or ws 1 0;
  k = get_or ws 2 0;
  space = get_or ws 3 0;
  control = get_or ws 4 0;
  n = get_or ws 5 0;
  form = get_or ws 73 1;
}

-- the session that the words are
unfoldable pub session_of : List ℕ → Session
session_of ws = record {
  desc = parameters_in ws;
  opened = eqb (get_or ws 6 0) 1;
  current = get_or ws 7 0;
  flag = eqb (get_or ws 8 0) 1;
  placed = eqb (get_or ws 9 0) 1;
  position = part 10 63 ws;
}

-- "(0 or 1)"
abbrev pub bit : Bool → ℕ
bit x = cond x 1 0

-- word 73, where words like ws have one: FORM [K1]
abbrev pub form_word : List ℕ → ℕ → List ℕ
form_word ws form = cond (eqb (length ws) 74) (form ∷ []) []

-- the words of a session, as many as were lent: its 73 words, and the form behind them
unfoldable pub words_of : List ℕ → Session → List ℕ
words_of ws s =
    s.desc.wpb ∷ s.desc.wpr ∷ s.desc.k ∷ s.desc.space ∷ s.desc.control ∷ s.desc.n
    ∷ bit s.opened ∷ s.current ∷ bit s.flag ∷ bit s.placed ∷ (s.position ++ form_word ws s.desc.form)

-- the most that a 32-bit word can be
abbrev pub most_word : ℕ
most_word = 4294967295

-- "Each function returns a 64-bit number: transfers times 2^32, plus the number."
unfoldable pub packed : ℕ → ℕ → ℕ
packed transfers number = transfers * 4294967296 + number
