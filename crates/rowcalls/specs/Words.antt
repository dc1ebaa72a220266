-- A sequential file's layout and place as seven words: 0 WPB, 1 leader words, 2 kind (0 fixed, 1 variable), 3 WPR, 4 block, 5 word of the
-- data area, 6 how many are left to be read.
use Rattle.std.specs.Prelude.{ℕ, ◌*◌, ◌≤◌, Bool, cond, ◌&&◌, List, leb, eqb, length, get_or, set}
use Rattle.sequential.specs.declared.Kind.{Kind}
use Rattle.sequential.specs.declared.Kind.TheVariants.{Fixed, Variable}
use Rattle.sequential.specs.declared.Layout.{Layout}
use Rattle.sequential.specs.declared.Place.{Place}

-- the most that a 32-bit word can be
abbrev pub most_word : ℕ
most_word = 4294967295

-- exactly seven words, and a kind; for a file whose every block has a number that one word can say
unfoldable pub is_row : List ℕ → ℕ → Bool
is_row ws file = eqb (length ws) 7 && (leb (get_or ws 2 0) 1 && leb file (most_word * get_or ws 0 0))

-- "0 fixed, 1 variable"; WPR is of fixed records alone [R4, R5]
unfoldable pub kind_of : List ℕ → Kind
kind_of ws = cond (eqb (get_or ws 2 0) 0) (Fixed (get_or ws 3 0)) Variable

-- words 0 to 3: the layout [R1]
unfoldable pub layout_of : List ℕ → Layout
layout_of ws = record { wpb = get_or ws 0 0; leaders = get_or ws 1 0; kind = kind_of ws }

-- words 4 and 5: the place [R6, R7]
unfoldable pub place_of : List ℕ → Place
place_of ws = record { block = get_or ws 4 0; at = get_or ws 5 0 }

-- the row with another place; its other words are kept [R6]
unfoldable pub at_place : List ℕ → Place → List ℕ
at_place ws q = set (set ws 4 q.block) 5 q.at

-- a place that two words can say
pub record Small (q : Place) : Type 0 where
  pub block : q.block ≤ most_word
  pub at : q.at ≤ most_word
