-- The refusals of the code, as the answers of the definitions' steps.
use Rattle.std.specs.Prelude.{ℕ, Bool, true, Result, Ok, Err}
use Rattle.numbers.specs.declared.Refusal.{Refusal}
use Rattle.numbers.specs.declared.Refusal.TheVariants.{WrongSize, AlreadyOpen, IsClosed, ReadingOnly, WrongLength, WrongKey, AtEnd, NoRoom, BadFile}
use Rattle.numbers.specs.Numbers.{wrong_size, already_open, is_closed, reading_only, wrong_length, wrong_key, at_end, no_room, bad_file, done}
use Rattle.numbers.specs.Checked.{Checked, passed, refused}

-- the number of a refusal [N1, N2, N3, N4, N5]
abbrev pub number_of : Refusal → ℕ
number_of WrongSize = wrong_size
number_of AlreadyOpen = already_open
number_of IsClosed = is_closed
number_of ReadingOnly = reading_only
number_of WrongLength = wrong_length
number_of WrongKey = wrong_key
number_of AtEnd = at_end
number_of NoRoom = no_room
number_of BadFile = bad_file

-- what the code answers, as a step's answer [N5]
abbrev pub checked : {A : Type 0} → Result A Refusal → Checked A
checked (Ok a) = passed a
checked (Err r) = refused (number_of r)

-- a test that the code makes, as a step's answer
abbrev pub tested : Result (Unit {0}) Refusal → Checked Bool
tested (Ok _) = passed true
tested (Err r) = refused (number_of r)

-- the number that a call answers, 0 where nothing refuses it
abbrev pub number : {A : Type 0} → Result A Refusal → ℕ
number (Ok a) = done
number (Err r) = number_of r
