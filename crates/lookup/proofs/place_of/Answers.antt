-- Each way to choose an entry is its line of the definition; a place by the key is one search.
use Rattle.lookup.proofs.Entries.{chosen-first, chosen_last, chosen-place, chosen-covering}
use Rattle.lookup.proofs.place_of.Goals as goal

pub returns-in-First : goal.returns-in-First
returns-in-First c = search chosen-first

pub returns-in-Last : goal.returns-in-Last
returns-in-Last c = search chosen_last

pub returns-in-Place : goal.returns-in-Place
returns-in-Place c = search chosen-place

pub returns-in-Covering : goal.returns-in-Covering
returns-in-Covering c = search chosen-covering
