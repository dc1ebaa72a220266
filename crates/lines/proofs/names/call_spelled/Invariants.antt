-- `names::call_spelled` meets its contract: of the calls from here on the first whose name the word is is the first of all.
use mathlib.Core.Path.{◌≡◌}
use lib.ListN.{drop}
use Rattle.lines.specs.Lines.{kinds, named, named_in}
use Rattle.lines.proofs.names.call_spelled.Given as goal

abbrev pub invariant-loop-call : goal.invariant-loop-call
invariant-loop-call l = named l.word ≡ named_in (drop l.call-index kinds) l.word
