-- Document 01, "One session, printed": the lines that the program prints, as bytes.
use Rattle.std.specs.Prelude.{ℕ, List, ◌∷◌, ◌++◌}
use Rattle.rules.specs.declared.Call.{Call}
use Rattle.rules.specs.declared.Call.TheVariants.{Create, Open, Close, Seek, Adv, Nsert, Dlete, Updat, Xtend}
use Rattle.rules.specs.Run.{Line}
use Rattle.texts.specs.Texts.{bytes, octal, listed}

-- "prints call": the name of its kind [O5]
unfoldable pub spelling : Call → List ℕ
spelling Create = bytes "CREATE"
spelling Open = bytes "OPEN"
spelling Close = bytes "CLOSE"
spelling (Seek at) = bytes "SEEK"
spelling Adv = bytes "ADV"
spelling (Nsert at) = bytes "NSERT"
spelling (Dlete at) = bytes "DLETE"
spelling (Updat at) = bytes "UPDAT"
spelling (Xtend at) = bytes "XTEND"

-- "prints call, number as six octal digits, transfers, and .. the workspace", each after a space [O5]
unfoldable pub result_text : Call → Line → List ℕ
result_text c l =
    spelling c ++ ((32 ∷ octal l.number) ++ (listed (l.count ∷ l.shown) ++ bytes "\n"))

-- "prints that name, then 020007 0" [O7]
unfoldable pub refused_text : Call → List ℕ
refused_text c = spelling c ++ bytes " 020007 0\n"

-- "a line that is no such call .. prints `BAD LINE`" [O6]
unfoldable pub bad_line : List ℕ
bad_line = bytes "BAD LINE\n"

-- "A file above 8,192 words gets the one line `TOO LARGE`" [O8]
unfoldable pub too_large : List ℕ
too_large = bytes "TOO LARGE\n"
