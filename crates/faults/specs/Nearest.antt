-- The call that a word may mean which names none: the one whose name agrees with it at most places.
use Rattle.std.specs.Prelude.{ℕ, ◌+◌, ◌-◌, cond, ◌&&◌, List, [], ◌∷◌, leb, ltb, eqb, length, drop, Option, None, Some}
use Rattle.rules.specs.declared.Call.{Call}
use Rattle.rules.specs.declared.Call.TheVariants.{Create}
use Rattle.texts.specs.Results.{spelling}
use Rattle.lines.specs.Lines.{kinds}
use Rattle.faults.specs.declared.nearest.Near.{Near}

-- a small letter as a capital
unfoldable pub upper : ℕ → ℕ
upper b = cond (leb 97 b && leb b 122) (b - 32) b

-- 1 where a, as a capital, is b
unfoldable pub same : ℕ → ℕ → ℕ
same a b = cond (eqb (upper a) b) 1 0

-- at how many places a word agrees with a text
unfoldable pub agreeing : List ℕ → List ℕ → ℕ
agreeing [] t = 0
agreeing (a ∷ w) [] = 0
agreeing (a ∷ w) (b ∷ t) = same a b + agreeing w t

-- the same as they stand, without the word's first letter, and without the text's
unfoldable pub alike : List ℕ → List ℕ → ℕ
alike w t = agreeing w t + agreeing (drop 1 w) t + agreeing w (drop 1 t)

-- no call yet: two letters are lacking
unfoldable pub nothing_near : Near
nothing_near = record { call = Create; size = 2; score = 0 }

-- the call c of the name t, where the word is more like it than like the one before
unfoldable pub nearer : List ℕ → Near → Call → List ℕ → Near
nearer w near c t = cond (leb (alike w t) near.score) near (record { call = c; size = length t; score = alike w t })

-- the nearest of some calls, the first of equals
unfoldable pub nearest_in : List ℕ → Near → List Call → Near
nearest_in w near [] = near
nearest_in w near (c ∷ cs) = nearest_in w (nearer w near c (spelling c)) cs

-- that call, if no more than one letter of its name is lacking
unfoldable pub meant : Near → Option Call
meant near = cond (ltb 1 (near.size - near.score)) None (Some near.call)

-- the call that a word may mean
unfoldable pub nearest : List ℕ → Option Call
nearest w = meant (nearest_in w nothing_near kinds)
