-- Salvage's promise, told in words; and two results allowed by it are equal.
use Prim.Native.Nat.{ℕ}
use mathlib.Core.Path.{◌≡◌, sym, ap, ◌∙◌}
use mathlib.Core.Bool.{Bool, true, false, cond, ◌&&◌}
use mathlib.Core.List.{List}
use borrow.Author.Tests.{eq-eqb, ne_eqb}
use lib.Dec.{eqb}
use lib.ListN.{length, set}
use Rattle.numbers.specs.Numbers.{wrong_size}
use Rattle.rules.specs.State.{Session}
use Rattle.searchfile.specs.declared.Session as code
use Rattle.searchfile.specs.Promise.{held}
use Rattle.salvage.specs.declared.Salvaged.{Salvaged}
use Rattle.salvage.specs.Salvage.{salvage}
use Rattle.salvage.specs.Promise.{answered_with}
use Rattle.capi.specs.Words.{is_session, parameters_in, session_of}
use Rattle.capi.specs.Salvage.{ReturnedSalvage, returned_salvage, told_salvage, called_salvage, OneReturnedSalvage}
use Rattle.capi.proofs.TrayTold.{two-words}

module _ (ws copy fresh buffer report told : List ℕ) where
  by-words : Bool → ReturnedSalvage
  by-words c = cond c (told_salvage (salvage (parameters_in ws) copy fresh buffer report)) (returned_salvage wrong_size fresh buffer report told)

  pub salvage-none : is_session ws ≡ false → returned_salvage wrong_size fresh buffer report told ≡ called_salvage ws copy fresh buffer report told
  unfolding called_salvage by-words
  salvage-none not_one = sym (ap (λ (c : Bool). by-words (c && eqb (length told) 2)) not_one)

  module _ (is : is_session ws ≡ true) where
    pub salvage-untold : (length told ≡ 2 → ⊥) → returned_salvage wrong_size fresh buffer report told ≡ called_salvage ws copy fresh buffer report told
    unfolding called_salvage by-words
    salvage-untold l = sym λ j. by-words (is j && ne_eqb (length told) 2 l j)

    pub salvage-called : (c : code.Session) (s : Salvaged) (f b y : List ℕ) (r : ℕ) → answered_with s f b y ≡ salvage c.desc copy fresh buffer report
        → held c ≡ session_of ws → r ≡ s.number → length told ≡ 2
        → returned_salvage r f b y (set (set told 0 s.transfers) 1 s.lines) ≡ called_salvage ws copy fresh buffer report told
    unfolding called_salvage by-words session_of
    salvage-called c s f b y r e q n l =
        (λ j. returned_salvage (n j) f b y (two-words told s.transfers s.lines l j))
        ∙ ap told_salvage (e ∙ ap (λ (z : Session). salvage z.desc copy fresh buffer report) q)
        ∙ sym λ j. by-words (is j && eq-eqb (length told) 2 l j)

pub one-returned-salvage : OneReturnedSalvage
one-returned-salvage o r s f g b d x y m n p q =
    let e : returned_salvage r f b x m ≡ returned_salvage s g d y n = p ∙ sym q in
    (λ i. (e i).answer, λ i. (e i).fresh, λ i. (e i).buffer, λ i. (e i).report, λ i. (e i).told)
