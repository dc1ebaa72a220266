-- A description "set up field by field, each step handing the description on": after six steps it has the six numbers, after one more the form.
use Prim.Native.Nat.{ℕ}
use mathlib.Core.Path.{◌≡◌, ap, ◌∙◌}
use Rattle.drum.specs.declared.Description.{Description}

-- what each step promises
abbrev wpb_set : ℕ → Description → Description
wpb_set x p = record { wpb = x; wpr = p.wpr; k = p.k; space = p.space; control = p.control; n = p.n; form = p.form }

abbrev wpr_set : ℕ → Description → Description
wpr_set x p = record { wpb = p.wpb; wpr = x; k = p.k; space = p.space; control = p.control; n = p.n; form = p.form }

abbrev k_set : ℕ → Description → Description
k_set x p = record { wpb = p.wpb; wpr = p.wpr; k = x; space = p.space; control = p.control; n = p.n; form = p.form }

abbrev space_set : ℕ → Description → Description
space_set x p = record { wpb = p.wpb; wpr = p.wpr; k = p.k; space = x; control = p.control; n = p.n; form = p.form }

abbrev control_set : ℕ → Description → Description
control_set x p = record { wpb = p.wpb; wpr = p.wpr; k = p.k; space = p.space; control = x; n = p.n; form = p.form }

abbrev n_set : ℕ → Description → Description
n_set x p = record { wpb = p.wpb; wpr = p.wpr; k = p.k; space = p.space; control = p.control; n = x; form = p.form }

pub set-up : (p₀ p₁ p₂ p₃ p₄ p₅ p₆ : Description) (a b c d e f : ℕ)
    → p₆ ≡ n_set f p₅ → p₅ ≡ control_set e p₄ → p₄ ≡ space_set d p₃ → p₃ ≡ k_set c p₂ → p₂ ≡ wpr_set b p₁ → p₁ ≡ wpb_set a p₀
    → p₆ ≡ record { wpb = a; wpr = b; k = c; space = d; control = e; n = f; form = p₀.form }
set-up p₀ p₁ p₂ p₃ p₄ p₅ p₆ a b c d e f h₆ h₅ h₄ h₃ h₂ h₁ =
    h₆ ∙ ap (n_set f) (h₅ ∙ ap (control_set e) (h₄ ∙ ap (space_set d) (h₃ ∙ ap (k_set c) (h₂ ∙ ap (wpr_set b) h₁))))

abbrev form_set : ℕ → Description → Description
form_set x p = record { wpb = p.wpb; wpr = p.wpr; k = p.k; space = p.space; control = p.control; n = p.n; form = x }

-- a seventh step sets the form
pub set-form : (p₆ p₇ : Description) (a b c d e f g x : ℕ)
    → p₇ ≡ form_set x p₆ → p₆ ≡ record { wpb = a; wpr = b; k = c; space = d; control = e; n = f; form = g }
    → p₇ ≡ record { wpb = a; wpr = b; k = c; space = d; control = e; n = f; form = x }
set-form p₆ p₇ a b c d e f g x h₇ h₆ = h₇ ∙ ap (form_set x) h₆
