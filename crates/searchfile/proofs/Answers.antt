-- A call that is lent a workspace is its refusals and then its steps. The laws speak as its method does: s is the session, n the number of the
-- refusal, d what the steps gave, r the answer, and f₁, b₁, w₁ are the words left.
use mathlib.Core.Path.{◌≡◌, sym, ap, ◌∙◌}
use mathlib.Core.Bool.{Bool, true}
use mathlib.Core.List.{List}
use Prim.Native.Nat.{ℕ}
use Rattle.numbers.specs.Checked.{Checked, passed, refused, ◌>>◌}
use Rattle.rules.specs.declared.Done.{Done}
use Rattle.rules.specs.State.{State, Effect, Outcome, lent, texts, settle}
use Rattle.rules.specs.Told.{gave, told}
use Rattle.searchfile.specs.declared.Session as code
use Rattle.searchfile.specs.Answers.{Answer}
use Rattle.searchfile.specs.Promise.{held, given, counted, answered, next}
use Rattle.face.proofs.Chains.{Chain, seen_of, told-seen, refused-by}

-- the answer of a call that is refused
pub call-refused : {call : State → Outcome} {checks : State → Checked Bool} {steps : State → Checked Effect} → Chain call checks steps
    → (s : code.Session) (f b w : List ℕ) (n : ℕ) (r : Answer) → r ≡ record { number = n; transfers = 0; session = s }
    → refused n ≡ checks (given s f b w) → answered r f b w ≡ counted (call (given s f b w))
call-refused {call} {checks} {steps} chain s f b w n r e h =
    let st = given s f b w in
    (λ j. answered (e j) f b w)
    ∙ sym (ap counted (chain.is st) ∙ refused-by st (checks st) n (steps st) (sym h))

-- the answer of a call whose steps are made
pub call-told : {call : State → Outcome} {checks : State → Checked Bool} {steps : State → Checked Effect} → Chain call checks steps
    → (s : code.Session) (f b w f₁ b₁ w₁ : List ℕ) (d : Done) (r : Answer)
    → gave d f₁ b₁ w₁ ≡ told (texts (given s f b w)) s.flag w (steps (given s f b w))
    → (r.number ≡ d.number) × (r.transfers ≡ d.transfers) × (held r.session ≡ next (held s) d w₁)
    → passed true ≡ checks (given s f b w) → answered r f₁ b₁ w₁ ≡ counted (call (given s f b w))
call-told {call} {checks} {steps} chain s f b w f₁ b₁ w₁ d r e a h =
    let st = given s f b w in
    (λ j. record { number = a.0 j; transfers = a.1 j; after = lent (a.2 j) f₁ b₁ w₁ })
    ∙ ap (seen_of (held s)) e
    ∙ told-seen st (steps st)
    ∙ sym (ap counted (chain.is st ∙ ap (λ (x : Checked Bool). settle st (x >> steps st)) (sym h)))
