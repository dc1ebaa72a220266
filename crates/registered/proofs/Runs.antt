-- A run of register calls and the run of the routine's calls that it makes leave the same, but for the workspace.
use Prim.Native.Nat.{ℕ}
use mathlib.Core.Path.{◌≡◌, refl, sym, ap, ◌∙◌}
use mathlib.Core.Bool.{Bool, true, false, cond, not, ◌&&◌}
use mathlib.Core.List.{List, [], ◌∷◌, ◌++◌, append_assoc}
use lib.Dec.{eqb}
use Rattle.numbers.specs.Numbers.{done, not_allowed}
use Rattle.numbers.specs.Checked.{Checked, passed, refused}
use Rattle.layout.specs.Inspect.{layout_marks}
use Rattle.rules.specs.State.{State, desc}
use Rattle.rules.specs.Checks.{sizes_ok, is_open}
use Rattle.rules.specs.Open.{open_checks, open_layout, open_done, open_file}
use Rattle.rules.specs.Close.{close_checks, close_done, close}
use Rattle.rules.specs.Seek.{seek, updat}
use Rattle.rules.specs.Adv.{adv}
use Rattle.rules.specs.NsertDone.{nsert}
use Rattle.rules.specs.Dlete.{dlete}
use Rattle.rules.specs.XtendDone.{xtend}
use Rattle.rules.specs.Requests.{Request, opening, closing, seeking, advancing, inserting, deleting, updating, extending, lending, answer, left}
use Rattle.demands.specs.Story.{deed_of, deeds, stands, added, replaced, removed}
use Rattle.demands.specs.Story as story
use Rattle.demands.proofs.Came.{same-parameters}
use Rattle.drum.specs.declared.Description.{Description}
use Rattle.register.specs.Names.{raw, romanised, on_hold, state_of}
use Rattle.register.specs.Register.{has_state, name_ok, spelled_ok, checked, raw_name, stopped, joined, sought, followed}
use Rattle.register.specs.Register.{move, spelled, turned, turn, enter, ask, next, romanise, hold, free}
use Rattle.registered.specs.Deeds.{Deed, entering, asking, listing, holding, freeing, romanising}
use Rattle.registered.specs.Deeds.{calling, did, left_by, if_passed, to_update, moving, requests_of, requests}
use Rattle.registered.specs.Kept.{SameRun}

-- ---- two states alike but for the workspace

abbrev Like : State → State → Type 0
Like t u = lending [] t ≡ lending [] u

like-lent : (t u : State) → Like t u → (w : List ℕ) → lending w t ≡ lending w u
unfolding lending
like-lent t u e w = ap (lending w) e

close-lent : (st : State) (w : List ℕ) → Like (close (lending w st)).after (close st).after
unfolding lending close close_checks close_done sizes_ok is_open
close-lent st w = go (close_checks st)
  where
    go : (c : Checked Bool) → Like (close_done (lending w st) c).after (close_done st c).after
    go (refused n) = refl
    go (passed x) = refl

open_lent : (st : State) (w marks : List ℕ) → Like (open_file (lending w st) marks).outcome.after (open_file st marks).outcome.after
unfolding lending open_file open_checks open_done open_layout sizes_ok
open_lent st w marks = go (open_checks st marks)
  where
    laid : (c : Checked (List ℕ)) → Like (open_layout (lending w st) c).outcome.after (open_layout st c).outcome.after
    laid (refused n) = refl
    laid (passed ms) = refl

    go : (c : Checked Bool) → Like (open_done (lending w st) marks c).outcome.after (open_done st marks c).outcome.after
    go (refused n) = refl
    go (passed x) = laid (layout_marks (desc st) st.file)

module _ (t u : State) (e : Like t u) where
  -- t is u with t's workspace
  is : t ≡ lending t.work u
  unfolding lending
  is = like-lent t u e t.work

  answer-like : (q : Request) → Like (answer t q).after (answer u q).after
  unfolding answer
  answer-like (opening marks) = ap (λ (s : State). lending [] (open_file s marks).outcome.after) is ∙ open_lent u t.work marks
  answer-like closing = ap (λ (s : State). lending [] (close s).after) is ∙ close-lent u t.work
  answer-like (seeking w) = ap (λ (s : State). lending [] (seek s).after) (like-lent t u e w)
  answer-like (advancing w) = ap (λ (s : State). lending [] (adv s).after) (like-lent t u e w)
  answer-like (inserting w) = ap (λ (s : State). lending [] (nsert s).after) (like-lent t u e w)
  answer-like (deleting w) = ap (λ (s : State). lending [] (dlete s).after) (like-lent t u e w)
  answer-like (updating w) = ap (λ (s : State). lending [] (updat s).after) (like-lent t u e w)
  answer-like (extending w) = ap (λ (s : State). lending [] (xtend s).after) (like-lent t u e w)

  did-like : (d : Deed) → Like (did t d).after (did u d).after
  unfolding did
  did-like (entering w) = ap (λ (s : State). lending [] (enter s).after) (like-lent t u e w)
  did-like (asking w) = ap (λ (s : State). lending [] (ask s).after) (like-lent t u e w)
  did-like (listing w) = ap (λ (s : State). lending [] (next s).after) (like-lent t u e w)
  did-like (holding w) = ap (λ (s : State). lending [] (hold s).after) (like-lent t u e w)
  did-like (freeing w) = ap (λ (s : State). lending [] (free s).after) (like-lent t u e w)
  did-like (romanising w x) = ap (λ (s : State). lending [] (romanise x s).after) (like-lent t u e w)
  did-like (calling q) = answer-like q

-- ---- one call

-- the test of the state leaves what SEEK left
pub sought-after : (from : ℕ) (st : State) → (sought from st).after ≡ (seek st).after
unfolding sought stopped
sought-after from st = go (eqb (seek st).number done && not (eqb (state_of (desc st) (seek st).after.work) from))
  where
    go : (t : Bool) → (cond t (stopped not_allowed (seek st)) (seek st)).after ≡ (seek st).after
    go true = refl
    go false = refl

module _ (u : State) where
  asked : (w : List ℕ) (c : Checked Bool) → Like (checked (lending w u) c (seek (lending w u))).after (left u (if_passed c (seeking w ∷ [])))
  unfolding checked left answer lending
  asked w (refused n) = refl
  asked w (passed x) = refl

  listed : (w : List ℕ) (c : Checked Bool) → Like (checked (lending w u) c (adv (lending w u))).after (left u (if_passed c (advancing w ∷ [])))
  unfolding checked left answer lending
  listed w (refused n) = refl
  listed w (passed x) = refl

  entered : (w v : List ℕ) (c : Checked Bool) → Like (checked (lending w u) c (nsert (lending v u))).after (left u (if_passed c (inserting v ∷ [])))
  unfolding checked left answer lending
  entered w v (refused n) = refl
  entered w v (passed x) = refl

  moved : (w : List ℕ) (from : ℕ) (made : List ℕ → Checked (List ℕ)) → Like (move from made (lending w u)).after (left u (moving from made w u))
  unfolding move moving left answer
  moved w from made =
      go (eqb (sought from (lending w u)).number done) (made (sought from (lending w u)).after.work)
      ∙ ap (λ (s : State). lending [] (left s (cond (eqb (sought from (lending w u)).number done) (to_update (made (sought from (lending w u)).after.work)) [])))
      (sought-after from (lending w u))
    where
      go : (t : Bool) (c : Checked (List ℕ))
          → Like (cond t (followed (sought from (lending w u)) c) (sought from (lending w u))).after (left (sought from (lending w u)).after (cond t (to_update c) []))
      go true (refused n) = unfold followed stopped left in refl
      go true (passed v) = unfold followed joined left answer in refl
      go false c = unfold left in refl

  moving-like : (w : List ℕ) (from : ℕ) (made : List ℕ → Checked (List ℕ)) (c : Checked Bool)
      → Like (checked (lending w u) c (move from made (lending w u))).after (left u (if_passed c (moving from made w u)))
  moving-like w from made (refused n) = unfold checked left lending in refl
  moving-like w from made (passed x) = unfold checked in moved w from made

  one-like : (d : Deed) → Like (did u d).after (left u (requests_of u d))
  unfolding did requests_of enter ask next hold free turn romanise lending
  one-like (entering w) = entered w (raw_name (desc u) w) (name_ok (lending w u))
  one-like (asking w) = asked w (has_state (lending w u))
  one-like (listing w) = listed w (has_state (lending w u))
  one-like (holding w) = moving-like w romanised (turned (desc u) on_hold) (name_ok (lending w u))
  one-like (freeing w) = moving-like w on_hold (turned (desc u) romanised) (name_ok (lending w u))
  one-like (romanising w s) = moving-like w raw (spelled (desc u) s) (spelled_ok s (lending w u))
  one-like (calling q) = unfold left in refl

-- ---- runs

pub left-append : (u : State) (qs rs : List Request) → left u (qs ++ rs) ≡ left (left u qs) rs
unfolding left
left-append u [] rs = refl
left-append u (q ∷ qs) rs = left-append (answer u q).after qs rs

runs-like : (ds : List Deed) (t u : State) → Like t u → Like (left_by t ds) (left u (requests u ds))
unfolding left_by requests left
runs-like [] t u e = e
runs-like (d ∷ ds) t u e =
    runs-like ds (did t d).after (left u (requests_of u d)) (did-like t u e d ∙ one-like u d)
    ∙ ap (lending []) (sym (left-append u (requests_of u d) (requests (left u (requests_of u d)) ds)))

pub same-run : SameRun
same-run st ds work = like-lent (left_by st ds) (left st (requests st ds)) (runs-like ds st st refl) work

pub left-desc : (u : State) (qs : List Request) → desc (left u qs) ≡ desc u
unfolding left
left-desc u [] = refl
left-desc u (q ∷ qs) = left-desc (answer u q).after qs ∙ same-parameters u q

pub requests-append : (u : State) (ds es : List Deed) → requests u (ds ++ es) ≡ requests u ds ++ requests (left u (requests u ds)) es
unfolding requests left
requests-append u [] es = refl
requests-append u (d ∷ ds) es =
    let v = left u (requests_of u d) in
    ap (λ (x : List Request). requests_of u d ++ x) (requests-append v ds es)
    ∙ sym (append_assoc (requests_of u d) (requests v ds) (requests (left v (requests v ds)) es))
    ∙ ap (λ (s : State). (requests_of u d ++ requests v ds) ++ requests s es) (sym (left-append u (requests_of u d) (requests v ds)))

-- ---- the story of a run

pub stands-append : (p : Description) (k : List ℕ) (es gs : List story.Deed) (was : List (List ℕ))
    → stands p k (es ++ gs) was ≡ stands p k gs (stands p k es was)
unfolding stands
stands-append p k [] gs was = refl
stands-append p k (added r ∷ es) gs was = stands-append p k es gs _
stands-append p k (replaced r ∷ es) gs was = stands-append p k es gs _
stands-append p k (removed y ∷ es) gs was = stands-append p k es gs _

pub deeds-append : (u : State) (qs rs : List Request) → deeds u (qs ++ rs) ≡ deeds u qs ++ deeds (left u qs) rs
unfolding deeds left
deeds-append u [] rs = refl
deeds-append u (q ∷ qs) rs =
    let o = answer u q in
    ap (λ (x : List story.Deed). deed_of (desc u) q o ++ x) (deeds-append o.after qs rs)
    ∙ sym (append_assoc (deed_of (desc u) q o) (deeds o.after qs) (deeds (left o.after qs) rs))
