-- The names of calls: no number is one, and the first seven bytes of a word decide.
use Prim.Native.Nat.{ℕ, zero, suc, ◌≤◌, ◌<◌}
use native.Mathlib.Nat.{not-suc-le-zero}
use native.Mathlib.Omega.{arith}
use mathlib.Core.Path.{◌≡◌, refl, ap, ◌∙◌}
use mathlib.Core.Bool.{Bool, true, false, cond, ◌&&◌}
use mathlib.Core.List.{List, [], ◌∷◌}
use Rattle.std.proofs.Common.{Option, None, Some}
use lib.Dec.{eqb}
use lib.ListN.{length, take}
use Rattle.words.specs.Keys.{same_key}
use Rattle.words.proofs.Keys.{same_key-true}
use Rattle.rules.specs.declared.Call.{Call}
use Rattle.rules.specs.declared.Call.TheVariants.{Create, Open, Close, Seek, Adv, Nsert, Dlete, Updat, Xtend}
use Rattle.texts.specs.Texts.{bytes}
use Rattle.texts.specs.Results.{spelling}
use Rattle.texts.proofs.Names.{spelling-short}
use Rattle.lines.specs.Lines.{is_digit, all_digits, is_number, kinds, named_in, named}

-- none begins with a digit
spelling-other : (c : Call) → is_number (spelling c) ≡ false
unfolding spelling bytes is_number all_digits is_digit
spelling-other Create = refl
spelling-other Open = refl
spelling-other Close = refl
spelling-other (Seek at) = refl
spelling-other Adv = refl
spelling-other (Nsert at) = refl
spelling-other (Dlete at) = refl
spelling-other (Updat at) = refl
spelling-other (Xtend at) = refl

-- a key shorter than n words is told from the first n words of a list
same-take : (n : ℕ) (w key : List ℕ) → length key < n → same_key (take n w) key ≡ same_key w key
unfolding same_key
same-take zero w key h = absurd (not-suc-le-zero h)
same-take (suc n) [] key h = refl
same-take (suc n) (x ∷ w) [] h = refl
same-take (suc n) (x ∷ w) (y ∷ key) h = ap (λ (t : Bool). eqb x y && t) (same-take n w key (omega arith))

named-take-in : (n : ℕ) (w : List ℕ) → 7 ≤ n → (cs : List Call) → named_in cs (take n w) ≡ named_in cs w
unfolding named_in
named-take-in n w h [] = refl
named-take-in n w h (c ∷ cs) =
    let k = spelling-short c in
    let e : same_key (take n w) (spelling c) ≡ same_key w (spelling c) = same-take n w (spelling c) (omega arith) in
    ap (λ (t : Bool). cond t (Some c) (named_in cs (take n w))) e
    ∙ ap (λ (r : Option Call). cond (same_key w (spelling c)) (Some c) r) (named-take-in n w h cs)

pub named-take : (n : ℕ) (w : List ℕ) → 7 ≤ n → named (take n w) ≡ named w
unfolding named
named-take n w h = named-take-in n w h kinds

pub named_none : named [] ≡ None
unfolding named named_in kinds same_key spelling bytes
named_none = refl

-- a word that names a call is its name
named-spelled : (cs : List Call) (w : List ℕ) (c : Call) → named_in cs w ≡ Some c → w ≡ spelling c
unfolding named_in
named-spelled [] w c h = absurd (none-some h)
  where
    none-some : ◌≡◌ {A = Option Call} None (Some c) → ⊥
    none-some e = let n : ◌≡◌ {A = ℕ} 0 1 = cc in omega arith
named-spelled (d ∷ cs) w c h = go (same_key w (spelling d)) refl h (named-spelled cs w c)
  where
    go : (t : Bool) → same_key w (spelling d) ≡ t → cond t (Some d) (named_in cs w) ≡ Some c → (named_in cs w ≡ Some c → w ≡ spelling c) → w ≡ spelling c
    go true e k r =
        let f : d ≡ c = cc in
        same_key-true w (spelling d) e ∙ ap spelling f
    go false e k r = r k

pub named_other : (w : List ℕ) (c : Call) → named w ≡ Some c → is_number w ≡ false
unfolding named
named_other w c h = ap is_number (named-spelled kinds w c h) ∙ spelling-other c
