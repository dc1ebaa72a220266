-- The transfers of a way: how many they are, what they write, and the current texts, which stay.
use mathlib.Core.Path.{◌≡◌, refl, sym, ap, ◌∙◌}
use mathlib.Core.Bool.{Bool, true, false}
use mathlib.Core.List.{List, [], ◌∷◌}
use Prim.Native.Nat.{ℕ, ◌+◌, ◌≤◌}
use native.Mathlib.Omega.{arith}
use lib.ListN.{length, length-append}
use Rattle.drum.specs.Params.{file_size}
use Rattle.drum.specs.Blocks.{Fitting, Block, Read, written, Texts, seen, text_of}
use Rattle.drum.proofs.Written.{Moves, moves-append, length-written}
use Rattle.rules.specs.declared.Path.{Path}
use Rattle.rules.specs.declared.Way.{Way}
use Rattle.rules.specs.declared.Way.TheVariants.{Here, By}
use Rattle.rules.specs.Lookup.{flush_moves, bringing, reached}
use Rattle.rules.specs.Fits.{FlushFits, WayFits}
use Rattle.acts.proofs.Moves.{written-reads, text-flushed, flush-most}

module _ (v : Texts) (flag : Bool) where
  pub by_count : (w : Path) (wrote : ℕ) → wrote ≡ length (flush_moves v flag) → wrote + 2 ≡ length (reached v flag (By w)).moves
  unfolding reached bringing
  by_count w wrote e = ap (λ (n : ℕ). n + 2) e ∙ sym (length-append (flush_moves v flag) (Read w.index ∷ Read w.detail ∷ []))

  pub by-file : (w : Path) (f : List ℕ) → written v.desc (flush_moves v flag) f ≡ written v.desc (reached v flag (By w)).moves f
  unfolding reached bringing
  by-file w f = sym (written-reads v.desc (flush_moves v flag) (Read w.index ∷ Read w.detail ∷ []) f tt)

  pub moves-most : (way : Way) → length (reached v flag way).moves ≤ 3
  unfolding reached bringing
  moves-most Here = omega arith
  moves-most (By w) =
      let m = flush-most v flag in
      simp length-append (omega arith)

  module _ (fit : Fitting v.desc v.file v.buffer) where
    flush-moves : FlushFits v flag → Moves v.desc (flush_moves v flag)
    unfolding flush_moves
    flush-moves due = go flag due
      where
        go : (x : Bool) → FlushFits v x → Moves v.desc (flush_moves v x)
        go true due = (due refl, fit.buffer-is, tt)
        go false due = tt

    pub way-moves : (way : Way) → WayFits v flag way → Moves v.desc (reached v flag way).moves
    unfolding reached bringing
    way-moves Here h = tt
    way-moves (By w) h = moves-append v.desc (flush_moves v flag) (Read w.index ∷ Read w.detail ∷ []) (flush-moves h.1) tt

    pub length-followed : (way : Way) → WayFits v flag way → length (written v.desc (reached v flag way).moves v.file) ≡ file_size v.desc
    length-followed way h = length-written v.desc v.file fit.file-is (reached v flag way).moves (way-moves way h)

    pub text-followed : (way : Way) → WayFits v flag way → (b : ℕ) → Block v.desc b
        → text_of (seen v.desc v.current (written v.desc (reached v flag way).moves v.file) v.buffer) b ≡ text_of v b
    unfolding reached written
    text-followed Here h b k = refl
    text-followed (By w) h b k =
        ap (λ (f : List ℕ). text_of (seen v.desc v.current f v.buffer) b) (sym (by-file w v.file)) ∙ text-flushed v fit flag h.1 b k
