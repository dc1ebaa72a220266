-- The number that VIEW is told by names the part that VIEW lends back.
use Prim.Native.Nat.{ℕ, ◌+◌, ◌-◌, ◌*◌, ◌≤◌, ◌<◌}
use mathlib.Core.Path.{◌≡◌, refl, sym, ap, ◌∙◌}
use mathlib.Core.Bool.{Bool, true, false, cond, not, ◌&&◌}
use mathlib.Core.List.{List, []}
use native.Mathlib.Nat.{mul-le-mul_right}
use native.Mathlib.Omega.{arith}
use borrow.Author.Tests.{not-true, not-false, eq-eqb, ne_eqb, le-ltb, leb-true}
use mir.Syntax.{w64}
use mir.Val.{Fits}
use lib.Dec.{leb, eqb, ltb}
use lib.ListN.{length}
use Rattle.numbers.specs.Numbers.{wrong_size}
use Rattle.numbers.specs.Checked.{between}
use Rattle.numbers.proofs.Passed.{both}
use Rattle.drum.specs.declared.Description.{Description}
use Rattle.drum.specs.Params.{good_params, sized, start}
use Rattle.drum.specs.Blocks.{block_at, text_of}
use Rattle.drum.proofs.Good.{caps, sized-facts}
use Rattle.rules.specs.State.{Session, State, desc, texts, lent}
use Rattle.rules.specs.Close.{view}
use Rattle.searchfile.specs.declared.Session as code
use Rattle.searchfile.specs.Promise.{held, given}
use Rattle.drum.specs.Parts.{Borrowed, word_of, part_text}
use Rattle.searchfile.specs.Parts.{shown, view_at}
use Rattle.capi.specs.Words.{is_session, session_of, packed}
use Rattle.capi.specs.View.{in_file, lent_in_buffer, place_of, viewed, part_at, address_at, Named}

-- a block of a good file starts below 2^32
start-most : (p : Description) (b : ℕ) → good_params p ≡ true → 1 ≤ b → b ≤ p.n → start p b < in_file
unfolding start
start-most p b g l h =
    let c = caps p g in
    let m : (b - 1) * p.wpb ≤ p.n * p.wpb = mul-le-mul_right p.wpb (omega arith) in
    omega arith

-- so its number fits 64 bits
pub in-file-fits : (p : Description) (b n : ℕ) → n ≡ start p b → good_params p ≡ true → 1 ≤ b → b ≤ p.n → Fits w64 (in_file + n)
in-file-fits p b n e g l h = let m = start-most p b g l h in omega arith

-- VIEW's tests
abbrev tests : State → ℕ → Bool
tests st b = st.session.opened && (sized (desc st) (length st.file) (length st.buffer) && between 1 (desc st).n b)

-- the number of a block in the file is neither none nor the buffer's
record InFile (p : Description) (b : ℕ) : Type 0 where
  not_none : ltb (in_file + start p b) in_file ≡ false
  not-buffer : eqb (in_file + start p b) lent_in_buffer ≡ false
  offset : in_file + start p b - in_file ≡ start p b

module _ (st : State) (b : ℕ) where
  in-file : sized (desc st) (length st.file) (length st.buffer) ≡ true → between 1 (desc st).n b ≡ true → InFile (desc st) b
  in-file z r =
      let g = (sized-facts _ _ _ z).good in
      let x = both (leb 1 b) (leb b (desc st).n) r in
      let m = start-most (desc st) b g (leb-true _ _ x.0) (leb-true _ _ x.1) in
      record {
        not_none = le-ltb (in_file + start (desc st) b) in_file (omega arith);
        not-buffer = ne_eqb (in_file + start (desc st) b) lent_in_buffer (λ e. omega arith);
        offset = omega arith;
      }

  place-named : sized (desc st) (length st.file) (length st.buffer) ≡ true → between 1 (desc st).n b ≡ true → (t : Bool)
      → part_at st (cond t lent_in_buffer (in_file + start (desc st) b)) ≡ cond t st.buffer (block_at (desc st) st.file b)
  unfolding part_at block_at
  place-named z r true = refl
  place-named z r false = let f = in-file z r in simp (f.not_none, f.not-buffer, f.offset)

  none_named : part_at st 0 ≡ []
  unfolding part_at
  none_named = refl

  -- the number names the part: an empty one, a part of the file, the buffer
  pub view-named : part_at st (place_of st b) ≡ view st b
  unfolding place_of shown view text_of
  view-named = go (tests st b) refl
    where
      go : (t : Bool) → tests st b ≡ t
          → part_at st (cond t (cond (eqb b st.session.current) lent_in_buffer (in_file + start (desc st) b)) 0) ≡ cond t (text_of (texts st) b) []
      go true e =
          let x = both st.session.opened _ e in
          let y = both (sized (desc st) (length st.file) (length st.buffer)) _ x.1 in
          place-named y.0 y.1 (eqb b st.session.current)
      go false e = none_named

-- so does the address that it names
module _ (s : Session) (file buffer : Borrowed) (b : ℕ) where
  abbrev held_by : State
  held_by = lent s file.now buffer.now []

  address-named : sized s.desc (length file.now) (length buffer.now) ≡ true → between 1 s.desc.n b ≡ true → (t : Bool)
      → address_at file buffer (cond t lent_in_buffer (in_file + start s.desc b)) ≡ cond t buffer.ref_ptr (word_of file (start s.desc b))
  unfolding address_at
  address-named z r true = refl
  address-named z r false =
      let f = in-file held_by b z r in
      let e = f.offset in
      simp (f.not_none, f.not-buffer) (λ j. word_of file (e j))

  view-addressed : address_at file buffer (place_of held_by b) ≡ view_at s file buffer b
  unfolding place_of shown view_at part_text
  view-addressed = go (tests held_by b) refl
    where
      none : address_at file buffer 0 ≡ file.ref_ptr
      none = unfold address_at in refl

      go : (t : Bool) → tests held_by b ≡ t
          → address_at file buffer (cond t (cond (eqb b s.current) lent_in_buffer (in_file + start s.desc b)) 0)
          ≡ cond t (cond (eqb b s.current) buffer.ref_ptr (word_of file (start s.desc b))) file.ref_ptr
      go true e =
          let x = both s.opened _ e in
          let y = both (sized s.desc (length file.now) (length buffer.now)) _ x.1 in
          address-named y.0 y.1 (eqb b s.current)
      go false e = none

  pub place-named-by : Named s file buffer b
  place-named-by = record { words = view-named held_by b; address = view-addressed }

-- the returns of the code: t is its test whether the block is shown, r what it returns
module _ (s : code.Session) (f d : List ℕ) (b : ℕ) (t : Bool) (e : t ≡ shown (held s) (length f) (length d) b) where
  pub place_none : not t ≡ true → 0 ≡ place_of (given s f d []) b
  unfolding place_of
  place_none h = simp (sym e ∙ not-true t h)

  pub place-buffer : not t ≡ false → b ≡ s.current → lent_in_buffer ≡ place_of (given s f d []) b
  unfolding place_of
  place-buffer h c = simp (sym e ∙ not-false t h, eq-eqb b s.current c)

  pub place-file : (r : ℕ) → r ≡ in_file + start s.desc b → not t ≡ false → (b ≡ s.current → ⊥) → r ≡ place_of (given s f d []) b
  unfolding place_of
  place-file r is h c = simp (sym e ∙ not-false t h, ne_eqb b s.current c) is

module _ (ws f b : List ℕ) (block : ℕ) where
  pub viewed-none : is_session ws ≡ false → wrong_size ≡ viewed ws f b block
  unfolding viewed packed
  viewed-none not_one = sym (ap (λ (t : Bool). cond t (place_of (lent (session_of ws) f b []) block) (packed 0 wrong_size)) not_one)

  viewed-some : is_session ws ≡ true → place_of (lent (session_of ws) f b []) block ≡ viewed ws f b block
  unfolding viewed
  viewed-some h = sym (ap (λ (t : Bool). cond t (place_of (lent (session_of ws) f b []) block) (packed 0 wrong_size)) h)

  -- s is the session that the code reads from the words, r what it returns
  pub viewed_by : (s : code.Session) (r : ℕ) → r ≡ place_of (given s f b []) block → held s ≡ session_of ws
      → is_session ws ≡ true → r ≡ viewed ws f b block
  viewed_by s r e same is = e ∙ ap (λ (x : Session). place_of (lent x f b []) block) same ∙ viewed-some is

  -- "VIEW of block b lends back that text": the part that the number names is VIEW's, and an empty one where the words are no session's
  pub viewed-named : is_session ws ≡ true
      → part_at (lent (session_of ws) f b []) (viewed ws f b block) ≡ view (lent (session_of ws) f b []) block
  viewed-named h = ap (part_at (lent (session_of ws) f b [])) (sym (viewed-some h)) ∙ view-named (lent (session_of ws) f b []) block
