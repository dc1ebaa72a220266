-- What is wrong with a first line: document 01, "Parameters" and "One session, printed".
use Rattle.std.specs.Prelude.{ℕ, ◌-◌, ◌/◌, ◌%◌, Bool, false, cond, ◌&&◌, ◌≡◌, leb, eqb, Option, None, Some}
use Rattle.drum.specs.declared.Description.{Description}
use Rattle.drum.specs.Params.{D, I, good_params, file_size, most_sections}
use Rattle.faults.specs.declared.Fault.{Fault}
use Rattle.faults.specs.declared.Fault.TheVariants.{Empty, NotPlayed, NoCall, Count, NoNumber, AboveTop, NotSix, OutOfRange, TooLarge}
use Rattle.faults.specs.declared.Parameter.{Parameter}
use Rattle.faults.specs.declared.Parameter.TheVariants.{Wpb, Wpr, K, Space, Control, N}
use Rattle.faults.specs.declared.watch.Watch.{Watch}
use Rattle.faults.specs.Faults.{odd_fault}

-- a range of document 01's "Parameters", both ends in it
unfoldable pub within : ℕ → ℕ → ℕ → Bool
within least value most = leb least value && leb value most

-- "WPB, words per block: even, 6..4096"
unfoldable pub wpb_good : ℕ → Bool
wpb_good wpb = eqb (wpb % 2) 0 && within 6 wpb 4096

-- "D = (WPB−1)/WPR .. at least 2": the most that WPR may be
unfoldable pub half : Description → ℕ
half p = (p.wpb - 1) / 2

-- "K, key words: 1..63" and "I = (WPB−1)/(K+1) .. at least 2": the most that K may be
unfoldable pub most_key : Description → ℕ
most_key p = cond (leb 64 (half p)) 63 (half p - 1)

-- "SPACE: 0..D−2 and 0..I−2": the most that it may be
unfoldable pub most_space : Description → ℕ
most_space p = cond (leb (D p) (I p)) (D p - 2) (I p - 2)

-- "parameters out of range": one of them, its value and its range [O7]
unfoldable pub out_fault : Parameter → ℕ → ℕ → ℕ → Fault
out_fault what value least most = OutOfRange what value least most

-- what follows, where a parameter is within its range
unfoldable pub ranged : Parameter → ℕ → ℕ → ℕ → Fault → Fault
ranged what value least most more = cond (within least value most) more (out_fault what value least most)

-- the first parameter out of range; where the others are within theirs it is N
unfoldable pub range_fault : Description → Fault
range_fault p =
    cond
    (wpb_good p.wpb)
    (ranged K p.k 1 (most_key p)
    (ranged Wpr p.wpr p.k (half p)
    (ranged Space p.space 0 (most_space p)
    (ranged Control p.control 1 most_sections (out_fault N p.n 2 262142)))))
    (out_fault Wpb p.wpb 6 4096)

-- "a first line not of six numbers, prints `BAD LINE`": what is wrong with it
unfoldable pub words_fault : Watch → Fault
words_fault w = odd_fault w.odd (cond (eqb w.words 6) AboveTop (NotSix w.words))

-- the same; "parameters out of range"; "A file above 8,192 words"
unfoldable pub first_fault : Watch → Option Description → Fault
first_fault w None = words_fault w
first_fault w (Some p) = cond (good_params p) (TooLarge (file_size p)) (range_fault p)

-- a parameter is told, and it is out of the range that is told
abbrev pub Outside : Fault → Type 0
Outside Empty = ⊥
Outside NotPlayed = ⊥
Outside (NoCall near) = ⊥
Outside (Count c takes given) = ⊥
Outside (NoNumber word) = ⊥
Outside AboveTop = ⊥
Outside (NotSix given) = ⊥
Outside (OutOfRange Wpb value least most) = wpb_good value ≡ false
Outside (OutOfRange Wpr value least most) = within least value most ≡ false
Outside (OutOfRange K value least most) = within least value most ≡ false
Outside (OutOfRange Space value least most) = within least value most ≡ false
Outside (OutOfRange Control value least most) = within least value most ≡ false
Outside (OutOfRange N value least most) = within least value most ≡ false
Outside (TooLarge size) = ⊥
