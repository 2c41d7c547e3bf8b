-- The same updates leave the same bits, and those that they cover are the same.
use Rattle.std.proofs.Common.{◌≡◌, ◌≢◌, ℕ, zero, suc, ◌+◌, ◌-◌, ◌%◌, ◌^◌, ◌<◌, ◌≤◌, Bool, true, false, List, [], ◌∷◌, ◌++◌, length, get_or, set, refl, sym, ap, ◌∙◌, subst, arith}
use Rattle.std.specs.Prelude.{◌||◌, ◌&&◌, ◌⊎◌, ℤ, pos, negsuc, ◌+ℤ◌, ◌-ℤ◌, ◌<ℤ◌, ◌≤ℤ◌, int_le, int_lt, slice_index, slice_set, slice_get, ◌==◌}
use Rattle.std.proofs.Math.Pow.{pow_pos}
use Rattle.std.proofs.Math.Nat.{mod-lt}
use Rattle.std.proofs.lemmas.Int.{ints}
use Rattle.std.proofs.lemmas.Bool.{cases_lt}
use Rattle.std.proofs.lemmas.List.{get_or_past, get_or-set_same, get_or-set_other, length-set}
use Rattle.std.proofs.lemmas.Option.{unwrap_or-slice_get}
use Rattle.std.proofs.lemmas.Nat.Bits.{bit_at_above}
use mathlib.Core.Logic.{inl, inr}
use Rattle.vl_design.specs.vl_base.specs.Selects.{bit_of, placed}
use Rattle.vl_design.specs.vl_base.proofs.BitLaws.{placed-below-it, placed-inside-it, placed-above-it}
use Rattle.vl_design.specs.Syntax.{Row}
use Rattle.vl_design.specs.Width.{signal_form}
use Rattle.vl_design.specs.Value.{words_of}
use Rattle.vl_design.specs.State.{Update, with_update, all_updated}
use Rattle.vl_design.specs.Laws.{InRange}
use Rattle.vl_design.proofs.Ranging.{updates_in_range}
use Rattle.vl_paths.specs.Bits.{Bit, is_among}
use Rattle.vl_paths.specs.Alike.{SameAt}
use Rattle.vl_paths.specs.Nets.{Paired}
use Rattle.vl_paths.proofs.Ways.{or_true, or_left, or_right, and_true, either, or_assoc}
use Rattle.vl_paths.proofs.Reading.{word_below}
pub use Rattle.vl_design.specs.vl_base.proofs.Bounds.{placed-below as placed_below}
pub use Rattle.vl_design.specs.vl_base.proofs.Numbers.{equal_or_not as equal}
pub use Rattle.vl_design.proofs.Kept.{words_set as words_there, words_past as words_none, words_other as words_elsewhere}

-- the update writes the bit
abbrev pub covers : List Row → Update → Bit → Bool
covers rows u b = is_among b u.signal (pos 0) (signal_form rows u.signal).width && is_among b u.signal u.low u.width

pub among_signal : (b : Bit) (k : ℕ) (low : ℤ) (w : ℕ) → is_among b k low w ≡ true → b.signal ≡ k
among_signal b k low w h = grind (arith, ints)

pub among_low : (b : Bit) (k : ℕ) (low : ℤ) (w : ℕ) → is_among b k low w ≡ true → low ≤ℤ pos b.place
among_low b k low w h = grind (arith, ints)

pub among_high : (b : Bit) (k : ℕ) (low : ℤ) (w : ℕ) → is_among b k low w ≡ true → pos b.place <ℤ (low +ℤ pos w)
among_high b k low w h = grind (arith, ints)

-- where a place is, against a range
pub place_cases : (i : ℕ) (low : ℤ) (w : ℕ) → (pos i <ℤ low) ⊎ ((low ≤ℤ pos i) × (pos i <ℤ (low +ℤ pos w))) ⊎ ((low +ℤ pos w) ≤ℤ pos i)
place_cases i low w = grind (arith, ints)

pub words_past : (v : List (List ℕ)) (j : ℕ) (ws : List ℕ) → length v ≤ j → words_of (slice_set v j ws) j ≡ []
words_past v j ws l = unwrap_or-slice_get (slice_set v j ws) j [] ∙ get_or_past (slice_set v j ws) j [] (omega (arith, length-set v j ws))

-- an update of a signal that has one word
pub record IsOfSignal (is_memory : ℕ → Bool) (u : Update) : Type 0 where
  pub word : u.word ≡ 0
  pub signal : is_memory u.signal ≡ false
  pub value : u.value < 2 ^ u.width

module _ (is_memory : ℕ → Bool) (rows : List Row) where
  pub weaker : (p q : Bit → Bool) (v w : List (List ℕ)) → ((b : Bit) → q b ≡ true → p b ≡ true) → Paired is_memory rows p v w → Paired is_memory rows q v w
  weaker p q v w h d = record {
    same = record { left = d.same.left; right = d.same.right; bits = λ b word g. d.same.bits b word (h b g) };
    many = d.many;
    words = d.words;
    lone = d.lone;
  }

  module _ (p : Bit → Bool) (u : Update) (plain : IsOfSignal is_memory u) (v w : List (List ℕ)) (d : Paired is_memory rows p v w) where
    words_after : (x : List (List ℕ)) → (k : ℕ) → length (words_of (with_update rows x u) k) ≡ length (words_of x k)
    words_after x k = go (equal k u.signal) (cases_lt u.signal (length x))
      where
        ws : List ℕ
        ws = slice_set (words_of x u.signal) u.word (placed (signal_form rows u.signal).width (slice_index (words_of x u.signal) u.word) u.low u.width u.value)

        go : (k ≡ u.signal) ⊎ (k ≢ u.signal) → (u.signal < length x) ⊎ (length x ≤ u.signal) → length (words_of (with_update rows x u) k) ≡ length (words_of x k)
        go (inr e) y = ap length (words_elsewhere x u.signal k ws e)
        go (inl e) (inl l) = rw e (ap length (words_there x u.signal ws l) ∙ length-set (words_of x u.signal) u.word _)
        go (inl e) (inr l) = rw e (ap length (words_past x u.signal ws l ∙ sym (words_none x u.signal l)))

    -- the word that an update leaves
    left_there : (x : List (List ℕ)) → u.signal < length x → 0 < length (words_of x u.signal) →
        slice_index (words_of (with_update rows x u) u.signal) 0 ≡ placed (signal_form rows u.signal).width (slice_index (words_of x u.signal) 0) u.low u.width u.value
    left_there x l m = rw plain.word (ap (λ ws. slice_index ws 0) (words_there x u.signal _ l) ∙ get_or-set_same (words_of x u.signal) 0 _ 0 m)

    in_left : InRange rows (with_update rows v u)
    in_left = updates_in_range rows (u ∷ []) v d.same.left

    in_right : InRange rows (with_update rows w u)
    in_right = updates_in_range rows (u ∷ []) w d.same.right

    no_word : (x : List (List ℕ)) (k word : ℕ) → length (words_of x k) ≤ word → slice_index (words_of (with_update rows x u) k) word ≡ 0
    no_word x k word l = get_or_past (words_of (with_update rows x u) k) word 0 (omega (arith, words_after x k, l))

    bit_after : (b : Bit) (word : ℕ) → (p b || covers rows u b) ≡ true →
        bit_of (slice_index (words_of (with_update rows v u) b.signal) word) (pos b.place) ≡ bit_of (slice_index (words_of (with_update rows w u) b.signal) word) (pos b.place)
    bit_after b word h = go (equal b.signal u.signal) (cases_lt word (length (words_of v b.signal)))
      where
        k : ℕ
        k = b.signal

        old : p b ≡ true → bit_of (slice_index (words_of v b.signal) word) (pos b.place) ≡ bit_of (slice_index (words_of w b.signal) word) (pos b.place)
        old g = d.same.bits b word g

        uncovered : ((covers rows u b ≡ true) → ⊥) → p b ≡ true
        uncovered n = elim (or_true (p b) (covers rows u b) h) [ inl g ↦ g | inr g ↦ absurd (n g) ]

        there : (x : List (List ℕ)) → length (words_of x b.signal) ≡ length (words_of v b.signal) → b.signal ≡ u.signal → word < length (words_of v b.signal) → u.signal < length x
        there x e s l = elim (cases_lt u.signal (length x)) [ inl m ↦ m | inr m ↦ absurd (let z : length (words_of x b.signal) ≡ 0 = rw s (ap length (words_none x u.signal m)) in omega (arith, z, e, l)) ]

        now : (x : List (List ℕ)) → length (words_of x b.signal) ≡ length (words_of v b.signal) → b.signal ≡ u.signal → word < length (words_of v b.signal) → word ≡ 0 →
            slice_index (words_of (with_update rows x u) b.signal) word ≡ placed (signal_form rows u.signal).width (slice_index (words_of x u.signal) 0) u.low u.width u.value
        now x e s l z = rw (s, z) (left_there x (there x e s l) (let f : length (words_of x u.signal) ≡ length (words_of v b.signal) = rw (← s) e in omega (arith, f, l)))

        go : (b.signal ≡ u.signal) ⊎ (b.signal ≢ u.signal) → (word < length (words_of v b.signal)) ⊎ (length (words_of v b.signal) ≤ word) →
            bit_of (slice_index (words_of (with_update rows v u) b.signal) word) (pos b.place) ≡ bit_of (slice_index (words_of (with_update rows w u) b.signal) word) (pos b.place)
        go e (inr l) = ap (λ x. bit_of x (pos b.place)) (no_word v b.signal word l ∙ sym (no_word w b.signal word (omega (arith, d.words b.signal, l))))
        go (inr e) (inl l) = ap (λ ws. bit_of (slice_index ws word) (pos b.place)) (words_elsewhere v u.signal b.signal _ e)
            ∙ old (uncovered (λ g. e (among_signal b u.signal u.low u.width (and_true _ _ g).1)))
            ∙ sym (ap (λ ws. bit_of (slice_index ws word) (pos b.place)) (words_elsewhere w u.signal b.signal _ e))
        go (inl e) (inl l) = rw (now v refl e l zero_word, now w (sym (d.words b.signal)) e l zero_word) (by (cases_lt b.place wide) (place_cases b.place u.low u.width))
          where
            wide : ℕ
            wide = (signal_form rows u.signal).width

            zero_word : word ≡ 0
            zero_word = let m : length (words_of v b.signal) ≤ 1 = d.lone b.signal (ap is_memory e ∙ plain.signal) in omega (arith, l, m)

            before : List (List ℕ) → ℕ
            before x = slice_index (words_of x u.signal) 0

            after : List (List ℕ) → ℕ
            after x = placed wide (before x) u.low u.width u.value

            old0 : p b ≡ true → bit_of (before v) (pos b.place) ≡ bit_of (before w) (pos b.place)
            old0 g = d.same.bits (record { signal = u.signal; place = b.place }) 0 (subst (λ j. p (record { signal = j; place = b.place }) ≡ true) e g)

            by : (b.place < wide) ⊎ (wide ≤ b.place) → (pos b.place <ℤ u.low) ⊎ ((u.low ≤ℤ pos b.place) × (pos b.place <ℤ (u.low +ℤ pos u.width))) ⊎ ((u.low +ℤ pos u.width) ≤ℤ pos b.place) →
                bit_of (after v) (pos b.place) ≡ bit_of (after w) (pos b.place)
            by (inr m) y = bit_at_above (after v) wide b.place (placed_below wide (before v) u.low u.width u.value) m ∙ sym (bit_at_above (after w) wide b.place (placed_below wide (before w) u.low u.width u.value) m)
            by (inl m) (inl g) = placed-below-it wide (before v) u.low u.width u.value b.place m g
                ∙ old0 (uncovered (λ c. let f : u.low ≤ℤ pos b.place = among_low b u.signal u.low u.width (and_true (is_among b u.signal (pos 0) (signal_form rows u.signal).width) (is_among b u.signal u.low u.width) c).1 in omega (arith, ints, f, g)))
                ∙ sym (placed-below-it wide (before w) u.low u.width u.value b.place m g)
            by (inl m) (inr (inl g)) = placed-inside-it wide (before v) u.low u.width u.value b.place m g.0 g.1 ∙ sym (placed-inside-it wide (before w) u.low u.width u.value b.place m g.0 g.1)
            by (inl m) (inr (inr g)) = placed-above-it wide (before v) u.low u.width u.value b.place plain.value m g
                ∙ old0 (uncovered (λ c. let f : pos b.place <ℤ (u.low +ℤ pos u.width) = among_high b u.signal u.low u.width (and_true (is_among b u.signal (pos 0) (signal_form rows u.signal).width) (is_among b u.signal u.low u.width) c).1 in omega (arith, ints, f, g)))
                ∙ sym (placed-above-it wide (before w) u.low u.width u.value b.place plain.value m g)

    pub after_one : Paired is_memory rows (λ b. p b || covers rows u b) (with_update rows v u) (with_update rows w u)
    after_one = record {
      same = record { left = in_left; right = in_right; bits = λ b word h. bit_after b word h };
      many = length-set v u.signal _ ∙ d.many ∙ sym (length-set w u.signal _);
      words = λ k. words_after v k ∙ d.words k ∙ sym (words_after w k);
      lone = λ k m. omega (arith, words_after v k, d.lone k m);
    }

  abbrev pub covered : List Update → Bit → Bool
  covered [] b = false
  covered (u ∷ us) b = covers rows u b || covered us b

  abbrev pub AreOfSignals : List Update → Type 0
  AreOfSignals [] = Unit {0}
  AreOfSignals (u ∷ us) = IsOfSignal is_memory u × AreOfSignals us

  pub after_all : (us : List Update) → AreOfSignals us → (p q : Bit → Bool) (v w : List (List ℕ)) → ((b : Bit) → q b ≡ true → (p b || covered us b) ≡ true) →
      Paired is_memory rows p v w → Paired is_memory rows q (all_updated rows v us) (all_updated rows w us)
  after_all [] a p q v w h d = weaker p q v w (λ b g. no_more (p b) (h b g)) d
    where
      no_more : (x : Bool) → (x || false) ≡ true → x ≡ true
      no_more true e = refl
      no_more false e = e
  after_all (u ∷ us) a p q v w h d = after_all us a.1 (λ b. p b || covers rows u b) q (with_update rows v u) (with_update rows w u) (λ b g. or_assoc (p b) (covers rows u b) (covered us b) ∙ h b g) (after_one p u a.0 v w d)
