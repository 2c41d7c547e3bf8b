-- The value of an expression depends only on the bits that it reads.
use Rattle.std.proofs.Common.{◌≡◌, ℕ, zero, suc, ◌+◌, ◌-◌, ◌%◌, ◌^◌, ◌<◌, ◌≤◌, Bool, true, false, List, [], ◌∷◌, Option, Some, None, length, get_or, refl, sym, ap, ◌∙◌, arith}
use Rattle.std.specs.Prelude.{not, ◌||◌, ◌&&◌, ◌⊎◌, All, ℤ, pos, negsuc, ◌+ℤ◌, ◌-ℤ◌, ◌<ℤ◌, ◌≤ℤ◌, int_le, int_lt, slice_index, ◌==◌, if◌then◌else◌}
use Rattle.std.specs.Int.{bit_at}
use Rattle.std.proofs.Math.Pow.{pow_pos}
use Rattle.std.proofs.Math.Nat.{mod-lt}
use Rattle.std.proofs.lemmas.Int.{ints}
use Rattle.std.proofs.lemmas.Bool.{cases_lt}
use Rattle.std.proofs.lemmas.List.{get_or_past}
use Rattle.std.proofs.lemmas.Nat.Bits.{same_from_bits_below, bit_at_above}
use mathlib.Core.Logic.{inl, inr}
use Rattle.vl_design.specs.vl_base.specs.Value.{reading, resized}
use Rattle.vl_design.specs.vl_base.specs.Selects.{bit_of, picked}
use Rattle.vl_design.specs.vl_base.proofs.BitLaws.{picked-bit}
use Rattle.vl_design.specs.vl_base.proofs.Readings.{wrapped-reading}
use Rattle.vl_design.specs.declared.design.Form.{Form}
use Rattle.vl_design.specs.declared.design.LowestBit.{LowestBit}
use Rattle.vl_design.specs.Syntax.{Exp, Num, Label, Sig, Word, Pick, Slice, Un, Bin, Cond, Cat, Rep, Cast, Call, Time, LastAnswer, Exps, NoExps, MoreExps, Row}
use Rattle.vl_design.specs.vl_base.specs.declared.files.File.{File}
use Rattle.vl_design.specs.Nodes.{has, some_have}
use Rattle.vl_design.specs.Width.{Names, Scope, form, signal_form}
use Rattle.vl_design.specs.Value.{Sample, value, side_by_side, arguments, words_of, value_of, lowest_bit, own_reading}
use Rattle.vl_design.specs.Laws.{InRange}
use Rattle.vl_paths.specs.Bits.{Bit, is_among, is_of, varies, is_constant, closed, nothing, known_low, select_reads, bit_read, some_bit_read}
use Rattle.vl_paths.specs.Alike.{SameAt}
use Rattle.vl_paths.proofs.Ways.{or_false, or_true, or_left, or_right, and_true, both_true, either}
use Rattle.vl_design.specs.vl_base.proofs.Booleans.{not_true_false as is_constant_not}
use Rattle.vl_design.specs.vl_base.proofs.Shared.{picked-below as picked_below}

pub among_is : (b : Bit) (k : ℕ) (low : ℤ) (w : ℕ) → b.signal ≡ k → low ≤ℤ pos b.place → pos b.place <ℤ (low +ℤ pos w) → is_among b k low w ≡ true
among_is b k low w e g h = grind (arith, ints)

pub word_below : (rows : List Row) (v : List (List ℕ)) (k word : ℕ) → InRange rows v → slice_index (words_of v k) word < 2 ^ (signal_form rows k).width
word_below rows v k word r = go (cases_lt word (length (words_of v k)))
  where
    go : (word < length (words_of v k)) ⊎ (length (words_of v k) ≤ word) → slice_index (words_of v k) word < 2 ^ (signal_form rows k).width
    go (inl l) = r k word 0 l
    go (inr l) = let e : slice_index (words_of v k) word ≡ 0 = get_or_past (words_of v k) word 0 l in omega (arith, e, pow_pos (signal_form rows k).width)

-- a constant has one value, whatever files there are, calls mean and signals hold
module _ (names : Names) (files others : List File) (call called : ℕ → List ℕ → ℕ) (s t : Sample) where
  abbrev here : Scope
  here = record { names = names; files = files; call = call }

  abbrev there : Scope
  there = record { names = names; files = others; call = called }

  mutual
    constant_value : (e : Exp) → has varies e ≡ false → (c : Form) → value here s e c ≡ value there t e c
    constant_value (Num v w signed) h c = refl
    constant_value (Label v care w signed) h c = refl
    constant_value (Sig k) h c = let z : ⊥ = cc in absurd z
    constant_value (Word m a) h c = let z : ⊥ = cc in absurd z
    constant_value (Pick b i from w) h c = let g = or_false (has varies b) (has varies i) h in rw (constant_value b g.0 (form names b), constant_value i g.1 (form names i)) refl
    constant_value (Slice b low w) h c = rw (constant_value b h (form names b)) refl
    constant_value (Un op a) h c = rw (constant_value a h _) refl
    constant_value (Bin op a b) h c = let g = or_false (has varies a) (has varies b) h in rw (constant_value a g.0 _, constant_value b g.1 _) refl
    constant_value (Cond u a b) h c =
        let g = or_false (has varies u) (has varies a || has varies b) h in
        let f = or_false (has varies a) (has varies b) g.1 in
        rw (constant_value u g.0 (form names u), constant_value a f.0 c, constant_value b f.1 c) refl
    constant_value (Cat es) h c = constant_side es h
    constant_value (Rep n es) h c = rw (constant_side es h) refl
    constant_value (Cast signed a) h c = rw (constant_value a h (form names a)) refl
    constant_value (Call f es) h c = let z : ⊥ = cc in absurd z
    constant_value Time h c = let z : ⊥ = cc in absurd z
    constant_value LastAnswer h c = let z : ⊥ = cc in absurd z

    constant_side : (es : Exps) → some_have varies es ≡ false → side_by_side here s es ≡ side_by_side there t es
    constant_side NoExps h = refl
    constant_side (MoreExps e es) h = let g = or_false (has varies e) (some_have varies es) h in rw (constant_value e g.0 (form names e), constant_side es g.1) refl

-- where an index is constant, its place is known
pub known_is : (scope : Scope) (s : Sample) (from : LowestBit) (i : Exp) → (known_low scope.names from i ≡ Some (lowest_bit from (own_reading scope s i))) ⊎ (known_low scope.names from i ≡ None)
known_is scope s from i = go (either (is_constant i))
  where
    go : (is_constant i ≡ true) ⊎ (is_constant i ≡ false) → (known_low scope.names from i ≡ Some (lowest_bit from (own_reading scope s i))) ⊎ (known_low scope.names from i ≡ None)
    go (inl e) = inl (ap (λ x. if x then Some (lowest_bit from (own_reading (closed scope.names) nothing i)) else None) e
        ∙ ap (λ v. Some (lowest_bit from (reading (form scope.names i).signed (form scope.names i).width v)))
        (constant_value scope.names [] scope.files (λ f given. 0) scope.call nothing s i (is_constant_not (has varies i) e) (form scope.names i)))
    go (inr e) = inr (ap (λ x. if x then Some (lowest_bit from (own_reading (closed scope.names) nothing i)) else None) e)

module _ (scope : Scope) (p : Bit → Bool) (s t : Sample) (d : SameAt scope.names.rows p s.values t.values) (time : s.time ≡ t.time) (answer : s.answer ≡ t.answer) where
  Covers : (Bit → Bool) → Type 0
  Covers q = (b : Bit) → q b ≡ true → p b ≡ true

  word_same : (k word : ℕ) → ((b : Bit) → is_of scope.names b k ≡ true → p b ≡ true) → slice_index (words_of s.values k) word ≡ slice_index (words_of t.values k) word
  word_same k word h = same_from_bits_below (signal_form scope.names.rows k).width _ _ (word_below scope.names.rows s.values k word d.left) (word_below scope.names.rows t.values k word d.right)
      (λ i l. d.bits (record { signal = k; place = i }) word (h (record { signal = k; place = i }) (among_is (record { signal = k; place = i }) k (pos 0) (signal_form scope.names.rows k).width refl (omega (arith, ints)) (omega (arith, ints)))))

  -- a known select of a signal
  part_same : (k : ℕ) (low : ℤ) (w : ℕ) → ((b : Bit) → (is_of scope.names b k && is_among b k low w) ≡ true → p b ≡ true) →
      picked (signal_form scope.names.rows k).width (value scope s (Sig k) (signal_form scope.names.rows k)) low w ≡ picked (signal_form scope.names.rows k).width (value scope t (Sig k) (signal_form scope.names.rows k)) low w
  part_same k low w h = rw (own s d.left, own t d.right)
      (same_from_bits_below w _ _ (picked_below wide (value_of s.values k) low w) (picked_below wide (value_of t.values k) low w)
      (λ i l. picked-bit wide (value_of s.values k) low w i (word_below scope.names.rows s.values k 0 d.left) l
      ∙ one i l (low +ℤ pos i) refl ∙ sym (picked-bit wide (value_of t.values k) low w i (word_below scope.names.rows t.values k 0 d.right) l)))
    where
      wide : ℕ
      wide = (signal_form scope.names.rows k).width

      own : (u : Sample) → InRange scope.names.rows u.values → value scope u (Sig k) (signal_form scope.names.rows k) ≡ value_of u.values k
      own u r = wrapped-reading (signal_form scope.names.rows k).signed wide (value_of u.values k) (word_below scope.names.rows u.values k 0 r)

      one : (i : ℕ) → i < w → (z : ℤ) → low +ℤ pos i ≡ z → bit_of (value_of s.values k) z ≡ bit_of (value_of t.values k) z
      one i l (negsuc n) e = refl
      one i l (pos j) e = go (cases_lt j wide)
        where
          go : (j < wide) ⊎ (wide ≤ j) → bit_of (value_of s.values k) (pos j) ≡ bit_of (value_of t.values k) (pos j)
          go (inl m) = d.bits (record { signal = k; place = j }) 0 (h (record { signal = k; place = j }) (both_true _ _
              (among_is (record { signal = k; place = j }) k (pos 0) wide refl (omega (arith, ints)) (omega (arith, ints)))
              (among_is (record { signal = k; place = j }) k low w refl (omega (arith, ints, e)) (omega (arith, ints, e)))))
          go (inr m) = bit_at_above (value_of s.values k) wide j (word_below scope.names.rows s.values k 0 d.left) m ∙ sym (bit_at_above (value_of t.values k) wide j (word_below scope.names.rows t.values k 0 d.right) m)

  select_same : (base : Exp) (o : Option ℤ) (low : ℤ) (w : ℕ) → (o ≡ Some low) ⊎ (o ≡ None) →
      ((b : Bit) → select_reads b base o w (bit_read scope.names b base) ≡ true → p b ≡ true) →
      (((b : Bit) → bit_read scope.names b base ≡ true → p b ≡ true) → (c : Form) → value scope s base c ≡ value scope t base c) →
      picked (form scope.names base).width (value scope s base (form scope.names base)) low w ≡ picked (form scope.names base).width (value scope t base (form scope.names base)) low w
  select_same (Sig k) o low w (inl e) h ih = part_same k low w (λ b g. h b (rw e g))
  select_same (Sig k) o low w (inr e) h ih = rw (ih (λ b g. h b (rw e g)) (signal_form scope.names.rows k)) refl
  select_same base o low w e h ih = rw (ih h (form scope.names base)) refl

  mutual
    pub value_same : (e : Exp) → ((b : Bit) → bit_read scope.names b e ≡ true → p b ≡ true) → (c : Form) → value scope s e c ≡ value scope t e c
    value_same (Num v w signed) h c = refl
    value_same (Label v care w signed) h c = refl
    value_same (Sig k) h c = rw (word_same k 0 h) refl
    value_same (Word m a) h c =
        rw (
          value_same a (λ b g. h b (or_right (is_of scope.names b m) (bit_read scope.names b a) g)) (form scope.names a),
          word_same m _ (λ b g. h b (or_left (is_of scope.names b m) (bit_read scope.names b a) g)),
        ) refl
    value_same (Pick base i from w) h c =
        rw (← value_same i (λ b g. h b (or_right (select_reads b base (known_low scope.names from i) w (bit_read scope.names b base)) (bit_read scope.names b i) g)) (form scope.names i))
        (select_same base (known_low scope.names from i) (lowest_bit from (own_reading scope s i)) w (known_is scope s from i)
        (λ b g. h b (or_left (select_reads b base (known_low scope.names from i) w (bit_read scope.names b base)) (bit_read scope.names b i) g)) (λ k f. value_same base k f))
    value_same (Slice base low w) h c = select_same base (Some low) low w (inl refl) h (λ k f. value_same base k f)
    value_same (Un op a) h c = rw (value_same a h _) refl
    value_same (Bin op x y) h c =
        rw (
          value_same x (λ b g. h b (or_left (bit_read scope.names b x) (bit_read scope.names b y) g)) _,
          value_same y (λ b g. h b (or_right (bit_read scope.names b x) (bit_read scope.names b y) g)) _,
        ) refl
    value_same (Cond u x y) h c =
        rw (
          value_same u (λ b g. h b (or_left (bit_read scope.names b u) (bit_read scope.names b x || bit_read scope.names b y) g)) (form scope.names u),
          value_same x (λ b g. h b (or_right (bit_read scope.names b u) (bit_read scope.names b x || bit_read scope.names b y) (or_left (bit_read scope.names b x) (bit_read scope.names b y) g))) c,
          value_same y (λ b g. h b (or_right (bit_read scope.names b u) (bit_read scope.names b x || bit_read scope.names b y) (or_right (bit_read scope.names b x) (bit_read scope.names b y) g))) c,
        ) refl
    value_same (Cat es) h c = side_same es h
    value_same (Rep n es) h c = rw (side_same es h) refl
    value_same (Cast signed a) h c = rw (value_same a h (form scope.names a)) refl
    value_same (Call f es) h c = rw (arguments_same es h _) refl
    value_same Time h c = rw time refl
    value_same LastAnswer h c = rw answer refl

    side_same : (es : Exps) → ((b : Bit) → some_bit_read scope.names b es ≡ true → p b ≡ true) → side_by_side scope s es ≡ side_by_side scope t es
    side_same NoExps h = refl
    side_same (MoreExps e es) h =
        rw (
          value_same e (λ b g. h b (or_left (bit_read scope.names b e) (some_bit_read scope.names b es) g)) (form scope.names e),
          side_same es (λ b g. h b (or_right (bit_read scope.names b e) (some_bit_read scope.names b es) g)),
        ) refl

    arguments_same : (es : Exps) → ((b : Bit) → some_bit_read scope.names b es ≡ true → p b ≡ true) → (ws : List ℕ) → arguments scope s es ws ≡ arguments scope t es ws
    arguments_same NoExps h ws = refl
    arguments_same (MoreExps e es) h [] = refl
    arguments_same (MoreExps e es) h (w ∷ ws) =
        rw (
          value_same e (λ b g. h b (or_left (bit_read scope.names b e) (some_bit_read scope.names b es) g)) _,
          arguments_same es (λ b g. h b (or_right (bit_read scope.names b e) (some_bit_read scope.names b es) g)) ws,
        ) refl
