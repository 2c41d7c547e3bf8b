-- What a combinational process gives depends only on the bits that it reads first.
use Rattle.std.proofs.Common.{◌≡◌, ℕ, ◌+◌, ◌/◌, ◌%◌, ◌^◌, ◌<◌, Bool, true, false, List, [], ◌∷◌, ◌++◌, Option, Some, None, length, refl, sym, ap, ◌∙◌, subst, arith}
use Rattle.std.specs.Prelude.{◌||◌, ◌&&◌, not, ◌⊎◌, ℤ, pos, ◌+ℤ◌, ◌==◌, if◌then◌else◌, map, bit_and, bit_xor}
use Rattle.std.proofs.Math.Pow.{pow_pos}
use Rattle.std.proofs.Math.Nat.{mod-lt}
use Rattle.std.proofs.lemmas.Int.{ints}
use mathlib.Core.Logic.{inl, inr}
use Rattle.vl_design.specs.declared.design.Form.{Form}
use Rattle.vl_design.specs.declared.design.LowestBit.{LowestBit}
use Rattle.vl_design.specs.Syntax.{Exp, Num, Label, Sig, Word, Pick, Slice, Un, Bin, Cond, Cat, Rep, Cast, Call, Time, LastAnswer, Exps, NoExps, MoreExps, Target, Whole, WordAt, PickAt, SliceAt, Several, Targets, NoTargets, MoreTargets, Stm, Nop, Then, If, Case, For, Repeat, Set, Later, Sys, Items, NoItems, Labelled, Default, Row}
use Rattle.vl_design.specs.Width.{Scope, form, signal_form, assigned}
use Rattle.vl_design.specs.Value.{Sample, value, own_value, own_reading, lowest_bit}
use Rattle.vl_design.specs.State.{State, Update, sample, counted, all_updated}
use Rattle.vl_design.specs.Targets.{Spot, within, spots, all_spots, target_width, spots_width, update_at, updates_at, assignment}
use Rattle.vl_design.specs.Exec.{items_form, compared, label_matches, some_match, is_true, asks, counted_if, exec, exec_items, exec_default, holds, items_hold}
use Rattle.vl_paths.specs.Bits.{Bit, is_among, is_of, known_low, bit_read, some_bit_read, index_reads, some_index_reads, part_sets, bit_set, some_bit_set}
use Rattle.vl_paths.specs.Paths.{always, always_in, early, early_in, label_reads}
use Rattle.vl_paths.specs.Alike.{SameAt}
use Rattle.vl_paths.specs.Nets.{IsBase, IsPlain, ArePlain, IsNetStm, AreNetItems, Paired, Twins}
use Rattle.vl_paths.proofs.Ways.{or_true, or_left, or_right, and_true, both_true, either, or_assoc}
use Rattle.vl_paths.proofs.Reading.{value_same, known_is}
use Rattle.vl_paths.proofs.Writing.{covers, IsOfSignal, weaker, covered, AreOfSignals, after_all}

-- ---- spots

module _ (is_memory : ℕ → Bool) (scope : Scope) where
  IsSpot : Spot → Type 0
  IsSpot x = (x.word ≡ 0) × (is_memory x.signal ≡ false)

  abbrev pub AreSpots : List Spot → Type 0
  AreSpots [] = Unit {0}
  AreSpots (x ∷ xs) = (x.word ≡ 0) × (is_memory x.signal ≡ false) × AreSpots xs

  spots_joined : (xs ys : List Spot) → AreSpots xs → AreSpots ys → AreSpots (xs ++ ys)
  spots_joined [] ys g h = h
  spots_joined (x ∷ xs) ys g h = (g.0, g.1, spots_joined xs ys g.2 h)

  spots_within : (low : ℤ) (w : ℕ) (xs : List Spot) → AreSpots xs → AreSpots (map (within low w) xs)
  spots_within low w [] g = tt
  spots_within low w (x ∷ xs) g = (g.0, g.1, spots_within low w xs g.2)

  base_plain : (t : Target) → IsBase is_memory t → IsPlain is_memory t
  base_plain (Whole k) h = h
  base_plain (WordAt m a) h = absurd h
  base_plain (PickAt base i from w) h = absurd h
  base_plain (SliceAt base low w) h = absurd h
  base_plain (Several ts) h = absurd h

  mutual
    pub are_spots : (s : Sample) (t : Target) → IsPlain is_memory t → AreSpots (spots scope s t)
    are_spots s (Whole k) h = (refl, h, tt)
    are_spots s (WordAt m a) h = absurd h
    are_spots s (PickAt base i from w) h = spots_within _ w (spots scope s base) (are_spots s base (base_plain base h))
    are_spots s (SliceAt base low w) h = spots_within low w (spots scope s base) (are_spots s base (base_plain base h))
    are_spots s (Several ts) h = are_all_spots s ts h

    are_all_spots : (s : Sample) (ts : Targets) → ArePlain is_memory ts → AreSpots (all_spots scope s ts)
    are_all_spots s NoTargets h = tt
    are_all_spots s (MoreTargets t ts) h = spots_joined (spots scope s t) (all_spots scope s ts) (are_spots s t h.0) (are_all_spots s ts h.1)

  pub updates_of : (xs : List Spot) (v : ℕ) → AreSpots xs → AreOfSignals is_memory scope.names.rows (updates_at xs v)
  updates_of [] v g = tt
  updates_of (x ∷ xs) v g = (record { word = g.0; signal = g.1; value = mod-lt _ (pow_pos x.width) }, updates_of xs v g.2)

  -- the spots have the bit
  abbrev pub has : Bit → List Spot → Bool
  has b [] = false
  has b (x ∷ xs) = (is_among b x.signal (pos 0) (signal_form scope.names.rows x.signal).width && is_among b x.signal x.low x.width) || has b xs

  pub has_covered : (b : Bit) (xs : List Spot) (v : ℕ) → covered is_memory scope.names.rows (updates_at xs v) b ≡ has b xs
  has_covered b [] v = refl
  has_covered b (x ∷ xs) v = ap (λ y. (is_among b x.signal (pos 0) (signal_form scope.names.rows x.signal).width && is_among b x.signal x.low x.width) || y) (has_covered b xs v)

  pub has_joined : (b : Bit) (xs ys : List Spot) → has b (xs ++ ys) ≡ (has b xs || has b ys)
  has_joined b [] ys = refl
  has_joined b (x ∷ xs) ys = rw (has_joined b xs ys) (sym (or_assoc (is_among b x.signal (pos 0) (signal_form scope.names.rows x.signal).width && is_among b x.signal x.low x.width) (has b xs) (has b ys)))

  pub or_none : (x : Bool) → (x || false) ≡ x
  or_none true = refl
  or_none false = refl

  and_self : (x : Bool) → x ≡ true → (x && x) ≡ true
  and_self true h = refl
  and_self false h = h

  -- a bit that is set for sure is in a spot
  part_has : (b : Bit) (s : Sample) (base : Target) (o : Option ℤ) (low : ℤ) (w : ℕ) → (o ≡ Some low) ⊎ (o ≡ None) → part_sets scope.names false b base o w ≡ true → has b (map (within low w) (spots scope s base)) ≡ true
  part_has b s (Whole k) o low w (inl e) h = let z : pos 0 +ℤ low ≡ low = omega (arith, ints) in rw z (or_none _ ∙ (rw e at h))
  part_has b s (Whole k) o low w (inr e) h = let f = rw e at h in let z : ⊥ = cc in absurd z
  part_has b s (WordAt m a) o low w e h = let z : ⊥ = cc in absurd z
  part_has b s (PickAt x i from v) o low w e h = let z : ⊥ = cc in absurd z
  part_has b s (SliceAt x l v) o low w e h = let z : ⊥ = cc in absurd z
  part_has b s (Several ts) o low w e h = let z : ⊥ = cc in absurd z

  mutual
    set_has : (b : Bit) (s : Sample) (t : Target) → bit_set scope.names false b t ≡ true → has b (spots scope s t) ≡ true
    set_has b s (Whole k) h = or_none _ ∙ and_self _ h
    set_has b s (WordAt m a) h = let z : ⊥ = cc in absurd z
    set_has b s (PickAt base i from w) h = part_has b s base (known_low scope.names from i) (lowest_bit from (own_reading scope s i)) w (known_is scope s from i) h
    set_has b s (SliceAt base low w) h = part_has b s base (Some low) low w (inl refl) h
    set_has b s (Several ts) h = all_has b s ts h

    all_has : (b : Bit) (s : Sample) (ts : Targets) → some_bit_set scope.names false b ts ≡ true → has b (all_spots scope s ts) ≡ true
    all_has b s NoTargets h = let z : ⊥ = cc in absurd z
    all_has b s (MoreTargets t ts) h = has_joined b (spots scope s t) (all_spots scope s ts) ∙ (elim (or_true (bit_set scope.names false b t) (some_bit_set scope.names false b ts) h) [
      | inl g ↦ or_left (has b (spots scope s t)) _ (set_has b s t g)
      | inr g ↦ or_right (has b (spots scope s t)) _ (all_has b s ts g)
    ])

  -- ---- states

  module _ (p : Bit → Bool) (s t : State) (d : Twins is_memory scope.names.rows p s t) where
    same_value : (e : Exp) → ((b : Bit) → bit_read scope.names b e ≡ true → p b ≡ true) → (c : Form) → value scope (sample s) e c ≡ value scope (sample t) e c
    same_value = value_same scope p (sample s) (sample t) d.values.same d.time d.answer

    mutual
      same_spots : (x : Target) → ((b : Bit) → index_reads scope.names b x ≡ true → p b ≡ true) → spots scope (sample s) x ≡ spots scope (sample t) x
      same_spots (Whole k) h = refl
      same_spots (WordAt m a) h = rw (same_value a h (form scope.names a)) refl
      same_spots (PickAt base i from w) h =
          rw (
            same_spots base (λ b g. h b (or_left (index_reads scope.names b base) (bit_read scope.names b i) g)),
            same_value i (λ b g. h b (or_right (index_reads scope.names b base) (bit_read scope.names b i) g)) (form scope.names i),
          ) refl
      same_spots (SliceAt base low w) h = rw (same_spots base h) refl
      same_spots (Several ts) h = same_all_spots ts h

      same_all_spots : (xs : Targets) → ((b : Bit) → some_index_reads scope.names b xs ≡ true → p b ≡ true) → all_spots scope (sample s) xs ≡ all_spots scope (sample t) xs
      same_all_spots NoTargets h = refl
      same_all_spots (MoreTargets x xs) h =
          rw (
            same_spots x (λ b g. h b (or_left (index_reads scope.names b x) (some_index_reads scope.names b xs) g)),
            same_all_spots xs (λ b g. h b (or_right (index_reads scope.names b x) (some_index_reads scope.names b xs) g)),
          ) refl

    same_match : (c : Form) (v : ℕ) (es : Exps) → ((b : Bit) → some_bit_read scope.names b es ≡ true → p b ≡ true) → some_match scope (sample s) c v es ≡ some_match scope (sample t) c v es
    same_match c v NoExps h = refl
    same_match c v (MoreExps e es) h = rw (one e (λ b g. h b (or_left (bit_read scope.names b e) (some_bit_read scope.names b es) g)), same_match c v es (λ b g. h b (or_right (bit_read scope.names b e) (some_bit_read scope.names b es) g))) refl
      where
        one : (e : Exp) → ((b : Bit) → bit_read scope.names b e ≡ true → p b ≡ true) → label_matches scope (sample s) c v e ≡ label_matches scope (sample t) c v e
        one (Label l care w signed) h = refl
        one e h = rw (same_value e h c) refl

    weaker_twins : (q : Bit → Bool) → ((b : Bit) → q b ≡ true → p b ≡ true) → Twins is_memory scope.names.rows q s t
    weaker_twins q h = record { values = weaker is_memory scope.names.rows p q s.values t.values h d.values; time = d.time; answer = d.answer; alive = d.alive; too = d.too }

    counted_twins : (x y : Bool) → Twins is_memory scope.names.rows p (counted_if x s) (counted_if y t)
    counted_twins x y = by (x && not s.finished) (y && not t.finished)
      where
        by : (i j : Bool) → Twins is_memory scope.names.rows p (if i then counted s else s) (if j then counted t else t)
        by true true = record { values = d.values; time = d.time; answer = d.answer; alive = d.alive; too = d.too }
        by true false = record { values = d.values; time = d.time; answer = d.answer; alive = d.alive; too = d.too }
        by false true = record { values = d.values; time = d.time; answer = d.answer; alive = d.alive; too = d.too }
        by false false = d

    set_twins : (x : Target) (e : Exp) (q : Bit → Bool) → IsPlain is_memory x → ((b : Bit) → (index_reads scope.names b x || bit_read scope.names b e) ≡ true → p b ≡ true) →
        ((b : Bit) → q b ≡ true → (p b || bit_set scope.names false b x) ≡ true) →
        Twins is_memory scope.names.rows q (exec scope (Set x e) s) (exec scope (Set x e) t)
    set_twins x e q plain h c = by s.finished t.finished d.alive d.too
      where
        done_s : State
        done_s = record s { values = all_updated scope.names.rows s.values (assignment scope (sample s) x e) }

        done_t : State
        done_t = record t { values = all_updated scope.names.rows t.values (assignment scope (sample t) x e) }

        same : assignment scope (sample s) x e ≡ assignment scope (sample t) x e
        same = rw (
          same_spots x (λ b g. h b (or_left (index_reads scope.names b x) (bit_read scope.names b e) g)),
          same_value e (λ b g. h b (or_right (index_reads scope.names b x) (bit_read scope.names b e) g)) (assigned (target_width scope.names x) (form scope.names e)),
        ) refl

        val : ℕ
        val = value scope (sample s) e (assigned (target_width scope.names x) (form scope.names e))

        more : (b : Bit) → q b ≡ true → (p b || covered is_memory scope.names.rows (assignment scope (sample s) x e) b) ≡ true
        more b g = elim (or_true (p b) (bit_set scope.names false b x) (c b g)) [
          | inl k ↦ or_left (p b) _ k
          | inr k ↦ or_right (p b) _ (has_covered b (spots scope (sample s) x) val ∙ set_has b (sample s) x k)
        ]

        values : Paired is_memory scope.names.rows q (all_updated scope.names.rows s.values (assignment scope (sample s) x e)) (all_updated scope.names.rows t.values (assignment scope (sample t) x e))
        values = subst (λ us. Paired is_memory scope.names.rows q (all_updated scope.names.rows s.values (assignment scope (sample s) x e)) (all_updated scope.names.rows t.values us)) same
            (after_all is_memory scope.names.rows (assignment scope (sample s) x e) (updates_of (spots scope (sample s) x) val (are_spots (sample s) x plain)) p q s.values t.values more d.values)

        done : Twins is_memory scope.names.rows q done_s done_t
        done = record { values = values; time = d.time; answer = d.answer; alive = d.alive; too = d.too }

        by : (i j : Bool) → i ≡ false → j ≡ false → Twins is_memory scope.names.rows q (if i then s else done_s) (if j then t else done_t)
        by false false g k = done
        by true j g k = let z : ⊥ = cc in absurd z
        by false true g k = let z : ⊥ = cc in absurd z

  or_and_left : (p x y : Bool) → (p || (x && y)) ≡ true → (p || x) ≡ true
  or_and_left true x y h = refl
  or_and_left false true y h = refl
  or_and_left false false y h = h

  or_and_right : (p x y : Bool) → (p || (x && y)) ≡ true → (p || y) ≡ true
  or_and_right true x y h = refl
  or_and_right false true y h = h
  or_and_right false false y h = let z : ⊥ = cc in absurd z

  pick : (q : Bit → Bool) (i j : Bool) (a a' b b' : State) → i ≡ j → Twins is_memory scope.names.rows q a a' → Twins is_memory scope.names.rows q b b' → Twins is_memory scope.names.rows q (if i then a else b) (if j then a' else b')
  pick q true true a a' b b' e g h = g
  pick q true false a a' b b' e g h = let z : ⊥ = cc in absurd z
  pick q false true a a' b b' e g h = let z : ⊥ = cc in absurd z
  pick q false false a a' b b' e g h = h

  -- what is read behind x is read first, or assigned in x
  behind : (p ax ex ey : Bool) → ((ex || (not ax && ey)) ≡ true → p ≡ true) → ey ≡ true → (p || ax) ≡ true
  behind p true ex ey h e = or_right p true refl
  behind p false ex ey h e = or_left p false (h (or_right ex ey e))

  mutual
    pub exec_twins : (a : Stm) → IsNetStm is_memory a → (p q : Bit → Bool) (s t : State) → ((b : Bit) → early scope.names b a ≡ true → p b ≡ true) →
        ((b : Bit) → q b ≡ true → (p b || always scope.names b a) ≡ true) → Twins is_memory scope.names.rows p s t → Twins is_memory scope.names.rows q (exec scope a s) (exec scope a t)
    exec_twins Nop n p q s t h c d = weaker_twins p s t d q (λ b g. sym (or_none (p b)) ∙ c b g)
    exec_twins (Then x y) n p q s t h c d =
        let r : Bit → Bool = λ b. p b || always scope.names b x in
        exec_twins y n.1 r q (exec scope x s) (exec scope x t)
        (λ b g. behind (p b) (always scope.names b x) (early scope.names b x) (early scope.names b y) (h b) g)
        (λ b g. or_assoc (p b) (always scope.names b x) (always scope.names b y) ∙ c b g)
        (exec_twins x n.0 p r s t (λ b g. h b (or_left (early scope.names b x) (not (always scope.names b x) && early scope.names b y) g)) (λ b g. g) d)
    exec_twins (If u x y) n p q s t h c d =
        let s' : State = counted_if (asks u || (holds scope s x || holds scope s y)) s in
        let t' : State = counted_if (asks u || (holds scope t x || holds scope t y)) t in
        let d' : Twins is_memory scope.names.rows p s' t' = counted_twins p s t d (asks u || (holds scope s x || holds scope s y)) (asks u || (holds scope t x || holds scope t y)) in
        pick q (is_true scope u s) (is_true scope u t) (exec scope x s') (exec scope x t') (exec scope y s') (exec scope y t')
        (ap (λ v. not (v == 0)) (same_value p s t d u (λ b g. h b (or_left (bit_read scope.names b u) (early scope.names b x || early scope.names b y) g)) (form scope.names u)))
        (exec_twins x n.0 p q s' t' (λ b g. h b (or_right (bit_read scope.names b u) (early scope.names b x || early scope.names b y) (or_left (early scope.names b x) (early scope.names b y) g))) (λ b g. or_and_left (p b) (always scope.names b x) (always scope.names b y) (c b g)) d')
        (exec_twins y n.1 p q s' t' (λ b g. h b (or_right (bit_read scope.names b u) (early scope.names b x || early scope.names b y) (or_right (early scope.names b x) (early scope.names b y) g))) (λ b g. or_and_right (p b) (always scope.names b x) (always scope.names b y) (c b g)) d')
    exec_twins (Case e items) n p q s t h c d =
        let s' : State = counted_if (items_hold scope s items) s in
        let t' : State = counted_if (items_hold scope t items) t in
        let d' : Twins is_memory scope.names.rows p s' t' = counted_twins p s t d (items_hold scope s items) (items_hold scope t items) in
        let f : Form = items_form scope.names (form scope.names e) items in
        let k : (b : Bit) → early_in scope.names b items ≡ true → p b ≡ true = λ b g. h b (or_right (bit_read scope.names b e || label_reads scope.names b items) (early_in scope.names b items) g) in
        let l : (b : Bit) → (bit_read scope.names b e || label_reads scope.names b items) ≡ true → p b ≡ true = λ b g. h b (or_left (bit_read scope.names b e || label_reads scope.names b items) (early_in scope.names b items) g) in
        let v : value scope (sample s) e f ≡ value scope (sample t) e f = same_value p s t d e (λ b g. l b (or_left (bit_read scope.names b e) (label_reads scope.names b items) g)) f in
        let z = items_twins items n (value scope (sample s) e f) f true p q s' t' (exec_default scope items s') (exec_default scope items t')
        (λ b g. l b (or_right (bit_read scope.names b e) (label_reads scope.names b items) g)) k c (default_twins items n p q s' t' k c d') d' in
        subst (λ m. Twins is_memory scope.names.rows q (exec_items scope (value scope (sample s) e f) f items (exec_default scope items s') s') (exec_items scope m f items (exec_default scope items t') t')) v z
    exec_twins (Set x e) n p q s t h c d = set_twins p s t d x e q n h c
    exec_twins (For k start test step a) n p q s t h c d = absurd n
    exec_twins (Repeat m a) n p q s t h c d = absurd n
    exec_twins (Later x e) n p q s t h c d = absurd n
    exec_twins (Sys task) n p q s t h c d = absurd n

    items_twins : (items : Items) → AreNetItems is_memory items → (v : ℕ) (f : Form) (o : Bool) (p q : Bit → Bool) (s t os ot : State) →
        ((b : Bit) → label_reads scope.names b items ≡ true → p b ≡ true) → ((b : Bit) → early_in scope.names b items ≡ true → p b ≡ true) →
        ((b : Bit) → q b ≡ true → (p b || always_in scope.names b o items) ≡ true) → Twins is_memory scope.names.rows q os ot → Twins is_memory scope.names.rows p s t →
        Twins is_memory scope.names.rows q (exec_items scope v f items os s) (exec_items scope v f items ot t)
    items_twins NoItems n v f o p q s t os ot l h c w d = w
    items_twins (Labelled es a others) n v f o p q s t os ot l h c w d =
        pick q (some_match scope (sample s) f v es) (some_match scope (sample t) f v es) (exec scope a s) (exec scope a t) (exec_items scope v f others os s) (exec_items scope v f others ot t)
        (same_match p s t d f v es (λ b g. l b (or_left (some_bit_read scope.names b es) (label_reads scope.names b others) g)))
        (exec_twins a n.0 p q s t (λ b g. h b (or_left (early scope.names b a) (early_in scope.names b others) g)) (λ b g. or_and_left (p b) (always scope.names b a) (always_in scope.names b o others) (c b g)) d)
        (items_twins others n.1 v f o p q s t os ot (λ b g. l b (or_right (some_bit_read scope.names b es) (label_reads scope.names b others) g)) (λ b g. h b (or_right (early scope.names b a) (early_in scope.names b others) g))
        (λ b g. or_and_right (p b) (always scope.names b a) (always_in scope.names b o others) (c b g)) w d)
    items_twins (Default a others) n v f o p q s t os ot l h c w d =
        items_twins others n.1 v f false p q s t os ot l (λ b g. h b (or_right (early scope.names b a) (early_in scope.names b others) g))
        (λ b g. or_and_right (p b) (always scope.names b a) (always_in scope.names b false others) (c b g)) w d

    default_twins : (items : Items) → AreNetItems is_memory items → (p q : Bit → Bool) (s t : State) → ((b : Bit) → early_in scope.names b items ≡ true → p b ≡ true) →
        ((b : Bit) → q b ≡ true → (p b || always_in scope.names b true items) ≡ true) → Twins is_memory scope.names.rows p s t →
        Twins is_memory scope.names.rows q (exec_default scope items s) (exec_default scope items t)
    default_twins NoItems n p q s t h c d = weaker_twins p s t d q (λ b g. sym (or_none (p b)) ∙ c b g)
    default_twins (Labelled es a others) n p q s t h c d = default_twins others n.1 p q s t (λ b g. h b (or_right (early scope.names b a) (early_in scope.names b others) g))
        (λ b g. or_and_right (p b) (always scope.names b a) (always_in scope.names b true others) (c b g)) d
    default_twins (Default a others) n p q s t h c d = exec_twins a n.0 p q s t (λ b g. h b (or_left (early scope.names b a) (early_in scope.names b others) g))
        (λ b g. or_and_left (p b) (always scope.names b a) (always_in scope.names b false others) (c b g)) d
