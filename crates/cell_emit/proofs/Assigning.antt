-- Assignments (IEEE 1364-2005, clause 9.2).
use Rattle.std.proofs.Common.{◌≡◌, ◌≢◌, ℕ, zero, suc, ◌+◌, ◌-◌, ◌*◌, ◌/◌, ◌%◌, ◌^◌, ◌<◌, ◌≤◌, min, Bool, true, false, List, [], ◌∷◌, ◌++◌, map, length, Option, Some, None, refl, sym, ap, ◌∙◌, arith, subst, get_or-set_same, get_or-set_other, mod-eq_of_lt, zero-add}
use Rattle.std.specs.Prelude.{ℤ, pos, ◌+ℤ◌, ◌==◌, nat_eq, nat_lt, if◌then◌else◌, replicate, slice_get, slice_index, slice_index_or, slice_set, option_map}
use Rattle.std.proofs.Math.Pow.{pow_pos}
use Rattle.std.proofs.Math.Nat.{mod-one, add-mul-mod_self_right}
use Rattle.std.proofs.lemmas.Int.{ints}
use Rattle.std.proofs.lemmas.Bool.{eqb-true, eq-eqb, ltb-true, ltb-false}
use Rattle.std.proofs.lemmas.List.{map-append, length-set}
use Rattle.std.proofs.lemmas.Option.{slice_get-map}
use Rattle.vl_base.specs.Value.{reading}
use Rattle.vl_base.specs.Selects.{placed}
use Rattle.vl_sites.specs.vl_design.specs.declared.design.SigKind.{SigKind}
use Rattle.vl_sites.specs.vl_design.specs.declared.design.SigKind.TheVariants.{Net, Var, Comb, Loop, Mem, Clock}
use Rattle.vl_sites.specs.vl_design.specs.declared.design.Signal.{Signal}
use Rattle.vl_sites.specs.vl_design.specs.declared.design.LowestBit.{LowestBit}
use Rattle.vl_sites.specs.vl_design.specs.Syntax.{Row}
use Rattle.vl_sites.specs.vl_design.specs.Rows.{row_of}
use Rattle.vl_sites.specs.vl_design.specs.Width.{Names, signal_form}
use Rattle.vl_sites.specs.vl_design.specs.Value as v
use Rattle.vl_sites.specs.vl_design.specs.Value.{Sample, words_of, value_of}
use Rattle.vl_sites.specs.vl_design.specs.Sound.{IsOf, HasValue, IsWidth, IsSignal}
use Rattle.vl_sites.specs.vl_design.specs.State.{State, Update, sample, with_update}
use Rattle.vl_sites.specs.vl_design.specs.Functions.{zeros}
use Rattle.vl_sites.specs.vl_design.specs.Laws.{IsFine}
use Rattle.vl_sites.specs.vl_design.proofs.Kept.{words_set, words_past, words_other}
use Rattle.vl_sites.specs.vl_design.proofs.Ranging.{updates_in_range}
use Rattle.vl_sites.specs.vl_design.proofs.Shaping.{all_shape, shape_on}
use Rattle.cell_form.specs.Data.{ListData, BankData}
use Rattle.cell_form.specs.Values as slots
use Rattle.cell_emit.specs.Slots.{slot, held, width_at, IsIn, Grows, Gives, Nothing}
use Rattle.cell_emit.proofs.Frames.{slot-width, held-fits, held-stays, width-stays, longer-grows, longer-same, longer-then, longer-weaken, met-nothing, gives-as, gives-behind, gives-held, gives-weaken}
use Rattle.cell_emit.specs.Envs.{Env, entry, IsSlot, IsEntry, HasOneWord, Fits, held_or, word_or, HasWords, Stands}
use Rattle.cell_emit.specs.Paths.{Keeps, Low, Constant, By, IsLow, low_in, update_in, written_in, IsWritable, Assigns}
use Rattle.cell_emit.proofs.Staying.{fits-stays, stands-stays, memory-other}
use Rattle.cell_emit.proofs.Walking.{low-stays}
pub use Rattle.vl_sites.specs.vl_design.proofs.Shared.{updated-fine}

-- ---- signals of one word

kind-one : (kind : SigKind) (x : Signal) → x.kind ≡ kind → HasValue kind → (row_of x).words ≡ 1
kind-one Net x e h = rw e refl
kind-one Var x e h = rw e refl
kind-one Comb x e h = rw e refl
kind-one Loop x e h = rw e refl
kind-one Mem x e h = absurd h
kind-one Clock x e h = rw e refl

-- the rows of signals
pub one-word : (xs : List Signal) → HasOneWord (map row_of xs)
one-word xs = record { one = λ k r e h. go xs k r e h }
  where
    go : (ys : List Signal) (k : ℕ) (r : Row) → slice_get (map row_of ys) k ≡ Some r → HasValue r.kind → r.words ≡ 1
    go [] k r e h = let z : ⊥ = cc in absurd z
    go (y ∷ ys) zero r e h =
        let same : row_of y ≡ r = cc in
        subst (λ (q : Row). HasValue q.kind → q.words ≡ 1) same (λ g. kind-one y.kind y refl g) h
    go (y ∷ ys) (suc k) r e h = go ys k r e h

-- those of a function's locals behind a design's
pub one-words : (xs ys : List Signal) → HasOneWord (map row_of xs ++ map row_of ys)
one-words xs ys = subst HasOneWord (map-append row_of xs ys) (one-word (xs ++ ys))

pub one-long : (rows : List Row) (values : List (List ℕ)) (k : ℕ) → HasOneWord rows → IsFine rows values → IsOf HasValue (slice_get rows k) → length (words_of values k) ≡ 1
one-long rows values k o f h = f.shape.words k ∙ go (slice_get rows k) refl h
  where
    go : (r : Option Row) → slice_get rows k ≡ r → IsOf HasValue r → length (words_of (zeros rows) k) ≡ 1
    go None e i = absurd i
    go (Some r) e i =
        let z : slice_get (zeros rows) k ≡ Some (replicate r.words 0) = slice_get-map (λ r. replicate r.words 0) rows k ∙ ap (option_map (λ r. replicate r.words 0)) e in
        let w : r.words ≡ 1 = o.one k r e i.0 in
        rw (z, w) refl

-- a signal whose words are there is there
in-values : (values : List (List ℕ)) (k : ℕ) → length (words_of values k) ≡ 1 → k < length values
in-values values k h = of (nat_lt k (length values)) refl
  where
    of : (b : Bool) → nat_lt k (length values) ≡ b → k < length values
    of true e = ltb-true k (length values) e
    of false e =
        let past : length (words_of values k) ≡ 0 = ap length (words_past values k (ltb-false k (length values) e)) in
        absurd (omega arith)

pub signal-there : (rows : List Row) (k : ℕ) → IsOf HasValue (slice_get rows k) → k < length rows
signal-there [] k h = absurd h
signal-there (r ∷ rows) zero h = omega arith
signal-there (r ∷ rows) (suc k) h = let i = signal-there rows k h in omega arith

pub signal-width : (names : Names) (k : ℕ) → IsSignal names k → IsWidth (signal_form names.rows k).width
signal-width names k h = of (slice_get names.rows k) refl h
  where
    of : (r : Option Row) → slice_get names.rows k ≡ r → IsOf HasValue r → IsWidth (signal_form names.rows k).width
    of None e i = absurd i
    of (Some r) e i = rw e i.1

-- ---- an entry that is replaced

abbrev pub with_entry : Env → ℕ → ℕ → Env
with_entry at k r = record at { slots = slice_set at.slots (k - at.first) (Some r) }

entry-here : (at : Env) (k r n : ℕ) → at.first + length at.slots ≡ n → at.first ≤ k → k < n → entry (with_entry at k r) k ≡ Some r
entry-here at k r n many first last = of (nat_lt k at.first) refl
  where
    of : (b : Bool) → nat_lt k at.first ≡ b → (if b then None else slice_index_or (slice_set at.slots (k - at.first) (Some r)) (k - at.first) None) ≡ Some r
    of true e = let i = ltb-true k at.first e in absurd (omega arith)
    of false e = get_or-set_same at.slots (k - at.first) (Some r) None (omega arith)

entry-other : (at : Env) (k r j : ℕ) → at.first ≤ k → j ≢ k → entry (with_entry at k r) j ≡ entry at j
entry-other at k r j first other = of (nat_lt j at.first) refl
  where
    of : (b : Bool) → nat_lt j at.first ≡ b → (if b then None else slice_index_or (slice_set at.slots (k - at.first) (Some r)) (j - at.first) None) ≡ (if b then None else slice_index_or at.slots (j - at.first) None)
    of true e = refl
    of false e =
        let i = ltb-false j at.first e in
        let apart : (j - at.first) ≢ (k - at.first) = λ same. other (omega arith) in
        get_or-set_other at.slots (k - at.first) (j - at.first) (Some r) None apart

-- what is read of an entry that is there
pub entry-read : (at : Env) (k n : ℕ) (d : Option ℕ) → at.first + length at.slots ≡ n → at.first ≤ k → k < n → slice_index_or at.slots (k - at.first) d ≡ entry at k
entry-read at k n d many first last = of (nat_lt k at.first) refl
  where
    any : (es : List (Option ℕ)) (i : ℕ) → i < length es → slice_index_or es i d ≡ slice_index_or es i None
    any [] i h = absurd (omega arith)
    any (e ∷ es) zero h = refl
    any (e ∷ es) (suc i) h = any es i (omega arith)

    of : (b : Bool) → nat_lt k at.first ≡ b → slice_index_or at.slots (k - at.first) d ≡ (if b then None else slice_index_or at.slots (k - at.first) None)
    of true e = let i = ltb-true k at.first e in absurd (omega arith)
    of false e = any at.slots (k - at.first) (omega arith)

pub is-or-not : (P : ℕ → Type 0) (j k : ℕ) → P k → (j ≢ k → P j) → P j
is-or-not P j k here other = of (nat_eq j k) refl
  where
    of : (b : Bool) → nat_eq j k ≡ b → P j
    of true e = subst P (sym (eqb-true j k e)) here
    of false e = other (λ i. (let t = eq-eqb j k i in let z : ⊥ = cc in z))

module _ (names : Names) (old new : ListData) (at : Env) (k w r : ℕ) (g : Grows old new) (writable : IsWritable names old at k w) (slot : IsSlot new r w) where
  here-is : entry (with_entry at k r) k ≡ Some r
  here-is = entry-here at k r (length names.rows) writable.fits.many writable.first (signal-there names.rows k writable.is_signal)

  pub fits-with : Fits names new (with_entry at k r)
  fits-with =
      let f = fits-stays names old new at g writable.fits in
      record {
        many = ap (λ n. at.first + n) (length-set at.slots (k - at.first) (Some r)) ∙ f.many;
        signals = λ j h.
            is-or-not (λ i. IsEntry new (signal_form names.rows j).width (entry (with_entry at k r) i) → IsEntry new (signal_form names.rows j).width (entry (with_entry at k r) i)) j k (λ x. x) (λ n x. x)
            (is-or-not (λ i. IsSignal names i → IsEntry new (signal_form names.rows i).width (entry (with_entry at k r) i)) j k
            (λ i. subst (IsEntry new (signal_form names.rows k).width) (sym here-is) (record { there = slot.there; width = slot.width ∙ sym writable.width }))
            (λ n i. subst (IsEntry new (signal_form names.rows j).width) (sym (entry-other at k r j writable.first n)) (f.signals j i)) h);
        time = f.time;
        answer = f.answer;
        here = f.here;
        away = f.away;
        is_here = f.is_here;
        is_away = f.is_away;
      }

  pub keeps-with : Keeps names at (with_entry at k r)
  keeps-with = record { first = refl; time = refl; answer = refl; here = refl; away = refl; memories = λ m h. entry-other at k r m writable.first (memory-other names k m writable.is_signal h) }

  -- the new entry holds the signal's new value, and other signals stay
  pub stands-with : (b : BankData) (x : Sample) (values : List (List ℕ)) → Stands names b old at x → IsFine names.rows values → value_of values k ≡ held b new r →
      ((j : ℕ) → j ≢ k → words_of values j ≡ words_of x.values j) → Stands names b new (with_entry at k r) (record x { values = values })
  stands-with b x values st fine value others =
      let st' = stands-stays names b old new at x g writable.fits st in
      record {
        fine = fine;
        values = λ j h.
            is-or-not (λ i. IsSignal names i → value_of values i ≡ held_or b new (entry (with_entry at k r) i)) j k
            (λ i. value ∙ ap (held_or b new) (sym here-is))
            (λ n i. ap (λ ws. slice_index ws 0) (others j n) ∙ st'.values j i ∙ ap (held_or b new) (sym (entry-other at k r j writable.first n))) h;
        words = λ m j h.
            let n = memory-other names k m writable.is_signal h in
            ap (λ ws. slice_index ws j) (others m n) ∙ st'.words m j h ∙ ap (λ e. word_or b e j) (sym (entry-other at k r m writable.first n));
        many = λ m h.
            let n = memory-other names k m writable.is_signal h in
            let F : Option ℕ → Type 0 = λ e. HasWords b e (length (words_of values m)) in
            let G : List ℕ → Type 0 = λ ws. HasWords b (entry at m) (length ws) in
            subst F (sym (entry-other at k r m writable.first n)) (subst G (sym (others m n)) (st'.many m h));
        time = st'.time;
        answer = st'.answer;
      }

-- ---- an update

pub updated-value : (rows : List Row) (values : List (List ℕ)) (u : Update) → u.word ≡ 0 → length (words_of values u.signal) ≡ 1 →
    value_of (with_update rows values u) u.signal ≡ placed (signal_form rows u.signal).width (value_of values u.signal) u.low u.width u.value
updated-value rows values u zeroth one =
    let words = words_of values u.signal in
    let new = placed (signal_form rows u.signal).width (slice_index words u.word) u.low u.width u.value in
    ap (λ ws. slice_index ws 0) (words_set values u.signal (slice_set words u.word new) (in-values values u.signal one))
    ∙ ap (λ i. slice_index (slice_set words i (placed (signal_form rows u.signal).width (slice_index words i) u.low u.width u.value)) 0) zeroth
    ∙ get_or-set_same words 0 _ 0 (omega arith)

taken-or-not : {A : Type 0} (P : A → Type 0) (c b : Bool) (x y : A) → c ≡ b → (c ≡ true → P x) → (c ≡ false → P y) → P (if c then x else y)
taken-or-not P true b x y e h k = h refl
taken-or-not P false b x y e h k = k refl

-- an entry that holds what is written makes the update
pub assigns-with : (names : Names) (n k w : ℕ) (low : Low) (part off r : ℕ) (at : Env) (old new : ListData) → IsWritable names old at k w → Gives Nothing n old new r w (λ b. written_in b old w (entry at k) low part off) →
    Assigns names n k low part off at (with_entry at k r) old new
assigns-with names n k w low part off r at old new writable gives =
    let g = longer-grows Nothing n old new gives.longer in
    let slot : IsSlot new r w = record { there = gives.there; width = gives.width } in
    record {
      longer = gives.longer;
      fits = fits-with names old new at k w r g writable slot;
      keeps = keeps-with names old new at k w r g writable slot;
      does = λ s b t sound st.
          let o = held b old off in
          let u = update_in b old k low part in
          let one = one-long names.rows t.values k writable.one st.fine writable.is_signal in
          let was : held_or b old (entry at k) ≡ value_of t.values k = sym (st.values k writable.is_signal) in
          let is = gives.value s b sound in
          taken-or-not (λ (z : State). Stands names b new (with_entry at k r) (sample z)) (o == 0) (o == 0) (record t { values = with_update names.rows t.values u }) t refl
          (λ e. stands-with names old new at k w r g writable slot b (sample t) (with_update names.rows t.values u) st (updated-fine names.rows t.values u st.fine)
          (updated-value names.rows t.values u refl one ∙ ap (λ z. placed z (value_of t.values k) u.low u.width u.value) writable.width
          ∙ ap (λ z. placed w z u.low u.width u.value) (sym was) ∙ sym (ap (λ c. if c then placed w (held_or b old (entry at k)) u.low u.width u.value else held_or b old (entry at k)) e) ∙ sym is)
          (λ j n. words_other t.values k j _ n))
          (λ e. stands-with names old new at k w r g writable slot b (sample t) t.values st st.fine
          (sym was ∙ sym (ap (λ c. if c then placed w (held_or b old (entry at k)) u.low u.width u.value else held_or b old (entry at k)) e) ∙ sym is) (λ j n. refl));
    }

-- ---- the cells of an assignment

-- a part as wide as the value, from bit 0 on
pub placed-whole : (w x p : ℕ) → p < 2 ^ w → placed w x (pos 0) w p ≡ p
placed-whole w x p h =
    let above = x / 2 ^ (0 + w) in
    let m : min 0 w ≡ 0 = omega arith in
    rw m (rw (mod-one x) (ap (λ z. z % 2 ^ w) (turned above p w) ∙ added p above w ∙ mod-eq_of_lt h))
  where
    turned : (a p w : ℕ) → a * 2 ^ (0 + w) + p * 2 ^ 0 + 0 ≡ p + a * 2 ^ w
    turned a p w = ap (λ n. a * 2 ^ n + p * 2 ^ 0 + 0) (zero-add w) ∙ omega arith

    added : (p a w : ℕ) → (p + a * 2 ^ w) % 2 ^ w ≡ p % 2 ^ w
    added p a w = add-mul-mod_self_right p a (2 ^ w)

pub low-index : (b : BankData) (l : ListData) (index : ℕ) (signed : Bool) (from : LowestBit) →
    slots.lowest_bit (record { signed = signed; taken = from.taken }) from.constant (slot b l index) ≡ v.lowest_bit from (reading signed (width_at l index) (held b l index))
low-index b l index signed from = ap (λ w. v.lowest_bit from (reading signed w (held b l index))) (slot-width b l index)

pub same-placed : (w w' x x' : ℕ) (low low' : ℤ) (n n' p p' : ℕ) → w ≡ w' → x ≡ x' → low ≡ low' → n ≡ n' → p ≡ p' → placed w x low n p ≡ placed w' x' low' n' p'
same-placed w w' x x' low low' n n' p p' ew ex el en ep =
    ap (λ z. placed z x low n p) ew ∙ ap (λ z. placed w' z low n p) ex ∙ ap (λ z. placed w' x' z n p) el ∙ ap (λ z. placed w' x' low' z p) en ∙ ap (placed w' x' low' n') ep

-- a part that an index places
pub gives-by : (before part index : ℕ) (signed : Bool) (from : LowestBit) (z : ℤ) (low : Low) (r : ℕ) (l0 l1 : ListData) → low ≡ By index signed from → z ≡ from.constant →
    Gives Nothing 1 l0 l1 r (width_at l0 before) (λ b. placed (width_at l0 before) (held b l0 before) (slots.lowest_bit (record { signed = signed; taken = from.taken }) z (slot b l0 index)) (width_at l0 part) (held b l0 part)) →
    Gives Nothing 1 l0 l1 r (width_at l0 before) (λ b. placed (width_at l0 before) (held b l0 before) (low_in b l0 low) (width_at l0 part) (held b l0 part))
gives-by before part index signed from z low r l0 l1 e ez g =
    gives-as Nothing 1 l0 l1 r (width_at l0 before) (width_at l0 before) _ (λ b. placed (width_at l0 before) (held b l0 before) (low_in b l0 low) (width_at l0 part) (held b l0 part)) refl
    (λ s b sound.
    ap (λ y. placed (width_at l0 before) (held b l0 before) y (width_at l0 part) (held b l0 part))
    (ap (λ y. slots.lowest_bit (record { signed = signed; taken = from.taken }) y (slot b l0 index)) ez ∙ low-index b l0 index signed from ∙ sym (ap (low_in b l0) e))) g

pub gives-whole : (wide : ℕ) (e : Option ℕ) (part off before r : ℕ) (l0 l1 l2 : ListData) → IsIn l0 part → IsIn l0 off → Gives Nothing 1 l0 l1 before wide (λ b. held_or b l0 e) →
    Gives Nothing 1 l1 l2 r (width_at l1 before) (λ b. if held b l1 off == 0 then held b l1 part else held b l1 before) →
    Gives Nothing 2 l0 l2 r wide (λ b. if held b l0 off == 0 then held b l0 part else held_or b l0 e)
gives-whole wide e part off before r l0 l1 l2 kp ko gb g =
    let m = longer-grows Nothing 1 l0 l1 gb.longer in
    gives-as Nothing 2 l0 l2 r (width_at l1 before) wide (λ b. if held b l1 off == 0 then held b l1 part else held b l1 before) (λ b. if held b l0 off == 0 then held b l0 part else held_or b l0 e) gb.width
    (λ s b sound.
    ap (λ z. if z == 0 then held b l1 part else held b l1 before) (held-stays b l0 l1 off m ko)
    ∙ ap (λ z. if held b l0 off == 0 then z else held b l1 before) (held-stays b l0 l1 part m kp)
    ∙ ap (λ z. if held b l0 off == 0 then held b l0 part else z) (gb.value s b sound))
    (gives-behind Nothing 1 1 l0 l1 l2 r (width_at l1 before) (λ b. if held b l1 off == 0 then held b l1 part else held b l1 before) met-nothing gb.longer g)

pub gives-partly : (wide : ℕ) (e : Option ℕ) (low : Low) (part off before after r : ℕ) (l0 l1 l2 l3 : ListData) → IsIn l0 part → IsLow l0 low → IsIn l0 off → Gives Nothing 1 l0 l1 before wide (λ b. held_or b l0 e) →
    Gives Nothing 1 l1 l2 after (width_at l1 before) (λ b. placed (width_at l1 before) (held b l1 before) (low_in b l1 low) (width_at l1 part) (held b l1 part)) →
    Gives Nothing 1 l2 l3 r (width_at l2 before) (λ b. if held b l2 off == 0 then held b l2 after else held b l2 before) →
    Gives Nothing 3 l0 l3 r wide (λ b. written_in b l0 wide e low part off)
gives-partly wide e low part off before after r l0 l1 l2 l3 kp kl ko gb ga g =
    let m01 = longer-grows Nothing 1 l0 l1 gb.longer in
    let m12 = longer-grows Nothing 1 l1 l2 ga.longer in
    let l02 = longer-then Nothing 1 1 l0 l1 l2 gb.longer ga.longer in
    let m02 = longer-grows Nothing 2 l0 l2 l02 in
    gives-as Nothing 3 l0 l3 r (width_at l2 before) wide (λ b. if held b l2 off == 0 then held b l2 after else held b l2 before) (λ b. written_in b l0 wide e low part off) (width-stays l1 l2 before m12 gb.there ∙ gb.width)
    (λ s b sound.
    let was : held b l1 before ≡ held_or b l0 e = gb.value s b sound in
    let new : held b l2 after ≡ placed wide (held_or b l0 e) (low_in b l0 low) (width_at l0 part) (held b l0 part) =
    ga.value s b (gb.longer.sound s tt sound)
    ∙ same-placed (width_at l1 before) wide (held b l1 before) (held_or b l0 e) (low_in b l1 low) (low_in b l0 low) (width_at l1 part) (width_at l0 part) (held b l1 part) (held b l0 part)
    gb.width was (low-stays b l0 l1 low m01 kl) (width-stays l0 l1 part m01 kp) (held-stays b l0 l1 part m01 kp) in
    ap (λ z. if z == 0 then held b l2 after else held b l2 before) (held-stays b l0 l2 off m02 ko)
    ∙ ap (λ z. if held b l0 off == 0 then z else held b l2 before) new
    ∙ ap (λ z. if held b l0 off == 0 then placed wide (held_or b l0 e) (low_in b l0 low) (width_at l0 part) (held b l0 part) else z) (held-stays b l1 l2 before m12 gb.there ∙ was))
    (gives-behind Nothing 2 1 l0 l2 l3 r (width_at l2 before) (λ b. if held b l2 off == 0 then held b l2 after else held b l2 before) met-nothing l02 g)

-- a part that is all of the signal
pub gives-assigned : (wide : ℕ) (e : Option ℕ) (low : Low) (part off r : ℕ) (l0 l1 : ListData) → low ≡ Constant (pos 0) → width_at l0 part ≡ wide → IsIn l0 part →
    Gives Nothing 2 l0 l1 r wide (λ b. if held b l0 off == 0 then held b l0 part else held_or b l0 e) → Gives Nothing 3 l0 l1 r wide (λ b. written_in b l0 wide e low part off)
gives-assigned wide e low part off r l0 l1 el ew k g =
    gives-as Nothing 3 l0 l1 r wide wide (λ b. if held b l0 off == 0 then held b l0 part else held_or b l0 e) (λ b. written_in b l0 wide e low part off) refl
    (λ s b sound.
    let x = held_or b l0 e in
    let p = held b l0 part in
    let small : p < 2 ^ wide = subst (λ n. p < 2 ^ n) ew (held-fits s b l0 part sound k) in
    ap (λ z. if held b l0 off == 0 then z else x)
    (sym (placed-whole wide x p small) ∙ same-placed wide wide x x (pos 0) (low_in b l0 low) wide (width_at l0 part) p p refl refl (sym (ap (low_in b l0) el)) (sym ew) refl))
    (gives-weaken Nothing Nothing 2 3 l0 l1 r wide (λ b. if held b l0 off == 0 then held b l0 part else held_or b l0 e) (λ s h. h) (omega arith) g)
