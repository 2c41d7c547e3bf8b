-- Nonblocking assignments to words of memories (IEEE 1364-2005, clauses 5.2.2 and 9.2.2).
use Rattle.std.proofs.Common.{◌≡◌, ℕ, ◌+◌, ◌≤◌, Bool, true, false, List, [], ◌∷◌, ◌++◌, length, Option, Some, None, refl, sym, ap, ◌∙◌, arith, subst, nat_lt, append-nil, ◌-◌}
use Rattle.std.specs.Prelude.{◌==◌, if◌then◌else◌, slice_get, slice_index, slice_set}
use Rattle.std.proofs.lemmas.Bool.{ltb-true, ltb-false}
use Rattle.std.proofs.lemmas.List.{set-get_or, set_past}
use Rattle.std.proofs.lemmas.Option.{unwrap_or-slice_get}
use Rattle.vl_base.specs.Value.{truth}
use Rattle.vl_design.specs.Laws.{IsFine}
use Rattle.vl_design.specs.Sound.{IsMemory, IsMem, IsOf}
use Rattle.vl_design.specs.State.{Update, with_update, all_updated}
use Rattle.vl_design.specs.Syntax.{Row}
use Rattle.vl_design.specs.Value.{words_of, value_of}
use Rattle.vl_design.specs.Width.{Names}
use Rattle.vl_design.proofs.Shaping.{all_shape}
use Rattle.cell_emit.specs.cell_form.specs.Data.{ListData, BankData}
use Rattle.cell_emit.specs.Slots.{held, width_at, IsIn, Nothing}
use Rattle.cell_emit.proofs.Frames.{held-stays, width-stays, longer-grows, longer-then}
use Rattle.cell_emit.specs.Envs.{Always}
use Rattle.cell_emit.specs.Paths.{Low, IsLow, low_in, low_of, update_in, Constant, By}
use Rattle.cell_emit.proofs.Walking.{low-stays}
use Rattle.cell_emit.specs.Pendings.{PendingSlots, ArePending, Pends}
use Rattle.cell_emit.specs.Delays.{with_later, IsDelayable, IsStorable, stored_in, Delays, delay_count}
use Rattle.cell_emit.proofs.Following.{delays-as, delays-wider}
use Rattle.cell_emit.proofs.Keeping.{pends-stays, updated-more}
use Rattle.cell_expr.specs.declared.address.Address.{Address}
use Rattle.cell_expr.specs.declared.spot.Spot.{Spot}
use Rattle.cell_expr.specs.Chosen.{word_named, Chooses}
use Rattle.cell_expr.specs.Spots.{IsSpot, update_of, word_in, spot_cells, has_word, has_index}
use Rattle.cell_expr.specs.Words.{row_words, words_in}
use Rattle.cell_expr.proofs.Spotting.{whole-update, of-memory}
use Rattle.cell_expr.proofs.Wording.{many-words}
use Rattle.cell_expr.specs.Counts.{part_count}
use Rattle.vl_design.proofs.Resting.{words_kept as same-words}

-- ---- a word that isn't there

-- a memory has the words of its row
words-long : (rows : List Row) (values : List (List ℕ)) (m : ℕ) → IsFine rows values → IsOf IsMem (slice_get rows m) → length (words_of values m) ≡ words_in rows m
words-long rows values m fine is = go (slice_get rows m) refl is
  where
    go : (o : Option Row) → slice_get rows m ≡ o → IsOf IsMem o → length (words_of values m) ≡ row_words o
    go None e h = absurd h
    go (Some r) e h = fine.shape.words m ∙ many-words rows m r e

-- its update changes nothing
past-same : (rows : List Row) (values : List (List ℕ)) (u : Update) → length (words_of values u.signal) ≤ u.word → with_update rows values u ≡ values
past-same rows values u h = ap (slice_set values u.signal) (set_past (words_of values u.signal) u.word _ h) ∙ same-words values u.signal

past-later : (names : Names) (base : List (List ℕ)) (later : List Update) (u : Update) → IsFine names.rows base → IsMemory names u.signal → words_in names.rows u.signal ≤ u.word →
    all_updated names.rows base (later ++ u ∷ []) ≡ all_updated names.rows base later
past-later names base later u fine is h =
    let rows = names.rows in
    let before = all_updated rows base later in
    let long : length (words_of before u.signal) ≡ words_in rows u.signal = (all_shape rows later base).words u.signal ∙ words-long rows base u.signal fine is in
    updated-more rows base later u ∙ past-same rows before u (omega (arith, long, h))

pends-past : (names : Names) (b : BankData) (l : ListData) (p : PendingSlots) (later : List Update) (u : Update) → IsMemory names u.signal → words_in names.rows u.signal ≤ u.word → Pends names b l p later → Pends names b l p (later ++ u ∷ [])
pends-past names b l p later u is h pends = record {
  values = λ base k fine i. ap (λ v. value_of v k) (past-later names base later u fine is h) ∙ pends.values base k fine i;
  words = λ base m j fine i there. ap (λ v. slice_index (words_of v m) j) (past-later names base later u fine is h) ∙ pends.words base m j fine i there;
}

-- ---- a word on a path

module _ (names : Names) (b : BankData) (l : ListData) (p : PendingSlots) (later : List Update) (m number : ℕ) (u : Update) (is : IsMemory names m) (same : u.signal ≡ m) where
  -- an update that isn't enabled, and one that is
  abbrev Stored : ℕ → ℕ → Type 0
  Stored e w = Pends names b l p (later ++ (if e == 0 then [] else record u { word = w } ∷ []))

  on-path : (o e : ℕ) (c : Bool) → e ≡ (if o == 0 then truth c else 0) → (c ≡ true → number ≡ u.word) → (c ≡ false → words_in names.rows m ≤ u.word) → Stored e number → Pends names b l p (with_later o later (u ∷ []))
  on-path o e c enabled there past stored = of (o == 0) c refl refl
    where
      of : (d x : Bool) → (o == 0) ≡ d → c ≡ x → Pends names b l p (if d then later ++ u ∷ [] else later)
      of true true ed ec =
          let one : e ≡ 1 = enabled ∙ ap (λ z. if z then truth c else 0) ed ∙ ap truth ec in
          subst (λ w. Pends names b l p (later ++ record u { word = w } ∷ [])) (there ec) (subst (λ n. Stored n number) one stored)
      of true false ed ec =
          let none : e ≡ 0 = enabled ∙ ap (λ z. if z then truth c else 0) ed ∙ ap truth ec in
          pends-past names b l p later u (subst (IsMemory names) (sym same) is) (subst (λ k. words_in names.rows k ≤ u.word) (sym same) (past ec))
          (subst (Pends names b l p) (append-nil later) (subst (λ n. Stored n number) none stored))
      of false x ed ec =
          let none : e ≡ 0 = enabled ∙ ap (λ z. if z then truth c else 0) ed in
          subst (Pends names b l p) (append-nil later) (subst (λ n. Stored n number) none stored)

-- the update of a word that is chosen
pub delays-chosen : (names : Names) (m here off enable number part n k : ℕ) (a : Address) (low : Low) (p p' : PendingSlots) (l0 l1 l2 : ListData) → IsMemory names m → ArePending names l0 p → IsIn l0 a.slot → IsLow l0 low → IsIn l0 part → Always l1 here 0 →
    Chooses names.rows n m a off l0 l1 enable number → Delays names k (λ b. stored_in b l1 m enable number low part) here p p' l1 l2 →
    Delays names (n + k) (λ b. record { signal = m; word = word_named names.rows b l0 m a; low = low_in b l0 low; width = width_at l0 part; value = held b l0 part } ∷ []) off p p' l0 l2
delays-chosen names m here off enable number part n k a low p p' l0 l1 l2 is pending ka kl kp zero c d =
    let rows = names.rows in
    let g = longer-grows Nothing n l0 l1 c.longer in
    record {
      longer = longer-then Nothing n k l0 l1 l2 c.longer d.longer;
      pending = d.pending;
      many = d.many;
      later = λ s b later sound pends.
          let sound1 = c.longer.sound s tt sound in
          let word = word_named rows b l0 m a in
          let u : Update = record { signal = m; word = word; low = low_in b l0 low; width = width_at l0 part; value = held b l0 part } in
          let done = d.later s b later sound1 (pends-stays names b l0 l1 p later g pending pends) in
          let taken = subst (λ o. Pends names b l2 p' (with_later o later (stored_in b l1 m enable number low part))) (zero s b sound1) done in
          let with-low = subst (λ z. Pends names b l2 p' (later ++ (if held b l1 enable == 0 then [] else record { signal = m; word = held b l1 number; low = z; width = width_at l1 part; value = held b l1 part } ∷ []))) (low-stays b l0 l1 low g kl) taken in
          let with-width = subst (λ w. Pends names b l2 p' (later ++ (if held b l1 enable == 0 then [] else record { signal = m; word = held b l1 number; low = low_in b l0 low; width = w; value = held b l1 part } ∷ []))) (width-stays l0 l1 part g kp) with-low in
          let with-value = subst (λ v. Pends names b l2 p' (later ++ (if held b l1 enable == 0 then [] else record { signal = m; word = held b l1 number; low = low_in b l0 low; width = width_at l0 part; value = v } ∷ []))) (held-stays b l0 l1 part g kp) with-width in
          on-path names b l2 p' later m (held b l1 number) u is refl (held b l0 off) (held b l1 enable) (nat_lt word (words_in rows m)) (c.enabled s b sound)
          (λ e. c.named s b sound (ltb-true word (words_in rows m) e)) (λ e. ltb-false word (words_in rows m) e) with-value;
    }

-- ---- one spot

pub delays-whole : (names : Names) (x : Spot) (part off : ℕ) (p p' : PendingSlots) (old new : ListData) → x.word ≡ None → Delays names (delay_count (low_of x.low)) (λ b. update_in b old x.signal (low_of x.low) part ∷ []) off p p' old new →
    Delays names (spot_cells true x - 1) (λ b. update_of names.rows b old x part ∷ []) off p p' old new
delays-whole names x part off p p' old new none d =
    let many : delay_count (low_of x.low) ≡ spot_cells true x - 1 = as-many (low_of x.low) ∙ ap (λ o. part_count true (has_word o) (has_index (low_of x.low)) - 1) (sym none) in
    delays-wider names (delay_count (low_of x.low)) (spot_cells true x - 1) (λ b. update_of names.rows b old x part ∷ []) off p p' old new (omega (arith, many))
    (delays-as names (delay_count (low_of x.low)) (λ b. update_in b old x.signal (low_of x.low) part ∷ []) (λ b. update_of names.rows b old x part ∷ []) off p p' old new (λ s b sound. ap (λ u. u ∷ []) (whole-update names.rows b old x part none)) d)
  where
    as-many : (low : Low) → delay_count low ≡ part_count true false (has_index low) - 1
    as-many (Constant z) = refl
    as-many (By index signed from) = refl

pub delays-word : (names : Names) (x : Spot) (a : Address) (part off : ℕ) (p p' : PendingSlots) (old new : ListData) → x.word ≡ Some a →
    Delays names 14 (λ b. record { signal = x.signal; word = word_named names.rows b old x.signal a; low = low_in b old (low_of x.low); width = width_at old part; value = held b old part } ∷ []) off p p' old new →
    Delays names (spot_cells true x - 1) (λ b. update_of names.rows b old x part ∷ []) off p p' old new
delays-word names x a part off p p' old new some d =
    let F : Option Address → Type 0 = λ o.
    Delays names (part_count true (has_word o) (has_index (low_of x.low)) - 1) (λ b. record { signal = x.signal; word = word_in names.rows b old x.signal o; low = low_in b old (low_of x.low); width = width_at old part; value = held b old part } ∷ []) off p p' old new in
    subst F (sym some) d

-- ---- what is delayed of a spot

pub spot-whole : (names : Names) (x : Spot) (part off wide : ℕ) (p p' : PendingSlots) (old new : ListData) → x.word ≡ None → IsDelayable names old p x.signal wide →
    ((n : Names) → IsDelayable n old p x.signal wide → Delays n (delay_count (low_of x.low)) (λ b. update_in b old x.signal (low_of x.low) part ∷ []) off p p' old new) →
    Delays names (spot_cells true x - 1) (λ b. update_of names.rows b old x part ∷ []) off p p' old new
spot-whole names x part off wide p p' old new none can h = delays-whole names x part off p p' old new none (h names can)

pub spot-word : (names : Names) (first : ℕ) (x : Spot) (a : Address) (here part off wide enable number : ℕ) (p p' : PendingSlots) (l0 l1 l2 : ListData) → x.word ≡ Some a → IsSpot names first l0 x → ArePending names l0 p → IsIn l0 part → Always l1 here 0 →
    Chooses names.rows 7 x.signal a off l0 l1 enable number → IsStorable names l1 p x.signal wide →
    ((n : Names) → IsStorable n l1 p x.signal wide → Delays n 7 (λ b. stored_in b l1 x.signal enable number (low_of x.low) part) here p p' l1 l2) →
    Delays names (spot_cells true x - 1) (λ b. update_of names.rows b l0 x part ∷ []) off p p' l0 l2
spot-word names first x a here part off wide enable number p p' l0 l1 l2 some spot pending kp zero c can h =
    let is = of-memory names first l0 x.signal x.word a some spot.is_of in
    delays-word names x a part off p p' l0 l2 some (delays-chosen names x.signal here off enable number part 7 7 a (low_of x.low) p p' l0 l1 l2 is.0 pending is.1 spot.low kp zero c (h names can))
