-- One update of a word of a memory that is made pending (IEEE 1364-2005, clause 9.2.2).
use Rattle.std.proofs.Common.{◌≡◌, ◌≢◌, ℕ, zero, suc, ◌-◌, ◌^◌, ◌<◌, Bool, true, false, List, [], ◌∷◌, ◌++◌, length, None, refl, sym, ap, ◌∙◌, arith, subst, get_or, append-nil}
use Rattle.std.specs.Prelude.{◌==◌, not, ◌&&◌, if◌then◌else◌, nat_eq, nat_lt, ℤ, slice_index, slice_set}
use Rattle.std.proofs.lemmas.Bool.{eqb-true, eq-eqb, ltb-true, ltb-false}
use Rattle.std.proofs.lemmas.List.{get_or-set_same, get_or-set_other}
use Rattle.std.proofs.lemmas.List.Elements.{All-append}
use Rattle.vl_base.specs.Selects.{placed}
use Rattle.vl_sites.specs.vl_design.specs.Width.{Names, signal_form}
use Rattle.vl_sites.specs.vl_design.specs.Value.{words_of, value_of}
use Rattle.vl_sites.specs.vl_design.specs.Sound.{IsMemory}
use Rattle.vl_sites.specs.vl_design.specs.State.{Update, with_update, all_updated}
use Rattle.vl_sites.specs.vl_design.specs.Laws.{IsFine}
use Rattle.vl_sites.specs.vl_design.proofs.Kept.{words_set, words_past, words_other}
use Rattle.vl_sites.specs.vl_design.proofs.Ranging.{updates_in_range}
use Rattle.vl_sites.specs.vl_design.proofs.Shaping.{all_shape, shape_on}
use Rattle.cell_form.specs.Cycle.{masked}
use Rattle.cell_form.specs.Data.{ListData, BankData}
use Rattle.cell_form.specs.Sound.{Shape}
use Rattle.cell_emit.specs.Slots.{held, width_at, IsIn, AreSound, Grows, Gives, Nothing}
use Rattle.cell_emit.proofs.Frames.{held-fits, held-stays, width-stays, longer-grows, longer-then, grows-same, grows-then}
use Rattle.cell_emit.specs.Envs.{IsSlot, Always}
use Rattle.cell_emit.specs.Paths.{Low, IsLow, low_in, written_in}
use Rattle.cell_emit.proofs.Staying.{is-slot-stays, memory-other}
use Rattle.cell_emit.proofs.Walking.{low-stays}
use Rattle.cell_emit.proofs.Assigning.{same-placed, is-or-not}
use Rattle.cell_emit.specs.declared.pending.Site.{Site}
use Rattle.cell_emit.specs.Pendings.{PendingSlots, IsSite, ArePending, hits, stored, Pends}
use Rattle.cell_emit.specs.Delays.{IsStorable, stored_in, with_later, Delays}
use Rattle.cell_emit.proofs.Masking.{masked-word}
use Rattle.cell_emit.proofs.Keeping.{pending-stays, stored-stay, settled-stays, updated-more}
use Rattle.vl_base.proofs.Numbers.{equal_true as same-eq, apart_false as other-eq}

-- a site behind others
stored-more : (b : BankData) (l : ListData) (xs : List Site) (x : Site) (m j v : ℕ) →
    stored b l (xs ++ x ∷ []) m j v ≡ (if hits b l x m j then masked (stored b l xs m j v) (held b l x.value) (held b l x.mask) else stored b l xs m j v)
stored-more b l [] x m j v = refl
stored-more b l (y ∷ xs) x m j v = stored-more b l xs x m j (if hits b l y m j then masked v (held b l y.value) (held b l y.mask) else v)

abbrev pub with_site : PendingSlots → Site → PendingSlots
with_site p x = record { update = p.update; mask = p.mask; sites = p.sites ++ x ∷ [] }

-- ---- what an update makes of the words of a memory

in-list : (values : List (List ℕ)) (k j : ℕ) → j < length (words_of values k) → k < length values
in-list values k j h = of (nat_lt k (length values)) refl
  where
    of : (c : Bool) → nat_lt k (length values) ≡ c → k < length values
    of true e = ltb-true k (length values) e
    of false e =
        let past : length (words_of values k) ≡ 0 = ap length (words_past values k (ltb-false k (length values) e)) in
        absurd (omega arith)

module _ (names : Names) (p : PendingSlots) (m w : ℕ) (x : Site) (l0 l3 : ListData) (g : Grows l0 l3) (can : IsStorable names l0 p m w) (is : x.memory ≡ m) (site : IsSite names l3 x) where
  pub pending-site : ArePending names l3 (with_site p x)
  pending-site =
      let q = pending-stays names l0 l3 p g can.pending in
      record { many = q.many; update = q.update; mask = q.mask; sites = All-append (IsSite names l3) p.sites (x ∷ []) q.sites only }
    where
      only : (i : ℕ) (d : Site) → i < 1 → IsSite names l3 (get_or (x ∷ []) i d)
      only zero d h = site
      only (suc i) d h = absurd (omega arith)

  -- the site isn't enabled
  pub pends-not : (b : BankData) (later : List Update) → Pends names b l0 p later → held b l3 x.enable ≡ 0 → Pends names b l3 (with_site p x) later
  pends-not b later pends none = record {
    values = λ base k fine i. pends.values base k fine i ∙ sym (settled-stays names b l0 l3 p k (value_of base k) g can.pending i);
    words = λ base n j fine i h.
        let v = slice_index (words_of base n) j in
        pends.words base n j fine i h ∙ sym (stored-stay names b l0 l3 p.sites n j v g can.pending.sites)
        ∙ sym (stored-more b l3 p.sites x n j v ∙ ap (λ c. if c then masked (stored b l3 p.sites n j v) (held b l3 x.value) (held b l3 x.mask) else stored b l3 p.sites n j v) (misses (x.memory == n) (held b l3 x.word == j) none));
  }
    where
      misses : (c d : Bool) → held b l3 x.enable ≡ 0 → (c && (not (held b l3 x.enable == 0) && d)) ≡ false
      misses true d e = ap (λ z. not (z == 0) && d) e
      misses false d e = refl

  -- the update of the word that the site names
  abbrev pub update_of : BankData → ℤ → ℕ → ℕ → Update
  update_of b low width value = record { signal = m; word = held b l3 x.word; low = low; width = width; value = value }

  fine-behind : (base : List (List ℕ)) (us : List Update) → IsFine names.rows base → IsFine names.rows (all_updated names.rows base us)
  fine-behind base us f = record { range = updates_in_range names.rows us base f.range; shape = shape_on (all_shape names.rows us base) f.shape }

  hits-here : (b : BankData) (n j : ℕ) → x.memory ≡ n → (held b l3 x.enable == 0) ≡ false → held b l3 x.word ≡ j → hits b l3 x n j ≡ true
  hits-here b n j em ee ew =
      ap (λ c. c && (not (held b l3 x.enable == 0) && (held b l3 x.word == j))) (same-eq x.memory n em) ∙ ap (λ c. not c && (held b l3 x.word == j)) ee ∙ same-eq (held b l3 x.word) j ew

  hits-elsewhere : (b : BankData) (n j : ℕ) → x.memory ≢ n → hits b l3 x n j ≡ false
  hits-elsewhere b n j em = ap (λ c. c && (not (held b l3 x.enable == 0) && (held b l3 x.word == j))) (other-eq x.memory n em)

  hits-other : (b : BankData) (n j : ℕ) → held b l3 x.word ≢ j → hits b l3 x n j ≡ false
  hits-other b n j ew = ap (λ c. (x.memory == n) && (not (held b l3 x.enable == 0) && c)) (other-eq (held b l3 x.word) j ew) ∙ none (x.memory == n) (not (held b l3 x.enable == 0))
    where
      none : (c d : Bool) → (c && (d && false)) ≡ false
      none true true = refl
      none true false = refl
      none false d = refl

  behind-others : (b : BankData) (n j v : ℕ) (c : Bool) → hits b l3 x n j ≡ c →
      (if c then masked (stored b l3 p.sites n j v) (held b l3 x.value) (held b l3 x.mask) else stored b l3 p.sites n j v) ≡ stored b l3 (p.sites ++ x ∷ []) n j v
  behind-others b n j v c e =
      sym (stored-more b l3 p.sites x n j v ∙ ap (λ d. if d then masked (stored b l3 p.sites n j v) (held b l3 x.value) (held b l3 x.mask) else stored b l3 p.sites n j v) e)

  -- the words of the memory itself
  words-here : (b : BankData) (later : List Update) (low : ℤ) (width value : ℕ) → value < 2 ^ width → Pends names b l0 p later → (held b l3 x.enable == 0) ≡ false →
      held b l3 x.value ≡ placed w 0 low width value → held b l3 x.mask ≡ placed w 0 low width (2 ^ width - 1) → (base : List (List ℕ)) (j : ℕ) → IsFine names.rows base → j < length (words_of base m) →
      slice_index (words_of (with_update names.rows (all_updated names.rows base later) (update_of b low width value)) m) j ≡ stored b l3 (p.sites ++ x ∷ []) m j (slice_index (words_of base m) j)
  words-here b later low width value small pends enabled ev em base j fine h =
      let before = all_updated names.rows base later in
      let W = words_of before m in
      let k = held b l3 x.word in
      let long : length W ≡ length (words_of base m) = (all_shape names.rows later base).words m in
      let there : j < length W = omega (arith, long, h) in
      let v = slice_index (words_of base m) j in
      let V = stored b l3 p.sites m j v in
      let was : slice_index W j ≡ V = pends.words base m j fine can.is_memory h ∙ sym (stored-stay names b l0 l3 p.sites m j v g can.pending.sites) in
      let new = placed (signal_form names.rows m).width (slice_index W k) low width value in
      let range : slice_index W j < 2 ^ (signal_form names.rows m).width = (fine-behind base later fine).range m j 0 there in
      let fits : V < 2 ^ w = subst (λ n. V < 2 ^ n) can.width (subst (λ n. n < 2 ^ (signal_form names.rows m).width) was range) in
      ap (λ ws. slice_index ws j) (words_set before m (slice_set W k new) (in-list before m j there))
      ∙ is-or-not (λ z. z ≡ j → slice_index (slice_set W k new) j ≡ stored b l3 (p.sites ++ x ∷ []) m j v) j k
      (λ e.
      ap (λ z. slice_index (slice_set W k new) z) (sym e) ∙ get_or-set_same W k new 0 (omega (arith, there, e))
      ∙ ap (λ z. placed (signal_form names.rows m).width (slice_index W z) low width value) e
      ∙ ap (λ z. placed z (slice_index W j) low width value) can.width ∙ ap (λ z. placed w z low width value) was
      ∙ sym (masked-word w V low width value fits small)
      ∙ sym (ap (λ z. masked V z (held b l3 x.mask)) ev ∙ ap (masked V (placed w 0 low width value)) em)
      ∙ behind-others b m j v true (hits-here b m j is enabled e))
      (λ n e. get_or-set_other W k j new 0 n ∙ was ∙ behind-others b m j v false (hits-other b m j (λ z. n (sym z)))) refl

  pub pends-site : (b : BankData) (later : List Update) (low : ℤ) (width value : ℕ) → value < 2 ^ width → Pends names b l0 p later → (held b l3 x.enable == 0) ≡ false →
      held b l3 x.value ≡ placed w 0 low width value → held b l3 x.mask ≡ placed w 0 low width (2 ^ width - 1) → Pends names b l3 (with_site p x) (later ++ update_of b low width value ∷ [])
  pends-site b later low width value small pends enabled ev em = record {
    values = λ base k fine i.
        let before = all_updated names.rows base later in
        let n = memory-other names k m i can.is_memory in
        ap (λ vs. value_of vs k) (updated-more names.rows base later (update_of b low width value))
        ∙ ap (λ ws. slice_index ws 0) (words_other before m k _ (λ e. n (sym e)))
        ∙ pends.values base k fine i ∙ sym (settled-stays names b l0 l3 p k (value_of base k) g can.pending i);
    words = λ base n j fine i h.
        let before = all_updated names.rows base later in
        let u = update_of b low width value in
        ap (λ vs. slice_index (words_of vs n) j) (updated-more names.rows base later u)
        ∙ is-or-not (λ z. j < length (words_of base z) → IsMemory names z → slice_index (words_of (with_update names.rows before u) z) j ≡ stored b l3 (p.sites ++ x ∷ []) z j (slice_index (words_of base z) j)) n m
        (λ h i. words-here b later low width value small pends enabled ev em base j fine h)
        (λ other h i.
        let v = slice_index (words_of base n) j in
        ap (λ ws. slice_index ws j) (words_other before m n _ other)
        ∙ pends.words base n j fine i h ∙ sym (stored-stay names b l0 l3 p.sites n j v g can.pending.sites)
        ∙ behind-others b n j v false (hits-elsewhere b n j (λ e. other (sym e ∙ is)))) h i;
  }

-- a part that is placed in a word of zeros
word-of : (b : BankData) (s : Shape) (w here part r : ℕ) (low : Low) (z : ℤ) (width value : ℕ) (l1 l2 l3 : ListData) → Gives Nothing 3 l1 l2 r w (λ x. written_in x l1 w None low part here) → Grows l2 l3 → AreSound s l1 →
    held b l1 here ≡ 0 → low_in b l1 low ≡ z → width_at l1 part ≡ width → held b l1 part ≡ value → held b l3 r ≡ placed w 0 z width value
word-of b s w here part r low z width value l1 l2 l3 gives g sound zeroth el ew ep =
    held-stays b l2 l3 r g gives.there ∙ gives.value s b sound
    ∙ ap (λ o. if o == 0 then placed w 0 (low_in b l1 low) (width_at l1 part) (held b l1 part) else 0) zeroth
    ∙ same-placed w w 0 0 (low_in b l1 low) z (width_at l1 part) width (held b l1 part) value refl refl el ew ep

-- an update of a part of a word, whose site gets the part and ones in words of zeros
pub delays-word : (names : Names) (p : PendingSlots) (m w here enable word : ℕ) (low : Low) (part set rv rm : ℕ) (l0 l1 l2 l3 : ListData) → IsStorable names l0 p m w → IsLow l0 low → IsIn l0 part → IsIn l0 here → Always l0 here 0 →
    IsSlot l0 enable 1 → IsSlot l0 word 32 → Gives Nothing 1 l0 l1 set (width_at l0 part) (λ b. 2 ^ width_at l0 part - 1) →
    Gives Nothing 3 l1 l2 rv w (λ b. written_in b l1 w None low part here) → Gives Nothing 3 l2 l3 rm w (λ b. written_in b l2 w None low set here) →
    Delays names 7 (λ b. stored_in b l0 m enable word low part) here p (with_site p (record { memory = m; enable = enable; word = word; value = rv; mask = rm })) l0 l3
delays-word names p m w here enable word low part set rv rm l0 l1 l2 l3 can hl hp hh zeroth ke kw gs gu gm =
    let x : Site = record { memory = m; enable = enable; word = word; value = rv; mask = rm } in
    let g01 = longer-grows Nothing 1 l0 l1 gs.longer in
    let g12 = longer-grows Nothing 3 l1 l2 gu.longer in
    let g23 = longer-grows Nothing 3 l2 l3 gm.longer in
    let g02 = grows-then l0 l1 l2 g01 g12 in
    let g03 = grows-then l0 l2 l3 g02 g23 in
    let slot-v : IsSlot l3 rv w = is-slot-stays l2 l3 rv w g23 (record { there = gu.there; width = gu.width }) in
    let slot-m : IsSlot l3 rm w = record { there = gm.there; width = gm.width } in
    let site : IsSite names l3 x = record {
      memory = can.is_memory;
      enable = is-slot-stays l0 l3 enable 1 g03 ke;
      word = is-slot-stays l0 l3 word 32 g03 kw;
      value = record { there = slot-v.there; width = slot-v.width ∙ sym can.width };
      mask = record { there = slot-m.there; width = slot-m.width ∙ sym can.width };
    } in
    record {
      longer = longer-then Nothing 4 3 l0 l2 l3 (longer-then Nothing 1 3 l0 l1 l2 gs.longer gu.longer) gm.longer;
      pending = pending-site names p m w x l0 l3 g03 can refl site;
      many = refl;
      later = λ s b later sound pends.
          let z = low_in b l0 low in
          let width = width_at l0 part in
          let value = held b l0 part in
          let sound1 = gs.longer.sound s tt sound in
          let sound2 = gu.longer.sound s tt sound1 in
          let is_v = word-of b s w here part rv low z width value l1 l2 l3 gu g23 sound1 (held-stays b l0 l1 here g01 hh ∙ zeroth s b sound) (low-stays b l0 l1 low g01 hl) (width-stays l0 l1 part g01 hp) (held-stays b l0 l1 part g01 hp) in
          let is_m = word-of b s w here set rm low z width (2 ^ width - 1) l2 l3 l3 gm (grows-same l3) sound2 (held-stays b l0 l2 here g02 hh ∙ zeroth s b sound) (low-stays b l0 l2 low g02 hl) (width-stays l1 l2 set g12 gs.there ∙ gs.width) (held-stays b l1 l2 set g12 gs.there ∙ gs.value s b sound) in
          let e3 = held-stays b l0 l3 enable g03 ke.there in
          let w3 = held-stays b l0 l3 word g03 kw.there in
          subst (λ o. Pends names b l3 (with_site p x) (with_later o later (stored_in b l0 m enable word low part))) (sym (zeroth s b sound))
          (enabled-or-not (held b l0 enable) (held b l0 enable == 0) (λ c. Pends names b l3 (with_site p x) (later ++ (if c then [] else record { signal = m; word = held b l0 word; low = z; width = width; value = value } ∷ []))) refl
          (λ e. subst (Pends names b l3 (with_site p x)) (sym (append-nil later)) (pends-not names p m w x l0 l3 g03 can refl site b later pends (e3 ∙ e)))
          (λ e.
          subst (λ k. Pends names b l3 (with_site p x) (later ++ record { signal = m; word = k; low = z; width = width; value = value } ∷ [])) w3
          (pends-site names p m w x l0 l3 g03 can refl site b later z width value (held-fits s b l0 part sound hp) pends (ap (λ n. n == 0) e3 ∙ e) is_v is_m)));
    }
  where
    enabled-or-not : (n : ℕ) (c : Bool) (P : Bool → Type 0) → (n == 0) ≡ c → (n ≡ 0 → P true) → ((n == 0) ≡ false → P false) → P c
    enabled-or-not n true P e h k = h (eqb-true n 0 e)
    enabled-or-not n false P e h k = k e
