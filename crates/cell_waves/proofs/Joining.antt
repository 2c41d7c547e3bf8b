-- Entries of computed signals beside those of others.
use Rattle.std.proofs.Common.{◌≡◌, ℕ, ◌+◌, ◌-◌, ◌<◌, ◌≤◌, Bool, true, false, List, length, get_or, set, map, refl, sym, ap, ◌∙◌, arith, subst, Option, Some, None}
use Rattle.std.specs.Prelude.{nat_lt, slice_get, if◌then◌else◌, option_map}
use Rattle.std.proofs.lemmas.Bool.{ltb-true, ltb-false}
use Rattle.std.proofs.lemmas.List.{length-set, get_or-set_same, get_or-set_other}
use Rattle.std.proofs.lemmas.Option.{slice_get_past, slice_get-map, slice_get-get_or}
use Rattle.ten_form.specs.vl_design.specs.declared.design.SigKind.{SigKind}
use Rattle.ten_form.specs.vl_design.specs.declared.design.SigKind.TheVariants.{Net, Var, Comb, Loop, Mem, Clock}
use Rattle.ten_form.specs.vl_design.specs.declared.design.Signal.{Signal}
use Rattle.ten_form.specs.vl_design.specs.Trees.{row_of}
use Rattle.ten_form.specs.vl_design.specs.Syntax.{Row}
use Rattle.ten_form.specs.vl_design.specs.State.{State, sample}
use Rattle.ten_form.specs.vl_design.specs.Value.{words_of, value_of}
use Rattle.ten_form.specs.vl_design.specs.Width.{Names, signal_form}
use Rattle.ten_form.specs.vl_design.specs.Sound.{IsOf, IsMem, IsSignal, IsMemory}
use Rattle.cell_emit.specs.cell_form.specs.Data.{ListData, BankData}
use Rattle.cell_emit.specs.cell_form.specs.Sound.{Shape}
use Rattle.cell_emit.specs.Slots.{Grows}
use Rattle.cell_emit.specs.Envs.{Env, entry, IsEntry, IsThere, Fits, HasMemories, held_or, word_or, HasWords, Stands}
use Rattle.cell_emit.proofs.Staying.{fits-stays, stands-stays}
use Rattle.ten_form.specs.vl_runs.specs.Computed.{is_computed, is_computed_row, computed_at}
use Rattle.cell_waves.specs.BeginsOfBegin.{Mixes, Joins}
use Rattle.cell_emit.specs.vl_base.proofs.Numbers.{lt_zero as none-below}
pub use Rattle.ten_form.specs.vl_runs.proofs.Shared.{memory-kept}

-- ---- one entry after another

-- the entries of the first n signals are joined
pub record Joining (rows : List Row) (nets others slots : List (Option ℕ)) (n : ℕ) : Type 0 where
  pub many : length slots ≡ length others
  pub done : (k : ℕ) → k < n → get_or slots k None ≡ (if computed_at rows k then get_or nets k None else get_or others k None)
  pub left : (k : ℕ) → n ≤ k → get_or slots k None ≡ get_or others k None

pub joining-none : (rows : List Row) (nets others : List (Option ℕ)) → Joining rows nets others others 0
joining-none rows nets others = record { many = refl; done = λ k h. absurd (omega (arith, h)); left = λ k h. refl }

pub joining-more : (rows : List Row) (nets others slots : List (Option ℕ)) (n : ℕ) (c : Bool) (x : Option ℕ) → n < length others → computed_at rows n ≡ c → x ≡ (if c then get_or nets n None else get_or slots n None) →
    Joining rows nets others slots n → Joining rows nets others (set slots n x) (n + 1)
joining-more rows nets others slots n c x there e is j = record {
  many = length-set slots n x ∙ j.many;
  done = λ k h. by-cases k h (nat_lt k n) refl;
  left = λ k h. get_or-set_other slots n k x None (λ z. absurd (omega (arith, h, z))) ∙ j.left k (omega (arith, h));
}
  where
    Is : ℕ → Type 0
    Is k = get_or (set slots n x) k None ≡ (if computed_at rows k then get_or nets k None else get_or others k None)

    value : x ≡ (if computed_at rows n then get_or nets n None else get_or others n None)
    value = is ∙ ap (λ y. if c then get_or nets n None else y) (j.left n (omega arith)) ∙ sym (ap (λ z. if z then get_or nets n None else get_or others n None) e)

    by-cases : (k : ℕ) → k < n + 1 → (b : Bool) → nat_lt k n ≡ b → Is k
    by-cases k h true lt =
        let below = ltb-true k n lt in
        get_or-set_other slots n k x None (λ z. absurd (omega (arith, below, z))) ∙ j.done k below
    by-cases k h false ge =
        let over = ltb-false k n ge in
        let at : n ≡ k = omega (arith, h, over) in
        let long = j.many in
        subst Is at (get_or-set_same slots n x None (omega (arith, there, long)) ∙ value)

-- the row of a signal
pub computed-kind : (signals : List Signal) (n : ℕ) (x : Signal) → n < length signals → x ≡ get_or signals n x → computed_at (map row_of signals) n ≡ is_computed x.kind
computed-kind signals n x there e =
    ap is_computed_row (slice_get-map row_of signals n ∙ ap (option_map row_of) (slice_get-get_or signals n x there)) ∙ ap (λ (y : Signal). is_computed y.kind) (sym e)

otherwise : (c : Bool) (x : Option ℕ) → c ≡ false → (if c then None else x) ≡ x
otherwise c x e = ap (λ z. if z then None else x) e

-- all entries are joined
pub joining-all : (rows : List Row) (nets at0 at : Env) (n : ℕ) → length rows ≤ n → nets.first ≡ 0 → at0.first ≡ 0 → at.first ≡ at0.first → at.time ≡ at0.time → at.answer ≡ at0.answer → at.here ≡ at0.here → at.away ≡ at0.away →
    Joining rows nets.slots at0.slots at.slots n → Joins rows nets at0 at
joining-all rows nets at0 at n long f0 f1 f t a h w j = record {
  first = f;
  time = t;
  answer = a;
  here = h;
  away = w;
  many = j.many;
  computed = λ k e. entry-first at k (f ∙ f1) ∙ of k true e ∙ sym (entry-first nets k f0);
  kept = λ k e. entry-first at k (f ∙ f1) ∙ of k false e ∙ sym (entry-first at0 k f1);
}
  where
    entry-first : (z : Env) (k : ℕ) → z.first ≡ 0 → entry z k ≡ get_or z.slots k None
    entry-first z k e =
        let F : ℕ → Option ℕ = λ f. if nat_lt k f then None else get_or z.slots (k - f) None in
        let same : k - 0 ≡ k = omega arith in
        ap F e ∙ otherwise (nat_lt k 0) (get_or z.slots (k - 0) None) (none-below k) ∙ ap (λ j. get_or z.slots j None) same

    Is : ℕ → Bool → Type 0
    Is k c = get_or at.slots k None ≡ (if c then get_or nets.slots k None else get_or at0.slots k None)

    by-cases : (k : ℕ) (c : Bool) → computed_at rows k ≡ c → (b : Bool) → nat_lt k n ≡ b → Is k c
    by-cases k c e true lt = j.done k (ltb-true k n lt) ∙ ap (λ z. if z then get_or nets.slots k None else get_or at0.slots k None) e
    by-cases k c e false ge =
        let over = ltb-false k n ge in
        let none : computed_at rows k ≡ false = ap is_computed_row (slice_get_past rows k (omega (arith, over, long))) in
        subst (Is k) (sym none ∙ e) (j.left k over)

    of : (k : ℕ) (c : Bool) → computed_at rows k ≡ c → Is k c
    of k c e = by-cases k c e (nat_lt k n) refl

-- ---- what holds of joined environments

module _ (names : Names) (nets others at : Env) (l0 l : ListData) where
  pub joined-fits : Joins names.rows nets others at → Grows l0 l → Fits names l0 nets → Fits names l others → Fits names l at
  joined-fits j g f h =
      let f2 = fits-stays names l0 l nets g f in
      record {
        many = ap (λ z. z + length at.slots) j.first ∙ ap (λ z. others.first + z) j.many ∙ h.many;
        signals = λ k i. by-cases k i f2 (computed_at names.rows k) refl;
        time = rw j.time h.time;
        answer = rw j.answer h.answer;
        here = rw j.here h.here;
        away = rw j.away h.away;
        is_here = rw j.here h.is_here;
        is_away = rw j.away h.is_away;
      }
    where
      by-cases : (k : ℕ) → IsSignal names k → Fits names l nets → (b : Bool) → computed_at names.rows k ≡ b → IsEntry l (signal_form names.rows k).width (entry at k)
      by-cases k i f2 true e = subst (IsEntry l (signal_form names.rows k).width) (sym (j.computed k e)) (f2.signals k i)
      by-cases k i f2 false e = subst (IsEntry l (signal_form names.rows k).width) (sym (j.kept k e)) (h.signals k i)

  pub joined-memories : (s : Shape) → Joins names.rows nets others at → HasMemories names others s → HasMemories names at s
  joined-memories s j h m i = subst (IsThere s) (sym (j.kept m (memory-kept names m i))) (h m i)

  pub joined-stands : (b : BankData) (t : State) (v w x : List (List ℕ)) → Joins names.rows nets others at → Grows l0 l → Fits names l0 nets →
      Stands names b l0 nets (sample (record t { values = v })) → Stands names b l others (sample (record t { values = w })) → Mixes names v w x → Stands names b l at (sample (record t { values = x }))
  joined-stands b t v w x j g f a c mix =
      let a2 = stands-stays names b l0 l nets (sample (record t { values = v })) g f a in
      record {
        fine = mix.fine;
        values = λ k i. by-cases k i a2 (computed_at names.rows k) refl;
        words = λ m q i. ap (λ ws. get_or ws q 0) (mix.memories m i) ∙ c.words m q i ∙ sym (ap (λ e. word_or b e q) (j.kept m (memory-kept names m i)));
        many = λ m i. subst (λ n. HasWords b (entry at m) n) (sym (ap (λ (ws : List ℕ). length ws) (mix.memories m i))) (subst (λ e. HasWords b e (length (words_of w m))) (sym (j.kept m (memory-kept names m i))) (c.many m i));
        time = rw j.time c.time;
        answer = rw j.answer c.answer;
      }
    where
      by-cases : (k : ℕ) → IsSignal names k → Stands names b l nets (sample (record t { values = v })) → (z : Bool) → computed_at names.rows k ≡ z → value_of x k ≡ held_or b l (entry at k)
      by-cases k i a2 true e = mix.computed k i e ∙ a2.values k i ∙ sym (ap (held_or b l) (j.computed k e))
      by-cases k i a2 false e = mix.kept k i e ∙ c.values k i ∙ sym (ap (held_or b l) (j.kept k e))
