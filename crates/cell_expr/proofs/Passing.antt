-- Arguments are passed (IEEE 1364-2005, clause 10.4.3).
use Rattle.std.proofs.Common.{◌≡◌, ℕ, zero, suc, ◌+◌, ◌^◌, ◌%◌, ◌<◌, List, [], ◌∷◌, length, sym, ap, ◌∙◌, arith, subst, mod-lt, false}
use Rattle.std.specs.Prelude.{slice_get, slice_index, slice_index_or, slice_set, replicate}
use Rattle.std.proofs.Math.Pow.{pow_pos}
use Rattle.std.proofs.lemmas.List.{length-map}
use Rattle.vl_base.specs.Value.{resized}
use Rattle.vl_design.specs.Functions.{fresh, with_inputs}
use Rattle.vl_design.specs.Sound.{IsOf, HasValue}
use Rattle.vl_design.specs.State.{sample}
use Rattle.vl_design.specs.Value.{Sample}
use Rattle.vl_design.specs.Width.{Names, signal_form}
use Rattle.vl_design.proofs.Kept.{words_set, words_other}
use Rattle.vl_run.proofs.Fresh as run
use Rattle.cell_emit.specs.cell_form.specs.Data.{ListData}
use Rattle.cell_emit.specs.cell_form.specs.Sound.{Shape}
use Rattle.cell_emit.specs.Slots.{held, width_at, Gives, Nothing}
use Rattle.cell_emit.proofs.Frames.{longer-grows, longer-same, longer-then}
use Rattle.cell_emit.specs.Counts.{resizes}
use Rattle.cell_emit.specs.Envs.{Env, IsSlot, Fits, HasMemories, Stands}
use Rattle.cell_emit.specs.Paths.{IsWritable}
use Rattle.cell_emit.proofs.Staying.{stands-stays, sound-behind, keeps-same, keeps-then, longer-plain}
use Rattle.cell_emit.proofs.Assigning.{with_entry, signal-there, fits-with, keeps-with, stands-with}
use Rattle.cell_expr.specs.Compiled.{Holds}
use Rattle.cell_expr.specs.Passes.{Passes}
use Rattle.cell_expr.proofs.Holding.{resizes-most}

module _ (names inside : Names) (at : Env) where
  pub passes-none : (body : Env) (l : ListData) (inputs : List ℕ) (args : Sample → List ℕ) → inputs ≡ [] → Fits inside l body → Passes names inside 0 at body body l l inputs args
  passes-none body l inputs args e fits = rw e (record {
    longer = longer-same (HasMemories names at) l;
    fits = fits;
    keeps = keeps-same inside body;
    stands = λ s b x values sound st start. start;
  })

  pub passes-more : (n m : ℕ) (body0 body1 body2 : Env) (old mid new : ListData) (k : ℕ) (ks inputs : List ℕ) (v : Sample → ℕ) (vs args : Sample → List ℕ) → inputs ≡ k ∷ ks → ((x : Sample) → args x ≡ v x ∷ vs x) → Fits names old at →
      Passes names inside n at body0 body1 old mid (k ∷ []) (λ x. v x ∷ []) → Passes names inside m at body1 body2 mid new ks vs → Passes names inside (n + m) at body0 body2 old new inputs args
  passes-more n m body0 body1 body2 old mid new k ks inputs v vs args i same fits a c =
      let H : Shape → Type 0 = HasMemories names at in
      rw i (record {
        longer = longer-then H n m old mid new a.longer c.longer;
        fits = c.fits;
        keeps = keeps-then inside body0 body1 body2 a.keeps c.keeps;
        stands = λ s b x values sound st start.
            let behind = sound-behind names at n s old mid a.longer sound in
            let first = a.stands s b x values sound st start in
            subst (λ z. Stands inside b new body2 (sample (fresh (with_inputs (k ∷ ks) z values)))) (sym (same x))
            (c.stands behind.shape b x (slice_set values k (v x ∷ [])) behind.sound (stands-stays names b old mid at x (longer-grows H n old mid a.longer) fits st) first);
      })

  pub passes-one : (n k w wide cut a : ℕ) (body : Env) (old mid new : ListData) (f : Sample → ℕ) → IsWritable inside old body k w → Fits names old at → Holds names n at old mid a wide f →
      Gives Nothing (resizes (width_at mid a) w) mid new cut w (λ b. resized false (width_at mid a) w (held b mid a)) →
      Passes names inside (n + 1) at body (with_entry body k cut) old new (k ∷ []) (λ x. f x % 2 ^ w ∷ [])
  passes-one n k w wide cut a body old mid new f writable fits h g =
      let H : Shape → Type 0 = HasMemories names at in
      let few = resizes-most (width_at mid a) w in
      let longer = longer-then H n 1 old mid new h.longer (longer-plain names at (resizes (width_at mid a) w) 1 mid new few g.longer) in
      let grows = longer-grows H (n + 1) old new longer in
      let slot : IsSlot new cut w = record { there = g.there; width = g.width } in
      record {
        longer = longer;
        fits = fits-with inside old new body k w cut grows writable slot;
        keeps = keeps-with inside old new body k w cut grows writable slot;
        stands = λ s b x values sound st start.
            let behind = sound-behind names at n s old mid h.longer sound in
            let v = f x % 2 ^ w in
            let is : held b new cut ≡ v = g.value behind.shape b behind.sound ∙ ap (λ z. z % 2 ^ w) (h.value s b x sound st) in
            let small : v < 2 ^ (signal_form inside.rows k).width = subst (λ z. v < 2 ^ z) (sym writable.width) (mod-lt (f x) (pow_pos w)) in
            let fine = run.inputs-fine inside.rows (k ∷ []) (v ∷ []) values (record { one = writable.one.one }) (λ i d l. at-first i d l) (small, tt) start.fine in
            let many : length values ≡ length inside.rows = start.fine.shape.many ∙ length-map inside.rows (λ r. replicate {A = ℕ} r.words 0) in
            stands-with inside old new body k w cut grows writable slot b (sample (fresh values)) (slice_set values k (v ∷ [])) start fine
            (ap (λ ws. slice_index ws 0) (words_set values k (v ∷ []) (let there = signal-there inside.rows k writable.is_signal in omega (arith, many, there))) ∙ sym is)
            (λ j other. words_other values k j (v ∷ []) other);
      }
    where
      at-first : (i d : ℕ) → i < 1 → IsOf HasValue (slice_get inside.rows (slice_index_or (k ∷ []) i d))
      at-first zero d h = writable.is_signal
      at-first (suc i) d h = absurd (omega arith)
