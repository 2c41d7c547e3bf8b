-- Words of memories.
use Rattle.std.proofs.Common.{◌≡◌, ℕ, ◌+◌, ◌^◌, ◌%◌, ◌<◌, ℤ, Bool, List, [], refl, sym, ap, ◌∙◌, arith, subst, mod-eq_of_lt}
use Rattle.std.specs.Prelude.{◌-ℤ◌, slice_get, slice_index_or, Option, Some, None}
use Rattle.std.proofs.Math.Pow.{pow_pos}
use Rattle.std.proofs.Common.{w32, to_z, of_z, SFits}
use Rattle.std.proofs.lemmas.Int.{to_z-of_z}
use Rattle.vl_design.specs.Rows.{lower_of}
use Rattle.vl_base.specs.Value.{resized, reading}
use Rattle.vl_design.specs.Syntax.{Row}
use Rattle.cell_emit.specs.cell_form.specs.Data.{ListData, BankData}
use Rattle.cell_emit.specs.cell_form.specs.Values.{word_at}
use Rattle.cell_emit.specs.Slots.{held, width_at, Gives, Nothing}
use Rattle.cell_emit.proofs.Frames.{gives-weaken, gives-as}
use Rattle.cell_emit.specs.Counts.{resizes}
use Rattle.cell_emit.specs.Envs.{IsThere}
use Rattle.cell_expr.specs.Words.{word_read, lowest_of, lowest_in}
use Rattle.cell_expr.proofs.Holding.{resized-zero}

pub lowest-is : (rows : List Row) (m : ℕ) (r : Row) → slice_get rows m ≡ Some r → lowest_in rows m ≡ r.lowest
lowest-is rows m r e = ap lowest_of e

pub lowered : (z a b : ℤ) → z ≡ lower_of (to_z w32 (of_z w32 a)) (to_z w32 (of_z w32 b)) → SFits w32 a → SFits w32 b → z ≡ lower_of a b
lowered z a b e h k = rw (to_z-of_z w32 a h, to_z-of_z w32 b k) at e

module _ (old new : ListData) (r w own address : ℕ) (signed by : Bool) (lowest : ℤ) (e : Option ℕ) where
  abbrev read : BankData → ℕ
  read b = resized signed own w (word_read b e (reading by (width_at old address) (held b old address) -ℤ lowest) % 2 ^ own)

  pub no-word : e ≡ None → Gives Nothing 1 old new r w (λ b. 0) → Gives (λ s. IsThere s e) (1 + resizes own w) old new r w read
  no-word none g =
      gives-weaken Nothing (λ s. IsThere s e) 1 (1 + resizes own w) old new r w read (λ s h. tt) (omega arith)
      (gives-as Nothing 1 old new r w w (λ b. 0) read refl (λ s b sound. sym (ap (λ (o : Option ℕ). resized signed own w (word_read b o (reading by (width_at old address) (held b old address) -ℤ lowest) % 2 ^ own)) none
      ∙ ap (resized signed own w) (mod-eq_of_lt (pow_pos own)) ∙ resized-zero signed own w)) g)

  pub some-word : (m : ℕ) (z : ℤ) → e ≡ Some m → z ≡ lowest →
      Gives (λ s. m < s.mems) (1 + resizes own w) old new r w (λ b. resized signed own w (word_at (slice_index_or b.mems m []) (reading by (width_at old address) (held b old address) -ℤ z) % 2 ^ own)) →
      Gives (λ s. IsThere s e) (1 + resizes own w) old new r w read
  some-word m z some low g =
      gives-weaken (λ s. m < s.mems) (λ s. IsThere s e) (1 + resizes own w) (1 + resizes own w) old new r w read (λ s h. subst (IsThere s) some h) (omega arith)
      (gives-as (λ s. m < s.mems) (1 + resizes own w) old new r w w (λ b. resized signed own w (word_at (slice_index_or b.mems m []) (reading by (width_at old address) (held b old address) -ℤ z) % 2 ^ own)) read refl
      (λ s b sound. ap (λ (y : ℤ). resized signed own w (word_at (slice_index_or b.mems m []) (reading by (width_at old address) (held b old address) -ℤ y) % 2 ^ own)) low
      ∙ sym (ap (λ (o : Option ℕ). resized signed own w (word_read b o (reading by (width_at old address) (held b old address) -ℤ lowest) % 2 ^ own)) some)) g)
