-- Where a run of a table begins.
use Rattle.std.proofs.Common.{◌≡◌, ℕ, zero, suc, Bool, true, false, List, [], ◌∷◌, drop, take, refl, ap, ◌∙◌}
use Rattle.std.specs.Prelude.{slice_index, replicate, if◌then◌else◌}
use Rattle.vl_sites.specs.vl_design.specs.declared.design.SigKind.{SigKind}
use Rattle.vl_sites.specs.vl_design.specs.declared.design.SigKind.TheVariants.{Net, Var, Comb, Loop, Mem, Clock}
use Rattle.vl_sites.specs.vl_design.specs.Syntax.{Row, Flat}
use Rattle.vl_sites.specs.vl_design.specs.Value.{words_of}
use Rattle.vl_sites.specs.vl_design.specs.Functions.{zeros}
use Rattle.vl_sites.specs.vl_design.specs.Snapshots.{is_kept, kept_values}
use Rattle.sub_runs.specs.Nets.{is_computed, computed_at, RestIsZero}
use Rattle.sub_runs.proofs.Cleared.{zero_bit}
use Rattle.vl_sites.specs.vl_base.proofs.Lists.{zero_index as none_index}

pub zeros_index : (rows : List Row) (k j : ℕ) → slice_index (words_of (zeros rows) k) j ≡ 0
zeros_index [] k j = refl
zeros_index (r ∷ rs) zero j = none_index r.words j
zeros_index (r ∷ rs) (suc k) j = zeros_index rs k j

pub zeros_rest : (d : Flat) → RestIsZero d (zeros d.rows)
zeros_rest d b c n = zero_bit (zeros d.rows) b (zeros_index d.rows b.0.signal b.1)

-- a computed signal isn't kept
not_kept : (k : SigKind) → is_computed k ≡ true → is_kept k ≡ false
not_kept Net h = refl
not_kept Comb h = refl
not_kept Var h = let z : ⊥ = cc in absurd z
not_kept Mem h = let z : ⊥ = cc in absurd z
not_kept Loop h = let z : ⊥ = cc in absurd z
not_kept Clock h = let z : ⊥ = cc in absurd z

kept_index : (rows : List Row) (words : List ℕ) (k j : ℕ) → computed_at rows k ≡ true → slice_index (words_of (kept_values rows words) k) j ≡ 0
kept_index [] words k j h = refl
kept_index (r ∷ rs) words zero j h = ap (λ b. slice_index (words_of (if b then take r.words words ∷ kept_values rs (drop r.words words) else replicate r.words 0 ∷ kept_values rs words) 0) j) (not_kept r.kind h) ∙ none_index r.words j
kept_index (r ∷ rs) words (suc k) j h = at (is_kept r.kind) (kept_index rs (drop r.words words) k j h) (kept_index rs words k j h)
  where
    at : (b : Bool) → slice_index (words_of (kept_values rs (drop r.words words)) k) j ≡ 0 → slice_index (words_of (kept_values rs words) k) j ≡ 0
        → slice_index (words_of (if b then take r.words words ∷ kept_values rs (drop r.words words) else replicate r.words 0 ∷ kept_values rs words) (suc k)) j ≡ 0
    at true f g = f
    at false f g = g

pub kept_rest : (d : Flat) (words : List ℕ) → RestIsZero d (kept_values d.rows words)
kept_rest d words b c n = zero_bit (kept_values d.rows words) b (kept_index d.rows words b.0.signal b.1 c)
