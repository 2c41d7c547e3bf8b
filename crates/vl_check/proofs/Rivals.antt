-- Who may not write what one of those before writes, by three marks.
use Rattle.std.proofs.Common.{◌≡◌, refl, sym, ap, ◌∙◌, ℕ, Bool, true, false, List, [], ◌∷◌, arith}
use Rattle.std.specs.Prelude.{◌||◌, ◌&&◌}
use Rattle.std.specs.List.{list_any}
use Rattle.std.proofs.lemmas.Grind.{common_steps}
use Rattle.vl_design.specs.Placed.{Process}
use Rattle.vl_check.specs.Writers.{writes, is_always, is_combinational, excludes, is_second}

module _ (k : ℕ) where
  -- what the marks say: of those before, and of whether the process is `always` and combinational
  abbrev pub told : Bool → Bool → List Process → Bool
  told x y before = (y && list_any (writes k) before) || ((x && list_any (λ b. is_always b.kind && writes k b) before) || list_any (λ b. is_combinational b.kind && writes k b) before)

  step : (p q w a b c x y : Bool) → ((((p && x) || (q || y)) && w) || ((y && a) || ((x && b) || c))) ≡ ((y && (w || a)) || ((x && ((p && w) || b)) || ((q && w) || c)))
  step p q w a b c x y = grind (arith, common_steps)

  pub second-told : (a : Process) (before : List Process) → told (is_always a.kind) (is_combinational a.kind) before ≡ is_second before a k
  second-told a [] = none (is_always a.kind) (is_combinational a.kind)
    where
      none : (x y : Bool) → ((y && false) || ((x && false) || false)) ≡ false
      none true true = refl
      none true false = refl
      none false true = refl
      none false false = refl
  second-told a (b ∷ before) =
      sym (step (is_always b.kind) (is_combinational b.kind) (writes k b) (list_any (writes k) before) (list_any (λ b. is_always b.kind && writes k b) before) (list_any (λ b. is_combinational b.kind && writes k b) before) (is_always a.kind) (is_combinational a.kind))
      ∙ ap (λ z. (excludes b.kind a.kind && writes k b) || z) (second-told a before)
