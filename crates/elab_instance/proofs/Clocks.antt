-- A name is a clock name where it has no selects and stands for a clock.
use Rattle.std.proofs.Common.{◌≡◌, refl, ap, ◌∙◌, ℕ, List, [], ◌∷◌, length, ◌≤◌, false, arith}
use Rattle.std.specs.declared.alloc.Global.{Global}
use Rattle.std.specs.declared.vec.Vec.{Vec}
use Rattle.std.proofs.lemmas.Grind.{common_steps}
use Rattle.elab_plain.specs.vl_base.specs.declared.place.Place.{Place}
use Rattle.elab_plain.specs.vl_flat.specs.Surface as x
use Rattle.elab_plain.specs.vl_flat.specs.Scopes.{Env}
use Rattle.elab_plain.specs.vl_flat.specs.Connections.{is_clock_name, is_clock_binding}
use Rattle.elab_plain.specs.declared.surface.Ex as e
use Rattle.elab_plain.specs.declared.surface.Select as s
use Rattle.elab_plain.specs.Seen.{seen, selects_before}
use Rattle.elab_plain.proofs.Walks.{row_selects-hidden}

none : (env : Env) (q : Place) (t : List ℕ) (ss : List s.Select) → length ss ≡ 0 → is_clock_name env (x.Named q t (selects_before ss x.NoSelects)) ≡ is_clock_binding (env t)
none env q t [] h = refl
none env q t (y ∷ ss) h = absurd (omega arith)

some : (env : Env) (q : Place) (t : List ℕ) (ss : List s.Select) → 1 ≤ length ss → is_clock_name env (x.Named q t (selects_before ss x.NoSelects)) ≡ false
some env q t [] h = absurd (omega arith)
some env q t (s.Index p i ∷ ss) h = refl
some env q t (s.Range p mark l r ∷ ss) h = refl

-- a name without selects, and with some
pub clock-alone : (env : Env) (a : e.Ex) (q : Place) (t : List ℕ) (v : Vec s.Select Global) → a ≡ e.Named q t v → length v.items ≡ 0 → is_clock_name env (seen a) ≡ is_clock_binding (env t)
clock-alone env a q t v is h = ap (λ z. is_clock_name env (seen z)) is ∙ (ap (λ ss. is_clock_name env (x.Named q t ss)) (row_selects-hidden v) ∙ none env q t v.items h)

pub clock-selected : (env : Env) (a : e.Ex) (q : Place) (t : List ℕ) (v : Vec s.Select Global) → a ≡ e.Named q t v → 1 ≤ length v.items → is_clock_name env (seen a) ≡ false
clock-selected env a q t v is h = ap (λ z. is_clock_name env (seen z)) is ∙ (ap (λ ss. is_clock_name env (x.Named q t ss)) (row_selects-hidden v) ∙ some env q t v.items h)

pub ruleset clocks = (common_steps, clock-alone, clock-selected)
