-- A name is a constant where it has no selects and is a parameter's.
use Rattle.std.proofs.Common.{◌≡◌, refl, ap, ◌∙◌, ℕ, List, [], ◌∷◌, length, ◌≤◌, false, arith}
use Rattle.std.specs.declared.alloc.Global.{Global}
use Rattle.std.specs.declared.vec.Vec.{Vec}
use Rattle.std.proofs.lemmas.Grind.{common_steps}
use Rattle.vl_base.specs.declared.place.Place.{Place}
use Rattle.elab_plain.specs.vl_flat.specs.Surface as x
use Rattle.elab_plain.specs.vl_flat.specs.Scopes.{Env}
use Rattle.elab_plain.specs.vl_flat.specs.Expressions.{is_constant, is_parameter}
use Rattle.elab_plain.specs.declared.surface.Ex as e
use Rattle.elab_plain.specs.declared.surface.Select as s
use Rattle.elab_plain.specs.Seen.{seen, selects_before}
use Rattle.elab_plain.proofs.Walks.{row_selects-hidden}

none : (env : Env) (q : Place) (t : List ℕ) (ss : List s.Select) → length ss ≡ 0 → is_constant env (x.Named q t (selects_before ss x.NoSelects)) ≡ is_parameter (env t)
none env q t [] h = refl
none env q t (y ∷ ss) h = absurd (omega arith)

some : (env : Env) (q : Place) (t : List ℕ) (ss : List s.Select) → 1 ≤ length ss → is_constant env (x.Named q t (selects_before ss x.NoSelects)) ≡ false
some env q t [] h = absurd (omega arith)
some env q t (s.Index p i ∷ ss) h = refl
some env q t (s.Range p mark l r ∷ ss) h = refl

-- a name without selects, and with some
pub named-alone : (env : Env) (a : e.Ex) (q : Place) (t : List ℕ) (v : Vec s.Select Global) → a ≡ e.Named q t v → length v.items ≡ 0 → is_constant env (seen a) ≡ is_parameter (env t)
named-alone env a q t v is h = ap (λ z. is_constant env (seen z)) is ∙ (ap (λ ss. is_constant env (x.Named q t ss)) (row_selects-hidden v) ∙ none env q t v.items h)

pub named-selected : (env : Env) (a : e.Ex) (q : Place) (t : List ℕ) (v : Vec s.Select Global) → a ≡ e.Named q t v → 1 ≤ length v.items → is_constant env (seen a) ≡ false
named-selected env a q t v is h = ap (λ z. is_constant env (seen z)) is ∙ (ap (λ ss. is_constant env (x.Named q t ss)) (row_selects-hidden v) ∙ some env q t v.items h)

pub ruleset constants = (common_steps, named-alone, named-selected)
