-- In a function's body its locals are variables, and the other names stand for what they do in the module.
use Rattle.std.proofs.Common.{◌≡◌, ℕ, ◌+◌, Bool, true, false, true≢false, if◌then◌else◌, List, [], ◌∷◌, drop, Option, Some, None, refl, sym, ap, ◌∙◌, subst}
use Rattle.std.specs.Prelude.{◌&&◌, ◌||◌, not}
use Rattle.std.specs.List.{list_any}
use Rattle.std.specs.Str.{bytes_eq}
use Rattle.std.proofs.lemmas.Slice.Eq.{bytes_eq-Decides}
use Rattle.vl_names.specs.vl_scope.specs.declared.kind.Class.{Class}
use Rattle.vl_names.specs.vl_scope.specs.declared.kind.Class.TheVariants as c
use Rattle.vl_flat.specs.vl_design.specs.declared.design.SigKind.TheVariants.{Var, Loop}
use Rattle.vl_flat.specs.vl_design.specs.Sound.{HasValue}
use Rattle.vl_flat.specs.declared.binding.Binding.{Binding}
use Rattle.vl_flat.specs.declared.binding.Binding.TheVariants as b
use Rattle.vl_flat.specs.Scopes.{Env, bind, plainly}
use Rattle.vl_flat.specs.Items as x
use Rattle.vl_flat.specs.Uses.{controls, strays}
use Rattle.vl_flat.specs.Functions.{local_kind, local_shape, with_locals, function_scope}
use Rattle.vl_sound.specs.Used.{Classes, declares, within}
use Rattle.vl_sound.specs.Agreeing.{StandsAs, Agrees}
use Rattle.vl_flat.specs.vl_base.proofs.Lists.{bytes_eq_comm as text-turned}

local-value : (a : x.Function) (l : x.Local) → HasValue (local_kind a l)
local-value a l = by (l.is_free && (controls l.name.name a.body && not (strays l.name.name a.body)))
  where
    by : (q : Bool) → HasValue (if q then Loop else Var)
    by true = tt
    by false = tt

module _ (outer : Env) (a : x.Function) where
  -- a name that is bound, and no local of these, is so still
  locals-after : (ls : List x.Local) (env : Env) (n : ℕ) (t : List ℕ) → declares ls t ≡ false → with_locals outer env a n ls t ≡ env t
  locals-after [] env n t h = refl
  locals-after (l ∷ ls) env n t h =
      by (bytes_eq t l.name.name) (locals-after ls (bind env l.name.name (b.Signal n (local_shape outer a l))) (n + 1) t) refl h
    where
      by : (q : Bool) → (declares ls t ≡ false → with_locals outer env a n (l ∷ ls) t ≡ bind env l.name.name (b.Signal n (local_shape outer a l)) t)
          → bytes_eq t l.name.name ≡ q → (q || declares ls t) ≡ false → with_locals outer env a n (l ∷ ls) t ≡ env t
      by true rest e h = absurd (true≢false h)
      by false rest e h =
          rest h
          ∙ ap (λ (q : Bool). if q then Some (b.Signal n (local_shape outer a l)) else env t) (text-turned l.name.name t ∙ e)

  -- the last of its name
  locals-stand : (ls : List x.Local) (env : Env) (n : ℕ) (t : List ℕ) → declares ls t ≡ true → StandsAs c.Variable (with_locals outer env a n ls t)
  locals-stand [] env n t h = absurd (true≢false (sym h))
  locals-stand (l ∷ ls) env n t h =
      by (bytes_eq t l.name.name) (declares ls t) (locals-stand ls (bind env l.name.name (b.Signal n (local_shape outer a l))) (n + 1) t) refl refl h
    where
      more : Env
      more = bind env l.name.name (b.Signal n (local_shape outer a l))

      by : (q r : Bool) → (declares ls t ≡ true → StandsAs c.Variable (with_locals outer more a (n + 1) ls t)) → bytes_eq t l.name.name ≡ q → declares ls t ≡ r → (q || r) ≡ true → StandsAs c.Variable (with_locals outer more a (n + 1) ls t)
      by q true rest e k h = rest k
      by true false rest e k h =
          subst (StandsAs c.Variable)
          (sym (locals-after ls more (n + 1) t k ∙ ap (λ (q : Bool). if q then Some (b.Signal n (local_shape outer a l)) else env t) (text-turned l.name.name t ∙ e)))
          (local-value a l)
      by false false rest e k h = absurd (true≢false (sym h))

some-class : (y z : Class) → ◌≡◌ {A = Option Class} (Some y) (Some z) → y ≡ z
some-class y z q = cc

pub body-agrees : (k : Classes) (env : Env) (a : x.Function) (behind : ℕ) → Agrees k (plainly env) → Agrees (within k a) (function_scope behind env a)
body-agrees k env a behind h = record {
  read = λ t class q. read t class (declares a.locals t) refl q;
  called = λ t n q. called t n (declares (drop 1 a.locals) t) q;
}
  where
    read : (t : List ℕ) (class : Class) (r : Bool) → declares a.locals t ≡ r → (if r then Some c.Variable else k.read t) ≡ Some class → StandsAs class (with_locals env env a behind a.locals t)
    read t class true e q = subst (λ z. StandsAs z (with_locals env env a behind a.locals t)) (some-class c.Variable class q) (locals-stand env a a.locals env behind t e)
    read t class false e q = subst (StandsAs class) (sym (locals-after env a a.locals env behind t e)) (h.read t class q)

    called : (t : List ℕ) (n : ℕ) (r : Bool) → (if r then Some c.Variable else k.called t) ≡ Some (c.Function n) → StandsAs (c.Function n) (env t)
    called t n true q = absurd (differ (some-class c.Variable (c.Function n) q))
      where
        differ : c.Variable ≡ c.Function n → ⊥
        differ e = cc
    called t n false q = h.called t n q
