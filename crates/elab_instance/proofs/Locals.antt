-- The variables of a function among a module's names.
use Rattle.std.proofs.Common.{◌≡◌, ℕ, suc, ◌+◌, ◌<◌, Bool, true, false, List, [], ◌∷◌, ◌++◌, length, map, take, drop, get_or, Option, Some, refl, sym, ap, ◌∙◌, drop-cons, ◌≤◌, arith}
use Rattle.std.specs.Prelude.{if◌then◌else◌}
use Rattle.std.specs.Borrow.{Bor}
use Rattle.std.proofs.lemmas.List.{drop_all, map_push, take_all}
use Rattle.elab_plain.specs.vl_design.specs.declared.design.Signal.{Signal}
use Rattle.elab_instance.proofs.Turns.{seen-more}
use Rattle.std.specs.Map.{lookup}
use Rattle.std.specs.Prelude.{option_map}
use Rattle.std.specs.Str.{bytes_eq}
use Rattle.indexmap.specs.IndexMap.{IndexMap}
use Rattle.elab_plain.specs.vl_flat.specs.declared.binding.Binding.{Binding}
use Rattle.elab_plain.specs.vl_flat.specs.declared.binding.Binding.TheVariants as b
use Rattle.elab_plain.specs.vl_flat.specs.Items as x
use Rattle.elab_plain.specs.vl_flat.specs.Scopes.{Env, none, bind}
use Rattle.elab_plain.specs.vl_flat.specs.Functions as f
use Rattle.elab_constant.specs.declared.scope.Known.{Known}
use Rattle.elab_constant.specs.Seen.{binding_of, look, first_of}
use Rattle.elab_instance.specs.declared.variables.Variable.{Variable}
use Rattle.elab_instance.specs.Tables.{inside}
use Rattle.elab_kinds.specs.Facts.{BodyFacts, body_facts, body_facts_of}
use Rattle.elab_instance.specs.declared.variables.Frame.{Frame}
use Rattle.elab_instance.specs.Variables.{IsFrame, seen_variable, with_local, with_own}

-- a table with nothing in it
pub look-empty : {S : Type 0} (m : IndexMap (Bor (List ℕ)) Known S) → m.entries ≡ [] → look m ≡ none
look-empty m e = λ i t. (ap (λ es. option_map binding_of (lookup (λ k. bytes_eq t k.now) es)) e) i

first : (c : Bool) (w : Binding) (o p : Option Binding) → first_of (if c then Some w else o) p ≡ (if c then Some w else first_of o p)
first true w o p = refl
first false w o p = refl

-- a name that is bound within a function
pub inside-bind : (env locals : Env) (name : List ℕ) (w : Binding) → (inside env (bind locals name w)).names ≡ bind (inside env locals).names name w
inside-bind env locals name w = λ i t. (first (bytes_eq name t) w (locals t) (env t)) i

-- with a function's own names a module's are what the definitions say
pub own-same : (env : Env) (a : x.Function) (n : ℕ) (now : Env) (ls : List x.Local) → (inside env (with_own env (body_facts a.body) n now ls)).names ≡ f.with_locals env (inside env now).names a n ls
own-same env a n now [] = refl
own-same env a n now (l ∷ ls) =
    own-same env a (n + 1) (with_local env (body_facts a.body) n now l) ls
    ∙ ap (λ z. f.with_locals env z a (n + 1) ls) (inside-bind env now l.name.name (b.Signal n (f.local_shape env a l)))

pub frame-scope : (env locals : Env) (behind : ℕ) (frame : Frame) (a : x.Function) → IsFrame frame a
    → locals ≡ with_own env (body_facts_of frame.roles) behind none (map seen_variable frame.variables.items) → inside env locals ≡ f.function_scope behind env a
frame-scope env locals behind frame a k h =
    ap (inside env) (h
    ∙ ap (λ z. with_own env z behind none (map seen_variable frame.variables.items)) k.roles
    ∙ ap (with_own env (body_facts a.body) behind none) k.variables)
    ∙ ap (λ (z : Env). record { names = z; calls = env }) (own-same env a behind none a.locals)

-- one more variable
pub locals-turn : (env now next : Env) (told : List ℕ → BodyFacts) (n m : ℕ) (all : Env) (vs : List Variable) (i : ℕ) (v : Variable) → i < length vs → v ≡ get_or vs i v
    → next ≡ with_local env told n now (seen_variable v) → m ≡ n + 1
    → with_own env told n now (map seen_variable (drop i vs)) ≡ all
    → with_own env told m next (map seen_variable (drop (i + 1) vs)) ≡ all
locals-turn env now next told n m all vs i v l e h k before =
    ap (λ j. with_own env told m next (map seen_variable (drop j vs))) (let p : i + 1 ≡ suc i = omega arith in p)
    ∙ ap (λ z. with_own env told m z (map seen_variable (drop (suc i) vs))) h
    ∙ ap (λ z. with_own env told z (with_local env told n now (seen_variable v)) (map seen_variable (drop (suc i) vs))) k
    ∙ ap (λ z. with_own env told n now (map seen_variable z)) (sym (drop-cons vs i v l ∙ ap (λ z. z ∷ drop (suc i) vs) (sym e)))
    ∙ before

-- all of them
pub locals-all : (env now : Env) (told : List ℕ → BodyFacts) (n : ℕ) (all : Env) (vs : List Variable) (i : ℕ) → length vs ≤ i
    → with_own env told n now (map seen_variable (drop i vs)) ≡ all → now ≡ all
locals-all env now told n all vs i l h = sym (ap (λ z. with_own env told n now (map seen_variable z)) (drop_all i vs l)) ∙ h

-- one more signal of a variable
pub signals-turn : (g : x.Local → Signal) (before after : List Signal) (vs : List Variable) (i : ℕ) (v : Variable) (s : Signal) → i < length vs → v ≡ get_or vs i v
    → after ≡ before ++ s ∷ [] → s ≡ g (seen_variable v) → before ≡ map g (map seen_variable (take i vs)) → after ≡ map g (map seen_variable (take (i + 1) vs))
signals-turn g before after vs i v s l e h k b =
    h ∙ ap (λ z. z ++ s ∷ []) b ∙ ap (λ z. map g (map seen_variable (take i vs)) ++ z ∷ []) k
    ∙ sym (ap (map g) (seen-more seen_variable vs i v l e) ∙ map_push g (map seen_variable (take i vs)) (seen_variable v))

pub signals-all : (g : x.Local → Signal) (all : List Signal) (vs : List Variable) (i : ℕ) → length vs ≤ i
    → all ≡ map g (map seen_variable (take i vs)) → all ≡ map g (map seen_variable vs)
signals-all g all vs i l h = h ∙ ap (λ z. map g (map seen_variable z)) (take_all i vs l)
